-- The definitions, computed.
use Rattle.std.proofs.Common.{refl, ◌≡◌, ℕ, List, [], ◌∷◌, ◌++◌, Result, Ok, Err}
use Rattle.std.specs.Prelude.{codes}
use Rattle.std.specs.Str.{is_utf8, chars}
use lib.Utf8.{encode}
use Rattle.flow_text.specs.Utf8.{units_of}
use Rattle.origin_labels.specs.Label.{label_of, with_origin, within, has}
use Rattle.origin_labels.specs.Names.{has_name, place_of}
use Rattle.flow_policy.specs.declared.policy.Channel.{Channel}
use Rattle.flow_policy.specs.declared.fault.PolicyKind.{PolicyKind}
use Rattle.flow_policy.specs.declared.fault.PolicyKind.TheVariants.{Keyword, Words, Name, Unknown, Repeat}
use Rattle.flow_policy.specs.declared.fault.InputKind.{InputKind}
use Rattle.flow_policy.specs.declared.fault.InputKind.TheVariants as kinds
use Rattle.flow_policy.specs.Lines.{without_cr, lines_of_parts, lines_of, all_but_last, whole_lines}
use Rattle.flow_lists.specs.Names.{is_name}
use Rattle.flow_policy.specs.Words.{words_of}
use Rattle.flow_lists.specs.Lists.{names_in}
use Rattle.flow_policy.specs.Lists.{label_in}
use Rattle.flow_policy.specs.Policies.{Tables, BadLine, with_new_origin, with_new_channel, after_origin, after_in, after_out, after_words, after_lines, policy_of, channel_named}
use Rattle.flow_policy.specs.Inputs.{Given, channel_in, text_in, fault_of_line, first_bad, texts_on, inputs_of}
use Rattle.flow_policy.specs.Observed.{sees_channel, sees_line, view_of}

-- a line, its LF and what stands behind it
abbrev ended : List ℕ → List ℕ → List ℕ
ended line rest = line ++ 10 ∷ rest

-- ---- lines

lines_with_cr : lines_of (ended (codes "a" ++ 13 ∷ []) (ended (codes "b") (ended (13 ∷ []) (codes "c" ++ 13 ∷ [])))) ≡ codes "a" ∷ codes "b" ∷ [] ∷ (codes "c" ++ 13 ∷ []) ∷ []
unfolding lines_of lines_of_parts without_cr
lines_with_cr = refl

one_cr_is_dropped : lines_of (ended (codes "a" ++ 13 ∷ 13 ∷ []) []) ≡ (codes "a" ++ 13 ∷ []) ∷ []
unfolding lines_of lines_of_parts without_cr
one_cr_is_dropped = refl

inner_cr_is_kept : lines_of (ended (codes "a" ++ 13 ∷ codes "b") []) ≡ (codes "a" ++ 13 ∷ codes "b") ∷ []
unfolding lines_of lines_of_parts without_cr
inner_cr_is_kept = refl

no_lines : lines_of [] ≡ []
unfolding lines_of lines_of_parts
no_lines = refl

one_empty_line : lines_of (ended [] []) ≡ [] ∷ []
unfolding lines_of lines_of_parts without_cr
one_empty_line = refl

rest_is_no_whole_line : whole_lines (ended (codes "x") (codes "y")) ≡ codes "x" ∷ []
unfolding whole_lines all_but_last
rest_is_no_whole_line = refl

cr_stays_in_a_whole_line : whole_lines (ended (codes "x" ++ 13 ∷ []) []) ≡ (codes "x" ++ 13 ∷ []) ∷ []
unfolding whole_lines all_but_last
cr_stays_in_a_whole_line = refl

-- ---- words and lists

three_words : words_of (codes "  in  a  A,B ") ≡ codes "in" ∷ codes "a" ∷ codes "A,B" ∷ []
unfolding words_of
three_words = refl

spaces_are_no_words : words_of (codes "   ") ≡ []
unfolding words_of
spaces_are_no_words = refl

a_tab_is_no_space : words_of (codes "in" ++ 9 ∷ codes "a") ≡ (codes "in" ++ 9 ∷ codes "a") ∷ []
unfolding words_of
a_tab_is_no_space = refl

no_names : names_in (codes "-") ≡ []
unfolding names_in
no_names = refl

one_name : names_in (codes "A") ≡ codes "A" ∷ []
unfolding names_in
one_name = refl

empty_name_between : names_in (codes "A,,B") ≡ codes "A" ∷ [] ∷ codes "B" ∷ []
unfolding names_in
empty_name_between = refl

empty_name_at_the_end : names_in (codes "A,") ≡ codes "A" ∷ [] ∷ []
unfolding names_in
empty_name_at_the_end = refl

longest_name : is_name (codes "ABCDEFGHIJKLMNOPQRSTUVWXYZ012345") ≡ is_name (codes "_")
unfolding is_name
longest_name = refl

too_long : is_name (codes "ABCDEFGHIJKLMNOPQRSTUVWXYZ0123456") ≡ is_name []
unfolding is_name
too_long = refl

label_is_a_set : label_in (codes "A" ∷ codes "B" ∷ codes "C" ∷ []) (codes "C,A,C") ≡ 0 ∷ 2 ∷ []
unfolding label_in names_in label_of with_origin place_of
label_is_a_set = refl

-- ---- policies

abbrev example_inputs : List Channel
example_inputs = record { name = codes "pin"; label = 0 ∷ [] } ∷ record { name = codes "note"; label = [] } ∷ []

abbrev example_outputs : List Channel
example_outputs = record { name = codes "all"; label = 0 ∷ 1 ∷ [] } ∷ record { name = codes "pub"; label = [] } ∷ []

abbrev example : Tables
example = record { origins = codes "A" ∷ codes "B" ∷ []; inputs = example_inputs; outputs = example_outputs }

abbrev bad_policy : ℕ → PolicyKind → Result Tables (BadLine PolicyKind)
bad_policy line kind = Err (record { line = line; kind = kind })

reads_a_policy : policy_of (ended (codes "origin A") (ended (codes "origin B") (ended (codes "in pin A") (ended (codes "in note -") (ended (codes "out all A,B") (codes "out pub -")))))) ≡ Ok example
unfolding policy_of lines_of lines_of_parts without_cr after_lines after_words words_of after_origin after_in after_out with_new_origin with_new_channel is_name has_name names_in label_in label_of with_origin place_of
reads_a_policy = refl

unknown_origin : policy_of (codes "in pin Z") ≡ bad_policy 1 Unknown
unfolding policy_of lines_of lines_of_parts without_cr after_lines after_words words_of after_in with_new_channel is_name has_name names_in
unknown_origin = refl

repeated_origin : policy_of (ended (codes "origin A") (codes "origin A")) ≡ bad_policy 2 Repeat
unfolding policy_of lines_of lines_of_parts without_cr after_lines after_words words_of after_origin with_new_origin is_name has_name
repeated_origin = refl

unknown_keyword : policy_of (codes "label A") ≡ bad_policy 1 Keyword
unfolding policy_of lines_of lines_of_parts without_cr after_lines after_words words_of
unknown_keyword = refl

no_word_for_a_name : policy_of (codes "origin") ≡ bad_policy 1 Words
unfolding policy_of lines_of lines_of_parts without_cr after_lines after_words words_of after_origin
no_word_for_a_name = refl

no_name : policy_of (codes "origin A-B") ≡ bad_policy 1 Name
unfolding policy_of lines_of lines_of_parts without_cr after_lines after_words words_of after_origin with_new_origin is_name
no_name = refl

name_comes_before_unknown : policy_of (codes "in pin Z,") ≡ bad_policy 1 Name
unfolding policy_of lines_of lines_of_parts without_cr after_lines after_words words_of after_in with_new_channel is_name has_name names_in
name_comes_before_unknown = refl

-- a comment, an empty line and spaces declare nothing, and count as lines
skipped_lines_count : policy_of (ended (codes "#x") (ended [] (ended (codes "  ") (ended (codes " # x") (codes "label A"))))) ≡ bad_policy 5 Keyword
unfolding policy_of lines_of lines_of_parts without_cr after_lines after_words words_of
skipped_lines_count = refl

skipped_lines_declare_nothing : policy_of (ended (codes "#origin A") (ended [] (codes "#"))) ≡ Ok (record { origins = []; inputs = []; outputs = [] })
unfolding policy_of lines_of lines_of_parts without_cr after_lines after_words words_of
skipped_lines_declare_nothing = refl

-- ---- inputs

abbrev bad_input : ℕ → InputKind → Result Given (BadLine InputKind)
bad_input line kind = Err (record { line = line; kind = kind })

unknown_channel : inputs_of example_inputs (ended (codes "pin 1") (ended (codes "pox 2") [])) ≡ bad_input 2 kinds.Channel
unfolding inputs_of lines_of lines_of_parts without_cr first_bad fault_of_line channel_in text_in units_of texts_on is_utf8 chars encode
unknown_channel = refl

a_text : inputs_of example_inputs (codes "pin 1") ≡ Ok ((codes "1" ∷ []) ∷ [] ∷ [])
unfolding inputs_of lines_of lines_of_parts without_cr first_bad fault_of_line channel_in text_in units_of texts_on is_utf8 chars encode
a_text = refl

an_empty_text : inputs_of example_inputs (codes "pin") ≡ Ok (([] ∷ []) ∷ [] ∷ [])
unfolding inputs_of lines_of lines_of_parts without_cr first_bad fault_of_line channel_in text_in units_of texts_on is_utf8 chars encode
an_empty_text = refl

spaces_of_a_text : inputs_of example_inputs (codes "pin  a b") ≡ Ok ((codes " a b" ∷ []) ∷ [] ∷ [])
unfolding inputs_of lines_of lines_of_parts without_cr first_bad fault_of_line channel_in text_in units_of texts_on is_utf8 chars encode
spaces_of_a_text = refl

order_of_texts : inputs_of example_inputs (ended (codes "pin 1") (ended (codes "note x") (codes "pin 2"))) ≡ Ok ((codes "1" ∷ codes "2" ∷ []) ∷ (codes "x" ∷ []) ∷ [])
unfolding inputs_of lines_of lines_of_parts without_cr first_bad fault_of_line channel_in text_in units_of texts_on is_utf8 chars encode
order_of_texts = refl

-- a line that isn't UTF-8 is bad even on no channel, and an empty line is on no channel
not_utf8 : inputs_of example_inputs (255 ∷ []) ≡ bad_input 1 kinds.Utf8
unfolding inputs_of lines_of lines_of_parts without_cr first_bad fault_of_line channel_in text_in units_of texts_on is_utf8 chars encode
not_utf8 = refl

empty_line : inputs_of example_inputs (ended [] []) ≡ bad_input 1 kinds.Channel
unfolding inputs_of lines_of lines_of_parts without_cr first_bad fault_of_line channel_in text_in units_of texts_on is_utf8 chars encode
empty_line = refl

-- ---- views

-- who sees the origin A sees the public channel alone, and no line without a channel
view_of_one : view_of (0 ∷ []) example (ended (codes "all 1") (ended (codes "pub 2") (ended (codes "!end") (ended (codes "pub") (codes "pub 3"))))) ≡ codes "pub 2" ∷ codes "pub" ∷ []
unfolding view_of sees_line sees_channel channel_named whole_lines all_but_last within has
view_of_one = refl

view_of_all : view_of (0 ∷ 1 ∷ []) example (ended (codes "all 1") (ended (codes "pub 2") [])) ≡ codes "all 1" ∷ codes "pub 2" ∷ []
unfolding view_of sees_line sees_channel channel_named whole_lines all_but_last within has
view_of_all = refl
