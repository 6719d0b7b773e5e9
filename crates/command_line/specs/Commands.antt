-- The commands that words state, by the table of commands in docs/REFERENCE.md.
use Rattle.std.specs.Prelude.{ℕ, Bool, true, false, ◌&&◌, ◌||◌, ◌==◌, List, [], ◌∷◌, length, map, nat_le, Option, Some, None, codes, if◌then◌else◌}
use Rattle.std.specs.List.{list_all}
use Rattle.std.specs.Int.{is_in_range}
use Rattle.std.specs.Str.{bytes_eq}
use Rattle.std.specs.Str.Parse.{digits_value}
use Rattle.flow_lists.specs.Lists.{are_names}

abbrev pub Word : Type 0
Word = List ℕ

-- ---- what is asked for

-- a run of a script under a policy with an input: with so many turns, and for one observer's view or for all
pub record RunWords : Type 0 where
  pub script : Word
  pub policy : Word
  pub input : Word
  pub turns : ℕ
  pub observer : Option Word

-- two runs of a script under a policy, with two inputs, whose views for an observer are compared
pub record PairWords : Type 0 where
  pub script : Word
  pub policy : Word
  pub first : Word
  pub second : Word
  pub observer : Word
  pub turns : ℕ

pub data Command : Type 0 where
  run : RunWords → Command
  check : Word → Command
  pair : PairWords → Command
  make : ℕ → Command
  trial : ℕ → Command

-- ---- numbers

abbrev pub is_digit : ℕ → Bool
is_digit byte = is_in_range 48 57 byte

abbrev pub is_number : Word → Bool
is_number word = nat_le 1 (length word) && nat_le (length word) 10 && list_all is_digit word

-- the number of 1 to 10 decimal digits, if it is from 1 to a bound
unfoldable pub number_to : ℕ → Word → Option ℕ
number_to most word = if is_number word && nat_le 1 (digits_value 10 word) && nat_le (digits_value 10 word) most then Some (digits_value 10 word) else None

abbrev pub most_turns : ℕ
most_turns = 1000000000

abbrev pub default_turns : ℕ
default_turns = 1000000

abbrev pub most_made : ℕ
most_made = 10000

-- ---- the words behind a command word: options with their values, and positional words

pub data Part : Type 0 where
  an_option : Word → Word → Part
  a_word : Word → Part

abbrev pub and_part : Part → Option (List Part) → Option (List Part)
and_part part (Some parts) = Some (part ∷ parts)
and_part part None = None

-- `--NAME=VALUE`, `--NAME`, `-` with more behind it, or neither
pub data Shape : Type 0 where
  with_value : Word → Word → Shape
  without_value : Word → Shape
  all_positional : Shape
  refused : Shape
  plain : Shape

-- the name of an option and its value, of what stands behind `--`: they are parted by the first `=`
abbrev pub with_unit : ℕ → Shape → Shape
with_unit unit (with_value name value) = with_value (unit ∷ name) value
with_unit unit (without_value name) = without_value (unit ∷ name)
with_unit unit shape = shape

abbrev pub option_in : Word → Shape
option_in [] = without_value []
option_in (unit ∷ units) = if unit == 61 then with_value [] units else with_unit unit (option_in units)

-- how a word that begins with `-` is read, by what stands behind that
abbrev pub behind_hyphen : Word → Shape
behind_hyphen [] = plain
behind_hyphen (unit ∷ units) = if unit == 45 then (if length units == 0 then all_positional else option_in units) else refused

abbrev pub shape_of : Word → Shape
shape_of [] = plain
shape_of (unit ∷ units) = if unit == 45 then behind_hyphen units else plain

-- what a word of this shape is, by the parts of the words after it, where an option waits for its value or none does
abbrev pub parts_by : Shape → Word → List Word → (Option Word → Option (List Part)) → Option (List Part)
parts_by plain word words next = and_part (a_word word) (next None)
parts_by all_positional word words next = Some (map a_word words)
parts_by refused word words next = None
parts_by (with_value name value) word words next = and_part (an_option name value) (next None)
parts_by (without_value name) word words next = next (Some name)

-- the parts of words, where an option without `=` takes the next word as its value
unfoldable pub parts_after : List Word → Option Word → Option (List Part)
parts_after [] None = Some []
parts_after [] (Some name) = None
parts_after (word ∷ words) (Some name) = and_part (an_option name word) (parts_after words None)
parts_after (word ∷ words) None = parts_by (shape_of word) word words (parts_after words)

abbrev pub parts_of : List Word → Option (List Part)
parts_of words = parts_after words None

abbrev pub words_in : List Part → List Word
words_in [] = []
words_in (a_word word ∷ parts) = word ∷ words_in parts
words_in (an_option name value ∷ parts) = words_in parts

-- the values of an option with this name
abbrev pub values_of : Word → List Part → List Word
values_of wanted [] = []
values_of wanted (a_word word ∷ parts) = values_of wanted parts
values_of wanted (an_option name value ∷ parts) = if bytes_eq name wanted then value ∷ values_of wanted parts else values_of wanted parts

-- each option has one of two names
abbrev pub is_known : (Word → Bool) → Part → Bool
is_known known (a_word word) = true
is_known known (an_option name value) = known name

abbrev pub are_known : (Word → Bool) → List Part → Bool
are_known known parts = list_all (is_known known) parts

abbrev pub is_turns : Word → Bool
is_turns name = bytes_eq name (codes "turns")

abbrev pub is_observer : Word → Bool
is_observer name = bytes_eq name (codes "observer")

-- ---- the commands

-- the turns that an option's values state: it stands at most once
abbrev pub turns_in : List Word → Option ℕ
turns_in [] = Some default_turns
turns_in (word ∷ []) = number_to most_turns word
turns_in words = None

-- the observer that an option's values state: it stands at most once, and is a list of names
abbrev pub observer_in : List Word → Option (Option Word)
observer_in [] = Some None
observer_in (list ∷ []) = if are_names list then Some (Some list) else None
observer_in words = None

abbrev pub a_run : Word → Word → Word → Option ℕ → Option (Option Word) → Option Command
a_run script policy input (Some turns) (Some observer) = Some (run (record { script = script; policy = policy; input = input; turns = turns; observer = observer }))
a_run script policy input _ _ = None

abbrev pub a_pair : Word → Word → Word → Word → Word → Option ℕ → Option Command
a_pair script policy first second observer (Some turns) = if are_names observer then Some (pair (record { script = script; policy = policy; first = first; second = second; observer = observer; turns = turns })) else None
a_pair script policy first second observer None = None

abbrev pub run_of : List Word → List Part → Option Command
run_of (script ∷ policy ∷ input ∷ []) parts = if are_known (λ name. is_turns name || is_observer name) parts then a_run script policy input (turns_in (values_of (codes "turns") parts)) (observer_in (values_of (codes "observer") parts)) else None
run_of words parts = None

abbrev pub pair_of : List Word → List Part → Option Command
pair_of (script ∷ policy ∷ first ∷ second ∷ observer ∷ []) parts = if are_known is_turns parts then a_pair script policy first second observer (turns_in (values_of (codes "turns") parts)) else None
pair_of words parts = None

-- one positional word and no option
abbrev pub only_word : List Word → List Part → Option Word
only_word (word ∷ []) parts = if are_known (λ name. false) parts then Some word else None
only_word words parts = None

abbrev pub check_of : Option Word → Option Command
check_of (Some script) = Some (check script)
check_of None = None

abbrev pub numbered : (ℕ → Command) → Option ℕ → Option Command
numbered kind (Some n) = Some (kind n)
numbered kind None = None

abbrev pub made_number : Option Word → Option ℕ
made_number (Some word) = number_to most_made word
made_number None = None

abbrev pub command_in : Word → List Part → Option Command
command_in word parts = if bytes_eq word (codes "run") then run_of (words_in parts) parts
    else (if bytes_eq word (codes "check") then check_of (only_word (words_in parts) parts)
    else (if bytes_eq word (codes "pair") then pair_of (words_in parts) parts
    else (if bytes_eq word (codes "make") then numbered make (made_number (only_word (words_in parts) parts))
    else (if bytes_eq word (codes "trial") then numbered trial (made_number (only_word (words_in parts) parts)) else None))))

abbrev pub command_behind : Word → Option (List Part) → Option Command
command_behind word (Some parts) = command_in word parts
command_behind word None = None

-- the command that words state: the first is the command word
unfoldable pub command_of : List Word → Option Command
command_of [] = None
command_of (word ∷ words) = command_behind word (parts_of words)
