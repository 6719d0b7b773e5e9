-- What the tables of a policy file keep, and what an input gives.
use Rattle.std.proofs.Common.{◌≡◌, ℕ, ◌+◌, List, [], ◌∷◌, map, Option, Some, None, Result, Ok, Err, Bool, true, false, refl, subst, arith, codes}
use Rattle.std.specs.Prelude.{nat_lt, length, if◌then◌else◌}
use Rattle.std.proofs.lemmas.List.{length-map}
use Rattle.origin_labels.specs.Names.{same_name}
use Rattle.flow_policy.specs.declared.policy.Channel.{Channel}
use Rattle.flow_policy.specs.declared.fault.InputKind.{InputKind}
use Rattle.flow_policy.specs.declared.fault.PolicyKind.{PolicyKind}
use Rattle.flow_policy.specs.Lines.{lines_of}
use Rattle.flow_policy.specs.Words.{words_of}
use Rattle.flow_policy.specs.Policies.{Tables, no_tables, with_new_origin, with_new_channel, ok_map, after_origin, after_in, after_out, is_comment, after_words, next_line, after_lines, policy_of, BadLine, AreChannels, IsPolicy}
use Rattle.flow_policy.specs.Inputs.{Given, IsGivenTo, inputs_of, unless_bad, first_bad, texts_on}
use Rattle.run_files.specs.declared.refusals.WhichInput.{WhichInput}
use Rattle.run_files.specs.Tasks.{Fault, policy_fault, input_fault, FileFault, too_long, read_file, policy_in, input_in, policy_limit, input_limit}
use Rattle.flow_policy.proofs.PolicyLaws.{IsPolicy-origin, IsPolicy-input, IsPolicy-output}

-- where there is a result it is formed
abbrev Forms : {E : Type 0} → Result Tables E → Type 0
Forms (Ok tables) = IsPolicy tables
Forms (Err e) = Unit {0}

mapped : {A : Type 0} (f : A → Tables) (r : Result A PolicyKind) → ((x : A) → r ≡ Ok x → IsPolicy (f x)) → Forms (ok_map f r)
mapped f (Ok x) h = h x refl
mapped f (Err e) h = tt

origin_formed : (tables : Tables) (words : List (List ℕ)) → IsPolicy tables → Forms (after_origin tables words)
unfolding after_origin
origin_formed tables [] formed = tt
origin_formed tables (name ∷ []) formed = mapped (λ (more : List (List ℕ)). record tables { origins = more }) (with_new_origin tables.origins name) (λ more e. IsPolicy-origin tables name more formed e)
origin_formed tables (name ∷ other ∷ words) formed = tt

in_formed : (tables : Tables) (words : List (List ℕ)) → IsPolicy tables → Forms (after_in tables words)
unfolding after_in
in_formed tables [] formed = tt
in_formed tables (name ∷ []) formed = tt
in_formed tables (name ∷ list ∷ []) formed = mapped (λ (more : List Channel). record tables { inputs = more }) (with_new_channel tables.origins tables.inputs name list) (λ more e. IsPolicy-input tables name list more formed e)
in_formed tables (name ∷ list ∷ other ∷ words) formed = tt

out_formed : (tables : Tables) (words : List (List ℕ)) → IsPolicy tables → Forms (after_out tables words)
unfolding after_out
out_formed tables [] formed = tt
out_formed tables (name ∷ []) formed = tt
out_formed tables (name ∷ list ∷ []) formed = mapped (λ (more : List Channel). record tables { outputs = more }) (with_new_channel tables.origins tables.outputs name list) (λ more e. IsPolicy-output tables name list more formed e)
out_formed tables (name ∷ list ∷ other ∷ words) formed = tt

either_formed : (b : Bool) (r s : Result Tables PolicyKind) → Forms r → Forms s → Forms (if b then r else s)
either_formed true r s p q = p
either_formed false r s p q = q

words_formed : (tables : Tables) (words : List (List ℕ)) → IsPolicy tables → Forms (after_words tables words)
unfolding after_words
words_formed tables [] formed = formed
words_formed tables (word ∷ words) formed =
    either_formed (is_comment word) _ _ formed
    (either_formed (same_name word (codes "origin")) _ _ (origin_formed tables words formed)
    (either_formed (same_name word (codes "in")) _ _ (in_formed tables words formed)
    (either_formed (same_name word (codes "out")) _ _ (out_formed tables words formed) tt)))

next_formed : (number : ℕ) (r : Result Tables PolicyKind) (go_on : Tables → Result Tables (BadLine PolicyKind)) → Forms r → ((after : Tables) → IsPolicy after → Forms (go_on after)) → Forms (next_line number r go_on)
next_formed number (Ok after) go_on p k = k after p
next_formed number (Err kind) go_on p k = tt

lines_formed : (number : ℕ) (tables : Tables) (lines : List (List ℕ)) → IsPolicy tables → Forms (after_lines number tables lines)
unfolding after_lines
lines_formed number tables [] formed = formed
lines_formed number tables (line ∷ lines) formed =
    next_formed number (after_words tables (words_of line)) (λ after. after_lines (number + 1) after lines) (words_formed tables (words_of line) formed) (λ after p. lines_formed (number + 1) after lines p)

no_channels : AreChannels 0 []
no_channels = record { each = λ k d lt. absurd (omega arith); distinct = λ i j d lt short. absurd (omega arith); few = omega arith }

nothing_formed : IsPolicy no_tables
nothing_formed = record { names = λ k d lt. absurd (omega arith); origins = λ i j d lt short. absurd (omega arith); few = omega arith; inputs = no_channels; outputs = no_channels }

stated_formed : (bytes : List ℕ) (tables : Tables) → policy_of bytes ≡ Ok tables → IsPolicy tables
unfolding policy_of
stated_formed bytes tables e = subst (λ (r : Result Tables (BadLine PolicyKind)). Forms r) e (lines_formed 1 no_tables (lines_of bytes) nothing_formed)

read_formed : (tables : Tables) (bytes : List ℕ) (given : Given) → inputs_of tables.inputs bytes ≡ Ok given → IsGivenTo tables given
unfolding inputs_of
read_formed tables bytes given e = from (first_bad 1 tables.inputs (lines_of bytes)) e
  where
    texts : Given
    texts = map (λ channel. texts_on channel.name (lines_of bytes)) tables.inputs

    has_each : Result Given (BadLine InputKind) → Type 0
    has_each (Ok g) = IsGivenTo tables g
    has_each (Err bad) = Unit {0}

    has : (bad : Option (BadLine InputKind)) → has_each (unless_bad bad texts)
    has (Some bad) = tt
    has None = length-map tables.inputs (λ channel. texts_on channel.name (lines_of bytes))

    from : (bad : Option (BadLine InputKind)) → unless_bad bad texts ≡ Ok given → IsGivenTo tables given
    from bad e = subst has_each e (has bad)

-- what a file gives is what its bytes are read as
read_is : {X Kind : Type 0} (fault : FileFault Kind → Fault) (b : Bool) (r : Result X (BadLine Kind)) (x : X) → (if b then Err (fault too_long) else read_file fault r) ≡ Ok x → r ≡ Ok x
read_is fault true r x e = cc
read_is fault false (Ok y) x e = cc
read_is fault false (Err bad) x e = cc

-- the tables that a policy file states are a policy
pub policy_formed : (bytes : List ℕ) (tables : Tables) → policy_in bytes ≡ Ok tables → IsPolicy tables
unfolding policy_in
policy_formed bytes tables e = stated_formed bytes tables (read_is policy_fault (nat_lt policy_limit (length bytes)) (policy_of bytes) tables e)

-- what an input file gives is for each channel of the policy
pub given_formed : (number : WhichInput) (tables : Tables) (bytes : List ℕ) (given : Given) → input_in number tables bytes ≡ Ok given → IsGivenTo tables given
unfolding input_in
given_formed number tables bytes given e = read_formed tables bytes given (read_is (input_fault number) (nat_lt input_limit (length bytes)) (inputs_of tables.inputs bytes) given e)
