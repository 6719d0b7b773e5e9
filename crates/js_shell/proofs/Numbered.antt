-- The number of a script that is made or tried is from 1 to 10,000.
use Rattle.std.proofs.Common.{◌≡◌, ℕ, ◌≤◌, Bool, true, false, ◌&&◌, ◌||◌, List, [], ◌∷◌, Option, Some, None, nat_le, refl, subst, codes}
use Rattle.std.specs.Prelude.{if◌then◌else◌}
use Rattle.std.specs.Str.{bytes_eq}
use Rattle.std.specs.Str.Parse.{digits_value}
use Rattle.std.proofs.lemmas.Bool.{and_parts, leb-true}
use Rattle.flow_lists.specs.Lists.{are_names}
use Rattle.command_line.specs.Commands.{Word, Command, run, check, pair, make, trial, Part, parts_of, words_in, values_of, is_turns, is_observer, are_known, is_number, number_to, most_made, turns_in, observer_in, a_run, a_pair, run_of, pair_of, only_word, check_of, numbered, made_number, command_in, command_behind, command_of}

-- ---- numbers

abbrev IsWithin : Option ℕ → Type 0
IsWithin (Some n) = (1 ≤ n) × (n ≤ 10000)
IsWithin None = Unit {0}

when_within : (b : Bool) (n : ℕ) → (b ≡ true → (1 ≤ n) × (n ≤ 10000)) → IsWithin (if b then Some n else None)
when_within true n f = f refl
when_within false n f = tt

number_within : (word : Word) → IsWithin (number_to most_made word)
unfolding number_to
number_within word = when_within (is_number word && nat_le 1 (digits_value 10 word) && nat_le (digits_value 10 word) most_made) (digits_value 10 word) (λ e.
    let outer = and_parts (is_number word && nat_le 1 (digits_value 10 word)) (nat_le (digits_value 10 word) most_made) e in
    let inner = and_parts (is_number word) (nat_le 1 (digits_value 10 word)) outer.0 in
    (leb-true 1 (digits_value 10 word) inner.1, leb-true (digits_value 10 word) most_made outer.1))

made_within : (o : Option Word) → IsWithin (made_number o)
made_within None = tt
made_within (Some word) = number_within word

-- ---- commands

abbrev IsSized : Option Command → Type 0
IsSized None = Unit {0}
IsSized (Some (run w)) = Unit {0}
IsSized (Some (check path)) = Unit {0}
IsSized (Some (pair w)) = Unit {0}
IsSized (Some (make n)) = (1 ≤ n) × (n ≤ 10000)
IsSized (Some (trial n)) = (1 ≤ n) × (n ≤ 10000)

either_sized : (b : Bool) (x y : Option Command) → IsSized x → IsSized y → IsSized (if b then x else y)
either_sized true x y p q = p
either_sized false x y p q = q

one_run_sized : (script policy input : Word) (turns : Option ℕ) (observer : Option (Option Word)) → IsSized (a_run script policy input turns observer)
one_run_sized script policy input (Some turns) (Some observer) = tt
one_run_sized script policy input (Some turns) None = tt
one_run_sized script policy input None observer = tt

run_sized : (words : List Word) (parts : List Part) → IsSized (run_of words parts)
run_sized (script ∷ policy ∷ input ∷ []) parts = either_sized (are_known (λ name. is_turns name || is_observer name) parts) _ None (one_run_sized script policy input (turns_in (values_of (codes "turns") parts)) (observer_in (values_of (codes "observer") parts))) tt
run_sized [] parts = tt
run_sized (a ∷ []) parts = tt
run_sized (a ∷ b ∷ []) parts = tt
run_sized (a ∷ b ∷ c ∷ d ∷ words) parts = tt

one_pair_sized : (script policy first second observer : Word) (turns : Option ℕ) → IsSized (a_pair script policy first second observer turns)
one_pair_sized script policy first second observer (Some turns) = either_sized (are_names observer) _ None tt tt
one_pair_sized script policy first second observer None = tt

pair_sized : (words : List Word) (parts : List Part) → IsSized (pair_of words parts)
pair_sized (script ∷ policy ∷ first ∷ second ∷ observer ∷ []) parts = either_sized (are_known is_turns parts) _ None (one_pair_sized script policy first second observer (turns_in (values_of (codes "turns") parts))) tt
pair_sized [] parts = tt
pair_sized (a ∷ []) parts = tt
pair_sized (a ∷ b ∷ []) parts = tt
pair_sized (a ∷ b ∷ c ∷ []) parts = tt
pair_sized (a ∷ b ∷ c ∷ d ∷ []) parts = tt
pair_sized (a ∷ b ∷ c ∷ d ∷ e ∷ f ∷ words) parts = tt

check_sized : (o : Option Word) → IsSized (check_of o)
check_sized None = tt
check_sized (Some word) = tt

make_sized : (o : Option ℕ) → IsWithin o → IsSized (numbered make o)
make_sized None h = tt
make_sized (Some n) h = h

trial_sized : (o : Option ℕ) → IsWithin o → IsSized (numbered trial o)
trial_sized None h = tt
trial_sized (Some n) h = h

in_sized : (word : Word) (parts : List Part) → IsSized (command_in word parts)
in_sized word parts =
    either_sized (bytes_eq word (codes "run")) _ _ (run_sized (words_in parts) parts)
    (either_sized (bytes_eq word (codes "check")) _ _ (check_sized (only_word (words_in parts) parts))
    (either_sized (bytes_eq word (codes "pair")) _ _ (pair_sized (words_in parts) parts)
    (either_sized (bytes_eq word (codes "make")) _ _ (make_sized (made_number (only_word (words_in parts) parts)) (made_within (only_word (words_in parts) parts)))
    (either_sized (bytes_eq word (codes "trial")) _ None (trial_sized (made_number (only_word (words_in parts) parts)) (made_within (only_word (words_in parts) parts))) tt))))

behind_sized : (word : Word) (o : Option (List Part)) → IsSized (command_behind word o)
behind_sized word None = tt
behind_sized word (Some parts) = in_sized word parts

words_sized : (words : List Word) → IsSized (command_of words)
unfolding command_of
words_sized [] = tt
words_sized (word ∷ words) = behind_sized word (parts_of words)

pub made_sized : (words : List Word) (n : ℕ) → command_of words ≡ Some (make n) → (1 ≤ n) × (n ≤ 10000)
made_sized words n e = subst IsSized e (words_sized words)

pub tried_sized : (words : List Word) (n : ℕ) → command_of words ≡ Some (trial n) → (1 ≤ n) × (n ≤ 10000)
tried_sized words n e = subst IsSized e (words_sized words)
