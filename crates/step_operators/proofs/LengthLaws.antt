-- Behind the conversions of a value for the `length` of an array, as plans.
use Rattle.std.proofs.Common.{arith, refl, sym, ap, ap₂, subst, ◌∙◌, ◌≡◌, ℕ, Bool, true, false, List, [], ◌∷◌, length, Option, Some, None, Result, Ok, Err, IfOk}
use Rattle.origin_labels.specs.Label.{Label, union}
use Rattle.origin_labels.specs.Stores.{IsKept}
use Rattle.flow_policy.specs.Policies.{Tables}
use Rattle.flow_policy.specs.Inputs.{Given}
use Rattle.flow_text.specs.declared.memory.OutOfMemory.{OutOfMemory}
use Rattle.js_ast.specs.Functions.{FunctionCode}
use Rattle.js_number.specs.declared.int.LeftNumbers.{LeftNumbers}
use Rattle.js_number.specs.declared.num.Num.{Num as Number}
use Rattle.js_values.specs.declared.value.Labelled.{Labelled}
use Rattle.js_values.specs.Readings.{IsReading, HasValue, read_value}
use Rattle.js_values.proofs.ReadingLaws.{IsReading-earlier}
use Rattle.es_meaning.specs.BuiltIns.{BuiltIns}
use Rattle.es_meaning.specs.Operations.{Value}
use Rattle.es_meaning.specs.Operators.{leaves_numbers}
use Rattle.es_meaning.specs.Outcomes.{left}
use Rattle.es_meaning.specs.Plain.{count_of, is_count, number_in}
use Rattle.flow_meaning.specs.Planned.{Counted, Enters, End, Plan, Then, and_plan, convert_for_length, end_first, end_second, gave, given_count, with_outcome, with_result}
use Rattle.flow_meaning.specs.Scopes.{State, Val, as_plain}
use Rattle.flow_meaning.specs.Tracked.{numbered, numbered_by}
use Rattle.run_state.specs.declared.outcome.SetLength.{SetLength}
use Rattle.run_state.specs.declared.world.World.{World}
use Rattle.run_state.specs.Worlds.{state_of}
use Rattle.continuations.specs.declared.continuation.Continuation.TheVariants as continuation
use Rattle.continuations.specs.declared.continuation.Control.{Control}
use Rattle.continuations.specs.declared.continuation.Control.TheVariants as control
use Rattle.continuations.specs.Arrays.{counts_twice}
use Rattle.continuations.specs.Kept.{Kept}
use Rattle.continuations.specs.Moving.{Planning}
use Rattle.continuations.specs.Pending.{behind, end_both, sets_length, setting_above}
use Rattle.continuations.specs.Resuming.{Begins}
use Rattle.continuations.specs.Settings.{Setting, entrance}
use Rattle.step_references.specs.Moving.{Begun, Moved}
use Rattle.step_references.proofs.Begun.{begun_pushed}
use Rattle.step_references.proofs.Loose.{both}
use Rattle.step_references.proofs.Moved.{moved_pushed, stack_is}
use Rattle.step_operators.specs.Lengths.{counted_both, counted_if, counted_of, range_error}

-- ---- behind the first conversion

module _ (tables : Tables) (inputs : Given) (set : BuiltIns) (functions : List FunctionCode) (label : Label) (next : Counted) (first : Val) where
  -- behind both, with what the first came to as a number
  second_by : Result Number LeftNumbers → Then
  second_by r = with_result Value (λ second s. with_outcome (numbered_by r s) (λ m t. with_outcome (numbered second t) (λ n. given_count (is_count m n) (count_of m) (union first.label second.label) label next)))

  pub once_number : (v : Val) (s : State) (m : Number) → number_in first.value ≡ Ok m
      → and_plan (convert_for_length (entrance tables inputs set functions) label v s) (end_both tables inputs set functions label next first) ≡ end_first (entrance tables inputs set functions) label v next (gave first) s
  unfolding second_by end_first end_second numbered numbered_by
  once_number v s m is =
      let E : Enters = entrance tables inputs set functions in
      ap (λ r. and_plan (convert_for_length E label v s) (second_by r)) is
      ∙ sym (ap (λ r. with_outcome (numbered_by r s) (λ k t. and_plan (convert_for_length E label v t) (end_second label next first k))) is)

  pub once_leaves : (v : Val) (s : State) (e : LeftNumbers) → number_in first.value ≡ Err e → End (as_plain (left leaves_numbers)) s ≡ end_first (entrance tables inputs set functions) label v next (gave first) s
  unfolding end_first numbered numbered_by
  once_leaves v s e is =
      let E : Enters = entrance tables inputs set functions in
      sym (ap (λ r. with_outcome (numbered_by r s) (λ k t. and_plan (convert_for_length E label v t) (end_second label next first k))) is)

-- ---- behind both

abbrev come_to : Option ℕ → Result (Option ℕ) LeftNumbers
come_to count = Ok count

module _ (tables : Tables) (inputs : Given) (set : BuiltIns) (functions : List FunctionCode) (label : Label) (next : Counted) (first second : Val) (s : State) where
  -- what both came to
  abbrev given : Label
  given = union first.label second.label

  both_by : Result Number LeftNumbers → Result Number LeftNumbers → Plan
  both_by p q = with_outcome (numbered_by p s) (λ m t. with_outcome (numbered_by q t) (λ n. given_count (is_count m n) (count_of m) given label next))

  some_if : (b : Bool) (c n : ℕ) → come_to (counted_if b c) ≡ Ok (Some n) → next n given s ≡ given_count b c given label next s
  unfolding given_count
  some_if true c n is =
      let same : n ≡ c = cc is in
      ap (λ i. next i given s) same
  some_if false c n is = absurd cc is

  none_if : (b : Bool) (c : ℕ) → come_to (counted_if b c) ≡ Ok None → range_error label given s ≡ given_count b c given label next s
  unfolding given_count
  none_if true c is = absurd cc is
  none_if false c is = refl

  some_by : (p q : Result Number LeftNumbers) (n : ℕ) → counted_both p q ≡ Ok (Some n) → next n given s ≡ both_by p q
  unfolding both_by numbered_by
  some_by (Ok a) (Ok b) n is = some_if (is_count a b) (count_of a) n is
  some_by (Ok a) (Err e) n is = absurd cc is
  some_by (Err e) q n is = absurd cc is

  none_by : (p q : Result Number LeftNumbers) → counted_both p q ≡ Ok None → range_error label given s ≡ both_by p q
  unfolding both_by numbered_by
  none_by (Ok a) (Ok b) is = none_if (is_count a b) (count_of a) is
  none_by (Ok a) (Err e) is = absurd cc is
  none_by (Err e) q is = absurd cc is

  leaves_by : (p q : Result Number LeftNumbers) (e : LeftNumbers) → counted_both p q ≡ Err e → End (as_plain (left leaves_numbers)) s ≡ both_by p q
  unfolding both_by numbered_by
  leaves_by (Ok a) (Ok b) e is = absurd cc is
  leaves_by (Ok a) (Err e) f is = refl
  leaves_by (Err e) q f is = refl

  pub both_some : (n : ℕ) → counted_of first.value second.value ≡ Ok (Some n) → next n given s ≡ end_both tables inputs set functions label next first (gave second) s
  unfolding both_by numbered
  both_some n is = some_by (number_in first.value) (number_in second.value) n is

  pub both_none : counted_of first.value second.value ≡ Ok None → range_error label given s ≡ end_both tables inputs set functions label next first (gave second) s
  unfolding both_by numbered
  both_none is = none_by (number_in first.value) (number_in second.value) is

  pub both_leave : (e : LeftNumbers) → counted_of first.value second.value ≡ Err e → End (as_plain (left leaves_numbers)) s ≡ end_both tables inputs set functions label next first (gave second) s
  unfolding both_by numbered
  both_leave e is = leaves_by (number_in first.value) (number_in second.value) e is

-- ---- what the code does

empty : {X : Type 0} (xs : List X) → length xs ≡ 0 → xs ≡ []
empty [] none = refl
empty (x ∷ xs) none = absurd (omega (arith, none))

-- a label that was joined, in a reading of a later store
pub given_is : {S T : Type 0} (made : S → T → Type 0) (meaning : S → T → Label) (room : S → ℕ) (firm : S → Bool) (earlier joined later : S) → IsKept made meaning room firm earlier joined → IsKept made meaning room firm joined later → (reading : T → Label) → IsReading made meaning later reading
    → (a b label : T) → made earlier a → made earlier b → made joined label → meaning joined label ≡ union (meaning earlier a) (meaning earlier b) → reading label ≡ union (reading a) (reading b)
given_is made meaning room firm earlier joined later kept behind reading is a b label has_a has_b has means =
    let at_joined = IsReading-earlier made meaning room firm joined later reading behind is in
    let at_first = IsReading-earlier made meaning room firm earlier joined reading kept at_joined in
    at_joined.agrees label has ∙ means ∙ sym (ap₂ union (at_first.agrees a has_a) (at_first.agrees b has_b))

module _ {S T : Type 0} {made : S → T → Type 0} {meaning : S → T → Label} {store : S} where
  -- the run leaves the language
  pub leaving : {plan : Planning T} {old new : Kept T} {world : World T} {move : Control} → length old.loose ≡ 0 → Begins (λ tables inputs set functions e s. End (as_plain (left leaves_numbers)) s) old new move
      → ((tables : Tables) (inputs : Given) (set : BuiltIns) (functions : List FunctionCode) (reading : T → Label) (f : Setting) (s : State) → End (as_plain (left leaves_numbers)) s ≡ plan tables inputs set functions reading f s)
      → Begun made meaning store plan old new world world (Ok move)
  leaving {plan} {old} {new} {world} {move} none begins same = record {
    begins = λ tables inputs set functions reading e told turns is.
        let s = state_of reading world told turns in
        begins tables inputs set functions reading e s (empty old.loose none) ∙ ap (behind tables inputs set functions reading old.tasks e) (same tables inputs set functions reading (setting_above old.tasks e) s);
  }

module _ {T : Type 0} (how : SetLength) (array v first : Labelled T) where
  -- behind the first conversion
  abbrev behind_once : Planning T
  behind_once tables inputs set functions reading e = end_first (entrance tables inputs set functions) (reading array.label) (read_value reading v) (sets_length tables inputs set functions how (read_value reading array)) (gave (read_value reading first))

  -- the value is converted once more
  pub once_goes_on : {S : Type 0} (made : S → T → Type 0) (meaning : S → T → Label) (store : S) (old new : Kept T) (world : World T) (m : Number) → number_in first.value ≡ Ok m
      → (result : Result Control OutOfMemory) → IfOk result (counts_twice how array v first old new) → IfOk result (λ next. Begun made meaning store behind_once old new world world (Ok next))
  once_goes_on made meaning store old new world m is (Err e) counts = tt
  once_goes_on made meaning store old new world m is (Ok next) counts =
      subst (λ (n : Control). Begun made meaning store behind_once old new world world (Ok n)) (sym counts.moves)
      (begun_pushed (continuation.LengthTwice how) (array ∷ first ∷ []) (array ∷ v ∷ []) (stack_is new counts.tasks counts.loose)
      (λ tables inputs set functions reading f s read. once_number tables inputs set functions (reading array.label) (sets_length tables inputs set functions how (read_value reading array)) (read_value reading first) (read_value reading v) s m is))

  pub once_moved : (has : T → Type 0) (old new : Kept T) (world : World T) → has array.label → has v.label → has first.label
      → (result : Result Control OutOfMemory) → IfOk result (counts_twice how array v first old new) → IfOk result (λ next. Moved has 8 old new world world next)
  once_moved has old new world has_array has_value has_first (Err e) counts = tt
  once_moved has old new world has_array has_value has_first (Ok next) counts =
      subst (λ (n : Control). Moved has 8 old new world world n) (sym counts.moves)
      (moved_pushed control.ConvertBeside (continuation.LengthTwice how) (array ∷ first ∷ []) (array ∷ v ∷ []) (stack_is new counts.tasks counts.loose) refl refl (both (HasValue has) array first has_array has_first) (both (HasValue has) array v has_array has_value) refl (omega arith))
