-- What reads and puts came to: a value, the call of a getter or a setter, or a `length` that is set.
use Rattle.std.proofs.Common.{refl, sym, ap, ap₂, ◌∙◌, ◌≡◌, List, [], ◌∷◌, ◌++◌, map, length, Option, Some, None}
use Rattle.std.proofs.lemmas.List.{nil_from_length}
use Rattle.js_values.specs.declared.ids.ObjId.{ObjId}
use Rattle.js_values.specs.declared.value.Labelled.{Labelled}
use Rattle.js_values.specs.declared.value.Value.TheVariants as value
use Rattle.js_values.specs.Readings.{read_value}
use Rattle.es_meaning.specs.Evaluation.{call_with, give}
use Rattle.es_meaning.specs.Operations.{One}
use Rattle.flow_meaning.specs.Planned.{Plan, and_plan, planned, call_value, end_putting, enter_access, enter_count, enter_putting, with_result}
use Rattle.run_state.specs.declared.outcome.Access.TheVariants as access
use Rattle.run_state.specs.declared.outcome.Putting.TheVariants as putting
use Rattle.run_state.specs.declared.outcome.SetLength.TheVariants as set_length
use Rattle.run_state.specs.Accesses.{read_access, read_putting}
use Rattle.continuations.specs.Arrays.{counts_from}
use Rattle.continuations.specs.declared.continuation.Control.{Control}
use Rattle.continuations.specs.declared.continuation.Control.TheVariants as control
use Rattle.continuations.specs.declared.continuation.Continuation.TheVariants as continuation
use Rattle.continuations.specs.Kept.{Kept}
use Rattle.origin_labels.specs.Label.{Label}
use Rattle.flow_policy.specs.Policies.{Tables}
use Rattle.flow_policy.specs.Inputs.{Given}
use Rattle.js_ast.specs.Functions.{FunctionCode}
use Rattle.es_meaning.specs.BuiltIns.{BuiltIns}
use Rattle.flow_meaning.specs.Scopes.{State}
use Rattle.continuations.specs.Pending.{behind, behind_setter, next_plan, sets_length}
use Rattle.continuations.specs.Resuming.{coming}
use Rattle.continuations.specs.Settings.{Setting, entrance}
use Rattle.continuations.proofs.ArrayLaws.{length_begins}
use Rattle.continuations.proofs.Handed.{laid_value}
use Rattle.step_references.specs.Moving.{Comes, IfGiven, entering_access, entering_putting, given_or}
use Rattle.step_references.proofs.Begun.{behind_one}
use Rattle.step_references.proofs.Plans.{grouped}

-- two values alone
pub laid_both : {X : Type 0} (none first both : List X) (p q : X) → length none ≡ 0 → first ≡ none ++ p ∷ [] → both ≡ first ++ q ∷ [] → both ≡ p ∷ q ∷ []
laid_both none first both p q empty one two = two ∙ ap (λ vs. vs ++ q ∷ []) (one ∙ ap (λ vs. vs ++ p ∷ []) (nil_from_length none empty))

-- one value alone
pub alone : {X : Type 0} {one : List X} {p : X} (none : List X) → length none ≡ 0 → one ≡ none ++ p ∷ [] → one ≡ p ∷ []
alone {X} {one} {p} none empty laid = laid ∙ ap (λ vs. vs ++ p ∷ []) (nil_from_length none empty)

module _ {T : Type 0} where
  pub comes_value : {new : Kept T} (old : Kept T) (v : Labelled T) → length old.loose ≡ 0 → new.tasks ≡ old.tasks → new.loose ≡ old.loose ++ v ∷ [] → Comes (λ tables inputs set functions reading. entering_access tables inputs set functions reading (read_access reading (access.Value v))) old new control.Value
  unfolding enter_access
  comes_value {new} old v none tasks laid tables inputs set functions reading e s = laid_value old new v none tasks laid tables inputs set functions reading e s

  -- a getter is called
  pub comes_call : {new : Kept T} (old middle : Kept T) (callee : Labelled T) (label : T) (f : ObjId) (this : Labelled T) → callee ≡ record { value = value.Object f; label = label } → length old.loose ≡ 0 → new.tasks ≡ old.tasks → middle.loose ≡ old.loose ++ this ∷ [] → new.loose ≡ middle.loose ++ callee ∷ []
      → Comes (λ tables inputs set functions reading. entering_access tables inputs set functions reading (read_access reading (access.Getter label f this))) old new (control.Call 0)
  unfolding enter_access call_with
  comes_call {new} old middle callee label f this is none tasks first second tables inputs set functions reading e s =
      ap₂ (λ ts vs. coming tables inputs set functions reading (record { tasks = ts; loose = vs }) (control.Call 0) e s) tasks (laid_both old.loose middle.loose new.loose this callee none first second)
      ∙ ap (λ (u : Labelled T). coming tables inputs set functions reading (record { tasks = old.tasks; loose = this ∷ u ∷ [] }) (control.Call 0) e s) is

  -- the assignment gives its value
  pub comes_put : {new : Kept T} (old : Kept T) (given : Option (Labelled T)) (gives : Labelled T) → length old.loose ≡ 0 → new.tasks ≡ old.tasks → new.loose ≡ old.loose ++ gives ∷ []
      → Comes (λ tables inputs set functions reading. entering_putting given gives tables inputs set functions reading (read_putting reading putting.Put)) old new control.Value
  unfolding enter_putting give
  comes_put {new} old given gives none tasks laid tables inputs set functions reading e s = laid_value old new gives none tasks laid tables inputs set functions reading e s

  -- a setter is called, above work
  pub comes_setter : {new : Kept T} (old : Kept T) (given : Option (Labelled T)) (gives v callee : Labelled T) (label : T) (f : ObjId) (this : Labelled T) → v ≡ given_or given gives → callee ≡ record { value = value.Object f; label = label } → new ≡ record { tasks = old.tasks ++ (continuation.GiveBehind, gives ∷ []) ∷ []; loose = this ∷ callee ∷ v ∷ [] }
      → Comes (λ tables inputs set functions reading. entering_putting given gives tables inputs set functions reading (read_putting reading (putting.Setter label f this))) old new (control.Call 1)
  unfolding enter_putting call_with
  comes_setter {new} old given gives v callee label f this is called laid tables inputs set functions reading e s =
      let calls = λ (c u : Labelled T). call_value functions (reading c.label) c.value (read_value reading this) (read_value reading u ∷ []) (entrance tables inputs set functions) s in
      let back = give (planned tables inputs set functions) (read_value reading gives) in
      ap (λ (n : Kept T). coming tables inputs set functions reading n (control.Call 1) e s) laid
      ∙ behind_one tables inputs set functions reading old.tasks (old.tasks ++ (continuation.GiveBehind, gives ∷ []) ∷ []) continuation.GiveBehind (gives ∷ []) e (λ g. next_plan tables inputs set functions (control.Call 1) (map (read_value reading) (this ∷ callee ∷ v ∷ [])) g s) refl
      ∙ ap (behind tables inputs set functions reading old.tasks e) (sym (grouped (calls callee v) end_putting (with_result One back)) ∙ ap₂ (λ c u. and_plan (and_plan (calls c u) end_putting) (with_result One back)) called is)

  -- a setter is called, and what stands behind it waits
  pub setter_on : (tables : Tables) (inputs : Given) (set : BuiltIns) (functions : List FunctionCode) (reading : T → Label) (v callee : Labelled T) (label : T) (f : ObjId) (this : Labelled T) → callee ≡ record { value = value.Object f; label = label } → (rest : Unit {0} → State → Plan) (e : Setting) (s : State)
      → and_plan (next_plan tables inputs set functions (control.Call 1) (map (read_value reading) (this ∷ callee ∷ v ∷ [])) e s) (behind_setter tables inputs set functions rest)
      ≡ and_plan (enter_putting functions (entrance tables inputs set functions) (read_value reading v) (read_putting reading (putting.Setter label f this)) s) (with_result One rest)
  unfolding enter_putting call_with
  setter_on tables inputs set functions reading v callee label f this called rest e s =
      let calls = λ (c : Labelled T). call_value functions (reading c.label) c.value (read_value reading this) (read_value reading v ∷ []) (entrance tables inputs set functions) s in
      sym (grouped (calls callee) end_putting (with_result One rest)) ∙ ap (λ c. and_plan (and_plan (calls c) end_putting) (with_result One rest)) called

  -- the `length` of an array is set, above work
  pub comes_length : {new : Kept T} (old pushed : Kept T) (given : Option (Labelled T)) (gives v array : Labelled T) (label : T) (o : ObjId) (next : Control) → v ≡ given_or given gives → array ≡ record { value = value.Object o; label = label } → pushed ≡ record { tasks = old.tasks ++ (continuation.GiveBehind, gives ∷ []) ∷ []; loose = [] }
      → counts_from set_length.Put array v pushed new next
      → Comes (λ tables inputs set functions reading. entering_putting given gives tables inputs set functions reading (read_putting reading (putting.Length label o))) old new next
  unfolding enter_putting
  comes_length {new} old pushed given gives v array label o next is called laid counts tables inputs set functions reading e s =
      let sets = λ (a u : Labelled T). enter_count (entrance tables inputs set functions) (reading a.label) (read_value reading u) (sets_length tables inputs set functions set_length.Put (read_value reading a)) s in
      let back = give (planned tables inputs set functions) (read_value reading gives) in
      length_begins set_length.Put array v pushed new next counts tables inputs set functions reading e s
      ∙ behind_one tables inputs set functions reading old.tasks pushed.tasks continuation.GiveBehind (gives ∷ []) e (λ g. sets array v) (ap (λ (k : Kept T). k.tasks) laid)
      ∙ ap (behind tables inputs set functions reading old.tasks e) (sym (grouped (sets array v) end_putting (with_result One back)) ∙ ap₂ (λ a u. and_plan (and_plan (sets a u) end_putting) (with_result One back)) called is)

  -- a `length` is set, and what stands behind it waits
  pub length_on : (tables : Tables) (inputs : Given) (set : BuiltIns) (functions : List FunctionCode) (reading : T → Label) (v array : Labelled T) (label : T) (o : ObjId) → array ≡ record { value = value.Object o; label = label } → (rest : Unit {0} → State → Plan) (s : State)
      → and_plan (enter_count (entrance tables inputs set functions) (reading array.label) (read_value reading v) (sets_length tables inputs set functions set_length.Put (read_value reading array)) s) (behind_setter tables inputs set functions rest)
      ≡ and_plan (enter_putting functions (entrance tables inputs set functions) (read_value reading v) (read_putting reading (putting.Length label o)) s) (with_result One rest)
  unfolding enter_putting
  length_on tables inputs set functions reading v array label o called rest s =
      let sets = λ (a : Labelled T). enter_count (entrance tables inputs set functions) (reading a.label) (read_value reading v) (sets_length tables inputs set functions set_length.Put (read_value reading a)) s in
      sym (grouped (sets array) end_putting (with_result One rest)) ∙ ap (λ a. and_plan (and_plan (sets a) end_putting) (with_result One rest)) called

  -- what a setter is given has a label of the store
  pub given_has : (made : T → Type 0) (given : Option (Labelled T)) (gives : Labelled T) → IfGiven made given → made gives.label → made (given_or given gives).label
  given_has made None gives has own = own
  given_has made (Some v) gives has own = has
