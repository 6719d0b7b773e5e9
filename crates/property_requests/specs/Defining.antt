-- What the code's words for definitions mean, and what is done by one.
use Rattle.std.specs.Prelude.{◌≡◌, ℕ, Bool, true, false, ◌&&◌, List, Option, Some, None, length, slice_get}
use Rattle.std.specs.Option.{is_some, option_map}
use Rattle.origin_labels.specs.Label.{Label, bottom, union}
use Rattle.js_values.specs.declared.ids.ObjId.{ObjId}
use Rattle.js_values.specs.declared.value.Labelled.{Labelled}
use Rattle.js_values.specs.declared.value.Value.{Value}
use Rattle.js_values.specs.declared.property.Slot.{Slot}
use Rattle.js_values.specs.Arrays.{allows_element, element_of, is_length, length_key}
use Rattle.js_values.specs.Objects.{Object, own}
use Rattle.js_values.specs.Readings.{IsReading, HasValue, read_heap, read_object, read_value}
use Rattle.native_protocol.specs.declared.request.ErrorKind.TheVariants as kinds
use Rattle.native_protocol.specs.declared.request.GivenMarks.{GivenMarks}
use Rattle.prototype_walk.specs.Answers.{Means}
use Rattle.es_meaning.specs.Definitions as definitions
use Rattle.es_meaning.specs.Definitions.{no_body, a_value, accessors, changes_body, keeps_a_half, defined_over}
use Rattle.es_meaning.specs.Operations.{Shape}
use Rattle.es_meaning.specs.Outcomes.{Goes, ◌>>=◌, ret}
use Rattle.es_meaning.specs.Plain.{undefined}
use Rattle.flow_meaning.specs.Erased.{unlabelled, erased_slot}
use Rattle.flow_meaning.specs.Requested.{body_label, definition_test}
use Rattle.flow_meaning.specs.Scopes.{Val, L}
use Rattle.flow_meaning.specs.Tracked.{Defining, define_given, is_defined, set_marks, set_body_if, throw_error}
use Rattle.property_requests.specs.declared.definition.Half.{Half}
use Rattle.property_requests.specs.declared.definition.Half.TheVariants as half
use Rattle.property_requests.specs.declared.definition.GivenBody.{GivenBody}
use Rattle.property_requests.specs.declared.definition.GivenBody.TheVariants as given
use Rattle.property_requests.specs.declared.definition.Definition.{Definition}
use Rattle.property_requests.specs.declared.descriptor.Descriptor.{Descriptor}
use Rattle.property_requests.specs.declared.defining.Change.{Change}
use Rattle.property_requests.specs.declared.defining.NewBody.{NewBody}

-- ---- definitions

abbrev pub half_of : Half → Option (Option ObjId)
half_of half.Kept = None
half_of (half.Given f) = Some f

abbrev pub body_of : GivenBody → definitions.GivenBody
body_of given.Nothing = no_body
body_of (given.Value v) = a_value v
body_of (given.Accessors get set) = accessors (half_of get) (half_of set)

abbrev pub definition_of : Definition → definitions.Definition
definition_of d = record { marks = d.marks; body = body_of d.body }

-- ---- descriptors: which values are given, and these, undefined where there is none

abbrev pub shape_of : {T : Type 0} → Descriptor T → Shape
shape_of d = record { has_value = is_some d.value; has_getter = is_some d.get; has_setter = is_some d.set }

abbrev pub given_in : {T : Type 0} → (T → Label) → Option (Labelled T) → Val
given_in reading None = unlabelled undefined
given_in reading (Some v) = read_value reading v

abbrev pub value_of : {T : Type 0} → Option (Labelled T) → Value
value_of None = undefined
value_of (Some v) = v.value

abbrev pub HasGiven : {T : Type 0} → (T → Type 0) → Option (Labelled T) → Type 0
HasGiven made None = Unit {0}
HasGiven made (Some v) = HasValue made v

-- its labels have a property, as to be made by a store
pub record HasDescriptor {T : Type 0} (made : T → Type 0) (d : Descriptor T) : Type 0 where
  pub value : HasGiven made d.value
  pub get : HasGiven made d.get
  pub set : HasGiven made d.set

-- ---- what a definition changes of a present property

module _ {S T : Type 0} (made : S → T → Type 0) (meaning : S → T → Label) (store : S) (slot : Slot T) (definition : Definition) (given : T) where
  -- what the property holds is given anew
  pub record GivesBody (new : NewBody T) : Type 0 where
    pub changes : changes_body (erased_slot slot) (definition_of definition) ≡ true
    pub body : new.body ≡ (defined_over (erased_slot slot) (definition_of definition)).body
    pub label : Means made meaning store new.label (λ reading. body_label (keeps_a_half (erased_slot slot) (definition_of definition)) (reading given) (reading slot.label))

  abbrev pub IsNewBody : Option (NewBody T) → Type 0
  IsNewBody None = changes_body (erased_slot slot) (definition_of definition) ≡ false
  IsNewBody (Some new) = GivesBody new

  -- the change is that of the definition
  pub record IsChange (change : Change T) : Type 0 where
    pub marks : change.marks ≡ (defined_over (erased_slot slot) (definition_of definition)).marks
    pub body : IsNewBody change.body

-- its labels were made by a store
abbrev pub HasNewBody : {T : Type 0} → (T → Type 0) → Option (NewBody T) → Type 0
HasNewBody made None = Unit {0}
HasNewBody made (Some new) = made new.label

-- what is done of it: rule W2 is asked where the property holds something else
unfoldable pub body_set : {T : Type 0} → (T → Label) → Label → Option (NewBody T) → ℕ → List ℕ → L (Unit {0})
body_set reading place None o key s = Goes tt s
body_set reading place (Some new) o key s = set_body_if true place new.body (reading new.label) o key s

abbrev pub changed_by : {T : Type 0} → (T → Label) → Change T → Label → Label → ℕ → List ℕ → L Defining
changed_by reading change place given o key = set_marks (union place given) change.marks o key >>= λ u. body_set reading place change.body o key >>= λ w. ret (is_defined place)

-- ---- how many properties an object has, and the label of its structure

abbrev pub outline : Option (Object Label) → Option (ℕ × Label)
outline None = None
outline (Some p) = Some (length p.rows, p.structure)

-- these stay as they were, in each reading that agrees with the store
pub record SameOutline {S T : Type 0} (made : S → T → Type 0) (meaning : S → T → Label) (store : S) (o : ℕ) (old new : List (Object T)) : Type 0 where
  pub is : (reading : T → Label) → IsReading made meaning store reading → outline (slice_get (read_heap reading new) o) ≡ outline (slice_get (read_heap reading old) o)

-- ---- the own test of a definition, and whether the object may get the property

abbrev pub test_of_definition : {T : Type 0} → (T → Label) → List ℕ → Option (Object T) → Label
test_of_definition reading key None = bottom
test_of_definition reading key (Some p) = definition_test key (own key (read_object reading p).rows) (read_object reading p)

abbrev pub may_hold : {T : Type 0} → Option ℕ → Option (Slot T) → Bool
may_hold None length = true
may_hold (Some i) None = true
may_hold (Some i) (Some s) = allows_element i s.marks s.body

abbrev pub may_add_in : {T : Type 0} → List ℕ → Option (Object T) → Bool
may_add_in key None = false
may_add_in key (Some p) = p.extensible && may_hold (element_of p.class key) (own length_key p.rows)

-- the `length` of an array is given a value
abbrev pub gives_length : {T : Type 0} → List ℕ → GivenBody → Option (Object T) → Bool
gives_length key (given.Value v) (Some p) = is_length p.class key
gives_length key _ _ = false

-- ---- a definition on an object that is there

abbrev pub is_valued : Option GivenBody → Bool
is_valued (Some (given.Value v)) = true
is_valued _ = false

abbrev pub given_at : Option (Object Label) → Option GivenBody → GivenMarks → Label → Label → ℕ → List ℕ → L Defining
given_at None body marks place given o key s = throw_error kinds.TypeError place s
given_at (Some p) body marks place given o key s = define_given (is_valued body) p marks (option_map body_of body) place given o key s
