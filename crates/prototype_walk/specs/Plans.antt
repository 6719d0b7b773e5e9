-- What a put does with an object and its prototypes (ECMA-262 8.12.4, 8.12.5, and 15.4.5.1 for a new element of an array), and the label on which that depends.
use Rattle.std.specs.Prelude.{ℕ, Bool, true, false, ◌&&◌, List, [], ◌∷◌, Option, Some, None}
use Rattle.origin_labels.specs.Label.{Label, bottom, union}
use Rattle.js_values.specs.declared.ids.ObjId.{ObjId}
use Rattle.js_values.specs.declared.property.Slot.{Slot}
use Rattle.js_values.specs.declared.property.Body.{Body}
use Rattle.js_values.specs.declared.property.Body.TheVariants.{Data, Accessor}
use Rattle.js_values.specs.Arrays.{length_key, element_of, allows_element, element_label}
use Rattle.js_values.specs.Objects.{Object, own}
use Rattle.js_values.specs.Walks.{Found, find}
use Rattle.prototype_walk.specs.declared.plan.PutPlan.{PutPlan}
use Rattle.prototype_walk.specs.declared.plan.PutPlan.TheVariants.{Write, Add, Setter, Refused}

-- the plan where it is allowed
abbrev pub if_allowed : Bool → PutPlan Label → Label → PutPlan Label
if_allowed true plan walk = plan
if_allowed false plan walk = Refused walk

-- the setter of an accessor, which is found at this object; that there is none depends on its value label besides
abbrev pub setter_plan : ℕ → Option ObjId → Label → Label → PutPlan Label
setter_plan at None label walk = Refused (union walk label)
setter_plan at (Some f) label walk = Setter (record { 0 = at }) walk

-- what a property of the object itself allows
abbrev pub own_plan : ℕ → Slot Label → Body → Label → PutPlan Label
own_plan o s (Data v) walk = if_allowed s.marks.writable (Write walk) walk
own_plan o s (Accessor get set) walk = setter_plan o set s.label walk

-- what a property of a prototype allows, for an object that is extensible or not
abbrev pub inherited_plan : Bool → ℕ → Slot Label → Body → Label → PutPlan Label
inherited_plan extensible at s (Data v) walk = if_allowed (extensible && s.marks.writable) (Add walk) walk
inherited_plan extensible at s (Accessor get set) walk = setter_plan at set s.label walk

-- what the prototypes allow
abbrev pub beyond_plan : Bool → Option (ℕ × Slot Label) → Label → PutPlan Label
beyond_plan extensible None walk = if_allowed extensible (Add walk) walk
beyond_plan extensible (Some f) walk = inherited_plan extensible f.0 f.1 f.1.body walk

-- whether an array may get an element that isn't there (15.4.5.1, step 4.b)
abbrev pub gets_element : {T : Type 0} → Option ℕ → Option (Slot T) → Bool
gets_element None length = true
gets_element (Some i) None = true
gets_element (Some i) (Some s) = allows_element i s.marks s.body

-- whether an object may get a property of a key that it hasn't
abbrev pub may_add : List ℕ → Object Label → Bool
may_add key p = p.extensible && gets_element (element_of p.class key) (own length_key p.rows)

-- on that the absence of an own property depends, and for an element of an array on `length`
abbrev pub absence_label : List ℕ → Object Label → Label
absence_label key p = union p.structure (element_label (element_of p.class key) (own length_key p.rows))

-- the object itself, and else its prototypes
abbrev pub plan_at : List ℕ → ℕ → Object Label → Option (Slot Label) → Found → PutPlan Label
plan_at key o p (Some s) rest = own_plan o s s.body s.existence
plan_at key o p None rest = beyond_plan (may_add key p) rest.at (union (absence_label key p) (union p.link rest.walk))

-- what a put does
abbrev pub can_put : List ℕ → List (ℕ × Object Label) → PutPlan Label
can_put key [] = Refused bottom
can_put key (e ∷ objects) = plan_at key e.0 e.1 (own key e.1.rows) (find key objects)
