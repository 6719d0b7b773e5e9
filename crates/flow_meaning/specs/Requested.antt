-- What acts make of labelled objects and find in them, with the labels of that.
use Rattle.std.specs.Prelude.{ℕ, zero, suc, pos, List, [], ◌∷◌, ◌++◌, Bool, true, false, length, map, Option, Some, None, slice_get, codes}
use Rattle.origin_labels.specs.Label.{Label, bottom, union}
use Rattle.js_number.specs.declared.num.Num.TheVariants.{Int}
use Rattle.js_number.specs.declared.primitive.Primitive.TheVariants.{Num}
use Rattle.js_values.specs.declared.ids.ObjId.{ObjId}
use Rattle.js_values.specs.declared.value.Value.{Value}
use Rattle.js_values.specs.declared.value.Value.TheVariants as value
use Rattle.js_values.specs.declared.property.Body.TheVariants.{Data}
use Rattle.js_values.specs.declared.property.Slot.{Slot}
use Rattle.js_values.specs.declared.inner.Class.TheVariants as class
use Rattle.js_values.specs.declared.inner.Inner.{Inner}
use Rattle.js_values.specs.declared.inner.Inner.TheVariants.{Plain, Script, Bound}
use Rattle.js_values.specs.Arrays.{length_key, element_of, element_label}
use Rattle.js_values.specs.Objects.{Rows, Property, PlainObject, Object, own, fresh_object}
use Rattle.es_meaning.specs.Operations.{Part, as_value, OwnPart, own_marks}
use Rattle.es_meaning.specs.Functions.{env_id, Target, own_target, bound_behind, is_function, accessor_rows, arguments_rows}
use Rattle.es_meaning.specs.Objects.{made_by_script, defined, elements_onto}
use Rattle.es_meaning.specs.Start.{built_in, count_property, length_property, function_rows, object_prototype, function_prototype, array_prototype}
use Rattle.es_meaning.specs.Plain.{undefined}
use Rattle.es_meaning.specs.Requested.{part_body, part_marks, part_of_property}
use Rattle.flow_meaning.specs.Erased.{erased_slot, erased_object, made_rows}
use Rattle.flow_meaning.specs.Scopes.{Val}

-- ---- objects of literals and of calls: their links, their structure, their properties and the values of these depend on the context

abbrev pub data_slot : Label → Val → Slot Label
data_slot label v = record { body = Data v.value; label = union v.label label; existence = label; marks = made_by_script }

abbrev pub property_in : Option (Slot Label) → Option Property
property_in None = None
property_in (Some p) = Some (erased_slot p)

-- a getter or a setter that joins the other half of its property has the label of that besides
abbrev pub half_label : Part → Option (Slot Label) → Label
half_label as_value old = bottom
half_label _ None = bottom
half_label _ (Some p) = p.label

abbrev pub part_slot : Label → Part → Option (Slot Label) → Val → Slot Label
part_slot label part old v = record { body = part_body part (property_in old) v.value; label = union (union v.label label) (half_label part old); existence = label; marks = part_marks part }

abbrev pub with_part : Label → Part → List ℕ → Val → Rows (Slot Label) → Rows (Slot Label)
with_part label part key v rows = defined key (part_slot label part (own key rows) v) rows

abbrev pub with_parts : Label → List (Part × List ℕ) → List Val → Rows (Slot Label) → Rows (Slot Label)
with_parts label (part ∷ parts) (v ∷ vs) rows = with_parts label parts vs (with_part label part.0 part.1 v rows)
with_parts label _ _ rows = rows

abbrev pub literal_object : List (Part × List ℕ) → List Val → Label → Object Label
literal_object parts vs label = record (fresh_object class.Object Plain (Some object_prototype) label label) { rows = with_parts label parts vs [] }

-- the `arguments` object of a call: the arguments have their labels besides
abbrev pub arguments_object : ℕ → ℕ → List Val → Label → Object Label
arguments_object number place args label = record (fresh_object class.Arguments (Script number (env_id place)) (Some object_prototype) label label) {
  rows = arguments_rows (record { body = Data (value.Primitive (Num (Int (pos (length args))))); label = label; existence = label; marks = built_in }) (map (data_slot label) args) ++ made_rows label accessor_rows;
}

-- an array: its elements have their labels besides
abbrev pub made_slot : Label → Property → Slot Label
made_slot label p = record { body = p.body; label = label; existence = label; marks = p.marks }

abbrev pub array_object : ℕ → List ℕ → List Val → Label → Object Label
array_object n places vs label = record (fresh_object class.Array Plain (Some array_prototype) label label) { rows = elements_onto ((length_key, made_slot label (length_property n)) ∷ []) places (map (data_slot label) vs) }

-- ---- own properties

-- what an object itself has of a key depends on its existence label, or on the structure label where it hasn't any
abbrev pub own_test : Option (Slot Label) → Label → Label
own_test None structure = structure
own_test (Some s) structure = s.existence

abbrev pub own_walk : List ℕ → Option (Object Label) → Label
own_walk key None = bottom
own_walk key (Some p) = own_test (own key p.rows) p.structure

-- of what the object itself has of a key: the own test tells whether there is a property, and all but its marks depends on its value label besides
abbrev pub part_label : OwnPart → Label → Label
part_label own_marks label = bottom
part_label _ label = label

abbrev pub known_of : OwnPart → Label → Label → Option (Slot Label) → Val
known_of part label structure None = record { value = undefined; label = union label structure }
known_of part label structure (Some p) = record { value = part_of_property part (erased_slot p); label = union (union label p.existence) (part_label part p.label) }

-- ---- definitions

-- the own test of a definition: that an array hasn't an element makes it depend on `length` too (ECMA-262 15.4.5.1, step 4.b)
abbrev pub definition_test : List ℕ → Option (Slot Label) → Object Label → Label
definition_test key None p = union p.structure (element_label (element_of p.class key) (own length_key p.rows))
definition_test key (Some s) p = s.existence

-- the value label of a property that there may be
abbrev pub value_label : Option (Slot Label) → Label
value_label None = bottom
value_label (Some p) = p.label

-- one half of an accessor that stays keeps its label
abbrev pub body_label : Bool → Label → Label → Label
body_label true given old = union given old
body_label false given old = given

-- ---- functions

abbrev pub is_function_in : Option (Object Label) → Bool
is_function_in None = false
is_function_in (Some p) = is_function p.class

abbrev pub is_function_at : List (Object Label) → Value → Bool
is_function_at heap (value.Primitive p) = false
is_function_at heap (value.Object o) = is_function_in (slice_get heap o.0)

-- ---- bound functions

-- a bound function: its `length` depends on the target and on the target's own
abbrev pub length_name : List ℕ
length_name = codes "length"

abbrev pub count_slot : Label → Label → ℕ → Slot Label
count_slot label given n = record { body = (count_property n).body; label = union given label; existence = label; marks = (count_property n).marks }

abbrev pub own_label : Option (Slot Label) → Label → Label
own_label None structure = structure
own_label (Some p) structure = union p.existence p.label

abbrev pub length_label : Option (Object Label) → Label
length_label None = bottom
length_label (Some p) = own_label (own length_name p.rows) p.structure

abbrev pub bound_object : ObjId → Label → Val → List Val → Label → ℕ → Label → Object Label
bound_object target given this args known count label = record (fresh_object class.Function (Bound target given this args) (Some function_prototype) label label) {
  rows = (length_name, count_slot label (union given known) count) ∷ made_rows label function_rows;
}

abbrev pub erased_in : Option (Object Label) → Option PlainObject
erased_in None = None
erased_in (Some p) = Some (erased_object p)

-- what a bound function comes to, and the labels of the targets on the way
pub record Aim : Type 0 where
  pub target : Target Val
  pub label : Label

abbrev pub own_aim : ℕ → Aim
own_aim o = record { target = own_target o; label = bottom }

abbrev pub aim_behind : (ℕ → Aim) → ℕ → Inner Label → Aim
aim_behind next o (Bound target label this args) = let rest = next target.0 in record { target = bound_behind this args rest.target; label = union label rest.label }
aim_behind next o _ = own_aim o

abbrev pub aim_in : (ℕ → Aim) → ℕ → Option (Object Label) → Aim
aim_in next o None = own_aim o
aim_in next o (Some p) = aim_behind next o p.inner

abbrev pub aim_within : List (Object Label) → ℕ → ℕ → Aim
aim_within heap zero o = own_aim o
aim_within heap (suc n) o = aim_in (aim_within heap n) o (slice_get heap o)

abbrev pub aim_of : List (Object Label) → ℕ → Aim
aim_of heap o = aim_within heap (suc o) o
