-- The `length` of an array is given a number.
use Rattle.std.specs.Prelude.{◌<◌, ℕ, pos, Bool, true, false, Option, Some, None, IfSome, slice_get}
use Rattle.std.specs.Option.{option_map}
use Rattle.origin_labels.specs.Label.{Label, bottom, union}
use Rattle.js_number.specs.declared.num.Num.TheVariants.{Int}
use Rattle.js_number.specs.declared.primitive.Primitive.TheVariants.{Num}
use Rattle.js_values.specs.declared.property.Marks.{Marks}
use Rattle.js_values.specs.declared.property.Slot.{Slot}
use Rattle.js_values.specs.declared.value.Value.TheVariants as value
use Rattle.js_values.specs.Arrays.{highest, length_key}
use Rattle.js_values.specs.Objects.{Object, own}
use Rattle.native_protocol.specs.declared.request.ErrorKind.TheVariants as kinds
use Rattle.prototype_walk.specs.KeyLists.{rows_in}
use Rattle.es_meaning.specs.Definitions.{Definition, a_value}
use Rattle.es_meaning.specs.Outcomes.{ret, ◌>>=◌}
use Rattle.es_meaning.specs.Plain.{undefined}
use Rattle.es_meaning.specs.Requested.{behind_length}
use Rattle.flow_meaning.specs.Erased.{erased_slot}
use Rattle.flow_meaning.specs.Requested.{property_in}
use Rattle.flow_meaning.specs.Scopes.{L, Val}
use Rattle.flow_meaning.specs.Tracked.{Cut as TrackedCut, cut_length, delete_element, deleted_within, set_length_to, throw_error}
use Rattle.run_state.specs.declared.outcome.SetLength.{SetLength}
use Rattle.run_state.specs.Accesses.{defines, marks_given}
use Rattle.property_requests.specs.declared.defining.Site.{Site}
use Rattle.property_requests.specs.declared.lengths.Cut.{Cut}
use Rattle.property_requests.specs.declared.lengths.Deletion.{Deletion}
use Rattle.property_requests.specs.declared.lengths.Deletion.TheVariants as deletion
use Rattle.property_requests.specs.Defining.{outline}

-- ---- the number

-- the definition that gives it, and the attributes behind it where it isn't refused
abbrev pub number_definition : SetLength → ℕ → Definition
number_definition how n = record { marks = marks_given how; body = a_value (value.Primitive (Num (Int (pos n)))) }

abbrev pub marks_behind : {T : Type 0} → SetLength → ℕ → Option (Slot T) → Option Marks
marks_behind how n old = option_map (λ q. q.marks) (behind_length (option_map (λ s. erased_slot s) old) (number_definition how n))

-- ---- deletions

-- a label of a store, and an element that has a successor
abbrev pub HasCut : {T : Type 0} → (T → Type 0) → Cut T → Type 0
HasCut made cut = made cut.tested × IfSome cut.stays (λ i. i < 4294967295)

abbrev pub read_cut : {T : Type 0} → (T → Label) → Cut T → TrackedCut
read_cut reading cut = record { stays = cut.stays; tested = reading cut.tested }

-- what one deletion comes to: none is left to do, or others may follow, where these elements were tested
pub data Deleted : Type 0 where
  ended : TrackedCut → Deleted
  further : Label → Deleted

abbrev pub HasDeletion : {T : Type 0} → (T → Type 0) → Deletion T → Type 0
HasDeletion made (deletion.Ended cut) = HasCut made cut
HasDeletion made (deletion.Further tested) = made tested

abbrev pub read_deletion : {T : Type 0} → (T → Label) → Deletion T → Deleted
read_deletion reading (deletion.Ended cut) = ended (read_cut reading cut)
read_deletion reading (deletion.Further tested) = further (reading tested)

-- the highest element at or above a number is deleted, if there is one and it can be
abbrev pub deletion_if : Bool → Label → ℕ → ℕ → Label → L Deleted
deletion_if true label o i tested = delete_element (union label tested) o i >>= λ u. ret (further tested)
deletion_if false label o i tested = ret (ended (record { stays = Some i; tested = tested }))

abbrev pub deletion_at : Option (ℕ × Slot Label) → Label → ℕ → Label → L Deleted
deletion_at None label o tested = ret (ended (record { stays = None; tested = tested }))
deletion_at (Some e) label o tested = deletion_if e.1.marks.configurable label o e.0 (union tested e.1.existence)

unfoldable pub one_deletion : Label → ℕ → ℕ → Label → L Deleted
one_deletion label o n tested s = deletion_at (highest n (rows_in (slice_get s.heap o))) label o tested s

-- ---- the act on an object that is there

-- the deletions in it, and what comes behind them
abbrev pub shortened_by : Label → Label → ℕ → ℕ → Option (ℕ × Label) → L Val
shortened_by place given o n None = ret (record { value = undefined; label = place })
shortened_by place given o n (Some e) = deleted_within e.0 (union place (union given e.1)) o n bottom >>= cut_length place (union given e.1) o n

abbrev pub shortened : Label → Label → ℕ → ℕ → Option (Object Label) → L Val
shortened place given o n found = shortened_by place given o n (outline found)

abbrev pub set_at : {T : Type 0} → (T → Label) → SetLength → Site T → ℕ → Option (Object Label) → L Val
set_at reading how site n None = throw_error kinds.TypeError (union (reading site.place) (reading site.given))
set_at reading how site n (Some p) = set_length_to (defines how) p (reading site.place) (reading site.given) site.object.0 n (behind_length (property_in (own length_key p.rows)) (number_definition how n))
