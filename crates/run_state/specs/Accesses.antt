-- What reads, puts and definitions come to, as the meaning has it.
use Rattle.std.specs.Prelude.{◌≡◌, Bool, true, false}
use Rattle.origin_labels.specs.Label.{Label}
use Rattle.js_values.specs.Readings.{IsReading, HasValue, read_value}
use Rattle.native_protocol.specs.declared.request.GivenMarks.{GivenMarks}
use Rattle.es_meaning.specs.Requested.{no_marks}
use Rattle.flow_meaning.specs.Tracked as tracked
use Rattle.flow_meaning.specs.Tracked.{has_value, has_getter, is_put, has_setter, has_length, is_defined, has_length_given}
use Rattle.run_state.specs.declared.outcome.Access.{Access}
use Rattle.run_state.specs.declared.outcome.Access.TheVariants as access
use Rattle.run_state.specs.declared.outcome.Putting.{Putting}
use Rattle.run_state.specs.declared.outcome.Putting.TheVariants as putting
use Rattle.run_state.specs.declared.outcome.Defining.{Defining}
use Rattle.run_state.specs.declared.outcome.Defining.TheVariants as defining
use Rattle.run_state.specs.declared.outcome.SetLength.{SetLength}
use Rattle.run_state.specs.declared.outcome.SetLength.TheVariants as setting

-- in a reading of the labels
abbrev pub read_access : {T : Type 0} → (T → Label) → Access T → tracked.Access
read_access reading (access.Value v) = has_value (read_value reading v)
read_access reading (access.Getter label f this) = has_getter (reading label) f (read_value reading this)

abbrev pub read_putting : {T : Type 0} → (T → Label) → Putting T → tracked.Putting
read_putting reading putting.Put = is_put
read_putting reading (putting.Setter label f this) = has_setter (reading label) f (read_value reading this)
read_putting reading (putting.Length label array) = has_length (reading label) array.0

abbrev pub read_defining : {T : Type 0} → (T → Label) → Defining T → tracked.Defining
read_defining reading (defining.Defined label) = is_defined (reading label)
read_defining reading (defining.Length label array marks) = has_length_given (reading label) array.0 marks

-- each label has a property, as to be made by a store
abbrev pub HasAccess : {T : Type 0} → (T → Type 0) → Access T → Type 0
HasAccess made (access.Value v) = HasValue made v
HasAccess made (access.Getter label f this) = made label × HasValue made this

abbrev pub HasPutting : {T : Type 0} → (T → Type 0) → Putting T → Type 0
HasPutting made putting.Put = Unit {0}
HasPutting made (putting.Setter label f this) = made label × HasValue made this
HasPutting made (putting.Length label array) = made label

abbrev pub HasDefining : {T : Type 0} → (T → Type 0) → Defining T → Type 0
HasDefining made (defining.Defined label) = made label
HasDefining made (defining.Length label array marks) = made label

-- a read comes to this in each reading that agrees with the store
pub record IsAccess {S T : Type 0} (made : S → T → Type 0) (meaning : S → T → Label) (store : S) (means : (T → Label) → tracked.Access) (a : Access T) : Type 0 where
  pub belongs : HasAccess (made store) a
  pub is : (reading : T → Label) → IsReading made meaning store reading → read_access reading a ≡ means reading

-- how the `length` of an array is set: whether by a definition, and with which attributes
abbrev pub defines : SetLength → Bool
defines setting.Put = false
defines (setting.Define marks) = true

abbrev pub marks_given : SetLength → GivenMarks
marks_given setting.Put = no_marks
marks_given (setting.Define marks) = marks
