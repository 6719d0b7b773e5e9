-- What is done with records of variables, and the flow rule of an assignment. The labels are sets of origins here.
use Rattle.std.specs.Prelude.{ℕ, List, [], ◌∷◌, ◌++◌, Option, Some, None, slice_get, set, if◌then◌else◌}
use Rattle.origin_labels.specs.Label.{Label, union, within}
use Rattle.flow_frames.specs.declared.faults.Rule.TheVariants.{W1}
use Rattle.flow_frames.specs.declared.faults.FlowStop.{FlowStop}
use Rattle.js_values.specs.declared.ids.EnvId.{EnvId}
use Rattle.js_values.specs.declared.value.Labelled.{Labelled}
use Rattle.js_values.specs.Records.{Binding, Record, rebound, bound_in}

-- the records with a new one, which has no bindings (ECMA-262 10.2.2.2)
abbrev pub new_record : {V : Type 0} → Option EnvId → List (Record V) → List (Record V)
new_record outer records = records ++ record { outer = outer; bindings = [] } ∷ []

-- ---- a binding more in the record with this number (ECMA-262 10.2.1.1.2)

abbrev pub bound_in_record : {V : Type 0} → Option (Record V) → ℕ → Binding V → List (Record V) → List (Record V)
bound_in_record None i b records = records
bound_in_record (Some r) i b records = set records i (record r { bindings = r.bindings ++ b ∷ [] })

abbrev pub bind : {V : Type 0} → ℕ → Binding V → List (Record V) → List (Record V)
bind i b records = bound_in_record (slice_get records i) i b records

-- ---- another value for a name in the record with this number (ECMA-262 10.2.1.1.3)

abbrev pub put_in_record : {V : Type 0} → Option (Record V) → ℕ → List ℕ → V → List (Record V) → List (Record V)
put_in_record None i name v records = records
put_in_record (Some r) i name v records = set records i (record r { bindings = rebound name v r.bindings })

abbrev pub put : {V : Type 0} → ℕ → List ℕ → V → List (Record V) → List (Record V)
put i name v records = put_in_record (slice_get records i) i name v records

-- ---- assignment, by rule W1: the context is included in the binding's label, and the value's label has it besides

abbrev pub Variables : Type 0
Variables = List (Record (Labelled Label))

-- an assignment is done, or it isn't: the binding can't be changed, or the rule is broken
pub data Assigned : Type 0 where
  done : Variables → Assigned
  immutable : Assigned
  stopped : FlowStop Label → Assigned

-- goes on where the context is included in the binding's label
abbrev pub under_assignment : Label → Label → Assigned → Assigned
under_assignment need have go_on = if within need have then go_on else stopped (record { rule = W1; need = need; have = have })

abbrev pub joined : Label → Labelled Label → Labelled Label
joined label v = record { value = v.value; label = union v.label label }

-- a binding that can't be changed comes before the rule, and where there is no binding nothing is done
abbrev pub assigned : Option (Binding (Labelled Label)) → ℕ → List ℕ → Label → Labelled Label → Variables → Assigned
assigned None i name context v records = done records
assigned (Some b) i name context v records = if b.mutable then under_assignment context b.value.label (done (put i name (joined context v) records)) else immutable

abbrev pub assign : ℕ → List ℕ → Label → Labelled Label → Variables → Assigned
assign i name context v records = assigned (bound_in name (slice_get records i)) i name context v records
