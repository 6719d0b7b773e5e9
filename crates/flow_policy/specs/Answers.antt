-- Answers of readers, which may want memory.
use Rattle.std.specs.Prelude.{◌≡◌, ℕ, Bool, true, false, List, [], ◌∷◌, ◌++◌, Some, None, Result, Ok, Err, slice_index_or}
use Rattle.origin_labels.specs.Label.{Label, has}
use Rattle.std.specs.List.{position}
use Rattle.origin_labels.specs.Names.{same_name, place_of}
use Rattle.flow_policy.specs.declared.policy.Channel.{Channel}
use Rattle.flow_policy.specs.declared.fault.PolicyKind.{PolicyKind}
use Rattle.flow_policy.specs.declared.fault.PolicyKind.TheVariants.{Unknown}
use Rattle.flow_policy.specs.declared.fault.PolicyFault.{PolicyFault}
use Rattle.flow_policy.specs.declared.fault.PolicyFault.TheVariants as policy
use Rattle.flow_policy.specs.declared.fault.LineFault.{LineFault}
use Rattle.flow_policy.specs.declared.fault.LineFault.TheVariants as line
use Rattle.flow_policy.specs.declared.fault.InputKind.{InputKind}
use Rattle.flow_policy.specs.declared.fault.InputFault.{InputFault}
use Rattle.flow_policy.specs.declared.fault.InputFault.TheVariants as input
use Rattle.flow_policy.specs.Lists.{are_declared, label_in}
use Rattle.flow_policy.specs.Policies.{Tables, BadLine}
use Rattle.flow_policy.specs.Inputs.{Given, fault_of_line, channel_in, text_in}

-- what reading a policy gave is what it should give, unless memory ran out
abbrev pub GivesPolicy : Result Tables PolicyFault → Result Tables (BadLine PolicyKind) → Type 0
GivesPolicy (Ok tables) read = read ≡ Ok tables
GivesPolicy (Err (policy.Bad line kind)) read = read ≡ Err (record { line = line; kind = kind })
GivesPolicy (Err policy.OutOfMemory) read = Unit {0}

-- the same of an input
abbrev pub GivesInputs : Result Given InputFault → Result Given (BadLine InputKind) → Type 0
GivesInputs (Ok given) read = read ≡ Ok given
GivesInputs (Err (input.Bad line kind)) read = read ≡ Err (record { line = line; kind = kind })
GivesInputs (Err input.OutOfMemory) read = Unit {0}

-- what is wrong with a line, if memory did not run out
abbrev pub FailsLine : {A : Type 0} → LineFault → Result A PolicyKind → Type 0
FailsLine (line.Bad kind) read = read ≡ Err kind
FailsLine line.OutOfMemory read = Unit {0}

-- what a line left is what it should leave, unless memory ran out
abbrev pub LeavesTables : Result (Unit {0}) LineFault → Tables → Result Tables PolicyKind → Type 0
LeavesTables (Ok done) after read = read ≡ Ok after
LeavesTables (Err fault) after read = FailsLine fault read

-- the name of a further origin
abbrev pub GivesOrigin : Result (List ℕ) LineFault → List (List ℕ) → Result (List (List ℕ)) PolicyKind → Type 0
GivesOrigin (Ok name) origins read = read ≡ Ok (origins ++ name ∷ [])
GivesOrigin (Err fault) origins read = FailsLine fault read

-- a further channel
abbrev pub GivesChannel : Result Channel LineFault → List Channel → Result (List Channel) PolicyKind → Type 0
GivesChannel (Ok channel) channels read = read ≡ Ok (channels ++ channel ∷ [])
GivesChannel (Err fault) channels read = FailsLine fault read

-- the place of a name that is a declared origin
abbrev pub FindsOrigin : Result ℕ LineFault → List (List ℕ) → List ℕ → Type 0
FindsOrigin (Ok origin) origins name = place_of name origins ≡ Some origin
FindsOrigin (Err (line.Bad kind)) origins name = (kind ≡ Unknown) × (place_of name origins ≡ None)
FindsOrigin (Err line.OutOfMemory) origins name = Unit {0}

-- a mark for each origin of a list of declared origins
abbrev pub MarksOrigins : Result (List Bool) LineFault → List (List ℕ) → List ℕ → Type 0
MarksOrigins (Ok marks) origins list = (are_declared origins list ≡ true) × ((k : ℕ) → slice_index_or marks k false ≡ has k (label_in origins list))
MarksOrigins (Err (line.Bad kind)) origins list = (kind ≡ Unknown) × (are_declared origins list ≡ false)
MarksOrigins (Err line.OutOfMemory) origins list = Unit {0}

-- the set of a list of declared origins
abbrev pub GivesLabel : Result Label LineFault → List (List ℕ) → List ℕ → Type 0
GivesLabel (Ok label) origins list = (are_declared origins list ≡ true) × (label ≡ label_in origins list)
GivesLabel (Err (line.Bad kind)) origins list = (kind ≡ Unknown) × (are_declared origins list ≡ false)
GivesLabel (Err line.OutOfMemory) origins list = Unit {0}

-- the number of a line's channel, which is the first of its name, and the line's text
abbrev pub ReadsLine : Result (ℕ × List ℕ) InputFault → ℕ → List Channel → List ℕ → Type 0
ReadsLine (Ok read) number channels bytes = (fault_of_line channels bytes ≡ None) × (position (λ c. same_name c.name (channel_in bytes)) channels ≡ Some read.0) × (read.1 ≡ text_in bytes)
ReadsLine (Err (input.Bad at kind)) number channels bytes = (at ≡ number) × (fault_of_line channels bytes ≡ Some kind)
ReadsLine (Err input.OutOfMemory) number channels bytes = Unit {0}
