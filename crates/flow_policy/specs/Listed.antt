-- What a list of origins gives that is no part of a policy.
use Rattle.std.specs.Prelude.{◌≡◌, ℕ, not, List, Option, Some, None, Result, Ok, Err, if◌then◌else◌}
use Rattle.std.specs.List.{position}
use Rattle.origin_labels.specs.Label.{Label}
use Rattle.origin_labels.specs.Names.{has_name, place_of}
use Rattle.flow_policy.specs.declared.fault.ListFault.{ListFault}
use Rattle.flow_policy.specs.declared.fault.ListFault.TheVariants.{Form, Unknown, OutOfMemory}
use Rattle.flow_lists.specs.Lists.{names_in, are_names}
use Rattle.flow_policy.specs.Lists.{label_in}

-- the number of the first name that is no declared origin
abbrev pub unknown_in : List (List ℕ) → List ℕ → Option ℕ
unknown_in origins list = position (λ name. not (has_name name origins)) (names_in list)

-- the label, unless a name is unknown
abbrev pub unless_unknown : Option ℕ → Label → Result Label ListFault
unless_unknown (Some which) label = Err (Unknown which)
unless_unknown None label = Ok label

-- the label of a list of declared origins, or the first fault that applies
unfoldable pub list_of : List (List ℕ) → List ℕ → Result Label ListFault
list_of origins list = if not (are_names list) then Err Form else unless_unknown (unknown_in origins list) (label_in origins list)

-- what reading a list gave is what it should give, unless memory ran out
abbrev pub GivesList : Result Label ListFault → Result Label ListFault → Type 0
GivesList (Ok label) read = read ≡ Ok label
GivesList (Err Form) read = read ≡ Err Form
GivesList (Err (Unknown which)) read = read ≡ Err (Unknown which)
GivesList (Err OutOfMemory) read = Unit {0}

-- the place of the name with this number, where it is a declared origin
abbrev pub FindsNumber : Result ℕ ListFault → ℕ → List (List ℕ) → List ℕ → Type 0
FindsNumber (Ok number) which origins name = place_of name origins ≡ Some number
FindsNumber (Err Form) which origins name = ⊥
FindsNumber (Err (Unknown at)) which origins name = (at ≡ which) × (place_of name origins ≡ None)
FindsNumber (Err OutOfMemory) which origins name = Unit {0}

-- why a list's names have no numbers, if memory did not run out
abbrev pub FailsNumbers : ListFault → Option ℕ → Type 0
FailsNumbers Form unknown = ⊥
FailsNumbers (Unknown which) unknown = unknown ≡ Some which
FailsNumbers OutOfMemory unknown = Unit {0}
