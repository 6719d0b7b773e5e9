-- The functions that the product adds to the language: under which names they stand, and with how many arguments.
use Rattle.std.specs.Prelude.{ℕ, ◌==◌, List, [], ◌∷◌, codes, if◌then◌else◌}
use Rattle.channels.specs.declared.state.BuiltIn.{BuiltIn}
use Rattle.channels.specs.declared.state.BuiltIn.TheVariants as built_in
use Rattle.native_protocol.specs.declared.natives.Form.TheVariants.{Function}
use Rattle.native_protocol.specs.Sets.{SeenEntry, seen_entry}

abbrev pub function : List ℕ → ℕ → SeenEntry
function name size = seen_entry (codes "global") name size Function

abbrev pub channel_entries : List SeenEntry
channel_entries =
    function (codes "read") 1
    ∷ function (codes "print") 2
    ∷ function (codes "lbl") 1
    ∷ function (codes "upgs") 1
    ∷ function (codes "upge") 2
    ∷ []

-- the built-in of a number
abbrev pub built_in_at : ℕ → BuiltIn
built_in_at which =
    if which == 0 then built_in.Read
    else (if which == 1 then built_in.Print
    else (if which == 2 then built_in.Lbl
    else (if which == 3 then built_in.Upgs
    else built_in.Upge)))
