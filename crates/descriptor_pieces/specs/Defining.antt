-- How `defineProperties` goes over the descriptions of properties (ECMA-262 15.2.3.7), and `create` with them (15.2.3.5 step 4).
use Rattle.std.specs.Prelude.{ℕ, ◌+◌, ◌*◌, false, List, [], ◌∷◌, ◌++◌, length}
use Rattle.native_protocol.specs.declared.registers.Reg.{Reg}
use Rattle.native_protocol.specs.declared.request.Request.TheVariants.{Get}
use Rattle.native_protocol.specs.Steps.{Steps, ask}
use Rattle.descriptor_pieces.specs.declared.described.Described.{Described}
use Rattle.descriptor_pieces.specs.declared.property.Description.{Description}
use Rattle.descriptor_pieces.specs.Descriptors.{to_descriptor}
use Rattle.descriptor_pieces.specs.Loops.{Body, each_key}
use Rattle.descriptor_pieces.specs.Properties.{registers_from, define}

-- a key with its description
abbrev pub described : List ℕ → Description → Described
described key d = record { key = key; description = d }

-- step 5: each description is read into four registers of its own, which stand one behind the other from a first one on
abbrev pub description_read : Reg → Reg → ℕ → Body (List Described)
description_read properties at first key sofar next =
    ask (Get properties key at) (to_descriptor at (registers_from (first + 4 * length sofar)) (λ d. next (sofar ++ described key d ∷ [])))

-- step 6
unfoldable pub define_in_turn : Reg → List Described → Steps → Steps
define_in_turn object [] next = next
define_in_turn object (d ∷ others) next = ask (define object d.key d.description) (define_in_turn object others next)

-- steps 3 to 6, for what the enumerable own properties of an object describe, each of which is put into one register to be read
abbrev pub define_properties : Reg → Reg → Reg → Reg → Reg → ℕ → Steps → Steps
define_properties object properties list item at first next =
    each_key properties false list item (description_read properties at first) [] (λ all. define_in_turn object all next)
