-- The machine of `defineProperties`: what each of its states asks for, where an answer leads, and which steps are still to take.
use Rattle.std.specs.Prelude.{ℕ, ◌+◌, ◌*◌, false, List, [], ◌∷◌, ◌++◌, length, Option, Some, None}
use Rattle.native_protocol.specs.declared.progress.Progress.{Progress}
use Rattle.native_protocol.specs.declared.progress.Progress.TheVariants.{Going, Ready}
use Rattle.native_protocol.specs.declared.registers.Reg.{Reg}
use Rattle.native_protocol.specs.declared.request.Answer.{Answer}
use Rattle.native_protocol.specs.declared.request.Request.{Request}
use Rattle.native_protocol.specs.declared.request.Request.TheVariants.{Get}
use Rattle.native_protocol.specs.Steps.{Steps, ask}
use Rattle.descriptor_pieces.specs.declared.define_properties.DefineProperties.{DefineProperties}
use Rattle.descriptor_pieces.specs.declared.define_properties.DefiningRegisters.{DefiningRegisters}
use Rattle.descriptor_pieces.specs.declared.define_properties.DefiningStage.{DefiningStage}
use Rattle.descriptor_pieces.specs.declared.define_properties.DefiningStage.TheVariants as defining
use Rattle.descriptor_pieces.specs.declared.described.Described.{Described}
use Rattle.descriptor_pieces.specs.declared.key_loop.KeyTurn.{KeyTurn}
use Rattle.descriptor_pieces.specs.declared.key_loop.KeyTurn.TheVariants as turn
use Rattle.descriptor_pieces.specs.declared.key_loop.LastKeys.{LastKeys}
use Rattle.descriptor_pieces.specs.declared.property.Description.{Description}
use Rattle.descriptor_pieces.specs.declared.to_descriptor.ToDescriptor.{ToDescriptor}
use Rattle.descriptor_pieces.specs.Defining.{described, description_read, define_in_turn}
use Rattle.descriptor_pieces.specs.DescriptorPieces.{descriptor_begin, descriptor_asks, descriptor_after, descriptor_rest}
use Rattle.descriptor_pieces.specs.LoopPieces.{keys_begin, keys_asks, keys_after, last_turn, last_rest, keys_rest}
use Rattle.descriptor_pieces.specs.Loops.{Body}
use Rattle.descriptor_pieces.specs.Properties.{registers_from, define}

abbrev pub split_first : List Described → Option (Described × List Described)
split_first [] = None
split_first (d ∷ others) = Some (d, others)

abbrev pub defining_at : DefiningRegisters → List Described → DefiningStage → DefineProperties
defining_at r kept s = record { registers = r; kept = kept; stage = s }

abbrev pub registers_of : Reg → Reg → Reg → ℕ → DefiningRegisters
registers_of object properties at first = record { object = object; properties = properties; at = at; first = first }

abbrev pub defining_begin : Reg → Reg → Reg → Reg → Reg → ℕ → DefineProperties
defining_begin object properties list item at first =
    defining_at (registers_of object properties at first) [] (defining.Keys (keys_begin properties false list item))

abbrev pub asks_in : DefiningRegisters → DefiningStage → Request
asks_in r (defining.Keys k) = keys_asks k
asks_in r (defining.Get key last) = Get r.properties key r.at
asks_in r (defining.Describe key last reading) = descriptor_asks reading
asks_in r (defining.Define d) = define r.object d.key d.description

abbrev pub defining_asks : DefineProperties → Request
defining_asks p = asks_in p.registers p.stage

abbrev pub going : DefiningRegisters → List Described → DefiningStage → Progress DefineProperties (Unit {0})
going r kept s = Going (defining_at r kept s)

-- the next definition, if there is one
abbrev pub next_defined : DefiningRegisters → List Described → Progress DefineProperties (Unit {0})
next_defined r [] = Ready tt
next_defined r (d ∷ others) = going r others (defining.Define d)

-- the next key, or the first definition
abbrev pub behind_turn : DefiningRegisters → List Described → KeyTurn → Progress DefineProperties (Unit {0})
behind_turn r kept (turn.Asks k) = going r kept (defining.Keys k)
behind_turn r kept (turn.Has key last) = going r kept (defining.Get key last)
behind_turn r kept turn.Over = next_defined r kept

-- what stands at a key is read into the registers behind those of the keys before it
abbrev pub description_begun : DefiningRegisters → List Described → List ℕ → LastKeys → DefiningStage
description_begun r kept key last = defining.Describe key last (descriptor_begin r.at (registers_from (r.first + 4 * length kept)))

-- a description that is read is kept with its key
abbrev pub behind_reading : DefiningRegisters → List Described → List ℕ → LastKeys → Progress ToDescriptor Description → Progress DefineProperties (Unit {0})
behind_reading r kept key last (Going reading) = going r kept (defining.Describe key last reading)
behind_reading r kept key last (Ready d) = behind_turn r (kept ++ described key d ∷ []) (last_turn last)

abbrev pub after_in : DefiningRegisters → List Described → DefiningStage → Answer → Progress DefineProperties (Unit {0})
after_in r kept (defining.Keys k) a = behind_turn r kept (keys_after k a)
after_in r kept (defining.Get key last) a = going r kept (description_begun r kept key last)
after_in r kept (defining.Describe key last reading) a = behind_reading r kept key last (descriptor_after reading a)
after_in r kept (defining.Define d) a = next_defined r kept

abbrev pub defining_after : DefineProperties → Answer → Progress DefineProperties (Unit {0})
defining_after p a = after_in p.registers p.kept p.stage a

-- ---- what is still to do: with a key, at the end, and behind a key

abbrev pub defining_body : DefiningRegisters → Body (List Described)
defining_body r = description_read r.properties r.at r.first

abbrev pub defining_end : DefiningRegisters → (Unit {0} → Steps) → List Described → Steps
defining_end r next all = define_in_turn r.object all (next tt)

abbrev pub defining_on : DefiningRegisters → LastKeys → (Unit {0} → Steps) → List Described → Steps
defining_on r last next = last_rest last (defining_body r) (defining_end r next)

abbrev pub behind_description : DefiningRegisters → List Described → List ℕ → LastKeys → (Unit {0} → Steps) → Description → Steps
behind_description r kept key last next d = defining_on r last next (kept ++ described key d ∷ [])

abbrev pub rest_in : DefiningRegisters → List Described → DefiningStage → (Unit {0} → Steps) → Steps
rest_in r kept (defining.Keys k) next = keys_rest k (defining_body r) kept (defining_end r next)
rest_in r kept (defining.Get key last) next = defining_body r key kept (defining_on r last next)
rest_in r kept (defining.Describe key last reading) next = descriptor_rest reading (behind_description r kept key last next)
rest_in r kept (defining.Define d) next = ask (define r.object d.key d.description) (define_in_turn r.object kept (next tt))

abbrev pub defining_rest : DefineProperties → (Unit {0} → Steps) → Steps
defining_rest p next = rest_in p.registers p.kept p.stage next
