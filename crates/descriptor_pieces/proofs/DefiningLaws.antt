-- The machine of `defineProperties` takes its steps.
use Rattle.std.proofs.Common.{◌≡◌, ℕ, List, [], ◌∷◌, ◌++◌, refl, ◌∙◌}
use Rattle.native_protocol.specs.declared.progress.Progress.{Progress}
use Rattle.native_protocol.specs.declared.progress.Progress.TheVariants.{Going, Ready}
use Rattle.native_protocol.specs.declared.request.Answer.{Answer}
use Rattle.native_protocol.specs.Running.{carried_on, IsPiece}
use Rattle.native_protocol.specs.Steps.{Steps}
use Rattle.descriptor_pieces.proofs.DescriptorLaws.{descriptor_is}
use Rattle.descriptor_pieces.proofs.LoopLaws.{keys_first, keys_others, turned}
use Rattle.descriptor_pieces.specs.declared.define_properties.DefiningRegisters.{DefiningRegisters}
use Rattle.descriptor_pieces.specs.declared.define_properties.DefiningStage.{DefiningStage}
use Rattle.descriptor_pieces.specs.declared.define_properties.DefiningStage.TheVariants as defining
use Rattle.descriptor_pieces.specs.declared.described.Described.{Described}
use Rattle.descriptor_pieces.specs.declared.key_loop.KeyTurn.{KeyTurn}
use Rattle.descriptor_pieces.specs.declared.key_loop.KeyTurn.TheVariants as turn
use Rattle.descriptor_pieces.specs.declared.key_loop.LastKeys.{LastKeys}
use Rattle.descriptor_pieces.specs.declared.property.Description.{Description}
use Rattle.descriptor_pieces.specs.declared.to_descriptor.ToDescriptor.{ToDescriptor}
use Rattle.descriptor_pieces.specs.Defining.{described, define_in_turn}
use Rattle.descriptor_pieces.specs.DefiningPieces.{asks_in, defining_asks, next_defined, behind_turn, behind_reading, after_in, defining_after, defining_body, defining_end, behind_description, rest_in, defining_rest}
use Rattle.descriptor_pieces.specs.DescriptorPieces.{descriptor_after, descriptor_rest}
use Rattle.descriptor_pieces.specs.LoopPieces.{keys_after, last_turn, turn_rest}

first_in : (r : DefiningRegisters) (kept : List Described) (s : DefiningStage) (next : Unit {0} → Steps) → rest_in r kept s next [] ≡ asks_in r s
first_in r kept (defining.Keys k) next = keys_first k (defining_body r) kept (defining_end r next)
first_in r kept (defining.Get key last) next = refl
first_in r kept (defining.Describe key last reading) next = descriptor_is.first reading (behind_description r kept key last next)
first_in r kept (defining.Define d) next = refl

-- one definition after the other
defined : (r : DefiningRegisters) (kept : List Described) (next : Unit {0} → Steps) (answers : List Answer) → define_in_turn r.object kept (next tt) answers ≡ carried_on defining_rest (next_defined r kept) next answers
unfolding define_in_turn
defined r [] next answers = refl
defined r (d ∷ others) next answers = refl

behind : (r : DefiningRegisters) (kept : List Described) (t : KeyTurn) (next : Unit {0} → Steps) (answers : List Answer) → turn_rest t (defining_body r) kept (defining_end r next) answers ≡ carried_on defining_rest (behind_turn r kept t) next answers
behind r kept (turn.Asks k) next answers = refl
behind r kept (turn.Has key last) next answers = refl
behind r kept turn.Over next answers = defined r kept next answers

behind_read : (r : DefiningRegisters) (kept : List Described) (key : List ℕ) (last : LastKeys) (p : Progress ToDescriptor Description) (next : Unit {0} → Steps) (answers : List Answer) → carried_on descriptor_rest p (behind_description r kept key last next) answers ≡ carried_on defining_rest (behind_reading r kept key last p) next answers
behind_read r kept key last (Going reading) next answers = refl
behind_read r kept key last (Ready d) next answers =
    turned last (defining_body r) (kept ++ described key d ∷ []) (defining_end r next) answers
    ∙ behind r (kept ++ described key d ∷ []) (last_turn last) next answers

others_in : (r : DefiningRegisters) (kept : List Described) (s : DefiningStage) (next : Unit {0} → Steps) (a : Answer) (answers : List Answer) → rest_in r kept s next (a ∷ answers) ≡ carried_on defining_rest (after_in r kept s a) next answers
others_in r kept (defining.Keys k) next a answers = keys_others k (defining_body r) kept (defining_end r next) a answers ∙ behind r kept (keys_after k a) next answers
others_in r kept (defining.Get key last) next a answers = refl
others_in r kept (defining.Describe key last reading) next a answers = descriptor_is.others reading (behind_description r kept key last next) a answers ∙ behind_read r kept key last (descriptor_after reading a) next answers
others_in r kept (defining.Define d) next a answers = defined r kept next answers

pub defining_is : IsPiece defining_asks defining_after defining_rest
defining_is = record { first = λ p next. first_in p.registers p.kept p.stage next; others = λ p next a answers. others_in p.registers p.kept p.stage next a answers }
