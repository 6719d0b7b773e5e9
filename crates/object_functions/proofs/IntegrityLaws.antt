-- The machine of `seal`, `freeze`, `isSealed` and `isFrozen` takes their steps.
use Rattle.std.proofs.Common.{◌≡◌, ℕ, Bool, List, [], ◌∷◌, refl, ◌∙◌}
use Rattle.js_number.specs.declared.primitive.Primitive.TheVariants as prims
use Rattle.native_protocol.specs.Running.{carried_on}
use Rattle.native_protocol.specs.Steps.{reg, seen_in}
use Rattle.native_protocol.specs.declared.progress.Progress.TheVariants.{Going, Ready}
use Rattle.native_protocol.specs.declared.progress.Progress.{Progress}
use Rattle.native_protocol.specs.declared.request.Answer.{Answer}
use Rattle.object_functions.proofs.NeedsLaws.{object_needed}
use Rattle.object_functions.specs.IntegrityMachine.{integrity_at, integrity_begin, integrity_asks_in, integrity_asks, object_found, fixed_or_on, tested_or_on, integrity_after_in, integrity_after, integrity_rest_in, integrity_rest, integrity_clause}
use Rattle.object_functions.specs.Properties.{returns}
use Rattle.object_functions.specs.declared.integrity.IntegrityFunction.TheVariants as function
use Rattle.object_functions.specs.declared.integrity.IntegrityFunction.{IntegrityFunction}
use Rattle.object_functions.specs.declared.integrity.IntegrityStage.TheVariants as stage
use Rattle.object_functions.specs.declared.integrity.IntegrityStage.{IntegrityStage}
use Rattle.object_functions.specs.declared.registers.Registers.{Registers}
use Rattle.primitive_natives.specs.Endings.{gives}
use Rattle.primitive_natives.specs.Machines.{until_end, IsMachine}
use Rattle.descriptor_pieces.proofs.FixingLaws.{fixing_is, testing_is}
use Rattle.descriptor_pieces.specs.FixingPieces.{fixing_after, fixing_rest, testing_after, testing_rest}
use Rattle.descriptor_pieces.specs.declared.property.Integrity.TheVariants.{Sealed, Frozen}
use Rattle.descriptor_pieces.specs.declared.set_integrity.SetIntegrity.{SetIntegrity}
use Rattle.descriptor_pieces.specs.declared.test_integrity.TestIntegrity.{TestIntegrity}

first_asked : (r : Registers) (s : IntegrityStage) → integrity_rest_in r s [] ≡ integrity_asks_in s
first_asked r (stage.LookObject f) = refl
first_asked r (stage.Fix fixing) = fixing_is.first fixing (λ u. returns (reg 2))
first_asked r (stage.Test testing) = testing_is.first testing (λ b. gives (prims.Bool b) r.third)

fixed_joins : (r : Registers) (p : Progress SetIntegrity (Unit {0})) (answers : List Answer) → carried_on fixing_rest p (λ u. returns (reg 2)) answers ≡ until_end integrity_rest (fixed_or_on r p) answers
fixed_joins r (Going fixing) answers = refl
fixed_joins r (Ready u) answers = refl

tested_joins : (r : Registers) (p : Progress TestIntegrity Bool) (answers : List Answer) → carried_on testing_rest p (λ b. gives (prims.Bool b) r.third) answers ≡ until_end integrity_rest (tested_or_on r p) answers
tested_joins r (Going testing) answers = refl
tested_joins r (Ready b) answers = refl

others_asked : (r : Registers) (s : IntegrityStage) (a : Answer) (answers : List Answer) → integrity_rest_in r s (a ∷ answers) ≡ until_end integrity_rest (integrity_after_in r s a) answers
others_asked r (stage.LookObject (function.Set i)) a answers = object_needed integrity_rest (seen_in a) (integrity_at r (object_found (function.Set i) r)) answers
others_asked r (stage.LookObject (function.Test i)) a answers = object_needed integrity_rest (seen_in a) (integrity_at r (object_found (function.Test i) r)) answers
others_asked r (stage.Fix fixing) a answers = fixing_is.others fixing (λ u. returns (reg 2)) a answers ∙ fixed_joins r (fixing_after fixing a) answers
others_asked r (stage.Test testing) a answers = testing_is.others testing (λ b. gives (prims.Bool b) r.third) a answers ∙ tested_joins r (testing_after testing a) answers

pub integrity_machine : IsMachine integrity_asks integrity_after integrity_rest
integrity_machine = record { first = λ c. first_asked c.registers c.stage; others = λ c a answers. others_asked c.registers c.stage a answers }

pub integrity_begins : (f : IntegrityFunction) (argc : ℕ) (answers : List Answer) → integrity_rest (integrity_begin f argc) answers ≡ integrity_clause f argc answers
integrity_begins (function.Set Sealed) argc answers = refl
integrity_begins (function.Set Frozen) argc answers = refl
integrity_begins (function.Test Sealed) argc answers = refl
integrity_begins (function.Test Frozen) argc answers = refl
