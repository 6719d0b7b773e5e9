-- The machine of `seal`, `freeze`, `isSealed` and `isFrozen`.
use Rattle.std.specs.Prelude.{ℕ, Bool}
use Rattle.js_number.specs.declared.primitive.Primitive.TheVariants as prims
use Rattle.native_protocol.specs.Steps.{Steps, reg, seen_in}
use Rattle.native_protocol.specs.declared.progress.Progress.TheVariants.{Going, Ready}
use Rattle.native_protocol.specs.declared.progress.Progress.{Progress}
use Rattle.native_protocol.specs.declared.request.Answer.{Answer}
use Rattle.native_protocol.specs.declared.request.Request.TheVariants.{Look}
use Rattle.native_protocol.specs.declared.request.Request.{Request}
use Rattle.object_functions.specs.Kinds.{object_argument}
use Rattle.object_functions.specs.Needs.{unless_object, ready_or}
use Rattle.object_functions.specs.Properties.{returns, fixed_and_returned, integrity_told, seal, freeze, is_sealed, is_frozen}
use Rattle.object_functions.specs.Registers.{registers}
use Rattle.object_functions.specs.declared.integrity.IntegrityCall.{IntegrityCall}
use Rattle.object_functions.specs.declared.integrity.IntegrityFunction.TheVariants as function
use Rattle.object_functions.specs.declared.integrity.IntegrityFunction.{IntegrityFunction}
use Rattle.object_functions.specs.declared.integrity.IntegrityStage.TheVariants as stage
use Rattle.object_functions.specs.declared.integrity.IntegrityStage.{IntegrityStage}
use Rattle.object_functions.specs.declared.registers.Registers.{Registers}
use Rattle.primitive_natives.specs.Endings.{gives}
use Rattle.primitive_natives.specs.declared.ending.Ending.TheVariants as ending
use Rattle.primitive_natives.specs.declared.ending.Ending.{Ending}
use Rattle.descriptor_pieces.specs.FixingPieces.{fixing_begin, fixing_asks, fixing_after, fixing_rest, testing_begin, testing_asks, testing_after, testing_rest}
use Rattle.descriptor_pieces.specs.declared.property.Integrity.TheVariants.{Sealed, Frozen}
use Rattle.descriptor_pieces.specs.declared.set_integrity.SetIntegrity.{SetIntegrity}
use Rattle.descriptor_pieces.specs.declared.test_integrity.TestIntegrity.{TestIntegrity}

abbrev pub integrity_at : Registers → IntegrityStage → IntegrityCall
integrity_at r s = record { registers = r; stage = s }

abbrev pub integrity_begin : IntegrityFunction → ℕ → IntegrityCall
integrity_begin f argc = integrity_at (registers argc) (stage.LookObject f)

abbrev pub integrity_asks_in : IntegrityStage → Request
integrity_asks_in (stage.LookObject f) = Look (reg 2)
integrity_asks_in (stage.Fix fixing) = fixing_asks fixing
integrity_asks_in (stage.Test testing) = testing_asks testing

abbrev pub integrity_asks : IntegrityCall → Request
integrity_asks c = integrity_asks_in c.stage

abbrev pub object_found : IntegrityFunction → Registers → IntegrityStage
object_found (function.Set i) r = stage.Fix (fixing_begin i (reg 2) r.first r.second r.own)
object_found (function.Test i) r = stage.Test (testing_begin i (reg 2) r.first r.second r.own)

abbrev pub fixed_or_on : Registers → Progress SetIntegrity (Unit {0}) → Progress IntegrityCall Ending
fixed_or_on r (Going fixing) = Going (integrity_at r (stage.Fix fixing))
fixed_or_on r (Ready u) = Ready (ending.Return (reg 2))

abbrev pub tested_or_on : Registers → Progress TestIntegrity Bool → Progress IntegrityCall Ending
tested_or_on r (Going testing) = Going (integrity_at r (stage.Test testing))
tested_or_on r (Ready b) = Ready (ending.Give (prims.Bool b) r.third)

abbrev pub integrity_after_in : Registers → IntegrityStage → Answer → Progress IntegrityCall Ending
integrity_after_in r (stage.LookObject f) a = ready_or (unless_object (seen_in a)) (integrity_at r (object_found f r))
integrity_after_in r (stage.Fix fixing) a = fixed_or_on r (fixing_after fixing a)
integrity_after_in r (stage.Test testing) a = tested_or_on r (testing_after testing a)

abbrev pub integrity_after : IntegrityCall → Answer → Progress IntegrityCall Ending
integrity_after c a = integrity_after_in c.registers c.stage a

-- ---- which steps are still to take

abbrev pub found_rest : IntegrityFunction → Registers → Steps
found_rest (function.Set i) r = fixed_and_returned i r
found_rest (function.Test i) r = integrity_told i r

abbrev pub integrity_rest_in : Registers → IntegrityStage → Steps
integrity_rest_in r (stage.LookObject f) = object_argument (found_rest f r)
integrity_rest_in r (stage.Fix fixing) = fixing_rest fixing (λ u. returns (reg 2))
integrity_rest_in r (stage.Test testing) = testing_rest testing (λ b. gives (prims.Bool b) r.third)

abbrev pub integrity_rest : IntegrityCall → Steps
integrity_rest c = integrity_rest_in c.registers c.stage

-- the clause of each
abbrev pub integrity_clause : IntegrityFunction → ℕ → Steps
integrity_clause (function.Set Sealed) argc = seal argc
integrity_clause (function.Set Frozen) argc = freeze argc
integrity_clause (function.Test Sealed) argc = is_sealed argc
integrity_clause (function.Test Frozen) argc = is_frozen argc
