-- The machine of `isPrototypeOf`.
use Rattle.std.specs.Prelude.{ℕ, Bool, true, false, if◌then◌else◌}
use Rattle.js_number.specs.declared.primitive.Primitive.TheVariants as prims
use Rattle.native_protocol.specs.Steps.{Steps, ask, look, is_object, reg, seen_in}
use Rattle.native_protocol.specs.declared.progress.Progress.TheVariants.{Going, Ready}
use Rattle.native_protocol.specs.declared.progress.Progress.{Progress}
use Rattle.native_protocol.specs.declared.registers.Reg.{Reg}
use Rattle.native_protocol.specs.declared.request.Answer.{Answer}
use Rattle.native_protocol.specs.declared.request.Request.TheVariants.{Look, Proto, Same}
use Rattle.native_protocol.specs.declared.request.Request.{Request}
use Rattle.object_functions.specs.Kinds.{this_object}
use Rattle.object_functions.specs.Needs.{unless_converted, ready_or}
use Rattle.object_functions.specs.Prototypes.{gives_truth, same_seen, prototype_seen, next_prototype}
use Rattle.object_functions.specs.Registers.{registers}
use Rattle.object_functions.specs.Repeating.{repeats}
use Rattle.object_functions.specs.declared.ancestor.AncestorCall.{AncestorCall}
use Rattle.object_functions.specs.declared.ancestor.AncestorStage.TheVariants as stage
use Rattle.object_functions.specs.declared.ancestor.AncestorStage.{AncestorStage}
use Rattle.primitive_natives.specs.declared.ending.Ending.TheVariants as ending
use Rattle.primitive_natives.specs.declared.ending.Ending.{Ending}
use Rattle.descriptor_pieces.specs.Looks.{is_true}

abbrev pub ancestor : Reg → AncestorStage → AncestorCall
ancestor to s = record { to = to; stage = s }

abbrev pub ancestor_begin : ℕ → AncestorCall
ancestor_begin argc = ancestor (registers argc).first stage.LookValue

abbrev pub ancestor_asks_in : Reg → AncestorStage → Request
ancestor_asks_in to stage.LookValue = Look (reg 2)
ancestor_asks_in to stage.LookThis = Look (reg 0)
ancestor_asks_in to stage.Proto = Proto (reg 2) (reg 2)
ancestor_asks_in to stage.LookProto = Look (reg 2)
ancestor_asks_in to stage.Same = Same (reg 0) (reg 2) to
ancestor_asks_in to stage.LookSame = Look to

abbrev pub ancestor_asks : AncestorCall → Request
ancestor_asks c = ancestor_asks_in c.to c.stage

abbrev pub truth_ends : Bool → Reg → Ending
truth_ends b to = ending.Give (prims.Bool b) to

-- it goes on with an object, and else it isn't a prototype
abbrev pub with_object : Bool → Reg → AncestorStage → Progress AncestorCall Ending
with_object is to s = if is then Going (ancestor to s) else Ready (truth_ends false to)

abbrev pub until_same : Bool → Reg → Progress AncestorCall Ending
until_same same to = if same then Ready (truth_ends true to) else Going (ancestor to stage.Proto)

abbrev pub ancestor_after_in : Reg → AncestorStage → Answer → Progress AncestorCall Ending
ancestor_after_in to stage.LookValue a = with_object (is_object (seen_in a)) to stage.LookThis
ancestor_after_in to stage.LookThis a = ready_or (unless_converted (seen_in a)) (ancestor to stage.Proto)
ancestor_after_in to stage.Proto a = Going (ancestor to stage.LookProto)
ancestor_after_in to stage.LookProto a = with_object (is_object (seen_in a)) to stage.Same
ancestor_after_in to stage.Same a = Going (ancestor to stage.LookSame)
ancestor_after_in to stage.LookSame a = until_same (is_true (seen_in a)) to

abbrev pub ancestor_after : AncestorCall → Answer → Progress AncestorCall Ending
ancestor_after c a = ancestor_after_in c.to c.stage a

-- ---- which steps are still to take

abbrev pub again : Reg → Steps
again to = repeats (next_prototype to)

abbrev pub ancestor_rest_in : Reg → AncestorStage → Steps
ancestor_rest_in to stage.LookValue = look (reg 2) (λ v. if is_object v then this_object (again to) else gives_truth false to)
ancestor_rest_in to stage.LookThis = this_object (again to)
ancestor_rest_in to stage.Proto = again to
ancestor_rest_in to stage.LookProto = prototype_seen to (again to)
ancestor_rest_in to stage.Same = ask (Same (reg 0) (reg 2) to) (same_seen to (again to))
ancestor_rest_in to stage.LookSame = same_seen to (again to)

abbrev pub ancestor_rest : AncestorCall → Steps
ancestor_rest c = ancestor_rest_in c.to c.stage
