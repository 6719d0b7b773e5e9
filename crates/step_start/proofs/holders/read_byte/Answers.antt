use Rattle.std.proofs.Common.{sym, ap, ◌∙◌, [], ◌∷◌, ◌++◌}
use Rattle.js_values.specs.Objects.{number_of}
use Rattle.step_start.proofs.HolderLaws.{reads_dot, reads_more}
use Rattle.step_start.proofs.holders.read_byte.Goals as goal

pub returns-then-is_dot : goal.returns-then-is_dot
returns-then-is_dot g c = reads_dot c.args.heap.now.objects (number_of c.args.way.holder) c.args.way.part c.args.byte _ _ (sym c.is_dot.ensures ∙ c.if-is_dot.true) c.member-holder.ensures c.new-part.ensures

pub returns : goal.returns
returns g c = reads_more c.args.heap.now.objects (number_of c.args.way.holder) c.args.way.part c.args.byte _ (sym c.is_dot.ensures ∙ c.if-is_dot.false) (c.in_ok-push.ensures.ok ∙ ap (λ b. c.args.way.part ++ b ∷ []) c.unit_of.ensures)
