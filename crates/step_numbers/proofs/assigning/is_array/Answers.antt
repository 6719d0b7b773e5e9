use Rattle.std.proofs.Common.{◌∙◌}
use Rattle.step_numbers.specs.Evaluated.{global_in}
use Rattle.step_numbers.proofs.GlobalLaws.{class_seen}
use Rattle.step_numbers.proofs.assigning.is_array.Goals as goal

pub returns : goal.returns
returns g c = c.is_array_class.ensures ∙ class_seen (global_in c.args.world.now.heap) c.shape.result c.shape.ensures
