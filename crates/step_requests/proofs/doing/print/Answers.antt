use Rattle.std.proofs.Common.{refl, length}
use Rattle.step_requests.proofs.Does.{does_print}
use Rattle.step_requests.proofs.Held.{made_later}
use Rattle.step_requests.proofs.doing.print.Goals as goal

pub hand_on_printed-requires-clause-made : goal.hand_on_printed-requires-clause-made
hand_on_printed-requires-clause-made g c = made_later g.L.Labels.made g.L.Labels.meaning g.L.Labels.room g.L.Labels.firm c.args.labels.now c.print_line-came.new.labels c.print_line-came.ensures.kept c.args.stack.now.loose c.requires.made

pub returns-clause-does : goal.returns-clause-does
returns-clause-does g c = λ inputs. does_print g.L.Labels.made g.L.Labels.meaning c.print_line-came.new.labels c.args.policy.now inputs c.args.stack.now c.hand_on_printed.new.stack c.args.world.now c.args.world.now c.hand_on_printed.result g.L.Labels.room g.L.Labels.firm c.args.labels.now c.print_line-came.ensures.kept refl c.args.name c.args.from c.in_ok-name.name c.in_ok-value.value c.print_line-came.result c.in_ok-name.ensures.reads c.in_ok-value.ensures.reads (c.print_line-came.ensures.prints inputs) c.hand_on_printed.ensures.settles

pub returns-clause-leaves : goal.returns-clause-leaves
returns-clause-leaves g c = c.hand_on_printed.ensures.leaves c.args.world.now

pub returns-clause-printed : goal.returns-clause-printed
returns-clause-printed g c = c.hand_on_printed.ensures.printed (length c.args.policy.now.outputs) c.print_line-came.ensures.channel
