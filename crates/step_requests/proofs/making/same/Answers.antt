use Rattle.std.proofs.Common.{map, []}
use Rattle.origin_labels.specs.Label.{union}
use Rattle.js_ast.specs.declared.operators.BinaryOperator.TheVariants.{StrictEqual}
use Rattle.es_meaning.specs.Operators.{binary_of}
use Rattle.flow_meaning.specs.Tracked.{given}
use Rattle.continuations.specs.Answering.{held_in}
use Rattle.js_values.specs.Readings.{read_value}
use Rattle.run_state.proofs.ActLaws.{Belongs-later}
use Rattle.step_requests.proofs.Going.{any_set}
use Rattle.step_requests.proofs.Held.{acts_one}
use Rattle.step_requests.proofs.making.same.Goals as goal

pub returns-clause-acts : goal.returns-clause-acts
returns-clause-acts g c = λ tables inputs. acts_one g.L.Labels.made g.L.Labels.meaning g.L.Labels.room g.L.Labels.firm c.args.labels.now c.binary.new.labels c.binary.ensures.kept (λ reading. read_value reading) c.args.stack.now.loose c.args.world.now c.args.world.now c.binary.result (λ reading u. given (union (held_in c.args.a (map (read_value reading) c.args.stack.now.loose)).label u.label) (binary_of StrictEqual (held_in c.args.a (map (read_value reading) c.args.stack.now.loose)).value u.value)) c.args.b c.in_ok-b.b c.in_ok-b.ensures.reads (acts_one g.L.Labels.made g.L.Labels.meaning g.L.Labels.room g.L.Labels.firm c.args.labels.now c.binary.new.labels c.binary.ensures.kept (λ reading. read_value reading) c.args.stack.now.loose c.args.world.now c.args.world.now c.binary.result (λ reading u. given (union u.label (read_value reading c.in_ok-b.b).label) (binary_of StrictEqual u.value (read_value reading c.in_ok-b.b).value)) c.args.a c.in_ok-a.a c.in_ok-a.ensures.reads (c.binary.ensures.acts tables inputs any_set [] c.args.world.now))

pub returns-clause-belongs : goal.returns-clause-belongs
returns-clause-belongs g c = Belongs-later g.L.Labels.made g.L.Labels.meaning g.L.Labels.room g.L.Labels.firm c.args.labels.now c.binary.new.labels c.binary.ensures.kept g.met.L.Labels.rising c.args.world.now c.requires.belongs
