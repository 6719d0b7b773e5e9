use Rattle.std.proofs.Common.{map}
use Rattle.continuations.specs.Answering.{held_in}
use Rattle.js_values.specs.Readings.{read_value}
use Rattle.step_requests.proofs.Based.{at_once}
use Rattle.step_requests.proofs.making.copy.Goals as goal

pub returns-clause-acts : goal.returns-clause-acts
returns-clause-acts g c = λ tables inputs. at_once g.L.Labels.made g.L.Labels.meaning c.args.labels.now (λ reading. held_in c.args.from (map (read_value reading) c.args.stack.now.loose)) c.in_ok-value.value c.args.world.now c.in_ok-value.ensures.reads
