use Rattle.step_requests.proofs.Based.{acts_new}
use Rattle.step_requests.proofs.objects.make_object.Goals as goal

pub new_object-requires-clause-proto : goal.new_object-requires-clause-proto
new_object-requires-clause-proto g c = c.in_ok-proto.ensures.has

pub returns-clause-acts : goal.returns-clause-acts
returns-clause-acts g c = λ tables inputs. acts_new g.L.Labels.made g.L.Labels.meaning g.L.Labels.room g.L.Labels.firm c.args.labels.now c.new_object.new.labels c.new_object.ensures.kept tables inputs c.args.stack.now.loose c.args.world.now c.new_object.new.world c.new_object.result c.args.class c.args.proto c.in_ok-proto.proto c.in_ok-proto.ensures (c.new_object.ensures.acts tables inputs)
