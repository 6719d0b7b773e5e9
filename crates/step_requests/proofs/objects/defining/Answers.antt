use Rattle.std.proofs.Common.{refl}
use Rattle.step_requests.proofs.Based.{acts_define}
use Rattle.step_requests.proofs.objects.defining.Goals as goal

pub define_property-requires-clause-descriptor : goal.define_property-requires-clause-descriptor
define_property-requires-clause-descriptor g c = record { value = c.in_ok-value.ensures.has; get = c.in_ok-get.ensures.has; set = c.in_ok-set.ensures.has }

pub returns-clause-acts : goal.returns-clause-acts
returns-clause-acts g c = acts_define g.L.Labels.made g.L.Labels.meaning g.L.Labels.room g.L.Labels.firm c.args.labels.now c.define_property.new.labels c.define_property.ensures.kept c.args.stack.now.loose c.args.world.now c.define_property.new.world c.define_property.result c.args.base c.in_ok-base.base c.args.key c.args.given (record { marks = c.args.given.marks; value = c.in_ok-value.value; get = c.in_ok-get.get; set = c.in_ok-set.set }) refl c.in_ok-base.ensures.reads c.in_ok-value.ensures c.in_ok-get.ensures c.in_ok-set.ensures c.define_property.ensures.acts
