use Rattle.property_requests.proofs.MakingLaws.{new_by_class, new_by_value}
use Rattle.property_requests.proofs.making.new_object.Goals as goal

pub make-requires-clause-label : goal.make-requires-clause-label
make-requires-clause-label g c = c.bottom-none.ensures.made

pub returns-in-None-clause-acts : goal.returns-in-None-clause-acts
returns-in-None-clause-acts g c = λ tables inputs.
    new_by_class g.L.Labels.made g.L.Labels.meaning g.L.Labels.room g.L.Labels.firm c.args.labels.now c.make.new.labels c.make.ensures.kept tables inputs c.args.world.now c.args.class c.args.proto c.in-None.is c.class_prototype.result c.class_prototype.ensures c.bottom-none.result c.bottom-none.ensures.made c.bottom-none.ensures.meaning
    c.make.new.world c.make.result c.make.ensures.acts

pub returns-in-Some-clause-acts : goal.returns-in-Some-clause-acts
returns-in-Some-clause-acts g c = λ tables inputs.
    new_by_value g.L.Labels.made g.L.Labels.meaning c.make-in-Some.new.labels tables inputs c.args.world.now c.args.class c.args.proto c.in-Some.v c.in-Some.is c.prototype_given.result c.standing-proto.result c.prototype_given.ensures c.standing-proto.ensures.is
    c.make-in-Some.new.world c.make-in-Some.result c.make-in-Some.ensures.acts
