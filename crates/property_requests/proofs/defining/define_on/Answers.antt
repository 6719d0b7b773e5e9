use Rattle.es_meaning.specs.Operations.{One}
use Rattle.flow_meaning.specs.Tracked as tracked
use Rattle.native_protocol.specs.declared.request.ErrorKind.TheVariants as kinds
use Rattle.run_state.specs.Accesses.{read_defining}
use Rattle.property_access.proofs.ThrowLaws.{error_recast}
use Rattle.std.proofs.Common.{arith, ◌≤◌, ◌<◌, length}
use Rattle.origin_labels.proofs.StoreLaws.{IsKept-trans}
use Rattle.run_state.proofs.ActLaws.{Belongs-later}
use Rattle.property_access.proofs.MeansLaws.{means_later}
use Rattle.property_requests.proofs.DefiningLaws.{allowed_there, defines_nowhere, defines_there}
use Rattle.property_requests.proofs.DescriptorLaws.{descriptor_later}
use Rattle.property_requests.proofs.defining.define_on.Goals as goal

pub returns-then-o-len-clause-acts : goal.returns-then-o-len-clause-acts
returns-then-o-len-clause-acts g c =
    let past : length c.args.world.now.heap ≤ c.args.o.0 = omega (arith, c.len.ensures.length, c.if-o-len.true) in
    defines_nowhere g.L.Labels.made g.L.Labels.meaning c.throw_error.new.labels c.args.world.now c.args.o c.args.key c.args.label c.args.descriptor c.throw_error.new.world c.throw_error.result past (error_recast {Z = tracked.Defining} g.L.Labels.made g.L.Labels.meaning c.throw_error.new.labels (λ reading x. tt) (λ reading. read_defining reading) kinds.TypeError _ c.args.world.now c.throw_error.new.world c.throw_error.result c.throw_error.ensures.made (c.throw_error.ensures.acts One (λ reading x. tt)))

pub returns-in_err-place-clause-belongs : goal.returns-in_err-place-clause-belongs
returns-in_err-place-clause-belongs g c = Belongs-later g.L.Labels.made g.L.Labels.meaning g.L.Labels.room g.L.Labels.firm c.args.labels.now c.place_of_definition.new.labels c.place_of_definition.ensures.kept g.met.L.Labels.rising c.args.world.now c.requires.belongs

pub given_label-requires : goal.given_label-requires
given_label-requires g c = descriptor_later g.L.Labels.made g.L.Labels.meaning g.L.Labels.room g.L.Labels.firm c.args.labels.now c.place_of_definition.new.labels c.in_ok-place.ensures.kept c.args.descriptor c.requires.descriptor

pub returns-in_err-given-clause-belongs : goal.returns-in_err-given-clause-belongs
returns-in_err-given-clause-belongs g c = Belongs-later g.L.Labels.made g.L.Labels.meaning g.L.Labels.room g.L.Labels.firm c.args.labels.now c.given_label.new.labels (IsKept-trans _ _ _ _ _ _ _ c.in_ok-place.ensures.kept c.given_label.ensures.kept) g.met.L.Labels.rising c.args.world.now c.requires.belongs

pub define_given-requires-clause-belongs : goal.define_given-requires-clause-belongs
define_given-requires-clause-belongs g c = Belongs-later g.L.Labels.made g.L.Labels.meaning g.L.Labels.room g.L.Labels.firm c.args.labels.now c.given_label.new.labels (IsKept-trans _ _ _ _ _ _ _ c.in_ok-place.ensures.kept c.in_ok-given.ensures.kept) g.met.L.Labels.rising c.args.world.now c.requires.belongs

pub define_given-requires-clause-allowed : goal.define_given-requires-clause-allowed
define_given-requires-clause-allowed g c = λ none. allowed_there c.place_of_definition.result c.in_ok-place.place c.in_ok-place.allowed c.in_ok-place.was _ (c.place_of_definition.ensures.allowed none)

pub returns-clause-acts : goal.returns-clause-acts
returns-clause-acts g c =
    let here : c.args.o.0 < length c.args.world.now.heap = omega (arith, c.len.ensures.length, c.if-o-len.false) in
    let last = c.define_given.ensures.kept in
    defines_there g.L.Labels.made g.L.Labels.meaning c.define_given.new.labels c.args.world.now c.args.o c.args.key c.args.label c.args.descriptor c.in_ok-place.place c.in_ok-given.given c.given_body-body.result c.define_given.new.world c.define_given.result
    here
    (means_later g.L.Labels.made g.L.Labels.meaning g.L.Labels.room g.L.Labels.firm c.place_of_definition.new.labels c.define_given.new.labels (IsKept-trans _ _ _ _ _ _ _ c.in_ok-given.ensures.kept last) c.in_ok-place.place _ c.in_ok-place.ensures.means)
    (means_later g.L.Labels.made g.L.Labels.meaning g.L.Labels.room g.L.Labels.firm c.given_label.new.labels c.define_given.new.labels last c.in_ok-given.given _ c.in_ok-given.ensures.means)
    c.given_body-body.ensures c.define_given.ensures.acts
