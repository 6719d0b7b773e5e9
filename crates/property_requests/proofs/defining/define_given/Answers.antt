use Rattle.es_meaning.specs.Operations.{One}
use Rattle.flow_meaning.specs.Tracked as tracked
use Rattle.native_protocol.specs.declared.request.ErrorKind.TheVariants as kinds
use Rattle.run_state.specs.Accesses.{read_defining}
use Rattle.property_access.proofs.ThrowLaws.{error_recast}
use Rattle.std.proofs.Common.{refl, sym, ◌∙◌}
use Rattle.property_requests.proofs.DefiningLaws.{given_refused, given_length, given_present, given_absent}
use Rattle.property_requests.proofs.HeldLaws.{some_mapped, none_mapped}
use Rattle.property_requests.proofs.defining.define_given.Goals as goal

pub returns-in_default-clause-acts : goal.returns-in_default-clause-acts
returns-in_default-clause-acts g c =
    given_refused g.L.Labels.made g.L.Labels.meaning c.refuse.new.labels c.args.world.now c.refuse.new.world c.refuse.result c.args.site.object.0 c.args.site.key c.args.site.place c.args.site.given c.args.marks c.args.body c.requires.there c.in_default.is
    (error_recast {Z = tracked.Defining} g.L.Labels.made g.L.Labels.meaning c.refuse.new.labels (λ reading x. tt) (λ reading. read_defining reading) kinds.TypeError _ c.args.world.now c.refuse.new.world c.refuse.result c.refuse.ensures.made (c.refuse.ensures.acts One (λ reading x. tt)))

pub returns-then-gives_length-clause-acts : goal.returns-then-gives_length-clause-acts
returns-then-gives_length-clause-acts g c =
    given_length g.L.Labels.made g.L.Labels.meaning c.args.labels.now c.args.world.now c.args.world.now _ c.args.site.object.0 c.args.site.key c.args.site.place c.args.site.given c.args.marks c.args.body c.requires.there c.in-Some.body c.in-Some.is (sym c.gives_length.ensures ∙ c.if-gives_length.true) (record { says = λ reading agrees told turns. refl })

pub define_present-requires-clause-present : goal.define_present-requires-clause-present
define_present-requires-clause-present g c = some_mapped (λ s. s.now) c.own.result _ c.own.ensures (sym c.is_some.ensures ∙ c.if-is_some.true)

pub returns-then-is_some-clause-acts : goal.returns-then-is_some-clause-acts
returns-then-is_some-clause-acts g c =
    given_present g.L.Labels.made g.L.Labels.meaning c.define_present.new.labels c.args.world.now c.define_present.new.world c.define_present.result c.args.site.object.0 c.args.site.key c.args.site.place c.args.site.given c.args.marks c.args.body c.requires.there c.in-Some.body c.in-Some.is (sym c.gives_length.ensures ∙ c.if-gives_length.false)
    (some_mapped (λ s. s.now) c.own.result _ c.own.ensures (sym c.is_some.ensures ∙ c.if-is_some.true)) c.define_present.ensures.acts

pub define_absent-requires-clause-absent : goal.define_absent-requires-clause-absent
define_absent-requires-clause-absent g c = none_mapped (λ s. s.now) c.own.result _ c.own.ensures (sym c.is_some.ensures ∙ c.if-is_some.false)

pub returns-clause-acts : goal.returns-clause-acts
returns-clause-acts g c =
    let none = none_mapped (λ s. s.now) c.own.result _ c.own.ensures (sym c.is_some.ensures ∙ c.if-is_some.false) in
    given_absent g.L.Labels.made g.L.Labels.meaning c.define_absent.new.labels c.args.world.now c.define_absent.new.world c.define_absent.result c.args.site.object.0 c.args.site.key c.args.site.place c.args.site.given c.args.marks c.args.body c.requires.there c.in-Some.body c.in-Some.is (sym c.gives_length.ensures ∙ c.if-gives_length.false)
    none c.args.allowed (c.requires.allowed none) c.define_absent.ensures.acts
