use Rattle.std.proofs.Common.{sym, ◌∙◌}
use Rattle.origin_labels.specs.Label.{union}
use Rattle.origin_labels.proofs.StoreLaws.{IsKept-trans}
use Rattle.native_protocol.specs.declared.request.ErrorKind.TheVariants as kinds
use Rattle.es_meaning.specs.Operations.{One}
use Rattle.run_state.specs.Accesses.{read_putting}
use Rattle.run_state.proofs.ActLaws.{Belongs-later}
use Rattle.property_access.proofs.MeansLaws.{means_later}
use Rattle.property_access.proofs.ObjectLaws.{setter_entered, setter_gone, setter_has}
use Rattle.property_access.proofs.ThrowLaws.{error_recast}
use Rattle.property_access.proofs.putting.setter.Goals as goal

pub returns-in_err-place-clause-belongs : goal.returns-in_err-place-clause-belongs
returns-in_err-place-clause-belongs g c = Belongs-later g.L.Labels.made g.L.Labels.meaning g.L.Labels.room g.L.Labels.firm c.args.labels.now c.join.new.labels c.join.ensures.kept g.met.L.Labels.rising c.args.world.now c.requires.belongs

pub join-requires-in-Some-clause-second : goal.join-requires-in-Some-clause-second
join-requires-in-Some-clause-second g c = (c.join.ensures.kept.labels c.in-Some.found.label (setter_has (g.L.Labels.made c.args.labels.now) c.args.world.now.heap c.requires.belongs.heap c.args.at.0 c.args.key.now c.in-Some.found (sym c.in-Some.is ∙ c.setter_at.ensures))).0

pub returns-in_err-depends-in-Some-clause-belongs : goal.returns-in_err-depends-in-Some-clause-belongs
returns-in_err-depends-in-Some-clause-belongs g c = Belongs-later g.L.Labels.made g.L.Labels.meaning g.L.Labels.room g.L.Labels.firm c.args.labels.now c.join-in-Some.new.labels (IsKept-trans _ _ _ _ _ _ _ c.join.ensures.kept c.join-in-Some.ensures.kept) g.met.L.Labels.rising c.args.world.now c.requires.belongs

pub enter_setter-requires-clause-belongs : goal.enter_setter-requires-clause-belongs
enter_setter-requires-clause-belongs g c = Belongs-later g.L.Labels.made g.L.Labels.meaning g.L.Labels.room g.L.Labels.firm c.args.labels.now c.join-in-Some.new.labels (IsKept-trans _ _ _ _ _ _ _ c.join.ensures.kept c.join-in-Some.ensures.kept) g.met.L.Labels.rising c.args.world.now c.requires.belongs

pub returns-in_ok-depends-in-Some-clause-acts : goal.returns-in_ok-depends-in-Some-clause-acts
returns-in_ok-depends-in-Some-clause-acts g c = λ rule o value.
    let place = means_later g.L.Labels.made g.L.Labels.meaning g.L.Labels.room g.L.Labels.firm c.join.new.labels c.enter_setter.new.labels (IsKept-trans _ _ _ _ _ _ _ c.join-in-Some.ensures.kept c.enter_setter.ensures.kept) c.in_ok-place.place (λ reading. union (reading c.args.label) (reading c.args.walk)) c.in_ok-place.ensures.means in
    let depends = means_later g.L.Labels.made g.L.Labels.meaning g.L.Labels.room g.L.Labels.firm c.join-in-Some.new.labels c.enter_setter.new.labels c.enter_setter.ensures.kept c.in_ok-depends-in-Some.depends (λ reading. union (reading c.in_ok-place.place) (reading c.in-Some.found.label)) c.in_ok-depends-in-Some.ensures.means in
    setter_entered g.L.Labels.made g.L.Labels.meaning c.enter_setter.new.labels c.args.world.now c.enter_setter.new.world c.args.at c.args.key.now c.args.label c.args.walk c.in_ok-place.place c.args.this c.setter_at.result c.enter_setter.result c.setter_at.ensures place rule o value
    c.in-Some.found c.in_ok-depends-in-Some.depends c.in-Some.is depends c.enter_setter.ensures.acts

pub throw_error-requires-clause-belongs : goal.throw_error-requires-clause-belongs
throw_error-requires-clause-belongs g c = Belongs-later g.L.Labels.made g.L.Labels.meaning g.L.Labels.room g.L.Labels.firm c.args.labels.now c.join.new.labels c.join.ensures.kept g.met.L.Labels.rising c.args.world.now c.requires.belongs

pub returns-in-None-clause-acts : goal.returns-in-None-clause-acts
returns-in-None-clause-acts g c = λ rule o value.
    let place = means_later g.L.Labels.made g.L.Labels.meaning g.L.Labels.room g.L.Labels.firm c.join.new.labels c.throw_error.new.labels c.throw_error.ensures.kept c.in_ok-place.place (λ reading. union (reading c.args.label) (reading c.args.walk)) c.in_ok-place.ensures.means in
    setter_gone g.L.Labels.made g.L.Labels.meaning c.throw_error.new.labels c.args.world.now c.throw_error.new.world c.args.at c.args.key.now c.args.label c.args.walk c.in_ok-place.place c.args.this c.setter_at.result c.throw_error.result c.setter_at.ensures place rule o value c.in-None.is
    (error_recast g.L.Labels.made g.L.Labels.meaning c.throw_error.new.labels (λ reading x. tt) (λ reading. read_putting reading) kinds.TypeError (λ reading. reading c.in_ok-place.place) c.args.world.now c.throw_error.new.world c.throw_error.result c.throw_error.ensures.made (c.throw_error.ensures.acts One (λ reading x. tt)))
