use Rattle.std.proofs.Common.{refl, sym, ◌∙◌, [], ◌∷◌}
use Rattle.origin_labels.specs.Label.{label_of}
use Rattle.origin_labels.proofs.StoreLaws.{IsKept-trans}
use Rattle.es_meaning.specs.Operations.{Value}
use Rattle.js_values.specs.Readings.{read_value}
use Rattle.flow_meaning.specs.Tracked as tracked
use Rattle.flow_meaning.specs.Tracked.{act}
use Rattle.es_meaning.specs.Operations as operations
use Rattle.channel_requests.specs.Raising.{raises_existence}
use Rattle.channel_requests.proofs.AnswerLaws.{raise_leaves, raise_throws, raise_object}
use Rattle.channel_requests.proofs.MeansLaws.{means_later}
use Rattle.channel_requests.proofs.OriginLaws.{origins_below}
use Rattle.channel_requests.proofs.ObjectRaises.{existence_as}
use Rattle.channel_requests.proofs.WorldLaws.{belongs_later}
use Rattle.channel_requests.proofs.raising.raise_existence.Goals as goal

pub returns-then-not-are_declared-clause-acts : goal.returns-then-not-are_declared-clause-acts
unfolding act tracked.with_origins
returns-then-not-are_declared-clause-acts g c = λ inputs.
    raise_leaves g.L.Labels.made g.L.Labels.meaning c.args.labels.now c.args.policy.now inputs c.args.world.now c.args.base.now c.args.origins.now
    (λ reading. tracked.raise_existence c.args.origins.now (reading c.args.base.now.label) c.args.key.now) (λ reading. act c.args.policy.now inputs (operations.raise_existence c.args.key.now c.args.origins.now) (read_value reading c.args.base.now ∷ [])) (λ reading s. refl)
    (sym c.are_declared.ensures ∙ c.if-not-are_declared.true)

pub returns-in_default-clause-acts : goal.returns-in_default-clause-acts
unfolding act tracked.with_origins
returns-in_default-clause-acts g c = λ inputs.
    raise_throws g.L.Labels.made g.L.Labels.meaning c.throw_error.new.labels c.args.policy.now inputs c.args.world.now c.args.base.now c.args.origins.now
    (λ reading. tracked.raise_existence c.args.origins.now (reading c.args.base.now.label) c.args.key.now) (λ reading. act c.args.policy.now inputs (operations.raise_existence c.args.key.now c.args.origins.now) (read_value reading c.args.base.now ∷ [])) (λ reading s. refl)
    (sym c.are_declared.ensures ∙ c.if-not-are_declared.false) c.throw_error.new.world c.throw_error.result c.in_default.field-0 c.in_default.is (c.throw_error.ensures.acts Value (λ reading. read_value reading))

pub label_of-requires : goal.label_of-requires
label_of-requires g c = origins_below _ _ c.requires.room c.args.origins.now (sym c.are_declared.ensures ∙ c.if-not-are_declared.false)

pub returns-in_err-added-clause-belongs : goal.returns-in_err-added-clause-belongs
returns-in_err-added-clause-belongs g c = belongs_later g.L.Labels.made g.L.Labels.meaning g.met.L.Labels.rising g.L.Labels.room g.L.Labels.firm c.args.labels.now c.label_of.new.labels c.args.world.now c.label_of.ensures.kept c.requires.belongs

pub raise_existence_by-requires-clause-belongs : goal.raise_existence_by-requires-clause-belongs
raise_existence_by-requires-clause-belongs g c = belongs_later g.L.Labels.made g.L.Labels.meaning g.met.L.Labels.rising g.L.Labels.room g.L.Labels.firm c.args.labels.now c.label_of.new.labels c.args.world.now c.in_ok-added.ensures.kept c.requires.belongs

pub returns-clause-acts : goal.returns-clause-acts
unfolding act tracked.with_origins
returns-clause-acts g c = λ inputs.
    let means = means_later g.L.Labels.made g.L.Labels.meaning g.L.Labels.room g.L.Labels.firm c.label_of.new.labels c.raise_existence_by.new.labels c.raise_existence_by.ensures.kept c.in_ok-added.added (λ reading. label_of c.args.origins.now) c.in_ok-added.ensures.means in
    raise_object g.L.Labels.made g.L.Labels.meaning c.raise_existence_by.new.labels c.args.policy.now inputs c.args.world.now c.args.base.now c.args.origins.now
    (λ reading. tracked.raise_existence c.args.origins.now (reading c.args.base.now.label) c.args.key.now) (λ reading. act c.args.policy.now inputs (operations.raise_existence c.args.key.now c.args.origins.now) (read_value reading c.args.base.now ∷ [])) (λ reading s. refl)
    (sym c.are_declared.ensures ∙ c.if-not-are_declared.false) c.raise_existence_by.new.world c.raise_existence_by.result c.in-Object.o c.in-Object.is
    (λ reading. raises_existence c.in-Object.o.0 c.args.key.now (reading c.args.base.now.label) (reading c.in_ok-added.added)) (λ reading agrees s. existence_as c.args.origins.now (reading c.args.base.now.label) c.args.key.now c.in-Object.o.0 (reading c.in_ok-added.added) (means.is reading agrees) s)
    c.raise_existence_by.ensures.acts

pub returns-clause-kept : goal.returns-clause-kept
returns-clause-kept g c = IsKept-trans _ _ _ _ _ _ _ c.in_ok-added.ensures.kept c.raise_existence_by.ensures.kept
