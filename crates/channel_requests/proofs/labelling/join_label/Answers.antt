use Rattle.std.proofs.Common.{sym, ◌∙◌}
use Rattle.origin_labels.specs.Label.{label_of}
use Rattle.origin_labels.proofs.StoreLaws.{IsKept-trans}
use Rattle.channel_requests.proofs.AnswerLaws.{label_leaves, label_goes}
use Rattle.channel_requests.proofs.MeansLaws.{means_itself, means_joined, means_later}
use Rattle.channel_requests.proofs.OriginLaws.{origins_below}
use Rattle.channel_requests.proofs.WorldLaws.{belongs_later}
use Rattle.channel_requests.proofs.labelling.join_label.Goals as goal

pub returns-then-not-are_declared-clause-acts : goal.returns-then-not-are_declared-clause-acts
returns-then-not-are_declared-clause-acts g c = λ inputs. label_leaves g.L.Labels.made g.L.Labels.meaning c.args.labels.now c.args.policy.now inputs c.args.world.now c.args.value.now c.args.origins.now (sym c.are_declared.ensures ∙ c.if-not-are_declared.true)

pub label_of-requires : goal.label_of-requires
label_of-requires g c = origins_below _ _ c.requires.room c.args.origins.now (sym c.are_declared.ensures ∙ c.if-not-are_declared.false)

pub returns-in_err-added-clause-belongs : goal.returns-in_err-added-clause-belongs
returns-in_err-added-clause-belongs g c = belongs_later g.L.Labels.made g.L.Labels.meaning g.met.L.Labels.rising g.L.Labels.room g.L.Labels.firm c.args.labels.now c.label_of.new.labels c.args.world.now c.label_of.ensures.kept c.requires.belongs

pub returns-in_err-label-clause-belongs : goal.returns-in_err-label-clause-belongs
returns-in_err-label-clause-belongs g c = belongs_later g.L.Labels.made g.L.Labels.meaning g.met.L.Labels.rising g.L.Labels.room g.L.Labels.firm c.args.labels.now c.join.new.self c.args.world.now (IsKept-trans _ _ _ _ _ _ _ c.label_of.ensures.kept c.join.ensures.kept) c.requires.belongs

pub returns-in_err-value-clause-belongs : goal.returns-in_err-value-clause-belongs
returns-in_err-value-clause-belongs g c = belongs_later g.L.Labels.made g.L.Labels.meaning g.met.L.Labels.rising g.L.Labels.room g.L.Labels.firm c.args.labels.now c.join.new.self c.args.world.now (IsKept-trans _ _ _ _ _ _ _ c.label_of.ensures.kept c.join.ensures.kept) c.requires.belongs

pub returns-clause-belongs : goal.returns-clause-belongs
returns-clause-belongs g c = belongs_later g.L.Labels.made g.L.Labels.meaning g.met.L.Labels.rising g.L.Labels.room g.L.Labels.firm c.args.labels.now c.join.new.self c.args.world.now (IsKept-trans _ _ _ _ _ _ _ c.label_of.ensures.kept c.join.ensures.kept) c.requires.belongs

pub returns-clause-acts : goal.returns-clause-acts
returns-clause-acts g c = λ inputs.
    let made = g.L.Labels.made in
    let meaning = g.L.Labels.meaning in
    let room = g.L.Labels.room in
    let firm = g.L.Labels.firm in
    let middle = c.label_of.new.labels in
    label_goes made meaning c.join.new.self c.args.policy.now inputs c.args.world.now c.args.value.now c.args.origins.now (sym c.are_declared.ensures ∙ c.if-not-are_declared.false) c.in_ok-added.added c.in_ok-label.label c.in_ok-value.value c.in_ok-value.ensures
    (means_later made meaning room firm middle c.join.new.self c.in_ok-label.ensures.kept c.in_ok-added.added (λ reading. label_of c.args.origins.now) c.in_ok-added.ensures.means)
    (means_joined made meaning room firm middle c.join.new.self c.in_ok-label.ensures.kept c.args.value.now.label c.in_ok-added.added c.in_ok-label.label (λ reading. reading c.args.value.now.label) (λ reading. reading c.in_ok-added.added)
    (means_itself made meaning middle c.args.value.now.label (c.in_ok-added.ensures.kept.labels c.args.value.now.label c.requires.value).0) (means_itself made meaning middle c.in_ok-added.added c.in_ok-added.ensures.means.belongs) c.in_ok-label.ensures.made c.in_ok-label.ensures.meaning)
