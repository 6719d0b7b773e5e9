use Rattle.std.proofs.Common.{ap, ◌∙◌}
use Rattle.js_values.specs.Objects.{Object, own}
use Rattle.object_heap.proofs.AddLaws.{own_kept, appended_is}
use Rattle.object_heap.proofs.ActLaws.{joined_is}
use Rattle.js_values.proofs.ReadingLaws.{HasObject-weaker}
use Rattle.object_heap.proofs.BelongLaws.{added_belongs}
use Rattle.object_heap.proofs.object.Object.append.Goals as goal

pub returns-clause-keeps : goal.returns-clause-keeps
returns-clause-keeps g c = λ key s here. ap (own key) c.in_ok-push.ensures.ok ∙ own_kept key s c.self.inside.rows _ (ap (λ (p : Object g.row.T.Denot). own key p.rows) c.self.view_is ∙ here)

pub returns-clause-belongs : goal.returns-clause-belongs
returns-clause-belongs g c =
    let has = HasObject-weaker (g.L.Labels.made c.args.labels.now) (g.L.Labels.made c.join.new.self) (λ l m. (c.in_ok-label.ensures.kept.labels l m).0) c.args.self.now c.requires.belongs in
    added_belongs (g.L.Labels.made c.join.new.self) _ c.args.self.now c.self.view_is has _ (λ old. (c.in_ok-label.ensures.made, old.structure)) c.push.new.self c.in_ok-push.ensures.ok

pub returns-clause-does : goal.returns-clause-does
returns-clause-does g c = λ reading read.
    appended_is reading _ c.args.self.now c.self.view_is c.args.key c.args.need c.args.label c.in_ok-label.label c.args.body c.args.marks
    (joined_is g.L.Labels.made g.L.Labels.meaning c.join.new.self reading read g.L.Labels.room g.L.Labels.firm c.args.labels.now c.args.label c.args.need c.in_ok-label.label c.in_ok-label.ensures.kept c.requires.label c.requires.need c.in_ok-label.ensures.made c.in_ok-label.ensures.meaning)
    c.push.new.self c.in_ok-push.ensures.ok
