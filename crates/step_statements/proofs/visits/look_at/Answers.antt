use Rattle.std.proofs.Common.{length, ap, ◌∙◌, get_or}
use Rattle.continuations.specs.Kept.{Kept}
use Rattle.step_references.proofs.Loose.{made_later}
use Rattle.step_references.proofs.Begun.{on_is}
use Rattle.step_statements.proofs.KeyLaws.{read_there}
use Rattle.step_statements.proofs.Looking.{look_ends, look_off, look_fails, off_moved, seen_adds, seen_rest}
use Rattle.step_statements.proofs.visits.look_at.Goals as goal

pub returns-in_err-came-clause-fails : goal.returns-in_err-came-clause-fails
returns-in_err-came-clause-fails g c =
    let object = c.index-loose-0.result in
    let key = get_or c.loose-loose.result.now c.args.left c.index-loose-left.result in
    look_fails g.L.Labels.made g.L.Labels.meaning c.args.enumeration c.still_has-answer.new.labels c.args.left c.args.stack.now object key c.requires.some c.requires.loose
    (c.index-loose-0.is ∙ ap (λ vs. get_or vs 0 object) c.loose-loose.ensures) (read_there c.loose-loose.result.now c.args.stack.now.loose c.args.left c.index-loose-left.result c.index-loose-left.is c.loose-loose.ensures)
    c.args.world.now c.still_has-answer.new.world c.still_has-answer.result c.still_has-answer.ensures.acts c.go_on.new.stack c.go_on.new.stack c.in_err-came.field-0.0 c.from_residual.result c.in_err-came.ensures.parts c.from_residual.ensures.1

pub looked-requires-clause-loose : goal.looked-requires-clause-loose
looked-requires-clause-loose g c = ap (λ (k : Kept _). length k.loose) (on_is (g.L.Labels.made c.still_has-answer.new.labels) c.args.stack.now c.go_on.new.stack c.still_has-answer.result c.in-On.there (rw c.in-On.is at c.in_ok-came.ensures.parts)).1 ∙ c.requires.loose

pub returns-in-On-clause-looked : goal.returns-in-On-clause-looked
returns-in-On-clause-looked g c =
    let object = c.index-loose-0.result in
    let key = get_or c.loose-loose.result.now c.args.left c.index-loose-left.result in
    look_ends g.L.Labels.made g.L.Labels.meaning c.args.enumeration c.still_has-answer.new.labels c.args.left c.args.stack.now object key c.requires.some c.requires.loose
    (c.index-loose-0.is ∙ ap (λ vs. get_or vs 0 object) c.loose-loose.ensures) (read_there c.loose-loose.result.now c.args.stack.now.loose c.args.left c.index-loose-left.result c.index-loose-left.is c.loose-loose.ensures)
    c.args.world.now c.still_has-answer.new.world c.still_has-answer.result c.still_has-answer.ensures.acts g.L.Labels.room g.L.Labels.firm c.go_on.new.stack c.looked.new.stack c.in-On.there c.looked.result (rw c.in-On.is at c.in_ok-came.ensures.parts) c.looked.ensures

pub returns-in-On-clause-rests : goal.returns-in-On-clause-rests
returns-in-On-clause-rests g c =
    seen_rest c.args.enumeration c.args.left c.args.stack.now c.go_on.new.stack c.looked.new.stack (g.L.Labels.made c.still_has-answer.new.labels) c.still_has-answer.result c.in-On.there (rw c.in-On.is at c.in_ok-came.ensures.parts) (g.L.Labels.made c.still_has-answer.new.labels) c.looked.result c.looked.ensures c.requires.some c.requires.loose
    (made_later g.L.Labels.made g.L.Labels.meaning g.L.Labels.room g.L.Labels.firm c.args.labels.now c.still_has-answer.new.labels c.still_has-answer.ensures.kept c.args.stack.now.loose c.requires.made)

pub returns-in-On-clause-adds : goal.returns-in-On-clause-adds
returns-in-On-clause-adds g c =
    seen_adds c.args.enumeration c.args.left c.args.stack.now c.go_on.new.stack c.looked.new.stack (g.L.Labels.made c.still_has-answer.new.labels) c.still_has-answer.result c.in-On.there (rw c.in-On.is at c.in_ok-came.ensures.parts) c.looked.result c.looked.ensures

pub returns-in-Off-clause-looked : goal.returns-in-Off-clause-looked
returns-in-Off-clause-looked g c =
    let object = c.index-loose-0.result in
    let key = get_or c.loose-loose.result.now c.args.left c.index-loose-left.result in
    look_off g.L.Labels.made g.L.Labels.meaning c.args.enumeration c.still_has-answer.new.labels c.args.left c.args.stack.now object key c.requires.some c.requires.loose
    (c.index-loose-0.is ∙ ap (λ vs. get_or vs 0 object) c.loose-loose.ensures) (read_there c.loose-loose.result.now c.args.stack.now.loose c.args.left c.index-loose-left.result c.index-loose-left.is c.loose-loose.ensures)
    c.args.world.now c.still_has-answer.new.world c.still_has-answer.result c.still_has-answer.ensures.acts c.go_on.new.stack c.in-Off.next (rw c.in-Off.is at c.in_ok-came.ensures.parts)

pub returns-in-Off-clause-rests : goal.returns-in-Off-clause-rests
returns-in-Off-clause-rests g c = (off_moved (g.L.Labels.made c.still_has-answer.new.labels) c.args.world.now c.args.stack.now c.go_on.new.stack c.still_has-answer.result c.in-Off.next c.still_has-answer.ensures.made (rw c.in-Off.is at c.in_ok-came.ensures.parts)).rests

pub returns-in-Off-clause-adds : goal.returns-in-Off-clause-adds
returns-in-Off-clause-adds g c = (off_moved (g.L.Labels.made c.still_has-answer.new.labels) c.args.world.now c.args.stack.now c.go_on.new.stack c.still_has-answer.result c.in-Off.next c.still_has-answer.ensures.made (rw c.in-Off.is at c.in_ok-came.ensures.parts)).adds
