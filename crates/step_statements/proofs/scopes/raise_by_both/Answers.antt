use Rattle.std.proofs.Common.{sym, ap, ap₂, ◌∙◌}
use Rattle.origin_labels.specs.Label.{union}
use Rattle.js_values.proofs.ReadingLaws.{IsReading-earlier}
use Rattle.flow_meaning.specs.Scopes.{raised_in}
use Rattle.continuations.specs.Resuming.{with_frames}
use Rattle.step_statements.proofs.scopes.raise_by_both.Goals as goal

pub returns-clause-raised : goal.returns-clause-raised
returns-clause-raised g c reading s read =
    let joined = IsReading-earlier g.L.Labels.made g.L.Labels.meaning g.L.Labels.room g.L.Labels.firm c.join.new.self c.raise.new.labels reading c.raise.ensures.kept read in
    let earlier = IsReading-earlier g.L.Labels.made g.L.Labels.meaning g.L.Labels.room g.L.Labels.firm c.args.labels.now c.join.new.self reading c.join.ensures.kept joined in
    c.in_ok-raise.ensures.raised reading s read
    ∙ ap (λ l. raised_in l (with_frames reading c.args.frames.now.frames s)) (joined.agrees c.in_ok-label.label c.in_ok-label.ensures.made ∙ c.in_ok-label.ensures.meaning ∙ sym (ap₂ union (earlier.agrees c.args.left c.requires.left) (earlier.agrees c.args.right c.requires.right)))

pub returns-in_err-label-clause-belongs : goal.returns-in_err-label-clause-belongs
returns-in_err-label-clause-belongs g c = c.belonging_lasts.ensures.belongs c.args.labels.now c.join.new.self c.args.frames.now.frames c.join.ensures.kept c.requires.belongs

pub raise-requires-clause-belongs : goal.raise-requires-clause-belongs
raise-requires-clause-belongs g c = c.belonging_lasts.ensures.belongs c.args.labels.now c.join.new.self c.args.frames.now.frames c.join.ensures.kept c.requires.belongs
