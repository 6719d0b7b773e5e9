use Rattle.std.proofs.Common.{refl, sym, ap, ap₂, ◌∙◌, ◌++◌, ◌∷◌, []}
use Rattle.origin_labels.specs.Label.{union}
use Rattle.js_values.proofs.ReadingLaws.{IsReading-earlier}
use Rattle.step_jumps.proofs.calls.answer_with.Goals as goal

pub returns-clause-answers : goal.returns-clause-answers
returns-clause-answers g c = record {
  gives = refl;
  label = c.in_ok-label.label;
  made_there = c.in_ok-label.ensures.made;
  means = λ reading read.
      let earlier = IsReading-earlier g.L.Labels.made g.L.Labels.meaning g.L.Labels.room g.L.Labels.firm c.args.labels.now c.join.new.self reading c.join.ensures.kept read in
      read.agrees c.in_ok-label.label c.in_ok-label.ensures.made ∙ c.in_ok-label.ensures.meaning
      ∙ ap₂ union (sym (earlier.agrees c.args.value.label c.requires.value)) (sym (earlier.agrees c.leave_frame-chosen.result c.leave_frame-chosen.ensures.made) ∙ sym (c.leave_frame-chosen.ensures.label reading));
  outside = c.leave_frame-chosen.ensures.outside;
  rest = refl;
  tasks = c.lay.ensures.tasks;
  alone = c.in_ok-lay.ensures.laid ∙ ap (λ vs. vs ++ record { value = c.args.value.value; label = c.in_ok-label.label } ∷ []) c.requires.loose;
  shallower = c.leave_frame-chosen.ensures.length;
  belong = c.belonging_lasts.ensures.belongs c.args.labels.now c.join.new.self c.leave_frame-chosen.new.frames.frames c.join.ensures.kept c.leave_frame-chosen.ensures.belongs;
  catch = c.len-outside.ensures.catch;
}
