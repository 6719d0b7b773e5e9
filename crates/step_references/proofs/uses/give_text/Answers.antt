use Rattle.std.proofs.Common.{ap, sym, map, length, ◌∙◌}
use Rattle.js_values.specs.Readings.{read_value}
use Rattle.js_values.proofs.ReadingLaws.{IsReading-earlier}
use Rattle.es_meaning.specs.Operations.{given_text}
use Rattle.es_meaning.specs.Evaluation.{used}
use Rattle.flow_meaning.specs.Planned.{asking, planned}
use Rattle.step_objects.specs.References.{refers}
use Rattle.continuations.specs.Settings.{entrance}
use Rattle.continuations.specs.declared.continuation.Use.TheVariants as use_as
use Rattle.continuations.specs.Shapes.{use_of}
use Rattle.continuations.proofs.BranchLaws.{none_in_front}
use Rattle.step_references.proofs.Begun.{begun_as}
use Rattle.step_references.proofs.Loose.{lone}
use Rattle.step_references.proofs.Moved.{moved_popped}
use Rattle.step_references.proofs.UseLaws.{given_as}
use Rattle.step_references.proofs.uses.give_text.Goals as goal

pub assign-requires-clause-loose : goal.assign-requires-clause-loose
assign-requires-clause-loose g c = ap length (none_in_front c.pop.new.self.loose c.args.stack.now.loose c.pop.result c.pop.ensures.top c.requires.loose)

pub returns-clause-goes_on : goal.returns-clause-goes_on
returns-clause-goes_on g c =
    let r = c.args.reference.now in
    begun_as c.assign.ensures.goes_on c.pop.ensures.tasks (λ tables inputs set functions reading f s is.
    given_as tables inputs set functions (refers reading r) c.in_ok-text.text (reading c.bottom.result) f.env.place s ((IsReading-earlier g.L.Labels.made g.L.Labels.meaning g.L.Labels.room g.L.Labels.firm c.args.labels.now c.assign.new.labels reading c.assign.ensures.kept is).agrees c.bottom.result c.bottom.ensures.made ∙ c.bottom.ensures.meaning)
    ∙ ap (λ u. used (planned tables inputs set functions) (entrance tables inputs set functions) (asking tables inputs set functions) (given_text u) f.env.place (refers reading r) s) c.in_ok-text.ensures
    ∙ ap (λ vs. used (planned tables inputs set functions) (entrance tables inputs set functions) (asking tables inputs set functions) (use_of use_as.GivenText (map (read_value reading) vs)) f.env.place (refers reading r) s) (sym (lone c.pop.new.self.loose c.args.stack.now.loose c.pop.result c.pop.ensures.top c.requires.loose)))

pub returns-clause-moved : goal.returns-clause-moved
returns-clause-moved g c = moved_popped _ _ _ _ _ _ _ c.assign.result c.pop.ensures.tasks c.assign.ensures.moved
