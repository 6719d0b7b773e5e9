use Rattle.std.proofs.Common.{sym, ◌∙◌}
use Rattle.std.proofs.lemmas.Result.{IfOk-weaker}
use Rattle.js_values.specs.Readings.{read_value}
use Rattle.continuations.specs.Pending.{sets_length}
use Rattle.step_operators.proofs.LengthLaws.{leaving, once_goes_on, once_leaves, once_moved}
use Rattle.step_operators.proofs.lengths.behind_first.Goals as goal

pub returns-in-Ok-clause-goes_on : goal.returns-in-Ok-clause-goes_on
returns-in-Ok-clause-goes_on g c = once_goes_on c.args.how c.args.array c.args.value c.args.first g.L.Labels.made g.L.Labels.meaning c.args.labels.now c.args.stack.now c.convert_again.new.stack c.args.world.now c.in-Ok.field-0 (sym c.number_in.ensures ∙ c.in-Ok.is) c.convert_again.result c.convert_again.ensures.goes_on

pub returns-in-Ok-clause-moved : goal.returns-in-Ok-clause-moved
returns-in-Ok-clause-moved g c = once_moved c.args.how c.args.array c.args.value c.args.first (g.L.Labels.made c.args.labels.now) c.args.stack.now c.convert_again.new.stack c.args.world.now c.requires.array c.requires.value c.requires.first c.convert_again.result c.convert_again.ensures.goes_on

pub returns-clause-goes_on : goal.returns-clause-goes_on
returns-clause-goes_on g c =
    IfOk-weaker c.leave_by.result _ _
    (λ next begins. leaving c.requires.loose begins (λ tables inputs set functions reading f s. once_leaves tables inputs set functions (reading c.args.array.label) (sets_length tables inputs set functions c.args.how (read_value reading c.args.array)) (read_value reading c.args.first) (read_value reading c.args.value) s _ (sym c.number_in.ensures ∙ c.in-Err.is)))
    c.leave_by.ensures.goes_on
