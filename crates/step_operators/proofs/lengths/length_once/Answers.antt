use Rattle.std.proofs.Common.{sym, ap, ◌∙◌, length, map, arith, Ok}
use Rattle.std.proofs.lemmas.Result.{IfOk-weaker}
use Rattle.js_values.specs.Readings.{HasValue, read_value}
use Rattle.flow_meaning.specs.Planned.{gave}
use Rattle.continuations.specs.declared.continuation.Continuation.TheVariants as continuation
use Rattle.continuations.specs.Pending.{after}
use Rattle.continuations.proofs.BranchLaws.{none_in_front}
use Rattle.continuations.proofs.EndLaws.{last_has}
use Rattle.step_references.proofs.Begun.{resumed}
use Rattle.step_references.proofs.Loose.{front_has, size_below, two_lie}
use Rattle.step_references.proofs.Moved.{moved_popped}
use Rattle.step_operators.proofs.lengths.length_once.Goals as goal

pub pop-value-requires : goal.pop-value-requires
pop-value-requires g c = let size = size_below c.pop-first.new.self.loose c.args.stack.now.loose c.pop-first.result 2 c.pop-first.ensures.top c.requires.loose in omega (arith, size)

pub pop-array-requires : goal.pop-array-requires
pop-array-requires g c = let size = size_below c.pop-value.new.self.loose c.pop-first.new.self.loose c.pop-value.result 1 c.pop-value.ensures.top (size_below c.pop-first.new.self.loose c.args.stack.now.loose c.pop-first.result 2 c.pop-first.ensures.top c.requires.loose) in omega (arith, size)

pub behind_first-requires-clause-loose : goal.behind_first-requires-clause-loose
behind_first-requires-clause-loose g c = ap length (none_in_front c.pop-array.new.self.loose c.pop-value.new.self.loose c.pop-array.result c.pop-array.ensures.top (size_below c.pop-value.new.self.loose c.pop-first.new.self.loose c.pop-value.result 1 c.pop-value.ensures.top (size_below c.pop-first.new.self.loose c.args.stack.now.loose c.pop-first.result 2 c.pop-first.ensures.top c.requires.loose)))

pub behind_first-requires-clause-first : goal.behind_first-requires-clause-first
behind_first-requires-clause-first g c = last_has (HasValue (g.L.Labels.made c.args.labels.now)) c.pop-first.new.self.loose c.args.stack.now.loose c.pop-first.result c.pop-first.ensures.top c.requires.made

pub behind_first-requires-clause-value : goal.behind_first-requires-clause-value
behind_first-requires-clause-value g c = last_has (HasValue (g.L.Labels.made c.args.labels.now)) c.pop-value.new.self.loose c.pop-first.new.self.loose c.pop-value.result c.pop-value.ensures.top (front_has (HasValue (g.L.Labels.made c.args.labels.now)) c.pop-first.new.self.loose c.args.stack.now.loose c.pop-first.result c.pop-first.ensures.top c.requires.made)

pub behind_first-requires-clause-array : goal.behind_first-requires-clause-array
behind_first-requires-clause-array g c = last_has (HasValue (g.L.Labels.made c.args.labels.now)) c.pop-array.new.self.loose c.pop-value.new.self.loose c.pop-array.result c.pop-array.ensures.top (front_has (HasValue (g.L.Labels.made c.args.labels.now)) c.pop-value.new.self.loose c.pop-first.new.self.loose c.pop-value.result c.pop-value.ensures.top (front_has (HasValue (g.L.Labels.made c.args.labels.now)) c.pop-first.new.self.loose c.args.stack.now.loose c.pop-first.result c.pop-first.ensures.top c.requires.made))

pub returns-clause-goes_on : goal.returns-clause-goes_on
returns-clause-goes_on g c =
    let two = two_lie c.pop-array.new.self.loose c.pop-value.new.self.loose c.pop-first.new.self.loose c.pop-array.result c.pop-value.result c.pop-value.ensures.top c.pop-array.ensures.top (size_below c.pop-first.new.self.loose c.args.stack.now.loose c.pop-first.result 2 c.pop-first.ensures.top c.requires.loose) in
    IfOk-weaker c.behind_first.result _ _
    (λ next begun. resumed c.pop-first.new.self.loose c.pop-first.result c.pop-first.ensures.top (c.pop-array.ensures.tasks ∙ c.pop-value.ensures.tasks ∙ c.pop-first.ensures.tasks)
    (λ tables inputs set functions reading f s is. ap (λ vs. after tables inputs set functions (continuation.LengthOnce c.args.how) (map (read_value reading) vs) f (gave (read_value reading c.pop-first.result)) s) (sym two)) begun)
    c.behind_first.ensures.goes_on

pub returns-clause-moved : goal.returns-clause-moved
returns-clause-moved g c = IfOk-weaker c.behind_first.result _ _ (λ next moved. moved_popped _ _ _ _ _ _ _ (Ok next) (c.pop-array.ensures.tasks ∙ c.pop-value.ensures.tasks ∙ c.pop-first.ensures.tasks) moved) c.behind_first.ensures.moved
