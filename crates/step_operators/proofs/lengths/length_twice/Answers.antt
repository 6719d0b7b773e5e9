use Rattle.std.proofs.Common.{sym, ap, ◌∙◌, length, map, arith}
use Rattle.js_values.specs.Readings.{HasValue, read_value}
use Rattle.flow_meaning.specs.Planned.{gave}
use Rattle.continuations.specs.declared.continuation.Continuation.TheVariants as continuation
use Rattle.continuations.specs.Pending.{after}
use Rattle.continuations.proofs.BranchLaws.{none_in_front}
use Rattle.continuations.proofs.EndLaws.{last_has}
use Rattle.step_references.proofs.Begun.{resumed}
use Rattle.step_references.proofs.Loose.{front_has, size_below, two_lie}
use Rattle.step_references.proofs.Moved.{moved_popped}
use Rattle.step_operators.proofs.lengths.length_twice.Goals as goal

pub pop-first-requires : goal.pop-first-requires
pop-first-requires g c = let size = size_below c.pop-second.new.self.loose c.args.stack.now.loose c.pop-second.result 2 c.pop-second.ensures.top c.requires.loose in omega (arith, size)

pub pop-array-requires : goal.pop-array-requires
pop-array-requires g c = let size = size_below c.pop-first.new.self.loose c.pop-second.new.self.loose c.pop-first.result 1 c.pop-first.ensures.top (size_below c.pop-second.new.self.loose c.args.stack.now.loose c.pop-second.result 2 c.pop-second.ensures.top c.requires.loose) in omega (arith, size)

pub behind_both-requires-clause-loose : goal.behind_both-requires-clause-loose
behind_both-requires-clause-loose g c = ap length (none_in_front c.pop-array.new.self.loose c.pop-first.new.self.loose c.pop-array.result c.pop-array.ensures.top (size_below c.pop-first.new.self.loose c.pop-second.new.self.loose c.pop-first.result 1 c.pop-first.ensures.top (size_below c.pop-second.new.self.loose c.args.stack.now.loose c.pop-second.result 2 c.pop-second.ensures.top c.requires.loose)))

pub behind_both-requires-clause-second : goal.behind_both-requires-clause-second
behind_both-requires-clause-second g c = last_has (HasValue (g.L.Labels.made c.args.labels.now)) c.pop-second.new.self.loose c.args.stack.now.loose c.pop-second.result c.pop-second.ensures.top c.requires.made

pub behind_both-requires-clause-first : goal.behind_both-requires-clause-first
behind_both-requires-clause-first g c = last_has (HasValue (g.L.Labels.made c.args.labels.now)) c.pop-first.new.self.loose c.pop-second.new.self.loose c.pop-first.result c.pop-first.ensures.top (front_has (HasValue (g.L.Labels.made c.args.labels.now)) c.pop-second.new.self.loose c.args.stack.now.loose c.pop-second.result c.pop-second.ensures.top c.requires.made)

pub behind_both-requires-clause-array : goal.behind_both-requires-clause-array
behind_both-requires-clause-array g c = last_has (HasValue (g.L.Labels.made c.args.labels.now)) c.pop-array.new.self.loose c.pop-first.new.self.loose c.pop-array.result c.pop-array.ensures.top (front_has (HasValue (g.L.Labels.made c.args.labels.now)) c.pop-first.new.self.loose c.pop-second.new.self.loose c.pop-first.result c.pop-first.ensures.top (front_has (HasValue (g.L.Labels.made c.args.labels.now)) c.pop-second.new.self.loose c.args.stack.now.loose c.pop-second.result c.pop-second.ensures.top c.requires.made))

pub returns-clause-goes_on : goal.returns-clause-goes_on
returns-clause-goes_on g c =
    let two = two_lie c.pop-array.new.self.loose c.pop-first.new.self.loose c.pop-second.new.self.loose c.pop-array.result c.pop-first.result c.pop-first.ensures.top c.pop-array.ensures.top (size_below c.pop-second.new.self.loose c.args.stack.now.loose c.pop-second.result 2 c.pop-second.ensures.top c.requires.loose) in
    resumed c.pop-second.new.self.loose c.pop-second.result c.pop-second.ensures.top (c.pop-array.ensures.tasks ∙ c.pop-first.ensures.tasks ∙ c.pop-second.ensures.tasks)
    (λ tables inputs set functions reading f s is. ap (λ vs. after tables inputs set functions (continuation.LengthTwice c.args.how) (map (read_value reading) vs) f (gave (read_value reading c.pop-second.result)) s) (sym two))
    c.behind_both.ensures.goes_on

pub returns-clause-moved : goal.returns-clause-moved
returns-clause-moved g c = moved_popped _ _ _ _ _ _ _ c.behind_both.result (c.pop-array.ensures.tasks ∙ c.pop-first.ensures.tasks ∙ c.pop-second.ensures.tasks) c.behind_both.ensures.moved
