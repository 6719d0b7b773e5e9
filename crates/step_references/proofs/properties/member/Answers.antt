use Rattle.std.proofs.Common.{map, ◌∙◌}
use Rattle.js_values.specs.Readings.{HasValue, read_value}
use Rattle.js_values.proofs.ReadingLaws.{IsReading-earlier}
use Rattle.continuations.specs.Shapes.{use_of}
use Rattle.continuations.specs.Pending.{owns_use}
use Rattle.continuations.proofs.EndLaws.{last_has}
use Rattle.step_references.proofs.Begun.{resumed}
use Rattle.step_references.proofs.Loose.{front_has, size_below}
use Rattle.step_references.proofs.Moved.{moved_popped}
use Rattle.step_references.proofs.UseLaws.{member_as}
use Rattle.step_references.proofs.properties.member.Goals as goal

pub use_member-requires-clause-loose : goal.use_member-requires-clause-loose
use_member-requires-clause-loose g c = size_below c.pop-base.new.self.loose c.args.stack.now.loose c.pop-base.result (owns_use c.args.how) c.pop-base.ensures.top c.requires.loose

pub use_member-requires-clause-made : goal.use_member-requires-clause-made
use_member-requires-clause-made g c = front_has (HasValue (g.L.Labels.made c.args.labels.now)) c.pop-base.new.self.loose c.args.stack.now.loose c.pop-base.result c.pop-base.ensures.top c.requires.made

pub use_member-requires-clause-base : goal.use_member-requires-clause-base
use_member-requires-clause-base g c = last_has (HasValue (g.L.Labels.made c.args.labels.now)) c.pop-base.new.self.loose c.args.stack.now.loose c.pop-base.result c.pop-base.ensures.top c.requires.made

pub returns-clause-goes_on : goal.returns-clause-goes_on
returns-clause-goes_on g c = resumed c.pop-base.new.self.loose c.pop-base.result c.pop-base.ensures.top c.pop-base.ensures.tasks (λ tables inputs set functions reading f s is. member_as tables inputs set functions (use_of c.args.how (map (read_value reading) c.pop-base.new.self.loose)) c.args.name.now c.in_ok-text.text f.env.place (read_value reading c.pop-base.result) (reading c.bottom.result) s c.in_ok-text.ensures
    ((IsReading-earlier g.L.Labels.made g.L.Labels.meaning g.L.Labels.room g.L.Labels.firm c.args.labels.now c.use_member.new.labels reading c.use_member.ensures.kept is).agrees c.bottom.result c.bottom.ensures.made ∙ c.bottom.ensures.meaning)) c.use_member.ensures.goes_on

pub returns-clause-moved : goal.returns-clause-moved
returns-clause-moved g c = moved_popped _ _ _ _ _ _ _ c.use_member.result c.pop-base.ensures.tasks c.use_member.ensures.moved
