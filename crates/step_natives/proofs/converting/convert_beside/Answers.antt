use Rattle.std.proofs.Common.{ap, refl, sym, ◌∙◌, [], ◌∷◌, ◌++◌}
use Rattle.origin_labels.proofs.StoreLaws.{IsKept-refl}
use Rattle.js_values.specs.Readings.{HasValue}
use Rattle.run_state.proofs.ActLaws.{Belongs-later}
use Rattle.continuations.specs.Kept.{kept_operands}
use Rattle.step_natives.proofs.ConvertingLaws.{as_compared, second_begins, second_stays, stands_one, union_read}
use Rattle.step_natives.proofs.ValueLists.{both_have, both_lie}
use Rattle.step_natives.proofs.converting.convert_beside.Goals as goal

pub join-requires-clause-first : goal.join-requires-clause-first
join-requires-clause-first g c =
    let lie = both_lie c.args.stack.now.loose c.pop-value.new.self.loose c.pop-beside.new.self.loose c.pop-beside.result c.pop-value.result c.requires.standing.values c.pop-value.ensures.top c.pop-beside.ensures.top in
    let has = both_have (HasValue (g.L.Labels.made c.args.labels.now)) (kept_operands c.args.stack.now.tasks) c.args.stack.now.loose c.pop-beside.result c.pop-value.result lie.0 c.requires.standing.operands in
    has.0

pub join-requires-clause-second : goal.join-requires-clause-second
join-requires-clause-second g c =
    let lie = both_lie c.args.stack.now.loose c.pop-value.new.self.loose c.pop-beside.new.self.loose c.pop-beside.result c.pop-value.result c.requires.standing.values c.pop-value.ensures.top c.pop-beside.ensures.top in
    let has = both_have (HasValue (g.L.Labels.made c.args.labels.now)) (kept_operands c.args.stack.now.tasks) c.args.stack.now.loose c.pop-beside.result c.pop-value.result lie.0 c.requires.standing.operands in
    has.1

pub begin_conversion-requires-clause-standing : goal.begin_conversion-requires-clause-standing
begin_conversion-requires-clause-standing g c =
    let lie = both_lie c.args.stack.now.loose c.pop-value.new.self.loose c.pop-beside.new.self.loose c.pop-beside.result c.pop-value.result c.requires.standing.values c.pop-value.ensures.top c.pop-beside.ensures.top in
    let has = both_have (HasValue (g.L.Labels.made c.args.labels.now)) (kept_operands c.args.stack.now.tasks) c.args.stack.now.loose c.pop-beside.result c.pop-value.result lie.0 c.requires.standing.operands in
    stands_one g.L.Labels.made g.L.Labels.meaning g.L.Labels.room g.L.Labels.firm c.args.labels.now c.join.new.self c.in_ok-label.ensures.kept c.args.stack.now c.lay.new.self c.args.world.now _ c.pop-beside.result c.pop-value.result c.pop-value.result
    (as_compared g.L.Labels.made g.L.Labels.meaning g.L.Labels.room g.L.Labels.firm c.args.labels.now c.join.new.self c.in_ok-label.ensures.kept c.args.stack.now c.args.world.now _ c.requires.standing)
    (Belongs-later g.L.Labels.made g.L.Labels.meaning g.L.Labels.room g.L.Labels.firm c.args.labels.now c.join.new.self c.in_ok-label.ensures.kept g.met.L.Labels.rising c.args.world.now c.requires.standing.belongs) lie.0
    (c.lay.ensures.tasks ∙ c.pop-beside.ensures.tasks ∙ c.pop-value.ensures.tasks) (c.in_ok-lay.ensures.laid ∙ ap (λ vs. vs ++ c.pop-value.result ∷ []) lie.1) ((c.in_ok-label.ensures.kept.labels c.pop-value.result.label has.1).0)

pub returns-then-not-object-clause-begins : goal.returns-then-not-object-clause-begins
returns-then-not-object-clause-begins g c tables inputs set functions tells asks =
    let lie = both_lie c.args.stack.now.loose c.pop-value.new.self.loose c.pop-beside.new.self.loose c.pop-beside.result c.pop-value.result c.requires.standing.values c.pop-value.ensures.top c.pop-beside.ensures.top in
    let has = both_have (HasValue (g.L.Labels.made c.args.labels.now)) (kept_operands c.args.stack.now.tasks) c.args.stack.now.loose c.pop-beside.result c.pop-value.result lie.0 c.requires.standing.operands in
    second_stays g.L.Labels.made g.L.Labels.meaning c.join.new.self tables inputs set functions tells asks c.args.states.now c.args.states.now c.args.stack.now c.lay.new.self c.lay.new.self c.args.world.now c.args.world.now c.pop-beside.result c.pop-value.result c.in_ok-label.label lie.0
    (c.lay.ensures.tasks ∙ c.pop-beside.ensures.tasks ∙ c.pop-value.ensures.tasks) (union_read g.L.Labels.made g.L.Labels.meaning g.L.Labels.room g.L.Labels.firm c.args.labels.now c.join.new.self c.join.new.self c.in_ok-label.ensures.kept (IsKept-refl _ _ _ _ _) c.pop-beside.result.label c.pop-value.result.label c.in_ok-label.label has.0 has.1 c.in_ok-label.ensures.made c.in_ok-label.ensures.meaning)
    (sym c.is_object-object.ensures ∙ c.if-not-object.true) (c.in_ok-lay.ensures.laid ∙ ap (λ vs. vs ++ c.pop-value.result ∷ []) lie.1) refl

pub returns-then-not-object-clause-standing : goal.returns-then-not-object-clause-standing
returns-then-not-object-clause-standing g c =
    let lie = both_lie c.args.stack.now.loose c.pop-value.new.self.loose c.pop-beside.new.self.loose c.pop-beside.result c.pop-value.result c.requires.standing.values c.pop-value.ensures.top c.pop-beside.ensures.top in
    let has = both_have (HasValue (g.L.Labels.made c.args.labels.now)) (kept_operands c.args.stack.now.tasks) c.args.stack.now.loose c.pop-beside.result c.pop-value.result lie.0 c.requires.standing.operands in
    stands_one g.L.Labels.made g.L.Labels.meaning g.L.Labels.room g.L.Labels.firm c.args.labels.now c.join.new.self c.in_ok-label.ensures.kept c.args.stack.now c.lay.new.self c.args.world.now _ c.pop-beside.result c.pop-value.result c.pop-value.result
    (as_compared g.L.Labels.made g.L.Labels.meaning g.L.Labels.room g.L.Labels.firm c.args.labels.now c.join.new.self c.in_ok-label.ensures.kept c.args.stack.now c.args.world.now _ c.requires.standing)
    (Belongs-later g.L.Labels.made g.L.Labels.meaning g.L.Labels.room g.L.Labels.firm c.args.labels.now c.join.new.self c.in_ok-label.ensures.kept g.met.L.Labels.rising c.args.world.now c.requires.standing.belongs) lie.0
    (c.lay.ensures.tasks ∙ c.pop-beside.ensures.tasks ∙ c.pop-value.ensures.tasks) (c.in_ok-lay.ensures.laid ∙ ap (λ vs. vs ++ c.pop-value.result ∷ []) lie.1) ((c.in_ok-label.ensures.kept.labels c.pop-value.result.label has.1).0)

pub returns-clause-begins : goal.returns-clause-begins
returns-clause-begins g c tables inputs set functions tells asks =
    let lie = both_lie c.args.stack.now.loose c.pop-value.new.self.loose c.pop-beside.new.self.loose c.pop-beside.result c.pop-value.result c.requires.standing.values c.pop-value.ensures.top c.pop-beside.ensures.top in
    let has = both_have (HasValue (g.L.Labels.made c.args.labels.now)) (kept_operands c.args.stack.now.tasks) c.args.stack.now.loose c.pop-beside.result c.pop-value.result lie.0 c.requires.standing.operands in
    second_begins g.L.Labels.made g.L.Labels.meaning c.begin_conversion.new.labels tables inputs set functions tells asks c.args.states.now c.begin_conversion.new.states c.args.stack.now c.lay.new.self c.begin_conversion.new.stack c.args.world.now c.begin_conversion.new.world c.pop-beside.result c.pop-value.result c.in_ok-label.label lie.0
    (c.lay.ensures.tasks ∙ c.pop-beside.ensures.tasks ∙ c.pop-value.ensures.tasks) (union_read g.L.Labels.made g.L.Labels.meaning g.L.Labels.room g.L.Labels.firm c.args.labels.now c.join.new.self c.begin_conversion.new.labels c.in_ok-label.ensures.kept c.in_ok-next.ensures.kept c.pop-beside.result.label c.pop-value.result.label c.in_ok-label.label has.0 has.1 c.in_ok-label.ensures.made c.in_ok-label.ensures.meaning)
    (sym c.is_object-object.ensures ∙ c.if-not-object.false) (c.in_ok-lay.ensures.laid ∙ ap (λ vs. vs ++ c.pop-value.result ∷ []) lie.1) c.in_ok-next.next (c.in_ok-next.ensures.converts tables inputs set functions tells asks)
