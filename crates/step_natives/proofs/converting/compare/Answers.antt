use Rattle.std.proofs.Common.{ap, refl, sym, ◌∙◌, [], ◌∷◌, ◌++◌}
use Rattle.origin_labels.proofs.StoreLaws.{IsKept-refl}
use Rattle.js_values.specs.declared.value.Labelled.{Labelled}
use Rattle.js_values.specs.Readings.{HasValue}
use Rattle.run_state.proofs.ActLaws.{Belongs-later}
use Rattle.continuations.specs.Kept.{kept_operands}
use Rattle.step_natives.proofs.ConvertingLaws.{apart_begins, beside_begins, stands_one, union_read}
use Rattle.step_natives.proofs.ValueLists.{both_have, both_lie}
use Rattle.step_natives.proofs.converting.compare.Goals as goal

pub join-requires-clause-first : goal.join-requires-clause-first
join-requires-clause-first g c =
    let lie = both_lie c.args.stack.now.loose c.pop-right.new.self.loose c.pop-left.new.self.loose c.pop-left.result c.pop-right.result c.requires.standing.values c.pop-right.ensures.top c.pop-left.ensures.top in
    (both_have (HasValue (g.L.Labels.made c.args.labels.now)) (kept_operands c.args.stack.now.tasks) c.args.stack.now.loose c.pop-left.result c.pop-right.result lie.0 c.requires.standing.operands).0

pub join-requires-clause-second : goal.join-requires-clause-second
join-requires-clause-second g c =
    let lie = both_lie c.args.stack.now.loose c.pop-right.new.self.loose c.pop-left.new.self.loose c.pop-left.result c.pop-right.result c.requires.standing.values c.pop-right.ensures.top c.pop-left.ensures.top in
    (both_have (HasValue (g.L.Labels.made c.args.labels.now)) (kept_operands c.args.stack.now.tasks) c.args.stack.now.loose c.pop-left.result c.pop-right.result lie.0 c.requires.standing.operands).1

pub begin_conversion-requires-clause-standing : goal.begin_conversion-requires-clause-standing
begin_conversion-requires-clause-standing g c =
    let lie = both_lie c.args.stack.now.loose c.pop-right.new.self.loose c.pop-left.new.self.loose c.pop-left.result c.pop-right.result c.requires.standing.values c.pop-right.ensures.top c.pop-left.ensures.top in
    let has = both_have (HasValue (g.L.Labels.made c.args.labels.now)) (kept_operands c.args.stack.now.tasks) c.args.stack.now.loose c.pop-left.result c.pop-right.result lie.0 c.requires.standing.operands in
    stands_one g.L.Labels.made g.L.Labels.meaning g.L.Labels.room g.L.Labels.firm c.args.labels.now c.join.new.self c.in_ok-label.ensures.kept c.args.stack.now c.lay.new.self c.args.world.now _ c.pop-left.result c.pop-right.result c.pop-left.result c.requires.standing
    (Belongs-later g.L.Labels.made g.L.Labels.meaning g.L.Labels.room g.L.Labels.firm c.args.labels.now c.join.new.self c.in_ok-label.ensures.kept g.met.L.Labels.rising c.args.world.now c.requires.standing.belongs) lie.0
    (c.lay.ensures.tasks ∙ c.pop-left.ensures.tasks ∙ c.pop-right.ensures.tasks) (c.in_ok-lay.ensures.laid ∙ ap (λ vs. vs ++ c.pop-left.result ∷ []) lie.1) ((c.in_ok-label.ensures.kept.labels c.pop-left.result.label has.0).0)

pub returns-then-converts_beside-clause-begins : goal.returns-then-converts_beside-clause-begins
returns-then-converts_beside-clause-begins g c tables inputs set functions tells asks =
    let lie = both_lie c.args.stack.now.loose c.pop-right.new.self.loose c.pop-left.new.self.loose c.pop-left.result c.pop-right.result c.requires.standing.values c.pop-right.ensures.top c.pop-left.ensures.top in
    let has = both_have (HasValue (g.L.Labels.made c.args.labels.now)) (kept_operands c.args.stack.now.tasks) c.args.stack.now.loose c.pop-left.result c.pop-right.result lie.0 c.requires.standing.operands in
    beside_begins g.L.Labels.made g.L.Labels.meaning c.begin_conversion.new.labels tables inputs set functions tells asks c.args.states.now c.begin_conversion.new.states c.args.stack.now c.lay.new.self c.begin_conversion.new.stack c.args.world.now c.begin_conversion.new.world c.pop-left.result c.pop-right.result c.in_ok-label.label lie.0
    (c.lay.ensures.tasks ∙ c.pop-left.ensures.tasks ∙ c.pop-right.ensures.tasks)
    (union_read g.L.Labels.made g.L.Labels.meaning g.L.Labels.room g.L.Labels.firm c.args.labels.now c.join.new.self c.begin_conversion.new.labels c.in_ok-label.ensures.kept c.in_ok-next.ensures.kept c.pop-left.result.label c.pop-right.result.label c.in_ok-label.label has.0 has.1 c.in_ok-label.ensures.made c.in_ok-label.ensures.meaning)
    (sym c.converts_beside.ensures ∙ c.if-converts_beside.true) (c.in_ok-lay.ensures.laid ∙ ap (λ vs. vs ++ c.pop-left.result ∷ []) lie.1) c.in_ok-next.next (c.in_ok-next.ensures.converts tables inputs set functions tells asks)

pub returns-clause-begins : goal.returns-clause-begins
returns-clause-begins g c tables inputs set functions tells asks =
    let lie = both_lie c.args.stack.now.loose c.pop-right.new.self.loose c.pop-left.new.self.loose c.pop-left.result c.pop-right.result c.requires.standing.values c.pop-right.ensures.top c.pop-left.ensures.top in
    let has = both_have (HasValue (g.L.Labels.made c.args.labels.now)) (kept_operands c.args.stack.now.tasks) c.args.stack.now.loose c.pop-left.result c.pop-right.result lie.0 c.requires.standing.operands in
    let both : Labelled _ = record { value = c.pop-left.result.value; label = c.in_ok-label.label } in
    apart_begins g.L.Labels.made g.L.Labels.meaning c.join.new.self tables inputs set functions tells asks c.args.states.now c.args.states.now c.args.stack.now c.lay-2.new.self c.lay-2.new.self c.args.world.now c.args.world.now c.pop-left.result c.pop-right.result c.in_ok-label.label lie.0
    (c.lay-2.ensures.tasks ∙ c.pop-left.ensures.tasks ∙ c.pop-right.ensures.tasks)
    (union_read g.L.Labels.made g.L.Labels.meaning g.L.Labels.room g.L.Labels.firm c.args.labels.now c.join.new.self c.join.new.self c.in_ok-label.ensures.kept (IsKept-refl _ _ _ _ _) c.pop-left.result.label c.pop-right.result.label c.in_ok-label.label has.0 has.1 c.in_ok-label.ensures.made c.in_ok-label.ensures.meaning)
    (sym c.converts_beside.ensures ∙ c.if-converts_beside.false) (c.in_ok-lay-2.ensures.laid ∙ ap (λ vs. vs ++ both ∷ []) lie.1) refl

pub returns-clause-standing : goal.returns-clause-standing
returns-clause-standing g c =
    let lie = both_lie c.args.stack.now.loose c.pop-right.new.self.loose c.pop-left.new.self.loose c.pop-left.result c.pop-right.result c.requires.standing.values c.pop-right.ensures.top c.pop-left.ensures.top in
    let both : Labelled _ = record { value = c.pop-left.result.value; label = c.in_ok-label.label } in
    stands_one g.L.Labels.made g.L.Labels.meaning g.L.Labels.room g.L.Labels.firm c.args.labels.now c.join.new.self c.in_ok-label.ensures.kept c.args.stack.now c.lay-2.new.self c.args.world.now _ c.pop-left.result c.pop-right.result both c.requires.standing
    (Belongs-later g.L.Labels.made g.L.Labels.meaning g.L.Labels.room g.L.Labels.firm c.args.labels.now c.join.new.self c.in_ok-label.ensures.kept g.met.L.Labels.rising c.args.world.now c.requires.standing.belongs) lie.0
    (c.lay-2.ensures.tasks ∙ c.pop-left.ensures.tasks ∙ c.pop-right.ensures.tasks) (c.in_ok-lay-2.ensures.laid ∙ ap (λ vs. vs ++ both ∷ []) lie.1) c.in_ok-label.ensures.made
