use Rattle.std.proofs.Common.{ap, refl, subst, sym, ◌∙◌, [], ◌∷◌, ◌++◌, map, drop, arith, ◌≤◌, length}
use Rattle.std.specs.List.{All}
use Rattle.origin_labels.proofs.StoreLaws.{IsKept-trans}
use Rattle.flow_frames.specs.declared.kind.Kind.TheVariants as kind
use Rattle.js_ast.specs.Views.{view_function}
use Rattle.js_values.specs.Readings.{HasValue, read_value}
use Rattle.js_values.proofs.ReadingLaws.{IsReading-earlier}
use Rattle.flow_meaning.specs.Tracked.{with_call}
use Rattle.function_table.specs.Tables.{table}
use Rattle.run_state.proofs.ActLaws.{Belongs-later}
use Rattle.function_entry.specs.Changing.{Changes}
use Rattle.continuations.specs.declared.continuation.Continuation.TheVariants as continuation
use Rattle.continuations.specs.Kept.{kept_operands, operands_of}
use Rattle.step_calling.proofs.CallLaws.{script_constructs}
use Rattle.step_calling.proofs.ReachLaws.{map_drop}
use Rattle.step_calling.proofs.StandingLaws.{stands_entered}
use Rattle.step_natives.proofs.FrameLaws.{values_kept}
use Rattle.step_natives.proofs.ValueLists.{one_has, rest_has, rest_whole}
use Rattle.step_calling.proofs.constructing.construct_script.Goals as goal

pub fresh-requires-clause-belongs : goal.fresh-requires-clause-belongs
fresh-requires-clause-belongs g c = Belongs-later g.L.Labels.made g.L.Labels.meaning g.L.Labels.room g.L.Labels.firm c.args.labels.now c.prototype_of.new.labels c.prototype_of.ensures.kept g.met.L.Labels.rising c.args.world.now c.requires.begun.belongs

pub enter-requires-clause-args : goal.enter-requires-clause-args
enter-requires-clause-args g c =
    let kept = IsKept-trans g.L.Labels.made g.L.Labels.meaning g.L.Labels.room g.L.Labels.firm c.args.labels.now c.prototype_of.new.labels c.fresh.new.labels c.prototype_of.ensures.kept c.fresh.ensures.kept in
    rest_has (HasValue (g.L.Labels.made c.fresh.new.labels)) 1 (kept_operands c.args.stack.now.tasks) c.loose.result.now c.args.stack.now.loose c.loose.ensures
    (values_kept g.L.Labels.made g.L.Labels.meaning g.L.Labels.room g.L.Labels.firm c.args.labels.now c.fresh.new.labels kept (operands_of c.args.stack.now) c.requires.begun.operands)

pub returns-in_err-next-clause-kept : goal.returns-in_err-next-clause-kept
returns-in_err-next-clause-kept g c =
    IsKept-trans g.L.Labels.made g.L.Labels.meaning g.L.Labels.room g.L.Labels.firm c.args.labels.now c.prototype_of.new.labels c.enter.new.labels c.prototype_of.ensures.kept
    (IsKept-trans g.L.Labels.made g.L.Labels.meaning g.L.Labels.room g.L.Labels.firm c.prototype_of.new.labels c.fresh.new.labels c.enter.new.labels c.fresh.ensures.kept c.enter.ensures.kept)

pub returns-clause-kept : goal.returns-clause-kept
returns-clause-kept g c =
    IsKept-trans g.L.Labels.made g.L.Labels.meaning g.L.Labels.room g.L.Labels.firm c.args.labels.now c.prototype_of.new.labels c.enter.new.labels c.prototype_of.ensures.kept
    (IsKept-trans g.L.Labels.made g.L.Labels.meaning g.L.Labels.room g.L.Labels.firm c.prototype_of.new.labels c.fresh.new.labels c.enter.new.labels c.fresh.ensures.kept c.enter.ensures.kept)

pub returns-clause-constructs : goal.returns-clause-constructs
returns-clause-constructs g c tables inputs set ns =
    let made = g.L.Labels.made in
    let meaning = g.L.Labels.meaning in
    let room = g.L.Labels.room in
    let firm = g.L.Labels.firm in
    let functions = table c.args.functions.now in
    let code = view_function c.args.function.now in
    let last = c.enter.new.labels in
    let enters = subst (λ vs. Changes made meaning last (λ reading. with_call functions c.args.number code c.args.place.0 (read_value reading c.reference-this.result) (map (read_value reading) vs)) c.fresh.new.world c.enter.new.world)
    (rest_whole 1 c.loose.result.now c.args.stack.now.loose c.loose.ensures) c.in_ok-own.ensures.enters in
    script_constructs made meaning last tables inputs set functions ns c.args.number code c.args.place.0 c.args._label c.args.object c.in_ok-made.made c.in_ok-proto.proto c.reference-this.result c.reference.result (drop 1 c.args.stack.now.loose) c.in_ok-own.own c.args.depth
    c.args.stack.now c.clear.new.self c.lay.new.self c.push.new.self c.begin_body.new.stack c.args.world.now c.fresh.new.world c.enter.new.world c.in_ok-next.next
    (λ reading. sym (map_drop (read_value reading) 1 c.args.stack.now.loose))
    (λ reading read. c.in_ok-proto.ensures.is reading (IsReading-earlier made meaning room firm c.prototype_of.new.labels last reading (IsKept-trans made meaning room firm c.prototype_of.new.labels c.fresh.new.labels last c.fresh.ensures.kept c.enter.ensures.kept) read)) (λ reading read told turns. c.in_ok-made.ensures.makes.says reading (IsReading-earlier made meaning room firm c.fresh.new.labels last reading c.enter.ensures.kept read) told turns) c.in_ok-made.ensures.number
    c.reference-this.ensures.value c.reference.ensures.value (λ reading read. (IsReading-earlier made meaning room firm c.fresh.new.labels last reading c.enter.ensures.kept read).agrees c.reference-this.result.label c.reference-this.ensures.made ∙ c.reference-this.ensures.empty)
    enters c.in_ok-own.ensures.number c.clear.ensures.tasks c.clear.ensures.none c.lay.ensures.tasks c.in_ok-lay.ensures.laid c.in_ok-push.ensures.ok c.in_ok-next.ensures.begins

pub returns-clause-standing : goal.returns-clause-standing
returns-clause-standing g c =
    let made = g.L.Labels.made in
    let P = HasValue (made c.enter.new.labels) in
    let kept = IsKept-trans g.L.Labels.made g.L.Labels.meaning g.L.Labels.room g.L.Labels.firm c.args.labels.now c.prototype_of.new.labels c.enter.new.labels c.prototype_of.ensures.kept
    (IsKept-trans g.L.Labels.made g.L.Labels.meaning g.L.Labels.room g.L.Labels.firm c.prototype_of.new.labels c.fresh.new.labels c.enter.new.labels c.fresh.ensures.kept c.enter.ensures.kept) in
    let more : length c.args.world.now.records ≤ length c.enter.new.world.records = omega (arith, c.fresh.ensures.grows.records, c.enter.ensures.grows.records) in
    stands_entered made g.L.Labels.meaning g.L.Labels.room g.L.Labels.firm c.args.labels.now c.enter.new.labels kept kind.Call c.args.stack.now c.args.world.now c.args.count c.args.depth c.args._label c.requires.begun
    c.enter.new.world c.in_ok-own.ensures.belongs more c.lay.new.self c.push.new.self c.begin_body.new.stack (continuation.EndNew c.in_ok-own.own c.args.depth) c.in_ok-next.next (c.enter.ensures.frames ∙ c.fresh.ensures.frames) refl refl c.in_ok-next.ensures.quiet
    (c.lay.ensures.tasks ∙ c.clear.ensures.tasks)
    (subst (All P) (sym (c.in_ok-lay.ensures.laid ∙ ap (λ vs. vs ++ c.reference.result ∷ []) c.clear.ensures.none)) (one_has P c.reference.result c.reference.ensures.made))
    c.in_ok-push.ensures.scopes c.in_ok-push.ensures.natives c.in_ok-push.ensures.operands c.in_ok-next.ensures.keeps
