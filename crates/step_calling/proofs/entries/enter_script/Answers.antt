use Rattle.std.proofs.Common.{ap, refl, subst, sym, map, drop}
use Rattle.std.specs.List.{All}
use Rattle.flow_frames.specs.declared.kind.Kind.TheVariants as kind
use Rattle.js_ast.specs.Views.{view_function}
use Rattle.js_values.specs.Readings.{HasValue, read_value}
use Rattle.flow_meaning.specs.Tracked.{with_call}
use Rattle.function_table.specs.Tables.{table}
use Rattle.function_entry.specs.Changing.{Changes}
use Rattle.continuations.specs.declared.continuation.Continuation.TheVariants as continuation
use Rattle.continuations.specs.Kept.{kept_operands}
use Rattle.continuations.specs.Shapes.{nth}
use Rattle.step_calling.proofs.CallLaws.{script_called}
use Rattle.step_calling.proofs.ReachLaws.{map_drop}
use Rattle.step_calling.proofs.StandingLaws.{stands_entered}
use Rattle.step_natives.proofs.ValueLists.{leading_has, none_has, rest_has, rest_whole}
use Rattle.step_calling.proofs.entries.enter_script.Goals as goal

pub enter-requires-clause-this : goal.enter-requires-clause-this
enter-requires-clause-this g c = leading_has (HasValue (g.L.Labels.made c.args.labels.now)) 0 (kept_operands c.args.stack.now.tasks) c.args.stack.now.loose c.in_ok-this.this c.in_ok-this.ensures c.requires.begun.operands

pub enter-requires-clause-args : goal.enter-requires-clause-args
enter-requires-clause-args g c = rest_has (HasValue (g.L.Labels.made c.args.labels.now)) 2 (kept_operands c.args.stack.now.tasks) c.loose.result.now c.args.stack.now.loose c.loose.ensures c.requires.begun.operands

pub returns-clause-calls : goal.returns-clause-calls
returns-clause-calls g c tables inputs set ns =
    let made = g.L.Labels.made in
    let meaning = g.L.Labels.meaning in
    let functions = table c.args.functions.now in
    let code = view_function c.args.function.now in
    let enters = subst (λ vs. Changes made meaning c.enter.new.labels (λ reading. with_call functions c.args.number code c.args.place.0 (read_value reading c.in_ok-this.this) (map (read_value reading) vs)) c.args.world.now c.enter.new.world)
    (rest_whole 2 c.loose.result.now c.args.stack.now.loose c.loose.ensures) c.in_ok-own.ensures.enters in
    script_called made meaning c.enter.new.labels tables inputs set functions ns c.args.number code c.args.place.0 c.args._label c.in_ok-this.this (drop 2 c.args.stack.now.loose) c.in_ok-own.own c.args.depth
    c.args.stack.now c.clear.new.self c.push.new.self c.begin_body.new.stack c.args.world.now c.enter.new.world c.in_ok-next.next
    (λ reading. ap (λ vs. nth 0 (map (read_value reading) vs)) c.in_ok-this.ensures) (λ reading. sym (map_drop (read_value reading) 2 c.args.stack.now.loose))
    enters c.in_ok-own.ensures.number c.clear.ensures.tasks c.clear.ensures.none c.in_ok-push.ensures.ok c.in_ok-next.ensures.begins

pub returns-clause-standing : goal.returns-clause-standing
returns-clause-standing g c =
    let P = HasValue (g.L.Labels.made c.enter.new.labels) in
    stands_entered g.L.Labels.made g.L.Labels.meaning g.L.Labels.room g.L.Labels.firm c.args.labels.now c.enter.new.labels c.enter.ensures.kept kind.Call c.args.stack.now c.args.world.now c.args.count c.args.depth c.args._label c.requires.begun
    c.enter.new.world c.in_ok-own.ensures.belongs c.enter.ensures.grows.records c.clear.new.self c.push.new.self c.begin_body.new.stack (continuation.EndCall c.in_ok-own.own c.args.depth) c.in_ok-next.next c.enter.ensures.frames refl refl c.in_ok-next.ensures.quiet
    c.clear.ensures.tasks (subst (All P) (sym c.clear.ensures.none) (none_has P)) c.in_ok-push.ensures.scopes c.in_ok-push.ensures.natives c.in_ok-push.ensures.operands c.in_ok-next.ensures.keeps
