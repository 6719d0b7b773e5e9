use Rattle.std.proofs.Common.{ℕ, List, ◌++◌, Some, sym, ap, ◌∙◌, length}
use Rattle.flow_io.specs.Memory.{MemoryBytes}
use Rattle.js_ast.specs.Views.{view_program}
use Rattle.es_meaning.specs.BuiltIns.{built_ins_of}
use Rattle.flow_meaning.specs.Tracked.{tracked_run}
use Rattle.pair_runs.specs.Pairs.{seen_bytes}
use Rattle.pair_runs.proofs.PairLaws.{compared_declared, compared_no_fault, pair_ends, pair_equal, pair_view}
use Rattle.pair_runs.proofs.pairing.common_view.Goals as goal

pub returns-in-Ok-clause-equal : goal.returns-in-Ok-clause-equal
returns-in-Ok-clause-equal g c =
    let N = g.N.Natives in
    let set = built_ins_of (N.entries c.args.natives.now) (N.begin c.args.natives.now) (N.after c.args.natives.now) (N.asks c.args.natives.now) in
    let first = tracked_run set c.args.policy.now c.args.first.now (view_program c.args.program.now) c.args.turns in
    let second = tracked_run set c.args.policy.now c.args.second.now (view_program c.args.program.now) c.args.turns in
    pair_equal c.args.policy.now c.args.observer c.args.first.now c.args.second.now first second
    (Some c.new-view.result.taken) (Some c.run-one.new.sink.taken) (Some c.new-other.result.taken) (Some c.run-two.new.sink.taken) c.run-one.result c.run-two.result
    c.in-Ok.field-0 c.run-one.ensures.ran c.run-two.ensures.ran c.requires.agree (sym c.in-Ok.ensures)
    (λ finished others. c.run-one.ensures.isolation finished c.args.observer c.args.second.now c.args.turns c.requires.agree others)

pub returns-in-Ok-clause-view : goal.returns-in-Ok-clause-view
returns-in-Ok-clause-view g c =
    let N = g.N.Natives in
    let set = built_ins_of (N.entries c.args.natives.now) (N.begin c.args.natives.now) (N.after c.args.natives.now) (N.asks c.args.natives.now) in
    let first = tracked_run set c.args.policy.now c.args.first.now (view_program c.args.program.now) c.args.turns in
    let second = tracked_run set c.args.policy.now c.args.second.now (view_program c.args.program.now) c.args.turns in
    pair_view c.args.policy.now c.args.observer c.args.first.now c.args.second.now first second
    (Some c.new-view.result.taken) (Some c.run-one.new.sink.taken) (Some c.new-other.result.taken) (Some c.run-two.new.sink.taken) c.run-one.result c.run-two.result
    c.in-Ok.field-0 c.run-one.ensures.ran (sym c.in-Ok.ensures)
    ∙ ap (λ (w : List ℕ). w ++ seen_bytes c.args.observer c.args.policy.now first) (ap (λ (s : MemoryBytes). s.taken) c.new-view.ensures)

pub returns-clause-ends : goal.returns-clause-ends
returns-clause-ends g c =
    let N = g.N.Natives in
    let set = built_ins_of (N.entries c.args.natives.now) (N.begin c.args.natives.now) (N.after c.args.natives.now) (N.asks c.args.natives.now) in
    let first = tracked_run set c.args.policy.now c.args.first.now (view_program c.args.program.now) c.args.turns in
    let second = tracked_run set c.args.policy.now c.args.second.now (view_program c.args.program.now) c.args.turns in
    λ taken. pair_ends c.args.policy.now c.args.observer c.args.first.now c.args.second.now first second
    (Some c.new-view.result.taken) (Some c.run-one.new.sink.taken) (Some c.new-other.result.taken) (Some c.run-two.new.sink.taken) c.run-one.result c.run-two.result
    c.in-Err.end c.run-one.ensures.ran c.run-two.ensures.ran c.requires.agree (sym c.in-Err.ensures) taken

pub returns-clause-no_fault : goal.returns-clause-no_fault
returns-clause-no_fault g c = compared_no_fault c.run-one.result c.run-two.result c.in-Err.end (sym c.in-Err.ensures)

pub returns-clause-declared : goal.returns-clause-declared
returns-clause-declared g c = compared_declared (length c.args.policy.now.origins) c.run-one.result c.run-two.result c.in-Err.end c.run-one.ensures.declared c.run-two.ensures.declared (sym c.in-Err.ensures)
