use Rattle.std.proofs.Common.{subst, ◌≤◌}
use Rattle.native_protocol.specs.Sets.{seen_entry}
use Rattle.step_start.proofs.EntryLaws.{begins, goes_on, ends}
use Rattle.step_start.proofs.entries.start_objects.Goals as goal

pub entries-init : goal.entries-init
entries-init g c = begins c.args.label (g.N.Natives.entries c.args.natives.now) c.in_ok-heap.heap c.in_ok-heap.ensures

pub entries-preserved : goal.entries-preserved
entries-preserved g c =
    goes_on c.args.label (g.N.Natives.entries c.args.natives.now) c.entries.which (seen_entry c.entry.result.holder.now c.entry.result.name.now c.entry.result.length c.entry.result.form) c.entries.heap c.add_entry.new.heap c.entry.ensures c.in_ok-add_entry.ensures c.entries.invariant

pub returns-clause-objects : goal.returns-clause-objects
returns-clause-objects g c = ends c.args.label (g.N.Natives.entries c.args.natives.now) c.entries.which c.entries.heap c.give_accessors.new.heap (subst (λ n. n ≤ c.entries.which) c.count-which-end.ensures c.entries-test.false) c.entries.invariant c.in_ok-give_accessors.ensures.ok

pub add_entry-requires : goal.add_entry-requires
add_entry-requires g c = record { started = c.entries.invariant.started }

pub give_accessors-requires : goal.give_accessors-requires
give_accessors-requires g c = record { started = c.entries.invariant.started }

pub returns-clause-started : goal.returns-clause-started
returns-clause-started g c = c.in_ok-give_accessors.ensures.started
