use Rattle.std.proofs.lemmas.Result.{on_ok_weaker}
use Rattle.native_protocol.specs.Sets.{seen_entry}
use Rattle.step_start.proofs.EntryLaws.{function_entry}
use Rattle.step_start.proofs.entries.make_function.Goals as goal

pub returns : goal.returns
returns g c =
    on_ok_weaker c.give_named.result (λ gives.
    function_entry c.args.heap.now c.make_native.new.heap (seen_entry c.args.entry.holder.now c.args.entry.name.now c.args.entry.length c.args.entry.form) c.args.number c.args.holder.0 c.in_ok-f.f c.in_ok-f.ensures.number c.give_named.new.self c.in_ok-f.ensures.ok gives) c.give_named.ensures
