use Rattle.std.proofs.Common.{◌≡◌, map, replicate, []}
use Rattle.flow_policy.proofs.inputs.Inputs.new.Given as goal

abbrev pub invariant-loop : goal.invariant-loop
invariant-loop l = map (λ lines. lines.items) l.lists.items ≡ replicate l.counter []
