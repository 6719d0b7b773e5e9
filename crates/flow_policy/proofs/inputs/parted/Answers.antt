use Rattle.std.proofs.Common.{arith, not, ℕ}
use Rattle.std.proofs.lemmas.List.Sums.{prefix_len-le-length}
use Rattle.flow_policy.specs.Words.{is_space}
use Rattle.flow_policy.proofs.inputs.parted.Goals as goal

pub slice-requires-clause-within : goal.slice-requires-clause-within
slice-requires-clause-within c = omega (arith, c.place_of_space-at.ensures, prefix_len-le-length (λ (x : ℕ). not (is_space x)) c.args.text.now)
