use Rattle.std.proofs.Common.{ℕ, ◌==◌, sym}
use Rattle.std.proofs.lemmas.List.{take_rest}
use Rattle.flow_lists.proofs.Cuts.{cut_none, cut_at}
use Rattle.flow_policy.proofs.lines.cut.Goals as goal

pub returns-in_err-at-clause-parts : goal.returns-in_err-at-clause-parts
returns-in_err-at-clause-parts c = rw c.from_residual.ensures (cut_none (λ (b : ℕ). b == c.args.byte) c.args.bytes.now (sym c.in_err-at.ensures))

pub returns-clause-parts : goal.returns-clause-parts
returns-clause-parts c = rw take_rest (cut_at (λ (b : ℕ). b == c.args.byte) c.args.bytes.now c.in_ok-at.at (sym c.in_ok-at.ensures)).1
