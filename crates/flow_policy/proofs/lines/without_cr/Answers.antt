use Rattle.std.proofs.Common.{refl, ◌∷◌, []}
use Rattle.std.proofs.lemmas.Slice.Eq.{strip_suffix_is}
use Rattle.std.proofs.lemmas.Bool.Decides.{Decides-eqb}
use Rattle.flow_policy.proofs.Cuts.{without_cr-is}
use Rattle.flow_policy.proofs.lines.without_cr.Goals as goal

pub returns : goal.returns
returns c = rw c.unwrap_or.ensures (without_cr-is c.args.line.now c.args.line c.strip_suffix.result (strip_suffix_is Decides-eqb c.args.line.now (13 ∷ []) c.strip_suffix.result c.strip_suffix.ensures.cases) refl)
