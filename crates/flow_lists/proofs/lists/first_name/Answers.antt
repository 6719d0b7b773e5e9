use Rattle.std.proofs.Common.{sym}
use Rattle.std.proofs.lemmas.List.{take_rest}
use Rattle.flow_lists.specs.Lists.{is_comma}
use Rattle.flow_lists.proofs.Cuts.{cut_none, cut_at}
use Rattle.flow_lists.proofs.lists.first_name.Goals as goal

pub returns-in_err-at-clause-parts : goal.returns-in_err-at-clause-parts
returns-in_err-at-clause-parts c = rw c.from_residual.ensures (cut_none is_comma c.args.list.now (sym c.in_err-at.ensures))

pub returns-clause-parts : goal.returns-clause-parts
returns-clause-parts c = rw take_rest (cut_at is_comma c.args.list.now c.in_ok-at.at (sym c.in_ok-at.ensures)).1
