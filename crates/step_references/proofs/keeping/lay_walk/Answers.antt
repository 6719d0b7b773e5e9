use Rattle.std.proofs.Common.{append-nil}
use Rattle.step_references.proofs.Kept.{no_walk}
use Rattle.std.proofs.Common.{◌++◌, sym, ap, ◌∙◌}
use Rattle.step_references.proofs.keeping.lay_walk.Goals as goal

pub returns-in-Record-clause-laid : goal.returns-in-Record-clause-laid
returns-in-Record-clause-laid g c = sym (append-nil c.args.stack.now.loose) ∙ ap (λ vs. c.args.stack.now.loose ++ vs) (sym (no_walk c.args.place c.args.walk c.in-Record.is))
