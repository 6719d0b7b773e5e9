use Rattle.std.proofs.Common.{sym, ◌∙◌}
use Rattle.interned_labels.proofs.TableLaws.{found_number, found_none}
use Rattle.interned_labels.proofs.set_table.SetTable.number_of.Goals as goal

pub returns-in_err-place : goal.returns-in_err-place
returns-in_err-place c = c.from_residual.ensures ∙ found_none c.self.inside.sets.keys c.args.self.now c.args.origins.now c.self.view_is c.requires (sym c.in_err-place.ensures.index)

pub returns : goal.returns
returns c = found_number c.self.inside.sets.keys c.args.self.now c.args.origins.now c.in_ok-place.place c.self.view_is c.requires (sym c.in_ok-place.ensures.index)
