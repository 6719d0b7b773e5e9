use Rattle.std.proofs.Common.{ap, ◌∙◌, map}
use Rattle.js_ast.proofs.SlotLaws.{all_there}
use Rattle.js_ast.proofs.trees.Program.functions.Goals as goal

pub returns : goal.returns
returns c = rw (all_there _ _ _ _ c.requires.functions c.requires.count (ap (map _) c.deref_mut.ensures.value ∙ c.in_ok-slots.ensures)) at c.lent.ensures
