use Rattle.js_ast.proofs.SlotLaws.{one_there, the_one}
use Rattle.js_ast.proofs.trees.Program.function.Goals as goal

pub unwrap-requires : goal.unwrap-requires
unwrap-requires c = one_there _ _ _ _ _ _ c.requires.marked.functions (rw c.requires.marked.count at c.requires.below) c.in_list.ensures

pub returns-clause-number : goal.returns-clause-number
returns-clause-number c = (the_one _ _ _ _ _ _ _ c.requires.marked.functions (rw c.requires.marked.count at c.requires.below) c.in_list.ensures c.unwrap.ensures).0

pub returns-clause-is : goal.returns-clause-is
returns-clause-is c = (the_one _ _ _ _ _ _ _ c.requires.marked.functions (rw c.requires.marked.count at c.requires.below) c.in_list.ensures c.unwrap.ensures).1
