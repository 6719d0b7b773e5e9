-- What statements declare.
use Rattle.std.proofs.Common.{refl, ◌≡◌, ◌++◌}
use Rattle.js_ast.specs.Trees as trees
use Rattle.js_ast.specs.Trees.{Statement, Statements, more_statements}
use Rattle.es_meaning.specs.Declared.{declared_functions}
use Rattle.call_records.specs.Declarations.{declared_by}

-- what a statement declares stands in front of what those behind it do
pub declared_front : (s : Statement) (ss : Statements) → declared_functions (more_statements s ss) ≡ declared_by s ++ declared_functions ss
declared_front (trees.function_declaration at f) ss = refl
declared_front (trees.block b) ss = refl
declared_front (trees.var at ds semi) ss = refl
declared_front (trees.empty at) ss = refl
declared_front (trees.expression at e semi) ss = refl
declared_front (trees.if_then at e s) ss = refl
declared_front (trees.if_else at e s t) ss = refl
declared_front (trees.do_while at s e semi) ss = refl
declared_front (trees.while at e s) ss = refl
declared_front (trees.for at first test update s) ss = refl
declared_front (trees.for_in at target e s) ss = refl
declared_front (trees.continue at label semi) ss = refl
declared_front (trees.break at label semi) ss = refl
declared_front (trees.return at e semi) ss = refl
declared_front (trees.throw at e semi) ss = refl
declared_front (trees.switch at e cs) ss = refl
declared_front (trees.labelled at text s) ss = refl
declared_front (trees.try_catch at b ident handler) ss = refl
declared_front (trees.try_finally at b final) ss = refl
declared_front (trees.try_both at b ident handler final) ss = refl
declared_front (trees.debugger at semi) ss = refl
