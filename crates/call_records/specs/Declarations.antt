-- The function that a statement declares.
use Rattle.std.specs.Prelude.{List, [], ◌∷◌}
use Rattle.js_ast.specs.Trees.{Statement, function_declaration, Function}

-- the one that it declares itself (ECMA-262 13), where it is a declaration, and none within it
abbrev pub declared_by : Statement → List Function
declared_by (function_declaration at f) = f ∷ []
declared_by _ = []
