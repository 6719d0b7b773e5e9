-- Whether parts of lists name the `arguments` object, each on its own.
use Rattle.std.specs.Prelude.{Bool, false, ◌||◌}
use Rattle.js_ast.specs.declared.trees.Item.{Item}
use Rattle.js_ast.specs.declared.trees.Item as an_item
use Rattle.js_ast.specs.declared.trees.Clause.{Clause, out-Clause}
use Rattle.js_ast.specs.Nodes.{nodes_of}
use Rattle.js_ast.specs.Trees.{Property, value, getter, setter}
use Rattle.js_ast.specs.Views.{view_expr_kind, view_maybe_expr, view_stmts}
use Rattle.es_meaning.specs.Naming.{names_in_expr, names_in_maybe, names_in_statements}

abbrev pub names_in_item : Item → Bool
names_in_item an_item.Hole = false
names_in_item (an_item.Value' a p e) = names_in_expr (view_expr_kind a e)

abbrev pub names_in_property : Property → Bool
names_in_property (value at key e) = names_in_expr e
names_in_property (getter at key f) = false
names_in_property (setter at key f) = false

abbrev pub names_in_clause : Clause → Bool
names_in_clause c = names_in_maybe (view_maybe_expr (out-Clause c).test) || names_in_statements (view_stmts (nodes_of (out-Clause c).body))
