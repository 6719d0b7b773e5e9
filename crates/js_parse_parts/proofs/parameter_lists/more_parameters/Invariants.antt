use Rattle.std.proofs.Common.{◌≡◌, length}
use Rattle.js_ast.specs.Nodes.{nodes_of}
use Rattle.js_list_parser.specs.Reading.{loop}
use Rattle.js_list_parser.specs.ExpressionParsing.{parameter}
use Rattle.js_ast.specs.Views.{view_idents}
use Rattle.js_parse_parts.proofs.parameter_lists.more_parameters.Given as goal

abbrev pub invariant-turns : goal.invariant-turns
invariant-turns l = loop parameter (view_idents (nodes_of l.list)) l.rest ≡ loop parameter (view_idents (nodes_of l.fn.list)) l.tokens

abbrev pub decreases-turns : goal.decreases-turns
decreases-turns l = length l.rest
