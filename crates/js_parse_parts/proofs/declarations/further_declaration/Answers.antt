use Rattle.std.proofs.Common.{ap, arith}
use Rattle.js_ast.specs.Depth.{depth_declarations}
use Rattle.js_ast.specs.Views.{view_ident, view_maybe_expr, view_declarations}
use Rattle.js_parse_parts.proofs.DepthLaws.{joined_declarations_depth}
use Rattle.js_parse_parts.proofs.Parts.{declared_behind}
use Rattle.js_parse_parts.proofs.declarations.further_declaration.Goals as goal

pub returns-clause-view : goal.returns-clause-view
returns-clause-view c = declared_behind c.args.list.0 c.push.new.self c.args.name c.args.value.0 c.in_ok-push.ensures.ok

pub returns-clause-deep : goal.returns-clause-deep
returns-clause-deep c = omega (arith, ap depth_declarations (returns-clause-view c), joined_declarations_depth (view_declarations c.args.list.0) (view_ident c.args.name) (view_maybe_expr c.args.value.0))
