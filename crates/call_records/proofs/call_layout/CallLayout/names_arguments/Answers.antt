use Rattle.std.proofs.Common.{ap, ◌∙◌}
use Rattle.js_ast.specs.Trees.{body_of}
use Rattle.js_ast.specs.Views.{view_function}
use Rattle.es_meaning.specs.Naming.{names_in_statements}
use Rattle.call_records.proofs.call_layout.CallLayout.names_arguments.Goals as goal

pub returns : goal.returns
returns c = c.self.invariant.named ∙ ap (λ f. names_in_statements (body_of (view_function f))) c.self.view_is
