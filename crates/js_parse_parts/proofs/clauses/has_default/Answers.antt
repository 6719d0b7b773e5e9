use Rattle.std.proofs.Common.{◌∙◌, rules, tests}
use Rattle.std.proofs.lemmas.Iterator.{YieldsList-from_slice}
use Rattle.std.proofs.lemmas.Iterator.Search.{any_from_yields_List}
use Rattle.js_ast.specs.Nodes.{nodes_of}
use Rattle.js_parse_parts.specs.Clauses.{is_default}
use Rattle.js_parse_parts.proofs.Parts.{any_default}
use Rattle.js_parse_parts.proofs.clauses.has_default.Goals as goal

pub returns : goal.returns
returns c = any_from_yields_List is_default _ _ _ c.any.ensures.ran (YieldsList-from_slice (nodes_of c.args.clauses.now) cc) (λ x b q k. search (rules, tests)) ∙ any_default (nodes_of c.args.clauses.now)
