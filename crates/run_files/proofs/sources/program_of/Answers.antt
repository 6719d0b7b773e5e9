use Rattle.std.proofs.Common.{◌≤◌, sym, subst}
use Rattle.std.specs.List.{All}
use Rattle.js_ast.specs.declared.token.Token.{Token}
use Rattle.js_scan.proofs.Beginnings.{tokens_within}
use Rattle.js_parse_expr.specs.Parsed.{fault_at}
use Rattle.run_files.proofs.sources.program_of.Goals as goal

pub no_program-requires-clause-place : goal.no_program-requires-clause-place
no_program-requires-clause-place c = subst (λ n. fault_at c.in-Err.fault ≤ n) c.len.ensures.length
    (c.in-Err.ensures.place (subst (λ n. All (λ (t : Token). t.from ≤ n) c.args.tokens.now) (sym c.len.ensures.length) (tokens_within c.args.text.now c.args.tokens.now c.requires)))
