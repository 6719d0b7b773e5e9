use Rattle.std.proofs.Common.{[], length, refl}
use Rattle.std.proofs.lemmas.Result.{err_from_is_err_and}
use Rattle.js_ast.specs.Views.{view_program}
use Rattle.js_scan.specs.Tokens.{IsTokens}
use Rattle.js_scan.proofs.Beginnings.{tokens_within}
use Rattle.js_faults.proofs.Placed.{early_in_statements}
use Rattle.run_files.specs.Sources.{HasTokens}
use Rattle.run_files.specs.Accepting.{IsSourceOf}
use Rattle.run_files.proofs.Refusing.{tokens_refused, tree_refused, early_refused}
use Rattle.run_files.proofs.sources.source_of.Goals as goal

pub returns-in_err-tokens-clause-takes : goal.returns-in_err-tokens-clause-takes
returns-in_err-tokens-clause-takes c =
    let p = err_from_is_err_and c.from_residual-in_err-tokens.result c.from_residual-in_err-tokens.ensures.1 in
    rw (p.1, p.2) (tokens_refused c.args.bytes.now (IsSourceOf c.args.bytes.now) c.in_ok-text.text c.in_ok-text.ensures c.in_err-tokens.field-0.0 c.in_err-tokens.ensures)

pub returns-in_err-program-clause-takes : goal.returns-in_err-program-clause-takes
returns-in_err-program-clause-takes c =
    let p = err_from_is_err_and c.from_residual-in_err-program.result c.from_residual-in_err-program.ensures.1 in
    let are : IsTokens c.in_ok-text.text c.deref.result.now = rw c.deref.ensures.value c.in_ok-tokens.ensures in
    let has : HasTokens c.args.bytes.now c.deref.result.now = record { text = c.in_ok-text.text; decoded = c.in_ok-text.ensures; scanned = are } in
    rw (p.1, p.2) (tree_refused c.args.bytes.now (IsSourceOf c.args.bytes.now) c.deref.result.now has c.in_err-program.field-0.0 c.in_err-program.ensures.takes)

pub refuse_early_error-requires : goal.refuse_early_error-requires
refuse_early_error-requires c =
    let are : IsTokens c.in_ok-text.text c.deref.result.now = rw c.deref.ensures.value c.in_ok-tokens.ensures in
    early_in_statements (length c.in_ok-text.text) c.deref.result.now [] (tokens_within c.in_ok-text.text c.deref.result.now are) (view_program c.in_ok-program.program) c.in_ok-program.ensures.takes.tree.spelled

pub returns-in_err-refuse_early_error-clause-takes : goal.returns-in_err-refuse_early_error-clause-takes
returns-in_err-refuse_early_error-clause-takes c =
    let p = err_from_is_err_and c.from_residual-in_err-refuse_early_error.result c.from_residual-in_err-refuse_early_error.ensures.1 in
    let are : IsTokens c.in_ok-text.text c.deref.result.now = rw c.deref.ensures.value c.in_ok-tokens.ensures in
    let has : HasTokens c.args.bytes.now c.deref.result.now = record { text = c.in_ok-text.text; decoded = c.in_ok-text.ensures; scanned = are } in
    rw (p.1, p.2) (early_refused c.args.bytes.now (IsSourceOf c.args.bytes.now) c.deref.result.now has (view_program c.in_ok-program.program) c.in_ok-program.ensures.takes c.in_err-refuse_early_error.field-0.0 c.in_err-refuse_early_error.ensures)

pub returns-clause-takes : goal.returns-clause-takes
returns-clause-takes c =
    let are : IsTokens c.in_ok-text.text c.deref.result.now = rw c.deref.ensures.value c.in_ok-tokens.ensures in
    (record { tokens = c.deref.result.now; has_tokens = record { text = c.in_ok-text.text; decoded = c.in_ok-text.ensures; scanned = are }; parsed = c.in_ok-program.ensures.takes; faultless = c.in_ok-refuse_early_error.ensures }, refl)
