use Rattle.std.proofs.Common.{refl, subst}
use Rattle.js_scan.specs.Found.{FindsQuoted}
use Rattle.js_scan.specs.Tokens.{open_string, bad_escape}
use Rattle.js_scan.proofs.element.string.Goals as goal
use Rattle.js_scan.proofs.Finding.{quote_begins, string_found_at}

pub read_quoted-requires : goal.read_quoted-requires
read_quoted-requires c = quote_begins c.args.units.now c.requires.class

pub returns-in_ok-text-in-Closed : goal.returns-in_ok-text-in-Closed
returns-in_ok-text-in-Closed c =
    string_found_at c.args.state c.args.units.now c.in-Closed.value c.in-Closed.length c.in_ok-text-in-Closed.text c.lexeme.result c.requires.class
    (subst (λ x. FindsQuoted c.args.units.now x) c.in-Closed.is c.in_ok-value.ensures) c.in_ok-text-in-Closed.ensures c.lexeme.ensures

pub returns-in-Open : goal.returns-in-Open
returns-in-Open c = open_string c.args.state.at (subst (λ x. FindsQuoted c.args.units.now x) c.in-Open.is c.in_ok-value.ensures) refl

pub returns-in-BadEscape : goal.returns-in-BadEscape
returns-in-BadEscape c = bad_escape _ c.in-BadEscape.at (subst (λ x. FindsQuoted c.args.units.now x) c.in-BadEscape.is c.in_ok-value.ensures) refl
