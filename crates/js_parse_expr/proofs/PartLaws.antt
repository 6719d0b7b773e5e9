-- What is known of programs, lists of statements and expressions, each for the laws of any kind of tree.
use Rattle.std.proofs.Common.{arith, ◌≡◌, ◌≤◌, ℕ, Bool, List, [], ◌++◌, Some}
use Rattle.std.specs.List.{All}
use Rattle.std.proofs.lemmas.List.Elements.{All-append}
use Rattle.js_ast.specs.declared.token.Token.{Token}
use Rattle.js_ast.specs.Trees.{Expr, Statements}
use Rattle.js_list_parser.specs.Parsing.{program_at, list_at, longest_at}
use Rattle.js_list_parser.specs.Refusals.{a_program, a_list, an_expression}
use Rattle.js_list_parser.proofs.Refused.{finds_exactly, refuses_exactly, one_found, one_refusal, found_or_refused}
use Rattle.js_faults.specs.declared.directives.BadDirective.{BadDirective}
use Rattle.js_faults.proofs.Placed.{directive_in_expr, directive_in_statements}
use Rattle.js_parse_expr.specs.Parts.{depths_left, bad_directive, bad_directive_in_expr}
use Rattle.js_parse_expr.proofs.ParsedLaws.{Lawful}

pub of_programs : Lawful a_program program_at
of_programs = record {
  finds = finds_exactly.0;
  refuses = refuses_exactly.0;
  one_found = one_found.0;
  one_refusal = one_refusal.0;
  found_or_refused = found_or_refused.0;
  positive = λ limit tree taken others h. let d = h.shallow in omega (arith, d);
}

pub of_lists : Lawful a_list list_at
of_lists = record {
  finds = finds_exactly.1;
  refuses = refuses_exactly.1;
  one_found = one_found.1;
  one_refusal = one_refusal.1;
  found_or_refused = found_or_refused.1;
  positive = λ limit tree taken others h. let d = h.shallow in omega (arith, d);
}

pub of_expressions : (free : Bool) → Lawful (an_expression free) (longest_at free)
of_expressions free = record {
  finds = finds_exactly.2 free;
  refuses = refuses_exactly.2 free;
  one_found = one_found.2 free;
  one_refusal = one_refusal.2 free;
  found_or_refused = found_or_refused.2 free;
  positive = λ limit tree taken others h. let d = h.shallow in omega (arith, d);
}

-- where no more than a program's depth is open, some is left
pub some_left : (deep : ℕ) → deep ≤ 200 → 1 ≤ depths_left deep
some_left deep low = omega (arith, low)

-- ---- where the tokens that spell a tree begin at most at some place, its first bad directive stands there at most

module _ (limit n : ℕ) where
  pub directive_of_program : (tree : Statements) (taken others : List Token) → a_program.Is limit tree taken others → All (λ (t : Token). t.from ≤ n) taken → All (λ (t : Token). t.from ≤ n) others
      → (d : BadDirective) → bad_directive tree ≡ Some d → d.at ≤ n
  directive_of_program tree taken others is by more = directive_in_statements n taken [] by tree is.spells

  pub directive_of_list : (tree : Statements) (taken others : List Token) → a_list.Is limit tree taken others → All (λ (t : Token). t.from ≤ n) taken → All (λ (t : Token). t.from ≤ n) others
      → (d : BadDirective) → bad_directive tree ≡ Some d → d.at ≤ n
  directive_of_list tree taken others is by more = directive_in_statements n (taken ++ others) others (All-append (λ (t : Token). t.from ≤ n) taken others by more) tree is.reads

  pub directive_of_expression : (free : Bool) (tree : Expr) (taken others : List Token) → (an_expression free).Is limit tree taken others → All (λ (t : Token). t.from ≤ n) taken → All (λ (t : Token). t.from ≤ n) others
      → (d : BadDirective) → bad_directive_in_expr tree ≡ Some d → d.at ≤ n
  directive_of_expression free tree taken others is by more = directive_in_expr n taken [] by tree is.spells
