-- The parsers look one token ahead only, and a larger depth changes no answer but a refusal for nesting.
use Rattle.std.proofs.Common.{◌≡◌, ℕ, zero, suc, ◌≤◌, Bool, true, false, List, [], ◌∷◌, Err, refl, arith}
use Rattle.js_ast.specs.declared.token.Token.{Token}
use Rattle.js_ast.specs.Trees.{Statements}
use Rattle.js_list_parser.specs.Reading.{syntax, nesting, refused}
use Rattle.js_list_parser.specs.Parsing.{parsers, to_end, program_at}
use Rattle.js_list_parser.proofs.Local.{Alike, alike_nothing, alike_something, Local, never, local_then, local_ok, local_refused, local_fail, local_swap, Grows}
use Rattle.js_list_parser.proofs.LocalExpression.{LocalBelow, local_primary, local_further, local_expression, local_operand}
use Rattle.js_list_parser.proofs.LocalStatement.{local_statement, local_statements}

-- one layer
layer : (same : Bool) (d d' : ℕ) → Grows same d d' → LocalBelow same (parsers d) (parsers d') → LocalBelow true (parsers d') (parsers d') → LocalBelow same (parsers (suc d)) (parsers (suc d'))
unfolding parsers
layer same d d' g b b' = record {
  expression = local_expression d d' g b b';
  operand = local_operand d d' g b b';
  first = local_primary d d' g b b';
  further = local_further d d' g b b';
  statement = local_statement b b' d d' g;
  statements = local_statements d d' g b b';
}

-- at the same depth
pub parsers_local : (n : ℕ) → LocalBelow true (parsers n) (parsers n)
unfolding parsers
parsers_local zero = record {
  expression = λ w f ts. local_refused nesting (λ u a. refl);
  operand = λ w f ts. local_refused nesting (λ u a. refl);
  first = λ w f ts. local_refused nesting (λ u a. refl);
  further = λ f e s t ts. local_refused nesting (λ u a. refl);
  statement = λ ts. local_refused nesting (λ u a. refl);
  statements = λ o ts. local_refused nesting (λ u a. refl);
}
parsers_local (suc d) = let b = parsers_local d in layer true d d refl b b

-- at a larger one
pub parsers_grow : (n m : ℕ) → n ≤ m → LocalBelow false (parsers n) (parsers m)
unfolding parsers
parsers_grow zero m le = record {
  expression = λ w f ts. local_refused nesting (λ u a. absurd a);
  operand = λ w f ts. local_refused nesting (λ u a. absurd a);
  first = λ w f ts. local_refused nesting (λ u a. absurd a);
  further = λ f e s t ts. local_refused nesting (λ u a. absurd a);
  statement = λ ts. local_refused nesting (λ u a. absurd a);
  statements = λ o ts. local_refused nesting (λ u a. absurd a);
}
parsers_grow (suc d) zero le = absurd (omega arith)
parsers_grow (suc d) (suc d') le = layer false d d' (omega arith) (parsers_grow d d' (omega arith)) (parsers_local d')

-- the end of a program
local_end : {same : Bool} (ss : Statements) (ts : List Token) → Local same never (to_end ss) ts (to_end ss ts)
unfolding to_end
local_end ss [] = local_swap (λ u a. rw (alike_nothing u a) refl) local_ok
local_end {same = same} ss (t ∷ ts) = local_swap go local_fail
  where
    go : (u : List Token) → Alike (t ∷ ts) u → to_end ss u ≡ Err (refused syntax u)
    go [] a = absurd (alike_something t ts a)
    go (s ∷ u) a = refl

-- programs
pub program_local : (n : ℕ) (ts : List Token) → Local true never (program_at n) ts (program_at n ts)
unfolding program_at
program_local n ts = local_then _ _ ((parsers_local n).statements true ts) (λ ss m. local_end ss m)

pub program_grows : (n m : ℕ) → n ≤ m → (ts : List Token) → Local false never (program_at m) ts (program_at n ts)
unfolding program_at
program_grows n m le ts = local_then _ _ ((parsers_grow n m le).statements true ts) (λ ss m. local_end ss m)
