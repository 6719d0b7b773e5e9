-- The parsers of a number above 0 are a layer over those of the number before it.
use Rattle.std.proofs.Common.{◌≡◌, ℕ, zero, suc, ◌-◌, ◌≤◌, Bool, List, Option, Some, None, Ok, Err, refl, sym, ap, ◌∙◌, arith}
use Rattle.js_ast.specs.declared.token.Token.{Token}
use Rattle.js_ast.specs.declared.words.Sign.TheVariants as sign
use Rattle.js_ast.specs.Words.{Word, a_sign}
use Rattle.js_ast.specs.Trees.{Expr, Block, Statement, block}
use Rattle.js_list_parser.specs.Reading.{refused, syntax, Read, ◌>>=◌, word_at, Suffix, Parsers}
use Rattle.js_list_parser.specs.Parsing.{parsers}
use Rattle.js_list_parser.specs.ExpressionParsing.{primary, expression_at, operand_at, further_at}
use Rattle.js_list_parser.specs.StatementParsing.{block_in, inner_block_by, inner_block, block_by, block_at, statement_by, statement_at, statements_at}

-- one less than a successor
before : (d : ℕ) → suc d - 1 ≡ d
before d = omega arith

-- an expression
pub expression_layer : (limit wanted : ℕ) (free : Bool) (ts : List Token) → 1 ≤ limit → (parsers limit).expression wanted free ts ≡ expression_at (parsers (limit - 1)) (limit - 1) wanted free ts
unfolding parsers
expression_layer zero wanted free ts h = absurd (omega arith)
expression_layer (suc d) wanted free ts h = rw (before d) refl

-- an operand of `++` and `--`
pub operand_layer : (limit wanted : ℕ) (free : Bool) (ts : List Token) → 1 ≤ limit → (parsers limit).operand wanted free ts ≡ operand_at (parsers (limit - 1)) (limit - 1) wanted free ts
unfolding parsers
operand_layer zero wanted free ts h = absurd (omega arith)
operand_layer (suc d) wanted free ts h = rw (before d) refl

-- how an expression begins
pub first_layer : (limit wanted : ℕ) (free : Bool) (ts : List Token) → 1 ≤ limit → (parsers limit).first wanted free ts ≡ primary (parsers (limit - 1)) (limit - 1) wanted free ts
unfolding parsers
first_layer zero wanted free ts h = absurd (omega arith)
first_layer (suc d) wanted free ts h = rw (before d) refl

-- how it goes on
pub further_layer : (limit : ℕ) (free : Bool) (e : Expr) (s : Suffix) (ts : List Token) → 1 ≤ limit → (parsers limit).further free e s ts ≡ further_at (parsers (limit - 1)) (limit - 1) free e s ts
unfolding parsers
further_layer zero free e s ts h = absurd (omega arith)
further_layer (suc d) free e s ts h = rw (before d) refl

-- a statement
pub statement_layer : (limit : ℕ) (ts : List Token) → 1 ≤ limit → (parsers limit).statement ts ≡ statement_at (parsers (limit - 1)) (limit - 1) ts
unfolding parsers
statement_layer zero ts h = absurd (omega arith)
statement_layer (suc d) ts h = rw (before d) refl

-- statements
pub statements_layer : (limit : ℕ) (outer : Bool) (ts : List Token) → 1 ≤ limit → (parsers limit).statements outer ts ≡ statements_at (parsers (limit - 1)) (limit - 1) outer ts
unfolding parsers
statements_layer zero outer ts h = absurd (omega arith)
statements_layer (suc d) outer ts h = rw (before d) refl

-- a block, as a statement
abbrev as_statement : Block × List Token → Read Statement
as_statement b = Ok (block b.0, b.1)

-- a statement, as the block that it is
abbrev as_block : Statement × List Token → Read Block
as_block s = block_in s.0 s.1

-- a block that was read as a statement
block_back : (r : Read Block) → ((r >>= as_statement) >>= as_block) ≡ r
unfolding block_in
block_back (Ok b) = refl
block_back (Err e) = refl

-- blocks
inner_above : (d : ℕ) (ts : List Token) → inner_block (parsers (suc d)) ts ≡ block_at (parsers d) d ts
unfolding inner_block inner_block_by block_at statement_at statement_by parsers block_by
inner_above d ts = go (word_at ts) refl
  where
    go : (w : Option Word) → word_at ts ≡ w → inner_block_by (parsers (suc d)) w ts ≡ block_by (parsers d) d w ts
    go (Some (a_sign sign.OpenBrace)) e = rw e (rw e (block_back (block_by (parsers d) d (Some (a_sign sign.OpenBrace)) ts)))
    go _ e = refl

pub inner_is : (n : ℕ) → 1 ≤ n → inner_block (parsers n) ≡ block_at (parsers (n - 1)) (n - 1)
inner_is zero le = absurd (omega arith)
inner_is (suc d) le = rw (before d) (λ i ts. inner_above d ts i)
