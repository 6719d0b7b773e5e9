-- The shapes of statements and their parts.
use Rattle.std.proofs.Common.{◌≡◌, ◌<◌, ◌≤◌, Bool, true, false, [], ◌∷◌, Option, None, codes, refl, arith}
use Rattle.js_ast.specs.declared.token.Token.{Token}
use Rattle.js_ast.specs.declared.token.TokenKind.TheVariants as kind
use Rattle.js_ast.specs.declared.words.Keyword.TheVariants as key
use Rattle.js_ast.specs.declared.words.Sign.TheVariants as sign
use Rattle.js_ast.specs.Words.{a_key, word_by}
use Rattle.js_ast.specs.Trees.{Ident, written, Expr, name, MaybeExpr, absent, Declarations, one_declaration, First, first_expr, Target, target_var, Clauses, no_clauses, Block, block_of, Statement, expression, Statements, no_statements}
use Rattle.js_ast.specs.Grammar.{◌⨾◌, OnLine, Takes, sign_part, parens, MaybeLabel, Reads, ReadsMaybe, ReadsInitialiser, ReadsDeclarations, ReadsFirst, ReadsTarget, ReadsClauses, ReadsBlock, ReadsStatement, ReadsStatements}
use Rattle.js_ast.specs.Validity.{no_in_maybe, no_in_declarations, no_in_first, Valid, ValidMaybe, ValidInitialiser, ValidDeclarations, ValidFirst, ValidTarget, ValidClauses, ValidBlock, ValidStatement, ValidStatements, open_if, defaults}
use Rattle.js_ast.specs.Depth.{depth, depth_maybe, depth_declarations, depth_first, depth_target, depth_clauses, depth_block, depth_statement, depth_statements}
use Rattle.js_list_parser.proofs.Viable.{Opens, opens_start, opens_one, opens_open_paren, opens_close_paren, opens_close_brace, opens_ident, opens_expression, ident_a, name_token, token_of}
use Rattle.js_list_parser.proofs.Shapes.{Shape}

-- ---- words that complete

pub opens_while : Opens (Takes (a_key key.While)) []
unfolding word_by
opens_while = opens_one _ (token_of kind.Reserved (codes "while")) refl

pub opens_else : Opens (Takes (a_key key.Else)) []
unfolding word_by
opens_else = opens_one _ (token_of kind.Reserved (codes "else")) refl

pub opens_in : Opens (Takes (a_key key.In)) []
unfolding word_by
opens_in = opens_one _ (token_of kind.Reserved (codes "in")) refl

pub opens_var : Opens (Takes (a_key key.Var)) []
unfolding word_by
opens_var = opens_one _ (token_of kind.Reserved (codes "var")) refl

pub opens_catch : Opens (Takes (a_key key.Catch)) []
unfolding word_by
opens_catch = opens_one _ (token_of kind.Reserved (codes "catch")) refl

pub opens_finally : Opens (Takes (a_key key.Finally)) []
unfolding word_by
opens_finally = opens_one _ (token_of kind.Reserved (codes "finally")) refl

-- ---- shapes

-- an expression in parentheses
abbrev pub condition_shape : Shape
condition_shape = record {
  Tree = Expr;
  Good = λ l e. Valid e × (depth e < l);
  part = λ e. parens (Reads e);
  least = 0;
  grows = λ l n e le g. let lt = g.1 in (g.0, omega arith);
  start = λ l lt. (name 0 (codes "a"), (tt, lt), opens_start _ _ opens_open_paren (opens_start _ _ opens_expression opens_close_paren));
}

-- an expression on the line of what is before it
pub opens_value : Opens (OnLine (Reads (name 0 (codes "a")))) []
unfolding word_by
opens_value = record { each = λ y. (name_token ∷ y, (refl, (refl, (name_token, refl, refl)))) }

abbrev pub value_shape : Shape
value_shape = record {
  Tree = Expr;
  Good = λ l e. Valid e × (depth e < l);
  part = λ e. OnLine (Reads e);
  least = 0;
  grows = λ l n e le g. let lt = g.1 in (g.0, omega arith);
  start = λ l lt. (name 0 (codes "a"), (tt, lt), opens_value);
}

-- a label or none
abbrev pub label_shape : Shape
label_shape = record {
  Tree = Option Ident;
  Good = λ l i. 0 < l;
  part = MaybeLabel;
  least = 0;
  grows = λ l n i le g. omega arith;
  start = λ l lt. (None, lt, record { each = λ y. (y, refl) });
}

-- an expression or none
abbrev pub maybe_shape : Shape
maybe_shape = record {
  Tree = MaybeExpr;
  Good = λ l e. ValidMaybe e × (depth_maybe e < l);
  part = ReadsMaybe;
  least = 0;
  grows = λ l n e le g. let lt = g.1 in (g.0, omega arith);
  start = λ l lt. (absent, (tt, lt), record { each = λ y. (y, refl) });
}

-- an initialiser or none
abbrev pub initialiser_shape : Bool → Shape
initialiser_shape free = record {
  Tree = MaybeExpr;
  Good = λ l e. ValidInitialiser e × (depth_maybe e < l) × (free ≡ false → no_in_maybe e ≡ true);
  part = ReadsInitialiser;
  least = 0;
  grows = λ l n e le g. let lt = g.1 in (g.0, omega arith, g.2);
  start = λ l lt. (absent, (tt, lt, λ k. refl), record { each = λ y. (y, refl) });
}

-- a statement that is no function declaration; before an `else` (true) no `if` at its end is open
abbrev pub plain_statement : Statement
plain_statement = expression 0 (name 0 (codes "a")) written

pub opens_statement : Opens (ReadsStatement plain_statement) []
unfolding word_by
opens_statement = record { each = λ y. let semi : Token = token_of kind.Punctuator (codes ";") in (name_token ∷ semi ∷ y, (refl, (refl, (semi ∷ y, (refl, (name_token, refl, refl)), (semi, refl, refl))))) }

abbrev pub statement_shape : Bool → Shape
statement_shape shut = record {
  Tree = Statement;
  Good = λ l s. ValidStatement false s × (depth_statement s < l) × (shut ≡ true → open_if s ≡ false);
  part = ReadsStatement;
  least = 0;
  grows = λ l n s le g. let lt = g.1 in (g.0, omega arith, g.2);
  start = λ l lt. (plain_statement, (tt, lt, λ k. refl), opens_statement);
}

-- the statements of a list
abbrev pub statements_shape : Bool → Shape
statements_shape outer = record {
  Tree = Statements;
  Good = λ l ss. ValidStatements outer ss × (depth_statements ss < l);
  part = ReadsStatements;
  least = 0;
  grows = λ l n ss le g. let lt = g.1 in (g.0, omega arith);
  start = λ l lt. (no_statements, (tt, lt), record { each = λ y. (y, refl) });
}

-- a block: it has a depth
pub opens_block : Opens (ReadsBlock (block_of 0 no_statements)) []
unfolding word_by
opens_block = record {
  each = λ y.
      let left : Token = token_of kind.Punctuator (codes "{") in
      let right : Token = token_of kind.Punctuator (codes "}") in
      (left ∷ right ∷ y, (refl, (right ∷ y, (left, refl, refl), (right ∷ y, refl, (right, refl, refl)))));
}

abbrev pub block_shape : Shape
block_shape = record {
  Tree = Block;
  Good = λ l b. ValidBlock b × (depth_block b < l);
  part = ReadsBlock;
  least = 1;
  grows = λ l n b le g. let lt = g.1 in (g.0, omega arith);
  start = λ l lt. (block_of 0 no_statements, (tt, omega arith), opens_block);
}

-- variables
abbrev pub declarations_shape : Bool → Shape
declarations_shape free = record {
  Tree = Declarations;
  Good = λ l ds. ValidDeclarations ds × (depth_declarations ds < l) × (free ≡ false → no_in_declarations ds ≡ true);
  part = ReadsDeclarations;
  least = 0;
  grows = λ l n ds le g. let lt = g.1 in (g.0, omega arith, g.2);
  start = λ l lt. (one_declaration ident_a absent, (tt, lt, λ k. refl), opens_start _ _ opens_ident (record { each = λ y. (y, refl) }));
}

-- the first part of the header of a `for`
abbrev pub first_shape : Shape
first_shape = record {
  Tree = First;
  Good = λ l f. ValidFirst f × (depth_first f < l) × (no_in_first f ≡ true);
  part = ReadsFirst;
  least = 0;
  grows = λ l n f le g. let lt = g.1 in (g.0, omega arith, g.2);
  start = λ l lt. (first_expr absent, (tt, lt, refl), record { each = λ y. (y, refl) });
}

-- what a `for in` assigns to
abbrev pub target_shape : Shape
target_shape = record {
  Tree = Target;
  Good = λ l t. ValidTarget t × (depth_target t < l);
  part = ReadsTarget;
  least = 0;
  grows = λ l n t le g. let lt = g.1 in (g.0, omega arith);
  start = λ l lt. (target_var ident_a, (tt, lt), opens_start _ _ opens_var opens_ident);
}

-- the clauses of a `switch`, with the brace that closes them
abbrev pub clauses_shape : Shape
clauses_shape = record {
  Tree = Clauses;
  Good = λ l cs. ValidClauses cs × (depth_clauses cs < l) × (defaults cs ≤ 1);
  part = λ cs. ReadsClauses cs ⨾ sign_part sign.CloseBrace;
  least = 0;
  grows = λ l n cs le g. let lt = g.1 in (g.0, omega arith, g.2);
  start = λ l lt. (no_clauses, (tt, lt, omega arith), opens_start _ _ (record { each = λ y. (y, refl) }) opens_close_brace);
}
