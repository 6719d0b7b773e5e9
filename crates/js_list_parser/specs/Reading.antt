-- How the parser on lists answers: what was read and the tokens behind it, or a fault and the tokens from the one that is refused.
use Rattle.std.specs.Prelude.{ℕ, zero, suc, Bool, cond, leb, List, [], ◌∷◌, length, Option, Some, None, Result, Ok, Err}
use Rattle.js_ast.specs.declared.token.Token.{Token}
use Rattle.js_ast.specs.declared.operators.PostfixOperator.{PostfixOperator}
use Rattle.js_ast.specs.declared.operators.BinaryOperator.{BinaryOperator}
use Rattle.js_ast.specs.declared.operators.AssignOperator.{AssignOperator}
use Rattle.js_ast.specs.Words.{Word, word_of}
use Rattle.js_ast.specs.Trees.{Expr, Statement, Statements}

-- a token that no tree has there, `with` in the place of a statement, or a token through which no tree within the limit goes
pub data Fault : Type 0 where
  syntax : Fault
  with_statement : Fault
  nesting : Fault

pub data Refusal : Type 0 where
  refused : Fault → List Token → Refusal

abbrev pub Read : Type 0 → Type 0
Read A = Result (A × List Token) Refusal

infixl 10 ◌>>=◌
abbrev pub ◌>>=◌ : {A B : Type 0} → Result A Refusal → (A → Result B Refusal) → Result B Refusal
(Ok x) >>= f = f x
(Err e) >>= f = Err e

-- the word of the first token
abbrev pub word_at : List Token → Option Word
word_at [] = None
word_at (t ∷ ts) = Some (word_of t)

-- the tokens behind the first
abbrev pub behind : List Token → List Token
behind [] = []
behind (t ∷ ts) = ts

-- a loop: each turn goes on with a new state, or is done
pub data Turn (S A : Type 0) : Type 0 where
  again : S → Turn S A
  done : A → Turn S A

abbrev pub turned : {S A : Type 0} → (S → List Token → Read A) → Turn S A → List Token → Read A
turned f (again s) ts = f s ts
turned f (done a) ts = Ok (a, ts)

abbrev pub turns : {S A : Type 0} → (S → List Token → Read (Turn S A)) → ℕ → S → List Token → Read A
turns step zero s ts = Err (refused nesting ts)
turns step (suc n) s ts = step s ts >>= λ x. turned (turns step n) x.0 x.1

-- a turn takes at least one token, so as many turns as there are tokens are enough
unfoldable pub loop : {S A : Type 0} → (S → List Token → Read (Turn S A)) → S → List Token → Read A
loop step s ts = turns step (suc (length ts)) s ts

-- a node round parts that are so deep is too deep where only so much is allowed
abbrev pub room : {A : Type 0} → ℕ → ℕ → List Token → Read A → Read A
room limit parts ts r = cond (leb limit parts) (Err (refused nesting ts)) r

-- what a token behind an expression makes of it
pub data Suffix : Type 0 where
  by_member : Suffix
  by_index : Suffix
  by_call : Suffix
  by_postfix : PostfixOperator → Suffix
  by_binary : BinaryOperator → Suffix
  by_conditional : Suffix
  by_assign : AssignOperator → Suffix
  by_comma : Suffix
  by_nothing : Suffix

-- The parsers of trees whose depth is below a number: an expression of a level at least, where the operator `in` is allowed or not; how one
-- begins, and how one goes on at a token; a statement that is no function declaration; and the statements of a program or a body (true), or of
-- any other list. An operand of `++` and `--` is a target, or what becomes one: since a member must still come then, its depth and one more are
-- below the number.
pub record Parsers : Type 0 where
  pub expression : ℕ → Bool → List Token → Read Expr
  pub operand : ℕ → Bool → List Token → Read Expr
  pub first : ℕ → Bool → List Token → Read Expr
  pub further : Bool → Expr → Suffix → List Token → Read Expr
  pub statement : List Token → Read Statement
  pub statements : Bool → List Token → Read Statements
