-- The turns of the loops of statements: each that goes on takes a token.
use Rattle.std.proofs.Common.{◌≡◌, ℕ, suc, ◌≤◌, Bool, true, false, if◌then◌else◌, leb, List, [], ◌∷◌, length, Option, Some, Ok, Err, refl, arith}
use Rattle.js_ast.specs.declared.token.Token.{Token}
use Rattle.js_ast.specs.declared.words.Keyword.TheVariants as key
use Rattle.js_ast.specs.declared.words.Sign.TheVariants as sign
use Rattle.js_ast.specs.Words.{Word, a_key, a_sign, word_of}
use Rattle.js_ast.specs.Trees.{Declarations, Clauses, Statement, Statements}
use Rattle.js_ast.specs.Validity.{defaults}
use Rattle.js_list_parser.specs.Reading.{refused, syntax, Read, ◌>>=◌, word_at, behind, Turn, again, done, Parsers}
use Rattle.js_list_parser.specs.ExpressionParsing.{is_colon, expect, taken, ident_at, function_rest}
use Rattle.js_list_parser.specs.StatementParsing.{initialiser_by, initialiser, next_declaration, declaration_step_by, declaration_step, case_rest, default_rest, clause_step_by, clause_step, statement_by, statement_at, function_declaration_rest, element_by, next_statement, ends_list, statements_step}
use Rattle.js_list_parser.specs.Parsing.{parsers}
use Rattle.js_list_parser.proofs.Lengths.{statement_shortens}
use Rattle.js_list_parser.proofs.Sound.{all_sound}
use Rattle.js_list_parser.proofs.Turns.{Within, RestWithin, TurnWithin, within-bind, turn-bind, within-room, behind_within}
use Rattle.js_list_parser.proofs.ExpressionTurns.{NoLonger, expect_within, taken_within, function_rest_within}
use Rattle.js_list_parser.proofs.Remaining.{no_longer}

-- both answers of a turn
turn-if : {S A : Type 0} (n : ℕ) (b : Bool) (r s : Read (Turn S A)) → TurnWithin n r → TurnWithin n s → TurnWithin n (if b then r else s)
turn-if n true r s g h = g
turn-if n false r s g h = h

-- a token that is asked for, and a turn
turn-rest : {S A : Type 0} (n l : ℕ) (test : Word → Bool) (ts : List Token) (f : List Token → Read (Turn S A)) → length ts ≤ n → ((z : List Token) → length z ≤ n → TurnWithin l (f z)) → TurnWithin l (expect test ts >>= f)
turn-rest n l test ts f le g = go (expect test ts) (expect_within test n ts le)
  where
    go : (r : _) → RestWithin n r → TurnWithin l (r >>= f)
    go (Ok z) h = g z h
    go (Err e) h = tt

module _ (sub : Parsers) (parts : NoLonger sub) where
  -- an initialiser or none leaves no more
  initialiser_within : (free : Bool) (n : ℕ) (ts : List Token) → length ts ≤ n → Within n (initialiser sub free ts)
  unfolding initialiser initialiser_by
  initialiser_within free n ts le = go (word_at ts)
    where
      go : (w : Option Word) → Within n (initialiser_by sub free w ts)
      go (Some (a_sign sign.Assign)) = within-bind n (sub.expression 1 free (behind ts)) _ (parts.expression 1 free n (behind ts) (omega (arith, behind_within ts))) (λ e m l. l)
      go _ = le

  -- a turn of the variables
  pub declaration_turns : (free : Bool) (ds : Declarations) (ts : List Token) → TurnWithin (length ts) (declaration_step sub free ds ts)
  unfolding declaration_step declaration_step_by next_declaration
  declaration_turns free ds [] = omega arith
  declaration_turns free ds (t ∷ ts) = go (word_of t)
    where
      go : (w : Word) → TurnWithin (suc (length ts)) (declaration_step_by sub free ds (Some w) (t ∷ ts))
      go (a_sign sign.Comma) = turn-bind (length ts) (suc (length ts)) (taken (ident_at ts) ts) _ (taken_within (ident_at ts) (length ts) ts (omega arith)) (λ i m le.
          turn-bind (length ts) (suc (length ts)) (initialiser sub free m) _ (initialiser_within free (length ts) m le) (λ e z l. omega arith))
      go _ = omega arith

  -- a turn of the clauses
  pub clause_turns : (cs : Clauses) (ts : List Token) → TurnWithin (length ts) (clause_step sub cs ts)
  unfolding clause_step clause_step_by case_rest default_rest
  clause_turns cs [] = omega arith
  clause_turns cs (t ∷ ts) = go (word_of t)
    where
      body : (k : Statements → Clauses) (m : List Token) → length m ≤ length ts → TurnWithin {A = Clauses} (suc (length ts)) (sub.statements false m >>= λ ss. Ok (again (k ss.0), ss.1))
      body k m le = turn-bind (length ts) (suc (length ts)) (sub.statements false m) _ (parts.statements false (length ts) m le) (λ ss z l. omega arith)

      go : (w : Word) → TurnWithin (suc (length ts)) (clause_step_by sub cs (Some w) (t ∷ ts))
      go (a_key key.Case) = turn-bind (length ts) (suc (length ts)) (sub.expression 0 true ts) _ (parts.expression 0 true (length ts) ts (omega arith)) (λ e m le. turn-rest (length ts) (suc (length ts)) is_colon m _ le (λ z l. body _ z l))
      go (a_key key.Default) = turn-if (suc (length ts)) (leb 1 (defaults cs)) (Err (refused syntax (t ∷ ts))) _ tt (turn-rest (length ts) (suc (length ts)) is_colon ts _ (omega arith) (λ z l. body _ z l))
      go _ = omega arith

-- a statement takes a token, since it takes its spelling
statement_less : (d : ℕ) (t : Token) (ts : List Token) → Within (length ts) (statement_by (parsers d) d (Some (word_of t)) (t ∷ ts))
unfolding parsers statement_at
statement_less d t ts = go (statement_by (parsers d) d (Some (word_of t)) (t ∷ ts)) refl
  where
    go : (r : Read Statement) → statement_by (parsers d) d (Some (word_of t)) (t ∷ ts) ≡ r → Within (length ts) r
    go (Err e) h = tt
    go (Ok x) h = omega (arith, statement_shortens x.0 (t ∷ ts) x.1 ((all_sound (suc d)).1.statement (t ∷ ts) x.0 x.1 h).reads)

-- and so does one of a list
element_less : (d : ℕ) (outer : Bool) (t : Token) (ts : List Token) → Within (length ts) (element_by (parsers d) d outer (Some (word_of t)) (t ∷ ts))
unfolding element_by function_declaration_rest
element_less d outer t ts = go outer (word_of t) refl
  where
    go : (b : Bool) (w : Word) → word_of t ≡ w → Within (length ts) (element_by (parsers d) d b (Some w) (t ∷ ts))
    go true (a_key key.Function) h = within-room (length ts) d 0 (t ∷ ts) _ (within-bind (length ts) (taken (ident_at ts) ts) _ (taken_within (ident_at ts) (length ts) ts (omega arith)) (λ i m l.
        within-bind (length ts) (function_rest (parsers d) m) _ (function_rest_within (parsers d) (no_longer d) (length ts) m l) (λ f z k. k)))
    go b w h = rw (← h) (statement_less d t ts)

-- a turn of the statements
pub statements_turns : (d : ℕ) (outer : Bool) (ss : Statements) (ts : List Token) → TurnWithin (length ts) (statements_step (parsers d) d outer ss ts)
unfolding statements_step next_statement
statements_turns d outer ss [] = omega arith
statements_turns d outer ss (t ∷ ts) = turn-if (suc (length ts)) (ends_list (Some (word_of t))) (Ok (done ss, t ∷ ts)) _ (omega arith)
    (turn-bind (length ts) (suc (length ts)) (element_by (parsers d) d outer (Some (word_of t)) (t ∷ ts)) _ (element_less d outer t ts) (λ s m le. omega arith))
