-- What a refusal means: the tokens before the refused one begin a valid tree within the number. Where it is refused for the depth, the tokens through
-- it begin a valid tree of some depth; and where it is `with`, they do so with `debugger` in its place.
use Rattle.std.proofs.Common.{◌≡◌, ℕ, zero, suc, ◌<◌, ◌≤◌, max, ◌⊎◌, inl, inr, Bool, true, false, cond, leb, List, [], ◌∷◌, ◌++◌, length, Option, Some, None, Result, Ok, Err, codes, refl, sym, ap, subst, ◌∙◌, append_assoc, append-nil, arith}
use Rattle.std.proofs.lemmas.Bool.{leb-true, leb-false}
use Rattle.js_ast.specs.declared.token.Token.{Token}
use Rattle.js_ast.specs.declared.token.TokenKind.{TokenKind}
use Rattle.js_ast.specs.declared.token.TokenKind.TheVariants as kind
use Rattle.js_ast.specs.declared.words.Keyword.TheVariants as key
use Rattle.js_ast.specs.declared.words.Sign.TheVariants as sign
use Rattle.js_ast.specs.Words.{Word, a_key, word_by, word_of}
use Rattle.js_ast.specs.Trees.{Ident, Expr, name, Statement, Statements, at_of}
use Rattle.js_ast.specs.Grammar.{Part, ◌⨾◌, nothing, At, Takes, TakesName, sign_part, parens, braces, ReadsIdent, ReadsIdents, Reads, ReadsStatement, ReadsStatements}
use Rattle.js_ast.specs.Levels.{is_target}
use Rattle.js_ast.specs.Validity.{no_in, Valid, ValidStatement, ValidStatements}
use Rattle.js_ast.specs.Depth.{depth, depth_statement, depth_statements}
use Rattle.js_list_parser.specs.Reading.{Fault, syntax, with_statement, nesting, Refusal, refused, Read, ◌>>=◌, Turn, again, done, turned, turns, loop, room, Parsers}
use Rattle.js_list_parser.specs.ExpressionParsing.{expect, taken, suffix_at, applies, Reaches}
use Rattle.js_list_parser.proofs.Begins.{reads_place}
use Rattle.js_list_parser.proofs.Turns.{TurnWithin, turn_within}
use Rattle.js_list_parser.proofs.Soundness.{FoundExpression}
use Rattle.js_list_parser.proofs.Gives.{Gives}
use Rattle.js_list_parser.proofs.Grown.{Changeable}
use Rattle.js_list_parser.proofs.Fronts.{Front, Any, SameEnd, first_of, expr_fixed}

-- ---- beginnings

-- some tokens behind the word complete a part of the grammar, whatever is behind those
pub record Opens (p : Part) (word : List Token) : Type 0 where
  pub each : (y : List Token) → (more : List Token) × p (word ++ more) y

-- another part with the same tokens
pub opens_map : {p : Part} (q : Part) {word : List Token} → ((ts z : List Token) → p ts z → q ts z) → Opens p word → Opens q word
opens_map q {word} to o = record { each = λ y. let r = o.each y in (r.0, to (word ++ r.0) y r.1) }

-- a beginning of one part, and another part that is all to come
pub opens_start : (p q : Part) {word : List Token} → Opens p word → Opens q [] → Opens (p ⨾ q) word
opens_start p q o k = record { each = λ y. let r = k.each y in let s = o.each r.0 in (s.0, (r.0, s.1, r.1)) }

-- nothing, and then a beginning
pub opens_nothing : (p : Part) {word : List Token} → Opens p word → Opens (nothing ⨾ p) word
opens_nothing p {word} o = record { each = λ y. let r = o.each y in (r.0, (word ++ r.0, refl, r.1)) }

-- a token, and then a beginning
pub opens_token : (w : Word) (p : Part) (t : Token) {word : List Token} → word_of t ≡ w → Opens p word → Opens (Takes w ⨾ p) (t ∷ word)
opens_token w p t {word} is o = record { each = λ y. let r = o.each y in (r.0, (word ++ r.0, (t, refl, is), r.1)) }

-- a part with its tokens, and then a beginning
pub opens_front : (p q : Part) {ts m word : List Token} (f : Front Any ts m p) → Opens q word → Opens (p ⨾ q) (f.word ++ word)
opens_front p q {word = word} f o = record { each = λ y. let r = o.each y in (r.0, rw append_assoc (word ++ r.0, f.each (word ++ r.0) tt, r.1)) }

-- the same of a part that hangs on the first token behind it, which stays
pub opens_loose : (p q : Part) {ts m : List Token} (x : Token) {word : List Token} (f : Front SameEnd ts m p) → first_of m ≡ Some x → Opens q (x ∷ word) → Opens (p ⨾ q) (f.word ++ (x ∷ word))
opens_loose p q x {word} f is o = record { each = λ y. let r = o.each y in (r.0, rw append_assoc ((x ∷ word) ++ r.0, f.each ((x ∷ word) ++ r.0) (inl is), r.1)) }

-- a part with its tokens, that is all
pub opens_whole : (p : Part) {ts m : List Token} (f : Front Any ts m p) → Opens p f.word
opens_whole p f = record { each = λ y. (y, f.each y tt) }

-- a part at the place of its first token
pub opens_at : (p : Part) (t : Token) {word : List Token} → Opens p (t ∷ word) → Opens (At t.from p) (t ∷ word)
opens_at p t o = record { each = λ y. let r = o.each y in (r.0, (refl, r.1)) }

-- an expression with its tokens, and then a beginning of what goes on with it
pub opens_grown : (e : Expr) (q : Part) {ts m word : List Token} (f : Front Any ts m (Reads e)) → Opens q word → Opens (At (at_of e) (Reads e ⨾ q)) (f.word ++ word)
opens_grown e q {word = word} f o = record {
  each = λ y.
      let r = o.each y in
      let h = f.each (word ++ r.0) tt in
      (r.0, rw append_assoc (reads_place e (f.word ++ (word ++ r.0)) (word ++ r.0) h, (word ++ r.0, h, r.1)));
}

-- the tokens through one behind a word
pub behind_token : (word start ts : List Token) (t : Token) (rest : List Token) → start ≡ word ++ ts → ts ≡ t ∷ rest → start ≡ (word ++ (t ∷ [])) ++ rest
behind_token word start ts t rest p q = p ∙ ap (λ (x : List Token). word ++ x) q ∙ sym (append_assoc word (t ∷ []) rest)

-- ---- tokens that complete

-- a token, at no place of a source
abbrev pub token_of : TokenKind → List ℕ → Token
token_of kind text = record { kind = kind; text = text; from = 0; to = 0; newline = false }

-- `}`
abbrev pub close_brace_token : Token
close_brace_token = token_of kind.Punctuator (codes "}")

-- one token that completes a part
pub opens_one : (w : Word) (t : Token) → word_of t ≡ w → Opens (Takes w) []
opens_one w t is = record { each = λ y. (t ∷ y, (t, refl, is)) }

-- `}` may stand behind a part that hangs on the first token behind it
pub opens_closed : (p : Part) {ts m : List Token} (f : Front SameEnd ts m p) → Opens (p ⨾ sign_part sign.CloseBrace) f.word
unfolding word_by
opens_closed p f = record { each = λ y. (close_brace_token ∷ y, (close_brace_token ∷ y, f.each (close_brace_token ∷ y) (inr refl), (close_brace_token, refl, refl))) }

-- what is to come is `(`
pub opens_open_paren : Opens (sign_part sign.OpenParen) []
unfolding word_by
opens_open_paren = opens_one _ (token_of kind.Punctuator (codes "(")) refl

-- `)`
pub opens_close_paren : Opens (sign_part sign.CloseParen) []
unfolding word_by
opens_close_paren = opens_one _ (token_of kind.Punctuator (codes ")")) refl

-- `{`
pub opens_open_brace : Opens (sign_part sign.OpenBrace) []
unfolding word_by
opens_open_brace = opens_one _ (token_of kind.Punctuator (codes "{")) refl

-- `}`
pub opens_close_brace : Opens (sign_part sign.CloseBrace) []
unfolding word_by
opens_close_brace = opens_one _ close_brace_token refl

-- `]`
pub opens_close_bracket : Opens (sign_part sign.CloseBracket) []
unfolding word_by
opens_close_bracket = opens_one _ (token_of kind.Punctuator (codes "]")) refl

-- `:`
pub opens_colon : Opens (sign_part sign.Colon) []
unfolding word_by
opens_colon = opens_one _ (token_of kind.Punctuator (codes ":")) refl

-- `;`
pub opens_semicolon : Opens (sign_part sign.Semicolon) []
unfolding word_by
opens_semicolon = opens_one _ (token_of kind.Punctuator (codes ";")) refl

-- the name `a`
abbrev pub name_token : Token
name_token = token_of kind.Name (codes "a")

-- it is to come as an identifier name
pub opens_name : Opens (TakesName (codes "a")) []
opens_name = record { each = λ y. (name_token ∷ y, (name_token, refl, refl)) }

-- a name that is bound
abbrev pub ident_a : Ident
ident_a = record { at = 0; text = codes "a" }

-- it is to come
pub opens_ident : Opens (ReadsIdent ident_a) []
unfolding word_by
opens_ident = record { each = λ y. (name_token ∷ y, (refl, (name_token, refl, refl))) }

-- the name is to come as an expression
pub opens_expression : Opens (Reads (name 0 (codes "a"))) []
unfolding word_by
opens_expression = record { each = λ y. (name_token ∷ y, (refl, (name_token, refl, refl))) }

-- ---- what completes a word

-- a valid expression that may stand where a level is wanted, whose depth is below a number
pub record Completes (wanted : ℕ) (free : Bool) (limit : ℕ) (word : List Token) : Type 0 where
  pub tree : Expr
  pub valid : Valid tree
  pub shallow : depth tree < limit
  pub reaches : Reaches wanted tree
  pub without_in : free ≡ false → no_in tree ≡ true
  pub opens : Opens (Reads tree) word

-- such a target
pub record CompletesTarget (wanted : ℕ) (free : Bool) (limit : ℕ) (word : List Token) : Type 0 where
  pub is : Completes wanted free limit word
  pub target : is_target is.tree ≡ true

-- such an operand of `++` and `--`
pub record CompletesOperand (wanted : ℕ) (free : Bool) (limit : ℕ) (word : List Token) : Type 0 where
  pub is : Completes wanted free limit word
  pub change : Changeable limit is.tree

-- a statement that is no function declaration
pub record CompletesStatement (limit : ℕ) (word : List Token) : Type 0 where
  pub tree : Statement
  pub valid : ValidStatement false tree
  pub shallow : depth_statement tree < limit
  pub opens : Opens (ReadsStatement tree) word

-- the statements of a program or a body (true), or of any other list
pub record CompletesStatements (outer : Bool) (limit : ℕ) (word : List Token) : Type 0 where
  pub trees : Statements
  pub valid : ValidStatements outer trees
  pub shallow : depth_statements trees < limit
  pub opens : Opens (ReadsStatements trees) word

-- the parameters in parentheses and the body of a function
pub record CompletesFunction (limit : ℕ) (word : List Token) : Type 0 where
  pub params : List Ident
  pub body : Statements
  pub valid : ValidStatements true body
  pub shallow : depth_statements body < limit
  pub opens : Opens (parens (ReadsIdents params) ⨾ braces (ReadsStatements body)) word

-- nothing is read yet
pub starts_completes : (wanted : ℕ) (free : Bool) (limit : ℕ) → wanted ≤ 17 → 0 < limit → Completes wanted free limit []
starts_completes wanted free limit high pos = record { tree = name 0 (codes "a"); valid = tt; shallow = pos; reaches = inl high; without_in = λ k. refl; opens = opens_expression }

-- all is read
pub found_completes : {limit wanted : ℕ} {free : Bool} {e : Expr} {ts z : List Token} (f : FoundExpression limit wanted free e ts z) → Completes wanted free limit (expr_fixed e ts z f.reads).word
found_completes {e = e} {ts = ts} {z = z} f =
    record { tree = e; valid = f.valid; shallow = f.shallow; reaches = f.reaches; without_in = f.without_in; opens = opens_whole (Reads e) (expr_fixed e ts z f.reads) }

-- all of an operand is read
pub found_operand : {limit wanted : ℕ} {free : Bool} {e : Expr} {ts z : List Token} (f : FoundExpression limit wanted free e ts z) → Changeable limit e → CompletesOperand wanted free limit (expr_fixed e ts z f.reads).word
unfolding found_completes
found_operand f c = record { is = found_completes f; change = c }

-- ---- refusals

-- the refused token, with which the word is completed within some number
pub record Beyond (C : ℕ → List Token → Type 0) (word z : List Token) : Type 0 where
  pub token : Token
  pub rest : List Token
  pub parts : z ≡ token ∷ rest
  pub limit : ℕ
  pub is : C limit (word ++ token ∷ [])

-- `debugger` in place of a token, on the same line as what is before it or not
abbrev pub debugger_for : Token → Token
debugger_for t = record { kind = kind.Reserved; text = codes "debugger"; from = 0; to = 0; newline = t.newline }

-- the refused token is `with`, and with `debugger` in its place the word is completed within some number
pub record Replaced (C : ℕ → List Token → Type 0) (word z : List Token) : Type 0 where
  pub token : Token
  pub rest : List Token
  pub parts : z ≡ token ∷ rest
  pub is_with : word_of token ≡ a_key key.With
  pub limit : ℕ
  pub is : C limit (word ++ debugger_for token ∷ [])

-- a refusal at z, where the tokens begin at ts: C says what completes a word within a number
pub record Stuck (C : ℕ → List Token → Type 0) (limit : ℕ) (f : Fault) (ts z : List Token) : Type 0 where
  pub word : List Token
  pub parts : ts ≡ word ++ z
  pub within : C limit word
  pub deeper : f ≡ nesting → Beyond C word z
  pub instead : f ≡ with_statement → Replaced C word z

-- a token that may not stand there
pub stuck_here : {C : ℕ → List Token → Type 0} {limit : ℕ} {ts z : List Token} (word : List Token) → ts ≡ word ++ z → C limit word → Stuck C limit syntax ts z
stuck_here word p c = record { word = word; parts = p; within = c; deeper = λ e. absurd cc; instead = λ e. absurd cc }

-- the same behind an expression
pub stuck_found : {limit wanted : ℕ} {free : Bool} {e : Expr} {ts z : List Token} → FoundExpression limit wanted free e ts z → Stuck (Completes wanted free) limit syntax ts z
stuck_found {e = e} {ts = ts} {z = z} f = stuck_here (expr_fixed e ts z f.reads).word (expr_fixed e ts z f.reads).parts (found_completes f)

-- a token through which the tree would be too deep
pub stuck_deep : {C : ℕ → List Token → Type 0} {limit : ℕ} {ts z : List Token} (word : List Token) → ts ≡ word ++ z → C limit word → Beyond C word z → Stuck C limit nesting ts z
stuck_deep word p c b = record { word = word; parts = p; within = c; deeper = λ e. b; instead = λ e. absurd cc }

-- what completes a part completes what stands round it, where the tokens before the part are pre
pub stuck_round : {C D : ℕ → List Token → Type 0} (pre : List Token) {small limit : ℕ} {f : Fault} {start m z : List Token} → start ≡ pre ++ m → ((w : List Token) → C small w → D limit (pre ++ w))
    → ((l : ℕ) (w : List Token) → C l w → (n : ℕ) × D n (pre ++ w)) → Stuck C small f m z → Stuck D limit f start z
stuck_round pre {z = z} p here there s = record {
  word = pre ++ s.word;
  parts = p ∙ ap (λ (x : List Token). pre ++ x) s.parts ∙ sym (append_assoc pre s.word z);
  within = here s.word s.within;
  deeper = λ e. let b = s.deeper e in let n = there b.limit (s.word ++ b.token ∷ []) b.is in record { token = b.token; rest = b.rest; parts = b.parts; limit = n.0; is = rw append_assoc n.1 };
  instead = λ e. let b = s.instead e in let n = there b.limit (s.word ++ debugger_for b.token ∷ []) b.is in record { token = b.token; rest = b.rest; parts = b.parts; is_with = b.is_with; limit = n.0; is = rw append_assoc n.1 };
}

-- the same with no tokens before the part
pub stuck_as : {C D : ℕ → List Token → Type 0} {limit : ℕ} {f : Fault} {ts z : List Token} → ((l : ℕ) (w : List Token) → C l w → D l w) → Stuck C limit f ts z → Stuck D limit f ts z
stuck_as {limit = limit} k s = stuck_round [] refl (λ w c. k limit w c) (λ l w c. (l, k l w c)) s

-- a node round a part: its depth is one more, and other parts of it have less than base
pub record Round (C D : ℕ → List Token → Type 0) (pre : List Token) (base : ℕ) : Type 0 where
  pub round : (l limit : ℕ) (w : List Token) → l < limit → base < limit → C l w → D limit (pre ++ w)

-- all of the part is to come
pub round_empty : {C D : ℕ → List Token → Type 0} {pre : List Token} {base : ℕ} → Round C D pre base → C 1 [] → D (suc (suc base)) pre
round_empty {D = D} {pre = pre} {base = base} r c = let h = r.round 1 (suc (suc base)) [] (omega arith) (omega arith) c in rw (append-nil pre) at h

-- a refusal in the part is one in the node
pub stuck_node : {C D : ℕ → List Token → Type 0} {pre : List Token} {base d : ℕ} {f : Fault} {start m z : List Token} → Round C D pre base → base ≤ d → start ≡ pre ++ m → Stuck C d f m z → Stuck D (suc d) f start z
stuck_node {pre = pre} {base = base} {d = d} r le p s = stuck_round pre p (λ w c. r.round d (suc d) w (omega arith) (omega arith) c) (λ l w c. (suc (max l base), r.round l (suc (max l base)) w (omega arith) (omega arith) c)) s

-- what is no node of its own round a part: the depth is the same
pub record Beside (C D : ℕ → List Token → Type 0) (pre : List Token) (base : ℕ) : Type 0 where
  pub beside : (l limit : ℕ) (w : List Token) → l ≤ limit → base ≤ limit → C l w → D limit (pre ++ w)

-- a refusal in the part is one round it
pub stuck_beside : {C D : ℕ → List Token → Type 0} {pre : List Token} {base d : ℕ} {f : Fault} {start m z : List Token} → Beside C D pre base → base ≤ d → start ≡ pre ++ m → Stuck C d f m z → Stuck D d f start z
stuck_beside {pre = pre} {base = base} {d = d} r le p s = stuck_round pre p (λ w c. r.beside d d w (omega arith) le c) (λ l w c. (max l base, r.beside l (max l base) w (omega arith) (omega arith) c)) s

-- ---- readers that refuse

-- a refusal, if it is one, is so
pub record Fails {A : Type 0} (r : Result A Refusal) (Q : Fault → List Token → Type 0) : Type 0 where
  pub is : (f : Fault) (z : List Token) → r ≡ Err (refused f z) → Q f z

-- two refusals are equal only where their parts are
same_refusal : {A : Type 0} (f g : Fault) (y z : List Token) → (let r : Result A Refusal = Err (refused f y) in r ≡ Err (refused g z)) → (f ≡ g) × (y ≡ z)
same_refusal f g y z e = (cc, cc)

-- a value is no refusal
pub fails-ok : {A : Type 0} {a : A} {Q : Fault → List Token → Type 0} → Fails (Ok a) Q
fails-ok = record { is = λ f z e. absurd cc }

-- a refusal
pub fails-err : {A : Type 0} {Q : Fault → List Token → Type 0} {f : Fault} {z : List Token} → Q f z → Fails {A = A} (Err (refused f z)) Q
fails-err {A = A} {Q = Q} {f = f} {z = z} q = record { is = λ g y e. let p = same_refusal {A = A} f g z y e in subst (λ (x : Fault). Q x y) p.0 (subst (λ (x : List Token). Q f x) p.1 q) }

-- what is known of a refusal says more
pub fails-more : {A : Type 0} {r : Result A Refusal} {P Q : Fault → List Token → Type 0} → Fails r P → ((f : Fault) (z : List Token) → P f z → Q f z) → Fails r Q
fails-more h k = record { is = λ f z e. k f z (h.is f z e) }

-- one reader, and then another
pub fails-bind : {A B : Type 0} {r : Result A Refusal} {k : A → Result B Refusal} {P : A → Type 0} {Q : Fault → List Token → Type 0} → Gives r P → Fails r Q → ((a : A) → P a → Fails (k a) Q) → Fails (r >>= k) Q
fails-bind {A = A} {B = B} {r = r} {k = k} {P = P} {Q = Q} g h next = record { is = go r g.is h.is }
  where
    go : (r : Result A Refusal) → ((a : A) → r ≡ Ok a → P a) → ((f : Fault) (z : List Token) → r ≡ Err (refused f z) → Q f z) → (f : Fault) (z : List Token) → (r >>= k) ≡ Err (refused f z) → Q f z
    go (Ok a) g h f z e = (next a (g a refl)).is f z e
    go (Err d) g h f z e = h f z (ap (λ (y : Refusal). Err y) (let q : d ≡ refused f z = cc in q))

-- one reader, and then one that doesn't refuse
pub fails-last : {A B : Type 0} {r : Result A Refusal} (k : A → B) {Q : Fault → List Token → Type 0} → Fails r Q → Fails (r >>= λ a. Ok (k a)) Q
fails-last k h = fails-bind {P = λ a. Unit {0}} (record { is = λ a e. tt }) h (λ a p. fails-ok)

-- a test
pub fails-cond : {A : Type 0} {r s : Result A Refusal} {Q : Fault → List Token → Type 0} (b : Bool) → (b ≡ true → Fails r Q) → (b ≡ false → Fails s Q) → Fails (cond b r s) Q
fails-cond true h k = h refl
fails-cond false h k = k refl

-- a node round parts has room, or none
pub fails-room : {A : Type 0} (limit parts : ℕ) (ts : List Token) {r : Read A} {Q : Fault → List Token → Type 0} → (limit ≤ parts → Q nesting ts) → (parts < limit → Fails r Q) → Fails (room limit parts ts r) Q
fails-room limit parts ts h k = fails-cond (leb limit parts) (λ e. fails-err (h (leb-true limit parts e))) (λ e. k (leb-false limit parts e))

-- a token that is asked for
pub fails-expect : (test : Word → Bool) (ts : List Token) {Q : Fault → List Token → Type 0} → Q syntax ts → Fails (expect test ts) Q
unfolding expect
fails-expect test [] q = fails-err q
fails-expect test (t ∷ ts) q = fails-cond (test (word_of t)) (λ e. fails-ok) (λ e. fails-err q)

-- a token that is taken
pub fails-taken : {A : Type 0} (found : Option A) (ts : List Token) {Q : Fault → List Token → Type 0} → Q syntax ts → Fails (taken found ts) Q
unfolding taken
fails-taken (Some a) ts q = fails-ok
fails-taken None ts q = fails-err q

-- ---- loops

-- by induction on the fuel, which is enough since each turn takes a token
fails-turns : {S A : Type 0} (step : S → List Token → Read (Turn S A)) (Inv : S → List Token → Type 0) (Q : Fault → List Token → Type 0) → ((s : S) (ts : List Token) → TurnWithin (length ts) (step s ts))
    → ((s : S) (ts : List Token) (t : S) (z : List Token) → Inv s ts → step s ts ≡ Ok (again t, z) → Inv t z) → ((s : S) (ts : List Token) → Inv s ts → Fails (step s ts) Q)
    → (n : ℕ) (s : S) (ts : List Token) → length ts < n → Inv s ts → Fails (turns step n s ts) Q
fails-turns step Inv Q each keeps fails zero s ts lt i = absurd (omega arith)
fails-turns {S = S} {A = A} step Inv Q each keeps fails (suc n) s ts lt i =
    fails-bind {P = λ x. (step s ts ≡ Ok x) × turn_within (length ts) x.0 x.1} (record { is = λ x e. (e, within x e) }) (fails s ts i) (λ x p. go x.0 x.1 p.0 p.1 (λ t z l j. fails-turns step Inv Q each keeps fails n t z l j))
  where
    within : (x : Turn S A × List Token) → step s ts ≡ Ok x → turn_within (length ts) x.0 x.1
    within x e = rw e at (each s ts)

    go : (t : Turn S A) (z : List Token) → step s ts ≡ Ok (t, z) → turn_within (length ts) t z → ((t : S) (z : List Token) → length z < n → Inv t z → Fails (turns step n t z) Q) → Fails (turned (turns step n) t z) Q
    go (again t) z e w ih = ih t z (omega arith) (keeps s ts t z i e)
    go (done a) z e w ih = fails-ok

-- a loop
pub fails-loop : {S A : Type 0} {step : S → List Token → Read (Turn S A)} {Q : Fault → List Token → Type 0} (Inv : S → List Token → Type 0) → ((s : S) (ts : List Token) → TurnWithin (length ts) (step s ts))
    → ((s : S) (ts : List Token) (t : S) (z : List Token) → Inv s ts → step s ts ≡ Ok (again t, z) → Inv t z) → ((s : S) (ts : List Token) → Inv s ts → Fails (step s ts) Q)
    → (s : S) (ts : List Token) → Inv s ts → Fails (loop step s ts) Q
unfolding loop
fails-loop {step = step} {Q = Q} Inv each keeps fails s ts i = fails-turns step Inv Q each keeps fails (suc (length ts)) s ts (omega arith) i

-- ---- the parsers of parts

-- What the parsers of trees whose depth is below d refuse, where d is above 0. How an expression goes on may also be refused for the depth at the
-- token that says how.
pub record StuckBelow (d : ℕ) (sub : Parsers) : Type 0 where
  pub expression : (wanted : ℕ) (free : Bool) (ts : List Token) → wanted ≤ 16 → Fails (sub.expression wanted free ts) (λ f z. Stuck (Completes wanted free) d f ts z)
  pub operand : (wanted : ℕ) (free : Bool) (ts : List Token) → wanted ≤ 16 → Fails (sub.operand wanted free ts) (λ f z. Stuck (CompletesOperand wanted free) d f ts z)
  pub first : (wanted : ℕ) (free : Bool) (ts : List Token) → wanted ≤ 16 → Fails (sub.first wanted free ts) (λ f z. Stuck (Completes wanted free) d f ts z)
  pub further : (l wanted : ℕ) (free : Bool) (start : List Token) (e : Expr) (ts : List Token) → wanted ≤ 16 → FoundExpression l wanted free e start ts → applies wanted free e ts ≡ true
      → Fails (sub.further free e (suffix_at ts) ts) (λ f z. ((f ≡ nesting) × (z ≡ ts)) ⊎ Stuck (Completes wanted free) d f start z)
  pub statement : (ts : List Token) → Fails (sub.statement ts) (λ f z. Stuck CompletesStatement d f ts z)
  pub statements : (outer : Bool) (ts : List Token) → Fails (sub.statements outer ts) (λ f z. Stuck (CompletesStatements outer) d f ts z)
