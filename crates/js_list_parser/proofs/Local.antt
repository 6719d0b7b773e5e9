-- Each reader looks one token ahead only, and a larger depth changes no answer but a refusal for nesting: what it answers on some tokens it also
-- answers on others that agree with them up to the token that it looks at last, and there begin alike.
use Rattle.std.proofs.Common.{◌≡◌, ℕ, zero, suc, ◌<◌, ◌≤◌, ◌⊎◌, inl, inr, Bool, true, false, cond, if◌then◌else◌, leb, List, [], ◌∷◌, ◌++◌, length, Option, Some, None, Result, Ok, Err, refl, sym, ap, subst, ◌∙◌, arith, length-append}
use Rattle.std.proofs.lemmas.Bool.{leb-false, leb-true}
use Rattle.js_ast.specs.declared.token.Token.{Token}
use Rattle.js_ast.specs.declared.words.Keyword.TheVariants as key
use Rattle.js_ast.specs.Words.{Word, a_key, word_of}
use Rattle.js_ast.specs.Grammar.{on_line}
use Rattle.js_list_parser.specs.Reading.{Fault, syntax, with_statement, nesting, Refusal, refused, Read, ◌>>=◌, word_at, Turn, again, done, turned, loop, room}
use Rattle.js_list_parser.specs.ExpressionParsing.{expect, taken}
use Rattle.js_list_parser.proofs.Outcomes.{bind_ok, same_tree, same_rest}
use Rattle.js_list_parser.proofs.Fronts.{Front, first_of, front_then}
use Rattle.js_list_parser.proofs.Turns.{TurnWithin, turn_within, loop-step}

-- ---- tokens that begin alike

-- the same first token, or none in either
abbrev pub SameFirst : List Token → List Token → Type 0
SameFirst z y = first_of z ≡ first_of y

-- `with` here and `debugger` there, on the same line as what is before it or not
pub record Swapped (z y : List Token) : Type 0 where
  pub here : word_at z ≡ Some (a_key key.With)
  pub there : word_at y ≡ Some (a_key key.Debugger)
  pub line : on_line z ≡ on_line y

-- no reader but that of a statement tells `with` from `debugger`
abbrev pub Alike : List Token → List Token → Type 0
Alike z y = SameFirst z y ⊎ Swapped z y

-- behind a word they begin with the same token
same_behind : (w z y : List Token) → SameFirst z y → SameFirst (w ++ z) (w ++ y)
same_behind [] z y e = e
same_behind (t ∷ w) z y e = refl

pub alike_behind : (w z y : List Token) → Alike z y → Alike (w ++ z) (w ++ y)
alike_behind [] z y a = a
alike_behind (t ∷ w) z y a = inl refl

-- what begins alike is there, or isn't
pub alike_nothing : (y : List Token) → Alike [] y → y ≡ []
alike_nothing [] a = refl
alike_nothing (t ∷ y) (inl e) = absurd cc
alike_nothing (t ∷ y) (inr s) = let bad = s.here in absurd cc

pub alike_something : (t : Token) (z : List Token) → Alike (t ∷ z) [] → ⊥
alike_something t z (inl e) = cc
alike_something t z (inr s) = let bad = s.there in cc

-- the same first token has the same word
word_of_first : Option Token → Option Word
word_of_first None = None
word_of_first (Some t) = Some (word_of t)

word_at-first : (ts : List Token) → word_of_first (first_of ts) ≡ word_at ts
unfolding word_of_first
word_at-first [] = refl
word_at-first (t ∷ ts) = refl

pub same_word : (z y : List Token) → SameFirst z y → word_at z ≡ word_at y
same_word z y e = sym (word_at-first z) ∙ ap word_of_first e ∙ word_at-first y

-- what may stand in place of the refused tokens, by the fault: where the depth is larger (false), nothing in place of what was refused for nesting
abbrev pub Instead : Bool → Fault → List Token → List Token → Type 0
Instead same syntax = Alike
Instead same with_statement = SameFirst
Instead true nesting = SameFirst
Instead false nesting = λ z y. ⊥

instead_alike : (same : Bool) (f : Fault) (z y : List Token) → Instead same f z y → Alike z y
instead_alike same syntax z y a = a
instead_alike same with_statement z y a = inl a
instead_alike true nesting z y a = inl a
instead_alike false nesting z y a = absurd a

-- ---- words in front

-- nothing in front
front_here : {R : List Token → List Token → Type 0} {Q : List Token → List Token → Type 0} (ts : List Token) → ((y : List Token) → R ts y → Q y y) → Front R ts ts Q
front_here ts h = record { word = []; parts = refl; each = h }

-- one word, and then another
alike_then : {R : List Token → List Token → Type 0} {P Q : List Token → List Token → Type 0} (S : List Token → List Token → Type 0) (ts m z : List Token) → ((y : List Token) → R z y → Alike z y) → Front Alike ts m P → Front R m z Q
    → ((u v y : List Token) → P u v → Q v y → S u y) → Front R ts z S
alike_then S ts m z weak f g both = front_then S ts m z f g (λ y r. rw g.parts (alike_behind g.word z y (weak y r))) both

-- the same of what is known to begin alike
front_swap : {R : List Token → List Token → Type 0} {P Q : List Token → List Token → Type 0} (ts z : List Token) → ((y : List Token) → R z y → Alike z y) → ((u y : List Token) → Alike ts u → P u y → Q u y) → Front R ts z P → Front R ts z Q
front_swap ts z weak to f = record {
  word = f.word;
  parts = f.parts;
  each = λ y r. to (f.word ++ y) y (rw f.parts (alike_behind f.word z y (weak y r))) (f.each y r);
}

-- a token in front of the word
front_take : {R : List Token → List Token → Type 0} {P Q : List Token → List Token → Type 0} (t : Token) (ts z : List Token) → ((u y : List Token) → P u y → Q (t ∷ u) y) → Front R ts z P → Front R (t ∷ ts) z Q
front_take t ts z to f = record { word = t ∷ f.word; parts = ap (λ (x : List Token). t ∷ x) f.parts; each = λ y r. to (f.word ++ y) y (f.each y r) }

-- what is behind a word is no longer
front_short : {R : List Token → List Token → Type 0} {Q : List Token → List Token → Type 0} (ts z : List Token) → Front R ts z Q → length z ≤ length ts
front_short ts z f = omega (arith, length-append f.word z, ap length f.parts)

-- ---- readers

-- a refusal of the first of two readers, or of the second
bind_err : {A B : Type 0} (r : Result A Refusal) (f : A → Result B Refusal) (e : Refusal) → (r >>= f) ≡ Err e → (r ≡ Err e) ⊎ ((a : A) × (r ≡ Ok a) × (f a ≡ Err e))
bind_err (Ok a) f e h = inr (a, refl, h)
bind_err (Err d) f e h = inl (ap Err (let q : d ≡ e = cc in q))

-- The answer r on ts tells what the reader p answers on other tokens: it has read a word, and answers the same on the word with other tokens behind
-- it. At some of its values it has taken a token at least.
pub record Local {A : Type 0} (same : Bool) (some : A → Bool) (p : List Token → Read A) (ts : List Token) (r : Read A) : Type 0 where
  pub reads : (a : A) (z : List Token) → r ≡ Ok (a, z) → Front Alike ts z (λ u y. p u ≡ Ok (a, y))
  pub takes : (a : A) (z : List Token) → some a ≡ true → r ≡ Ok (a, z) → length z < length ts
  pub refuses : (f : Fault) (z : List Token) → r ≡ Err (refused f z) → Front (Instead same f) ts z (λ u y. p u ≡ Err (refused f y))

-- at each value a token is taken, or at none
abbrev pub always : {A : Type 0} → A → Bool
always a = true

abbrev pub never : {A : Type 0} → A → Bool
never a = false

-- the tokens of one reader, and then those of another
bind_front : {A B : Type 0} {R : List Token → List Token → Type 0} (p : List Token → Read A) (g : A × List Token → Read B) (s : List Token → Read B) (a : A) (ts m z : List Token) → ((y : List Token) → R z y → Alike z y)
    → Front Alike ts m (λ u y. p u ≡ Ok (a, y)) → Front R m z (λ u y. g (a, u) ≡ s y) → Front R ts z (λ u y. (p u >>= g) ≡ s y)
bind_front p g s a ts m z weak f h = alike_then (λ u y. (p u >>= g) ≡ s y) ts m z weak f h (λ u v y e k. rw e k)

-- a refusal of the first reader is one of both
first_front : {A B : Type 0} {R : List Token → List Token → Type 0} (p : List Token → Read A) (g : A × List Token → Read B) (f : Fault) (ts z : List Token) → ((y : List Token) → R z y → Alike z y)
    → Front R ts z (λ u y. p u ≡ Err (refused f y)) → Front R ts z (λ u y. (p u >>= g) ≡ Err (refused f y))
first_front p g f ts z weak h = front_swap ts z weak (λ u y a e. rw e refl) h

module _ {A B : Type 0} {same : Bool} {some : B → Bool} {p : List Token → Read A} (f g : A × List Token → Read B) {ts : List Token} {r : Read A} where
  -- two readers: what is known of the tokens that they take is shown apart
  both_local : {first : A → Bool} {later : B → Bool} → Local same first p ts r → ((a : A) (m : List Token) → r ≡ Ok (a, m) → Local same later (λ u. g (a, u)) m (f (a, m)))
      → ((b : B) (z : List Token) → some b ≡ true → (r >>= f) ≡ Ok (b, z) → length z < length ts) → Local same some (λ u. p u >>= g) ts (r >>= f)
  both_local l k less = record {
    reads = λ b z e. let (x, h, i) = bind_ok r f (b, z) e in
        bind_front p g (λ y. Ok (b, y)) x.0 ts x.1 z (λ y a. a) (l.reads x.0 x.1 h) ((k x.0 x.1 h).reads b z i);
    takes = less;
    refuses = λ c z e. elim (bind_err r f (refused c z) e) [
      | inl h ↦ first_front p g c ts z (instead_alike same c z) (l.refuses c z h)
      | inr h ↦ bind_front p g (λ y. Err (refused c y)) h.0.0 ts h.0.1 z (instead_alike same c z) (l.reads h.0.0 h.0.1 h.1) ((k h.0.0 h.0.1 h.1).refuses c z h.2)
    ];
  }

  -- two readers, of which the first takes a token
  pub local_bind : Local same always p ts r → ((a : A) (m : List Token) → Local same never (λ u. g (a, u)) m (f (a, m))) → Local same some (λ u. p u >>= g) ts (r >>= f)
  local_bind l k = both_local l (λ a m e. k a m) (λ b z s e. let (x, h, i) = bind_ok r f (b, z) e in
      omega (arith, l.takes x.0 x.1 refl h, front_short x.1 z ((k x.0 x.1).reads b z i)))

  -- two readers, of which the second takes a token where one has to be taken
  pub local_then : {first : A → Bool} → Local same first p ts r → ((a : A) (m : List Token) → Local same some (λ u. g (a, u)) m (f (a, m))) → Local same some (λ u. p u >>= g) ts (r >>= f)
  local_then l k = both_local l (λ a m e. k a m) (λ b z s e. let (x, h, i) = bind_ok r f (b, z) e in
      omega (arith, front_short ts x.1 (l.reads x.0 x.1 h), (k x.0 x.1).takes b z s i))

-- two equal refusals have one fault, and leave the same tokens
same_refusal : {A : Type 0} (f g : Fault) (y z : List Token) → (let r : Read A = Err (refused f y) in r ≡ Err (refused g z)) → (f ≡ g) × (y ≡ z)
same_refusal f g y z e = (cc, cc)

-- what holds of the answer, of the tokens that it leaves, holds of any that are equal
front_rest : {R : List Token → List Token → Type 0} {Q : List Token → List Token → Type 0} (ts y z : List Token) → y ≡ z → Front R ts y Q → Front R ts z Q
front_rest {R = R} {Q = Q} ts y z e f = subst (λ (x : List Token). Front R ts x Q) e f

-- a value, with nothing taken
pub local_done : {A : Type 0} {same : Bool} {some : A → Bool} {a : A} {ts : List Token} → some a ≡ false → Local same some (λ u. Ok (a, u)) ts (Ok (a, ts))
local_done {A = A} {some = some} {a = a} {ts = ts} n = record {
  reads = λ b z e. front_rest ts ts z (same_rest a b ts z e) (front_here ts (λ y l. ap (λ (x : A). let q : Read A = Ok (x, y) in q) (same_tree a b ts z e)));
  takes = λ b z s e. let no_one : true ≡ false = sym s ∙ sym (ap some (same_tree a b ts z e)) ∙ n in absurd cc;
  refuses = λ f z e. absurd cc;
}

pub local_ok : {A : Type 0} {same : Bool} {a : A} {ts : List Token} → Local same never (λ u. Ok (a, u)) ts (Ok (a, ts))
local_ok = local_done refl

-- the first token is refused, and so is each that may stand in its place
pub local_refused : {A : Type 0} {same : Bool} {some : A → Bool} {p : List Token → Read A} {ts : List Token} (f : Fault) → ((u : List Token) → Instead same f ts u → p u ≡ Err (refused f u)) → Local same some p ts (Err (refused f ts))
local_refused {A = A} {same = same} {p = p} {ts = ts} f to = record {
  reads = λ b z e. absurd cc;
  takes = λ b z s e. absurd cc;
  refuses = λ g z e. let q = same_refusal {A = A} f g ts z e in subst (λ (x : Fault). Front (Instead same x) ts z (λ u y. p u ≡ Err (refused x y))) q.0 (front_rest ts ts z q.1 (front_here ts to));
}

pub local_fail : {A : Type 0} {same : Bool} {some : A → Bool} {ts : List Token} → Local same some (λ u. Err (refused syntax u)) ts (Err (refused syntax ts))
local_fail = local_refused syntax (λ u a. refl)

-- the first token is taken
pub local_first : {A : Type 0} {same : Bool} {some : A → Bool} {q : List Token → Read A} {t : Token} {m : List Token} {r : Read A} → Local same never (λ u. q (t ∷ u)) m r → Local same some q (t ∷ m) r
local_first {q = q} {t = t} {m = m} l = record {
  reads = λ a z e. front_take t m z (λ u y k. k) (l.reads a z e);
  takes = λ a z s e. omega (arith, front_short m z (l.reads a z e));
  refuses = λ f z e. front_take t m z (λ u y k. k) (l.refuses f z e);
}

-- another reader that does the same at tokens that begin alike
pub local_swap : {A : Type 0} {same : Bool} {some : A → Bool} {p q : List Token → Read A} {ts : List Token} {r : Read A} → ((u : List Token) → Alike ts u → q u ≡ p u) → Local same some p ts r → Local same some q ts r
local_swap {same = same} {ts = ts} to l = record {
  reads = λ a z e. front_swap ts z (λ y b. b) (λ u y b k. to u b ∙ k) (l.reads a z e);
  takes = l.takes;
  refuses = λ f z e. front_swap ts z (instead_alike same f z) (λ u y b k. to u b ∙ k) (l.refuses f z e);
}

-- a reader by the first word, which does the same at `with` and at `debugger`
pub local_word : {A : Type 0} {same : Bool} {some : A → Bool} (p : Option Word → List Token → Read A) {ts : List Token} {r : Read A} → ((u : List Token) → p (Some (a_key key.With)) u ≡ p (Some (a_key key.Debugger)) u)
    → Local same some (p (word_at ts)) ts r → Local same some (λ u. p (word_at u) u) ts r
local_word p {ts = ts} even l = local_swap (λ u a. elim a [
  | inl e ↦ rw (same_word ts u e) refl
  | inr s ↦ rw (s.here, s.there) (sym (even u))
]) l

-- a reader by what tokens that begin alike have in common
pub local_by : {A X : Type 0} {same : Bool} {some : A → Bool} (p : X → List Token → Read A) (c : List Token → X) {ts : List Token} {r : Read A} → ((u : List Token) → Alike ts u → c ts ≡ c u) → Local same some (p (c ts)) ts r → Local same some (λ u. p (c u) u) ts r
local_by p c {ts = ts} one l = local_swap (λ u a. rw (one u a) refl) l

-- a test that is the same for both
pub local_if : {A : Type 0} {same : Bool} {some : A → Bool} {p q : List Token → Read A} {ts : List Token} {r s : Read A} (b : Bool) → (b ≡ true → Local same some p ts r) → (b ≡ false → Local same some q ts s)
    → Local same some (λ u. if b then p u else q u) ts (if b then r else s)
local_if true l k = l refl
local_if false l k = k refl

-- a test of the first token
pub local_test : {A : Type 0} {same : Bool} {some : A → Bool} (test : List Token → Bool) {p q : List Token → Read A} {ts : List Token} {r s : Read A} → ((u : List Token) → Alike ts u → test ts ≡ test u)
    → (test ts ≡ true → Local same some p ts r) → (test ts ≡ false → Local same some q ts s) → Local same some (λ u. if test u then p u else q u) ts (if test ts then r else s)
local_test test {p = p} {q = q} {ts = ts} one l k = local_by (λ b u. if b then p u else q u) test one (local_if (test ts) l k)

-- ---- the depth

-- the same depth, or one that may be larger
abbrev pub Grows : Bool → ℕ → ℕ → Type 0
Grows true a b = a ≡ b
Grows false a b = a ≤ b

grows_room : (same : Bool) (a b parts : ℕ) → Grows same a b → leb a parts ≡ false → leb b parts ≡ false
grows_room true a b parts g e = rw (← g) e
grows_room false a b parts g e =
    let h : parts < a = leb-false a parts e in
    elim (leb b parts) as (λ v. leb b parts ≡ v → leb b parts ≡ false) [ true ↦ λ t. absurd (omega (arith, leb-true b parts t)) | false ↦ λ t. t ] refl

-- nothing is said of how many tokens are taken
pub local_any : {A : Type 0} {same : Bool} {some : A → Bool} {p : List Token → Read A} {ts : List Token} {r : Read A} → Local same some p ts r → Local same never p ts r
local_any l = record { reads = l.reads; takes = λ a z n. absurd cc; refuses = l.refuses }

-- a node round parts of this depth
pub local_room : {A : Type 0} {same : Bool} {some : A → Bool} (a b parts : ℕ) {p : List Token → Read A} {ts : List Token} {r : Read A} → Grows same a b → Local same some p ts r
    → Local same some (λ u. room b parts u (p u)) ts (room a parts ts r)
local_room {A = A} {same = same} {some = some} a b parts {p = p} {ts = ts} {r = r} g l = go same (leb a parts) refl g l
  where
    go : (same : Bool) (v : Bool) → leb a parts ≡ v → Grows same a b → Local same some p ts r → Local same some (λ u. room b parts u (p u)) ts (cond v (Err (refused nesting ts)) r)
    go true true e g l = local_refused nesting (λ u a. rw (← g, e) refl)
    go false true e g l = local_refused nesting (λ u a. absurd a)
    go same false e g l = local_swap (λ u k. rw (grows_room same a b parts g e) refl) l

-- ---- single tokens

-- what is the same at `with` and at `debugger` is the same at tokens that begin alike
pub alike_word : {X : Type 0} (c : Option Word → X) → c (Some (a_key key.With)) ≡ c (Some (a_key key.Debugger)) → (z y : List Token) → Alike z y → c (word_at z) ≡ c (word_at y)
alike_word c even z y (inl e) = ap c (same_word z y e)
alike_word c even z y (inr s) = ap c s.here ∙ even ∙ sym (ap c s.there)

-- a token that passes a test
abbrev pub passes : (Word → Bool) → Option Word → Bool
passes test None = false
passes test (Some w) = test w

expect_fails : (test : Word → Bool) (ts : List Token) → passes test (word_at ts) ≡ false → expect test ts ≡ Err (refused syntax ts)
unfolding expect
expect_fails test [] h = refl
expect_fails test (t ∷ ts) h = rw h refl

-- is expected, and then others
pub local_expect : {B : Type 0} {same : Bool} {some : B → Bool} (test : Word → Bool) (f g : List Token → Read B) (ts : List Token) → test (a_key key.With) ≡ test (a_key key.Debugger)
    → ((m : List Token) → Local same never g m (f m)) → Local same some (λ u. expect test u >>= g) ts (expect test ts >>= f)
unfolding expect
local_expect {B = B} {same = same} {some = some} test f g ts even l = go ts (passes test (word_at ts)) refl
  where
    go : (ts : List Token) (b : Bool) → passes test (word_at ts) ≡ b → Local same some (λ u. expect test u >>= g) ts (expect test ts >>= f)
    go ts false h = rw (expect_fails test ts h) (local_swap (λ u a. rw (expect_fails test u (sym (alike_word (passes test) even ts u a) ∙ h)) refl) local_fail)
    go [] true h = absurd cc
    go (t ∷ m) true h = rw h (local_first (local_swap (λ u a. rw h refl) (l m)))

-- what is found in the first token is the same at the same first token
pub same_found : {A : Type 0} (found : List Token → Option A) → ((t : Token) (u v : List Token) → found (t ∷ u) ≡ found (t ∷ v)) → (z y : List Token) → SameFirst z y → found z ≡ found y
same_found found one [] [] e = refl
same_found found one [] (t ∷ y) e = absurd cc
same_found found one (t ∷ z) [] e = absurd cc
same_found {A = A} found one (t ∷ z) (s ∷ y) e = let same : t ≡ s = cc in one t z y ∙ ap (λ (x : Token). found (x ∷ y)) same

-- what is found in the first token, which is taken, and then others
pub local_taken : {A B : Type 0} {same : Bool} {some : B → Bool} (found : List Token → Option A) (f g : A × List Token → Read B) (ts : List Token) → ((t : Token) (u v : List Token) → found (t ∷ u) ≡ found (t ∷ v)) → found [] ≡ None
    → ((u : List Token) → Swapped ts u → found ts ≡ None → found u ≡ None) → ((a : A) (m : List Token) → Local same never (λ u. g (a, u)) m (f (a, m)))
    → Local same some (λ u. taken (found u) u >>= g) ts (taken (found ts) ts >>= f)
unfolding taken
local_taken {A = A} {same = same} {some = some} found f g ts one nil swap l = go ts (found ts) refl swap
  where
    go : (ts : List Token) (o : Option A) → found ts ≡ o → ((u : List Token) → Swapped ts u → found ts ≡ None → found u ≡ None) → Local same some (λ u. taken (found u) u >>= g) ts (taken (found ts) ts >>= f)
    go ts None h swap = rw h (local_swap (λ u a. let n : found u ≡ None = elim a [ inl e ↦ sym (same_found found one ts u e) ∙ h | inr s ↦ swap u s h ] in rw n refl) local_fail)
    go [] (Some a) h swap = let no_one : None ≡ Some a = sym nil ∙ h in absurd cc
    go (t ∷ m) (Some a) h swap = rw h (local_first (local_swap (λ u k. rw (one t u m, h) refl) (l a m)))

-- ---- loops

-- whether a turn goes on
abbrev pub goes_on : {S A : Type 0} → Turn S A → Bool
goes_on (again s) = true
goes_on (done a) = false

-- each turn that goes on takes a token
pub turn_shortens : {S A : Type 0} {same : Bool} {step : List Token → Read (Turn S A)} (ts : List Token) (r : Read (Turn S A)) → Local same goes_on step ts r → TurnWithin (length ts) r
turn_shortens ts (Err e) l = tt
turn_shortens ts (Ok x) l = go x.0 refl
  where
    go : (t : Turn _ _) → x.0 ≡ t → turn_within (length ts) t x.1
    go (again s) h = l.takes x.0 x.1 (rw h refl) refl
    go (done a) h = front_short ts x.1 (l.reads x.0 x.1 refl)

-- by induction on the number of tokens
local_turns : {S A : Type 0} {same : Bool} (step step' : S → List Token → Read (Turn S A)) → ((s : S) (ts : List Token) → Local same goes_on (step' s) ts (step s ts)) → ((s : S) (ts : List Token) → Local true goes_on (step' s) ts (step' s ts))
    → (n : ℕ) (s : S) (ts : List Token) → length ts < n → Local same never (loop step' s) ts (loop step s ts)
local_turns step step' l k zero s ts lt = absurd (omega arith)
local_turns {S = S} {A = A} {same = same} step step' l k (suc n) s ts lt =
    let here : (t : S) (us : List Token) → TurnWithin (length us) (step t us) = λ t us. turn_shortens us (step t us) (l t us) in
    let there : (t : S) (us : List Token) → TurnWithin (length us) (step' t us) = λ t us. turn_shortens us (step' t us) (k t us) in
    rw (loop-step step here s ts) (local_swap (λ u a. loop-step step' there s u)
    (both_local (λ x. turned (loop step) x.0 x.1) (λ x. turned (loop step') x.0 x.1) (l s ts) (λ t z e. go t z e (λ t' z' le. local_turns step step' l k n t' z' le)) (λ b z n. absurd cc)))
  where
    go : (t : Turn S A) (z : List Token) → step s ts ≡ Ok (t, z) → ((t : S) (z : List Token) → length z < n → Local same never (loop step' t) z (loop step t z)) → Local same never (λ u. turned (loop step') t u) z (turned (loop step) t z)
    go (done a) z e ih = local_ok
    go (again t) z e ih = let less = (l s ts).takes (again t) z refl e in ih t z (omega arith)

-- a loop
pub local_loop : {S A : Type 0} {same : Bool} {step step' : S → List Token → Read (Turn S A)} → ((s : S) (ts : List Token) → Local same goes_on (step' s) ts (step s ts)) → ((s : S) (ts : List Token) → Local true goes_on (step' s) ts (step' s ts))
    → (s : S) (ts : List Token) → Local same never (loop step' s) ts (loop step s ts)
local_loop {step = step} {step' = step'} l k s ts = local_turns step step' l k (suc (length ts)) s ts (omega arith)
