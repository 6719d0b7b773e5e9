-- A source is read in one way.
use Rattle.std.proofs.Common.{◌≡◌, ℕ, ◌+◌, true, false, List, [], ◌∷◌, ◌++◌, length, refl, sym, ap, subst, ◌∙◌}
use Rattle.std.proofs.lemmas.Bool.{true≢false}
use Rattle.js_number.specs.Literal.{Literal, spelling, SpellsNumber}
use Rattle.js_ast.specs.declared.token.TokenKind.{TokenKind}
use Rattle.js_ast.specs.declared.token.TokenKind.TheVariants as kind
use Rattle.js_ast.specs.declared.token.Token.{Token}
use Rattle.js_scan.specs.Elements.{Element, white_space, line_terminator, line_comment, block_comment, name, punctuator, number, string, spelled, Next, is_separator}
use Rattle.js_scan.specs.declared.state.State.{State}
use Rattle.js_scan.specs.Tokens.{past, after, token, IsAccepted, Splits, nothing, separator, lexeme}
use Rattle.js_scan.proofs.NumberLaws.{one_value}
use Rattle.js_scan.proofs.Sames.{Same, one, numbers, one_next, spelled_first}

-- nothing can be taken here
abbrev pub Stuck : State → List ℕ → Type 0
Stuck s us = ((e : Element) (behind : List ℕ) → Next us e behind → is_separator e ≡ true → ⊥) × ((e : Element) (behind : List ℕ) (k : TokenKind) → Next us e behind → IsAccepted s e behind k → ⊥)

-- separators are no lexemes
no_lexeme : (s : State) (e : Element) (rest : List ℕ) (k : TokenKind) → is_separator e ≡ true → IsAccepted s e rest k → ⊥
unfolding is_separator IsAccepted
no_lexeme s (white_space u) rest k h a = a
no_lexeme s (line_terminator u) rest k h a = a
no_lexeme s (line_comment body) rest k h a = a
no_lexeme s (block_comment body) rest k h a = a
no_lexeme s (name parts) rest k h a = true≢false (sym h)
no_lexeme s (punctuator text) rest k h a = true≢false (sym h)
no_lexeme s (number l) rest k h a = true≢false (sym h)
no_lexeme s (string q parts) rest k h a = true≢false (sym h)

pub number_is_lexeme : (l : Literal) → is_separator (number l) ≡ false
unfolding is_separator
number_is_lexeme l = refl

-- a number is accepted by its spelling
pub accepted_alike : (s : State) (l m : Literal) (rest : List ℕ) (k : TokenKind) → spelling l ≡ spelling m → IsAccepted s (number l) rest k → IsAccepted s (number m) rest k
unfolding IsAccepted
accepted_alike s l m rest k h a = (a.0, a.1, subst (λ us. SpellsNumber us a.0) h a.2, a.3, a.4, a.5)

-- a lexeme is of one kind
one_kind : (s : State) (e : Element) (rest : List ℕ) (k k' : TokenKind) → IsAccepted s e rest k → IsAccepted s e rest k' → k ≡ k'
unfolding IsAccepted
one_kind s (white_space u) rest k k' a b = absurd a
one_kind s (line_terminator u) rest k k' a b = absurd a
one_kind s (line_comment body) rest k k' a b = absurd a
one_kind s (block_comment body) rest k k' a b = absurd a
one_kind s (name parts) rest k k' a b = a.2 ∙ sym b.2
one_kind s (punctuator text) rest k k' a b = a.1 ∙ sym b.1
one_kind s (number l) rest k k' a b = a.5 ∙ ap kind.Number (one_value (spelling l) a.0 b.0 a.1 a.2 b.1 b.2) ∙ sym b.5
one_kind s (string q parts) rest k k' a b = a ∙ sym b

-- the same lexeme makes the same token
same_token : (s : State) (e f : Element) (rest : List ℕ) (k k' : TokenKind) → Same e f → spelled e ≡ spelled f → IsAccepted s e rest k → IsAccepted s f rest k' → token s e k ≡ token s f k'
unfolding spelled
same_token s _ _ rest k k' (one e) h a b = ap (token s e) (one_kind s e rest k k' a b)
same_token s _ _ rest k k' (numbers l m g) h a b =
    ap (token s (number l)) (one_kind s (number l) rest k k' a (accepted_alike s m l rest k' (sym g) b))
    ∙ ap (λ us. record { kind = k'; text = us; from = s.at; to = s.at + length us; newline = s.newline }) g

same_separator : (e f : Element) → Same e f → is_separator e ≡ true → e ≡ f
same_separator _ _ (one e) h = refl
same_separator _ _ (numbers l m g) h = absurd (true≢false (sym h ∙ number_is_lexeme l))

-- a separator isn't the same as a lexeme
no_mixture : (s : State) (e f : Element) (rest : List ℕ) (k : TokenKind) → Same e f → is_separator e ≡ true → IsAccepted s f rest k → ⊥
no_mixture s _ _ rest k (one e) h a = no_lexeme s e rest k h a
no_mixture s _ _ rest k (numbers l m g) h a = true≢false (sym h ∙ number_is_lexeme l)

-- two ways to read up to where nothing can be taken
pub record OneWay (ts vs : List Token) (to to' : State) (rest rest' : List ℕ) : Type 0 where
  pub tokens : ts ≡ vs
  pub state : to ≡ to'
  pub units : rest ≡ rest'

more_tokens : (t v : Token) (ts vs : List Token) (to to' : State) (rest rest' : List ℕ) → t ≡ v → OneWay ts vs to to' rest rest' → OneWay (t ∷ ts) (v ∷ vs) to to' rest rest'
more_tokens t v ts vs to to' rest rest' h w = record { tokens = ap (λ x. x ∷ ts) h ∙ ap (λ x. v ∷ x) w.tokens; state = w.state; units = w.units }

pub one_way : (s : State) (us : List ℕ) (ts vs : List Token) (to to' : State) (rest rest' : List ℕ) → Splits s us ts to rest → Stuck to rest → Splits s us vs to' rest' → Stuck to' rest' → OneWay ts vs to to' rest rest'
one_way _ _ _ _ _ _ _ _ (nothing s us) stuck (nothing _ _) stuck' = record { tokens = refl; state = refl; units = refl }
one_way _ _ _ _ _ _ _ _ (nothing s us) stuck (separator _ _ e behind vs to' rest' n h more) stuck' = absurd (stuck.0 e behind n h)
one_way _ _ _ _ _ _ _ _ (nothing s us) stuck (lexeme _ _ e behind v vs to' rest' k n a h more) stuck' = absurd (stuck.1 e behind k n a)
one_way _ _ _ _ _ _ _ _ (separator s us e behind ts to rest n h more) stuck (nothing _ _) stuck' = absurd (stuck'.0 e behind n h)
one_way _ _ _ _ _ _ _ _ (separator s us e behind ts to rest n h more) stuck (separator _ _ f others vs to' rest' m g further) stuck' =
    let a = one_next us e f behind others n m in
    let same = same_separator e f a.same h in
    let further' : Splits (past s e) behind vs to' rest' = subst (λ x. Splits (past s x) behind vs to' rest') (sym same) (subst (λ x. Splits (past s f) x vs to' rest') (sym a.same_rest) further) in
    one_way (past s e) behind ts vs to to' rest rest' more stuck further' stuck'
one_way _ _ _ _ _ _ _ _ (separator s us e behind ts to rest n h more) stuck (lexeme _ _ f others v vs to' rest' k m b g further) stuck' =
    let a = one_next us e f behind others n m in
    absurd (no_mixture s e f others k a.same h b)
one_way _ _ _ _ _ _ _ _ (lexeme s us e behind t ts to rest k n b g more) stuck (nothing _ _) stuck' = absurd (stuck'.1 e behind k n b)
one_way _ _ _ _ _ _ _ _ (lexeme s us e behind t ts to rest k n b g more) stuck (separator _ _ f others vs to' rest' m h further) stuck' =
    let a = one_next us f e others behind m n in
    absurd (no_mixture s f e behind k a.same h b)
one_way _ _ _ _ _ _ _ _ (lexeme s us e behind t ts to rest k n b g more) stuck (lexeme _ _ f others v vs to' rest' k' m b' g' further) stuck' =
    let a = one_next us e f behind others n m in
    let accepted : IsAccepted s f behind k' = subst (λ x. IsAccepted s f x k') (sym a.same_rest) b' in
    let same : t ≡ v = g ∙ same_token s e f behind k k' a.same a.spelled_alike b accepted ∙ sym g' in
    let further' : Splits (after s t) behind vs to' rest' = subst (λ x. Splits (after s x) behind vs to' rest') (sym same) (subst (λ x. Splits (after s v) x vs to' rest') (sym a.same_rest) further) in
    more_tokens t v ts vs to to' rest rest' same (one_way (after s t) behind ts vs to to' rest rest' more stuck further' stuck')

-- nothing can be taken at the end
none_at_end : (e : Element) (behind : List ℕ) → Next [] e behind → ⊥
none_at_end e behind n =
    let f = spelled_first e n.is in
    let h : [] ≡ f.0 ∷ (f.1 ++ behind) = n.whole ∙ ap (λ us. us ++ behind) f.2 in
    cc h

pub end_stuck : (s : State) → Stuck s []
end_stuck s = (λ e behind n h. none_at_end e behind n, λ e behind k n a. none_at_end e behind n)
