-- The element that stands next is one.
use Rattle.std.proofs.Common.{◌≡◌, ℕ, suc, ◌≤◌, true, false, ⊎_elim, List, [], ◌∷◌, ◌++◌, length, refl, sym, ap, subst, ◌∙◌, arith}
use Rattle.std.proofs.lemmas.Bool.{true≢false}
use Rattle.js_number.specs.Literal.{Literal, spelling}
use Rattle.js_scan.specs.Units.{is_white_space, is_line_terminator, is_quote}
use Rattle.js_scan.specs.Names.{NamePart, IsName, spelled_name}
use Rattle.js_scan.specs.Strings.{StringPart, IsString, spelled_string, spelled_string_parts}
use Rattle.js_scan.specs.Punctuators.{is_punctuator}
use Rattle.js_scan.specs.Elements.{Element, white_space, line_terminator, line_comment, block_comment, name, punctuator, number, string, spelled, IsElement, Next}
use Rattle.js_scan.specs.Found.{class_at}
use Rattle.js_scan.proofs.UnitLaws.{start_no_punctuator, backslash_no_punctuator, line_terminator_no_white_space}
use Rattle.js_scan.proofs.NameLaws.{one_name, name_first}
use Rattle.js_scan.proofs.StringLaws.{one_cut, quote_stops}
use Rattle.js_scan.proofs.CommentLaws.{one_block}
use Rattle.js_scan.proofs.NumberLaws.{number_first}
use Rattle.js_scan.proofs.PunctuatorLaws.{punctuator_not_empty}
use Rattle.js_scan.proofs.Fronts.{plain_class, own_class}

-- one element, or two numbers that are spelled alike
pub data Same : Element → Element → Type 0 where
  one : (e : Element) → Same e e
  numbers : (l m : Literal) → spelling l ≡ spelling m → Same (number l) (number m)

same_by : (e f : Element) → e ≡ f → Same e f
same_by e f h = subst (λ x. Same e x) h (one e)

pub first_of : (u v : ℕ) (us vs : List ℕ) → u ∷ us ≡ v ∷ vs → u ≡ v
first_of u v us vs h = cc h

pub rest_of : (u v : ℕ) (us vs : List ℕ) → u ∷ us ≡ v ∷ vs → us ≡ vs
rest_of u v us vs h = cc h

-- what is a name is no punctuator
name_no_punctuator : (parts : List NamePart) → IsName parts → is_punctuator (spelled_name parts) ≡ false
name_no_punctuator parts n =
    let f = name_first parts n in
    subst (λ xs. is_punctuator xs ≡ false) (sym f.2)
    (⊎_elim (λ e. subst (λ u. is_punctuator (u ∷ f.1) ≡ false) (sym e.0) (backslash_no_punctuator f.1)) (λ e. start_no_punctuator f.0 f.1 e) f.3)

no_both : (parts : List NamePart) (text : List ℕ) → IsName parts → is_punctuator text ≡ true → spelled_name parts ≡ text → ⊥
no_both parts text n p h = true≢false (sym p ∙ ap is_punctuator (sym h) ∙ name_no_punctuator parts n)

no_blanks : (u v : ℕ) → is_white_space u ≡ true → is_line_terminator v ≡ true → u ≡ v → ⊥
no_blanks u v a b h = true≢false (sym a ∙ ap is_white_space h ∙ line_terminator_no_white_space v b)

same_string : (q r : ℕ) (ps qs : List StringPart) → is_quote q ≡ true → IsString q ps → IsString r qs → spelled_string q ps ≡ spelled_string r qs → (q ≡ r) × (ps ≡ qs)
same_string q r ps qs a s t h =
    let e : q ≡ r = first_of q r _ _ h in
    let t' : IsString q qs = subst (λ x. IsString x qs) (sym e) t in
    let g : spelled_string_parts ps ++ q ∷ [] ≡ spelled_string_parts qs ++ q ∷ [] = rest_of q r _ _ h ∙ ap (λ x. spelled_string_parts qs ++ x ∷ []) (sym e) in
    (e, (one_cut q ps qs (q ∷ []) (q ∷ []) s t' g (quote_stops q [] a) (quote_stops q [] a)).0)

-- two elements of one spelling
same_class : (e f : Element) → IsElement e → IsElement f → spelled e ≡ spelled f → plain_class e ≡ plain_class f → Same e f
unfolding spelled IsElement
same_class (white_space u) (white_space v) i j h c = same_by (white_space u) (white_space v) (ap white_space (first_of u v [] [] h))
same_class (white_space u) (line_terminator v) i j h c = absurd (no_blanks u v i j (first_of u v [] [] h))
same_class (line_terminator u) (white_space v) i j h c = absurd (no_blanks v u j i (sym (first_of u v [] [] h)))
same_class (line_terminator u) (line_terminator v) i j h c = same_by (line_terminator u) (line_terminator v) (ap line_terminator (first_of u v [] [] h))
same_class (line_comment a) (line_comment b) i j h c = same_by (line_comment a) (line_comment b) (ap line_comment (rest_of 47 47 a b (rest_of 47 47 (47 ∷ a) (47 ∷ b) h)))
same_class (block_comment a) (block_comment b) i j h c = same_by (block_comment a) (block_comment b) (ap block_comment (one_block a b [] [] i j (rest_of 42 42 _ _ (rest_of 47 47 _ _ h))).0)
same_class (name ps) (name qs) i j h c = same_by (name ps) (name qs) (ap name (one_name ps qs i j h))
same_class (name ps) (punctuator text) i j h c = absurd (no_both ps text i j h)
same_class (punctuator text) (name ps) i j h c = absurd (no_both ps text j i (sym h))
same_class (punctuator a) (punctuator b) i j h c = same_by (punctuator a) (punctuator b) (ap punctuator h)
same_class (number l) (number m) i j h c = numbers l m h
same_class (string q ps) (string r qs) i j h c =
    let s = same_string q r ps qs i.0 i.1 j.1 h in same_by (string q ps) (string r qs) (ap (λ x. string x ps) s.0 ∙ ap (string r) s.1)
same_class _ _ i j h c = absurd (cc c)

pub same : (e f : Element) → IsElement e → IsElement f → spelled e ≡ spelled f → Same e f
same e f i j h = same_class e f i j h (sym (own_class e i) ∙ ap class_at h ∙ own_class f j)

-- fronts of one length of one list
fronts : (a b x y : List ℕ) → length a ≡ length b → a ++ x ≡ b ++ y → (a ≡ b) × (x ≡ y)
fronts [] [] x y l h = (refl, h)
fronts [] (v ∷ b) x y l h = absurd (let k : 0 ≡ suc (length b) = l in cc k)
fronts (u ∷ a) [] x y l h = absurd (let k : suc (length a) ≡ 0 = l in cc k)
fronts (u ∷ a) (v ∷ b) x y l h =
    let r = fronts a b x y (let k : suc (length a) ≡ suc (length b) = l in cc k) (rest_of u v (a ++ x) (b ++ y) h) in
    (ap (λ z. z ∷ a) (first_of u v (a ++ x) (b ++ y) h) ∙ ap (λ z. v ∷ z) r.0, r.1)

-- what stands next is one element, and one rest is behind it
pub record Agree (e f : Element) (rest others : List ℕ) : Type 0 where
  pub same : Same e f
  pub spelled_alike : spelled e ≡ spelled f
  pub same_rest : rest ≡ others

pub one_next : (us : List ℕ) (e f : Element) (rest others : List ℕ) → Next us e rest → Next us f others → Agree e f rest others
one_next us e f rest others n m =
    let le : length (spelled f) ≤ length (spelled e) = n.longest f others (m.is, m.whole) in
    let ge : length (spelled e) ≤ length (spelled f) = m.longest e rest (n.is, n.whole) in
    let s = fronts (spelled e) (spelled f) rest others (omega arith) (sym n.whole ∙ m.whole) in
    record { same = same e f n.is m.is s.0; spelled_alike = s.0; same_rest = s.1 }

-- an element has a first unit
pub spelled_first : (e : Element) → IsElement e → (u : ℕ) × (us : List ℕ) × (spelled e ≡ u ∷ us)
unfolding spelled IsElement
spelled_first (white_space u) i = (u, [], refl)
spelled_first (line_terminator u) i = (u, [], refl)
spelled_first (line_comment body) i = (47, 47 ∷ body, refl)
spelled_first (block_comment body) i = (47, 42 ∷ (body ++ 42 ∷ 47 ∷ []), refl)
spelled_first (name parts) i = let f = name_first parts i in (f.0, f.1, f.2)
spelled_first (punctuator []) i = absurd (true≢false (sym i ∙ punctuator_not_empty))
spelled_first (punctuator (u ∷ us)) i = (u, us, refl)
spelled_first (number l) i = let f = number_first l i in (f.0, f.1, f.2)
spelled_first (string q parts) i = (q, spelled_string_parts parts ++ q ∷ [], refl)
