-- Which class of units each element begins.
use Rattle.std.proofs.Common.{◌≡◌, ℕ, ◌==◌, Bool, true, false, ◌||◌, ◌⊎◌, inl, inr, ⊎_elim, List, [], ◌∷◌, ◌++◌, append-nil, refl, sym, ap, subst, ◌∙◌}
use Rattle.std.specs.Char.{is_digit}
use Rattle.std.proofs.lemmas.Bool.{false_from_ne_true, true≢false, or_left, or_right, or_from, eqb-true, cases_Bool}
use Rattle.js_number.specs.Literal.{Literal, spelling}
use Rattle.js_scan.specs.declared.class.Class.{Class}
use Rattle.js_scan.specs.declared.class.Class.TheVariants as class
use Rattle.js_scan.specs.Units.{is_white_space, is_line_terminator, is_quote, begins_with, begins_with_digit}
use Rattle.js_scan.specs.Names.{NamePart, IsName, spelled_name}
use Rattle.js_scan.specs.Numbers.{IsNumeric}
use Rattle.js_scan.specs.Punctuators.{is_punctuator}
use Rattle.js_scan.specs.Elements.{Element, white_space, line_terminator, line_comment, block_comment, name, punctuator, number, string, spelled, IsElement}
use Rattle.js_scan.specs.Found.{begins_number, class_at}
use Rattle.js_scan.proofs.UnitLaws.{start_other, blank_other, blank_no_punctuator}
use Rattle.js_scan.proofs.NameLaws.{name_first}
use Rattle.js_scan.proofs.PunctuatorLaws.{slash_only, dot_only, punctuator_not_empty, no_quote, no_digit}
use Rattle.js_scan.proofs.NumberLaws.{number_first}

-- white space and line terminators
abbrev pub is_blank : ℕ → Bool
is_blank u = is_white_space u || is_line_terminator u

-- a unit that no class but the last is for
pub at_other : (u : ℕ) (us : List ℕ) → (u == 47) ≡ false → is_quote u ≡ false → begins_number (u ∷ us) ≡ false → is_blank u ≡ false → class_at (u ∷ us) ≡ class.Other
unfolding class_at
at_other u us a b c d = rw (a, b, c, d) refl

at_blank : (u : ℕ) (us : List ℕ) → (u == 47) ≡ false → is_quote u ≡ false → begins_number (u ∷ us) ≡ false → is_blank u ≡ true → class_at (u ∷ us) ≡ class.Blank
unfolding class_at
at_blank u us a b c d = rw (a, b, c, d) refl

pub at_quote : (u : ℕ) (us : List ℕ) → (u == 47) ≡ false → is_quote u ≡ true → class_at (u ∷ us) ≡ class.Quoted
unfolding class_at
at_quote u us a b = rw (a, b) refl

pub at_number : (u : ℕ) (us : List ℕ) → (u == 47) ≡ false → is_quote u ≡ false → begins_number (u ∷ us) ≡ true → class_at (u ∷ us) ≡ class.Number
unfolding class_at
at_number u us a b c = rw (a, b, c) refl

-- no number begins at a unit that is no digit and no point
no_number : (u : ℕ) (us : List ℕ) → is_digit u 10 ≡ false → (u == 46) ≡ false → begins_number (u ∷ us) ≡ false
unfolding begins_number begins_with_digit
no_number u us a b = rw (a, b) refl

a_digit : (u : ℕ) (us : List ℕ) → is_digit u 10 ≡ true → begins_number (u ∷ us) ≡ true
unfolding begins_number begins_with_digit
a_digit u us a = rw (a) refl

a_point : (us : List ℕ) → begins_with_digit us ≡ true → begins_number (46 ∷ us) ≡ true
unfolding begins_number
a_point us a = or_right (begins_with_digit (46 ∷ us)) (begins_with_digit us) a

no_point : (us : List ℕ) → begins_with_digit us ≡ false → begins_number (46 ∷ us) ≡ false
unfolding begins_number begins_with_digit
no_point us a = a

-- what passes a test is none of the units that fail it
pub none_of : (t : ℕ → Bool) (u v : ℕ) → t u ≡ true → t v ≡ false → (u == v) ≡ false
none_of t u v a b = false_from_ne_true (u == v) (λ e. true≢false (sym a ∙ ap t (eqb-true u v e) ∙ b))

not_blank : (u : ℕ) → (is_blank u ≡ true → ⊥) → is_blank u ≡ false
not_blank u h = false_from_ne_true (is_blank u) h

-- `/`, `.` and `\` are no blanks
slash_no_blank : is_blank 47 ≡ false
slash_no_blank = not_blank 47 (λ e. true≢false ((blank_other 47 e).3))

point_no_blank : is_blank 46 ≡ false
point_no_blank = not_blank 46 (λ e. true≢false ((blank_other 46 e).2))

backslash_no_blank : is_blank 92 ≡ false
backslash_no_blank = not_blank 92 (λ e. true≢false ((blank_other 92 e).4))

-- an element's class by its first units; `.` may stand where a number does, and `/` where a comment does
pub data Front (us : List ℕ) : Element → Type 0 where
  blank : (e : Element) (u : ℕ) → spelled e ≡ u ∷ [] → class_at us ≡ class.Blank → ((e ≡ white_space u) × (is_white_space u ≡ true)) ⊎ ((e ≡ line_terminator u) × (is_line_terminator u ≡ true)) → Front us e
  line : (body : List ℕ) → class_at us ≡ class.LineComment → Front us (line_comment body)
  block : (body : List ℕ) → class_at us ≡ class.BlockComment → Front us (block_comment body)
  quoted : (q : ℕ) (parts : _) → class_at us ≡ class.Quoted → Front us (string q parts)
  a_number : (l : Literal) → class_at us ≡ class.Number → Front us (number l)
  a_name : (parts : List NamePart) → class_at us ≡ class.Other → Front us (name parts)
  a_punctuator : (text : List ℕ) → class_at us ≡ class.Other → Front us (punctuator text)
  point : class_at us ≡ class.Number → Front us (punctuator (46 ∷ []))
  slash : (class_at us ≡ class.LineComment) ⊎ (class_at us ≡ class.BlockComment) → Front us (punctuator (47 ∷ []))

blank_class : (u : ℕ) (us : List ℕ) → is_blank u ≡ true → class_at (u ∷ us) ≡ class.Blank
blank_class u us h = let o = blank_other u h in at_blank u us o.3 o.0 (no_number u us o.1 o.2) h

pub quote_not_backslash : is_quote 92 ≡ false
unfolding is_quote
quote_not_backslash = refl

pub quote_not_point : is_quote 46 ≡ false
unfolding is_quote
quote_not_point = refl

pub slash_no_quote : is_quote 47 ≡ false
unfolding is_quote
slash_no_quote = refl

-- a quote is no digit
pub no_quote_digit : (u : ℕ) → is_digit u 10 ≡ true → is_quote u ≡ false
unfolding is_quote
no_quote_digit u d = or_from (u == 34) (u == 39) (none_of (λ x. is_digit x 10) u 34 d refl) (none_of (λ x. is_digit x 10) u 39 d refl)

digit_in_front : (us rest : List ℕ) → begins_with_digit us ≡ true → begins_with_digit (us ++ rest) ≡ true
unfolding begins_with_digit
digit_in_front [] rest h = absurd (true≢false (sym h))
digit_in_front (u ∷ us) rest h = h

pub line_class : (us : List ℕ) → class_at (47 ∷ 47 ∷ us) ≡ class.LineComment
unfolding class_at begins_with
line_class us = refl

pub block_class : (us : List ℕ) → class_at (47 ∷ 42 ∷ us) ≡ class.BlockComment
unfolding class_at begins_with
block_class us = refl

-- a `/` that begins no comment
pub slash_class : (us : List ℕ) → begins_with 47 us ≡ false → begins_with 42 us ≡ false → class_at (47 ∷ us) ≡ class.Other
unfolding class_at is_quote
slash_class us a b = rw (a, b, no_number 47 us refl refl, slash_no_blank) refl

-- what begins a punctuator is no quote, digit or blank
plain_quote : (u : ℕ) (us : List ℕ) → is_punctuator (u ∷ us) ≡ true → is_quote u ≡ false
plain_quote u us p = false_from_ne_true (is_quote u) (λ e. true≢false (sym p ∙ no_quote u us e))

plain_digit : (u : ℕ) (us : List ℕ) → is_punctuator (u ∷ us) ≡ true → is_digit u 10 ≡ false
plain_digit u us p = false_from_ne_true (is_digit u 10) (λ e. true≢false (sym p ∙ no_digit u us e))

plain_blank : (u : ℕ) (us : List ℕ) → is_punctuator (u ∷ us) ≡ true → is_blank u ≡ false
plain_blank u us p = false_from_ne_true (is_blank u) (λ e. true≢false (sym p ∙ blank_no_punctuator u us e))

pub first_is : (v : ℕ) (us : List ℕ) → begins_with v us ≡ true → (rest : List ℕ) × (us ≡ v ∷ rest)
unfolding begins_with
first_is v [] h = absurd (true≢false (sym h))
first_is v (u ∷ us) h = (us, ap (λ x. x ∷ us) (eqb-true u v h))

equals_no_slash : (us : List ℕ) → begins_with 47 (61 ∷ us) ≡ false
unfolding begins_with
equals_no_slash us = refl

equals_no_star : (us : List ℕ) → begins_with 42 (61 ∷ us) ≡ false
unfolding begins_with
equals_no_star us = refl

none_behind : begins_with_digit [] ≡ false
unfolding begins_with_digit
none_behind = refl

nothing_begins : (v : ℕ) → begins_with v [] ≡ false
unfolding begins_with
nothing_begins v = refl

-- a `/` alone, by what stands behind it
lone_slash : (rest : List ℕ) → Front (47 ∷ rest) (punctuator (47 ∷ []))
lone_slash rest = ⊎_elim
    (λ e. let f = first_is 47 rest e in slash (inl (subst (λ xs. class_at (47 ∷ xs) ≡ class.LineComment) (sym f.1) (line_class f.0))))
    (λ e. ⊎_elim
    (λ g. let f = first_is 42 rest g in slash (inr (subst (λ xs. class_at (47 ∷ xs) ≡ class.BlockComment) (sym f.1) (block_class f.0))))
    (λ g. a_punctuator (47 ∷ []) (slash_class rest e g))
    (cases_Bool (begins_with 42 rest)))
    (cases_Bool (begins_with 47 rest))

slash_front : (us rest : List ℕ) → is_punctuator (47 ∷ us) ≡ true → Front ((47 ∷ us) ++ rest) (punctuator (47 ∷ us))
slash_front us rest p = ⊎_elim
    (λ e. subst (λ x. Front ((47 ∷ x) ++ rest) (punctuator (47 ∷ x))) (sym e) (lone_slash rest))
    (λ e. subst (λ x. Front ((47 ∷ x) ++ rest) (punctuator (47 ∷ x))) (sym e) (a_punctuator (47 ∷ 61 ∷ []) (slash_class (61 ∷ rest) (equals_no_slash rest) (equals_no_star rest))))
    (slash_only us p)

point_front : (us rest : List ℕ) → is_punctuator (46 ∷ us) ≡ true → Front ((46 ∷ us) ++ rest) (punctuator (46 ∷ us))
point_front us rest p = subst (λ x. Front ((46 ∷ x) ++ rest) (punctuator (46 ∷ x))) (sym (dot_only us p)) (⊎_elim
    (λ e. point (at_number 46 rest refl quote_not_point (a_point rest e)))
    (λ e. a_punctuator (46 ∷ []) (at_other 46 rest refl quote_not_point (no_point rest e) point_no_blank))
    (cases_Bool (begins_with_digit rest)))

name_class : (parts : List NamePart) (rest : List ℕ) → IsName parts → class_at (spelled_name parts ++ rest) ≡ class.Other
name_class parts rest n =
    let f = name_first parts n in
    subst (λ xs. class_at (xs ++ rest) ≡ class.Other) (sym f.2) (⊎_elim
    (λ e. subst (λ u. class_at (u ∷ (f.1 ++ rest)) ≡ class.Other) (sym e.0) (at_other 92 (f.1 ++ rest) refl quote_not_backslash (no_number 92 (f.1 ++ rest) refl refl) backslash_no_blank))
    (λ e. let o = start_other f.0 e in at_other f.0 (f.1 ++ rest) o.5 o.2 (no_number f.0 (f.1 ++ rest) o.3 o.4) (or_from (is_white_space f.0) (is_line_terminator f.0) o.0 o.1)) f.3)

number_class : (l : Literal) (rest : List ℕ) → IsNumeric l → class_at (spelling l ++ rest) ≡ class.Number
number_class l rest n =
    let f = number_first l n in
    subst (λ xs. class_at (xs ++ rest) ≡ class.Number) (sym f.2) (⊎_elim
    (λ d. at_number f.0 (f.1 ++ rest) (none_of (λ x. is_digit x 10) f.0 47 d refl) (no_quote_digit f.0 d) (a_digit f.0 (f.1 ++ rest) d))
    (λ d. subst (λ u. class_at (u ∷ (f.1 ++ rest)) ≡ class.Number) (sym d.0) (at_number 46 (f.1 ++ rest) refl quote_not_point (a_point (f.1 ++ rest) (digit_in_front f.1 rest d.1)))) f.3)

punctuator_front : (u : ℕ) (us rest : List ℕ) → is_punctuator (u ∷ us) ≡ true → Front ((u ∷ us) ++ rest) (punctuator (u ∷ us))
punctuator_front u us rest p = ⊎_elim
    (λ e. subst (λ x. Front ((x ∷ us) ++ rest) (punctuator (x ∷ us))) (sym (eqb-true u 47 e)) (slash_front us rest (subst (λ x. is_punctuator (x ∷ us) ≡ true) (eqb-true u 47 e) p)))
    (λ e. ⊎_elim
    (λ g. subst (λ x. Front ((x ∷ us) ++ rest) (punctuator (x ∷ us))) (sym (eqb-true u 46 g)) (point_front us rest (subst (λ x. is_punctuator (x ∷ us) ≡ true) (eqb-true u 46 g) p)))
    (λ g. a_punctuator (u ∷ us) (at_other u (us ++ rest) e (plain_quote u us p) (no_number u (us ++ rest) (plain_digit u us p) g) (plain_blank u us p)))
    (cases_Bool (u == 46)))
    (cases_Bool (u == 47))

-- each element that stands at the front of units is so
pub front : (e : Element) (us rest : List ℕ) → IsElement e → us ≡ spelled e ++ rest → Front us e
unfolding spelled IsElement
front (white_space u) us rest i w = subst (λ xs. Front xs (white_space u)) (sym w) (blank (white_space u) u refl (blank_class u rest (or_left (is_white_space u) (is_line_terminator u) i)) (inl (refl, i)))
front (line_terminator u) us rest i w = subst (λ xs. Front xs (line_terminator u)) (sym w) (blank (line_terminator u) u refl (blank_class u rest (or_right (is_white_space u) (is_line_terminator u) i)) (inr (refl, i)))
front (line_comment body) us rest i w = subst (λ xs. Front xs (line_comment body)) (sym w) (line body (line_class (body ++ rest)))
front (block_comment body) us rest i w = subst (λ xs. Front xs (block_comment body)) (sym w) (block body (block_class ((body ++ 42 ∷ 47 ∷ []) ++ rest)))
front (name parts) us rest i w = subst (λ xs. Front xs (name parts)) (sym w) (a_name parts (name_class parts rest i))
front (punctuator []) us rest i w = absurd (true≢false (sym i ∙ punctuator_not_empty))
front (punctuator (u ∷ text)) us rest i w = subst (λ xs. Front xs (punctuator (u ∷ text))) (sym w) (punctuator_front u text rest i)
front (number l) us rest i w = subst (λ xs. Front xs (number l)) (sym w) (a_number l (number_class l rest i))
front (string q parts) us rest i w = subst (λ xs. Front xs (string q parts)) (sym w) (quoted q parts (at_quote q _ (none_of is_quote q 47 i.0 slash_no_quote) i.0))

-- the class of an element that stands alone
abbrev pub plain_class : Element → Class
plain_class (white_space u) = class.Blank
plain_class (line_terminator u) = class.Blank
plain_class (line_comment body) = class.LineComment
plain_class (block_comment body) = class.BlockComment
plain_class (name parts) = class.Other
plain_class (punctuator text) = class.Other
plain_class (number l) = class.Number
plain_class (string q parts) = class.Quoted

pub own_blank : (us : List ℕ) (e : Element) (u : ℕ) → class_at us ≡ class.Blank → ((e ≡ white_space u) × (is_white_space u ≡ true)) ⊎ ((e ≡ line_terminator u) × (is_line_terminator u ≡ true)) → class_at us ≡ plain_class e
own_blank us e u c (inl h) = c ∙ sym (ap plain_class h.0)
own_blank us e u c (inr h) = c ∙ sym (ap plain_class h.0)

lone_point : class_at (46 ∷ []) ≡ class.Other
lone_point = at_other 46 [] refl quote_not_point (no_point [] none_behind) point_no_blank

lone_slash_class : class_at (47 ∷ []) ≡ class.Other
lone_slash_class = slash_class [] (nothing_begins 47) (nothing_begins 42)

-- where an element stands with nothing behind it
own : (us : List ℕ) (e : Element) → Front us e → us ≡ spelled e → class_at us ≡ plain_class e
unfolding spelled
own us _ (blank e u s c h) w = own_blank us e u c h
own us _ (line body c) w = c
own us _ (block body c) w = c
own us _ (quoted q parts c) w = c
own us _ (a_number l c) w = c
own us _ (a_name parts c) w = c
own us _ (a_punctuator text c) w = c
own us _ (point c) w = ap class_at w ∙ lone_point
own us _ (slash c) w = ap class_at w ∙ lone_slash_class

pub own_class : (e : Element) → IsElement e → class_at (spelled e) ≡ plain_class e
own_class e i = own (spelled e) e (front e (spelled e) [] i (sym (append-nil (spelled e)))) refl
