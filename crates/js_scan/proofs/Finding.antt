-- What was found at the front is the element that stands next.
use Rattle.std.proofs.Common.{◌≡◌, ℕ, zero, suc, ◌+◌, ◌-◌, ◌<◌, ◌≤◌, ◌==◌, Bool, true, false, not, ◌&&◌, ◌||◌, ◌⊎◌, inl, inr, ⊎_elim, List, [], ◌∷◌, ◌++◌, length, take, drop, slice_index_or, refl, sym, ap, subst, ◌∙◌, arith, if◌then◌else◌, ℤ}
use Rattle.std.proofs.lemmas.Bool.{true≢false, false_from_ne_true, and_parts, or_cases, and_left, and_right, eqb-true}
use Rattle.std.proofs.Math.Seq.{take-append_seam}
use Rattle.std.proofs.lemmas.List.{length-take-le, take-append-drop}
use Rattle.js_number.specs.Literal.{spelling, SpellsNumber}
use Rattle.js_number.specs.Profile.{IsProfile}
use Rattle.js_ast.specs.declared.token.TokenKind.{TokenKind}
use Rattle.js_ast.specs.declared.token.TokenKind.TheVariants as kind
use Rattle.js_ast.specs.declared.token.Token.{Token}
use Rattle.js_scan.specs.declared.class.Class.{Class}
use Rattle.js_scan.specs.declared.class.Class.TheVariants as class
use Rattle.js_scan.specs.declared.names.Word.{Word}
use Rattle.js_scan.specs.declared.fault.ScanFault.TheVariants as fault
use Rattle.js_scan.specs.declared.element.Found.{Found}
use Rattle.js_scan.specs.declared.element.Found.TheVariants.{Separator, Lexeme}
use Rattle.js_scan.specs.Units.{is_white_space, is_line_terminator, is_quote, begins_with, begins_with_digit}
use Rattle.js_scan.specs.Names.{NamePart, IsName, BeginsName, spelled_name, name_value, has_escape, is_reserved, word_kind}
use Rattle.js_scan.specs.Strings.{spelled_string}
use Rattle.js_scan.specs.Comments.{begins_comment}
use Rattle.js_scan.specs.Punctuators.{is_punctuator}
use Rattle.js_scan.specs.Elements.{Element, white_space, line_terminator, line_comment, block_comment, name, punctuator, number, string, spelled, IsElement, Stands, Next, is_separator, breaks_line}
use Rattle.js_scan.specs.declared.state.State.{State}
use Rattle.js_scan.specs.Tokens.{IsAccepted, IsBad, no_token, bad_name, bad_number, regular_expression}
use Rattle.js_scan.specs.Found.{begins_number, class_at, FindsName, FindsNumber, FindsPunctuator, FindsLineComment, FindsBlockComment, FindsString, FindsElement}
use Rattle.js_scan.proofs.UnitLaws.{line_terminator_no_white_space, start_no_punctuator, backslash_no_punctuator}
use Rattle.js_scan.proofs.NameLaws.{name_first}
use Rattle.js_scan.proofs.NumberLaws.{number_first}
use Rattle.js_scan.proofs.PunctuatorLaws.{punctuator_not_empty}
use Rattle.js_scan.proofs.Rests.{rest_is, within}
use Rattle.js_scan.proofs.Fronts.{is_blank, Front, blank, line, block, quoted, a_number, a_name, a_punctuator, point, slash, front, plain_class, own_blank, first_is}
use Rattle.js_scan.proofs.Sames.{first_of, spelled_first}

-- what the tests of the first units say of a class
abbrev Tests : Class → Bool → Bool → Bool → Bool → Bool → Type 0
Tests class.LineComment a b c d e = a ≡ true
Tests class.BlockComment a b c d e = b ≡ true
Tests class.Quoted a b c d e = c ≡ true
Tests class.Number a b c d e = d ≡ true
Tests class.Blank a b c d e = e ≡ true
Tests class.Other a b c d e = (a ≡ false) × (b ≡ false) × (c ≡ false)

tested : (a b c d e : Bool) → Tests (if a then class.LineComment else (if b then class.BlockComment else (if c then class.Quoted else (if d then class.Number else (if e then class.Blank else class.Other))))) a b c d e
tested true b c d e = refl
tested false true c d e = refl
tested false false true d e = refl
tested false false false true e = refl
tested false false false false true = refl
tested false false false false false = (refl, refl, refl)

class_tests : (k : Class) (u : ℕ) (us : List ℕ) → class_at (u ∷ us) ≡ k → Tests k (u == 47 && begins_with 47 us) (u == 47 && begins_with 42 us) (is_quote u) (begins_number (u ∷ us)) (is_blank u)
unfolding class_at
class_tests k u us h = subst (λ x. Tests x (u == 47 && begins_with 47 us) (u == 47 && begins_with 42 us) (is_quote u) (begins_number (u ∷ us)) (is_blank u)) h (tested (u == 47 && begins_with 47 us) (u == 47 && begins_with 42 us) (is_quote u) (begins_number (u ∷ us)) (is_blank u))

no_class : class_at [] ≡ class.Other
unfolding class_at
no_class = refl

two_units : (u v : ℕ) (us : List ℕ) → (u == 47 && begins_with v us) ≡ true → (rest : List ℕ) × (u ∷ us ≡ 47 ∷ v ∷ rest)
two_units u v us h =
    let p = and_parts (u == 47) (begins_with v us) h in
    let f = first_is v us p.1 in
    (f.0, ap (λ x. x ∷ us) (eqb-true u 47 p.0) ∙ ap (λ xs. 47 ∷ xs) f.1)

pub line_begins : (us : List ℕ) → class_at us ≡ class.LineComment → (rest : List ℕ) × (us ≡ 47 ∷ 47 ∷ rest)
line_begins [] h = absurd (cc (h, no_class))
line_begins (u ∷ us) h = two_units u 47 us (class_tests class.LineComment u us h)

pub block_begins : (us : List ℕ) → class_at us ≡ class.BlockComment → (rest : List ℕ) × (us ≡ 47 ∷ 42 ∷ rest)
block_begins [] h = absurd (cc (h, no_class))
block_begins (u ∷ us) h = two_units u 42 us (class_tests class.BlockComment u us h)

pub quote_begins : (us : List ℕ) → class_at us ≡ class.Quoted → (quote : ℕ) × (rest : List ℕ) × (us ≡ quote ∷ rest) × (is_quote quote ≡ true)
quote_begins [] h = absurd (cc (h, no_class))
quote_begins (u ∷ us) h = (u, us, refl, class_tests class.Quoted u us h)

pub number_begins : (us : List ℕ) → class_at us ≡ class.Number → begins_number us ≡ true
number_begins [] h = absurd (cc (h, no_class))
number_begins (u ∷ us) h = class_tests class.Number u us h

pub blank_begins : (u : ℕ) (us : List ℕ) → class_at (u ∷ us) ≡ class.Blank → is_blank u ≡ true
blank_begins u us h = class_tests class.Blank u us h

pub blank_some : class_at [] ≡ class.Blank → ⊥
blank_some h = cc (h, no_class)

-- an element is of the class of the units, or has one unit
front_class : (us : List ℕ) (e : Element) → Front us e → (plain_class e ≡ class_at us) ⊎ (length (spelled e) ≡ 1)
unfolding spelled
front_class us _ (blank e u s c h) = inl (sym (own_blank us e u c h))
front_class us _ (line body c) = inl (sym c)
front_class us _ (block body c) = inl (sym c)
front_class us _ (quoted q parts c) = inl (sym c)
front_class us _ (a_number l c) = inl (sym c)
front_class us _ (a_name parts c) = inl (sym c)
front_class us _ (a_punctuator text c) = inl (sym c)
front_class us _ (point c) = inr refl
front_class us _ (slash c) = inr refl

-- none is longer where none of the same class is
longest_by : (us : List ℕ) (n : ℕ) → 1 ≤ n → ((f : Element) (others : List ℕ) → Stands us f others → plain_class f ≡ class_at us → length (spelled f) ≤ n) → (f : Element) (others : List ℕ) → Stands us f others → length (spelled f) ≤ n
longest_by us n some own f others st = ⊎_elim (λ c. own f others st c) (λ c. subst (λ k. k ≤ n) (sym c) some) (front_class us f (front f us others st.0 st.1))

blank_length : (e : Element) → plain_class e ≡ class.Blank → length (spelled e) ≤ 1
unfolding spelled
blank_length (white_space u) h = omega arith
blank_length (line_terminator u) h = omega arith
blank_length _ h = absurd (cc h)

-- a separator of one unit
one_blank : (s : State) (u : ℕ) (us : List ℕ) (e : Element) → class_at (u ∷ us) ≡ class.Blank → IsElement e → spelled e ≡ u ∷ [] → (b : Bool) → breaks_line e ≡ b → is_separator e ≡ true → FindsElement s (u ∷ us) (Separator 1 b)
one_blank s u us e c i w b breaks sep =
    let is_one : length (spelled e) ≡ 1 = ap length w in (
      e,
      record {
        is = i;
        whole = ap (λ xs. xs ++ us) (sym w);
        longest = λ f others st. subst (λ k. length (spelled f) ≤ k) (sym is_one) (longest_by (u ∷ us) 1 (omega arith) (λ g rest t k. blank_length g (k ∙ c)) f others st);
      },
      sep,
      is_one,
      breaks,
    )

pub blank_found : (s : State) (u : ℕ) (us : List ℕ) → class_at (u ∷ us) ≡ class.Blank → FindsElement s (u ∷ us) (Separator 1 (is_line_terminator u))
unfolding spelled IsElement is_separator breaks_line
blank_found s u us c = ⊎_elim
    (λ w. one_blank s u us (white_space u) c w refl (is_line_terminator u) (sym (false_from_ne_true (is_line_terminator u) (λ t. true≢false (sym w ∙ line_terminator_no_white_space u t)))) refl)
    (λ t. one_blank s u us (line_terminator u) c t refl (is_line_terminator u) (sym t) refl)
    (or_cases (is_white_space u) (is_line_terminator u) (blank_begins u us c))

-- the longest of its class, of so many units
next_by : (us : List ℕ) (e : Element) (n : ℕ) → IsElement e → us ≡ spelled e ++ drop n us → length (spelled e) ≡ n → 1 ≤ n → ((f : Element) (others : List ℕ) → Stands us f others → plain_class f ≡ class_at us → length (spelled f) ≤ n) → Next us e (drop n us)
next_by us e n i w l some own = record { is = i; whole = w; longest = λ f others st. subst (λ k. length (spelled f) ≤ k) (sym l) (longest_by us n some own f others st) }

line_longest : (us : List ℕ) (n : ℕ) → FindsLineComment us n → (e : Element) (others : List ℕ) → Stands us e others → plain_class e ≡ class.LineComment → length (spelled e) ≤ n
unfolding spelled IsElement
line_longest us n f (line_comment b) others st h = f.longest b others st.0 st.1
line_longest us n f _ others st h = absurd (cc h)

pub line_found : (s : State) (us : List ℕ) (n : ℕ) → class_at us ≡ class.LineComment → FindsLineComment us n → FindsElement s us (Separator n false)
unfolding spelled IsElement is_separator breaks_line
line_found s us n c f =
    let some : 1 ≤ n = subst (λ k. 1 ≤ k) f.length_is (omega arith) in
    (line_comment f.body, next_by us (line_comment f.body) n f.is f.whole f.length_is some (λ g others st k. line_longest us n f g others st (k ∙ c)), refl, f.length_is, refl)

block_longest : (us : List ℕ) (n : ℕ) (breaks : Bool) → FindsBlockComment us n breaks → (e : Element) (others : List ℕ) → Stands us e others → plain_class e ≡ class.BlockComment → length (spelled e) ≤ n
unfolding spelled IsElement
block_longest us n breaks f (block_comment b) others st h = f.longest b others st.0 st.1
block_longest us n breaks f _ others st h = absurd (cc h)

pub block_found : (s : State) (us : List ℕ) (n : ℕ) (breaks : Bool) → class_at us ≡ class.BlockComment → FindsBlockComment us n breaks → FindsElement s us (Separator n breaks)
unfolding spelled IsElement is_separator breaks_line
block_found s us n breaks c f =
    let some : 1 ≤ n = subst (λ k. 1 ≤ k) f.length_is (omega arith) in
    (block_comment f.body, next_by us (block_comment f.body) n f.is f.whole f.length_is some (λ g others st k. block_longest us n breaks f g others st (k ∙ c)), refl, f.length_is, sym f.breaks_is)

string_longest : (us value : List ℕ) (n : ℕ) → FindsString us value n → (e : Element) (others : List ℕ) → Stands us e others → plain_class e ≡ class.Quoted → length (spelled e) ≤ n
unfolding spelled IsElement
string_longest us value n f (string q parts) others st h = f.longest q parts others st.0.1 st.1
string_longest us value n f _ others st h = absurd (cc h)

string_next : (us value : List ℕ) (n : ℕ) → class_at us ≡ class.Quoted → (f : FindsString us value n) → Next us (string f.quote f.parts) (drop n us)
unfolding spelled IsElement
string_next us value n c f =
    let some : 1 ≤ n = subst (λ k. 1 ≤ k) f.length_is (omega arith) in
    next_by us (string f.quote f.parts) n (f.is_quote, f.is) f.whole f.length_is some (λ g others st k. string_longest us value n f g others st (k ∙ c))

-- a front and its length
front_of : (us w : List ℕ) (n : ℕ) → us ≡ w ++ drop n us → length w ≡ n → take n us ≡ w
front_of us w n h l = ap (take n) h ∙ ap (λ k. take k (w ++ drop n us)) (sym l) ∙ take-append_seam w (drop n us)

-- the token of a lexeme of so many units
made : State → TokenKind → List ℕ → ℕ → Token
made s k text n = record { kind = k; text = text; from = s.at; to = s.at + n; newline = s.newline }

pub string_found : (s : State) (us value : List ℕ) (n : ℕ) (t : Token) → class_at us ≡ class.Quoted → FindsString us value n → t ≡ record { kind = kind.String value; text = take n us; from = s.at; to = s.at + n; newline = s.newline } → FindsElement s us (Lexeme t)
unfolding spelled IsAccepted
string_found s us value n t c f h =
    let w : take n us ≡ spelled_string f.quote f.parts = front_of us (spelled_string f.quote f.parts) n f.whole f.length_is in (
      string f.quote f.parts,
      drop n us,
      kind.String value,
      string_next us value n c f,
      ap kind.String f.value_is,
      h ∙ ap (λ x. record { kind = kind.String value; text = x; from = s.at; to = s.at + n; newline = s.newline }) w ∙ ap (λ x. record { kind = kind.String value; text = spelled_string f.quote f.parts; from = s.at; to = s.at + x; newline = s.newline }) (sym f.length_is),
    )

number_longest : (us : List ℕ) (n : ℕ) → FindsNumber us n → (e : Element) (others : List ℕ) → Stands us e others → plain_class e ≡ class.Number → length (spelled e) ≤ n
unfolding spelled IsElement
number_longest us n f (number l) others st h = f.longest l others st.0 st.1
number_longest us n f _ others st h = absurd (cc h)

number_next : (us : List ℕ) (n : ℕ) → class_at us ≡ class.Number → (f : FindsNumber us n) → Next us (number f.literal) (drop n us)
unfolding spelled IsElement
number_next us n c f =
    let first = number_first f.literal f.is in
    let some : 1 ≤ n = subst (λ k. 1 ≤ k) (sym (ap length first.2) ∙ f.length_is) (omega arith) in
    next_by us (number f.literal) n f.is f.whole f.length_is some (λ g others st k. number_longest us n f g others st (k ∙ c))

pub number_found : (s : State) (us : List ℕ) (n : ℕ) (v : ℤ) (t : Token) → class_at us ≡ class.Number → FindsNumber us n → IsProfile v → SpellsNumber (take n us) v → begins_with_digit (drop n us) ≡ false → (BeginsName (drop n us) → ⊥)
    → t ≡ record { kind = kind.Number v; text = take n us; from = s.at; to = s.at + n; newline = s.newline } → FindsElement s us (Lexeme t)
unfolding spelled IsAccepted
number_found s us n v t c f profile value no_digit no_name h =
    let w : take n us ≡ spelling f.literal = front_of us (spelling f.literal) n f.whole f.length_is in (
      number f.literal,
      drop n us,
      kind.Number v,
      number_next us n c f,
      (v, profile, subst (λ x. SpellsNumber x v) w value, no_digit, no_name, refl),
      h ∙ ap (λ x. record { kind = kind.Number v; text = x; from = s.at; to = s.at + n; newline = s.newline }) w ∙ ap (λ x. record { kind = kind.Number v; text = spelling f.literal; from = s.at; to = s.at + x; newline = s.newline }) (sym f.length_is),
    )

-- a number that isn't accepted, by what stands behind it or by its value
number_fault : (s : State) (us : List ℕ) (n : ℕ) → class_at us ≡ class.Number → (f : FindsNumber us n) → ((k : TokenKind) → IsAccepted s (number f.literal) (drop n us) k → ⊥) → IsBad s us (fault.NumberLiteral s.at)
number_fault s us n c f none = bad_number s.at (f.literal, drop n us, number_next us n c f, none) refl

pub number_digit : (s : State) (us : List ℕ) (n : ℕ) → class_at us ≡ class.Number → FindsNumber us n → begins_with_digit (drop n us) ≡ true → IsBad s us (fault.NumberLiteral s.at)
unfolding IsAccepted
number_digit s us n c f h = number_fault s us n c f (λ k a. true≢false (sym h ∙ a.3))

pub number_name : (s : State) (us : List ℕ) (n : ℕ) → class_at us ≡ class.Number → FindsNumber us n → BeginsName (drop n us) → IsBad s us (fault.NumberLiteral s.at)
unfolding IsAccepted
number_name s us n c f h = number_fault s us n c f (λ k a. a.4 h)

pub number_value : (s : State) (us : List ℕ) (n : ℕ) → class_at us ≡ class.Number → FindsNumber us n → ((v : ℤ) → IsProfile v × SpellsNumber (take n us) v → ⊥) → IsBad s us (fault.NumberLiteral s.at)
unfolding IsAccepted
number_value s us n c f h =
    let w : take n us ≡ spelling f.literal = front_of us (spelling f.literal) n f.whole f.length_is in
    number_fault s us n c f (λ k a. h a.0 (a.1, subst (λ x. SpellsNumber x a.0) (sym w) a.2))

no_punctuator_at : (us : List ℕ) (parts : List NamePart) (rest text others : List ℕ) → IsName parts → us ≡ spelled_name parts ++ rest → is_punctuator text ≡ true → us ≡ text ++ others → ⊥
no_punctuator_at us parts rest [] others n w p v = true≢false (sym p ∙ punctuator_not_empty)
no_punctuator_at us parts rest (u ∷ text) others n w p v =
    let f = name_first parts n in
    let e : u ≡ f.0 = first_of u f.0 (text ++ others) (f.1 ++ rest) (sym v ∙ w ∙ ap (λ x. x ++ rest) f.2) in
    true≢false (sym p ∙ ap (λ x. is_punctuator (x ∷ text)) e ∙ ⊎_elim (λ b. ap (λ x. is_punctuator (x ∷ text)) b.0 ∙ backslash_no_punctuator text) (λ b. start_no_punctuator f.0 text b) f.3)

-- names
other_name : (us : List ℕ) (word : Word) → FindsName us word → (e : Element) (others : List ℕ) → Stands us e others → plain_class e ≡ class.Other → length (spelled e) ≤ word.length
unfolding spelled IsElement
other_name us word f (name parts) others st h = f.longest parts others st.0 st.1
other_name us word f (punctuator text) others st h = absurd (no_punctuator_at us f.parts (drop word.length us) text others f.is f.whole st.0 st.1)
other_name us word f _ others st h = absurd (cc h)

name_some : (us : List ℕ) (word : Word) → FindsName us word → 1 ≤ word.length
name_some us word f = let g = name_first f.parts f.is in subst (λ k. 1 ≤ k) (sym (ap length g.2) ∙ f.length_is) (omega arith)

name_next : (us : List ℕ) (word : Word) → class_at us ≡ class.Other → (f : FindsName us word) → Next us (name f.parts) (drop word.length us)
unfolding spelled IsElement
name_next us word c f = next_by us (name f.parts) word.length f.is f.whole f.length_is (name_some us word f) (λ g others st k. other_name us word f g others st (k ∙ c))

pub name_found : (s : State) (us : List ℕ) (word : Word) (t : Token) → class_at us ≡ class.Other → FindsName us word → begins_with 92 (drop word.length us) ≡ false → (word.escaped && is_reserved word.text) ≡ false
    → t ≡ record { kind = word_kind word.text; text = word.text; from = s.at; to = s.at + word.length; newline = s.newline } → FindsElement s us (Lexeme t)
unfolding spelled IsAccepted
name_found s us word t c f no_backslash good h = (
  name f.parts,
  drop word.length us,
  word_kind (name_value f.parts),
  name_next us word c f,
  (no_backslash, ap (λ x. x && is_reserved (name_value f.parts)) (sym f.escaped) ∙ ap (λ x. word.escaped && is_reserved x) (sym f.text) ∙ good, refl),
  h ∙ ap (λ x. record { kind = word_kind x; text = x; from = s.at; to = s.at + word.length; newline = s.newline }) f.text ∙ ap (λ x. record { kind = word_kind (name_value f.parts); text = name_value f.parts; from = s.at; to = s.at + x; newline = s.newline }) (sym f.length_is),
)

-- a name that isn't accepted
name_fault : (s : State) (us : List ℕ) (word : Word) (at : ℕ) → class_at us ≡ class.Other → (f : FindsName us word) → ((k : TokenKind) → IsAccepted s (name f.parts) (drop word.length us) k → ⊥)
    → at ≡ (if begins_with 92 (drop word.length us) then word.length else 0) → IsBad s us (fault.BadToken (s.at + at))
unfolding spelled
name_fault s us word at c f none h =
    bad_name (s.at + at) at (f.parts, drop word.length us, name_next us word c f, none, h ∙ ap (λ x. if begins_with 92 (drop word.length us) then x else 0) (sym f.length_is)) refl

pub name_backslash : (s : State) (us : List ℕ) (word : Word) → class_at us ≡ class.Other → FindsName us word → begins_with 92 (drop word.length us) ≡ true → IsBad s us (fault.BadToken (s.at + word.length))
unfolding IsAccepted
name_backslash s us word c f h = name_fault s us word word.length c f (λ k a. true≢false (sym h ∙ a.0)) (sym (ap (λ b. if b then word.length else 0) h))

pub name_reserved : (s : State) (us : List ℕ) (word : Word) → class_at us ≡ class.Other → FindsName us word → begins_with 92 (drop word.length us) ≡ false → (word.escaped && is_reserved word.text) ≡ true → IsBad s us (fault.BadToken s.at)
unfolding IsAccepted
name_reserved s us word c f h bad =
    let again : (has_escape f.parts && is_reserved (name_value f.parts)) ≡ true = ap (λ x. x && is_reserved (name_value f.parts)) (sym f.escaped) ∙ ap (λ x. word.escaped && is_reserved x) (sym f.text) ∙ bad in
    subst (λ x. IsBad s us (fault.BadToken x)) (let e : s.at + 0 ≡ s.at = omega arith in e) (name_fault s us word 0 c f (λ k a. true≢false (sym again ∙ a.1)) (sym (ap (λ b. if b then word.length else 0) h)))

-- punctuators
other_punctuator : (us : List ℕ) (n : ℕ) → (BeginsName us → ⊥) → FindsPunctuator us n → (e : Element) (others : List ℕ) → Stands us e others → plain_class e ≡ class.Other → length (spelled e) ≤ n
unfolding spelled IsElement
other_punctuator us n none f (name parts) others st h = absurd (none (parts, others, st.0, st.1))
other_punctuator us n none f (punctuator text) others st h = f.longest text others st.0 st.1
other_punctuator us n none f _ others st h = absurd (cc h)

punctuator_next : (us : List ℕ) (n : ℕ) → class_at us ≡ class.Other → (BeginsName us → ⊥) → FindsPunctuator us n → 0 < n → Next us (punctuator (take n us)) (drop n us)
unfolding spelled IsElement
punctuator_next us n c none f some = next_by us (punctuator (take n us)) n (f.is some) (sym (take-append-drop n us)) (length-take-le n us f.within) (omega arith) (λ g others st k. other_punctuator us n none f g others st (k ∙ c))

no_second : (a b c : Bool) → (a && b) ≡ false → (a && c) ≡ false → (a && (b || c)) ≡ false
no_second true true c h g = h
no_second true false c h g = g
no_second false b c h g = refl

-- no comment begins at units of this class
no_comment_at : (us : List ℕ) → class_at us ≡ class.Other → begins_comment us ≡ false
unfolding begins_comment
no_comment_at [] c = refl
no_comment_at (u ∷ us) c = let t = class_tests class.Other u us c in no_second (u == 47) (begins_with 47 us) (begins_with 42 us) t.0 t.1

front_begins : (v n : ℕ) (us : List ℕ) → 0 < n → begins_with v (take n us) ≡ begins_with v us
unfolding begins_with
front_begins v zero us some = absurd (omega arith)
front_begins v (suc n) [] some = refl
front_begins v (suc n) (u ∷ us) some = refl

divided : (a d c : Bool) → (a && not d) ≡ false → c ≡ false → (not a || (d && not c)) ≡ true
divided true true c h e = ap not e
divided true false c h e = absurd (true≢false h)
divided false d c h e = refl

pub punctuator_found : (s : State) (us : List ℕ) (n : ℕ) (t : Token) → class_at us ≡ class.Other → (BeginsName us → ⊥) → FindsPunctuator us n → 0 < n → (begins_with 47 us && not s.divides) ≡ false
    → t ≡ record { kind = kind.Punctuator; text = take n us; from = s.at; to = s.at + n; newline = s.newline } → FindsElement s us (Lexeme t)
unfolding spelled IsAccepted
punctuator_found s us n t c none f some divides h =
    let whole : take n us ++ drop n us ≡ us = take-append-drop n us in
    let no_comment : begins_comment (take n us ++ drop n us) ≡ false = ap begins_comment whole ∙ no_comment_at us c in (
      punctuator (take n us),
      drop n us,
      kind.Punctuator,
      punctuator_next us n c none f some,
      (divided (begins_with 47 (take n us)) s.divides (begins_comment (take n us ++ drop n us)) (ap (λ b. b && not s.divides) (front_begins 47 n us some) ∙ divides) no_comment, refl),
      h ∙ ap (λ x. record { kind = kind.Punctuator; text = take n us; from = s.at; to = s.at + x; newline = s.newline }) (sym (length-take-le n us f.within)),
    )

pub expression_fault : (s : State) (us : List ℕ) → class_at us ≡ class.Other → begins_with 47 us ≡ true → s.divides ≡ false → IsBad s us (fault.RegExpLiteral s.at)
expression_fault s us c b d = regular_expression s.at b (no_comment_at us c) d refl

other_only : (us : List ℕ) (e : Element) → Front us e → class_at us ≡ class.Other → plain_class e ≡ class.Other
other_only us _ (blank e u s c h) o = absurd (cc (c, o))
other_only us _ (line body c) o = absurd (cc (c, o))
other_only us _ (block body c) o = absurd (cc (c, o))
other_only us _ (quoted q parts c) o = absurd (cc (c, o))
other_only us _ (a_number l c) o = absurd (cc (c, o))
other_only us _ (a_name parts c) o = refl
other_only us _ (a_punctuator text c) o = refl
other_only us _ (point c) o = refl
other_only us _ (slash c) o = refl

not_short : (u : ℕ) (us w : List ℕ) → w ≡ u ∷ us → length w ≤ 0 → ⊥
not_short u us w h l = let k : length (u ∷ us) ≤ 0 = subst (λ x. length x ≤ 0) h l in omega arith

pub none_fault : (s : State) (u : ℕ) (us : List ℕ) → class_at (u ∷ us) ≡ class.Other → (BeginsName (u ∷ us) → ⊥) → FindsPunctuator (u ∷ us) 0 → IsBad s (u ∷ us) (fault.BadToken s.at)
none_fault s u us c none f =
    no_token s.at (
      u,
      us,
      refl,
      (class_tests class.Other u us c).2,
      λ e others st.
          let g = spelled_first e st.0 in
          not_short g.0 g.1 (spelled e) g.2 (other_punctuator (u ∷ us) 0 none f e others st (other_only (u ∷ us) e (front e (u ∷ us) others st.0 st.1) c)),
    ) refl

-- the same, as the code states it
pub blank_none : (us : List ℕ) → class_at us ≡ class.Blank → length us < 1 → ⊥
blank_none [] c h = blank_some c
blank_none (u ∷ us) c h = omega arith

pub blank_found_at : (s : State) (us : List ℕ) (b : Bool) → class_at us ≡ class.Blank → 1 ≤ length us → b ≡ is_line_terminator (slice_index_or us 0 0) → FindsElement s us (Separator 1 b)
blank_found_at s [] b c l h = absurd (omega arith)
blank_found_at s (u ∷ us) b c l h = subst (λ x. FindsElement s (u ∷ us) (Separator 1 x)) (sym h) (blank_found s u us c)

pub string_found_at : (s : State) (us value : List ℕ) (n : ℕ) (text : List ℕ) (found : Found) → class_at us ≡ class.Quoted → FindsString us value n → text ≡ take n us
    → found ≡ Lexeme (record { kind = kind.String value; text = text; from = s.at; to = s.at + n; newline = s.newline }) → FindsElement s us found
string_found_at s us value n text found c f t h =
    subst (λ x. FindsElement s us x) (sym h) (string_found s us value n _ c f (ap (λ x. record { kind = kind.String value; text = x; from = s.at; to = s.at + n; newline = s.newline }) t))

pub number_rest : (us : List ℕ) (n : ℕ) → FindsNumber us n → take (length us - n) (drop n us) ≡ drop n us
number_rest us n f = rest_is n us (within n us (spelling f.literal) f.whole f.length_is)

pub number_found_at : (s : State) (us : List ℕ) (n : ℕ) (v : ℤ) (text : List ℕ) (found : Found) → class_at us ≡ class.Number → FindsNumber us n → IsProfile v → SpellsNumber text v → text ≡ take n us
    → begins_with_digit (drop n us) ≡ false → (BeginsName (drop n us) → ⊥) → found ≡ Lexeme (record { kind = kind.Number v; text = text; from = s.at; to = s.at + n; newline = s.newline }) → FindsElement s us found
number_found_at s us n v text found c f profile value t no_digit no_name h =
    subst (λ x. FindsElement s us x) (sym h) (number_found s us n v _ c f profile (subst (λ x. SpellsNumber x v) t value) no_digit no_name (ap (λ x. record { kind = kind.Number v; text = x; from = s.at; to = s.at + n; newline = s.newline }) t))

pub name_rest : (us : List ℕ) (word : Word) → FindsName us word → take (length us - word.length) (drop word.length us) ≡ drop word.length us
name_rest us word f = rest_is word.length us (within word.length us (spelled_name f.parts) f.whole f.length_is)

pub not_reserved : (a b : Bool) → ((a ≡ true) × (b ≡ false)) ⊎ (a ≡ false) → (a && b) ≡ false
not_reserved a b (inl h) = and_right a b h.1
not_reserved a b (inr h) = and_left a b h

pub name_found_at : (s : State) (us : List ℕ) (word : Word) (k : TokenKind) (found : Found) → class_at us ≡ class.Other → FindsName us word → begins_with 92 (drop word.length us) ≡ false → (word.escaped && is_reserved word.text) ≡ false → k ≡ word_kind word.text
    → found ≡ Lexeme (record { kind = k; text = word.text; from = s.at; to = s.at + word.length; newline = s.newline }) → FindsElement s us found
name_found_at s us word k found c f no_backslash good kind_is h =
    subst (λ x. FindsElement s us x) (sym h) (name_found s us word _ c f no_backslash good (ap (λ x. record { kind = x; text = word.text; from = s.at; to = s.at + word.length; newline = s.newline }) kind_is))

pub kind_of_reserved : (text : List ℕ) → is_reserved text ≡ true → kind.Reserved ≡ word_kind text
kind_of_reserved text h = sym (ap (λ b. if b then kind.Reserved else kind.Name) h)

pub kind_of_name : (text : List ℕ) → is_reserved text ≡ false → kind.Name ≡ word_kind text
kind_of_name text h = sym (ap (λ b. if b then kind.Reserved else kind.Name) h)

pub none_fault_at : (s : State) (us : List ℕ) (n : ℕ) → class_at us ≡ class.Other → (BeginsName us → ⊥) → 0 < length us → FindsPunctuator us n → n ≡ 0 → IsBad s us (fault.BadToken s.at)
none_fault_at s [] n c none l f h = absurd (omega arith)
none_fault_at s (u ∷ us) n c none l f h = none_fault s u us c none (subst (λ k. FindsPunctuator (u ∷ us) k) h f)

pub positive : (n : ℕ) → (n ≡ 0 → ⊥) → 0 < n
positive zero h = absurd (h refl)
positive (suc n) h = omega arith

pub punctuator_found_at : (s : State) (us : List ℕ) (n : ℕ) (text : List ℕ) (found : Found) → class_at us ≡ class.Other → (BeginsName us → ⊥) → FindsPunctuator us n → (n ≡ 0 → ⊥) → (begins_with 47 us && not s.divides) ≡ false → text ≡ take n us
    → found ≡ Lexeme (record { kind = kind.Punctuator; text = text; from = s.at; to = s.at + n; newline = s.newline }) → FindsElement s us found
punctuator_found_at s us n text found c none f some divides t h =
    subst (λ x. FindsElement s us x) (sym h) (punctuator_found s us n _ c none f (positive n some) divides (ap (λ x. record { kind = kind.Punctuator; text = x; from = s.at; to = s.at + n; newline = s.newline }) t))
