-- Where a lexeme is bad nothing can be taken, and it has one fault.
use Rattle.std.proofs.Common.{◌≡◌, ℕ, ◌+◌, ◌==◌, Bool, true, false, not, ◌&&◌, ◌||◌, inl, inr, ⊎_elim, List, [], ◌∷◌, ◌++◌, length, append_assoc, refl, sym, ap, subst, ◌∙◌, if◌then◌else◌}
use Rattle.std.specs.Char.{is_digit}
use Rattle.std.proofs.lemmas.Bool.{true≢false, false_from_ne_true, or_parts, eqb-true}
use Rattle.js_number.specs.Literal.{Literal, spelling}
use Rattle.js_ast.specs.declared.token.TokenKind.{TokenKind}
use Rattle.js_scan.specs.declared.class.Class.TheVariants as class
use Rattle.js_scan.specs.declared.fault.ScanFault.{ScanFault}
use Rattle.js_scan.specs.declared.fault.ScanFault.TheVariants as fault
use Rattle.js_scan.specs.Units.{is_quote, begins_with}
use Rattle.js_scan.specs.Names.{NamePart, IsName, spelled_name}
use Rattle.js_scan.specs.Strings.{StringPart, AreStringParts, IsString, spelled_string_parts, ends_open}
use Rattle.js_scan.specs.Comments.{has_close, begins_comment}
use Rattle.js_scan.specs.Punctuators.{is_punctuator}
use Rattle.js_scan.specs.Elements.{Element, block_comment, name, punctuator, number, string, spelled, IsElement, Stands, Next, is_separator}
use Rattle.js_scan.specs.declared.state.State.{State}
use Rattle.js_scan.specs.Tokens.{IsAccepted, BeginsNone, IsBad, no_token, bad_name, bad_escape, open_comment, open_string, regular_expression, bad_number}
use Rattle.js_scan.specs.Found.{class_at}
use Rattle.js_scan.proofs.UnitLaws.{start_other}
use Rattle.js_scan.proofs.NameLaws.{name_first}
use Rattle.js_scan.proofs.NumberLaws.{number_first}
use Rattle.js_scan.proofs.StringLaws.{Stopped, one_cut, quote_stops, open_stops, bad_stops, string_before, open_not_quote, bad_not_open, bad_not_quote}
use Rattle.js_scan.proofs.CommentLaws.{open_has_none}
use Rattle.js_scan.proofs.PunctuatorLaws.{slash_punctuator}
use Rattle.js_scan.proofs.Fronts.{Front, blank, line, block, quoted, a_number, a_name, a_punctuator, point, slash, front, at_quote, none_of, slash_no_quote, slash_class, block_class, plain_class, first_is, quote_not_backslash, quote_not_point, no_quote_digit}
use Rattle.js_scan.proofs.Sames.{Same, one, numbers, one_next, first_of, rest_of}
use Rattle.js_scan.proofs.Readings.{Stuck, accepted_alike, number_is_lexeme}

-- an element stands next that is no separator and isn't accepted
refused_by : (s : State) (e f : Element) (rest : List ℕ) → Same e f → is_separator e ≡ false → ((k : TokenKind) → IsAccepted s e rest k → ⊥) → (is_separator f ≡ true → ⊥) × ((k : TokenKind) → IsAccepted s f rest k → ⊥)
refused_by s _ _ rest (one e) h no_kind = (λ g. true≢false (sym g ∙ h), no_kind)
refused_by s _ _ rest (numbers l m g) h no_kind = (λ t. true≢false (sym t ∙ number_is_lexeme m), λ k a. no_kind k (accepted_alike s m l rest k (sym g) a))

refused : (s : State) (us : List ℕ) (e : Element) (rest : List ℕ) → Next us e rest → is_separator e ≡ false → ((k : TokenKind) → IsAccepted s e rest k → ⊥) → Stuck s us
refused s us e rest n h no_kind = (
  λ f behind m g. let a = one_next us e f rest behind n m in (refused_by s e f rest a.same h no_kind).0 g,
  λ f behind k m b. let a = one_next us e f rest behind n m in (refused_by s e f rest a.same h no_kind).1 k (subst (λ x. IsAccepted s f x k) (sym a.same_rest) b),
)

name_is_lexeme : (parts : List NamePart) → is_separator (name parts) ≡ false
unfolding is_separator
name_is_lexeme parts = refl

punctuator_is_lexeme : (text : List ℕ) → is_separator (punctuator text) ≡ false
unfolding is_separator
punctuator_is_lexeme text = refl

-- the strings among the elements
pub record AString (e : Element) : Type 0 where
  quote : ℕ
  parts : List StringPart
  is : e ≡ string quote parts

quoted_front : (us : List ℕ) (e : Element) → Front us e → class_at us ≡ class.Quoted → AString e
quoted_front us _ (blank e u s c h) q = absurd (cc (c, q))
quoted_front us _ (line body c) q = absurd (cc (c, q))
quoted_front us _ (block body c) q = absurd (cc (c, q))
quoted_front us _ (quoted r parts c) q = record { quote = r; parts = parts; is = refl }
quoted_front us _ (a_number l c) q = absurd (cc (c, q))
quoted_front us _ (a_name parts c) q = absurd (cc (c, q))
quoted_front us _ (a_punctuator text c) q = absurd (cc (c, q))
quoted_front us _ (point c) q = absurd (cc (c, q))
quoted_front us _ (slash (inl c)) q = absurd (cc (c, q))
quoted_front us _ (slash (inr c)) q = absurd (cc (c, q))

quote_class : (quote : ℕ) (us : List ℕ) → is_quote quote ≡ true → class_at (quote ∷ us) ≡ class.Quoted
quote_class quote us a = at_quote quote us (none_of is_quote quote 47 a slash_no_quote) a

-- a string stands at the front, so what stopped its parts is its quote
string_ends : (quote q : ℕ) (parts ps : List StringPart) (rest behind : List ℕ) → is_quote quote ≡ true → AreStringParts quote parts rest → Stopped quote rest → IsElement (string q ps) → quote ∷ (spelled_string_parts parts ++ rest) ≡ spelled (string q ps) ++ behind → rest ≡ quote ∷ behind
unfolding spelled IsElement
string_ends quote q parts ps rest behind a p stopped i h =
    let e : quote ≡ q = first_of quote q _ _ h in
    let i' : IsString quote ps = subst (λ x. IsString x ps) (sym e) i.1 in
    let g : spelled_string_parts parts ++ rest ≡ spelled_string_parts ps ++ (quote ∷ behind) =
    rest_of quote q _ _ h ∙ append_assoc (spelled_string_parts ps) (q ∷ []) behind ∙ ap (λ x. spelled_string_parts ps ++ (x ∷ behind)) (sym e) in
    (one_cut quote parts ps rest (quote ∷ behind) p (string_before quote ps behind a i') g stopped (quote_stops quote behind a)).1

no_string : (us : List ℕ) (quote : ℕ) (parts : List StringPart) (rest : List ℕ) → is_quote quote ≡ true → us ≡ quote ∷ (spelled_string_parts parts ++ rest) → AreStringParts quote parts rest → Stopped quote rest
    → ((others : List ℕ) → rest ≡ quote ∷ others → ⊥) → (e : Element) (behind : List ℕ) → Next us e behind → ⊥
no_string us quote parts rest a w p stopped none e behind n =
    let q = quoted_front us e (front e us behind n.is n.whole) (ap class_at w ∙ quote_class quote (spelled_string_parts parts ++ rest) a) in
    let i : IsElement (string q.quote q.parts) = subst IsElement q.is n.is in
    none behind (string_ends quote q.quote parts q.parts rest behind a p stopped i (sym w ∙ n.whole ∙ ap (λ x. spelled x ++ behind) q.is))

stuck_by : (s : State) (us : List ℕ) → ((e : Element) (behind : List ℕ) → Next us e behind → ⊥) → Stuck s us
stuck_by s us none = (λ e behind n h. none e behind n, λ e behind k n a. none e behind n)

-- a comment without an end
open_block : (us : List ℕ) (body : List ℕ) (b : List ℕ) (behind : List ℕ) → us ≡ 47 ∷ 42 ∷ body → has_close body ≡ false → us ≡ spelled (block_comment b) ++ behind → ⊥
unfolding spelled
open_block us body b behind w none h =
    let g : body ≡ b ++ (42 ∷ 47 ∷ behind) = rest_of 42 42 _ _ (rest_of 47 47 _ _ (sym w ∙ h)) ∙ append_assoc b (42 ∷ 47 ∷ []) behind in
    true≢false (sym (open_has_none b behind) ∙ ap has_close (sym g) ∙ none)

opens : (body : List ℕ) → begins_comment (47 ∷ 42 ∷ body) ≡ true
unfolding begins_comment begins_with
opens body = refl

-- a `/` at which a comment begins, or that doesn't divide, is no lexeme
no_slash : (s : State) (text rest : List ℕ) (k : TokenKind) → begins_with 47 text ≡ true → (s.divides && not (begins_comment (text ++ rest))) ≡ false → IsAccepted s (punctuator text) rest k → ⊥
unfolding IsAccepted
no_slash s text rest k b h a = true≢false (sym a.0 ∙ ap (λ x. not x || (s.divides && not (begins_comment (text ++ rest)))) b ∙ h)

slash_begins : begins_with 47 (47 ∷ []) ≡ true
unfolding begins_with
slash_begins = refl

not_both : (d b : Bool) → b ≡ true → (d && not b) ≡ false
not_both true b h = ap not h
not_both false b h = refl

comment_stuck_at : (s : State) (us body : List ℕ) (e : Element) (behind : List ℕ) → us ≡ 47 ∷ 42 ∷ body → has_close body ≡ false → us ≡ spelled e ++ behind → class_at us ≡ class.BlockComment → Front us e → (is_separator e ≡ true → ⊥) × ((k : TokenKind) → IsAccepted s e behind k → ⊥)
unfolding spelled
comment_stuck_at s us body _ behind w none h q (blank e u g c i) = absurd (cc (c, q))
comment_stuck_at s us body _ behind w none h q (line b c) = absurd (cc (c, q))
comment_stuck_at s us body _ behind w none h q (block b c) = absurd (open_block us body b behind w none h)
comment_stuck_at s us body _ behind w none h q (quoted r parts c) = absurd (cc (c, q))
comment_stuck_at s us body _ behind w none h q (a_number l c) = absurd (cc (c, q))
comment_stuck_at s us body _ behind w none h q (a_name parts c) = absurd (cc (c, q))
comment_stuck_at s us body _ behind w none h q (a_punctuator text c) = absurd (cc (c, q))
comment_stuck_at s us body _ behind w none h q (point c) = absurd (cc (c, q))
comment_stuck_at s us body _ behind w none h q (slash c) = (
  λ g. true≢false (sym g ∙ punctuator_is_lexeme (47 ∷ [])),
  λ k a. no_slash s (47 ∷ []) behind k slash_begins (not_both s.divides (begins_comment (47 ∷ behind)) (ap begins_comment (sym h ∙ w) ∙ opens body)) a,
)

comment_stuck : (s : State) (us body : List ℕ) → us ≡ 47 ∷ 42 ∷ body → has_close body ≡ false → Stuck s us
comment_stuck s us body w none =
    let at : (e : Element) (behind : List ℕ) → Next us e behind → (is_separator e ≡ true → ⊥) × ((k : TokenKind) → IsAccepted s e behind k → ⊥) =
    λ e behind n. comment_stuck_at s us body e behind w none n.whole (ap class_at w ∙ block_class body) (front e us behind n.is n.whole) in
    (λ e behind n h. (at e behind n).0 h, λ e behind k n a. (at e behind n).1 k a)

-- a literal of a regular expression
no_comment : (us : List ℕ) → begins_comment (47 ∷ us) ≡ false → (begins_with 47 us ≡ false) × (begins_with 42 us ≡ false)
unfolding begins_comment
no_comment us h = or_parts (begins_with 47 us) (begins_with 42 us) h

name_no_slash : (parts : List NamePart) (rest us : List ℕ) → IsName parts → spelled_name parts ++ rest ≡ 47 ∷ us → ⊥
name_no_slash parts rest us n h =
    let f = name_first parts n in
    let e : f.0 ≡ 47 = first_of f.0 47 (f.1 ++ rest) us (ap (λ x. x ++ rest) (sym f.2) ∙ h) in
    ⊎_elim (λ b. let g : 92 ≡ 47 = sym b.0 ∙ e in cc g) (λ b. true≢false (sym (ap (λ x. x == 47) e) ∙ (start_other f.0 b).5)) f.3

text_begins : (text rest us : List ℕ) → is_punctuator text ≡ true → text ++ rest ≡ 47 ∷ us → begins_with 47 text ≡ true
unfolding begins_with is_punctuator
text_begins [] rest us p h = cc p
text_begins (u ∷ text) rest us p h = ap (λ x. x == 47) (first_of u 47 (text ++ rest) us h)

expression_stuck_at : (s : State) (us rest : List ℕ) (e : Element) (behind : List ℕ) → us ≡ 47 ∷ rest → s.divides ≡ false → IsElement e → us ≡ spelled e ++ behind → class_at us ≡ class.Other → Front us e → (is_separator e ≡ true → ⊥) × ((k : TokenKind) → IsAccepted s e behind k → ⊥)
unfolding spelled IsElement
expression_stuck_at s us rest _ behind w d i h q (blank e u g c j) = absurd (cc (c, q))
expression_stuck_at s us rest _ behind w d i h q (line b c) = absurd (cc (c, q))
expression_stuck_at s us rest _ behind w d i h q (block b c) = absurd (cc (c, q))
expression_stuck_at s us rest _ behind w d i h q (quoted r parts c) = absurd (cc (c, q))
expression_stuck_at s us rest _ behind w d i h q (a_number l c) = absurd (cc (c, q))
expression_stuck_at s us rest _ behind w d i h q (a_name parts c) = absurd (name_no_slash parts behind rest i (sym h ∙ w))
expression_stuck_at s us rest _ behind w d i h q (a_punctuator text c) = (
  λ g. true≢false (sym g ∙ punctuator_is_lexeme text),
  λ k a. no_slash s text behind k (text_begins text behind rest i (sym h ∙ w)) (ap (λ x. x && not (begins_comment (text ++ behind))) d) a,
)
expression_stuck_at s us rest _ behind w d i h q (point c) = absurd (cc (c, q))
expression_stuck_at s us rest _ behind w d i h q (slash (inl c)) = absurd (cc (c, q))
expression_stuck_at s us rest _ behind w d i h q (slash (inr c)) = absurd (cc (c, q))

expression_stuck : (s : State) (us : List ℕ) → begins_with 47 us ≡ true → begins_comment us ≡ false → s.divides ≡ false → Stuck s us
expression_stuck s us b none d =
    let f = first_is 47 us b in
    let g = no_comment f.0 (ap begins_comment (sym f.1) ∙ none) in
    let at : (e : Element) (behind : List ℕ) → Next us e behind → (is_separator e ≡ true → ⊥) × ((k : TokenKind) → IsAccepted s e behind k → ⊥) =
    λ e behind n. expression_stuck_at s us f.0 e behind f.1 d n.is n.whole (ap class_at f.1 ∙ slash_class f.0 g.0 g.1) (front e us behind n.is n.whole) in
    (λ e behind n h. (at e behind n).0 h, λ e behind k n a. (at e behind n).1 k a)

-- where a lexeme is bad nothing can be taken
pub bad_stuck : (s : State) (us : List ℕ) (f : ScanFault) → IsBad s us f → Stuck s us
bad_stuck s us _ (no_token at b e) = stuck_by s us (λ e behind n. b.4 e behind (n.is, n.whole))
bad_stuck s us _ (bad_name at behind h e) = refused s us (name h.0) h.1 h.2 (name_is_lexeme h.0) h.3
bad_stuck s us _ (bad_escape at behind h e) = stuck_by s us (no_string us h.0 h.1 h.2 h.3 h.4 h.5 (bad_stops h.0 h.2 h.6) (λ others g. bad_not_quote h.0 h.2 others h.3 h.6 g))
bad_stuck s us _ (open_comment at h e) = comment_stuck s us h.0 h.1 h.2
bad_stuck s us _ (open_string at h e) = stuck_by s us (no_string us h.0 h.1 h.2 h.3 h.4 h.5 (open_stops h.0 h.2 h.6) (λ others g. true≢false (sym h.6 ∙ ap ends_open g ∙ open_not_quote h.0 others h.3)))
bad_stuck s us _ (regular_expression at b none d e) = expression_stuck s us b none d
bad_stuck s us _ (bad_number at h e) = refused s us (number h.0) h.1 h.2 (number_is_lexeme h.0) h.3

-- which unit a bad lexeme begins with
data Begins : Type 0 where
  quote : Begins
  a_slash : Begins
  another : Begins
  nothing_first : Begins

begins_of : List ℕ → Begins
begins_of [] = nothing_first
begins_of (u ∷ us) = if is_quote u then quote else (if u == 47 then a_slash else another)

abbrev begins_by : {s : State} {us : List ℕ} {f : ScanFault} → IsBad s us f → Begins
begins_by (no_token at b e) = another
begins_by (bad_name at behind h e) = another
begins_by (bad_escape at behind h e) = quote
begins_by (open_comment at h e) = a_slash
begins_by (open_string at h e) = quote
begins_by (regular_expression at b none d e) = a_slash
begins_by (bad_number at h e) = another

another_first : (u : ℕ) (us : List ℕ) → is_quote u ≡ false → (u == 47) ≡ false → begins_of (u ∷ us) ≡ another
unfolding begins_of
another_first u us a b = rw (a, b) refl

quote_first : (u : ℕ) (us : List ℕ) → is_quote u ≡ true → begins_of (u ∷ us) ≡ quote
unfolding begins_of
quote_first u us a = rw (a) refl

slash_first : (us : List ℕ) → begins_of (47 ∷ us) ≡ a_slash
unfolding begins_of
slash_first us = rw (slash_no_quote) refl

lone_slash_stands : (rest : List ℕ) → Stands (47 ∷ rest) (punctuator (47 ∷ [])) rest
unfolding spelled IsElement
lone_slash_stands rest = (slash_punctuator, refl)

none_first : (us : List ℕ) → BeginsNone us → begins_of us ≡ another
none_first us b =
    let no_slash_first : (b.0 == 47) ≡ false =
    false_from_ne_true (b.0 == 47) (λ e. b.4 (punctuator (47 ∷ [])) b.1 (subst (λ xs. Stands xs (punctuator (47 ∷ [])) b.1) (sym (b.2 ∙ ap (λ x. x ∷ b.1) (eqb-true b.0 47 e))) (lone_slash_stands b.1))) in
    ap begins_of b.2 ∙ another_first b.0 b.1 b.3 no_slash_first

name_first_unit : (parts : List NamePart) (rest : List ℕ) → IsName parts → begins_of (spelled_name parts ++ rest) ≡ another
name_first_unit parts rest n =
    let f = name_first parts n in
    subst (λ xs. begins_of (xs ++ rest) ≡ another) (sym f.2) (⊎_elim
    (λ e. subst (λ u. begins_of (u ∷ (f.1 ++ rest)) ≡ another) (sym e.0) (another_first 92 (f.1 ++ rest) quote_not_backslash refl))
    (λ e. let o = start_other f.0 e in another_first f.0 (f.1 ++ rest) o.2 o.5) f.3)

number_first_unit : (l : Literal) (rest : List ℕ) → IsElement (number l) → begins_of (spelling l ++ rest) ≡ another
unfolding IsElement
number_first_unit l rest n =
    let f = number_first l n in
    subst (λ xs. begins_of (xs ++ rest) ≡ another) (sym f.2) (⊎_elim
    (λ d. another_first f.0 (f.1 ++ rest) (no_quote_digit f.0 d) (none_of (λ x. is_digit x 10) f.0 47 d refl))
    (λ d. subst (λ u. begins_of (u ∷ (f.1 ++ rest)) ≡ another) (sym d.0) (another_first 46 (f.1 ++ rest) quote_not_point refl)) f.3)

name_whole : (us : List ℕ) (parts : List NamePart) (rest : List ℕ) → Next us (name parts) rest → IsName parts × (us ≡ spelled_name parts ++ rest)
unfolding spelled IsElement
name_whole us parts rest n = (n.is, n.whole)

number_whole : (us : List ℕ) (l : Literal) (rest : List ℕ) → Next us (number l) rest → us ≡ spelling l ++ rest
unfolding spelled
number_whole us l rest n = n.whole

begins_at : (s : State) (us : List ℕ) (f : ScanFault) (b : IsBad s us f) → begins_of us ≡ begins_by b
begins_at s us _ (no_token at b e) = none_first us b
begins_at s us _ (bad_name at behind h e) = let w = name_whole us h.0 h.1 h.2 in ap begins_of w.1 ∙ name_first_unit h.0 h.1 w.0
begins_at s us _ (bad_escape at behind h e) = ap begins_of h.4 ∙ quote_first h.0 (spelled_string_parts h.1 ++ h.2) h.3
begins_at s us _ (open_comment at h e) = ap begins_of h.1 ∙ slash_first (42 ∷ h.0)
begins_at s us _ (open_string at h e) = ap begins_of h.4 ∙ quote_first h.0 (spelled_string_parts h.1 ++ h.2) h.3
begins_at s us _ (regular_expression at b none d e) = let f = first_is 47 us b in ap begins_of f.1 ∙ slash_first f.0
begins_at s us _ (bad_number at h e) = ap begins_of (number_whole us h.0 h.1 h.2) ∙ number_first_unit h.0 h.1 h.2.is

same_plain : (e f : Element) → Same e f → plain_class e ≡ plain_class f
same_plain _ _ (one e) = refl
same_plain _ _ (numbers l m g) = refl

no_name_number : (us : List ℕ) (parts : List NamePart) (l : Literal) (rest others : List ℕ) → Next us (name parts) rest → Next us (number l) others → ⊥
no_name_number us parts l rest others n m = let c = same_plain (name parts) (number l) (one_next us (name parts) (number l) rest others n m).same in cc c

-- the parts of two strings that stop are one list
one_stop : (us : List ℕ) (q r : ℕ) (ps qs : List StringPart) (rest others : List ℕ) → us ≡ q ∷ (spelled_string_parts ps ++ rest) → us ≡ r ∷ (spelled_string_parts qs ++ others) → AreStringParts q ps rest → AreStringParts r qs others → Stopped q rest → Stopped r others → (q ≡ r) × (ps ≡ qs) × (rest ≡ others)
one_stop us q r ps qs rest others w v a b stop stop' =
    let e : q ≡ r = first_of q r _ _ (sym w ∙ v) in
    let c = one_cut q ps qs rest others a (subst (λ x. AreStringParts x qs others) (sym e) b) (rest_of q r _ _ (sym w ∙ v)) stop (subst (λ x. Stopped x others) (sym e) stop') in
    (e, c.0, c.1)

comment_or_expression : (us body : List ℕ) → us ≡ 47 ∷ 42 ∷ body → begins_comment us ≡ false → ⊥
comment_or_expression us body w none = true≢false (sym (opens body) ∙ ap begins_comment (sym w) ∙ none)

same_place : (x y : ℕ) (s : State) → x ≡ s.at → y ≡ s.at → x ≡ y
same_place x y s e f = e ∙ sym f

one_bad : (s : State) (us : List ℕ) (f g : ScanFault) (b : IsBad s us f) (c : IsBad s us g) → begins_by b ≡ begins_by c → f ≡ g
one_bad s us _ _ (no_token x b e) (no_token y c d) h = ap fault.BadToken (same_place x y s e d)
one_bad s us _ _ (no_token x b e) (bad_name y behind c d) h = absurd (b.4 (name c.0) c.1 (c.2.is, c.2.whole))
one_bad s us _ _ (no_token x b e) (bad_number y c d) h = absurd (b.4 (number c.0) c.1 (c.2.is, c.2.whole))
one_bad s us _ _ (bad_name x behind b e) (no_token y c d) h = absurd (c.4 (name b.0) b.1 (b.2.is, b.2.whole))
one_bad s us _ _ (bad_name x behind b e) (bad_name y behind' c d) h =
    let a = one_next us (name b.0) (name c.0) b.1 c.1 b.2 c.2 in
    let v : behind ≡ behind' = b.4 ∙ ap (λ z. if begins_with 92 z then length (spelled (name b.0)) else 0) a.same_rest ∙ ap (λ z. if begins_with 92 c.1 then length z else 0) a.spelled_alike ∙ sym c.4 in
    ap fault.BadToken (e ∙ ap (λ z. s.at + z) v ∙ sym d)
one_bad s us _ _ (bad_name x behind b e) (bad_number y c d) h = absurd (no_name_number us b.0 c.0 b.1 c.1 b.2 c.2)
one_bad s us _ _ (bad_number x b e) (no_token y c d) h = absurd (c.4 (number b.0) b.1 (b.2.is, b.2.whole))
one_bad s us _ _ (bad_number x b e) (bad_name y behind c d) h = absurd (no_name_number us c.0 b.0 c.1 b.1 c.2 b.2)
one_bad s us _ _ (bad_number x b e) (bad_number y c d) h = ap fault.NumberLiteral (same_place x y s e d)
one_bad s us _ _ (bad_escape x behind b e) (bad_escape y behind' c d) h =
    let a = one_stop us b.0 c.0 b.1 c.1 b.2 c.2 b.4 c.4 b.5 c.5 (bad_stops b.0 b.2 b.6) (bad_stops c.0 c.2 c.6) in
    let v : behind ≡ behind' = b.7 ∙ ap (λ z. length (b.0 ∷ spelled_string_parts z)) a.1 ∙ ap (λ z. length (z ∷ spelled_string_parts c.1)) a.0 ∙ sym c.7 in
    ap fault.BadToken (e ∙ ap (λ z. s.at + z) v ∙ sym d)
one_bad s us _ _ (bad_escape x behind b e) (open_string y c d) h =
    let a = one_stop us b.0 c.0 b.1 c.1 b.2 c.2 b.4 c.4 b.5 c.5 (bad_stops b.0 b.2 b.6) (open_stops c.0 c.2 c.6) in
    absurd (true≢false (sym c.6 ∙ ap ends_open (sym a.2) ∙ bad_not_open b.0 b.2 b.6))
one_bad s us _ _ (open_string x b e) (bad_escape y behind c d) h =
    let a = one_stop us b.0 c.0 b.1 c.1 b.2 c.2 b.4 c.4 b.5 c.5 (open_stops b.0 b.2 b.6) (bad_stops c.0 c.2 c.6) in
    absurd (true≢false (sym b.6 ∙ ap ends_open a.2 ∙ bad_not_open c.0 c.2 c.6))
one_bad s us _ _ (open_string x b e) (open_string y c d) h = ap fault.Unterminated (same_place x y s e d)
one_bad s us _ _ (open_comment x b e) (open_comment y c d) h = ap fault.Unterminated (same_place x y s e d)
one_bad s us _ _ (open_comment x b e) (regular_expression y p none q d) h = absurd (comment_or_expression us b.0 b.1 none)
one_bad s us _ _ (regular_expression x p none q e) (open_comment y c d) h = absurd (comment_or_expression us c.0 c.1 none)
one_bad s us _ _ (regular_expression x p none q e) (regular_expression y p' none' q' d) h = ap fault.RegExpLiteral (same_place x y s e d)
one_bad s us _ _ b c h = absurd (cc h)

-- a bad lexeme has one fault
pub bad_once : (s : State) (us : List ℕ) (f g : ScanFault) → IsBad s us f → IsBad s us g → f ≡ g
bad_once s us f g b c = one_bad s us f g b c (sym (begins_at s us f b) ∙ begins_at s us g c)

begins_some : {s : State} {us : List ℕ} {f : ScanFault} (b : IsBad s us f) → nothing_first ≡ begins_by b → ⊥
begins_some (no_token at b e) h = cc h
begins_some (bad_name at behind b e) h = cc h
begins_some (bad_escape at behind b e) h = cc h
begins_some (open_comment at b e) h = cc h
begins_some (open_string at b e) h = cc h
begins_some (regular_expression at b none d e) h = cc h
begins_some (bad_number at b e) h = cc h

none_begins : begins_of [] ≡ nothing_first
unfolding begins_of
none_begins = refl

-- nothing is bad at the end
pub good_end : (s : State) (f : ScanFault) → IsBad s [] f → ⊥
good_end s f b = begins_some b (sym none_begins ∙ begins_at s [] f b)
