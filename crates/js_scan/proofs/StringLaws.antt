-- A string is cut into its parts in one way.
use Rattle.std.proofs.Common.{◌≡◌, ℕ, suc, ◌==◌, true, false, ◌&&◌, ◌||◌, List, [], ◌∷◌, ◌++◌, length, take, drop, refl, sym, ap, subst, ◌∙◌, ⊎_elim, if◌then◌else◌, append_assoc}
use Rattle.std.specs.Char.{is_digit}
use Rattle.std.proofs.lemmas.Bool.{or_cases, or_parts, or_from, not-true, eqb-true, eqb-false, true≢false}
use Rattle.std.proofs.lemmas.List.{take_at, drop_at}
use Rattle.js_scan.specs.Units.{is_line_terminator, is_quote, begins_with, begins_with_digit}
use Rattle.js_scan.specs.Strings.{StringPart, plain, character, null_character, hexadecimal, unicode, continuation, spelled_string_part, spelled_string_parts, spelled_string, is_plain, is_escapable, IsStringPart, AreStringParts, IsString, ends_open, IsBadEscape, OpensString, HasBadEscape}

-- what holds of each line terminator
pub at_line_terminator : (P : ℕ → Type 0) (u : ℕ) → is_line_terminator u ≡ true → P 10 → P 13 → P 8232 → P 8233 → P u
unfolding is_line_terminator
at_line_terminator P u h lf cr ls ps =
    ⊎_elim
    (λ (e : (u == 10 || u == 13 || u == 8232) ≡ true). ⊎_elim
    (λ (e : (u == 10 || u == 13) ≡ true). ⊎_elim (λ (e : (u == 10) ≡ true). subst P (sym (eqb-true u 10 e)) lf) (λ (e : (u == 13) ≡ true). subst P (sym (eqb-true u 13 e)) cr) (or_cases (u == 10) (u == 13) e))
    (λ (e : (u == 8232) ≡ true). subst P (sym (eqb-true u 8232 e)) ls)
    (or_cases (u == 10 || u == 13) (u == 8232) e))
    (λ (e : (u == 8233) ≡ true). subst P (sym (eqb-true u 8233 e)) ps)
    (or_cases (u == 10 || u == 13 || u == 8232) (u == 8233) h)

-- what holds of each quote
at_quote : (P : ℕ → Type 0) (u : ℕ) → is_quote u ≡ true → P 34 → P 39 → P u
unfolding is_quote
at_quote P u h double single =
    ⊎_elim (λ (e : (u == 34) ≡ true). subst P (sym (eqb-true u 34 e)) double) (λ (e : (u == 39) ≡ true). subst P (sym (eqb-true u 39 e)) single) (or_cases (u == 34) (u == 39) h)

-- a quote is no `\`
quote_no_escape : (quote : ℕ) → is_quote quote ≡ true → (quote == 92) ≡ false
quote_no_escape quote i = at_quote (λ u. (u == 92) ≡ false) quote i refl refl

-- a quote is no line terminator
quote_ends_no_line : (quote : ℕ) → is_quote quote ≡ true → is_line_terminator quote ≡ false
unfolding is_line_terminator
quote_ends_no_line quote i = at_quote (λ u. is_line_terminator u ≡ false) quote i refl refl

-- what `is_plain` rules out
plain_parts : (quote u : ℕ) → is_plain quote u ≡ true → ((u == quote) ≡ false) × ((u == 92) ≡ false) × (is_line_terminator u ≡ false)
unfolding is_plain
plain_parts quote u h =
    let all = or_parts (u == quote || u == 92) (is_line_terminator u) (not-true (u == quote || u == 92 || is_line_terminator u) h) in
    let two = or_parts (u == quote) (u == 92) all.0 in
    (two.0, two.1, all.1)

-- what `is_escapable` rules out
escapable_parts : (u : ℕ) → is_escapable u ≡ true → (is_digit u 10 ≡ false) × ((u == 120) ≡ false) × ((u == 117) ≡ false) × (is_line_terminator u ≡ false)
unfolding is_escapable
escapable_parts u h =
    let all = or_parts (is_digit u 10 || u == 120 || u == 117) (is_line_terminator u) (not-true (is_digit u 10 || u == 120 || u == 117 || is_line_terminator u) h) in
    let three = or_parts (is_digit u 10 || u == 120) (u == 117) all.0 in
    let two = or_parts (is_digit u 10) (u == 120) three.0 in
    (two.0, two.1, three.1, all.1)

-- The part that stands at the front, where one does, and what stands behind it.
unfoldable pub cut_line_end : ℕ → List ℕ → StringPart × List ℕ
cut_line_end u us = if u == 13 && begins_with 10 us then (continuation (u ∷ 10 ∷ []), drop 1 us) else (continuation (u ∷ []), us)

-- the same of a digit behind `\`
unfoldable pub cut_digit : ℕ → List ℕ → StringPart × List ℕ
cut_digit u us = if u == 48 then (null_character, us) else (continuation [], us)

-- the same of an escape, by what stands behind its `\`
unfoldable pub cut_escape : List ℕ → StringPart × List ℕ
cut_escape [] = (continuation [], [])
cut_escape (u ∷ us) = if u == 120 then (hexadecimal (take 2 us), drop 2 us) else (if u == 117 then (unicode (take 4 us), drop 4 us) else (if is_digit u 10 then cut_digit u us else
    (if is_line_terminator u then cut_line_end u us else (character u, us))))

-- the same of any part
unfoldable pub cut : List ℕ → StringPart × List ℕ
cut [] = (continuation [], [])
cut (u ∷ us) = if u == 92 then cut_escape us else (plain u, us)

-- a part that may stand at the front is cut off there
cut_is : (quote : ℕ) (part : StringPart) (behind : List ℕ) → IsStringPart quote part behind → cut (spelled_string_part part ++ behind) ≡ (part, behind)
unfolding IsStringPart cut cut_escape cut_digit cut_line_end begins_with is_line_terminator
cut_is quote (plain u) behind is = let e = (plain_parts quote u is).1 in rw e
cut_is quote (character u) behind is = let e = escapable_parts u is in rw (e.1, e.2, e.0, e.3)
cut_is quote null_character behind is = refl
cut_is quote (hexadecimal ds) behind is = rw (take_at ds behind 2 is.0, drop_at ds behind 2 is.0)
cut_is quote (unicode ds) behind is = rw (take_at ds behind 4 is.0, drop_at ds behind 4 is.0)
cut_is quote (continuation []) behind is = absurd is
cut_is quote (continuation (u ∷ [])) behind is =
    at_line_terminator (λ w. (w == 13 && begins_with 10 behind) ≡ false → cut (92 ∷ w ∷ behind) ≡ (continuation (w ∷ []), behind)) u is.0 (λ h. refl) (λ h. rw h) (λ h. refl) (λ h. refl) is.1
cut_is quote (continuation (u ∷ v ∷ [])) behind is = rw (is.0, is.1)
cut_is quote (continuation (u ∷ v ∷ w ∷ us)) behind is = absurd is

-- one part alone stands at the front of the units
one_part : (quote : ℕ) (p q : StringPart) (x y : List ℕ) → IsStringPart quote p x → IsStringPart quote q y → spelled_string_part p ++ x ≡ spelled_string_part q ++ y → (p ≡ q) × (x ≡ y)
one_part quote p q x y i j e =
    let same = sym (cut_is quote p x i) ∙ ap cut e ∙ cut_is quote q y j in
    (ap (λ (c : StringPart × List ℕ). c.0) same, ap (λ (c : StringPart × List ℕ). c.1) same)

-- no part can stand at the front
abbrev pub Stopped : ℕ → List ℕ → Type 0
Stopped quote us = (part : StringPart) (behind : List ℕ) → us ≡ spelled_string_part part ++ behind → IsStringPart quote part behind → ⊥

-- none can where what would be cut off is none
pub stopped_at : (quote : ℕ) (us : List ℕ) → (IsStringPart quote (cut us).0 (cut us).1 → ⊥) → Stopped quote us
stopped_at quote us none part behind e is = none (subst (λ (c : StringPart × List ℕ). IsStringPart quote c.0 c.1) (sym (cut_is quote part behind is) ∙ ap cut (sym e)) is)

-- a unit that isn't plain and no `\` stops a string
unit_stops : (quote u : ℕ) (us : List ℕ) → (u == 92) ≡ false → (is_plain quote u ≡ true → ⊥) → Stopped quote (u ∷ us)
unfolding IsStringPart cut
unit_stops quote u us e none = stopped_at quote (u ∷ us) (rw e none)

-- the quote stops it
pub quote_stops : (quote : ℕ) (us : List ℕ) → is_quote quote ≡ true → Stopped quote (quote ∷ us)
quote_stops quote us i = unit_stops quote quote us (quote_no_escape quote i) (λ p. eqb-false quote quote (plain_parts quote quote p).0 refl)

-- a line terminator stops it
line_terminator_stops : (quote u : ℕ) (us : List ℕ) → is_line_terminator u ≡ true → Stopped quote (u ∷ us)
line_terminator_stops quote u us h = unit_stops quote u us (at_line_terminator (λ w. (w == 92) ≡ false) u h refl refl refl refl) (λ p. true≢false (sym h ∙ (plain_parts quote u p).2))

-- a place where it has no end on its line stops it
pub open_stops : (quote : ℕ) (us : List ℕ) → ends_open us ≡ true → Stopped quote us
unfolding ends_open IsStringPart cut cut_escape
open_stops quote [] h = stopped_at quote [] (λ is. is)
open_stops quote (u ∷ []) h =
    ⊎_elim (λ e. line_terminator_stops quote u [] e) (λ (e : (u == 92) ≡ true). stopped_at quote (u ∷ []) (rw e (λ is. is))) (or_cases (is_line_terminator u) (u == 92) h)
open_stops quote (u ∷ v ∷ us) h = line_terminator_stops quote u (v ∷ us) h

-- a bad escape stops it
pub bad_stops : (quote : ℕ) (us : List ℕ) → IsBadEscape quote us → Stopped quote us
bad_stops quote us bad = bad.3

-- the units of a part and of those behind it
spelled_more : (p : StringPart) (ps : List StringPart) (rest : List ℕ) → spelled_string_parts (p ∷ ps) ++ rest ≡ spelled_string_part p ++ (spelled_string_parts ps ++ rest)
unfolding spelled_string_parts
spelled_more p ps rest = append_assoc (spelled_string_part p) (spelled_string_parts ps) rest

-- units are cut into parts in one way, up to where none can stand
pub one_cut : (quote : ℕ) (ps qs : List StringPart) (rest others : List ℕ) → AreStringParts quote ps rest → AreStringParts quote qs others → spelled_string_parts ps ++ rest ≡ spelled_string_parts qs ++ others
    → Stopped quote rest → Stopped quote others → (ps ≡ qs) × (rest ≡ others)
unfolding AreStringParts spelled_string_parts
one_cut quote [] [] rest others i j e s t = (refl, e)
one_cut quote [] (q ∷ qs) rest others i j e s t = absurd (s q (spelled_string_parts qs ++ others) (e ∙ spelled_more q qs others) j.0)
one_cut quote (p ∷ ps) [] rest others i j e s t = absurd (t p (spelled_string_parts ps ++ rest) (sym e ∙ spelled_more p ps rest) i.0)
one_cut quote (p ∷ ps) (q ∷ qs) rest others i j e s t =
    let front = one_part quote p q (spelled_string_parts ps ++ rest) (spelled_string_parts qs ++ others) i.0 j.0 (sym (spelled_more p ps rest) ∙ e ∙ spelled_more q qs others) in
    let back = one_cut quote ps qs rest others i.1 j.1 front.1 s t in
    (ap (λ p. p ∷ ps) front.0 ∙ ap (λ ps. q ∷ ps) back.0, back.1)

-- a part looks at one unit behind it
part_moved : (quote : ℕ) (p : StringPart) (u : ℕ) (x y : List ℕ) → IsStringPart quote p (u ∷ x) → IsStringPart quote p (u ∷ y)
unfolding IsStringPart begins_with begins_with_digit
part_moved quote (plain w) u x y is = is
part_moved quote (character w) u x y is = is
part_moved quote null_character u x y is = is
part_moved quote (hexadecimal ds) u x y is = is
part_moved quote (unicode ds) u x y is = is
part_moved quote (continuation []) u x y is = is
part_moved quote (continuation (v ∷ [])) u x y is = is
part_moved quote (continuation (v ∷ w ∷ [])) u x y is = is
part_moved quote (continuation (v ∷ w ∷ z ∷ us)) u x y is = is

-- the same with parts between
part_before : (quote : ℕ) (p : StringPart) (ps : List StringPart) (u : ℕ) (x y : List ℕ) → IsStringPart quote p (spelled_string_parts ps ++ (u ∷ x)) → IsStringPart quote p (spelled_string_parts ps ++ (u ∷ y))
unfolding spelled_string_parts
part_before quote p [] u x y is = part_moved quote p u x y is
part_before quote p (plain w ∷ ps) u x y is = part_moved quote p w _ _ is
part_before quote p (character w ∷ ps) u x y is = part_moved quote p 92 _ _ is
part_before quote p (null_character ∷ ps) u x y is = part_moved quote p 92 _ _ is
part_before quote p (hexadecimal ds ∷ ps) u x y is = part_moved quote p 92 _ _ is
part_before quote p (unicode ds ∷ ps) u x y is = part_moved quote p 92 _ _ is
part_before quote p (continuation end ∷ ps) u x y is = part_moved quote p 92 _ _ is

-- parts look at one unit behind them
pub parts_before : (quote : ℕ) (ps : List StringPart) (u : ℕ) (x y : List ℕ) → AreStringParts quote ps (u ∷ x) → AreStringParts quote ps (u ∷ y)
unfolding AreStringParts
parts_before quote [] u x y are = tt
parts_before quote (p ∷ ps) u x y are = (part_before quote p ps u x y are.0, parts_before quote ps u x y are.1)

-- a string's parts stand in front of its quote, whatever is behind that
pub string_before : (quote : ℕ) (ps : List StringPart) (others : List ℕ) → is_quote quote ≡ true → IsString quote ps → AreStringParts quote ps (quote ∷ others)
string_before quote ps others i is = parts_before quote ps quote [] others is

-- a string's units, and those behind it
pub spelled_whole : (quote : ℕ) (ps : List StringPart) (rest : List ℕ) → spelled_string quote ps ++ rest ≡ quote ∷ (spelled_string_parts ps ++ (quote ∷ rest))
spelled_whole quote ps rest = ap (λ us. quote ∷ us) (append_assoc (spelled_string_parts ps) (quote ∷ []) rest)

-- one string alone stands at the front of units
pub one_string : (quote q : ℕ) (ps qs : List StringPart) (rest others : List ℕ) → is_quote quote ≡ true → IsString quote ps → IsString q qs → spelled_string quote ps ++ rest ≡ spelled_string q qs ++ others → (quote ≡ q) × (ps ≡ qs) × (rest ≡ others)
one_string quote q ps qs rest others i is are e =
    let same : quote ∷ (spelled_string_parts ps ++ (quote ∷ rest)) ≡ q ∷ (spelled_string_parts qs ++ (q ∷ others)) = sym (spelled_whole quote ps rest) ∙ e ∙ spelled_whole q qs others in
    let first : quote ≡ q = cc in
    let back : spelled_string_parts ps ++ (quote ∷ rest) ≡ spelled_string_parts qs ++ (quote ∷ others) = cc in
    let parts = one_cut quote ps qs (quote ∷ rest) (quote ∷ others) (string_before quote ps rest i is) (string_before quote qs others i (subst (λ u. IsString u qs) (sym first) are)) back (quote_stops quote rest i) (quote_stops quote others i) in
    (first, parts.0, let h = parts.1 in cc)

-- no quote ends a string on its line
pub open_not_quote : (quote : ℕ) (us : List ℕ) → is_quote quote ≡ true → ends_open (quote ∷ us) ≡ false
unfolding ends_open
open_not_quote quote [] i = or_from (is_line_terminator quote) (quote == 92) (quote_ends_no_line quote i) (quote_no_escape quote i)
open_not_quote quote (u ∷ us) i = quote_ends_no_line quote i

-- a bad escape isn't where a string has no end on its line
pub bad_not_open : (quote : ℕ) (us : List ℕ) → IsBadEscape quote us → ends_open us ≡ false
unfolding ends_open is_line_terminator
bad_not_open quote us bad = rw bad.2

-- a bad escape begins with no quote
pub bad_not_quote : (quote : ℕ) (us others : List ℕ) → is_quote quote ≡ true → IsBadEscape quote us → us ≡ quote ∷ others → ⊥
bad_not_quote quote us others i bad e =
    let same : quote ≡ 92 = let h = sym e ∙ bad.2 in cc in
    eqb-false quote 92 (quote_no_escape quote i) same

-- what opens at the front of units in two ways has one quote
one_quote : (quote q : ℕ) (x y : List ℕ) → quote ∷ x ≡ q ∷ y → (quote ≡ q) × (x ≡ y)
one_quote quote q x y e = (cc, cc)

-- two ways to cut what follows a quote are one
one_cut_behind : (quote q : ℕ) (ps qs : List StringPart) (rest others : List ℕ) → quote ∷ (spelled_string_parts ps ++ rest) ≡ q ∷ (spelled_string_parts qs ++ others) → AreStringParts quote ps rest → AreStringParts q qs others
    → Stopped quote rest → Stopped q others → (quote ≡ q) × (ps ≡ qs) × (rest ≡ others)
one_cut_behind quote q ps qs rest others e are be s t =
    let first = one_quote quote q (spelled_string_parts ps ++ rest) (spelled_string_parts qs ++ others) e in
    let same : q ≡ quote = sym first.0 in
    let back = one_cut quote ps qs rest others are (subst (λ u. AreStringParts u qs others) same be) first.1 s (subst (λ u. Stopped u others) same t) in
    (first.0, back.0, back.1)

-- a string that is whole has an end on its line
pub closed_not_open : (quote : ℕ) (ps : List StringPart) (us rest : List ℕ) → is_quote quote ≡ true → IsString quote ps → us ≡ spelled_string quote ps ++ rest → OpensString us → ⊥
closed_not_open quote ps us rest i is e o =
    let one = one_cut_behind quote o.0 ps o.1 (quote ∷ rest) o.2 (sym (spelled_whole quote ps rest) ∙ sym e ∙ o.4) (string_before quote ps rest i is) o.5 (quote_stops quote rest i) (open_stops o.0 o.2 o.6) in
    true≢false (sym o.6 ∙ ap ends_open (sym one.2) ∙ open_not_quote quote rest i)

-- it has no bad escape
pub closed_not_bad : (quote : ℕ) (ps : List StringPart) (us rest : List ℕ) (at : ℕ) → is_quote quote ≡ true → IsString quote ps → us ≡ spelled_string quote ps ++ rest → HasBadEscape us at → ⊥
closed_not_bad quote ps us rest at i is e b =
    let one = one_cut_behind quote b.0 ps b.1 (quote ∷ rest) b.2 (sym (spelled_whole quote ps rest) ∙ sym e ∙ b.4) (string_before quote ps rest i is) b.5 (quote_stops quote rest i) (bad_stops b.0 b.2 b.6) in
    bad_not_quote b.0 b.2 rest b.3 b.6 (sym one.2 ∙ ap (λ u. u ∷ rest) one.0)

-- a string with no end on its line has no bad escape before that
pub open_not_bad : (us : List ℕ) (at : ℕ) → OpensString us → HasBadEscape us at → ⊥
open_not_bad us at o b =
    let one = one_cut_behind o.0 b.0 o.1 b.1 o.2 b.2 (sym o.4 ∙ b.4) o.5 b.5 (open_stops o.0 o.2 o.6) (bad_stops b.0 b.2 b.6) in
    true≢false (sym o.6 ∙ ap ends_open one.2 ∙ bad_not_open b.0 b.2 b.6)

-- the first bad escape stands in one place
pub one_bad_escape : (us : List ℕ) (at place : ℕ) → HasBadEscape us at → HasBadEscape us place → at ≡ place
one_bad_escape us at place a b =
    let one = one_cut_behind a.0 b.0 a.1 b.1 a.2 b.2 (sym a.4 ∙ b.4) a.5 b.5 (bad_stops a.0 a.2 a.6) (bad_stops b.0 b.2 b.6) in
    a.7 ∙ ap (λ n. suc n) (ap (λ ps. length (spelled_string_parts ps)) one.1) ∙ sym b.7
