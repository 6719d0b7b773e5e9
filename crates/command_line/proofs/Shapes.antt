-- What `clap` sees in a word, by the shape that the definition gives it.
use Rattle.std.proofs.Common.{◌≡◌, ◌∙◌, ◌+◌, ◌&&◌, ◌||◌, ℕ, Bool, cond, not, true, false, suc, refl, sym, ap, subst, arith, List, [], ◌∷◌, length, take, drop, Option, Some, None, ne_eqb, eqb-true, true≢false, bytes_eq, IsUtf8, encode_utf8_all}
use Rattle.std.specs.Prelude.{◌==◌, slice_get, option_and_then}
use Rattle.std.specs.Char.{encode_utf8}
use Rattle.std.specs.Str.{chars}
use Rattle.std.specs.List.{position_or_len, before_first, after_first}
use Rattle.std.proofs.lemmas.Str.{IsUtf8-past_char, chars_from_encodes}
use Rattle.clap.specs.Lexer.{long_of, long_of_rest, short_of, short_of_rest, strip_byte, has_byte, name_and_value}
use Rattle.command_line.specs.Commands.{Word, Shape, with_value, without_value, all_positional, refused, plain, with_unit, option_in, behind_hyphen, shape_of}

-- `--`
abbrev pub two_hyphens : Word
two_hyphens = 45 ∷ 45 ∷ []

-- the word begins with `-` and has more behind it
abbrev pub IsHyphened : Word → Type 0
IsHyphened word = (u : ℕ) × (us : Word) × (word ≡ 45 ∷ u ∷ us)

-- flags that begin with a character
abbrev pub IsFlags : Word → Type 0
IsFlags flags = (x : ℕ) × (slice_get (chars flags) 0 ≡ Some x)

abbrev pub SeenAs : Word → Shape → Type 0
SeenAs word plain = (bytes_eq word two_hyphens ≡ false) × (long_of word ≡ None) × (short_of word ≡ None)
SeenAs word all_positional = word ≡ two_hyphens
SeenAs word refused = (flags : Word) × (bytes_eq word two_hyphens ≡ false) × (long_of word ≡ None) × (short_of word ≡ Some flags) × IsFlags flags × IsHyphened word
SeenAs word (with_value name value) = (bytes_eq word two_hyphens ≡ false) × (long_of word ≡ Some (name, Some value)) × IsHyphened word
SeenAs word (without_value name) = (bytes_eq word two_hyphens ≡ false) × (long_of word ≡ Some (name, None)) × IsHyphened word

-- ---- options

-- an option's name and value, by the form of what was found
abbrev parted : Word → Option Word → Shape
parted name (Some value) = with_value name value
parted name None = without_value name

with_unit-parted : (unit : ℕ) (name : Word) (value : Option Word) → with_unit unit (parted name value) ≡ parted (unit ∷ name) value
with_unit-parted unit name (Some value) = refl
with_unit-parted unit name None = refl

-- where the first `=` is
abbrev equals_at : Word → ℕ
equals_at units = position_or_len (λ x. x == 61) units

parted_here : (unit : ℕ) (units : Word) → (unit == 61) ≡ true → option_in (unit ∷ units) ≡ parted (name_and_value (unit ∷ units)).0 (name_and_value (unit ∷ units)).1
parted_here unit units e =
    let m = equals_at units in
    let left : option_in (unit ∷ units) ≡ with_value [] units = λ i. cond (e i) (with_value [] units) (with_unit unit (option_in units)) in
    let right : parted (name_and_value (unit ∷ units)).0 (name_and_value (unit ∷ units)).1 ≡ with_value [] units =
    λ i. parted (take (cond (not (e i)) (1 + m) 0) (unit ∷ units)) (cond (e i || has_byte 61 units) (Some (drop (cond (not (e i)) (1 + m) 0 + 1) (unit ∷ units))) None) in
    left ∙ sym right

parted_later : (unit : ℕ) (units : Word) → (unit == 61) ≡ false → option_in units ≡ parted (name_and_value units).0 (name_and_value units).1
    → option_in (unit ∷ units) ≡ parted (name_and_value (unit ∷ units)).0 (name_and_value (unit ∷ units)).1
parted_later unit units e ih =
    let m = equals_at units in
    let one : 1 + m ≡ suc m = omega arith in
    let place : equals_at (unit ∷ units) ≡ suc m = (λ i. cond (not (e i)) (1 + m) 0) ∙ one in
    let before : before_first (λ x. x == 61) (unit ∷ units) ≡ unit ∷ before_first (λ x. x == 61) units = ap (λ k. take k (unit ∷ units)) place in
    let next : suc m + 1 ≡ suc (m + 1) = omega arith in
    let after : after_first (λ x. x == 61) (unit ∷ units) ≡ after_first (λ x. x == 61) units = ap (λ k. drop (k + 1) (unit ∷ units)) place ∙ ap (λ k. drop k (unit ∷ units)) next in
    let left : option_in (unit ∷ units) ≡ with_unit unit (option_in units) = λ i. cond (e i) (with_value [] units) (with_unit unit (option_in units)) in
    let right : parted (name_and_value (unit ∷ units)).0 (name_and_value (unit ∷ units)).1 ≡ parted (unit ∷ (name_and_value units).0) (name_and_value units).1 =
    λ i. parted (before i) (cond (e i || has_byte 61 units) (Some (after i)) None) in
    left ∙ ap (with_unit unit) ih ∙ with_unit-parted unit (name_and_value units).0 (name_and_value units).1 ∙ sym right

option_is : (units : Word) → option_in units ≡ parted (name_and_value units).0 (name_and_value units).1
option_is [] = refl
option_is (unit ∷ units) = go (unit == 61) refl (option_is units)
  where
    go : (b : Bool) → (unit == 61) ≡ b → option_in units ≡ parted (name_and_value units).0 (name_and_value units).1
        → option_in (unit ∷ units) ≡ parted (name_and_value (unit ∷ units)).0 (name_and_value (unit ∷ units)).1
    go true e ih = parted_here unit units e
    go false e ih = parted_later unit units e ih

-- ---- flags

abbrev is_cons : Word → Bool
is_cons [] = false
is_cons (x ∷ xs) = true

begins : (flags : Word) (u : IsUtf8 flags) (y : ℕ) (ys : Word) → flags ≡ y ∷ ys → (cs : List ℕ) → encode_utf8_all cs ≡ flags → cs ≡ chars flags → IsFlags flags
begins flags u y ys is [] e c = absurd (true≢false (sym (ap is_cons (e ∙ is))))
begins flags u y ys is (x ∷ cs) e c = (x, ap (λ l. slice_get l 0) (sym c))

flags_begin : (y : ℕ) (ys : Word) → IsUtf8 (45 ∷ y ∷ ys) → IsFlags (y ∷ ys)
unfolding encode_utf8
flags_begin y ys u =
    let rest : IsUtf8 (y ∷ ys) = IsUtf8-past_char (45 ∷ y ∷ ys) (y ∷ ys) 45 u refl in
    begins (y ∷ ys) rest y ys refl rest.0 rest.1.1 (chars_from_encodes rest.0 (y ∷ ys) rest rest.1.1)

-- ---- words

seen_parted : (word name : Word) (value : Option Word) → bytes_eq word two_hyphens ≡ false → long_of word ≡ Some (name, value) → IsHyphened word → SeenAs word (parted name value)
seen_parted word name (Some value) e f h = (e, f, h)
seen_parted word name None e f h = (e, f, h)

seen_long : (units : Word) → SeenAs (45 ∷ 45 ∷ units) (cond (length units == 0) all_positional (option_in units))
seen_long [] = refl
seen_long (z ∷ zs) =
    let more : (length (z ∷ zs) == 0) ≡ false = ne_eqb _ _ (λ e. omega arith) in
    let is : cond (length (z ∷ zs) == 0) all_positional (option_in (z ∷ zs)) ≡ parted (name_and_value (z ∷ zs)).0 (name_and_value (z ∷ zs)).1 =
    (λ i. cond (more i) all_positional (option_in (z ∷ zs))) ∙ option_is (z ∷ zs) in
    subst (SeenAs (45 ∷ 45 ∷ z ∷ zs)) (sym is) (seen_parted (45 ∷ 45 ∷ z ∷ zs) (name_and_value (z ∷ zs)).0 (name_and_value (z ∷ zs)).1 refl refl (45, (z ∷ zs), refl))

seen_behind : (units : Word) → IsUtf8 (45 ∷ units) → SeenAs (45 ∷ units) (behind_hyphen units)
seen_behind [] u = (refl, refl, refl)
seen_behind (y ∷ ys) u = go (y == 45) refl
  where
    go : (b : Bool) → (y == 45) ≡ b → SeenAs (45 ∷ y ∷ ys) (cond b (cond (length ys == 0) all_positional (option_in ys)) refused)
    go true e = subst (λ x. SeenAs (45 ∷ x ∷ ys) (cond (length ys == 0) all_positional (option_in ys))) (sym (eqb-true y 45 e)) (seen_long ys)
    go false e = (
      y ∷ ys,
      λ i. e i && bytes_eq ys [],
      λ i. option_and_then long_of_rest (cond (e i) (Some ys) None),
      λ i. cond (e i) None (Some (y ∷ ys)),
      flags_begin y ys u,
      (y, ys, refl),
    )

pub shape_seen : (word : Word) → IsUtf8 word → SeenAs word (shape_of word)
shape_seen [] u = (refl, refl, refl)
shape_seen (x ∷ xs) u = go (x == 45) refl
  where
    go : (b : Bool) → (x == 45) ≡ b → SeenAs (x ∷ xs) (cond b (behind_hyphen xs) plain)
    go true e = subst (λ y. SeenAs (y ∷ xs) (behind_hyphen xs)) (sym (eqb-true x 45 e)) (seen_behind xs (subst (λ y. IsUtf8 (y ∷ xs)) (eqb-true x 45 e) u))
    go false e = (
      λ i. e i && bytes_eq xs (45 ∷ []),
      λ i. option_and_then long_of_rest
          (option_and_then (strip_byte 45) (cond (e i) (Some xs) None)),
      λ i. option_and_then short_of_rest (cond (e i) (Some xs) None),
    )
