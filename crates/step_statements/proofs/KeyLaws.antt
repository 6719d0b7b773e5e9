-- Keys that lie on a stack as texts, above the object that has them.
use Rattle.std.proofs.Common.{refl, ap, ◌∙◌, ◌≡◌, ◌<◌, ◌+◌, ℕ, zero, suc, List, [], ◌∷◌, ◌++◌, map, take, length, get_or, reverse, arith}
use Rattle.std.specs.List.{All}
use Rattle.std.proofs.lemmas.List.{map-append, reverse-append, reverse-reverse, length-map, length-reverse}
use Rattle.std.proofs.lemmas.List.Elements.{All-cons, All-nil}
use Rattle.origin_labels.specs.Label.{Label}
use Rattle.js_number.specs.declared.primitive.Primitive.TheVariants.{Str}
use Rattle.js_values.specs.declared.value.Labelled.{Labelled}
use Rattle.js_values.specs.declared.value.Value.TheVariants as value
use Rattle.js_values.specs.Readings.{HasValue, read_value}
use Rattle.es_meaning.specs.Plain.{key_text}
use Rattle.flow_meaning.specs.Scopes.{Val}
use Rattle.continuations.specs.Pending.{keys_left, texts_of}
use Rattle.continuations.specs.Shapes.{nth}
use Rattle.step_statements.specs.Visiting.{laid_keys}

-- what stands at a place of values stands there in equal ones
pub read_there : {X : Type 0} (xs ys : List X) (i : ℕ) (v : X) → v ≡ get_or xs i v → xs ≡ ys → get_or xs i v ≡ get_or ys i (get_or xs i v)
read_there xs ys i v is same = ap (λ d. get_or xs i d) is ∙ ap (λ vs. get_or vs i (get_or xs i v)) same

-- ---- the uppermost one

split_last : (m : ℕ) (vs : List Val) → length vs ≡ m + 1 → vs ≡ take m vs ++ nth m vs ∷ []
split_last m [] size = absurd (omega (arith, size))
split_last zero (v ∷ []) size = refl
split_last zero (v ∷ u ∷ vs) size = absurd (omega (arith, size))
split_last (suc m) (v ∷ vs) size = ap (λ us. v ∷ us) (split_last m vs (omega (arith, size)))

-- it is the first key that is left
first_text : (m : ℕ) (vs : List Val) → length vs ≡ m + 1 → reverse (texts_of vs) ≡ key_text (nth m vs).value ∷ reverse (texts_of (take m vs))
first_text m vs size =
    let k = nth m vs in
    ap (λ us. reverse (texts_of us)) (split_last m vs size)
    ∙ ap reverse (map-append (λ (v : Val). key_text v.value) (take m vs) (k ∷ []))
    ∙ reverse-append (texts_of (take m vs)) (texts_of (k ∷ []))

pub next_left : (left : ℕ) (vs : List Val) → 0 < left → length vs ≡ left + 1 → keys_left vs ≡ key_text (nth left vs).value ∷ keys_left (take left vs)
next_left zero vs some size = absurd (omega (arith, some))
next_left (suc m) [] some size = absurd (omega (arith, size))
next_left (suc m) (o ∷ vs) some size = first_text m vs (omega (arith, size))

-- no key lies there
pub none_left : (vs : List Val) → length vs ≡ 1 → keys_left vs ≡ []
none_left [] size = refl
none_left (v ∷ []) size = refl
none_left (v ∷ u ∷ vs) size = absurd (omega (arith, size))

-- the object lies below those that are left
pub object_below : (left : ℕ) (vs : List Val) → 0 < left → nth 0 (take left vs) ≡ nth 0 vs
object_below zero vs some = absurd (omega (arith, some))
object_below (suc m) [] some = refl
object_below (suc m) (v ∷ vs) some = refl

module _ {T : Type 0} (reading : T → Label) where
  -- one of values in a reading
  pub nth_read : (vs : List (Labelled T)) (i : ℕ) (d : Labelled T) → i < length vs → nth i (map (read_value reading) vs) ≡ read_value reading (get_or vs i d)
  nth_read [] i d fits = absurd (omega (arith, fits))
  nth_read (v ∷ vs) zero d fits = refl
  nth_read (v ∷ vs) (suc i) d fits = nth_read vs i d (omega (arith, fits))

  texts_laid : (none : T) (keys : List (List ℕ)) → texts_of (map (read_value reading) (map (λ key. record { value = value.Primitive (Str key); label = none }) keys)) ≡ keys
  texts_laid none [] = refl
  texts_laid none (key ∷ keys) = ap (λ ks. key ∷ ks) (texts_laid none keys)

  -- keys that were laid are left
  pub left_laid : (object : Labelled T) (none : T) (keys : List (List ℕ)) → keys_left (map (read_value reading) (object ∷ laid_keys none keys)) ≡ keys
  left_laid object none keys = ap reverse (texts_laid none (reverse keys)) ∙ reverse-reverse keys

module _ {T : Type 0} where
  texts_have : (made : T → Type 0) (none : T) (keys : List (List ℕ)) → made none → All (HasValue made) (map (λ key. record { value = value.Primitive (Str key); label = none }) keys)
  texts_have made none [] has = All-nil (HasValue made)
  texts_have made none (key ∷ keys) has = All-cons (HasValue made) (record { value = value.Primitive (Str key); label = none }) _ has (texts_have made none keys has)

  pub laid_has : (made : T → Type 0) (none : T) (keys : List (List ℕ)) → made none → All (HasValue made) (laid_keys none keys)
  laid_has made none keys has = texts_have made none (reverse keys) has

  pub length_laid : (none : T) (keys : List (List ℕ)) → length (laid_keys none keys) ≡ length keys
  length_laid none keys = length-map (reverse keys) (λ key. record { value = value.Primitive (Str key); label = none }) ∙ length-reverse keys

  -- the last key is laid, and those before it are to be laid
  pub laid_last : (none : T) (front : List (List ℕ)) (last : List ℕ) → laid_keys none (front ++ last ∷ []) ≡ record { value = value.Primitive (Str last); label = none } ∷ laid_keys none front
  laid_last none front last = ap (λ ks. map (λ key. record { value = value.Primitive (Str key); label = none }) ks) (reverse-append front (last ∷ []))
