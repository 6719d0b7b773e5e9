-- Properties with the key of an earlier one.
use Rattle.std.proofs.Common.{refl, sym, ap, ◌∙◌, ◌≡◌, ◌<◌, ◌^◌, ◌||◌, suc, ℕ, Bool, true, false, cond, nat_eq, List, [], ◌∷◌, ◌++◌, length, ℤ, w64, of_z, to_z}
use Rattle.std.specs.Str.{bytes_eq}
use Rattle.std.specs.List.{filter, list_any}
use Rattle.std.specs.Fmt.{signed_decimal}
use Rattle.std.proofs.lemmas.Fmt.{signed_decimal_injective}
use Rattle.std.proofs.lemmas.Int.{to_z-of_z}
use Rattle.std.proofs.lemmas.Slice.Eq.{bytes_eq-Decides}
use Rattle.std.proofs.lemmas.Bool.Decides.{same_from_decides, Decides-eqb, Decides-like}
use lib.Signed.{mag}
use Rattle.js_ast.specs.declared.trees.Key.{Key}
use Rattle.js_ast.specs.declared.trees.Property as held
use Rattle.js_ast.specs.declared.trees.PropertyKind.{PropertyKind}
use Rattle.js_ast.specs.declared.trees.PropertyKind as held_kind
use Rattle.js_ast.specs.Trees.{Property}
use Rattle.js_ast.specs.Keys.{key_text}
use Rattle.js_ast.specs.Views.{view_key, view_property_kind, view_property, view_properties}
use Rattle.js_faults.specs.declared.fault.EarlyErrorKind.TheVariants as kind
use Rattle.js_faults.specs.Early.{fault_if, key_of, clashes, place_of_property, property_list, of_repeated}
use Rattle.js_faults.specs.Faults.{earlier, first_of}
use Rattle.js_faults.proofs.Told.{first_of_append}

-- numbers that are written in one way are one
pub same_number : (m n : ℤ) → mag m < 2 ^ 63 → mag n < 2 ^ 63 → nat_eq (of_z w64 m) (of_z w64 n) ≡ bytes_eq (signed_decimal m) (signed_decimal n)
same_number m n fm fn = same_from_decides (nat_eq (of_z w64 m) (of_z w64 n)) (bytes_eq (signed_decimal m) (signed_decimal n))
    (Decides-like (nat_eq (of_z w64 m) (of_z w64 n)) (λ e. sym (to_z-of_z w64 m (record { sfits = fm })) ∙ ap (to_z w64) e ∙ to_z-of_z w64 n (record { sfits = fn })) (ap (of_z w64)) (Decides-eqb (of_z w64 m) (of_z w64 n)))
    (Decides-like (bytes_eq (signed_decimal m) (signed_decimal n)) (signed_decimal_injective m n fm fn) (ap signed_decimal) (bytes_eq-Decides (signed_decimal m) (signed_decimal n)))

-- properties as they are held
abbrev pub seen : List held.Property → List Property
seen ps = property_list (view_properties ps)

pub seen_append : (ps qs : List held.Property) → seen (ps ++ qs) ≡ seen ps ++ seen qs
seen_append [] qs = refl
seen_append (p ∷ ps) qs = ap (λ more. view_property p ∷ more) (seen_append ps qs)

-- those that pass a test
pub seen_filter : (test : Property → Bool) (ps : List held.Property) → length (filter (λ p. test (view_property p)) ps) ≡ length (filter test (seen ps))
seen_filter test [] = refl
seen_filter test (p ∷ ps) = both (test (view_property p)) (filter (λ p. test (view_property p)) ps) (filter test (seen ps)) (seen_filter test ps)
  where
    both : (b : Bool) (qs : List held.Property) (rs : List Property) → length qs ≡ length rs → length (cond b (p ∷ qs) qs) ≡ length (cond b (view_property p ∷ rs) rs)
    both true qs rs e = ap suc e
    both false qs rs e = e

pub seen_any : (test : Property → Bool) (ps : List held.Property) → list_any (λ p. test (view_property p)) ps ≡ list_any test (seen ps)
seen_any test [] = refl
seen_any test (p ∷ ps) = ap (λ b. test (view_property p) || b) (seen_any test ps)

-- what is told of a property behind others
pub repeated_step : (all : List Property) (front : List held.Property) (p : held.Property) (ps : List held.Property) → first_of (of_repeated all (seen front) (seen (p ∷ ps)))
    ≡ earlier (first_of (fault_if (list_any (clashes all (view_property p)) (seen front)) (place_of_property (view_property p)) kind.RepeatedProperty)) (first_of (of_repeated all (seen (front ++ p ∷ [])) (seen ps)))
unfolding of_repeated
repeated_step all front p ps = rw (seen_append front (p ∷ []))
    (first_of_append (fault_if (list_any (clashes all (view_property p)) (seen front)) (place_of_property (view_property p)) kind.RepeatedProperty) (of_repeated all (seen front ++ view_property p ∷ []) (seen ps)))

pub place_seen : (at : ℕ) (k : Key) (kind : PropertyKind) → at ≡ place_of_property (view_property_kind at k kind)
place_seen at k (held_kind.Value' a q e) = refl
place_seen at k (held_kind.Getter f) = refl
place_seen at k (held_kind.Setter f) = refl

pub key_seen : (at : ℕ) (k : Key) (kind : PropertyKind) → key_text (view_key k) ≡ key_text (key_of (view_property_kind at k kind))
key_seen at k (held_kind.Value' a q e) = refl
key_seen at k (held_kind.Getter f) = refl
key_seen at k (held_kind.Setter f) = refl

pub repeated_told : (all : List Property) (front : List held.Property) (p : held.Property) (repeated : Bool) → repeated ≡ list_any (λ q. clashes all (view_property p) (view_property q)) front
    → first_of (fault_if repeated p.at kind.RepeatedProperty) ≡ first_of (fault_if (list_any (clashes all (view_property p)) (seen front)) (place_of_property (view_property p)) kind.RepeatedProperty)
repeated_told all front p repeated e = ap (λ b. first_of (fault_if b p.at kind.RepeatedProperty)) (e ∙ seen_any (clashes all (view_property p)) front)
    ∙ ap (λ n. first_of (fault_if (list_any (clashes all (view_property p)) (seen front)) n kind.RepeatedProperty)) (place_seen p.at p.key p.kind)

pub none_repeated : (all front : List Property) → of_repeated all front [] ≡ []
unfolding of_repeated
none_repeated all front = refl
