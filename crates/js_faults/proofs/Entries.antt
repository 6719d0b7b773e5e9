-- Parameters and properties as entries: what is told of the entries is what is told of them.
use Rattle.std.proofs.Common.{refl, sym, ap, ◌∙◌, ◌≡◌, suc, Bool, true, false, cond, not, ◌==◌, ◌&&◌, ◌||◌, List, [], ◌∷◌, ◌++◌, length, map, Option}
use Rattle.std.specs.List.{list_any, filter}
use Rattle.std.specs.Str.{bytes_eq}
use Rattle.std.proofs.Math.Bool.{and-true}
use Rattle.std.proofs.lemmas.Cmp.{nat_list_eq_equiv}
use Rattle.std.proofs.lemmas.List.{map-append}
use Rattle.js_ast.specs.declared.trees.Ident as held_ident
use Rattle.js_ast.specs.declared.trees.Property as held
use Rattle.js_ast.specs.Trees.{Ident, Property}
use Rattle.js_ast.specs.Views.{view_ident, view_idents, view_property}
use Rattle.js_faults.specs.declared.fault.EarlyError.{EarlyError}
use Rattle.js_faults.specs.declared.fault.EarlyErrorKind.TheVariants as kind
use Rattle.js_faults.specs.Early.{fault_if, has_text, of_bound, of_parameters, same_key, is_pair, clashes, place_of_property, of_repeated, of_properties}
use Rattle.js_faults.specs.Faults.{earlier, first_of}
use Rattle.js_faults.specs.Ordered.{Entry, name_entry, property_entry, of_each, one_key, conflicts, of_repeats}
use Rattle.js_faults.proofs.Alike.{earlier_comm}
use Rattle.js_faults.proofs.Repeated.{seen}
use Rattle.js_faults.proofs.Told.{earlier_assoc, first_of_append}

map_map : {X Y Z : Type 0} (f : X → Y) (g : Y → Z) (xs : List X) → map g (map f xs) ≡ map (λ x. g (f x)) xs
map_map f g [] = refl
map_map f g (x ∷ xs) = ap (λ ys. g (f x) ∷ ys) (map_map f g xs)

-- ---- parameters

-- a parameter clashes where the name stands in front of it
name_clashes : (all : List Entry) (i : Ident) (front : List Ident) → list_any (conflicts all (name_entry i)) (map name_entry front) ≡ has_text i.text front
name_clashes all i [] = refl
name_clashes all i (j ∷ js) = ap (λ b. b || list_any (conflicts all (name_entry i)) (map name_entry js)) (and-true (bytes_eq i.text j.text) ∙ nat_list_eq_equiv.symm i.text j.text)
    ∙ ap (λ b. bytes_eq j.text i.text || b) (name_clashes all i js)

-- of four in two pairs the middle ones change places
crossed : (a b c d : Option EarlyError) → earlier (earlier a b) (earlier c d) ≡ earlier a (earlier c (earlier b d))
crossed a b c d = sym (earlier_assoc a b (earlier c d)) ∙ ap (earlier a) (earlier_assoc b c d ∙ ap (λ x. earlier x d) (earlier_comm b c) ∙ sym (earlier_assoc c b d))

names_apart : (all : List Entry) (front is : List Ident)
    → earlier (first_of (of_each is)) (first_of (of_repeats kind.RepeatedParameter all (map name_entry front) (map name_entry is))) ≡ first_of (of_parameters front is)
unfolding of_repeats of_parameters
names_apart all front [] = refl
names_apart all front (i ∷ is) =
    rw (
      name_clashes all i front,
      ← map-append name_entry front (i ∷ []),
      first_of_append (of_bound i) (of_each is),
      first_of_append (fault_if (has_text i.text front) i.at kind.RepeatedParameter) (of_repeats kind.RepeatedParameter all (map name_entry (front ++ i ∷ [])) (map name_entry is)),
      first_of_append (of_bound i) (fault_if (has_text i.text front) i.at kind.RepeatedParameter ++ of_parameters (front ++ i ∷ []) is),
      first_of_append (fault_if (has_text i.text front) i.at kind.RepeatedParameter) (of_parameters (front ++ i ∷ []) is),
      ← names_apart all (front ++ i ∷ []) is,
    )
    (crossed (first_of (of_bound i)) (first_of (of_each is)) (first_of (fault_if (has_text i.text front) i.at kind.RepeatedParameter)) (first_of (of_repeats kind.RepeatedParameter all (map name_entry (front ++ i ∷ [])) (map name_entry is))))

pub parameters_are : (names : List held_ident.Ident)
    → earlier (first_of (of_each (view_idents names))) (first_of (of_repeats kind.RepeatedParameter (map (λ i. name_entry (view_ident i)) names) [] (map (λ i. name_entry (view_ident i)) names))) ≡ first_of (of_parameters [] (view_idents names))
parameters_are names = rw (← map_map view_ident name_entry names) (names_apart (map name_entry (view_idents names)) [] (view_idents names))

-- ---- properties

length_filter : {X Y : Type 0} (test : Y → Bool) (f : X → Y) (xs : List X) → length (filter test (map f xs)) ≡ length (filter (λ x. test (f x)) xs)
length_filter {X} {Y} test f [] = refl
length_filter {X} {Y} test f (x ∷ xs) = both (test (f x)) (filter test (map f xs)) (filter (λ x. test (f x)) xs) (length_filter test f xs)
  where
    both : (b : Bool) (ys : List Y) (zs : List X) → length ys ≡ length zs → length (cond b (f x ∷ ys) ys) ≡ length (cond b (x ∷ zs) zs)
    both true ys zs e = ap suc e
    both false ys zs e = e

any_mapped : {X Y : Type 0} (test : Y → Bool) (f : X → Y) (xs : List X) → list_any test (map f xs) ≡ list_any (λ x. test (f x)) xs
any_mapped test f [] = refl
any_mapped test f (x ∷ xs) = ap (λ b. test (f x) || b) (any_mapped test f xs)

property_clashes : (all : List Property) (p : Property) (front : List Property) → list_any (conflicts (map property_entry all) (property_entry p)) (map property_entry front) ≡ list_any (clashes all p) front
property_clashes all p front = any_mapped (conflicts (map property_entry all) (property_entry p)) property_entry front
    ∙ ap (λ n. list_any (λ q. same_key p q && (not (is_pair p q) || not (n == 2))) front) (length_filter (one_key (property_entry p)) property_entry all)

repeats_are : (all front ps : List Property) → of_repeats kind.RepeatedProperty (map property_entry all) (map property_entry front) (map property_entry ps) ≡ of_repeated all front ps
unfolding of_repeats of_repeated
repeats_are all front [] = refl
repeats_are all front (p ∷ ps) =
    rw (property_clashes all p front, ← map-append property_entry front (p ∷ []))
    (ap (λ fs. fault_if (list_any (clashes all p) front) (place_of_property p) kind.RepeatedProperty ++ fs) (repeats_are all (front ++ p ∷ []) ps))

entries_seen : (ps : List held.Property) → map (λ p. property_entry (view_property p)) ps ≡ map property_entry (seen ps)
entries_seen [] = refl
entries_seen (p ∷ ps) = ap (λ es. property_entry (view_property p) ∷ es) (entries_seen ps)

pub properties_are : (ps : List held.Property)
    → first_of (of_repeats kind.RepeatedProperty (map (λ p. property_entry (view_property p)) ps) [] (map (λ p. property_entry (view_property p)) ps)) ≡ first_of (of_properties (seen ps))
unfolding of_properties
properties_are ps = rw (entries_seen ps) (ap first_of (repeats_are (seen ps) [] (seen ps)))
