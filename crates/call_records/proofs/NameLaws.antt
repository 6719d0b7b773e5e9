-- Names that are added to a layout in turn, and their places.
use Rattle.std.proofs.Common.{refl, sym, ap, subst, ◌∙◌, ◌≡◌, ◌+◌, ◌<◌, ◌≤◌, ℕ, suc, Bool, true, false, List, [], ◌∷◌, ◌++◌, append_assoc, append-nil, length, drop, get_or, Option, Some, None, is_some, if◌then◌else◌, arith}
use Rattle.std.specs.List.{All}
use Rattle.std.specs.Option.{option_map}
use Rattle.std.proofs.lemmas.List.{drop_more, at_drop_all}
use Rattle.std.proofs.lemmas.List.Elements.{All-nil, All-cons}
use Rattle.std.proofs.lemmas.Bool.{true≢false, false≢true}
use Rattle.std.proofs.lemmas.Option.{none-some, same_Some}
use Rattle.std.specs.Cmp.Lexicographic.{bytes_decides}
use Rattle.origin_labels.specs.Names.{same_name}
use Rattle.env_records.specs.Layouts.{LaidName, first_place}
use Rattle.es_meaning.specs.Naming.{arguments_name}
use Rattle.call_records.specs.Planned.{names, with_name, with_name_at, with_names, with_arguments_at, with_arguments_name, place_behind, arguments_place, ArePlaces, Adds}

-- ---- names in turn

-- names, and then others
pub names_append : (more others : List (List ℕ)) (ns : List LaidName) → with_names (more ++ others) ns ≡ with_names others (with_names more ns)
names_append [] others ns = refl
names_append (name ∷ more) others ns = names_append more others (with_name name ns)

pub names_then : (more others : List (List ℕ)) (old middle new : List LaidName) → middle ≡ with_names more old → new ≡ with_names others middle → new ≡ with_names (more ++ others) old
names_then more others old middle new one two = two ∙ ap (with_names others) one ∙ sym (names_append more others old)

module _ {X : Type 0} (F : List X → List (List ℕ)) (f : X → List (List ℕ)) (step : (x : X) (rest : List X) → F (x ∷ rest) ≡ f x ++ F rest) (xs : List X) (k : ℕ) where
  pub next_names : (x : X) → k < length xs → x ≡ get_or xs k x → F (drop k xs) ≡ f x ++ F (drop (k + 1) xs)
  next_names x lt is = ap F (drop_more xs k x lt ∙ ap (λ y. y ∷ drop (k + 1) xs) (sym is)) ∙ step x (drop (k + 1) xs)

  -- a loop over nodes goes on by one
  pub goes_on : (x : X) (old new whole : List LaidName) → k < length xs → x ≡ get_or xs k x → with_names (F (drop k xs)) old ≡ whole → new ≡ with_names (f x) old → with_names (F (drop (k + 1) xs)) new ≡ whole
  goes_on x old new whole lt is so_far one =
      ap (with_names (F (drop (k + 1) xs))) one ∙ sym (names_append (f x) (F (drop (k + 1) xs)) old)
      ∙ ap (λ ns. with_names ns old) (sym (next_names x lt is)) ∙ so_far

-- it ends
pub ends : {X : Type 0} (F : List X → List (List ℕ)) (xs : List X) (k : ℕ) (now whole : List LaidName) → F [] ≡ [] → length xs ≤ k → with_names (F (drop k xs)) now ≡ whole → now ≡ whole
ends F xs k now whole none le so_far = sym (ap (λ ns. with_names ns now) (at_drop_all F xs k le ∙ none)) ∙ so_far

-- ---- places

-- names keep their places
abbrev pub Keeps : List LaidName → List LaidName → Type 0
Keeps old new = (name : List ℕ) (p : ℕ) → first_place name old ≡ Some p → first_place name new ≡ Some p

place_at : (test : Bool) (o more : Option ℕ) → ((q : ℕ) → o ≡ Some q → more ≡ Some q) → (p : ℕ) → (if test then Some 0 else option_map suc o) ≡ Some p → (if test then Some 0 else option_map suc more) ≡ Some p
place_at true o more kept p is = is
place_at false None more kept p is = absurd (none-some p is)
place_at false (Some q) more kept p is = ap (option_map suc) (kept q refl) ∙ is

pub kept_append : (ns more : List LaidName) → Keeps ns (ns ++ more)
kept_append [] more name p is = absurd (none-some p is)
kept_append (n ∷ ns) more name p is = place_at (same_name n.name name) (first_place name ns) (first_place name (ns ++ more)) (λ q here. kept_append ns more name q here) p is

kept_at : (o : Option ℕ) (name : List ℕ) (ns : List LaidName) → Keeps ns (with_name_at o name ns)
kept_at None name ns = kept_append ns (names true name)
kept_at (Some q) name ns = λ other p is. is

pub kept_names : (more : List (List ℕ)) (ns : List LaidName) → Keeps ns (with_names more ns)
kept_names [] ns other p is = is
kept_names (name ∷ more) ns other p is = kept_names more (with_name name ns) other p (kept_at (first_place name ns) name ns other p is)

kept_arguments_at : (o : Option ℕ) (ns : List LaidName) → Keeps ns (with_arguments_at o ns)
kept_arguments_at None ns = kept_append ns (names false arguments_name)
kept_arguments_at (Some q) ns = λ other p is. is

pub kept_arguments : (named : Bool) (ns : List LaidName) → Keeps ns (with_arguments_name named ns)
kept_arguments true ns = kept_arguments_at (first_place arguments_name ns) ns
kept_arguments false ns = λ other p is. is

pub are_kept : (old new : List LaidName) → Keeps old new → (more : List (List ℕ)) (places : List ℕ) → ArePlaces old more places → ArePlaces new more places
are_kept old new keeps [] [] are = tt
are_kept old new keeps [] (p ∷ ps) are = absurd are
are_kept old new keeps (name ∷ more) [] are = absurd are
are_kept old new keeps (name ∷ more) (p ∷ ps) are = (keeps name p are.0, are_kept old new keeps more ps are.1)

one_more : (ns : List LaidName) (name : List ℕ) (p : ℕ) → first_place name ns ≡ Some p → (more : List (List ℕ)) (places : List ℕ) → ArePlaces ns more places → ArePlaces ns (more ++ name ∷ []) (places ++ p ∷ [])
one_more ns name p is [] [] are = (is, tt)
one_more ns name p is [] (q ∷ qs) are = absurd are
one_more ns name p is (n ∷ more) [] are = absurd are
one_more ns name p is (n ∷ more) (q ∷ qs) are = (are.0, one_more ns name p is more qs are.1)

pub same_self : (name : List ℕ) → same_name name name ≡ true
same_self name = (bytes_decides name name).1 refl

fresh_at : (test : Bool) (o : Option ℕ) (more : Option ℕ) (n : ℕ) → (o ≡ None → more ≡ Some n) → (if test then Some 0 else option_map suc o) ≡ None → (if test then Some 0 else option_map suc more) ≡ Some (suc n)
fresh_at true o more n rest none = absurd (none-some 0 (sym none))
fresh_at false None more n rest none = ap (option_map suc) (rest refl)
fresh_at false (Some q) more n rest none = absurd (none-some (suc q) (sym none))

-- a name that has no place gets the one at the end
pub fresh_place : (name : List ℕ) (mutable : Bool) (ns : List LaidName) → first_place name ns ≡ None → first_place name (ns ++ names mutable name) ≡ Some (length ns)
fresh_place name mutable [] none = ap (λ (b : Bool). if b then Some 0 else None) (same_self name)
fresh_place name mutable (n ∷ ns) none = fresh_at (same_name n.name name) (first_place name ns) (first_place name (ns ++ names mutable name)) (length ns) (λ here. fresh_place name mutable ns here) none

-- ---- the name `arguments`

module _ (named : Bool) (ns : List LaidName) (text : List ℕ) (o : Option ℕ) (is_named : named ≡ true) (spelled : text ≡ arguments_name) (placed : o ≡ first_place text ns) where
  names_at : with_arguments_name named ns ≡ with_arguments_at o ns
  names_at = ap (λ b. with_arguments_name b ns) is_named ∙ ap (λ p. with_arguments_at p ns) (sym (placed ∙ ap (λ t. first_place t ns) spelled))

  place_at_names : arguments_place named ns ≡ place_behind o ns
  place_at_names = ap (λ b. arguments_place b ns) is_named ∙ ap (λ p. place_behind p ns) (sym (placed ∙ ap (λ t. first_place t ns) spelled))

  -- it is there already
  pub arguments_stay : is_some o ≡ true → ns ≡ with_arguments_name named ns
  arguments_stay some = sym (names_at ∙ stay o some)
    where
      stay : (p : Option ℕ) → is_some p ≡ true → with_arguments_at p ns ≡ ns
      stay None some = absurd (false≢true some)
      stay (Some q) some = refl

  pub arguments_elsewhere : is_some o ≡ true → None ≡ arguments_place named ns
  arguments_elsewhere some = sym (place_at_names ∙ elsewhere o some)
    where
      elsewhere : (p : Option ℕ) → is_some p ≡ true → place_behind p ns ≡ None
      elsewhere None some = absurd (false≢true some)
      elsewhere (Some q) some = refl

  -- it is added
  pub arguments_added : (new : List LaidName) → is_some o ≡ false → new ≡ ns ++ names false text → new ≡ with_arguments_name named ns
  arguments_added new none more = more ∙ ap (λ t. ns ++ names false t) spelled ∙ sym (names_at ∙ added o none)
    where
      added : (p : Option ℕ) → is_some p ≡ false → with_arguments_at p ns ≡ ns ++ names false arguments_name
      added None none = refl
      added (Some q) none = absurd (true≢false none)

  pub arguments_at_end : (place : ℕ) → is_some o ≡ false → place ≡ length ns → Some place ≡ arguments_place named ns
  arguments_at_end place none last = ap Some last ∙ sym (place_at_names ∙ at_end o none)
    where
      at_end : (p : Option ℕ) → is_some p ≡ false → place_behind p ns ≡ Some (length ns)
      at_end None none = refl
      at_end (Some q) none = absurd (true≢false none)

-- ---- names with their places

pub adds_none : (ns : List LaidName) (ps : List ℕ) → Adds [] ns ns ps ps
adds_none ns ps = record { names = refl; places = λ before are. subst (λ all. ArePlaces ns all ps) (sym (append-nil before)) are }

pub adds_one : (name : List ℕ) (old new : List LaidName) (ps qs : List ℕ) (p : ℕ) → new ≡ with_name name old → first_place name new ≡ Some p → qs ≡ ps ++ p ∷ [] → Adds (name ∷ []) old new ps qs
adds_one name old new ps qs p named is more = record {
  names = named;
  places = λ before are. subst (λ all. ArePlaces new (before ++ name ∷ []) all) (sym more) (one_more new name p is before ps (are_kept old new (subst (Keeps old) (sym named) (kept_names (name ∷ []) old)) before ps are));
}

pub adds_then : (more others : List (List ℕ)) (old middle new : List LaidName) (ps qs rs : List ℕ) → Adds more old middle ps qs → Adds others middle new qs rs → Adds (more ++ others) old new ps rs
adds_then more others old middle new ps qs rs one two = record {
  names = names_then more others old middle new one.names two.names;
  places = λ before are. subst (λ all. ArePlaces new all rs) (append_assoc before more others) (two.places (before ++ more) (one.places before are));
}

-- what is added by the rest of a loop, and what by all of it
abbrev pub Leads : List (List ℕ) → List (List ℕ) → List LaidName → List LaidName → List ℕ → List ℕ → Type 0
Leads rest all now first ps qs = (new : List LaidName) (rs : List ℕ) → Adds rest now new ps rs → Adds all first new qs rs

module _ {X : Type 0} (F : List X → List (List ℕ)) (xs : List X) (k : ℕ) (all : List (List ℕ)) (first now : List LaidName) (qs ps : List ℕ) where
  pub adds_next : (f : X → List (List ℕ)) (step : (x : X) (rest : List X) → F (x ∷ rest) ≡ f x ++ F rest) (x : X) (next : List LaidName) (os : List ℕ) → k < length xs → x ≡ get_or xs k x → Leads (F (drop k xs)) all now first ps qs
      → Adds (f x) now next ps os → Leads (F (drop (k + 1) xs)) all next first os qs
  adds_next f step x next os lt is so_far one = λ new rs adds.
      so_far new rs (subst (λ more. Adds more now new ps rs) (sym (next_names F f step xs k x lt is)) (adds_then (f x) (F (drop (k + 1) xs)) now next new ps os rs one adds))

  pub adds_all : F [] ≡ [] → length xs ≤ k → Leads (F (drop k xs)) all now first ps qs → Adds all first now qs ps
  adds_all none le so_far = so_far now ps (subst (λ more. Adds more now now ps ps) (sym (at_drop_all F xs k le ∙ none)) (adds_none now ps))

-- ---- places are within

within_at : (test : Bool) (o : Option ℕ) (p n : ℕ) → ((q : ℕ) → o ≡ Some q → q < n) → (if test then Some 0 else option_map suc o) ≡ Some p → p < suc n
within_at true o p n rest is = let e = same_Some 0 p is in omega arith
within_at false None p n rest is = absurd (none-some p is)
within_at false (Some q) p n rest is = let e = same_Some (suc q) p is in let lt = rest q refl in omega arith

pub place_within : (name : List ℕ) (ns : List LaidName) (p : ℕ) → first_place name ns ≡ Some p → p < length ns
place_within name [] p is = absurd (none-some p is)
place_within name (n ∷ ns) p is = within_at (same_name n.name name) (first_place name ns) p (length ns) (λ q here. place_within name ns q here) is

pub places_within : (ns : List LaidName) (more : List (List ℕ)) (ps : List ℕ) → ArePlaces ns more ps → All (λ p. p < length ns) ps
places_within ns [] [] are = All-nil (λ p. p < length ns)
places_within ns [] (p ∷ ps) are = absurd are
places_within ns (name ∷ more) [] are = absurd are
places_within ns (name ∷ more) (p ∷ ps) are = All-cons (λ p. p < length ns) p ps (place_within name ns p are.0) (places_within ns more ps are.1)
