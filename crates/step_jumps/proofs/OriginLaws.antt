-- The origins that names tell.
use Rattle.std.proofs.Common.{if◌then◌else◌, ◌≡◌, ℕ, ◌<◌, true, false, List, [], ◌∷◌, length, map, Option, Some, None, refl, ap, sym, ◌∙◌}
use Rattle.std.specs.List.{slice_split}
use Rattle.std.specs.Option.{option_map}
use Rattle.std.proofs.lemmas.List.Quantifiers.{position-Some}
use Rattle.std.proofs.lemmas.Option.{none-some, same_Some}
use Rattle.origin_labels.specs.Label.{Label, IsLabel, union, single, label_of}
use Rattle.origin_labels.specs.Label as X
use Rattle.origin_labels.specs.Names.{place_of, same_name}
use Rattle.origin_labels.proofs.LabelLaws.{IsLabel-label_of, with_origin-union, union-assoc, union-bottom_left}
use Rattle.flow_lists.specs.Lists.{is_bare, is_comma, names_in}
use Rattle.flow_policy.specs.Inputs.{Given}
use Rattle.flow_policy.specs.Policies.{Tables}
use Rattle.js_number.specs.declared.primitive.Primitive.TheVariants.{Str}
use Rattle.js_values.specs.declared.value.Value.{Value}
use Rattle.js_values.specs.declared.value.Value.TheVariants.{Primitive}
use Rattle.es_meaning.specs.Plain.{and_origin, origins_of}
use Rattle.flow_meaning.specs.Tracked.{named_origins}

-- a name that is found is in the list
pub place_within : (name : List ℕ) (names : List (List ℕ)) (i : ℕ) → place_of name names ≡ Some i → i < length names
unfolding place_of
place_within name (x ∷ names) i e = (position-Some (λ other. same_name other name) (x ∷ names) i x e).0
place_within name [] i e = cc e

abbrev pub text_values : List (List ℕ) → List Value
text_values names = map (λ name. Primitive (Str name)) names

-- the set so far with the origins of the names that are left
abbrev pub with_left : Label → List (List ℕ) → List (List ℕ) → Option Label
with_left so_far origins left = option_map (union so_far) (option_map label_of (origins_of origins (text_values left)))

-- and with the origin of one
abbrev pub with_one : Label → List (List ℕ) → List ℕ → Option Label
with_one so_far origins name = option_map (λ o. union so_far (single o)) (place_of name origins)

none_so_far : (found : Option (List ℕ)) → option_map (union []) (option_map label_of found) ≡ option_map label_of found
none_so_far (Some os) = ap Some (union-bottom_left (label_of os))
none_so_far None = refl

pub names_begin : (so_far : Label) (origins names : List (List ℕ)) → so_far ≡ [] → with_left so_far origins names ≡ option_map label_of (origins_of origins (text_values names))
names_begin so_far origins names e = ap (λ l. with_left l origins names) e ∙ none_so_far (origins_of origins (text_values names))

one_more : (so_far : Label) (o : ℕ) (found : Option (List ℕ)) → option_map (union so_far) (option_map label_of (and_origin (Some o) found)) ≡ option_map (union (union so_far (single o))) (option_map label_of found)
unfolding label_of
one_more so_far o (Some os) = ap Some (ap (union so_far) (with_origin-union o (label_of os)) ∙ sym (union-assoc so_far (single o) (label_of os) (IsLabel-label_of os)))
one_more so_far o None = refl

unnamed : (so_far : Label) (found : Option (List ℕ)) → option_map (union so_far) (option_map label_of (and_origin None found)) ≡ None
unnamed so_far (Some os) = refl
unnamed so_far None = refl

after_one : (so_far next : Label) (place : Option ℕ) (found : Option (List ℕ)) → Some next ≡ option_map (λ o. union so_far (single o)) place → option_map (union next) (option_map label_of found) ≡ option_map (union so_far) (option_map label_of (and_origin place found))
after_one so_far next (Some o) found e = let same : next ≡ union so_far (single o) = cc e in ap (λ l. option_map (union l) (option_map label_of found)) same ∙ sym (one_more so_far o found)
after_one so_far next None found e = cc e

pub names_more : (so_far next : Label) (origins : List (List ℕ)) (name : List ℕ) (left rest : List (List ℕ)) → left ≡ name ∷ rest → Some next ≡ with_one so_far origins name → with_left next origins rest ≡ with_left so_far origins left
unfolding place_of
names_more so_far next origins name left rest e named =
    after_one so_far next (place_of name origins) (origins_of origins (text_values rest)) named ∙ ap (with_left so_far origins) (sym e)

after_none : (so_far : Label) (place : Option ℕ) (found : Option (List ℕ)) → None ≡ option_map (λ o. union so_far (single o)) place → None ≡ option_map (union so_far) (option_map label_of (and_origin place found))
after_none so_far (Some o) found e = cc e
after_none so_far None found e = sym (unnamed so_far found)

pub names_unknown : (so_far : Label) (origins : List (List ℕ)) (name : List ℕ) (left rest : List (List ℕ)) → left ≡ name ∷ rest → None ≡ with_one so_far origins name → None ≡ with_left so_far origins left
unfolding place_of
names_unknown so_far origins name left rest e unknown =
    after_none so_far (place_of name origins) (origins_of origins (text_values rest)) unknown ∙ ap (with_left so_far origins) (sym e)

one_alone : (o : ℕ) → single o ≡ label_of (o ∷ [])
unfolding label_of X.with_origin
one_alone o = refl

last_one : (so_far : Label) (place : Option ℕ) → option_map (λ o. union so_far (single o)) place ≡ option_map (union so_far) (option_map label_of (and_origin place (Some [])))
last_one so_far (Some o) = ap (λ l. Some (union so_far l)) (one_alone o)
last_one so_far None = refl

pub names_last : (so_far : Label) (origins : List (List ℕ)) (name : List ℕ) (left : List (List ℕ)) (found : Option Label) → left ≡ name ∷ [] → found ≡ with_one so_far origins name → found ≡ with_left so_far origins left
unfolding place_of
names_last so_far origins name left found e is = is ∙ last_one so_far (place_of name origins) ∙ ap (with_left so_far origins) (sym e)

-- ---- the names of a list

pub bare_names : (tables : Tables) (inputs : Given) (list : List ℕ) (so_far : Label) → so_far ≡ [] → is_bare list ≡ true → Some so_far ≡ option_map label_of (named_origins tables inputs (names_in list))
unfolding names_in label_of
bare_names tables inputs list so_far e bare = ap Some e ∙ sym (ap (λ b. option_map label_of (named_origins tables inputs (if b then [] else slice_split is_comma list))) bare)

pub split_names : (tables : Tables) (inputs : Given) (list : List ℕ) (origins : List (List ℕ)) → origins ≡ tables.origins → is_bare list ≡ false → option_map label_of (origins_of origins (text_values (slice_split is_comma list))) ≡ option_map label_of (named_origins tables inputs (names_in list))
unfolding names_in
split_names tables inputs list origins same split =
    ap (λ os. option_map label_of (origins_of os (text_values (slice_split is_comma list)))) same
    ∙ sym (ap (λ b. option_map label_of (named_origins tables inputs (if b then [] else slice_split is_comma list))) split)

-- ---- whether each name is known

pub all_known : (found : Option (List ℕ)) (l : Label) → Some l ≡ option_map label_of found → (os : List ℕ) × (found ≡ Some os) × (l ≡ label_of os)
all_known (Some os) l e = (os, refl, same_Some l (label_of os) e)
all_known None l e = absurd (none-some l (sym e))

pub one_unknown : (found : Option (List ℕ)) → None ≡ option_map label_of found → found ≡ None
one_unknown (Some os) e = absurd (none-some (label_of os) e)
one_unknown None e = refl
