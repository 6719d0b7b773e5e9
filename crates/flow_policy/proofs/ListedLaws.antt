-- Numbers of the names of a list, and the label that they make.
use Rattle.std.proofs.Common.{arith, refl, sym, ap, ◌∙◌, subst, ◌≡◌, ◌<◌, ◌+◌, ℕ, Bool, true, false, nat_lt, lt-ltb, not, List, [], ◌∷◌, ◌++◌, length, All, Option, Some, None, Ok, Err, append_assoc, length-append}
use Rattle.std.specs.List.{slice_split, position, position_or_len}
use Rattle.std.specs.Option.{unwrap_or}
use Rattle.std.proofs.lemmas.Bool.{cond-true, cond-false, le-ltb}
use Rattle.std.proofs.lemmas.List.{length_push, length-map, append-nil}
use Rattle.std.proofs.lemmas.List.Elements.{All-nil, All-push}
use Rattle.origin_labels.specs.Label.{Label, IsLabel, has, label_of}
use Rattle.origin_labels.specs.Names.{same_name, has_name, place_of}
use Rattle.origin_labels.proofs.LabelLaws.{has-label_of, IsLabel-label_of, same_label}
use Rattle.flow_policy.specs.declared.fault.ListFault.{ListFault}
use Rattle.flow_policy.specs.declared.fault.ListFault.TheVariants.{Form, Unknown, OutOfMemory}
use Rattle.flow_lists.specs.Lists.{is_comma, names_in, are_names}
use Rattle.flow_policy.specs.Lists.{numbers_of, label_in}
use Rattle.flow_policy.specs.Listed.{unknown_in, unless_unknown, list_of, GivesList, FindsNumber, FailsNumbers}
use Rattle.flow_lists.proofs.ListLaws.{names_in-none, names_in-some}
use Rattle.flow_policy.proofs.Marks.{place_of-has, place_of-hasnt}

-- no origin has the name
abbrev pub is_unknown : List (List ℕ) → List ℕ → Bool
is_unknown origins name = not (has_name name origins)

-- ---- the first that passes

passes_not : {X : Type 0} (p : X → Bool) (x : X) (xs : List X) → p x ≡ false → position_or_len p (x ∷ xs) ≡ 1 + position_or_len p xs
passes_not p x xs e = cond-true (not (p x)) (1 + position_or_len p xs) 0 (ap not e)

passes_here : {X : Type 0} (p : X → Bool) (x : X) (xs : List X) → p x ≡ true → position_or_len p (x ∷ xs) ≡ 0
passes_here p x xs e = cond-false (not (p x)) (1 + position_or_len p xs) 0 (ap not e)

position_is : {X : Type 0} (p : X → Bool) (xs : List X) (i : ℕ) → position_or_len p xs ≡ i → i < length xs → position p xs ≡ Some i
position_is p xs i e lt = cond-true (nat_lt (position_or_len p xs) (length xs)) (Some (position_or_len p xs)) None (lt-ltb (position_or_len p xs) (length xs) (omega arith)) ∙ ap (λ (n : ℕ). Some n) e

position_none : {X : Type 0} (p : X → Bool) (xs : List X) → position_or_len p xs ≡ length xs → position p xs ≡ None
position_none p xs e = cond-false (nat_lt (position_or_len p xs) (length xs)) (Some (position_or_len p xs)) None (le-ltb (position_or_len p xs) (length xs) (omega arith))

-- ---- the numbers of names

-- the numbers, with those of the names that are left, are those of all the names, and no other name is unknown
pub record AreNumbered (origins names left : List (List ℕ)) (numbers : List ℕ) : Type 0 where
  pub numbered : numbers ++ numbers_of origins left ≡ numbers_of origins names
  pub unknown : length numbers + position_or_len (is_unknown origins) left ≡ position_or_len (is_unknown origins) names
  pub below : All (λ number. number < length origins) numbers

pub AreNumbered-start : (origins names : List (List ℕ)) → AreNumbered origins names names []
AreNumbered-start origins names = record { numbered = refl; unknown = omega arith; below = All-nil (λ number. number < length origins) }

-- one more name has a number
pub AreNumbered-more : (origins names left : List (List ℕ)) (name : List ℕ) (numbers : List ℕ) (i : ℕ) → place_of name origins ≡ Some i → AreNumbered origins names (name ∷ left) numbers → AreNumbered origins names left (numbers ++ i ∷ [])
AreNumbered-more origins names left name numbers i at m =
    let known = place_of-has name origins i at in
    let step = passes_not (is_unknown origins) name left (ap not known.1) in
    let len = length_push numbers i in
    record {
      numbered = append_assoc numbers (i ∷ []) (numbers_of origins left) ∙ ap (λ (o : Option ℕ). numbers ++ (unwrap_or o 0 ∷ numbers_of origins left)) (sym at) ∙ m.numbered;
      unknown = omega (arith, m.unknown);
      below = All-push (λ number. number < length origins) numbers i m.below known.0;
    }

-- the first name without a number is the first that is unknown
AreNumbered-unknown : (origins names left : List (List ℕ)) (name : List ℕ) (numbers : List ℕ) → place_of name origins ≡ None → AreNumbered origins names (name ∷ left) numbers → position (is_unknown origins) names ≡ Some (length numbers)
AreNumbered-unknown origins names left name numbers none m =
    let here = passes_here (is_unknown origins) name left (ap not (place_of-hasnt name origins none)) in
    let len = ap length m.numbered in
    let parts = length-append numbers (numbers_of origins (name ∷ left)) in
    let all = length-map names (λ (n : List ℕ). unwrap_or (place_of n origins) 0) in
    position_is (is_unknown origins) names (length numbers) (omega (arith, m.unknown)) (omega arith)

AreNumbered-none : (origins names : List (List ℕ)) (numbers : List ℕ) → AreNumbered origins names [] numbers → (position (is_unknown origins) names ≡ None) × (numbers ≡ numbers_of origins names)
AreNumbered-none origins names numbers m =
    let len = ap length m.numbered in
    let parts = length-append numbers (numbers_of origins []) in
    let all = length-map names (λ (n : List ℕ). unwrap_or (place_of n origins) 0) in
    (position_none (is_unknown origins) names (omega (arith, m.unknown)), sym (append-nil numbers) ∙ m.numbered)

-- each name of a list has a number
pub numbers_done : (origins : List (List ℕ)) (list : List ℕ) (numbers : List ℕ) → same_name list (45 ∷ []) ≡ false → AreNumbered origins (slice_split is_comma list) [] numbers → (unknown_in origins list ≡ None) × (numbers ≡ numbers_of origins (names_in list))
numbers_done origins list numbers some m =
    subst (λ (names : List (List ℕ)). (position (is_unknown origins) names ≡ None) × (numbers ≡ numbers_of origins names)) (sym (names_in-some list some)) (AreNumbered-none origins (slice_split is_comma list) numbers m)

pub numbers_none : (origins : List (List ℕ)) (list : List ℕ) → same_name list (45 ∷ []) ≡ true → (unknown_in origins list ≡ None) × ([] ≡ numbers_of origins (names_in list))
numbers_none origins list none =
    subst (λ (names : List (List ℕ)). (position (is_unknown origins) names ≡ None) × ([] ≡ numbers_of origins names)) (sym (names_in-none list none)) (refl, refl)

-- the fault of a name is that of its list
pub number_fails : (fault : ListFault) (origins left : List (List ℕ)) (list name numbers : List ℕ) (which : ℕ) → which ≡ length numbers → same_name list (45 ∷ []) ≡ false → AreNumbered origins (slice_split is_comma list) (name ∷ left) numbers
    → FindsNumber (Err fault) which origins name → FailsNumbers fault (unknown_in origins list)
number_fails Form origins left list name numbers which e some m h = h
number_fails (Unknown at) origins left list name numbers which e some m h =
    ap (position (is_unknown origins)) (names_in-some list some) ∙ AreNumbered-unknown origins (slice_split is_comma list) left name numbers h.1 m ∙ ap (λ (n : ℕ). Some n) (sym (h.0 ∙ e))
number_fails OutOfMemory origins left list name numbers which e some m h = tt

-- ---- the label of a list

-- the label that holds the numbers is their label
pub label_of_is : (numbers : List ℕ) (label : Label) → IsLabel label → ((k : ℕ) → has k label ≡ has k numbers) → label ≡ label_of numbers
unfolding has
label_of_is numbers label h same = same_label label (label_of numbers) h (IsLabel-label_of numbers) (λ k. same k ∙ sym (has-label_of k numbers))

pub list_form : (origins : List (List ℕ)) (list : List ℕ) → are_names list ≡ false → list_of origins list ≡ Err Form
unfolding list_of
list_form origins list e = cond-true (not (are_names list)) (Err Form) (unless_unknown (unknown_in origins list) (label_in origins list)) (ap not e)

list_names : (origins : List (List ℕ)) (list : List ℕ) (o : Option ℕ) → are_names list ≡ true → unknown_in origins list ≡ o → list_of origins list ≡ unless_unknown o (label_in origins list)
unfolding list_of
list_names origins list o e u = cond-false (not (are_names list)) (Err Form) (unless_unknown (unknown_in origins list) (label_in origins list)) (ap not e) ∙ ap (λ (w : Option ℕ). unless_unknown w (label_in origins list)) u

pub list_fails : (fault : ListFault) (origins : List (List ℕ)) (list : List ℕ) → are_names list ≡ true → FailsNumbers fault (unknown_in origins list) → GivesList (Err fault) (list_of origins list)
list_fails Form origins list e h = absurd h
list_fails (Unknown which) origins list e h = list_names origins list (Some which) e h
list_fails OutOfMemory origins list e h = tt

pub list_done : (origins : List (List ℕ)) (list numbers : List ℕ) (label : Label) → are_names list ≡ true → unknown_in origins list ≡ None → numbers ≡ numbers_of origins (names_in list) → label ≡ label_of numbers → list_of origins list ≡ Ok label
unfolding label_in
list_done origins list numbers label e none n l = list_names origins list None e none ∙ ap (λ (a : Label). Ok a) (sym (l ∙ ap label_of n))
