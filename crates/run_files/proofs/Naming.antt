-- The name of an observer's list that is no declared origin.
use Rattle.std.proofs.Common.{◌≡◌, ℕ, Bool, true, false, List, [], Option, Some, None, Result, Ok, Err, Bor, option_copied, refl, sym, ap, ◌∙◌}
use Rattle.std.specs.List.{slice_split, slice_get, slice_index_or}
use Rattle.std.specs.Option.{unwrap_or}
use Rattle.std.proofs.lemmas.Option.{unwrap_or-slice_get}
use Rattle.origin_labels.specs.Label.{Label, label_of}
use Rattle.flow_lists.specs.Lists.{is_bare, is_comma, names_in}
use Rattle.flow_lists.proofs.ListLaws.{names_in-some, are_names-none}
use Rattle.flow_policy.specs.declared.fault.ListFault.{ListFault}
use Rattle.flow_policy.specs.declared.fault.ListFault.TheVariants as list_fault
use Rattle.flow_policy.specs.Listed.{list_of}
use Rattle.flow_policy.specs.Policies.{Tables}
use Rattle.flow_policy.proofs.ListedLaws.{numbers_none, list_done}
use Rattle.run_files.specs.Tasks.{unknown_observer, Judged, observed, observer_in}

module _ (origins : List (List ℕ)) (list : List ℕ) (number : ℕ) (unknown : list_of origins list ≡ Err (list_fault.Unknown number)) where
  -- a list without names has none that is unknown
  not_bare : (b : Bool) → is_bare list ≡ b → is_bare list ≡ false
  not_bare false e = e
  not_bare true e =
      let none = numbers_none origins list e in
      let read : list_of origins list ≡ Ok (label_of []) = list_done origins list [] (label_of []) (are_names-none list e) none.0 none.1 refl in
      absurd cc

  -- the piece of the list with its number is the name
  piece_is : (o : Option (List ℕ)) → o ≡ slice_get (slice_split is_comma list) number → unwrap_or o [] ≡ slice_index_or (names_in list) number []
  piece_is o e =
      ap (λ (x : Option (List ℕ)). unwrap_or x []) e ∙ unwrap_or-slice_get (slice_split is_comma list) number []
      ∙ ap (λ (names : List (List ℕ)). slice_index_or names number []) (sym (names_in-some list (not_bare (is_bare list) refl)))

-- the bytes of a piece, or of the empty text where there is none
pub piece_bytes : (o : Option (Bor (List ℕ))) (other piece : Bor (List ℕ)) → piece ≡ unwrap_or o other → other.now ≡ [] → piece.now ≡ unwrap_or (option_copied o) []
piece_bytes None other piece e empty = ap (λ (b : Bor (List ℕ)). b.now) e ∙ empty
piece_bytes (Some x) other piece e empty = ap (λ (b : Bor (List ℕ)). b.now) e

-- what an observer's list gives
pub list_given : (tables : Tables) (list : List ℕ) (r : Result Label ListFault) → list_of tables.origins list ≡ r → observer_in tables (Some list) ≡ Some (observed list r)
list_given tables list r e = ap (λ (x : Result Label ListFault). Some (observed list x)) e

-- a list with an unknown name is refused for the piece with its number
pub name_unknown : (tables : Tables) (list name : List ℕ) (number : ℕ) → list_of tables.origins list ≡ Err (list_fault.Unknown number) → (o : Option (List ℕ)) → o ≡ slice_get (slice_split is_comma list) number
    → name ≡ unwrap_or o [] → observer_in tables (Some list) ≡ Some (Err (unknown_observer name))
name_unknown tables list name number e o piece is =
    list_given tables list (Err (list_fault.Unknown number)) e ∙ ap refused (sym (is ∙ piece_is tables.origins list number e o piece))
  where
    refused : List ℕ → Judged (Option Label)
    refused n = Some (Err (unknown_observer n))
