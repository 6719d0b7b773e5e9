-- The names of a list that is `-`, and of one that isn't.
use Rattle.std.proofs.Common.{ap, sym, ◌∙◌, ◌≡◌, ℕ, Bool, true, false, List, []}
use Rattle.std.specs.List.{slice_split, list_all}
use Rattle.std.proofs.lemmas.Bool.{cond-true, cond-false}
use Rattle.flow_lists.specs.Names.{is_name}
use Rattle.flow_lists.specs.Lists.{is_bare, is_comma, names_in, are_names}

pub names_in-none : (list : List ℕ) → is_bare list ≡ true → names_in list ≡ []
unfolding names_in
names_in-none list e = cond-true (is_bare list) [] (slice_split is_comma list) e

pub names_in-some : (list : List ℕ) → is_bare list ≡ false → names_in list ≡ slice_split is_comma list
unfolding names_in
names_in-some list e = cond-false (is_bare list) [] (slice_split is_comma list) e

pub are_names-none : (list : List ℕ) → is_bare list ≡ true → are_names list ≡ true
are_names-none list e = ap (list_all is_name) (names_in-none list e)

pub are_names-some : (list : List ℕ) (r : Bool) → is_bare list ≡ false → r ≡ list_all is_name (slice_split is_comma list) → r ≡ are_names list
are_names-some list r e h = h ∙ ap (list_all is_name) (sym (names_in-some list e))
