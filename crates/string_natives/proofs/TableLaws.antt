-- A row of the code's table is one of the definitions.
use Rattle.std.proofs.Common.{◌≡◌, ℕ, List, map, Some, slice_get, sym, ◌∙◌, ap}
use Rattle.std.specs.Option.{option_map}
use Rattle.std.proofs.lemmas.Option.{slice_get-map}
use Rattle.string_natives.specs.Standing.{StandsAt}

pub table_read : {R E : Type 0} {table : List R} {which : ℕ} {row : R} → StandsAt table which row → (f : R → E) (seen : List E) → map f table ≡ seen → slice_get seen which ≡ Some (f row)
table_read {table = table} {which = which} stands f seen e =
    ap (λ xs. slice_get xs which) (sym e) ∙ slice_get-map f table which ∙ ap (option_map f) stands.at
