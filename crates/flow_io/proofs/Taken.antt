-- What a put that fails leaves behind.
use Rattle.std.proofs.Common.{◌≡◌, ℕ, ◌⊎◌, inl, inr, List, [], ◌++◌, take, drop, Option, Some, None, Result, Ok, Err, refl, sym, ◌∙◌}
use Rattle.std.specs.Prelude.{MatchOption, OnErr}
use Rattle.std.proofs.lemmas.List.{take-append-drop, append-nil}
use Rattle.flow_io.specs.Sinks.{AppendsFront}

-- nothing kept, or the front of the piece that was asked, is a front of the piece
kept_is_front : (keep : Option ℕ) (old new piece : List ℕ) → MatchOption keep (new ≡ old) (λ most. (new ≡ old ++ take most piece) ⊎ (new ≡ old)) → AppendsFront (Some old) (Some new) piece
kept_is_front None old new piece e = ([], (piece, refl), e ∙ sym (append-nil old))
kept_is_front (Some most) old new piece h =
    elim h [
      | inl e ↦ (take most piece, (drop most piece, sym (take-append-drop most piece)), e)
      | inr e ↦ ([], (piece, refl), e ∙ sym (append-nil old))
    ]

-- the same, of what a put answers
pub appends_front : {T E : Type 0} (r : Result T E) (keep : Option ℕ) (old new piece : List ℕ)
    → OnErr r (MatchOption keep (new ≡ old) (λ most. (new ≡ old ++ take most piece) ⊎ (new ≡ old))) → OnErr r (AppendsFront (Some old) (Some new) piece)
appends_front (Ok x) keep old new piece h = tt
appends_front (Err e) keep old new piece h = kept_is_front keep old new piece h
