-- The loop of a report over the names of origins.
use Rattle.std.proofs.Common.{◌≡◌, ℕ, zero, suc, ◌+◌, ◌<◌, ◌≤◌, List, [], ◌∷◌, ◌++◌, length, map, take, get_or, Some, slice_get, slice_index_or, refl, sym, ap, ap₂, ◌∙◌, arith, append_assoc, length-take}
use Rattle.std.specs.List.{join_with_byte}
use Rattle.std.proofs.lemmas.List.{take_more, map_push, length-map}
use Rattle.std.proofs.lemmas.Option.{get_or_from_slice_get}
use Rattle.flow_text.specs.Utf8.{utf8_of}

-- ---- names with commas between

-- one more piece behind others
join_more : (c : ℕ) (x : List ℕ) (xs : List (List ℕ)) (y : List ℕ) → join_with_byte c ((x ∷ xs) ++ y ∷ []) ≡ join_with_byte c (x ∷ xs) ++ (c ∷ y)
join_more c x [] y = refl
join_more c x (z ∷ xs) y = ap (λ (l : List ℕ). x ++ (c ∷ l)) (join_more c z xs y) ∙ sym (append_assoc x (c ∷ join_with_byte c (z ∷ xs)) (c ∷ y))

-- one more piece behind a list of some length
join_behind : (c : ℕ) (xs : List (List ℕ)) (y : List ℕ) → 0 < length xs → join_with_byte c (xs ++ y ∷ []) ≡ (join_with_byte c xs ++ c ∷ []) ++ y
join_behind c [] y some = absurd (omega arith)
join_behind c (x ∷ xs) y some = join_more c x xs y ∙ sym (append_assoc (join_with_byte c (x ∷ xs)) (c ∷ []) y)

-- the names of one more origin
names_more : (f : ℕ → List ℕ) (label : List ℕ) (i : ℕ) → i < length label → map f (take (i + 1) label) ≡ map f (take i label) ++ f (get_or label i 0) ∷ []
names_more f label i lt = ap (map f) (take_more label i 0 lt) ∙ map_push f (take i label) (get_or label i 0)

-- the bytes go on with the name of the next origin behind a comma
pub names_go_on : (origins : List (List ℕ)) (label : List ℕ) (i : ℕ) (bytes name : List ℕ) → 0 < i → i < length label → bytes ≡ join_with_byte 44 (map (λ k. utf8_of (slice_index_or origins k [])) (take i label))
    → slice_get origins (get_or label i 0) ≡ Some name → (bytes ++ 44 ∷ []) ++ utf8_of name ≡ join_with_byte 44 (map (λ k. utf8_of (slice_index_or origins k [])) (take (i + 1) label))
names_go_on origins label i bytes name some lt so_far there =
    let f : ℕ → List ℕ = λ k. utf8_of (slice_index_or origins k []) in
    let named : f (get_or label i 0) ≡ utf8_of name = ap utf8_of (get_or_from_slice_get origins (get_or label i 0) name [] there) in
    let many : 0 < length (map f (take i label)) = simp (length-map, length-take) (omega arith) in
    sym (ap (join_with_byte 44) (names_more f label i lt) ∙ join_behind 44 (map f (take i label)) (f (get_or label i 0)) many ∙ ap₂ (λ (a b : List ℕ). (a ++ 44 ∷ []) ++ b) (sym so_far) named)

-- they begin with the name of the first
pub names_begin : (origins : List (List ℕ)) (label : List ℕ) (i : ℕ) (bytes name : List ℕ) → i ≤ 0 → i < length label → bytes ≡ join_with_byte 44 (map (λ k. utf8_of (slice_index_or origins k [])) (take i label))
    → slice_get origins (get_or label i 0) ≡ Some name → bytes ++ utf8_of name ≡ join_with_byte 44 (map (λ k. utf8_of (slice_index_or origins k [])) (take (i + 1) label))
names_begin origins label zero bytes name none lt so_far there =
    let f : ℕ → List ℕ = λ k. utf8_of (slice_index_or origins k []) in
    let named : f (get_or label 0 0) ≡ utf8_of name = ap utf8_of (get_or_from_slice_get origins (get_or label 0 0) name [] there) in
    sym (ap (join_with_byte 44) (names_more f label 0 lt) ∙ ap₂ (λ (a b : List ℕ). a ++ b) (sym so_far) named)
names_begin origins label (suc i) bytes name none lt so_far there = absurd (omega arith)
