-- Loading a file piece by piece.
use Rattle.std.proofs.Common.{◌≡◌, ℕ, ◌+◌, ◌<◌, ◌≤◌, ◌⊎◌, min, List, [], ◌++◌, length, take, drop, Option, Some, None, refl, sym, ap, ◌∙◌, arith, length-append, length-take, length-drop}
use Rattle.std.specs.Prelude.{IfSome, IsSomeAnd, MatchOption, Bool}
use Rattle.std.proofs.Math.Seq.{take-add}
use Rattle.std.proofs.lemmas.List.{take_all}
use Rattle.flow_io.specs.Files.{Files, file_at, IsPieceOf, IsStoreKept, last_count}
use Rattle.flow_io.specs.Loading.{IsRead, IsReadOn, TakesPiece}

-- a piece read where the front of the file ends goes on with the file
pub read_on : (whole old piece : List ℕ) (at n : ℕ) → length old ≡ at → IsPieceOf whole at n piece → IsReadOn whole old (old ++ take n piece) n
read_on whole old piece at n e p =
    let len : length (old ++ take n piece) ≡ at + n = omega (arith, ap length p.same, length-append old (take n piece), length-take n (drop at whole), length-drop at whole) in
    record {
      front = λ h.
          let old-is : old ≡ take at whole = h ∙ ap (λ (k : ℕ). take k whole) e in
          let both : old ++ take n piece ≡ take at whole ++ take n (drop at whole) = ap (λ (xs : List ℕ). xs ++ take n piece) old-is ∙ ap (λ (xs : List ℕ). take at whole ++ xs) p.same in
          both ∙ sym (take-add at n whole) ∙ ap (λ (k : ℕ). take k whole) (sym len);
      ends = (λ h. let le : length whole ≤ at = p.ends.0 h in omega arith, λ h. p.ends.1 (omega arith));
    }

-- where a read told a piece of the file, the loaded bytes go on with it
pub takes_piece : (contents : Option Files) (path old piece : List ℕ) (at n : ℕ) → length old ≡ at
    → IfSome contents (λ files. IsSomeAnd (file_at files path) (λ whole. IsPieceOf whole at n piece))
    → TakesPiece contents path old (old ++ take n piece) n
takes_piece None path old piece at n e told = tt
takes_piece (Some files) path old piece at n e told = piece_of (file_at files path) told
  where
    piece_of : (o : Option (List ℕ)) → IsSomeAnd o (λ whole. IsPieceOf whole at n piece) → IsSomeAnd o (λ whole. IsReadOn whole old (old ++ take n piece) n)
    piece_of None h = h
    piece_of (Some whole) h = read_on whole old piece at n e h

-- where the path's bytes are told, the loaded bytes are their front
pub record IsFrontRead (contents : Option Files) (path bytes : List ℕ) : Type 0 where
  pub told : IfSome contents (λ files. IfSome (file_at files path) (IsRead bytes))

-- no bytes are a front
pub front_of_none : (contents : Option Files) (path : List ℕ) → IsFrontRead contents path []
front_of_none None path = record { told = tt }
front_of_none (Some files) path = record { told = none (file_at files path) }
  where
    none : (o : Option (List ℕ)) → IfSome o (IsRead [])
    none None = tt
    none (Some whole) = refl

-- after a piece the bytes are still a front
pub front_on : (contents : Option Files) (path old new : List ℕ) (n : ℕ) → IsFrontRead contents path old → TakesPiece contents path old new n → IsFrontRead contents path new
front_on None path old new n front takes = record { told = tt }
front_on (Some files) path old new n front takes = record { told = on (file_at files path) front.told takes }
  where
    on : (o : Option (List ℕ)) → IfSome o (IsRead old) → IsSomeAnd o (λ whole. IsReadOn whole old new n) → IfSome o (IsRead new)
    on None h k = absurd k
    on (Some whole) h k = k.front h

-- a piece with no byte ends the file
pub whole_at_end : (contents : Option Files) (path old new : List ℕ) (n : ℕ) → n ≡ 0 → length new ≡ length old + n → IsFrontRead contents path old → TakesPiece contents path old new n
    → IfSome contents (λ files. file_at files path ≡ Some new)
whole_at_end None path old new n e len front takes = tt
whole_at_end (Some files) path old new n e len front takes = whole (file_at files path) front.told takes
  where
    whole : (o : Option (List ℕ)) → IfSome o (IsRead old) → IsSomeAnd o (λ all. IsReadOn all old new n) → o ≡ Some new
    whole None h k = absurd k
    whole (Some all) h k = ap (λ (xs : List ℕ). Some xs) (sym (k.front h ∙ take_all (length new) all (let le = k.ends.0 e in omega arith)))

-- more bytes than the limit came only from a file with more
pub longer : (contents : Option Files) (path old new : List ℕ) (n most : ℕ) (old-given new-given : ℕ) → most < length new → IsFrontRead contents path old → TakesPiece contents path old new n
    → new-given ≡ min (old-given + length new) last_count
    → MatchOption contents ((old-given + most < new-given) ⊎ (new-given ≡ last_count)) (λ files. IsSomeAnd (file_at files path) (λ bytes. most < length bytes))
longer None path old new n most old-given new-given more front takes given = grind arith
longer (Some files) path old new n most old-given new-given more front takes given = longer_file (file_at files path) front.told takes
  where
    longer_file : (o : Option (List ℕ)) → IfSome o (IsRead old) → IsSomeAnd o (λ all. IsReadOn all old new n) → IsSomeAnd o (λ bytes. most < length bytes)
    longer_file None h k = k
    longer_file (Some all) h k = omega (arith, ap length (k.front h), length-take (length new) all)

-- two calls in a row keep what each keeps
pub kept_on : {S : Type 0} {contents : S → Option Files} {may_ask : S → List ℕ → Bool} {faults : S → ℕ} (old middle new : S) → IsStoreKept contents may_ask faults old middle → IsStoreKept contents may_ask faults middle new → IsStoreKept contents may_ask faults old new
kept_on old middle new a b = record {
  same_contents = b.same_contents ∙ a.same_contents;
  same_paths = λ path. b.same_paths path ∙ a.same_paths path;
  faults_stay = omega (arith, a.faults_stay, b.faults_stay);
}
