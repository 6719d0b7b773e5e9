-- Loading a file piece by piece.
use Rattle.std.specs.Prelude.{◌≡◌, ℕ, ◌≤◌, List, length, take, Option, Result, Err, IfSome, IsSomeAnd, ◌↔◌}
use Rattle.flow_io.specs.declared.loading.LoadFault.{LoadFault}
use Rattle.flow_io.specs.declared.loading.LoadFault.TheVariants as faults
use Rattle.flow_io.specs.Files.{Files, file_at}

-- the bytes are the front of the file
abbrev pub IsRead : List ℕ → List ℕ → Type 0
IsRead bytes whole = bytes ≡ take (length bytes) whole

-- bytes that were the front of the file still are after a piece, which has no byte exactly at the file's end
pub record IsReadOn (whole old new : List ℕ) (n : ℕ) : Type 0 where
  pub front : IsRead old whole → IsRead new whole
  pub ends : (n ≡ 0) ↔ (length whole ≤ length old)

-- where the files are told, a piece of the path's file came behind the bytes
abbrev pub TakesPiece : Option Files → List ℕ → List ℕ → List ℕ → ℕ → Type 0
TakesPiece contents path old new n = IfSome contents (λ files. IsSomeAnd (file_at files path) (λ whole. IsReadOn whole old new n))

-- unless the answer is a read fault, the count of faults stays: no fault was passed over
abbrev pub CountsNone : {A : Type 0} → Result A LoadFault → ℕ → ℕ → Type 0
CountsNone (Err faults.ReadFault) old new = Unit {0}
CountsNone answer old new = new ≡ old
