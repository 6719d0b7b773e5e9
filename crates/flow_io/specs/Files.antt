-- What a store of files tells of itself.
use Rattle.std.specs.Prelude.{◌≡◌, ℕ, ◌+◌, ◌-◌, ◌^◌, ◌<◌, ◌≤◌, min, Bool, List, [], ◌∷◌, length, take, drop, Option, Some, None, ◌⊎◌, ◌↔◌, if◌then◌else◌}
use Rattle.std.specs.Str.{bytes_eq}

pub record File : Type 0 where
  pub path : List ℕ
  pub bytes : List ℕ

-- a finite map from paths to bytes: the first file of a path counts, and every other path is absent
abbrev pub Files : Type 0
Files = List File

-- the bytes of a path
unfoldable pub file_at : Files → List ℕ → Option (List ℕ)
file_at [] path = None
file_at (file ∷ files) path = if bytes_eq file.path path then Some file.bytes else file_at files path

-- the greatest count
abbrev pub last_count : ℕ
last_count = 2 ^ 64 - 1

-- a count that never falls rose: it is greater, or stands at its last value
abbrev pub Rose : ℕ → ℕ → Type 0
Rose old new = (old < new) ⊎ (new ≡ last_count)

-- the count of bytes given, after n more
abbrev pub given_after : ℕ → ℕ → ℕ
given_after given n = min (given + n) last_count

-- the first n bytes of the piece are the file's bytes from a place on, and there are none exactly at or past their end
pub record IsPieceOf (bytes : List ℕ) (at n : ℕ) (piece : List ℕ) : Type 0 where
  pub same : take n piece ≡ take n (drop at bytes)
  pub within : n ≤ length bytes - at
  pub ends : (n ≡ 0) ↔ (length bytes ≤ at)

-- a call of a store keeps its files and the paths that may be asked, and its count of faults never falls
pub record IsStoreKept {S : Type 0} (contents : S → Option Files) (may_ask : S → List ℕ → Bool) (faults : S → ℕ) (old new : S) : Type 0 where
  pub same_contents : contents new ≡ contents old
  pub same_paths : (path : List ℕ) → may_ask new path ≡ may_ask old path
  pub faults_stay : faults old ≤ faults new
