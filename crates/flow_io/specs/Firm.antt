-- The states of the store and the sink in memory that never fail, and what a call makes of them.
use Rattle.std.specs.Prelude.{ℕ, ◌-◌, Bool, true, false, List, ◌++◌, Option, Some, None, ◌&&◌, nat_le, length, is_some, if◌then◌else◌}
use Rattle.flow_io.specs.Files.{Files, file_at, given_after}

-- what such a store holds
pub record FirmFiles : Type 0 where
  -- the newest first
  pub files : Files
  -- how many bytes a read gives at most, if that is limited
  pub most : Option ℕ
  pub given : ℕ

-- what such a sink holds
pub record FirmBytes : Type 0 where
  pub taken : List ℕ
  -- how many bytes it takes
  pub room : ℕ
  -- whether each piece fitted
  pub whole : Bool

-- the count of faults of what never fails
abbrev pub no_faults : {S : Type 0} → S → ℕ
no_faults s = 0

-- whether the path is one of the files'
abbrev pub has_file : FirmFiles → List ℕ → Bool
has_file s path = is_some (file_at s.files path)

-- the store after a read of n bytes
abbrev pub after_firm_read : FirmFiles → ℕ → FirmFiles
after_firm_read s n = record s { given = given_after s.given n }

-- the bytes taken, unless a piece was dropped
abbrev pub taken_whole : FirmBytes → Option (List ℕ)
taken_whole s = if s.whole then Some s.taken else None

-- whether a piece is taken: none was dropped before, and the rest of the room has place for it
abbrev pub fits : FirmBytes → List ℕ → Bool
fits s piece = s.whole && nat_le (length piece) (s.room - length s.taken)

-- the sink after a put, which takes a piece or drops it
abbrev pub after_firm_put : FirmBytes → List ℕ → FirmBytes
after_firm_put s piece = if fits s piece then record s { taken = s.taken ++ piece } else record s { whole = false }
