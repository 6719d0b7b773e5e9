-- What the sink that never fails reports of a put.
use Rattle.std.proofs.Common.{◌≡◌, ℕ, ◌-◌, Bool, true, false, List, ◌++◌, Option, Some, None, ◌&&◌, nat_le, length, if◌then◌else◌, refl}
use Rattle.flow_io.specs.Sinks.{Appends}
use Rattle.flow_io.specs.Firm.{FirmBytes, taken_whole, after_firm_put}

-- a piece that is taken is appended, and after one that is dropped nothing is reported
pub put_is_told : (s : FirmBytes) (piece : List ℕ) → Appends (taken_whole s) (taken_whole (after_firm_put s piece)) piece
put_is_told s piece = told s.whole (nat_le (length piece) (s.room - length s.taken))
  where
    told : (whole room : Bool) → Appends (if whole then Some s.taken else None)
        (taken_whole (if whole && room then record { taken = s.taken ++ piece; room = s.room; whole = whole } else record { taken = s.taken; room = s.room; whole = false })) piece
    told true true = refl
    told true false = tt
    told false room = tt
