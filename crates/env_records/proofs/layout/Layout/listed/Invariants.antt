use Rattle.std.proofs.Common.{◌≡◌, ◌<◌, ℕ, false, get_or}
use Rattle.origin_labels.specs.Names.{same_name}
use Rattle.env_records.specs.Layouts.{LaidName}
use Rattle.env_records.proofs.layout.Layout.listed.Given as goal

-- no place before this one has the name
abbrev pub invariant-loop-i : goal.invariant-loop-i
invariant-loop-i l = (k : ℕ) (d : LaidName) → k < l.i → same_name (get_or l.laid-items k d).name l.name ≡ false
