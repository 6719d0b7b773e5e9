use Rattle.std.proofs.Common.{◌≡◌, take}
use Rattle.env_records.proofs.layout.Layout.copy.Given as goal

-- the names so far are copied
abbrev pub invariant-loop-laid : goal.invariant-loop-laid
invariant-loop-laid l = l.copied ≡ take l.laid-index l.laid-items
