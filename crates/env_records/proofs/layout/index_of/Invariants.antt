use Rattle.std.proofs.Common.{◌≡◌, take}
use Rattle.env_records.specs.Layouts.{texts_of, indexed}
use Rattle.env_records.proofs.layout.index_of.Given as goal

-- the index of the names so far
abbrev pub invariant-loop-laid : goal.invariant-loop-laid
invariant-loop-laid l = indexed l.index (texts_of (take l.laid-index l.names)) ≡ texts_of (take l.laid-index l.names)
