use Rattle.std.proofs.Common.{◌≡◌, ◌++◌, drop}
use Rattle.origin_labels.specs.Label.{IsLabel}
use Rattle.js_shell.proofs.running.copy_of.Given as goal

-- the origins so far, with those that are left, are the set
abbrev pub invariant-loop-item : goal.invariant-loop-item
invariant-loop-item l = record { whole : l.copied ++ drop l.item-index l.item-items ≡ l.set; rises : IsLabel l.set }
