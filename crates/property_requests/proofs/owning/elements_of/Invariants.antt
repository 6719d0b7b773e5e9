use Rattle.std.proofs.Common.{take}
use Rattle.property_requests.specs.Arrays.{AreKeys}
use Rattle.property_requests.proofs.owning.elements_of.Given as goal

-- the elements so far are the texts of the first keys
abbrev pub invariant-loop-key : goal.invariant-loop-key
invariant-loop-key g l = AreKeys g.L.Labels.made g.L.Labels.meaning l.fn.labels (take l.key-index l.keys) l.elements.items
