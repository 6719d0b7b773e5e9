use Rattle.std.proofs.Common.{◌≡◌, take}
use Rattle.origin_labels.specs.Label.{label_of}
use Rattle.origin_labels.specs.Stores.{IsKept}
use Rattle.origin_labels.proofs.labels.join_all.Given as goal

-- the union so far is the set of the origins so far, in a store that kept what it had
abbrev pub invariant-loop-origin : goal.invariant-loop-origin
invariant-loop-origin g l = record {
  made : g.L.Labels.made l.labels l.all;
  meaning : g.L.Labels.meaning l.labels l.all ≡ label_of (take l.origin-index l.list);
  kept : IsKept g.L.Labels.made g.L.Labels.meaning g.L.Labels.room g.L.Labels.firm l.fn.labels l.labels;
}
