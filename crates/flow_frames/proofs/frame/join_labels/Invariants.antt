use Rattle.std.proofs.Common.{◌≡◌, map, take}
use Rattle.origin_labels.specs.Stores.{IsKept}
use Rattle.flow_frames.specs.Frames.{context}
use Rattle.flow_frames.specs.Held.{seen}
use Rattle.flow_frames.specs.Views.{held}
use Rattle.flow_frames.proofs.frame.join_labels.Given as goal

-- the union so far is the context of the frames so far, in a store that kept what it had
abbrev pub invariant-loop-frame : goal.invariant-loop-frame
invariant-loop-frame g l = record {
  made : g.L.Labels.made l.labels l.all;
  meaning : g.L.Labels.meaning l.labels l.all ≡ context (seen g.L.Labels.meaning l.fn.labels (map held (take l.frame-index l.frames)));
  kept : IsKept g.L.Labels.made g.L.Labels.meaning g.L.Labels.room g.L.Labels.firm l.fn.labels l.labels;
}
