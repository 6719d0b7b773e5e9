use Rattle.std.proofs.Common.{◌≡◌, map, take}
use Rattle.std.specs.List.{All}
use Rattle.origin_labels.specs.Stores.{IsKept}
use Rattle.flow_frames.specs.Views.{held, HasNext}
use Rattle.flow_frames.proofs.frame.make_next_totals.Given as goal

-- the next totals so far are made, and nothing else changed
abbrev pub invariant-loop-frame : goal.invariant-loop-frame
invariant-loop-frame g l = record {
  next : All (HasNext g.L.Labels.made g.L.Labels.meaning l.labels (g.L.Labels.meaning l.fn.labels l.label)) (take l.frame-index l.frames);
  same : map held l.frames ≡ map held l.fn.frames;
  kept : IsKept g.L.Labels.made g.L.Labels.meaning g.L.Labels.room g.L.Labels.firm l.fn.labels l.labels;
}
