-- What a flow rule's stop says.
use Rattle.std.specs.Prelude.{◌≡◌, ℕ, true, List, Some}
use Rattle.origin_labels.specs.Label.{Label}
use Rattle.flow_frames.specs.Rules.{is_broken}
use Rattle.flow_frames.specs.Held.{Held, label_at}
use Rattle.flow_frames.specs.declared.faults.Rule.{Rule}
use Rattle.flow_frames.specs.declared.faults.FlowStop.{FlowStop}
use Rattle.flow_frames.specs.declared.faults.FlowFault.{FlowFault}
use Rattle.flow_frames.specs.declared.faults.FlowFault.TheVariants as fault

-- a fact for a stop
abbrev pub IfStop : {T : Type 0} → (FlowStop T → Type 0) → FlowFault T → Type 0
IfStop P (fault.Stop stop) = P stop
IfStop P fault.OutOfMemory = Unit {0}

-- the fault is a stop, and no want of memory
abbrev pub IsStop : {T : Type 0} → FlowFault T → Type 0
IsStop (fault.Stop stop) = Unit {0}
IsStop fault.OutOfMemory = ⊥

-- the rule was broken at a frame: what it needs isn't included in what the frame has, and the stop gives labels that mean both
pub record Breaks {S L : Type 0} (made : S → L → Type 0) (meaning : S → L → Label) (store : S) (frames : List (Held L)) (depth : ℕ) (broken_rule : Rule) (needed had : Label) (stop : FlowStop L) : Type 0 where
  pub broken : is_broken needed had ≡ true
  pub rule : stop.rule ≡ broken_rule
  pub need_made : made store stop.need
  pub need : meaning store stop.need ≡ needed
  pub have : label_at frames depth ≡ Some stop.have
  pub have_made : made store stop.have
  pub have_means : meaning store stop.have ≡ had
