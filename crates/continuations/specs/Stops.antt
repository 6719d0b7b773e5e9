-- What a stop hands on.
use Rattle.flow_frames.specs.declared.faults.FlowStop.{FlowStop}

-- what a stop needs and what it has are labels of a store
pub record HasStop {T : Type 0} (made : T → Type 0) (stop : FlowStop T) : Type 0 where
  pub need : made stop.need
  pub have : made stop.have
