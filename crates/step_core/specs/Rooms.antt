-- Room for more frames.
use Rattle.std.specs.Prelude.{◌≡◌}
use Rattle.step_core.specs.declared.progress.Progress.{Progress}

-- all stays but how many frames there is room for
pub record IsRoomier {T X : Type 0} (old new : Progress T X) : Type 0 where
  pub frames : new.world.frames.frames ≡ old.world.frames.frames
  pub others : new ≡ record old { world = record (old.world) { frames = new.world.frames } }
