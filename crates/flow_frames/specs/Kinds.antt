-- Kinds of frames.
use Rattle.std.specs.Prelude.{Bool, true, false}
use Rattle.flow_frames.specs.declared.kind.Kind.{Kind}
use Rattle.flow_frames.specs.declared.kind.Kind.TheVariants as kind

-- whether frames of the kind catch what is thrown, until they are made quiet
abbrev pub is_try : Kind → Bool
is_try kind.Try = true
is_try kind.Root = false
is_try kind.Branch = false
is_try kind.Loop = false
is_try kind.Turn = false
is_try kind.Call = false
is_try kind.Native = false
