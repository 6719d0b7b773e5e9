-- The parts of a `try` statement.
use Rattle.std.specs.Prelude.{Bool, true, false, Option, Some, None}
use Rattle.continuations.specs.declared.continuation.Jump as moves
use Rattle.continuations.specs.declared.continuation.Jump.TheVariants.{Throws}
use Rattle.js_ast.specs.Trees.{Ident, Block, Statement, try_catch, try_finally, try_both}

abbrev pub is_try : Statement → Bool
is_try (try_catch at b ident handler) = true
is_try (try_finally at b last) = true
is_try (try_both at b ident handler last) = true
is_try _ = false

-- what is tried
abbrev pub tried_in : Statement → Option Block
tried_in (try_catch at b ident handler) = Some b
tried_in (try_finally at b last) = Some b
tried_in (try_both at b ident handler last) = Some b
tried_in _ = None

-- the handler, with the name of what it catches
abbrev pub handler_in : Statement → Option (Ident × Block)
handler_in (try_catch at b ident handler) = Some (ident, handler)
handler_in (try_both at b ident handler last) = Some (ident, handler)
handler_in _ = None

-- what is done last
abbrev pub last_in : Statement → Option Block
last_in (try_finally at b last) = Some last
last_in (try_both at b ident handler last) = Some last
last_in _ = None

-- the handler, where a jump is caught by it
abbrev pub caught_by : moves.Jump → Statement → Option (Ident × Block)
caught_by Throws s = handler_in s
caught_by _ s = None
