-- A program whose functions are marked: it holds the functions of its script, each with its number and whether its code is strict.
use Rattle.std.specs.Prelude.{◌≡◌, length}
use Rattle.js_ast.specs.declared.trees.Program.{Program}
use Rattle.js_ast.specs.Views.{view_program}
use Rattle.js_ast.specs.Functions.{prologue_strict, functions_of, numbered}
use Rattle.js_ast.specs.Held.{held_in_program}

pub record IsMarked (p : Program) : Type 0 where
  -- its code is strict by its own prologue
  pub strict : p.strict ≡ prologue_strict (view_program p)
  -- its functions are numbered from 0, in the order of their first tokens, and each is marked strict where its code is
  pub functions : held_in_program p ≡ numbered 0 (functions_of (view_program p))
  -- it counts them
  pub count : p.function_count ≡ length (functions_of (view_program p))
