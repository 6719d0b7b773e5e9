-- What is called is a function of the table.
use Rattle.std.specs.Prelude.{◌≡◌, List, Some, slice_get}
use Rattle.js_ast.specs.Functions.{FunctionCode}
use Rattle.js_ast.specs.Held.{code_of}
use Rattle.function_table.specs.declared.callee.Callee.{Callee}
use Rattle.function_table.specs.declared.callee.Callee.TheVariants as callee

abbrev pub IsOfTable : List FunctionCode → Callee → Type 0
IsOfTable functions (callee.Script number f place) = slice_get functions number ≡ Some (code_of f.now)
IsOfTable functions callee.NotCallable = Unit {0}
IsOfTable functions callee.Empty = Unit {0}
IsOfTable functions (callee.Native which) = Unit {0}
