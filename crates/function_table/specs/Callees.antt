-- What a value is for a call, as the meaning has it.
use Rattle.js_ast.specs.Views.{view_function}
use Rattle.es_meaning.specs.Functions as functions
use Rattle.es_meaning.specs.Functions.{not_callable, empty_callee, of_script, of_built_in}
use Rattle.function_table.specs.declared.callee.Callee.{Callee}
use Rattle.function_table.specs.declared.callee.Callee.TheVariants as callee

abbrev pub callee_of : Callee → functions.Callee
callee_of callee.NotCallable = not_callable
callee_of callee.Empty = empty_callee
callee_of (callee.Script number f place) = of_script number (view_function f.now) place.0
callee_of (callee.Native which) = of_built_in which
