-- The early error of a program that is told.
use Rattle.std.specs.Prelude.{Option}
use Rattle.js_ast.specs.Trees.{Statements}
use Rattle.js_faults.specs.declared.fault.EarlyError.{EarlyError}
use Rattle.js_faults.specs.declared.fault.EarlyErrorKind.TheVariants as kind
use Rattle.js_faults.specs.Scopes.{outermost}
use Rattle.js_faults.specs.Faults.{in_statements, first_of}
use Rattle.js_faults.specs.Early.{early}
use Rattle.js_early.specs.declared.fault.EarlyFault.{EarlyFault}
use Rattle.js_early.specs.declared.fault.EarlyFault.TheVariants as fault

-- the one that stands furthest to the left, and of several at one place the first in the order of the kinds
abbrev pub early_error : Statements → Option EarlyError
early_error program = first_of (in_statements early outermost program)

-- the same as a fault and its place
abbrev pub fault_of : EarlyFault → EarlyError
fault_of (fault.EvalArguments at) = record { at = at; kind = kind.EvalArguments }
fault_of (fault.RepeatedParameter at) = record { at = at; kind = kind.RepeatedParameter }
fault_of (fault.RepeatedProperty at) = record { at = at; kind = kind.RepeatedProperty }
fault_of (fault.DeleteName at) = record { at = at; kind = kind.DeleteName }
fault_of (fault.Jump at) = record { at = at; kind = kind.Jump }
fault_of (fault.RepeatedLabel at) = record { at = at; kind = kind.RepeatedLabel }
fault_of (fault.StrictWord at) = record { at = at; kind = kind.StrictWord }
