use Rattle.std.proofs.Common.{◌≡◌, ℕ, List, IfOk, sym, ap, subst, ◌∙◌}
use Rattle.native_programs.specs.Wordings.{class_name}
use Rattle.native_programs.proofs.Words.{object_class_units, function_class_units, array_class_units, arguments_class_units, error_class_units, math_class_units, json_class_units, string_class_units, number_class_units, boolean_class_units}
use Rattle.native_programs.proofs.wordings.class_name.Goals as goal

pub returns-in-Object : goal.returns-in-Object
returns-in-Object c = subst (λ (z : List ℕ). IfOk c.spelled.result (λ text. text ≡ z)) (object_class_units ∙ sym (ap class_name c.in-Object.is)) c.spelled.ensures

pub returns-in-Function : goal.returns-in-Function
returns-in-Function c = subst (λ (z : List ℕ). IfOk c.spelled-in-Function.result (λ text. text ≡ z)) (function_class_units ∙ sym (ap class_name c.in-Function.is)) c.spelled-in-Function.ensures

pub returns-in-Array : goal.returns-in-Array
returns-in-Array c = subst (λ (z : List ℕ). IfOk c.spelled-in-Array.result (λ text. text ≡ z)) (array_class_units ∙ sym (ap class_name c.in-Array.is)) c.spelled-in-Array.ensures

pub returns-in-Arguments : goal.returns-in-Arguments
returns-in-Arguments c = subst (λ (z : List ℕ). IfOk c.spelled-in-Arguments.result (λ text. text ≡ z)) (arguments_class_units ∙ sym (ap class_name c.in-Arguments.is)) c.spelled-in-Arguments.ensures

pub returns-in-Error : goal.returns-in-Error
returns-in-Error c = subst (λ (z : List ℕ). IfOk c.spelled-in-Error.result (λ text. text ≡ z)) (error_class_units ∙ sym (ap class_name c.in-Error.is)) c.spelled-in-Error.ensures

pub returns-in-Math : goal.returns-in-Math
returns-in-Math c = subst (λ (z : List ℕ). IfOk c.spelled-in-Math.result (λ text. text ≡ z)) (math_class_units ∙ sym (ap class_name c.in-Math.is)) c.spelled-in-Math.ensures

pub returns-in-Json : goal.returns-in-Json
returns-in-Json c = subst (λ (z : List ℕ). IfOk c.spelled-in-Json.result (λ text. text ≡ z)) (json_class_units ∙ sym (ap class_name c.in-Json.is)) c.spelled-in-Json.ensures

pub returns-in-String : goal.returns-in-String
returns-in-String c = subst (λ (z : List ℕ). IfOk c.spelled-in-String.result (λ text. text ≡ z)) (string_class_units ∙ sym (ap class_name c.in-String.is)) c.spelled-in-String.ensures

pub returns-in-Number : goal.returns-in-Number
returns-in-Number c = subst (λ (z : List ℕ). IfOk c.spelled-in-Number.result (λ text. text ≡ z)) (number_class_units ∙ sym (ap class_name c.in-Number.is)) c.spelled-in-Number.ensures

pub returns-in-Boolean : goal.returns-in-Boolean
returns-in-Boolean c = subst (λ (z : List ℕ). IfOk c.spelled-in-Boolean.result (λ text. text ≡ z)) (boolean_class_units ∙ sym (ap class_name c.in-Boolean.is)) c.spelled-in-Boolean.ensures
