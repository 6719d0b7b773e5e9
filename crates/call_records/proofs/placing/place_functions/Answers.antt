use Rattle.std.proofs.Common.{refl, subst, ℕ, List}
use Rattle.js_ast.specs.Views.{view_stmt, view_stmts}
use Rattle.es_meaning.specs.Declared.{declared_functions}
use Rattle.call_records.specs.Declarations.{declared_by}
use Rattle.call_records.specs.Planned.{function_names, Adds}
use Rattle.call_records.proofs.NameLaws.{adds_next, adds_all}
use Rattle.call_records.proofs.VariableLaws.{step_functions}
use Rattle.call_records.proofs.placing.place_functions.Goals as goal

pub statements-preserved : goal.statements-preserved
statements-preserved c =
    adds_next (λ ss. function_names (declared_functions (view_stmts ss))) c.items-s-items.result.now c.statements.s-index _ c.args.layout.now c.statements.layout _ c.statements.places.items (λ s. function_names (declared_by (view_stmt s))) step_functions c.s-item.result c.place_declared.new.layout c.place_declared.new.places.items
    c.statements-test.true c.s-item.is c.statements.invariant c.in_ok-place_declared.ensures

pub returns : goal.returns
returns c =
    rw c.items-s-items.ensures at
    (subst (λ (qs : List ℕ). Adds (function_names (declared_functions (view_stmts c.items-s-items.result.now))) c.args.layout.now c.statements.layout qs c.statements.places.items) c.new-places.ensures.items
    (adds_all (λ ss. function_names (declared_functions (view_stmts ss))) c.items-s-items.result.now c.statements.s-index _ c.args.layout.now c.statements.layout _ c.statements.places.items refl c.statements-test.false c.statements.invariant))
