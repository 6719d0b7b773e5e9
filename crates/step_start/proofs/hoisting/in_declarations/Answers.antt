use Rattle.std.proofs.Common.{refl, [], ◌∷◌}
use Rattle.js_ast.specs.declared.trees.Declaration.{out-Declaration}
use Rattle.step_start.proofs.Names.{goes_on, ends, names_in, declares_variables}
use Rattle.step_start.proofs.hoisting.in_declarations.Goals as goal

pub others-preserved : goal.others-preserved
others-preserved g c =
    goes_on _ _ names_in (λ d. (out-Declaration d).name.text ∷ []) _ _ _ c.others.heap c.declare-in-others.new.heap (λ d rest. refl) c.others-test.true c.declaration-item.is c.others.invariant
    c.in_ok-declare-2.ensures.declares c.in_ok-declare-2.ensures.started

pub returns-clause-declares : goal.returns-clause-declares
returns-clause-declares g c =
    declares_variables c.args.heap.now c.declare.new.heap c.others.heap c.args.declarations.now c.items-declaration-items.result.now c.items-declaration-items.ensures
    c.in_ok-declare.ensures.declares
    (ends c.declare.new.heap _ names_in _ _ c.others.heap refl c.others-test.false c.others.invariant)
