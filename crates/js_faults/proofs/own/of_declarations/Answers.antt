use Rattle.std.proofs.Common.{refl}
use Rattle.js_ast.specs.declared.trees.Declaration.{out-Declaration}
use Rattle.js_ast.specs.Views.{view_ident, view_other_declarations}
use Rattle.js_faults.specs.Early.{of_bound}
use Rattle.js_faults.specs.Faults.{first_of}
use Rattle.js_faults.proofs.Bound.{bound_in, bound_step, bound_whole}
use Rattle.js_faults.proofs.Loops.{told_more, told_all}
use Rattle.js_faults.proofs.own.of_declarations.Goals as goal

pub others-preserved : goal.others-preserved
others-preserved c = told_more (λ ds. first_of (bound_in (view_other_declarations ds))) (λ d. first_of (of_bound (view_ident (out-Declaration d).name))) _ _ _ _ _ _ _
    bound_step c.others-test.true c.declaration-item.is c.others.invariant c.of_bound.ensures c.earlier-first.ensures

pub returns : goal.returns
returns c = let h = told_all (λ ds. first_of (bound_in (view_other_declarations ds))) _ _ _ _ refl c.others-test.false c.others.invariant in cc (h, bound_whole c.args.declarations.now)
