use Rattle.std.proofs.Common.{refl}
use Rattle.js_ast.specs.Views.{view_ident, view_idents}
use Rattle.js_faults.specs.Early.{of_bound}
use Rattle.js_faults.specs.Faults.{first_of}
use Rattle.js_faults.specs.Ordered.{of_each}
use Rattle.js_faults.proofs.Loops.{told_more, told_all}
use Rattle.js_faults.proofs.Told.{first_of_append}
use Rattle.js_faults.proofs.names.of_each.Goals as goal

pub names-preserved : goal.names-preserved
names-preserved c = told_more (λ is. first_of (of_each (view_idents is))) (λ i. first_of (of_bound (view_ident i)))
    _ _ _ _ _ _ _ (λ i is. first_of_append (of_bound (view_ident i)) (of_each (view_idents is))) c.names-test.true c.name-item.is c.names.invariant c.of_bound.ensures c.earlier-first.ensures

pub returns : goal.returns
returns c = told_all (λ is. first_of (of_each (view_idents is))) _ _ _ _ refl c.names-test.false c.names.invariant
