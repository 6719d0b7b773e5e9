use Rattle.std.proofs.Common.{ap, take}
use Rattle.js_ast.specs.Views.{view_ident, view_idents}
use Rattle.js_faults.specs.Early.{of_parameters}
use Rattle.js_faults.specs.Faults.{first_of}
use Rattle.js_faults.proofs.Bound.{of_parameter, parameters_step, no_parameters}
use Rattle.js_faults.proofs.Loops.{told_more_behind, told_all}
use Rattle.js_faults.proofs.names.by_pairs.Goals as goal

pub names-preserved : goal.names-preserved
names-preserved c = told_more_behind (λ front rest. first_of (of_parameters (view_idents front) (view_idents rest))) (λ front i. first_of (of_parameter (view_idents front) (view_ident i)))
    _ _ _ _ _ _ _ parameters_step c.names-test.true c.index-names-i.is c.names.invariant c.of_parameter.ensures c.earlier-first.ensures

pub returns : goal.returns
returns c = let h = told_all (λ rest. first_of (of_parameters (view_idents (take c.names.i c.args.names.now)) (view_idents rest))) _ _ _ _ (ap first_of (no_parameters _)) c.names-test.false c.names.invariant in h
