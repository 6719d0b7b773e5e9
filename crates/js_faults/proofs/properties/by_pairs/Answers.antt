use Rattle.std.proofs.Common.{refl, ap, take, ◌∙◌}
use Rattle.std.specs.List.{list_any}
use Rattle.js_ast.specs.Views.{view_property}
use Rattle.js_faults.specs.declared.fault.EarlyErrorKind.TheVariants as kind
use Rattle.js_faults.specs.Early.{fault_if, clashes, place_of_property, of_repeated, of_properties}
use Rattle.js_faults.specs.Faults.{first_of}
use Rattle.js_faults.proofs.Repeated.{seen, repeated_step, repeated_told, none_repeated}
use Rattle.js_faults.proofs.Loops.{told_more_behind, told_all}
use Rattle.js_faults.proofs.properties.by_pairs.Goals as goal

pub properties-init : goal.properties-init
unfolding of_properties
properties-init c = refl

pub properties-preserved : goal.properties-preserved
properties-preserved c = told_more_behind (λ front rest. first_of (of_repeated (seen c.args.all.now) (seen front) (seen rest)))
    (λ front p. first_of (fault_if (list_any (clashes (seen c.args.all.now) (view_property p)) (seen front)) (place_of_property (view_property p)) kind.RepeatedProperty))
    _ _ _ _ _ _ _ (repeated_step (seen c.args.all.now)) c.properties-test.true c.index-all-i.is c.properties.invariant
    (c.fault_if.ensures ∙ repeated_told (seen c.args.all.now) _ c.index-all-i.result c.is_repeated-repeated.result c.is_repeated-repeated.ensures) c.earlier-first.ensures

pub returns : goal.returns
returns c = let h = told_all (λ rest. first_of (of_repeated (seen c.args.all.now) (seen (take c.properties.i c.args.all.now)) (seen rest))) _ _ _ _ (ap first_of (none_repeated _ _)) c.properties-test.false c.properties.invariant in h
