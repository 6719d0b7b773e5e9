use Rattle.std.proofs.Common.{refl, subst, ℕ, List, [], ◌∷◌}
use Rattle.js_ast.specs.Views.{view_idents}
use Rattle.call_records.specs.Planned.{parameter_names, Adds}
use Rattle.call_records.proofs.NameLaws.{adds_next, adds_all}
use Rattle.call_records.proofs.placing.place_parameters.Goals as goal

pub params-preserved : goal.params-preserved
params-preserved c =
    adds_next (λ ps. parameter_names (view_idents ps)) c.args.params.now c.params.param-index _ c.args.layout.now c.params.layout _ c.params.places.items (λ p. p.text ∷ []) (λ p rest. refl) c.param-item.result c.place_next.new.layout c.place_next.new.places.items
    c.params-test.true c.param-item.is c.params.invariant c.in_ok-place_next.ensures

pub returns : goal.returns
returns c =
    subst (λ (qs : List ℕ). Adds (parameter_names (view_idents c.args.params.now)) c.args.layout.now c.params.layout qs c.params.places.items) c.in_ok-places.ensures.items
    (adds_all (λ ps. parameter_names (view_idents ps)) c.args.params.now c.params.param-index _ c.args.layout.now c.params.layout _ c.params.places.items refl c.params-test.false c.params.invariant)
