use Rattle.std.proofs.Common.{refl, sym, ap, List, [], ◌∷◌, ◌∙◌}
use Rattle.js_ast.specs.declared.trees.Declaration.{Declaration, out-Declaration}
use Rattle.js_ast.specs.declared.trees.Declarations.{out-Declarations}
use Rattle.call_records.specs.Planned.{with_names}
use Rattle.call_records.proofs.NameLaws.{goes_on, ends}
use Rattle.call_records.proofs.VariableLaws.{names_in, declared_whole}
use Rattle.call_records.proofs.variables.in_declarations.Goals as goal

pub others-preserved : goal.others-preserved
others-preserved c =
    goes_on names_in (λ d. (out-Declaration d).name.text ∷ []) (λ d rest. refl) _ _ _ c.others.layout c.keep-in-others.new.layout _ c.others-test.true c.declaration-item.is c.others.invariant c.in_ok-keep-2.ensures

pub returns : goal.returns
returns c =
    let old = c.args.layout.now in
    ends names_in _ _ c.others.layout _ refl c.others-test.false c.others.invariant
    ∙ ap (with_names (names_in c.items-declaration-items.result.now)) c.in_ok-keep.ensures
    ∙ ap (λ (ds : List Declaration). with_names ((out-Declaration (out-Declarations c.args.declarations.now).first).name.text ∷ names_in ds) old) c.items-declaration-items.ensures
    ∙ ap (λ ns. with_names ns old) (sym (declared_whole c.args.declarations.now))
