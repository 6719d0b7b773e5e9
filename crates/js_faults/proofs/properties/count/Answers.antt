use Rattle.std.proofs.Common.{rules, tests, ◌∙◌}
use Rattle.std.proofs.lemmas.Iterator.{YieldsList-from_slice}
use Rattle.std.proofs.lemmas.Iterator.Consumers.{YieldsList-from_filter, count_from_yields_List}
use Rattle.js_ast.specs.Views.{view_property}
use Rattle.js_faults.specs.Early.{same_key}
use Rattle.js_faults.proofs.Repeated.{seen_filter}
use Rattle.js_faults.proofs.properties.count.Goals as goal

pub returns : goal.returns
returns c = count_from_yields_List c.filter.result _ c.count.ensures.ran (YieldsList-from_filter _ (λ other. same_key (view_property c.args.property.now) (view_property other)) (YieldsList-from_slice c.args.all.now cc) c.filter.ensures.closure (λ x b q k. search (rules, tests)))
    ∙ seen_filter (same_key (view_property c.args.property.now)) c.args.all.now
