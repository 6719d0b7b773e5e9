use Rattle.std.proofs.Common.{rules, tests}
use Rattle.std.proofs.lemmas.Iterator.{YieldsList-from_slice}
use Rattle.std.proofs.lemmas.Iterator.Search.{any_from_yields_List}
use Rattle.js_ast.specs.Views.{view_property}
use Rattle.js_faults.specs.Early.{clashes}
use Rattle.js_faults.proofs.Repeated.{seen}
use Rattle.js_faults.proofs.properties.is_repeated.Goals as goal

pub returns : goal.returns
returns c = any_from_yields_List (λ other. clashes (seen c.args.all.now) (view_property c.args.property.now) (view_property other)) _ _ _ c.any.ensures.ran (YieldsList-from_slice c.args.others.now cc) (λ x b q k. search (rules, tests))
