use Rattle.std.proofs.Common.{refl}
use Rattle.js_ast.specs.Keys.{key_text}
use Rattle.js_ast.specs.Views.{view_key}
use Rattle.js_ast.specs.Named.{name_of}
use Rattle.js_ast.proofs.SortLaws.{keyed_more, keyed_all}
use Rattle.js_ast.proofs.orders.keyed_properties.Goals as goal

pub properties-preserved : goal.properties-preserved
properties-preserved c = keyed_more (λ k. (k.1, key_text (view_key k.0.now))) name_of _ _ _ _ _ _ c.properties-test.true c.index-properties-i.is refl c.in_ok-push.ensures.items c.properties.invariant

pub returns : goal.returns
returns c = keyed_all (λ k. (k.1, key_text (view_key k.0.now))) name_of _ _ _ c.properties-test.false c.properties.invariant
