use Rattle.std.proofs.Common.{refl}
use Rattle.js_ast.specs.Named.{text_of}
use Rattle.js_ast.proofs.SortLaws.{keyed_more, keyed_all}
use Rattle.js_ast.proofs.orders.keyed_names.Goals as goal

pub names-preserved : goal.names-preserved
names-preserved c = keyed_more (λ k. (k.1, k.0.now)) text_of _ _ _ _ _ _ c.names-test.true c.index-names-i.is refl c.in_ok-push.ensures.items c.names.invariant

pub returns : goal.returns
returns c = keyed_all (λ k. (k.1, k.0.now)) text_of _ _ _ c.names-test.false c.names.invariant
