use Rattle.function_table.proofs.TableLaws.{one_listed, all_listed}
use Rattle.function_table.proofs.table.layouts_of.Goals as goal

pub loop-f-preserved : goal.loop-f-preserved
loop-f-preserved c = one_listed (λ f. f.now) c.args.list.now c.loop-f.f-index c.f-item.result c.loop-f.layouts.items _ c.in_ok-layout.layout c.loop-f-test.true c.f-item.is c.loop-f.invariant c.in_ok-push.ensures.items c.in_ok-layout.ensures

pub returns : goal.returns
returns c = all_listed (λ f. f.now) c.args.list.now c.loop-f.f-index c.loop-f.layouts.items c.loop-f-test.false c.loop-f.invariant
