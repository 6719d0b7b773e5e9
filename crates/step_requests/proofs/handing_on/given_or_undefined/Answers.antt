use Rattle.std.proofs.Common.{sym, ap, ◌∙◌}
use Rattle.js_number.specs.declared.primitive.Primitive.TheVariants.{Undefined}
use Rattle.step_requests.specs.Asked.{value_or_undefined}
use Rattle.step_requests.proofs.Based.{unlabelled_holds}
use Rattle.step_requests.proofs.handing_on.given_or_undefined.Goals as goal

pub returns-in-Some-clause-made : goal.returns-in-Some-clause-made
returns-in-Some-clause-made g c = rw c.in-Some.is at c.requires

pub returns-in-Some-clause-is : goal.returns-in-Some-clause-is
returns-in-Some-clause-is g c = λ reading is. ap (value_or_undefined reading) (sym c.in-Some.is)

pub returns-in-None-clause-is : goal.returns-in-None-clause-is
returns-in-None-clause-is g c = λ reading is. unlabelled_holds g.L.Labels.made g.L.Labels.meaning c.args.labels.now Undefined c.bottom.result c.bottom.ensures.made c.bottom.ensures.meaning reading is ∙ ap (value_or_undefined reading) (sym c.in-None.is)
