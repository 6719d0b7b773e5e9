use Rattle.std.proofs.Common.{arith, length, sym, ap, subst}
use Rattle.js_values.specs.declared.inner.Inner.TheVariants.{Plain}
use Rattle.js_values.specs.Readings.{HasHeap}
use Rattle.property_requests.proofs.MakingLaws.{array_of_class, object_of_class, has_new, if_ok, on_ok, either}
use Rattle.property_requests.proofs.making.make_of.Goals as goal

pub returns-in-Array-clause-makes : goal.returns-in-Array-clause-makes
returns-in-Array-clause-makes g c = if_ok c.make_empty.result (array_of_class g.L.Labels.made g.L.Labels.meaning c.make_empty.new.labels c.args.context c.args.link c.args.class c.args.proto c.args.heap.now c.make_empty.new.heap c.in-Array.is) c.make_empty.ensures.makes

pub returns-in_default-clause-makes : goal.returns-in_default-clause-makes
returns-in_default-clause-makes g c = on_ok c.new_object.result (object_of_class g.L.Labels.made g.L.Labels.meaning c.args.labels.now c.args.context c.args.link c.args.class c.args.proto c.args.heap.now c.new_object.new.self c.in_default.not-Array) c.new_object.ensures.ok

pub returns-in_default-clause-longer : goal.returns-in_default-clause-longer
returns-in_default-clause-longer g c = either c.new_object.result (λ more. omega (arith, more)) (λ same. let e = ap length same in omega (arith, e)) c.new_object.ensures.length c.new_object.ensures.unchanged

pub returns-in_default-clause-belongs : goal.returns-in_default-clause-belongs
returns-in_default-clause-belongs g c =
    either c.new_object.result (λ more. has_new (g.L.Labels.made c.args.labels.now) c.args.heap.now c.new_object.new.self c.args.class c.args.proto c.args.link c.args.context Plain more c.requires.link c.requires.context tt c.requires.belongs)
    (λ same. subst (HasHeap (g.L.Labels.made c.args.labels.now)) (sym same) c.requires.belongs) c.new_object.ensures.ok c.new_object.ensures.unchanged
