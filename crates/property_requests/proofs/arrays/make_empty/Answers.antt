use Rattle.std.proofs.Common.{sym, subst}
use Rattle.js_values.specs.declared.inner.Class.TheVariants as class
use Rattle.js_values.specs.declared.inner.Inner.TheVariants.{Plain}
use Rattle.js_values.specs.Readings.{HasHeap}
use Rattle.property_requests.proofs.ArrayLaws.{new_open, new_lacks, empty_made}
use Rattle.property_requests.proofs.MakingLaws.{has_new}
use Rattle.property_requests.proofs.arrays.make_empty.Goals as goal

pub returns-in_err-o-clause-belongs : goal.returns-in_err-o-clause-belongs
returns-in_err-o-clause-belongs g c = subst (HasHeap (g.L.Labels.made c.args.labels.now)) (sym c.in_err-o.ensures.unchanged) c.requires.belongs

pub add_length-requires-clause-absent : goal.add_length-requires-clause-absent
add_length-requires-clause-absent g c = new_lacks g.L.Labels.made g.L.Labels.meaning c.args.heap.now c.new_object.new.self c.args.context c.args.link c.args.proto c.in_ok-o.o.0 c.in_ok-o.ensures.number c.args.labels.now c.in_ok-o.ensures.ok

pub add_length-requires-clause-opened : goal.add_length-requires-clause-opened
add_length-requires-clause-opened g c = new_open g.L.Labels.made g.L.Labels.meaning c.args.heap.now c.new_object.new.self c.args.context c.args.link c.args.proto c.in_ok-o.o.0 c.in_ok-o.ensures.number c.args.labels.now c.in_ok-o.ensures.ok

pub add_length-requires-clause-belongs : goal.add_length-requires-clause-belongs
add_length-requires-clause-belongs g c = has_new (g.L.Labels.made c.args.labels.now) c.args.heap.now c.new_object.new.self class.Array c.args.proto c.args.link c.args.context Plain c.in_ok-o.ensures.ok c.requires.link c.requires.context tt c.requires.belongs

pub returns-clause-makes : goal.returns-clause-makes
returns-clause-makes g c = empty_made g.L.Labels.made g.L.Labels.meaning c.args.heap.now c.new_object.new.self c.args.context c.args.link c.args.proto c.in_ok-o.o.0 c.in_ok-o.ensures.number c.args.labels.now c.in_ok-o.ensures.ok g.L.Labels.room g.L.Labels.firm c.add_length.new.labels c.add_length.ensures.kept c.add_length.new.heap c.args.count c.in_ok-add_length.ensures.adds
