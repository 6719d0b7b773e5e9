use Rattle.std.proofs.Common.{arith}
use Rattle.property_requests.proofs.ArrayLaws.{array_acts}
use Rattle.property_requests.proofs.MakingLaws.{belongs_grown}
use Rattle.property_requests.proofs.MeansLaws.{means_bottom, means_context}
use Rattle.property_requests.proofs.arrays.make_array.Goals as goal

pub make_with-requires-clause-proto : goal.make_with-requires-clause-proto
make_with-requires-clause-proto g c = let started = c.requires.belongs.started in omega (arith, started)

pub returns-clause-acts : goal.returns-clause-acts
returns-clause-acts g c = λ tables inputs.
    array_acts g.L.Labels.made g.L.Labels.meaning c.make_with.new.labels c.args.world.now tables inputs c.context-context.result c.bottom.result c.args.count c.args.elements.items c.make_with.new.heap c.in_ok-o.o c.in_ok-o.ensures.number c.in_ok-o.ensures.makes
    (means_context g.L.Labels.made g.L.Labels.meaning g.L.Labels.room g.L.Labels.firm c.args.labels.now c.make_with.new.labels c.make_with.ensures.kept c.args.world.now.frames.frames c.context-context.result c.requires.belongs.frames c.context-context.ensures.made c.context-context.ensures.meaning)
    (means_bottom g.L.Labels.made g.L.Labels.meaning c.make_with.new.labels c.bottom.result c.bottom.ensures.made c.bottom.ensures.meaning)

pub returns-clause-belongs : goal.returns-clause-belongs
returns-clause-belongs g c = belongs_grown g.L.Labels.made g.L.Labels.meaning g.L.Labels.room g.L.Labels.firm c.args.labels.now c.make_with.new.labels c.make_with.ensures.kept g.met.L.Labels.rising c.args.world.now c.requires.belongs c.make_with.new.heap c.make_with.ensures.belongs c.make_with.ensures.longer

pub returns-in_err-o-clause-belongs : goal.returns-in_err-o-clause-belongs
returns-in_err-o-clause-belongs g c = belongs_grown g.L.Labels.made g.L.Labels.meaning g.L.Labels.room g.L.Labels.firm c.args.labels.now c.make_with.new.labels c.make_with.ensures.kept g.met.L.Labels.rising c.args.world.now c.requires.belongs c.make_with.new.heap c.make_with.ensures.belongs c.make_with.ensures.longer
