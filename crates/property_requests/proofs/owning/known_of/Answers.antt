use Rattle.std.proofs.Common.{arith, ◌≤◌, ◌<◌, length, sym}
use Rattle.property_access.proofs.MeansLaws.{means_later}
use Rattle.property_access.proofs.HeldLaws.{own_has}
use Rattle.property_requests.proofs.OwningLaws.{known_nowhere, known_absent, known_present, nothing_has, parts_has}
use Rattle.property_requests.proofs.owning.known_of.Goals as goal

pub returns-then-o-len-clause-known : goal.returns-then-o-len-clause-known
returns-then-o-len-clause-known g c = λ part.
    let past : length c.args.world.now.heap ≤ c.args.o.0 = omega (arith, c.len.ensures.length, c.if-o-len.true) in
    known_nowhere g.L.Labels.made g.L.Labels.meaning c.args.labels.now c.args.world.now.heap c.args.o.0 c.args.key.now part c.args.label _ (c.nothing_known.ensures part) past

pub returns-in-None-clause-known : goal.returns-in-None-clause-known
returns-in-None-clause-known g c = λ part.
    let there : c.args.o.0 < length c.args.world.now.heap = omega (arith, c.len.ensures.length, c.if-o-len.false) in
    known_absent g.L.Labels.made g.L.Labels.meaning c.place_of.new.labels c.args.world.now.heap c.args.o.0 c.args.key.now part c.args.label c.in_ok-place.place _ (c.nothing_known-in-None.ensures part) there (sym c.in-None.ensures) c.in_ok-place.ensures.means

pub join-requires-clause-second : goal.join-requires-clause-second
join-requires-clause-second g c = (c.in_ok-place.ensures.kept.labels c.in-Some.slot.now.label (own_has c.args.world.now.heap c.args.o.0 (g.L.Labels.made c.args.labels.now) c.args.key.now c.in-Some.slot.now c.requires.belongs.heap (sym c.in-Some.ensures)).0).0

pub returns-in_ok-parts-in-Some-clause-known : goal.returns-in_ok-parts-in-Some-clause-known
returns-in_ok-parts-in-Some-clause-known g c = λ part.
    known_present g.L.Labels.made g.L.Labels.meaning c.join.new.labels c.args.world.now.heap c.args.o.0 c.args.key.now part c.args.label g.met.L.Labels.rising c.in-Some.slot.now c.in_ok-place.place c.in_ok-depends-in-Some.depends _ (c.in_ok-parts-in-Some.ensures part) (sym c.in-Some.ensures)
    (means_later g.L.Labels.made g.L.Labels.meaning g.L.Labels.room g.L.Labels.firm c.place_of.new.labels c.join.new.labels c.in_ok-depends-in-Some.ensures.kept c.in_ok-place.place _ c.in_ok-place.ensures.means) c.in_ok-depends-in-Some.ensures.means

pub returns-then-o-len-clause-made : goal.returns-then-o-len-clause-made
returns-then-o-len-clause-made g c = nothing_has (g.L.Labels.made c.args.labels.now) c.nothing_known.result c.args.label c.requires.label c.nothing_known.ensures

pub returns-in-None-clause-made : goal.returns-in-None-clause-made
returns-in-None-clause-made g c = nothing_has (g.L.Labels.made c.place_of.new.labels) c.nothing_known-in-None.result c.in_ok-place.place c.in_ok-place.ensures.means.belongs c.nothing_known-in-None.ensures

pub returns-in_ok-parts-in-Some-clause-made : goal.returns-in_ok-parts-in-Some-clause-made
returns-in_ok-parts-in-Some-clause-made g c =
    parts_has (g.L.Labels.made c.join.new.labels) c.in_ok-parts-in-Some.parts c.in-Some.slot.now c.in_ok-place.place c.in_ok-depends-in-Some.depends (c.in_ok-depends-in-Some.ensures.kept.labels c.in_ok-place.place c.in_ok-place.ensures.means.belongs).0 c.in_ok-depends-in-Some.ensures.means.belongs c.in_ok-parts-in-Some.ensures
