use Rattle.std.proofs.Common.{arith, ◌≤◌, ◌<◌, length}
use Rattle.origin_labels.proofs.StoreLaws.{IsKept-trans}
use Rattle.run_state.proofs.ActLaws.{Belongs-later}
use Rattle.js_values.proofs.ReadingLaws.{HasHeap-kept}
use Rattle.property_access.proofs.MeansLaws.{means_later}
use Rattle.property_requests.proofs.LengthLaws.{length_placed, sets_nowhere, sets_there}
use Rattle.property_requests.proofs.lengths.set_length.Goals as goal

pub returns-then-array-len-clause-acts : goal.returns-then-array-len-clause-acts
returns-then-array-len-clause-acts g c =
    let past : length c.args.world.now.heap ≤ c.args.array.0 = omega (arith, c.len.ensures.length, c.if-array-len.true) in
    sets_nowhere g.L.Labels.made g.L.Labels.meaning c.throw_by.new.labels c.args.world.now c.throw_by.new.world c.args.how c.args.number c.args.array c.args.place c.args.given c.throw_by.result past c.throw_by.ensures.acts

pub returns-in_err-place-clause-belongs : goal.returns-in_err-place-clause-belongs
returns-in_err-place-clause-belongs g c = Belongs-later g.L.Labels.made g.L.Labels.meaning g.L.Labels.room g.L.Labels.firm c.args.labels.now c.place_of.new.labels c.place_of.ensures.kept g.met.L.Labels.rising c.args.world.now c.requires.belongs

pub set_at-requires-clause-belongs : goal.set_at-requires-clause-belongs
set_at-requires-clause-belongs g c = Belongs-later g.L.Labels.made g.L.Labels.meaning g.L.Labels.room g.L.Labels.firm c.args.labels.now c.place_of.new.labels c.in_ok-place.ensures.kept g.met.L.Labels.rising c.args.world.now c.requires.belongs

pub returns-clause-acts : goal.returns-clause-acts
returns-clause-acts g c =
    let here : c.args.array.0 < length c.args.world.now.heap = omega (arith, c.len.ensures.length, c.if-array-len.false) in
    let last = c.set_at.ensures.kept in
    let has = HasHeap-kept g.L.Labels.made g.L.Labels.meaning g.L.Labels.room g.L.Labels.firm c.args.labels.now c.set_at.new.labels (IsKept-trans _ _ _ _ _ _ _ c.in_ok-place.ensures.kept last) c.args.world.now.heap c.requires.belongs.heap in
    sets_there g.L.Labels.made g.L.Labels.meaning c.set_at.new.labels c.args.world.now c.set_at.new.world c.args.how c.args.number c.args.array c.args.place c.args.given c.set_at.result c.in_ok-key.key c.in_ok-place.place here
    (length_placed g.L.Labels.made g.L.Labels.meaning c.set_at.new.labels c.args.world.now.heap c.args.array.0 c.args.place g.met.L.Labels.rising has c.in_ok-key.key c.in_ok-key.ensures here c.in_ok-place.place
    (means_later g.L.Labels.made g.L.Labels.meaning g.L.Labels.room g.L.Labels.firm c.place_of.new.labels c.set_at.new.labels last c.in_ok-place.place _ c.in_ok-place.ensures.means))
    c.set_at.ensures.acts
