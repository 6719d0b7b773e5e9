use Rattle.std.proofs.Common.{ℕ, Bool, Option, sym, ap, ◌∙◌, ◌&&◌}
use Rattle.std.specs.Option.{option_map}
use Rattle.origin_labels.specs.Label.{Label}
use Rattle.js_values.specs.declared.ids.ObjId.{ObjId}
use Rattle.js_values.specs.declared.property.Slot.{Slot}
use Rattle.js_values.specs.Readings.{read_heap, read_slot}
use Rattle.js_values.specs.Walks.{object_chain}
use Rattle.js_values.proofs.ReadingLaws.{IsReading-earlier}
use Rattle.prototype_walk.specs.Plans.{beyond_plan, can_put, own_plan}
use Rattle.prototype_walk.proofs.HeldLaws.{own_has, IsLabel-read}
use Rattle.prototype_walk.proofs.PutLaws.{put_here, put_plain, put_element, place_twice, plan_as}
use Rattle.prototype_walk.proofs.WalkLaws.{IsLabel-onwards}
use Rattle.prototype_walk.proofs.put.can_put_named.Goals as goal

pub plan_own-requires-clause-label : goal.plan_own-requires-clause-label
plan_own-requires-clause-label g c = (own_has (g.L.Labels.made c.args.labels.now) c.args.heap.now c.args.o.0 c.args.name.now c.in-Some.slot.now c.requires.belongs (sym c.in-Some.ensures)).0

pub plan_own-requires-clause-existence : goal.plan_own-requires-clause-existence
plan_own-requires-clause-existence g c = (own_has (g.L.Labels.made c.args.labels.now) c.args.heap.now c.args.o.0 c.args.name.now c.in-Some.slot.now c.requires.belongs (sym c.in-Some.ensures)).1

pub returns-in-Some-clause-plan : goal.returns-in-Some-clause-plan
returns-in-Some-clause-plan g c =
    let s = c.in-Some.slot.now in
    plan_as g.L.Labels.made g.L.Labels.meaning c.plan_own.new.labels (λ reading. own_plan c.args.o.0 (read_slot reading s) s.body (reading s.existence)) (λ reading. can_put c.args.name.now (object_chain (read_heap reading c.args.heap.now) c.args.o.0))
    (λ reading read. put_here reading c.args.heap.now c.len-count.ensures.formed c.args.name.now c.args.o.0 s (sym c.in-Some.ensures)) c.plan_own.result c.plan_own.ensures.plan

pub returns-in_default-element_of-clause-plan : goal.returns-in_default-element_of-clause-plan
returns-in_default-element_of-clause-plan g c =
    plan_as g.L.Labels.made g.L.Labels.meaning c.plan_beyond.new.labels (λ reading. beyond_plan c.shape-shape.result.extensible (option_map (λ f. (f.0.0, read_slot reading f.1.now)) c.in_ok-place.place) (reading c.in_ok-place.walk)) (λ reading. can_put c.args.name.now (object_chain (read_heap reading c.args.heap.now) c.args.o.0))
    (λ reading read.
    let earlier = IsReading-earlier g.L.Labels.made g.L.Labels.meaning g.L.Labels.room g.L.Labels.firm c.find_slot_named.new.labels c.plan_beyond.new.labels reading c.plan_beyond.ensures.kept read in
    let labels = IsLabel-onwards (g.L.Labels.made c.args.labels.now) reading (λ label m. IsLabel-read g.L.Labels.made g.L.Labels.meaning c.args.labels.now reading label g.met.L.Labels.rising (IsReading-earlier g.L.Labels.made g.L.Labels.meaning g.L.Labels.room g.L.Labels.firm c.args.labels.now c.find_slot_named.new.labels reading c.find_slot_named.ensures.kept earlier) m) c.args.heap.now c.requires.belongs c.args.name.now in
    put_plain g.L.Labels.made g.L.Labels.meaning c.find_slot_named.new.labels c.args.heap.now c.len-count.ensures.formed c.args.name.now c.args.o.0 (option_map (λ f. (f.0, f.1.now)) c.in_ok-place.place) c.in_ok-place.walk c.shape-shape.result c.shape-shape.ensures (sym c.in_default.ensures) c.in_ok-place.ensures.place reading earlier labels c.in_default-element_of.ensures
    (IsLabel-read g.L.Labels.made g.L.Labels.meaning c.find_slot_named.new.labels reading c.in_ok-place.walk g.met.L.Labels.rising earlier c.in_ok-place.ensures.place.belongs)
    ∙ ap (λ (p : Option (ℕ × Slot Label)). beyond_plan c.shape-shape.result.extensible p (reading c.in_ok-place.walk)) (place_twice reading c.in_ok-place.place (λ x. x.now)))
    c.plan_beyond.result c.plan_beyond.ensures.plan

pub returns-clause-plan : goal.returns-clause-plan
returns-clause-plan g c =
    plan_as g.L.Labels.made g.L.Labels.meaning c.plan_beyond-2.new.labels (λ reading. beyond_plan c.both.result (option_map (λ f. (f.0.0, read_slot reading f.1.now)) c.in_ok-place.place) (reading c.in_ok-joined.joined)) (λ reading. can_put c.args.name.now (object_chain (read_heap reading c.args.heap.now) c.args.o.0))
    (λ reading read.
    let at_join = IsReading-earlier g.L.Labels.made g.L.Labels.meaning g.L.Labels.room g.L.Labels.firm c.join.new.labels c.plan_beyond-2.new.labels reading c.plan_beyond-2.ensures.kept read in
    let at_room = IsReading-earlier g.L.Labels.made g.L.Labels.meaning g.L.Labels.room g.L.Labels.firm c.room_for.new.labels c.join.new.labels reading c.join.ensures.kept at_join in
    let earlier = IsReading-earlier g.L.Labels.made g.L.Labels.meaning g.L.Labels.room g.L.Labels.firm c.find_slot_named.new.labels c.room_for.new.labels reading c.room_for.ensures.kept at_room in
    let labels = IsLabel-onwards (g.L.Labels.made c.args.labels.now) reading (λ label m. IsLabel-read g.L.Labels.made g.L.Labels.meaning c.args.labels.now reading label g.met.L.Labels.rising (IsReading-earlier g.L.Labels.made g.L.Labels.meaning g.L.Labels.room g.L.Labels.firm c.args.labels.now c.find_slot_named.new.labels reading c.find_slot_named.ensures.kept earlier) m) c.args.heap.now c.requires.belongs c.args.name.now in
    put_element g.L.Labels.made g.L.Labels.meaning c.find_slot_named.new.labels c.args.heap.now c.len-count.ensures.formed c.args.name.now c.args.o.0 (option_map (λ f. (f.0, f.1.now)) c.in_ok-place.place) c.in_ok-place.walk c.shape-shape.result c.shape-shape.ensures (sym c.in_default.ensures) c.in_ok-place.ensures.place reading earlier labels c.in-Some-element_of.i c.in-Some-element_of.ensures c.in_ok-room.room.allowed c.in_ok-room.ensures.allowed (reading c.in_ok-room.room.label)
    (IsLabel-read g.L.Labels.made g.L.Labels.meaning c.room_for.new.labels reading c.in_ok-room.room.label g.met.L.Labels.rising at_room c.in_ok-room.ensures.label.belongs) (c.in_ok-room.ensures.label.is reading at_room)
    ∙ ap (λ w. beyond_plan (c.shape-shape.result.extensible && c.in_ok-room.room.allowed) (option_map (λ (f : ObjId × Slot g.row.T.Denot). (f.0.0, read_slot reading f.1)) (option_map (λ f. (f.0, f.1.now)) c.in_ok-place.place)) w) (sym (c.in_ok-joined.ensures.means.is reading at_join))
    ∙ ap (λ (p : Option (ℕ × Slot Label)). beyond_plan (c.shape-shape.result.extensible && c.in_ok-room.room.allowed) p (reading c.in_ok-joined.joined)) (place_twice reading c.in_ok-place.place (λ x. x.now))
    ∙ ap (λ (b : Bool). beyond_plan b (option_map (λ f. (f.0.0, read_slot reading f.1.now)) c.in_ok-place.place) (reading c.in_ok-joined.joined)) (sym c.both.ensures))
    c.plan_beyond-2.result c.plan_beyond-2.ensures.plan
