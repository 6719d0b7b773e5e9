use Rattle.std.proofs.Common.{ap, sym, ◌∙◌}
use Rattle.js_values.specs.Arrays.{element_of}
use Rattle.js_values.proofs.ReadingLaws.{HasHeap-kept}
use Rattle.origin_labels.proofs.StoreLaws.{IsKept-trans}
use Rattle.property_access.proofs.MeansLaws.{means_later}
use Rattle.property_requests.proofs.HeldLaws.{never_some, some_mapped, none_mapped}
use Rattle.property_requests.proofs.PlaceLaws.{place_present, place_absent, place_element, allowed_absent, allowed_element}
use Rattle.property_requests.proofs.parts.place_of_definition.Goals as goal

pub returns-then-is_some-clause-means : goal.returns-then-is_some-clause-means
returns-then-is_some-clause-means g c =
    place_present g.L.Labels.made g.L.Labels.meaning c.place_of.new.labels c.args.heap.now c.args.o.0 c.args.key.now c.args.label c.in_ok-place.place (some_mapped (λ s. s.now) c.own.result _ c.own.ensures (sym c.is_some.ensures ∙ c.if-is_some.true)) c.in_ok-place.ensures.means

pub returns-then-is_some-clause-allowed : goal.returns-then-is_some-clause-allowed
returns-then-is_some-clause-allowed g c = λ none. absurd (never_some _ none (some_mapped (λ s. s.now) c.own.result _ c.own.ensures (sym c.is_some.ensures ∙ c.if-is_some.true)))

pub returns-in_default-clause-means : goal.returns-in_default-clause-means
returns-in_default-clause-means g c =
    place_absent g.L.Labels.made g.L.Labels.meaning c.place_of.new.labels c.args.heap.now c.args.o.0 c.args.key.now c.args.label c.shape-shape.result c.shape-shape.ensures (none_mapped (λ s. s.now) c.own.result _ c.own.ensures (sym c.is_some.ensures ∙ c.if-is_some.false)) g.met.L.Labels.rising
    (HasHeap-kept g.L.Labels.made g.L.Labels.meaning g.L.Labels.room g.L.Labels.firm c.args.labels.now c.place_of.new.labels c.in_ok-place.ensures.kept c.args.heap.now c.requires.belongs) c.in_ok-place.place (ap (element_of c.shape-shape.result.class) (sym c.text.ensures) ∙ sym c.in_default.ensures) c.in_ok-place.ensures.means

pub returns-in_default-clause-allowed : goal.returns-in_default-clause-allowed
returns-in_default-clause-allowed g c = λ none. allowed_absent g.L.Labels.made g.L.Labels.meaning c.place_of.new.labels c.args.heap.now c.args.o.0 c.args.key.now c.args.label c.shape-shape.result c.shape-shape.ensures none (ap (element_of c.shape-shape.result.class) (sym c.text.ensures) ∙ sym c.in_default.ensures)

pub room_for-requires-clause-belongs : goal.room_for-requires-clause-belongs
room_for-requires-clause-belongs g c = HasHeap-kept g.L.Labels.made g.L.Labels.meaning g.L.Labels.room g.L.Labels.firm c.args.labels.now c.place_of.new.labels c.in_ok-place.ensures.kept c.args.heap.now c.requires.belongs

pub join-requires-clause-first : goal.join-requires-clause-first
join-requires-clause-first g c = (c.in_ok-room.ensures.kept.labels c.in_ok-place.place c.in_ok-place.ensures.means.belongs).0

pub join-requires-clause-second : goal.join-requires-clause-second
join-requires-clause-second g c = c.in_ok-room.ensures.label.belongs

pub returns-clause-means : goal.returns-clause-means
returns-clause-means g c =
    place_element g.L.Labels.made g.L.Labels.meaning c.join.new.labels c.args.heap.now c.args.o.0 c.args.key.now c.args.label c.shape-shape.result c.shape-shape.ensures (none_mapped (λ s. s.now) c.own.result _ c.own.ensures (sym c.is_some.ensures ∙ c.if-is_some.false)) c.in-Some.i (ap (element_of c.shape-shape.result.class) (sym c.text.ensures) ∙ sym c.in-Some.ensures) g.met.L.Labels.rising c.in_ok-place.place c.in_ok-room.room.label c.in_ok-joined.joined
    (means_later g.L.Labels.made g.L.Labels.meaning g.L.Labels.room g.L.Labels.firm c.place_of.new.labels c.join.new.labels (IsKept-trans _ _ _ _ _ _ _ c.in_ok-room.ensures.kept c.in_ok-joined.ensures.kept) c.in_ok-place.place _ c.in_ok-place.ensures.means)
    (means_later g.L.Labels.made g.L.Labels.meaning g.L.Labels.room g.L.Labels.firm c.room_for.new.labels c.join.new.labels c.in_ok-joined.ensures.kept c.in_ok-room.room.label _ c.in_ok-room.ensures.label)
    c.in_ok-joined.ensures.means

pub returns-clause-allowed : goal.returns-clause-allowed
returns-clause-allowed g c = λ none.
    allowed_element g.L.Labels.made g.L.Labels.meaning c.join.new.labels c.args.heap.now c.args.o.0 c.args.key.now c.args.label c.shape-shape.result c.shape-shape.ensures none c.in-Some.i (ap (element_of c.shape-shape.result.class) (sym c.text.ensures) ∙ sym c.in-Some.ensures) c.in_ok-room.room.allowed c.both.result c.in_ok-room.ensures.allowed c.both.ensures
