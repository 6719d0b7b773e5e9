use Rattle.std.proofs.Common.{arith, refl, ◌≡◌, ◌<◌, ◌∷◌, List, [], Some, length, suc, sym, ap, subst, ◌∙◌, append_assoc, append-nil}
use Rattle.std.specs.Vec.Iter.{into_iter_items}
use Rattle.origin_labels.proofs.StoreLaws.{IsKept-trans}
use Rattle.es_meaning.specs.Start.{array_prototype}
use Rattle.property_requests.specs.declared.arrays.Element.{Element}
use Rattle.property_requests.specs.Arrays.{ElementsFrom, MakesArray}
use Rattle.property_requests.proofs.ArrayLaws.{array_begun, array_is_made, element_added, element_fresh, element_lacks, element_open, elements_front, elements_later, fresh_begun, limit, next_more, next_place, nothing_left}
use Rattle.property_requests.proofs.arrays.make_with.Goals as goal

pub loop-element-init : goal.loop-element-init
loop-element-init g c =
    let gives = c.into_iter-element-iterator.ensures.into_iter_gives in
    let made = c.in_ok-o.ensures in
    record {
      whole = refl;
      count = search;
      left = subst (λ (es : List (Element g.row.T.Denot)). ElementsFrom (g.L.Labels.made c.make_empty.new.labels) 0 c.args.count es) (sym gives.0) (elements_later (g.L.Labels.made c.args.labels.now) (g.L.Labels.made c.make_empty.new.labels) 0 c.args.count c.args.elements.items (λ label m. (made.kept.labels label m).0) c.requires.elements);
      kept = made.kept;
      belongs = made.belongs;
      more = made.more;
      number = made.number;
      array = array_begun g.L.Labels.made g.L.Labels.meaning c.args.heap.now c.args.context c.args.context (Some array_prototype) c.in_ok-o.o.0 made.number c.make_empty.new.labels c.args.count c.make_empty.new.heap made.makes;
      fresh = λ reading. fresh_begun reading (reading c.args.context) c.args.count;
    }

pub add_element-requires-clause-there : goal.add_element-requires-clause-there
add_element-requires-clause-there g c = let more = c.loop-element.invariant.more in let number = c.loop-element.invariant.number in omega (arith, more, number)

pub add_element-requires-clause-absent : goal.add_element-requires-clause-absent
add_element-requires-clause-absent g c =
    let at = c.loop-element in
    let front = elements_front (g.L.Labels.made at.labels) (next_place 0 at.yielded) c.args.count (into_iter_items at.element-iterator) (into_iter_items c.next.new.self) c.in-Some.element c.in-Some.ensures.steps.0 at.invariant.left in
    let small : c.in-Some.element.place < limit = let less = front.1 in omega (arith, less) in
    element_lacks g.L.Labels.made g.L.Labels.meaning c.args.heap.now c.args.context c.args.context (Some array_prototype) c.in_ok-o.o.0 at.invariant.number c.args.count at.yielded c.in-Some.element at.invariant.fresh front.0 front.1 small at.labels at.heap at.invariant.array

pub add_element-requires-clause-opened : goal.add_element-requires-clause-opened
add_element-requires-clause-opened g c =
    let at = c.loop-element in
    let front = elements_front (g.L.Labels.made at.labels) (next_place 0 at.yielded) c.args.count (into_iter_items at.element-iterator) (into_iter_items c.next.new.self) c.in-Some.element c.in-Some.ensures.steps.0 at.invariant.left in
    let small : c.in-Some.element.place < limit = let less = front.1 in omega (arith, less) in
    element_open g.L.Labels.made g.L.Labels.meaning c.args.heap.now c.args.context c.args.context (Some array_prototype) c.in_ok-o.o.0 at.invariant.number c.args.count at.yielded c.in-Some.element at.invariant.fresh front.0 front.1 small at.labels at.heap at.invariant.array

pub add_element-requires-clause-context : goal.add_element-requires-clause-context
add_element-requires-clause-context g c = (c.loop-element.invariant.kept.labels c.args.context c.requires.context).0

pub add_element-requires-clause-value : goal.add_element-requires-clause-value
add_element-requires-clause-value g c =
    let at = c.loop-element in
    let front = elements_front (g.L.Labels.made at.labels) (next_place 0 at.yielded) c.args.count (into_iter_items at.element-iterator) (into_iter_items c.next.new.self) c.in-Some.element c.in-Some.ensures.steps.0 at.invariant.left in
    let small : c.in-Some.element.place < limit = let less = front.1 in omega (arith, less) in
    front.2

pub add_element-requires-clause-belongs : goal.add_element-requires-clause-belongs
add_element-requires-clause-belongs g c = c.loop-element.invariant.belongs

pub loop-element-preserved : goal.loop-element-preserved
loop-element-preserved g c =
    let at = c.loop-element in
    let front = elements_front (g.L.Labels.made at.labels) (next_place 0 at.yielded) c.args.count (into_iter_items at.element-iterator) (into_iter_items c.next.new.self) c.in-Some.element c.in-Some.ensures.steps.0 at.invariant.left in
    let small : c.in-Some.element.place < limit = let less = front.1 in omega (arith, less) in
    let x : Element g.row.T.Denot = c.in-Some.element in
    let steps : into_iter_items at.element-iterator ≡ x ∷ into_iter_items c.next.new.self = c.in-Some.ensures.steps.0 in
    record {
      whole = append_assoc at.yielded (x ∷ []) _ ∙ rw (← steps) at.invariant.whole;
      count =
          let was = at.invariant.count in
          let gone = c.in-Some.ensures.steps.1 in
          let short = ap length steps in
          omega arith;
      left = subst (λ n. ElementsFrom (g.L.Labels.made c.add_element.new.labels) n c.args.count (into_iter_items c.next.new.self)) (sym (next_more 0 at.yielded x)) (elements_later (g.L.Labels.made at.labels) (g.L.Labels.made c.add_element.new.labels) (suc x.place) c.args.count (into_iter_items c.next.new.self) (λ label m. (c.add_element.ensures.kept.labels label m).0) front.3);
      kept = IsKept-trans _ _ _ _ _ _ _ at.invariant.kept c.add_element.ensures.kept;
      belongs = c.add_element.ensures.belongs;
      more = c.add_element.ensures.length ∙ at.invariant.more;
      number = at.invariant.number;
      array = element_added g.L.Labels.made g.L.Labels.meaning c.args.heap.now c.args.context c.args.context (Some array_prototype) c.in_ok-o.o.0 at.invariant.number c.args.count at.yielded c.in-Some.element at.invariant.fresh front.0 front.1 small at.labels at.heap at.invariant.array g.L.Labels.room g.L.Labels.firm c.add_element.new.labels c.add_element.ensures.kept c.add_element.new.heap c.in_ok-add_element.ensures.adds;
      fresh = element_fresh g.L.Labels.made g.L.Labels.meaning c.args.heap.now c.args.context c.args.context (Some array_prototype) c.in_ok-o.o.0 at.invariant.number c.args.count at.yielded c.in-Some.element at.invariant.fresh front.0 front.1 small;
    }

pub returns-in_err-add_element-clause-longer : goal.returns-in_err-add_element-clause-longer
returns-in_err-add_element-clause-longer g c = let more = c.loop-element.invariant.more in let same = c.add_element.ensures.length in omega (arith, more, same)

pub returns-in_err-add_element-clause-kept : goal.returns-in_err-add_element-clause-kept
returns-in_err-add_element-clause-kept g c = IsKept-trans _ _ _ _ _ _ _ c.loop-element.invariant.kept c.add_element.ensures.kept

pub returns-clause-makes : goal.returns-clause-makes
returns-clause-makes g c =
    let at = c.loop-element in
    let none = c.in-None.ensures.steps in
    let empty : into_iter_items at.element-iterator ≡ [] = nothing_left _ (sym at.invariant.count ∙ none.0) in
    let all = sym (append-nil at.yielded) ∙ rw empty at at.invariant.whole ∙ c.into_iter-element-iterator.ensures.into_iter_gives.0 in
    subst (λ es. MakesArray g.L.Labels.made g.L.Labels.meaning at.labels c.args.context c.args.count es c.args.heap.now at.heap) all (array_is_made g.L.Labels.made g.L.Labels.meaning c.args.heap.now c.args.context at.labels c.args.count at.heap at.yielded at.invariant.array)

pub returns-clause-longer : goal.returns-clause-longer
returns-clause-longer g c = let more = c.loop-element.invariant.more in omega (arith, more)
