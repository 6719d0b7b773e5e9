use Rattle.std.proofs.Common.{arith, ap, ap₂, ◌∙◌, ◌+◌, ◌++◌, ◌≤◌, ◌⊎◌, inl, inr, leb, List, ℕ, length, drop, get_or}
use Rattle.std.specs.List.{between}
use Rattle.std.proofs.lemmas.Slice.{between_to_end}
use Rattle.origin_labels.specs.Label.{union}
use Rattle.interned_labels.proofs.RisingLaws.{merge_more, merge_ends, merge_smaller, step_fits}
use Rattle.interned_labels.proofs.rising.union_of.Goals as goal

pub loop-i-init : goal.loop-i-init
loop-i-init c = record {
  first = omega arith;
  second = omega arith;
  merged = ap (λ (l : List ℕ). l ++ union c.args.a.now c.args.b.now) c.in_ok-set.ensures.items;
}

pub loop-i-smaller : goal.loop-i-smaller
loop-i-smaller c =
    merge_smaller (length c.args.a.now) (length c.args.b.now) c.loop-i.i c.loop-i.j (get_or c.args.a.now c.loop-i.i 0) (get_or c.args.b.now c.loop-i.j 0) c.from-i.result c.from-j.result
    c.loop-i-test.true c.if-j-b.true c.from-i.ensures c.from-j.ensures

pub loop-i-preserved : goal.loop-i-preserved
loop-i-preserved c =
    let a = c.args.a.now in
    let b = c.args.b.now in
    let i = c.loop-i.i in
    let j = c.loop-i.j in
    let x = get_or a i 0 in
    let y = get_or b j 0 in
    record {
      first = step_fits i (length a) c.from-i.result (leb x y) c.loop-i-test.true c.from-i.ensures;
      second = step_fits j (length b) c.from-j.result (leb y x) c.if-j-b.true c.from-j.ensures;
      merged = ap (λ (l : List ℕ). l ++ union (drop (i + c.from-i.result) a) (drop (j + c.from-j.result) b)) c.in_ok-push.ensures.items
          ∙ merge_more a b (union a b) c.loop-i.set.items i j c.min.result c.from-i.result c.from-j.result c.requires.first c.requires.second c.loop-i-test.true c.if-j-b.true c.min.ensures c.from-i.ensures c.from-j.ensures c.loop-i.invariant.merged;
    }

pub returns : goal.returns
returns c =
    let a = c.args.a.now in
    let b = c.args.b.now in
    let i = c.loop-i.i in
    let j = c.loop-i.j in
    let done = c.loop-i.set.items in
    let end : (length a ≤ i) ⊎ (length b ≤ j) = elim c.loop-i-test.branch-raw as (λ _. (length a ≤ i) ⊎ (length b ≤ j)) [ inl w ↦ inr w.if-j-b.false | inr w ↦ inl w.loop-i-test.false ] in
    c.shrink_to_fit.ensures.items
    ∙ c.in_ok-extend_from_slice-2.ensures.items
    ∙ ap (λ (l : List ℕ). l ++ between j (length b) b) c.in_ok-extend_from_slice.ensures.items
    ∙ ap₂ (λ (p q : List ℕ). (done ++ p) ++ q) (between_to_end a i (length a) (omega arith)) (between_to_end b j (length b) (omega arith))
    ∙ merge_ends a b (union a b) done i j c.requires.first end c.loop-i.invariant.merged
