use Rattle.std.proofs.Common.{arith, ◌≡◌, ap, sym, subst, ◌∙◌, ◌<◌, ◌+◌, ◌++◌, ◌∷◌, [], Some, ℕ, length, List, IfSome}
use Rattle.std.proofs.lemmas.Grind.{common_steps}
use Rattle.std.specs.List.{slice_get}
use Rattle.std.proofs.lemmas.List.{length_push}
use Rattle.js_values.specs.Objects.{Object}
use Rattle.object_heap.specs.Formed.{target_of}
use Rattle.object_heap.proofs.HeapLaws.{IsFormed-push, there_last}
use Rattle.object_heap.proofs.heap.Heap.new_object.Goals as goal

pub invariant_of-self-2 : goal.invariant_of-self-2
invariant_of-self-2 g c =
    let proto = subst (λ (h : List (Object g.row.T.Denot)). IfSome c.args.proto (λ o. o.0 < length h)) (sym c.self.view_is) c.requires.proto in
    let target = subst (λ (h : List (Object g.row.T.Denot)). IfSome (target_of c.args.inner) (λ o. o < length h)) (sym c.self.view_is) c.requires.target in
    let proto_of = subst (λ (p : Object g.row.T.Denot). IfSome p.proto (λ o. o.0 < length c.self.inside.objects.items)) (sym c.new-object.ensures) proto in
    let target_there = subst (λ (p : Object g.row.T.Denot). IfSome (target_of p.inner) (λ o. o < length c.self.inside.objects.items)) (sym c.new-object.ensures) target in
    rw c.in_ok-push.ensures.items (IsFormed-push c.self.inside.objects.items c.new-object.result proto_of target_there c.self.invariant)

pub returns-clause-number : goal.returns-clause-number
returns-clause-number g c =
    let number : c.len-number.result ≡ length c.self.inside.objects.items = c.len-number.ensures ∙ grind (arith, common_steps) in
    number ∙ ap length c.self.view_is

pub returns-clause-ok : goal.returns-clause-ok
returns-clause-ok g c =
    c.in_ok-push.ensures.items
    ∙ ap (λ (h : List (Object g.row.T.Denot)). h ++ c.new-object.result ∷ []) c.self.view_is
    ∙ ap (λ (p : Object g.row.T.Denot). c.args.self.now ++ p ∷ []) c.new-object.ensures

pub returns-clause-length : goal.returns-clause-length
returns-clause-length g c =
    ap length c.in_ok-push.ensures.items
    ∙ length_push c.self.inside.objects.items c.new-object.result
    ∙ ap (λ (h : List (Object g.row.T.Denot)). length h + 1) c.self.view_is

pub returns-clause-there : goal.returns-clause-there
returns-clause-there g c =
    let number : c.len-number.result ≡ length c.self.inside.objects.items = c.len-number.ensures ∙ grind (arith, common_steps) in
    ap (λ (h : List (Object g.row.T.Denot)). slice_get h c.len-number.result) c.in_ok-push.ensures.items
    ∙ ap (λ (n : ℕ). slice_get (c.self.inside.objects.items ++ c.new-object.result ∷ []) n) number
    ∙ there_last c.self.inside.objects.items c.new-object.result
    ∙ ap Some c.new-object.ensures
