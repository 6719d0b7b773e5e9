use Rattle.std.proofs.Common.{ap, sym, subst, ◌∙◌, ◌<◌, [], ◌∷◌, length}
use Rattle.std.specs.Option.{IfSome}
use Rattle.js_values.specs.Objects.{fresh_plain}
use Rattle.plain_heap.specs.PlainObjects.{seen_inner, with_more}
use Rattle.plain_heap.proofs.MoreLaws.{more_length}
use Rattle.plain_heap.proofs.PlainLaws.{all_with, further, length_is, view_with}
use Rattle.plain_heap.proofs.plain_heap.PlainHeap.new_object.Goals as goal

pub new_object-requires-clause-proto : goal.new_object-requires-clause-proto
new_object-requires-clause-proto g c =
    subst (λ n. IfSome c.args.proto (λ o. o.0 < n)) (length_is c.self.inside.label c.self.inside.heap c.args.self.now c.self.view_is) c.requires.proto

pub new_object-requires-clause-target : goal.new_object-requires-clause-target
new_object-requires-clause-target g c = subst (λ t. IfSome t (λ o. o < length c.self.inside.heap)) (sym c.requires.unbound) tt

pub invariant_of-self-2 : goal.invariant_of-self-2
invariant_of-self-2 g c =
    all_with c.self.inside.label c.new_object.new.self _
    (c.in_ok-o.ensures.ok ∙ further c.self.inside.label c.self.inside.heap c.args.class c.args.inner c.args.proto c.requires.unbound c.self.invariant)

pub returns-clause-ok : goal.returns-clause-ok
returns-clause-ok g c =
    view_with c.self.inside.label c.new_object.new.self _
    (c.in_ok-o.ensures.ok ∙ further c.self.inside.label c.self.inside.heap c.args.class c.args.inner c.args.proto c.requires.unbound c.self.invariant)
    ∙ ap (with_more (fresh_plain c.args.class (seen_inner c.args.inner) c.args.proto ∷ [])) c.self.view_is

pub returns-clause-number : goal.returns-clause-number
returns-clause-number g c = c.in_ok-o.ensures.number ∙ sym (length_is c.self.inside.label c.self.inside.heap c.args.self.now c.self.view_is)

pub returns-clause-length : goal.returns-clause-length
returns-clause-length g c =
    more_length c.args.self.now _ (fresh_plain c.args.class (seen_inner c.args.inner) c.args.proto)
    (view_with c.self.inside.label c.new_object.new.self _
    (c.in_ok-o.ensures.ok ∙ further c.self.inside.label c.self.inside.heap c.args.class c.args.inner c.args.proto c.requires.unbound c.self.invariant)
    ∙ ap (with_more (fresh_plain c.args.class (seen_inner c.args.inner) c.args.proto ∷ [])) c.self.view_is)
