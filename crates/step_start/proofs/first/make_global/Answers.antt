use Rattle.std.proofs.Common.{ap, length}
use Rattle.std.proofs.lemmas.Result.{on_ok_weaker}
use Rattle.js_number.specs.declared.primitive.Primitive.TheVariants.{Undefined}
use Rattle.js_values.specs.declared.property.Body.TheVariants.{Data}
use Rattle.js_values.specs.declared.value.Value.TheVariants.{Primitive}
use Rattle.es_meaning.specs.Start.{fixed}
use Rattle.plain_heap.specs.PlainObjects.{PlainObjects}
use Rattle.step_start.proofs.FirstObjectLaws.{global_made}
use Rattle.step_start.proofs.first.make_global.Goals as goal

pub returns-clause-ok : goal.returns-clause-ok
returns-clause-ok g c =
    on_ok_weaker c.give_named.result (λ gives.
    global_made c.args.heap.now c.new_object.new.self c.new_object-2.new.self c.give_named.new.self c.in_ok-root.root c.in_ok-global.global (record { body = Data (Primitive Undefined); marks = fixed }) c.requires.none c.in_ok-root.ensures.number c.in_ok-global.ensures.number c.in_ok-root.ensures.ok c.in_ok-global.ensures.ok gives) c.give_named.ensures

pub returns-clause-length : goal.returns-clause-length
returns-clause-length g c =
    on_ok_weaker c.give_named.result (λ gives.
    ap (λ (h : PlainObjects g.row.T.Denot). length h.objects)
    (global_made c.args.heap.now c.new_object.new.self c.new_object-2.new.self c.give_named.new.self c.in_ok-root.root c.in_ok-global.global (record { body = Data (Primitive Undefined); marks = fixed }) c.requires.none c.in_ok-root.ensures.number c.in_ok-global.ensures.number c.in_ok-root.ensures.ok c.in_ok-global.ensures.ok gives)) c.give_named.ensures
