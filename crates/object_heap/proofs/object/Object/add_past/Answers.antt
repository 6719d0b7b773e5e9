use Rattle.std.proofs.Common.{sym, subst, Ok}
use Rattle.js_values.specs.Objects.{Object}
use Rattle.js_values.specs.Readings.{read_object, HasObject}
use Rattle.object_heap.specs.Answers.{Acts}
use Rattle.js_values.specs.Arrays.{length_key}
use Rattle.object_heap.specs.Lengths.{add_past, length_set}
use Rattle.object_heap.proofs.ActLaws.{acts_done, HasObject-at}
use Rattle.object_heap.proofs.AddLaws.{past_done, past_refused, HasObject-length_set}
use Rattle.object_heap.proofs.object.Object.add_past.Goals as goal

pub returns-in_err-check_length-clause-acts : goal.returns-in_err-check_length-clause-acts
returns-in_err-check_length-clause-acts g c =
    past_refused g.L.Labels.made g.L.Labels.meaning c.check_length.new.labels c.args.i c.args.key c.args.need c.args.body c.args.label c.args.marks c.args.self.now c.check_length.result c.from_residual.result c.in_err-check_length.field-0.0 c.in_err-check_length.was c.from_residual.ensures.1 c.check_length.ensures.acts

pub join-requires-clause-first : goal.join-requires-clause-first
join-requires-clause-first g c = (c.check_length.ensures.kept.labels c.length.result.now.label (HasObject-at (g.L.Labels.made c.args.labels.now) c.args.self.now length_key c.length.result.now c.length.ensures c.requires.belongs).0).0

pub returns-clause-acts : goal.returns-clause-acts
returns-clause-acts g c =
    let made = (c.check_length.ensures.kept.labels c.length.result.now.label (HasObject-at (g.L.Labels.made c.args.labels.now) c.args.self.now length_key c.length.result.now c.length.ensures c.requires.belongs).0).0 in
    let need = (c.check_length.ensures.kept.labels c.args.need c.requires.need).0 in
    subst (λ (p : Object g.row.T.Denot). Acts g.L.Labels.made g.L.Labels.meaning c.append.new.labels read_object (λ reading. add_past c.args.i c.args.key (reading c.args.need) c.args.body (reading c.args.label) c.args.marks) c.args.self.now p (Ok tt))
    (sym c.set_length.ensures)
    (acts_done g.L.Labels.made g.L.Labels.meaning c.append.new.labels read_object (λ reading. add_past c.args.i c.args.key (reading c.args.need) c.args.body (reading c.args.label) c.args.marks) c.args.self.now (length_set c.args.i c.in_ok-raised.raised c.append.new.self)
    (past_done g.L.Labels.made g.L.Labels.meaning g.L.Labels.room g.L.Labels.firm c.args.i c.args.key c.args.need c.args.body c.args.label c.args.marks c.args.self.now c.append.new.self c.length.result.now c.in_ok-raised.raised
    c.check_length.new.labels c.join.new.self c.append.new.labels c.in_ok-raised.ensures.kept c.append.ensures.kept c.length.ensures (c.in_ok-append.ensures.keeps length_key c.length.result.now c.length.ensures)
    made need c.in_ok-raised.ensures.made c.in_ok-raised.ensures.meaning c.in_ok-check_length.ensures.acts.does c.in_ok-append.ensures.does))

pub returns-clause-belongs : goal.returns-clause-belongs
returns-clause-belongs g c =
    subst (λ (p : Object g.row.T.Denot). HasObject (g.L.Labels.made c.append.new.labels) p) (sym c.set_length.ensures)
    (HasObject-length_set (g.L.Labels.made c.append.new.labels) c.args.i c.in_ok-raised.raised c.append.new.self (c.append.ensures.kept.labels c.in_ok-raised.raised c.in_ok-raised.ensures.made).0 c.append.ensures.belongs)
