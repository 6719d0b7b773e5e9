use Rattle.std.proofs.Common.{ap, ◌∙◌, length, replicate}
use Rattle.js_ast.specs.Views.{view_program}
use Rattle.es_meaning.specs.BuiltIns.{built_ins_of}
use Rattle.plain_heap.specs.PlainObjects.{PlainObjects, objects_with}
use Rattle.step_start.proofs.StartLaws.{starts, start_belongs, one_frame}
use Rattle.step_start.proofs.starting.start.Goals as goal

pub returns-clause-starts : goal.returns-clause-starts
returns-clause-starts g c = λ inputs reading is turns.
    starts g.L.Labels.made g.L.Labels.meaning c.args.labels.now (record { frames = c.in_ok-frames.frames; heap = c.into_heap.result; records = c.in_ok-records.records; positions = c.in_ok-positions.positions }) c.bottom-label.result
    (built_ins_of (g.N.Natives.entries c.args.natives.now) (g.N.Natives.begin c.args.natives.now) (g.N.Natives.after c.args.natives.now) (g.N.Natives.asks c.args.natives.now)) (view_program c.args.program.now) c.bottom-label.ensures.made c.bottom-label.ensures.meaning
    c.in_ok-frames.ensures.root c.in_ok-frames.ensures.belongs (c.into_heap.ensures ∙ ap (λ (h : PlainObjects g.row.L-Label.Denot). objects_with h.label h.objects) c.in_ok-entered.ensures.objects) c.in_ok-records.ensures c.args.policy.now inputs reading is (c.in_ok-positions.ensures ∙ ap (λ channels. replicate (length channels) 0) c.inputs.ensures.inputs) turns

pub returns-clause-belongs : goal.returns-clause-belongs
returns-clause-belongs g c =
    start_belongs g.L.Labels.made g.L.Labels.meaning c.args.labels.now (record { frames = c.in_ok-frames.frames; heap = c.into_heap.result; records = c.in_ok-records.records; positions = c.in_ok-positions.positions }) c.bottom-label.result
    (built_ins_of (g.N.Natives.entries c.args.natives.now) (g.N.Natives.begin c.args.natives.now) (g.N.Natives.after c.args.natives.now) (g.N.Natives.asks c.args.natives.now)) (view_program c.args.program.now) c.bottom-label.ensures.made c.bottom-label.ensures.meaning
    c.in_ok-frames.ensures.root c.in_ok-frames.ensures.belongs (c.into_heap.ensures ∙ ap (λ (h : PlainObjects g.row.L-Label.Denot). objects_with h.label h.objects) c.in_ok-entered.ensures.objects) c.in_ok-records.ensures c.in_ok-entered.entered.heap c.in_ok-entered.ensures.objects c.in_ok-entered.ensures.started

pub returns-clause-alone : goal.returns-clause-alone
returns-clause-alone g c = one_frame (g.L.Labels.meaning c.args.labels.now) c.in_ok-frames.frames.frames c.in_ok-frames.ensures.root
