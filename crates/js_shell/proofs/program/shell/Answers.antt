use Rattle.std.proofs.Common.{refl}
use Rattle.flow_io.specs.Files.{Rose}
use Rattle.command_line.specs.Reading.{texts_of}
use Rattle.js_shell.specs.declared.status.Status.TheVariants as status
use Rattle.js_shell.proofs.Causing.{exactly}
use Rattle.js_shell.proofs.Promised.{reply_told, isolation_told, plain_told, stops_told, view_told, completes, read_fault_told, read_fault_failed, early_told}
use Rattle.js_shell.proofs.StatusLaws.{write_fault_shut}
use Rattle.js_shell.proofs.program.shell.Goals as goal

pub returns-clause-reply : goal.returns-clause-reply
returns-clause-reply g c =
    reply_told (texts_of c.args.words.now) (g.F.Store.contents c.args.store.now) (Rose (g.F.Store.faults c.args.store.now) (g.F.Store.faults c.answer.new.store)) (g.K.Sink.taken c.args.sink.now) (g.K.Sink.taken c.answer.new.sink) c.answer.result c.answer.ensures.answers

pub returns-clause-isolation : goal.returns-clause-isolation
returns-clause-isolation g c =
    isolation_told (texts_of c.args.words.now) (g.F.Store.contents c.args.store.now) (Rose (g.F.Store.faults c.args.store.now) (g.F.Store.faults c.answer.new.store)) (g.K.Sink.taken c.args.sink.now) (g.K.Sink.taken c.answer.new.sink) c.answer.result c.answer.ensures.answers c.two_runs.ensures

pub returns-clause-plain : goal.returns-clause-plain
returns-clause-plain g c =
    plain_told (texts_of c.args.words.now) (g.F.Store.contents c.args.store.now) (Rose (g.F.Store.faults c.args.store.now) (g.F.Store.faults c.answer.new.store)) (g.K.Sink.taken c.args.sink.now) (g.K.Sink.taken c.answer.new.sink) c.answer.result c.answer.ensures.answers c.erasure.ensures

pub returns-clause-stops : goal.returns-clause-stops
returns-clause-stops g c =
    stops_told (texts_of c.args.words.now) (g.F.Store.contents c.args.store.now) (Rose (g.F.Store.faults c.args.store.now) (g.F.Store.faults c.answer.new.store)) (g.K.Sink.taken c.args.sink.now) (g.K.Sink.taken c.answer.new.sink) c.answer.result c.answer.ensures.answers c.erasure.ensures

pub returns-clause-common_view : goal.returns-clause-common_view
returns-clause-common_view g c =
    view_told (texts_of c.args.words.now) (g.F.Store.contents c.args.store.now) (Rose (g.F.Store.faults c.args.store.now) (g.F.Store.faults c.answer.new.store)) (g.K.Sink.taken c.args.sink.now) (g.K.Sink.taken c.answer.new.sink) c.answer.result c.answer.ensures.answers c.two_runs.ensures

pub returns-clause-complete : goal.returns-clause-complete
returns-clause-complete g c =
    completes (texts_of c.args.words.now) (g.F.Store.contents c.args.store.now) (Rose (g.F.Store.faults c.args.store.now) (g.F.Store.faults c.answer.new.store)) (g.K.Sink.taken c.args.sink.now) (g.K.Sink.taken c.answer.new.sink) c.answer.result c.answer.ensures.answers c.erasure.ensures c.declared.ensures

pub returns-clause-done : goal.returns-clause-done
returns-clause-done g c =
    exactly (texts_of c.args.words.now) (g.F.Store.contents c.args.store.now) (Rose (g.F.Store.faults c.args.store.now) (g.F.Store.faults c.answer.new.store)) (g.K.Sink.taken c.args.sink.now) (g.K.Sink.taken c.answer.new.sink) c.answer.result c.erasure.ensures status.Done refl refl c.answer.ensures.answers

pub returns-clause-threw : goal.returns-clause-threw
returns-clause-threw g c =
    exactly (texts_of c.args.words.now) (g.F.Store.contents c.args.store.now) (Rose (g.F.Store.faults c.args.store.now) (g.F.Store.faults c.answer.new.store)) (g.K.Sink.taken c.args.sink.now) (g.K.Sink.taken c.answer.new.sink) c.answer.result c.erasure.ensures status.Threw refl refl c.answer.ensures.answers

pub returns-clause-source : goal.returns-clause-source
returns-clause-source g c =
    exactly (texts_of c.args.words.now) (g.F.Store.contents c.args.store.now) (Rose (g.F.Store.faults c.args.store.now) (g.F.Store.faults c.answer.new.store)) (g.K.Sink.taken c.args.sink.now) (g.K.Sink.taken c.answer.new.sink) c.answer.result c.erasure.ensures status.Source refl refl c.answer.ensures.answers

pub returns-clause-policy : goal.returns-clause-policy
returns-clause-policy g c =
    exactly (texts_of c.args.words.now) (g.F.Store.contents c.args.store.now) (Rose (g.F.Store.faults c.args.store.now) (g.F.Store.faults c.answer.new.store)) (g.K.Sink.taken c.args.sink.now) (g.K.Sink.taken c.answer.new.sink) c.answer.result c.erasure.ensures status.Policy refl refl c.answer.ensures.answers

pub returns-clause-stopped : goal.returns-clause-stopped
returns-clause-stopped g c =
    exactly (texts_of c.args.words.now) (g.F.Store.contents c.args.store.now) (Rose (g.F.Store.faults c.args.store.now) (g.F.Store.faults c.answer.new.store)) (g.K.Sink.taken c.args.sink.now) (g.K.Sink.taken c.answer.new.sink) c.answer.result c.erasure.ensures status.Stopped refl refl c.answer.ensures.answers

pub returns-clause-left : goal.returns-clause-left
returns-clause-left g c =
    exactly (texts_of c.args.words.now) (g.F.Store.contents c.args.store.now) (Rose (g.F.Store.faults c.args.store.now) (g.F.Store.faults c.answer.new.store)) (g.K.Sink.taken c.args.sink.now) (g.K.Sink.taken c.answer.new.sink) c.answer.result c.erasure.ensures status.Left refl refl c.answer.ensures.answers

pub returns-clause-out_of_turns : goal.returns-clause-out_of_turns
returns-clause-out_of_turns g c =
    exactly (texts_of c.args.words.now) (g.F.Store.contents c.args.store.now) (Rose (g.F.Store.faults c.args.store.now) (g.F.Store.faults c.answer.new.store)) (g.K.Sink.taken c.args.sink.now) (g.K.Sink.taken c.answer.new.sink) c.answer.result c.erasure.ensures status.OutOfTurns refl refl c.answer.ensures.answers

pub returns-clause-unfinished : goal.returns-clause-unfinished
returns-clause-unfinished g c =
    exactly (texts_of c.args.words.now) (g.F.Store.contents c.args.store.now) (Rose (g.F.Store.faults c.args.store.now) (g.F.Store.faults c.answer.new.store)) (g.K.Sink.taken c.args.sink.now) (g.K.Sink.taken c.answer.new.sink) c.answer.result c.erasure.ensures status.Unfinished refl refl c.answer.ensures.answers

pub returns-clause-read_fault : goal.returns-clause-read_fault
returns-clause-read_fault g c =
    read_fault_failed (texts_of c.args.words.now) (g.F.Store.contents c.args.store.now) (Rose (g.F.Store.faults c.args.store.now) (g.F.Store.faults c.answer.new.store)) (g.K.Sink.taken c.args.sink.now) (g.K.Sink.taken c.answer.new.sink) c.answer.result c.answer.ensures.answers

pub returns-clause-read_report : goal.returns-clause-read_report
returns-clause-read_report g c =
    read_fault_told (texts_of c.args.words.now) (g.F.Store.contents c.args.store.now) (Rose (g.F.Store.faults c.args.store.now) (g.F.Store.faults c.answer.new.store)) (g.K.Sink.taken c.args.sink.now) (g.K.Sink.taken c.answer.new.sink) c.answer.result c.answer.ensures.answers

pub returns-clause-write_fault : goal.returns-clause-write_fault
returns-clause-write_fault g c =
    write_fault_shut c.answer.result (g.K.Sink.shut c.answer.new.sink) c.answer.ensures.shut

pub returns-clause-early : goal.returns-clause-early
returns-clause-early g c =
    early_told (texts_of c.args.words.now) (g.F.Store.contents c.args.store.now) (Rose (g.F.Store.faults c.args.store.now) (g.F.Store.faults c.answer.new.store)) (g.K.Sink.taken c.args.sink.now) (g.K.Sink.taken c.answer.new.sink) c.answer.result c.answer.ensures.answers
