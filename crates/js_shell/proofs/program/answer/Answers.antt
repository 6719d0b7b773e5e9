use Rattle.std.proofs.Common.{◌≡◌, Some, refl}
use Rattle.flow_io.specs.Files.{Rose}
use Rattle.command_line.specs.Commands.{run, check, pair, make, trial}
use Rattle.command_line.specs.Reading.{run_seen, pair_seen, texts_of}
use Rattle.js_shell.specs.declared.status.Status.TheVariants as status
use Rattle.js_shell.specs.Answering.{no_memory}
use Rattle.js_shell.specs.Replies.{run_plan, pair_plan, reads_program, reads_files}
use Rattle.js_shell.proofs.Answering.{words_refused, script_made, script_checked, script_run, script_paired, script_tried, usage_put, usage_unput}
use Rattle.js_shell.proofs.Numbered.{made_sized, tried_sized}
use Rattle.js_shell.proofs.Replying.{planned_by}
use Rattle.js_shell.proofs.StatusLaws.{unless_early}
use Rattle.js_shell.proofs.program.answer.Goals as goal

pub returns-in-Ok-Run-clause-answers : goal.returns-in-Ok-Run-clause-answers
returns-in-Ok-Run-clause-answers g c = script_run (g.F.Store.contents c.args.store.now) (Rose (g.F.Store.faults c.args.store.now) (g.F.Store.faults c.run_one.new.store)) (g.K.Sink.taken c.args.sink.now) (g.K.Sink.taken c.run_one.new.sink) c.run_one.result (texts_of c.args.words.now) (run_seen c.in-Ok-Run.words) (rw c.in-Ok-Run.field-0-is at c.in-Ok-Run.ensures) c.run_one.ensures.answers

pub returns-in-Ok-Run-clause-usage : goal.returns-in-Ok-Run-clause-usage
returns-in-Ok-Run-clause-usage g c = usage_unput (texts_of c.args.words.now) c.run_one.result (run (run_seen c.in-Ok-Run.words)) (rw c.in-Ok-Run.field-0-is at c.in-Ok-Run.ensures) c.run_one.ensures.used

pub run_one-requires-clause-asked : goal.run_one-requires-clause-asked
run_one-requires-clause-asked g c = λ path h. c.requires.asked path (reads_files (run_plan (run_seen c.in-Ok-Run.words)) (planned_by (texts_of c.args.words.now) (Some (run (run_seen c.in-Ok-Run.words))) (rw c.in-Ok-Run.field-0-is at c.in-Ok-Run.ensures)) tt h)

pub returns-in-Ok-Check-clause-answers : goal.returns-in-Ok-Check-clause-answers
returns-in-Ok-Check-clause-answers g c = script_checked (g.F.Store.contents c.args.store.now) (Rose (g.F.Store.faults c.args.store.now) (g.F.Store.faults c.check.new.store)) (g.K.Sink.taken c.args.sink.now) (g.K.Sink.taken c.check.new.sink) c.check.result (texts_of c.args.words.now) c.in-Ok-Check.script.now (rw c.in-Ok-Check.field-0-is at c.in-Ok-Check.ensures) c.check.ensures.answers

pub returns-in-Ok-Check-clause-usage : goal.returns-in-Ok-Check-clause-usage
returns-in-Ok-Check-clause-usage g c = usage_unput (texts_of c.args.words.now) c.check.result (check c.in-Ok-Check.script.now) (rw c.in-Ok-Check.field-0-is at c.in-Ok-Check.ensures) c.check.ensures.used

pub check-requires-clause-asked : goal.check-requires-clause-asked
check-requires-clause-asked g c = c.requires.asked c.in-Ok-Check.script.now (reads_program (rw c.in-Ok-Check.field-0-is at c.in-Ok-Check.ensures))

pub returns-in-Ok-Pair-clause-answers : goal.returns-in-Ok-Pair-clause-answers
returns-in-Ok-Pair-clause-answers g c = script_paired (g.F.Store.contents c.args.store.now) (Rose (g.F.Store.faults c.args.store.now) (g.F.Store.faults c.run_two.new.store)) (g.K.Sink.taken c.args.sink.now) (g.K.Sink.taken c.run_two.new.sink) c.run_two.result (texts_of c.args.words.now) (pair_seen c.in-Ok-Pair.words) (rw c.in-Ok-Pair.field-0-is at c.in-Ok-Pair.ensures) c.run_two.ensures.answers

pub returns-in-Ok-Pair-clause-usage : goal.returns-in-Ok-Pair-clause-usage
returns-in-Ok-Pair-clause-usage g c = usage_unput (texts_of c.args.words.now) c.run_two.result (pair (pair_seen c.in-Ok-Pair.words)) (rw c.in-Ok-Pair.field-0-is at c.in-Ok-Pair.ensures) c.run_two.ensures.used

pub run_two-requires-clause-asked : goal.run_two-requires-clause-asked
run_two-requires-clause-asked g c = λ path h. c.requires.asked path (reads_files (pair_plan (pair_seen c.in-Ok-Pair.words)) (planned_by (texts_of c.args.words.now) (Some (pair (pair_seen c.in-Ok-Pair.words))) (rw c.in-Ok-Pair.field-0-is at c.in-Ok-Pair.ensures)) tt h)

pub returns-in-Ok-Make-clause-answers : goal.returns-in-Ok-Make-clause-answers
returns-in-Ok-Make-clause-answers g c = script_made (g.F.Store.contents c.args.store.now) (Rose (g.F.Store.faults c.args.store.now) (g.F.Store.faults c.args.store.now)) (g.K.Sink.taken c.args.sink.now) (g.K.Sink.taken c.write_script.new.sink) c.write_script.result (texts_of c.args.words.now) c.in-Ok-Make.number (rw c.in-Ok-Make.field-0-is at c.in-Ok-Make.ensures) c.write_script.ensures.puts

pub returns-in-Ok-Make-clause-usage : goal.returns-in-Ok-Make-clause-usage
returns-in-Ok-Make-clause-usage g c = usage_unput (texts_of c.args.words.now) c.write_script.result (make c.in-Ok-Make.number) (rw c.in-Ok-Make.field-0-is at c.in-Ok-Make.ensures) c.write_script.ensures.used

pub write_script-requires-clause-least : goal.write_script-requires-clause-least
write_script-requires-clause-least g c = (made_sized (texts_of c.args.words.now) c.in-Ok-Make.number (rw c.in-Ok-Make.field-0-is at c.in-Ok-Make.ensures)).0

pub write_script-requires-clause-most : goal.write_script-requires-clause-most
write_script-requires-clause-most g c = (made_sized (texts_of c.args.words.now) c.in-Ok-Make.number (rw c.in-Ok-Make.field-0-is at c.in-Ok-Make.ensures)).1

pub returns-in-Ok-Trial-clause-answers : goal.returns-in-Ok-Trial-clause-answers
returns-in-Ok-Trial-clause-answers g c = script_tried (g.F.Store.contents c.args.store.now) (Rose (g.F.Store.faults c.args.store.now) (g.F.Store.faults c.args.store.now)) (g.K.Sink.taken c.args.sink.now) (g.K.Sink.taken c.try_script.new.sink) c.try_script.result (texts_of c.args.words.now) c.in-Ok-Trial.number (rw c.in-Ok-Trial.field-0-is at c.in-Ok-Trial.ensures) c.try_script.ensures.answers

pub returns-in-Ok-Trial-clause-usage : goal.returns-in-Ok-Trial-clause-usage
returns-in-Ok-Trial-clause-usage g c = usage_unput (texts_of c.args.words.now) c.try_script.result (trial c.in-Ok-Trial.number) (rw c.in-Ok-Trial.field-0-is at c.in-Ok-Trial.ensures) c.try_script.ensures.used

pub try_script-requires-clause-least : goal.try_script-requires-clause-least
try_script-requires-clause-least g c = (tried_sized (texts_of c.args.words.now) c.in-Ok-Trial.number (rw c.in-Ok-Trial.field-0-is at c.in-Ok-Trial.ensures)).0

pub try_script-requires-clause-most : goal.try_script-requires-clause-most
try_script-requires-clause-most g c = (tried_sized (texts_of c.args.words.now) c.in-Ok-Trial.number (rw c.in-Ok-Trial.field-0-is at c.in-Ok-Trial.ensures)).1

pub returns-in-Err-Usage-clause-answers : goal.returns-in-Err-Usage-clause-answers
returns-in-Err-Usage-clause-answers g c = words_refused (g.F.Store.contents c.args.store.now) (Rose (g.F.Store.faults c.args.store.now) (g.F.Store.faults c.args.store.now)) (g.K.Sink.taken c.args.sink.now) (g.K.Sink.taken c.put_reply.new.sink) c.put_reply.result (texts_of c.args.words.now) (rw c.in-Err-Usage.field-0-is at c.in-Err-Usage.ensures) c.put_reply.ensures.puts

pub returns-in-Err-Usage-clause-usage : goal.returns-in-Err-Usage-clause-usage
returns-in-Err-Usage-clause-usage g c = usage_put (texts_of c.args.words.now) c.put_reply.result (g.K.Sink.taken c.args.sink.now) (g.K.Sink.taken c.put_reply.new.sink) (rw c.in-Err-Usage.field-0-is at c.in-Err-Usage.ensures) c.put_reply.ensures.puts

pub returns-in-Ok-Make-clause-no_read_fault : goal.returns-in-Ok-Make-clause-no_read_fault
returns-in-Ok-Make-clause-no_read_fault g c = unless_early c.write_script.result (g.F.Store.faults c.args.store.now ≡ g.F.Store.faults c.args.store.now) refl

pub returns-in-Ok-Trial-clause-no_read_fault : goal.returns-in-Ok-Trial-clause-no_read_fault
returns-in-Ok-Trial-clause-no_read_fault g c = unless_early c.try_script.result (g.F.Store.faults c.args.store.now ≡ g.F.Store.faults c.args.store.now) refl

pub returns-in-Err-Usage-clause-no_read_fault : goal.returns-in-Err-Usage-clause-no_read_fault
returns-in-Err-Usage-clause-no_read_fault g c = unless_early c.put_reply.result (g.F.Store.faults c.args.store.now ≡ g.F.Store.faults c.args.store.now) refl

pub returns-in-Err-OutOfMemory-clause-answers : goal.returns-in-Err-OutOfMemory-clause-answers
returns-in-Err-OutOfMemory-clause-answers g c = no_memory refl refl

pub returns-in-Err-OutOfMemory-clause-usage : goal.returns-in-Err-OutOfMemory-clause-usage
returns-in-Err-OutOfMemory-clause-usage g c = (λ e. let bad : status.OutOfMemory ≡ status.Usage = e in cc, λ none. tt)
