use Rattle.std.proofs.Common.{refl, sym}
use Rattle.flow_policy.proofs.InputLaws.{text_bad, fault_utf8, line_read, line_unknown}
use Rattle.flow_policy.proofs.inputs.read_line.Goals as goal

pub returns-in-Err-BadUtf8 : goal.returns-in-Err-BadUtf8
returns-in-Err-BadUtf8 c =
    let h = rw c.in-Err-BadUtf8.field-0-is at c.in-Err-BadUtf8.ensures.reading in
    (refl, fault_utf8 c.args.channels.now c.args.line.now (text_bad c.args.line.now c.in-Err-BadUtf8.field-0-0 h))

pub returns-in-Some : goal.returns-in-Some
returns-in-Some c = line_read c.args.channels.now c.args.line.now c.in-Ok.text c.in_ok-name.name c.in_ok-name.text c.in-Some.channel c.in-Ok.ensures.reading c.in_ok-name.ensures.before c.in_ok-name.ensures.after (sym c.in-Some.ensures)

pub returns : goal.returns
returns c = (refl, line_unknown c.args.channels.now c.args.line.now c.in-Ok.text c.in_ok-name.name c.in-Ok.ensures.reading c.in_ok-name.ensures.before (sym c.in-None.ensures))
