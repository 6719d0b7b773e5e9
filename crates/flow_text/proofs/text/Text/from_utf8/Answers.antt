use Rattle.flow_text.proofs.Reading.{read_utf8, read_fault}
use Rattle.flow_text.proofs.RoundTrip.{utf8_again}
use Rattle.flow_text.proofs.text.Text.from_utf8.Goals as goal

pub returns-in_ok-spelled-in-Ok-clause-reading : goal.returns-in_ok-spelled-in-Ok-clause-reading
returns-in_ok-spelled-in-Ok-clause-reading c =
    let told = c.in-Ok.ensures.cases in
    let read = read_utf8 c.args.bytes.now told.1 in
    let is = c.in_ok-spelled-in-Ok.ensures in
    cc (read, is, told.0)

pub returns-in_ok-spelled-in-Ok-clause-again : goal.returns-in_ok-spelled-in-Ok-clause-again
returns-in_ok-spelled-in-Ok-clause-again c =
    let told = c.in-Ok.ensures.cases in
    let back = utf8_again c.args.bytes.now told.1 in
    let is = c.in_ok-spelled-in-Ok.ensures in
    cc (back, is, told.0)

pub returns-in-Err-clause-reading : goal.returns-in-Err-clause-reading
returns-in-Err-clause-reading c =
    let told = c.in-Err.ensures in
    let read = read_fault c.args.bytes.now told.cases.0 in
    cc (read, told.valid_len, c.valid_up_to.ensures)
