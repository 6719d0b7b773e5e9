use Rattle.flow_text.specs.Utf8.{utf8_of}
use Rattle.flow_text.proofs.Paired.{text_again}
use Rattle.flow_text.proofs.text.Text.to_utf8.Goals as goal

pub returns-clause-again : goal.returns-clause-again
unfolding utf8_of
returns-clause-again c whole =
    let read = text_again c.args.self.now c.known_units.ensures.units whole in
    let is = c.in_ok-spelling.ensures in
    cc (read, is, c.known_units.ensures.same, c.into_bytes.ensures.value)
