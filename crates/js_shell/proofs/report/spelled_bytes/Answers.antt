use Rattle.std.proofs.Common.{sym, ◌∙◌}
use Rattle.flow_text.proofs.Laws.{ascii_bytes}
use Rattle.js_shell.proofs.report.spelled_bytes.Goals as goal

pub returns : goal.returns
returns c = c.in_ok-bytes.ensures.items ∙ sym (ascii_bytes c.args.word.now c.requires.ascii)
