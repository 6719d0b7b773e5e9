use Rattle.std.proofs.Common.{◌≡◌, sym, None}
use Rattle.js_ast.specs.Views.{view_stmt}
use Rattle.continuations.specs.Shapes.{body_behind}
use Rattle.continuations.proofs.LabelLaws.{behind_bare}
use Rattle.step_control.proofs.enter.+behind_labels.Goals as goal

pub returns-in-None : goal.returns-in-None
returns-in-None t c =
    let bare : body_behind (view_stmt c.args.s.now) ≡ None = sym c.in-None.ensures in
    sym (behind_bare c.args.passed (view_stmt c.args.s.now) bare)
