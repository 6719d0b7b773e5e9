use Rattle.std.proofs.Common.{◌∙◌, ap, sym}
use Rattle.std.specs.List.{list_any}
use Rattle.js_ast.specs.Views.{view_stmt}
use Rattle.es_meaning.specs.Environments.{is_label}
use Rattle.std.specs.Option.{option_map}
use Rattle.continuations.specs.Shapes.{labels_at}
use Rattle.continuations.proofs.JumpTargetLaws.{left_by_text}
use Rattle.continuations.proofs.jump_targets.is_left_by.Goals as goal

pub returns-in-Some : goal.returns-in-Some
returns-in-Some c = c.has_label.ensures ∙ left_by_text c.in-Some.text.now (view_stmt c.args.of.now)
    ∙ sym (ap (λ label. list_any (λ l. is_label (option_map (λ text. text.now) label) l) (labels_at (view_stmt c.args.of.now))) c.in-Some.is)
