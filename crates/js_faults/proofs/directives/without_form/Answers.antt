use Rattle.std.proofs.Common.{ap, ◌∙◌}
use Rattle.js_faults.specs.Faults.{first_by}
use Rattle.js_faults.specs.Directives.{of_directive, by_place}
use Rattle.js_faults.proofs.Nodes.{formless}
use Rattle.js_faults.proofs.directives.without_form.Goals as goal

pub returns : goal.returns
returns c = c.of_directive.ensures ∙ ap (λ value. first_by by_place (of_directive c.args.s.now.at value)) c.directive_of.ensures ∙ ap (first_by by_place) (formless c.args.s.now.at c.args.s.now.kind.value)
