use Rattle.std.proofs.Common.{sym, ◌∙◌}
use Rattle.property_requests.proofs.ChangingLaws.{body_is, label_is}
use Rattle.property_requests.proofs.defining.new_body.Goals as goal

pub returns-then-not-changes_body-clause-body : goal.returns-then-not-changes_body-clause-body
returns-then-not-changes_body-clause-body g c = sym c.changes_body.ensures ∙ c.if-not-changes_body.true

pub returns-clause-body : goal.returns-clause-body
returns-clause-body g c = record {
  changes = sym c.changes_body.ensures ∙ c.if-not-changes_body.false;
  body = body_is c.args.slot.now c.args.definition c.is_accessor.result c.becomes_accessor-accessor.result c.is_accessor.ensures c.becomes_accessor-accessor.ensures c.in_ok-body.body c.in_ok-body.ensures;
  label = label_is g.L.Labels.made g.L.Labels.meaning c.body_label.new.labels c.args.slot.now c.args.definition c.args.given c.keeps_a_half.result c.keeps_a_half.ensures c.in_ok-label.label c.in_ok-label.ensures.means;
}
