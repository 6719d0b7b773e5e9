use Rattle.std.proofs.Common.{ap}
use Rattle.js_values.specs.declared.value.Labelled.{Labelled}
use Rattle.js_values.specs.Records.{Record}
use Rattle.env_records.proofs.PlaceLaws.{LeadOutwards-push}
use Rattle.env_records.proofs.envs.Envs.begin.Goals as goal

pub invariant_of-self-2 : goal.invariant_of-self-2
invariant_of-self-2 g c =
    rw c.in_ok-push.ensures.items
    (LeadOutwards-push c.self.inside.records.items c.args.self.now c.self.view_is c.in_ok-record.record c.args.outer (ap (λ (r : Record (Labelled g.row.T.Denot)). r.outer) c.in_ok-record.ensures) c.self.invariant c.requires.there)
