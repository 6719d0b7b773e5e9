use Rattle.std.proofs.Common.{ap, sym, ◌∙◌}
use Rattle.es_meaning.specs.Definitions.{keeps_body}
use Rattle.property_requests.specs.Defining.{body_of}
use Rattle.property_requests.proofs.definition.keeps_body.Goals as goal

pub returns-in-Accessor : goal.returns-in-Accessor
returns-in-Accessor c = c.keeps_accessor.ensures c.args.writable ∙ sym (ap (λ b. keeps_body c.args.writable b c.args.marks (body_of c.args.given.now)) c.in-Accessor.is)
