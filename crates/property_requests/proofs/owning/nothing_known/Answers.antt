use Rattle.property_requests.specs.Finding.{nothing}
use Rattle.property_requests.proofs.OwningLaws.{nothing_of}
use Rattle.property_requests.proofs.owning.nothing_known.Goals as goal

pub returns : goal.returns
returns g c = nothing_of (record { marks = c.undefined.result; value = c.undefined-2.result; get = c.undefined-3.result; set = c.undefined-4.result }) (nothing c.args.label) c.undefined.ensures c.undefined-2.ensures c.undefined-3.ensures c.undefined-4.ensures
