use Rattle.std.proofs.Common.{arith, ap}
use Rattle.js_values.specs.declared.value.Labelled.{Labelled}
use Rattle.js_values.specs.Records.{Record}
use Rattle.env_records.proofs.LayoutLaws.{value_within, kept_value}
use Rattle.env_records.proofs.record.Record.value.Goals as goal

pub index-requires : goal.index-requires
index-requires g c = omega (arith, c.self.inside.values.ok.0, value_within c.self.inside.layout.value c.self.inside.values.items c.self.invariant c.args.self.now.bindings (ap (λ (r : Record (Labelled g.row.T.Denot)). r.bindings) c.self.view_is) c.args.place c.requires)

pub returns : goal.returns
returns g c = kept_value c.self.inside.layout.value c.self.inside.values.items c.self.invariant c.args.self.now.bindings (ap (λ (r : Record (Labelled g.row.T.Denot)). r.bindings) c.self.view_is) c.args.place c.index.result.now c.requires c.index.ensures
