use Rattle.std.proofs.Common.{arith, ap, ◌∙◌}
use Rattle.js_values.specs.declared.value.Labelled.{Labelled}
use Rattle.js_values.specs.Records.{Record, Bindings}
use Rattle.env_records.specs.Places.{with_value_at}
use Rattle.env_records.proofs.LayoutLaws.{value_within, laid_set}
use Rattle.env_records.proofs.record.Record.set.Goals as goal

pub index_mut-requires : goal.index_mut-requires
index_mut-requires g c = omega (arith, c.self.inside.values.ok.0, value_within c.self.inside.layout.value c.self.inside.values.items c.self.invariant c.args.self.now.bindings (ap (λ (r : Record (Labelled g.row.T.Denot)). r.bindings) c.self.view_is) c.args.place c.requires)

pub returns : goal.returns
returns g c =
    ap (λ (bs : Bindings (Labelled g.row.T.Denot)). record { outer = c.self.inside.outer; bindings = bs }) (laid_set c.self.inside.layout.value c.self.inside.values.items c.args.place c.args.value)
    ∙ ap (λ (r : Record (Labelled g.row.T.Denot)). record { outer = r.outer; bindings = with_value_at c.args.place c.args.value r.bindings }) c.self.view_is
