use Rattle.std.proofs.Common.{◌<◌, ap, sym, subst, ◌∙◌, length, List}
use Rattle.std.specs.List.{slice_get}
use Rattle.std.specs.Option.{option_map}
use Rattle.js_values.specs.declared.value.Labelled.{Labelled}
use Rattle.js_values.specs.Records.{Record}
use Rattle.env_records.specs.Layouts.{LaidName}
use Rattle.env_records.proofs.LayoutLaws.{name_within, kept_mutable}
use Rattle.env_records.proofs.record.Record.is_mutable.Goals as goal

pub is_mutable-requires : goal.is_mutable-requires
is_mutable-requires g c =
    subst (λ (names : List LaidName). c.args.place < length names) (sym c.deref.ensures)
    (name_within c.self.inside.layout.value c.self.inside.values.items c.self.invariant c.args.self.now.bindings (ap (λ (r : Record (Labelled g.row.T.Denot)). r.bindings) c.self.view_is) c.args.place c.requires)

pub returns : goal.returns
returns g c =
    kept_mutable c.self.inside.layout.value c.self.inside.values.items c.self.invariant c.args.self.now.bindings (ap (λ (r : Record (Labelled g.row.T.Denot)). r.bindings) c.self.view_is) c.args.place c.is_mutable.result
    (ap (λ (names : List LaidName). option_map (λ n. n.mutable) (slice_get names c.args.place)) (sym c.deref.ensures) ∙ c.is_mutable.ensures)
