use Rattle.std.proofs.Common.{◌++◌, ◌∷◌, [], ap, ap₂, ◌∙◌, ◌≡◌, List}
use Rattle.js_values.specs.declared.value.Labelled.{Labelled}
use Rattle.js_values.specs.Records.{Binding, Bindings, Record}
use Rattle.env_records.specs.Layouts.{LaidName, laid}
use Rattle.env_records.proofs.LayoutLaws.{laid_push}
use Rattle.env_records.proofs.record.Record.push.Goals as goal

pub returns-clause-ok : goal.returns-clause-ok
returns-clause-ok g c =
    let n : LaidName = record { name = c.args.name; mutable = c.args.mutable } in
    let b : Binding (Labelled g.row.T.Denot) = record { name = c.args.name; mutable = c.args.mutable; value = c.args.value } in
    let values : c.push_reserved.new.self.items ≡ c.self.inside.values.items ++ c.args.value ∷ [] =
    c.push_reserved.ensures.items ∙ ap (λ (vs : List (Labelled g.row.T.Denot)). vs ++ c.args.value ∷ []) c.in_ok-reserve.ensures.items in
    ap (λ (bs : Bindings (Labelled g.row.T.Denot)). record { outer = c.self.inside.outer; bindings = bs })
    (ap₂ (λ ns vs. laid ns vs) c.in_ok-push_name.ensures.ok values ∙ laid_push c.self.inside.layout.value c.self.inside.values.items n c.args.value c.self.invariant)
    ∙ ap (λ (r : Record (Labelled g.row.T.Denot)). record { outer = r.outer; bindings = r.bindings ++ b ∷ [] }) c.self.view_is
