use Rattle.std.proofs.Common.{◌++◌, ◌∷◌, [], ap, ◌∙◌, ◌≡◌, List}
use Rattle.env_records.specs.Layouts.{LaidName, texts_of}
use Rattle.env_records.proofs.LayoutLaws.{agrees, texts_push}
use Rattle.env_records.proofs.layout.Layout.push.Goals as goal

pub invariant_of-self-2 : goal.invariant_of-self-2
invariant_of-self-2 c =
    let name : LaidName = record { name = c.args.name; mutable = c.args.mutable } in
    let items : c.push_reserved.new.self.items ≡ c.self.inside.names.items ++ name ∷ [] =
    c.push_reserved.ensures.items
    ∙ ap (λ (names : List LaidName). names ++ c.new.result ∷ []) c.in_ok-reserve.ensures.items
    ∙ ap (λ (n : LaidName). c.self.inside.names.items ++ n ∷ []) c.new.ensures in
    agrees c.insert_text.new.index (texts_of c.self.inside.names.items ++ c.args.name ∷ []) (texts_of c.push_reserved.new.self.items)
    (ap texts_of items ∙ texts_push c.self.inside.names.items name)
    (c.in_ok-insert_text.ensures.ok (texts_of c.self.inside.names.items) c.self.invariant)

pub returns-clause-ok : goal.returns-clause-ok
returns-clause-ok c =
    c.push_reserved.ensures.items
    ∙ ap (λ (names : List LaidName). names ++ c.new.result ∷ []) (c.in_ok-reserve.ensures.items ∙ c.self.view_is ∙ c.make_index.ensures)
    ∙ ap (λ (n : LaidName). c.args.self.now ++ n ∷ []) c.new.ensures
