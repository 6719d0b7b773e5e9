use Rattle.std.proofs.Common.{refl, sym, ap, ap₂, ◌∙◌, ◌≡◌, Some, None, Bor, length, nat_eq}
use Rattle.std.proofs.lemmas.Option.{slice_get_read, slice_get_past}
use Rattle.std.proofs.lemmas.Bool.{ltb-true, ltb-false}
use Rattle.std.specs.List.{slice_get}
use Rattle.std.specs.Option.{option_map}
use Rattle.js_ast.specs.declared.trees.Function.{Function}
use Rattle.js_ast.specs.Held.{code_of}
use Rattle.js_ast.specs.Views.{view_function}
use Rattle.function_table.specs.Tables.{begins_where}
use Rattle.function_table.proofs.TableLaws.{code_there}
use Rattle.function_table.proofs.table.begins_there.Goals as goal

pub returns-in-Some : goal.returns-in-Some
returns-in-Some c =
    let xs = c.args.list.now in
    let here : slice_get xs c.args.number ≡ Some c.in-Some.other.now = slice_get_read xs (length xs) c.args.number c.in-Some.other.now refl (ltb-true c.args.number (length xs) (sym c.in-Some.ensures.lookup.0)) c.in-Some.ensures.lookup.1 in
    ap₂ nat_eq c.place.ensures c.place-at.ensures
    ∙ sym (ap (λ code. begins_where code (view_function c.args.f.now)) (code_there (λ f. f.now) xs c.args.number ∙ ap (option_map (λ (f : Bor Function). code_of f.now)) here))

pub returns-in-None : goal.returns-in-None
returns-in-None c =
    let xs = c.args.list.now in
    let past : slice_get xs c.args.number ≡ None = slice_get_past xs c.args.number (ltb-false c.args.number (length xs) (sym c.in-None.ensures.lookup.0)) in
    sym (ap (λ code. begins_where code (view_function c.args.f.now)) (code_there (λ f. f.now) xs c.args.number ∙ ap (option_map (λ (f : Bor Function). code_of f.now)) past))
