use Rattle.std.proofs.Common.{refl, sym, ap, ◌∙◌, ◌≡◌, Some, None, Bor, length}
use Rattle.std.proofs.lemmas.Option.{slice_get_read, slice_get_past}
use Rattle.std.proofs.lemmas.Bool.{ltb-true, ltb-false}
use Rattle.std.specs.List.{slice_get}
use Rattle.std.specs.Option.{option_map}
use Rattle.js_ast.specs.declared.trees.Function.{Function}
use Rattle.js_ast.specs.Held.{code_of}
use Rattle.function_table.proofs.TableLaws.{code_there}
use Rattle.function_table.proofs.table.Functions.get.Goals as goal

pub returns-in-Some : goal.returns-in-Some
returns-in-Some c =
    let xs = c.deref.result.now in
    let here : slice_get xs c.args.number ≡ Some c.in-Some.f.now = slice_get_read xs (length xs) c.args.number c.in-Some.f.now refl (ltb-true c.args.number (length xs) (sym c.in-Some.ensures.lookup.0)) c.in-Some.ensures.lookup.1 in
    rw (← c.self.view_is, ← c.deref.ensures.value) (sym (code_there (λ f. f.now) xs c.args.number ∙ ap (option_map (λ (f : Bor Function). code_of f.now)) here))

pub returns-in-None : goal.returns-in-None
returns-in-None c =
    let xs = c.deref.result.now in
    let past : slice_get xs c.args.number ≡ None = slice_get_past xs c.args.number (ltb-false c.args.number (length xs) (sym c.in-None.ensures.lookup.0)) in
    rw (← c.self.view_is, ← c.deref.ensures.value) (sym (code_there (λ f. f.now) xs c.args.number ∙ ap (option_map (λ (f : Bor Function). code_of f.now)) past))
