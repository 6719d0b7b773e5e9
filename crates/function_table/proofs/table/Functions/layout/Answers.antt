use Rattle.std.proofs.Common.{refl, sym, ap, ◌∙◌, ◌≡◌, List, Some, None, length}
use Rattle.std.proofs.lemmas.Option.{slice_get_read, slice_get_past, slice_get-map}
use Rattle.std.proofs.lemmas.Bool.{ltb-true, ltb-false}
use Rattle.std.specs.List.{slice_get}
use Rattle.std.specs.Option.{option_map}
use Rattle.js_ast.specs.declared.trees.Function.{Function}
use Rattle.js_ast.specs.Held.{code_of}
use Rattle.function_table.specs.Tables.{table}
use Rattle.function_table.proofs.table.Functions.layout.Goals as goal

pub returns-in-Some : goal.returns-in-Some
returns-in-Some c =
    let xs = c.deref.result.now in
    let here : slice_get xs c.args.number ≡ Some c.in-Some.layout.now = slice_get_read xs (length xs) c.args.number c.in-Some.layout.now refl (ltb-true c.args.number (length xs) (sym c.in-Some.ensures.lookup.0)) c.in-Some.ensures.lookup.1 in
    sym (ap (λ (fs : List Function). slice_get (table fs) c.args.number) (sym c.self.view_is ∙ sym c.self.invariant.1 ∙ sym c.deref.ensures.value) ∙ slice_get-map code_of xs c.args.number ∙ ap (option_map code_of) here)

pub returns-in-None : goal.returns-in-None
returns-in-None c =
    let xs = c.deref.result.now in
    let past : slice_get xs c.args.number ≡ None = slice_get_past xs c.args.number (ltb-false c.args.number (length xs) (sym c.in-None.ensures.lookup.0)) in
    sym (ap (λ (fs : List Function). slice_get (table fs) c.args.number) (sym c.self.view_is ∙ sym c.self.invariant.1 ∙ sym c.deref.ensures.value) ∙ slice_get-map code_of xs c.args.number ∙ ap (option_map code_of) past)
