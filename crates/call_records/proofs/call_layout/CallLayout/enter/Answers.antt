use Rattle.std.proofs.Common.{refl, sym, ap, length, List, [], ◌∷◌, ◌++◌, ◌≡◌, Some, ◌∙◌}
use Rattle.js_ast.specs.Trees.{params_of}
use Rattle.js_ast.specs.Views.{view_function}
use Rattle.js_values.specs.declared.value.Labelled.{Labelled}
use Rattle.env_records.specs.Layouts.{LaidName, laid}
use Rattle.es_meaning.specs.Functions.{Entry, entry_bindings, entry_record}
use Rattle.call_records.specs.Planned.{layout_of}
use Rattle.call_records.proofs.JoinedLaws.{for_joined_weaker}
use Rattle.call_records.proofs.call_layout.CallLayout.enter.Goals as goal

pub begin-requires-clause-named : goal.begin-requires-clause-named
begin-requires-clause-named g c =
    c.in_ok-values.ensures.length ∙ ap (λ (ns : List LaidName). length ns) (sym (c.self.invariant.names ∙ ap (λ f. layout_of (view_function f)) c.self.view_is))

pub returns-clause-ok : goal.returns-clause-ok
returns-clause-ok g c =
    let f = view_function c.args.self.now in
    let e = c.args.entry in
    let values = c.in_ok-values.values.items in
    let with_args : List (Labelled g.row.T.Denot) → Entry (Labelled g.row.T.Denot) = λ vs. record { this = e.this; function = e.function; args = vs; missing = e.missing; functions = e.functions.items; arguments = e.arguments } in
    for_joined_weaker g.L.Labels.made g.L.Labels.meaning c.values.new.labels c.args.context c.args.args.now (length (params_of f)) (length (params_of f)) refl
    (λ vs. laid (layout_of f) values ≡ entry_bindings f (with_args vs)) (λ vs. c.begin.new.self ≡ c.args.records.now ++ entry_record f c.args.place.0 (with_args vs) ∷ [])
    (λ vs bound.
    c.in_ok-e.ensures.ok
    ∙ ap (λ bs. c.args.records.now ++ record { outer = Some c.args.place; bindings = bs } ∷ [])
    (ap (λ (ns : List LaidName). laid ns values) (c.self.invariant.names ∙ ap (λ g. layout_of (view_function g)) c.self.view_is) ∙ bound))
    c.in_ok-values.ensures.bindings
