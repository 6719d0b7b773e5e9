use Rattle.std.proofs.Common.{sym, ap, subst, ◌∙◌, ◌≡◌, ◌++◌, List, length, take, drop}
use Rattle.std.proofs.lemmas.List.{take_at}
use Rattle.js_ast.specs.declared.trees.Function.{Function}
use Rattle.js_ast.specs.Trees.{params_of, body_of}
use Rattle.js_ast.specs.Views.{view_function}
use Rattle.js_values.specs.declared.value.Labelled.{Labelled}
use Rattle.env_records.specs.Layouts.{LaidName, laid}
use Rattle.es_meaning.specs.Declared.{declared_functions}
use Rattle.es_meaning.specs.Functions.{Entry, entry_bindings}
use Rattle.call_records.specs.Joined.{ForJoined}
use Rattle.call_records.specs.Placed.{placed, placed_if}
use Rattle.call_records.specs.Planned.{layout_of}
use Rattle.call_records.proofs.FilledLaws.{values_put, first_size, parameters_counted, planned_two, planned_arguments, planned_parameters, planned_functions}
use Rattle.call_records.proofs.JoinedLaws.{for_joined_weaker}
use Rattle.call_records.proofs.call_layout.CallLayout.values.Goals as goal

pub first_values-requires : goal.first_values-requires
first_values-requires g c = planned_two _ _ _ _ _ c.self.invariant _ (c.len.ensures ∙ ap (λ (ns : List LaidName). length ns) c.deref.ensures)

pub fill-requires-clause-parameters : goal.fill-requires-clause-parameters
fill-requires-clause-parameters g c =
    let size = c.len.ensures ∙ ap (λ (ns : List LaidName). length ns) c.deref.ensures in
    planned_parameters _ _ _ _ _ c.self.invariant _
    (ap (λ (vs : List (Labelled g.row.T.Denot)). length vs) c.deref_mut.ensures.value ∙ first_size _ _ _ _ _ c.in_ok-values.ensures (planned_two _ _ _ _ _ c.self.invariant _ size) ∙ size)

pub fill-requires-clause-functions : goal.fill-requires-clause-functions
fill-requires-clause-functions g c =
    let size = c.len.ensures ∙ ap (λ (ns : List LaidName). length ns) c.deref.ensures in
    planned_functions _ _ _ _ _ c.self.invariant _
    (ap (λ (vs : List (Labelled g.row.T.Denot)). length vs) c.deref_mut.ensures.value ∙ first_size _ _ _ _ _ c.in_ok-values.ensures (planned_two _ _ _ _ _ c.self.invariant _ size) ∙ size)

pub fill-requires-clause-arguments : goal.fill-requires-clause-arguments
fill-requires-clause-arguments g c =
    let size = c.len.ensures ∙ ap (λ (ns : List LaidName). length ns) c.deref.ensures in
    planned_arguments _ _ _ _ _ c.self.invariant _
    (ap (λ (vs : List (Labelled g.row.T.Denot)). length vs) c.deref_mut.ensures.value ∙ first_size _ _ _ _ _ c.in_ok-values.ensures (planned_two _ _ _ _ _ c.self.invariant _ size) ∙ size)

pub returns-clause-bindings : goal.returns-clause-bindings
returns-clause-bindings g c =
    let f = c.self.inside.function.now in
    let e = c.args.entry in
    let places = c.self.inside.places in
    let whole = take_at c.fill.new.all (drop (length c.fill.new.all) c.in_ok-values.values.items) c.in_ok-values.values.len (c.in_ok-fill.ensures.length ∙ c.deref_mut.ensures.len) in
    let all = take c.in_ok-values.values.len (c.fill.new.all ++ drop (length c.fill.new.all) c.in_ok-values.values.items) in
    let with_args : List (Labelled g.row.T.Denot) → Entry (Labelled g.row.T.Denot) = λ vs. record { this = e.this; function = e.function; args = vs; missing = e.missing; functions = e.functions.items; arguments = e.arguments } in
    subst (λ (node : Function). ForJoined g.L.Labels.made g.L.Labels.meaning c.fill.new.labels c.args.context (take (length (params_of (view_function node))) c.args.args.now) (λ vs. laid (layout_of (view_function node)) all ≡ entry_bindings (view_function node) (with_args vs))) c.self.view_is
    (for_joined_weaker g.L.Labels.made g.L.Labels.meaning c.fill.new.labels c.args.context c.args.args.now (length places.parameters.items) (length (params_of (view_function f))) (parameters_counted (view_function f) c.self.inside.names.value places.parameters.items places.functions.items places.arguments c.self.invariant)
    (λ vs. c.fill.new.all ≡ placed e.missing places.functions.items e.functions.items (placed e.missing places.parameters.items vs (placed_if places.arguments e.arguments c.deref_mut.result.now))) (λ vs. laid (layout_of (view_function f)) all ≡ entry_bindings (view_function f) (with_args vs))
    (λ vs filled.
    ap (laid (layout_of (view_function f))) whole
    ∙ values_put (view_function f) (with_args vs) c.self.inside.names.value places.parameters.items places.functions.items places.arguments c.self.invariant
    (subst (λ (node : Function). length e.functions.items ≡ length (declared_functions (body_of (view_function node)))) (sym c.self.view_is) c.requires.functions) c.len.result (c.len.ensures ∙ ap (λ (ns : List LaidName). length ns) c.deref.ensures)
    c.in_ok-values.values.items c.fill.new.all c.in_ok-values.ensures
    (filled ∙ ap (λ (us : List (Labelled g.row.T.Denot)). placed e.missing places.functions.items e.functions.items (placed e.missing places.parameters.items vs (placed_if places.arguments e.arguments us))) c.deref_mut.ensures.value))
    c.in_ok-fill.ensures.placed)

pub returns-clause-length : goal.returns-clause-length
returns-clause-length g c =
    let size = c.len.ensures ∙ ap (λ (ns : List LaidName). length ns) c.deref.ensures in
    let whole = take_at c.fill.new.all (drop (length c.fill.new.all) c.in_ok-values.values.items) c.in_ok-values.values.len (c.in_ok-fill.ensures.length ∙ c.deref_mut.ensures.len) in
    ap (λ (vs : List (Labelled g.row.T.Denot)). length vs) whole ∙ c.in_ok-fill.ensures.length ∙ ap (λ (vs : List (Labelled g.row.T.Denot)). length vs) c.deref_mut.ensures.value
    ∙ first_size _ _ _ _ _ c.in_ok-values.ensures (planned_two _ _ _ _ _ c.self.invariant _ size) ∙ size ∙ ap (λ (ns : List LaidName). length ns) c.self.invariant.names ∙ ap (λ f. length (layout_of (view_function f))) c.self.view_is
