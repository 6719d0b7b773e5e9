use Rattle.std.proofs.Common.{ap, sym, length, List, ◌∙◌, arith}
use Rattle.js_values.specs.declared.value.Labelled.{Labelled}
use Rattle.origin_labels.proofs.StoreLaws.{IsKept-trans}
use Rattle.js_ast.specs.declared.trees.Function.{out-Function}
use Rattle.js_ast.specs.Nodes.{nodes_of}
use Rattle.js_ast.specs.Trees.{body_of}
use Rattle.js_ast.specs.Views.{view_function, view_stmts}
use Rattle.js_ast.proofs.ViewLaws.{parts_function}
use Rattle.js_values.proofs.ReadingLaws.{HasHeap-kept}
use Rattle.es_meaning.specs.Declared.{declared_functions}
use Rattle.es_meaning.specs.Naming.{names_in_statements}
use Rattle.function_table.specs.Tables.{table}
use Rattle.function_entry.proofs.EnterLaws.{entered, entry_belongs, planned_same, references_counted}
use Rattle.function_entry.proofs.FunctionLaws.{both_belong}
use Rattle.function_entry.proofs.entering.enter.Goals as goal

pub enter-requires-clause-functions : goal.enter-requires-clause-functions
enter-requires-clause-functions g c =
    ap (λ (vs : List (Labelled g.row.T.Denot)). length vs) c.in_ok-declared.ensures.references ∙ references_counted c.context-context.result _ _
    ∙ ap (λ f. length (declared_functions (body_of f))) (sym (parts_function c.args.f.now) ∙ sym (planned_same c.in-Some.layout.now c.args.f.now (table c.args.functions.now) c.args.number c.in-Some.ensures c.requires.known))

pub returns-clause-enters : goal.returns-clause-enters
returns-clause-enters g c =
    entered g.L.Labels.made g.L.Labels.meaning g.L.Labels.room g.L.Labels.firm c.args.labels.now c.enter.new.labels
    (IsKept-trans _ _ _ _ _ _ _ c.make_declared.ensures.kept (IsKept-trans _ _ _ _ _ _ _ c.make_named.ensures.kept c.enter.ensures.kept)) g.met.L.Labels.rising c.args.world.now c.requires.belongs
    (table c.args.functions.now) c.args.number (view_function c.args.f.now) (view_stmts (nodes_of (out-Function c.args.f.now).body)) (ap body_of (parts_function c.args.f.now)) c.args.place (record { 0 = c.len-2.result }) c.len-2.ensures
    c.args.this c.args.args.now c.in_ok-declared.declared.items c.number_value.result c.in_ok-arguments.arguments c.requires.this c.context-context.result c.context-context.ensures.made c.context-context.ensures.meaning c.bottom.result (c.enter.ensures.kept.labels c.bottom.result c.bottom.ensures.made).0 c.in_ok-declared.ensures.references
    c.make_declared.new.labels c.make_named.new.labels (IsKept-trans _ _ _ _ _ _ _ c.make_named.ensures.kept c.enter.ensures.kept) c.enter.ensures.kept c.names_arguments-named.result (c.names_arguments-named.ensures ∙ ap (λ f. names_in_statements (body_of f)) (planned_same c.in-Some.layout.now c.args.f.now (table c.args.functions.now) c.args.number c.in-Some.ensures c.requires.known)) ((c.enter.ensures.kept.labels c.bottom.result c.bottom.ensures.made).1 ∙ c.bottom.ensures.meaning) c.number_value.ensures
    c.make_declared.new.heap c.make_named.new.heap c.enter.new.records c.in_ok-arguments.ensures.number c.in_ok-declared.ensures.length c.in_ok-declared.ensures.makes c.in_ok-arguments.ensures.makes
    (rw (planned_same c.in-Some.layout.now c.args.f.now (table c.args.functions.now) c.args.number c.in-Some.ensures c.requires.known) at c.in_ok-e.ensures.ok)

pub returns-clause-belongs : goal.returns-clause-belongs
returns-clause-belongs g c =
    both_belong g.L.Labels.made g.L.Labels.meaning g.L.Labels.room g.L.Labels.firm c.args.labels.now c.enter.new.labels
    (IsKept-trans _ _ _ _ _ _ _ c.make_declared.ensures.kept (IsKept-trans _ _ _ _ _ _ _ c.make_named.ensures.kept c.enter.ensures.kept)) g.met.L.Labels.rising c.args.world.now c.requires.belongs
    c.make_named.new.heap c.enter.new.records
    (HasHeap-kept g.L.Labels.made g.L.Labels.meaning g.L.Labels.room g.L.Labels.firm c.make_named.new.labels c.enter.new.labels c.enter.ensures.kept c.make_named.new.heap c.make_named.ensures.belongs)
    (let first = c.make_declared.ensures.grows in let second = c.make_named.ensures.grows in omega (arith, first, second))
    (entry_belongs g.L.Labels.made g.L.Labels.meaning g.L.Labels.room g.L.Labels.firm c.args.labels.now c.enter.new.labels
    (IsKept-trans _ _ _ _ _ _ _ c.make_declared.ensures.kept (IsKept-trans _ _ _ _ _ _ _ c.make_named.ensures.kept c.enter.ensures.kept)) g.met.L.Labels.rising c.args.world.now c.requires.belongs
    (table c.args.functions.now) c.args.number (view_function c.args.f.now) (view_stmts (nodes_of (out-Function c.args.f.now).body)) (ap body_of (parts_function c.args.f.now)) c.args.place (record { 0 = c.len-2.result }) c.len-2.ensures
    c.args.this c.args.args.now c.in_ok-declared.declared.items c.number_value.result c.in_ok-arguments.arguments c.requires.this c.context-context.result c.context-context.ensures.made c.context-context.ensures.meaning c.bottom.result (c.enter.ensures.kept.labels c.bottom.result c.bottom.ensures.made).0 c.in_ok-declared.ensures.references
    c.enter.new.records (rw (planned_same c.in-Some.layout.now c.args.f.now (table c.args.functions.now) c.args.number c.in-Some.ensures c.requires.known) at c.in_ok-e.ensures.ok))
