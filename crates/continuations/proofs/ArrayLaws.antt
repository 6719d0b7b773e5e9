-- The items of an array literal, and what waits for the conversions of a value for the `length` of an array.
use Rattle.std.proofs.Common.{refl, sym, ap, ap₂, ◌∙◌, ◌≡◌, ◌+◌, ◌<◌, ◌≤◌, ℕ, zero, suc, List, [], ◌∷◌, ◌++◌, map, drop, length, get_or, Some, None, arith, rules, subst, append-nil}
use Rattle.std.specs.Borrow.{Bor}
use Rattle.std.proofs.lemmas.List.{drop_all, drop_more, nil_from_length}
use Rattle.std.proofs.lemmas.Option.{same_Some}
use Rattle.origin_labels.specs.Label.{Label}
use Rattle.flow_policy.specs.Policies.{Tables}
use Rattle.flow_policy.specs.Inputs.{Given}
use Rattle.js_ast.specs.Functions.{FunctionCode}
use Rattle.es_meaning.specs.BuiltIns.{BuiltIns}
use Rattle.js_values.specs.declared.value.Labelled.{Labelled}
use Rattle.js_values.specs.Readings.{read_value}
use Rattle.js_ast.specs.declared.trees.Expr as code
use Rattle.js_ast.specs.declared.trees.Item as node
use Rattle.js_ast.specs.declared.trees.Item.TheVariants as nodes
use Rattle.js_ast.specs.declared.trees.ExprKind.TheViews.{the_lemmas}
use Rattle.js_ast.specs.declared.node_list.NodeList.{NodeList}
use Rattle.js_ast.specs.Nodes.{nodes_of}
use Rattle.js_ast.specs.Trees.{Expr, no_items, item}
use Rattle.js_ast.specs.Views.{view_expr, view_expr_kind, view_item, view_items}
use Rattle.es_meaning.specs.Operations.{Value, Act}
use Rattle.es_meaning.specs.Evaluation.{items_of, more_items}
use Rattle.flow_meaning.specs.Scopes.{Val, State}
use Rattle.flow_meaning.specs.Planned.{an_expr, Ask, with_result, enter_count, planned, asking}
use Rattle.run_state.specs.declared.outcome.SetLength.{SetLength}
use Rattle.continuations.specs.Arrays.{Counts, IsFound, counts_from, first_item, item_from, items_from}
use Rattle.continuations.specs.declared.arrays.Found.TheVariants as found
use Rattle.continuations.specs.declared.continuation.Continuation.{Continuation}
use Rattle.continuations.specs.declared.continuation.Continuation.TheVariants as continuation
use Rattle.continuations.specs.declared.continuation.Control.{Control}
use Rattle.continuations.specs.declared.continuation.Control.TheVariants as control
use Rattle.continuations.specs.Kept.{Kept, scope_of, scopes_of, waits, waiting, kept_operands}
use Rattle.continuations.specs.Pending.{Task, array_act, behind, next_plan, sets_length, setting_above}
use Rattle.continuations.specs.Resuming.{coming, BeginsBehind}
use Rattle.continuations.specs.Settings.{Setting, entrance}
use Rattle.continuations.proofs.Behind.{behind_more}
use Rattle.continuations.proofs.Keeping.{scopes_more, natives_more, kept_more}
use Rattle.continuations.proofs.ObjectLaws.{pushed_expr}

-- what is left from an item is it and what stands behind it, and nothing is left where none stands
item_here : (items : List node.Item) (list : NodeList node.Item) (place : ℕ) (i : node.Item) → items ≡ nodes_of list → place < length items → i ≡ get_or items place i
    → view_items (drop place (nodes_of list)) ≡ view_item i (view_items (drop (place + 1) (nodes_of list)))
item_here items list place i is lt here = subst (λ is. view_items (drop place is) ≡ view_item i (view_items (drop (place + 1) is))) is (ap view_items (drop_more items place i lt) ∙ ap (λ j. view_item j (view_items (drop (place + 1) items))) (sym here))

pub found_end : (items : List node.Item) (list : NodeList node.Item) (place : ℕ) → items ≡ nodes_of list → length items ≤ place → IsFound found.End list place
found_end items list place is past = λ n. ap (first_item n) (subst (λ is. view_items (drop place is) ≡ no_items) is (ap view_items (drop_all place items past)))

module _ (items : List node.Item) (list : NodeList node.Item) (place : ℕ) (i : node.Item) (is : items ≡ nodes_of list) (lt : place < length items) (here : i ≡ get_or items place i) where
  pub found_hole : i ≡ nodes.Hole → IsFound found.Hole list place
  found_hole kind = λ n. ap (first_item n) (item_here items list place i is lt here ∙ ap (λ j. view_item j (view_items (drop (place + 1) (nodes_of list)))) kind)

  pub found_value : (x : Bor code.Expr) → i ≡ nodes.Value x.now → IsFound (found.Value x) list place
  found_value x kind = λ n.
      let rest = view_items (drop (place + 1) (nodes_of list)) in
      let seen : view_item i rest ≡ item (view_expr x.now) rest = search (rules, the_lemmas, kind) in
      ap (first_item n) (item_here items list place i is lt here ∙ seen)

-- what stands behind the first of what is left
drop_behind : {A : Type 0} (all rest : List A) (x : A) (at : ℕ) → x ∷ rest ≡ drop at all → rest ≡ drop (suc at) all
drop_behind [] rest x zero is = cc is
drop_behind [] rest x (suc at) is = cc is
drop_behind (y ∷ ys) rest x zero is = cc is
drop_behind (y ∷ ys) rest x (suc at) is = drop_behind ys rest x at is

module _ (tables : Tables) (inputs : Given) (set : BuiltIns) (functions : List FunctionCode) (act : Act) (vs : List Val) (i : ℕ) (s : State) where
  -- holes are passed over: the first item that is none is evaluated, and behind it what follows
  some_left : (all left : List node.Item) (at place : ℕ) (e : Expr) → left ≡ drop at all → first_item at (view_items left) ≡ Some (place, e)
      → items_of (planned tables inputs set functions) (entrance tables inputs set functions) (asking tables inputs set functions) act vs (view_items left) i s
      ≡ Ask (an_expr e i) s (with_result Value (more_items (planned tables inputs set functions) (entrance tables inputs set functions) (asking tables inputs set functions) act vs (view_items (drop (place + 1) all)) i))
  unfolding items_of more_items
  some_left all [] at place e is first = cc first
  some_left all (node.Hole ∷ left) at place e is first = some_left all left (suc at) place e (drop_behind all left node.Hole at is) first
  some_left all (node.Value' a p x ∷ left) at place e is first =
      let one : suc at ≡ at + 1 = omega arith in
      let behind : view_items left ≡ view_items (drop (at + 1) all) = ap view_items (drop_behind all left (node.Value' a p x) at is ∙ ap (λ n. drop n all) one) in
      ap (λ rest. Ask (an_expr (view_expr_kind a x) i) s (with_result Value (more_items (planned tables inputs set functions) (entrance tables inputs set functions) (asking tables inputs set functions) act vs rest i))) behind
      ∙ ap (λ r. Ask (an_expr r.1 i) s (with_result Value (more_items (planned tables inputs set functions) (entrance tables inputs set functions) (asking tables inputs set functions) act vs (view_items (drop (r.0 + 1) all)) i))) (same_Some (at, view_expr_kind a x) (place, e) first)

  none_left : (left : List node.Item) (at : ℕ) → first_item at (view_items left) ≡ None
      → items_of (planned tables inputs set functions) (entrance tables inputs set functions) (asking tables inputs set functions) act vs (view_items left) i s ≡ (planned tables inputs set functions).act act vs s
  unfolding items_of
  none_left [] at first = refl
  none_left (node.Hole ∷ left) at first = none_left left (suc at) first
  none_left (node.Value' a p x ∷ left) at first = cc first

module _ {T : Type 0} where
  -- an item is evaluated, and then those behind it
  pub item_begins : (list : Bor (NodeList node.Item)) (at place count : ℕ) (x : Bor code.Expr) (old new : Kept T) → item_from at (nodes_of list.now) ≡ Some (place, view_expr x.now)
      → new ≡ record { tasks = old.tasks ++ (continuation.Item list place count, old.loose) ∷ []; loose = [] } → BeginsBehind (items_from list.now at) old new (control.Expr x)
  item_begins list at place count x old new first is = λ tables inputs set functions reading e s.
      let f = setting_above old.tasks e in
      let us = map (read_value reading) old.loose in
      pushed_expr (continuation.Item list place count, old.loose) x old new (λ g. refl) is tables inputs set functions reading e s
      ∙ ap (behind tables inputs set functions reading old.tasks e) (sym (some_left tables inputs set functions (array_act tables inputs set functions (view_items (nodes_of list.now))) us f.env.place s (nodes_of list.now) (drop at (nodes_of list.now)) at place (view_expr x.now) refl first))

  -- no item is left: the array is made
  pub array_begins : (list : Bor (NodeList node.Item)) (at count : ℕ) (old : Kept T) → item_from at (nodes_of list.now) ≡ None → BeginsBehind (items_from list.now at) old old (control.Array list count)
  array_begins list at count old first = λ tables inputs set functions reading e s.
      let f = setting_above old.tasks e in
      let us = map (read_value reading) old.loose in
      ap (behind tables inputs set functions reading old.tasks e) (sym (none_left tables inputs set functions (array_act tables inputs set functions (view_items (nodes_of list.now))) us f.env.place s (drop at (nodes_of list.now)) at first))

  -- the array with another value waits for a conversion of the value above it
  pub counts : (w : Continuation) (array beside v : Labelled T) (old first both pushed third new : Kept T) → scope_of w ≡ [] → waits w ≡ 0 → length old.loose ≡ 0
      → first.tasks ≡ old.tasks → first.loose ≡ old.loose ++ array ∷ [] → both.tasks ≡ first.tasks → both.loose ≡ first.loose ++ beside ∷ []
      → pushed ≡ record { tasks = both.tasks ++ (w, both.loose) ∷ []; loose = [] }
      → third.tasks ≡ pushed.tasks → third.loose ≡ pushed.loose ++ array ∷ [] → new.tasks ≡ third.tasks → new.loose ≡ third.loose ++ v ∷ []
      → Counts w array beside v old new control.ConvertBeside
  counts w array beside v old first both pushed third new scope alone none tasks1 loose1 tasks2 loose2 is tasks3 loose3 tasks4 loose4 =
      let nothing : old.loose ≡ [] = nil_from_length old.loose none in
      let kept : both.loose ≡ array ∷ beside ∷ [] = loose2 ∙ ap (λ vs. vs ++ beside ∷ []) (loose1 ∙ ap (λ vs. vs ++ array ∷ []) nothing) in
      let work : (w, both.loose) ≡ (w, array ∷ beside ∷ []) = ap (λ vs. (w, vs)) kept in
      let waits_now : new.tasks ≡ old.tasks ++ (w, array ∷ beside ∷ []) ∷ [] = tasks4 ∙ tasks3 ∙ ap (λ k. k.tasks) is ∙ ap₂ (λ ts u. ts ++ u ∷ []) (tasks2 ∙ tasks1) work in
      let lies : new.loose ≡ array ∷ v ∷ [] = loose4 ∙ ap (λ vs. vs ++ v ∷ []) (loose3 ∙ ap (λ k. k.loose ++ array ∷ []) is) in
      record {
        moves = refl;
        tasks = waits_now;
        loose = lies;
        scopes = ap scopes_of waits_now ∙ scopes_more old.tasks (w, array ∷ beside ∷ []) ∙ ap (λ ds. scopes_of old.tasks ++ ds) scope ∙ append-nil (scopes_of old.tasks);
        natives = let more = ap waiting waits_now ∙ natives_more old.tasks (w, array ∷ beside ∷ []) in omega (arith, more, alone);
        operands = ap₂ (λ ks vs. ks ++ vs) (ap kept_operands waits_now ∙ kept_more old.tasks (w, array ∷ beside ∷ [])) lies;
      }

  -- so both conversions begin, and behind them the number is given
  pub length_begins : (how : SetLength) (array v : Labelled T) (old new : Kept T) (next : Control) → counts_from how array v old new next
      → (tables : Tables) (inputs : Given) (set : BuiltIns) (functions : List FunctionCode) (reading : T → Label) (e : Setting) (s : State)
      → coming tables inputs set functions reading new next e s ≡ behind tables inputs set functions reading old.tasks e (enter_count (entrance tables inputs set functions) (reading array.label) (read_value reading v) (sets_length tables inputs set functions how (read_value reading array)) s)
  unfolding enter_count
  length_begins how array v old new next counted = λ tables inputs set functions reading e s.
      let w : Task T = (continuation.LengthOnce how, array ∷ v ∷ []) in
      let vs = read_value reading array ∷ read_value reading v ∷ [] in
      ap (λ m. coming tables inputs set functions reading new m e s) counted.moves
      ∙ ap₂ (λ ts us. behind tables inputs set functions reading ts e (next_plan tables inputs set functions control.ConvertBeside (map (read_value reading) us) (setting_above ts e) s)) counted.tasks counted.loose
      ∙ behind_more tables inputs set functions reading old.tasks w e (next_plan tables inputs set functions control.ConvertBeside vs (setting_above (old.tasks ++ w ∷ []) e) s)
