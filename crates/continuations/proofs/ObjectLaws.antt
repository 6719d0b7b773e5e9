-- The properties of an object, and the key of one.
use Rattle.std.proofs.Common.{refl, sym, subst, ap, ap₂, ◌∙◌, ◌≡◌, ◌+◌, ◌<◌, ◌≤◌, ℕ, List, [], ◌∷◌, ◌++◌, map, drop, length, get_or, arith, rules, Result, Ok, Err, IfOk}
use Rattle.std.specs.Borrow.{Bor}
use Rattle.std.proofs.lemmas.List.{drop_all, drop_more, length-append, length-map}
use Rattle.origin_labels.specs.Label.{Label}
use Rattle.flow_policy.specs.Policies.{Tables}
use Rattle.flow_policy.specs.Inputs.{Given}
use Rattle.js_ast.specs.Functions.{FunctionCode}
use Rattle.es_meaning.specs.BuiltIns.{BuiltIns}
use Rattle.js_values.specs.declared.value.Labelled.{Labelled}
use Rattle.js_values.specs.Readings.{read_value}
use Rattle.js_ast.specs.declared.trees.Expr as code
use Rattle.js_ast.specs.declared.trees.Function as function
use Rattle.js_ast.specs.declared.trees.Property as node
use Rattle.js_ast.specs.declared.trees.PropertyKind as kinds
use Rattle.js_ast.specs.declared.trees.ExprKind.TheViews.{the_lemmas}
use Rattle.js_ast.specs.declared.node_list.NodeList.{NodeList}
use Rattle.js_ast.specs.Nodes.{nodes_of}
use Rattle.js_ast.specs.Trees as trees
use Rattle.js_ast.specs.Trees.{Key, no_properties, more_properties}
use Rattle.js_ast.specs.Views.{view_expr, view_exprs, view_function, view_key, view_property, view_properties}
use Rattle.continuations.specs.Settings.{Setting, entrance}
use Rattle.es_meaning.specs.Operations.{Value}
use Rattle.es_meaning.specs.Evaluation.{arguments, compound_done, compound_right, properties, more_values, index_base, index_key}
use Rattle.flow_text.specs.declared.memory.OutOfMemory.{OutOfMemory}
use Rattle.js_ast.specs.declared.operators.BinaryOperator.{BinaryOperator}
use Rattle.flow_meaning.specs.Scopes.{Val, State}
use Rattle.flow_meaning.specs.Tracked.{Reference}
use Rattle.flow_meaning.specs.Planned.{an_expr, Ask, with_result, planned, asking}
use Rattle.continuations.specs.declared.continuation.Use.{Use}
use Rattle.continuations.specs.declared.continuation.Target.{Target}
use Rattle.continuations.specs.declared.continuation.Calling.TheVariants as calling
use Rattle.continuations.specs.declared.continuation.Control.{Control}
use Rattle.continuations.specs.declared.continuation.Continuation.TheVariants as continuation
use Rattle.continuations.specs.declared.continuation.Control.TheVariants as control
use Rattle.continuations.specs.declared.objects.Part.TheVariants as part
use Rattle.continuations.specs.Kept.{Kept}
use Rattle.continuations.specs.Literals.{IsPart, literal_act, literal_from}
use Rattle.continuations.specs.Pending.{Task, owns_target, owns_use, setting_inside, setting_above, next_plan, after_task, behind}
use Rattle.continuations.specs.Resuming.{coming, BeginsBehind, ResumesBehind, ResumesBeside}
use Rattle.continuations.specs.Shapes.{calling_of, nth, target_of, use_of}
use Rattle.continuations.proofs.Behind.{behind_more, setting_more}
use Rattle.continuations.proofs.Steps.{values_more}
use Rattle.continuations.proofs.Uses.{base_kept, last_kept, target_kept, use_kept}

-- what is left from a property is it and what stands behind it
pub property_here : (items : List node.Property) (list : NodeList node.Property) (count : ℕ) (p : node.Property) → items ≡ nodes_of list → count < length items → p ≡ get_or items count p
    → view_properties (drop count (nodes_of list)) ≡ more_properties (view_property p) (view_properties (drop (count + 1) (nodes_of list)))
property_here items list count p is lt here = subst (λ ps. view_properties (drop count ps) ≡ more_properties (view_property p) (view_properties (drop (count + 1) ps))) is (ap view_properties (drop_more items count p lt) ∙ ap (λ q. more_properties (view_property q) (view_properties (drop (count + 1) items))) (sym here))

-- and nothing is left where none stands
pub none_here : (items : List node.Property) (list : NodeList node.Property) (count : ℕ) → items ≡ nodes_of list → length items ≤ count → view_properties (drop count (nodes_of list)) ≡ no_properties
none_here items list count is past = subst (λ ps. view_properties (drop count ps) ≡ no_properties) is (ap view_properties (drop_all count items past))

-- the part of a literal that comes next, by what stands there
pub part_none : (list : NodeList node.Property) (count : ℕ) (items : List node.Property) → items ≡ nodes_of list → length items ≤ count → IsPart part.None list count
unfolding properties
part_none list count items is past = λ tables inputs set functions act vs i s.
    ap (λ ps. properties (planned tables inputs set functions) (entrance tables inputs set functions) (asking tables inputs set functions) act vs ps i s) (none_here items list count is past)

pub part_value : (list : NodeList node.Property) (count : ℕ) (x : Bor code.Expr) (at : ℕ) (key : Key)
    → view_properties (drop count (nodes_of list)) ≡ more_properties (trees.value at key (view_expr x.now)) (view_properties (drop (count + 1) (nodes_of list))) → IsPart (part.Value x) list count
unfolding properties more_values
part_value list count x at key here = λ tables inputs set functions act vs i s.
    ap (λ ps. properties (planned tables inputs set functions) (entrance tables inputs set functions) (asking tables inputs set functions) act vs ps i s) here

module _ (list : NodeList node.Property) (count : ℕ) (f : Bor function.Function) (p : node.Property)
    (here : view_properties (drop count (nodes_of list)) ≡ more_properties (view_property p) (view_properties (drop (count + 1) (nodes_of list)))) where
  pub part_getter : p.kind ≡ kinds.Getter f.now → IsPart (part.Function f) list count
  unfolding properties more_values
  part_getter is = λ tables inputs set functions act vs i s.
      let kind : view_property p ≡ trees.getter p.at (view_key p.key) (view_function f.now) = search (rules, the_lemmas, is) in
      ap (λ ps. properties (planned tables inputs set functions) (entrance tables inputs set functions) (asking tables inputs set functions) act vs ps i s)
      (here ∙ ap (λ q. more_properties q (view_properties (drop (count + 1) (nodes_of list)))) kind)

  pub part_setter : p.kind ≡ kinds.Setter f.now → IsPart (part.Function f) list count
  unfolding properties more_values
  part_setter is = λ tables inputs set functions act vs i s.
      let kind : view_property p ≡ trees.setter p.at (view_key p.key) (view_function f.now) = search (rules, the_lemmas, is) in
      ap (λ ps. properties (planned tables inputs set functions) (entrance tables inputs set functions) (asking tables inputs set functions) act vs ps i s)
      (here ∙ ap (λ q. more_properties q (view_properties (drop (count + 1) (nodes_of list)))) kind)

module _ {T : Type 0} where
  -- an expression that is evaluated next, behind work without a scope
  pub pushed_expr : (w : Task T) (x : Bor code.Expr) (old new : Kept T) → ((g : Setting) → setting_inside w.0 g ≡ g) → new ≡ record { tasks = old.tasks ++ w ∷ []; loose = [] } → (tables : Tables) (inputs : Given) (set : BuiltIns) (functions : List FunctionCode) (reading : T → Label) (e : Setting) (s : State)
      → coming tables inputs set functions reading new (control.Expr x) e s ≡ behind tables inputs set functions reading old.tasks e (Ask (an_expr (view_expr x.now) (setting_above old.tasks e).env.place) s (after_task tables inputs set functions reading w (setting_above old.tasks e)))
  pushed_expr w x old new same is tables inputs set functions reading e s =
      let f = setting_above old.tasks e in
      ap (λ k. coming tables inputs set functions reading k (control.Expr x) e s) is
      ∙ ap (λ g. behind tables inputs set functions reading (old.tasks ++ w ∷ []) e (next_plan tables inputs set functions (control.Expr x) [] g s)) (setting_more old.tasks w e ∙ same f)
      ∙ behind_more tables inputs set functions reading old.tasks w e (next_plan tables inputs set functions (control.Expr x) [] f s)

  -- the values of which the last is the base
  kept_size : (how : Use) (old kept : List (Labelled T)) (v : Labelled T) (reading : T → Label) → length old ≡ owns_use how + 1 → old ≡ kept ++ v ∷ [] → length (map (read_value reading) kept) ≡ owns_use how
  kept_size how old kept v reading size loose =
      let all : length (kept ++ v ∷ []) ≡ owns_use how + 1 = ap length (sym loose) ∙ size in
      omega (arith, all, length-append kept (v ∷ []), length-map kept (read_value reading))

  -- behind the base of a property its key is evaluated
  pub index_resumes : (how : Use) (x : Bor code.Expr) (old new : Kept T) → length old.loose ≡ owns_use how + 1 → new ≡ record { tasks = old.tasks ++ (continuation.IndexKey how, old.loose) ∷ []; loose = [] } → ResumesBehind (continuation.IndexBase how x) old new (control.Expr x)
  unfolding index_base
  index_resumes how x old new size is = λ tables inputs set functions reading e s kept v loose.
      let f = setting_above old.tasks e in
      let us = map (read_value reading) kept in
      let few : length us ≡ owns_use how = kept_size how old.loose kept v reading size loose in
      pushed_expr (continuation.IndexKey how, old.loose) x old new (λ g. refl) is tables inputs set functions reading e s
      ∙ ap (λ vs. behind tables inputs set functions reading old.tasks e (Ask (an_expr (view_expr x.now) f.env.place) s (with_result Value (index_key (planned tables inputs set functions) (entrance tables inputs set functions) (asking tables inputs set functions) (use_of how vs) f.env.place (nth (owns_use how) vs))))) (ap (map (read_value reading)) loose ∙ values_more reading kept v)
      ∙ ap₂ (λ u b. behind tables inputs set functions reading old.tasks e (Ask (an_expr (view_expr x.now) f.env.place) s (with_result Value (index_key (planned tables inputs set functions) (entrance tables inputs set functions) (asking tables inputs set functions) u f.env.place b)))) (use_kept how us (read_value reading v) few) (base_kept how us (read_value reading v) few)

  -- a value is evaluated, and then those of the properties behind it
  pub value_begins : (list : Bor (NodeList node.Property)) (count : ℕ) (x : Bor code.Expr) (old new : Kept T) → IsPart (part.Value x) list.now count
      → new ≡ record { tasks = old.tasks ++ (continuation.Property list count, old.loose) ∷ []; loose = [] }
      → BeginsBehind (literal_from list.now count) old new (control.Expr x)
  value_begins list count x old new here is = λ tables inputs set functions reading e s.
      let f = setting_above old.tasks e in
      let us = map (read_value reading) old.loose in
      pushed_expr (continuation.Property list count, old.loose) x old new (λ g. refl) is tables inputs set functions reading e s
      ∙ ap (behind tables inputs set functions reading old.tasks e) (sym (here tables inputs set functions (literal_act list.now) us f.env.place s))

  -- behind the old value of a reference the operand of a compound assignment is evaluated
  pub compound_resumes : (o : BinaryOperator) (x : Bor code.Expr) (t : Target) (old new : Kept T) → length old.loose ≡ owns_target t + 1
      → new ≡ record { tasks = old.tasks ++ (continuation.CompoundDone o t, old.loose) ∷ []; loose = [] } → ResumesBehind (continuation.CompoundRight o x t) old new (control.Expr x)
  unfolding compound_right
  compound_resumes o x t old new size is = λ tables inputs set functions reading e s kept v loose.
      let f = setting_above old.tasks e in
      let us = map (read_value reading) kept in
      let all : length (kept ++ v ∷ []) ≡ owns_target t + 1 = ap length (sym loose) ∙ size in
      let few : length us ≡ owns_target t = omega (arith, all, length-append kept (v ∷ []), length-map kept (read_value reading)) in
      let asks = λ (n : Reference) (b : Val). Ask (an_expr (view_expr x.now) f.env.place) s (with_result Value (compound_done (planned tables inputs set functions) (entrance tables inputs set functions) (asking tables inputs set functions) o n b)) in
      pushed_expr (continuation.CompoundDone o t, old.loose) x old new (λ g. refl) is tables inputs set functions reading e s
      ∙ ap (λ vs. behind tables inputs set functions reading old.tasks e (asks (target_of t vs) (nth (owns_target t) vs))) (ap (map (read_value reading)) loose ∙ values_more reading kept v)
      ∙ ap₂ (λ n b. behind tables inputs set functions reading old.tasks e (asks n b)) (target_kept t us (read_value reading v) few) (last_kept (owns_target t) us (read_value reading v) few)

-- what a getter gave is called
pub called_begins : {T : Type 0} → (old new : Kept T) (es : Bor (List code.Expr)) (result : Result Control OutOfMemory)
    → IfOk result (BeginsBehind (λ tables inputs set functions vs e. arguments (planned tables inputs set functions) (entrance tables inputs set functions) (asking tables inputs set functions) (calling_of calling.Calls vs) (drop 2 vs) (view_exprs es.now) e.env.place) old new)
    → IfOk result (ResumesBeside (continuation.CalledBy es) old new)
called_begins old new es (Err fault) begins = tt
called_begins old new es (Ok next) begins = λ tables inputs set functions reading e s operand value loose.
    begins tables inputs set functions reading e s
    ∙ ap (λ vs. behind tables inputs set functions reading old.tasks e (arguments (planned tables inputs set functions) (entrance tables inputs set functions) (asking tables inputs set functions) (calling_of calling.Calls (map (read_value reading) vs)) (drop 2 (map (read_value reading) vs)) (view_exprs es.now) (setting_above old.tasks e).env.place s)) loose
