-- Functions that are made and declared in turn, and statements that declare them.
use Rattle.std.proofs.Common.{refl, sym, ap, ap₂, ◌∙◌, ◌≡◌, ◌<◌, ◌≤◌, ◌+◌, ℕ, Bool, true, false, List, [], ◌∷◌, ◌++◌, length, drop, get_or, subst, Option, Some, None}
use Rattle.std.proofs.lemmas.List.{drop_more, at_drop_all}
use Rattle.js_ast.specs.declared.trees.Stmt.{Stmt}
use Rattle.js_ast.specs.Functions.{FunctionCode}
use Rattle.js_ast.specs.Trees.{Function, name_of, params_of}
use Rattle.js_ast.specs.Views.{view_stmt, view_stmts}
use Rattle.js_values.specs.declared.ids.ObjId.{ObjId}
use Rattle.js_values.specs.declared.value.Value.TheVariants as value
use Rattle.js_values.specs.Objects.{PlainObject}
use Rattle.js_values.specs.Walks.{plain_chain, plain_find}
use Rattle.es_meaning.specs.Declared.{declared_functions}
use Rattle.es_meaning.specs.Functions.{number_in, function_object, constructed_prototype, function_objects, name_text}
use Rattle.es_meaning.specs.Start.{id, global_object}
use Rattle.es_meaning.specs.Plain.{declared_over, declared_function, and_functions, with_functions}
use Rattle.plain_heap.specs.PlainObjects.{PlainObjects, with_more}
use Rattle.plain_heap.specs.Started.{IsStarted}
use Rattle.call_records.specs.Declarations.{declared_by}
use Rattle.call_records.proofs.DeclarationLaws.{declared_front}
use Rattle.step_start.specs.Entered.{Comes, Enters}

-- ---- functions, and then others

module _ (functions : List FunctionCode) where
  append_by : (fs gs : List Function) → ((objects : List PlainObject) → with_functions functions (fs ++ gs) objects ≡ and_functions (with_functions functions fs objects) (λ made. with_functions functions gs made))
      → (r : Option (List PlainObject)) → and_functions r (λ made. with_functions functions (fs ++ gs) made) ≡ and_functions (and_functions r (λ made. with_functions functions fs made)) (λ made. with_functions functions gs made)
  append_by fs gs more None = refl
  append_by fs gs more (Some objects) = more objects

  functions_append : (fs gs : List Function) (objects : List PlainObject) → with_functions functions (fs ++ gs) objects ≡ and_functions (with_functions functions fs objects) (λ made. with_functions functions gs made)
  unfolding with_functions
  functions_append [] gs objects = refl
  functions_append (f ∷ fs) gs objects = append_by fs gs (functions_append fs gs) (declared_function functions f objects)

module _ {T : Type 0} (label : T) (middle new : PlainObjects T) where
  comes_then : (goes : Bool) (r : Option (List PlainObject)) (next : List PlainObject → Option (List PlainObject)) → Comes label middle true r
      → ((objects : List PlainObject) → middle ≡ record { label = label; objects = objects } → Comes label new goes (next objects)) → Comes label new goes (and_functions r next)
  comes_then goes None next comes go = absurd comes
  comes_then goes (Some objects) next comes go = go objects comes

  comes_stops : (r : Option (List PlainObject)) (next : List PlainObject → Option (List PlainObject)) → Comes label new false r → Comes label new false (and_functions r next)
  comes_stops None next comes = tt
  comes_stops (Some objects) next comes = absurd comes

  comes_alone : (functions : List FunctionCode) (goes : Bool) (r : Option (List PlainObject)) → Comes label new goes r → Comes label new goes (and_functions r (λ made. with_functions functions [] made))
  unfolding with_functions
  comes_alone functions goes None comes = comes
  comes_alone functions goes (Some objects) comes = comes

module _ {T : Type 0} (functions : List FunctionCode) where
  -- no function
  pub Enters-none : (heap : PlainObjects T) → Enters functions [] heap heap true
  unfolding with_functions
  Enters-none heap = record { says = refl }

  -- the same functions
  pub Enters-same : (fs gs : List Function) (old new : PlainObjects T) (goes : Bool) → fs ≡ gs → Enters functions fs old new goes → Enters functions gs old new goes
  Enters-same fs gs old new goes is enters = subst (λ hs. Enters functions hs old new goes) is enters

  -- functions, and then others
  pub Enters-then : (fs gs : List Function) (old middle new : PlainObjects T) (goes : Bool) → Enters functions fs old middle true → Enters functions gs middle new goes → Enters functions (fs ++ gs) old new goes
  Enters-then fs gs old middle new goes one more = record {
    says =
        subst (λ r. Comes old.label new goes r) (sym (functions_append functions fs gs old.objects))
        (comes_then old.label middle new goes (with_functions functions fs old.objects) (λ made. with_functions functions gs made) one.says
        (λ objects is. subst (λ (h : PlainObjects T). Comes h.label new goes (with_functions functions gs h.objects)) is more.says));
  }

  -- where one is refused, the others aren't declared
  pub Enters-stops : (fs gs : List Function) (old new : PlainObjects T) → Enters functions fs old new false → Enters functions (fs ++ gs) old new false
  Enters-stops fs gs old new stops = record {
    says =
        subst (λ r. Comes old.label new false r) (sym (functions_append functions fs gs old.objects))
        (comes_stops old.label new new (with_functions functions fs old.objects) (λ made. with_functions functions gs made) stops.says);
  }

-- ---- one function: it is made, and then it is declared

abbrev both : ℕ → ℕ → ℕ → List PlainObject
both o number count = function_object o number 0 count ∷ constructed_prototype o ∷ []

module _ {T : Type 0} (f : Function) (number count : ℕ) (o : ObjId) (name : List ℕ) (old middle new : PlainObjects T) (goes : Bool)
    (count_is : count ≡ length (params_of f)) (name_is : name ≡ name_text (name_of f)) (place : o.0 ≡ length old.objects)
    (makes : middle ≡ with_more (both (length old.objects) number count) old)
    (binds : Comes middle.label new goes (declared_over (plain_find name (plain_chain middle.objects global_object.0)) name (value.Object o) middle.objects)) where
  pub Enters-one : (functions : List FunctionCode) → number ≡ number_in functions f → Enters functions (f ∷ []) old new goes
  unfolding with_functions function_objects
  Enters-one functions number_is = record {
    says =
        let n = length old.objects in
        let all = old.objects ++ both n (number_in functions f) (length (params_of f)) in
        let middle_is : middle ≡ record { label = old.label; objects = all } = makes ∙ ap₂ (λ m k. with_more (both n m k) old) number_is count_is in
        comes_alone old.label middle new functions goes (declared_function functions f old.objects)
        (subst (λ k. Comes old.label new goes (declared_over (plain_find k (plain_chain all global_object.0)) k (value.Object (id n)) all)) name_is
        (subst (λ (k : ℕ). Comes old.label new goes (declared_over (plain_find name (plain_chain all global_object.0)) name (value.Object (id k)) all)) place
        (subst (λ (h : PlainObjects T). Comes h.label new goes (declared_over (plain_find name (plain_chain h.objects global_object.0)) name (value.Object o) h.objects)) middle_is binds)));
  }

-- ---- statements

-- in a loop over statements: where those that are left declare their functions, all of them do
pub record Entering {T : Type 0} (functions : List FunctionCode) (initial : PlainObjects T) (items left : List Stmt) (heap : PlainObjects T) : Type 0 where
  pub started : IsStarted heap.objects
  pub enters : (last : PlainObjects T) (goes : Bool) → Enters functions (declared_functions (view_stmts left)) heap last goes → Enters functions (declared_functions (view_stmts items)) initial last goes

module _ {T : Type 0} (functions : List FunctionCode) (initial : PlainObjects T) (items : List Stmt) where
  -- it begins
  pub begins : IsStarted initial.objects → Entering functions initial items items initial
  begins started = record { started = started; enters = λ last goes enters. enters }

  module _ (k : ℕ) (x : Stmt) (heap more : PlainObjects T) (lt : k < length items) (is : x ≡ get_or items k x) (so_far : Entering functions initial items (drop k items) heap) where
    front : drop k items ≡ x ∷ drop (k + 1) items
    front = drop_more items k x lt ∙ ap (λ y. y ∷ drop (k + 1) items) (sym is)

    declared_whole : declared_functions (view_stmts (drop k items)) ≡ declared_by (view_stmt x) ++ declared_functions (view_stmts (drop (k + 1) items))
    declared_whole = ap (λ ss. declared_functions (view_stmts ss)) front ∙ declared_front (view_stmt x) (view_stmts (drop (k + 1) items))

    -- it goes on by one statement
    pub goes_on : Enters functions (declared_by (view_stmt x)) heap more true → IsStarted more.objects → Entering functions initial items (drop (k + 1) items) more
    goes_on one started = record {
      started = started;
      enters = λ last goes others.
          so_far.enters last goes
          (Enters-same functions _ _ heap last goes (sym declared_whole)
          (Enters-then functions (declared_by (view_stmt x)) (declared_functions (view_stmts (drop (k + 1) items))) heap more last goes one others));
    }

    -- or a declaration is refused
    pub refused : Enters functions (declared_by (view_stmt x)) heap more false → Enters functions (declared_functions (view_stmts items)) initial more false
    refused stops =
        so_far.enters more false
        (Enters-same functions _ _ heap more false (sym declared_whole)
        (Enters-stops functions (declared_by (view_stmt x)) (declared_functions (view_stmts (drop (k + 1) items))) heap more stops))

  -- it ends
  pub ends : (k : ℕ) (heap : PlainObjects T) → length items ≤ k → Entering functions initial items (drop k items) heap → Enters functions (declared_functions (view_stmts items)) initial heap true
  ends k heap le so_far =
      so_far.enters heap true
      (Enters-same functions [] _ heap heap true (sym (at_drop_all (λ ss. declared_functions (view_stmts ss)) items k le)) (Enters-none functions heap))
