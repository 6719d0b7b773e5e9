-- The objects of the functions that a body declares, and their references.
use Rattle.std.proofs.Common.{arith, refl, sym, ap, ap₂, subst, ◌∙◌, ◌≡◌, ◌+◌, ◌<◌, ◌≤◌, ℕ, suc, Bool, List, [], ◌∷◌, ◌++◌, append_assoc, length, drop, get_or}
use Rattle.std.proofs.lemmas.List.{append-nil, drop_more, at_drop_all}
use Rattle.origin_labels.specs.Label.{Label}
use Rattle.origin_labels.specs.Stores.{IsKept}
use Rattle.origin_labels.proofs.StoreLaws.{IsKept-refl, IsKept-trans}
use Rattle.js_ast.specs.declared.trees.Stmt.{Stmt}
use Rattle.js_ast.specs.Trees.{Function, params_of}
use Rattle.js_ast.specs.Functions.{FunctionCode}
use Rattle.js_ast.specs.Views.{view_stmt, view_stmts}
use Rattle.js_values.specs.declared.ids.ObjId.{ObjId}
use Rattle.js_values.specs.declared.value.Labelled.{Labelled}
use Rattle.js_values.specs.declared.value.Value.{Value}
use Rattle.js_values.specs.declared.value.Value.TheVariants as value
use Rattle.js_values.specs.Objects.{PlainObject, Object}
use Rattle.js_values.specs.Readings.{HasHeap, read_heap}
use Rattle.es_meaning.specs.Declared.{declared_functions}
use Rattle.es_meaning.specs.Functions.{number_in, function_object, constructed_prototype, function_objects, objects_of, references_of, behind_functions}
use Rattle.es_meaning.specs.Start.{id}
use Rattle.call_records.specs.Declarations.{declared_by}
use Rattle.call_records.proofs.DeclarationLaws.{declared_front}
use Rattle.function_entry.specs.Declaring.{labelled_with}
use Rattle.function_entry.specs.Making.{Makes}
use Rattle.function_entry.proofs.MakingLaws.{Makes-then}

-- ---- of functions, and then others

behind_append : (o : ℕ) (fs gs : List Function) → behind_functions o (fs ++ gs) ≡ behind_functions (behind_functions o fs) gs
unfolding behind_functions
behind_append o [] gs = refl
behind_append o (f ∷ fs) gs = behind_append (suc (suc o)) fs gs

objects_append : (functions : List FunctionCode) (o place : ℕ) (fs gs : List Function) → objects_of functions o place (fs ++ gs) ≡ objects_of functions o place fs ++ objects_of functions (behind_functions o fs) place gs
unfolding objects_of behind_functions function_objects
objects_append functions o place [] gs = refl
objects_append functions o place (f ∷ fs) gs = ap (λ more. function_objects functions o place f ++ more) (objects_append functions (suc (suc o)) place fs gs)

references_append : (o : ℕ) (fs gs : List Function) → references_of o (fs ++ gs) ≡ references_of o fs ++ references_of (behind_functions o fs) gs
unfolding references_of behind_functions
references_append o [] gs = refl
references_append o (f ∷ fs) gs = ap (λ more. value.Object (id o) ∷ more) (references_append (suc (suc o)) fs gs)

labelled_append : {T : Type 0} (label : T) (vs us : List Value) → labelled_with label (vs ++ us) ≡ labelled_with label vs ++ labelled_with label us
labelled_append label [] us = refl
labelled_append label (v ∷ vs) us = ap (λ more. record { value = v; label = label } ∷ more) (labelled_append label vs us)

-- ---- of one function, and of none

-- the code's own: where a function closes over a record
pub one_objects : (functions : List FunctionCode) (o place number count : ℕ) (f : Function) → number ≡ number_in functions f → count ≡ length (params_of f)
    → function_object o number place count ∷ constructed_prototype o ∷ [] ≡ objects_of functions o place (f ∷ [])
unfolding objects_of function_objects
one_objects functions o place number count f number_is count_is = ap₂ (λ n k. function_object o n place k ∷ constructed_prototype o ∷ []) number_is count_is

pub one_reference : {T : Type 0} (label : T) (n : ℕ) (o : ObjId) (f : Function) → o.0 ≡ n → record { value = value.Object o; label = label } ∷ [] ≡ labelled_with label (references_of n (f ∷ []))
unfolding references_of
one_reference label n o f is = ap (λ (k : ℕ). record { value = value.Object (id k); label = label } ∷ []) is

pub one_behind : (n m : ℕ) (f : Function) → m ≡ n + 2 → m ≡ behind_functions n (f ∷ [])
unfolding behind_functions
one_behind n m f is = omega (arith, is)

module _ {S T : Type 0} (made : S → T → Type 0) (meaning : S → T → Label) where
  pub Makes-same : (store : S) (here : T) (xs ys : List PlainObject) (old new : List (Object T)) → xs ≡ ys → Makes made meaning store here xs old new → Makes made meaning store here ys old new
  Makes-same store here xs ys old new is makes = subst (λ os. Makes made meaning store here os old new) is makes

  pub Makes-none : (store : S) (here : T) (heap : List (Object T)) → Makes made meaning store here [] heap heap
  Makes-none store here heap = record { says = λ reading is. sym (append-nil (read_heap reading heap)) }

  pub none_makes : (functions : List FunctionCode) (store : S) (here : T) (place : ℕ) (fs : List Function) → fs ≡ [] → (heap : List (Object T)) → Makes made meaning store here (objects_of functions (length heap) place fs) heap heap
  unfolding objects_of
  none_makes functions store here place fs none heap = subst (λ gs. Makes made meaning store here (objects_of functions (length heap) place gs) heap heap) (sym none) (Makes-none store here heap)

pub none_refers : {T : Type 0} (label : T) (o : ℕ) (fs : List Function) → fs ≡ [] → (references : List (Labelled T)) → references ≡ references ++ labelled_with label (references_of o fs)
unfolding references_of
none_refers label o fs none references = subst (λ gs. references ≡ references ++ labelled_with label (references_of o gs)) (sym none) (sym (append-nil references))

pub none_behind : (o : ℕ) (fs : List Function) → fs ≡ [] → o ≡ behind_functions o fs
unfolding behind_functions
none_behind o fs none = ap (behind_functions o) (sym none)

-- ---- statements

-- in a loop over statements, from a store and a heap: where those that are left declare their functions, all of them do
pub record Declaring {S T : Type 0} (made : S → T → Type 0) (meaning : S → T → Label) (room : S → ℕ) (firm : S → Bool) (functions : List FunctionCode) (here : T) (place : ℕ) (first : S) (initial : List (Object T)) (items left : List Stmt) (store : S) (heap : List (Object T)) (references : List (Labelled T)) : Type 0 where
  pub grows : length initial ≤ length heap
  pub belongs : HasHeap (made store) heap
  pub kept : IsKept made meaning room firm first store
  pub makes : (later : S) (last : List (Object T)) → IsKept made meaning room firm store later
      → Makes made meaning later here (objects_of functions (length heap) place (declared_functions (view_stmts left))) heap last
      → Makes made meaning later here (objects_of functions (length initial) place (declared_functions (view_stmts items))) initial last
  pub behind : behind_functions (length heap) (declared_functions (view_stmts left)) ≡ behind_functions (length initial) (declared_functions (view_stmts items))
  pub refers : references ++ labelled_with here (references_of (length heap) (declared_functions (view_stmts left))) ≡ labelled_with here (references_of (length initial) (declared_functions (view_stmts items)))

module _ {S T : Type 0} (made : S → T → Type 0) (meaning : S → T → Label) (room : S → ℕ) (firm : S → Bool) (functions : List FunctionCode) (here : T) (place : ℕ) (first : S) (initial : List (Object T)) (items : List Stmt) where
  -- it begins
  pub begins : HasHeap (made first) initial → Declaring made meaning room firm functions here place first initial items items first initial []
  begins belongs = record { grows = omega arith; belongs = belongs; kept = IsKept-refl made meaning room firm first; makes = λ later last kept makes. makes; behind = refl; refers = refl }

  -- it goes on by one statement
  module _ (k : ℕ) (x : Stmt) (store next : S) (heap more : List (Object T)) (references others : List (Labelled T)) (lt : k < length items) (is : x ≡ get_or items k x)
      (so_far : Declaring made meaning room firm functions here place first initial items (drop k items) store heap references) (kept : IsKept made meaning room firm store next) where
    abbrev rest : List Function
    rest = declared_functions (view_stmts (drop (k + 1) items))

    declared_whole : declared_functions (view_stmts (drop k items)) ≡ declared_by (view_stmt x) ++ rest
    declared_whole = ap (λ ss. declared_functions (view_stmts ss)) (drop_more items k x lt ∙ ap (λ y. y ∷ drop (k + 1) items) (sym is)) ∙ declared_front (view_stmt x) (view_stmts (drop (k + 1) items))

    pub goes_on : Makes made meaning next here (objects_of functions (length heap) place (declared_by (view_stmt x))) heap more → length more ≡ behind_functions (length heap) (declared_by (view_stmt x))
        → others ≡ references ++ labelled_with here (references_of (length heap) (declared_by (view_stmt x))) → length heap ≤ length more → HasHeap (made next) more
        → Declaring made meaning room firm functions here place first initial items (drop (k + 1) items) next more others
    goes_on one longer refers grows belongs = record {
      grows = let before = so_far.grows in omega (arith, before, grows);
      belongs = belongs;
      kept = IsKept-trans made meaning room firm first store next so_far.kept kept;
      makes = λ later last stays makes.
          so_far.makes later last (IsKept-trans made meaning room firm store next later kept stays)
          (Makes-same made meaning later here _ _ heap last
          (sym (ap (objects_of functions (length heap) place) declared_whole ∙ objects_append functions (length heap) place (declared_by (view_stmt x)) rest ∙ ap (λ (n : ℕ). objects_of functions (length heap) place (declared_by (view_stmt x)) ++ objects_of functions n place rest) (sym longer)))
          (Makes-then made meaning room firm next later here (objects_of functions (length heap) place (declared_by (view_stmt x))) (objects_of functions (length more) place rest) heap more last stays one makes));
      behind = ap (λ n. behind_functions n rest) longer ∙ sym (behind_append (length heap) (declared_by (view_stmt x)) rest) ∙ ap (behind_functions (length heap)) (sym declared_whole) ∙ so_far.behind;
      refers =
          ap₂ (λ vs (n : ℕ). vs ++ labelled_with here (references_of n rest)) refers longer
          ∙ append_assoc references (labelled_with here (references_of (length heap) (declared_by (view_stmt x)))) (labelled_with here (references_of (behind_functions (length heap) (declared_by (view_stmt x))) rest))
          ∙ ap (λ vs. references ++ vs)
          (sym (labelled_append here (references_of (length heap) (declared_by (view_stmt x))) (references_of (behind_functions (length heap) (declared_by (view_stmt x))) rest))
          ∙ ap (labelled_with here) (sym (references_append (length heap) (declared_by (view_stmt x)) rest) ∙ ap (references_of (length heap)) (sym declared_whole)))
          ∙ so_far.refers;
    }

  -- it ends
  module _ (k : ℕ) (store : S) (heap : List (Object T)) (references : List (Labelled T)) (le : length items ≤ k)
      (so_far : Declaring made meaning room firm functions here place first initial items (drop k items) store heap references) where
    pub ends_makes : Makes made meaning store here (objects_of functions (length initial) place (declared_functions (view_stmts items))) initial heap
    unfolding objects_of
    ends_makes =
        so_far.makes store heap (IsKept-refl made meaning room firm store)
        (Makes-same made meaning store here [] _ heap heap (sym (at_drop_all (λ ss. objects_of functions (length heap) place (declared_functions (view_stmts ss))) items k le)) (Makes-none made meaning store here heap))

    pub ends_behind : length heap ≡ behind_functions (length initial) (declared_functions (view_stmts items))
    unfolding behind_functions
    ends_behind = sym (at_drop_all (λ ss. behind_functions (length heap) (declared_functions (view_stmts ss))) items k le) ∙ so_far.behind

    pub ends_refers : references ≡ labelled_with here (references_of (length initial) (declared_functions (view_stmts items)))
    unfolding references_of
    ends_refers = sym (append-nil references) ∙ sym (at_drop_all (λ ss. references ++ labelled_with here (references_of (length heap) (declared_functions (view_stmts ss)))) items k le) ∙ so_far.refers
