-- The objects of a function, as they are made, and all that a run begins with.
use Rattle.std.proofs.Common.{arith, refl, sym, ap, ◌∙◌, ◌≡◌, ℕ, suc, Bool, true, false, List, [], ◌∷◌, length, subst, codes, Option, Some, None, is_some}
use Rattle.std.specs.Option.{option_map}
use Rattle.js_ast.specs.Functions.{functions_of}
use Rattle.js_ast.specs.Trees.{Statements}
use Rattle.js_values.specs.declared.ids.ObjId.{ObjId}
use Rattle.js_values.specs.declared.inner.Class.TheVariants as class
use Rattle.js_values.specs.declared.value.Value.TheVariants as value
use Rattle.js_values.specs.Objects.{PlainObject, script, fresh_plain}
use Rattle.es_meaning.specs.BuiltIns.{BuiltIns}
use Rattle.es_meaning.specs.Declared.{declared_statements, declared_functions}
use Rattle.es_meaning.specs.Functions.{env_id, kept, property_with, function_object}
use Rattle.es_meaning.specs.Holders.{built_heap, with_property_of}
use Rattle.es_meaning.specs.Plain.{with_functions, with_variables, entered_heap, heap_or, first_heap, may_declare}
use Rattle.es_meaning.specs.Start.{id, count_property, fixed_accessor, caller_accessor, arguments_accessor, function_prototype}
use Rattle.plain_heap.specs.Functions.{with_length, with_function_rows}
use Rattle.plain_heap.specs.PlainObjects.{PlainObjects, changed, with_more}
use Rattle.plain_heap.specs.Started.{IsStarted}
use Rattle.plain_heap.proofs.StartedLaws.{more_started}
use Rattle.plain_heap.proofs.MoreLaws.{given, then_given, then_function_rows, more_length}
use Rattle.step_start.specs.Entered.{Comes, Enters}
use Rattle.step_start.specs.Hoisted.{Declares}

-- ---- a function

module _ {T : Type 0} (old fresh sized kept_one new : PlainObjects T) (o : ObjId) (next function count : ℕ) (place : o.0 ≡ length old.objects) where
  abbrev plain : PlainObject
  plain = fresh_plain class.Function (script function (env_id 0)) (Some function_prototype)

  abbrev constructs : ℕ → PlainObject
  constructs n = given (codes "prototype") (property_with (value.Object (id n)) kept) (given (codes "length") (count_property count) plain)

  abbrev function_with : ℕ → PlainObject
  function_with n = given (codes "arguments") (fixed_accessor arguments_accessor) (given (codes "caller") (fixed_accessor caller_accessor) (constructs n))

  pub function_made : fresh ≡ with_more (plain ∷ []) old → next ≡ length fresh.objects → sized ≡ changed (with_length o.0 count) fresh
      → kept_one ≡ changed (with_property_of o.0 (codes "prototype") (property_with (value.Object (id next)) kept)) sized → new ≡ changed (with_function_rows o.0) kept_one
      → new ≡ with_more (function_object (length old.objects) function 0 count ∷ []) old
  function_made makes next_is sizes keeps ends =
      let long = more_length old fresh plain makes in
      let next_number : next ≡ suc (length old.objects) = omega (arith, long, next_is) in
      subst (λ n. new ≡ with_more (function_with n ∷ []) old) next_number
      (then_function_rows old kept_one new (constructs next) o.0 place
      (then_given old sized kept_one (given (codes "length") (count_property count) plain) o.0 place
      (then_given old fresh sized plain o.0 place makes (codes "length") (count_property count) sizes)
      (codes "prototype") (property_with (value.Object (id next)) kept) keeps)
      ends)

pub both_started : {T : Type 0} (old middle new : PlainObjects T) (some others : List PlainObject) → IsStarted old.objects → middle ≡ with_more some old → new ≡ with_more others middle → IsStarted new.objects
both_started old middle new some others started one more =
    let here = subst (λ (h : PlainObjects _). IsStarted h.objects) (sym one) (more_started old.objects some started) in
    subst (λ (h : PlainObjects _). IsStarted h.objects) (sym more) (more_started middle.objects others here)

-- ---- what a run begins with: functions are declared on the first objects, and then variables, unless a function is refused

module _ {T : Type 0} (set : BuiltIns) (program : Statements) (label : T) where
  abbrev functions_on : List PlainObject → Option (List PlainObject)
  functions_on objects = with_functions (functions_of program) (declared_functions program) objects

  abbrev entered_by : Option (List PlainObject) → Option (List PlainObject)
  entered_by r = option_map (λ heap. with_variables (declared_statements program) heap) r

  declared_by : (middle new : PlainObjects T) → Declares (declared_statements program) middle new → (r : Option (List PlainObject)) → Comes label middle true r
      → new ≡ record { label = label; objects = heap_or (built_heap set.entries) (entered_by r) }
  declared_by middle new declares None comes = absurd comes
  declared_by middle new declares (Some objects) comes = declares.says ∙ ap (changed (with_variables (declared_statements program))) comes

  told_by : (goes : Bool) (middle : PlainObjects T) (r : Option (List PlainObject)) → Comes label middle goes r → goes ≡ is_some (entered_by r)
  told_by true middle None comes = absurd comes
  told_by true middle (Some objects) comes = refl
  told_by false middle None comes = refl
  told_by false middle (Some objects) comes = absurd comes

  refused_by : (middle : PlainObjects T) (r : Option (List PlainObject)) → Comes label middle false r → heap_or (built_heap set.entries) (entered_by r) ≡ built_heap set.entries
  refused_by middle None comes = refl
  refused_by middle (Some objects) comes = absurd comes

  module _ (first middle : PlainObjects T) (goes : Bool) (objects : first ≡ record { label = label; objects = built_heap set.entries }) (enters : Enters (functions_of program) (declared_functions program) first middle goes) where
    entered : Comes label middle goes (functions_on (built_heap set.entries))
    entered = subst (λ (h : PlainObjects T). Comes h.label middle goes (functions_on h.objects)) objects enters.says

    -- whether they are
    pub declares_all : goes ≡ may_declare set program
    unfolding entered_heap
    declares_all = told_by goes middle (functions_on (built_heap set.entries)) entered

    pub declared_first : (new : PlainObjects T) → goes ≡ true → Declares (declared_statements program) middle new → new ≡ record { label = label; objects = first_heap set program }
    unfolding entered_heap
    declared_first new goes_is declares =
        declared_by middle new declares (functions_on (built_heap set.entries)) (subst (λ g. Comes label middle g (functions_on (built_heap set.entries))) goes_is entered)

    -- the first objects alone
    pub refused_first : (new : PlainObjects T) → goes ≡ false → new ≡ record { label = label; objects = built_heap set.entries } → new ≡ record { label = label; objects = first_heap set program }
    unfolding entered_heap
    refused_first new goes_is again =
        again
        ∙ ap (λ os. record { label = label; objects = os })
        (sym (refused_by middle (functions_on (built_heap set.entries)) (subst (λ g. Comes label middle g (functions_on (built_heap set.entries))) goes_is entered)))
