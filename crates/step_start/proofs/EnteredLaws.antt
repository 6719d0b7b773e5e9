-- A function that is declared on the global object.
use Rattle.std.proofs.Common.{refl, sym, ap, ◌∙◌, ◌≡◌, ℕ, Bool, true, false, not, ◌&&◌, ◌||◌, List, [], ◌∷◌, subst, Option, Some, None, if◌then◌else◌}
use Rattle.std.proofs.lemmas.Bool.{false≢true}
use Rattle.std.proofs.lemmas.Option.{same_Some}
use Rattle.origin_labels.specs.Names.{same_name}
use Rattle.js_values.specs.declared.property.Body.{Body}
use Rattle.js_values.specs.declared.property.Body.TheVariants.{Data, Accessor}
use Rattle.js_values.specs.declared.property.Marks.{Marks}
use Rattle.js_values.specs.declared.value.Value.{Value}
use Rattle.js_values.specs.Chains.{onwards, chain_within}
use Rattle.js_values.specs.Objects.{number_of, Rows, Property, PlainObject, own, changed}
use Rattle.js_values.specs.Walks.{plain_chain, plain_find}
use Rattle.es_meaning.specs.Functions.{property_with}
use Rattle.es_meaning.specs.Holders.{with_property_of}
use Rattle.es_meaning.specs.Objects as objects
use Rattle.es_meaning.specs.Objects.{writes, if_allowed, own_plan, plan_at, can_put, declared_by_script, defined_over, with_rows}
use Rattle.es_meaning.specs.Start.{global_object}
use Rattle.es_meaning.specs.Plain.{may_hold, put_by_plan, declared_in_place, declared_anew, declared_over}
use Rattle.plain_heap.specs.PlainObjects.{PlainObjects}
use Rattle.plain_heap.specs.PlainObjects as plain
use Rattle.plain_heap.specs.Started.{IsStarted}
use Rattle.plain_heap.proofs.StartedLaws.{own_replaceable}
use Rattle.step_start.specs.Entered.{Comes, may_take_any, may_take}
use Rattle.step_start.proofs.VariableLaws.{along, found_along, given_global}

-- ---- a value that is put in the place of another is a property that is given, where the attributes are the same

marks_are : (marks : Marks) → marks.writable ≡ true → marks.enumerable ≡ true → marks.configurable ≡ false → marks ≡ declared_by_script
marks_are marks writable enumerable fixed =
    ap (λ b. record { writable = b; enumerable = marks.enumerable; configurable = marks.configurable }) writable
    ∙ ap (λ b. record { writable = true; enumerable = b; configurable = marks.configurable }) enumerable
    ∙ ap (λ b. record { writable = true; enumerable = true; configurable = b }) fixed

module _ (name : List ℕ) (f : Property → Property) (p q : Property) (is : f p ≡ q) where
  changed_at : (test : Bool) (r : List ℕ × Property) (rows some others : Rows Property) (rest : Option Property) → (rest ≡ Some p → some ≡ others) → (if test then Some r.1 else rest) ≡ Some p
      → (if test then (r.0, f r.1) ∷ rows else r ∷ some) ≡ (if test then (r.0, q) ∷ rows else r ∷ others)
  changed_at true r rows some others rest same here = ap (λ x. (r.0, x) ∷ rows) (ap f (same_Some r.1 p here) ∙ is)
  changed_at false r rows some others rest same here = ap (λ more. r ∷ more) (same here)

  changed_same : (rows : Rows Property) → own name rows ≡ Some p → changed name f rows ≡ changed name (λ s. q) rows
  changed_same [] here = refl
  changed_same (r ∷ rows) here = changed_at (same_name r.0 name) r rows (changed name f rows) (changed name (λ s. q) rows) (own name rows) (changed_same rows) here

first_true : (a b : Bool) → (a && b) ≡ true → a ≡ true
first_true true b is = refl
first_true false b is = absurd (false≢true is)

second_true : (a b : Bool) → (a && b) ≡ true → b ≡ true
second_true true b is = is
second_true false b is = absurd (false≢true is)

not_true : (a : Bool) → not a ≡ true → a ≡ false
not_true true is = absurd (false≢true is)
not_true false is = refl

-- ---- the declaration

module _ (name : List ℕ) (v : Value) where
  abbrev held : Property
  held = property_with v declared_by_script

  -- the property is given, or the declaration is refused
  abbrev pub answer : List PlainObject → Bool → Option (List PlainObject)
  answer os true = Some (with_property_of global_object.0 name held os)
  answer os false = None

  module _ (root global : PlainObject) (others : List PlainObject) (started : IsStarted (root ∷ global ∷ others)) where
    abbrev here : List PlainObject
    here = root ∷ global ∷ others

    module _ (p : Property) where
      -- over a property of the prototype, into which no function is put where it can't be replaced
      inherited : (c : Bool) → (c || not (may_hold p p.body)) ≡ true → declared_anew c p name v here ≡ answer here (c || may_hold p p.body)
      inherited true can = refl
      inherited false can = let none = not_true (may_hold p p.body) can in ap (λ m. declared_in_place m name v here) none ∙ sym (ap (answer here) none)

      module _ (its : own name global.rows ≡ Some p) where
        can_write : (w : Value) → p.body ≡ Data w → p.marks.writable ≡ true → can_put name (plain_chain here global_object.0) ≡ writes
        can_write w is writable =
            ap (λ q. plan_at name global q (plain_find name (onwards (number_of global.proto) (chain_within (λ o. number_of o.proto) here 1)))) its
            ∙ ap (own_plan p) is ∙ ap (λ b. if_allowed b writes) writable

        written : p.marks.writable ≡ true → p.marks.enumerable ≡ true → p.marks.configurable ≡ false → objects.write global_object.0 name v here ≡ with_property_of global_object.0 name held here
        written writable enumerable fixed =
            ap (λ rows. root ∷ with_rows global rows ∷ others)
            (changed_same name (objects.with_value v) p held (ap (λ (marks : Marks). property_with v marks) (marks_are p.marks writable enumerable fixed)) global.rows its)
            ∙ sym (ap (λ q. root ∷ with_rows global (defined_over q name held global.rows) ∷ others) its)

        in_place : (b : Body) → p.body ≡ b → p.marks.configurable ≡ false → (m : Bool) → may_hold p b ≡ m → declared_in_place m name v here ≡ answer here m
        in_place b is fixed false m_is = refl
        in_place (Accessor get set) is fixed true m_is = absurd (false≢true m_is)
        in_place (Data w) is fixed true m_is =
            let writable = first_true p.marks.writable p.marks.enumerable m_is in
            ap (λ plan. Some (put_by_plan plan name v here)) (can_write w is writable)
            ∙ ap Some (written writable (second_true p.marks.writable p.marks.enumerable m_is) fixed)

        -- over one of its own
        over_own : (c : Bool) → p.marks.configurable ≡ c → declared_anew c p name v here ≡ answer here (c || may_hold p p.body)
        over_own true is = refl
        over_own false is = in_place p.body refl is (may_hold p p.body) refl

    bound_by : (on_global on_root : Option Property) → own name global.rows ≡ on_global → own name root.rows ≡ on_root → declared_over (along name on_global on_root) name v here ≡ answer here (may_take_any on_global on_root)
    bound_by None None absent missing = ap Some (sym (given_global name root global others started absent held))
    bound_by None (Some p) absent there = inherited p p.marks.configurable (own_replaceable name root.rows p started.root.1 there)
    bound_by (Some p) on_root there other = over_own p there p.marks.configurable refl

    bound_on : declared_over (plain_find name (plain_chain here global_object.0)) name v here ≡ answer here (may_take name here)
    bound_on = ap (λ f. declared_over f name v here) (found_along name root global others started) ∙ bound_by (own name global.rows) (own name root.rows) refl refl

  bound : (os : List PlainObject) → IsStarted os → declared_over (plain_find name (plain_chain os global_object.0)) name v os ≡ answer os (may_take name os)
  bound [] started = absurd started.root
  bound (root ∷ []) started = absurd started.global
  bound (root ∷ global ∷ others) started = bound_on root global others started

  module _ {T : Type 0} (old new : PlainObjects T) (started : IsStarted old.objects) where
    pub binds_given : may_take name old.objects ≡ true → new ≡ plain.changed (with_property_of global_object.0 name held) old → Comes old.label new true (declared_over (plain_find name (plain_chain old.objects global_object.0)) name v old.objects)
    binds_given may given = subst (λ r. Comes old.label new true r) (sym (bound old.objects started ∙ ap (answer old.objects) may)) given

    pub binds_refused : may_take name old.objects ≡ false → Comes old.label new false (declared_over (plain_find name (plain_chain old.objects global_object.0)) name v old.objects)
    binds_refused may = subst (λ r. Comes old.label new false r) (sym (bound old.objects started ∙ ap (answer old.objects) may)) tt
