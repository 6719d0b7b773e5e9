-- Variables that are declared in turn on the global object.
use Rattle.std.proofs.Common.{refl, sym, ap, ◌∙◌, ◌≡◌, ℕ, true, false, ◌||◌, List, [], ◌∷◌, ◌++◌, subst, arith, Option, Some, None, is_some}
use Rattle.std.proofs.lemmas.Bool.{true≢false, false≢true}
use Rattle.js_values.specs.declared.property.Body.TheVariants.{Data}
use Rattle.js_values.specs.declared.ids.ObjId.{ObjId}
use Rattle.js_values.specs.Arrays.{element_of, length_key}
use Rattle.js_values.specs.Chains.{onwards, chain_within}
use Rattle.js_values.specs.Objects.{Property, PlainObject, number_of, own, with_row}
use Rattle.js_values.specs.Walks.{plain_chain, plain_found_at, plain_find}
use Rattle.es_meaning.specs.Objects as objects
use Rattle.es_meaning.specs.Objects.{declared_by_script, defined_over, stretched, with_added, with_object, with_rows}
use Rattle.es_meaning.specs.Holders.{with_property_of}
use Rattle.es_meaning.specs.Start.{global_object}
use Rattle.es_meaning.specs.Plain.{undefined, unless_found, with_variable, with_variables}
use Rattle.plain_heap.specs.PlainObjects.{PlainObjects, changed}
use Rattle.plain_heap.specs.Started.{IsStarted}
use Rattle.plain_heap.proofs.StartedLaws.{given_started}
use Rattle.step_start.specs.Hoisted.{is_there, Declares}

abbrev pub variable : Property
variable = record { body = Data undefined; marks = declared_by_script }

-- ---- one variable

module _ (name : List ℕ) where
  -- the property that the name has on the global object, or on its prototype
  abbrev pub along : Option Property → Option Property → Option (ℕ × Property)
  along on_global on_root = plain_found_at 1 on_global (plain_found_at 0 on_root None)

  module _ (root global : PlainObject) (others : List PlainObject) (started : IsStarted (root ∷ global ∷ others)) where
    abbrev all : List PlainObject
    all = root ∷ global ∷ others

    pub found_along : plain_find name (plain_chain all global_object.0) ≡ along (own name global.rows) (own name root.rows)
    found_along =
        ap (λ (o : Option ObjId). plain_found_at 1 (own name global.rows) (plain_find name (onwards (number_of o) (chain_within (λ p. number_of p.proto) all 1)))) started.global.0
        ∙ ap (λ (o : Option ObjId). plain_found_at 1 (own name global.rows) (plain_found_at 0 (own name root.rows) (plain_find name (onwards (number_of o) (chain_within (λ p. number_of p.proto) all 0))))) started.root.0

    -- to give a new property is to add it
    pub given_global : own name global.rows ≡ None → (p : Property) → with_property_of global_object.0 name p all ≡ with_object global_object.0 (with_added name p) all
    given_global absent p =
        ap (λ q. root ∷ with_rows global (defined_over q name p global.rows) ∷ others) absent
        ∙ sym (ap (λ c. root ∷ with_rows global (stretched (element_of c name) (own length_key global.rows) (with_row name p global.rows)) ∷ others) started.global.1)

    found_either : (on_global on_root : Option Property) → (is_some on_global || is_some on_root) ≡ true → unless_found (along on_global on_root) name all ≡ all
    found_either (Some p) on_root there = refl
    found_either None (Some p) there = refl
    found_either None None there = absurd (false≢true there)

    found_neither : (on_global on_root : Option Property) → (is_some on_global || is_some on_root) ≡ false → unless_found (along on_global on_root) name all ≡ objects.add 1 name undefined declared_by_script all
    found_neither (Some p) on_root there = absurd (true≢false there)
    found_neither None (Some p) there = absurd (true≢false there)
    found_neither None None there = refl

    missing_first : (on_global on_root : Option Property) → (is_some on_global || is_some on_root) ≡ false → on_global ≡ None
    missing_first None on_root there = refl
    missing_first (Some p) on_root there = absurd (true≢false there)

    there_on : is_there name all ≡ true → with_variable name all ≡ all
    there_on there = ap (λ f. unless_found f name all) found_along ∙ found_either (own name global.rows) (own name root.rows) there

    new_on : is_there name all ≡ false → with_variable name all ≡ with_property_of global_object.0 name variable all
    new_on missing =
        ap (λ f. unless_found f name all) found_along ∙ found_neither (own name global.rows) (own name root.rows) missing
        ∙ sym (given_global (missing_first (own name global.rows) (own name root.rows) missing) variable)

  there_already : (os : List PlainObject) → IsStarted os → is_there name os ≡ true → with_variable name os ≡ os
  there_already [] started there = absurd started.root
  there_already (root ∷ []) started there = absurd started.global
  there_already (root ∷ global ∷ others) started there = there_on root global others started there

  newly : (os : List PlainObject) → IsStarted os → is_there name os ≡ false → with_variable name os ≡ with_property_of global_object.0 name variable os
  newly [] started missing = absurd started.root
  newly (root ∷ []) started missing = absurd started.global
  newly (root ∷ global ∷ others) started missing = new_on root global others started missing

module _ {T : Type 0} (name copied : List ℕ) (copy_is : copied ≡ name) (old : PlainObjects T) (started : IsStarted old.objects) where
  -- the name is there
  pub declares_there : is_there copied old.objects ≡ true → Declares (name ∷ []) old old
  declares_there there = record { says = ap (λ os. record { label = old.label; objects = os }) (sym (there_already name old.objects started (ap (λ n. is_there n old.objects) (sym copy_is) ∙ there))) }

  -- or it becomes a property
  pub declares_new : (new : PlainObjects T) → is_there copied old.objects ≡ false → new ≡ changed (with_property_of global_object.0 copied variable) old → Declares (name ∷ []) old new
  declares_new new missing given = record {
    says =
        given ∙ ap (λ n. changed (with_property_of global_object.0 n variable) old) copy_is
        ∙ ap (λ os. record { label = old.label; objects = os }) (sym (newly name old.objects started (ap (λ n. is_there n old.objects) (sym copy_is) ∙ missing)));
  }

-- what is put on the global object leaves what a run starts with
pub global_started : {T : Type 0} (old new : PlainObjects T) (name : List ℕ) (p : Property) → IsStarted old.objects → new ≡ changed (with_property_of global_object.0 name p) old → IsStarted new.objects
global_started old new name p started given = subst (λ (h : PlainObjects _). IsStarted h.objects) (sym given) (given_started name p 1 old.objects (λ e. absurd (omega (arith, e))) started)

-- ---- several

pub variables_append : (names others : List (List ℕ)) (os : List PlainObject) → with_variables (names ++ others) os ≡ with_variables others (with_variables names os)
variables_append [] others os = refl
variables_append (name ∷ names) others os = variables_append names others (with_variable name os)

module _ {T : Type 0} where
  -- no variable
  pub declares_none : (heap : PlainObjects T) → Declares [] heap heap
  declares_none heap = record { says = refl }

  -- the same names
  pub declares_same : (names others : List (List ℕ)) (old new : PlainObjects T) → names ≡ others → Declares names old new → Declares others old new
  declares_same names others old new is declares = subst (λ ns. Declares ns old new) is declares

  -- variables, and then others
  pub declares_then : (names others : List (List ℕ)) (old middle new : PlainObjects T) → Declares names old middle → Declares others middle new → Declares (names ++ others) old new
  declares_then names others old middle new one more = record {
    says =
        more.says ∙ ap (changed (with_variables others)) one.says
        ∙ ap (λ os. record { label = old.label; objects = os }) (sym (variables_append names others old.objects));
  }
