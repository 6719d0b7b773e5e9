-- The elements of an array literal, and the array that they make.
use Rattle.std.proofs.Common.{refl, sym, ap, subst, ◌∙◌, ◌≡◌, ◌≤◌, ◌+◌, ℕ, suc, List, [], ◌∷◌, ◌++◌, length, map, drop, Ok, arith}
use Rattle.std.specs.Borrow.{Bor}
use Rattle.std.specs.List.{All}
use Rattle.origin_labels.specs.Label.{Label}
use Rattle.flow_policy.specs.Policies.{Tables}
use Rattle.flow_policy.specs.Inputs.{Given}
use Rattle.js_ast.specs.declared.trees.Item as node
use Rattle.js_ast.specs.declared.node_list.NodeList.{NodeList}
use Rattle.js_ast.specs.Nodes.{nodes_of}
use Rattle.js_ast.specs.Views.{view_items}
use Rattle.js_values.specs.declared.property.Slot.{Slot}
use Rattle.js_values.specs.declared.value.Labelled.{Labelled}
use Rattle.js_values.specs.declared.value.Value.TheVariants as value
use Rattle.js_values.specs.Arrays.{element_key}
use Rattle.js_values.specs.Objects.{Object, Rows}
use Rattle.js_values.specs.Readings.{HasValue, read_value}
use Rattle.es_meaning.specs.Evaluation.{count_of, places_of}
use Rattle.es_meaning.specs.Objects.{defined, elements_onto}
use Rattle.es_meaning.specs.Operations.{Value, array_of}
use Rattle.es_meaning.specs.Outcomes.{Outcome, Goes}
use Rattle.es_meaning.specs.Start.{id}
use Rattle.flow_frames.specs.Frames.{context}
use Rattle.flow_meaning.specs.Erased.{unlabelled}
use Rattle.flow_meaning.specs.Planned.{gave, Give, as_plan}
use Rattle.flow_meaning.specs.Requested.{array_object, data_slot}
use Rattle.flow_meaning.specs.Scopes.{Val, State, Halt, Jump}
use Rattle.flow_meaning.specs.Tracked.{act, make_array}
use Rattle.property_requests.specs.declared.arrays.Element.{Element}
use Rattle.property_requests.specs.Arrays.{ElementsFrom, HasElements, places_in, values_in}
use Rattle.run_state.specs.declared.outcome.Outcome.TheVariants as outcome
use Rattle.run_state.specs.declared.world.World.{World}
use Rattle.run_state.specs.Acts.{Acts}
use Rattle.run_state.specs.Worlds.{state_of}
use Rattle.continuations.specs.declared.continuation.Control.TheVariants as control
use Rattle.continuations.specs.Kept.{Kept}
use Rattle.continuations.specs.Pending.{behind, next_plan}
use Rattle.continuations.proofs.Handed.{laid_value}
use Rattle.step_references.specs.Moving.{Begun}
use Rattle.step_literals.specs.Arrays.{elements_from}

-- ---- the loop over the items

-- the elements so far stand before those that are left
abbrev pub Reaches : {T : Type 0} → List node.Item → List (Labelled T) → List (Element T) → ℕ → List (Labelled T) → Type 0
Reaches items vs elements n left = elements_from 0 items vs ≡ elements ++ elements_from n (drop n items) left

-- ---- elements stand in their order, below the number of items

pub items_counted : (items : List node.Item) → count_of (view_items items) ≡ length items
items_counted [] = refl
items_counted (node.Hole ∷ items) = ap suc (items_counted items)
items_counted (node.Value' a p e ∷ items) = ap suc (items_counted items)

from_before : {T : Type 0} (made : T → Type 0) (n count : ℕ) (elements : List (Element T)) → ElementsFrom made (suc n) count elements → ElementsFrom made n count elements
from_before made n count [] has = tt
from_before made n count (e ∷ elements) has = let behind = has.0 in (omega (arith, behind), has.1, has.2, has.3)

all_first : {X : Type 0} (P : X → Type 0) (x : X) (xs : List X) → All P (x ∷ xs) → P x
all_first P x xs all = all 0 x (omega arith)

all_others : {X : Type 0} (P : X → Type 0) (x : X) (xs : List X) → All P (x ∷ xs) → All P xs
all_others P x xs all k d lt = all (suc k) d (omega (arith, lt))

elements_stand : {T : Type 0} (made : T → Type 0) (items : List node.Item) (vs : List (Labelled T)) (n count : ℕ) → n + length items ≤ count → All (HasValue made) vs → ElementsFrom made n count (elements_from n items vs)
elements_stand made [] vs n count fit all = tt
elements_stand made (node.Hole ∷ items) vs n count fit all = from_before made n count (elements_from (suc n) items vs) (elements_stand made items vs (suc n) count (omega (arith, fit)) all)
elements_stand made (node.Value' a p e ∷ items) [] n count fit all = tt
elements_stand made (node.Value' a p e ∷ items) (v ∷ vs) n count fit all =
    (omega arith, omega (arith, fit), all_first (HasValue made) v vs all, elements_stand made items vs (suc n) count (omega (arith, fit)) (all_others (HasValue made) v vs all))

pub elements_have : {T : Type 0} (made : T → Type 0) (items : List node.Item) (vs : List (Labelled T)) (elements : List (Element T)) (count : ℕ) → elements ≡ elements_from 0 items vs → count ≡ length items → All (HasValue made) vs → HasElements made count elements
elements_have made items vs elements count are size all =
    subst (λ es. HasElements made count es) (sym are) (elements_stand made items vs 0 count (omega (arith, size)) all)

-- ---- values beyond the items, and items beyond the values, make nothing

elements_met : {T S : Type 0} (slot : Labelled T → S) (items : List node.Item) (vs : List (Labelled T)) (n : ℕ) (rows : Rows S) → elements_onto rows (places_in (elements_from n items vs)) (map slot (values_in (elements_from n items vs))) ≡ elements_onto rows (places_of n (view_items items)) (map slot vs)
elements_met slot [] [] n rows = refl
elements_met slot [] (v ∷ vs) n rows = refl
elements_met slot (node.Hole ∷ items) vs n rows = elements_met slot items vs (suc n) rows
elements_met slot (node.Value' a p e ∷ items) [] n rows = refl
elements_met slot (node.Value' a p e ∷ items) (v ∷ vs) n rows = elements_met slot items vs (suc n) (defined (element_key n) (slot v) rows)

map_both : {X Y Z : Type 0} (f : X → Y) (g : Y → Z) (xs : List X) → map g (map f xs) ≡ map (λ x. g (f x)) xs
map_both f g [] = refl
map_both f g (x ∷ xs) = ap (λ ys. g (f x) ∷ ys) (map_both f g xs)

-- the array of these elements is that of the literal with all values
module _ {T : Type 0} (reading : T → Label) (items : List node.Item) (vs : List (Labelled T)) (elements : List (Element T)) (are : elements ≡ elements_from 0 items vs) (count : ℕ) (size : count ≡ length items) where
  rows_met : (label : Label) (rows : Rows (Slot Label)) → elements_onto rows (places_in elements) (map (data_slot label) (map (read_value reading) (values_in elements))) ≡ elements_onto rows (places_of 0 (view_items items)) (map (data_slot label) (map (read_value reading) vs))
  rows_met label rows =
      ap (λ es. elements_onto rows (places_in es) (map (data_slot label) (map (read_value reading) (values_in es)))) are
      ∙ ap (elements_onto rows (places_in (elements_from 0 items vs))) (map_both (read_value reading) (data_slot label) (values_in (elements_from 0 items vs)))
      ∙ elements_met (λ v. data_slot label (read_value reading v)) items vs 0 rows
      ∙ ap (elements_onto rows (places_of 0 (view_items items))) (sym (map_both (read_value reading) (data_slot label) vs))

  array_met : (label : Label) → array_object count (places_in elements) (map (read_value reading) (values_in elements)) label ≡ array_object (count_of (view_items items)) (places_of 0 (view_items items)) (map (read_value reading) vs) label
  array_met label =
      ap (λ n. array_object n (places_in elements) (map (read_value reading) (values_in elements)) label) (size ∙ sym (items_counted items))
      ∙ ap (λ (rows : Rows (Slot Label)). record (array_object (count_of (view_items items)) [] [] label) { rows = rows }) (rows_met label (array_object (count_of (view_items items)) [] [] label).rows)

  array_as : (tables : Tables) (inputs : Given) (s : State) → act tables inputs (array_of (places_in elements) count) (map (read_value reading) (values_in elements)) s ≡ act tables inputs (array_of (places_of 0 (view_items items)) (count_of (view_items items))) (map (read_value reading) vs) s
  unfolding act make_array
  array_as tables inputs s = ap (λ (p : Object Label). Goes (unlabelled (value.Object (id (length s.heap)))) (record s { heap = s.heap ++ p ∷ [] })) (array_met (context s.frames))

pub array_builds : {S T : Type 0} {made : S → T → Type 0} {meaning : S → T → Label} {store : S} {old new : Kept T} {world_old world_new : World T} (middle : Kept T) (list : Bor (NodeList node.Item)) (number count : ℕ) (elements : List (Element T)) (v : Labelled T) → middle.tasks ≡ old.tasks → middle.loose ≡ [] → new.tasks ≡ middle.tasks → new.loose ≡ middle.loose ++ v ∷ []
    → elements ≡ elements_from 0 (nodes_of list.now) old.loose → count ≡ length (nodes_of list.now)
    → ((tables : Tables) (inputs : Given) → Acts made meaning store (λ reading. read_value reading) (λ reading. act tables inputs (array_of (places_in elements) count) (map (read_value reading) (values_in elements))) world_old world_new (Ok (outcome.Goes v)))
    → Begun made meaning store (λ tables inputs set functions reading e. next_plan tables inputs set functions (control.Array list number) (map (read_value reading) old.loose) e) old new world_old world_new (Ok control.Value)
array_builds {old = old} {new} {world_old} {world_new} middle list number count elements v cleared none tasks laid are size acts = record {
  begins = λ tables inputs set functions reading e told turns is.
      let s = state_of reading world_old told turns in
      let t = state_of reading world_new told turns in
      let ends = λ (o : Outcome Halt Jump Val State). behind tables inputs set functions reading old.tasks e (as_plan Value o) in
      laid_value middle new v (ap length none) tasks laid tables inputs set functions reading e t
      ∙ ap (λ ts. behind tables inputs set functions reading ts e (Give (gave (read_value reading v)) t)) cleared
      ∙ ap ends (sym ((acts tables inputs).says reading is told turns) ∙ array_as reading (nodes_of list.now) old.loose elements are count size tables inputs s);
}
