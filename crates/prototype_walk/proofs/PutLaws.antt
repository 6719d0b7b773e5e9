-- What a put does, by what the walk finds.
use Rattle.std.proofs.Common.{◌≡◌, ℕ, Bool, true, false, ◌&&◌, List, Option, Some, None, Result, Ok, Err, refl, sym, ap, ◌∙◌}
use Rattle.std.specs.List.{slice_get}
use Rattle.std.specs.Option.{option_map}
use Rattle.std.specs.Result.{IfOk}
use Rattle.origin_labels.specs.Label.{Label, IsLabel, bottom, union}
use Rattle.origin_labels.proofs.LabelLaws.{IsLabel-bottom, IsLabel-union, union-assoc, union-bottom, union-comm}
use Rattle.js_values.specs.declared.ids.ObjId.{ObjId}
use Rattle.js_values.specs.declared.property.Slot.{Slot}
use Rattle.js_values.specs.Arrays.{length_key, element_of, element_label}
use Rattle.js_values.specs.Chains.{onwards}
use Rattle.js_values.specs.Objects.{Object, number_of, own}
use Rattle.js_values.specs.Readings.{IsReading, read_slot, read_object, read_heap}
use Rattle.js_values.specs.Walks.{find, object_chain}
use Rattle.object_heap.specs.declared.shape.Shape.{Shape}
use Rattle.object_heap.specs.Formed.{IsFormed, own_in, IsShape}
use Rattle.object_heap.proofs.ReadLaws.{read_own}
use Rattle.prototype_walk.specs.declared.plan.PutPlan.{PutPlan}
use Rattle.prototype_walk.specs.Plans.{own_plan, beyond_plan, gets_element, plan_at, can_put}
use Rattle.prototype_walk.specs.Answers.{IsPlace, IsPlan}
use Rattle.prototype_walk.proofs.HeldLaws.{own_there, shape_there}
use Rattle.prototype_walk.proofs.WalkLaws.{chain_at, find_behind}

-- the label of an absence, with that of a walk behind the object
absence_regroup : (s l r e : Label) → IsLabel r → IsLabel e → union (union s e) (union l r) ≡ union (union s (union l r)) e
absence_regroup s l r e rest label =
    let behind = IsLabel-union l r rest in
    union-assoc s e (union l r) behind ∙ ap (union s) (union-comm e (union l r) label behind) ∙ sym (union-assoc s (union l r) e label)

both_true : (b : Bool) → (b && true) ≡ b
both_true true = refl
both_true false = refl

-- what was found, as a borrow of it has it
pub place_twice : {T X : Type 0} (reading : T → Label) (place : Option (ObjId × X)) (now : X → Slot T) → option_map {U = ℕ × Slot Label} (λ f. (f.0.0, read_slot reading f.1)) (option_map {U = ObjId × Slot T} (λ f. (f.0, now f.1)) place) ≡ option_map {U = ℕ × Slot Label} (λ f. (f.0.0, read_slot reading (now f.1))) place
place_twice reading None now = refl
place_twice reading (Some f) now = refl

module _ {T : Type 0} (reading : T → Label) (heap : List (Object T)) (formed : IsFormed heap) (key : List ℕ) (o : ℕ) where
  put_at : (p : Object T) → slice_get heap o ≡ Some p → (s : Option (Slot T)) → own key p.rows ≡ s → can_put key (object_chain (read_heap reading heap) o) ≡ plan_at key o (read_object reading p) (option_map (read_slot reading) s) (find key (onwards (number_of p.proto) (object_chain (read_heap reading heap))))
  put_at p here s is =
      ap (can_put key) (chain_at reading heap formed o p here)
      ∙ ap (λ x. plan_at key o (read_object reading p) x (find key (onwards (number_of p.proto) (object_chain (read_heap reading heap))))) (read_own reading key p.rows ∙ ap (option_map (read_slot reading)) is)

  pub put_here : (s : Slot T) → own_in key (slice_get heap o) ≡ Some s → can_put key (object_chain (read_heap reading heap) o) ≡ own_plan o (read_slot reading s) s.body (reading s.existence)
  put_here s is = let there = own_there heap o key s is in put_at there.object there.here (Some s) there.has

  gets_read : (i : Option ℕ) (s : Option (Slot T)) → gets_element i (option_map (read_slot reading) s) ≡ gets_element i s
  gets_read None s = refl
  gets_read (Some i) None = refl
  gets_read (Some i) (Some s) = refl

  pub put_behind : (shape : Shape T) → IsShape (slice_get heap o) shape → own_in key (slice_get heap o) ≡ None → ((next : Option ℕ) → IsLabel (find key (onwards next (object_chain (read_heap reading heap)))).walk)
      → (e : Label) → IsLabel e → element_label (element_of shape.class key) (option_map (read_slot reading) (own_in length_key (slice_get heap o))) ≡ e
      → can_put key (object_chain (read_heap reading heap) o) ≡ beyond_plan (shape.extensible && gets_element (element_of shape.class key) (own_in length_key (slice_get heap o))) (find key (object_chain (read_heap reading heap) o)).at (union (find key (object_chain (read_heap reading heap) o)).walk e)
  put_behind shape is none labels e label means =
      let there = shape_there heap o shape is in
      let p = there.object in
      let absent = sym (ap (own_in key) there.here) ∙ none in
      let rest = find key (onwards (number_of p.proto) (object_chain (read_heap reading heap))) in
      let length : own_in length_key (slice_get heap o) ≡ own length_key p.rows = ap (own_in length_key) there.here in
      let allowed = shape.extensible && gets_element (element_of shape.class key) (own_in length_key (slice_get heap o)) in
      put_at p there.here None absent
      ∙ ap (λ (x : Option (Slot Label)). beyond_plan (p.extensible && gets_element (element_of p.class key) x) rest.at (union (union (reading p.structure) (element_label (element_of p.class key) x)) (union (reading p.link) rest.walk))) (read_own reading length_key p.rows ∙ ap (option_map (read_slot reading)) (sym length))
      ∙ ap (λ b. beyond_plan (p.extensible && b) rest.at (union (union (reading p.structure) (element_label (element_of p.class key) (option_map (read_slot reading) (own_in length_key (slice_get heap o))))) (union (reading p.link) rest.walk))) (gets_read (element_of p.class key) (own_in length_key (slice_get heap o)))
      ∙ ap (λ (q : Shape T). beyond_plan (q.extensible && gets_element (element_of q.class key) (own_in length_key (slice_get heap o))) rest.at (union (union (reading p.structure) (element_label (element_of q.class key) (option_map (read_slot reading) (own_in length_key (slice_get heap o))))) (union (reading p.link) rest.walk))) (sym there.is)
      ∙ ap (λ w. beyond_plan allowed rest.at (union (union (reading p.structure) w) (union (reading p.link) rest.walk))) means
      ∙ ap (beyond_plan allowed rest.at) (absence_regroup (reading p.structure) (reading p.link) rest.walk e (labels (number_of p.proto)) label)
      ∙ ap (λ f. beyond_plan allowed f.at (union f.walk e)) (sym (find_behind reading heap formed key o p there.here p.proto absent refl))

module _ {S T : Type 0} (made : S → T → Type 0) (meaning : S → T → Label) (store : S) (heap : List (Object T)) (formed : IsFormed heap) (key : List ℕ) (o : ℕ) (at : Option (ObjId × Slot T)) (walk : T) (shape : Shape T) (is : IsShape (slice_get heap o) shape) (none : own_in key (slice_get heap o) ≡ None) (place : IsPlace made meaning store heap o key at walk) (reading : T → Label) (read : IsReading made meaning store reading) (labels : (next : Option ℕ) → IsLabel (find key (onwards next (object_chain (read_heap reading heap)))).walk) where
  -- by the place at which the walk ended
  pub put_placed : (e : Label) → IsLabel e → element_label (element_of shape.class key) (option_map (read_slot reading) (own_in length_key (slice_get heap o))) ≡ e
      → can_put key (object_chain (read_heap reading heap) o) ≡ beyond_plan (shape.extensible && gets_element (element_of shape.class key) (own_in length_key (slice_get heap o))) (option_map (λ f. (f.0.0, read_slot reading f.1)) at) (union (reading walk) e)
  put_placed e label means =
      put_behind reading heap formed key o shape is none labels e label means
      ∙ ap (λ f. beyond_plan (shape.extensible && gets_element (element_of shape.class key) (own_in length_key (slice_get heap o))) f.at (union f.walk e)) (sym (place.is reading read))

  -- of what is no element
  pub put_plain : None ≡ element_of shape.class key → IsLabel (reading walk) → can_put key (object_chain (read_heap reading heap) o) ≡ beyond_plan shape.extensible (option_map (λ f. (f.0.0, read_slot reading f.1)) at) (reading walk)
  put_plain other label =
      put_placed bottom IsLabel-bottom (ap (λ i. element_label i (option_map (read_slot reading) (own_in length_key (slice_get heap o)))) (sym other))
      ∙ ap (λ i. beyond_plan (shape.extensible && gets_element i (own_in length_key (slice_get heap o))) (option_map (λ f. (f.0.0, read_slot reading f.1)) at) (union (reading walk) bottom)) (sym other)
      ∙ ap (λ b. beyond_plan b (option_map (λ f. (f.0.0, read_slot reading f.1)) at) (union (reading walk) bottom)) (both_true shape.extensible)
      ∙ ap (beyond_plan shape.extensible (option_map (λ f. (f.0.0, read_slot reading f.1)) at)) (union-bottom (reading walk) label)

  -- of an element, by the room that there is
  pub put_element : (i : ℕ) → Some i ≡ element_of shape.class key → (allowed : Bool) → allowed ≡ gets_element (Some i) (own_in length_key (slice_get heap o)) → (e : Label) → IsLabel e → e ≡ element_label (Some i) (option_map (read_slot reading) (own_in length_key (slice_get heap o)))
      → can_put key (object_chain (read_heap reading heap) o) ≡ beyond_plan (shape.extensible && allowed) (option_map (λ f. (f.0.0, read_slot reading f.1)) at) (union (reading walk) e)
  put_element i element allowed gets e label means =
      put_placed e label (ap (λ j. element_label j (option_map (read_slot reading) (own_in length_key (slice_get heap o)))) (sym element) ∙ sym means)
      ∙ ap (λ b. beyond_plan (shape.extensible && b) (option_map (λ f. (f.0.0, read_slot reading f.1)) at) (union (reading walk) e)) (ap (λ j. gets_element j (own_in length_key (slice_get heap o))) (sym element) ∙ sym gets)

module _ {S T : Type 0} (made : S → T → Type 0) (meaning : S → T → Label) (store : S) where
  -- a plan that is another's
  pub plan_as : {E : Type 0} (f h : (T → Label) → PutPlan Label) → ((reading : T → Label) → IsReading made meaning store reading → h reading ≡ f reading) → (result : Result (PutPlan T) E) → IfOk result (IsPlan made meaning store f) → IfOk result (IsPlan made meaning store h)
  plan_as f h same (Ok plan) is = record { belongs = is.belongs; is = λ reading read. is.is reading read ∙ sym (same reading read) }
  plan_as f h same (Err e) is = tt
