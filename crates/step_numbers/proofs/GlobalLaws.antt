-- Names, where they stand: in a record, or as a property of the global object.
use Rattle.std.proofs.Common.{refl, sym, ap, ap₂, subst, ◌∙◌, ◌≡◌, ℕ, Bool, true, false, List, if◌then◌else◌, Option, Some, None, is_some, IsSome, IfSome, Result, Ok, Err, IfOk}
use Rattle.std.specs.List.{slice_get}
use Rattle.std.specs.Option.{option_map}
use Rattle.std.specs.Result.{result_ok}
use Rattle.std.proofs.lemmas.Bool.{true≢false, false≢true}
use Rattle.std.proofs.lemmas.Option.{none-some, same_Some, slice_get-map}
use Rattle.origin_labels.specs.Label.{Label, IsLabel, bottom, union}
use Rattle.origin_labels.proofs.LabelLaws.{union-bottom_left, union-same}
use Rattle.origin_labels.specs.Stores.{IsKept}
use Rattle.flow_frames.specs.declared.faults.Rule.TheVariants.{W1}
use Rattle.flow_frames.specs.Frames.{context}
use Rattle.flow_frames.specs.Held as frames
use Rattle.js_values.specs.declared.inner.Class.{Class}
use Rattle.js_values.specs.declared.inner.Class.TheVariants as class
use Rattle.js_values.specs.declared.property.Body.{Body}
use Rattle.js_values.specs.declared.property.Body.TheVariants.{Data, Accessor}
use Rattle.js_values.specs.declared.property.Slot.{Slot}
use Rattle.js_values.specs.declared.value.Labelled.{Labelled}
use Rattle.js_values.specs.declared.value.Value.{Value}
use Rattle.js_values.specs.Chains.{beginning, onwards, chain_within}
use Rattle.js_values.specs.Arrays.{is_length}
use Rattle.js_values.specs.Objects.{Object, number_of, own}
use Rattle.js_values.specs.Readings.{HasHeap, HasRecords, HasSlot, IsReading, read_heap, read_object, read_records, read_slot, read_value}
use Rattle.js_values.specs.Records.{Binding, Record, bound_in, lookup}
use Rattle.js_values.specs.Walks.{Found, find, found_at, object_chain}
use Rattle.js_values.proofs.ReadingLaws.{IsReading-earlier}
use Rattle.object_heap.specs.declared.shape.Shape.{Shape}
use Rattle.object_heap.specs.Acts as heap_acts
use Rattle.object_heap.specs.Formed.{IsShape, own_in, rows_in}
use Rattle.object_heap.proofs.ReadLaws.{read_own}
use Rattle.prototype_walk.specs.declared.plan.PutPlan.TheVariants.{Write}
use Rattle.prototype_walk.specs.Plans.{can_put, if_allowed, own_plan, plan_at}
use Rattle.es_meaning.specs.Outcomes.{Goes}
use Rattle.es_meaning.specs.Plain.{in_record, on_global, place_beyond, place_from}
use Rattle.flow_meaning.specs.Scopes.{State, Val}
use Rattle.flow_meaning.specs.Tracked.{accessed, acted, found_globally, global_value, global_walk, has_value, held, is_length_in, is_put, named, of_name, overwritten, put, put_by, put_named, put_value, resolved, walk_from}
use Rattle.run_state.specs.declared.world.World.{World}
use Rattle.run_state.specs.Worlds.{Belongs, state_of}
use Rattle.property_access.specs.Elements.{length_in}
use Rattle.property_access.proofs.HeldLaws.{own_has}
use Rattle.property_access.proofs.NameLaws.{name_has, name_read}
use Rattle.property_access.proofs.ObjectLaws.{with_heap}
use Rattle.property_access.proofs.PlanLaws.{read_length}
use Rattle.property_access.proofs.Reading.{read_frames, read_lookup}
use Rattle.step_numbers.specs.Assigned.{Puts, PutsAt, array_in, if_data, is_array, slot_there, written_in}
use Rattle.step_numbers.specs.Evaluated.{global_in}
use Rattle.step_numbers.specs.Named.{IsHeld, IsNamed}

-- the value of a binding that is found at a place
pub value_bound : {T : Type 0} {found bound : Option (Binding (Labelled T))} {v : Labelled T} → found ≡ bound → option_map (λ b. b.value) found ≡ Some v → option_map (λ b. b.value) bound ≡ Some v
value_bound same is = ap (option_map (λ b. b.value)) (sym same) ∙ is

-- what is made of it
pub made_found : {T : Type 0} {X : Type 0} (as_value : X → Labelled T) (result : Option X) (v : Labelled T) (bound : Option (Labelled T)) → bound ≡ Some v → IfSome result (λ x. as_value x ≡ v) → IfSome result (λ x. Some (as_value x) ≡ bound)
made_found as_value None v bound is found = tt
made_found as_value (Some x) v bound is found = ap Some found ∙ sym is

-- ---- an object that has a property itself

module _ {T : Type 0} (reading : T → Label) (key : List ℕ) (heap : List (Object T)) (o : ℕ) where
  abbrev onto : Object Label → List (ℕ × Object Label)
  onto p = onwards (number_of p.proto) (chain_within (λ a. number_of a.proto) (read_heap reading heap) o)

  own_read : (p : Object T) (s : Slot T) → own key p.rows ≡ Some s → own key (read_object reading p).rows ≡ Some (read_slot reading s)
  own_read p s has = read_own reading key p.rows ∙ ap (option_map (read_slot reading)) has

  first_found : (p : Option (Object T)) (s : Slot T) → own_in key p ≡ Some s → find key (beginning o (option_map (read_object reading) p) onto) ≡ record { at = Some (o, read_slot reading s); walk = reading s.existence }
  first_found None s has = absurd (none-some s has)
  first_found (Some p) s has = ap (λ x. found_at o (read_object reading p) x (find key (onto (read_object reading p)))) (own_read p s has)

  first_planned : (p : Option (Object T)) (s : Slot T) → own_in key p ≡ Some s → can_put key (beginning o (option_map (read_object reading) p) onto) ≡ own_plan o (read_slot reading s) s.body (reading s.existence)
  first_planned None s has = absurd (none-some s has)
  first_planned (Some p) s has = ap (λ x. plan_at key o (read_object reading p) x (find key (onto (read_object reading p)))) (own_read p s has)

  -- a walk ends there
  pub own_found : (s : Slot T) → own_in key (slice_get heap o) ≡ Some s → find key (object_chain (read_heap reading heap) o) ≡ record { at = Some (o, read_slot reading s); walk = reading s.existence }
  own_found s has = ap (λ p. find key (beginning o p onto)) (slice_get-map (read_object reading) heap o) ∙ first_found (slice_get heap o) s has

  -- a put writes over its value
  pub own_planned : (s : Slot T) (v : Value) → own_in key (slice_get heap o) ≡ Some s → s.body ≡ Data v → s.marks.writable ≡ true → can_put key (object_chain (read_heap reading heap) o) ≡ Write (reading s.existence)
  own_planned s v has holds writable =
      ap (λ p. can_put key (beginning o p onto)) (slice_get-map (read_object reading) heap o)
      ∙ first_planned (slice_get heap o) s has
      ∙ ap (λ b. own_plan o (read_slot reading s) b (reading s.existence)) holds
      ∙ ap (λ b. if_allowed b (Write (reading s.existence)) (reading s.existence)) writable

-- ---- what a name stands for

module _ {T : Type 0} (reading : T → Label) (records : List (Record (Labelled T))) (heap : List (Object T)) (i : ℕ) (name : List ℕ) where
  abbrev along : Found
  along = global_walk (read_heap reading heap) name

  stands : (e : Option ℕ) → lookup name records i ≡ e → resolved (read_records reading records) (read_heap reading heap) i name ≡ of_name name (place_from e along.at) (walk_from e along.walk)
  stands e is = ap (λ o. of_name name (place_from o along.at) (walk_from o along.walk)) (read_lookup reading name records i ∙ is)

  stands_inside : (e : ℕ) → Some e ≡ lookup name records i → resolved (read_records reading records) (read_heap reading heap) i name ≡ of_name name (in_record e) bottom
  stands_inside e is = stands (Some e) (sym is)

  stands_on : (o : Option (Slot T)) → own_in name (global_in heap) ≡ o → IsSome o → None ≡ lookup name records i → resolved (read_records reading records) (read_heap reading heap) i name ≡ of_name name on_global along.walk
  stands_on None has there is = absurd (false≢true there)
  stands_on (Some s) has there is = stands None (sym is) ∙ ap (λ (f : Found). of_name name (place_beyond f.at) along.walk) (own_found reading name heap 1 s has)

  stands_beyond : IsSome (own_in name (global_in heap)) → None ≡ lookup name records i → resolved (read_records reading records) (read_heap reading heap) i name ≡ of_name name on_global along.walk
  stands_beyond there is = stands_on (own_in name (global_in heap)) refl there is

-- ---- its value

-- what was made of labels, if it was made
pub ok_has : {A E : Type 0} (P : A → Type 0) (r : Result A E) (a : A) → Some a ≡ result_ok r → IfOk r P → P a
ok_has P (Ok x) a is holds = subst P (sym (same_Some a x is)) holds
ok_has P (Err e) a is holds = absurd (none-some a (sym is))

-- a property that holds a value
module _ {S T : Type 0} (made : S → T → Type 0) (meaning_of : S → T → Label) (room : S → ℕ) (firm : S → Bool) (earlier store : S) (kept : IsKept made meaning_of room firm earlier store) (rising : (store : S) (label : T) → made store label → IsLabel (meaning_of store label)) where
  pub value_is_held : (name : List ℕ) (heap : List (Object T)) (s : Slot T) (v : Value) (label : T) → own_in name (global_in heap) ≡ Some s → s.body ≡ Data v → HasSlot (made earlier) s
      → made store label → meaning_of store label ≡ union (meaning_of earlier s.existence) (meaning_of earlier s.label) → IsHeld made meaning_of store name heap (record { value = v; label = label })
  unfolding named found_globally
  value_is_held name heap s v label has is slot m means = record {
    there = ap is_some has;
    comes = λ reading t read same.
        let before = IsReading-earlier made meaning_of room firm earlier store reading kept read in
        let is_label : IsLabel (reading s.existence) = subst IsLabel (sym (before.agrees s.existence slot.1)) (rising earlier s.existence slot.1) in
        ap (λ h. found_globally (union (global_walk h name).walk (global_walk h name).walk) (global_walk h name).at t) same
        ∙ ap (λ (f : Found). found_globally (union f.walk f.walk) f.at t) (own_found reading name heap 1 s has)
        ∙ ap (λ b. Goes (held (union (union (reading s.existence) (reading s.existence)) (reading s.label)) global_value b) t) is
        ∙ ap (λ (l : Label). Goes (has_value (record { value = v; label = l })) t)
        (ap (λ l. union l (reading s.label)) (union-same (reading s.existence) is_label) ∙ ap₂ union (before.agrees s.existence slot.1) (before.agrees s.label slot.0) ∙ sym means ∙ sym (read.agrees label m));
    labelled = m;
  }

module _ {S T : Type 0} (made : S → T → Type 0) (meaning_of : S → T → Label) (store : S) (at : ℕ) (name : List ℕ) (w : World T) where
  bound_named : (e : ℕ) (v : Labelled T) → Some e ≡ lookup name w.records at → HasRecords (made store) w.records → Some v ≡ option_map (λ b. b.value) (bound_in name (slice_get w.records e)) → IsNamed made meaning_of store at name w v
  unfolding accessed named
  bound_named e v is has found = record {
    comes = λ reading told turns read.
        ap (λ n. accessed n (state_of reading w told turns)) (stands_inside reading w.records w.heap at name e is)
        ∙ (name_read made meaning_of store w e name v found).says reading read told turns;
    labelled = name_has (made store) w.records e name v has found;
  }

  held_named : (v : Labelled T) → None ≡ lookup name w.records at → IsHeld made meaning_of store name w.heap v → IsNamed made meaning_of store at name w v
  unfolding accessed
  held_named v is held = record {
    comes = λ reading told turns read.
        let s = state_of reading w told turns in
        ap (λ n. accessed n s) (stands_beyond reading w.records w.heap at name held.there is) ∙ held.comes reading s read refl;
    labelled = held.labelled;
  }

  -- what the code answers, as a value
  module _ {X : Type 0} (as_value : X → Labelled T) where
    pub named_inside : (e : ℕ) (result : Option X) → Some e ≡ lookup name w.records at → HasRecords (made store) w.records
        → IfSome result (λ x. Some (as_value x) ≡ option_map (λ b. b.value) (bound_in name (slice_get w.records e))) → IfSome result (λ x. IsNamed made meaning_of store at name w (as_value x))
    named_inside e None is has found = tt
    named_inside e (Some x) is has found = bound_named e (as_value x) is has found

    pub named_beyond : (result : Option X) → None ≡ lookup name w.records at → IfSome result (λ x. IsHeld made meaning_of store name w.heap (as_value x)) → IfSome result (λ x. IsNamed made meaning_of store at name w (as_value x))
    named_beyond None is held = tt
    named_beyond (Some x) is held = held_named (as_value x) is held

-- ---- it is given a value

module _ {S T : Type 0} (made : S → T → Type 0) (meaning_of : S → T → Label) (store : S) (at : ℕ) (name : List ℕ) (v : Labelled T) (old new : World T) {X : Type 0} where
  pub puts_inside : (e : ℕ) (result : Option X) → Some e ≡ lookup name old.records at → IfSome result (λ _. PutsAt made meaning_of store (in_record e) name v old new) → IfSome result (λ _. Puts made meaning_of store at name v old new)
  unfolding put_value
  puts_inside e None is puts = tt
  puts_inside e (Some x) is puts = record {
    goes = λ reading told turns read.
        ap (λ n. put_value n (read_value reading v) (state_of reading old told turns)) (stands_inside reading old.records old.heap at name e is) ∙ puts.goes reading told turns bottom read;
  }

  pub puts_beyond : (result : Option X) → None ≡ lookup name old.records at → IfSome result (λ _. IsSome (own_in name (global_in old.heap))) → IfSome result (λ _. PutsAt made meaning_of store on_global name v old new)
      → IfSome result (λ _. Puts made meaning_of store at name v old new)
  unfolding put_value
  puts_beyond None is there puts = tt
  puts_beyond (Some x) is there puts = record {
    goes = λ reading told turns read.
        ap (λ n. put_value n (read_value reading v) (state_of reading old told turns)) (stands_beyond reading old.records old.heap at name there is)
        ∙ puts.goes reading told turns (global_walk (read_heap reading old.heap) name).walk read;
  }

-- ---- a property that can be written over

-- it isn't the `length` of an array
no_array : (key : List ℕ) (c : Class) → is_array c ≡ false → is_length c key ≡ false
no_array key class.Array none = absurd (true≢false none)
no_array key _ none = refl

module _ {T : Type 0} where
  pub record Writable (o : Option (Slot T)) (walk : T) : Type 0 where
    pub slot : Slot T
    pub what : Value
    pub here : o ≡ Some slot
    pub holds : slot.body ≡ Data what
    pub writable : slot.marks.writable ≡ true
    pub existence : slot.existence ≡ walk

  data_there : (s : Slot T) (body : Body) (walk : T) → s.body ≡ body → s.marks.writable ≡ true → Some walk ≡ if_data body s.existence → Writable (Some s) walk
  data_there s (Data v) walk is marked e = record { slot = s; what = v; here = refl; holds = is; writable = marked; existence = sym (same_Some walk s.existence e) }
  data_there s (Accessor get set) walk is marked e = absurd (none-some walk (sym e))

  marked_there : (s : Slot T) (b : Bool) (walk : T) → s.marks.writable ≡ b → Some walk ≡ (if b then if_data s.body s.existence else None) → Writable (Some s) walk
  marked_there s true walk is e = data_there s s.body walk refl is e
  marked_there s false walk is e = absurd (none-some walk (sym e))

  writable_there : (o : Option (Slot T)) (walk : T) → Some walk ≡ slot_there o → Writable o walk
  writable_there None walk e = absurd (none-some walk (sym e))
  writable_there (Some s) walk e = marked_there s s.marks.writable walk refl e

  no_array_there : (b : Bool) (o : Option (Slot T)) (walk : T) → Some walk ≡ (if b then None else slot_there o) → (b ≡ false) × Writable o walk
  no_array_there true o walk e = absurd (none-some walk (sym e))
  no_array_there false o walk e = (refl, writable_there o walk e)

  no_length : (key : List ℕ) (p : Option (Object T)) → array_in p ≡ false → length_in key p ≡ false
  no_length key None none = refl
  no_length key (Some p) none = no_array key p.class none

  pub class_seen : (p : Option (Object T)) (shape : Shape T) → IsShape p shape → is_array shape.class ≡ array_in p
  class_seen None shape is = absurd is
  class_seen (Some p) shape is = ap (λ (q : Shape T). is_array q.class) is

  own_rows : (name : List ℕ) (p : Option (Object T)) → own name (rows_in p) ≡ own_in name p
  own_rows name None = refl
  own_rows name (Some p) = refl

  -- what is found among the properties of an object that is no array
  pub written_found : (name : List ℕ) (p : Option (Object T)) (o : Option (Slot T)) → array_in p ≡ false → own name (rows_in p) ≡ o → slot_there o ≡ written_in name p
  written_found name p o none is = ap slot_there (sym is ∙ own_rows name p) ∙ sym (ap (λ b. if b then None else slot_there (own_in name p)) none)

  pub written_slot : (name : List ℕ) (p : Option (Object T)) (walk : T) → Some walk ≡ written_in name p → Writable (own_in name p) walk
  written_slot name p walk e = (no_array_there (array_in p) (own_in name p) walk e).1

  -- it is there
  pub written_there : (name : List ℕ) (p : Option (Object T)) (walk : T) → Some walk ≡ written_in name p → IsSome (own_in name p)
  written_there name p walk e = ap is_some (no_array_there (array_in p) (own_in name p) walk e).1.here

  -- its label was made
  pub written_made : (made : T → Type 0) (name : List ℕ) (heap : List (Object T)) (walk : T) → HasHeap made heap → Some walk ≡ written_in name (global_in heap) → made walk
  written_made made name heap walk has e =
      let there = (no_array_there (array_in (global_in heap)) (own_in name (global_in heap)) walk e).1 in
      subst made there.existence (own_has heap 1 made name there.slot has there.here).1

  -- a put writes over it
  pub put_writes : (reading : T → Label) (name : List ℕ) (heap : List (Object T)) (walk : T) (v : Val) (s : State) → Some walk ≡ written_in name (global_in heap) → s.heap ≡ read_heap reading heap
      → put W1 1 name bottom global_value v s ≡ acted is_put (heap_acts.write W1 1 name (union (context s.frames) (union bottom (reading walk))) v s.heap) s
  unfolding put put_by overwritten
  put_writes reading name heap walk v s e same =
      let parts = no_array_there (array_in (global_in heap)) (own_in name (global_in heap)) walk e in
      let there = parts.1 in
      ap (λ h. put_by (can_put name (object_chain h 1)) W1 1 name bottom global_value v s) same
      ∙ ap (λ p. put_by p W1 1 name bottom global_value v s) (own_planned reading name heap 1 there.slot there.what there.here there.holds there.writable ∙ ap (λ l. Write (reading l)) there.existence)
      ∙ ap (λ h. overwritten (is_length_in name (slice_get h 1)) W1 1 name (union bottom (reading walk)) v s) same
      ∙ ap (λ b. overwritten b W1 1 name (union bottom (reading walk)) v s) (read_length reading name heap 1 ∙ no_length name (global_in heap) parts.0)

module _ {S T : Type 0} (made : S → T → Type 0) (meaning_of : S → T → Label) (room : S → ℕ) (firm : S → Bool) (earlier joined store : S) (before : IsKept made meaning_of room firm earlier joined) (behind : IsKept made meaning_of room firm joined store) where
  -- the global object's property has another value
  pub puts_globally : (w : World T) (name : List ℕ) (v : Labelled T) (walk label need : T) (heap : List (Object T)) → Belongs made meaning_of earlier w → Some walk ≡ written_in name (global_in w.heap)
      → made earlier label → meaning_of earlier label ≡ context (frames.seen meaning_of earlier w.frames.frames) → made joined need → meaning_of joined need ≡ union (meaning_of earlier label) (meaning_of earlier walk)
      → ((reading : T → Label) → IsReading made meaning_of store reading → heap_acts.write W1 1 name (reading need) (read_value reading v) (read_heap reading w.heap) ≡ Ok (read_heap reading heap)) → PutsAt made meaning_of store on_global name v w (with_heap heap w)
  unfolding put_named acted
  puts_globally w name v walk label need heap belongs e m is m_need means does = record {
    goes = λ reading told turns along read.
        let s = state_of reading w told turns in
        let x = read_value reading v in
        let read_joined = IsReading-earlier made meaning_of room firm joined store reading behind read in
        let read_earlier = IsReading-earlier made meaning_of room firm earlier joined reading before read_joined in
        let m_walk = written_made (made earlier) name w.heap walk belongs.heap e in
        let need_is : union (context s.frames) (union bottom (reading walk)) ≡ reading need = ap₂ union (ap context (read_frames made meaning_of earlier reading w.frames.frames read_earlier belongs.frames) ∙ sym is) (union-bottom_left (reading walk) ∙ read_earlier.agrees walk m_walk) ∙ sym means ∙ sym (read_joined.agrees need m_need) in
        put_writes reading name w.heap walk x s e refl
        ∙ ap (λ n. acted is_put (heap_acts.write W1 1 name n x s.heap) s) need_is
        ∙ ap (λ a. acted is_put a s) (does reading read);
  }
