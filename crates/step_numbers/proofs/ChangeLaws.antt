-- When a name can be given a value.
use Rattle.std.proofs.Common.{refl, sym, ap, ap₂, ◌∙◌, ◌≡◌, ◌&&◌, ℕ, Bool, true, false, List, Option, Some, None, is_some, IsSome, Result, Ok, Err, IfErr, if◌then◌else◌}
use Rattle.std.specs.List.{slice_get}
use Rattle.std.specs.Option.{option_map}
use Rattle.std.specs.Result.{is_ok}
use Rattle.std.proofs.lemmas.Bool.{false≢true}
use Rattle.std.proofs.lemmas.Option.{none-some, slice_get-map}
use Rattle.origin_labels.specs.Label.{Label, union, within}
use Rattle.origin_labels.specs.Stores.{IsKept}
use Rattle.flow_frames.specs.declared.faults.Rule.TheVariants.{W1}
use Rattle.flow_frames.specs.declared.faults.FlowStop.{FlowStop}
use Rattle.flow_frames.specs.declared.faults.FlowFault.{FlowFault}
use Rattle.flow_frames.specs.declared.faults.FlowFault.TheVariants as fault
use Rattle.flow_frames.specs.Frames.{context}
use Rattle.flow_frames.specs.Held as held
use Rattle.flow_frames.specs.Stops.{IsStop}
use Rattle.js_values.specs.declared.property.Slot.{Slot}
use Rattle.js_values.specs.declared.value.Labelled.{Labelled}
use Rattle.js_values.specs.declared.property.Body.TheVariants.{Data}
use Rattle.js_values.specs.Objects.{Object, changed}
use Rattle.js_values.specs.Records.{Binding, Record, bound_in, lookup}
use Rattle.js_values.specs.Readings.{IsReading, read_binding, read_heap, read_object, read_records, read_slot, read_value}
use Rattle.env_records.specs.declared.faults.AssignFault.{AssignFault}
use Rattle.env_records.specs.declared.faults.AssignFault.TheVariants.{Immutable, Stop, OutOfMemory}
use Rattle.env_records.specs.Acts.{Assigned, Variables, assign, assigned, done, immutable, stopped}
use Rattle.env_records.specs.Answers.{Assigns, IsCause}
use Rattle.object_heap.specs.Acts as heap_acts
use Rattle.object_heap.specs.Answers.{Acts}
use Rattle.object_heap.specs.Formed.{own_in}
use Rattle.object_heap.proofs.ReadLaws.{read_own}
use Rattle.run_state.specs.declared.world.World.{World}
use Rattle.run_state.specs.Worlds.{Belongs}
use Rattle.property_access.proofs.HeldLaws.{own_has}
use Rattle.property_access.proofs.NameLaws.{name_has}
use Rattle.property_access.proofs.Reading.{read_bound_in, read_frames}
use Rattle.step_numbers.specs.Assigned.{changes, changes_at, changes_binding, changes_global, context_of, covers, written_in}
use Rattle.step_numbers.specs.Evaluated.{global_in}
use Rattle.step_numbers.proofs.GlobalLaws.{written_slot}

-- ---- in each reading that agrees with the store the same names can be given a value

module _ {S T : Type 0} (made : S → T → Type 0) (meaning_of : S → T → Label) (store : S) (reading : T → Label) (read : IsReading made meaning_of store reading) where
  binding_alike : (a b : Label) (o : Option (Binding (Labelled T))) → a ≡ b → ((v : Labelled T) → Some v ≡ option_map (λ x. x.value) o → made store v.label) → changes_binding reading a o ≡ changes_binding (meaning_of store) b o
  binding_alike a b None same has = refl
  binding_alike a b (Some x) same has = ap₂ (λ (c l : Label). x.mutable && within c l) same (read.agrees x.value.label (has x.value refl))

  slot_alike : (a b : Label) (o : Option (Slot T)) → a ≡ b → ((s : Slot T) → o ≡ Some s → made store s.label × made store s.existence) → covers reading a o ≡ covers (meaning_of store) b o
  slot_alike a b None same has = refl
  slot_alike a b (Some s) same has =
      ap₂ (λ (c l : Label). within (union c l) (union (reading s.label) l)) same (read.agrees s.existence (has s refl).1)
      ∙ ap (λ (l : Label). within (union b (meaning_of store s.existence)) (union l (meaning_of store s.existence))) (read.agrees s.label (has s refl).0)

  module _ (w : World T) (belongs : Belongs made meaning_of store w) where
    context_alike : context_of reading w ≡ context_of (meaning_of store) w
    context_alike = ap context (read_frames made meaning_of store reading w.frames.frames read belongs.frames)

    bound_alike : (a b : Label) (i : ℕ) (text : List ℕ) → a ≡ b → changes_binding reading a (bound_in text (slice_get w.records i)) ≡ changes_binding (meaning_of store) b (bound_in text (slice_get w.records i))
    bound_alike a b i text same = binding_alike a b (bound_in text (slice_get w.records i)) same (λ v is. name_has (made store) w.records i text v belongs.records is)

    global_alike : (a b : Label) (text : List ℕ) → a ≡ b → changes_global reading a text (global_in w.heap) ≡ changes_global (meaning_of store) b text (global_in w.heap)
    global_alike a b text same =
        ap (λ c. is_some (written_in text (global_in w.heap)) && c) (slot_alike a b (own_in text (global_in w.heap)) same (λ s is. own_has w.heap 1 (made store) text s belongs.heap is))

    place_alike : (p : Option ℕ) (text : List ℕ) → changes_at reading w p text ≡ changes_at (meaning_of store) w p text
    place_alike (Some i) text = bound_alike (context_of reading w) (context_of (meaning_of store) w) i text context_alike
    place_alike None text = global_alike (context_of reading w) (context_of (meaning_of store) w) text context_alike

    pub changes_alike : (at : ℕ) (text : List ℕ) → changes reading w at text ≡ changes (meaning_of store) w at text
    changes_alike at text = place_alike (lookup text w.records at) text

-- ---- an assignment in a record

abbrev is_done : Assigned → Bool
is_done (done records) = true
is_done immutable = false
is_done (stopped stop) = false

done_where : (m h : Bool) (records : Variables) (stop : FlowStop Label) → is_done (if m then (if h then done records else stopped stop) else immutable) ≡ (m && h)
done_where true true records stop = refl
done_where true false records stop = refl
done_where false h records stop = refl

module _ {T : Type 0} (reading : T → Label) (i : ℕ) (name : List ℕ) (need : Label) (v : Labelled Label) (records : Variables) where
  done_there : (o : Option (Binding (Labelled T))) → IsSome o → is_done (assigned (option_map (read_binding reading) o) i name need v records) ≡ changes_binding reading need o
  done_there None there = absurd (false≢true there)
  done_there (Some b) there = done_where b.mutable (within need (reading b.value.label)) _ _

done_as : {T : Type 0} (reading : T → Label) (i : ℕ) (name : List ℕ) (need : Label) (v : Labelled Label) (records : List (Record (Labelled T))) → IsSome (bound_in name (slice_get records i))
    → is_done (assign i name need v (read_records reading records)) ≡ changes_binding reading need (bound_in name (slice_get records i))
done_as reading i name need v records there =
    ap (λ o. is_done (assigned o i name need v (read_records reading records))) (read_bound_in reading name records i)
    ∙ done_there reading i name need v (read_records reading records) (bound_in name (slice_get records i)) there

module _ {S T : Type 0} (made : S → T → Type 0) (meaning_of : S → T → Label) (store : S) where
  answers_done : (act : (T → Label) → Variables → Assigned) (old new : List (Record (Labelled T))) (result : Result (Unit {0}) (AssignFault T)) → Assigns made meaning_of store act old new result → IfErr result IsCause
      → is_ok result ≡ is_done (act (meaning_of store) (read_records (meaning_of store) old))
  answers_done act old new (Ok x) answers cause = sym (ap is_done (answers.does (meaning_of store) (record { agrees = λ l m. refl })))
  answers_done act old new (Err Immutable) answers cause = sym (ap is_done (answers.refused (meaning_of store) (record { agrees = λ l m. refl })))
  answers_done act old new (Err (Stop stop)) answers cause = sym (ap is_done (answers.refused.2 (meaning_of store) (record { agrees = λ l m. refl })))
  answers_done act old new (Err OutOfMemory) answers cause = absurd cause

-- ---- a write over a property of the global object

written_where : (h : Bool) (o : ℕ) (heap : List (Object Label)) (p : Object Label) (stop : FlowStop Label) → is_ok (heap_acts.put_back heap o (if h then Ok p else Err stop)) ≡ h
written_where true o heap p stop = refl
written_where false o heap p stop = refl

module _ {T : Type 0} (reading : T → Label) (name : List ℕ) (need : Label) (v : Labelled Label) where
  abbrev writing : Object Label → Slot Label → heap_acts.Acted (Object Label)
  writing p s = heap_acts.under W1 need (heap_acts.value_have s) (Ok (heap_acts.with_rows p (changed name (heap_acts.with_body need (Data v.value) v.label) p.rows)))

  written_there : (heap : List (Object Label)) (p : Option (Object T)) (s : Slot T) → own_in name p ≡ Some s
      → is_ok (heap_acts.on_object (option_map (read_object reading) p) heap 1 (heap_acts.overwrite_own W1 name need (Data v.value) v.label)) ≡ within need (union (reading s.label) (reading s.existence))
  written_there heap None s has = absurd (none-some s has)
  written_there heap (Some p) s has =
      ap (λ o. is_ok (heap_acts.put_back heap 1 (heap_acts.on_slot o (read_object reading p) (writing (read_object reading p))))) (read_own reading name p.rows ∙ ap (option_map (read_slot reading)) has)
      ∙ written_where (within need (union (reading s.label) (reading s.existence))) 1 heap _ _

  written_as : (heap : List (Object T)) (s : Slot T) → own_in name (global_in heap) ≡ Some s → is_ok (heap_acts.write W1 1 name need v (read_heap reading heap)) ≡ within need (union (reading s.label) (reading s.existence))
  written_as heap s has =
      ap (λ p. is_ok (heap_acts.on_object p (read_heap reading heap) 1 (heap_acts.overwrite_own W1 name need (Data v.value) v.label))) (slice_get-map (read_object reading) heap 1)
      ∙ written_there (read_heap reading heap) (global_in heap) s has

module _ {S T : Type 0} (made : S → T → Type 0) (meaning_of : S → T → Label) (store : S) where
  answers_ok : {V W : Type 0} (read : (T → Label) → V → W) (act : (T → Label) → W → heap_acts.Acted W) (old new : V) (result : Result (Unit {0}) (FlowFault T)) → Acts made meaning_of store read act old new result → IfErr result IsStop
      → is_ok result ≡ is_ok (act (meaning_of store) (read (meaning_of store) old))
  answers_ok read act old new (Ok x) answers cause = sym (ap is_ok (answers.does (meaning_of store) (record { agrees = λ l m. refl })))
  answers_ok read act old new (Err (fault.Stop stop)) answers cause = sym (ap is_ok (answers.stops.2 (meaning_of store) (record { agrees = λ l m. refl })))
  answers_ok read act old new (Err fault.OutOfMemory) answers cause = absurd cause

-- ---- what the calls answer

module _ {S T : Type 0} (made : S → T → Type 0) (meaning_of : S → T → Label) (room : S → ℕ) (firm : S → Bool) (earlier store : S) (kept : IsKept made meaning_of room firm earlier store) (w : World T) (belongs : Belongs made meaning_of earlier w) where
  reads_later : IsReading made meaning_of earlier (meaning_of store)
  reads_later = record { agrees = λ l m. (kept.labels l m).1 }

  -- the same names can be given a value in a later store
  pub changes_later : (at : ℕ) (text : List ℕ) → changes (meaning_of store) w at text ≡ changes (meaning_of earlier) w at text
  changes_later at text = changes_alike made meaning_of earlier (meaning_of store) reads_later w belongs at text

  pub bound_exact : (label : T) → made earlier label → meaning_of earlier label ≡ context (held.seen meaning_of earlier w.frames.frames) → (i : ℕ) (name : List ℕ) (v : Labelled T) → IsSome (bound_in name (slice_get w.records i))
      → (records : List (Record (Labelled T))) (result : Result (Unit {0}) (AssignFault T)) → Assigns made meaning_of store (λ reading. assign i name (reading label) (read_value reading v)) w.records records result → IfErr result IsCause
      → is_ok result ≡ changes_binding (meaning_of earlier) (context_of (meaning_of earlier) w) (bound_in name (slice_get w.records i))
  bound_exact label has is i name v there records result answers cause =
      answers_done made meaning_of store (λ reading. assign i name (reading label) (read_value reading v)) w.records records result answers cause
      ∙ done_as (meaning_of store) i name (meaning_of store label) (read_value (meaning_of store) v) w.records there
      ∙ bound_alike made meaning_of earlier (meaning_of store) reads_later w belongs (meaning_of store label) (context_of (meaning_of earlier) w) i name ((kept.labels label has).1 ∙ is)

module _ {S T : Type 0} (made : S → T → Type 0) (meaning_of : S → T → Label) (room : S → ℕ) (firm : S → Bool) (earlier joined store : S) (before : IsKept made meaning_of room firm earlier joined) (behind : IsKept made meaning_of room firm joined store) (w : World T) (belongs : Belongs made meaning_of earlier w) where
  global_slot : (name : List ℕ) (v : Labelled T) (s : Slot T) (walk label need : T) → own_in name (global_in w.heap) ≡ Some s → s.existence ≡ walk → Some walk ≡ written_in name (global_in w.heap)
      → made earlier label → meaning_of earlier label ≡ context (held.seen meaning_of earlier w.frames.frames) → made joined need → meaning_of joined need ≡ union (meaning_of earlier label) (meaning_of earlier walk)
      → is_ok (heap_acts.write W1 1 name (meaning_of store need) (read_value (meaning_of store) v) (read_heap (meaning_of store) w.heap)) ≡ changes_global (meaning_of earlier) (context_of (meaning_of earlier) w) name (global_in w.heap)
  global_slot name v s walk label need here there e m is m_need means =
      let m_slot = own_has w.heap 1 (made earlier) name s belongs.heap here in
      let same : (l : T) → made earlier l → meaning_of store l ≡ meaning_of earlier l = λ l has. (behind.labels l (before.labels l has).0).1 ∙ (before.labels l has).1 in
      let need_is : meaning_of store need ≡ union (context_of (meaning_of earlier) w) (meaning_of earlier s.existence) = (behind.labels need m_need).1 ∙ means ∙ ap₂ union is (ap (meaning_of earlier) (sym there)) in
      written_as (meaning_of store) name (meaning_of store need) (read_value (meaning_of store) v) w.heap s here
      ∙ ap₂ within need_is (ap₂ union (same s.label m_slot.0) (same s.existence m_slot.1))
      ∙ ap₂ (λ o p. is_some o && covers (meaning_of earlier) (context_of (meaning_of earlier) w) p) e (sym here)

  pub global_exact : (name : List ℕ) (v : Labelled T) (walk label need : T) → Some walk ≡ written_in name (global_in w.heap)
      → made earlier label → meaning_of earlier label ≡ context (held.seen meaning_of earlier w.frames.frames) → made joined need → meaning_of joined need ≡ union (meaning_of earlier label) (meaning_of earlier walk)
      → (heap : List (Object T)) (result : Result (Unit {0}) (FlowFault T)) → Acts made meaning_of store read_heap (λ reading. heap_acts.write W1 1 name (reading need) (read_value reading v)) w.heap heap result → IfErr result IsStop
      → is_ok result ≡ changes_global (meaning_of earlier) (context_of (meaning_of earlier) w) name (global_in w.heap)
  global_exact name v walk label need e m is m_need means heap result answers cause =
      let there = written_slot name (global_in w.heap) walk e in
      answers_ok made meaning_of store read_heap (λ reading. heap_acts.write W1 1 name (reading need) (read_value reading v)) w.heap heap result answers cause
      ∙ global_slot name v there.slot walk label need there.here there.existence e m is m_need means
