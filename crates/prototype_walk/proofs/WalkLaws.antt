-- Walks to a property, object by object, in a reading of the labels.
use Rattle.std.proofs.Common.{◌≡◌, ℕ, zero, suc, ◌<◌, Bool, List, ◌∷◌, Option, Some, None, Result, Ok, Err, IfOk, refl, sym, ap, ap₂, subst, ◌∙◌}
use Rattle.std.specs.List.{slice_get}
use Rattle.std.specs.Option.{option_map}
use Rattle.std.proofs.lemmas.Option.{none-some, same_Some, slice_get-map}
use Rattle.origin_labels.specs.Label.{Label, IsLabel, bottom, union}
use Rattle.origin_labels.specs.Stores.{IsKept}
use Rattle.origin_labels.proofs.LabelLaws.{IsLabel-bottom, IsLabel-union, union-assoc, union-bottom, union-bottom_left}
use Rattle.js_values.specs.declared.ids.ObjId.{ObjId}
use Rattle.js_values.specs.declared.property.Slot.{Slot}
use Rattle.js_values.specs.Chains.{beginning, onwards, chain_within, LeadBack}
use Rattle.js_values.specs.Objects.{Object, number_of, own}
use Rattle.js_values.specs.Readings.{IsReading, HasSlot, HasHeap, read_slot, read_object, read_heap}
use Rattle.js_values.specs.Walks.{Found, found_at, find, object_chain}
use Rattle.js_values.proofs.ChainLaws.{chain_step}
use Rattle.js_values.proofs.ReadingLaws.{IsReading-earlier}
use Rattle.object_heap.specs.declared.shape.Shape.{Shape}
use Rattle.object_heap.specs.Formed.{IsFormed, own_in, IsShape}
use Rattle.object_heap.proofs.ReadLaws.{read_own}
use Rattle.prototype_walk.specs.Answers.{Means, IsPlace}
use Rattle.prototype_walk.proofs.HeldLaws.{own_there, HasShape, shape_there, object_has, slot_has}

-- ---- labels that are joined

module _ {S T : Type 0} (made : S → T → Type 0) (meaning : S → T → Label) (room : S → ℕ) (firm : S → Bool) where
  -- a label that was joined of two
  pub means_union : (old new : S) (a b label : T) → IsKept made meaning room firm old new → made old a → made old b → made new label → meaning new label ≡ union (meaning old a) (meaning old b) → Means made meaning new label (λ reading. union (reading a) (reading b))
  means_union old new a b label kept ma mb m is = record {
    belongs = m;
    is = λ reading read. let earlier = IsReading-earlier made meaning room firm old new reading kept read in read.agrees label m ∙ is ∙ ap₂ union (sym (earlier.agrees a ma)) (sym (earlier.agrees b mb));
  }

  -- and then of a third
  pub means_passed : {E : Type 0} (old mid new : S) (walk structure passed link : T) → IsKept made meaning room firm mid new → IsKept made meaning room firm old mid → Means made meaning mid passed (λ reading. union (reading walk) (reading structure)) → made old link
      → (r : Result T E) → IfOk r (made new) → IfOk r (λ label. meaning new label ≡ union (meaning mid passed) (meaning mid link)) → IfOk r (λ label. Means made meaning new label (λ reading. union (union (reading walk) (reading structure)) (reading link)))
  means_passed old mid new walk structure passed link later kept means ml (Err e) m is = tt
  means_passed old mid new walk structure passed link later kept means ml (Ok label) m is =
      let both = means_union mid new passed link label later means.belongs (kept.labels link ml).0 m is in
      record { belongs = m; is = λ reading read. both.is reading read ∙ ap (λ l. union l (reading link)) (means.is reading (IsReading-earlier made meaning room firm mid new reading later read)) }

-- ---- one object of a chain

module _ {T : Type 0} (reading : T → Label) (heap : List (Object T)) (formed : IsFormed heap) where
  leads_back : LeadBack (λ p. number_of p.proto) (read_heap reading heap)
  leads_back i j q here leads = one (slice_get heap i) refl (sym (slice_get-map (read_object reading) heap i) ∙ here)
    where
      one : (o : Option (Object T)) → slice_get heap i ≡ o → option_map (read_object reading) o ≡ Some q → j < i
      one None there is = absurd (none-some q is)
      one (Some p) there is = formed.protos i j p there (ap (λ (x : Object Label). number_of x.proto) (same_Some (read_object reading p) q is) ∙ leads)

  pub chain_at : (i : ℕ) (p : Object T) → slice_get heap i ≡ Some p → object_chain (read_heap reading heap) i ≡ (i, read_object reading p) ∷ onwards (number_of p.proto) (object_chain (read_heap reading heap))
  chain_at i p here = chain_step (λ (x : Object Label). number_of x.proto) (read_heap reading heap) leads_back i (read_object reading p) (slice_get-map (read_object reading) heap i ∙ ap (option_map (read_object reading)) here)

  -- the walk goes on behind an object
  module _ (key : List ℕ) (i : ℕ) (p : Object T) (here : slice_get heap i ≡ Some p) where
    find_step : find key (object_chain (read_heap reading heap) i) ≡ found_at i (read_object reading p) (option_map (read_slot reading) (own key p.rows)) (find key (onwards (number_of p.proto) (object_chain (read_heap reading heap))))
    find_step = ap (find key) (chain_at i p here) ∙ ap (λ s. found_at i (read_object reading p) s (find key (onwards (number_of p.proto) (object_chain (read_heap reading heap))))) (read_own reading key p.rows)

    pub find_here : (s : Slot T) → own key p.rows ≡ Some s → find key (object_chain (read_heap reading heap) i) ≡ record { at = Some (i, read_slot reading s); walk = reading s.existence }
    find_here s has = find_step ∙ ap (λ o. found_at i (read_object reading p) (option_map (read_slot reading) o) (find key (onwards (number_of p.proto) (object_chain (read_heap reading heap))))) has

    pub find_behind : (next : Option ObjId) → own key p.rows ≡ None → p.proto ≡ next → find key (object_chain (read_heap reading heap) i) ≡ found_at i (read_object reading p) None (find key (onwards (number_of next) (object_chain (read_heap reading heap))))
    find_behind next none leads =
        find_step ∙ ap (λ o. found_at i (read_object reading p) (option_map (read_slot reading) o) (find key (onwards (number_of p.proto) (object_chain (read_heap reading heap))))) none
        ∙ ap (λ o. found_at i (read_object reading p) None (find key (onwards (number_of o) (object_chain (read_heap reading heap))))) leads

-- ---- walks are labelled with labels

module _ {T : Type 0} (made : T → Type 0) (reading : T → Label) (read : (label : T) → made label → IsLabel (reading label)) (heap : List (Object T)) (has : HasHeap made heap) (key : List ℕ) where
  label_onwards : (next : ℕ → List (ℕ × Object Label)) → ((j : ℕ) → IsLabel (find key (next j)).walk) → (o : Option ℕ) → IsLabel (find key (onwards o next)).walk
  label_onwards next labels None = IsLabel-bottom
  label_onwards next labels (Some j) = labels j

  label_found : (i : ℕ) (p : Object T) (rest : Found) → slice_get heap i ≡ Some p → IsLabel rest.walk → (o : Option (Slot T)) → own key p.rows ≡ o → IsLabel (found_at i (read_object reading p) (option_map (read_slot reading) o) rest).walk
  label_found i p rest here labels None is = IsLabel-union (reading p.structure) (union (reading p.link) rest.walk) (IsLabel-union (reading p.link) rest.walk labels)
  label_found i p rest here labels (Some s) is = read s.existence (slot_has made key p.rows s (object_has made heap i p has here).rows is).1

  label_at : (i : ℕ) (next : ℕ → List (ℕ × Object Label)) → ((j : ℕ) → IsLabel (find key (next j)).walk) → (o : Option (Object T)) → slice_get heap i ≡ o → IsLabel (find key (beginning i (option_map (read_object reading) o) (λ a. onwards (number_of a.proto) next))).walk
  label_at i next labels None here = IsLabel-bottom
  label_at i next labels (Some p) here =
      let rest = label_onwards next labels (number_of p.proto) in
      subst (λ s. IsLabel (found_at i (read_object reading p) s (find key (onwards (number_of p.proto) next))).walk) (sym (read_own reading key p.rows))
      (label_found i p (find key (onwards (number_of p.proto) next)) here rest (own key p.rows) refl)

  label_within : (n i : ℕ) → IsLabel (find key (chain_within (λ p. number_of p.proto) (read_heap reading heap) n i)).walk
  label_within zero i = IsLabel-bottom
  label_within (suc n) i =
      subst (λ o. IsLabel (find key (beginning i o (λ a. onwards (number_of a.proto) (chain_within (λ p. number_of p.proto) (read_heap reading heap) n)))).walk) (sym (slice_get-map (read_object reading) heap i))
      (label_at i (chain_within (λ p. number_of p.proto) (read_heap reading heap) n) (label_within n) (slice_get heap i) refl)

  pub IsLabel-walk : (i : ℕ) → IsLabel (find key (object_chain (read_heap reading heap) i)).walk
  IsLabel-walk i = label_within (suc i) i

  pub IsLabel-onwards : (o : Option ℕ) → IsLabel (find key (onwards o (object_chain (read_heap reading heap)))).walk
  IsLabel-onwards o = label_onwards (object_chain (read_heap reading heap)) IsLabel-walk o

-- ---- a walk that has come to an object

-- what is found there, at the end of a walk with this label
abbrev pub joined : Label → Found → Found
joined walk rest = record { at = rest.at; walk = union walk rest.walk }

-- the walk from the first object is that from here, with the label so far
abbrev pub Comes : {S T : Type 0} → (S → T → Type 0) → (S → T → Label) → S → List (Object T) → List ℕ → ℕ → ℕ → T → Type 0
Comes made meaning store heap key o at walk = (reading : _) → IsReading made meaning store reading → find key (object_chain (read_heap reading heap) o) ≡ joined (reading walk) (find key (object_chain (read_heap reading heap) at))

module _ {S T : Type 0} (made : S → T → Type 0) (meaning : S → T → Label) (room : S → ℕ) (firm : S → Bool) (heap : List (Object T)) (formed : IsFormed heap) (key : List ℕ) (o : ℕ) where
  pub comes_first : (store : S) (walk : T) → made store walk → meaning store walk ≡ bottom → Comes made meaning store heap key o o walk
  comes_first store walk m is reading read =
      let f = find key (object_chain (read_heap reading heap) o) in
      sym (ap (λ w. joined w f) (read.agrees walk m ∙ is) ∙ ap (λ w. record { at = f.at; walk = w }) (union-bottom_left f.walk))

  module _ (old new : S) (kept : IsKept made meaning room firm old new) (i : ℕ) (walk label : T) (comes : Comes made meaning old heap key o i walk) where
    earlier : (reading : T → Label) → IsReading made meaning new reading → IsReading made meaning old reading
    earlier reading read = IsReading-earlier made meaning room firm old new reading kept read

    pub place_here : (at : ObjId) (s : Slot T) → at.0 ≡ i → own_in key (slice_get heap i) ≡ Some s → Means made meaning new label (λ reading. union (reading walk) (reading s.existence)) → HasSlot (made new) s → IsPlace made meaning new heap o key (Some (at, s)) label
    place_here at s this is means has =
        let there = own_there heap i key s is in
        record {
          belongs = means.belongs;
          slot = has;
          is = λ reading read.
              ap (λ n. record { at = Some (n, read_slot reading s); walk = reading label }) this
              ∙ ap (λ w. record { at = Some (i, read_slot reading s); walk = w }) (means.is reading read)
              ∙ sym (comes reading (earlier reading read) ∙ ap (joined (reading walk)) (find_here reading heap formed key i there.object there.here s there.has));
        }

    module _ (shape : Shape T) (there : IsShape (slice_get heap i) shape) (none : own_in key (slice_get heap i) ≡ None) (means : Means made meaning new label (λ reading. union (union (reading walk) (reading shape.structure)) (reading shape.link))) where
      passed : HasShape heap i shape
      passed = shape_there heap i shape there

      own_none : own key passed.object.rows ≡ None
      own_none = sym (ap (own_in key) passed.here) ∙ none

      -- the label so far, with what passing the object adds, before a walk
      regroup : (reading : T → Label) → IsReading made meaning new reading → (rest : Label) → IsLabel rest → union (reading label) rest ≡ union (reading walk) (union (reading passed.object.structure) (union (reading passed.object.link) rest))
      regroup reading read rest labels =
          ap (λ w. union w rest) (means.is reading read ∙ ap (λ (q : Shape T). union (union (reading walk) (reading q.structure)) (reading q.link)) passed.is)
          ∙ union-assoc (union (reading walk) (reading passed.object.structure)) (reading passed.object.link) rest labels
          ∙ union-assoc (reading walk) (reading passed.object.structure) (union (reading passed.object.link) rest) (IsLabel-union (reading passed.object.link) rest labels)

      behind : (next : Option ObjId) → shape.proto ≡ next → (reading : T → Label) → IsReading made meaning new reading → IsLabel (find key (onwards (number_of next) (object_chain (read_heap reading heap)))).walk
          → find key (object_chain (read_heap reading heap) o) ≡ joined (reading label) (find key (onwards (number_of next) (object_chain (read_heap reading heap))))
      behind next leads reading read labels =
          let rest = find key (onwards (number_of next) (object_chain (read_heap reading heap))) in
          comes reading (earlier reading read)
          ∙ ap (joined (reading walk)) (find_behind reading heap formed key i passed.object passed.here next own_none (sym (ap (λ (q : Shape T). q.proto) passed.is) ∙ leads))
          ∙ ap (λ w. record { at = rest.at; walk = w }) (sym (regroup reading read rest.walk labels))

      pub place_none : ((reading : T → Label) → IsReading made meaning new reading → IsLabel (reading label)) → shape.proto ≡ None → IsPlace made meaning new heap o key None label
      place_none labels ends = record {
        belongs = means.belongs;
        slot = tt;
        is = λ reading read. sym (behind None ends reading read IsLabel-bottom ∙ ap (λ w. record { at = None; walk = w }) (union-bottom (reading label) (labels reading read)));
      }

      pub comes_on : (proto : ObjId) → ((reading : T → Label) → IsReading made meaning new reading → IsLabel (find key (object_chain (read_heap reading heap) proto.0)).walk) → shape.proto ≡ Some proto → Comes made meaning new heap key o proto.0 label
      comes_on proto labels leads reading read = behind (Some proto) leads reading read (labels reading read)
