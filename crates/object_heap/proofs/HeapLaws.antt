-- Acts on an object, as acts on the heap in which it stands.
use Rattle.std.proofs.Common.{◌≡◌, ℕ, zero, suc, ◌<◌, ◌⊎◌, inl, inr, List, [], ◌∷◌, ◌++◌, length, get_or, set, Option, Some, None, is_some, IsSome, IfSome, Result, Ok, Err, refl, sym, ap, subst, ◌∙◌, arith}
use Rattle.std.specs.List.{slice_get}
use Rattle.std.specs.Option.{option_map}
use Rattle.std.specs.Result.{IsErrAnd, OnOk}
use Rattle.std.proofs.lemmas.Bool.{false≢true}
use Rattle.std.proofs.lemmas.List.{map-set}
use Rattle.std.proofs.lemmas.List.Elements.{All-set}
use Rattle.std.proofs.lemmas.Option.{none-some, same_Some, slice_get-map, slice_get-get_or, slice_get_within}
use Rattle.origin_labels.specs.Label.{Label}
use Rattle.origin_labels.specs.Stores.{IsKept}
use Rattle.flow_frames.specs.declared.faults.FlowStop.{FlowStop}
use Rattle.flow_frames.specs.declared.faults.FlowFault.{FlowFault}
use Rattle.flow_frames.specs.declared.faults.FlowFault.TheVariants as fault
use Rattle.flow_frames.specs.Stops.{IfStop}
use Rattle.js_values.specs.declared.ids.ObjId.{ObjId}
use Rattle.js_values.specs.Chains.{LeadBack}
use Rattle.js_values.specs.Objects.{Object, own, number_of}
use Rattle.js_values.specs.Readings.{IsReading, HasObject, HasHeap, read_object, read_heap}
use Rattle.js_values.proofs.ReadingLaws.{HasHeap-kept}
use Rattle.object_heap.specs.Acts.{Act, act_on, on_object, put_back}
use Rattle.object_heap.specs.Answers.{Acts, read_stop}
use Rattle.object_heap.specs.Formed.{IsFormed, LeadsAs, target_of, own_in, rows_in}
use Rattle.object_heap.specs.Places.{StandsAt}

-- ---- an act on the object with a number

module _ {T : Type 0} (reading : T → Label) (heap : List (Object T)) (i : ℕ) (x : Object T) (here : slice_get heap i ≡ Some x) (act : Act) where
  at_object : act_on i act (read_heap reading heap) ≡ put_back (read_heap reading heap) i (act (read_object reading x))
  at_object = ap (λ o. on_object o (read_heap reading heap) i act) (slice_get-map (read_object reading) heap i ∙ ap (option_map (read_object reading)) here)

  act_done : (y : Object T) → act (read_object reading x) ≡ Ok (read_object reading y) → act_on i act (read_heap reading heap) ≡ Ok (read_heap reading (set heap i y))
  act_done y done = at_object ∙ ap (put_back (read_heap reading heap) i) done ∙ ap Ok (sym (map-set (read_object reading) heap i y))

  act_stopped : (stop : FlowStop Label) → act (read_object reading x) ≡ Err stop → act_on i act (read_heap reading heap) ≡ Err stop
  act_stopped stop stopped = at_object ∙ ap (put_back (read_heap reading heap) i) stopped

-- an element that is put back
pub set_same : {X : Type 0} (xs : List X) (i : ℕ) (x : X) → slice_get xs i ≡ Some x → set xs i x ≡ xs
set_same [] i x e = absurd (none-some x e)
set_same (y ∷ xs) zero x e = ap (λ z. z ∷ xs) (sym (same_Some y x e))
set_same (y ∷ xs) (suc i) x e = ap (λ zs. y ∷ zs) (set_same xs i x e)

-- the object that the code lends
pub lent : {T : Type 0} (items heap : List (Object T)) (i : ℕ) (x : Object T) → items ≡ heap → i < length heap → x ≡ get_or items i x → slice_get heap i ≡ Some x
lent items heap i x same lt read = slice_get-get_or heap i x lt ∙ ap Some (sym (read ∙ ap (λ h. get_or h i x) same))

module _ {S T : Type 0} (made : S → T → Type 0) (meaning : S → T → Label) (store : S) (act : (T → Label) → Act) (items heap : List (Object T)) (same : items ≡ heap) (i : ℕ) (x : Object T) (here : slice_get heap i ≡ Some x) where
  pub heap_does : (y : Object T) (r : Result (Unit {0}) (FlowFault T)) → r ≡ Ok tt → Acts made meaning store read_object act x y r → Acts made meaning store read_heap (λ reading. act_on i (act reading)) heap (set items i y) (Ok tt)
  heap_does y r ok acts =
      let done = subst (λ q. OnOk q ((reading : T → Label) → IsReading made meaning store reading → act reading (read_object reading x) ≡ Ok (read_object reading y))) ok acts.does in
      subst (λ (h : List (Object T)). Acts made meaning store read_heap (λ reading. act_on i (act reading)) heap h (Ok tt)) (ap (λ (h : List (Object T)). set h i y) (sym same))
      (record { does = λ reading read. act_done reading heap i x here (act reading) y (done reading read); stops = tt; unchanged = tt })

  pub heap_refuses : (y : Object T) (r result : Result (Unit {0}) (FlowFault T)) (e : FlowFault T) → r ≡ Err e → IsErrAnd result (λ f. f ≡ e) → Acts made meaning store read_object act x y r → Acts made meaning store read_heap (λ reading. act_on i (act reading)) heap (set items i y) result
  heap_refuses y r (Ok u) e err is acts = absurd is
  heap_refuses y r (Err f) e err is acts =
      let told = subst (λ q. Acts made meaning store read_object act x y q) (err ∙ ap Err (sym is)) acts in
      record {
        does = tt;
        stops = lifted f told.stops;
        unchanged = ap (λ (h : List (Object T)). set h i y) same ∙ ap (set heap i) told.unchanged ∙ set_same heap i x here;
      }
    where
      lifted : (f : FlowFault T) → IfStop (λ stop. made store stop.need × made store stop.have × ((reading : T → Label) → IsReading made meaning store reading → act reading (read_object reading x) ≡ Err (read_stop reading stop))) f → IfStop (λ stop. made store stop.need × made store stop.have × ((reading : T → Label) → IsReading made meaning store reading → act_on i (act reading) (read_heap reading heap) ≡ Err (read_stop reading stop))) f
      lifted (fault.Stop stop) told = (told.0, told.1, λ reading read. act_stopped reading heap i x here (act reading) (read_stop reading stop) (told.2 reading read))
      lifted fault.OutOfMemory told = tt

-- ---- what stays

set_cases : {X : Type 0} (xs : List X) (i : ℕ) (x : X) (k : ℕ) (y : X) → slice_get (set xs i x) k ≡ Some y → (slice_get xs k ≡ Some y) ⊎ ((k ≡ i) × (x ≡ y))
set_cases [] i x k y e = inl e
set_cases (z ∷ xs) zero x zero y e = inr (refl, same_Some x y e)
set_cases (z ∷ xs) zero x (suc k) y e = inl e
set_cases (z ∷ xs) (suc i) x zero y e = inl e
set_cases (z ∷ xs) (suc i) x (suc k) y e = elim (set_cases xs i x k y e) as (λ _. (slice_get xs k ≡ Some y) ⊎ ((suc k ≡ suc i) × (x ≡ y))) [
  | inl there ↦ inl there
  | inr here ↦ inr (ap suc here.0, here.1)
]

LeadBack-set : {A : Type 0} (next : A → Option ℕ) (xs : List A) (i : ℕ) (a b : A) → slice_get xs i ≡ Some a → next b ≡ next a → LeadBack next xs → LeadBack next (set xs i b)
LeadBack-set next xs i a b here same back k j x there leads = elim (set_cases xs i b k x there) as (λ _. j < k) [
  | inl other ↦ back k j x other leads
  | inr this ↦ let lt = back i j a here (sym same ∙ ap next this.1 ∙ leads) in omega (arith, lt, this.0)
]

snoc_cases : {X : Type 0} (xs : List X) (x : X) (i : ℕ) (y : X) → slice_get (xs ++ x ∷ []) i ≡ Some y → (slice_get xs i ≡ Some y) ⊎ ((i ≡ length xs) × (x ≡ y))
snoc_cases [] x zero y e = inr (refl, same_Some x y e)
snoc_cases [] x (suc i) y e = absurd (none-some y e)
snoc_cases (z ∷ xs) x zero y e = inl e
snoc_cases (z ∷ xs) x (suc i) y e = elim (snoc_cases xs x i y e) as (λ _. (slice_get xs i ≡ Some y) ⊎ ((suc i ≡ suc (length xs)) × (x ≡ y))) [
  | inl there ↦ inl there
  | inr last ↦ inr (ap suc last.0, last.1)
]

LeadBack-push : {A : Type 0} (next : A → Option ℕ) (xs : List A) (a : A) → LeadBack next xs → IfSome (next a) (λ j. j < length xs) → LeadBack next (xs ++ a ∷ [])
LeadBack-push next xs a back new i j x here leads = elim (snoc_cases xs a i x here) as (λ _. j < i) [
  | inl there ↦ back i j x there leads
  | inr last ↦ let lt = subst (λ o. IfSome o (λ n. n < length xs)) (ap next last.1 ∙ leads) new in omega (arith, lt, last.0)
]

module _ {T : Type 0} (items : List (Object T)) where
  pub IsFormed-set : (i : ℕ) (x y : Object T) → slice_get items i ≡ Some x → LeadsAs x y → IsFormed items → IsFormed (set items i y)
  IsFormed-set i x y here as_before formed = record {
    protos = LeadBack-set (λ p. number_of p.proto) items i x y here (ap number_of as_before.proto) formed.protos;
    targets = LeadBack-set (λ p. target_of p.inner) items i x y here (ap target_of as_before.inner) formed.targets;
  }

  number_below : (proto : Option ObjId) → IfSome proto (λ o. o.0 < length items) → IfSome (number_of proto) (λ j. j < length items)
  number_below None below = tt
  number_below (Some o) below = below

  pub IsFormed-push : (p : Object T) → IfSome p.proto (λ o. o.0 < length items) → IfSome (target_of p.inner) (λ o. o < length items) → IsFormed items → IsFormed (items ++ p ∷ [])
  IsFormed-push p proto target formed = record {
    protos = LeadBack-push (λ q. number_of q.proto) items p formed.protos (number_below p.proto proto);
    targets = LeadBack-push (λ q. target_of q.inner) items p formed.targets target;
  }

  -- an object that has the key is one of the heap
  pub present_within : (key : List ℕ) (i : ℕ) → IsSome (own_in key (slice_get items i)) → i < length items
  present_within key i present = within (slice_get items i) refl present
    where
      within : (o : Option (Object T)) → slice_get items i ≡ o → IsSome (own_in key o) → i < length items
      within None here present = absurd (false≢true present)
      within (Some p) here present = slice_get_within items i p here

  pub present_there : (key : List ℕ) (i : ℕ) (x : Object T) → slice_get items i ≡ Some x → IsSome (own_in key (slice_get items i)) → IsSome (own key x.rows)
  present_there key i x here present = sym (ap (λ o. is_some (own_in key o)) here) ∙ present

  -- and so is one that has a property at a place
  pub place_within : (i place : ℕ) → place < length (rows_in (slice_get items i)) → i < length items
  place_within i place there = within (slice_get items i) refl there
    where
      within : (o : Option (Object T)) → slice_get items i ≡ o → place < length (rows_in o) → i < length items
      within None here there = absurd (omega (arith, there))
      within (Some p) here there = slice_get_within items i p here

  pub stands_there : (key : List ℕ) (i place : ℕ) (x : Object T) → slice_get items i ≡ Some x → StandsAt key (rows_in (slice_get items i)) place → StandsAt key x.rows place
  stands_there key i place x here stands = subst (λ o. StandsAt key (rows_in o) place) here stands

  pub HasObject-of : (made : T → Type 0) (i : ℕ) (x : Object T) → slice_get items i ≡ Some x → HasHeap made items → HasObject made x
  HasObject-of made i x here has = subst (HasObject made) (same_Some _ x (sym (slice_get-get_or items i x (slice_get_within items i x here)) ∙ here)) (has i x (slice_get_within items i x here))

-- the heap belongs to the later store, with the object that was changed
pub HasHeap-set : {S T : Type 0} (made : S → T → Type 0) (meaning : S → T → Label) (room : S → ℕ) (firm : S → _) (old new : S) (items heap : List (Object T)) (i : ℕ) (y : Object T) → items ≡ heap → IsKept made meaning room firm old new → HasHeap (made old) heap → HasObject (made new) y → HasHeap (made new) (set items i y)
HasHeap-set made meaning room firm old new items heap i y same kept has this =
    subst (λ (h : List (Object _)). HasHeap (made new) (set h i y)) (sym same) (All-set (HasObject (made new)) heap i y this (HasHeap-kept made meaning room firm old new kept heap has))

-- no objects
pub IsFormed-none : {T : Type 0} → IsFormed {T = T} []
IsFormed-none = record { protos = λ i j a here leads. absurd (none-some a here); targets = λ i j a here leads. absurd (none-some a here) }

-- the last of a list
pub there_last : {X : Type 0} (xs : List X) (x : X) → slice_get (xs ++ x ∷ []) (length xs) ≡ Some x
there_last [] x = refl
there_last (y ∷ xs) x = there_last xs x
