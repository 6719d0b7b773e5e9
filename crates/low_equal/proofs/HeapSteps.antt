-- Acts on the heap as steps of a run: of one run, under a need that is hidden, and of two.
use Rattle.std.proofs.Common.{◌≡◌, List, length, Ok, Err, refl, arith}
use Rattle.origin_labels.specs.Label.{Label}
use Rattle.flow_policy.specs.Policies.{Tables}
use Rattle.js_values.specs.Objects.{Object}
use Rattle.object_heap.specs.Acts.{Acted}
use Rattle.es_meaning.specs.Outcomes.{and_then}
use Rattle.flow_meaning.specs.Scopes.{State, L}
use Rattle.flow_meaning.specs.Tracked.{acted}
use Rattle.low_equal.specs.Observed.{IsSeen, Front}
use Rattle.low_equal.specs.LowEqual.{Pairing, LowEqual}
use Rattle.low_equal.specs.Runs.{state_of, Same, Still, Fits, InStep, go}
use Rattle.low_equal.proofs.Agreement.{extends_refl}
use Rattle.low_equal.proofs.Lines.{front_refl, lines_refl, positions_refl}
use Rattle.low_equal.proofs.States.{low_heap}
use Rattle.low_equal.proofs.Steps.{still_goes, still_ends, still_after, ends_first, ends_second}
use Rattle.low_equal.proofs.HeapActs.{SameHeap, StillHeap, goes, ActsAfter, level, first_stops, second_stops}
use Rattle.low_equal.proofs.Mute.{Mute, mutes, mute_end, mute_behind}

module _ (observer : Label) (tables : Tables) where
  pub same_heaps : {s : State} {heap : List (Object Label)} → SameHeap observer s.heap heap → Same observer tables s (record s { heap = heap })
  same_heaps h = record { looks = λ β u r. low_heap observer tables r (h.looks β u.heap r.heap) r.records; frames = refl }

  pub still_acted : {X : Type 0} (x : X) (a : Acted (List (Object Label))) (s : State) → StillHeap observer s.heap a → Still observer tables s (acted x a s)
  unfolding acted
  still_acted x (Ok heap) s (goes h) = still_goes observer tables (record s { heap = heap }) (same_heaps h) refl refl
  still_acted x (Err stop) s h = still_ends observer tables

  pub fits_acted : {X : Type 0} (x : X) (a : Acted (List (Object Label))) (s : State) → Fits (length s.frames) (acted x a s)
  unfolding acted
  fits_acted x (Ok heap) s = omega arith
  fits_acted x (Err stop) s = tt

  pub adds_acted : {X : Type 0} (x : X) (a : Acted (List (Object Label))) (s : State) → Front s.lines (state_of (acted x a s)).lines
  unfolding acted
  adds_acted x (Ok heap) s = front_refl s.lines
  adds_acted x (Err stop) s = front_refl s.lines

  -- under a hidden need
  pub mute_acted : {X : Type 0} (P : X → Type 0) (x : X) (a : Acted (List (Object Label))) (s : State) → P x → StillHeap observer s.heap a → Mute observer tables P s (acted x a s)
  unfolding acted
  mute_acted P x (Ok heap) s p (goes h) = mutes (same_heaps h) (lines_refl observer tables s.lines) p
  mute_acted P x (Err stop) s p h = mute_end observer tables P s

  -- in two runs
  pub acted_after : {X : Type 0} (P : Pairing → X → X → Type 0) {γ : Pairing} {x y : X} {a b : Acted (List (Object Label))} (s t : State) → ActsAfter observer γ a b → P γ x y → LowEqual observer tables γ s t → IsSeen observer s
      → InStep observer tables P γ (acted x a s) (acted y b t)
  unfolding acted
  acted_after P {γ} s t (level h) p r w = go γ (extends_refl γ) (low_heap observer tables r h r.records) w p
  acted_after P {y = y} {b = b} s t first_stops p r w = ends_first observer tables P r (adds_acted y b t)
  acted_after P {x = x} {a = a} s t second_stops p r w = ends_second observer tables P r (adds_acted x a s)

  -- ---- an act, and what follows it where it goes on

  pub still_in_turn : {X Y : Type 0} (x : X) (a : Acted (List (Object Label))) (f : X → L Y) (s : State) → StillHeap observer s.heap a
      → ((heap : List (Object Label)) → a ≡ Ok heap → Still observer tables (record s { heap = heap }) (f x (record s { heap = heap }))) → Still observer tables s (and_then (acted x a s) f)
  unfolding acted
  still_in_turn x (Ok heap) f s (goes h) k = still_after observer tables (f x (record s { heap = heap })) (same_heaps h) (lines_refl observer tables s.lines) (positions_refl observer tables s.positions) (k heap refl)
  still_in_turn x (Err stop) f s h k = still_ends observer tables

  pub fits_in_turn : {X Y : Type 0} (x : X) (a : Acted (List (Object Label))) (f : X → L Y) (s : State) → ((heap : List (Object Label)) → Fits (length s.frames) (f x (record s { heap = heap }))) → Fits (length s.frames) (and_then (acted x a s) f)
  unfolding acted
  fits_in_turn x (Ok heap) f s k = k heap
  fits_in_turn x (Err stop) f s k = tt

  pub adds_in_turn : {X Y : Type 0} (x : X) (a : Acted (List (Object Label))) (f : X → L Y) (s : State) → ((heap : List (Object Label)) → Front s.lines (state_of (f x (record s { heap = heap }))).lines) → Front s.lines (state_of (and_then (acted x a s) f)).lines
  unfolding acted
  adds_in_turn x (Ok heap) f s k = k heap
  adds_in_turn x (Err stop) f s k = front_refl s.lines

  pub mute_in_turn : {X Y : Type 0} (P : Y → Type 0) (x : X) (a : Acted (List (Object Label))) (f : X → L Y) (s : State) → StillHeap observer s.heap a
      → ((heap : List (Object Label)) → a ≡ Ok heap → Mute observer tables P (record s { heap = heap }) (f x (record s { heap = heap }))) → Mute observer tables P s (and_then (acted x a s) f)
  unfolding acted
  mute_in_turn P x (Ok heap) f s (goes h) k = mute_behind observer tables P (same_heaps h) (lines_refl observer tables s.lines) (k heap refl)
  mute_in_turn P x (Err stop) f s h k = mute_end observer tables P s

  -- in two runs, which share a frame that is seen
  pub in_turn_after : {X Y : Type 0} (P : Pairing → Y → Y → Type 0) {γ : Pairing} (x y : X) (a b : Acted (List (Object Label))) (f g : X → L Y) (s t : State) → ActsAfter observer γ a b → LowEqual observer tables γ s t
      → ((heap : List (Object Label)) → Front s.lines (state_of (f x (record s { heap = heap }))).lines) → ((heap : List (Object Label)) → Front t.lines (state_of (g y (record t { heap = heap }))).lines)
      → ((one other : List (Object Label)) → a ≡ Ok one → b ≡ Ok other → LowEqual observer tables γ (record s { heap = one }) (record t { heap = other }) → InStep observer tables P γ (f x (record s { heap = one })) (g y (record t { heap = other })))
      → InStep observer tables P γ (and_then (acted x a s) f) (and_then (acted y b t) g)
  unfolding acted
  in_turn_after P x y (Ok one) (Ok other) f g s t (level h) r k l m = m one other refl refl (low_heap observer tables r h r.records)
  in_turn_after P x y (Err stop) b f g s t first_stops r k l m = ends_first observer tables P r (adds_in_turn y b g t l)
  in_turn_after P x y a (Err stop) f g s t second_stops r k l m = ends_second observer tables P r (adds_in_turn x a f s k)
