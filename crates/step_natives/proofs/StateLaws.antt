-- What is left of the steps of built-ins.
use Rattle.std.proofs.Common.{arith, get_or, set, ◌≡◌, ◌≤◌, ◌<◌, Option, Some, None, ℕ, zero, suc, ◌-◌, List, [], ◌∷◌, ◌++◌, map, take, length, refl, sym, ◌∙◌, ap, Bool}
use mathlib.Core.Path.{fun_ext}
use Rattle.std.specs.List.{slice_get}
use Rattle.std.proofs.lemmas.List.{length-append, length-map, take-map}
use Rattle.std.proofs.lemmas.Option.{none-some, slice_get_past}
use Rattle.native_protocol.specs.declared.hint.Hint.{Hint}
use Rattle.native_protocol.specs.declared.default_value.DefaultValue.{DefaultValue}
use Rattle.native_protocol.specs.declared.request.Answer.{Answer}
use Rattle.native_protocol.specs.declared.request.Answer.TheVariants as answer
use Rattle.native_protocol.specs.declared.request.Request.{Request}
use Rattle.native_protocol.specs.Pieces.{whole_begin}
use Rattle.native_protocol.specs.Steps.{Steps, conversion}
use Rattle.native_protocol.specs.Sets.{SeenEntry}
use Rattle.native_protocol.proofs.PieceLaws.{whole_is}
use Rattle.es_meaning.specs.BuiltIns.{begins_entry, begins_in, built_ins_of, steps_behind}
use Rattle.step_natives.specs.declared.state.Accessor.TheVariants as accessor
use Rattle.step_natives.specs.declared.state.NativeState.{NativeState}
use Rattle.step_natives.specs.declared.state.NativeState.TheVariants as state
use Rattle.step_natives.specs.States.{States, told, state_after, state_asks, steps_of, waiting_steps, running_steps}

-- ---- the last of them

pub told_last : (a : Answer) (front : List Steps) (steps : Steps) → told a (front ++ steps ∷ []) ≡ front ++ steps_behind steps a ∷ []
told_last a [] steps = refl
told_last a (first ∷ []) steps = refl
told_last a (first ∷ second ∷ front) steps = ap (λ more. first ∷ more) (told_last a (second ∷ front) steps)

map_last : {X Y : Type 0} (f : X → Y) (xs : List X) (x : X) → map f (xs ++ x ∷ []) ≡ map f xs ++ f x ∷ []
map_last f [] x = refl
map_last f (y ∷ xs) x = ap (λ more. f y ∷ more) (map_last f xs x)

-- what stands in a list is there
there_is : {X : Type 0} (xs : List X) (n : ℕ) → n < length xs → slice_get xs n ≡ None → ⊥
there_is [] n lt none = omega (arith, lt)
there_is (x ∷ xs) zero lt none = none-some x (sym none)
there_is (x ∷ xs) (suc n) lt none = there_is xs n (omega (arith, lt)) none

-- one that begins
begun_steps : {S : Type 0} (after : S → Answer → S) (asks : S → Request) (states : List (NativeState S)) (one : NativeState S) → running_steps after asks (record { states = states ++ one ∷ []; answer = answer.Begin }) ≡ map (steps_of after asks) states ++ steps_behind (steps_of after asks one) answer.Begin ∷ []
unfolding waiting_steps running_steps
begun_steps after asks states one = ap (told answer.Begin) (map_last (steps_of after asks) states one) ∙ told_last answer.Begin (map (steps_of after asks) states) (steps_of after asks one)

begun : {S : Type 0} (after : S → Answer → S) (asks : S → Request) (old new : States S) (one : NativeState S) → new ≡ record { states = old.states ++ one ∷ []; answer = answer.Begin } → running_steps after asks new ≡ waiting_steps after asks old ++ steps_behind (steps_of after asks one) answer.Begin ∷ []
unfolding waiting_steps
begun after asks old new one e = ap (running_steps after asks) e ∙ begun_steps after asks old.states one

module _ {S : Type 0} (entries : List SeenEntry) (begin : ℕ → ℕ → Bool → S) (after : S → Answer → S) (asks : S → Request) where
  -- a call of the built-in with this number begins
  abbrev Begins : ℕ → ℕ → Bool → States S → States S → Type 0
  Begins which argc construct old new = running_steps after asks new ≡ waiting_steps after asks old ++ begins_in (built_ins_of entries begin after asks) which argc construct ∷ []

  pub begun_caller : (which argc : ℕ) (construct : Bool) (old new : States S) → which ≡ 0 → new ≡ record { states = old.states ++ state.Leaves accessor.Caller ∷ []; answer = answer.Begin } → Begins which argc construct old new
  begun_caller which argc construct old new is e = begun after asks old new (state.Leaves accessor.Caller) e ∙ ap (λ n. waiting_steps after asks old ++ begins_in (built_ins_of entries begin after asks) n argc construct ∷ []) (sym is)

  pub begun_arguments : (which argc : ℕ) (construct : Bool) (old new : States S) → which ≡ 1 → new ≡ record { states = old.states ++ state.Leaves accessor.Arguments ∷ []; answer = answer.Begin } → Begins which argc construct old new
  begun_arguments which argc construct old new is e = begun after asks old new (state.Leaves accessor.Arguments) e ∙ ap (λ n. waiting_steps after asks old ++ begins_in (built_ins_of entries begin after asks) n argc construct ∷ []) (sym is)

  pub begun_callee : (which argc : ℕ) (construct : Bool) (old new : States S) → which ≡ 2 → new ≡ record { states = old.states ++ state.Leaves accessor.Callee ∷ []; answer = answer.Begin } → Begins which argc construct old new
  begun_callee which argc construct old new is e = begun after asks old new (state.Leaves accessor.Callee) e ∙ ap (λ n. waiting_steps after asks old ++ begins_in (built_ins_of entries begin after asks) n argc construct ∷ []) (sym is)

  begins_there : (n argc : ℕ) (construct : Bool) (old : States S) (o : Option SeenEntry) → slice_get entries n ≡ o → n < length entries
      → (waiting_steps after asks old ++ steps_behind (steps_of after asks (state.Set (begin n argc construct))) answer.Begin ∷ []) ≡ (waiting_steps after asks old ++ begins_entry (slice_get entries n) (built_ins_of entries begin after asks) n argc construct ∷ [])
  begins_there n argc construct old None is there = absurd (there_is entries n there is)
  begins_there n argc construct old (Some e) is there = ap (λ o. waiting_steps after asks old ++ begins_entry o (built_ins_of entries begin after asks) n argc construct ∷ []) (sym is)

  pub begun_in_set : (which argc : ℕ) (construct : Bool) (old new : States S) (one : S) → 3 ≤ which → which - 3 < length entries → one ≡ begin (which - 3) argc construct → new ≡ record { states = old.states ++ state.Set one ∷ []; answer = answer.Begin } → Begins which argc construct old new
  begun_in_set which argc construct old new one enough there is e =
      begun after asks old new (state.Set one) e
      ∙ ap (λ s. waiting_steps after asks old ++ steps_behind (steps_of after asks (state.Set s)) answer.Begin ∷ []) is
      ∙ begins_there (which - 3) argc construct old (slice_get entries (which - 3)) refl there
      ∙ ap (λ n. waiting_steps after asks old ++ begins_in (built_ins_of entries begin after asks) n argc construct ∷ []) (let whole : suc (suc (suc (which - 3))) ≡ which = omega arith in whole)

  -- and where the set doesn't have it
  pub begun_unknown : (which argc : ℕ) (construct : Bool) (old new : States S) → 3 ≤ which → length entries ≤ which - 3 → new ≡ record { states = old.states ++ state.Leaves accessor.Unknown ∷ []; answer = answer.Begin } → Begins which argc construct old new
  begun_unknown which argc construct old new enough past e =
      begun after asks old new (state.Leaves accessor.Unknown) e
      ∙ ap (λ o. waiting_steps after asks old ++ begins_entry o (built_ins_of entries begin after asks) (which - 3) argc construct ∷ []) (sym (slice_get_past entries (which - 3) past))
      ∙ ap (λ n. waiting_steps after asks old ++ begins_in (built_ins_of entries begin after asks) n argc construct ∷ []) (let whole : suc (suc (suc (which - 3))) ≡ which = omega arith in whole)

-- the conversion of an object begins
pub begun_conversion : {S : Type 0} (after : S → Answer → S) (asks : S → Request) (h : Hint) (old new : States S) (one : DefaultValue) → one ≡ whole_begin h → new ≡ record { states = old.states ++ state.Conversion one ∷ []; answer = answer.Begin } → running_steps after asks new ≡ waiting_steps after asks old ++ conversion h ∷ []
begun_conversion after asks h old new one is e =
    begun after asks old new (state.Conversion one) e
    ∙ ap (λ d. waiting_steps after asks old ++ steps_behind (steps_of after asks (state.Conversion d)) answer.Begin ∷ []) is
    ∙ ap (λ steps. waiting_steps after asks old ++ steps ∷ []) (fun_ext (whole_is h))

-- ---- one that is told its answer

pub tells : {S : Type 0} (after : S → Answer → S) (asks : S → Request) (states : List (NativeState S)) (before a : Answer) (front : List Steps) (steps : Steps) → waiting_steps after asks (record { states = states; answer = before }) ≡ front ++ steps ∷ [] → running_steps after asks (record { states = states; answer = a }) ≡ front ++ steps_behind steps a ∷ []
unfolding waiting_steps running_steps
tells after asks states before a front steps e = ap (told a) e ∙ told_last a front steps

abbrev last_of : Steps → List Steps → Steps
last_of other [] = other
last_of other (steps ∷ more) = last_of steps more

last_appended : (other : Steps) (front : List Steps) (steps : Steps) → last_of other (front ++ steps ∷ []) ≡ steps
last_appended other [] steps = refl
last_appended other (first ∷ front) steps = last_appended first front steps

taken_front : (front : List Steps) (steps : Steps) (n : ℕ) → suc n ≡ length (front ++ steps ∷ []) → take n (front ++ steps ∷ []) ≡ front
taken_front [] steps zero last = refl
taken_front [] steps (suc n) last = absurd (omega (arith, last))
taken_front (first ∷ front) steps zero last = absurd (omega (arith, last, length-append front (steps ∷ [])))
taken_front (first ∷ front) steps (suc n) last = ap (λ more. first ∷ more) (taken_front front steps n (omega (arith, last)))

-- ---- the last of them, behind its answer

module _ {S : Type 0} (after : S → Answer → S) (asks : S → Request) where
  abbrev steps_in : NativeState S → Steps
  steps_in one = steps_of after asks one

  state_waits : (one : NativeState S) (a : Answer) → steps_in (state_after after one a) ≡ steps_behind (steps_in one) a
  state_waits (state.Set s) a = refl
  state_waits (state.Conversion d) a = refl
  state_waits (state.Leaves which) a = refl

  state_asked : (one : NativeState S) (a : Answer) → state_asks asks (state_after after one a) ≡ steps_behind (steps_in one) a []
  state_asked (state.Set s) a = refl
  state_asked (state.Conversion d) a = refl
  state_asked (state.Leaves which) a = refl

  last_waits : (states : List (NativeState S)) (at : ℕ) (one : NativeState S) (a : Answer) → suc at ≡ length states → one ≡ get_or states at one → map steps_in (set states at (state_after after one a)) ≡ told a (map steps_in states)
  last_waits [] at one a last read = absurd (omega (arith, last))
  last_waits (s ∷ []) zero one a last read = ap (λ steps. steps ∷ []) (state_waits one a ∙ ap (λ state. steps_behind (steps_in state) a) read)
  last_waits (s ∷ []) (suc at) one a last read = absurd (omega (arith, last))
  last_waits (s ∷ t ∷ states) zero one a last read = absurd (omega (arith, last))
  last_waits (s ∷ t ∷ states) (suc at) one a last read = ap (λ more. steps_in s ∷ more) (last_waits (t ∷ states) at one a (omega (arith, last)) read)

  last_told : (states : List (NativeState S)) (at : ℕ) (one : NativeState S) (a : Answer) (other : Steps) → suc at ≡ length states → one ≡ get_or states at one → last_of other (told a (map steps_in states)) ≡ steps_behind (steps_in one) a
  last_told [] at one a other last read = absurd (omega (arith, last))
  last_told (s ∷ []) zero one a other last read = ap (λ state. steps_behind (steps_in state) a) (sym read)
  last_told (s ∷ []) (suc at) one a other last read = absurd (omega (arith, last))
  last_told (s ∷ t ∷ states) zero one a other last read = absurd (omega (arith, last))
  last_told (s ∷ t ∷ states) (suc at) one a other last read = last_told (t ∷ states) at one a (steps_in s) (omega (arith, last)) read

  last_asks : (states : List (NativeState S)) (at : ℕ) (one : NativeState S) (a : Answer) (front : List Steps) (steps : Steps) → suc at ≡ length states → one ≡ get_or states at one → told a (map steps_in states) ≡ front ++ steps ∷ [] → state_asks asks (state_after after one a) ≡ steps []
  last_asks states at one a front steps last read e =
      state_asked one a ∙ ap (λ left. left []) (sym (last_told states at one a steps last read) ∙ ap (last_of steps) e ∙ last_appended steps front steps)

  pub next_waits : (natives : States S) (at : ℕ) (one new : NativeState S) (a : Answer) → suc at ≡ length natives.states → one ≡ get_or natives.states at one → new ≡ state_after after one natives.answer → waiting_steps after asks (record { states = set natives.states at new; answer = a }) ≡ running_steps after asks natives
  unfolding waiting_steps running_steps
  next_waits natives at one new a last read is = ap (λ state. map steps_in (set natives.states at state)) is ∙ last_waits natives.states at one natives.answer last read

  pub next_asks : (natives : States S) (at : ℕ) (one : NativeState S) (request : Request) (front : List Steps) (steps : Steps) → suc at ≡ length natives.states → one ≡ get_or natives.states at one → request ≡ state_asks asks (state_after after one natives.answer) → running_steps after asks natives ≡ front ++ steps ∷ [] → request ≡ steps []
  unfolding waiting_steps running_steps
  next_asks natives at one request front steps last read is e = is ∙ last_asks natives.states at one natives.answer front steps last read e

  -- ---- all but the last

  pub popped : (states : List (NativeState S)) (before a : Answer) (n : ℕ) (front : List Steps) (steps : Steps) → suc n ≡ length states → waiting_steps after asks (record { states = states; answer = before }) ≡ front ++ steps ∷ [] → waiting_steps after asks (record { states = take n states; answer = a }) ≡ front
  unfolding waiting_steps
  popped states before a n front steps last e =
      sym (take-map steps_in n states) ∙ ap (take n) e ∙ taken_front front steps n (last ∙ sym (length-map states steps_in) ∙ ap length e)
