-- Registers that are written, and built-ins that go on.
use Rattle.std.proofs.Common.{refl, sym, ap, ap₂, ◌∙◌, ◌≡◌, ◌≤◌, ◌<◌, ◌+◌, ◌-◌, ℕ, zero, suc, true, set, get_or, List, [], ◌∷◌, ◌++◌, map, length, replicate, Some, None, append_assoc, arith}
use Rattle.std.specs.List.{All}
use Rattle.std.proofs.lemmas.List.{length-append, length-map, length-replicate, map-append, nil_from_length, take_all}
use Rattle.origin_labels.specs.Label.{Label, bottom}
use Rattle.flow_policy.specs.Policies.{Tables}
use Rattle.flow_policy.specs.Inputs.{Given}
use Rattle.flow_frames.specs.declared.kind.Kind.TheVariants as kind
use Rattle.flow_frames.specs.Changes.{pushed}
use Rattle.flow_frames.specs.Held.{Held, seen_frame}
use Rattle.js_ast.specs.Functions.{FunctionCode}
use Rattle.js_values.specs.declared.value.Labelled.{Labelled}
use Rattle.js_values.specs.Readings.{HasValue, IsReading, read_value}
use Rattle.native_protocol.specs.declared.registers.Reg.{Reg}
use Rattle.native_protocol.specs.declared.request.Answer.TheVariants as answer
use Rattle.native_protocol.specs.Steps.{Steps}
use Rattle.es_meaning.specs.BuiltIns.{BuiltIns, steps_behind}
use Rattle.es_meaning.specs.Environments.{Env}
use Rattle.es_meaning.specs.Evaluation.{element_or, with_element, answered_in, put_behind}
use Rattle.es_meaning.specs.Operations.{Value}
use Rattle.es_meaning.specs.Plain.{undefined}
use Rattle.flow_meaning.specs.Erased.{unlabelled}
use Rattle.flow_meaning.specs.Planned.{Plan, Ask, Give, a_request, gave, and_plan, end_branch, end_putting}
use Rattle.flow_meaning.specs.Scopes.{Val, State}
use Rattle.continuations.specs.declared.continuation.Counting.TheVariants as counting
use Rattle.continuations.specs.declared.continuation.Continuation.{Continuation}
use Rattle.continuations.specs.declared.continuation.Continuation.TheVariants as continuation
use Rattle.continuations.specs.declared.continuation.Control.TheVariants as control
use Rattle.continuations.specs.Answering.{EntersNative, IsAnswered, IsReturned, Reads, Writes, with_steps, written_in}
use Rattle.continuations.specs.Kept.{Kept, operands_of, scopes_of, waits, waiting}
use Rattle.continuations.specs.Resuming.{Opened, with_frames}
use Rattle.continuations.proofs.BranchLaws.{last_two}
use Rattle.continuations.proofs.Handed.{gives_alone}
use Rattle.continuations.proofs.ScopeLaws.{in_scope}
use Rattle.continuations.specs.Pending.{Task, after, after_task, behind, inside, natives_inside, next_plan, setting_above}
use Rattle.continuations.specs.Settings.{Setting, outermost_steps, setting_of}

-- ---- lists

set_read : {T : Type 0} (reading : T → Label) (xs : List (Labelled T)) (at : ℕ) (v : Labelled T) → at < length xs
    → map (read_value reading) (set xs at v) ≡ with_element (unlabelled undefined) at (read_value reading v) (map (read_value reading) xs)
unfolding with_element
set_read reading [] at v lt = absurd (omega (arith, lt))
set_read reading (x ∷ xs) zero v lt = refl
set_read reading (x ∷ xs) (suc at) v lt = ap (λ vs. read_value reading x ∷ vs) (set_read reading xs at v (omega (arith, lt)))

-- a place behind all others
padded : (other : Val) (n : ℕ) (v : Val) → replicate n other ++ v ∷ [] ≡ with_element other n v []
unfolding with_element
padded other zero v = refl
padded other (suc n) v = ap (λ vs. other ∷ vs) (padded other n v)

appended : (other : Val) (us : List Val) (at more : ℕ) (v : Val) → at ≡ length us + more → us ++ (replicate more other ++ v ∷ []) ≡ with_element other at v us
unfolding with_element
appended other [] at more v e = let same : at ≡ more = omega (arith, e) in padded other more v ∙ ap (λ n. with_element other n v []) (sym same)
appended other (u ∷ us) zero more v e = absurd (omega (arith, e))
appended other (u ∷ us) (suc at) more v e = ap (λ vs. u ∷ vs) (appended other us at more v (omega (arith, e)))

map_replicate : {X Y : Type 0} (f : X → Y) (n : ℕ) (x : X) → map f (replicate n x) ≡ replicate n (f x)
map_replicate f zero x = refl
map_replicate f (suc n) x = ap (λ ys. f x ∷ ys) (map_replicate f n x)

-- all of a list that is changed at a place, or made longer
all_set : {X : Type 0} (P : X → Type 0) (xs : List X) (at : ℕ) (v : X) → All P xs → P v → All P (set xs at v)
all_set P [] at v all holds k d lt = absurd (omega (arith, lt))
all_set P (x ∷ xs) zero v all holds zero d lt = holds
all_set P (x ∷ xs) zero v all holds (suc k) d lt = all (suc k) d lt
all_set P (x ∷ xs) (suc at) v all holds zero d lt = all zero d (omega (arith, lt))
all_set P (x ∷ xs) (suc at) v all holds (suc k) d lt = all_set P xs at v (λ i e fits. all (suc i) e (omega (arith, fits))) holds k d (omega (arith, lt))

all_more : {X : Type 0} (P : X → Type 0) (xs : List X) (n : ℕ) (x v : X) → All P xs → P x → P v → All P (xs ++ (replicate n x ++ v ∷ []))
all_more P [] zero x v all each last zero d lt = last
all_more P [] zero x v all each last (suc k) d lt = absurd (omega (arith, lt))
all_more P [] (suc n) x v all each last zero d lt = each
all_more P [] (suc n) x v all each last (suc k) d lt = all_more P [] n x v all each last k d (omega (arith, lt))
all_more P (y ∷ xs) n x v all each last zero d lt = all zero d (omega arith)
all_more P (y ∷ xs) n x v all each last (suc k) d lt = all_more P xs n x v (λ i e fits. all (suc i) e (omega (arith, fits))) each last k d (omega (arith, lt))

module _ {S T : Type 0} (made : S → T → Type 0) (meaning : S → T → Label) (store : S) where
  -- a register that is there is written
  pub set_writes : (old : List (Labelled T)) (at : ℕ) (to : Reg) (v : Labelled T) → at ≡ to.0 → at < length old → Writes made meaning store to v old (set old at v)
  set_writes old at to v is lt = λ reading read. set_read reading old at v lt ∙ ap (λ n. with_element (unlabelled undefined) n (read_value reading v) (map (read_value reading) old)) is

  pub set_has : (old : List (Labelled T)) (at : ℕ) (v : Labelled T) → All (HasValue (made store)) old → made store v.label → All (HasValue (made store)) (set old at v)
  set_has old at v all holds = all_set (HasValue (made store)) old at v all holds

  -- and one behind the others
  module _ (old middle new : List (Labelled T)) (at count : ℕ) (none : T) (v : Labelled T)
      (filled : middle ≡ old ++ replicate (at - count) (record { value = undefined; label = none })) (laid : new ≡ middle ++ v ∷ []) where
    whole : new ≡ old ++ (replicate (at - count) (record { value = undefined; label = none }) ++ v ∷ [])
    whole = laid ∙ ap (λ vs. vs ++ v ∷ []) filled ∙ append_assoc old (replicate (at - count) (record { value = undefined; label = none })) (v ∷ [])

    pub appended_writes : length old ≡ count → count ≤ at → made store none → meaning store none ≡ bottom → Writes made meaning store (record { 0 = at }) v old new
    appended_writes size le m empty = λ reading read.
        let filler : Labelled T = record { value = undefined; label = none } in
        let more = at - count in
        let read_filler : read_value reading filler ≡ unlabelled undefined = ap (λ l. record { value = undefined; label = l }) (read.agrees none m ∙ empty) in
        let place : at ≡ length (map (read_value reading) old) + more = omega (arith, size, le, length-map old (read_value reading)) in
        ap (map (read_value reading)) whole
        ∙ map-append (read_value reading) old (replicate more filler ++ v ∷ [])
        ∙ ap (λ vs. map (read_value reading) old ++ vs) (map-append (read_value reading) (replicate more filler) (v ∷ [])
        ∙ ap (λ vs. vs ++ read_value reading v ∷ []) (map_replicate (read_value reading) more filler ∙ ap (replicate more) read_filler))
        ∙ appended (unlabelled undefined) (map (read_value reading) old) at more (read_value reading v) place

    pub appended_has : All (HasValue (made store)) old → made store none → made store v.label → All (HasValue (made store)) new
    appended_has all m holds = rw whole (all_more (HasValue (made store)) old (at - count) (record { value = undefined; label = none }) v all m holds)

pub appended_size : {T : Type 0} (old middle new : List (Labelled T)) (at count n : ℕ) (filler v : Labelled T) → length old ≡ count → count ≤ at → n ≡ at + 1
    → middle ≡ old ++ replicate (at - count) filler → new ≡ middle ++ v ∷ [] → length new ≡ n
appended_size old middle new at count n filler v size le is_n filled laid =
    omega (arith, size, le, is_n, ap length laid, length-append middle (v ∷ []), ap length filled, length-append old (replicate (at - count) filler), length-replicate (at - count) filler)

-- what a register holds
element_here : {T : Type 0} (reading : T → Label) (xs : List (Labelled T)) (at : ℕ) (v : Labelled T) → at < length xs → v ≡ get_or xs at v
    → read_value reading v ≡ element_or (unlabelled undefined) at (map (read_value reading) xs)
unfolding element_or
element_here reading [] at v lt is = absurd (omega (arith, lt))
element_here reading (x ∷ xs) zero v lt is = ap (read_value reading) is
element_here reading (x ∷ xs) (suc at) v lt is = element_here reading xs at v (omega (arith, lt)) is

element_none : (us : List Val) (at : ℕ) → length us ≤ at → element_or (unlabelled undefined) at us ≡ unlabelled undefined
unfolding element_or
element_none [] at le = refl
element_none (u ∷ us) zero le = absurd (omega (arith, le))
element_none (u ∷ us) (suc at) le = element_none us at (omega (arith, le))

module _ {S T : Type 0} (made : S → T → Type 0) (meaning : S → T → Label) (store : S) where
  pub register_reads : (xs : List (Labelled T)) (from : Reg) (at : ℕ) (u v : Labelled T) → at ≡ from.0 → at < length xs → u ≡ get_or xs at u → v ≡ u → Reads made meaning store from xs v
  register_reads xs from at u v is lt here same = λ reading read.
      ap (read_value reading) same ∙ element_here reading xs at u lt here ∙ ap (λ n. element_or (unlabelled undefined) n (map (read_value reading) xs)) is

  pub register_has : (xs : List (Labelled T)) (at : ℕ) (u v : Labelled T) → All (HasValue (made store)) xs → at < length xs → u ≡ get_or xs at u → v ≡ u → made store v.label
  register_has xs at u v all lt here same = rw (same ∙ here) (all at u lt)

  pub none_reads : (xs : List (Labelled T)) (from : Reg) (at : ℕ) (none : T) → at ≡ from.0 → length xs ≤ at → made store none → meaning store none ≡ bottom
      → Reads made meaning store from xs (record { value = undefined; label = none })
  none_reads xs from at none is le m empty = λ reading read.
      let past : length (map (read_value reading) xs) ≤ from.0 = omega (arith, is, le, length-map xs (read_value reading)) in
      ap (λ l. record { value = undefined; label = l }) (read.agrees none m ∙ empty) ∙ sym (element_none (map (read_value reading) xs) from.0 past)

-- ---- the built-ins that wait

-- those inside work, of which there are enough
inside_more : (w : Continuation) (m : ℕ) (ns xs : List Steps) → length ns ≡ waits w + m → natives_inside w (ns ++ xs) ≡ natives_inside w ns ++ xs
inside_more (continuation.Answered count to) m [] xs size = absurd (omega (arith, size))
inside_more (continuation.Answered count to) m (n ∷ ns) xs size = refl
inside_more w m ns xs size = refl

inside_size : (w : Continuation) (m : ℕ) (ns : List Steps) → length ns ≡ waits w + m → length (natives_inside w ns) ≡ m
inside_size (continuation.Answered count to) m [] size = absurd (omega (arith, size))
inside_size (continuation.Answered count to) m (n ∷ ns) size = omega (arith, size)
inside_size w m ns size = omega (arith, size)

module _ (tables : Tables) (inputs : Given) (set : BuiltIns) (functions : List FunctionCode) where
  -- work sees the first of them alone
  after_more : (w : Continuation) (m : ℕ) (vs : List Val) (ns xs : List Steps) (e : Env ℕ) → length ns ≡ waits w + m
      → after tables inputs set functions w vs (setting_of (ns ++ xs) e) ≡ after tables inputs set functions w vs (setting_of ns e)
  after_more (continuation.Answered count to) m vs [] xs e size = absurd (omega (arith, size))
  after_more (continuation.Answered count None) m vs (n ∷ ns) xs e size = refl
  after_more (continuation.Answered count (Some to)) m vs (n ∷ ns) xs e size = refl
  after_more (continuation.Counted counting.Prefix o t) m vs ns xs e size = refl
  after_more (continuation.Counted counting.Postfix o t) m vs ns xs e size = refl
  after_more (continuation.CountedNumber counting.Prefix o t) m vs ns xs e size = refl
  after_more (continuation.CountedNumber counting.Postfix o t) m vs ns xs e size = refl
  after_more w m vs ns xs e size = refl

  module _ {T : Type 0} (reading : T → Label) where
    -- as many as wait are enough for a plan behind pending work
    pub behind_enough : (tasks : List (Task T)) (ns xs : List Steps) (e : Env ℕ) (p : Plan) → length ns ≡ waiting tasks
        → behind tables inputs set functions reading tasks (setting_of (ns ++ xs) e) p ≡ behind tables inputs set functions reading tasks (setting_of ns e) p
    unfolding behind
    behind_enough [] ns xs e p size = refl
    behind_enough (w ∷ tasks) ns xs e p size =
        ap (λ q. and_plan q (after_task tables inputs set functions reading w (setting_of (ns ++ xs) e)))
        (ap (λ ms. behind tables inputs set functions reading tasks (setting_of ms (inside w.0 e)) p) (inside_more w.0 (waiting tasks) ns xs size)
        ∙ behind_enough tasks (natives_inside w.0 ns) xs (inside w.0 e) p (inside_size w.0 (waiting tasks) ns size))
        ∙ ap (λ next. and_plan (behind tables inputs set functions reading tasks (setting_of (natives_inside w.0 ns) (inside w.0 e)) p) next) (after_more w.0 (waiting tasks) (map (read_value reading) w.1) ns xs e size)

-- and what is left inside
pub above_enough : {T : Type 0} (tasks : List (Task T)) (ns xs : List Steps) (e : Env ℕ) → length ns ≡ waiting tasks → (setting_above tasks (setting_of (ns ++ xs) e)).natives ≡ xs
unfolding setting_above
above_enough [] ns xs e size = ap (λ ms. ms ++ xs) (nil_from_length ns size)
above_enough (w ∷ tasks) ns xs e size =
    ap (λ ms. (setting_above tasks (setting_of ms (inside w.0 e))).natives) (inside_more w.0 (waiting tasks) ns xs size)
    ∙ above_enough tasks (natives_inside w.0 ns) xs (inside w.0 e) (inside_size w.0 (waiting tasks) ns size)

-- ---- a built-in goes on

module _ {S T : Type 0} (made : S → T → Type 0) (meaning : S → T → Label) (store : S) where
  -- its request, with these registers
  asks_next : (tables : Tables) (inputs : Given) (set : BuiltIns) (functions : List FunctionCode) (reading : T → Label) (old new : Kept T) (count : ℕ) (e : Setting) (steps : Steps) (s : State)
      → new.tasks ≡ old.tasks → length e.natives ≡ waiting old.tasks
      → behind tables inputs set functions reading new.tasks (with_steps steps e) (next_plan tables inputs set functions (control.Request count) (map (read_value reading) new.loose) (setting_above new.tasks (with_steps steps e)) s)
      ≡ behind tables inputs set functions reading old.tasks e (Ask (a_request steps (map (read_value reading) new.loose)) s Give)
  asks_next tables inputs set functions reading old new count e steps s same size =
      ap (λ ts. behind tables inputs set functions reading ts (with_steps steps e) (next_plan tables inputs set functions (control.Request count) (map (read_value reading) new.loose) (setting_above ts (with_steps steps e)) s)) same
      ∙ ap (λ ns. behind tables inputs set functions reading old.tasks (with_steps steps e) (next_plan tables inputs set functions (control.Request count) (map (read_value reading) new.loose) (setting_of ns (setting_above old.tasks (with_steps steps e)).env) s)) (above_enough old.tasks e.natives (steps ∷ []) e.env size)
      ∙ behind_enough tables inputs set functions reading old.tasks e.natives (steps ∷ []) e.env (Ask (a_request steps (map (read_value reading) new.loose)) s Give) size

  pub answer_dropped : (count : ℕ) (old new : Kept T) (popped : Labelled T) → old.loose ≡ new.loose ++ popped ∷ [] → new.tasks ≡ old.tasks → IsAnswered made meaning store count None old new (control.Request count)
  unfolding end_putting put_behind
  answer_dropped count old new popped top same = λ tables inputs set functions reading e steps s kept value read size loose.
      let both = last_two new.loose kept popped value (sym top ∙ loose) in
      let f = setting_above old.tasks (with_steps steps e) in
      asks_next tables inputs set functions reading old new count e (steps_behind steps answer.Done) s same size
      ∙ ap (λ vs. behind tables inputs set functions reading old.tasks e (Ask (a_request (steps_behind steps answer.Done) (map (read_value reading) vs)) s Give)) both.0
      ∙ sym (ap (λ ns. behind tables inputs set functions reading old.tasks (with_steps steps e) (after tables inputs set functions (continuation.Answered count None) (map (read_value reading) kept) (setting_of ns f.env) (gave (read_value reading value)) s)) (above_enough old.tasks e.natives (steps ∷ []) e.env size)
      ∙ behind_enough tables inputs set functions reading old.tasks e.natives (steps ∷ []) e.env (Ask (a_request (steps_behind steps answer.Done) (map (read_value reading) kept)) s Give) size)

  pub answer_written : (count more : ℕ) (to : Reg) (old middle new : Kept T) (popped : Labelled T) → old.loose ≡ middle.loose ++ popped ∷ [] → middle.tasks ≡ old.tasks → new.tasks ≡ middle.tasks
      → Writes made meaning store to popped middle.loose new.loose → IsAnswered made meaning store count (Some to) old new (control.Request more)
  unfolding answered_in
  answer_written count more to old middle new popped top stays same writes = λ tables inputs set functions reading e steps s kept value read size loose.
      let both = last_two middle.loose kept popped value (sym top ∙ loose) in
      let f = setting_above old.tasks (with_steps steps e) in
      let asks = λ (vs : List Val). Ask (a_request (steps_behind steps answer.Done) vs) s Give in
      asks_next tables inputs set functions reading old new more e (steps_behind steps answer.Done) s (same ∙ stays) size
      ∙ ap (λ vs. behind tables inputs set functions reading old.tasks e (asks vs)) (writes reading read)
      ∙ ap₂ (λ vs (v : Labelled T). behind tables inputs set functions reading old.tasks e (asks (written_in to (read_value reading v) (map (read_value reading) vs)))) both.0 both.1
      ∙ sym (ap (λ ns. behind tables inputs set functions reading old.tasks (with_steps steps e) (after tables inputs set functions (continuation.Answered count (Some to)) (map (read_value reading) kept) (setting_of ns f.env) (gave (read_value reading value)) s)) (above_enough old.tasks e.natives (steps ∷ []) e.env size)
      ∙ behind_enough tables inputs set functions reading old.tasks e.natives (steps ∷ []) e.env (asks (written_in to (read_value reading value) (map (read_value reading) kept))) size)
