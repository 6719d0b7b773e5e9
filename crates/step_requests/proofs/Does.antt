-- Acts on registers, and what is done with what they reply to, are what is asked for.
use Rattle.std.proofs.Common.{refl, sym, ap, ap₂, subst, ◌∙◌, ◌≡◌, ◌-◌, ℕ, Bool, List, [], ◌∷◌, map, length, Option, None, Result, Ok, Err, IfOk}
use Rattle.origin_labels.specs.Label.{Label, bottom}
use Rattle.origin_labels.specs.Stores.{IsKept}
use Rattle.flow_policy.specs.Policies.{Tables}
use Rattle.flow_policy.specs.Inputs.{Given}
use Rattle.flow_frames.specs.declared.faults.FlowFault.{FlowFault}
use Rattle.flow_frames.specs.declared.faults.FlowFault.TheVariants as fault
use Rattle.flow_frames.specs.Changes.{raised}
use Rattle.flow_frames.specs.Held.{Belong, seen as seen_frames}
use Rattle.js_values.specs.declared.value.Labelled.{Labelled}
use Rattle.js_values.specs.Objects.{Object}
use Rattle.js_values.specs.Readings.{read_heap, read_value}
use Rattle.js_values.proofs.ReadingLaws.{IsReading-earlier}
use Rattle.native_protocol.specs.declared.registers.Reg.{Reg}
use Rattle.native_protocol.specs.declared.request.Answer.TheVariants as answer
use Rattle.native_protocol.specs.declared.request.ErrorKind.{ErrorKind}
use Rattle.native_protocol.specs.declared.request.Seen.{Seen}
use Rattle.es_meaning.specs.BuiltIns.{steps_behind}
use Rattle.es_meaning.specs.Operations as operations
use Rattle.es_meaning.specs.Operations.{OwnPart, own_marks, own_value, own_getter, own_setter}
use Rattle.es_meaning.specs.Outcomes.{Outcome, Goes, and_then, ret, ◌>>=◌}
use Rattle.flow_meaning.specs.Planned.{Give, gave}
use Rattle.flow_meaning.specs.Scopes.{Halt, Jump, L, State, Val, raised_in}
use Rattle.flow_meaning.specs.Tracked.{act, seen, throw_error}
use Rattle.property_requests.specs.declared.owning.OwnProperty.{OwnProperty}
use Rattle.property_requests.specs.Finding.{IfGoes}
use Rattle.property_requests.specs.Owning.{part_in}
use Rattle.channel_requests.specs.declared.printing.Printed.{Printed}
use Rattle.channel_requests.specs.Answers as channel_answers
use Rattle.channel_requests.specs.Answers.{lines_behind, read_printed}
use Rattle.run_state.specs.declared.outcome.Access.{Access}
use Rattle.run_state.specs.declared.outcome.Outcome as machine
use Rattle.run_state.specs.declared.outcome.Outcome.TheVariants as outcome
use Rattle.run_state.specs.declared.outcome.Defining.{Defining}
use Rattle.run_state.specs.declared.outcome.Putting.{Putting}
use Rattle.run_state.specs.declared.world.World.{World}
use Rattle.run_state.specs.Accesses.{read_access, read_defining, read_putting}
use Rattle.run_state.specs.Acts.{Acts}
use Rattle.run_state.specs.Worlds.{state_of}
use Rattle.continuations.specs.Answering.{Reads, held_in, with_steps}
use Rattle.continuations.specs.Pending.{behind}
use Rattle.continuations.specs.Resuming.{coming}
use Rattle.continuations.specs.Kept.{Kept}
use Rattle.continuations.specs.Moving.{following}
use Rattle.continuations.proofs.EndLaws.{read_raised}
use Rattle.step_requests.specs.declared.asked.Asked.{Asked}
use Rattle.step_requests.specs.declared.asked.Asked.TheVariants as asked
use Rattle.step_requests.specs.declared.asked.Effect.{Effect}
use Rattle.step_requests.specs.declared.asked.GivenParts.{GivenParts}
use Rattle.step_requests.specs.declared.asked.OwnRegisters.{OwnRegisters}
use Rattle.step_requests.specs.declared.moved.Moved.{Moved}
use Rattle.step_requests.specs.declared.moved.Moved.TheVariants as moved
use Rattle.step_requests.specs.Asked.{OwnParts, answered_to, asked_plan, asks, defining_of, effect_on, entering_access, entering_defining, entering_putting, giving_parts, got, owned, owned_all, putting, thrown_on, value_or_undefined}
use Rattle.step_requests.specs.Doing.{Does, Gives, Goes as Comes, ReadsIf, Settles, SettlesPrinted, next_of, read_parts, setting_behind}
use Rattle.step_requests.proofs.Going.{asks_on}
use Rattle.step_requests.proofs.Settled.{did, quiet_lines}

module _ {S T : Type 0} (made : S → T → Type 0) (meaning : S → T → Label) (store : S) (tables : Tables) (inputs : Given) (old new : Kept T) (world_old world_new : World T) (result : Result (Moved T) (FlowFault T)) where
  pub does_effect : (e : Effect) (to : Option Reg) (reply : Result (machine.Outcome (Labelled T) T) (FlowFault T))
      → Acts made meaning store (λ reading. read_value reading) (λ reading. effect_on tables inputs e (map (read_value reading) old.loose)) world_old world_new reply
      → Settles made meaning store (λ reading. read_value reading) (λ ts gs set functions reading. answered_to to) old new reply result
      → Does made meaning store (asked.Does e to) old new world_old world_new tables inputs result
  unfolding asked_plan
  does_effect e to reply acts settles =
      let d = did made meaning store (λ reading. read_value reading) (λ ts gs set functions reading. answered_to to) (λ reading vs. effect_on tables inputs e vs) tables inputs old new world_old world_new reply result acts settles in
      record { says = λ set functions reading f steps told turns is size. d.says set functions reading f steps told turns is size }

  pub does_get : (base : Reg) (key : List ℕ) (to : Reg) (reply : Result (machine.Outcome (Access T) T) (FlowFault T))
      → Acts made meaning store (λ reading. read_access reading) (λ reading. got tables inputs (held_in base (map (read_value reading) old.loose)) key) world_old world_new reply
      → Settles made meaning store (λ reading. read_access reading) (λ ts gs set functions reading. entering_access ts gs set functions to) old new reply result
      → Does made meaning store (asked.Get base key to) old new world_old world_new tables inputs result
  unfolding asked_plan
  does_get base key to reply acts settles =
      let d = did made meaning store (λ reading. read_access reading) (λ ts gs set functions reading. entering_access ts gs set functions to) (λ reading vs. got tables inputs (held_in base vs) key) tables inputs old new world_old world_new reply result acts settles in
      record { says = λ set functions reading f steps told turns is size. d.says set functions reading f steps told turns is size }

  pub does_own : (base : Reg) (key : List ℕ) (to : OwnRegisters) (reply : Result (machine.Outcome (OwnProperty T) T) (FlowFault T))
      → Acts made meaning store (λ reading. read_parts reading) (λ reading. owned_all tables inputs (held_in base (map (read_value reading) old.loose)) key) world_old world_new reply
      → Settles made meaning store (λ reading. read_parts reading) (λ ts gs set functions reading. giving_parts to) old new reply result
      → Does made meaning store (asked.Own base key to) old new world_old world_new tables inputs result
  unfolding asked_plan
  does_own base key to reply acts settles =
      let d = did made meaning store (λ reading. read_parts reading) (λ ts gs set functions reading. giving_parts to) (λ reading vs. owned_all tables inputs (held_in base vs) key) tables inputs old new world_old world_new reply result acts settles in
      record { says = λ set functions reading f steps told turns is size. d.says set functions reading f steps told turns is size }

  pub does_throw : (from : Reg) (reply : Result (machine.Outcome (Labelled T) T) (FlowFault T))
      → Acts made meaning store (λ reading. read_value reading) (λ reading. thrown_on (held_in from (map (read_value reading) old.loose))) world_old world_new reply
      → Settles made meaning store (λ reading. read_value reading) (λ ts gs set functions reading steps vs v. Give (gave v)) old new reply result
      → Does made meaning store (asked.Throw from) old new world_old world_new tables inputs result
  unfolding asked_plan
  does_throw from reply acts settles =
      let d = did made meaning store (λ reading. read_value reading) (λ ts gs set functions reading steps vs v. Give (gave v)) (λ reading vs. thrown_on (held_in from vs)) tables inputs old new world_old world_new reply result acts settles in
      record { says = λ set functions reading f steps told turns is size. d.says set functions reading f steps told turns is size }

  pub does_throw_new : (kind : ErrorKind) (reply : Result (machine.Outcome (Labelled T) T) (FlowFault T))
      → Acts made meaning store (λ reading. read_value reading) (λ reading. throw_error {X = Val} kind bottom) world_old world_new reply
      → Settles made meaning store (λ reading. read_value reading) (λ ts gs set functions reading steps vs v. Give (gave v)) old new reply result
      → Does made meaning store (asked.ThrowNew kind) old new world_old world_new tables inputs result
  unfolding asked_plan
  does_throw_new kind reply acts settles =
      let d = did made meaning store (λ reading. read_value reading) (λ ts gs set functions reading steps vs v. Give (gave v)) (λ reading vs. throw_error {X = Val} kind bottom) tables inputs old new world_old world_new reply result acts settles in
      record { says = λ set functions reading f steps told turns is size. d.says set functions reading f steps told turns is size }

  -- a put gives the value that a register held in an earlier store
  pub does_put : (room : S → ℕ) (firm : S → Bool) (earlier : S) → IsKept made meaning room firm earlier store → (base : Reg) (key : List ℕ) (from : Reg) (v : Labelled T) (reply : Result (machine.Outcome (Putting T) T) (FlowFault T)) → Reads made meaning earlier from old.loose v
      → Acts made meaning store (λ reading. read_putting reading) (λ reading. putting tables inputs (held_in base (map (read_value reading) old.loose)) key (read_value reading v)) world_old world_new reply
      → Settles made meaning store (λ reading. read_putting reading) (λ ts gs set functions reading. entering_putting ts gs set functions (read_value reading v)) old new reply result
      → Does made meaning store (asked.Put base key from) old new world_old world_new tables inputs result
  unfolding asked_plan
  does_put room firm earlier kept base key from v reply reads acts settles =
      let d = did made meaning store (λ reading. read_putting reading) (λ ts gs set functions reading. entering_putting ts gs set functions (read_value reading v)) (λ reading vs. putting tables inputs (held_in base vs) key (read_value reading v)) tables inputs old new world_old world_new reply result acts settles in
      record {
        says = λ set functions reading f steps told turns is size.
            let vs = map (read_value reading) old.loose in
            let s = state_of reading world_old told turns in
            subst (λ u. Comes tables inputs set functions reading new steps f world_new told turns (behind tables inputs set functions reading old.tasks (with_steps steps f) (following (putting tables inputs (held_in base vs) key u s) (entering_putting tables inputs set functions u steps vs))) result)
            (reads reading (IsReading-earlier made meaning room firm earlier store reading kept is)) (d.says set functions reading f steps told turns is size);
      }

  -- a definition gives what a register held, if one is named
  pub does_define : (room : S → ℕ) (firm : S → Bool) (earlier : S) → IsKept made meaning room firm earlier store → (base : Reg) (key : List ℕ) (given : GivenParts) (value : Option (Labelled T)) (reply : Result (machine.Outcome (Defining T) T) (FlowFault T)) → ReadsIf made meaning earlier given.value old.loose value
      → Acts made meaning store (λ reading. read_defining reading) (λ reading. defining_of base key given (map (read_value reading) old.loose)) world_old world_new reply
      → Settles made meaning store (λ reading. read_defining reading) (λ ts gs set functions reading. entering_defining ts gs set functions (value_or_undefined reading value)) old new reply result
      → Does made meaning store (asked.Define base key given) old new world_old world_new tables inputs result
  unfolding asked_plan
  does_define room firm earlier kept base key given value reply reads acts settles =
      let d = did made meaning store (λ reading. read_defining reading) (λ ts gs set functions reading. entering_defining ts gs set functions (value_or_undefined reading value)) (λ reading vs. defining_of base key given vs) tables inputs old new world_old world_new reply result acts settles in
      record {
        says = λ set functions reading f steps told turns is size.
            let vs = map (read_value reading) old.loose in
            let s = state_of reading world_old told turns in
            subst (λ u. Comes tables inputs set functions reading new steps f world_new told turns (behind tables inputs set functions reading old.tasks (with_steps steps f) (following (defining_of base key given vs s) (entering_defining tables inputs set functions u steps vs))) result)
            (reads.is reading (IsReading-earlier made meaning room firm earlier store reading kept is)) (d.says set functions reading f steps told turns is size);
      }

  -- without the run's state
  pub does_alone : (what : Asked) (m : Moved T) → result ≡ Ok m → world_new ≡ world_old → Gives made meaning store (λ ts gs set functions reading. asked_plan ts gs set functions what) old new m → Does made meaning store what old new world_old world_new tables inputs result
  does_alone what m is same gives = subst (λ r. Does made meaning store what old new world_old world_new tables inputs r) (sym is) (record {
    says = λ set functions reading f steps told turns read size.
        ap₂ (λ w ls. coming tables inputs set functions reading new (next_of m) (setting_behind m steps f) (state_of reading w ls turns)) same (quiet_lines tables reading m told gives.quiet)
        ∙ gives.says tables inputs set functions reading f steps (state_of reading world_old told turns) read size;
  })

  -- a line is printed
  pub does_print : (room : S → ℕ) (firm : S → Bool) (earlier : S) → IsKept made meaning room firm earlier store → world_new ≡ world_old → (channel from : Reg) (name v : Labelled T) (reply : Result (machine.Outcome (Printed T) T) (FlowFault T))
      → Reads made meaning earlier channel old.loose name → Reads made meaning earlier from old.loose v
      → channel_answers.Prints made meaning store tables (λ reading. act tables inputs operations.print_line (read_value reading name ∷ read_value reading v ∷ [])) world_old reply
      → SettlesPrinted made meaning store old new reply result
      → Does made meaning store (asked.PrintLine channel from) old new world_old world_new tables inputs result
  unfolding asked_plan
  does_print room firm earlier kept same channel from name v reply names reads prints settles = record {
    says = λ set functions reading f steps told turns is size.
        let vs = map (read_value reading) old.loose in
        let s = state_of reading world_old told turns in
        let before = IsReading-earlier made meaning room firm earlier store reading kept is in
        let line = λ (n u : Val). act tables inputs operations.print_line (n ∷ u ∷ []) s in
        subst (λ w. Comes tables inputs set functions reading new steps f w told turns (behind tables inputs set functions reading old.tasks (with_steps steps f) (following (line (held_in channel vs) (held_in from vs)) (answered_to None steps vs))) result) (sym same)
        (subst (λ o. Comes tables inputs set functions reading new steps f world_old told turns (behind tables inputs set functions reading old.tasks (with_steps steps f) (following o (answered_to None steps vs))) result)
        (ap₂ line (names reading before) (reads reading before))
        (settles.says tables inputs set functions reading f steps world_old told turns (line (read_value reading name) (read_value reading v)) is size (prints.says reading is told turns)));
  }

-- ---- the four parts of an own property come from one call

module _ {S T : Type 0} (made : S → T → Type 0) (meaning : S → T → Label) (store : S) (tables : Tables) (inputs : Given) (base : (T → Label) → Val) (key : List ℕ) (world_old world_new : World T) where
  abbrev Each : Result (machine.Outcome (OwnProperty T) T) (FlowFault T) → Type 0
  Each reply = (part : OwnPart) → Acts made meaning store (λ reading p. read_value reading (part_in part p)) (λ reading. owned tables inputs part (base reading) key) world_old world_new reply

  abbrev behind_setter : Val → Val → Val → Val → L OwnParts
  behind_setter m v g h = ret (record { marks = m; value = v; get = g; set = h })

  abbrev behind_getter : Val → Val → Val → Val → L OwnParts
  behind_getter b m v g = owned tables inputs own_setter b key >>= behind_setter m v g

  abbrev behind_value : Val → Val → Val → L OwnParts
  behind_value b m v = owned tables inputs own_getter b key >>= behind_getter b m v

  abbrev behind_marks : Val → Val → L OwnParts
  behind_marks b m = owned tables inputs own_value b key >>= behind_value b m

  pub owns : (reply : Result (machine.Outcome (OwnProperty T) T) (FlowFault T)) → IfOk reply (IfGoes (λ p. world_new ≡ world_old)) → Each reply
      → Acts made meaning store (λ reading. read_parts reading) (λ reading. owned_all tables inputs (base reading) key) world_old world_new reply
  owns (Ok (outcome.Goes p)) still each = record {
    says = λ reading is told turns.
        let s = state_of reading world_old told turns in
        let t = state_of reading world_new told turns in
        let b = base reading in
        let same : t ≡ s = ap (λ w. state_of reading w told turns) still in
        let again : (part : OwnPart) → owned tables inputs part b key t ≡ Goes (read_value reading (part_in part p)) t = λ part. ap (owned tables inputs part b key) same ∙ (each part).says reading is told turns in
        ap (λ (o : Outcome Halt Jump Val State). and_then o (λ m. behind_marks b m)) ((each own_marks).says reading is told turns)
        ∙ ap (λ (o : Outcome Halt Jump Val State). and_then o (λ v. behind_value b (read_value reading p.marks) v)) (again own_value)
        ∙ ap (λ (o : Outcome Halt Jump Val State). and_then o (λ g. behind_getter b (read_value reading p.marks) (read_value reading p.value) g)) (again own_getter)
        ∙ ap (λ (o : Outcome Halt Jump Val State). and_then o (λ h. behind_setter (read_value reading p.marks) (read_value reading p.value) (read_value reading p.get) h)) (again own_setter);
  }
  owns (Ok (outcome.Throws v)) still each = record { says = λ reading is told turns. ap (λ (o : Outcome Halt Jump Val State). and_then o (behind_marks (base reading))) ((each own_marks).says reading is told turns) }
  owns (Ok (outcome.Leaves why)) still each = record { says = λ reading is told turns. ap (λ (o : Outcome Halt Jump Val State). and_then o (behind_marks (base reading))) ((each own_marks).says reading is told turns) }
  owns (Err (fault.Stop stop)) still each = record { says = λ reading is told turns. ap (λ (o : Outcome Halt Jump Val State). and_then o (behind_marks (base reading))) ((each own_marks).says reading is told turns) }
  owns (Err fault.OutOfMemory) still each = record { says = λ reading is told turns. tt }

-- ---- looks

module _ {S T : Type 0} (made : S → T → Type 0) (meaning : S → T → Label) (room : S → ℕ) (firm : S → Bool) (earlier later : S) (kept : IsKept made meaning room firm earlier later) where
  -- the frames were raised, and nothing else was done
  pub looked : (tables : Tables) (inputs : Given) (old : Kept T) (world_old world_new : World T) (reg : Reg) (v : Labelled T) (n : ℕ) (saw : Seen)
      → Reads made meaning earlier reg old.loose v → made earlier v.label
      → Belong made meaning earlier world_old.frames.frames → Belong made meaning later world_new.frames.frames
      → seen_frames meaning later world_new.frames.frames ≡ raised (seen_frames meaning earlier world_old.frames.frames) (length world_old.frames.frames - 1) (meaning earlier v.label)
      → world_new ≡ record world_old { frames = world_new.frames }
      → ((reading : T → Label) → saw ≡ seen (read_heap reading world_new.heap) v.value)
      → Does made meaning later (asked.Look reg) old old world_old world_new tables inputs (Ok (moved.Asks n (answer.Seen saw)))
  unfolding asked_plan
  looked tables inputs old world_old world_new reg v n saw reads m was is raises same sees = record {
    says = λ set functions reading f steps told turns read size.
        let vs = map (read_value reading) old.loose in
        let s = state_of reading world_old told turns in
        let before = IsReading-earlier made meaning room firm earlier later reading kept read in
        let held = reads reading before in
        let raise_is : state_of reading world_new told turns ≡ raised_in (reading v.label) s =
        ap (λ w. state_of reading w told turns) same ∙ read_raised made meaning room firm earlier later reading world_old.frames.frames world_new.frames.frames v.label kept was is m raises read s in
        asks_on tables inputs set functions reading old old n f steps (steps_behind steps (answer.Seen saw)) vs (state_of reading world_new told turns) refl refl size
        ∙ ap₂ (λ (a : Seen) (t : State). behind tables inputs set functions reading old.tasks (with_steps steps f) (asks (steps_behind steps (answer.Seen a)) vs t)) (sees reading) raise_is
        ∙ ap (λ (h : List (Object Label)). behind tables inputs set functions reading old.tasks (with_steps steps f) (asks (steps_behind steps (answer.Seen (seen h v.value))) vs (raised_in (reading v.label) s))) (ap (λ (w : World T). read_heap reading w.heap) same)
        ∙ ap (λ (u : Val). behind tables inputs set functions reading old.tasks (with_steps steps f) (asks (steps_behind steps (answer.Seen (seen s.heap u.value))) vs (raised_in u.label s))) held;
  }

-- without the run's state
pub does_given : {S T : Type 0} (made : S → T → Type 0) (meaning : S → T → Label) (store : S) (tables : Tables) (inputs : Given) (old new : Kept T) (world : World T) (what : Asked) (m : Moved T) → Gives made meaning store (λ ts gs set functions reading. asked_plan ts gs set functions what) old new m → Does made meaning store what old new world world tables inputs (Ok m)
does_given made meaning store tables inputs old new world what m gives = does_alone made meaning store tables inputs old new world world (Ok m) what m refl refl gives
