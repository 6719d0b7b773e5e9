-- What acts reply to, handed on to the built-in that asked for them.
use Rattle.std.proofs.Common.{refl, sym, ap, ap₂, subst, ◌∙◌, ◌≡◌, ◌≤◌, ℕ, zero, suc, List, [], ◌∷◌, ◌++◌, map, length, Result, Ok, Err, arith}
use Rattle.std.specs.List.{All}
use Rattle.std.specs.Result.{IsErrAnd}
use Rattle.std.proofs.lemmas.List.Elements.{All-append}
use Rattle.origin_labels.specs.Label.{Label}
use Rattle.flow_policy.specs.Policies.{Tables}
use Rattle.flow_policy.specs.Inputs.{Given}
use Rattle.js_ast.specs.Functions.{FunctionCode}
use Rattle.flow_frames.specs.declared.faults.FlowFault.{FlowFault}
use Rattle.flow_frames.specs.declared.faults.FlowFault.TheVariants as fault
use Rattle.js_values.specs.declared.value.Labelled.{Labelled}
use Rattle.js_values.specs.Readings.{HasValue, read_value}
use Rattle.es_meaning.specs.BuiltIns.{BuiltIns}
use Rattle.es_meaning.specs.Outcomes.{left, Outcome, Goes}
use Rattle.flow_meaning.specs.Planned.{Plan, End}
use Rattle.flow_meaning.specs.Scopes.{Halt, Jump, L, LabelledLine, State, Val, as_plain, stopped}
use Rattle.channel_requests.specs.Answers.{HasPrinted}
use Rattle.channel_requests.specs.declared.printing.Printed.{Printed}
use Rattle.run_state.specs.Names.{leaving_name}
use Rattle.run_state.specs.declared.outcome.Leaving.{Leaving}
use Rattle.run_state.specs.declared.outcome.Outcome as machine
use Rattle.run_state.specs.declared.outcome.Outcome.TheVariants as outcomes
use Rattle.run_state.specs.declared.world.World.{World}
use Rattle.run_state.specs.Acts.{Acts, HasAnswer, Says}
use Rattle.run_state.specs.Worlds.{state_of}
use Rattle.step_objects.specs.Standing.{StandsBy}
use Rattle.continuations.specs.declared.continuation.Jump.TheVariants as jump
use Rattle.continuations.specs.declared.continuation.Control.{Control}
use Rattle.continuations.specs.declared.continuation.Control.TheVariants as control
use Rattle.continuations.specs.Answering.{with_steps}
use Rattle.continuations.specs.Kept.{Kept, kept_operands, waiting}
use Rattle.continuations.specs.Loads.{Adds, lift}
use Rattle.continuations.specs.Moving as Moving
use Rattle.continuations.specs.Moving.{Stands, following}
use Rattle.continuations.specs.Pending.{behind, values_of}
use Rattle.continuations.specs.Resuming.{Begins, coming}
use Rattle.continuations.specs.Settings.{Setting}
use Rattle.continuations.specs.Invariant.{running}
use Rattle.continuations.proofs.Handed.{behind_end, jumps_alone}
use Rattle.step_requests.specs.declared.moved.Moved.{Moved}
use Rattle.step_requests.specs.declared.moved.Moved.TheVariants as moved
use Rattle.step_requests.specs.declared.handing_on.Went.{Went}
use Rattle.step_requests.specs.declared.handing_on.Went.TheVariants as went
use Rattle.step_requests.specs.Doing.{DoingWith, DoesBy, Gives, IsIdle, IsQuiet, Leaves, Left, Parts, Rests, Settles, lines_of, next_of, setting_behind}
use Rattle.step_requests.proofs.Going.{leaves_idle, over}

pub only : {X : Type 0} (P : X → Type 0) (v : X) → P v → All P (v ∷ [])
only P v has zero d lt = has
only P v has (suc k) d lt = absurd (omega (arith, lt))

-- ---- frames

pub level : {T : Type 0} (old new : World T) (move : Control) → length new.frames.frames ≡ length old.frames.frames → Stands old new move
level old new (control.Jumps j) same = omega (arith, same)
level old new move same = same

-- ---- stacks

module _ {T : Type 0} where
  pub thrown_alone : (old cleared new : Kept T) (v : Labelled T) → cleared.tasks ≡ old.tasks → cleared.loose ≡ [] → new.tasks ≡ cleared.tasks → new.loose ≡ cleared.loose ++ v ∷ [] → new ≡ record { tasks = old.tasks; loose = v ∷ [] }
  thrown_alone old cleared new v tasks none same laid = ap₂ (λ ts vs. record { tasks = ts; loose = vs }) (same ∙ tasks) (laid ∙ ap (λ vs. vs ++ v ∷ []) none)

  pub cleared_alone : (old new : Kept T) → new.tasks ≡ old.tasks → new.loose ≡ [] → new ≡ record { tasks = old.tasks; loose = [] }
  cleared_alone old new tasks none = ap₂ (λ ts vs. record { tasks = ts; loose = vs }) tasks none

  -- a value that lies alone behind a built-in that is over
  pub alone_rests : (made : T → Type 0) (old : Kept T) (v : Labelled T) (move : Control) → made v.label → running move ≡ 0 → length (v ∷ []) ≡ values_of move → lift move ≤ 7 → Rests made old (record { tasks = old.tasks; loose = v ∷ [] }) (moved.Ends move)
  alone_rests made old v move has idle values low = record {
    values = values;
    scopes = refl;
    natives = omega arith;
    operands = λ all. All-append (HasValue made) (kept_operands old.tasks) (v ∷ []) all (only (HasValue made) v has);
    adds = omega (arith, low);
    idle = idle;
  }

  off_throws : (made : T → Type 0) (old : Kept T) (v : Labelled T) → made v.label → Rests made old (record { tasks = old.tasks; loose = v ∷ [] }) (moved.Ends (control.Jumps jump.Throws))
  off_throws made old v has = alone_rests made old v (control.Jumps jump.Throws) has refl refl (omega arith)

module _ {X T : Type 0} where
  -- an act that doesn't go on: what is left of the pending work
  pub off_rests : (has : X → Type 0) (made : T → Type 0) (old new : Kept T) (reply : Result (machine.Outcome X T) (FlowFault T)) (move : Control) → HasAnswer has made reply → Parts made old new reply (Ok (went.Off move)) → Rests made old new (moved.Ends move)
  off_rests has made old new (Ok (outcomes.Goes x)) move answer parts = absurd parts
  off_rests has made old new (Ok (outcomes.Throws v)) move answer parts = subst (λ m. Rests made old new (moved.Ends m)) (sym parts.0) (subst (λ k. Rests made old k (moved.Ends (control.Jumps jump.Throws))) (sym parts.1) (off_throws made old v answer))
  off_rests has made old new (Ok (outcomes.Leaves why)) move answer parts =
      let rests = parts.rests in
      let adds = parts.adds in
      record {
        values = rests.values;
        scopes = rests.scopes;
        natives = let same = rests.natives in omega (arith, same);
        operands = rests.operands;
        adds = omega (arith, adds);
        idle = leaves_idle old new move _ (λ tables inputs set functions reading e s. parts.goes_on tables inputs set functions reading e s refl);
      }
  off_rests has made old new (Err f) move answer parts = absurd parts

  pub off_stands : (made : T → Type 0) (world_old world_new : World T) (old new : Kept T) (reply : Result (machine.Outcome X T) (FlowFault T)) (move : Control) → StandsBy world_old world_new reply → Parts made old new reply (Ok (went.Off move)) → Stands world_old world_new move
  off_stands made world_old world_new old new (Ok (outcomes.Goes x)) move stands parts = absurd parts
  off_stands made world_old world_new old new (Ok (outcomes.Throws v)) move stands parts = subst (Stands world_old world_new) (sym parts.0) stands
  off_stands made world_old world_new old new (Ok (outcomes.Leaves why)) move stands parts = level world_old world_new move stands
  off_stands made world_old world_new old new (Err f) move stands parts = absurd parts

  -- both
  pub off_leaves : (has : X → Type 0) (made : T → Type 0) (old new : Kept T) (reply : Result (machine.Outcome X T) (FlowFault T)) (move : Control) → HasAnswer has made reply → Parts made old new reply (Ok (went.Off move)) → (world_old world_new : World T) → StandsBy world_old world_new reply → Leaves made old new world_old world_new (moved.Ends move)
  off_leaves has made old new reply move answer parts world_old world_new stands = record { rests = off_rests has made old new reply move answer parts; stands = off_stands made world_old world_new old new reply move stands parts }

  -- one that goes on
  pub part_on : (made : T → Type 0) (old new : Kept T) (reply : Result (machine.Outcome X T) (FlowFault T)) (y : X) → Parts made old new reply (Ok (went.On y)) → (reply ≡ Ok (outcomes.Goes y)) × (new ≡ old)
  part_on made old new (Ok (outcomes.Goes x)) y parts = (ap (λ (z : X). Ok (outcomes.Goes z)) parts.0, parts.1)
  part_on made old new (Ok (outcomes.Throws v)) y parts = absurd parts
  part_on made old new (Ok (outcomes.Leaves why)) y parts = absurd parts
  part_on made old new (Err f) y parts = absurd parts

  -- a `?` hands on the fault
  pub parts_passes : (made : T → Type 0) (old new : Kept T) (f : FlowFault T) (result : Result (Went X) (FlowFault T)) → IsErrAnd result (λ g. g ≡ f) → Parts made old new (Err f) result
  parts_passes made old new f (Ok x) is = absurd is
  parts_passes made old new f (Err g) is = is

-- without a line, the lines are those before
pub quiet_lines : {T : Type 0} (tables : Tables) (reading : T → Label) (m : Moved T) (told : List LabelledLine) → IsQuiet m → lines_of tables reading m told ≡ told
quiet_lines tables reading (moved.Asks count answer) told quiet = refl
quiet_lines tables reading (moved.Prints count line) told quiet = absurd quiet
quiet_lines tables reading (moved.Waits move) told quiet = refl
quiet_lines tables reading (moved.Ends move) told quiet = refl

-- ---- plans

module _ {S T X Y : Type 0} (made : S → T → Type 0) (meaning : S → T → Label) (store : S) (read : (T → Label) → X → Y) (k : DoingWith T Y) where
  pub off_comes : (has : T → Type 0) (tables : Tables) (inputs : Given) (set : BuiltIns) (functions : List FunctionCode) (reading : T → Label) (e : Setting) (s : State) (outcome : Outcome Halt Jump Y State) (next_plan : Y → State → Plan) (old new : Kept T) (reply : Result (machine.Outcome X T) (FlowFault T)) (move : Control)
      → Says (read reading) reading outcome s reply → Parts has old new reply (Ok (went.Off move))
      → coming tables inputs set functions reading new move e s ≡ behind tables inputs set functions reading old.tasks e (following outcome next_plan)
  off_comes has tables inputs set functions reading e s outcome next_plan old new (Ok (outcomes.Goes x)) move says parts = absurd parts
  off_comes has tables inputs set functions reading e s outcome next_plan old new (Ok (outcomes.Throws v)) move says parts =
      ap (λ m. coming tables inputs set functions reading new m e s) parts.0
      ∙ jumps_alone tables inputs set functions reading jump.Throws old new v e s (ap (λ (q : Kept T). q.tasks) parts.1) (ap (λ (q : Kept T). q.loose) parts.1)
      ∙ ap (λ o. behind tables inputs set functions reading old.tasks e (following o next_plan)) (sym says)
  off_comes has tables inputs set functions reading e s outcome next_plan old new (Ok (outcomes.Leaves why)) move says parts =
      parts.goes_on tables inputs set functions reading e s refl ∙ ap (λ o. behind tables inputs set functions reading old.tasks e (following o next_plan)) (sym says)
  off_comes has tables inputs set functions reading e s outcome next_plan old new (Err f) move says parts = absurd parts

  pub settles_off : (has : T → Type 0) (old new : Kept T) (reply : Result (machine.Outcome X T) (FlowFault T)) (move : Control) → Parts has old new reply (Ok (went.Off move)) → Settles made meaning store read k old new reply (Ok (moved.Ends move))
  settles_off has old new reply move parts = record {
    says = λ tables inputs set functions reading e steps w told turns outcome is size says.
        let then = k tables inputs set functions reading steps (map (read_value reading) old.loose) in
        off_comes has tables inputs set functions reading e (state_of reading w told turns) outcome then old new reply move says parts ∙ over tables inputs set functions reading old e steps (following outcome then) size;
  }

  pub settles_on : (has : T → Type 0) (old between new : Kept T) (reply : Result (machine.Outcome X T) (FlowFault T)) (x : X) (m : Moved T) → Parts has old between reply (Ok (went.On x))
      → Gives made meaning store (λ tables inputs set functions reading steps vs. k tables inputs set functions reading steps vs (read reading x)) between new m
      → Settles made meaning store read k old new reply (Ok m)
  settles_on has old between new reply x m parts gives = record {
    says = λ tables inputs set functions reading e steps w told turns outcome is size says.
        let part = part_on has old between reply x parts in
        let s = state_of reading w told turns in
        let went : outcome ≡ Goes (read reading x) s = subst (λ c. Says (read reading) reading outcome s c) part.0 says in
        let same : waiting between.tasks ≡ waiting old.tasks = ap (λ (q : Kept T). waiting q.tasks) part.1 in
        ap (λ ls. coming tables inputs set functions reading new (next_of m) (setting_behind m steps e) (state_of reading w ls turns)) (quiet_lines tables reading m told gives.quiet)
        ∙ gives.says tables inputs set functions reading e steps s is (size ∙ sym same)
        ∙ ap (λ (q : Kept T). behind tables inputs set functions reading q.tasks (with_steps steps e) (k tables inputs set functions reading steps (map (read_value reading) q.loose) (read reading x) s)) part.1
        ∙ ap (λ o. behind tables inputs set functions reading old.tasks (with_steps steps e) (following o (k tables inputs set functions reading steps (map (read_value reading) old.loose)))) (sym went);
  }

  settles_fault : (has : T → Type 0) (old between new : Kept T) (reply : Result (machine.Outcome X T) (FlowFault T)) (g : FlowFault T) → Parts has old between reply (Err g) → Settles made meaning store read k old new reply (Err g)
  settles_fault has old between new (Ok answer) g parts = subst (λ (h : FlowFault T). Settles made meaning store read k old new (Ok answer) (Err h)) (sym (failed answer parts)) (record { says = λ tables inputs set functions reading e steps w told turns outcome is size says. tt })
    where
      failed : (answer : machine.Outcome X T) → Parts has old between (Ok answer) (Err g) → g ≡ fault.OutOfMemory
      failed (outcomes.Goes x) parts = parts
      failed (outcomes.Throws v) parts = parts
      failed (outcomes.Leaves why) parts = parts
  settles_fault has old between new (Err (fault.Stop stop)) g parts = subst (λ (h : FlowFault T). Settles made meaning store read k old new (Err (fault.Stop stop)) (Err h)) (sym parts) (record {
    says = λ tables inputs set functions reading e steps w told turns outcome is size says.
        sym (behind_end tables inputs set functions reading old.tasks (with_steps steps e) (stopped stop.rule (reading stop.need) (reading stop.have)) (state_of reading w told turns))
        ∙ ap (λ o. behind tables inputs set functions reading old.tasks (with_steps steps e) (following o (k tables inputs set functions reading steps (map (read_value reading) old.loose)))) (sym says);
  })
  settles_fault has old between new (Err fault.OutOfMemory) g parts = subst (λ (h : FlowFault T). Settles made meaning store read k old new (Err fault.OutOfMemory) (Err h)) (sym parts) (record { says = λ tables inputs set functions reading e steps w told turns outcome is size says. tt })

  pub settles_err : (has : T → Type 0) (old between new : Kept T) (reply : Result (machine.Outcome X T) (FlowFault T)) (g : FlowFault T) (result : Result (Moved T) (FlowFault T)) → Parts has old between reply (Err g) → IsErrAnd result (λ h. h ≡ g) → Settles made meaning store read k old new reply result
  settles_err has old between new reply g (Ok m) parts is = absurd is
  settles_err has old between new reply g (Err h) parts is = subst (λ (i : FlowFault T). Settles made meaning store read k old new reply (Err i)) (sym is) (settles_fault has old between new reply g parts)

  -- want of memory
  pub settles_none : (old new : Kept T) (reply : Result (machine.Outcome X T) (FlowFault T)) (result : Result (Moved T) (FlowFault T)) → IsErrAnd result (λ h. h ≡ fault.OutOfMemory) → Settles made meaning store read k old new reply result
  settles_none old new reply (Ok m) is = absurd is
  settles_none old new reply (Err h) is = subst (λ (i : FlowFault T). Settles made meaning store read k old new reply (Err i)) (sym is) (record { says = λ tables inputs set functions reading e steps w told turns outcome is size says. tt })

  -- an act of the registers, and what is done with what it reply to
  pub did : (act : (T → Label) → List Val → L Y) (tables : Tables) (inputs : Given) (old new : Kept T) (world_old world_new : World T) (reply : Result (machine.Outcome X T) (FlowFault T)) (result : Result (Moved T) (FlowFault T))
      → Acts made meaning store read (λ reading. act reading (map (read_value reading) old.loose)) world_old world_new reply
      → Settles made meaning store read k old new reply result
      → DoesBy made meaning store (λ ts gs set functions reading steps vs s. following (act reading vs s) (k ts gs set functions reading steps vs)) old new world_old world_new tables inputs result
  did act tables inputs old new world_old world_new reply result acts settles = record {
    says = λ set functions reading e steps told turns is size.
        settles.says tables inputs set functions reading e steps world_new told turns (act reading (map (read_value reading) old.loose) (state_of reading world_old told turns)) is size (acts.says reading is told turns);
  }

module _ {T : Type 0} where
  -- what a call leaves that goes on behind an act
  pub on_leaves : {X : Type 0} (made : T → Type 0) (old between new : Kept T) (reply : Result (machine.Outcome X T) (FlowFault T)) (x : X) (m : Moved T) → Parts made old between reply (Ok (went.On x)) → Rests made between new m → (world_old world_new : World T) → StandsBy world_old world_new reply → Leaves made old new world_old world_new m
  on_leaves made old between new reply x m parts rests world_old world_new stands =
      let part = part_on made old between reply x parts in
      record {
        rests = subst (λ q. Rests made q new m) part.1 rests;
        stands = on_stands m rests.idle (subst (StandsBy world_old world_new) part.0 stands);
      }
    where
      on_stands : (m : Moved T) → IsIdle m → length world_new.frames.frames ≡ length world_old.frames.frames → Stands world_old world_new (next_of m)
      on_stands m idle same = level world_old world_new (next_of m) same

-- ---- what is left, by its parts

module _ {T : Type 0} (made : T → Type 0) where
  -- a run that leaves
  pub left_at : (why : Leaving) (old empty new : Kept T) (move : Control) → empty ≡ record { tasks = old.tasks; loose = [] }
      → Begins (λ tables inputs set functions e s. End (as_plain (left (leaving_name why))) s) empty new move → Moving.Rests made empty new move → Adds 0 empty new move → Left made why old new move
  left_at why old empty new move is begins rests adds = record {
    goes_on = subst (λ k. Begins (λ tables inputs set functions e s. End (as_plain (left (leaving_name why))) s) k new move) is begins;
    rests = subst (λ k. Moving.Rests made k new move) is rests;
    adds = subst (λ k. Adds 0 k new move) is adds;
  }

  pub all_two : (vs : List (Labelled T)) (u v : Labelled T) → vs ≡ u ∷ v ∷ [] → made u.label → made v.label → All (HasValue made) vs
  all_two vs u v is m n = subst (All (HasValue made)) (sym is) (All-append (HasValue made) (u ∷ []) (v ∷ []) (only (HasValue made) u m) (only (HasValue made) v n))

  pub all_three : (vs : List (Labelled T)) (u v w : Labelled T) → vs ≡ u ∷ v ∷ w ∷ [] → made u.label → made v.label → made w.label → All (HasValue made) vs
  all_three vs u v w is m n o = subst (All (HasValue made)) (sym is) (All-append (HasValue made) (u ∷ v ∷ []) (w ∷ []) (all_two (u ∷ v ∷ []) u v refl m n) (only (HasValue made) w o))

  pub all_behind : (vs front back : List (Labelled T)) → vs ≡ front ++ back → All (HasValue made) front → All (HasValue made) back → All (HasValue made) vs
  all_behind vs front back is before after = subst (All (HasValue made)) (sym is) (All-append (HasValue made) front back before after)

  -- a line was printed
  pub printed_has : (old new : Kept T) (reply : Result (machine.Outcome (Printed T) T) (FlowFault T)) (p : Printed T) → HasAnswer (HasPrinted made) made reply → Parts made old new reply (Ok (went.On p)) → HasPrinted made p
  printed_has old new reply p answer parts = subst (HasAnswer (HasPrinted made) made) (part_on made old new reply p parts).0 answer

  pub printed_leaves : (old new : Kept T) (reply : Result (machine.Outcome (Printed T) T) (FlowFault T)) (p : Printed T) (n : ℕ) → Parts made old new reply (Ok (went.On p)) → length old.loose ≡ n → All (HasValue made) old.loose → (world : World T) → Leaves made old new world world (moved.Prints n p)
  printed_leaves old new reply p n parts size all world = subst (λ k. Leaves made old k world world (moved.Prints n p)) (sym (part_on made old new reply p parts).1) (record {
    rests = record {
      values = size;
      scopes = refl;
      natives = omega arith;
      operands = λ kept. All-append (HasValue made) (kept_operands old.tasks) old.loose kept all;
      adds = omega arith;
      idle = tt;
    };
    stands = refl;
  })

-- an act that changes no world leaves the frames
pub still_stands : {X T : Type 0} (world : World T) (reply : Result (machine.Outcome X T) (FlowFault T)) → StandsBy world world reply
still_stands world (Ok (outcomes.Goes x)) = refl
still_stands world (Ok (outcomes.Throws v)) = omega arith
still_stands world (Ok (outcomes.Leaves why)) = refl
still_stands world (Err f) = tt

-- an act that never goes on doesn't
pub never_on : {X T : Type 0} (made : T → Type 0) (old new : Kept T) (reply : Result (machine.Outcome X T) (FlowFault T)) (x : X) → HasAnswer (λ y. ⊥) made reply → Parts made old new reply (Ok (went.On x)) → ⊥
never_on made old new reply x answer parts = subst (HasAnswer (λ y. ⊥) made) (part_on made old new reply x parts).0 answer
