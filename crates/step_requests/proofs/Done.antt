-- What comes behind requests: registers are written, functions are entered.
use Rattle.std.proofs.Common.{refl, sym, ap, ap₂, subst, ◌∙◌, ◌≡◌, ◌≤◌, ◌+◌, ℕ, List, [], ◌∷◌, ◌++◌, map, length, false, Option, Some, None, append-nil, arith}
use Rattle.std.specs.List.{All}
use Rattle.std.proofs.lemmas.List.Elements.{All-append}
use Rattle.origin_labels.specs.Label.{Label}
use Rattle.js_values.specs.declared.ids.ObjId.{ObjId}
use Rattle.js_values.specs.declared.value.Labelled.{Labelled}
use Rattle.js_values.specs.declared.value.Value.TheVariants as value
use Rattle.js_values.specs.Readings.{IsReading, HasValue, read_value}
use Rattle.native_protocol.specs.declared.registers.Reg.{Reg}
use Rattle.native_protocol.specs.declared.request.Answer.{Answer}
use Rattle.native_protocol.specs.declared.request.GivenMarks.{GivenMarks}
use Rattle.native_protocol.specs.declared.request.Answer.TheVariants as answer
use Rattle.es_meaning.specs.BuiltIns.{steps_behind}
use Rattle.es_meaning.specs.Evaluation.{call_with}
use Rattle.es_meaning.specs.Operations.{Value}
use Rattle.es_meaning.specs.Outcomes.{left}
use Rattle.es_meaning.specs.Requested.{no_marks}
use Rattle.flow_meaning.specs.Planned.{End, Give, as_plan, call_value, construct_value, enter_access, enter_count, enter_defining, enter_putting, gave}
use Rattle.flow_meaning.specs.Scopes.{Val, as_plain}
use Rattle.flow_meaning.specs.Tracked.{has_getter, has_length, has_length_given, has_setter, has_value, is_defined, is_put, set_length}
use Rattle.property_requests.specs.declared.owning.OwnProperty.{OwnProperty}
use Rattle.run_state.specs.declared.outcome.SetLength.{SetLength}
use Rattle.run_state.specs.declared.outcome.SetLength.TheVariants as put
use Rattle.continuations.specs.declared.continuation.Control.{Control}
use Rattle.continuations.specs.declared.continuation.Control.TheVariants as control
use Rattle.continuations.specs.declared.continuation.Continuation.TheVariants as continuation
use Rattle.continuations.specs.Answering.{Reads, Writes, held_in, with_steps, written_in}
use Rattle.continuations.specs.Arrays.{counts_from}
use Rattle.continuations.specs.Kept.{Kept, kept_operands, operands_of, scopes_of, waiting}
use Rattle.continuations.specs.Loads.{Adds, lift, load}
use Rattle.continuations.specs.Moving as Moving
use Rattle.continuations.specs.Resuming.{Begins}
use Rattle.continuations.specs.Pending.{behind, next_plan, values_of}
use Rattle.continuations.specs.Settings.{entrance}
use Rattle.continuations.specs.Invariant.{running}
use Rattle.continuations.proofs.Handed.{gives_alone}
use Rattle.step_requests.specs.declared.asked.Asked.TheVariants as asked
use Rattle.step_requests.specs.declared.asked.OwnRegisters.{OwnRegisters}
use Rattle.step_requests.specs.declared.moved.Moved.{Moved}
use Rattle.step_requests.specs.declared.moved.Moved.TheVariants as moved
use Rattle.step_requests.specs.Asked.{answered_to, asked_plan, entering_access, entering_defining, entering_putting, giving_parts, held_all, length_entered, value_or_undefined}
use Rattle.step_requests.specs.Doing.{Gives, HeldIn, Rests, read_parts}
use Rattle.step_requests.proofs.Going.{asks_on, leaves_idle, over, put_over, waits_length, waits_nothing, waits_value}
use Rattle.step_requests.proofs.Settled.{all_two}

-- ---- the built-in asks next

module _ {S T : Type 0} (made : S → T → Type 0) (meaning : S → T → Label) (store : S) where
  pub gives_nowhere : (v : Labelled T) (old : Kept T) (n : ℕ) → Gives made meaning store (λ tables inputs set functions reading steps vs. answered_to None steps vs (read_value reading v)) old old (moved.Asks n answer.Done)
  gives_nowhere v old n = record {
    quiet = tt;
    says = λ tables inputs set functions reading e steps s is size. asks_on tables inputs set functions reading old old n e steps (steps_behind steps answer.Done) (map (read_value reading) old.loose) s refl refl size;
  }

  pub gives_written : (to : Reg) (v : Labelled T) (old new : Kept T) (n : ℕ) → new.tasks ≡ old.tasks → Writes made meaning store to v old.loose new.loose
      → Gives made meaning store (λ tables inputs set functions reading steps vs. answered_to (Some to) steps vs (read_value reading v)) old new (moved.Asks n answer.Done)
  gives_written to v old new n tasks writes = record {
    quiet = tt;
    says = λ tables inputs set functions reading e steps s is size. asks_on tables inputs set functions reading old new n e steps (steps_behind steps answer.Done) (written_in to (read_value reading v) (map (read_value reading) old.loose)) s tasks (writes reading is) size;
  }

  -- the four parts of an own property, one after the other
  pub gives_parts : (to : OwnRegisters) (p : OwnProperty T) (old one two three new : Kept T) (n : ℕ) → one.tasks ≡ old.tasks → two.tasks ≡ one.tasks → three.tasks ≡ two.tasks → new.tasks ≡ three.tasks
      → Writes made meaning store to.marks p.marks old.loose one.loose → Writes made meaning store to.value p.value one.loose two.loose → Writes made meaning store to.get p.get two.loose three.loose → Writes made meaning store to.set p.set three.loose new.loose
      → Gives made meaning store (λ tables inputs set functions reading steps vs. giving_parts to steps vs (read_parts reading p)) old new (moved.Asks n answer.Done)
  gives_parts to p old one two three new n t1 t2 t3 t4 w1 w2 w3 w4 = record {
    quiet = tt;
    says = λ tables inputs set functions reading e steps s is size.
        asks_on tables inputs set functions reading old new n e steps (steps_behind steps answer.Done) _ s (t4 ∙ t3 ∙ t2 ∙ t1)
        (w4 reading is ∙ ap (written_in to.set (read_value reading p.set)) (w3 reading is ∙ ap (written_in to.get (read_value reading p.get)) (w2 reading is ∙ ap (written_in to.value (read_value reading p.value)) (w1 reading is)))) size;
  }

  pub gives_put : (v : Labelled T) (old : Kept T) (n : ℕ) → Gives made meaning store (λ tables inputs set functions reading steps vs. entering_putting tables inputs set functions (read_value reading v) steps vs is_put) old old (moved.Asks n answer.Done)
  unfolding enter_putting
  gives_put v old n = record {
    quiet = tt;
    says = λ tables inputs set functions reading e steps s is size. asks_on tables inputs set functions reading old old n e steps (steps_behind steps answer.Done) (map (read_value reading) old.loose) s refl refl size;
  }

  -- a definition that is done
  pub gives_defined : (label : T) (given : Option (Labelled T)) (old : Kept T) (n : ℕ)
      → Gives made meaning store (λ tables inputs set functions reading steps vs. entering_defining tables inputs set functions (value_or_undefined reading given) steps vs (is_defined (reading label))) old old (moved.Asks n answer.Done)
  unfolding enter_defining
  gives_defined label given old n = record {
    quiet = tt;
    says = λ tables inputs set functions reading e steps s is size. asks_on tables inputs set functions reading old old n e steps (steps_behind steps answer.Done) (map (read_value reading) old.loose) s refl refl size;
  }

  pub gives_read : (to : Reg) (v : Labelled T) (old new : Kept T) (m : Moved T) → Gives made meaning store (λ tables inputs set functions reading steps vs. answered_to (Some to) steps vs (read_value reading v)) old new m
      → Gives made meaning store (λ tables inputs set functions reading steps vs. entering_access tables inputs set functions to steps vs (has_value (read_value reading v))) old new m
  unfolding enter_access
  gives_read to v old new m gives = record { quiet = gives.quiet; says = gives.says }

pub asks_rests : {T : Type 0} (made : T → Type 0) (old new : Kept T) (n : ℕ) (a : Answer) → new.tasks ≡ old.tasks → length new.loose ≡ n → All (HasValue made) new.loose → Rests made old new (moved.Asks n a)
asks_rests made old new n a tasks size all = record {
  values = size;
  scopes = ap scopes_of tasks;
  natives = let same = ap waiting tasks in omega (arith, same);
  operands = λ kept. All-append (HasValue made) (kept_operands new.tasks) new.loose (subst (λ ts. All (HasValue made) (kept_operands ts)) (sym tasks) kept) all;
  adds = let same = ap load tasks in omega (arith, same);
  idle = tt;
}

-- ---- functions are entered

module _ {S T : Type 0} (made : S → T → Type 0) (meaning : S → T → Label) (store : S) (old new : Kept T) (count : ℕ) where
  pub gives_getter : (to : Reg) (label : T) (function : ObjId) (this : Labelled T) → new.tasks ≡ old.tasks ++ (continuation.Answered count (Some to), old.loose) ∷ []
      → new.loose ≡ this ∷ record { value = value.Object function; label = label } ∷ []
      → Gives made meaning store (λ tables inputs set functions reading steps vs. entering_access tables inputs set functions to steps vs (has_getter (reading label) function (read_value reading this))) old new (moved.Waits (control.Call 0))
  unfolding enter_access call_with
  gives_getter to label function this tasks loose = record {
    quiet = tt;
    says = λ tables inputs set functions reading e steps s is size.
        waits_value tables inputs set functions reading old new count e steps s size to (control.Call 0)
        (call_value functions (reading label) (value.Object function) (read_value reading this) [] (entrance tables inputs set functions) s) tasks
        (λ f. ap (λ vs. next_plan tables inputs set functions (control.Call 0) (map (read_value reading) vs) f s) loose);
  }

  pub gives_setter : (label : T) (function : ObjId) (this v : Labelled T) → new.tasks ≡ old.tasks ++ (continuation.Answered count None, old.loose) ∷ []
      → new.loose ≡ this ∷ record { value = value.Object function; label = label } ∷ v ∷ []
      → Gives made meaning store (λ tables inputs set functions reading steps vs. entering_putting tables inputs set functions (read_value reading v) steps vs (has_setter (reading label) function (read_value reading this))) old new (moved.Waits (control.Call 1))
  unfolding enter_putting call_with
  gives_setter label function this v tasks loose = record {
    quiet = tt;
    says = λ tables inputs set functions reading e steps s is size.
        waits_nothing tables inputs set functions reading old new count e steps s size (read_value reading v) (control.Call 1)
        (call_value functions (reading label) (value.Object function) (read_value reading this) (read_value reading v ∷ []) (entrance tables inputs set functions) s) tasks
        (λ f. ap (λ vs. next_plan tables inputs set functions (control.Call 1) (map (read_value reading) vs) f s) loose);
  }

  -- the `length` of an array is set
  pub gives_length : (how : SetLength) (label : T) (array : ObjId) (v : Labelled T) (middle : Kept T) (move : Control) → middle.tasks ≡ old.tasks ++ (continuation.Answered count None, old.loose) ∷ []
      → counts_from how (record { value = value.Object array; label = label }) v middle new move
      → Gives made meaning store (λ tables inputs set functions reading steps vs. length_entered tables inputs set functions how (reading label) array.0 (read_value reading v) steps vs) old new (moved.Waits move)
  gives_length how label array v middle move tasks counted = record {
    quiet = tt;
    says = λ tables inputs set functions reading e steps s is size. waits_length tables inputs set functions reading old new count e steps s size how (record { value = value.Object array; label = label }) v middle move tasks counted;
  }

  pub gives_call : (callee own to : Reg) (list : List Reg) (f this : Labelled T) (args : List (Labelled T)) (n : ℕ) → new.tasks ≡ old.tasks ++ (continuation.Answered count (Some to), old.loose) ∷ []
      → new.loose ≡ this ∷ f ∷ args → Reads made meaning store callee old.loose f → Reads made meaning store own old.loose this → HeldIn made meaning store list old.loose args
      → Gives made meaning store (λ tables inputs set functions reading. asked_plan tables inputs set functions (asked.Call callee own list to)) old new (moved.Waits (control.Call n))
  unfolding asked_plan call_with
  gives_call callee own to list f this args n tasks loose called owned given = record {
    quiet = tt;
    says = λ tables inputs set functions reading e steps s is size.
        let registers = map (read_value reading) old.loose in
        let plan = λ (u v : Val) (us : List Val). call_value functions u.label u.value v us (entrance tables inputs set functions) s in
        waits_value tables inputs set functions reading old new count e steps s size to (control.Call n) (plan (held_in callee registers) (held_in own registers) (held_all list registers)) tasks
        (λ g. ap (λ vs. next_plan tables inputs set functions (control.Call n) (map (read_value reading) vs) g s) loose
        ∙ ap₂ (λ u v. plan u v (map (read_value reading) args)) (called reading is) (owned reading is) ∙ ap (plan (held_in callee registers) (held_in own registers)) (given reading is));
  }

  pub gives_construction : (callee to : Reg) (list : List Reg) (f : Labelled T) (args : List (Labelled T)) (n : ℕ) → new.tasks ≡ old.tasks ++ (continuation.Answered count (Some to), old.loose) ∷ []
      → new.loose ≡ f ∷ args → Reads made meaning store callee old.loose f → HeldIn made meaning store list old.loose args
      → Gives made meaning store (λ tables inputs set functions reading. asked_plan tables inputs set functions (asked.Construct callee list to)) old new (moved.Waits (control.Construct n))
  unfolding asked_plan call_with
  gives_construction callee to list f args n tasks loose called given = record {
    quiet = tt;
    says = λ tables inputs set functions reading e steps s is size.
        let registers = map (read_value reading) old.loose in
        let plan = λ (u : Val) (us : List Val). construct_value set functions u.label u.value us (entrance tables inputs set functions) s in
        waits_value tables inputs set functions reading old new count e steps s size to (control.Construct n) (plan (held_in callee registers) (held_all list registers)) tasks
        (λ g. ap (λ vs. next_plan tables inputs set functions (control.Construct n) (map (read_value reading) vs) g s) loose ∙ ap₂ plan (called reading is) (given reading is));
  }

-- the `length` of an array is set by a put, and by a definition
module _ {S T : Type 0} (made : S → T → Type 0) (meaning : S → T → Label) (store : S) (label : T) (array : ObjId) (old new : Kept T) (m : Moved T) where
  pub gives_put_length : (v : Labelled T) → Gives made meaning store (λ tables inputs set functions reading steps vs. length_entered tables inputs set functions put.Put (reading label) array.0 (read_value reading v) steps vs) old new m
      → Gives made meaning store (λ tables inputs set functions reading steps vs. entering_putting tables inputs set functions (read_value reading v) steps vs (has_length (reading label) array.0)) old new m
  unfolding enter_putting
  gives_put_length v gives = record {
    quiet = gives.quiet;
    says = λ tables inputs set functions reading e steps s is size.
        let counted = enter_count (entrance tables inputs set functions) (reading label) (read_value reading v) (λ n given t. as_plan Value (set_length false (reading label) array.0 no_marks n given t)) s in
        gives.says tables inputs set functions reading e steps s is size
        ∙ ap (behind tables inputs set functions reading old.tasks (with_steps steps e)) (sym (put_over counted (answered_to None steps (map (read_value reading) old.loose) (read_value reading v))));
  }

  pub gives_defined_length : (marks : GivenMarks) (given : Option (Labelled T)) (v : Labelled T) → ((reading : T → Label) → IsReading made meaning store reading → read_value reading v ≡ value_or_undefined reading given)
      → Gives made meaning store (λ tables inputs set functions reading steps vs. length_entered tables inputs set functions (put.Define marks) (reading label) array.0 (read_value reading v) steps vs) old new m
      → Gives made meaning store (λ tables inputs set functions reading steps vs. entering_defining tables inputs set functions (value_or_undefined reading given) steps vs (has_length_given (reading label) array.0 marks)) old new m
  unfolding enter_defining
  gives_defined_length marks given v same gives = record {
    quiet = gives.quiet;
    says = λ tables inputs set functions reading e steps s is size.
        gives.says tables inputs set functions reading e steps s is size
        ∙ ap (λ u. behind tables inputs set functions reading old.tasks (with_steps steps e) (length_entered tables inputs set functions (put.Define marks) (reading label) array.0 u steps (map (read_value reading) old.loose) s)) (same reading is);
  }

-- what is left of the pending work where a built-in waits
pub waits_rests : {T : Type 0} (made : T → Type 0) (old middle new : Kept T) (move : Control) → middle.loose ≡ [] → new.tasks ≡ middle.tasks
    → scopes_of middle.tasks ≡ scopes_of old.tasks ++ [] → waiting middle.tasks ≡ waiting old.tasks + 1 → operands_of middle ≡ operands_of old → load middle.tasks ≡ load old.tasks + 1
    → All (HasValue made) old.loose → All (HasValue made) new.loose → length new.loose ≡ values_of move → lift move ≤ 8 → running move ≡ 0 → Rests made old new (moved.Waits move)
waits_rests made old middle new move none tasks scopes natives operands loads all more values low idle = record {
  values = values;
  scopes = ap scopes_of tasks ∙ scopes ∙ append-nil (scopes_of old.tasks);
  natives = let same = ap waiting tasks in omega (arith, same, natives);
  operands = λ kept.
      let whole : kept_operands middle.tasks ≡ kept_operands old.tasks ++ old.loose = sym (append-nil (kept_operands middle.tasks)) ∙ ap (λ vs. kept_operands middle.tasks ++ vs) (sym none) ∙ operands in
      let before = All-append (HasValue made) (kept_operands old.tasks) old.loose kept all in
      All-append (HasValue made) (kept_operands new.tasks) new.loose (subst (All (HasValue made)) (sym (ap kept_operands tasks ∙ whole)) before) more;
  adds = let same = ap load tasks in omega (arith, same, loads, low);
  idle = idle;
}

-- and where the `length` of an array is set, behind both conversions
pub length_rests : {T : Type 0} (made : T → Type 0) (how : SetLength) (array v : Labelled T) (old middle new : Kept T) (move : Control) → middle.loose ≡ []
    → scopes_of middle.tasks ≡ scopes_of old.tasks ++ [] → waiting middle.tasks ≡ waiting old.tasks + 1 → operands_of middle ≡ operands_of old → load middle.tasks ≡ load old.tasks + 1
    → All (HasValue made) old.loose → made array.label → made v.label → counts_from how array v middle new move → Adds 10 middle new move → Rests made old new (moved.Waits move)
length_rests made how array v old middle new move none scopes natives operands loads all m n counted adds = record {
  values = ap length counted.loose ∙ sym (ap values_of counted.moves);
  scopes = counted.scopes ∙ scopes ∙ append-nil (scopes_of old.tasks);
  natives = counted.natives ∙ natives;
  operands = λ kept.
      let whole : kept_operands middle.tasks ≡ kept_operands old.tasks ++ old.loose = sym (append-nil (kept_operands middle.tasks)) ∙ ap (λ vs. kept_operands middle.tasks ++ vs) (sym none) ∙ operands in
      let before = subst (All (HasValue made)) (sym whole) (All-append (HasValue made) (kept_operands old.tasks) old.loose kept all) in
      let both = all_two made (array ∷ v ∷ []) array v refl m n in
      subst (All (HasValue made)) (sym counted.operands) (All-append (HasValue made) (kept_operands middle.tasks ++ array ∷ v ∷ []) (array ∷ v ∷ []) (All-append (HasValue made) (kept_operands middle.tasks) (array ∷ v ∷ []) before both) both);
  adds = omega (arith, adds, loads);
  idle = ap running counted.moves;
}

-- ---- the built-in is over

module _ {S T : Type 0} (made : S → T → Type 0) (meaning : S → T → Label) (store : S) where
  pub gives_back : (from : Reg) (old new : Kept T) (v : Labelled T) → new.tasks ≡ old.tasks → new.loose ≡ v ∷ [] → Reads made meaning store from old.loose v
      → Gives made meaning store (λ tables inputs set functions reading. asked_plan tables inputs set functions (asked.Return from)) old new (moved.Ends control.Value)
  unfolding asked_plan
  gives_back from old new v tasks lies reads = record {
    quiet = tt;
    says = λ tables inputs set functions reading e steps s is size.
        gives_alone tables inputs set functions reading old new v e s tasks lies
        ∙ ap (λ u. behind tables inputs set functions reading old.tasks e (Give (gave u) s)) (reads reading is)
        ∙ over tables inputs set functions reading old e steps (Give (gave (held_in from (map (read_value reading) old.loose))) s) size;
  }

-- the run leaves by a name
module _ {T : Type 0} where
  abbrev Leaving_by : List ℕ → Kept T → Kept T → Control → Type 0
  Leaving_by name empty new move = Begins (λ tables inputs set functions e s. End (as_plain (left name)) s) empty new move

  pub gives_leave : {S : Type 0} (made : S → T → Type 0) (meaning : S → T → Label) (store : S) (name : List ℕ) (old empty new : Kept T) (move : Control) → empty ≡ record { tasks = old.tasks; loose = [] } → Leaving_by name empty new move → Moving.Rests (made store) empty new move → Adds 0 empty new move
      → Gives made meaning store (λ tables inputs set functions reading. asked_plan tables inputs set functions (asked.Leave name)) old new (moved.Ends move)
  unfolding asked_plan
  gives_leave made meaning store name old empty new move is begins rests adds =
      let goes = subst (λ k. Leaving_by name k new move) is begins in
      record {
        quiet = tt;
        says = λ tables inputs set functions reading e steps s read size.
            goes tables inputs set functions reading e s refl
            ∙ over tables inputs set functions reading old e steps (End (as_plain (left name)) s) size;
      }

  pub leave_rests : (made : T → Type 0) (name : List ℕ) (old empty new : Kept T) (move : Control) → empty ≡ record { tasks = old.tasks; loose = [] } → Leaving_by name empty new move → Moving.Rests made empty new move → Adds 0 empty new move → Rests made old new (moved.Ends move)
  leave_rests made name old empty new move is begins leaves adds =
      let cleared : Kept T = record { tasks = old.tasks; loose = [] } in
      let goes = subst (λ k. Leaving_by name k new move) is begins in
      let rests = subst (λ k. Moving.Rests made k new move) is leaves in
      let added = subst (λ k. Adds 0 k new move) is adds in
      record {
        values = rests.values;
        scopes = rests.scopes;
        natives = let same = rests.natives in omega (arith, same);
        operands = rests.operands;
        adds = omega (arith, added);
        idle = leaves_idle cleared new move _ (λ tables inputs set functions reading e s. goes tables inputs set functions reading e s refl);
      }
