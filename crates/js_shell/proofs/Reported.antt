-- From the lines and the report that were put to the reply of a run.
use Rattle.std.proofs.Common.{◌≡◌, ℕ, true, false, List, [], map, ◌++◌, Option, Some, None, IfSome, refl, sym, ap, subst, ◌∙◌}
use Rattle.std.specs.Prelude.{is_some}
use Rattle.std.proofs.lemmas.Bool.{false≢true}
use Rattle.std.proofs.lemmas.List.{append-nil}
use Rattle.origin_labels.specs.Label.{Label}
use Rattle.flow_io.specs.Sinks.{IsFrontOf, Appends, AppendsFront}
use Rattle.flow_policy.specs.Policies.{Tables, IsPolicy}
use Rattle.flow_policy.specs.Inputs.{Given}
use Rattle.js_ast.specs.Trees.{Statements}
use Rattle.all_natives.specs.Together.{all_entries, all_begin, all_after, all_asks}
use Rattle.es_meaning.specs.BuiltIns.{built_ins_of}
use Rattle.es_meaning.specs.Outcomes.{Ending, done, threw, halted, left, out_of_turns}
use Rattle.flow_meaning.specs.Scopes.{Halt, as_plain, stopped}
use Rattle.flow_meaning.specs.Tracked.{Run, tracked_run}
use Rattle.flow_meaning.specs.Written.{lines_bytes, report, written}
use Rattle.run_state.specs.Names.{leaving_name}
use Rattle.step_run.specs.declared.ending.Ending as code
use Rattle.step_run.specs.declared.ending.Ending.TheVariants as ending
use Rattle.step_run.specs.declared.ending.Show.{Show}
use Rattle.step_run.specs.declared.ending.Show.TheVariants as show
use Rattle.step_run.specs.Lines.{shown_bytes}
use Rattle.step_run.specs.Ran as step
use Rattle.step_run.specs.Ran.{told_by}
use Rattle.step_run.proofs.Appending.{front_longer}
use Rattle.step_run.proofs.Kept.{AreNamed}
use Rattle.js_shell.specs.declared.status.Status.{Status}
use Rattle.js_shell.specs.declared.status.Status.TheVariants as status
use Rattle.js_shell.specs.Answering.{Puts, is_cut_status, is_write_fault}
use Rattle.js_shell.specs.Ran.{ended, has_report, show_of}
use Rattle.js_shell.specs.Replies.{built_ins, status_of, shown_to, Reply}
use Rattle.js_shell.proofs.Cutting.{cut_run}
use Rattle.js_shell.proofs.PutLaws.{puts_whole, puts_part, puts_same, puts_behind}

-- ---- endings

-- a run that is over came to no fault
pub over_open : (e : code.Ending) → is_some (told_by e) ≡ true → step.is_write_fault e ≡ false
over_open ending.Done is = refl
over_open (ending.Threw shown) is = refl
over_open (ending.Stopped rule need have) is = refl
over_open (ending.Left why) is = refl
over_open ending.OutOfTurns is = refl
over_open ending.WriteFault is = absurd (false≢true is)
over_open ending.OutOfMemory is = refl

-- the status of a fault is that of no other ending
pub ended_shut : (e : code.Ending) → is_write_fault (ended e) ≡ step.is_write_fault e
ended_shut ending.Done = refl
ended_shut (ending.Threw shown) = refl
ended_shut (ending.Stopped rule need have) = refl
ended_shut (ending.Left why) = refl
ended_shut ending.OutOfTurns = refl
ended_shut ending.WriteFault = refl
ended_shut ending.OutOfMemory = refl

pub ended_failed : (e : code.Ending) → ended e ≡ status.WriteFault → e ≡ ending.WriteFault
ended_failed ending.Done p = absurd cc
ended_failed (ending.Threw shown) p = absurd cc
ended_failed (ending.Stopped rule need have) p = absurd cc
ended_failed (ending.Left why) p = absurd cc
ended_failed ending.OutOfTurns p = absurd cc
ended_failed ending.WriteFault p = refl
ended_failed ending.OutOfMemory p = absurd cc

-- a run that is over isn't cut off
pub over_uncut : (e : code.Ending) → is_some (told_by e) ≡ true → is_cut_status (ended e) ≡ false
over_uncut ending.Done is = refl
over_uncut (ending.Threw shown) is = refl
over_uncut (ending.Stopped rule need have) is = refl
over_uncut (ending.Left why) is = refl
over_uncut ending.OutOfTurns is = refl
over_uncut ending.WriteFault is = absurd (false≢true is)
over_uncut ending.OutOfMemory is = absurd (false≢true is)

some_same : (a b : Ending Halt) → Some a ≡ Some b → a ≡ b
some_same a b e = cc

-- the status of what is told
pub told_status : (e : code.Ending) (told : Ending Halt) → told_by e ≡ Some told → status_of told ≡ ended e
told_status ending.Done told is = ap status_of (sym (some_same done told is))
told_status (ending.Threw shown) told is = ap status_of (sym (some_same (threw shown) told is))
told_status (ending.Stopped rule need have) told is = ap status_of (sym (some_same (halted (stopped rule need have)) told is))
told_status (ending.Left why) told is = ap status_of (sym (some_same (halted (as_plain (left (leaving_name why)))) told is))
told_status ending.OutOfTurns told is = ap status_of (sym (some_same (halted (as_plain out_of_turns)) told is))
told_status ending.WriteFault told is = cc
told_status ending.OutOfMemory told is = cc

-- what is said of the ending that is told
pub told_is : (o : Option (Ending Halt)) (told : Ending Halt) (Says : Ending Halt → Type 0) → o ≡ Some told → IfSome o Says → Says told
told_is o told Says is p = subst (λ (x : Option (Ending Halt)). IfSome x Says) is p

-- the built-ins have the names of the policy's origins
pub ran_with : (shows : Show) (tables : Tables) (inputs : Given) (program : Statements) (turns : ℕ) (old now : Option (List ℕ)) (e : code.Ending) (names : List (List ℕ)) → names ≡ tables.origins
    → step.Ran tables shows (tracked_run (built_ins_of all_entries all_begin (all_after names) all_asks) tables inputs program turns) old now e
    → step.Ran tables shows (tracked_run (built_ins tables) tables inputs program turns) old now e
ran_with shows tables inputs program turns old now e names is ran =
    subst (λ (o : List (List ℕ)). step.Ran tables shows (tracked_run (built_ins_of all_entries all_begin (all_after o) all_asks) tables inputs program turns) old now e) is ran

module _ (tables : Tables) (run : Run) (old now : Option (List ℕ)) where
  -- what a run that is over put
  pub over_ran : (shows : Show) (e : code.Ending) → is_some (told_by e) ≡ true → step.Ran tables shows run old now e → (told_by e ≡ Some run.ending) × Appends old now (shown_bytes shows tables run.lines)
  over_ran shows ending.Done is h = h
  over_ran shows (ending.Threw shown) is h = h
  over_ran shows (ending.Stopped rule need have) is h = h
  over_ran shows (ending.Left why) is h = h
  over_ran shows ending.OutOfTurns is h = h
  over_ran shows ending.WriteFault is h = absurd (false≢true is)
  over_ran shows ending.OutOfMemory is h = absurd (false≢true is)

  -- the reply of a run
  abbrev ran_reply : Option Label → Reply
  ran_reply seer = record { bytes = shown_to seer tables run; status = status_of run.ending }

  module _ (formed : IsPolicy tables) (named : AreNamed tables run.lines) where
    -- the shown lines are a front of what is shown
    shown_front : (seer : Option Label) → IsFrontOf (shown_bytes (show_of seer) tables run.lines) (shown_to seer tables run)
    unfolding written
    shown_front None = (report tables run.ending, refl)
    shown_front (Some observer) = ([], cut_run tables formed observer run named ∙ sym (append-nil (shown_bytes (show.Only observer) tables run.lines)))

    -- a run that was cut off
    cut_puts : (seer : Option Label) (s : Status) → is_cut_status s ≡ true → AppendsFront old now (shown_bytes (show_of seer) tables run.lines) → Puts (ran_reply seer) s old now
    cut_puts seer s c h = puts_part (ran_reply seer) s old now c (front_longer old now (shown_bytes (show_of seer) tables run.lines) (shown_to seer tables run) h (shown_front seer))

    -- a run for an observer, whose lines were put
    seen_puts : (observer : Label) (e : code.Ending) → is_some (told_by e) ≡ true → step.Ran tables (show.Only observer) run old now e → Puts (ran_reply (Some observer)) (ended e) old now
    seen_puts observer e is h =
        let over = over_ran (show.Only observer) e is h in
        puts_whole (ran_reply (Some observer)) (ended e) old now (told_status e run.ending over.0)
        (subst (λ (bytes : List ℕ). Appends old now bytes) (sym (cut_run tables formed observer run named)) over.1)

    -- a run without a report
    pub unreported_puts : (seer : Option Label) (e : code.Ending) → has_report seer e ≡ false → step.Ran tables (show_of seer) run old now e → Puts (ran_reply seer) (ended e) old now
    unreported_puts seer ending.WriteFault is h = cut_puts seer status.WriteFault refl h
    unreported_puts seer ending.OutOfMemory is h = cut_puts seer status.OutOfMemory refl h
    unreported_puts None ending.Done is h = absurd (false≢true (sym is))
    unreported_puts None (ending.Threw shown) is h = absurd (false≢true (sym is))
    unreported_puts None (ending.Stopped rule need have) is h = absurd (false≢true (sym is))
    unreported_puts None (ending.Left why) is h = absurd (false≢true (sym is))
    unreported_puts None ending.OutOfTurns is h = absurd (false≢true (sym is))
    unreported_puts (Some observer) ending.Done is h = seen_puts observer ending.Done refl h
    unreported_puts (Some observer) (ending.Threw shown) is h = seen_puts observer (ending.Threw shown) refl h
    unreported_puts (Some observer) (ending.Stopped rule need have) is h = seen_puts observer (ending.Stopped rule need have) refl h
    unreported_puts (Some observer) (ending.Left why) is h = seen_puts observer (ending.Left why) refl h
    unreported_puts (Some observer) ending.OutOfTurns is h = seen_puts observer ending.OutOfTurns refl h

  -- a run whose lines were put, and then its report
  pub reported_puts : (seer : Option Label) (e : code.Ending) (result : Status) (next : Option (List ℕ)) → has_report seer e ≡ true → step.Ran tables (show_of seer) run old now e
      → IfSome (told_by e) (λ told. Puts (record { bytes = report tables told; status = ended e }) result now next) → Puts (ran_reply seer) result old next
  unfolding written
  reported_puts (Some observer) e result next is h p = absurd (false≢true is)
  reported_puts None e result next is h p =
      let over = over_ran show.All e is h in
      let lines : List ℕ = lines_bytes (map (λ l. l.line) run.lines) in
      let put = told_is (told_by e) run.ending (λ told. Puts (record { bytes = report tables told; status = ended e }) result now next) over.0 p in
      puts_same (record { bytes = lines ++ report tables run.ending; status = ended e }) (ran_reply None) result old next
      (ap (λ (s : Status). record { bytes = lines ++ report tables run.ending; status = s }) (sym (told_status e run.ending over.0)))
      (puts_behind lines (record { bytes = report tables run.ending; status = ended e }) result old now next over.1 put)

-- a report follows only runs that are over
pub report_over : (seer : Option Label) (e : code.Ending) → has_report seer e ≡ true → is_some (told_by e) ≡ true
report_over None e is = is
report_over (Some observer) e is = absurd (false≢true is)
