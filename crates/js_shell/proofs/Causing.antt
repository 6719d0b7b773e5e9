-- Which causes the statuses of replies have.
use Rattle.std.proofs.Common.{◌≡◌, ℕ, Bool, List, true, false, Option, Some, None, IfSome, refl, sym, ap, ap₂, subst, ◌∙◌, inl, inr, ◌⊎◌}
use Rattle.std.proofs.lemmas.Bool.{false≢true}
use Rattle.origin_labels.specs.Label.{Label}
use Rattle.flow_io.specs.Files.{Files}
use Rattle.flow_policy.specs.Inputs.{Given}
use Rattle.flow_policy.specs.Observed.{first_disagreement}
use Rattle.flow_policy.specs.Policies.{Tables}
use Rattle.es_meaning.specs.Outcomes.{Ending, done, threw, halted, left, out_of_turns}
use Rattle.flow_meaning.specs.Scopes.{Halt, as_plain, stopped}
use Rattle.flow_meaning.specs.Tracked.{Run}
use Rattle.low_equal.specs.Erasure.{IsErasing}
use Rattle.pair_runs.specs.Pairs.{are_finished}
use Rattle.run_files.specs.Sources.{SourceFault}
use Rattle.run_files.specs.Tasks.{Task, Fault, script_fault, policy_fault, unknown_observer, input_fault, HasNoProgram}
use Rattle.command_line.specs.Commands.{check, command_of}
use Rattle.js_shell.specs.declared.status.Status.{Status}
use Rattle.js_shell.specs.declared.status.Status.TheVariants as status
use Rattle.js_shell.specs.Answering.{Answers, replies, unread, no_memory, read_fault_reply, is_reply_status, is_cut_status}
use Rattle.js_shell.specs.Causes.{Exactly, IsOneRun, IsRun, IsPair, IsUsage, IsRefused, IsSource, IsBadPolicy, AreTwoRuns, IsDone, IsThrew, IsStopped, IsLeft, IsOutOfTurns, IsUnfinished}
use Rattle.js_shell.specs.Promises.{UnlessEarly, IsPlanned}
use Rattle.js_shell.specs.Replies.{Work, runs, pairs, tries, Plan, built_ins, tracked_run, tracked_with, status_of, Reply, both_reply, compared, pair_reply, work_reply, usage_reply, accepted_reply, made_reply, fault_status, fault_reply, refuses_program, accepts_program, refuses_files, does, IsReply, refuses_words, makes, checks, plans}
use Rattle.js_shell.proofs.Endings.{threw_erased, halted_erased}
use Rattle.js_shell.proofs.NeverStopped.{stop_broken}
use Rattle.js_shell.proofs.PairTasks.{pair_parts}
use Rattle.js_shell.proofs.PutLaws.{IsPut, whole, part, put_so}
use Rattle.js_shell.proofs.Replying.{replies_once}
use Rattle.js_shell.proofs.StatusLaws.{unless_early, cut_unless, cut_isnt}

-- the status of two runs that are compared, by whether both are finished
abbrev pub status_by : Bool → Status
status_by true = status.Done
status_by false = status.Unfinished

pub both_status : (tables : Tables) (observer : Label) (first second : Run) (b : Bool) → are_finished first second ≡ b → (both_reply tables observer first second).status ≡ status_by b
both_status tables observer first second true e = rw e refl
both_status tables observer first second false e = rw e refl

module _ (words : List (List ℕ)) (files : Files) where
  -- what there is where a reply has this status
  abbrev pub CauseOf : Status → Type 0
  CauseOf status.Done = IsDone words files
  CauseOf status.Threw = IsThrew words files
  CauseOf status.Usage = IsUsage words
  CauseOf status.Source = IsSource words files
  CauseOf status.Policy = IsBadPolicy words files
  CauseOf status.Stopped = IsStopped words files
  CauseOf status.Left = IsLeft words files
  CauseOf status.OutOfTurns = IsOutOfTurns words files
  CauseOf status.ReadFault = ⊥
  CauseOf status.WriteFault = ⊥
  CauseOf status.OutOfMemory = ⊥
  CauseOf status.Unfinished = IsUnfinished words files

  -- ---- from a reply to its cause

  fault_caused : (fault : Fault) → IsRefused words files fault → CauseOf (fault_status fault)
  fault_caused (script_fault f) r = (f, inr r)
  fault_caused (policy_fault f) r = inl (policy_fault f, refl, r)
  fault_caused (unknown_observer name) r = inl (unknown_observer name, refl, r)
  fault_caused (input_fault number f) r = inl (input_fault number f, refl, r)

  module _ (turns : ℕ) (task : Task) (observer : Label) (second : Given) (p : IsPair words files turns task observer second) where
    both_caused : (first_disagreement observer task.tables task.given second ≡ None) → (b : Bool) → are_finished (tracked_run turns task) (tracked_with turns task second) ≡ b → CauseOf (status_by b)
    both_caused none true e = inr (inr (inl (turns, task, second, (observer, p, none), e)))
    both_caused none false e = (turns, task, second, (observer, p, none), e)

    pair_caused : (o : Option ℕ) → first_disagreement observer task.tables task.given second ≡ o → CauseOf (compared turns task observer second o).status
    pair_caused (Some channel) e = inr (turns, task, observer, second, channel, p, e)
    pair_caused None e =
        let b : Bool = are_finished (tracked_run turns task) (tracked_with turns task second) in
        subst CauseOf (sym (both_status task.tables observer (tracked_run turns task) (tracked_with turns task second) b refl)) (both_caused e b refl)

  module _ (erasing : IsErasing) where
    run_caused : (turns : ℕ) (task : Task) → IsRun words files turns task → (e : Ending Halt) → (tracked_run turns task).ending ≡ e → CauseOf (status_of e)
    run_caused turns task r done e = inl (turns, task, r, e)
    run_caused turns task r (threw shown) e = (turns, task, shown, r, e, threw_erased erasing turns task shown e)
    run_caused turns task r (halted (as_plain (left name))) e = (turns, task, name, r, e, halted_erased erasing turns task (left name) e)
    run_caused turns task r (halted (as_plain out_of_turns)) e = (turns, task, r, e, halted_erased erasing turns task out_of_turns e)
    run_caused turns task r (halted (stopped rule need have)) e = (turns, task, rule, need, have, r, e, stop_broken erasing (built_ins task.tables) task.tables task.given task.program turns rule need have e)

    module _ (plan : Plan) (task : Task) (p : IsPlanned words files plan task) where
      is_run : (w : Work) → plan.work ≡ w → IsOneRun w → IsRun words files plan.turns task
      is_run w e one = record { plan = plan; planned = p; one = subst IsOneRun (sym e) one; has_turns = refl }

      work_caused : (w : Work) → plan.work ≡ w → CauseOf (work_reply w plan.turns task).status
      work_caused runs e = run_caused plan.turns task (is_run runs e tt) (tracked_run plan.turns task).ending refl
      work_caused (tries n) e = run_caused plan.turns task (is_run (tries n) e tt) (tracked_run plan.turns task).ending refl
      work_caused pairs e =
          let has = pair_parts words files plan task p e in
          subst (λ (r : Reply). CauseOf r.status) (sym (ap₂ (pair_reply plan.turns task) has.2 has.3))
          (pair_caused plan.turns task has.0 has.1 (record { plan = plan; planned = p; two = e; has_turns = refl; has_observer = has.2; has_second = has.3 }) (first_disagreement has.0 task.tables task.given has.1) refl)

    pub caused : (reply : Reply) → IsReply words files reply → CauseOf reply.status
    caused reply (refuses_words none is) = subst (λ (r : Reply). CauseOf r.status) (sym is) none
    caused reply (makes n e is) = subst (λ (r : Reply). CauseOf r.status) (sym is) (inr (inr (inr (n, e))))
    caused reply (checks path e (refuses_program f h is)) = subst (λ (r : Reply). CauseOf r.status) (sym is) (f, inl (path, e, h))
    caused reply (checks path e (accepts_program program h is)) = subst (λ (r : Reply). CauseOf r.status) (sym is) (inr (inl (path, program, e, h)))
    caused reply (plans plan e (refuses_files f j is)) = subst (λ (r : Reply). CauseOf r.status) (sym is) (fault_caused f (plan, e, j))
    caused reply (plans plan e (does task j is)) = subst (λ (r : Reply). CauseOf r.status) (sym is) (work_caused plan task (record { stated = e; accepted = j }) plan.work refl)

  -- ---- from a cause to a reply

  abbrev Replied : Status → Type 0
  Replied s = (reply : Reply) × IsReply words files reply × (reply.status ≡ s)

  pub planned_reply : (plan : Plan) (task : Task) → IsPlanned words files plan task → IsReply words files (work_reply plan.work plan.turns task)
  planned_reply plan task p = plans plan p.stated (does task p.accepted refl)

  one_status : (w : Work) (turns : ℕ) (task : Task) → IsOneRun w → (work_reply w turns task).status ≡ status_of (tracked_run turns task).ending
  one_status runs turns task one = refl
  one_status pairs turns task one = absurd one
  one_status (tries n) turns task one = refl

  run_replied : (turns : ℕ) (task : Task) → IsRun words files turns task → Replied (status_of (tracked_run turns task).ending)
  run_replied turns task r =
      (work_reply r.plan.work r.plan.turns task, planned_reply r.plan task r.planned, one_status r.plan.work r.plan.turns task r.one ∙ ap (λ (n : ℕ). status_of (tracked_run n task).ending) r.has_turns)

  run_ending : (turns : ℕ) (task : Task) (e : Ending Halt) → IsRun words files turns task → (tracked_run turns task).ending ≡ e → Replied (status_of e)
  run_ending turns task e r is = let x = run_replied turns task r in (x.0, x.1, x.2 ∙ ap status_of is)

  pair_replied : (turns : ℕ) (task : Task) (observer : Label) (second : Given) → IsPair words files turns task observer second → (o : Option ℕ) → first_disagreement observer task.tables task.given second ≡ o
      → Replied (compared turns task observer second o).status
  pair_replied turns task observer second p o e = (
    work_reply p.plan.work p.plan.turns task,
    planned_reply p.plan task p.planned,
    ap (λ (r : Reply). r.status) (ap₂ (λ (w : Work) (n : ℕ). work_reply w n task) p.two p.has_turns ∙ ap₂ (pair_reply turns task) p.has_observer p.has_second)
        ∙ ap (λ (x : Option ℕ). (compared turns task observer second x).status) e,
  )

  two_replied : (turns : ℕ) (task : Task) (second : Given) (b : Bool) → AreTwoRuns words files turns task second → are_finished (tracked_run turns task) (tracked_with turns task second) ≡ b → Replied (status_by b)
  two_replied turns task second b two e =
      let x = pair_replied turns task two.0 second two.1 None two.2 in
      (x.0, x.1, x.2 ∙ both_status task.tables two.0 (tracked_run turns task) (tracked_with turns task second) b e)

  from_done : IsDone words files → Replied status.Done
  from_done (inl h) = run_ending h.0 h.1 done h.2 h.3
  from_done (inr (inl h)) = (accepted_reply, checks h.0 h.2 (accepts_program h.1 h.3 refl), refl)
  from_done (inr (inr (inl h))) = two_replied h.0 h.1 h.2 true h.3 h.4
  from_done (inr (inr (inr h))) = (made_reply h.0, makes h.0 h.1 refl, refl)

  from_refused : (fault : Fault) → IsRefused words files fault → Replied (fault_status fault)
  from_refused fault r = (fault_reply fault, plans r.0 r.1 (refuses_files fault r.2 refl), refl)

  no_program : (fault : SourceFault) → ((path : List ℕ) × (command_of words ≡ Some (check path)) × HasNoProgram files path fault) ⊎ IsRefused words files (script_fault fault) → Replied status.Source
  no_program fault (inl h) = (fault_reply (script_fault fault), checks h.0 h.1 (refuses_program fault h.2 refl), refl)
  no_program fault (inr r) = from_refused (script_fault fault) r

  from_policy : IsBadPolicy words files → Replied status.Policy
  from_policy (inl h) = let x = from_refused h.0 h.2 in (x.0, x.1, x.2 ∙ h.1)
  from_policy (inr h) = pair_replied h.0 h.1 h.2 h.3 h.5 (Some h.4) h.6

  pub from_cause : (s : Status) → CauseOf s → Replied s
  from_cause status.Done h = from_done h
  from_cause status.Threw h = run_ending h.0 h.1 (threw h.2) h.3 h.4
  from_cause status.Usage h = (usage_reply, refuses_words h refl, refl)
  from_cause status.Source h = no_program h.0 h.1
  from_cause status.Policy h = from_policy h
  from_cause status.Stopped h = run_ending h.0 h.1 (halted (stopped h.2 h.3 h.4)) h.5 h.6
  from_cause status.Left h = run_ending h.0 h.1 (halted (as_plain (left h.2))) h.3 h.4
  from_cause status.OutOfTurns h = run_ending h.0 h.1 (halted (as_plain out_of_turns)) h.2 h.3
  from_cause status.ReadFault h = absurd h
  from_cause status.WriteFault h = absurd h
  from_cause status.OutOfMemory h = absurd h
  from_cause status.Unfinished h = two_replied h.0 h.1 h.2 false h.3 h.4

-- ---- a status comes exactly where there is its cause

module _ (words : List (List ℕ)) (files : Files) (erasing : IsErasing) (result expected : Status) (no_cut : is_cut_status expected ≡ false) (is : is_reply_status expected ≡ true) where
  cut_exactly : is_cut_status result ≡ true → Exactly result expected (CauseOf words files expected)
  cut_exactly c = (λ e. absurd (cut_isnt result expected e c no_cut), λ cause. cut_unless result (result ≡ expected) c)

  replied_exactly : (reply : Reply) → IsReply words files reply → result ≡ reply.status → Exactly result expected (CauseOf words files expected)
  replied_exactly reply h e = (
    λ f. subst (CauseOf words files) (sym e ∙ f) (caused words files erasing reply h),
    λ cause. let other = from_cause words files expected cause in unless_early result (result ≡ expected) (e ∙ ap (λ (x : Reply). x.status) (replies_once words files reply other.0 h other.1) ∙ other.2),
  )

  unread_exactly : result ≡ status.ReadFault → Exactly result expected (CauseOf words files expected)
  unread_exactly e = (λ f. absurd (false≢true (ap is_reply_status (sym e ∙ f) ∙ is)), λ cause. subst (λ (s : Status). UnlessEarly s (result ≡ expected)) (sym e) tt)

module _ (words : List (List ℕ)) (contents : Option Files) (StoreFailed : Type 0) (old new : Option (List ℕ)) (result : Status) (erasing : IsErasing) (expected : Status) (no_cut : is_cut_status expected ≡ false) (is : is_reply_status expected ≡ true) where
  pub exactly : Answers contents (IsReply words) StoreFailed old new result → IfSome contents (λ files. Exactly result expected (CauseOf words files expected))
  exactly = by contents
    where
      put_exactly : (files : Files) (reply : Reply) → IsReply words files reply → IsPut reply result old new → Exactly result expected (CauseOf words files expected)
      put_exactly files reply h (whole e p) = replied_exactly words files erasing result expected no_cut is reply h e
      put_exactly files reply h (part c p) = cut_exactly words files erasing result expected no_cut is c

      report_exactly : (files : Files) → IsPut read_fault_reply result old new → Exactly result expected (CauseOf words files expected)
      report_exactly files (whole e p) = unread_exactly words files erasing result expected no_cut is e
      report_exactly files (part c p) = cut_exactly words files erasing result expected no_cut is c

      by : (o : Option Files) → Answers o (IsReply words) StoreFailed old new result → IfSome o (λ files. Exactly result expected (CauseOf words files expected))
      by None answers = tt
      by (Some files) (replies reply h s p) = put_exactly files reply h (put_so reply result old new p)
      by (Some files) (unread failed p) = report_exactly files (put_so read_fault_reply result old new p)
      by (Some files) (no_memory e same) = cut_exactly words files erasing result expected no_cut is (ap is_cut_status e)
