-- The promises of a call, from how it answers.
use Rattle.std.proofs.Common.{◌≡◌, ℕ, ◌<◌, List, [], ◌∷◌, ◌++◌, length, Bool, true, false, Option, Some, None, IfSome, refl, sym, ap, ap₂, subst, ◌∙◌, inl, inr, ◌⊎◌, codes, arith}
use Rattle.std.proofs.lemmas.Bool.{false≢true, and_parts}
use Rattle.std.proofs.lemmas.List.{append-nil}
use Rattle.origin_labels.specs.Label.{Label}
use Rattle.flow_io.specs.Files.{Files}
use Rattle.flow_io.specs.Sinks.{IsFrontOf, Appends, AppendsFront}
use Rattle.flow_policy.specs.Inputs.{Given}
use Rattle.flow_policy.specs.Observed.{Agree, view_of, first_disagreement}
use Rattle.flow_policy.specs.Policies.{IsPolicy}
use Rattle.flow_policy.proofs.ObservedLaws.{disagree_agree}
use Rattle.es_meaning.specs.Outcomes.{Ending, done, threw, halted}
use Rattle.flow_meaning.specs.Scopes.{Halt}
use Rattle.flow_meaning.specs.Tracked.{Run}
use Rattle.low_equal.specs.Declared.{SpeaksOfDeclared}
use Rattle.low_equal.specs.Erasure.{IsErasing, Erases, goes_on, stops, monitored}
use Rattle.low_equal.specs.Laws as low
use Rattle.low_equal.specs.Laws.{IsFinishedBy}
use Rattle.pair_runs.specs.Pairs.{is_finished, are_finished}
use Rattle.run_files.specs.Tasks.{Task, read_fault_report}
use Rattle.run_files.proofs.Judging.{judged_policy}
use Rattle.step_run.proofs.Appending.{front_whole, front_nothing}
use Rattle.js_shell.specs.declared.status.Status.{Status}
use Rattle.js_shell.specs.declared.status.Status.TheVariants as status
use Rattle.js_shell.specs.Answering.{Answers, replies, unread, no_memory, read_fault_reply, is_reply_status, is_cut_status}
use Rattle.js_shell.specs.Causes.{IsEarlyFront}
use Rattle.js_shell.specs.Promises.{Told, UnlessEarly, IfEarly, IsFinished, IsPlanned, IsAsked, Isolates, IsPlain, Stops, IsCommonView, IsComplete}
use Rattle.js_shell.specs.Replies.{Work, pairs, Plan, files_for, built_ins, plain_run, tracked_run, tracked_with, status_of, written_lines, shown_to, cut, Reply, run_reply, both_reply, compared, pair_reply, work_reply, IsReply, ReadsAbsent}
use Rattle.js_shell.proofs.Causing.{planned_reply, both_status}
use Rattle.js_shell.proofs.Endings.{is_stopped, finished_by, finished_uncut, erases, plain_of, stop_of}
use Rattle.js_shell.proofs.Isolating.{isolated, cut_alike}
use Rattle.js_shell.proofs.NeverStopped.{never_stopped}
use Rattle.js_shell.proofs.PutLaws.{IsPut, whole, part, put_so}
use Rattle.js_shell.proofs.Replying.{replies_once, replies_or_absent}
use Rattle.js_shell.proofs.StatusLaws.{unless_early, cut_unless, reply_early, if_early, cut_isnt}

-- ---- what was put

-- how a call answers, with the bytes that it put
data Happens (words : List (List ℕ)) (files : Files) (StoreFailed : Type 0) (result : Status) (out : List ℕ) : Type 0 where
  replied : (reply : Reply) → IsReply words files reply → is_reply_status reply.status ≡ true → result ≡ reply.status → out ≡ reply.bytes → Happens words files StoreFailed result out
  cut_off : (reply : Reply) → IsReply words files reply → is_cut_status result ≡ true → IsFrontOf out reply.bytes → Happens words files StoreFailed result out
  unreadable : StoreFailed → result ≡ status.ReadFault → out ≡ read_fault_report → Happens words files StoreFailed result out
  unreadable_cut : StoreFailed → is_cut_status result ≡ true → IsFrontOf out read_fault_report → Happens words files StoreFailed result out
  wants_memory : result ≡ status.OutOfMemory → out ≡ [] → Happens words files StoreFailed result out

-- the bytes put, where the sink tells them
abbrev Put : Option (List ℕ) → List ℕ → (List ℕ → Type 0) → Type 0
Put old after Says = (before : List ℕ) × (out : List ℕ) × (old ≡ Some before) × (after ≡ before ++ out) × Says out

appended : (old : Option (List ℕ)) (after bytes : List ℕ) (Says : List ℕ → Type 0) → Appends old (Some after) bytes → Says bytes → Put old after Says
appended None after bytes Says p says = absurd p
appended (Some before) after bytes Says p says = (before, bytes, refl, p, says)

appended_front : (old : Option (List ℕ)) (after bytes : List ℕ) (Says : List ℕ → Type 0) → AppendsFront old (Some after) bytes → ((out : List ℕ) → IsFrontOf out bytes → Says out) → Put old after Says
appended_front None after bytes Says p says = absurd p
appended_front (Some before) after bytes Says p says = (before, p.0, refl, p.2, says p.0 p.1)

module _ (words : List (List ℕ)) (StoreFailed : Type 0) (result : Status) where
  module _ (files : Files) (old : Option (List ℕ)) (after : List ℕ) where
    reply_happens : (reply : Reply) → IsReply words files reply → is_reply_status reply.status ≡ true → IsPut reply result old (Some after) → Put old after (Happens words files StoreFailed result)
    reply_happens reply is r (whole e p) = appended old after reply.bytes _ p (replied reply is r e refl)
    reply_happens reply is r (part c p) = appended_front old after reply.bytes _ p (λ out front. cut_off reply is c front)

    report_happens : StoreFailed → IsPut read_fault_reply result old (Some after) → Put old after (Happens words files StoreFailed result)
    report_happens failed (whole e p) = appended old after read_fault_report _ p (unreadable failed e refl)
    report_happens failed (part c p) = appended_front old after read_fault_report _ p (λ out front. unreadable_cut failed c front)

    happens : Answers (Some files) (IsReply words) StoreFailed old (Some after) result → Put old after (Happens words files StoreFailed result)
    happens (replies reply is r p) = reply_happens reply is r (put_so reply result old (Some after) p)
    happens (unread failed p) = report_happens failed (put_so read_fault_reply result old (Some after) p)
    happens (no_memory e p) = (after, [], sym p, sym (append-nil after), wants_memory e refl)

  -- what follows of all that may happen is told
  tells : (contents : Option Files) (old new : Option (List ℕ)) (Says : Files → List ℕ → Type 0)
      → ((files : Files) (out : List ℕ) → Happens words files StoreFailed result out → Says files out)
      → Answers contents (IsReply words) StoreFailed old new result → Told contents old new Says
  tells contents old new Says says answers files after is_files is_after =
      let put = happens files old after (subst (λ (n : Option (List ℕ)). Answers (Some files) (IsReply words) StoreFailed old n result) is_after (subst (λ (o : Option Files). Answers o (IsReply words) StoreFailed old new result) is_files answers)) in
      (put.0, put.1, put.2, put.3, says files put.1 put.4)

  module _ (files : Files) (out : List ℕ) where
    is_reply : Happens words files StoreFailed result out → UnlessEarly result (IsReply words files (record { bytes = out; status = result }))
    is_reply (replied reply is r e p) = unless_early result _ (subst (IsReply words files) (ap (λ (x : List ℕ). record reply { bytes = x }) (sym p) ∙ ap (λ (x : Status). record { bytes = out; status = x }) (sym e)) is)
    is_reply (cut_off reply is c p) = cut_unless result _ c
    is_reply (unreadable failed e p) = subst (λ (s : Status). UnlessEarly s (IsReply words files (record { bytes = out; status = result }))) (sym e) tt
    is_reply (unreadable_cut failed c p) = cut_unless result _ c
    is_reply (wants_memory e p) = subst (λ (s : Status). UnlessEarly s (IsReply words files (record { bytes = out; status = result }))) (sym e) tt

    is_front : Happens words files StoreFailed result out → IfEarly result (IsEarlyFront words StoreFailed files out)
    is_front (replied reply is r e p) = reply_early result _ (ap is_reply_status e ∙ r)
    is_front (cut_off reply is c p) = if_early result _ (inl (reply, is, p))
    is_front (unreadable failed e p) = if_early result _ (inr (inl failed, subst (λ (x : List ℕ). IsFrontOf x read_fault_report) (sym p) (front_whole read_fault_report)))
    is_front (unreadable_cut failed c p) = if_early result _ (inr (inl failed, p))
    is_front (wants_memory e p) = if_early result _ (nothing (replies_or_absent words files))
      where
        nothing : ((reply : Reply) × IsReply words files reply) ⊎ ReadsAbsent words files → IsEarlyFront words StoreFailed files out
        nothing (inl reply) = inl (reply.0, reply.1, subst (λ (x : List ℕ). IsFrontOf x reply.0.bytes) (sym p) (front_nothing reply.0.bytes))
        nothing (inr absent) = inr (inr absent, subst (λ (x : List ℕ). IsFrontOf x read_fault_report) (sym p) (front_nothing read_fault_report))

    is_read_fault : Happens words files StoreFailed result out → result ≡ status.ReadFault → out ≡ read_fault_report
    is_read_fault (replied reply is r e p) f = absurd (false≢true (ap is_reply_status (sym f ∙ e) ∙ r))
    is_read_fault (cut_off reply is c p) f = absurd (cut_isnt result status.ReadFault f c refl)
    is_read_fault (unreadable failed e p) f = p
    is_read_fault (unreadable_cut failed c p) f = absurd (cut_isnt result status.ReadFault f c refl)
    is_read_fault (wants_memory e p) f = absurd (cut_isnt result status.ReadFault f (ap is_cut_status e) refl)

    -- a call that answers a status of replies put the reply that there is
    put_reply : (expected : Status) → is_cut_status expected ≡ false → is_reply_status expected ≡ true → Happens words files StoreFailed result out → result ≡ expected → (reply : Reply) → IsReply words files reply
        → (out ≡ reply.bytes) × (reply.status ≡ expected)
    put_reply expected no_cut replies_so (replied other is r e p) f reply h =
        let same : other ≡ reply = replies_once words files other reply is h in
        (p ∙ ap (λ (x : Reply). x.bytes) same, sym (ap (λ (x : Reply). x.status) same) ∙ sym e ∙ f)
    put_reply expected no_cut replies_so (cut_off other is c p) f reply h = absurd (cut_isnt result expected f c no_cut)
    put_reply expected no_cut replies_so (unreadable failed e p) f reply h = absurd (false≢true (ap is_reply_status (sym e ∙ f) ∙ replies_so))
    put_reply expected no_cut replies_so (unreadable_cut failed c p) f reply h = absurd (cut_isnt result expected f c no_cut)
    put_reply expected no_cut replies_so (wants_memory e p) f reply h = absurd (cut_isnt result expected f (ap is_cut_status e) no_cut)

-- ---- what is asked for

module _ (words : List (List ℕ)) (files : Files) where
  asked_reply : (turns : ℕ) (task : Task) → IsAsked words files turns task → IsReply words files (run_reply turns task)
  asked_reply turns task asked =
      subst (IsReply words files) (ap₂ (λ (w : Work) (n : ℕ). work_reply w n task) asked.is_run asked.has_turns) (planned_reply words files asked.plan task asked.planned)

  planned_policy : (plan : Plan) (task : Task) → IsPlanned words files plan task → IsPolicy task.tables
  planned_policy plan task p = judged_policy plan.request (files_for plan.work files) task p.accepted

  pair_replied : (plan : Plan) (task : Task) (observer : Label) (second : Given) → IsPlanned words files plan task → plan.work ≡ pairs → task.observer ≡ Some observer → task.second ≡ Some second
      → IsReply words files (compared plan.turns task observer second (first_disagreement observer task.tables task.given second))
  pair_replied plan task observer second p two seer other =
      subst (IsReply words files) (ap (λ (w : Work). work_reply w plan.turns task) two ∙ ap₂ (pair_reply plan.turns task) seer other) (planned_reply words files plan task p)

-- ---- a pair that is equal

finished_one : (e : Ending Halt) → is_finished e ≡ true → IsFinishedBy e
finished_one done f = tt
finished_one (threw shown) f = tt
finished_one (halted halt) f = absurd (false≢true f)

module _ (two_runs : low.IsIsolating) (turns : ℕ) (task : Task) (observer : Label) (second : Given) (formed : IsPolicy task.tables) where
  abbrev one : Run
  one = tracked_run turns task

  abbrev other : Run
  other = tracked_with turns task second

  abbrev BothViews : List ℕ → Type 0
  BothViews out = (out ≡ cut observer task.tables (written_lines one) ++ codes "! equal\n") × (out ≡ cut observer task.tables (written_lines other) ++ codes "! equal\n")

  both_views : (b : Bool) → are_finished one other ≡ b → Agree observer task.tables task.given second → (both_reply task.tables observer one other).status ≡ status.Done → BothViews (both_reply task.tables observer one other).bytes
  both_views true e agree s =
      let both = and_parts (is_finished one.ending) (is_finished other.ending) e in
      let same = cut_alike (built_ins task.tables) task.tables formed task.program two_runs observer task.given second turns turns agree (finished_one one.ending both.0) (finished_one other.ending both.1) in
      rw e (refl, ap (λ (x : List ℕ). x ++ codes "! equal\n") same)
  both_views false e agree s = let bad : status.Unfinished ≡ status.Done = sym (both_status task.tables observer one other false e) ∙ s in absurd cc

  views : (o : Option ℕ) → first_disagreement observer task.tables task.given second ≡ o → (compared turns task observer second o).status ≡ status.Done → BothViews (compared turns task observer second o).bytes
  views (Some channel) e s = absurd cc
  views None e s = both_views (are_finished one other) refl ((disagree_agree observer task.tables task.given second None (sym e)).0 refl) s

-- ---- the promises of what was put

module _ (words : List (List ℕ)) (StoreFailed : Type 0) (result : Status) (files : Files) (out : List ℕ) where
  -- a finished call put what is shown of its task's run
  finished_ran : Happens words files StoreFailed result out → IsFinished result → (turns : ℕ) (task : Task) → IsAsked words files turns task
      → (out ≡ shown_to task.observer task.tables (tracked_run turns task)) × IsFinishedBy (tracked_run turns task).ending
  finished_ran h f turns task asked =
      let uncut = finished_uncut result f in
      let is = put_reply words StoreFailed result files out result uncut.0 uncut.1 h refl (run_reply turns task) (asked_reply words files turns task asked) in
      (is.0, finished_by (tracked_run turns task).ending result is.1 f)

  isolates : low.IsIsolating → Happens words files StoreFailed result out → Isolates words result files out
  isolates two_runs h f turns task asked observer other others agree other_done =
      let is = finished_ran h f turns task asked in
      ap (view_of observer task.tables) is.0
      ∙ isolated (built_ins task.tables) task.tables (planned_policy words files asked.plan task asked.planned) task.program two_runs observer task.given other turns others agree is.1 other_done task.observer

  is_plain : IsErasing → Happens words files StoreFailed result out → IsPlain words result files out
  is_plain erasing h f turns task asked = let is = finished_ran h f turns task asked in plain_of erasing turns task out is.0 is.1

  stops_so : IsErasing → Happens words files StoreFailed result out → Stops words result files out
  stops_so erasing h s turns task asked =
      let is = put_reply words StoreFailed result files out status.Stopped refl refl h s (run_reply turns task) (asked_reply words files turns task asked) in
      let ends = is_stopped (tracked_run turns task).ending is.1 in
      stop_of erasing turns task out is.0 ends.0 ends.1 ends.2 ends.3

  is_common : low.IsIsolating → Happens words files StoreFailed result out → IsCommonView words result files out
  is_common two_runs h s plan task observer second p two seer other =
      let reply : Reply = compared plan.turns task observer second (first_disagreement observer task.tables task.given second) in
      let is = put_reply words StoreFailed result files out status.Done refl refl h s reply (pair_replied words files plan task observer second p two seer other) in
      subst (BothViews two_runs plan.turns task observer second (planned_policy words files plan task p)) (sym is.0)
      (views two_runs plan.turns task observer second (planned_policy words files plan task p) (first_disagreement observer task.tables task.given second) refl is.1)

-- ---- completeness

some_origin : (origins : List (List ℕ)) → (origins ≡ [] → ⊥) → 0 < length origins
some_origin [] f = absurd (f refl)
some_origin (origin ∷ origins) f = omega arith

module _ (words : List (List ℕ)) (files : Files) (result : Status) (erasing : IsErasing) (declared : SpeaksOfDeclared) where
  -- how a run ends whose plain run is finished
  run_ends : (turns : ℕ) (task : Task) → IsPolicy task.tables → IsFinishedBy (monitored (plain_run turns task).ending)
      → (status_of (tracked_run turns task).ending ≡ status_of (monitored (plain_run turns task).ending)) ⊎ ((status_of (tracked_run turns task).ending ≡ status.Stopped) × (0 < length task.tables.origins))
  run_ends turns task formed finished = by (erases erasing turns task)
    where
      by : Erases (tracked_run turns task) (plain_run turns task)
          → (status_of (tracked_run turns task).ending ≡ status_of (monitored (plain_run turns task).ending)) ⊎ ((status_of (tracked_run turns task).ending ≡ status.Stopped) × (0 < length task.tables.origins))
      by (goes_on same lines) = inl (ap status_of same)
      by (stops rule need have rest ends broken front) =
          inr (ap status_of ends, some_origin task.tables.origins (λ none. never_stopped erasing declared (built_ins task.tables) task.program task.tables task.given turns rule need have formed none ends))

  complete : (reply : Reply) → IsReply words files reply → result ≡ reply.status → IsComplete words result files
  complete reply h e turns task asked finished =
      let is : reply ≡ run_reply turns task = replies_once words files reply (run_reply turns task) h (asked_reply words files turns task asked) in
      let s : result ≡ status_of (tracked_run turns task).ending = e ∙ ap (λ (r : Reply). r.status) is in
      by s (run_ends turns task (planned_policy words files asked.plan task asked.planned) finished)
    where
      by : result ≡ status_of (tracked_run turns task).ending → (status_of (tracked_run turns task).ending ≡ status_of (monitored (plain_run turns task).ending)) ⊎ ((status_of (tracked_run turns task).ending ≡ status.Stopped) × (0 < length task.tables.origins))
          → (result ≡ status_of (monitored (plain_run turns task).ending)) ⊎ ((result ≡ status.Stopped) × (0 < length task.tables.origins))
      by s (inl same) = inl (s ∙ same)
      by s (inr stop) = inr (s ∙ stop.0, stop.1)

  put_complete : (reply : Reply) (old new : Option (List ℕ)) → IsReply words files reply → IsPut reply result old new → UnlessEarly result (IsComplete words result files)
  put_complete reply old new h (whole e p) = unless_early result (IsComplete words result files) (complete reply h e)
  put_complete reply old new h (part c p) = cut_unless result (IsComplete words result files) c

  report_complete : (old new : Option (List ℕ)) → IsPut read_fault_reply result old new → UnlessEarly result (IsComplete words result files)
  report_complete old new (whole e p) = subst (λ (s : Status). UnlessEarly s (IsComplete words result files)) (sym e) tt
  report_complete old new (part c p) = cut_unless result (IsComplete words result files) c

-- ---- the clauses of a call

module _ (words : List (List ℕ)) (contents : Option Files) (StoreFailed : Type 0) (old new : Option (List ℕ)) (result : Status) (answers : Answers contents (IsReply words) StoreFailed old new result) where
  pub reply_told : Told contents old new (λ files out. UnlessEarly result (IsReply words files (record { bytes = out; status = result })))
  reply_told = tells words StoreFailed result contents old new _ (is_reply words StoreFailed result) answers

  pub early_told : Told contents old new (λ files out. IfEarly result (IsEarlyFront words StoreFailed files out))
  early_told = tells words StoreFailed result contents old new _ (is_front words StoreFailed result) answers

  pub isolation_told : low.IsIsolating → Told contents old new (Isolates words result)
  isolation_told two_runs = tells words StoreFailed result contents old new _ (λ files out. isolates words StoreFailed result files out two_runs) answers

  pub plain_told : IsErasing → Told contents old new (IsPlain words result)
  plain_told erasing = tells words StoreFailed result contents old new _ (λ files out. is_plain words StoreFailed result files out erasing) answers

  pub stops_told : IsErasing → Told contents old new (Stops words result)
  stops_told erasing = tells words StoreFailed result contents old new _ (λ files out. stops_so words StoreFailed result files out erasing) answers

  pub view_told : low.IsIsolating → Told contents old new (IsCommonView words result)
  view_told two_runs = tells words StoreFailed result contents old new _ (λ files out. is_common words StoreFailed result files out two_runs) answers

  pub read_fault_told : Told contents old new (λ files out. result ≡ status.ReadFault → out ≡ read_fault_report)
  read_fault_told = tells words StoreFailed result contents old new _ (is_read_fault words StoreFailed result) answers

  pub read_fault_failed : result ≡ status.ReadFault → StoreFailed
  read_fault_failed e = by answers
    where
      put : (reply : Reply) → is_reply_status reply.status ≡ true → IsPut reply result old new → StoreFailed
      put reply r (whole f p) = absurd (false≢true (ap is_reply_status (sym e ∙ f) ∙ r))
      put reply r (part c p) = absurd (cut_isnt result status.ReadFault e c refl)

      by : Answers contents (IsReply words) StoreFailed old new result → StoreFailed
      by (replies reply h r p) = put reply r (put_so reply result old new p)
      by (unread failed p) = failed
      by (no_memory f p) = absurd (cut_isnt result status.ReadFault e (ap is_cut_status f) refl)

  pub completes : IsErasing → SpeaksOfDeclared → IfSome contents (λ files. UnlessEarly result (IsComplete words result files))
  completes erasing declared = by contents answers
    where
      by : (o : Option Files) → Answers o (IsReply words) StoreFailed old new result → IfSome o (λ files. UnlessEarly result (IsComplete words result files))
      by None h = tt
      by (Some files) (replies reply h r p) = put_complete words files result erasing declared reply old new h (put_so reply result old new p)
      by (Some files) (unread failed p) = report_complete words files result erasing declared old new (put_so read_fault_reply result old new p)
      by (Some files) (no_memory e p) = cut_unless result (IsComplete words result files) (ap is_cut_status e)
