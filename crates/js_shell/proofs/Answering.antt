-- How a call answers, from its parts.
use Rattle.std.proofs.Common.{◌≡◌, ℕ, List, [], Bool, true, false, Option, Some, None, IfSome, Result, Ok, Err, refl, sym, ap, subst, ◌∙◌, inl, inr, arith}
use Rattle.std.specs.Prelude.{is_some}
use Rattle.flow_io.specs.Files.{Files, file_at, Rose}
use Rattle.js_ast.specs.Trees.{Statements}
use Rattle.es_meaning.specs.Outcomes.{Ending, done, threw, halted, left, out_of_turns}
use Rattle.flow_meaning.specs.Scopes.{Halt, as_plain, stopped}
use Rattle.flow_meaning.specs.Tracked.{Run}
use Rattle.flow_policy.specs.Inputs.{Given}
use Rattle.flow_policy.specs.Observed.{first_disagreement}
use Rattle.flow_policy.specs.Policies.{Tables}
use Rattle.origin_labels.specs.Label.{Label}
use Rattle.command_line.specs.Commands.{Command, RunWords, PairWords, run, check, pair, make, trial, default_turns, command_of}
use Rattle.pair_runs.specs.Pairs.{are_finished}
use Rattle.run_files.specs.declared.refusals.Refusal.{Refusal}
use Rattle.run_files.specs.declared.refusals.Refusal.TheVariants as refusal
use Rattle.run_files.specs.Accepting.{AcceptsProgram, Accepts, IsRead}
use Rattle.run_files.specs.Seen.{seen_refusal}
use Rattle.run_files.specs.Sources.{long_source, source_utf8, bad_source}
use Rattle.run_files.specs.Tasks.{Task, Fault, script_fault, policy_fault, unknown_observer, input_fault, too_long, bad_line, IsJudged, HasScript, Reaches}
use Rattle.js_shell.specs.declared.status.Status.{Status}
use Rattle.js_shell.specs.declared.status.Status.TheVariants as status
use Rattle.js_shell.specs.Answering.{Answers, replies, unread, no_memory, Puts, read_fault_reply, Refuses, is_reply_status}
use Rattle.js_shell.specs.Causes.{Exactly, IsUsage}
use Rattle.js_shell.specs.Promises.{UnlessEarly}
use Rattle.js_shell.specs.Replies.{Work, runs, pairs, tries, Plan, run_plan, pair_plan, trial_plan, trial_files, files_for, tracked_run, tracked_with, status_of, Reply, both_reply, compared, pair_reply, trial_reply, work_reply, usage_reply, made_reply, accepted_reply, fault_status, fault_reply, IsProgramReply, refuses_program, accepts_program, IsPlanReply, refuses_files, does, IsReply, refuses_words, makes, checks, plans}
use Rattle.js_shell.proofs.PutLaws.{IsPut, whole, part, put_so, puts_isnt, puts_status}
use Rattle.js_shell.proofs.Replying.{planned_by, trial_has}
use Rattle.js_shell.proofs.StatusLaws.{unless_early, cut_unless}

-- ---- what is said of files that a store tells

pub some_map : {X : Type 0} (o : Option X) (P Q : X → Type 0) → ((x : X) → P x → Q x) → IfSome o P → IfSome o Q
some_map None P Q f p = tt
some_map (Some x) P Q f p = f x p

pub some_always : {X : Type 0} (o : Option X) (Q : X → Type 0) → ((x : X) → Q x) → IfSome o Q
some_always None Q f = tt
some_always (Some x) Q f = f x

-- ---- statuses of replies

ending_replies : (ending : Ending Halt) → is_reply_status (status_of ending) ≡ true
ending_replies done = refl
ending_replies (threw shown) = refl
ending_replies (halted (as_plain (left name))) = refl
ending_replies (halted (as_plain out_of_turns)) = refl
ending_replies (halted (stopped rule need have)) = refl

pub ending_used : (ending : Ending Halt) → status_of ending ≡ status.Usage → ⊥
ending_used done e = cc
ending_used (threw shown) e = cc
ending_used (halted (as_plain (left name))) e = cc
ending_used (halted (as_plain out_of_turns)) e = cc
ending_used (halted (stopped rule need have)) e = cc

-- a status that replies have, but for the reply to words that are no command
record IsUsed (s : Status) : Type 0 where
  replies_so : is_reply_status s ≡ true
  used : s ≡ status.Usage → ⊥

ending_is : (ending : Ending Halt) → IsUsed (status_of ending)
ending_is ending = record { replies_so = ending_replies ending; used = ending_used ending }

finished_is : (tables : Tables) (observer : Label) (first second : Run) → IsUsed (both_reply tables observer first second).status
finished_is tables observer first second = by (are_finished first second) refl
  where
    by : (b : Bool) → are_finished first second ≡ b → IsUsed (both_reply tables observer first second).status
    by true e = rw e (record { replies_so = refl; used = λ f. cc })
    by false e = rw e (record { replies_so = refl; used = λ f. cc })

compared_is : (turns : ℕ) (task : Task) (observer : Label) (second : Given) (channel : Option ℕ) → IsUsed (compared turns task observer second channel).status
compared_is turns task observer second (Some i) = record { replies_so = refl; used = λ f. cc }
compared_is turns task observer second None = finished_is task.tables observer (tracked_run turns task) (tracked_with turns task second)

pair_is : (turns : ℕ) (task : Task) (observer : Option Label) (second : Option Given) → IsUsed (pair_reply turns task observer second).status
pair_is turns task (Some observer) (Some given) = compared_is turns task observer given (first_disagreement observer task.tables task.given given)
pair_is turns task (Some observer) None = ending_is (tracked_run turns task).ending
pair_is turns task None second = ending_is (tracked_run turns task).ending

work_is : (work : Work) (turns : ℕ) (task : Task) → IsUsed (work_reply work turns task).status
work_is runs turns task = ending_is (tracked_run turns task).ending
work_is pairs turns task = pair_is turns task task.observer task.second
work_is (tries n) turns task = ending_is (tracked_run turns task).ending

fault_is : (fault : Fault) → IsUsed (fault_status fault)
fault_is (script_fault f) = record { replies_so = refl; used = λ e. cc }
fault_is (policy_fault f) = record { replies_so = refl; used = λ e. cc }
fault_is (unknown_observer name) = record { replies_so = refl; used = λ e. cc }
fault_is (input_fault number f) = record { replies_so = refl; used = λ e. cc }

-- ---- answers

module _ (contents : Option Files) (StoreFailed : Type 0) (old new : Option (List ℕ)) (result : Status) where
  -- what is one reply is another
  pub answers_wider : (Is So : Files → Reply → Type 0) → ((files : Files) (reply : Reply) → Is files reply → So files reply) → Answers contents Is StoreFailed old new result → Answers contents So StoreFailed old new result
  answers_wider Is So f (replies reply h s p) = replies reply (some_map contents _ _ (λ files k. f files reply k) h) s p
  answers_wider Is So f (unread failed p) = unread failed p
  answers_wider Is So f (no_memory e same) = no_memory e same

  -- a refusal is put as the reply to its fault, where its fault is refused so
  pub refused_answers : (Is : Files → Reply → Type 0) (r : Refusal) → IfSome (seen_refusal r) (λ fault. IfSome contents (λ files. Is files (fault_reply fault))) → (r ≡ refusal.ReadFault → StoreFailed)
      → Refuses r result old new → Answers contents Is StoreFailed old new result
  refused_answers Is refusal.LongSource h failed p = replies (fault_reply (script_fault long_source)) h refl p
  refused_answers Is (refusal.SourceUtf8 at) h failed p = replies (fault_reply (script_fault (source_utf8 at))) h refl p
  refused_answers Is (refusal.BadSource kind place) h failed p = replies (fault_reply (script_fault (bad_source kind place))) h refl p
  refused_answers Is refusal.LongPolicy h failed p = replies (fault_reply (policy_fault too_long)) h refl p
  refused_answers Is (refusal.BadPolicy line kind) h failed p = replies (fault_reply (policy_fault (bad_line (record { line = line; kind = kind })))) h refl p
  refused_answers Is (refusal.UnknownObserver name) h failed p = replies (fault_reply (unknown_observer name.now)) h refl p
  refused_answers Is (refusal.LongInput number) h failed p = replies (fault_reply (input_fault number too_long)) h refl p
  refused_answers Is (refusal.BadInput number line kind) h failed p = replies (fault_reply (input_fault number (bad_line (record { line = line; kind = kind })))) h refl p
  refused_answers Is refusal.ReadFault h failed p = unread (failed refl) p
  refused_answers Is refusal.OutOfMemory h failed p = no_memory p.0 p.1

  -- ---- a script that is checked

  program_refused : (path : List ℕ) (r : Refusal) → AcceptsProgram contents path (Err r) → IfSome (seen_refusal r) (λ fault. IfSome contents (λ files. IsProgramReply path files (fault_reply fault)))
  program_refused path refusal.LongSource h = some_map contents _ _ (λ files k. refuses_program long_source k refl) h
  program_refused path (refusal.SourceUtf8 at) h = some_map contents _ _ (λ files k. refuses_program (source_utf8 at) k refl) h
  program_refused path (refusal.BadSource kind place) h = some_map contents _ _ (λ files k. refuses_program (bad_source kind place) k refl) h
  program_refused path refusal.LongPolicy h = absurd h
  program_refused path (refusal.BadPolicy line kind) h = absurd h
  program_refused path (refusal.UnknownObserver name) h = absurd h
  program_refused path (refusal.LongInput number) h = absurd h
  program_refused path (refusal.BadInput number line kind) h = absurd h
  program_refused path refusal.ReadFault h = tt
  program_refused path refusal.OutOfMemory h = tt

  pub check_refused : (path : List ℕ) (r : Refusal) → AcceptsProgram contents path (Err r) → (r ≡ refusal.ReadFault → StoreFailed) → Refuses r result old new → Answers contents (IsProgramReply path) StoreFailed old new result
  check_refused path r h failed p = refused_answers (IsProgramReply path) r (program_refused path r h) failed p

  pub check_accepted : (path : List ℕ) (u : Unit {0}) → AcceptsProgram contents path (Ok u) → Puts accepted_reply result old new → Answers contents (IsProgramReply path) StoreFailed old new result
  check_accepted path u h p = replies accepted_reply (some_map contents (λ files. (program : Statements) × HasScript files path program) (λ files. IsProgramReply path files accepted_reply) (λ files k. accepts_program k.0 k.1 refl) h) refl p

  -- ---- files of a run

  pub plan_refused : (plan : Plan) → ((files : Files) → files_for plan.work files ≡ files) → (r : Refusal) → Accepts plan.request contents (Err r) → (r ≡ refusal.ReadFault → StoreFailed) → Refuses r result old new
      → Answers contents (IsPlanReply plan) StoreFailed old new result
  plan_refused plan outside r h failed p =
      refused_answers (IsPlanReply plan) r
      (some_map (seen_refusal r) (λ fault. IfSome contents (λ files. IsJudged plan.request files (Err fault))) (λ fault. IfSome contents (λ files. IsPlanReply plan files (fault_reply fault)))
      (λ fault k. some_map contents _ _ (λ files j. refuses_files fault (subst (λ (fs : Files). IsJudged plan.request fs (Err fault)) (sym (outside files)) j) refl) k) h) failed p

  pub plan_done : (plan : Plan) → ((files : Files) → files_for plan.work files ≡ files) → (task : Task) → Accepts plan.request contents (Ok task) → Puts (work_reply plan.work plan.turns task) result old new
      → Answers contents (IsPlanReply plan) StoreFailed old new result
  plan_done plan outside task h p =
      replies (work_reply plan.work plan.turns task)
      (some_map contents (λ files. IsJudged plan.request files (Ok task)) _ (λ files j. does task (subst (λ (fs : Files). IsJudged plan.request fs (Ok task)) (sym (outside files)) j) refl) h)
      (work_is plan.work plan.turns task).replies_so p

  -- ---- words

  module _ (words : List (List ℕ)) where
    pub words_refused : command_of words ≡ None → Puts usage_reply result old new → Answers contents (IsReply words) StoreFailed old new result
    words_refused e p = replies usage_reply (some_always contents _ (λ files. refuses_words e refl)) refl p

    pub script_made : (n : ℕ) → command_of words ≡ Some (make n) → Puts (made_reply n) result old new → Answers contents (IsReply words) StoreFailed old new result
    script_made n e p = replies (made_reply n) (some_always contents _ (λ files. makes n e refl)) refl p

    pub script_checked : (path : List ℕ) → command_of words ≡ Some (check path) → Answers contents (IsProgramReply path) StoreFailed old new result → Answers contents (IsReply words) StoreFailed old new result
    script_checked path e h = answers_wider (IsProgramReply path) (IsReply words) (λ files reply k. checks path e k) h

    pub script_run : (w : RunWords) → command_of words ≡ Some (run w) → Answers contents (IsPlanReply (run_plan w)) StoreFailed old new result → Answers contents (IsReply words) StoreFailed old new result
    script_run w e h = answers_wider (IsPlanReply (run_plan w)) (IsReply words) (λ files reply k. plans (run_plan w) (planned_by words (Some (run w)) e) k) h

    pub script_paired : (w : PairWords) → command_of words ≡ Some (pair w) → Answers contents (IsPlanReply (pair_plan w)) StoreFailed old new result → Answers contents (IsReply words) StoreFailed old new result
    script_paired w e h = answers_wider (IsPlanReply (pair_plan w)) (IsReply words) (λ files reply k. plans (pair_plan w) (planned_by words (Some (pair w)) e) k) h

    -- the files of a trial are its own, whatever the store has
    tried : (n : ℕ) (files : Files) (reply : Reply) → IsPlanReply (trial_plan n) [] reply → IsPlanReply (trial_plan n) files reply
    tried n files reply (refuses_files fault j e) = refuses_files fault j e
    tried n files reply (does task j e) = does task j e

    pub script_tried : (n : ℕ) → command_of words ≡ Some (trial n) → Answers (Some []) (IsPlanReply (trial_plan n)) ⊥ old new result → Answers contents (IsReply words) StoreFailed old new result
    script_tried n e (replies reply h s p) = replies reply (some_always contents _ (λ files. plans (trial_plan n) (planned_by words (Some (trial n)) e) (tried n files reply h))) s p
    script_tried n e (unread failed p) = absurd failed
    script_tried n e (no_memory is same) = no_memory is same

-- ---- the status of words that are no command

module _ (words : List (List ℕ)) (result : Status) where
  pub usage_put : (old new : Option (List ℕ)) → command_of words ≡ None → Puts usage_reply result old new → Exactly result status.Usage (IsUsage words)
  usage_put old new e p = (λ s. e, λ c. puts_status usage_reply result old new p)

  pub usage_unput : (c : Command) → command_of words ≡ Some c → (result ≡ status.Usage → ⊥) → Exactly result status.Usage (IsUsage words)
  usage_unput c e isnt = (λ s. absurd (isnt s), λ none. let bad : Some c ≡ None = sym e ∙ none in cc)

module _ (result : Status) (old new : Option (List ℕ)) where
  pub work_unused : (work : Work) (turns : ℕ) (task : Task) → Puts (work_reply work turns task) result old new → result ≡ status.Usage → ⊥
  work_unused work turns task p = puts_isnt (work_reply work turns task) result status.Usage old new p (work_is work turns task).used refl

  fault_unused : (fault : Fault) → Puts (fault_reply fault) result old new → result ≡ status.Usage → ⊥
  fault_unused fault p = puts_isnt (fault_reply fault) result status.Usage old new p (fault_is fault).used refl

  pub refusal_unused : (r : Refusal) → Refuses r result old new → result ≡ status.Usage → ⊥
  refusal_unused refusal.LongSource p = fault_unused (script_fault long_source) p
  refusal_unused (refusal.SourceUtf8 at) p = fault_unused (script_fault (source_utf8 at)) p
  refusal_unused (refusal.BadSource kind place) p = fault_unused (script_fault (bad_source kind place)) p
  refusal_unused refusal.LongPolicy p = fault_unused (policy_fault too_long) p
  refusal_unused (refusal.BadPolicy line kind) p = fault_unused (policy_fault (bad_line (record { line = line; kind = kind }))) p
  refusal_unused (refusal.UnknownObserver name) p = fault_unused (unknown_observer name.now) p
  refusal_unused (refusal.LongInput number) p = fault_unused (input_fault number too_long) p
  refusal_unused (refusal.BadInput number line kind) p = fault_unused (input_fault number (bad_line (record { line = line; kind = kind }))) p
  refusal_unused refusal.ReadFault p = puts_isnt read_fault_reply result status.Usage old new p (λ f. cc) refl
  refusal_unused refusal.OutOfMemory p = λ e. let bad : status.OutOfMemory ≡ status.Usage = sym p.0 ∙ e in cc

  -- ---- a call that doesn't end early counted no read fault

  module _ {A : Type 0} (P : Type 0) where
    pub refused_unless_early : (r : Refusal) → (IsRead {X = A} (Err r) → P) → Refuses r result old new → UnlessEarly result P
    refused_unless_early refusal.LongSource p q = unless_early result P (p (λ e. cc))
    refused_unless_early (refusal.SourceUtf8 at) p q = unless_early result P (p (λ e. cc))
    refused_unless_early (refusal.BadSource kind place) p q = unless_early result P (p (λ e. cc))
    refused_unless_early refusal.LongPolicy p q = unless_early result P (p (λ e. cc))
    refused_unless_early (refusal.BadPolicy line kind) p q = unless_early result P (p (λ e. cc))
    refused_unless_early (refusal.UnknownObserver name) p q = unless_early result P (p (λ e. cc))
    refused_unless_early (refusal.LongInput number) p q = unless_early result P (p (λ e. cc))
    refused_unless_early (refusal.BadInput number line kind) p q = unless_early result P (p (λ e. cc))
    refused_unless_early refusal.ReadFault p q = by (put_so read_fault_reply result old new q)
      where
        by : IsPut read_fault_reply result old new → UnlessEarly result P
        by (whole e w) = subst (λ (s : Status). UnlessEarly s P) (sym e) tt
        by (part c w) = cut_unless result P c
    refused_unless_early refusal.OutOfMemory p q = subst (λ (s : Status). UnlessEarly s P) (sym q.0) tt

-- ---- trials

no_rise : Rose 0 0 → ⊥
no_rise (inl lt) = omega arith
no_rise (inr e) = omega arith

module _ (n : ℕ) (files : Files) (is : files ≡ trial_files n) (old new : Option (List ℕ)) (result : Status) where
  judged_trial : (judged : Result Task Fault) → IsJudged (trial_plan n).request files judged → IsJudged (trial_plan n).request (trial_files n) judged
  judged_trial judged j = subst (λ (fs : Files). IsJudged (trial_plan n).request fs judged) is j

  pub trial_done : (task : Task) → Accepts (trial_plan n).request (Some files) (Ok task) → Puts (trial_reply n default_turns task) result old new → Answers (Some []) (IsPlanReply (trial_plan n)) ⊥ old new result
  trial_done task j p = replies (trial_reply n default_turns task) (does task (judged_trial (Ok task) j) refl) (work_is (tries n) default_turns task).replies_so p

  pub trial_refused : (r : Refusal) → Accepts (trial_plan n).request (Some files) (Err r) → (r ≡ refusal.ReadFault → Rose 0 0) → Refuses r result old new → Answers (Some []) (IsPlanReply (trial_plan n)) ⊥ old new result
  trial_refused r h failed p =
      refused_answers (Some []) ⊥ old new result (IsPlanReply (trial_plan n)) r
      (some_map (seen_refusal r) (λ fault. IsJudged (trial_plan n).request files (Err fault)) (λ fault. IsPlanReply (trial_plan n) [] (fault_reply fault)) (λ fault j. refuses_files fault (judged_trial (Err fault) j) refl) h)
      (λ e. no_rise (failed e)) p

-- the files that are reached are there
pub trial_asked : (n : ℕ) (files : Files) → files ≡ trial_files n → (contents : Option Files) (path : List ℕ) → Reaches contents (trial_plan n).request path → is_some (file_at files path) ≡ true
trial_asked n files is contents path h =
    let there = trial_has n path contents h in
    subst (λ (fs : Files). is_some (file_at fs path) ≡ true) (sym is) (ap (λ (o : Option (List ℕ)). is_some o) there.1)
