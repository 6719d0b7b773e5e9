-- Words over files have one reply, and one at least unless the work reaches an absent file.
use Rattle.std.proofs.Common.{◌≡◌, ℕ, List, Option, Some, None, Result, Ok, Err, codes, refl, sym, ap, subst, ◌∙◌, inl, inr, ◌⊎◌}
use Rattle.flow_io.specs.Files.{Files, file_at}
use Rattle.command_line.specs.Commands.{Command, run, check, pair, make, trial, command_of}
use Rattle.script_maker.specs.Made.{made}
use Rattle.run_files.specs.Sources.{SourceFault}
use Rattle.run_files.specs.Tasks.{Task, Fault, script_fault, IsJudged, Reaches, reaches_script, reaches_policy, reaches_input, reaches_second, ReachesAbsent}
use Rattle.run_files.proofs.Sourced.{ProgramOrFault, program_judged}
use Rattle.run_files.proofs.Judging.{script_or_not, script_fault_is, judged_once, judged_or_absent}
use Rattle.js_shell.specs.Replies.{Plan, run_plan, pair_plan, trial_plan, plan_of_command, planned, trial_files, files_for, work_reply, Reply, usage_reply, accepted_reply, made_reply, fault_reply, IsProgramReply, refuses_program, accepts_program, IsPlanReply, refuses_files, does, IsReply, refuses_words, makes, checks, plans, IsOutside, reads_program, reads_files, ReadsAbsent}
use Rattle.js_shell.specs.Promises.{RepliesOnce}

-- ---- what is planned

module _ (words : List (List ℕ)) where
  pub planned_by : (o : Option Command) → command_of words ≡ o → planned words ≡ plan_of_command o
  unfolding planned
  planned_by o e = ap plan_of_command e

some_same : {X : Type 0} (x y : X) → Some x ≡ Some y → x ≡ y
some_same x y e = cc

-- ---- one at most

module _ (files : Files) where
  program_once : (path : List ℕ) (a b : Reply) → IsProgramReply path files a → IsProgramReply path files b → a ≡ b
  program_once path a b (refuses_program f h e) (refuses_program g k d) = e ∙ ap (λ (x : SourceFault). fault_reply (script_fault x)) (script_fault_is files path f g h k) ∙ sym d
  program_once path a b (refuses_program f h e) (accepts_program p k d) = absurd (script_or_not files path p f k h)
  program_once path a b (accepts_program p k d) (refuses_program f h e) = absurd (script_or_not files path p f k h)
  program_once path a b (accepts_program p h e) (accepts_program q k d) = e ∙ sym d

  plan_once : (plan : Plan) (a b : Reply) → IsPlanReply plan files a → IsPlanReply plan files b → a ≡ b
  plan_once plan a b (refuses_files f h e) (refuses_files g k d) =
      let same : Err f ≡ Err g = judged_once plan.request (files_for plan.work files) (Err f) (Err g) h k in
      let is : f ≡ g = cc in
      e ∙ ap fault_reply is ∙ sym d
  plan_once plan a b (refuses_files f h e) (does t k d) = let bad : Err f ≡ Ok t = judged_once plan.request (files_for plan.work files) (Err f) (Ok t) h k in absurd cc
  plan_once plan a b (does t k d) (refuses_files f h e) = let bad : Err f ≡ Ok t = judged_once plan.request (files_for plan.work files) (Err f) (Ok t) h k in absurd cc
  plan_once plan a b (does t h e) (does u k d) =
      let same : Ok t ≡ Ok u = judged_once plan.request (files_for plan.work files) (Ok t) (Ok u) h k in
      let is : t ≡ u = cc in
      e ∙ ap (work_reply plan.work plan.turns) is ∙ sym d

module _ (words : List (List ℕ)) (files : Files) (a b : Reply) where
  none_planned : (plan : Plan) → command_of words ≡ None → planned words ≡ Some plan → ⊥
  none_planned plan e p = let bad : None ≡ Some plan = sym (planned_by words None e) ∙ p in cc

  made_planned : (n : ℕ) (plan : Plan) → command_of words ≡ Some (make n) → planned words ≡ Some plan → ⊥
  made_planned n plan e p = let bad : None ≡ Some plan = sym (planned_by words (Some (make n)) e) ∙ p in cc

  checked_planned : (path : List ℕ) (plan : Plan) → command_of words ≡ Some (check path) → planned words ≡ Some plan → ⊥
  checked_planned path plan e p = let bad : None ≡ Some plan = sym (planned_by words (Some (check path)) e) ∙ p in cc

  none_some : (c : Command) → command_of words ≡ None → command_of words ≡ Some c → ⊥
  none_some c e d = cc

  made_checked : (n : ℕ) (path : List ℕ) → command_of words ≡ Some (make n) → command_of words ≡ Some (check path) → ⊥
  made_checked n path e d = let bad : make n ≡ check path = some_same (make n) (check path) (sym e ∙ d) in cc

  made_same : (n m : ℕ) → command_of words ≡ Some (make n) → command_of words ≡ Some (make m) → n ≡ m
  made_same n m e d = let same : make n ≡ make m = some_same (make n) (make m) (sym e ∙ d) in cc

  checked_same : (p q : List ℕ) → command_of words ≡ Some (check p) → command_of words ≡ Some (check q) → p ≡ q
  checked_same p q e d = let same : check p ≡ check q = some_same (check p) (check q) (sym e ∙ d) in cc

  once : IsReply words files a → IsReply words files b → a ≡ b
  once (refuses_words h e) (refuses_words k d) = e ∙ sym d
  once (refuses_words h e) (makes n k d) = absurd (none_some (make n) h k)
  once (refuses_words h e) (checks p k d) = absurd (none_some (check p) h k)
  once (refuses_words h e) (plans p k d) = absurd (none_planned p h k)
  once (makes n k d) (refuses_words h e) = absurd (none_some (make n) h k)
  once (makes n h e) (makes m k d) = e ∙ ap made_reply (made_same n m h k) ∙ sym d
  once (makes n h e) (checks p k d) = absurd (made_checked n p h k)
  once (makes n h e) (plans p k d) = absurd (made_planned n p h k)
  once (checks p k d) (refuses_words h e) = absurd (none_some (check p) h k)
  once (checks p k d) (makes n h e) = absurd (made_checked n p h k)
  once (checks p h e) (checks q k d) = program_once files q a b (subst (λ (x : List ℕ). IsProgramReply x files a) (checked_same p q h k) e) d
  once (checks q h e) (plans p k d) = absurd (checked_planned q p h k)
  once (plans p k d) (refuses_words h e) = absurd (none_planned p h k)
  once (plans p k d) (makes n h e) = absurd (made_planned n p h k)
  once (plans p k d) (checks q h e) = absurd (checked_planned q p h k)
  once (plans p h e) (plans q k d) = plan_once files q a b (subst (λ (x : Plan). IsPlanReply x files a) (some_same p q (sym h ∙ k)) e) d

pub replies_once : RepliesOnce
replies_once words files first second p q = once words files first second p q

-- ---- one at least, or an absent file

-- the files of a trial are there
module _ (n : ℕ) (path : List ℕ) where
  script_there : path ≡ codes "script" → (bytes : List ℕ) × (file_at (trial_files n) path ≡ Some bytes)
  unfolding file_at
  script_there is = (made n, ap (file_at (trial_files n)) is)

  policy_there : path ≡ codes "policy" → (bytes : List ℕ) × (file_at (trial_files n) path ≡ Some bytes)
  unfolding file_at
  policy_there is = (codes "origin A\norigin B\nin pin A\nin note -\nout all A,B\nout pub -\n", ap (file_at (trial_files n)) is)

  input_there : path ≡ codes "input" → (bytes : List ℕ) × (file_at (trial_files n) path ≡ Some bytes)
  unfolding file_at
  input_there is = (codes "pin 5\n", ap (file_at (trial_files n)) is)

  -- each file that the work reaches is there
  pub trial_has : (contents : Option Files) → Reaches contents (trial_plan n).request path → (bytes : List ℕ) × (file_at (trial_files n) path ≡ Some bytes)
  trial_has contents (reaches_script is) = script_there is
  trial_has contents (reaches_policy is h) = policy_there is
  trial_has contents (reaches_input is h) = input_there is
  trial_has contents (reaches_second is h) = absurd cc

  trial_there : Reaches (Some (trial_files n)) (trial_plan n).request path → file_at (trial_files n) path ≡ None → ⊥
  trial_there h absent =
      let there = trial_has (Some (trial_files n)) h in
      let bad : Some there.0 ≡ None = sym there.1 ∙ absent in cc

module _ (words : List (List ℕ)) (files : Files) where
  abbrev Answered : Type 0
  Answered = ((reply : Reply) × IsReply words files reply) ⊎ ReadsAbsent words files

  -- a judgement of the files of a plan gives a reply
  judged : (plan : Plan) → planned words ≡ Some plan → (r : Result Task Fault) → IsJudged plan.request (files_for plan.work files) r → Answered
  judged plan e (Ok task) j = inl (work_reply plan.work plan.turns task, plans plan e (does task j refl))
  judged plan e (Err fault) j = inl (fault_reply fault, plans plan e (refuses_files fault j refl))

  from_files : (plan : Plan) → planned words ≡ Some plan → IsOutside plan.work → ((r : Result Task Fault) × IsJudged plan.request (files_for plan.work files) r) ⊎ ReachesAbsent plan.request files → Answered
  from_files plan e outside (inl j) = judged plan e j.0 j.1
  from_files plan e outside (inr absent) = inr (absent.0, reads_files plan e outside absent.1, absent.2)

  from_trial : (n : ℕ) → planned words ≡ Some (trial_plan n) → ((r : Result Task Fault) × IsJudged (trial_plan n).request (trial_files n) r) ⊎ ReachesAbsent (trial_plan n).request (trial_files n) → Answered
  from_trial n e (inl j) = judged (trial_plan n) e j.0 j.1
  from_trial n e (inr absent) = absurd (trial_there n absent.0 absent.1 absent.2)

  module _ (path : List ℕ) (stated : command_of words ≡ Some (check path)) where
    with_bytes : (bytes : List ℕ) → file_at files path ≡ Some bytes → ProgramOrFault bytes → Answered
    with_bytes bytes at (inl h) = inl (accepted_reply, checks path stated (accepts_program h.0 (record { bytes = bytes; there = at; spelled = h.1 }) refl))
    with_bytes bytes at (inr h) = inl (fault_reply (script_fault h.0), checks path stated (refuses_program h.0 (record { bytes = bytes; there = at; refused = h.1 }) refl))

    from_path : (o : Option (List ℕ)) → file_at files path ≡ o → Answered
    from_path (Some bytes) at = with_bytes bytes at (program_judged bytes)
    from_path None at = inr (path, reads_program stated, at)

  from_words : (o : Option Command) → command_of words ≡ o → Answered
  from_words None e = inl (usage_reply, refuses_words e refl)
  from_words (Some (run w)) e = from_files (run_plan w) (planned_by words (Some (run w)) e) tt ((judged_or_absent (run_plan w).request files).0)
  from_words (Some (check path)) e = from_path path e (file_at files path) refl
  from_words (Some (pair w)) e = from_files (pair_plan w) (planned_by words (Some (pair w)) e) tt ((judged_or_absent (pair_plan w).request files).0)
  from_words (Some (make n)) e = inl (made_reply n, makes n e refl)
  from_words (Some (trial n)) e = from_trial n (planned_by words (Some (trial n)) e) ((judged_or_absent (trial_plan n).request (trial_files n)).0)

  -- there is a reply, or the work reaches an absent file
  pub replies_or_absent : Answered
  replies_or_absent = from_words (command_of words) refl
