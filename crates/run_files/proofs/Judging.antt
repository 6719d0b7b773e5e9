-- What the files of a request come to, step by step: one judgement at most, and one at least unless the work reaches an absent file.
use Rattle.std.proofs.Common.{◌≡◌, ℕ, List, Option, Some, None, Result, Ok, Err, refl, sym, ap, subst, ◌∙◌, inl, inr, ◌⊎◌}
use Rattle.flow_io.specs.Files.{Files, file_at}
use Rattle.origin_labels.specs.Label.{Label}
use Rattle.flow_policy.specs.Policies.{Tables, IsPolicy}
use Rattle.flow_policy.specs.Inputs.{Given, IsGivenTo}
use Rattle.flow_policy.specs.Listed.{list_of}
use Rattle.js_ast.specs.Trees.{Statements}
use Rattle.run_files.specs.declared.refusals.WhichInput.TheVariants as which
use Rattle.run_files.specs.Sources.{SourceFault, HasProgram, RefusesProgram}
use Rattle.run_files.specs.Tasks.{Request, Task, Fault, script_fault, Judged, and_then, HasScript, HasNoProgram, read_at, policy_in, policy_at, observed, observer_in, input_in, input_at, some_given, second_at, task_with, IsJudged, by_script, by_others, Reaches, reaches_script, reaches_policy, reaches_input, reaches_second, ReachesAbsent}
use Rattle.run_files.specs.Laws.{IsJudgedOnce, IsJudgedOrAbsent}
use Rattle.run_files.proofs.Sourced as sourced
use Rattle.run_files.proofs.Sourced.{some_is, ok_is, ProgramOrFault, program_judged}
use Rattle.run_files.proofs.PolicyFormed.{policy_formed, given_formed}

-- ---- one step after another

abbrev pub task_of : Statements → Tables → Option Label → Given → Option Given → Task
task_of program tables observer given second = record { program = program; tables = tables; observer = observer; given = given; second = second }

-- what is left of the work after each step
abbrev after_input : Request → Files → Statements → Tables → Option Label → Given → Judged Task
after_input request files program tables observer given = and_then (second_at tables files request.second) (λ second. Some (Ok (task_of program tables observer given second)))

abbrev after_observer : Request → Files → Statements → Tables → Option Label → Judged Task
after_observer request files program tables observer = and_then (input_at tables files request.input) (λ given. after_input request files program tables observer given)

abbrev after_policy : Request → Files → Statements → Tables → Judged Task
after_policy request files program tables = and_then (observer_in tables request.observer) (λ observer. after_observer request files program tables observer)

module _ (request : Request) (files : Files) (program : Statements) where
  with_policy : (j : Judged Tables) → policy_at files request.policy ≡ j → task_with request files program ≡ and_then j (λ tables. after_policy request files program tables)
  unfolding task_with
  with_policy j e = ap (λ (k : Judged Tables). and_then k (λ tables. after_policy request files program tables)) e

  pub policy_stops : (fault : Fault) → policy_at files request.policy ≡ Some (Err fault) → task_with request files program ≡ Some (Err fault)
  policy_stops fault e = with_policy (Some (Err fault)) e

  policy_lacks : file_at files request.policy ≡ None → task_with request files program ≡ None
  policy_lacks e = with_policy None (ap (read_at policy_in) e)

  module _ (tables : Tables) (policy : policy_at files request.policy ≡ Some (Ok tables)) where
    with_observer : (j : Judged (Option Label)) → observer_in tables request.observer ≡ j → task_with request files program ≡ and_then j (λ observer. after_observer request files program tables observer)
    with_observer j e = with_policy (Some (Ok tables)) policy ∙ ap (λ (k : Judged (Option Label)). and_then k (λ observer. after_observer request files program tables observer)) e

    pub observer_stops : (fault : Fault) → observer_in tables request.observer ≡ Some (Err fault) → task_with request files program ≡ Some (Err fault)
    observer_stops fault e = with_observer (Some (Err fault)) e

    module _ (observer : Option Label) (seen : observer_in tables request.observer ≡ Some (Ok observer)) where
      with_input : (j : Judged Given) → input_at tables files request.input ≡ j → task_with request files program ≡ and_then j (λ given. after_input request files program tables observer given)
      with_input j e = with_observer (Some (Ok observer)) seen ∙ ap (λ (k : Judged Given). and_then k (λ given. after_input request files program tables observer given)) e

      pub input_stops : (fault : Fault) → input_at tables files request.input ≡ Some (Err fault) → task_with request files program ≡ Some (Err fault)
      input_stops fault e = with_input (Some (Err fault)) e

      input_lacks : file_at files request.input ≡ None → task_with request files program ≡ None
      input_lacks e = with_input None (ap (read_at (input_in which.First tables)) e)

      module _ (given : Given) (input : input_at tables files request.input ≡ Some (Ok given)) where
        with_second : (j : Judged (Option Given)) → second_at tables files request.second ≡ j → task_with request files program ≡ and_then j (λ second. Some (Ok (task_of program tables observer given second)))
        with_second j e = with_input (Some (Ok given)) input ∙ ap (λ (k : Judged (Option Given)). and_then k (λ second. Some (Ok (task_of program tables observer given second)))) e

        pub second_stops : (fault : Fault) → second_at tables files request.second ≡ Some (Err fault) → task_with request files program ≡ Some (Err fault)
        second_stops fault e = with_second (Some (Err fault)) e

        second_lacks : second_at tables files request.second ≡ None → task_with request files program ≡ None
        second_lacks e = with_second None e

        pub all_taken : (second : Option Given) → second_at tables files request.second ≡ Some (Ok second) → task_with request files program ≡ Some (Ok (task_of program tables observer given second))
        all_taken second e = with_second (Some (Ok second)) e

-- the second input is absent
absent_second : (tables : Tables) (files : Files) (o : Option (List ℕ)) (path : List ℕ) → o ≡ Some path → file_at files path ≡ None → second_at tables files o ≡ None
absent_second tables files o path is absent = ap (second_at tables files) is ∙ ap (read_at (λ bytes. some_given (input_in which.Second tables bytes))) absent

-- ---- what a task states

-- each file of a task is there, and states its part
pub record HasParts (request : Request) (files : Files) (task : Task) : Type 0 where
  pub script : HasScript files request.script task.program
  pub policy : policy_at files request.policy ≡ Some (Ok task.tables)
  pub observer : observer_in task.tables request.observer ≡ Some (Ok task.observer)
  pub input : input_at task.tables files request.input ≡ Some (Ok task.given)
  pub second : second_at task.tables files request.second ≡ Some (Ok task.second)

-- a step that was taken, and what followed
taken : {X Y : Type 0} (j : Judged X) (next : X → Judged Y) (y : Y) → and_then j next ≡ Some (Ok y) → (x : X) × (j ≡ Some (Ok x)) × (next x ≡ Some (Ok y))
taken None next y e = absurd cc
taken (Some (Err fault)) next y e = absurd cc
taken (Some (Ok x)) next y e = (x, refl, e)

module _ (request : Request) (files : Files) where
  parts_with : (program : Statements) (task : Task) → HasScript files request.script program → task_with request files program ≡ Some (Ok task) → HasParts request files task
  parts_with program task script e =
      let p = taken (policy_at files request.policy) (λ tables. after_policy request files program tables) task (sym (with_policy request files program (policy_at files request.policy) refl) ∙ e) in
      let o = taken (observer_in p.0 request.observer) (λ observer. after_observer request files program p.0 observer) task p.2 in
      let i = taken (input_at p.0 files request.input) (λ given. after_input request files program p.0 o.0 given) task o.2 in
      let s = taken (second_at p.0 files request.second) (λ second. Some (Ok (task_of program p.0 o.0 i.0 second))) task i.2 in
      let made : Task = task_of program p.0 o.0 i.0 s.0 in
      let is : made ≡ task = ok_is made task (Ok made) refl (some_is (Ok made) (Ok task) (Some (Ok made)) refl s.2) in
      subst (HasParts request files) is (record { script = script; policy = p.1; observer = o.1; input = i.1; second = s.1 })

  pub judged_parts : (task : Task) → IsJudged request files (Ok task) → HasParts request files task
  judged_parts task (by_script fault p e) = absurd cc
  judged_parts task (by_others program script e) = parts_with program task script e

-- what a file gave that is there
read_bytes : {X : Type 0} (f : List ℕ → Result X Fault) (o : Option (List ℕ)) (x : X) → read_at f o ≡ Some (Ok x) → (bytes : List ℕ) × (f bytes ≡ Ok x)
read_bytes f None x e = absurd cc
read_bytes f (Some bytes) x e = (bytes, some_is (f bytes) (Ok x) (Some (f bytes)) refl e)

-- the tables of a task are a policy
pub judged_policy : (request : Request) (files : Files) (task : Task) → IsJudged request files (Ok task) → IsPolicy task.tables
judged_policy request files task j =
    let read = read_bytes policy_in (file_at files request.policy) task.tables (judged_parts request files task j).policy in
    policy_formed read.0 task.tables read.1

-- its input has lines for each input channel of the policy
pub judged_given : (request : Request) (files : Files) (task : Task) → IsJudged request files (Ok task) → IsGivenTo task.tables task.given
judged_given request files task j =
    let read = read_bytes (input_in which.First task.tables) (file_at files request.input) task.given (judged_parts request files task j).input in
    given_formed which.First task.tables read.0 task.given read.1

-- ---- one judgement at most

module _ (files : Files) (path : List ℕ) where
  -- of one file
  same_file : (P : List ℕ → Type 0) (p q : List ℕ) → file_at files path ≡ Some p → file_at files path ≡ Some q → P p → P q
  same_file P p q at at' h = subst P (some_is p q (file_at files path) at at') h

  pub script_is : (s t : Statements) → HasScript files path s → HasScript files path t → s ≡ t
  script_is s t p q = sourced.program_is q.bytes s t (same_file (λ b. HasProgram b s) p.bytes q.bytes p.there q.there p.spelled) q.spelled

  pub script_or_not : (s : Statements) (fault : SourceFault) → HasScript files path s → HasNoProgram files path fault → ⊥
  script_or_not s fault p q = sourced.program_or_fault q.bytes s fault (same_file (λ b. HasProgram b s) p.bytes q.bytes p.there q.there p.spelled) q.refused

  pub script_fault_is : (s t : SourceFault) → HasNoProgram files path s → HasNoProgram files path t → s ≡ t
  script_fault_is s t p q = sourced.program_fault q.bytes s t (same_file (λ b. RefusesProgram b s) p.bytes q.bytes p.there q.there p.refused) q.refused

  absent_or_there : (bytes : List ℕ) → file_at files path ≡ None → file_at files path ≡ Some bytes → ⊥
  absent_or_there bytes e f = cc

abbrev refused_for : SourceFault → Result Task Fault
refused_for fault = Err (script_fault fault)

pub judged_once : IsJudgedOnce
judged_once request files a b (by_script f p e) (by_script g q e') = e ∙ ap refused_for (script_fault_is files request.script f g p q) ∙ sym e'
judged_once request files a b (by_script f p e) (by_others s h t) = absurd (script_or_not files request.script s f h p)
judged_once request files a b (by_others s h t) (by_script f p e) = absurd (script_or_not files request.script s f h p)
judged_once request files a b (by_others s h t) (by_others s' h' t') =
    some_is a b (task_with request files s') (sym (ap (task_with request files) (script_is files request.script s s' h h')) ∙ t) t'

-- ---- one at least, or an absent file

some_none : {X : Type 0} (x : X) → Some x ≡ None → ⊥
some_none x e = cc

-- what gives nothing isn't there
lacked : {X : Type 0} (f : List ℕ → Result X Fault) (o : Option (List ℕ)) → read_at f o ≡ None → o ≡ None
lacked f None e = refl
lacked f (Some bytes) e = absurd (some_none (f bytes) e)

module _ (request : Request) (files : Files) where
  abbrev JudgedOrAbsent : Type 0
  JudgedOrAbsent = ((judged : Result Task Fault) × IsJudged request files judged) ⊎ ReachesAbsent request files

  module _ (program : Statements) (script : HasScript files request.script program) where
    others : (judged : Result Task Fault) → task_with request files program ≡ Some judged → JudgedOrAbsent
    others judged e = inl (judged, by_others program script e)

    module _ (tables : Tables) (policy : policy_at files request.policy ≡ Some (Ok tables)) where
      module _ (observer : Option Label) (seen : observer_in tables request.observer ≡ Some (Ok observer)) where
        module _ (given : Given) (input : input_at tables files request.input ≡ Some (Ok given)) where
          by_second : (j : Judged (Option Given)) → second_at tables files request.second ≡ j → (o : Option (List ℕ)) → request.second ≡ o → JudgedOrAbsent
          by_second (Some (Ok second)) e o is = others (Ok (task_of program tables observer given second)) (all_taken request files program tables policy observer seen given input second e)
          by_second (Some (Err fault)) e o is = others (Err fault) (second_stops request files program tables policy observer seen given input fault e)
          by_second None e None is = absurd (some_none (Ok None) (sym (ap (second_at tables files) is) ∙ e))
          by_second None e (Some path) is = inr (path, reaches_second is (program, tables, observer, given, script, policy, seen, input), lacked (λ bytes. some_given (input_in which.Second tables bytes)) (file_at files path) (sym (ap (second_at tables files) is) ∙ e))

        by_input : (o : Option (List ℕ)) → file_at files request.input ≡ o → (r : Judged Given) → read_at (input_in which.First tables) o ≡ r → JudgedOrAbsent
        by_input None at r e = inr (request.input, reaches_input refl (program, tables, observer, script, policy, seen), at)
        by_input (Some bytes) at None e = absurd cc
        by_input (Some bytes) at (Some (Err fault)) e = others (Err fault) (input_stops request files program tables policy observer seen fault (ap (read_at (input_in which.First tables)) at ∙ e))
        by_input (Some bytes) at (Some (Ok given)) e = by_second given (ap (read_at (input_in which.First tables)) at ∙ e) (second_at tables files request.second) refl request.second refl

      by_observer : (j : Judged (Option Label)) → observer_in tables request.observer ≡ j → (o : Option (List ℕ)) → request.observer ≡ o → JudgedOrAbsent
      by_observer (Some (Ok observer)) e o is = by_input observer e (file_at files request.input) refl (read_at (input_in which.First tables) (file_at files request.input)) refl
      by_observer (Some (Err fault)) e o is = others (Err fault) (observer_stops request files program tables policy fault e)
      by_observer None e None is = absurd (some_none (Ok None) (sym (ap (observer_in tables) is) ∙ e))
      by_observer None e (Some list) is = absurd (some_none (observed list (list_of tables.origins list)) (sym (ap (observer_in tables) is) ∙ e))

    by_policy : (o : Option (List ℕ)) → file_at files request.policy ≡ o → (r : Judged Tables) → read_at policy_in o ≡ r → JudgedOrAbsent
    by_policy None at r e = inr (request.policy, reaches_policy refl (program, script), at)
    by_policy (Some bytes) at None e = absurd cc
    by_policy (Some bytes) at (Some (Err fault)) e = others (Err fault) (policy_stops request files program fault (ap (read_at policy_in) at ∙ e))
    by_policy (Some bytes) at (Some (Ok tables)) e = by_observer tables (ap (read_at policy_in) at ∙ e) (observer_in tables request.observer) refl request.observer refl

  with_script : (bytes : List ℕ) → file_at files request.script ≡ Some bytes → ProgramOrFault bytes → JudgedOrAbsent
  with_script bytes at (inl h) = by_policy h.0 (record { bytes = bytes; there = at; spelled = h.1 }) (file_at files request.policy) refl (read_at policy_in (file_at files request.policy)) refl
  with_script bytes at (inr h) = inl (Err (script_fault h.0), by_script h.0 (record { bytes = bytes; there = at; refused = h.1 }) refl)

  from_script : (o : Option (List ℕ)) → file_at files request.script ≡ o → JudgedOrAbsent
  from_script (Some bytes) at = with_script bytes at (program_judged bytes)
  from_script None at = inr (request.script, reaches_script refl, at)

  -- ---- not both

  module _ (judged : Result Task Fault) (path : List ℕ) (absent : file_at files path ≡ None) where
    no_others : (program : Statements) → task_with request files program ≡ None → task_with request files program ≡ Some judged → ⊥
    no_others program e t = cc

    not_both : IsJudged request files judged → Reaches (Some files) request path → ⊥
    not_both (by_script f p e) (reaches_script is) = absent_or_there files path p.bytes absent (subst (λ (x : List ℕ). file_at files x ≡ Some p.bytes) (sym is) p.there)
    not_both (by_script f p e) (reaches_policy is h) = script_or_not files request.script h.0 f h.1 p
    not_both (by_script f p e) (reaches_input is h) = script_or_not files request.script h.0 f h.3 p
    not_both (by_script f p e) (reaches_second is h) = script_or_not files request.script h.0 f h.4 p
    not_both (by_others s h t) (reaches_script is) = absent_or_there files path h.bytes absent (subst (λ (x : List ℕ). file_at files x ≡ Some h.bytes) (sym is) h.there)
    not_both (by_others s h t) (reaches_policy is k) = no_others s (policy_lacks request files s (ap (file_at files) (sym is) ∙ absent)) t
    not_both (by_others s h t) (reaches_input is k) = no_others s (input_lacks request files s k.1 k.4 k.2 k.5 (ap (file_at files) (sym is) ∙ absent)) t
    not_both (by_others s h t) (reaches_second is k) = no_others s (second_lacks request files s k.1 k.5 k.2 k.6 k.3 k.7 (absent_second k.1 files request.second path is absent)) t

pub judged_or_absent : IsJudgedOrAbsent
judged_or_absent request files = (from_script request files (file_at files request.script) refl, λ judged j absent. not_both request files judged absent.0 absent.2 j absent.1)
