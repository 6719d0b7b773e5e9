-- The files of a pair give an observer and a second input.
use Rattle.std.proofs.Common.{◌≡◌, ℕ, List, Option, Some, None, Result, Ok, Err, refl, sym, ap, subst, ◌∙◌}
use Rattle.origin_labels.specs.Label.{Label}
use Rattle.flow_io.specs.Files.{Files, file_at}
use Rattle.flow_policy.specs.declared.fault.ListFault.{ListFault}
use Rattle.flow_policy.specs.declared.fault.ListFault.TheVariants as list_fault
use Rattle.flow_policy.specs.Inputs.{Given}
use Rattle.flow_policy.specs.Listed.{list_of}
use Rattle.flow_policy.specs.Policies.{Tables}
use Rattle.command_line.specs.Commands.{Command, PairWords, run, check, pair, make, trial, command_of}
use Rattle.run_files.specs.declared.refusals.WhichInput.TheVariants as which
use Rattle.run_files.specs.Tasks.{Task, Fault, observed, observer_in, read_at, some_given, input_in, second_at}
use Rattle.run_files.proofs.Judging.{HasParts, judged_parts}
use Rattle.js_shell.specs.Replies.{Work, runs, pairs, tries, Plan, pair_plan, plan_of_command, files_for}
use Rattle.js_shell.specs.Promises.{IsPlanned}
use Rattle.js_shell.proofs.Replying.{planned_by}

in_some : {X : Type 0} (x y : X) → Some x ≡ Some y → x ≡ y
in_some x y e = cc

abbrev work_in : Option Plan → Option Work
work_in (Some plan) = Some plan.work
work_in None = None

-- a plan with two runs is one of a pair
paired : (o : Option Command) (plan : Plan) → plan_of_command o ≡ Some plan → plan.work ≡ pairs → (w : PairWords) × (plan ≡ pair_plan w)
paired None plan e two = absurd cc
paired (Some (run w)) plan e two = let bad : Some runs ≡ Some pairs = ap work_in e ∙ ap (λ (x : Work). Some x) two in absurd cc
paired (Some (check path)) plan e two = absurd cc
paired (Some (pair w)) plan e two = (w, sym (in_some (pair_plan w) plan e))
paired (Some (make n)) plan e two = absurd cc
paired (Some (trial n)) plan e two = let bad : Some (tries n) ≡ Some pairs = ap work_in e ∙ ap (λ (x : Work). Some x) two in absurd cc

observed_some : (list : List ℕ) (r : Result Label ListFault) (o : Option Label) → observed list r ≡ Ok o → (observer : Label) × (o ≡ Some observer)
observed_some list (Ok label) o e = (label, cc)
observed_some list (Err (list_fault.Unknown number)) o e = absurd cc
observed_some list (Err list_fault.Form) o e = absurd cc
observed_some list (Err list_fault.OutOfMemory) o e = absurd cc

given_some : (r : Result Given Fault) (o : Option Given) → some_given r ≡ Ok o → (given : Given) × (o ≡ Some given)
given_some (Ok given) o e = (given, cc)
given_some (Err fault) o e = absurd cc

observer_there : (tables : Tables) (list : List ℕ) (o : Option Label) → observer_in tables (Some list) ≡ Some (Ok o) → (observer : Label) × (o ≡ Some observer)
observer_there tables list o e = observed_some list (list_of tables.origins list) o (in_some _ _ e)

read_some : (tables : Tables) (found : Option (List ℕ)) (o : Option Given) → read_at (λ bytes. some_given (input_in which.Second tables bytes)) found ≡ Some (Ok o) → (given : Given) × (o ≡ Some given)
read_some tables None o e = absurd cc
read_some tables (Some bytes) o e = given_some (input_in which.Second tables bytes) o (in_some _ _ e)

second_there : (tables : Tables) (files : Files) (path : List ℕ) (o : Option Given) → second_at tables files (Some path) ≡ Some (Ok o) → (given : Given) × (o ≡ Some given)
second_there tables files path o e = read_some tables (file_at files path) o e

module _ (words : List (List ℕ)) (files : Files) (plan : Plan) (task : Task) (p : IsPlanned words files plan task) (two : plan.work ≡ pairs) where
  pub pair_parts : (observer : Label) × (second : Given) × (task.observer ≡ Some observer) × (task.second ≡ Some second)
  pair_parts =
      let w = paired (command_of words) plan (sym (planned_by words (command_of words) refl) ∙ p.stated) two in
      let parts : HasParts (pair_plan w.0).request (files_for plan.work files) task = subst (λ (q : Plan). HasParts q.request (files_for plan.work files) task) w.1 (judged_parts plan.request (files_for plan.work files) task p.accepted) in
      let observer = observer_there task.tables w.0.observer task.observer parts.observer in
      let second = second_there task.tables (files_for plan.work files) w.0.second task.second parts.second in
      (observer.0, second.0, observer.1, second.1)
