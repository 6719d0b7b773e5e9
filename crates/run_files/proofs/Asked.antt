-- From the steps of the work to what the files of a request come to.
use Rattle.std.proofs.Common.{◌≡◌, ℕ, List, Option, Some, None, Result, Ok, Err, IfSome, option_copied, Bor, refl, ap}
use Rattle.flow_io.specs.Files.{Files, file_at}
use Rattle.origin_labels.specs.Label.{Label}
use Rattle.flow_policy.specs.Policies.{Tables}
use Rattle.flow_policy.specs.Inputs.{Given}
use Rattle.js_ast.specs.Trees.{Statements}
use Rattle.run_files.specs.declared.refusals.Refusal.{Refusal}
use Rattle.run_files.specs.declared.refusals.Refusal.TheVariants as refusal
use Rattle.run_files.specs.declared.refusals.WhichInput.TheVariants as which
use Rattle.run_files.specs.Sources.{SourceFault, long_source, source_utf8, bad_source, HasProgram, RefusesProgram}
use Rattle.run_files.specs.Tasks.{Request, Fault, script_fault, Judged, HasScript, HasNoProgram, policy_at, observer_in, input_in, read_at, input_at, second_at, some_given, IsJudged, by_script, by_others, Reaches, reaches_script, reaches_policy, reaches_input, reaches_second}
use Rattle.run_files.specs.Seen.{seen_refusal}
use Rattle.run_files.specs.Accepting.{OfFiles, Takes, TakesProgram, TakesScript, AcceptsSource, AcceptsProgram, AcceptsScript, Steps, Observes, Accepts}
use Rattle.run_files.proofs.Judging.{policy_stops, observer_stops, input_stops, second_stops, all_taken}

-- what follows of all files follows of those that are told
pub of_map : (contents : Option Files) (P Q : Files → Type 0) → ((files : Files) → P files → Q files) → OfFiles contents P → OfFiles contents Q
of_map None P Q f p = tt
of_map (Some files) P Q f p = f files p

pub of_both : (contents : Option Files) (P Q : Files → Type 0) → OfFiles contents P → OfFiles contents Q → OfFiles contents (λ files. P files × Q files)
of_both None P Q p q = tt
of_both (Some files) P Q p q = (p, q)

-- what holds of all files holds of those that are told
pub of_all : (contents : Option Files) (P : Files → Type 0) → ((files : Files) → P files) → OfFiles contents P
of_all None P f = tt
of_all (Some files) P f = f files

-- the same of a path that there may be, as the code has it
pub of_path : (o : Option (Bor (List ℕ))) (P : List ℕ → Type 0) → ((path : List ℕ) → option_copied o ≡ Some path → P path) → IfSome o (λ path. P path.now)
of_path None P f = tt
of_path (Some path) P f = f path.now refl

-- the same of a fault that there may be
of_fault : (o : Option Fault) (P Q : Fault → Type 0) → ((fault : Fault) → P fault → Q fault) → IfSome o P → IfSome o Q
of_fault None P Q f p = tt
of_fault (Some fault) P Q f p = f fault p

-- ---- a source

-- what the bytes of a file are, the file is
module _ {X : Type 0} (Is : X → Type 0) (Refuses : SourceFault → Type 0) (IsAt : X → Files → Type 0) (RefusesAt : SourceFault → Files → Type 0) (contents : Option Files) (path bytes : List ℕ)
    (there : OfFiles contents (λ files. file_at files path ≡ Some bytes))
    (is_at : (files : Files) → file_at files path ≡ Some bytes → (x : X) → Is x → IsAt x files)
    (refused_at : (files : Files) → file_at files path ≡ Some bytes → (fault : SourceFault) → Refuses fault → RefusesAt fault files) where
  for_fault : (fault : SourceFault) → Refuses fault → OfFiles contents (RefusesAt fault)
  for_fault fault p = of_map contents _ _ (λ files at. refused_at files at fault p) there

  pub file_taken : (result : Result X Refusal) → Takes Is Refuses result → AcceptsSource IsAt RefusesAt contents result
  file_taken (Ok x) p = of_map contents _ _ (λ files at. is_at files at x p) there
  file_taken (Err refusal.LongSource) p = absurd p
  file_taken (Err (refusal.SourceUtf8 at)) p = for_fault (source_utf8 at) p
  file_taken (Err (refusal.BadSource kind place)) p = for_fault (bad_source kind place) p
  file_taken (Err refusal.LongPolicy) p = absurd p
  file_taken (Err (refusal.BadPolicy line kind)) p = absurd p
  file_taken (Err (refusal.UnknownObserver name)) p = absurd p
  file_taken (Err (refusal.LongInput input)) p = absurd p
  file_taken (Err (refusal.BadInput input line kind)) p = absurd p
  file_taken (Err refusal.ReadFault) p = absurd p
  file_taken (Err refusal.OutOfMemory) p = tt

module _ (contents : Option Files) (path bytes : List ℕ) (there : OfFiles contents (λ files. file_at files path ≡ Some bytes)) where
  pub program_accepted : (result : Result (Unit {0}) Refusal) → TakesProgram bytes result → AcceptsProgram contents path result
  program_accepted result p =
      file_taken _ (RefusesProgram bytes) _ (λ fault files. HasNoProgram files path fault) contents path bytes there
      (λ files at x h. (h.0, record { bytes = bytes; there = at; spelled = h.1 })) (λ files at fault h. record { bytes = bytes; there = at; refused = h }) result p

  pub script_accepted : (result : Result Statements Refusal) → TakesScript bytes result → AcceptsScript contents path result
  script_accepted result p =
      file_taken (HasProgram bytes) (RefusesProgram bytes) (λ program files. HasScript files path program) (λ fault files. HasNoProgram files path fault) contents path bytes there
      (λ files at x h. record { bytes = bytes; there = at; spelled = h }) (λ files at fault h. record { bytes = bytes; there = at; refused = h }) result p

-- ---- an input that is the second

-- what a file gives as an input, it gives as the second input
second_given : (f : List ℕ → Result Given Fault) (o : Option (List ℕ)) (r : Result Given Fault) → read_at f o ≡ Some r → read_at (λ bytes. some_given (f bytes)) o ≡ Some (some_given r)
second_given f None r e = cc
second_given f (Some bytes) r e = ap some_too e
  where
    some_too : Judged Given → Judged (Option Given)
    some_too None = None
    some_too (Some x) = Some (some_given x)

module _ (tables : Tables) (contents : Option Files) where
  pub none_taken : OfFiles contents (λ files. second_at tables files None ≡ Some (Ok None))
  none_taken = of_all contents (λ files. second_at tables files None ≡ Some (Ok None)) (λ files. refl)

module _ (tables : Tables) (contents : Option Files) (path : List ℕ) where
  -- an input of the policy is read from the path as the second one
  abbrev pub AsSecond : Result Given Refusal → Type 0
  AsSecond result = Steps contents (λ files. read_at (input_in which.Second tables) (file_at files path)) result

  pub second_taken : (given : Given) → AsSecond (Ok given) → OfFiles contents (λ files. second_at tables files (Some path) ≡ Some (Ok (Some given)))
  second_taken given p = of_map contents _ _ (λ files e. second_given (input_in which.Second tables) (file_at files path) (Ok given) e) p

  pub second_refused_too : (r : Refusal) → AsSecond (Err r) → Steps {X = Option Given} contents (λ files. second_at tables files (Some path)) (Err r)
  second_refused_too r p = of_fault (seen_refusal r) _ _ (λ fault q. of_map contents _ _ (λ files e. second_given (input_in which.Second tables) (file_at files path) (Err fault) e) q) p

-- ---- the steps of a request

module _ (request : Request) (contents : Option Files) where
  -- a step that is refused after others that were taken
  step_refused : {X : Type 0} (Known : Files → Type 0) (step : Files → Judged X) → OfFiles contents Known
      → ((files : Files) → Known files → (fault : Fault) → step files ≡ Some (Err fault) → IsJudged request files (Err fault)) → (r : Refusal) → Steps contents step (Err r) → Accepts request contents (Err r)
  step_refused Known step known gives r p =
      of_fault (seen_refusal r) _ _ (λ fault q. of_map contents _ _ (λ files h. gives files h.0 fault h.1) (of_both contents Known (λ files. step files ≡ Some (Err fault)) known q)) p

  pub script_reached : Reaches contents request request.script
  script_reached = reaches_script refl

  for_script : (fault : SourceFault) → OfFiles contents (λ files. HasNoProgram files request.script fault) → OfFiles contents (λ files. IsJudged request files (Err (script_fault fault)))
  for_script fault p = of_map contents _ _ (λ files h. by_script fault h refl) p

  pub script_refused : (r : Refusal) → AcceptsScript contents request.script (Err r) → Accepts request contents (Err r)
  script_refused refusal.LongSource p = for_script long_source p
  script_refused (refusal.SourceUtf8 at) p = for_script (source_utf8 at) p
  script_refused (refusal.BadSource kind place) p = for_script (bad_source kind place) p
  script_refused refusal.LongPolicy p = absurd p
  script_refused (refusal.BadPolicy line kind) p = absurd p
  script_refused (refusal.UnknownObserver name) p = absurd p
  script_refused (refusal.LongInput input) p = absurd p
  script_refused (refusal.BadInput input line kind) p = absurd p
  script_refused refusal.ReadFault p = tt
  script_refused refusal.OutOfMemory p = tt

  module _ (program : Statements) (script : AcceptsScript contents request.script (Ok program)) where
    pub policy_reached : Reaches contents request request.policy
    policy_reached = reaches_policy refl (of_map contents _ _ (λ files h. (program, h)) script)

    pub policy_refused : (r : Refusal) → Steps {X = Tables} contents (λ files. policy_at files request.policy) (Err r) → Accepts request contents (Err r)
    policy_refused r p =
        step_refused (λ files. HasScript files request.script program) (λ files. policy_at files request.policy) script
        (λ files h fault e. by_others program h (policy_stops request files program fault e)) r p

    module _ (tables : Tables) (policy : Steps contents (λ files. policy_at files request.policy) (Ok tables)) where
      -- the script and the policy are taken
      abbrev HasTwo : Files → Type 0
      HasTwo files = HasScript files request.script program × (policy_at files request.policy ≡ Some (Ok tables))

      two : OfFiles contents HasTwo
      two = of_both contents (λ files. HasScript files request.script program) (λ files. policy_at files request.policy ≡ Some (Ok tables)) script policy

      pub observer_refused : (r : Refusal) → Observes tables request.observer (Err r) → Accepts request contents (Err r)
      observer_refused r p =
          of_fault (seen_refusal r) _ _ (λ fault e. of_map contents HasTwo _ (λ files h. by_others program h.0 (observer_stops request files program tables h.1 fault e)) two) p

      module _ (observer : Option Label) (seen : observer_in tables request.observer ≡ Some (Ok observer)) where
        pub input_reached : Reaches contents request request.input
        input_reached = reaches_input refl (of_map contents HasTwo _ (λ files h. (program, tables, observer, h.0, h.1, seen)) two)

        pub input_refused : (r : Refusal) → Steps {X = Given} contents (λ files. input_at tables files request.input) (Err r) → Accepts request contents (Err r)
        input_refused r p =
            step_refused HasTwo (λ files. input_at tables files request.input) two
            (λ files h fault e. by_others program h.0 (input_stops request files program tables h.1 observer seen fault e)) r p

        module _ (given : Given) (input : Steps contents (λ files. input_at tables files request.input) (Ok given)) where
          -- so is the input
          abbrev HasThree : Files → Type 0
          HasThree files = HasTwo files × (input_at tables files request.input ≡ Some (Ok given))

          three : OfFiles contents HasThree
          three = of_both contents HasTwo (λ files. input_at tables files request.input ≡ Some (Ok given)) two input

          pub second_reached : (path : List ℕ) → request.second ≡ Some path → Reaches contents request path
          second_reached path is = reaches_second is (of_map contents HasThree _ (λ files h. (program, tables, observer, given, h.0.0, h.0.1, seen, h.1)) three)

          pub second_refused : (r : Refusal) → Steps {X = Option Given} contents (λ files. second_at tables files request.second) (Err r) → Accepts request contents (Err r)
          second_refused r p =
              step_refused HasThree (λ files. second_at tables files request.second) three
              (λ files h fault e. by_others program h.0.0 (second_stops request files program tables h.0.1 observer seen given h.1 fault e)) r p

          pub task_taken : (second : Option Given) → Steps contents (λ files. second_at tables files request.second) (Ok second)
              → Accepts request contents (Ok (record { program = program; tables = tables; observer = observer; given = given; second = second }))
          task_taken second p =
              of_map contents _ _ (λ files h. by_others program h.0.0.0 (all_taken request files program tables h.0.0.1 observer seen given h.0.1 second h.1))
              (of_both contents HasThree (λ files. second_at tables files request.second ≡ Some (Ok second)) three p)
