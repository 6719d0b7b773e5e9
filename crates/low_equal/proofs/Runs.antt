-- Two runs of one script on inputs that agree for an observer.
use Rattle.std.proofs.Common.{ℕ, List, inl, inr, ⊎_elim}
use Rattle.origin_labels.specs.Label.{Label}
use Rattle.flow_policy.specs.Policies.{Tables}
use Rattle.flow_policy.specs.Inputs.{Given}
use Rattle.flow_policy.specs.Observed as policy
use Rattle.js_ast.specs.Trees.{Statements}
use Rattle.js_ast.specs.Functions.{functions_of}
use Rattle.es_meaning.specs.BuiltIns.{BuiltIns}
use Rattle.es_meaning.specs.Outcomes.{Outcome, Goes, Jumps, Ends}
use Rattle.es_meaning.specs.Evaluation.{program_step}
use Rattle.es_meaning.specs.Plain.{may_declare, outermost_env}
use Rattle.flow_meaning.specs.Scopes.{LabelledLine, Halt, State, Jump}
use Rattle.flow_meaning.specs.Tracked.{timed, start, run_of, tracked_run}
use Rattle.low_equal.specs.Observed.{Front, empty, longer, SameLines, seen_lines}
use Rattle.low_equal.specs.LowEqual.{Pairing}
use Rattle.low_equal.specs.Runs.{InStep, go, jump, apart, first_ends, second_ends}
use Rattle.low_equal.specs.Laws.{Nothing, IsFinishedBy, OneIsFront, IsIsolating}
use Rattle.low_equal.proofs.Agreement.{extends_refl}
use Rattle.low_equal.proofs.Lines.{front_trans, front_equal, front_filter}
use Rattle.low_equal.proofs.Observing.{program_observed}
use Rattle.low_equal.proofs.Starts.{at_start, starts_low, start_seen, envs_start}

-- two fronts of one list
fronts : {A : Type 0} {xs ys zs : List A} → Front xs zs → Front ys zs → OneIsFront xs ys
fronts empty q = inl empty
fronts p empty = inr empty
fronts (longer p) (longer q) = ⊎_elim (λ x. inl (longer x)) (λ x. inr (longer x)) (fronts p q)

-- of lists of which one is a front of the other
cut_fronts : {A : Type 0} {xs ys vs us : List A} → OneIsFront xs ys → Front vs xs → Front us ys → OneIsFront vs us
cut_fronts (inl h) p q = fronts (front_trans p h) q
cut_fronts (inr h) p q = fronts p (front_trans q h)

module _ (observer : Label) (tables : Tables) where
  abbrev Runs : Type 0
  Runs = Outcome Halt Jump (Unit {0}) State

  -- where both are finished the lines are the same
  finished_lines : {β : Pairing} (o p : Runs) → InStep observer tables Nothing β o p → IsFinishedBy (run_of o).ending → IsFinishedBy (run_of p).ending → SameLines observer tables (run_of o).lines (run_of p).lines
  finished_lines (Goes a s) (Goes b t) (go γ e r v q) f g = r.lines
  finished_lines (Jumps j s) (Jumps k t) (jump γ e r v q) f g = r.lines
  finished_lines (Goes a s) (Goes b t) (apart γ e r v x y) f g = r.lines
  finished_lines (Goes a s) (Jumps k t) (apart γ e r v x y) f g = r.lines
  finished_lines (Jumps j s) (Goes b t) (apart γ e r v x y) f g = r.lines
  finished_lines (Jumps j s) (Jumps k t) (apart γ e r v x y) f g = r.lines
  finished_lines (Ends halt s) p a f g = absurd f
  finished_lines o (Ends halt t) a f g = absurd g

  same_front : {ls ms : List LabelledLine} → SameLines observer tables ls ms → OneIsFront (seen_lines observer tables ls) (seen_lines observer tables ms)
  same_front r = inl (front_equal r.on_channels)

  -- however they end, one is a front of the other
  any_lines : {β : Pairing} (o p : Runs) → InStep observer tables Nothing β o p → OneIsFront (seen_lines observer tables (run_of o).lines) (seen_lines observer tables (run_of p).lines)
  any_lines (Goes a s) (Goes b t) (go γ e r v q) = same_front r.lines
  any_lines (Jumps j s) (Jumps k t) (jump γ e r v q) = same_front r.lines
  any_lines (Goes a s) (Goes b t) (apart γ e r v x y) = same_front r.lines
  any_lines (Goes a s) (Jumps k t) (apart γ e r v x y) = same_front r.lines
  any_lines (Jumps j s) (Goes b t) (apart γ e r v x y) = same_front r.lines
  any_lines (Jumps j s) (Jumps k t) (apart γ e r v x y) = same_front r.lines
  any_lines (Ends halt s) p (apart γ e r v x y) = absurd x
  any_lines o (Ends halt t) (apart γ e r v x y) = absurd y
  any_lines (Ends halt s) (Goes b t) (first_ends f) = inl f.on_channels
  any_lines (Ends halt s) (Jumps k t) (first_ends f) = inl f.on_channels
  any_lines (Ends halt s) (Ends other t) (first_ends f) = inl f.on_channels
  any_lines (Goes a s) (Ends halt t) (second_ends f) = inr f.on_channels
  any_lines (Jumps j s) (Ends halt t) (second_ends f) = inr f.on_channels
  any_lines (Ends other s) (Ends halt t) (second_ends f) = inr f.on_channels

  -- the two runs, from their starts
  in_step : (set : BuiltIns) (first second : Given) → policy.Agree observer tables first second → (program : Statements) (turns others : ℕ)
      → InStep observer tables Nothing (at_start set program) (program_step (timed tables first set (functions_of program)) set turns (may_declare set program) program (outermost_env 0) (start tables first set program turns))
      (program_step (timed tables second set (functions_of program)) set others (may_declare set program) program (outermost_env 0) (start tables second set program others))
  in_step set first second agree program turns others =
      (program_observed observer tables set (functions_of program) first second agree turns others (may_declare set program) program (at_start set program) (outermost_env 0) (outermost_env 0) (envs_start set program)).steps (at_start set program) (extends_refl (at_start set program))
      (start tables first set program turns) (start tables second set program others) (starts_low observer set program tables first second turns others) (start_seen observer set program tables first turns)

pub two_runs : IsIsolating
unfolding tracked_run
two_runs set observer tables first second program turns others agree =
    let a = in_step observer tables set first second agree program turns others in
    record {
      on_channels = λ f g. (finished_lines observer tables _ _ a f g).on_channels;
      by_labels = λ f g. (finished_lines observer tables _ _ a f g).by_labels;
      fronts = λ ls ms p q. cut_fronts (any_lines observer tables _ _ a) (front_filter _ p) (front_filter _ q);
    }
