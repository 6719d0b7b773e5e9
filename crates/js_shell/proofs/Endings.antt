-- Endings of runs, by their statuses, and of the labelled and the unlabelled run.
use Rattle.std.proofs.Common.{◌≡◌, ℕ, List, true, false, Option, Some, None, refl, sym, ap, subst, ◌∙◌}
use Rattle.origin_labels.specs.Label.{Label}
use Rattle.flow_policy.specs.Policies.{Tables}
use Rattle.flow_frames.specs.declared.faults.Rule.{Rule}
use Rattle.es_meaning.specs.Outcomes as es
use Rattle.es_meaning.specs.Outcomes.{Ending, done, threw, halted, left, out_of_turns}
use Rattle.flow_meaning.specs.Scopes.{Halt, as_plain, stopped}
use Rattle.flow_meaning.specs.Tracked as tracked
use Rattle.flow_meaning.specs.Written.{written}
use Rattle.low_equal.specs.Erasure.{IsErasing, Erases, goes_on, stops, erased_lines, monitored}
use Rattle.low_equal.specs.Laws.{IsFinishedBy}
use Rattle.js_shell.specs.declared.status.Status.{Status}
use Rattle.js_shell.specs.declared.status.Status.TheVariants as status
use Rattle.js_shell.specs.Answering.{is_reply_status, is_cut_status}
use Rattle.js_shell.specs.Promises.{IsFinished, lines_shown_to, IsStop}
use Rattle.js_shell.specs.Replies.{built_ins, plain_run, tracked_run, shown_to, status_of}
use Rattle.run_files.specs.Tasks.{Task}
use Rattle.js_shell.proofs.NeverStopped.{plain_unstopped}

pub is_stopped : (e : Ending Halt) → status_of e ≡ status.Stopped → (rule : Rule) × (need : Label) × (have : Label) × (e ≡ halted (stopped rule need have))
is_stopped done e = absurd cc
is_stopped (threw shown) e = absurd cc
is_stopped (halted (as_plain (left name))) e = absurd cc
is_stopped (halted (as_plain out_of_turns)) e = absurd cc
is_stopped (halted (stopped rule need have)) e = (rule, need, have, refl)

-- the statuses of finished runs are theirs alone
pub finished_by : (e : Ending Halt) (s : Status) → status_of e ≡ s → IsFinished s → IsFinishedBy e
finished_by done s is f = tt
finished_by (threw shown) s is f = tt
finished_by (halted (as_plain (left name))) s is f = subst IsFinished (sym is) f
finished_by (halted (as_plain out_of_turns)) s is f = subst IsFinished (sym is) f
finished_by (halted (stopped rule need have)) s is f = subst IsFinished (sym is) f

pub finished_uncut : (s : Status) → IsFinished s → (is_cut_status s ≡ false) × (is_reply_status s ≡ true)
finished_uncut status.Done f = (refl, refl)
finished_uncut status.Threw f = (refl, refl)
finished_uncut status.Usage f = absurd f
finished_uncut status.Source f = absurd f
finished_uncut status.Policy f = absurd f
finished_uncut status.Stopped f = absurd f
finished_uncut status.Left f = absurd f
finished_uncut status.OutOfTurns f = absurd f
finished_uncut status.ReadFault f = absurd f
finished_uncut status.WriteFault f = absurd f
finished_uncut status.OutOfMemory f = absurd f
finished_uncut status.Unfinished f = absurd f

-- an unlabelled run ends as the monitored one ends that isn't stopped by a rule
plain_threw : (e : Ending es.Halt) (shown : List ℕ) → monitored e ≡ threw shown → e ≡ threw shown
plain_threw done shown p = absurd cc
plain_threw (threw other) shown p = let same : other ≡ shown = cc in ap threw same
plain_threw (halted halt) shown p = absurd cc

plain_halted : (e : Ending es.Halt) (halt : es.Halt) → monitored e ≡ halted (as_plain halt) → e ≡ halted halt
plain_halted done halt p = absurd cc
plain_halted (threw shown) halt p = absurd cc
plain_halted (halted other) halt p = let same : other ≡ halt = cc in ap halted same

threw_isnt_stopped : (e : Ending Halt) (shown : List ℕ) (rule : Rule) (need have : Label) → e ≡ threw shown → e ≡ halted (stopped rule need have) → ⊥
threw_isnt_stopped e shown rule need have p q = cc

plain_isnt_stopped : (e : Ending Halt) (halt : es.Halt) (rule : Rule) (need have : Label) → e ≡ halted (as_plain halt) → e ≡ halted (stopped rule need have) → ⊥
plain_isnt_stopped e halt rule need have p q = cc

-- what is shown of a run is shown of its lines and its ending
pub shown_parts : (seer : Option Label) (tables : Tables) (run : tracked.Run) → shown_to seer tables run ≡ lines_shown_to seer tables (erased_lines run.lines) run.ending
unfolding written
shown_parts None tables run = refl
shown_parts (Some observer) tables run = refl

module _ (erasing : IsErasing) (turns : ℕ) (task : Task) where
  pub erases : Erases (tracked_run turns task) (plain_run turns task)
  erases = erasing (built_ins task.tables) task.tables task.given task.program turns

  -- a run that isn't stopped ends as the plain one
  pub threw_erased : (shown : List ℕ) → (tracked_run turns task).ending ≡ threw shown → (plain_run turns task).ending ≡ threw shown
  threw_erased shown e = by erases
    where
      by : Erases (tracked_run turns task) (plain_run turns task) → (plain_run turns task).ending ≡ threw shown
      by (goes_on same lines) = plain_threw (plain_run turns task).ending shown (sym same ∙ e)
      by (stops rule need have rest ends broken front) = absurd (threw_isnt_stopped _ shown rule need have e ends)

  pub halted_erased : (halt : es.Halt) → (tracked_run turns task).ending ≡ halted (as_plain halt) → (plain_run turns task).ending ≡ halted halt
  halted_erased halt e = by erases
    where
      by : Erases (tracked_run turns task) (plain_run turns task) → (plain_run turns task).ending ≡ halted halt
      by (goes_on same lines) = plain_halted (plain_run turns task).ending halt (sym same ∙ e)
      by (stops rule need have rest ends broken front) = absurd (plain_isnt_stopped _ halt rule need have e ends)

  -- what is shown of a finished run is shown of the plain one
  pub plain_of : (out : List ℕ) → out ≡ shown_to task.observer task.tables (tracked_run turns task) → IsFinishedBy (tracked_run turns task).ending
      → IsFinishedBy (monitored (plain_run turns task).ending) × (out ≡ lines_shown_to task.observer task.tables (plain_run turns task).lines (monitored (plain_run turns task).ending))
  plain_of out is finished = by erases
    where
      by : Erases (tracked_run turns task) (plain_run turns task) → IsFinishedBy (monitored (plain_run turns task).ending) × (out ≡ lines_shown_to task.observer task.tables (plain_run turns task).lines (monitored (plain_run turns task).ending))
      by (goes_on same lines) = (subst IsFinishedBy same finished, is ∙ shown_parts task.observer task.tables (tracked_run turns task) ∙ (λ i. lines_shown_to task.observer task.tables (sym lines i) (same i)))
      by (stops rule need have rest ends broken front) = absurd (subst IsFinishedBy ends finished)

  pub stop_of : (out : List ℕ) → out ≡ shown_to task.observer task.tables (tracked_run turns task) → (rule : Rule) (need have : Label) → (tracked_run turns task).ending ≡ halted (stopped rule need have) → IsStop turns task out
  stop_of out is rule need have at = by erases
    where
      by : Erases (tracked_run turns task) (plain_run turns task) → IsStop turns task out
      by (goes_on same lines) = absurd (plain_unstopped (plain_run turns task).ending rule need have (sym same ∙ at))
      by (stops other needed had rest ends broken front) = record {
        rule = other;
        need = needed;
        have = had;
        lines = erased_lines (tracked_run turns task).lines;
        rest = rest;
        ends = ends;
        broken = broken;
        told = is ∙ shown_parts task.observer task.tables (tracked_run turns task) ∙ ap (lines_shown_to task.observer task.tables (erased_lines (tracked_run turns task).lines)) ends;
        front = front;
      }
