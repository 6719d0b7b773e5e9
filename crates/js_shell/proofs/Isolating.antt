-- Isolation: of two finished runs on inputs that agree for an observer the views are equal, and equal is what it is shown.
use Rattle.std.proofs.Common.{◌≡◌, ℕ, List, map, Option, Some, None, sym, ap, ◌∙◌}
use Rattle.origin_labels.specs.Label.{Label}
use Rattle.flow_policy.specs.Policies.{Tables, IsPolicy}
use Rattle.flow_policy.specs.Inputs.{Given}
use Rattle.flow_policy.specs.Observed.{Agree, view_of}
use Rattle.js_ast.specs.Trees.{Statements}
use Rattle.es_meaning.specs.BuiltIns.{BuiltIns}
use Rattle.flow_meaning.specs.Scopes.{LabelledLine}
use Rattle.flow_meaning.specs.Tracked.{tracked_run}
use Rattle.flow_meaning.specs.Written.{lines_bytes, written}
use Rattle.low_equal.specs.Laws as low
use Rattle.low_equal.specs.Laws.{IsFinishedBy}
use Rattle.low_equal.specs.Observed.{seen_lines}
use Rattle.step_run.specs.declared.ending.Show.TheVariants as show
use Rattle.step_run.specs.Lines.{shown_lines}
use Rattle.step_run.proofs.Kept.{named}
use Rattle.step_run.proofs.Views.{bodies, view_shown, shown_alike}
use Rattle.js_shell.specs.Promises.{IsIsolating}
use Rattle.js_shell.specs.Ran.{show_of}
use Rattle.js_shell.specs.Replies.{shown_to, cut, written_lines}
use Rattle.js_shell.proofs.Cutting.{cut_run}
use Rattle.js_shell.proofs.Shown.{run_shown}
use Rattle.js_shell.proofs.Views.{view_finished}

module _ (set : BuiltIns) (tables : Tables) (formed : IsPolicy tables) (program : Statements) where
  view_run : (observer : Label) (given : Given) (turns : ℕ) → IsFinishedBy (tracked_run set tables given program turns).ending
      → view_of observer tables (written tables (tracked_run set tables given program turns)) ≡ bodies (seen_lines observer tables (tracked_run set tables given program turns).lines)
  view_run observer given turns finished =
      view_finished tables formed observer (tracked_run set tables given program turns) (named set tables given program turns) finished (run_shown set tables given program turns)

  -- the view of what is shown of a finished run
  view_shown_to : (observer : Label) (seer : Option Label) (given : Given) (turns : ℕ) → IsFinishedBy (tracked_run set tables given program turns).ending
      → view_of observer tables (shown_to seer tables (tracked_run set tables given program turns)) ≡ bodies (seen_lines observer tables (shown_lines (show_of seer) tables (tracked_run set tables given program turns).lines))
  view_shown_to observer None given turns finished = view_run observer given turns finished
  view_shown_to observer (Some other) given turns finished =
      ap (view_of observer tables) (cut_run tables formed other (tracked_run set tables given program turns) (named set tables given program turns))
      ∙ view_shown tables formed observer (show.Only other) (tracked_run set tables given program turns).lines (named set tables given program turns)

  module _ (two_runs : low.IsIsolating) (observer : Label) (first second : Given) (turns others : ℕ) (agree : Agree observer tables first second)
      (one : IsFinishedBy (tracked_run set tables first program turns).ending) (other : IsFinishedBy (tracked_run set tables second program others).ending) where
    seen_alike : seen_lines observer tables (tracked_run set tables first program turns).lines ≡ seen_lines observer tables (tracked_run set tables second program others).lines
    seen_alike = (two_runs set observer tables first second program turns others agree).on_channels one other

    -- the observer's views of what is shown of both are equal, for whomever it is shown
    pub isolated : (seer : Option Label) → view_of observer tables (shown_to seer tables (tracked_run set tables first program turns)) ≡ view_of observer tables (shown_to seer tables (tracked_run set tables second program others))
    isolated seer =
        view_shown_to observer seer first turns one
        ∙ ap bodies (shown_alike observer tables (show_of seer) (tracked_run set tables first program turns).lines (tracked_run set tables second program others).lines seen_alike)
        ∙ sym (view_shown_to observer seer second others other)

    -- what is cut out of the lines of both is the same
    pub cut_alike : cut observer tables (written_lines (tracked_run set tables first program turns)) ≡ cut observer tables (written_lines (tracked_run set tables second program others))
    cut_alike =
        cut_run tables formed observer (tracked_run set tables first program turns) (named set tables first program turns)
        ∙ ap (λ (lines : List LabelledLine). lines_bytes (map (λ l. l.line) lines)) seen_alike
        ∙ sym (cut_run tables formed observer (tracked_run set tables second program others) (named set tables second program others))

pub isolation : low.IsIsolating → IsIsolating
isolation two_runs set program tables observer first second turns others formed agree one other = isolated set tables formed program two_runs observer first second turns others agree one other None
