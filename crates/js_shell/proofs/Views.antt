-- The view of what a finished run writes: the lines on the channels that the observer sees.
use Rattle.std.proofs.Common.{◌≡◌, ℕ, Bool, true, false, cond, List, [], ◌∷◌, ◌++◌, Option, Some, None, refl, ap, ◌∙◌, codes}
use Rattle.std.proofs.lemmas.Bool.{false≢true}
use Rattle.std.proofs.lemmas.List.{append-nil}
use Rattle.flow_text.specs.Utf8.{utf8_of}
use Rattle.origin_labels.specs.Label.{Label}
use Rattle.flow_policy.specs.declared.policy.Channel.{Channel}
use Rattle.flow_policy.specs.Policies.{Tables, IsPolicy, channel_named}
use Rattle.flow_policy.specs.Observed.{view_of, sees_line, sees_channel}
use Rattle.flow_policy.proofs.ViewLaws.{view_of-append, view_of-nil, first_word-append, IsPlain}
use Rattle.es_meaning.specs.Outcomes.{Ending, done, threw, halted}
use Rattle.flow_meaning.specs.Scopes.{Halt}
use Rattle.flow_meaning.specs.Tracked.{Run}
use Rattle.flow_meaning.specs.Written.{ending_bytes, report, written}
use Rattle.low_equal.specs.Laws.{IsFinishedBy}
use Rattle.low_equal.specs.Observed.{seen_lines}
use Rattle.step_run.proofs.Kept.{AreNamed}
use Rattle.step_run.proofs.Views.{bodies, on_line, plain_name, view_lines}

module _ (tables : Tables) (formed : IsPolicy tables) (observer : Label) where
  -- no channel is named as a report begins
  mark_unseen : (front : List ℕ) (o : Option Channel) → channel_named (33 ∷ front) tables.outputs ≡ o → sees_channel observer o ≡ false
  unfolding sees_channel
  mark_unseen front None found = refl
  mark_unseen front (Some c) found = absurd (false≢true (marked (plain_name tables formed (33 ∷ front) (Some c) found refl)))
    where
      marked : IsPlain (33 ∷ front) → false ≡ true
      marked plain = plain.no_mark

  -- a line that begins with an exclamation mark and a space isn't seen
  report_unseen : (text : List ℕ) → on_line text ≡ true → view_of observer tables ((33 ∷ 32 ∷ text) ++ 10 ∷ []) ≡ []
  unfolding sees_line
  report_unseen text line =
      let seen : sees_line observer tables (33 ∷ 32 ∷ text) ≡ false =
      ap (λ (w : List ℕ). sees_channel observer (channel_named w tables.outputs)) (first_word-append (33 ∷ []) text refl) ∙ mark_unseen [] (channel_named (33 ∷ []) tables.outputs) refl in
      view_of-append observer tables (33 ∷ 32 ∷ text) [] line
      ∙ ap (λ (b : Bool). cond b ((33 ∷ 32 ∷ text) ∷ view_of observer tables []) (view_of observer tables [])) seen
      ∙ view_of-nil observer tables

  -- nor is the report of a finished run
  finished_unseen : (ending : Ending Halt) → IsFinishedBy ending → ((text : List ℕ) → ending ≡ threw text → on_line (utf8_of text) ≡ true) → view_of observer tables (report tables ending) ≡ []
  unfolding report ending_bytes
  finished_unseen done finished shown = report_unseen (codes "done") refl
  finished_unseen (threw text) finished shown = report_unseen (codes "threw " ++ utf8_of text) (shown text refl)
  finished_unseen (halted halt) finished shown = absurd finished

  -- the view of what a finished run writes
  pub view_finished : (run : Run) → AreNamed tables run.lines → IsFinishedBy run.ending → ((text : List ℕ) → run.ending ≡ threw text → on_line (utf8_of text) ≡ true)
      → view_of observer tables (written tables run) ≡ bodies (seen_lines observer tables run.lines)
  unfolding written
  view_finished run named finished shown =
      view_lines tables formed observer run.lines (report tables run.ending) named
      ∙ ap (λ (v : List (List ℕ)). bodies (seen_lines observer tables run.lines) ++ v) (finished_unseen run.ending finished shown)
      ∙ append-nil _
