-- What an observer sees of the lines of a run, in bytes.
use Rattle.std.proofs.Common.{◌≡◌, ℕ, true, List, [], ◌∷◌, ◌++◌, map, refl, sym, ap, ap₂, ◌∙◌, inl, inr}
use Rattle.std.specs.List.{flat_map, list_all}
use Rattle.std.proofs.lemmas.Bool.{and_from, and_parts, cases_Bool}
use Rattle.std.proofs.lemmas.List.{append_assoc}
use Rattle.flow_text.specs.Utf8.{utf8_of}
use Rattle.flow_text.specs.Written.{escaped}
use Rattle.flow_text.proofs.Laws.{ascii_bytes}
use Rattle.origin_labels.specs.Label.{Label}
use Rattle.flow_policy.specs.Policies.{Tables, IsPolicy, channel_named}
use Rattle.flow_policy.proofs.ViewLaws.{IsPlain}
use Rattle.es_meaning.specs.Plain.{Line}
use Rattle.flow_meaning.specs.Scopes.{LabelledLine}
use Rattle.flow_meaning.specs.Tracked.{Run}
use Rattle.flow_meaning.specs.Written.{line_bytes, lines_bytes}
use Rattle.low_equal.specs.Observed.{on_seen_channel, seen_lines}
use Rattle.step_run.specs.declared.ending.Show.TheVariants as show
use Rattle.step_run.specs.Lines.{shown_bytes}
use Rattle.step_run.proofs.Kept.{is_output, AreNamed}
use Rattle.step_run.proofs.Views.{line_body, bodies, plain_name, view_shown}
use Rattle.js_shell.specs.Replies.{cut, written_lines}

-- the seen ones of lines on output channels are on output channels
seen_named : (tables : Tables) (observer : Label) (lines : List LabelledLine) → AreNamed tables lines → AreNamed tables (seen_lines observer tables lines)
seen_named tables observer [] named = refl
seen_named tables observer (l ∷ lines) named =
    let both = and_parts (is_output tables l.line.channel) (list_all (λ k. is_output tables k.line.channel) lines) named in
    elim (cases_Bool (on_seen_channel observer tables l)) [
      | inl b ↦ rw b (and_from (is_output tables l.line.channel) (list_all (λ k. is_output tables k.line.channel) (seen_lines observer tables lines)) both.0 (seen_named tables observer lines both.1))
      | inr b ↦ rw b (seen_named tables observer lines both.1)
    ]

-- the bytes of a line are its body and an LF
pub line_whole : (line : Line) → IsPlain line.channel → line_bytes line ≡ line_body line ++ 10 ∷ []
unfolding line_bytes
line_whole line plain =
    ap (λ (w : List ℕ). w ++ 32 ∷ (utf8_of (escaped line.text) ++ 10 ∷ [])) (ascii_bytes line.channel plain.ascii)
    ∙ sym (append_assoc line.channel (32 ∷ utf8_of (escaped line.text)) (10 ∷ []))

module _ (tables : Tables) (formed : IsPolicy tables) where
  -- the name of an output channel
  pub output_named : (name : List ℕ) → is_output tables name ≡ true → IsPlain name
  output_named name some = plain_name tables formed name (channel_named name tables.outputs) refl some

  -- each body with its LF
  ended_bodies : (lines : List LabelledLine) → AreNamed tables lines → flat_map (λ body. body ++ 10 ∷ []) (bodies lines) ≡ lines_bytes (map (λ l. l.line) lines)
  unfolding lines_bytes
  ended_bodies [] named = refl
  ended_bodies (l ∷ lines) named =
      let both = and_parts (is_output tables l.line.channel) (list_all (λ k. is_output tables k.line.channel) lines) named in
      ap₂ (λ (a b : List ℕ). a ++ b) (sym (line_whole l.line (output_named l.line.channel both.0))) (ended_bodies lines both.1)

  -- what is cut out of the bytes of lines is the bytes of those that the observer sees
  pub cut_lines : (observer : Label) (lines : List LabelledLine) → AreNamed tables lines → cut observer tables (lines_bytes (map (λ l. l.line) lines)) ≡ shown_bytes (show.Only observer) tables lines
  unfolding cut
  cut_lines observer lines named =
      ap (flat_map (λ body. body ++ 10 ∷ [])) (view_shown tables formed observer show.All lines named)
      ∙ ended_bodies (seen_lines observer tables lines) (seen_named tables observer lines named)

  pub cut_run : (observer : Label) (run : Run) → AreNamed tables run.lines → cut observer tables (written_lines run) ≡ shown_bytes (show.Only observer) tables run.lines
  cut_run observer run named = cut_lines observer run.lines named
