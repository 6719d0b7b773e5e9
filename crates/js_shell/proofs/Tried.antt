-- How many lines a run wrote: as many as its bytes have LFs.
use Rattle.std.proofs.Common.{◌≡◌, ℕ, ◌+◌, Bool, true, false, cond, not, ◌==◌, List, [], ◌∷◌, ◌++◌, map, length, Option, Some, IfSome, refl, sym, ap, ◌∙◌, arith}
use Rattle.std.specs.Prelude.{is_some}
use Rattle.std.specs.List.{count_by, list_all}
use Rattle.std.proofs.lemmas.Bool.{and_parts}
use Rattle.std.proofs.lemmas.List.{append_assoc}
use Rattle.std.proofs.lemmas.List.Sums.{sum_by-cons}
use Rattle.flow_text.specs.Utf8.{utf8_of}
use Rattle.flow_text.specs.Written.{escaped}
use Rattle.flow_text.proofs.Laws.{no_line_end}
use Rattle.flow_policy.specs.Policies.{Tables, IsPolicy}
use Rattle.flow_policy.proofs.ViewLaws.{IsPlain}
use Rattle.es_meaning.specs.Outcomes.{Ending}
use Rattle.es_meaning.specs.Plain.{Line}
use Rattle.flow_meaning.specs.Scopes.{LabelledLine}
use Rattle.flow_meaning.specs.Tracked.{Run}
use Rattle.flow_meaning.specs.Written.{line_bytes, lines_bytes}
use Rattle.step_run.specs.declared.ending.Ending as code
use Rattle.step_run.specs.declared.ending.Show.TheVariants as show
use Rattle.step_run.specs.Ran as step
use Rattle.step_run.specs.Ran.{told_by}
use Rattle.step_run.proofs.Kept.{is_output, AreNamed}
use Rattle.step_run.proofs.Views.{on_line, line_behind, line_body}
use Rattle.js_shell.specs.declared.status.Status.{Status}
use Rattle.js_shell.specs.Answering.{Puts}
use Rattle.js_shell.specs.Ran.{ended}
use Rattle.js_shell.specs.Replies.{status_of, trial_report}
use Rattle.js_shell.proofs.Cutting.{line_whole, output_named}
use Rattle.js_shell.proofs.PutLaws.{puts_same}
use Rattle.js_shell.proofs.Reported.{over_ran, told_status, told_is}

-- how many LFs bytes have
abbrev line_ends : List ℕ → ℕ
line_ends bytes = count_by (λ byte. byte == 10) bytes

not_true : (b : Bool) → not b ≡ true → b ≡ false
not_true true e = sym e
not_true false e = refl

ends_cons : (x : ℕ) (xs : List ℕ) → line_ends (x ∷ xs) ≡ cond (x == 10) 1 0 + line_ends xs
ends_cons x xs = sum_by-cons (λ byte. cond (byte == 10) 1 0) x xs

-- none where there is no LF
ends_behind : (xs ys : List ℕ) → on_line xs ≡ true → line_ends (xs ++ ys) ≡ line_ends ys
ends_behind [] ys e = refl
ends_behind (x ∷ xs) ys e =
    let both = and_parts (not (x == 10)) (on_line xs) e in
    let more : line_ends (x ∷ (xs ++ ys)) ≡ 0 + line_ends (xs ++ ys) = ends_cons x (xs ++ ys) ∙ ap (λ (b : Bool). cond b 1 0 + line_ends (xs ++ ys)) (not_true (x == 10) both.0) in
    let rest : line_ends (xs ++ ys) ≡ line_ends ys = ends_behind xs ys both.1 in
    more ∙ omega arith

-- one in a line
ends_line : (line : Line) (rest : List ℕ) → IsPlain line.channel → line_ends (line_bytes line ++ rest) ≡ 1 + line_ends rest
ends_line line rest plain =
    ap line_ends (ap (λ (w : List ℕ). w ++ rest) (line_whole line plain) ∙ append_assoc (line_body line) (10 ∷ []) rest)
    ∙ ends_behind (line_body line) (10 ∷ rest) (line_behind line.channel (32 ∷ utf8_of (escaped line.text)) plain.no_line_end (no_line_end line.text))
    ∙ ends_cons 10 rest

ends_lines : (tables : Tables) (formed : IsPolicy tables) (lines : List LabelledLine) → AreNamed tables lines → line_ends (lines_bytes (map (λ l. l.line) lines)) ≡ length lines
unfolding lines_bytes
ends_lines tables formed [] named = refl
ends_lines tables formed (l ∷ lines) named =
    let both = and_parts (is_output tables l.line.channel) (list_all (λ k. is_output tables k.line.channel) lines) named in
    let rest : line_ends (lines_bytes (map (λ k. k.line) lines)) ≡ length lines = ends_lines tables formed lines both.1 in
    let more : line_ends (line_bytes l.line ++ lines_bytes (map (λ k. k.line) lines)) ≡ 1 + line_ends (lines_bytes (map (λ k. k.line) lines)) = ends_line l.line (lines_bytes (map (λ k. k.line) lines)) (output_named tables formed l.line.channel both.0) in
    more ∙ omega arith

-- the summary of a run that is over tells how many lines it has, and how it ends
pub tried_puts : (tables : Tables) (formed : IsPolicy tables) (run : Run) → AreNamed tables run.lines → (made : ℕ) (taken bytes : List ℕ) (e : code.Ending) → is_some (told_by e) ≡ true
    → step.Ran tables show.All run (Some []) (Some taken) e → IfSome (told_by e) (λ told. bytes ≡ trial_report tables made (line_ends taken) told) → (result : Status) (old new : Option (List ℕ))
    → Puts (record { bytes = bytes; status = ended e }) result old new → Puts (record { bytes = trial_report tables made (length run.lines) run.ending; status = status_of run.ending }) result old new
tried_puts tables formed run named made taken bytes e is h told result old new p =
    let over = over_ran tables run (Some []) (Some taken) show.All e is h in
    let count : line_ends taken ≡ length run.lines = ap line_ends over.1 ∙ ends_lines tables formed run.lines named in
    let same : bytes ≡ trial_report tables made (length run.lines) run.ending = told_is (told_by e) run.ending (λ x. bytes ≡ trial_report tables made (line_ends taken) x) over.0 told ∙ ap (λ (n : ℕ). trial_report tables made n run.ending) count in
    puts_same _ _ result old new (ap (λ (b : List ℕ). record { bytes = b; status = ended e }) same ∙ ap (λ (s : Status). record { bytes = trial_report tables made (length run.lines) run.ending; status = s }) (sym (told_status e run.ending over.0))) p
