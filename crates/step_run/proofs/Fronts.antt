-- Fronts of what runs put, cut anywhere, and what an observer sees of them.
use Rattle.std.proofs.Common.{◌≡◌, ℕ, Bool, true, false, not, ◌==◌, ◌⊎◌, ⊎_elim, inl, inr, List, [], ◌∷◌, ◌++◌, map, Option, Some, None, refl, sym, ap, subst, ◌∙◌}
use Rattle.std.specs.List.{filter, list_all}
use Rattle.std.proofs.lemmas.Bool.{and_from, and_parts, cases_Bool}
use Rattle.std.proofs.lemmas.List.{append_assoc, append-nil}
use Rattle.origin_labels.specs.Label.{Label}
use Rattle.flow_io.specs.Sinks.{IsFrontOf, Appends, AppendsFront}
use Rattle.flow_policy.specs.Inputs.{Given}
use Rattle.flow_policy.specs.Observed.{view_of}
use Rattle.flow_policy.specs.Policies.{Tables, IsPolicy}
use Rattle.flow_policy.proofs.ViewLaws.{view_of-none}
use Rattle.js_ast.specs.Trees.{Statements}
use Rattle.es_meaning.specs.BuiltIns.{BuiltIns}
use Rattle.flow_meaning.specs.Scopes.{LabelledLine}
use Rattle.flow_meaning.specs.Tracked.{Run, tracked_run}
use Rattle.flow_meaning.specs.Written.{line_bytes, lines_bytes}
use Rattle.low_equal.specs.Erasure.{erased_line}
use Rattle.low_equal.specs.Laws.{IsIsolating, OneIsFront}
use Rattle.low_equal.specs.Observed.{Front, empty, longer, on_seen_channel, seen_lines}
use Rattle.step_run.specs.declared.ending.Show.{Show}
use Rattle.step_run.specs.declared.ending.Show.TheVariants as show
use Rattle.step_run.specs.declared.ending.Ending as code
use Rattle.step_run.specs.declared.ending.Ending.TheVariants as ending
use Rattle.step_run.specs.Lines.{shown_lines, shown_bytes}
use Rattle.step_run.specs.Ran.{Put, Ran, HasFronts}
use Rattle.step_run.proofs.Appending.{front_whole, front_of_whole}
use Rattle.step_run.proofs.Kept.{is_output, AreNamed, named}
use Rattle.step_run.proofs.Views.{on_line, line_body, bodies, output_plain, line_parts, body_on_line, view_lines, named_shown, filter_swap}

-- ---- bytes up to an LF

abbrev behind_first : List ℕ → List ℕ
behind_first [] = []
behind_first (x ∷ xs) = xs

abbrev first_of : List ℕ → ℕ
first_of [] = 0
first_of (x ∷ xs) = x

-- a front of a line's bytes and more is a part of the line, or has the whole line with its LF
cut_line : (body out rest more : List ℕ) → on_line body ≡ true → body ++ 10 ∷ more ≡ out ++ rest
    → (on_line out ≡ true) ⊎ ((behind : List ℕ) × (out ≡ body ++ 10 ∷ behind) × (more ≡ behind ++ rest))
cut_line body [] rest more plain e = inl refl
cut_line [] (x ∷ out) rest more plain e = inr (out, ap (λ (n : ℕ). n ∷ out) (sym (ap first_of e)), ap behind_first e)
cut_line (b ∷ body) (x ∷ out) rest more plain e =
    let both = and_parts (not (b == 10)) (on_line body) plain in
    let same : b ≡ x = ap first_of e in
    ⊎_elim
    (λ free. inl (and_from (not (x == 10)) (on_line out) (subst (λ (n : ℕ). not (n == 10) ≡ true) same both.0) free))
    (λ p. inr (p.0, ap (λ (w : List ℕ). x ∷ w) p.1 ∙ ap (λ (n : ℕ). n ∷ (body ++ 10 ∷ p.0)) (sym same), p.2))
    (cut_line body out rest more both.1 (ap behind_first e))

-- ---- fronts of lists

front_named : (tables : Tables) {ms lines : List LabelledLine} → Front ms lines → AreNamed tables lines → AreNamed tables ms
front_named tables empty named = refl
front_named tables (longer {x = l} {xs = ms} {ys = lines} f) named =
    let both = and_parts (is_output tables l.line.channel) (list_all (λ l. is_output tables l.line.channel) lines) named in
    and_from (is_output tables l.line.channel) (list_all (λ l. is_output tables l.line.channel) ms) both.0 (front_named tables f both.1)

front_mapped : {X Y : Type 0} (f : X → Y) {xs ys : List X} → Front xs ys → Front (map f xs) (map f ys)
front_mapped f empty = empty
front_mapped f (longer p) = longer (front_mapped f p)

-- what a filter keeps of a front is a front of what it keeps
front_filtered : {X : Type 0} (p : X → Bool) {xs ys : List X} → Front xs ys → Front (filter p xs) (filter p ys)
front_filtered p empty = empty
front_filtered p (longer {x = x} f) =
    elim (cases_Bool (p x)) [
      | inl a ↦ rw a (longer (front_filtered p f))
      | inr a ↦ rw a (front_filtered p f)
    ]

-- a front of what a filter keeps is what it keeps of a front
front_of_none : {X : Type 0} (p : X → Bool) {ms : List X} → Front ms [] → (ns : List X) × Front ns [] × (filter p ns ≡ ms)
front_of_none p empty = ([], empty, refl)

front_of_kept : {X : Type 0} (p : X → Bool) (x : X) (lines : List X) {ms : List X} → p x ≡ true
    → ((rest : List X) → Front rest (filter p lines) → (ns : List X) × Front ns lines × (filter p ns ≡ rest))
    → Front ms (x ∷ filter p lines) → (ns : List X) × Front ns (x ∷ lines) × (filter p ns ≡ ms)
front_of_kept p x lines a deeper empty = ([], empty, refl)
front_of_kept p x lines a deeper (longer {xs = rest} f) = let d = deeper rest f in (x ∷ d.0, longer d.1, rw a (ap (λ ys. x ∷ ys) d.2))

filtered_front : {X : Type 0} (p : X → Bool) (lines ms : List X) → Front ms (filter p lines) → (ns : List X) × Front ns lines × (filter p ns ≡ ms)
filtered_front p [] ms f = front_of_none p f
filtered_front p (x ∷ lines) ms f =
    elim (cases_Bool (p x)) [
      | inl a ↦ front_of_kept p x lines a (λ rest g. filtered_front p lines rest g) (rw a at f)
      | inr a ↦ let d = filtered_front p lines ms (rw a at f) in (x ∷ d.0, longer d.1, rw a d.2)
    ]

one_filtered : {X : Type 0} (p : X → Bool) (xs ys : List X) → OneIsFront xs ys → OneIsFront (filter p xs) (filter p ys)
one_filtered p xs ys = ⊎_elim (λ f. inl (front_filtered p f)) (λ f. inr (front_filtered p f))

one_mapped : {X Y : Type 0} (f : X → Y) (xs ys : List X) → OneIsFront xs ys → OneIsFront (map f xs) (map f ys)
one_mapped f xs ys = ⊎_elim (λ p. inl (front_mapped f p)) (λ p. inr (front_mapped f p))

-- ---- views

module _ (tables : Tables) (formed : IsPolicy tables) where
  -- a front of the bytes of lines is that of some lines, and then of a part of the next
  front_lines : (lines : List LabelledLine) (out : List ℕ) → AreNamed tables lines → IsFrontOf out (lines_bytes (map erased_line lines))
      → (ms : List LabelledLine) × (tail : List ℕ) × Front ms lines × (on_line tail ≡ true) × (out ≡ lines_bytes (map erased_line ms) ++ tail)
  unfolding lines_bytes
  front_lines [] [] named f = ([], [], empty, refl, refl)
  front_lines [] (x ∷ out) named f = absurd cc
  front_lines (l ∷ lines) out named f =
      let both = and_parts (is_output tables l.line.channel) (list_all (λ l. is_output tables l.line.channel) lines) named in
      let plain = output_plain tables formed l.line.channel both.0 in
      let more : List ℕ = lines_bytes (map erased_line lines) in
      ⊎_elim
      (λ free. ([], out, empty, free, refl))
      (λ p.
      let deeper = front_lines lines p.0 both.1 (f.0, p.2) in (
        l ∷ deeper.0,
        deeper.1,
        longer deeper.2,
        deeper.3,
        p.1 ∙ ap (λ (w : List ℕ). line_body l.line ++ 10 ∷ w) deeper.4 ∙ sym (line_parts tables formed l.line (lines_bytes (map erased_line deeper.0) ++ deeper.1) plain)
            ∙ sym (append_assoc (line_bytes l.line) (lines_bytes (map erased_line deeper.0)) deeper.1),
      ))
      (cut_line (line_body l.line) out f.0 more (body_on_line tables formed l.line plain) (sym (line_parts tables formed l.line more plain) ∙ f.1))

  -- the view of a front of what is put of lines is that of what is put of a front of the lines
  pub front_view : (observer : Label) (which : Show) (lines : List LabelledLine) (out : List ℕ) → AreNamed tables lines → IsFrontOf out (shown_bytes which tables lines)
      → (ns : List LabelledLine) × Front ns lines × (view_of observer tables out ≡ bodies (seen_lines observer tables (shown_lines which tables ns)))
  front_view observer which lines out named f =
      let cut = front_lines (shown_lines which tables lines) out (named_shown which tables lines named) f in
      let seen = ap (view_of observer tables) cut.4
      ∙ view_lines tables formed observer cut.0 cut.1 (front_named tables cut.2 (named_shown which tables lines named))
      ∙ ap (λ (v : List (List ℕ)). bodies (seen_lines observer tables cut.0) ++ v) (view_of-none observer tables cut.1 cut.3)
      ∙ append-nil (bodies (seen_lines observer tables cut.0)) in
      of_shown which cut.0 cut.2 seen
    where
      of_shown : (which : Show) (ms : List LabelledLine) → Front ms (shown_lines which tables lines) → view_of observer tables out ≡ bodies (seen_lines observer tables ms)
          → (ns : List LabelledLine) × Front ns lines × (view_of observer tables out ≡ bodies (seen_lines observer tables (shown_lines which tables ns)))
      of_shown show.All ms f seen = (ms, f, seen)
      of_shown (show.Only other) ms f seen =
          let back = filtered_front (on_seen_channel other tables) lines ms f in
          (back.0, back.1, seen ∙ ap (λ (ls : List LabelledLine). bodies (seen_lines observer tables ls)) (sym back.2))

-- of what is put of two lists of lines one is a front of the other to the observer, where that is so of the lines
one_shown : (observer : Label) (tables : Tables) (which : Show) (ls ms : List LabelledLine) → OneIsFront (seen_lines observer tables ls) (seen_lines observer tables ms)
    → OneIsFront (seen_lines observer tables (shown_lines which tables ls)) (seen_lines observer tables (shown_lines which tables ms))
one_shown observer tables show.All ls ms one = one
one_shown observer tables (show.Only other) ls ms one =
    subst (λ (xs : List LabelledLine). OneIsFront xs (seen_lines observer tables (seen_lines other tables ms)))
    (sym (filter_swap (on_seen_channel observer tables) (on_seen_channel other tables) ls))
    (subst (λ (ys : List LabelledLine). OneIsFront (seen_lines other tables (seen_lines observer tables ls)) ys)
    (sym (filter_swap (on_seen_channel observer tables) (on_seen_channel other tables) ms))
    (one_filtered (on_seen_channel other tables) (seen_lines observer tables ls) (seen_lines observer tables ms) one))

-- ---- runs

-- however a run ended, a front of its shown bytes was appended
ran_front : (tables : Tables) (which : Show) (run : Run) (old new : Option (List ℕ)) (result : code.Ending) → Ran tables which run old new result → AppendsFront old new (shown_bytes which tables run.lines)
ran_front tables which run old new ending.Done ran = front_of_whole old new _ _ ran.1 (front_whole _)
ran_front tables which run old new (ending.Threw text) ran = front_of_whole old new _ _ ran.1 (front_whole _)
ran_front tables which run old new (ending.Stopped rule need have) ran = front_of_whole old new _ _ ran.1 (front_whole _)
ran_front tables which run old new (ending.Left why) ran = front_of_whole old new _ _ ran.1 (front_whole _)
ran_front tables which run old new ending.OutOfTurns ran = front_of_whole old new _ _ ran.1 (front_whole _)
ran_front tables which run old new ending.WriteFault ran = ran
ran_front tables which run old new ending.OutOfMemory ran = ran

-- a fact of fronts of bytes, said of what was appended
put_front : (old new : Option (List ℕ)) (bytes : List ℕ) (Says : List ℕ → Type 0) → AppendsFront old new bytes → ((out : List ℕ) → IsFrontOf out bytes → Says out) → Put old new Says
put_front old None bytes Says put holds = tt
put_front None (Some after) bytes Says put holds = absurd put
put_front (Some before) (Some after) bytes Says put holds = (put.0, put.2, holds put.0 put.1)

pub ran_fronts : (set : BuiltIns) (tables : Tables) → IsPolicy tables → (which : Show) (inputs : Given) (program : Statements) (turns : ℕ) (old new : Option (List ℕ)) (result : code.Ending)
    → IsIsolating → Ran tables which (tracked_run set tables inputs program turns) old new result → HasFronts set tables which inputs program old new
ran_fronts set tables formed which inputs program turns old new result isolating ran observer other others front agree is_front =
    let run = tracked_run set tables inputs program turns in
    let again = tracked_run set tables other program others in
    put_front old new (shown_bytes which tables run.lines) (λ out. OneIsFront (view_of observer tables out) (view_of observer tables front)) (ran_front tables which run old new result ran)
    (λ out f.
    let one = front_view tables formed observer which run.lines out (named set tables inputs program turns) f in
    let two = front_view tables formed observer which again.lines front (named set tables other program others) is_front in
    let seen = one_shown observer tables which one.0 two.0 ((isolating set observer tables inputs other program turns others agree).fronts one.0 two.0 one.1 two.1) in
    subst (λ (v : List (List ℕ)). OneIsFront v (view_of observer tables front)) (sym one.2)
    (subst (λ (v : List (List ℕ)). OneIsFront (bodies (seen_lines observer tables (shown_lines which tables one.0))) v) (sym two.2)
    (one_mapped (λ l. line_body l.line) (seen_lines observer tables (shown_lines which tables one.0)) (seen_lines observer tables (shown_lines which tables two.0)) seen)))
