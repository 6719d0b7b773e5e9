-- The view of lines that are put: those on the channels that the observer sees.
use Rattle.std.proofs.Common.{◌≡◌, ℕ, Bool, true, false, cond, not, ◌==◌, List, [], ◌∷◌, ◌++◌, map, Option, Some, None, refl, sym, ap, subst, ◌∙◌, inl, inr}
use Rattle.std.specs.Prelude.{is_some}
use Rattle.std.specs.List.{filter, list_all, slice_index_or}
use Rattle.std.proofs.lemmas.Bool.{and_from, and_parts, cases_Bool, false≢true}
use Rattle.std.proofs.lemmas.List.{append_assoc, append-nil}
use Rattle.std.proofs.lemmas.List.Folds.{list_all-append}
use Rattle.std.proofs.lemmas.Option.{slice_get_within, get_or_from_slice_get}
use Rattle.flow_text.specs.Utf8.{utf8_of}
use Rattle.flow_text.specs.Written.{escaped}
use Rattle.flow_text.proofs.Laws.{no_line_end, ascii_bytes}
use Rattle.origin_labels.specs.Label.{Label}
use Rattle.flow_policy.specs.declared.policy.Channel.{Channel}
use Rattle.flow_lists.specs.Names.{is_name}
use Rattle.flow_policy.specs.Policies.{Tables, IsPolicy, channel_named}
use Rattle.flow_policy.specs.Observed.{view_of, sees_line, sees_channel}
use Rattle.flow_policy.proofs.ViewLaws.{view_of-append, view_of-nil, first_word-append, name_parts, named_is, IsPlain}
use Rattle.es_meaning.specs.Plain.{Line}
use Rattle.flow_meaning.specs.Scopes.{LabelledLine}
use Rattle.flow_meaning.specs.Written.{line_bytes, lines_bytes}
use Rattle.low_equal.specs.Observed.{on_seen_channel, seen_lines}
use Rattle.low_equal.specs.Erasure.{erased_line}
use Rattle.step_run.specs.declared.ending.Show.{Show}
use Rattle.step_run.specs.declared.ending.Show.TheVariants as show
use Rattle.step_run.specs.Lines.{shown_lines, shown_bytes}
use Rattle.step_run.proofs.Kept.{is_output, AreNamed}

-- no LF
abbrev pub on_line : List ℕ → Bool
on_line bytes = list_all (λ b. not (b == 10)) bytes

pub line_behind : (xs ys : List ℕ) → on_line xs ≡ true → on_line ys ≡ true → on_line (xs ++ ys) ≡ true
line_behind xs ys first second = list_all-append (λ b. not (b == 10)) xs ys ∙ and_from (on_line xs) (on_line ys) first second

-- ---- two filters

pub filter_swap : {X : Type 0} (p q : X → Bool) (xs : List X) → filter p (filter q xs) ≡ filter q (filter p xs)
filter_swap p q [] = refl
filter_swap p q (x ∷ xs) =
    elim (cases_Bool (p x)) [
      | inl a ↦ elim (cases_Bool (q x)) [
        | inl b ↦ rw (a, b, a) (ap (λ ys. x ∷ ys) (filter_swap p q xs))
        | inr b ↦ rw (a, b) (filter_swap p q xs)
      ]
      | inr a ↦ elim (cases_Bool (q x)) [
        | inl b ↦ rw (a, b, a) (filter_swap p q xs)
        | inr b ↦ rw (a, b) (filter_swap p q xs)
      ]
    ]

all_filter : {X : Type 0} (p q : X → Bool) (xs : List X) → list_all p xs ≡ true → list_all p (filter q xs) ≡ true
all_filter p q [] all = refl
all_filter p q (x ∷ xs) all =
    let both = and_parts (p x) (list_all p xs) all in
    elim (cases_Bool (q x)) [
      | inl b ↦ rw b (and_from (p x) (list_all p (filter q xs)) both.0 (all_filter p q xs both.1))
      | inr b ↦ rw b (all_filter p q xs both.1)
    ]

-- lines that are shown are on output channels as all are
pub named_shown : (which : Show) (tables : Tables) (lines : List LabelledLine) → AreNamed tables lines → AreNamed tables (shown_lines which tables lines)
named_shown show.All tables lines named = named
named_shown (show.Only observer) tables lines named = all_filter (λ l. is_output tables l.line.channel) (on_seen_channel observer tables) lines named

-- ---- the view

-- a printed line without its LF
abbrev pub line_body : Line → List ℕ
line_body line = line.channel ++ 32 ∷ utf8_of (escaped line.text)

-- those of labelled lines
abbrev pub bodies : List LabelledLine → List (List ℕ)
bodies lines = map (λ l. line_body l.line) lines

module _ (tables : Tables) (formed : IsPolicy tables) where
  -- an output channel's name is one by the rule
  pub plain_name : (name : List ℕ) (o : Option Channel) → channel_named name tables.outputs ≡ o → is_some o ≡ true → IsPlain name
  plain_name name None found some = absurd (false≢true some)
  plain_name name (Some c) found some =
      let is = named_is name tables.outputs c found in
      let there : slice_index_or tables.outputs is.1.0 c ≡ c = get_or_from_slice_get tables.outputs is.1.0 c c is.1.1 in
      let each = formed.outputs.each is.1.0 c (slice_get_within tables.outputs is.1.0 c is.1.1) in
      name_parts name (subst (λ (w : List ℕ). is_name w ≡ true) (ap (λ (x : Channel). x.name) there ∙ is.0) each.name)

  pub output_plain : (name : List ℕ) → is_output tables name ≡ true → IsPlain name
  output_plain name some = plain_name name (channel_named name tables.outputs) refl some

  -- the bytes of a line are its body and an LF
  pub line_parts : (line : Line) (rest : List ℕ) → IsPlain line.channel → line_bytes line ++ rest ≡ line_body line ++ 10 ∷ rest
  unfolding line_bytes
  line_parts line rest plain =
      let text : List ℕ = utf8_of (escaped line.text) in
      ap (λ (w : List ℕ). (w ++ 32 ∷ (text ++ 10 ∷ [])) ++ rest) (ascii_bytes line.channel plain.ascii)
      ∙ append_assoc line.channel (32 ∷ (text ++ 10 ∷ [])) rest
      ∙ ap (λ (w : List ℕ). line.channel ++ 32 ∷ w) (append_assoc text (10 ∷ []) rest)
      ∙ sym (append_assoc line.channel (32 ∷ text) (10 ∷ rest))

  pub body_on_line : (line : Line) → IsPlain line.channel → list_all (λ b. not (b == 10)) (line_body line) ≡ true
  body_on_line line plain = line_behind line.channel (32 ∷ utf8_of (escaped line.text)) plain.no_line_end (no_line_end line.text)

  module _ (observer : Label) where
    sees : List ℕ → Bool
    sees name = sees_channel observer (channel_named name tables.outputs)

    body_seen : (line : Line) → IsPlain line.channel → sees_line observer tables (line_body line) ≡ sees line.channel
    unfolding sees_line sees
    body_seen line plain = ap (λ (w : List ℕ). sees_channel observer (channel_named w tables.outputs)) (first_word-append line.channel (utf8_of (escaped line.text)) plain.no_space)

    -- the view of lines, and of what is behind them
    pub view_lines : (lines : List LabelledLine) (rest : List ℕ) → AreNamed tables lines
        → view_of observer tables (lines_bytes (map erased_line lines) ++ rest) ≡ bodies (seen_lines observer tables lines) ++ view_of observer tables rest
    unfolding lines_bytes sees
    view_lines [] rest named = refl
    view_lines (l ∷ lines) rest named =
        let both = and_parts (is_output tables l.line.channel) (list_all (λ l. is_output tables l.line.channel) lines) named in
        let line : Line = l.line in
        let plain : IsPlain line.channel = output_plain line.channel both.0 in
        let more : List ℕ = lines_bytes (map erased_line lines) ++ rest in
        ap (view_of observer tables) (append_assoc (line_bytes line) (lines_bytes (map erased_line lines)) rest ∙ line_parts line more plain)
        ∙ view_of-append observer tables (line_body line) more (body_on_line line plain)
        ∙ ap (λ (b : Bool). cond b (line_body line ∷ view_of observer tables more) (view_of observer tables more)) (body_seen line plain)
        ∙ ap (λ (v : List (List ℕ)). cond (sees line.channel) (line_body line ∷ v) v) (view_lines lines rest both.1)
        ∙ shown (sees line.channel) l lines (view_of observer tables rest) refl
      where
        shown : (b : Bool) (l : LabelledLine) (lines : List LabelledLine) (rest : List (List ℕ)) → on_seen_channel observer tables l ≡ b
            → cond b (line_body l.line ∷ (bodies (seen_lines observer tables lines) ++ rest)) (bodies (seen_lines observer tables lines) ++ rest) ≡ bodies (seen_lines observer tables (l ∷ lines)) ++ rest
        shown true l lines rest e = rw e refl
        shown false l lines rest e = rw e refl

    -- the view of what is put of lines
    pub view_shown : (which : Show) (lines : List LabelledLine) → AreNamed tables lines → view_of observer tables (shown_bytes which tables lines) ≡ bodies (seen_lines observer tables (shown_lines which tables lines))
    view_shown which lines named =
        let shown : List LabelledLine = shown_lines which tables lines in
        ap (view_of observer tables) (sym (append-nil (lines_bytes (map erased_line shown))))
        ∙ view_lines shown [] (named_shown which tables lines named)
        ∙ ap (λ (v : List (List ℕ)). bodies (seen_lines observer tables shown) ++ v) (view_of-nil observer tables)
        ∙ append-nil (bodies (seen_lines observer tables shown))

-- lines that look alike to the observer look alike as they are put
pub shown_alike : (observer : Label) (tables : Tables) (which : Show) (ls ms : List LabelledLine) → seen_lines observer tables ls ≡ seen_lines observer tables ms
    → seen_lines observer tables (shown_lines which tables ls) ≡ seen_lines observer tables (shown_lines which tables ms)
shown_alike observer tables show.All ls ms alike = alike
shown_alike observer tables (show.Only other) ls ms alike =
    filter_swap (on_seen_channel observer tables) (on_seen_channel other tables) ls
    ∙ ap (seen_lines other tables) alike
    ∙ sym (filter_swap (on_seen_channel observer tables) (on_seen_channel other tables) ms)
