-- What the acts of channels and labels come to, by what was found of the values.
use Rattle.std.proofs.Common.{◌≡◌, ℕ, List, [], ◌∷◌, ◌++◌, Bool, true, false, Option, Some, None, length, refl, ap, sym, ◌∙◌}
use Rattle.std.proofs.lemmas.Option.{same_Some}
use Rattle.origin_labels.specs.Label.{Label, union, within, label_of}
use Rattle.flow_policy.specs.Policies.{Tables}
use Rattle.flow_policy.specs.Inputs.{Given}
use Rattle.flow_frames.specs.Frames.{context}
use Rattle.flow_frames.specs.declared.faults.Rule.TheVariants.{W11, W12}
use Rattle.js_number.specs.declared.primitive.Primitive.TheVariants.{Undefined, Null, Bool as Boolean, Num, Str}
use Rattle.js_values.specs.declared.value.Value.{Value}
use Rattle.js_values.specs.declared.value.Value.TheVariants as value
use Rattle.es_meaning.specs.Outcomes.{left, Goes, Ends}
use Rattle.es_meaning.specs.Operations.{read_line, print_line, join_label}
use Rattle.es_meaning.specs.Plain.{undefined, leaves_channels, leaves_origins, channel_of, channel_name, value_read, positions_behind, line_at}
use Rattle.es_meaning.specs.Requested.{are_origins}
use Rattle.flow_meaning.specs.Scopes.{Val, as_plain, stopped, State, L, guard, joined}
use Rattle.flow_meaning.specs.Tracked.{act, channel_label, if_origins, reads, read_channel, prints, print_text, print_channel, with_origins}
use Rattle.channel_requests.specs.Answers.{text_in}

-- ---- origins that are declared

pub origins_declared : (declared : Bool) (next : L Val) (s : State) → declared ≡ true → if_origins declared next s ≡ next s
unfolding if_origins
origins_declared declared next s e = ap (λ b. if_origins b next s) e

pub origins_unknown : (declared : Bool) (next : L Val) (s : State) → declared ≡ false → if_origins declared next s ≡ Ends (as_plain (left leaves_origins)) s
unfolding if_origins
origins_unknown declared next s e = ap (λ b. if_origins b next s) e

module _ (tables : Tables) (inputs : Given) (v : Val) (s : State) where
  -- ---- a line is read

  pub read_unknown : None ≡ channel_of tables.inputs v.value → act tables inputs read_line (v ∷ []) s ≡ Ends (as_plain (left leaves_channels)) s
  unfolding act read_channel
  read_unknown e = ap (λ o. read_channel tables inputs o v.label s) (sym e)

  module _ (i : ℕ) (have : Label) (found : Some i ≡ channel_of tables.inputs v.value) (here : channel_label tables.inputs i ≡ have) where
    read_guarded : (answer : Bool) → within (union (context s.frames) v.label) have ≡ answer → act tables inputs read_line (v ∷ []) s ≡ guard answer W11 (union (context s.frames) v.label) have (reads tables inputs i have) s
    unfolding act read_channel
    read_guarded answer e =
        ap (λ o. read_channel tables inputs o v.label s) (sym found)
        ∙ ap (λ h. guard (within (union (context s.frames) v.label) h) W11 (union (context s.frames) v.label) h (reads tables inputs i h) s) here
        ∙ ap (λ b. guard b W11 (union (context s.frames) v.label) have (reads tables inputs i have) s) e

    pub read_allowed : within (union (context s.frames) v.label) have ≡ true → act tables inputs read_line (v ∷ []) s ≡ Goes (record { value = value_read (line_at inputs i s.positions); label = have }) (record s { positions = positions_behind i (line_at inputs i s.positions) s.positions })
    unfolding guard
    read_allowed e = read_guarded true e

    pub read_stopped : within (union (context s.frames) v.label) have ≡ false → act tables inputs read_line (v ∷ []) s ≡ Ends (stopped W11 (union (context s.frames) v.label) have) s
    unfolding guard
    read_stopped e = read_guarded false e

  -- ---- a line is printed

  module _ (u : Val) where
    pub print_unknown : None ≡ channel_of tables.outputs v.value → act tables inputs print_line (v ∷ u ∷ []) s ≡ Ends (as_plain (left leaves_channels)) s
    unfolding act print_channel
    print_unknown e = ap (λ o. print_channel tables inputs o v.label u s) (sym e)

    print_found : (i : ℕ) → Some i ≡ channel_of tables.outputs v.value → act tables inputs print_line (v ∷ u ∷ []) s ≡ print_text tables inputs i (union v.label u.label) u.value s
    unfolding act print_channel
    print_found i e = ap (λ o. print_channel tables inputs o v.label u s) (sym e)

    no_text : (i : ℕ) (label : Label) (x : Value) → text_in x ≡ None → print_text tables inputs i label x s ≡ Ends (as_plain (left leaves_channels)) s
    unfolding print_text
    no_text i label (value.Primitive (Str text)) e = cc
    no_text i label (value.Primitive Undefined) e = refl
    no_text i label (value.Primitive Null) e = refl
    no_text i label (value.Primitive (Boolean b)) e = refl
    no_text i label (value.Primitive (Num n)) e = refl
    no_text i label (value.Object o) e = refl

    text_is : (i : ℕ) (label : Label) (x : Value) (text : List ℕ) → text_in x ≡ Some text → print_text tables inputs i label x s ≡ print_text tables inputs i label (value.Primitive (Str text)) s
    text_is i label (value.Primitive (Str t)) text e = ap (λ (y : List ℕ). print_text tables inputs i label (value.Primitive (Str y)) s) (same_Some t text e)
    text_is i label (value.Primitive Undefined) text e = cc
    text_is i label (value.Primitive Null) text e = cc
    text_is i label (value.Primitive (Boolean b)) text e = cc
    text_is i label (value.Primitive (Num n)) text e = cc
    text_is i label (value.Object o) text e = cc

    pub print_without : (i : ℕ) → Some i ≡ channel_of tables.outputs v.value → text_in u.value ≡ None → act tables inputs print_line (v ∷ u ∷ []) s ≡ Ends (as_plain (left leaves_channels)) s
    print_without i found e = print_found i found ∙ no_text i (union v.label u.label) u.value e

    module _ (i : ℕ) (label have : Label) (text : List ℕ) (found : Some i ≡ channel_of tables.outputs v.value) (labelled : label ≡ union v.label u.label) (printed : text_in u.value ≡ Some text) (here : channel_label tables.outputs i ≡ have) where
      print_guarded : (answer : Bool) → within (union (context s.frames) label) have ≡ answer → act tables inputs print_line (v ∷ u ∷ []) s ≡ guard answer W12 (union (context s.frames) label) have (prints tables inputs i (union (context s.frames) label) label text) s
      unfolding print_text
      print_guarded answer e =
          print_found i found
          ∙ ap (λ l. print_text tables inputs i l u.value s) (sym labelled)
          ∙ text_is i label u.value text printed
          ∙ ap (λ h. guard (within (union (context s.frames) label) h) W12 (union (context s.frames) label) h (prints tables inputs i (union (context s.frames) label) label text) s) here
          ∙ ap (λ b. guard b W12 (union (context s.frames) label) have (prints tables inputs i (union (context s.frames) label) label text) s) e

      pub print_allowed : within (union (context s.frames) label) have ≡ true → act tables inputs print_line (v ∷ u ∷ []) s ≡ Goes (record { value = undefined; label = label }) (record s { lines = s.lines ++ record { line = record { channel = channel_name tables.outputs i; text = text }; label = union (context s.frames) label } ∷ [] })
      unfolding guard
      print_allowed e = print_guarded true e

      pub print_stopped : within (union (context s.frames) label) have ≡ false → act tables inputs print_line (v ∷ u ∷ []) s ≡ Ends (stopped W12 (union (context s.frames) label) have) s
      unfolding guard
      print_stopped e = print_guarded false e

  -- ---- origins are joined to a value's label

  module _ (origins : List ℕ) where
    pub label_unknown : are_origins (length tables.origins) origins ≡ false → act tables inputs (join_label origins) (v ∷ []) s ≡ Ends (as_plain (left leaves_origins)) s
    unfolding act with_origins
    label_unknown e = origins_unknown (are_origins (length tables.origins) origins) (λ t. Goes (joined (label_of origins) v) t) s e

    pub label_known : are_origins (length tables.origins) origins ≡ true → act tables inputs (join_label origins) (v ∷ []) s ≡ Goes (joined (label_of origins) v) s
    unfolding act with_origins
    label_known e = origins_declared (are_origins (length tables.origins) origins) (λ t. Goes (joined (label_of origins) v) t) s e
