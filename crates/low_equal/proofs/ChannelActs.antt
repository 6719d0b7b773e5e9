-- Lines are read and printed, and origins are joined: where the cause can't be seen, and in two runs.
use Rattle.std.proofs.Common.{◌≡◌, ℕ, List, [], ◌∷◌, ◌++◌, length, Bool, true, false, Option, Some, None, slice_get, slice_index, ◌⊎◌, inl, inr, le_refl, refl, sym, ◌∙◌, ap, ap₂, subst}
use Rattle.origin_labels.specs.Label.{Label, union, within, label_of}
use Rattle.flow_policy.specs.declared.policy.Channel.{Channel}
use Rattle.flow_policy.specs.Policies.{Tables, channel_named}
use Rattle.flow_policy.specs.Inputs.{Given, given_on}
use Rattle.flow_policy.specs.Observed.{Agree as AgreeOn, sees_channel}
use Rattle.flow_frames.specs.declared.faults.Rule.TheVariants.{W11, W12}
use Rattle.flow_frames.specs.Frames.{context}
use Rattle.js_number.specs.declared.primitive.Primitive.TheVariants.{Undefined, Null, Num, Str}
use Rattle.js_number.specs.declared.primitive.Primitive.TheVariants as prims
use Rattle.js_values.specs.declared.value.Value.{Value}
use Rattle.js_values.specs.declared.value.Value.TheVariants as value
use Rattle.es_meaning.specs.Outcomes.{Goes}
use Rattle.es_meaning.specs.Plain.{channel_of, value_read, positions_behind, line_at, channel_name, name_at}
use Rattle.es_meaning.specs.Requested.{are_origins}
use Rattle.flow_meaning.specs.Scopes.{Val, joined, LabelledLine, State, L}
use Rattle.flow_meaning.specs.Tracked.{label_at, channel_label, if_origins, reads, read_channel, prints, print_text, print_channel, with_origins}
use Rattle.low_equal.specs.Observed.{Sees, Hides, IsSeen, on_seen_channel, SameLines}
use Rattle.low_equal.specs.LowEqual.{Pairing, seen, hidden, SameValue, primitives, objects, Agree, LowEqual}
use Rattle.low_equal.specs.Runs.{Same, Confined, InStep, go}
use Rattle.low_equal.proofs.Labels.{sees_or_hides, sees_union, hides_first, hides_second, hides_within}
use Rattle.low_equal.proofs.Agreement.{extends_refl, alike_refl, alike_same, agree_joined}
use Rattle.low_equal.proofs.Lines.{front_refl, front_more, lines_refl, lines_sym, lines_trans, lines_hidden, lines_both, length_behind, positions_refl, positions_sym, positions_trans, positions_hidden, positions_both}
use Rattle.low_equal.proofs.States.{same_context, low_positions, low_lines}
use Rattle.low_equal.proofs.Steps.{still_live, conf_ends}
use Rattle.low_equal.proofs.Acts.{conf_under, after_guard}
use Rattle.low_equal.proofs.Channels.{Stands, stands}
use Rattle.low_equal.proofs.Mute.{Mum, HiddenVal, mutes, mum_ends, mute_guard, values_apart}
use Rattle.low_equal.proofs.References.{both_end, seen_other}

-- a channel stands where a number was found
abbrev AreStanding : List Channel → Option ℕ → Type 0
AreStanding channels o = (i : ℕ) → o ≡ Some i → Stands channels i

module _ (observer : Label) (tables : Tables) where
  abbrev Hid : Val → Type 0
  Hid v = HiddenVal observer tables v

  -- the label of a channel that stands is hidden with it
  hides_channel : (channels : List Channel) (i : ℕ) (c : Channel) → slice_get channels i ≡ Some c → Hides observer (channel_label channels i) → Hides observer c.label
  hides_channel channels i c at h = subst (Hides observer) (ap label_at at) h

  -- ---- reading

  -- what is read of a hidden channel can't be told, on one side and on both
  quiet_read : {β : Pairing} {s t : State} (i : ℕ) (c : Channel) (line : Option (List ℕ)) → slice_get tables.inputs i ≡ Some c → Hides observer c.label → LowEqual observer tables β s t
      → LowEqual observer tables β (record s { positions = positions_behind i line s.positions }) t
  quiet_read {s = s} {t = t} i c line at h r =
      low_positions observer tables r (length_behind i line s.positions ∙ r.counts)
      (positions_trans observer tables (positions_behind i line s.positions) s.positions t.positions (positions_sym observer tables s.positions (positions_behind i line s.positions) (positions_hidden observer tables i c line s.positions at h)) r.positions)

  pub conf_read : (inputs : Given) (o : Option ℕ) → AreStanding tables.inputs o → (name : Label) → Confined observer tables (read_channel tables inputs o name)
  unfolding read_channel
  conf_read inputs None there name = conf_ends observer tables _
  conf_read inputs (Some i) there name = conf_under observer tables W11 (λ s. union (context s.frames) name) (λ s. channel_label tables.inputs i) (λ s. reads tables inputs i (channel_label tables.inputs i))
      (λ s w p.
      let c = there i refl in
      let h = hides_channel tables.inputs i c.channel c.at (hides_within observer (union (context s.frames) name) (channel_label tables.inputs i) w (hides_first observer (context s.frames) name p)) in
      still_live observer tables (reads tables inputs i (channel_label tables.inputs i) s) (record { looks = λ β u r. quiet_read i c.channel _ c.at h r; frames = refl }) (lines_refl observer tables s.lines) (positions_hidden observer tables i c.channel _ s.positions c.at h))
      (λ s. le_refl (length s.frames)) (λ s. front_refl s.lines)

  -- a read cannot be told either where the channel's name is hidden
  same_read_of : (i : ℕ) (c : Channel) (line : Option (List ℕ)) (s : State) → slice_get tables.inputs i ≡ Some c → Hides observer c.label → Same observer tables s (record s { positions = positions_behind i line s.positions })
  same_read_of i c line s at h = record { looks = λ β u r. quiet_read i c line at h r; frames = refl }

  mum_read : (inputs : Given) (o : Option ℕ) → AreStanding tables.inputs o → (name : Label) → Hides observer name → Mum observer tables Hid (read_channel tables inputs o name)
  unfolding read_channel
  mum_read inputs None there name h = mum_ends observer tables Hid _
  mum_read inputs (Some i) there name h = record {
    mute = λ s w. mute_guard observer tables Hid (within (union (context s.frames) name) (channel_label tables.inputs i)) W11 _ _ (reads tables inputs i (channel_label tables.inputs i)) s
        (λ x. let c = there i refl in let k = hides_within observer (union (context s.frames) name) (channel_label tables.inputs i) x (hides_second observer (context s.frames) name h) in
        mutes (same_read_of i c.channel (line_at inputs i s.positions) s c.at (hides_channel tables.inputs i c.channel c.at k)) (lines_refl observer tables s.lines) k);
  }

  module _ (first second : Given) (agree : AgreeOn observer tables first second) where
    abbrev line_in : Given → ℕ → State → Option (List ℕ)
    line_in inputs i s = line_at inputs i s.positions

    -- the same line of a channel that is seen is read in both runs
    same_read : {γ : Pairing} (i : ℕ) (c : Channel) (s t : State) → LowEqual observer tables γ s t → IsSeen observer s → slice_get tables.inputs i ≡ Some c → Sees observer c.label → (line other : Option (List ℕ)) → line ≡ other
        → InStep observer tables (Agree observer) γ (Goes (record { value = value_read line; label = channel_label tables.inputs i }) (record s { positions = positions_behind i line s.positions }))
        (Goes (record { value = value_read other; label = channel_label tables.inputs i }) (record t { positions = positions_behind i other t.positions }))
    same_read {γ} i c s t r v at p line other e = subst
        (λ (o : Option (List ℕ)). InStep observer tables (Agree observer) γ (Goes (record { value = value_read line; label = channel_label tables.inputs i }) (record s { positions = positions_behind i line s.positions }))
        (Goes (record { value = value_read o; label = channel_label tables.inputs i }) (record t { positions = positions_behind i o t.positions }))) e
        (go γ (extends_refl γ) (low_positions observer tables r (length_behind i line s.positions ∙ r.counts ∙ sym (length_behind i line t.positions)) (positions_both observer tables i c line s.positions t.positions at p r.counts r.positions)) v
        (alike_same observer (channel_label tables.inputs i) (read_same line)))
      where
        read_same : (l : Option (List ℕ)) → SameValue γ (value_read l) (value_read l)
        read_same None = primitives
        read_same (Some text) = primitives

    -- by whether the channel is seen
    read_by : {γ : Pairing} (i : ℕ) (c : Channel) (s t : State) → LowEqual observer tables γ s t → IsSeen observer s → slice_get tables.inputs i ≡ Some c → Sees observer c.label ⊎ Hides observer c.label
        → InStep observer tables (Agree observer) γ (reads tables first i (channel_label tables.inputs i) s) (reads tables second i (channel_label tables.inputs i) t)
    read_by i c s t r v at (inl p) = same_read i c s t r v at p (line_in first i s) (line_in second i t)
        (ap (λ (ls : List (List ℕ)). slice_get ls (slice_index s.positions i)) (agree i c at p) ∙ ap (slice_get (given_on second i)) (r.positions i c at p))
    read_by i c s t r v at (inr h) =
        let hides : Hides observer (channel_label tables.inputs i) = subst (Hides observer) (sym (ap label_at at)) h in
        values_apart observer tables r v (mutes (same_read_of i c (line_in first i s) s at h) (lines_refl observer tables s.lines) hides) (mutes (same_read_of i c (line_in second i t) t at h) (lines_refl observer tables t.lines) hides)

    -- one channel is read in both
    read_seen : {γ : Pairing} (o : Option ℕ) → AreStanding tables.inputs o → (name : Label) (s t : State) → LowEqual observer tables γ s t → IsSeen observer s
        → InStep observer tables (Agree observer) γ (read_channel tables first o name s) (read_channel tables second o name t)
    unfolding read_channel
    read_seen None there name s t r v = both_end observer tables (Agree observer) r
    read_seen (Some i) there name s t r v =
        after_guard observer tables (Agree observer) (within (union (context s.frames) name) (channel_label tables.inputs i)) (within (union (context t.frames) name) (channel_label tables.inputs i)) W11 _ _ _ _
        (reads tables first i (channel_label tables.inputs i)) (reads tables second i (channel_label tables.inputs i)) s t r (front_refl s.lines) (front_refl t.lines)
        (λ w x. let c = there i refl in read_by i c.channel s t r v c.at (sees_or_hides observer c.channel.label))

    -- a value that names a channel
    channel_same : {γ : Pairing} (channels : List Channel) {v u : Value} → SameValue γ v u → channel_of channels v ≡ channel_of channels u
    channel_same channels primitives = refl
    channel_same channels (objects p) = refl

    pub read_after : {γ : Pairing} {v u : Val} (s t : State) → Agree observer γ v u → LowEqual observer tables γ s t → IsSeen observer s
        → InStep observer tables (Agree observer) γ (read_channel tables first (channel_of tables.inputs v.value) v.label s) (read_channel tables second (channel_of tables.inputs u.value) u.label t)
    read_after {γ} {v} {u} s t (seen p e q) r w =
        subst (λ l. InStep observer tables (Agree observer) γ (read_channel tables first (channel_of tables.inputs v.value) v.label s) (read_channel tables second (channel_of tables.inputs u.value) l t)) e
        (subst (λ o. InStep observer tables (Agree observer) γ (read_channel tables first (channel_of tables.inputs v.value) v.label s) (read_channel tables second o v.label t)) (channel_same tables.inputs q)
        (read_seen (channel_of tables.inputs v.value) (stands tables.inputs v.value) v.label s t r w))
    read_after {v = v} {u = u} s t (hidden h j) r w = values_apart observer tables r w
        ((mum_read first (channel_of tables.inputs v.value) (stands tables.inputs v.value) v.label h).mute s w) ((mum_read second (channel_of tables.inputs u.value) (stands tables.inputs u.value) u.label j).mute t (seen_other observer tables r w))

  -- ---- printing

  -- a printed line, and the state with it
  abbrev printed : ℕ → List ℕ → Label → LabelledLine
  printed i text need = record { line = record { channel = channel_name tables.outputs i; text = text }; label = need }

  abbrev with_line : LabelledLine → State → State
  with_line l s = record s { lines = s.lines ++ l ∷ [] }

  -- what is printed on a hidden channel isn't seen
  hides_line : (i : ℕ) (text : List ℕ) (need : Label) (c : Stands tables.outputs i) → Hides observer c.channel.label → on_seen_channel observer tables (printed i text need) ≡ false
  unfolding sees_channel
  hides_line i text need c h = ap (λ (o : Option Channel). sees_channel observer (channel_named (name_at o) tables.outputs)) c.at ∙ ap (sees_channel observer) c.named ∙ h

  -- a hidden line on a hidden channel can't be told
  quiet_line : (i : ℕ) (text : List ℕ) (need : Label) (c : Stands tables.outputs i) (ls : List LabelledLine) → Hides observer need → Hides observer c.channel.label → SameLines observer tables ls (ls ++ printed i text need ∷ [])
  quiet_line i text need c ls h k = lines_hidden observer tables ls (printed i text need) (hides_line i text need c k) h

  same_print : (i : ℕ) (text : List ℕ) (need : Label) (c : Stands tables.outputs i) (s : State) → Hides observer need → Hides observer c.channel.label → Same observer tables s (with_line (printed i text need) s)
  same_print i text need c s h k = record { looks = λ β u r. low_lines observer tables r (lines_trans observer tables (lines_sym observer tables (quiet_line i text need c s.lines h k)) r.lines); frames = refl }

  conf_text : (inputs : Given) (i : ℕ) → Stands tables.outputs i → (l : Label) (text : List ℕ) → Confined observer tables (print_text tables inputs i l (value.Primitive (Str text)))
  unfolding print_text
  conf_text inputs i c l text = conf_under observer tables W12 (λ s. union (context s.frames) l) (λ s. channel_label tables.outputs i) (λ s. prints tables inputs i (union (context s.frames) l) l text)
      (λ s w p.
      let hn = hides_first observer (context s.frames) l p in
      let h = hides_channel tables.outputs i c.channel c.at (hides_within observer (union (context s.frames) l) (channel_label tables.outputs i) w hn) in
      still_live observer tables (prints tables inputs i (union (context s.frames) l) l text s) (same_print i text (union (context s.frames) l) c s hn h) (quiet_line i text (union (context s.frames) l) c s.lines hn h) (positions_refl observer tables s.positions))
      (λ s. le_refl (length s.frames)) (λ s. front_more s.lines _)

  -- what is no text isn't printed
  conf_value : (inputs : Given) (i : ℕ) → Stands tables.outputs i → (l : Label) (v : Value) → Confined observer tables (print_text tables inputs i l v)
  unfolding print_text
  conf_value inputs i c l (value.Primitive (Str text)) = conf_text inputs i c l text
  conf_value inputs i c l (value.Primitive Undefined) = conf_ends observer tables _
  conf_value inputs i c l (value.Primitive Null) = conf_ends observer tables _
  conf_value inputs i c l (value.Primitive (prims.Bool b)) = conf_ends observer tables _
  conf_value inputs i c l (value.Primitive (Num n)) = conf_ends observer tables _
  conf_value inputs i c l (value.Object o) = conf_ends observer tables _

  pub conf_print : (inputs : Given) (o : Option ℕ) → AreStanding tables.outputs o → (name : Label) (v : Val) → Confined observer tables (print_channel tables inputs o name v)
  unfolding print_channel
  conf_print inputs None there name v = conf_ends observer tables _
  conf_print inputs (Some i) there name v = conf_value inputs i (there i refl) (union name v.label) v.value

  -- where the name or the text is hidden
  mum_text : (inputs : Given) (i : ℕ) → Stands tables.outputs i → (l : Label) (text : List ℕ) → Hides observer l → Mum observer tables Hid (print_text tables inputs i l (value.Primitive (Str text)))
  unfolding print_text
  mum_text inputs i c l text h = record {
    mute = λ s w. mute_guard observer tables Hid (within (union (context s.frames) l) (channel_label tables.outputs i)) W12 _ _ (prints tables inputs i (union (context s.frames) l) l text) s
        (λ x. let hn = hides_second observer (context s.frames) l h in
        let k = hides_channel tables.outputs i c.channel c.at (hides_within observer (union (context s.frames) l) (channel_label tables.outputs i) x hn) in
        mutes (same_print i text (union (context s.frames) l) c s hn k) (quiet_line i text (union (context s.frames) l) c s.lines hn k) h);
  }

  mum_value : (inputs : Given) (i : ℕ) → Stands tables.outputs i → (l : Label) (v : Value) → Hides observer l → Mum observer tables Hid (print_text tables inputs i l v)
  unfolding print_text
  mum_value inputs i c l (value.Primitive (Str text)) h = mum_text inputs i c l text h
  mum_value inputs i c l (value.Primitive Undefined) h = mum_ends observer tables Hid _
  mum_value inputs i c l (value.Primitive Null) h = mum_ends observer tables Hid _
  mum_value inputs i c l (value.Primitive (prims.Bool b)) h = mum_ends observer tables Hid _
  mum_value inputs i c l (value.Primitive (Num n)) h = mum_ends observer tables Hid _
  mum_value inputs i c l (value.Object o) h = mum_ends observer tables Hid _

  mum_print : (inputs : Given) (o : Option ℕ) → AreStanding tables.outputs o → (name : Label) (v : Val) → Hides observer (union name v.label) → Mum observer tables Hid (print_channel tables inputs o name v)
  unfolding print_channel
  mum_print inputs None there name v h = mum_ends observer tables Hid _
  mum_print inputs (Some i) there name v h = mum_value inputs i (there i refl) (union name v.label) v.value h

  -- one text is printed on one channel in both
  text_seen : {γ : Pairing} (first second : Given) (i : ℕ) (l : Label) (text : List ℕ) → Sees observer l → (s t : State) → LowEqual observer tables γ s t → IsSeen observer s
      → InStep observer tables (Agree observer) γ (print_text tables first i l (value.Primitive (Str text)) s) (print_text tables second i l (value.Primitive (Str text)) t)
  unfolding print_text
  text_seen {γ} first second i l text p s t r w =
      after_guard observer tables (Agree observer) (within (union (context s.frames) l) (channel_label tables.outputs i)) (within (union (context t.frames) l) (channel_label tables.outputs i)) W12 _ _ _ _
      (prints tables first i (union (context s.frames) l) l text) (prints tables second i (union (context t.frames) l) l text) s t r (front_more s.lines _) (front_more t.lines _)
      (λ x y. go γ (extends_refl γ)
      (subst (λ c. LowEqual observer tables γ (with_line (printed i text (union (context s.frames) l)) s) (with_line (printed i text (union c l)) t)) (same_context observer tables r w)
      (low_lines observer tables r (lines_both observer tables (printed i text (union (context s.frames) l)) r.lines))) w (seen p refl primitives))

  value_seen : {γ : Pairing} (first second : Given) (i : ℕ) (l : Label) {v u : Value} → Sees observer l → SameValue γ v u → (s t : State) → LowEqual observer tables γ s t → IsSeen observer s
      → InStep observer tables (Agree observer) γ (print_text tables first i l v s) (print_text tables second i l u t)
  unfolding print_text
  value_seen first second i l p (primitives {p = Str text}) s t r w = text_seen first second i l text p s t r w
  value_seen first second i l p (primitives {p = Undefined}) s t r w = both_end observer tables (Agree observer) r
  value_seen first second i l p (primitives {p = Null}) s t r w = both_end observer tables (Agree observer) r
  value_seen first second i l p (primitives {p = prims.Bool b}) s t r w = both_end observer tables (Agree observer) r
  value_seen first second i l p (primitives {p = Num n}) s t r w = both_end observer tables (Agree observer) r
  value_seen first second i l p (objects {o = o} {q = q} x) s t r w = both_end observer tables (Agree observer) r

  print_seen : {γ : Pairing} (first second : Given) (o : Option ℕ) (n m : Label) {v u : Val} → n ≡ m → Sees observer (union n v.label) → v.label ≡ u.label → SameValue γ v.value u.value → (s t : State) → LowEqual observer tables γ s t → IsSeen observer s
      → InStep observer tables (Agree observer) γ (print_channel tables first o n v s) (print_channel tables second o m u t)
  unfolding print_channel
  print_seen first second None n m d p e q s t r w = both_end observer tables (Agree observer) r
  print_seen {γ} first second (Some i) n m {v} {u} d p e q s t r w =
      subst (λ l. InStep observer tables (Agree observer) γ (print_text tables first i (union n v.label) v.value s) (print_text tables second i l u.value t)) (ap₂ union d e)
      (value_seen first second i (union n v.label) p q s t r w)

  prints_apart : {γ : Pairing} (first second : Given) (n m v u : Val) (s t : State) → Hides observer (union n.label v.label) → Hides observer (union m.label u.label) → LowEqual observer tables γ s t → IsSeen observer s
      → InStep observer tables (Agree observer) γ (print_channel tables first (channel_of tables.outputs n.value) n.label v s) (print_channel tables second (channel_of tables.outputs m.value) m.label u t)
  prints_apart first second n m v u s t h k r w = values_apart observer tables r w ((mum_print first (channel_of tables.outputs n.value) (stands tables.outputs n.value) n.label v h).mute s w)
      ((mum_print second (channel_of tables.outputs m.value) (stands tables.outputs m.value) m.label u k).mute t (seen_other observer tables r w))

  outputs_same : {γ : Pairing} {v u : Value} → SameValue γ v u → channel_of tables.outputs v ≡ channel_of tables.outputs u
  outputs_same primitives = refl
  outputs_same (objects p) = refl

  pub print_after : {γ : Pairing} (first second : Given) {n m v u : Val} (s t : State) → Agree observer γ n m → Agree observer γ v u → LowEqual observer tables γ s t → IsSeen observer s
      → InStep observer tables (Agree observer) γ (print_channel tables first (channel_of tables.outputs n.value) n.label v s) (print_channel tables second (channel_of tables.outputs m.value) m.label u t)
  print_after {γ} first second {n} {m} {v} {u} s t (seen p e q) (seen x d y) r w =
      subst (λ o. InStep observer tables (Agree observer) γ (print_channel tables first (channel_of tables.outputs n.value) n.label v s) (print_channel tables second o m.label u t)) (outputs_same q)
      (print_seen first second (channel_of tables.outputs n.value) n.label m.label e (sees_union observer n.label v.label p x) d y s t r w)
  print_after first second {n} {m} {v} {u} s t (hidden h k) a r w = prints_apart first second n m v u s t (hides_first observer n.label v.label h) (hides_first observer m.label u.label k) r w
  print_after first second {n} {m} {v} {u} s t a (hidden h k) r w = prints_apart first second n m v u s t (hides_second observer n.label v.label h) (hides_second observer m.label u.label k) r w

  -- ---- origins

  pub conf_if : (b : Bool) {next : L Val} → Confined observer tables next → Confined observer tables (if_origins b next)
  unfolding if_origins
  conf_if true c = record { still = λ s. c.still s; fits = λ s. c.fits s; adds = λ s. c.adds s }
  conf_if false c = conf_ends observer tables _

  pub if_after : {γ : Pairing} (b : Bool) (m n : L Val) (s t : State) → LowEqual observer tables γ s t → InStep observer tables (Agree observer) γ (m s) (n t) → InStep observer tables (Agree observer) γ (if_origins b m s) (if_origins b n t)
  unfolding if_origins
  if_after true m n s t r x = x
  if_after false m n s t r x = both_end observer tables (Agree observer) r

  pub conf_origins : (inputs : Given) (origins : List ℕ) {next : L Val} → Confined observer tables next → Confined observer tables (with_origins tables inputs origins next)
  unfolding with_origins
  conf_origins inputs origins c = conf_if (are_origins (length tables.origins) origins) c

  pub origins_after : {γ : Pairing} (first second : Given) (origins : List ℕ) (m n : L Val) (s t : State) → LowEqual observer tables γ s t → InStep observer tables (Agree observer) γ (m s) (n t)
      → InStep observer tables (Agree observer) γ (with_origins tables first origins m s) (with_origins tables second origins n t)
  unfolding with_origins
  origins_after first second origins m n s t r x = if_after (are_origins (length tables.origins) origins) m n s t r x

  -- they join the label of a value
  pub labelled_agree : {γ : Pairing} (origins : List ℕ) {v u : Val} → Agree observer γ v u → Agree observer γ (joined (label_of origins) v) (joined (label_of origins) u)
  labelled_agree origins a = agree_joined observer (alike_refl observer (label_of origins)) a
