-- Definitions of properties: where the cause can't be seen, and in two runs. Where the place is seen and what a definition is given isn't, each run ends.
use Rattle.std.proofs.Common.{◌≡◌, ℕ, List, length, Bool, true, false, cond, ◌&&◌, Option, Some, None, slice_get, Ok, Err, le_refl, refl, sym, ◌∙◌, ap, ap₂, subst, true≢false}
use Rattle.std.proofs.lemmas.Option.{none-some, same_Some}
use Rattle.origin_labels.specs.Label.{Label, bottom, union, within}
use Rattle.flow_policy.specs.Policies.{Tables}
use Rattle.flow_frames.specs.Frames.{context}
use Rattle.flow_frames.specs.declared.faults.FlowStop.{FlowStop}
use Rattle.flow_frames.specs.declared.faults.Rule.{Rule}
use Rattle.flow_frames.specs.declared.faults.Rule.TheVariants.{W2, W3, W6}
use Rattle.native_protocol.specs.declared.request.ErrorKind.TheVariants as kinds
use Rattle.native_protocol.specs.declared.request.GivenMarks.{GivenMarks}
use Rattle.js_values.specs.declared.value.Value.{Value}
use Rattle.js_values.specs.declared.property.Marks.{Marks}
use Rattle.js_values.specs.declared.property.Body.{Body}
use Rattle.js_values.specs.declared.property.Slot.{Slot}
use Rattle.js_values.specs.Arrays.{length_key, element_of, is_length}
use Rattle.js_values.specs.Objects.{Property, Object, own, changed, with_row}
use Rattle.object_heap.specs.Acts.{Acted, under, put_back, on_object as on_object_at, on_slot, with_rows, with_marks, set_own_attributes, add_own, add_absent, stretched, added, set_attributes, add}
use Rattle.es_meaning.specs.Operations.{Shape}
use Rattle.es_meaning.specs.Outcomes.{Outcome, and_then, ret, ◌>>=◌}
use Rattle.prototype_walk.specs.Plans.{may_add, absence_label}
use Rattle.es_meaning.specs.Definitions.{GivenBody, Definition, may_define_over, defined_over, defined_new, changes_body, keeps_a_half}
use Rattle.es_meaning.specs.Requested.{given_body, defined_if, behind_definition}
use Rattle.flow_meaning.specs.Erased.{erased_slot, erased_heap}
use Rattle.flow_meaning.specs.Scopes.{Val, Halt, State, Jump, L}
use Rattle.flow_meaning.specs.Tracked.{throw_error, acted, set_marks, set_body_if, redefine, Defining, is_defined, has_length_given, define_over, define_by, define_given, define_in, defining}
use Rattle.flow_meaning.specs.Requested.{property_in, definition_test, value_label, body_label}
use Rattle.low_equal.specs.Observed.{Sees, Hides, IsSeen, IsHidden, Front}
use Rattle.low_equal.specs.LowEqual.{Pairing, Extends, Alike, seen, hidden, SameValue, Agree, BodiesAgree, data_bodies, accessors, ObjectsAgree, LowEqual}
use Rattle.low_equal.specs.Runs.{state_of, Still, Fits, Confined, InStep, go, Lockstep}
use Rattle.low_equal.proofs.Labels.{not_both, by_test, sees_union, sees_first, sees_second, hides_first, hides_second, hides_within, sees_bottom}
use Rattle.low_equal.proofs.Agreement.{extends_refl, alike_map, alike_join, agree_more}
use Rattle.low_equal.proofs.Lines.{front_refl}
use Rattle.low_equal.proofs.States.{same_refl, same_context}
use Rattle.low_equal.proofs.Steps.{still_goes, conf_ret}
use Rattle.low_equal.proofs.Acts.{conf_throw, thrown_both}
use Rattle.low_equal.proofs.Rows.{own_changed}
use Rattle.low_equal.proofs.HeapActs.{set_here}
use Rattle.low_equal.proofs.Changes.{is_included, MayTake, still_set_attributes, still_set_body, level_set_attributes, level_body}
use Rattle.low_equal.proofs.Additions.{IsNew, still_add, level_add}
use Rattle.low_equal.proofs.Walks.{own_walk, OwnCase, at_both, at_none, out_of_sight, own_case}
use Rattle.low_equal.proofs.Mute.{Mute, Mum, Never, mute_here, mute_end, mum_ret, mum_at, mum_throw, mute_both, stops_first, stops_second}
use Rattle.low_equal.proofs.HeapSteps.{still_acted, fits_acted, adds_acted, mute_acted, acted_after, still_in_turn, fits_in_turn, adds_in_turn, mute_in_turn, in_turn_after}
use Rattle.low_equal.proofs.References.{conf_at, seen_other}
use Rattle.low_equal.proofs.Owns.{conf_on_object, on_after, both_there}
use Rattle.low_equal.proofs.Plans.{absence_agrees}
use Rattle.low_equal.proofs.Givens.{GivenSame, GivensAgree, none_given, both_given, givens_agree, refused_alike, marks_behind, changes_alike, bodies_behind, bodies_new, marks_new}

-- ---- acts that stop

pub data IsStopped : Acted (List (Object Label)) → Type 0 where
  is_stopped : {stop : FlowStop Label} → IsStopped (Err stop)

heap_or : List (Object Label) → Acted (List (Object Label)) → List (Object Label)
heap_or h (Ok g) = g
heap_or h (Err stop) = h

goes_on : Acted (List (Object Label)) → Bool
goes_on (Ok g) = true
goes_on (Err stop) = false

-- a rule in front of an act
stopped_under : (h : List (Object Label)) (o : ℕ) (rule : Rule) (need have : Label) (x : Acted (Object Label)) → within need have ≡ false → IsStopped (put_back h o (under rule need have x))
stopped_under h o rule need have x e = by_rule (within need have) e
  where
    by_rule : (b : Bool) → b ≡ false → IsStopped (put_back h o (cond b x (Err (record { rule = rule; need = need; have = have }))))
    by_rule true f = absurd (true≢false f)
    by_rule false f = is_stopped

pub attributes_stop : (h : List (Object Label)) (o : ℕ) (key : List ℕ) (need : Label) (marks : Marks) (p : Object Label) (x : Slot Label) → slice_get h o ≡ Some p → own key p.rows ≡ Some x → within need x.existence ≡ false
    → IsStopped (set_attributes o key need marks h)
attributes_stop h o key need marks p x here named e =
    subst (λ z. IsStopped (on_object_at z h o (set_own_attributes key need marks))) (sym here)
    (subst (λ z. IsStopped (put_back h o (on_slot z p (λ s. under W6 need s.existence (Ok (with_rows p (changed key (with_marks marks) p.rows))))))) (sym named)
    (stopped_under h o W6 need x.existence (Ok (with_rows p (changed key (with_marks marks) p.rows))) e))

addition_stops : (h : List (Object Label)) (o : ℕ) (key : List ℕ) (need : Label) (body : Body) (label : Label) (marks : Marks) (p : Object Label) → slice_get h o ≡ Some p → own key p.rows ≡ None → within need p.structure ≡ false
    → IsStopped (add o key need body label marks h)
addition_stops h o key need body label marks p here named e =
    subst (λ z. IsStopped (on_object_at z h o (add_own key need body label marks))) (sym here)
    (subst (λ z. IsStopped (put_back h o (add_absent z key need body label marks p))) (sym named)
    (stopped_under h o W3 need p.structure (stretched (element_of p.class key) (own length_key p.rows) need p (with_row key (added need body label marks p.structure) p.rows)) e))

-- ---- behind rule W6 the property's existence label includes its need

attributes_kept : (o : ℕ) (key : List ℕ) (need : Label) (marks : Marks) (h g : List (Object Label)) → set_attributes o key need marks h ≡ Ok g → (r : Object Label) (x : Slot Label) → slice_get g o ≡ Some r → own key r.rows ≡ Some x
    → within need x.existence ≡ true
unfolding heap_or goes_on
attributes_kept o key need marks h g e r x there named = by_object (slice_get h o) refl e
  where
    by_rule : (p : Object Label) (y : Slot Label) → slice_get h o ≡ Some p → own key p.rows ≡ Some y → (b : Bool) → within need y.existence ≡ b
        → put_back {E = FlowStop Label} h o (cond b (Ok (with_rows p (changed key (with_marks marks) p.rows))) (Err (record { rule = W6; need = need; have = y.existence }))) ≡ Ok g → within need x.existence ≡ true
    by_rule p y at is true w f =
        let q = with_rows p (changed key (with_marks marks) p.rows) in
        let same : q ≡ r = same_Some q r (sym (set_here h o q p at) ∙ ap (λ k. slice_get k o) (ap (heap_or h) f) ∙ there) in
        let slot : with_marks marks y ≡ x = same_Some (with_marks marks y) x (sym (own_changed key (with_marks marks) y p.rows is) ∙ ap (λ (z : Object Label). own key z.rows) same ∙ named) in
        subst (λ (z : Slot Label). within need z.existence ≡ true) slot w
    by_rule p y at is false w f = absurd (true≢false (sym (ap goes_on f)))

    by_slot : (p : Object Label) → slice_get h o ≡ Some p → (z : Option (Slot Label)) → own key p.rows ≡ z
        → put_back {E = FlowStop Label} h o (on_slot z p (λ s. under W6 need s.existence (Ok (with_rows p (changed key (with_marks marks) p.rows))))) ≡ Ok g → within need x.existence ≡ true
    by_slot p at None is f =
        let same : p ≡ r = same_Some p r (sym (set_here h o p p at) ∙ ap (λ k. slice_get k o) (ap (heap_or h) f) ∙ there) in
        absurd (none-some x (sym is ∙ ap (λ (z : Object Label). own key z.rows) same ∙ named))
    by_slot p at (Some y) is f = by_rule p y at is (within need y.existence) refl f

    by_object : (z : Option (Object Label)) → slice_get h o ≡ z → on_object_at z h o (set_own_attributes key need marks) ≡ Ok g → within need x.existence ≡ true
    by_object None at f = absurd (none-some r (sym at ∙ ap (λ k. slice_get k o) (ap (heap_or h) f) ∙ there))
    by_object (Some p) at f = by_slot p at (own key p.rows) refl f

-- so the body may be set, by a need that is part of it
may_take_behind : (o : ℕ) (key : List ℕ) (here place given : Label) (marks : Marks) (body : Body) (h g : List (Object Label)) → set_attributes o key (union here (union place given)) marks h ≡ Ok g → MayTake g o key (union here place) body
may_take_behind o key here place given marks body h g e r x there named =
    let w = attributes_kept o key (union here (union place given)) marks h g e r x there named in
    is_included (sees_union x.existence here place (sees_first x.existence here (union place given) w) (sees_first x.existence place given (sees_second x.existence here (union place given) w)))

-- what a definition comes to by a label that is hidden
abbrev pub HiddenDefining : Label → Defining → Type 0
HiddenDefining observer (is_defined label) = Hides observer label
HiddenDefining observer (has_length_given label o marks) = Hides observer label

-- both are done, or the `length` of paired objects is given with the same attributes, by labels that are seen; or what is hidden
pub data DefiningsAgree (observer : Label) (β : Pairing) : Defining → Defining → Type 0 where
  both_defined : {l m : Label} → Sees observer l → l ≡ m → DefiningsAgree observer β (is_defined l) (is_defined m)
  both_give_lengths : {l m : Label} {o q : ℕ} {marks : GivenMarks} → Sees observer l → l ≡ m → β.objects o q ≡ true → DefiningsAgree observer β (has_length_given l o marks) (has_length_given m q marks)
  hidden_definings : {a b : Defining} → HiddenDefining observer a → HiddenDefining observer b → DefiningsAgree observer β a b

pub definings_more : {observer : Label} {β γ : Pairing} {a b : Defining} → Extends β γ → DefiningsAgree observer β a b → DefiningsAgree observer γ a b
definings_more h (both_defined s e) = both_defined s e
definings_more h (both_give_lengths s e p) = both_give_lengths s e (h.objects _ _ p)
definings_more h (hidden_definings a b) = hidden_definings a b

module _ (observer : Label) (tables : Tables) where
  abbrev Hid : Defining → Type 0
  Hid d = HiddenDefining observer d

  definings_apart : {γ : Pairing} {s t : State} {o p : Outcome Halt Jump Defining State} → LowEqual observer tables γ s t → IsSeen observer s → Mute observer tables Hid s o → Mute observer tables Hid t p → InStep observer tables (DefiningsAgree observer) γ o p
  definings_apart r w a b = mute_both observer tables Hid (DefiningsAgree observer) (λ x y h k. hidden_definings h k) r w a b

  -- a hidden need isn't included in what is seen
  pub not_included : (need have : Label) → Hides observer need → Sees observer have → within need have ≡ false
  not_included need have h s = by_test (within need have) (λ w. absurd (not_both observer have s (hides_within observer need have w h))) (λ w. w)

  mute_stopped : {X : Type 0} (P : X → Type 0) (x : X) {a : Acted (List (Object Label))} (s : State) → IsStopped a → Mute observer tables P s (acted x a s)
  unfolding acted
  mute_stopped P x s is_stopped = mute_end observer tables P s

  pub mute_stopped_then : {X Y : Type 0} (P : Y → Type 0) (x : X) (f : X → L Y) {a : Acted (List (Object Label))} (s : State) → IsStopped a → Mute observer tables P s (and_then (acted x a s) f)
  unfolding acted
  mute_stopped_then P x f s is_stopped = mute_end observer tables P s

  -- ---- the body, behind the attributes

  -- then the body, if it is given anew
  abbrev with_body_if : Bool → Label → Body → Label → ℕ → List ℕ → L Defining
  with_body_if b place body label o key = set_body_if b place body label o key >>= λ u. ret (is_defined place)

  still_body : (b : Bool) (place : Label) (body : Body) (label : Label) (o : ℕ) (key : List ℕ) (s : State) → IsHidden observer s → MayTake s.heap o key (union (context s.frames) place) body → Still observer tables s (with_body_if b place body label o key s)
  unfolding set_body_if
  still_body true place body label o key s p m = still_in_turn observer tables tt _ (λ u. ret (is_defined place)) s (still_set_body observer o key _ body label s.heap (hides_first observer (context s.frames) place p) m)
      (λ heap e. still_goes observer tables (record s { heap = heap }) (same_refl observer tables (record s { heap = heap })) refl refl)
  still_body false place body label o key s p m = still_goes observer tables s (same_refl observer tables s) refl refl

  fits_body : (b : Bool) (place : Label) (body : Body) (label : Label) (o : ℕ) (key : List ℕ) (s : State) → Fits (length s.frames) (with_body_if b place body label o key s)
  unfolding set_body_if
  fits_body true place body label o key s = fits_in_turn observer tables tt _ (λ u. ret (is_defined place)) s (λ heap. le_refl (length s.frames))
  fits_body false place body label o key s = le_refl (length s.frames)

  adds_body : (b : Bool) (place : Label) (body : Body) (label : Label) (o : ℕ) (key : List ℕ) (s : State) → Front s.lines (state_of (with_body_if b place body label o key s)).lines
  unfolding set_body_if
  adds_body true place body label o key s = adds_in_turn observer tables tt _ (λ u. ret (is_defined place)) s (λ heap. front_refl s.lines)
  adds_body false place body label o key s = front_refl s.lines

  mute_body : (b : Bool) (place : Label) (body : Body) (label : Label) (o : ℕ) (key : List ℕ) (s : State) → Hides observer place → MayTake s.heap o key (union (context s.frames) place) body → Mute observer tables Hid s (with_body_if b place body label o key s)
  unfolding set_body_if
  mute_body true place body label o key s h m = mute_in_turn observer tables Hid tt _ (λ u. ret (is_defined place)) s (still_set_body observer o key _ body label s.heap (hides_second observer (context s.frames) place h) m)
      (λ heap e. mute_here observer tables Hid (record s { heap = heap }) h)
  mute_body false place body label o key s h m = mute_here observer tables Hid s h

  -- in two runs, with one test in both
  body_both : {γ : Pairing} (b : Bool) (place other : Label) (body another : Body) (label beside : Label) (i j : ℕ) (key : List ℕ) (s t : State) → Sees observer place → place ≡ other → (b ≡ true → BodiesAgree observer γ label beside body another) → γ.objects i j ≡ true
      → LowEqual observer tables γ s t → IsSeen observer s → InStep observer tables (DefiningsAgree observer) γ (with_body_if b place body label i key s) (with_body_if b other another beside j key t)
  unfolding set_body_if
  body_both {γ} true place other body another label beside i j key s t h e f p r w =
      in_turn_after observer tables (DefiningsAgree observer) tt tt _ _ (λ u. ret (is_defined place)) (λ u. ret (is_defined other)) s t
      (level_body observer W2 r.heap key (union (context s.frames) place) (union (context t.frames) other) p (sees_union observer (context s.frames) place w h) (ap₂ union (same_context observer tables r w) e) (f refl)) r
      (λ heap. front_refl s.lines) (λ heap. front_refl t.lines) (λ one another d c q. go γ (extends_refl γ) q w (both_defined h e))
  body_both {γ} false place other body another label beside i j key s t h e f p r w = go γ (extends_refl γ) r w (both_defined h e)

  -- ---- over a present property

  still_redefine : (x : Slot Label) (q : Property) (d : Definition) (place given : Label) (o : ℕ) (key : List ℕ) (s : State) → IsHidden observer s → Still observer tables s (redefine x q d place given o key s)
  unfolding redefine set_marks
  still_redefine x q d place given o key s p = still_in_turn observer tables tt _ _ s (still_set_attributes observer o key _ q.marks s.heap (hides_first observer (context s.frames) (union place given) p))
      (λ heap e. still_body (changes_body (erased_slot x) d) place q.body (body_label (keeps_a_half (erased_slot x) d) given x.label) o key (record s { heap = heap }) p (may_take_behind o key (context s.frames) place given q.marks q.body s.heap heap e))

  fits_redefine : (x : Slot Label) (q : Property) (d : Definition) (place given : Label) (o : ℕ) (key : List ℕ) (s : State) → Fits (length s.frames) (redefine x q d place given o key s)
  unfolding redefine set_marks
  fits_redefine x q d place given o key s = fits_in_turn observer tables tt _ _ s (λ heap. fits_body (changes_body (erased_slot x) d) place q.body (body_label (keeps_a_half (erased_slot x) d) given x.label) o key (record s { heap = heap }))

  adds_redefine : (x : Slot Label) (q : Property) (d : Definition) (place given : Label) (o : ℕ) (key : List ℕ) (s : State) → Front s.lines (state_of (redefine x q d place given o key s)).lines
  unfolding redefine set_marks
  adds_redefine x q d place given o key s = adds_in_turn observer tables tt _ _ s (λ heap. adds_body (changes_body (erased_slot x) d) place q.body (body_label (keeps_a_half (erased_slot x) d) given x.label) o key (record s { heap = heap }))

  mute_redefine : (x : Slot Label) (q : Property) (d : Definition) (place given : Label) (o : ℕ) (key : List ℕ) (s : State) → Hides observer place → Mute observer tables Hid s (redefine x q d place given o key s)
  unfolding redefine set_marks
  mute_redefine x q d place given o key s h = mute_in_turn observer tables Hid tt _ _ s
      (still_set_attributes observer o key _ q.marks s.heap (hides_second observer (context s.frames) (union place given) (hides_first observer place given h)))
      (λ heap e. mute_body (changes_body (erased_slot x) d) place q.body (body_label (keeps_a_half (erased_slot x) d) given x.label) o key (record s { heap = heap }) h (may_take_behind o key (context s.frames) place given q.marks q.body s.heap heap e))

  stops_redefine : (x : Slot Label) (q : Property) (d : Definition) (place given : Label) (o : ℕ) (key : List ℕ) (s : State) (p : Object Label) → slice_get s.heap o ≡ Some p → own key p.rows ≡ Some x → Sees observer x.existence → Hides observer given
      → Mute observer tables Never s (redefine x q d place given o key s)
  unfolding redefine set_marks
  stops_redefine x q d place given o key s p here named v h = mute_stopped_then Never tt _ s
      (attributes_stop s.heap o key (union (context s.frames) (union place given)) q.marks p x here named
      (not_included (union (context s.frames) (union place given)) x.existence (hides_second observer (context s.frames) (union place given) (hides_second observer place given h)) v))

  redefine_both : {γ : Pairing} (x y : Slot Label) (q o : Property) (d c : Definition) (place other given beside : Label) (i j : ℕ) (key : List ℕ) (s t : State) → Sees observer place → place ≡ other → Sees observer given → given ≡ beside → q.marks ≡ o.marks
      → changes_body (erased_slot x) d ≡ changes_body (erased_slot y) c
      → (changes_body (erased_slot x) d ≡ true → BodiesAgree observer γ (body_label (keeps_a_half (erased_slot x) d) given x.label) (body_label (keeps_a_half (erased_slot y) c) beside y.label) q.body o.body)
      → γ.objects i j ≡ true → LowEqual observer tables γ s t → IsSeen observer s → InStep observer tables (DefiningsAgree observer) γ (redefine x q d place given i key s) (redefine y o c other beside j key t)
  unfolding redefine set_marks
  redefine_both {γ} x y q o d c place other given beside i j key s t h e k f marks same bodies p r w =
      in_turn_after observer tables (DefiningsAgree observer) tt tt _ _ _ _ s t
      (level_set_attributes observer r.heap q.marks o.marks (seen (sees_union observer (context s.frames) (union place given) w (sees_union observer place given h k)) (ap₂ union (same_context observer tables r w) (ap₂ union e f)) ((p, refl), marks))) r
      (λ heap. adds_body (changes_body (erased_slot x) d) place q.body (body_label (keeps_a_half (erased_slot x) d) given x.label) i key (record s { heap = heap }))
      (λ heap. adds_body (changes_body (erased_slot y) c) other o.body (body_label (keeps_a_half (erased_slot y) c) beside y.label) j key (record t { heap = heap }))
      (λ one another a b z. subst (λ n. InStep observer tables (DefiningsAgree observer) γ (with_body_if (changes_body (erased_slot x) d) place q.body (body_label (keeps_a_half (erased_slot x) d) given x.label) i key (record s { heap = one }))
      (with_body_if n other o.body (body_label (keeps_a_half (erased_slot y) c) beside y.label) j key (record t { heap = another }))) same
      (body_both (changes_body (erased_slot x) d) place other q.body o.body _ _ i j key (record s { heap = one }) (record t { heap = another }) h e bodies p z w))

  -- ---- over a present property or an absent one, or refused

  abbrev refusal : Option (Slot Label) → Label → Label → Label
  refusal old place given = union (union place given) (value_label old)

  still_over : (old : Option (Slot Label)) (d : Definition) (place given : Label) (o : ℕ) (key : List ℕ) (q : Option Property) (s : State) → IsHidden observer s → Still observer tables s (define_over old d place given o key q s)
  unfolding define_over
  still_over old d place given o key None s p = (conf_throw observer tables kinds.TypeError (refusal old place given)).still s p
  still_over None d place given o key (Some q) s p = still_acted observer tables _ _ s (still_add observer o key _ q.body given q.marks s.heap (hides_first observer (context s.frames) (union place given) p))
  still_over (Some x) d place given o key (Some q) s p = still_redefine x q d place given o key s p

  fits_over : (old : Option (Slot Label)) (d : Definition) (place given : Label) (o : ℕ) (key : List ℕ) (q : Option Property) (s : State) → Fits (length s.frames) (define_over old d place given o key q s)
  unfolding define_over
  fits_over old d place given o key None s = (conf_throw observer tables {X = Defining} kinds.TypeError (refusal old place given)).fits s
  fits_over None d place given o key (Some q) s = fits_acted observer tables _ _ s
  fits_over (Some x) d place given o key (Some q) s = fits_redefine x q d place given o key s

  adds_over : (old : Option (Slot Label)) (d : Definition) (place given : Label) (o : ℕ) (key : List ℕ) (q : Option Property) (s : State) → Front s.lines (state_of (define_over old d place given o key q s)).lines
  unfolding define_over
  adds_over old d place given o key None s = (conf_throw observer tables {X = Defining} kinds.TypeError (refusal old place given)).adds s
  adds_over None d place given o key (Some q) s = adds_acted observer tables _ _ s
  adds_over (Some x) d place given o key (Some q) s = adds_redefine x q d place given o key s

  conf_over : (old : Option (Slot Label)) (d : Definition) (place given : Label) (o : ℕ) (key : List ℕ) (q : Option Property) → Confined observer tables (define_over old d place given o key q)
  conf_over old d place given o key q = record { still = λ s p. still_over old d place given o key q s p; fits = λ s. fits_over old d place given o key q s; adds = λ s. adds_over old d place given o key q s }

  mute_over : (old : Option (Slot Label)) (d : Definition) (place given : Label) (o : ℕ) (key : List ℕ) (q : Option Property) (s : State) → Hides observer place → IsSeen observer s → Mute observer tables Hid s (define_over old d place given o key q s)
  unfolding define_over
  mute_over old d place given o key None s h w = (mum_throw observer tables Hid kinds.TypeError (refusal old place given) (hides_first observer (union place given) (value_label old) (hides_first observer place given h))).mute s w
  mute_over None d place given o key (Some q) s h w = mute_acted observer tables Hid _ _ s h (still_add observer o key _ q.body given q.marks s.heap (hides_second observer (context s.frames) (union place given) (hides_first observer place given h)))
  mute_over (Some x) d place given o key (Some q) s h w = mute_redefine x q d place given o key s h

  mum_over : (old : Option (Slot Label)) (d : Definition) (place given : Label) (o : ℕ) (key : List ℕ) (q : Option Property) → Hides observer place → Mum observer tables Hid (define_over old d place given o key q)
  mum_over old d place given o key q h = record { mute = λ s w. mute_over old d place given o key q s h w }

  -- where the place is seen and what is given is hidden, the run ends
  stops_over : (old : Option (Slot Label)) (d : Definition) (place given : Label) (o : ℕ) (key : List ℕ) (q : Option Property) (s : State) (p : Object Label) → slice_get s.heap o ≡ Some p → own key p.rows ≡ old → Sees observer (own_walk p.structure old) → Hides observer given → IsSeen observer s
      → Mute observer tables Never s (define_over old d place given o key q s)
  unfolding define_over
  stops_over old d place given o key None s p here named v h w = (mum_throw observer tables Never kinds.TypeError (refusal old place given) (hides_first observer (union place given) (value_label old) (hides_second observer place given h))).mute s w
  stops_over None d place given o key (Some q) s p here named v h w = mute_stopped Never _ s (addition_stops s.heap o key (union (context s.frames) (union place given)) q.body given q.marks p here named
      (not_included (union (context s.frames) (union place given)) p.structure (hides_second observer (context s.frames) (union place given) (hides_second observer place given h)) v))
  stops_over (Some x) d place given o key (Some q) s p here named v h w = stops_redefine x q d place given o key s p here named v h

  -- ---- by what it is given

  abbrev the_definition : GivenMarks → GivenBody → Definition
  the_definition marks b = record { marks = marks; body = b }

  -- over what there is, of an object that may get properties or not
  abbrev over_with : Option (Slot Label) → Bool → GivenMarks → GivenBody → Label → Label → ℕ → List ℕ → L Defining
  over_with old extensible marks b place given o key = define_over old (the_definition marks b) place given o key (behind_definition extensible (property_in old) (the_definition marks b))

  conf_by : (c : Bool) (p : Object Label) (marks : GivenMarks) (b : GivenBody) (place given : Label) (o : ℕ) (key : List ℕ) → Confined observer tables (define_by c p marks b place given o key)
  unfolding define_by
  conf_by true p marks b place given o key = conf_ret observer tables (has_length_given place o marks)
  conf_by false p marks b place given o key = conf_at observer tables (λ s. over_with (own key p.rows) (may_add key p) marks b place given o key) (λ s. conf_over (own key p.rows) _ place given o key _)

  conf_given : (valued : Bool) (p : Object Label) (marks : GivenMarks) (b : Option GivenBody) (place given : Label) (o : ℕ) (key : List ℕ) → Confined observer tables (define_given valued p marks b place given o key)
  unfolding define_given
  conf_given valued p marks None place given o key = conf_at observer tables (λ s. throw_error kinds.TypeError (refusal (own key p.rows) place given)) (λ s. conf_throw observer tables {X = Defining} kinds.TypeError (refusal (own key p.rows) place given))
  conf_given valued p marks (Some b) place given o key = conf_at observer tables (λ s. define_by (is_length p.class key && valued) p marks b place given o key) (λ s. conf_by (is_length p.class key && valued) p marks b place given o key)

  mum_by : (c : Bool) (p : Object Label) (marks : GivenMarks) (b : GivenBody) (place given : Label) (o : ℕ) (key : List ℕ) → Hides observer place → Mum observer tables Hid (define_by c p marks b place given o key)
  unfolding define_by
  mum_by true p marks b place given o key h = mum_ret observer tables Hid h
  mum_by false p marks b place given o key h = mum_at observer tables Hid (λ s. over_with (own key p.rows) (may_add key p) marks b place given o key) (λ s. mum_over (own key p.rows) _ place given o key _ h)

  mum_refused : {X : Type 0} (H : X → Type 0) (old : Option (Slot Label)) (place given : Label) → Hides observer place → Mum observer tables H (throw_error kinds.TypeError (refusal old place given))
  mum_refused H old place given h = mum_throw observer tables H kinds.TypeError (refusal old place given) (hides_first observer (union place given) (value_label old) (hides_first observer place given h))

  mum_given : (valued : Bool) (p : Object Label) (marks : GivenMarks) (b : Option GivenBody) (place given : Label) (o : ℕ) (key : List ℕ) → Hides observer place → Mum observer tables Hid (define_given valued p marks b place given o key)
  unfolding define_given
  mum_given valued p marks None place given o key h = mum_at observer tables Hid (λ s. throw_error kinds.TypeError (refusal (own key p.rows) place given)) (λ s. mum_refused Hid (own key p.rows) place given h)
  mum_given valued p marks (Some b) place given o key h = mum_at observer tables Hid (λ s. define_by (is_length p.class key && valued) p marks b place given o key) (λ s. mum_by (is_length p.class key && valued) p marks b place given o key h)

  -- where what is given is hidden, a refusal ends the run
  never_refused : (old : Option (Slot Label)) (place given : Label) → Hides observer given → Mum observer tables {X = Defining} Never (throw_error kinds.TypeError (refusal old place given))
  never_refused old place given h = mum_throw observer tables Never kinds.TypeError (refusal old place given) (hides_first observer (union place given) (value_label old) (hides_second observer place given h))

  -- ---- two runs, where the place and what is given are seen

  -- an absent property
  new_both : {γ : Pairing} (b : Bool) (d c : Definition) (place other given beside : Label) (i j : ℕ) (key : List ℕ) (s t : State) → Sees observer place → place ≡ other → Sees observer given → given ≡ beside
      → (defined_new d).marks ≡ (defined_new c).marks → BodiesAgree observer γ given beside (defined_new d).body (defined_new c).body → IsNew s.heap i key → IsNew t.heap j key
      → γ.objects i j ≡ true → LowEqual observer tables γ s t → IsSeen observer s → InStep observer tables (DefiningsAgree observer) γ (define_over None d place given i key (defined_if b (defined_new d)) s) (define_over None c other beside j key (defined_if b (defined_new c)) t)
  unfolding define_over
  new_both true d c place other given beside i j key s t h e k f marks bodies new anew p r w = acted_after observer tables (DefiningsAgree observer) s t
      (level_add observer r.heap (defined_new d).body (defined_new c).body (defined_new d).marks (defined_new c).marks
      (seen (sees_union observer (context s.frames) (union place given) w (sees_union observer place given h k)) (ap₂ union (same_context observer tables r w) (ap₂ union e f)) ((p, refl), bodies, marks)) new anew) (both_defined h e) r w
  new_both false d c place other given beside i j key s t h e k f marks bodies new anew p r w = thrown_both observer tables (DefiningsAgree observer) kinds.TypeError s t
      (seen (sees_union observer (union place given) bottom (sees_union observer place given h k) (sees_bottom observer)) (ap (λ l. union l bottom) (ap₂ union e f)) tt) r w

  -- a present one: where its value is hidden, a run that refuses ends
  over_both : {γ : Pairing} (b a : Bool) (x y : Slot Label) (q o : Property) (d c : Definition) (place other given beside : Label) (i j : ℕ) (key : List ℕ) (s t : State) → Alike observer x.label y.label (b ≡ a) → Sees observer place → place ≡ other → Sees observer given → given ≡ beside
      → InStep observer tables (DefiningsAgree observer) γ (redefine x q d place given i key s) (redefine y o c other beside j key t) → LowEqual observer tables γ s t → IsSeen observer s
      → InStep observer tables (DefiningsAgree observer) γ (define_over (Some x) d place given i key (defined_if b q) s) (define_over (Some y) c other beside j key (defined_if a o) t)
  unfolding define_over
  over_both true true x y q o d c place other given beside i j key s t z h e k f both r w = both
  over_both false false x y q o d c place other given beside i j key s t z h e k f both r w = thrown_both observer tables (DefiningsAgree observer) kinds.TypeError s t
      (alike_join observer (λ (m : Unit {0}) (n : Unit {0}). tt) (seen (sees_union observer place given h k) (ap₂ union e f) tt) (alike_map observer (λ n. tt) z)) r w
  over_both true false x y q o d c place other given beside i j key s t (seen l m n) h e k f both r w = absurd (true≢false n)
  over_both false true x y q o d c place other given beside i j key s t (seen l m n) h e k f both r w = absurd (true≢false (sym n))
  over_both true false x y q o d c place other given beside i j key s t (hidden l m) h e k f both r w = stops_second observer tables (DefiningsAgree observer) r (adds_redefine x q d place given i key s)
      ((mum_throw observer tables Never kinds.TypeError (refusal (Some y) other beside) (hides_second observer (union other beside) y.label m)).mute t (seen_other observer tables r w))
  over_both false true x y q o d c place other given beside i j key s t (hidden l m) h e k f both r w = stops_first observer tables (DefiningsAgree observer) r
      ((mum_throw observer tables Never kinds.TypeError (refusal (Some x) place given) (hides_second observer (union place given) x.label l)).mute s w) (adds_redefine y o c other beside j key t)

  bodies_alike : {γ : Pairing} {l m : Label} {a b : Body} → BodiesAgree observer γ l m a b → Alike observer l m (Unit {0})
  bodies_alike (data_bodies r) = alike_map observer (λ x. tt) r
  bodies_alike (accessors r) = alike_map observer (λ x. tt) r

  -- definitions that agree, over what is there in both or in neither
  present_both : {γ : Pairing} (extensible also : Bool) (x y : Slot Label) (marks : GivenMarks) {b c : GivenBody} (place other given beside : Label) (i j : ℕ) (key : List ℕ) (s t : State) → Sees observer place → place ≡ other → Sees observer given → given ≡ beside
      → x.marks ≡ y.marks → BodiesAgree observer γ x.label y.label x.body y.body → GivenSame γ b c → γ.objects i j ≡ true → LowEqual observer tables γ s t → IsSeen observer s
      → InStep observer tables (DefiningsAgree observer) γ (over_with (Some x) extensible marks b place given i key s) (over_with (Some y) also marks c other beside j key t)
  present_both {γ} extensible also x y marks {b} {c} place other given beside i j key s t h e k f m bodies g p r w =
      over_both (may_define_over (erased_slot x) (the_definition marks b)) (may_define_over (erased_slot y) (the_definition marks c)) x y
      (defined_over (erased_slot x) (the_definition marks b)) (defined_over (erased_slot y) (the_definition marks c)) (the_definition marks b) (the_definition marks c) place other given beside i j key s t
      (refusals bodies) h e k f
      (redefine_both x y _ _ (the_definition marks b) (the_definition marks c) place other given beside i j key s t h e k f
      (subst (λ n. (defined_over (erased_slot x) (the_definition marks b)).marks ≡ (defined_over (record { body = y.body; marks = n }) (the_definition marks c)).marks) m (marks_behind observer x.marks marks bodies g))
      (changes_alike observer x.marks marks.writable marks.enumerable marks.configurable bodies g) (λ z. bodies_behind observer x.marks marks.writable marks.enumerable marks.configurable given beside k f bodies g z) p r w) r w
    where
      refusals : BodiesAgree observer γ x.label y.label x.body y.body → Alike observer x.label y.label (may_define_over (erased_slot x) (the_definition marks b) ≡ may_define_over (erased_slot y) (the_definition marks c))
      refusals z = by_label (bodies_alike z)
        where
          by_label : Alike observer x.label y.label (Unit {0}) → Alike observer x.label y.label (may_define_over (erased_slot x) (the_definition marks b) ≡ may_define_over (erased_slot y) (the_definition marks c))
          by_label (hidden u v) = hidden u v
          by_label (seen u v n) = seen u v (subst (λ o. may_define_over (erased_slot x) (the_definition marks b) ≡ may_define_over (record { body = y.body; marks = o }) (the_definition marks c)) m
              (refused_alike γ r.heap.one_to_one observer x.marks marks u bodies g))

  absent_both : {γ : Pairing} (extensible : Bool) (marks : GivenMarks) {b c : GivenBody} (place other given beside : Label) (i j : ℕ) (key : List ℕ) (s t : State) → Sees observer place → place ≡ other → Sees observer given → given ≡ beside
      → IsNew s.heap i key → IsNew t.heap j key → GivenSame γ b c → γ.objects i j ≡ true → LowEqual observer tables γ s t → IsSeen observer s
      → InStep observer tables (DefiningsAgree observer) γ (over_with None extensible marks b place given i key s) (over_with None extensible marks c other beside j key t)
  absent_both extensible marks {b} {c} place other given beside i j key s t h e k f new anew g p r w =
      new_both extensible (the_definition marks b) (the_definition marks c) place other given beside i j key s t h e k f (marks_new observer marks g)
      (bodies_new observer marks.writable marks.enumerable marks.configurable given beside k f g) new anew p r w

  -- an object and its partner, with a place that is seen; what is given agrees or is hidden. `length` may be given a value
  module _ {γ : Pairing} (p q : Object Label) (marks : GivenMarks) (place other given beside : Label) (i j : ℕ) (key : List ℕ) (s t : State) (h : Sees observer place) (e : place ≡ other) (pair : γ.objects i j ≡ true) (r : LowEqual observer tables γ s t) (w : IsSeen observer s) where
    abbrev First : GivenBody → Outcome Halt Jump Defining State
    First b = over_with (own key p.rows) (may_add key p) marks b place given i key s

    abbrev Second : GivenBody → Outcome Halt Jump Defining State
    Second c = over_with (own key q.rows) (may_add key q) marks c other beside j key t

    by_both : (d : Bool) (b c : GivenBody) → InStep observer tables (DefiningsAgree observer) γ (First b) (Second c) → InStep observer tables (DefiningsAgree observer) γ (define_by d p marks b place given i key s) (define_by d q marks c other beside j key t)
    unfolding define_by
    by_both true b c both = go γ (extends_refl γ) r w (both_give_lengths h e pair)
    by_both false b c both = both

    two_given : (valued : Bool) {b c : Option GivenBody} → p.class ≡ q.class → Alike observer given beside (GivensAgree γ b c) → Alike observer (value_label (own key p.rows)) (value_label (own key q.rows)) (Unit {0})
        → ((b c : GivenBody) → Sees observer given → given ≡ beside → GivenSame γ b c → InStep observer tables (DefiningsAgree observer) γ (First b) (Second c))
        → ((b : GivenBody) → Hides observer given → Mute observer tables Never s (First b)) → ((c : GivenBody) → Hides observer beside → Mute observer tables Never t (Second c))
        → InStep observer tables (DefiningsAgree observer) γ (define_given valued p marks b place given i key s) (define_given valued q marks c other beside j key t)
    unfolding define_given
    two_given valued {b} {c} k (seen f g none_given) label both first second = thrown_both observer tables (DefiningsAgree observer) kinds.TypeError s t
        (alike_join observer (λ (n : Unit {0}) (z : Unit {0}). tt) (seen (sees_union observer place given h f) (ap₂ union e g) tt) label) r w
    two_given valued k (seen f g (both_given {b = b} {c = c} z)) label both first second =
        subst (λ d. InStep observer tables (DefiningsAgree observer) γ (define_by (is_length p.class key && valued) p marks b place given i key s) (define_by (is_length d key && valued) q marks c other beside j key t)) k
        (by_both (is_length p.class key && valued) b c (both b c f g z))
    two_given valued {b = None} {c = None} k (hidden f g) label both first second = mute_both observer tables Never (DefiningsAgree observer) (λ v u never z. absurd never) r w
        ((never_refused (own key p.rows) place given f).mute s w) ((never_refused (own key q.rows) other beside g).mute t (seen_other observer tables r w))
    two_given valued {b = None} {c = Some c} k (hidden f g) label both first second = stops_first observer tables (DefiningsAgree observer) r ((never_refused (own key p.rows) place given f).mute s w)
        ((conf_by (is_length q.class key && valued) q marks c other beside j key).adds t)
    two_given valued {b = Some b} {c = None} k (hidden f g) label both first second = stops_second observer tables (DefiningsAgree observer) r ((conf_by (is_length p.class key && valued) p marks b place given i key).adds s)
        ((never_refused (own key q.rows) other beside g).mute t (seen_other observer tables r w))
    two_given valued {b = Some b} {c = Some c} k (hidden f g) label both first second =
        subst (λ d. InStep observer tables (DefiningsAgree observer) γ (define_by (is_length p.class key && valued) p marks b place given i key s) (define_by (is_length d key && valued) q marks c other beside j key t)) k
        (by_both (is_length p.class key && valued) b c (mute_both observer tables Never (DefiningsAgree observer) (λ v u never z. absurd never) r w (first b f) (second c g)))

  -- ---- of an object

  -- the labels of a descriptor, and what they cover
  abbrev labels_given : Val → Val → Val → Label
  labels_given v g x = union v.label (union g.label x.label)

  record ValuesSame (γ : Pairing) (v u g f x y : Value) : Type 0 where
    value : SameValue γ v u
    getter : SameValue γ g f
    setter : SameValue γ x y

  labels_alike : {γ : Pairing} {v u g f x y : Val} → Agree observer γ v u → Agree observer γ g f → Agree observer γ x y → Alike observer (labels_given v g x) (labels_given u f y) (ValuesSame γ v.value u.value g.value f.value x.value y.value)
  labels_alike {γ} {v} {u} {g} {f} {x} {y} a b c = alike_join observer (λ p (k : SameValue γ v.value u.value → ValuesSame γ v.value u.value g.value f.value x.value y.value). k p) a
      (alike_join observer (λ q z p. record { value = p; getter = q; setter = z }) b c)

  conf_in : (p : Option (Object Label)) (label : Label) (o : ℕ) (key : List ℕ) (marks : GivenMarks) (shape : Shape) (v g x : Val) → Confined observer tables (define_in p label o key marks shape v g x)
  unfolding define_in
  conf_in None label o key marks shape v g x = conf_at observer tables (λ s. throw_error kinds.TypeError label) (λ s. conf_throw observer tables {X = Defining} kinds.TypeError label)
  conf_in (Some p) label o key marks shape v g x = conf_at observer tables
      (λ s. define_given shape.has_value p marks (given_body (erased_heap s.heap) marks shape v.value g.value x.value) (union label (definition_test key (own key p.rows) p)) (labels_given v g x) o key)
      (λ s. conf_given shape.has_value p marks _ _ _ o key)

  mum_in : (p : Option (Object Label)) (label : Label) (o : ℕ) (key : List ℕ) (marks : GivenMarks) (shape : Shape) (v g x : Val) → Hides observer label → Mum observer tables Hid (define_in p label o key marks shape v g x)
  unfolding define_in
  mum_in None label o key marks shape v g x h = mum_at observer tables Hid (λ s. throw_error kinds.TypeError label) (λ s. mum_throw observer tables Hid kinds.TypeError label h)
  mum_in (Some p) label o key marks shape v g x h = mum_at observer tables Hid
      (λ s. define_given shape.has_value p marks (given_body (erased_heap s.heap) marks shape v.value g.value x.value) (union label (definition_test key (own key p.rows) p)) (labels_given v g x) o key)
      (λ s. mum_given shape.has_value p marks _ _ _ o key (hides_first observer label (definition_test key (own key p.rows) p) h))

  -- what stands there, as the state has it
  is_new : (h : List (Object Label)) (o : ℕ) (key : List ℕ) (p : Object Label) → slice_get h o ≡ Some p → own key p.rows ≡ None → IsNew h o key
  is_new h o key p at e q there = ap (λ (z : Object Label). own key z.rows) (same_Some q p (sym there ∙ at)) ∙ e

  -- the test of a definition, where the object's structure is seen and the key is absent, or where it is out of sight
  pub test_hidden : (key : List ℕ) (p : Object Label) (o : Option (Slot Label)) → Hides observer (own_walk p.structure o) → Hides observer (definition_test key o p)
  test_hidden key p None a = hides_first observer p.structure _ a
  test_hidden key p (Some x) a = a

  module _ (γ : Pairing) (i j : ℕ) (key : List ℕ) (marks : GivenMarks) (valued : Bool) (l m : Label) (s t : State) (p q : Object Label) (h : Sees observer l) (e : l ≡ m) (pair : γ.objects i j ≡ true)
      (here : slice_get s.heap i ≡ Some p) (there : slice_get t.heap j ≡ Some q) (agree : ObjectsAgree observer γ p q) (r : LowEqual observer tables γ s t) (w : IsSeen observer s) (b c : Option GivenBody) (given other : Label) where
    abbrev FirstDefined : Option (Slot Label) → Outcome Halt Jump Defining State
    FirstDefined o = define_given valued p marks b (union l (definition_test key o p)) given i key s

    abbrev SecondDefined : Option (Slot Label) → Outcome Halt Jump Defining State
    SecondDefined u = define_given valued q marks c (union m (definition_test key u q)) other j key t

    none_both : own key p.rows ≡ None → own key q.rows ≡ None → Sees observer p.structure → p.structure ≡ q.structure → Alike observer (absence_label key p) (absence_label key q) (may_add key p ≡ may_add key q) → Alike observer given other (GivensAgree γ b c)
        → InStep observer tables (DefiningsAgree observer) γ (FirstDefined None) (SecondDefined None)
    none_both x y a d (hidden f g) z = definings_apart r w ((mum_given valued p marks b _ given i key (hides_second observer l (absence_label key p) f)).mute s w)
        ((mum_given valued q marks c _ other j key (hides_second observer m (absence_label key q) g)).mute t (seen_other observer tables r w))
    none_both x y a d (seen f g k) z =
        let place = union l (absence_label key p) in
        let another = union m (absence_label key q) in
        two_given p q marks place another given other i j key s t (sees_union observer l (absence_label key p) h f) (ap₂ union e g) pair r w valued agree.class z
        (subst (λ o. Alike observer (value_label o) (value_label (own key q.rows)) (Unit {0})) (sym x) (subst (λ u. Alike observer bottom (value_label u) (Unit {0})) (sym y) (seen (sees_bottom observer) refl tt)))
        (λ b c v n same. subst (λ o. InStep observer tables (DefiningsAgree observer) γ (over_with o (may_add key p) marks b place given i key s) (over_with (own key q.rows) (may_add key q) marks c another other j key t)) (sym x)
        (subst (λ u. InStep observer tables (DefiningsAgree observer) γ (over_with None (may_add key p) marks b place given i key s) (over_with u (may_add key q) marks c another other j key t)) (sym y)
        (subst (λ u. InStep observer tables (DefiningsAgree observer) γ (over_with None (may_add key p) marks b place given i key s) (over_with None u marks c another other j key t)) k
        (absent_both (may_add key p) marks place another given other i j key s t (sees_union observer l (absence_label key p) h f) (ap₂ union e g) v n (is_new s.heap i key p here x) (is_new t.heap j key q there y) same pair r w))))
        (λ b v. stops_over (own key p.rows) _ place given i key _ s p here refl (subst (λ o. Sees observer (own_walk p.structure o)) (sym x) a) v w)
        (λ c v. stops_over (own key q.rows) _ another other j key _ t q there refl (subst (λ o. Sees observer (own_walk q.structure o)) (sym y) (subst (Sees observer) d a)) v (seen_other observer tables r w))

    some_both : (x y : Slot Label) → own key p.rows ≡ Some x → own key q.rows ≡ Some y → Sees observer x.existence → x.existence ≡ y.existence → x.marks ≡ y.marks → BodiesAgree observer γ x.label y.label x.body y.body → Alike observer given other (GivensAgree γ b c)
        → InStep observer tables (DefiningsAgree observer) γ (FirstDefined (Some x)) (SecondDefined (Some y))
    some_both x y is_one is_other a d k bodies z =
        let place = union l x.existence in
        let another = union m y.existence in
        two_given p q marks place another given other i j key s t (sees_union observer l x.existence h a) (ap₂ union e d) pair r w valued agree.class z
        (subst (λ o. Alike observer (value_label o) (value_label (own key q.rows)) (Unit {0})) (sym is_one) (subst (λ u. Alike observer x.label (value_label u) (Unit {0})) (sym is_other) (bodies_alike bodies)))
        (λ b c v n same. subst (λ o. InStep observer tables (DefiningsAgree observer) γ (over_with o (may_add key p) marks b place given i key s) (over_with (own key q.rows) (may_add key q) marks c another other j key t)) (sym is_one)
        (subst (λ u. InStep observer tables (DefiningsAgree observer) γ (over_with (Some x) (may_add key p) marks b place given i key s) (over_with u (may_add key q) marks c another other j key t)) (sym is_other)
        (present_both (may_add key p) (may_add key q) x y marks place another given other i j key s t (sees_union observer l x.existence h a) (ap₂ union e d) v n k bodies same pair r w)))
        (λ b v. stops_over (own key p.rows) _ place given i key _ s p here refl (subst (λ o. Sees observer (own_walk p.structure o)) (sym is_one) a) v w)
        (λ c v. stops_over (own key q.rows) _ another other j key _ t q there refl (subst (λ o. Sees observer (own_walk q.structure o)) (sym is_other) (subst (Sees observer) d a)) v (seen_other observer tables r w))

    by_case : {o u : Option (Slot Label)} → OwnCase observer γ p q o u → own key p.rows ≡ o → own key q.rows ≡ u → Alike observer given other (GivensAgree γ b c) → InStep observer tables (DefiningsAgree observer) γ (FirstDefined o) (SecondDefined u)
    by_case (at_both {s = x} {t = y} a d k bodies) is_one is_other z = some_both x y is_one is_other a d k bodies z
    by_case (at_none a d k) is_one is_other z = none_both is_one is_other a d (absence_agrees observer γ key s.heap t.heap agree.class agree.shapes) z
    by_case (out_of_sight {o = o} {u = u} a d) is_one is_other z = definings_apart r w
        ((mum_given valued p marks b _ given i key (hides_second observer l (definition_test key o p) (test_hidden key p o a))).mute s w)
        ((mum_given valued q marks c _ other j key (hides_second observer m (definition_test key u q) (test_hidden key q u d))).mute t (seen_other observer tables r w))

  in_both : {γ : Pairing} (key : List ℕ) (marks : GivenMarks) (shape : Shape) {v u g f x y : Val} (l m : Label) (i j : ℕ) (s t : State) → Sees observer l → l ≡ m → γ.objects i j ≡ true → Agree observer γ v u → Agree observer γ g f → Agree observer γ x y → LowEqual observer tables γ s t → IsSeen observer s
      → InStep observer tables (DefiningsAgree observer) γ (define_in (slice_get s.heap i) l i key marks shape v g x s) (define_in (slice_get t.heap j) m j key marks shape u f y t)
  unfolding define_in
  in_both {γ} key marks shape {v} {u} {g} {f} {x} {y} l m i j s t h e pair av ag az r w = both_there observer tables (DefiningsAgree observer) (λ o. define_in o l i key marks shape v g x) (λ o. define_in o m j key marks shape u f y) i j s t r pair
      (λ p q a b z. by_case γ i j key marks shape.has_value l m s t p q h e pair a b z r w (given_body (erased_heap s.heap) marks shape v.value g.value x.value) (given_body (erased_heap t.heap) marks shape u.value f.value y.value) (labels_given v g x) (labels_given u f y)
      (own_case observer γ key (r.heap.left i j pair p a).distinct (r.heap.right i j pair q b).distinct z.shapes) refl refl
      (alike_map observer (λ (k : ValuesSame γ v.value u.value g.value f.value x.value y.value). givens_agree observer r.heap marks shape k.value k.getter k.setter) (labels_alike av ag az)))

  pub conf_define : (key : List ℕ) (marks : GivenMarks) (shape : Shape) (b v g x : Val) → Confined observer tables (defining key marks shape b v g x)
  unfolding defining
  conf_define key marks shape b v g x = conf_on_object observer tables b.label b.value (λ o. conf_at observer tables (λ s. define_in (slice_get s.heap o) b.label o key marks shape v g x) (λ s. conf_in (slice_get s.heap o) b.label o key marks shape v g x))

  define_after : {γ : Pairing} (key : List ℕ) (marks : GivenMarks) (shape : Shape) {b c v u g f x y : Val} (s t : State) → Agree observer γ b c → Agree observer γ v u → Agree observer γ g f → Agree observer γ x y → LowEqual observer tables γ s t → IsSeen observer s
      → InStep observer tables (DefiningsAgree observer) γ (defining key marks shape b v g x s) (defining key marks shape c u f y t)
  unfolding defining
  define_after key marks shape {b} {c} {v} {u} {g} {f} {x} {y} s t a av ag az r w =
      on_after observer tables Hid (DefiningsAgree observer) (λ o k. define_in (slice_get k.heap o) b.label o key marks shape v g x k) (λ o k. define_in (slice_get k.heap o) c.label o key marks shape u f y k) s t a (λ m n h k. hidden_definings h k)
      (λ h o. mum_at observer tables Hid (λ k. define_in (slice_get k.heap o) b.label o key marks shape v g x) (λ k. mum_in (slice_get k.heap o) b.label o key marks shape v g x h))
      (λ h o. mum_at observer tables Hid (λ k. define_in (slice_get k.heap o) c.label o key marks shape u f y) (λ k. mum_in (slice_get k.heap o) c.label o key marks shape u f y h))
      (λ h e i j p. in_both key marks shape b.label c.label i j s t h e p av ag az r w) r w

  pub lock_define : {β : Pairing} (key : List ℕ) (marks : GivenMarks) (shape : Shape) {b c v u g f x y : Val} → Agree observer β b c → Agree observer β v u → Agree observer β g f → Agree observer β x y
      → Lockstep observer tables (DefiningsAgree observer) β (defining key marks shape b v g x) (defining key marks shape c u f y)
  lock_define key marks shape a av ag az = record { steps = λ γ e s t r w. define_after key marks shape s t (agree_more observer e a) (agree_more observer e av) (agree_more observer e ag) (agree_more observer e az) r w }
