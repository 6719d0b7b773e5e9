-- References are given values: where the cause can't be seen, and in two runs. A put is done, or comes to a setter that is called then.
use Rattle.std.proofs.Common.{◌≡◌, ℕ, List, length, Bool, true, false, Option, Some, None, slice_get, ⊎_elim, refl, sym, ap, ap₂, subst, arith}
use Rattle.origin_labels.specs.Label.{Label, bottom, union, within}
use Rattle.flow_policy.specs.Policies.{Tables}
use Rattle.flow_frames.specs.declared.faults.Rule.{Rule}
use Rattle.flow_frames.specs.declared.faults.Rule.TheVariants.{W1, W2}
use Rattle.flow_frames.specs.Frames.{context}
use Rattle.native_protocol.specs.declared.request.ErrorKind.{ErrorKind}
use Rattle.native_protocol.specs.declared.request.ErrorKind.TheVariants as kinds
use Rattle.js_number.specs.declared.primitive.Primitive.{Primitive}
use Rattle.js_values.specs.declared.ids.ObjId.{ObjId}
use Rattle.js_values.specs.declared.value.Value.{Value}
use Rattle.js_values.specs.declared.value.Value.TheVariants as value
use Rattle.js_values.specs.declared.property.Body.{Body}
use Rattle.js_values.specs.declared.property.Body.TheVariants.{Data}
use Rattle.js_values.specs.declared.property.Slot.{Slot}
use Rattle.js_values.specs.Arrays.{is_length}
use Rattle.js_values.specs.Objects.{Object}
use Rattle.js_values.specs.Records.{Binding}
use Rattle.js_values.specs.Walks.{Found, find, object_chain}
use Rattle.prototype_walk.specs.declared.plan.PutPlan.{PutPlan}
use Rattle.prototype_walk.specs.declared.plan.PutPlan.TheVariants.{Write, Add, Setter, Refused}
use Rattle.prototype_walk.specs.Plans.{can_put}
use Rattle.es_meaning.specs.Outcomes.{Outcome, ret, and_then}
use Rattle.es_meaning.specs.Definitions.{is_accessor, setter_in}
use Rattle.es_meaning.specs.Objects.{made_by_script}
use Rattle.es_meaning.specs.Primitives.{own_value_of}
use Rattle.es_meaning.specs.Start.{global_object}
use Rattle.es_meaning.specs.Plain.{Place, in_record, on_global, nowhere, binding_at, assigned_in}
use Rattle.flow_meaning.specs.Scopes.{Val, joined, Halt, State, Jump, L}
use Rattle.flow_meaning.specs.Tracked.{throw_error, Reference, of_name, of_property, rebinds, assigned, assigned_to, own_in, global_value, Putting, is_put, has_setter, has_length, is_length_in, primitive_chain, setter_found, setter_at, overwritten, put_by, setter_if, put_beyond, put_on_primitive, put, put_property, as_putting, put_named, put_value}
use Rattle.low_equal.specs.Observed.{Sees, Hides, IsSeen, IsHidden, Front}
use Rattle.low_equal.specs.LowEqual.{Pairing, Extends, Alike, seen, hidden, SameValue, primitives, objects, SameObject, neither, both, Agree, BodiesAgree, data_bodies, accessors, ObjectsAgree, Both, both_stand, LowEqual}
use Rattle.low_equal.specs.Runs.{state_of, Still, Fits, Confined, InStep, go, Lockstep}
use Rattle.low_equal.specs.Laws.{Nothing}
use Rattle.low_equal.proofs.Labels.{not_both, sees_union, sees_first, sees_second, hides_first, hides_second, hidden_part, hides_within, sees_bottom}
use Rattle.low_equal.proofs.Agreement.{extends_refl, alike_join, agree_more, agree_joined}
use Rattle.low_equal.proofs.Scopes.{FoundAgree, missing, there, binding_agree, assigned_left, assigned_both}
use Rattle.low_equal.proofs.Lines.{front_refl}
use Rattle.low_equal.proofs.States.{low_records, same_context}
use Rattle.low_equal.proofs.Steps.{still_goes, conf_ret, conf_bind, lock_ret, then_after}
use Rattle.low_equal.proofs.Acts.{still_guard, fits_guard, adds_guard, after_guard, conf_throw, thrown_both}
use Rattle.low_equal.proofs.Changes.{still_write, level_write}
use Rattle.low_equal.proofs.Additions.{still_add, level_add}
use Rattle.low_equal.proofs.Plans.{slot_label, plan_label, SettersAgree, setters_agree, PlansSame, writes, adds, refusals, setters, plan_data, plan_new, PlansAgree, level_can_put}
use Rattle.low_equal.proofs.Mute.{Mute, Mum, Never, mute_here, mum_at, mum_throw, mute_both, stops_first, stops_second}
use Rattle.low_equal.proofs.HeapSteps.{still_acted, fits_acted, adds_acted, mute_acted, acted_after}
use Rattle.low_equal.proofs.Walks as walks
use Rattle.low_equal.proofs.Walks.{FoundSame, not_found, level_from, prototype_same}
use Rattle.low_equal.proofs.References.{ReferencesAgree, in_records, on_globals, nowheres, found_first, found_second, properties, references_more, conf_at, no_cause, seen_other, global_pair, global_agrees}

-- the setter's frame is hidden, if there is one; or the label by which a `length` is set
abbrev pub SetterHidden : Label → Putting → Type 0
SetterHidden observer is_put = Unit {0}
SetterHidden observer (has_setter label f this) = Hides observer label
SetterHidden observer (has_length label o) = Hides observer label

-- both are done; or setters that are paired, with `this` that agree, in frames of one label that is seen; or the `length` of paired objects by one label that
-- is seen; or setters in hidden frames, a `length` by a hidden label, or none
pub data PuttingsAgree (observer : Label) (β : Pairing) : Putting → Putting → Type 0 where
  both_put : PuttingsAgree observer β is_put is_put
  both_setters : {l m : Label} {f g : ObjId} {this that : Val} → Sees observer l → l ≡ m → β.objects f.0 g.0 ≡ true → Agree observer β this that → PuttingsAgree observer β (has_setter l f this) (has_setter m g that)
  both_lengths : {l m : Label} {o q : ℕ} → Sees observer l → l ≡ m → β.objects o q ≡ true → PuttingsAgree observer β (has_length l o) (has_length m q)
  hidden_puttings : {a b : Putting} → SetterHidden observer a → SetterHidden observer b → PuttingsAgree observer β a b

module _ (observer : Label) (tables : Tables) where
  -- ---- assignments

  conf_thrown : (kind : ErrorKind) → Confined observer tables {X = Unit {0}} (throw_error kind bottom)
  conf_thrown kind = conf_throw observer tables kind bottom

  -- of a binding that stands in the state
  still_assigned : (mutable : Bool) (b : Binding Val) (name : List ℕ) (i : ℕ) (v : Val) (s : State) → IsHidden observer s → binding_at s.records i name ≡ Some b → Still observer tables s (assigned mutable b.value.label name i v s)
  unfolding assigned
  still_assigned true b name i v s p e = still_guard observer tables (within (context s.frames) b.value.label) W1 _ _ (rebinds name i (joined (context s.frames) v)) s
      (λ w. still_goes observer tables (record s { records = assigned_in name (joined (context s.frames) v) s.records i })
      (record { looks = λ β u r. low_records observer tables r (assigned_left observer β name (joined (context s.frames) v) i b (hides_second observer v.label (context s.frames) p) e (hides_within observer (context s.frames) b.value.label w p) r.records); frames = refl }) refl refl)
  still_assigned false b name i v s p e = (conf_thrown kinds.TypeError).still s p

  still_to : (o : Option (Binding Val)) (name : List ℕ) (i : ℕ) (v : Val) (s : State) → IsHidden observer s → binding_at s.records i name ≡ o → Still observer tables s (assigned_to o name i v s)
  unfolding assigned_to
  still_to (Some b) name i v s p e = still_assigned b.mutable b name i v s p e
  still_to None name i v s p e = (conf_thrown kinds.ReferenceError).still s p

  fits_assigned : (mutable : Bool) (l : Label) (name : List ℕ) (i : ℕ) (v : Val) (s : State) → Fits (length s.frames) (assigned mutable l name i v s)
  unfolding assigned
  fits_assigned true l name i v s = fits_guard observer tables (within (context s.frames) l) W1 _ _ (rebinds name i (joined (context s.frames) v)) (length s.frames) s (omega arith)
  fits_assigned false l name i v s = (conf_thrown kinds.TypeError).fits s

  adds_assigned : (mutable : Bool) (l : Label) (name : List ℕ) (i : ℕ) (v : Val) (s : State) → Front s.lines (state_of (assigned mutable l name i v s)).lines
  unfolding assigned
  adds_assigned true l name i v s = adds_guard observer tables (within (context s.frames) l) W1 _ _ (rebinds name i (joined (context s.frames) v)) s (front_refl s.lines)
  adds_assigned false l name i v s = (conf_thrown kinds.TypeError).adds s

  fits_to : (o : Option (Binding Val)) (name : List ℕ) (i : ℕ) (v : Val) (s : State) → Fits (length s.frames) (assigned_to o name i v s)
  unfolding assigned_to
  fits_to (Some b) name i v s = fits_assigned b.mutable b.value.label name i v s
  fits_to None name i v s = (conf_thrown kinds.ReferenceError).fits s

  adds_to : (o : Option (Binding Val)) (name : List ℕ) (i : ℕ) (v : Val) (s : State) → Front s.lines (state_of (assigned_to o name i v s)).lines
  unfolding assigned_to
  adds_to (Some b) name i v s = adds_assigned b.mutable b.value.label name i v s
  adds_to None name i v s = (conf_thrown kinds.ReferenceError).adds s

  conf_assigned : (i : ℕ) (name : List ℕ) (v : Val) → Confined observer tables (λ s. assigned_to (binding_at s.records i name) name i v s)
  conf_assigned i name v = record {
    still = λ s p. still_to (binding_at s.records i name) name i v s p refl;
    fits = λ s. fits_to (binding_at s.records i name) name i v s;
    adds = λ s. adds_to (binding_at s.records i name) name i v s;
  }

  assigned_after : {γ : Pairing} (mutable : Bool) (l m : Label) (name : List ℕ) (i j : ℕ) {v u : Val} (s t : State) → γ.records i j ≡ true → Agree observer γ v u → LowEqual observer tables γ s t → IsSeen observer s
      → InStep observer tables Nothing γ (assigned mutable l name i v s) (assigned mutable m name j u t)
  unfolding assigned
  assigned_after {γ} true l m name i j {v} {u} s t p a r w =
      after_guard observer tables Nothing (within (context s.frames) l) (within (context t.frames) m) W1 _ _ _ _ (rebinds name i (joined (context s.frames) v)) (rebinds name j (joined (context t.frames) u)) s t r (front_refl s.lines) (front_refl t.lines)
      (λ x y. go γ (extends_refl γ) (low_records observer tables r (assigned_both observer γ name i j (agree_joined observer (seen w (same_context observer tables r w) tt) a) p r.records)) w tt)
  assigned_after false l m name i j s t p a r w = thrown_both observer tables Nothing kinds.TypeError s t (no_cause observer tables) r w

  to_after : {γ : Pairing} {b c : Option (Binding Val)} (name : List ℕ) {i j : ℕ} {v u : Val} (s t : State) → FoundAgree observer γ b c → γ.records i j ≡ true → Agree observer γ v u → LowEqual observer tables γ s t → IsSeen observer s
      → InStep observer tables Nothing γ (assigned_to b name i v s) (assigned_to c name j u t)
  unfolding assigned_to
  to_after name s t missing p a r w = thrown_both observer tables Nothing kinds.ReferenceError s t (no_cause observer tables) r w
  to_after name {i} {j} s t (there {mutable = x} {v = v} {u = u} q) p a r w = assigned_after x v.label u.label name i j s t p a r w

  pub puttings_more : {β γ : Pairing} {a b : Putting} → Extends β γ → PuttingsAgree observer β a b → PuttingsAgree observer γ a b
  puttings_more h both_put = both_put
  puttings_more h (both_setters s e p r) = both_setters s e (h.objects _ _ p) (agree_more observer h r)
  puttings_more h (both_lengths s e p) = both_lengths s e (h.objects _ _ p)
  puttings_more h (hidden_puttings a b) = hidden_puttings a b

  abbrev pub HiddenPutting : Putting → Type 0
  HiddenPutting a = SetterHidden observer a

  pub puttings_apart : {γ : Pairing} {s t : State} {o p : Outcome Halt Jump Putting State} → LowEqual observer tables γ s t → IsSeen observer s → Mute observer tables HiddenPutting s o → Mute observer tables HiddenPutting t p
      → InStep observer tables (PuttingsAgree observer) γ o p
  puttings_apart r w a b = mute_both observer tables HiddenPutting (PuttingsAgree observer) (λ x y h k. hidden_puttings h k) r w a b

  -- ---- puts: one run

  -- a plan for an object that the state has
  abbrev IsPlanned : PutPlan Label → State → ℕ → List ℕ → Type 0
  IsPlanned plan s o key = can_put key (object_chain s.heap o) ≡ plan

  need_hidden : (s : State) (label : Label) → IsHidden observer s → Hides observer (union (context s.frames) label)
  need_hidden s label p = hides_first observer (context s.frames) label p

  conf_setter_found : (label : Label) (base : Val) (f : Option ObjId) → Confined observer tables (setter_found label base f)
  unfolding setter_found
  conf_setter_found label base None = conf_at observer tables (λ s. throw_error kinds.TypeError label) (λ s. conf_throw observer tables {X = Putting} kinds.TypeError label)
  conf_setter_found label base (Some f) = conf_ret observer tables _

  conf_setter_at : (label : Label) (base : Val) (p : Option (Slot Label)) → Confined observer tables (setter_at label base p)
  unfolding setter_at
  conf_setter_at label base None = conf_at observer tables (λ s. throw_error kinds.TypeError label) (λ s. conf_throw observer tables {X = Putting} kinds.TypeError label)
  conf_setter_at label base (Some p) = conf_at observer tables (λ s. setter_found (union label p.label) base (setter_in p.body)) (λ s. conf_setter_found _ base _)

  -- a property is written, or the `length` of an array is to be
  still_overwritten : (b : Bool) (rule : Rule) (o : ℕ) (key : List ℕ) (label walk : Label) (v : Val) (s : State) → IsPlanned (Write walk) s o key → IsHidden observer s → Still observer tables s (overwritten b rule o key (union label walk) v s)
  unfolding overwritten
  still_overwritten true rule o key label walk v s e p = (conf_ret observer tables (has_length (union label walk) o)).still s p
  still_overwritten false rule o key label walk v s e p = still_acted observer tables is_put _ s (still_write observer rule o key _ v s.heap (need_hidden s (union label walk) p) (plan_data s.heap o key _ walk v.value e))

  fits_overwritten : (b : Bool) (rule : Rule) (o : ℕ) (key : List ℕ) (label : Label) (v : Val) (s : State) → Fits (length s.frames) (overwritten b rule o key label v s)
  unfolding overwritten
  fits_overwritten true rule o key label v s = (conf_ret observer tables (has_length label o)).fits s
  fits_overwritten false rule o key label v s = fits_acted observer tables is_put _ s

  adds_overwritten : (b : Bool) (rule : Rule) (o : ℕ) (key : List ℕ) (label : Label) (v : Val) (s : State) → Front s.lines (state_of (overwritten b rule o key label v s)).lines
  unfolding overwritten
  adds_overwritten true rule o key label v s = (conf_ret observer tables (has_length label o)).adds s
  adds_overwritten false rule o key label v s = adds_acted observer tables is_put _ s

  still_planned : (plan : PutPlan Label) (rule : Rule) (o : ℕ) (key : List ℕ) (label : Label) (base v : Val) (s : State) → IsPlanned plan s o key → IsHidden observer s → Still observer tables s (put_by plan rule o key label base v s)
  unfolding put_by
  still_planned (Write walk) rule o key label base v s e p = still_overwritten (is_length_in key (slice_get s.heap o)) rule o key label walk v s e p
  still_planned (Add walk) rule o key label base v s e p = still_acted observer tables is_put _ s (still_add observer o key _ (Data v.value) v.label _ s.heap (need_hidden s (union label walk) p))
  still_planned (Refused walk) rule o key label base v s e p = (conf_throw observer tables kinds.TypeError (union label walk)).still s p
  still_planned (Setter at walk) rule o key label base v s e p = (conf_setter_at (union label walk) base (own_in key (slice_get s.heap at.0))).still s p

  fits_planned : (plan : PutPlan Label) (rule : Rule) (o : ℕ) (key : List ℕ) (label : Label) (base v : Val) (s : State) → Fits (length s.frames) (put_by plan rule o key label base v s)
  unfolding put_by
  fits_planned (Write walk) rule o key label base v s = fits_overwritten (is_length_in key (slice_get s.heap o)) rule o key (union label walk) v s
  fits_planned (Add walk) rule o key label base v s = fits_acted observer tables is_put _ s
  fits_planned (Refused walk) rule o key label base v s = (conf_throw observer tables {X = Putting} kinds.TypeError (union label walk)).fits s
  fits_planned (Setter at walk) rule o key label base v s = (conf_setter_at (union label walk) base (own_in key (slice_get s.heap at.0))).fits s

  adds_planned : (plan : PutPlan Label) (rule : Rule) (o : ℕ) (key : List ℕ) (label : Label) (base v : Val) (s : State) → Front s.lines (state_of (put_by plan rule o key label base v s)).lines
  unfolding put_by
  adds_planned (Write walk) rule o key label base v s = adds_overwritten (is_length_in key (slice_get s.heap o)) rule o key (union label walk) v s
  adds_planned (Add walk) rule o key label base v s = adds_acted observer tables is_put _ s
  adds_planned (Refused walk) rule o key label base v s = (conf_throw observer tables {X = Putting} kinds.TypeError (union label walk)).adds s
  adds_planned (Setter at walk) rule o key label base v s = (conf_setter_at (union label walk) base (own_in key (slice_get s.heap at.0))).adds s

  conf_put_object : (rule : Rule) (o : ℕ) (key : List ℕ) (label : Label) (base v : Val) → Confined observer tables (put rule o key label base v)
  unfolding put
  conf_put_object rule o key label base v = record {
    still = λ s p. still_planned (can_put key (object_chain s.heap o)) rule o key label base v s refl p;
    fits = λ s. fits_planned (can_put key (object_chain s.heap o)) rule o key label base v s;
    adds = λ s. adds_planned (can_put key (object_chain s.heap o)) rule o key label base v s;
  }

  -- of a primitive value
  conf_refused : (label : Label) → Confined observer tables {X = Putting} (throw_error kinds.TypeError label)
  conf_refused label = conf_throw observer tables kinds.TypeError label

  conf_setter_if : (b : Bool) (label : Label) (base : Val) (p : Slot Label) → Confined observer tables (setter_if b label base p)
  unfolding setter_if
  conf_setter_if true label base p = conf_at observer tables (λ s. setter_found (union label p.label) base (setter_in p.body)) (λ s. conf_setter_found _ base _)
  conf_setter_if false label base p = conf_at observer tables (λ s. throw_error kinds.TypeError label) (λ s. conf_refused label)

  conf_put_beyond : (label : Label) (base : Val) (f : Option (ℕ × Slot Label)) → Confined observer tables (put_beyond label base f)
  unfolding put_beyond
  conf_put_beyond label base None = conf_at observer tables (λ s. throw_error kinds.TypeError label) (λ s. conf_refused label)
  conf_put_beyond label base (Some f) = conf_at observer tables (λ s. setter_if (is_accessor f.1.body) label base f.1) (λ s. conf_setter_if _ label base f.1)

  conf_on_primitive : (own : Option Primitive) (label : Label) (base : Val) (p : Primitive) (key : List ℕ) → Confined observer tables (put_on_primitive own label base p key)
  unfolding put_on_primitive
  conf_on_primitive (Some v) label base p key = conf_at observer tables (λ s. throw_error kinds.TypeError label) (λ s. conf_refused label)
  conf_on_primitive None label base p key = conf_at observer tables (λ s. let walk = find key (primitive_chain s.heap p) in put_beyond (union label walk.walk) base walk.at) (λ s. conf_put_beyond _ base _)

  conf_put_property : (label : Label) (base : Val) (x : Value) (key : List ℕ) (v : Val) → Confined observer tables (put_property label base x key v)
  unfolding put_property
  conf_put_property label base (value.Primitive p) key v = conf_at observer tables (λ s. put_on_primitive (own_value_of p key) label base p key) (λ s. conf_on_primitive _ label base p key)
  conf_put_property label base (value.Object o) key v = conf_at observer tables (λ s. put W2 o.0 key label base v) (λ s. conf_put_object W2 o.0 key label base v)

  conf_as_putting : {m : L (Unit {0})} → Confined observer tables m → Confined observer tables (as_putting m)
  conf_as_putting c = conf_bind observer tables (λ u. ret is_put) c (λ u. conf_ret observer tables is_put)

  conf_put_named : (place : Place) (walk : Label) (x : List ℕ) (v : Val) → Confined observer tables (put_named place walk x v)
  unfolding put_named
  conf_put_named (in_record i) walk x v = conf_as_putting (conf_assigned i x v)
  conf_put_named on_global walk x v = conf_at observer tables (λ s. put W1 global_object.0 x bottom global_value v) (λ s. conf_put_object W1 global_object.0 x bottom global_value v)
  conf_put_named nowhere walk x v = conf_at observer tables (λ s. throw_error kinds.ReferenceError walk) (λ s. conf_throw observer tables kinds.ReferenceError walk)

  pub conf_put : (n : Reference) (v : Val) → Confined observer tables (put_value n v)
  unfolding put_value
  conf_put (of_name x place walk) v = conf_put_named place walk x v
  conf_put (of_property base key label) v = conf_put_property _ base base.value key v

  -- ---- a put whose place is hidden

  without_bottom : (label : Label) → Hides observer (union label bottom) → Hides observer label
  without_bottom label h = ⊎_elim (λ x. x) (λ x. absurd (not_both observer bottom (sees_bottom observer) x)) (hidden_part observer label bottom h)

  hidden_left : (a b c : Label) → Hides observer (union a (union b c)) → Hides observer (union (union a b) c)
  hidden_left a b c h = ⊎_elim (λ x. hides_first observer (union a b) c (hides_first observer a b x))
      (λ x. ⊎_elim (λ y. hides_first observer (union a b) c (hides_second observer a b y)) (λ y. hides_second observer (union a b) c y) (hidden_part observer b c x)) (hidden_part observer a (union b c) h)

  mum_setter_found : (label : Label) (base : Val) (f : Option ObjId) → Hides observer label → Mum observer tables HiddenPutting (setter_found label base f)
  unfolding setter_found
  mum_setter_found label base None h = mum_at observer tables HiddenPutting (λ s. throw_error kinds.TypeError label) (λ s. mum_throw observer tables HiddenPutting kinds.TypeError label h)
  mum_setter_found label base (Some f) h = record { mute = λ s w. mute_here observer tables HiddenPutting s h }

  -- the label of the base, the key and the walk is hidden, or the value label of the accessor
  mum_setter_at : (label : Label) (base : Val) (p : Option (Slot Label)) → Hides observer (union label (slot_label p)) → Mum observer tables HiddenPutting (setter_at label base p)
  unfolding setter_at
  mum_setter_at label base None h = mum_at observer tables HiddenPutting (λ s. throw_error kinds.TypeError label) (λ s. mum_throw observer tables HiddenPutting kinds.TypeError label (without_bottom label h))
  mum_setter_at label base (Some p) h = mum_at observer tables HiddenPutting (λ s. setter_found (union label p.label) base (setter_in p.body)) (λ s. mum_setter_found _ base _ h)

  mute_overwritten : (b : Bool) (rule : Rule) (o : ℕ) (key : List ℕ) (label walk : Label) (v : Val) (s : State) → IsPlanned (Write walk) s o key → Hides observer (union label walk) → IsSeen observer s
      → Mute observer tables HiddenPutting s (overwritten b rule o key (union label walk) v s)
  unfolding overwritten
  mute_overwritten true rule o key label walk v s e h w = mute_here observer tables HiddenPutting s h
  mute_overwritten false rule o key label walk v s e h w = mute_acted observer tables HiddenPutting is_put _ s tt (still_write observer rule o key _ v s.heap (hides_second observer (context s.frames) (union label walk) h) (plan_data s.heap o key _ walk v.value e))

  mute_planned : (plan : PutPlan Label) (rule : Rule) (o : ℕ) (key : List ℕ) (label : Label) (base v : Val) (s : State) → IsPlanned plan s o key → Hides observer (union label (plan_label key s.heap plan)) → IsSeen observer s
      → Mute observer tables HiddenPutting s (put_by plan rule o key label base v s)
  unfolding put_by
  mute_planned (Write walk) rule o key label base v s e h w = mute_overwritten (is_length_in key (slice_get s.heap o)) rule o key label walk v s e h w
  mute_planned (Add walk) rule o key label base v s e h w = mute_acted observer tables HiddenPutting is_put _ s tt (still_add observer o key _ (Data v.value) v.label _ s.heap (hides_second observer (context s.frames) (union label walk) h))
  mute_planned (Refused walk) rule o key label base v s e h w = (mum_throw observer tables HiddenPutting kinds.TypeError (union label walk) h).mute s w
  mute_planned (Setter at walk) rule o key label base v s e h w = (mum_setter_at (union label walk) base (own_in key (slice_get s.heap at.0)) (hidden_left label walk (slot_label (own_in key (slice_get s.heap at.0))) h)).mute s w

  mum_put_object : (rule : Rule) (o : ℕ) (key : List ℕ) (label : Label) (base v : Val) → Hides observer label → Mum observer tables HiddenPutting (put rule o key label base v)
  unfolding put
  mum_put_object rule o key label base v h = record { mute = λ s w. let plan = can_put key (object_chain s.heap o) in mute_planned plan rule o key label base v s refl (hides_first observer label (plan_label key s.heap plan) h) w }

  mum_refused : (label : Label) → Hides observer label → Mum observer tables HiddenPutting (throw_error kinds.TypeError label)
  mum_refused label h = mum_throw observer tables HiddenPutting kinds.TypeError label h

  mum_setter_if : (b : Bool) (label : Label) (base : Val) (p : Slot Label) → Hides observer label → Mum observer tables HiddenPutting (setter_if b label base p)
  unfolding setter_if
  mum_setter_if true label base p h = mum_at observer tables HiddenPutting (λ s. setter_found (union label p.label) base (setter_in p.body)) (λ s. mum_setter_found _ base _ (hides_first observer label p.label h))
  mum_setter_if false label base p h = mum_at observer tables HiddenPutting (λ s. throw_error kinds.TypeError label) (λ s. mum_refused label h)

  mum_put_beyond : (label : Label) (base : Val) (f : Option (ℕ × Slot Label)) → Hides observer label → Mum observer tables HiddenPutting (put_beyond label base f)
  unfolding put_beyond
  mum_put_beyond label base None h = mum_at observer tables HiddenPutting (λ s. throw_error kinds.TypeError label) (λ s. mum_refused label h)
  mum_put_beyond label base (Some f) h = mum_at observer tables HiddenPutting (λ s. setter_if (is_accessor f.1.body) label base f.1) (λ s. mum_setter_if _ label base f.1 h)

  mum_on_primitive : (own : Option Primitive) (label : Label) (base : Val) (p : Primitive) (key : List ℕ) → Hides observer label → Mum observer tables HiddenPutting (put_on_primitive own label base p key)
  unfolding put_on_primitive
  mum_on_primitive (Some v) label base p key h = mum_at observer tables HiddenPutting (λ s. throw_error kinds.TypeError label) (λ s. mum_refused label h)
  mum_on_primitive None label base p key h = mum_at observer tables HiddenPutting (λ s. let walk = find key (primitive_chain s.heap p) in put_beyond (union label walk.walk) base walk.at)
      (λ s. mum_put_beyond _ base _ (hides_first observer label (find key (primitive_chain s.heap p)).walk h))

  pub mum_put_property : (label : Label) (base : Val) (x : Value) (key : List ℕ) (v : Val) → Hides observer label → Mum observer tables HiddenPutting (put_property label base x key v)
  unfolding put_property
  mum_put_property label base (value.Primitive p) key v h = mum_at observer tables HiddenPutting (λ s. put_on_primitive (own_value_of p key) label base p key) (λ s. mum_on_primitive _ label base p key h)
  mum_put_property label base (value.Object o) key v h = mum_at observer tables HiddenPutting (λ s. put W2 o.0 key label base v) (λ s. mum_put_object W2 o.0 key label base v h)

  -- ---- two runs

  setter_found_after : {γ : Pairing} {f g : Option ObjId} (l m : Label) {this that : Val} (s t : State) → Sees observer l → l ≡ m → SameObject γ f g → Agree observer γ this that → LowEqual observer tables γ s t → IsSeen observer s
      → InStep observer tables (PuttingsAgree observer) γ (setter_found l this f s) (setter_found m that g t)
  unfolding setter_found
  setter_found_after l m s t h e neither a r w = thrown_both observer tables (PuttingsAgree observer) kinds.TypeError s t (seen h e tt) r w
  setter_found_after {γ} l m s t h e (both p) a r w = go γ (extends_refl γ) r w (both_setters h e p a)

  setter_at_after : {γ : Pairing} {p q : Option (Slot Label)} (l m : Label) {this that : Val} (s t : State) → Sees observer l → l ≡ m → Sees observer (slot_label p) → SettersAgree γ p q → Agree observer γ this that → LowEqual observer tables γ s t → IsSeen observer s
      → InStep observer tables (PuttingsAgree observer) γ (setter_at l this p s) (setter_at m that q t)
  unfolding setter_at
  setter_at_after {γ} l m {this} {that} s t h e z (setters_agree {s = x} {t = y} {a = a} {b = b} {f = f} {k = k} d is_one is_other p) q r w =
      subst (λ c. InStep observer tables (PuttingsAgree observer) γ (setter_found (union l x.label) this (setter_in c) s) (setter_found (union m y.label) that (setter_in y.body) t)) (sym is_one)
      (subst (λ c. InStep observer tables (PuttingsAgree observer) γ (setter_found (union l x.label) this (Some f) s) (setter_found (union m y.label) that (setter_in c) t)) (sym is_other)
      (setter_found_after (union l x.label) (union m y.label) s t (sees_union observer l x.label h z) (ap₂ union e d) (both p) q r w))

  -- keys name the `length` of paired objects in both runs
  length_same : {γ : Pairing} {p q : Option (Object Label)} (key : List ℕ) → Both (ObjectsAgree observer γ) p q → is_length_in key p ≡ is_length_in key q
  length_same key (both_stand z) = ap (λ c. is_length c key) z.class

  overwritten_after : {γ : Pairing} (b : Bool) (rule : Rule) (i j : ℕ) (key : List ℕ) (l m n k : Label) {v u : Val} (s t : State) → Sees observer (union l n) → union l n ≡ union m k → IsPlanned (Write n) s i key → IsPlanned (Write k) t j key
      → γ.objects i j ≡ true → Agree observer γ v u → LowEqual observer tables γ s t → IsSeen observer s
      → InStep observer tables (PuttingsAgree observer) γ (overwritten b rule i key (union l n) v s) (overwritten b rule j key (union m k) u t)
  unfolding overwritten
  overwritten_after {γ} true rule i j key l m n k s t h e x y p a r w = go γ (extends_refl γ) r w (both_lengths h e p)
  overwritten_after {γ} false rule i j key l m n k {v} {u} s t h e x y p a r w = acted_after observer tables (PuttingsAgree observer) s t
      (level_write observer r.heap rule v u (seen (sees_union observer (context s.frames) (union l n) w h) (ap₂ union (same_context observer tables r w) e) ((p, refl), a))
      (plan_data s.heap i key _ n v.value x) (plan_data t.heap j key _ k u.value y)) both_put r w

  -- two plans that are the same
  planned_after : {γ : Pairing} {a b : PutPlan Label} (rule : Rule) (i j : ℕ) (key : List ℕ) {l m : Label} {this that v u : Val} (s t : State) → Sees observer l → l ≡ m → Sees observer (plan_label key s.heap a) → plan_label key s.heap a ≡ plan_label key t.heap b
      → IsPlanned a s i key → IsPlanned b t j key → PlansSame γ key s.heap t.heap a b → γ.objects i j ≡ true → Agree observer γ this that → Agree observer γ v u → LowEqual observer tables γ s t → IsSeen observer s
      → InStep observer tables (PuttingsAgree observer) γ (put_by a rule i key l this v s) (put_by b rule j key m that u t)
  unfolding put_by
  planned_after {γ} rule i j key {l} {m} {v = v} {u = u} s t h e c d x y (writes {l = k} {m = n}) p z a r w =
      subst (λ b. InStep observer tables (PuttingsAgree observer) γ (overwritten (is_length_in key (slice_get s.heap i)) rule i key (union l k) v s) (overwritten b rule j key (union m n) u t)) (length_same key (r.heap.paired i j p))
      (overwritten_after (is_length_in key (slice_get s.heap i)) rule i j key l m k n s t (sees_union observer l k h c) (ap₂ union e d) x y p a r w)
  planned_after {γ} rule i j key {l} {m} {v = v} {u = u} s t h e c d x y (adds {l = k} {m = n}) p z a r w = acted_after observer tables (PuttingsAgree observer) s t
      (level_add observer r.heap (Data v.value) (Data u.value) made_by_script made_by_script
      (seen (sees_union observer (context s.frames) (union l k) w (sees_union observer l k h c)) (ap₂ union (same_context observer tables r w) (ap₂ union e d)) ((p, refl), data_bodies a, refl))
      (plan_new s.heap i key k x) (plan_new t.heap j key n y)) both_put r w
  planned_after rule i j key {l} {m} s t h e c d x y (refusals {l = k} {m = n}) p z a r w = thrown_both observer tables (PuttingsAgree observer) kinds.TypeError s t (seen (sees_union observer l k h c) (ap₂ union e d) tt) r w
  planned_after rule i j key {l} {m} s t h e c d x y (setters {o = o} {l = k} {m = n} f g q) p z a r w =
      let own = slot_label (own_in key (slice_get s.heap o.0)) in
      setter_at_after (union l k) (union m n) s t (sees_union observer l k h (sees_first observer k own c)) (ap₂ union e f) (sees_second observer k own c) q z r w

  object_after : {γ : Pairing} (rule : Rule) (i j : ℕ) (key : List ℕ) {l m : Label} {this that v u : Val} (s t : State) → Sees observer l → l ≡ m → γ.objects i j ≡ true → Agree observer γ this that → Agree observer γ v u
      → LowEqual observer tables γ s t → IsSeen observer s → InStep observer tables (PuttingsAgree observer) γ (put rule i key l this v s) (put rule j key m that u t)
  unfolding put
  object_after {γ} rule i j key {l} {m} {this} {that} {v} {u} s t h e p z a r w = by_plans (level_can_put observer γ key s.heap t.heap r.heap p)
    where
      by_plans : PlansAgree observer γ key s.heap t.heap (can_put key (object_chain s.heap i)) (can_put key (object_chain t.heap j))
          → InStep observer tables (PuttingsAgree observer) γ (put_by (can_put key (object_chain s.heap i)) rule i key l this v s) (put_by (can_put key (object_chain t.heap j)) rule j key m that u t)
      by_plans (hidden c d) = puttings_apart r w (mute_planned _ rule i key l this v s refl (hides_second observer l (plan_label key s.heap (can_put key (object_chain s.heap i))) c) w)
          (mute_planned _ rule j key m that u t refl (hides_second observer m (plan_label key t.heap (can_put key (object_chain t.heap j))) d) (seen_other observer tables r w))
      by_plans (seen c d q) = planned_after rule i j key s t h e c d refl refl q p z a r w

  -- setters of primitive values
  bodies_after : {γ : Pairing} {x y : Label} {a b : Body} (l m : Label) {this that : Val} (s t : State) → Sees observer l → l ≡ m → BodiesAgree observer γ x y a b → Agree observer γ this that → LowEqual observer tables γ s t → IsSeen observer s
      → (p q : Slot Label) → p.body ≡ a → p.label ≡ x → q.body ≡ b → q.label ≡ y → InStep observer tables (PuttingsAgree observer) γ (setter_if (is_accessor p.body) l this p s) (setter_if (is_accessor q.body) m that q t)
  unfolding setter_if
  bodies_after {γ} l m {this} {that} s t h e (data_bodies z) k r w p q c d f g =
      subst (λ v. InStep observer tables (PuttingsAgree observer) γ (setter_if (is_accessor v) l this p s) (setter_if (is_accessor q.body) m that q t)) (sym c)
      (subst (λ v. InStep observer tables (PuttingsAgree observer) γ (throw_error kinds.TypeError l s) (setter_if (is_accessor v) m that q t)) (sym f)
      (thrown_both observer tables (PuttingsAgree observer) kinds.TypeError s t (seen h e tt) r w))
  bodies_after {γ} {x} {y} l m {this} {that} s t h e (accessors {s = set} {t = other} z) k r w p q c d f g =
      subst (λ v. InStep observer tables (PuttingsAgree observer) γ (setter_if (is_accessor v) l this p s) (setter_if (is_accessor q.body) m that q t)) (sym c)
      (subst (λ v. InStep observer tables (PuttingsAgree observer) γ (setter_found (union l p.label) this (setter_in p.body) s) (setter_if (is_accessor v) m that q t)) (sym f)
      (subst (λ v. InStep observer tables (PuttingsAgree observer) γ (setter_found (union l p.label) this (setter_in v) s) (setter_found (union m q.label) that (setter_in q.body) t)) (sym c)
      (subst (λ v. InStep observer tables (PuttingsAgree observer) γ (setter_found (union l p.label) this set s) (setter_found (union m q.label) that (setter_in v) t)) (sym f)
      (subst (λ v. InStep observer tables (PuttingsAgree observer) γ (setter_found (union l v) this set s) (setter_found (union m q.label) that other t)) (sym d)
      (subst (λ v. InStep observer tables (PuttingsAgree observer) γ (setter_found (union l x) this set s) (setter_found (union m v) that other t)) (sym g)
      (by_label z))))))
    where
      by_label : {x y : Label} {a b set other : Option ObjId} → Alike observer x y (SameObject γ a b × SameObject γ set other) → InStep observer tables (PuttingsAgree observer) γ (setter_found (union l x) this set s) (setter_found (union m y) that other t)
      by_label {x} {y} {set = set} {other = other} (hidden u v) = puttings_apart r w ((mum_setter_found (union l x) this set (hides_second observer l x u)).mute s w) ((mum_setter_found (union m y) that other (hides_second observer m y v)).mute t (seen_other observer tables r w))
      by_label {x} {y} (seen u v j) = setter_found_after (union l x) (union m y) s t (sees_union observer l x h u) (ap₂ union e v) j.1 k r w

  beyond_after : {γ : Pairing} {h g : List (Object Label)} (key : List ℕ) (l m : Label) {o u : Option (ℕ × Slot Label)} {this that : Val} (s t : State) → Sees observer l → l ≡ m → FoundSame observer γ h g key o u → Agree observer γ this that → LowEqual observer tables γ s t → IsSeen observer s
      → InStep observer tables (PuttingsAgree observer) γ (put_beyond l this o s) (put_beyond m that u t)
  unfolding put_beyond
  beyond_after key l m s t h e not_found k r w = thrown_both observer tables (PuttingsAgree observer) kinds.TypeError s t (seen h e tt) r w
  beyond_after key l m s t h e (walks.found {s = p} {t = q} x y z marks b) k r w = bodies_after l m s t h e b k r w p q refl refl refl refl

  walk_after : {γ : Pairing} {h g : List (Object Label)} (key : List ℕ) (l m : Label) (a b : Found) {this that : Val} (s t : State) → Sees observer l → l ≡ m → Alike observer a.walk b.walk (FoundSame observer γ h g key a.at b.at) → Agree observer γ this that
      → LowEqual observer tables γ s t → IsSeen observer s → InStep observer tables (PuttingsAgree observer) γ (put_beyond (union l a.walk) this a.at s) (put_beyond (union m b.walk) that b.at t)
  walk_after key l m a b {this} {that} s t z e (hidden c d) k r w = puttings_apart r w ((mum_put_beyond (union l a.walk) this a.at (hides_second observer l a.walk c)).mute s w) ((mum_put_beyond (union m b.walk) that b.at (hides_second observer m b.walk d)).mute t (seen_other observer tables r w))
  walk_after key l m a b s t z e (seen c d f) k r w = beyond_after key (union l a.walk) (union m b.walk) s t (sees_union observer l a.walk z c) (ap₂ union e d) f k r w

  primitive_after : {γ : Pairing} (own : Option Primitive) (p : Primitive) (key : List ℕ) {l m : Label} {this that : Val} (s t : State) → Sees observer l → l ≡ m → Agree observer γ this that → LowEqual observer tables γ s t → IsSeen observer s
      → InStep observer tables (PuttingsAgree observer) γ (put_on_primitive own l this p key s) (put_on_primitive own m that p key t)
  unfolding put_on_primitive
  primitive_after (Some v) p key s t h e z r w = thrown_both observer tables (PuttingsAgree observer) kinds.TypeError s t (seen h e tt) r w
  primitive_after None p key {l} {m} s t h e z r w = walk_after key l m (find key (primitive_chain s.heap p)) (find key (primitive_chain t.heap p)) s t h e (level_from observer r.heap key (prototype_same observer r.heap p)) z r w

  property_after : {γ : Pairing} {b c : Value} (key : List ℕ) {l m : Label} {this that v u : Val} (s t : State) → Sees observer l → l ≡ m → SameValue γ b c → Agree observer γ this that → Agree observer γ v u
      → LowEqual observer tables γ s t → IsSeen observer s → InStep observer tables (PuttingsAgree observer) γ (put_property l this b key v s) (put_property m that c key u t)
  unfolding put_property
  property_after key s t h e (primitives {p = p}) z a r w = primitive_after (own_value_of p key) p key s t h e z r w
  property_after key s t h e (objects {o = o} {q = q} p) z a r w = object_after W2 o.0 q.0 key s t h e p z a r w

  properties_after : {γ : Pairing} {b c v u : Val} {x y : List ℕ} {l m : Label} (s t : State) → Agree observer γ b c → Alike observer l m (x ≡ y) → Agree observer γ v u → LowEqual observer tables γ s t → IsSeen observer s
      → InStep observer tables (PuttingsAgree observer) γ (put_property (union b.label l) b b.value x v s) (put_property (union c.label m) c c.value y u t)
  properties_after {γ} {b} {c} {v} {u} {x} {y} {l} {m} s t z k a r w = by_label (alike_join observer (λ p q. (p, q)) z k)
    where
      by_label : Alike observer (union b.label l) (union c.label m) (SameValue γ b.value c.value × (x ≡ y)) → InStep observer tables (PuttingsAgree observer) γ (put_property (union b.label l) b b.value x v s) (put_property (union c.label m) c c.value y u t)
      by_label (hidden d e) = puttings_apart r w ((mum_put_property _ b b.value x v d).mute s w) ((mum_put_property _ c c.value y u e).mute t (seen_other observer tables r w))
      by_label (seen d e p) = subst (λ i. InStep observer tables (PuttingsAgree observer) γ (put_property (union b.label l) b b.value x v s) (put_property (union c.label m) c c.value i u t)) p.1 (property_after x s t d e p.0 z a r w)

  -- a name that is nowhere, or that one run alone has found
  stops_nowhere : (walk : Label) (x : List ℕ) (v : Val) → Hides observer walk → Mum observer tables Never (put_value (of_name x nowhere walk) v)
  unfolding put_value put_named
  stops_nowhere walk x v h = mum_at observer tables Never (λ s. throw_error kinds.ReferenceError walk) (λ s. mum_throw observer tables Never kinds.ReferenceError walk h)

  -- an assignment as a put
  put_step : {γ : Pairing} {o p : Outcome Halt Jump (Unit {0}) State} → InStep observer tables Nothing γ o p → InStep observer tables (PuttingsAgree observer) γ (and_then o (λ u. ret is_put)) (and_then p (λ u. ret is_put))
  put_step q = then_after observer tables Nothing (PuttingsAgree observer) (λ u. ret is_put) (λ u. ret is_put) (λ u. conf_ret observer tables is_put) (λ u. conf_ret observer tables is_put) q
      (λ δ e a b x. lock_ret observer tables (PuttingsAgree observer) δ (λ ε y. both_put))

  putting_after : {γ : Pairing} (x : List ℕ) (i j : ℕ) {v u : Val} (s t : State) → γ.records i j ≡ true → Agree observer γ v u → LowEqual observer tables γ s t → IsSeen observer s
      → InStep observer tables (PuttingsAgree observer) γ (as_putting (λ k. assigned_to (binding_at s.records i x) x i v k) s) (as_putting (λ k. assigned_to (binding_at t.records j x) x j u k) t)
  putting_after {γ} x i j {v} {u} s t p a r w = put_step (to_after x s t (binding_agree observer γ x r.records p) p a r w)

  record_after : {γ : Pairing} (x : List ℕ) (i j : ℕ) (l m : Label) {v u : Val} (s t : State) → γ.records i j ≡ true → Agree observer γ v u → LowEqual observer tables γ s t → IsSeen observer s
      → InStep observer tables (PuttingsAgree observer) γ (put_value (of_name x (in_record i) l) v s) (put_value (of_name x (in_record j) m) u t)
  unfolding put_value put_named
  record_after x i j l m s t p a r w = putting_after x i j s t p a r w

  global_after : {γ : Pairing} (x : List ℕ) (l m : Label) {v u : Val} (s t : State) → Agree observer γ v u → LowEqual observer tables γ s t → IsSeen observer s
      → InStep observer tables (PuttingsAgree observer) γ (put_value (of_name x on_global l) v s) (put_value (of_name x on_global m) u t)
  unfolding put_value put_named
  global_after x l m s t a r w = object_after W1 global_object.0 global_object.0 x s t (sees_bottom observer) refl (global_pair observer tables {s = s} {t = t} r) (global_agrees observer tables {s = s} {t = t} r) a r w

  nowhere_after : {γ : Pairing} (x : List ℕ) (l m : Label) (v u : Val) (s t : State) → Alike observer l m (Unit {0}) → LowEqual observer tables γ s t → IsSeen observer s
      → InStep observer tables (PuttingsAgree observer) γ (put_value (of_name x nowhere l) v s) (put_value (of_name x nowhere m) u t)
  unfolding put_value put_named
  nowhere_after x l m v u s t z r w = thrown_both observer tables (PuttingsAgree observer) kinds.ReferenceError s t z r w

  member_after : {γ : Pairing} (b c : Val) (x y : List ℕ) (l m : Label) {v u : Val} (s t : State) → Agree observer γ b c → Alike observer l m (x ≡ y) → Agree observer γ v u → LowEqual observer tables γ s t → IsSeen observer s
      → InStep observer tables (PuttingsAgree observer) γ (put_value (of_property b x l) v s) (put_value (of_property c y m) u t)
  unfolding put_value
  member_after b c x y l m s t z k a r w = properties_after {b = b} {c = c} s t z k a r w

  put_after : {γ : Pairing} {n m : Reference} {v u : Val} (s t : State) → ReferencesAgree observer γ n m → Agree observer γ v u → LowEqual observer tables γ s t → IsSeen observer s
      → InStep observer tables (PuttingsAgree observer) γ (put_value n v s) (put_value m u t)
  put_after {γ} s t (in_records {x = x} {i = i} {j = j} {l = l} {m = m} p) a r w = record_after x i j l m s t p a r w
  put_after s t (on_globals {x = x} {l = l} {m = m} z) a r w = global_after x l m s t a r w
  put_after {v = v} {u = u} s t (nowheres {x = x} {l = l} {m = m} z) a r w = nowhere_after x l m v u s t z r w
  put_after {v = v} {u = u} s t (found_first {x = x} {l = l} {m = m} h k) a r w = stops_second observer tables (PuttingsAgree observer) r ((conf_put (of_name x on_global l) v).adds s) ((stops_nowhere m x u k).mute t (seen_other observer tables r w))
  put_after {v = v} {u = u} s t (found_second {x = x} {l = l} {m = m} h k) a r w = stops_first observer tables (PuttingsAgree observer) r ((stops_nowhere l x v h).mute s w) ((conf_put (of_name x on_global m) u).adds t)
  put_after s t (properties {v = b} {u = c} {x = x} {y = y} {l = l} {m = m} z k) a r w = member_after b c x y l m s t z k a r w

  pub lock_put : {β : Pairing} {n m : Reference} {v u : Val} → ReferencesAgree observer β n m → Agree observer β v u → Lockstep observer tables (PuttingsAgree observer) β (put_value n v) (put_value m u)
  lock_put q a = record { steps = λ γ e s t r w. put_after s t (references_more observer tables e q) (agree_more observer e a) r w }
