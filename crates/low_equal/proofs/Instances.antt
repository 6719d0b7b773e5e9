-- `instanceof`: where it isn't seen, and in two runs.
use Rattle.std.proofs.Common.{◌≡◌, ℕ, List, [], ◌∷◌, Bool, true, false, cond, nat_eq, slice_get, ⊎_elim, refl, sym, ◌∙◌, ap₂, subst, true≢false}
use Rattle.std.proofs.lemmas.Bool.{eqb-true, eq-eqb}
use Rattle.origin_labels.specs.Label.{Label, union}
use Rattle.flow_policy.specs.Policies.{Tables}
use Rattle.js_values.specs.declared.ids.ObjId.{ObjId}
use Rattle.js_values.specs.declared.value.Value.{Value}
use Rattle.js_values.specs.declared.value.Value.TheVariants as value
use Rattle.js_values.specs.Objects.{Object}
use Rattle.js_values.specs.Walks.{object_chain}
use Rattle.native_protocol.specs.declared.request.ErrorKind.TheVariants as kinds
use Rattle.js_ast.specs.Functions.{FunctionCode}
use Rattle.es_meaning.specs.Outcomes.{Goes, ◌>>=◌}
use Rattle.es_meaning.specs.Start.{id}
use Rattle.es_meaning.specs.Plain.{prototype_name}
use Rattle.flow_meaning.specs.Scopes.{Val, State, L}
use Rattle.flow_meaning.specs.Requested.{Aim, aim_of, is_function_in}
use Rattle.flow_meaning.specs.Tracked.{throw_error, truth_of, Access, property_of, Enters, called_value, entered_access, Linked, linked_beyond, linked_from, linked, is_instance, instance_by, instance_of, instance_if, instance_value, instance}
use Rattle.low_equal.specs.Observed.{Sees, Hides, IsSeen}
use Rattle.low_equal.specs.LowEqual.{Pairing, IsOneToOne, Alike, seen, hidden, SameValue, primitives, objects, Agree, LowEqual}
use Rattle.low_equal.specs.Runs.{Confined, InStep, go, Lockstep}
use Rattle.low_equal.proofs.Labels.{sees_bottom, sees_union, hides_first, hides_second, hidden_part}
use Rattle.low_equal.proofs.Agreement.{extends_refl, alike_map, alike_join, value_more, agree_more}
use Rattle.low_equal.proofs.Walks.{ChainsAgree, no_objects, hidden_link, seen_link, chains_agree}
use Rattle.low_equal.proofs.States.{low_seen}
use Rattle.low_equal.proofs.Steps.{conf_ret, conf_bind, lock_bind}
use Rattle.low_equal.proofs.Acts.{conf_throw, thrown_both}
use Rattle.low_equal.proofs.Mute.{Mum, HiddenVal, mum_ret, mum_at, mum_bind, mum_throw, values_apart, lock_hidden}
use Rattle.low_equal.proofs.References.{AccessesAgree, HiddenAccess, conf_at, conf_property, mum_property, lock_property}
use Rattle.low_equal.proofs.News.{function_at_same}
use Rattle.low_equal.proofs.Aims.{aims_agree}
use Rattle.low_equal.proofs.Calls.{EntersConfined, EntersInStep}
use Rattle.low_equal.proofs.Accesses.{conf_access, mum_access, lock_access}

-- ---- the links up to an object

abbrev by_test : Bool → Label → Linked → Linked
by_test b link rest = cond b (record { is = true; links = link }) (linked_beyond link rest)

-- paired numbers are equal to paired numbers alike
test_same : {pairs : ℕ → ℕ → Bool} → IsOneToOne pairs → (i j a b : ℕ) → pairs i j ≡ true → pairs a b ≡ true → nat_eq i a ≡ nat_eq j b
test_same u i j a b p q = go (nat_eq i a) (nat_eq j b) refl refl
  where
    go : (x y : Bool) → nat_eq i a ≡ x → nat_eq j b ≡ y → x ≡ y
    go true true e f = refl
    go false false e f = refl
    go true false e f = absurd (true≢false (sym (eq-eqb j b ((u i j a b p q).0 (eqb-true i a e))) ∙ f))
    go false true e f = absurd (true≢false (sym (eq-eqb i a ((u i j a b p q).1 (eqb-true j b f))) ∙ e))

module _ (observer : Label) where
  hidden_test : (b : Bool) (l : Label) (rest : Linked) → Hides observer l → Hides observer (by_test b l rest).links
  hidden_test true l rest h = h
  hidden_test false l rest h = hides_first observer l rest.links h

  hidden_from : (proto : ℕ) (l : Label) (c : List (ℕ × Object Label)) → Hides observer l → Hides observer (linked_from proto l c).links
  hidden_from proto l [] h = h
  hidden_from proto l (e ∷ c) h = hidden_test (nat_eq e.0 proto) l (linked_from proto e.1.link c) h

  abbrev LinkedAlike : Linked → Linked → Type 0
  LinkedAlike x y = Alike observer x.links y.links (x.is ≡ y.is)

  test_both : (b : Bool) {l m : Label} {x y : Linked} → Sees observer l → l ≡ m → LinkedAlike x y → LinkedAlike (by_test b l x) (by_test b m y)
  test_both true s e a = seen s e refl
  test_both false s e a = alike_join observer (λ (u : Unit {0}) p. p) (seen s e tt) a

  module _ (β : Pairing) (h g : List (Object Label)) (u : IsOneToOne β.objects) (proto other : ℕ) (p : β.objects proto other ≡ true) where
    linked_tests : {i j : ℕ} {l m : Label} {x y : Linked} → β.objects i j ≡ true → Sees observer l → l ≡ m → LinkedAlike x y → LinkedAlike (by_test (nat_eq i proto) l x) (by_test (nat_eq j other) m y)
    linked_tests {i} {j} {l} {m} {x} {y} q s e a = subst (λ b. LinkedAlike (by_test (nat_eq i proto) l x) (by_test b m y)) (test_same u i j proto other q p) (test_both (nat_eq i proto) s e a)

    from_agree : {l m : Label} {c d : List (ℕ × Object Label)} → Sees observer l → l ≡ m → ChainsAgree observer β h g c d → LinkedAlike (linked_from proto l c) (linked_from other m d)
    from_agree s e no_objects = seen s e refl
    from_agree s e (hidden_link {p = a} {q = b} {c = c} {d = d} t x y) = linked_tests t.pair s e (hidden (hidden_from proto a.link c x) (hidden_from other b.link d y))
    from_agree s e (seen_link t x y more) = linked_tests t.pair s e (from_agree x y more)

    linked_agree : {c d : List (ℕ × Object Label)} → ChainsAgree observer β h g c d → LinkedAlike (linked proto c) (linked other d)
    linked_agree no_objects = seen (sees_bottom observer) refl refl
    linked_agree (hidden_link {p = a} {q = b} {c = c} {d = d} t x y) = hidden (hidden_from proto a.link c x) (hidden_from other b.link d y)
    linked_agree (seen_link t x y more) = from_agree x y more

module _ (observer : Label) (tables : Tables) (functions : List FunctionCode) where
  abbrev Hid : Val → Type 0
  Hid v = HiddenVal observer tables v

  abbrev HiddenRead : Access → Type 0
  HiddenRead a = HiddenAccess observer tables a

  -- ---- the links of an object

  pub conf_is : (label : Label) (o : ℕ) (v : Value) → Confined observer tables (is_instance label o v)
  unfolding is_instance
  conf_is label o (value.Primitive p) = conf_at observer tables (λ s. throw_error kinds.TypeError label) (λ s. conf_throw observer tables {X = Val} kinds.TypeError label)
  conf_is label o (value.Object q) = conf_at observer tables (λ s t. Goes (truth_of (linked q.0 (object_chain s.heap o)).is (union label (linked q.0 (object_chain s.heap o)).links)) t) (λ s. conf_ret observer tables _)

  mum_is : (label : Label) (o : ℕ) (v : Value) → Hides observer label → Mum observer tables Hid (is_instance label o v)
  unfolding is_instance
  mum_is label o (value.Primitive p) h = mum_at observer tables Hid (λ s. throw_error kinds.TypeError label) (λ s. mum_throw observer tables Hid kinds.TypeError label h)
  mum_is label o (value.Object q) h = mum_at observer tables Hid (λ s t. Goes (truth_of (linked q.0 (object_chain s.heap o)).is (union label (linked q.0 (object_chain s.heap o)).links)) t) (λ s. mum_ret observer tables Hid (hides_first observer label _ h))

  -- of paired objects
  is_objects : {γ : Pairing} (l m : Label) (o q : ℕ) (a b : ObjId) (s t : State) → Sees observer l → l ≡ m → γ.objects o q ≡ true → γ.objects a.0 b.0 ≡ true → LowEqual observer tables γ s t → IsSeen observer s
      → InStep observer tables (Agree observer) γ (is_instance l o (value.Object a) s) (is_instance m q (value.Object b) t)
  unfolding is_instance
  is_objects {γ} l m o q a b s t h e p z r w =
      go γ (extends_refl γ) r w (truths_agree (alike_join observer (λ (u : Unit {0}) k. k) (seen h e tt) (linked_agree observer γ s.heap t.heap r.heap.one_to_one a.0 b.0 z (chains_agree observer γ s.heap t.heap r.heap p))))
    where
      truths_agree : {x y : Bool} {i j : Label} → Alike observer i j (x ≡ y) → Agree observer γ (truth_of x i) (truth_of y j)
      truths_agree {x} {y} {i} {j} z = alike_map observer (λ k. subst (λ b. SameValue γ (truth_of x i).value (truth_of b j).value) k primitives) z

  is_after : {γ : Pairing} (l m : Label) (o q : ℕ) {x y : Value} (s t : State) → Sees observer l → l ≡ m → γ.objects o q ≡ true → SameValue γ x y → LowEqual observer tables γ s t → IsSeen observer s
      → InStep observer tables (Agree observer) γ (is_instance l o x s) (is_instance m q y t)
  unfolding is_instance
  is_after l m o q s t h e p primitives r w = thrown_both observer tables (Agree observer) kinds.TypeError s t (seen h e tt) r w
  is_after l m o q s t h e p (objects {o = a} {q = b} z) r w = is_objects l m o q a b s t h e p z r w

  lock_is : {β : Pairing} (l m : Label) (o q : ℕ) {x y : Value} → Alike observer l m (SameValue β x y) → β.objects o q ≡ true → Lockstep observer tables (Agree observer) β (is_instance l o x) (is_instance m q y)
  lock_is l m o q {x} {y} (hidden h k) p = lock_hidden observer tables (mum_is l o x h) (mum_is m q y k)
  lock_is l m o q (seen h e z) p = record { steps = λ γ i s t r w. is_after l m o q s t h e (i.objects _ _ p) (value_more observer i z) r w }

  -- ---- one run

  -- what is done with the prototype
  abbrev at_proto : Label → ℕ → Val → L Val
  at_proto label o proto = is_instance (union label proto.label) o proto.value

  module _ {E : Enters} (c : EntersConfined observer tables E) where
    abbrev reads : Label → Label → ℕ → L Val
    reads place label f = property_of place (called_value label f) (value.Object (id f)) prototype_name >>= entered_access functions E

    conf_reads : (place label : Label) (f : ℕ) → Confined observer tables (reads place label f)
    conf_reads place label f = conf_bind observer tables (entered_access functions E) (conf_property observer tables place (called_value label f) (value.Object (id f)) prototype_name) (λ a. conf_access observer tables functions c a)

    conf_by : (v : Val) (o : ObjId) (label : Label) (f : ℕ) → Confined observer tables (instance_by functions v o label f E)
    unfolding instance_by
    conf_by v o label f = conf_at observer tables (λ s. reads (union v.label label) label f >>= at_proto (union v.label label) o.0)
        (λ s. conf_bind observer tables (at_proto (union v.label label) o.0) (conf_reads (union v.label label) label f) (λ a. conf_is _ o.0 a.value))

    conf_of : (v : Val) (x : Value) (label : Label) (aim : Aim) → Confined observer tables (instance_of functions v x label aim E)
    unfolding instance_of
    conf_of v (value.Primitive p) label aim = conf_ret observer tables _
    conf_of v (value.Object o) label aim = conf_by v o (union label aim.label) aim.target.function

    conf_if : (b : Bool) (v : Val) (label : Label) (f : ℕ) → Confined observer tables (instance_if functions b v label f E)
    unfolding instance_if
    conf_if true v label f = conf_at observer tables (λ s. instance_of functions v v.value label (aim_of s.heap f) E) (λ s. conf_of v v.value label (aim_of s.heap f))
    conf_if false v label f = conf_at observer tables (λ s. throw_error kinds.TypeError label) (λ s. conf_throw observer tables {X = Val} kinds.TypeError label)

    conf_value : (v : Val) (label : Label) (x : Value) → Confined observer tables (instance_value functions v label x E)
    unfolding instance_value
    conf_value v label (value.Primitive p) = conf_at observer tables (λ s. throw_error kinds.TypeError label) (λ s. conf_throw observer tables {X = Val} kinds.TypeError label)
    conf_value v label (value.Object f) = conf_at observer tables (λ s. instance_if functions (is_function_in (slice_get s.heap f.0)) v label f.0 E) (λ s. conf_if _ v label f.0)

    pub conf_instance : (v f : Val) → Confined observer tables (instance functions v f E)
    conf_instance v f = conf_value v f.label f.value

    hides_regrouped : (a b c : Label) → Hides observer (union a b) → Hides observer (union a (union b c))
    hides_regrouped a b c h = ⊎_elim (λ x. hides_first observer a (union b c) x) (λ x. hides_second observer a (union b c) (hides_first observer b c x)) (hidden_part observer a b h)

    -- under a hidden label
    mum_by : (v : Val) (o : ObjId) (label : Label) (f : ℕ) → Hides observer (union v.label label) → Mum observer tables Hid (instance_by functions v o label f E)
    unfolding instance_by
    mum_by v o label f h = mum_at observer tables Hid (λ s. reads (union v.label label) label f >>= at_proto (union v.label label) o.0)
        (λ s. mum_bind observer tables Hid Hid (at_proto (union v.label label) o.0)
        (mum_bind observer tables HiddenRead Hid (entered_access functions E) (mum_property observer tables (union v.label label) (called_value label f) (value.Object (id f)) prototype_name h) (λ a k. mum_access observer tables functions c a k))
        (λ a k. mum_is (union (union v.label label) a.label) o.0 a.value (hides_first observer (union v.label label) a.label h)))

    -- by the operand's label, or by that of the function
    mum_of : (v : Val) (x : Value) (label : Label) (aim : Aim) → Hides observer (union v.label label) → Mum observer tables Hid (instance_of functions v x label aim E)
    unfolding instance_of
    mum_of v (value.Primitive p) label aim h = mum_ret observer tables Hid h
    mum_of v (value.Object o) label aim h = mum_by v o (union label aim.label) aim.target.function (hides_regrouped v.label label aim.label h)

    mum_of_value : (v : Val) (x : Value) (label : Label) (aim : Aim) → Hides observer v.label → Mum observer tables Hid (instance_of functions v x label aim E)
    mum_of_value v x label aim h = mum_of v x label aim (hides_first observer v.label label h)

    mum_if : (b : Bool) (v : Val) (label : Label) (f : ℕ) → Hides observer label → Mum observer tables Hid (instance_if functions b v label f E)
    unfolding instance_if
    mum_if true v label f h = mum_at observer tables Hid (λ s. instance_of functions v v.value label (aim_of s.heap f) E) (λ s. mum_of v v.value label (aim_of s.heap f) (hides_second observer v.label label h))
    mum_if false v label f h = mum_at observer tables Hid (λ s. throw_error kinds.TypeError label) (λ s. mum_throw observer tables Hid kinds.TypeError label h)

    mum_value : (v : Val) (label : Label) (x : Value) → Hides observer label → Mum observer tables Hid (instance_value functions v label x E)
    unfolding instance_value
    mum_value v label (value.Primitive p) h = mum_at observer tables Hid (λ s. throw_error kinds.TypeError label) (λ s. mum_throw observer tables Hid kinds.TypeError label h)
    mum_value v label (value.Object f) h = mum_at observer tables Hid (λ s. instance_if functions (is_function_in (slice_get s.heap f.0)) v label f.0 E) (λ s. mum_if _ v label f.0 h)

  -- ---- two runs

  module _ {E D : Enters} (ce : EntersConfined observer tables E) (cd : EntersConfined observer tables D) (in_step : EntersInStep observer tables E D) where
    lock_reads : {β : Pairing} (i j l m : Label) (f g : ℕ) → Sees observer i → i ≡ j → Alike observer l m (Unit {0}) → β.objects f g ≡ true → Lockstep observer tables (Agree observer) β (reads ce i l f) (reads cd j m g)
    lock_reads i j l m f g h e a p =
        lock_bind observer tables (AccessesAgree observer) (Agree observer) (entered_access functions E) (entered_access functions D)
        (lock_property observer tables prototype_name (seen h e (objects p)) (alike_map observer (λ u. objects p) a))
        (λ x. conf_access observer tables functions ce x) (λ x. conf_access observer tables functions cd x) (λ γ k x y z. lock_access observer tables functions ce cd in_step z)

    by_objects : {β : Pairing} (v u : Val) (o q : ℕ) (l m : Label) (f g : ℕ) → Sees observer (union v.label l) → union v.label l ≡ union u.label m → Alike observer l m (Unit {0}) → β.objects f g ≡ true → β.objects o q ≡ true
        → Lockstep observer tables (Agree observer) β (reads ce (union v.label l) l f >>= at_proto (union v.label l) o) (reads cd (union u.label m) m g >>= at_proto (union u.label m) q)
    by_objects v u o q l m f g h e a p z =
        lock_bind observer tables (Agree observer) (Agree observer) (at_proto (union v.label l) o) (at_proto (union u.label m) q) (lock_reads (union v.label l) (union u.label m) l m f g h e a p)
        (λ x. conf_is _ o x.value) (λ x. conf_is _ q x.value)
        (λ γ k x y b. lock_is (union (union v.label l) x.label) (union (union u.label m) y.label) o q (alike_join observer (λ (i : Unit {0}) j. j) (seen h e tt) b) (k.objects _ _ z))

    by_seen : {γ : Pairing} (v u : Val) (o q : ObjId) (l m : Label) (f g : ℕ) (s t : State) → Sees observer (union v.label l) → union v.label l ≡ union u.label m → Alike observer l m (Unit {0}) → γ.objects f g ≡ true → γ.objects o.0 q.0 ≡ true → LowEqual observer tables γ s t → IsSeen observer s
        → InStep observer tables (Agree observer) γ (instance_by functions v o l f E s) (instance_by functions u q m g D t)
    unfolding instance_by
    by_seen {γ} v u o q l m f g s t h e a p z r w = (by_objects v u o.0 q.0 l m f g h e a p z).steps γ (extends_refl γ) s t r w

    -- where the target is hidden, an object's read is; of a primitive value nothing is read
    by_after : {γ : Pairing} (v u : Val) (o q : ObjId) (l m : Label) (a b : Aim) (s t : State) → Alike observer (union l a.label) (union m b.label) (γ.objects a.target.function b.target.function ≡ true) → Sees observer v.label → v.label ≡ u.label → γ.objects o.0 q.0 ≡ true
        → LowEqual observer tables γ s t → IsSeen observer s → InStep observer tables (Agree observer) γ (instance_by functions v o (union l a.label) a.target.function E s) (instance_by functions u q (union m b.label) b.target.function D t)
    by_after v u o q l m a b s t (hidden c d) h k z r w = values_apart observer tables r w ((mum_by ce v o (union l a.label) a.target.function (hides_second observer v.label (union l a.label) c)).mute s w)
        ((mum_by cd u q (union m b.label) b.target.function (hides_second observer u.label (union m b.label) d)).mute t (low_seen observer tables r w))
    by_after {γ} v u o q l m a b s t (seen c d p) h k z r w = by_seen v u o q (union l a.label) (union m b.label) a.target.function b.target.function s t (sees_union observer v.label (union l a.label) h c) (ap₂ union k d) (seen c d tt) p z r w

    of_after : {γ : Pairing} (v u : Val) {x y : Value} (l m : Label) (a b : Aim) (s t : State) → Sees observer l → l ≡ m → Alike observer (union l a.label) (union m b.label) (γ.objects a.target.function b.target.function ≡ true) → Alike observer v.label u.label (SameValue γ x y) → LowEqual observer tables γ s t → IsSeen observer s
        → InStep observer tables (Agree observer) γ (instance_of functions v x l a E s) (instance_of functions u y m b D t)
    unfolding instance_of
    of_after v u {x} {y} l m a b s t c d p (hidden h k) r w = values_apart observer tables r w ((mum_of_value ce v x l a h).mute s w) ((mum_of_value cd u y m b k).mute t (low_seen observer tables r w))
    of_after {γ} v u l m a b s t c d p (seen h k primitives) r w = go γ (extends_refl γ) r w (seen (sees_union observer v.label l h c) (ap₂ union k d) primitives)
    of_after v u l m a b s t c d p (seen h k (objects {o = o} {q = q} z)) r w = by_after v u o q l m a b s t p h k z r w

    if_after : {γ : Pairing} (b c : Bool) (v u : Val) (l m : Label) (f g : ℕ) (s t : State) → b ≡ c → Sees observer l → l ≡ m → γ.objects f g ≡ true → Agree observer γ v u → LowEqual observer tables γ s t → IsSeen observer s
        → InStep observer tables (Agree observer) γ (instance_if functions b v l f E s) (instance_if functions c u m g D t)
    unfolding instance_if
    if_after {γ} true true v u l m f g s t e h d p a r w = of_after v u l m _ _ s t h d (alike_join observer (λ (i : Unit {0}) j. j.function) (seen h d tt) (aims_agree observer r.heap p)) a r w
    if_after false false v u l m f g s t e h d p a r w = thrown_both observer tables (Agree observer) kinds.TypeError s t (seen h d tt) r w
    if_after true false v u l m f g s t e h d p a r w = absurd (true≢false e)
    if_after false true v u l m f g s t e h d p a r w = absurd (true≢false (sym e))

    value_after : {γ : Pairing} (v u : Val) (l m : Label) {x y : Value} (s t : State) → Sees observer l → l ≡ m → SameValue γ x y → Agree observer γ v u → LowEqual observer tables γ s t → IsSeen observer s
        → InStep observer tables (Agree observer) γ (instance_value functions v l x E s) (instance_value functions u m y D t)
    unfolding instance_value
    value_after v u l m s t h e primitives a r w = thrown_both observer tables (Agree observer) kinds.TypeError s t (seen h e tt) r w
    value_after v u l m s t h e (objects {o = f} {q = g} p) a r w = if_after _ _ v u l m f.0 g.0 s t (function_at_same observer r.heap (objects {o = f} {q = g} p)) h e p a r w

    lock_value : {β : Pairing} {v u : Val} {l m : Label} {x y : Value} → Agree observer β v u → Alike observer l m (SameValue β x y) → Lockstep observer tables (Agree observer) β (instance_value functions v l x E) (instance_value functions u m y D)
    lock_value {v = v} {u = u} {l = l} {m = m} {x = x} {y = y} a (hidden h k) = lock_hidden observer tables (mum_value ce v l x h) (mum_value cd u m y k)
    lock_value {v = v} {u = u} {l = l} {m = m} a (seen h e z) = record { steps = λ γ i s t r w. value_after v u l m s t h e (value_more observer i z) (agree_more observer i a) r w }

    pub lock_instance : {β : Pairing} {v u f g : Val} → Agree observer β v u → Agree observer β f g → Lockstep observer tables (Agree observer) β (instance functions v f E) (instance functions u g D)
    lock_instance a b = lock_value a b
