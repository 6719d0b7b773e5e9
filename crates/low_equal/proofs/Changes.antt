-- Acts that change or remove a property, or change an object: of one run, and of two.
use Rattle.std.proofs.Common.{◌≡◌, ℕ, Bool, true, false, cond, List, Option, Some, None, slice_get, Ok, Err, ◌⊎◌, inl, inr, ⊎_elim, refl, sym, ◌∙◌, ap, ap₂, subst}
use Rattle.origin_labels.specs.Label.{Label, union, within, sees}
use Rattle.flow_frames.specs.declared.faults.Rule.{Rule}
use Rattle.flow_frames.specs.declared.faults.Rule.TheVariants.{W2, W4, W5, W6, W7, W8}
use Rattle.js_values.specs.declared.ids.ObjId.{ObjId}
use Rattle.js_values.specs.declared.value.Value.{Value}
use Rattle.js_values.specs.declared.property.Marks.{Marks}
use Rattle.js_values.specs.declared.property.Body.{Body}
use Rattle.js_values.specs.declared.property.Body.TheVariants.{Data, Accessor}
use Rattle.js_values.specs.declared.property.Slot.{Slot}
use Rattle.js_values.specs.Objects.{Rows, Object, own, altered, changed, without}
use Rattle.object_heap.specs.Acts.{Acted, under, act_on, with_rows, on_slot, change, value_have, existence_have, with_body, with_marks, with_existence, remove_own, raise_own_structure, prevent_own_extensions, write, set_body, set_attributes, raise_existence, remove, raise_structure, prevent_extensions, overwrite_own, set_own_attributes, raise_own_existence}
use Rattle.flow_meaning.specs.Scopes.{Val}
use Rattle.low_equal.specs.Observed.{Sees, Hides}
use Rattle.low_equal.specs.LowEqual.{Pairing, Alike, seen, hidden, Agree, BodiesAgree, data_bodies, accessors, SlotsAgree, RowsAgree, seen_rows, ShapesAgree, seen_shape, hidden_shape, ObjectsAgree, AreDistinct, HeapsAgree}
use Rattle.low_equal.proofs.Labels.{not_both, sees_or_hides, sees_union, hides_first, hides_second, hidden_part, hides_within}
use Rattle.low_equal.proofs.Agreement.{alike_map, alike_join, alike_seen, alike_hidden}
use Rattle.low_equal.proofs.Rows.{own_absent, absent_altered, distinct_altered, OwnAgree, neither_names, both_name, altered_both, altered_left, seen_both, seen_slot, IsUnseen, no_slot, hidden_slot, unseen_slot, own_seen, seen_altered}
use Rattle.low_equal.proofs.HeapActs.{StaysFormed, Becomes, makes, ends, Makes, StillHeap, StandsFor, StillObject, stands, stops, stands_same, still_act, ActsAfter, acts_apart, acts_level}

-- both are data, or both accessors
pub data SameKind : Body → Body → Type 0 where
  both_data : {v u : Value} → SameKind (Data v) (Data u)
  both_accessors : {g f s t : Option ObjId} → SameKind (Accessor g s) (Accessor f t)

-- data stays data and an accessor an accessor, or the need is included in the existence label
pub data MayHold (need : Label) (s : Slot Label) (body : Body) : Type 0 where
  kind_stays : SameKind s.body body → MayHold need s body
  is_included : within need s.existence ≡ true → MayHold need s body

-- the property that the key names, if there is one, may take the body
abbrev pub MayTake : List (Object Label) → ℕ → List ℕ → Label → Body → Type 0
MayTake h o key need body = (p : Object Label) (s : Slot Label) → slice_get h o ≡ Some p → own key p.rows ≡ Some s → MayHold need s body

-- paired objects, and one key
abbrev pub SamePlace : Pairing → ℕ → ℕ → List ℕ → List ℕ → Type 0
SamePlace β i j k l = (β.objects i j ≡ true) × (k ≡ l)

-- ---- what an act makes

pub becomes_under : (p : Object Label) (rule : Rule) (need have : Label) {x : Acted (Object Label)} → Becomes p x → Becomes p (under rule need have x)
becomes_under p rule need have {x} b = go (within need have)
  where
    go : (t : Bool) → Becomes p (cond t x (Err (record { rule = rule; need = need; have = have })))
    go true = b
    go false = ends

pub formed_rows : (p : Object Label) (rows : Rows (Slot Label)) → (AreDistinct p.rows → AreDistinct rows) → StaysFormed (with_rows p rows) p
formed_rows p rows f = record { distinct = f; proto = refl; link = refl; inner = refl }

pub makes_change : (rule : Rule) (have : Slot Label → Label) (new : Slot Label → Slot Label) (key : List ℕ) (need : Label) (p : Object Label) → Makes (with_rows p (changed key new p.rows)) p (change rule have new key need p)
makes_change rule have new key need p = record { becomes = with_slot (own key p.rows) refl; formed = formed_rows p _ (distinct_altered key (λ s. Some (new s))) }
  where
    with_slot : (x : Option (Slot Label)) → own key p.rows ≡ x → Becomes (with_rows p (changed key new p.rows)) (on_slot x p (λ s. under rule need (have s) (Ok (with_rows p (changed key new p.rows)))))
    with_slot None e = makes (sym (ap (with_rows p) (absent_altered (λ s. Some (new s)) (own_absent key p.rows e))))
    with_slot (Some s) e = becomes_under _ rule need (have s) (makes refl)

pub makes_remove : (key : List ℕ) (need : Label) (p : Object Label) → Makes (with_rows p (without key p.rows)) p (remove_own key need p)
makes_remove key need p = record { becomes = with_slot (own key p.rows) refl; formed = formed_rows p _ (distinct_altered key (λ s. None)) }
  where
    with_slot : (x : Option (Slot Label)) → own key p.rows ≡ x → Becomes (with_rows p (without key p.rows)) (on_slot x p (λ s. under W4 need s.existence (under W5 need p.structure (Ok (with_rows p (without key p.rows))))))
    with_slot None e = makes (sym (ap (with_rows p) (absent_altered (λ s. None) (own_absent key p.rows e))))
    with_slot (Some s) e = becomes_under _ W4 need s.existence (becomes_under _ W5 need p.structure (makes refl))

module _ (observer : Label) where
  -- ---- one run

  -- a test that may stop the act
  pub still_under : (p : Object Label) (rule : Rule) (need have : Label) (x : Acted (Object Label)) → (within need have ≡ true → StillObject observer p x) → StillObject observer p (under rule need have x)
  still_under p rule need have x f = go (within need have) f
    where
      go : (b : Bool) → (b ≡ true → StillObject observer p x) → StillObject observer p (cond b x (Err (record { rule = rule; need = need; have = have })))
      go true k = k refl
      go false k = stops

  -- an existence that is hidden stays so
  abbrev pub Keeps : (Slot Label → Slot Label) → Type 0
  Keeps f = (s : Slot Label) → Hides observer s.existence → Hides observer (f s).existence

  -- one slot stands for another
  pub record SlotStands (new old : Slot Label) : Type 0 where
    pub agrees : (β : Pairing) (t : Slot Label) → SlotsAgree observer β old t → SlotsAgree observer β new t
    pub stays_seen : Sees observer old.existence → Sees observer new.existence

  hidden_stands : (new old : Slot Label) → Hides observer old.existence → Hides observer new.existence → SlotStands new old
  hidden_stands new old p q = record { agrees = λ β t r. hidden q (alike_hidden observer r p); stays_seen = λ e. absurd (not_both observer old.existence e p) }

  seen_some : (s : Slot Label) → Sees observer s.existence → seen_slot observer (Some s) ≡ Some s
  seen_some s e = ap (λ b. cond b (Some s) None) e

  keeps_unseen : (f : Slot Label → Slot Label) → Keeps f → (s : Slot Label) → Hides observer s.existence → IsUnseen observer (Some (f s))
  keeps_unseen f k s e = hidden_slot (k s e)

  -- the rows that are seen, where a slot is replaced by one that stands for it
  seen_changed : {β : Pairing} (key : List ℕ) (f : Slot Label → Slot Label) (s : Slot Label) {rs qs : Rows (Slot Label)} → Keeps f → SlotStands (f s) s → AreDistinct rs → own key rs ≡ Some s → RowsAgree observer β (seen_rows observer rs) qs
      → RowsAgree observer β (seen_rows observer (changed key f rs)) qs
  seen_changed {β} key f s {rs} {qs} kept st d e r = subst (λ x. RowsAgree observer β x qs) (sym (seen_altered observer key (λ x. Some (f x)) (keeps_unseen f kept) d)) (⊎_elim in_sight out_of_sight (sees_or_hides observer s.existence))
    where
      named : own key (seen_rows observer rs) ≡ seen_slot observer (Some s)
      named = own_seen observer key d ∙ ap (seen_slot observer) e

      in_sight : Sees observer s.existence → RowsAgree observer β (altered key (λ x. seen_slot observer (Some (f x))) (seen_rows observer rs)) qs
      in_sight v = altered_left observer key _ s (f s) (named ∙ seen_some s v) (seen_some (f s) (st.stays_seen v)) (st.agrees β) r

      out_of_sight : Hides observer s.existence → RowsAgree observer β (altered key (λ x. seen_slot observer (Some (f x))) (seen_rows observer rs)) qs
      out_of_sight v = subst (λ x. RowsAgree observer β x qs) (sym (absent_altered _ (own_absent key _ (named ∙ unseen_slot observer (hidden_slot v))))) r

  shape_changed : {β : Pairing} (key : List ℕ) (f : Slot Label → Slot Label) (s : Slot Label) {p q : Object Label} → Keeps f → SlotStands (f s) s → AreDistinct p.rows → own key p.rows ≡ Some s → ShapesAgree observer β p q
      → ShapesAgree observer β (with_rows p (changed key f p.rows)) q
  shape_changed {β} key f s kept st d e (seen_shape a b x r) = seen_shape a b x (altered_left observer key (λ y. Some (f y)) s (f s) e refl (st.agrees β) r)
  shape_changed key f s kept st d e (hidden_shape a b r) = hidden_shape a b (seen_changed key f s kept st d e r)

  pub changed_stands : (key : List ℕ) (f : Slot Label → Slot Label) (s : Slot Label) (p : Object Label) → Keeps f → SlotStands (f s) s → own key p.rows ≡ Some s → StandsFor observer (with_rows p (changed key f p.rows)) p
  changed_stands key f s p kept st e = record {
    agrees = λ β q d r. record { class = r.class; inner = r.inner; links = r.links; shapes = shape_changed key f s kept st d e r.shapes };
    formed = formed_rows p _ (distinct_altered key (λ x. Some (f x)));
  }

  -- a change of a property by a rule
  still_change : (rule : Rule) (have : Slot Label → Label) (f : Slot Label → Slot Label) (key : List ℕ) (need : Label) (p : Object Label) → Keeps f → ((s : Slot Label) → own key p.rows ≡ Some s → within need (have s) ≡ true → SlotStands (f s) s)
      → StillObject observer p (change rule have f key need p)
  still_change rule have f key need p kept st = with_slot (own key p.rows) refl
    where
      with_slot : (x : Option (Slot Label)) → own key p.rows ≡ x → StillObject observer p (on_slot x p (λ s. under rule need (have s) (Ok (with_rows p (changed key f p.rows)))))
      with_slot None e = stands (stands_same observer p)
      with_slot (Some s) e = still_under p rule need (have s) _ (λ w. stands (changed_stands key f s p kept (st s e w) e))

  -- ---- what becomes of properties

  keeps_body : (need : Label) (body : Body) (label : Label) → Keeps (with_body need body label)
  keeps_body need body label s e = e

  keeps_marks : (marks : Marks) → Keeps (with_marks marks)
  keeps_marks marks s e = e

  keeps_existence : (label : Label) → Keeps (with_existence label)
  keeps_existence label s e = hides_first observer s.existence label e

  -- bodies of one kind, whose labels are hidden
  bodies_hidden : {β : Pairing} {l m n : Label} {a b c : Body} → SameKind a c → Hides observer n → Hides observer m → BodiesAgree observer β l m a b → BodiesAgree observer β n m c b
  bodies_hidden both_data p q (data_bodies r) = data_bodies (hidden p q)
  bodies_hidden both_accessors p q (accessors r) = accessors (hidden p q)

  bodies_label : {β : Pairing} {l m : Label} {a b : Body} → BodiesAgree observer β l m a b → Hides observer l → Hides observer m
  bodies_label (data_bodies r) p = alike_hidden observer r p
  bodies_label (accessors r) p = alike_hidden observer r p

  -- a body under a hidden need
  pub body_stands : (need : Label) (body : Body) (label : Label) (s : Slot Label) → Hides observer need → MayHold need s body → within need (value_have s) ≡ true → SlotStands (with_body need body label s) s
  body_stands need body label s n c w = by_sight (sees_or_hides observer s.existence) c
    where
      by_sight : Sees observer s.existence ⊎ Hides observer s.existence → MayHold need s body → SlotStands (with_body need body label s) s
      by_sight (inr e) c = hidden_stands _ s e e
      by_sight (inl e) (is_included i) = absurd (not_both observer s.existence e (hides_within observer need s.existence i n))
      by_sight (inl e) (kind_stays k) = record {
        agrees = λ β t r. alike_map observer (λ x. (
          x.0,
          let v = ⊎_elim (λ z. z) (λ z. absurd (not_both observer s.existence e z)) (hidden_part observer s.label s.existence (hides_within observer need (value_have s) w n)) in
              bodies_hidden k (hides_second observer label need n) (bodies_label x.1 v) x.1,
        )) r;
        stays_seen = λ z. z;
      }

  existence_hidden : (need : Label) (s : Slot Label) → Hides observer need → within need s.existence ≡ true → Hides observer s.existence
  existence_hidden need s n w = hides_within observer need s.existence w n

  still_body : (rule : Rule) (o : ℕ) (key : List ℕ) (need : Label) (body : Body) (label : Label) (h : List (Object Label)) (p : Object Label) → Hides observer need → MayTake h o key need body → slice_get h o ≡ Some p
      → StillObject observer p (overwrite_own rule key need body label p)
  still_body rule o key need body label h p n c d = still_change rule value_have _ key need p (keeps_body need body label) (λ s e w. body_stands need body label s n (c p s d e) w)

  pub still_write : (rule : Rule) (o : ℕ) (key : List ℕ) (need : Label) (v : Val) (h : List (Object Label)) → Hides observer need → MayTake h o key need (Data v.value) → StillHeap observer h (write rule o key need v h)
  still_write rule o key need v h n c = still_act observer o (overwrite_own rule key need (Data v.value) v.label) h (λ p d. still_body rule o key need (Data v.value) v.label h p n c d)

  pub still_set_body : (o : ℕ) (key : List ℕ) (need : Label) (body : Body) (label : Label) (h : List (Object Label)) → Hides observer need → MayTake h o key need body → StillHeap observer h (set_body o key need body label h)
  still_set_body o key need body label h n c = still_act observer o (overwrite_own W2 key need body label) h (λ p d. still_body W2 o key need body label h p n c d)

  pub still_set_attributes : (o : ℕ) (key : List ℕ) (need : Label) (marks : Marks) (h : List (Object Label)) → Hides observer need → StillHeap observer h (set_attributes o key need marks h)
  still_set_attributes o key need marks h n = still_act observer o (set_own_attributes key need marks) h
      (λ p d. still_change W6 existence_have _ key need p (keeps_marks marks) (λ s e w. let x = existence_hidden need s n w in hidden_stands _ s x x))

  pub still_raise_existence : (o : ℕ) (key : List ℕ) (need label : Label) (h : List (Object Label)) → Hides observer need → StillHeap observer h (raise_existence o key need label h)
  still_raise_existence o key need label h n = still_act observer o (raise_own_existence key need label) h
      (λ p d. still_change W8 existence_have _ key need p (keeps_existence label) (λ s e w. let x = existence_hidden need s n w in hidden_stands _ s x (keeps_existence label s x)))

  -- ---- what becomes of objects

  -- an object with hidden structure, with other things under its structure label
  pub hidden_shapes : {β : Pairing} {p q p' : Object Label} → Hides observer p.structure → Hides observer p'.structure → (RowsAgree observer β (seen_rows observer p.rows) (seen_rows observer q.rows) → RowsAgree observer β (seen_rows observer p'.rows) (seen_rows observer q.rows))
      → ShapesAgree observer β p q → ShapesAgree observer β p' q
  hidden_shapes {p = p} s t f (seen_shape a b x r) = absurd (not_both observer p.structure a s)
  hidden_shapes s t f (hidden_shape a b r) = hidden_shape t b (f r)

  raised_stands : (label : Label) (p : Object Label) → Hides observer p.structure → StandsFor observer (record p { structure = union p.structure label }) p
  raised_stands label p s = record {
    agrees = λ β q d r. record { class = r.class; inner = r.inner; links = r.links; shapes = hidden_shapes s (hides_first observer p.structure label s) (λ x. x) r.shapes };
    formed = record { distinct = λ d. d; proto = refl; link = refl; inner = refl };
  }

  prevented_stands : (p : Object Label) → Hides observer p.structure → StandsFor observer (record p { extensible = false }) p
  prevented_stands p s = record {
    agrees = λ β q d r. record { class = r.class; inner = r.inner; links = r.links; shapes = hidden_shapes s s (λ x. x) r.shapes };
    formed = record { distinct = λ d. d; proto = refl; link = refl; inner = refl };
  }

  pub still_raise_structure : (o : ℕ) (need label : Label) (h : List (Object Label)) → Hides observer need → StillHeap observer h (raise_structure o need label h)
  still_raise_structure o need label h n = still_act observer o (raise_own_structure need label) h (λ p d. still_under p W7 need p.structure _ (λ w. stands (raised_stands label p (hides_within observer need p.structure w n))))

  pub still_prevent_extensions : (o : ℕ) (need : Label) (h : List (Object Label)) → Hides observer need → StillHeap observer h (prevent_extensions o need h)
  still_prevent_extensions o need h n = still_act observer o (prevent_own_extensions need) h (λ p d. still_under p W7 need p.structure _ (λ w. stands (prevented_stands p (hides_within observer need p.structure w n))))

  without_stands : (key : List ℕ) (s : Slot Label) (p : Object Label) → Hides observer p.structure → Hides observer s.existence → own key p.rows ≡ Some s → StandsFor observer (with_rows p (without key p.rows)) p
  without_stands key s p e x a = record {
    agrees = λ β q d r. record { class = r.class; inner = r.inner; links = r.links; shapes = hidden_shapes e e (λ z. subst (λ y. RowsAgree observer β y (seen_rows observer q.rows)) (sym (gone d)) z) r.shapes };
    formed = formed_rows p _ (distinct_altered key (λ z. None));
  }
    where
      gone : AreDistinct p.rows → seen_rows observer (without key p.rows) ≡ seen_rows observer p.rows
      gone d = seen_altered observer key (λ z. None) (λ z y. no_slot) d ∙ absent_altered (λ z. None) (own_absent key (seen_rows observer p.rows) (own_seen observer key d ∙ ap (seen_slot observer) a ∙ unseen_slot observer (hidden_slot x)))

  still_removed : (key : List ℕ) (need : Label) (p : Object Label) → Hides observer need → StillObject observer p (remove_own key need p)
  still_removed key need p n = with_slot (own key p.rows) refl
    where
      with_slot : (x : Option (Slot Label)) → own key p.rows ≡ x → StillObject observer p (on_slot x p (λ s. under W4 need s.existence (under W5 need p.structure (Ok (with_rows p (without key p.rows))))))
      with_slot None e = stands (stands_same observer p)
      with_slot (Some s) e = still_under p W4 need s.existence _ (λ w. still_under p W5 need p.structure _ (λ v. stands (without_stands key s p (hides_within observer need p.structure v n) (existence_hidden need s n w) e)))

  pub still_remove : (o : ℕ) (key : List ℕ) (need : Label) (h : List (Object Label)) → Hides observer need → StillHeap observer h (remove o key need h)
  still_remove o key need h n = still_act observer o (remove_own key need) h (λ p d. still_removed key need p n)

  -- ---- two runs

  own_seen_agree : {β : Pairing} {o p : Option (Slot Label)} → OwnAgree observer β o p → OwnAgree observer β (seen_slot observer o) (seen_slot observer p)
  own_seen_agree neither_names = neither_names
  own_seen_agree {β = β} (both_name {s = s} {t = t} a) = by_sight _ _ refl refl a
    where
      by_sight : (b c : Bool) → sees observer s.existence ≡ b → sees observer t.existence ≡ c → SlotsAgree observer β s t → OwnAgree observer β (cond b (Some s) None) (cond c (Some t) None)
      by_sight true true e f a = both_name a
      by_sight false false e f a = neither_names
      by_sight true false e f a = absurd (not_both observer t.existence (subst (Sees observer) (alike_seen observer a e).0 e) f)
      by_sight false true e f a = absurd (not_both observer t.existence f (alike_hidden observer a e))

  shapes_altered : {β : Pairing} (key : List ℕ) (f g : Slot Label → Option (Slot Label)) {p q : Object Label} → ((s : Slot Label) → Hides observer s.existence → IsUnseen observer (f s)) → ((s : Slot Label) → Hides observer s.existence → IsUnseen observer (g s))
      → ((s t : Slot Label) → SlotsAgree observer β s t → OwnAgree observer β (f s) (g t)) → AreDistinct p.rows → AreDistinct q.rows → ShapesAgree observer β p q → ShapesAgree observer β (with_rows p (altered key f p.rows)) (with_rows q (altered key g q.rows))
  shapes_altered key f g u v h d e (seen_shape a b x r) = seen_shape a b x (altered_both observer key f g h r)
  shapes_altered {β} key f g {p} {q} u v h d e (hidden_shape a b r) = hidden_shape a b (subst (λ x. RowsAgree observer β x (seen_rows observer (altered key g q.rows))) (sym (seen_altered observer key f u d))
      (subst (λ x. RowsAgree observer β (altered key (λ s. seen_slot observer (f s)) (seen_rows observer p.rows)) x) (sym (seen_altered observer key g v e)) (altered_both observer key (λ s. seen_slot observer (f s)) (λ s. seen_slot observer (g s)) (λ s t z. own_seen_agree (h s t z)) r)))

  -- a property of both is changed
  pub objects_changed : {β : Pairing} (key : List ℕ) (f g : Slot Label → Slot Label) {p q : Object Label} → Keeps f → Keeps g → ((s t : Slot Label) → SlotsAgree observer β s t → SlotsAgree observer β (f s) (g t)) → AreDistinct p.rows → AreDistinct q.rows
      → ObjectsAgree observer β p q → ObjectsAgree observer β (with_rows p (changed key f p.rows)) (with_rows q (changed key g q.rows))
  objects_changed key f g u v a d e r = record { class = r.class; inner = r.inner; links = r.links; shapes = shapes_altered key (λ s. Some (f s)) (λ s. Some (g s)) (keeps_unseen f u) (keeps_unseen g v) (λ s t z. both_name (a s t z)) d e r.shapes }

  level_change : {β : Pairing} {h g : List (Object Label)} (rule : Rule) (have : Slot Label → Label) (f k : Slot Label → Slot Label) (i j : ℕ) (key : List ℕ) (n m : Label) → Keeps f → Keeps k → ((s t : Slot Label) → SlotsAgree observer β s t → SlotsAgree observer β (f s) (k t))
      → β.objects i j ≡ true → HeapsAgree observer β h g → ActsAfter observer β (act_on i (change rule have f key n) h) (act_on j (change rule have k key m) g)
  level_change rule have f k i j key n m u v a pair r = acts_level observer (change rule have f key n) (change rule have k key m) (λ p. with_rows p (changed key f p.rows)) (λ q. with_rows q (changed key k q.rows)) r pair
      (λ p e. makes_change rule have f key n p) (λ q e. makes_change rule have k key m q) (λ p q e e' d d' z. objects_changed key f k u v a d d' z)

  -- bodies that agree, under a further label on each side
  pub bodies_under : {β : Pairing} {l m n o : Label} {a b : Body} → Alike observer n o (Unit {0}) → BodiesAgree observer β l m a b → BodiesAgree observer β (union l n) (union m o) a b
  bodies_under e (data_bodies r) = data_bodies (alike_join observer (λ x y. x) r e)
  bodies_under e (accessors r) = accessors (alike_join observer (λ x y. x) r e)

  -- where the needs are seen, bodies that agree are of one kind, and no condition is asked
  pub level_body : {β : Pairing} {h g : List (Object Label)} (rule : Rule) → HeapsAgree observer β h g → {i j : ℕ} (key : List ℕ) (n m : Label) {x y : Label} {a b : Body} → β.objects i j ≡ true → Sees observer n → n ≡ m → BodiesAgree observer β x y a b
      → ActsAfter observer β (act_on i (overwrite_own rule key n a x) h) (act_on j (overwrite_own rule key m b y) g)
  level_body rule r {i} {j} key n m {x} {y} {a} {b} pair s t z = level_change rule value_have _ _ i j key n m (keeps_body n a x) (keeps_body m b y) (λ s' t' w. alike_map observer (λ e. (e.0, bodies_under (seen s t tt) z)) w) pair r

  pub level_write : {β : Pairing} {h g : List (Object Label)} → HeapsAgree observer β h g → (rule : Rule) {i j : ℕ} {k l : List ℕ} {n m : Label} (v u : Val) → Alike observer n m (SamePlace β i j k l × Agree observer β v u)
      → MayTake h i k n (Data v.value) → MayTake g j l m (Data u.value) → ActsAfter observer β (write rule i k n v h) (write rule j l m u g)
  level_write {β} {h} {g} r rule {i} {j} {k} {l} {n} {m} v u (seen s t z) c d = subst (λ w. ActsAfter observer β (write rule i k n v h) (write rule j w m u g)) z.0.1 (level_body rule r k n m z.0.0 s t (data_bodies z.1))
  level_write {h = h} {g = g} r rule {i} {j} {k} {l} {n} {m} v u (hidden s t) c d = acts_apart observer r (still_write rule i k n v h s c) (still_write rule j l m u g t d)

  pub level_set_body : {β : Pairing} {h g : List (Object Label)} → HeapsAgree observer β h g → {i j : ℕ} {k l : List ℕ} {n m x y : Label} (a b : Body) → Alike observer n m (SamePlace β i j k l × BodiesAgree observer β x y a b)
      → MayTake h i k n a → MayTake g j l m b → ActsAfter observer β (set_body i k n a x h) (set_body j l m b y g)
  level_set_body {β} {h} {g} r {i} {j} {k} {l} {n} {m} {x} {y} a b (seen s t z) c d = subst (λ w. ActsAfter observer β (set_body i k n a x h) (set_body j w m b y g)) z.0.1 (level_body W2 r k n m z.0.0 s t z.1)
  level_set_body {h = h} {g = g} r {i} {j} {k} {l} {n} {m} {x} {y} a b (hidden s t) c d = acts_apart observer r (still_set_body i k n a x h s c) (still_set_body j l m b y g t d)

  pub level_set_attributes : {β : Pairing} {h g : List (Object Label)} → HeapsAgree observer β h g → {i j : ℕ} {k l : List ℕ} {n m : Label} (a b : Marks) → Alike observer n m (SamePlace β i j k l × (a ≡ b))
      → ActsAfter observer β (set_attributes i k n a h) (set_attributes j l m b g)
  level_set_attributes {β} {h} {g} r {i} {j} {k} {l} {n} {m} a b (seen s t z) = subst (λ w. ActsAfter observer β (set_attributes i k n a h) (set_attributes j w m b g)) z.0.1
      (level_change W6 existence_have _ _ i j k n m (keeps_marks a) (keeps_marks b) (λ s' t' w. alike_map observer (λ e. (z.1, e.1)) w) z.0.0 r)
  level_set_attributes {h = h} {g = g} r {i} {j} {k} {l} {n} {m} a b (hidden s t) = acts_apart observer r (still_set_attributes i k n a h s) (still_set_attributes j l m b g t)

  pub level_raise_existence : {β : Pairing} {h g : List (Object Label)} → HeapsAgree observer β h g → {i j : ℕ} {k l : List ℕ} {n m x y : Label} → Alike observer n m (SamePlace β i j k l × Alike observer x y (Unit {0}))
      → ActsAfter observer β (raise_existence i k n x h) (raise_existence j l m y g)
  level_raise_existence {β} {h} {g} r {i} {j} {k} {l} {n} {m} {x} {y} (seen s t z) = subst (λ w. ActsAfter observer β (raise_existence i k n x h) (raise_existence j w m y g)) z.0.1
      (level_change W8 existence_have _ _ i j k n m (keeps_existence x) (keeps_existence y) (λ s' t' w. alike_join observer (λ e f. e) w z.1) z.0.0 r)
  level_raise_existence {h = h} {g = g} r {i} {j} {k} {l} {n} {m} {x} {y} (hidden s t) = acts_apart observer r (still_raise_existence i k n x h s) (still_raise_existence j l m y g t)

  pub level_remove : {β : Pairing} {h g : List (Object Label)} → HeapsAgree observer β h g → {i j : ℕ} {k l : List ℕ} {n m : Label} → Alike observer n m (SamePlace β i j k l) → ActsAfter observer β (remove i k n h) (remove j l m g)
  level_remove {β} {h} {g} r {i} {j} {k} {l} {n} {m} (seen s t z) = subst (λ w. ActsAfter observer β (remove i k n h) (remove j w m g)) z.1
      (acts_level observer (remove_own k n) (remove_own k m) (λ p. with_rows p (without k p.rows)) (λ q. with_rows q (without k q.rows)) r z.0 (λ p e. makes_remove k n p) (λ q e. makes_remove k m q)
      (λ p q e e' d d' w. record { class = w.class; inner = w.inner; links = w.links; shapes = shapes_altered k (λ a. None) (λ a. None) (λ a b. no_slot) (λ a b. no_slot) (λ a b c. neither_names) d d' w.shapes }))
  level_remove {h = h} {g = g} r {i} {j} {k} {l} {n} {m} (hidden s t) = acts_apart observer r (still_remove i k n h s) (still_remove j l m g t)

  shapes_raised : {β : Pairing} {l m : Label} {p q : Object Label} → Alike observer l m (Unit {0}) → ShapesAgree observer β p q → ShapesAgree observer β (record p { structure = union p.structure l }) (record q { structure = union q.structure m })
  shapes_raised {l = l} {m = m} {p = p} {q = q} (seen s t u) (seen_shape a b x r) = seen_shape (sees_union observer p.structure l a s) (ap₂ union b t) x r
  shapes_raised {l = l} {m = m} {p = p} {q = q} (hidden s t) (seen_shape a b x r) = hidden_shape (hides_second observer p.structure l s) (hides_second observer q.structure m t) (seen_both observer r)
  shapes_raised {l = l} {m = m} {p = p} {q = q} e (hidden_shape a b r) = hidden_shape (hides_first observer p.structure l a) (hides_first observer q.structure m b) r

  pub level_raise_structure : {β : Pairing} {h g : List (Object Label)} → HeapsAgree observer β h g → {i j : ℕ} {n m x y : Label} → Alike observer n m ((β.objects i j ≡ true) × Alike observer x y (Unit {0}))
      → ActsAfter observer β (raise_structure i n x h) (raise_structure j m y g)
  level_raise_structure r {i} {j} {n} {m} {x} {y} (seen s t z) = acts_level observer (raise_own_structure n x) (raise_own_structure m y) (λ p. record p { structure = union p.structure x }) (λ q. record q { structure = union q.structure y }) r z.0
      (λ p e. record { becomes = becomes_under _ W7 n p.structure (makes refl); formed = record { distinct = λ d. d; proto = refl; link = refl; inner = refl } }) (λ q e. record { becomes = becomes_under _ W7 m q.structure (makes refl); formed = record { distinct = λ d. d; proto = refl; link = refl; inner = refl } })
      (λ p q e e' d d' a. record { class = a.class; inner = a.inner; links = a.links; shapes = shapes_raised z.1 a.shapes })
  level_raise_structure {h = h} {g = g} r {i} {j} {n} {m} {x} {y} (hidden s t) = acts_apart observer r (still_raise_structure i n x h s) (still_raise_structure j m y g t)

  shapes_prevented : {β : Pairing} {p q : Object Label} → ShapesAgree observer β p q → ShapesAgree observer β (record p { extensible = false }) (record q { extensible = false })
  shapes_prevented (seen_shape a b x r) = seen_shape a b refl r
  shapes_prevented (hidden_shape a b r) = hidden_shape a b r

  pub level_prevent_extensions : {β : Pairing} {h g : List (Object Label)} → HeapsAgree observer β h g → {i j : ℕ} {n m : Label} → Alike observer n m (β.objects i j ≡ true) → ActsAfter observer β (prevent_extensions i n h) (prevent_extensions j m g)
  level_prevent_extensions r {i} {j} {n} {m} (seen s t z) = acts_level observer (prevent_own_extensions n) (prevent_own_extensions m) (λ p. record p { extensible = false }) (λ q. record q { extensible = false }) r z
      (λ p e. record { becomes = becomes_under _ W7 n p.structure (makes refl); formed = record { distinct = λ d. d; proto = refl; link = refl; inner = refl } }) (λ q e. record { becomes = becomes_under _ W7 m q.structure (makes refl); formed = record { distinct = λ d. d; proto = refl; link = refl; inner = refl } })
      (λ p q e e' d d' a. record { class = a.class; inner = a.inner; links = a.links; shapes = shapes_prevented a.shapes })
  level_prevent_extensions {h = h} {g = g} r {i} {j} {n} {m} (hidden s t) = acts_apart observer r (still_prevent_extensions i n h s) (still_prevent_extensions j m g t)
