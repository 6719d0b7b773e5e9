-- A property more, with the `length` of an array, and an object more with its properties: of one run, and of two.
use Rattle.std.proofs.Common.{◌≡◌, ℕ, suc, ◌<◌, Bool, true, false, cond, List, [], ◌∷◌, ◌++◌, length, Option, Some, None, slice_get, Ok, refl, sym, ◌∙◌, ap, ap₂, subst, true≢false}
use Rattle.origin_labels.specs.Label.{Label, union}
use Rattle.flow_frames.specs.declared.faults.Rule.TheVariants.{W2, W3}
use Rattle.js_values.specs.declared.ids.ObjId.{ObjId}
use Rattle.js_values.specs.declared.value.Value.{Value}
use Rattle.js_values.specs.declared.property.Marks.{Marks}
use Rattle.js_values.specs.declared.property.Body.{Body}
use Rattle.js_values.specs.declared.property.Body.TheVariants.{Data, Accessor}
use Rattle.js_values.specs.declared.property.Slot.{Slot}
use Rattle.js_values.specs.Objects.{Rows, Object, own, changed, with_row}
use Rattle.js_values.specs.Arrays.{length_key, element_of, length_body, is_past_value, is_past}
use Rattle.object_heap.specs.Acts.{under, with_rows, value_have, added, lengthened, stretched, add_absent, add_own, add}
use Rattle.flow_meaning.specs.Scopes.{Val}
use Rattle.low_equal.specs.Observed.{Sees, Hides}
use Rattle.low_equal.specs.LowEqual.{Pairing, Alike, seen, hidden, SameValue, primitives, objects, SameObject, Agree, BodiesAgree, data_bodies, accessors, RowsAgree, row, InnersAgree, seen_rows, ShapesAgree, seen_shape, hidden_shape, ObjectsAgree, AreDistinct, TargetBelow, HeapsAgree}
use Rattle.low_equal.proofs.Labels.{sees_union, hides_first, hides_within}
use Rattle.low_equal.proofs.Agreement.{alike_map, two}
use Rattle.low_equal.proofs.Heaps.{get_below, with_objects, new_both}
use Rattle.low_equal.proofs.Rows.{own_absent, absent_altered, still_absent, distinct_altered, distinct_with_row, changed_by, changed_same, own_with_row, changed_with_row, distinct_agree, with_row_both, seen_with_row}
use Rattle.low_equal.proofs.HeapActs.{Becomes, makes, Makes, StillHeap, StandsFor, StillObject, stands, stands_same, stands_trans, still_act, ActsAfter, acts_apart, acts_level}
use Rattle.low_equal.proofs.Changes.{SameKind, both_data, kind_stays, SamePlace, becomes_under, formed_rows, still_under, body_stands, changed_stands, hidden_shapes, objects_changed, bodies_under}

-- the key names nothing there
abbrev pub IsNew : List (Object Label) → ℕ → List ℕ → Type 0
IsNew h o key = (p : Object Label) → slice_get h o ≡ Some p → own key p.rows ≡ None

-- ---- the `length` that an array has with a further element

abbrev past_body : Bool → ℕ → Body → Body
past_body true i body = length_body (suc i)
past_body false i body = body

abbrev past_label : Bool → Label → Label → Label
past_label true need label = union label need
past_label false need label = label

abbrev grown : ℕ → Label → Slot Label → Slot Label
grown i need s = record s { body = past_body (is_past i s.body) i s.body; label = past_label (is_past i s.body) need s.label }

abbrev grown_rows : Option ℕ → Label → Rows (Slot Label) → Rows (Slot Label)
grown_rows None need rows = rows
grown_rows (Some i) need rows = changed length_key (grown i need) rows

abbrev with_added : List ℕ → Label → Body → Label → Marks → Object Label → Object Label
with_added key need body label marks p = with_rows p (with_row key (added need body label marks p.structure) (grown_rows (element_of p.class key) need p.rows))

longer : (i : ℕ) (need : Label) (s : Slot Label) → is_past i s.body ≡ true → lengthened i need s ≡ grown i need s
longer i need s e = sym (ap (λ b. record s { body = past_body b i s.body; label = past_label b need s.label }) e)

no_longer : (i : ℕ) (need : Label) (s : Slot Label) → is_past i s.body ≡ false → grown i need s ≡ s
no_longer i need s e = ap (λ b. record s { body = past_body b i s.body; label = past_label b need s.label }) e

-- ---- what the act makes

module _ (key : List ℕ) (a : Slot Label) (need : Label) (p : Object Label) where
  becomes_stretched : (o : Option ℕ) (x : Option (Slot Label)) → own length_key p.rows ≡ x → Becomes (with_rows p (with_row key a (grown_rows o need p.rows))) (stretched o x need p (with_row key a p.rows))
  becomes_stretched None x e = makes refl
  becomes_stretched (Some i) None e = makes (ap (λ rows. with_rows p (with_row key a rows)) (sym (absent_altered (λ s. Some (grown i need s)) (own_absent length_key p.rows e))))
  becomes_stretched (Some i) (Some s) e = by_past (is_past i s.body) refl
    where
      by_past : (b : Bool) → is_past i s.body ≡ b
          → Becomes (with_rows p (with_row key a (changed length_key (grown i need) p.rows))) (cond b (under W2 need (value_have s) (Ok (with_rows p (changed length_key (lengthened i need) (with_row key a p.rows))))) (Ok (with_rows p (with_row key a p.rows))))
      by_past true f = becomes_under _ W2 need (value_have s) (makes (ap (with_rows p) (changed_with_row length_key key (lengthened i need) s a p.rows e ∙ ap (with_row key a) (changed_by length_key (lengthened i need) (grown i need) s p.rows e (longer i need s f)))))
      by_past false f = makes (ap (λ rows. with_rows p (with_row key a rows)) (sym (changed_same length_key (grown i need) s p.rows e (no_longer i need s f))))

grown_absent : (key : List ℕ) (o : Option ℕ) (need : Label) {rows : Rows (Slot Label)} → own key rows ≡ None → AreDistinct rows → (a : Slot Label) → AreDistinct (with_row key a (grown_rows o need rows))
grown_absent key None need {rows} e d a = distinct_with_row key a (own_absent key rows e) d
grown_absent key (Some i) need {rows} e d a = distinct_with_row key a (still_absent length_key (λ s. Some (grown i need s)) (own_absent key rows e)) (distinct_altered length_key (λ s. Some (grown i need s)) d)

makes_add : (key : List ℕ) (need : Label) (body : Body) (label : Label) (marks : Marks) (p : Object Label) → own key p.rows ≡ None → Makes (with_added key need body label marks p) p (add_own key need body label marks p)
makes_add key need body label marks p new = record {
  becomes = subst (λ x. Becomes (with_added key need body label marks p) (add_absent x key need body label marks p)) (sym new)
      (becomes_under _ W3 need p.structure (becomes_stretched key (added need body label marks p.structure) need p (element_of p.class key) (own length_key p.rows) refl));
  formed = formed_rows p _ (λ d. grown_absent key (element_of p.class key) need new d (added need body label marks p.structure));
}

past_data : (i : ℕ) (b : Body) (v : Value) → is_past i b ≡ true → SameKind b (Data v)
past_data i (Data u) v e = both_data
past_data i (Accessor g f) v e = absurd (true≢false (sym e))

past_length : (i : ℕ) (b : Body) → is_past i b ≡ true → SameKind b (length_body (suc i))
past_length i b e = past_data i b _ e

module _ (observer : Label) where
  -- ---- one run

  with_row_stands : (key : List ℕ) (s : Slot Label) (p : Object Label) → Hides observer p.structure → Hides observer s.existence → own key p.rows ≡ None → StandsFor observer (with_rows p (with_row key s p.rows)) p
  with_row_stands key s p e x a = record {
    agrees = λ β q d r. record { class = r.class; inner = r.inner; links = r.links; shapes = hidden_shapes observer e e (λ z. subst (λ y. RowsAgree observer β y (seen_rows observer q.rows)) (sym (seen_with_row observer key s p.rows x)) z) r.shapes };
    formed = formed_rows p _ (distinct_with_row key s (own_absent key p.rows a));
  }

  still_stretched : (key : List ℕ) (a : Slot Label) (need : Label) (p : Object Label) → Hides observer need → StandsFor observer (with_rows p (with_row key a p.rows)) p → (o : Option ℕ) (x : Option (Slot Label)) → own length_key p.rows ≡ x
      → StillObject observer p (stretched o x need p (with_row key a p.rows))
  still_stretched key a need p n st None x e = stands st
  still_stretched key a need p n st (Some i) None e = stands st
  still_stretched key a need p n st (Some i) (Some s) e = by_past (is_past i s.body) refl
    where
      by_past : (b : Bool) → is_past i s.body ≡ b → StillObject observer p (cond b (under W2 need (value_have s) (Ok (with_rows p (changed length_key (lengthened i need) (with_row key a p.rows))))) (Ok (with_rows p (with_row key a p.rows))))
      by_past true f = still_under observer p W2 need (value_have s) _ (λ w. stands (stands_trans observer
          (changed_stands observer length_key (lengthened i need) s (with_rows p (with_row key a p.rows)) (λ t h. h) (body_stands observer need (length_body (suc i)) s.label s n (kind_stays (past_length i s.body f)) w) (own_with_row length_key key s a p.rows e)) st))
      by_past false f = stands st

  still_added : (key : List ℕ) (need : Label) (body : Body) (label : Label) (marks : Marks) (p : Object Label) → Hides observer need → StillObject observer p (add_own key need body label marks p)
  still_added key need body label marks p n = with_slot (own key p.rows) refl
    where
      with_slot : (x : Option (Slot Label)) → own key p.rows ≡ x → StillObject observer p (add_absent x key need body label marks p)
      with_slot (Some s) e = stands (stands_same observer p)
      with_slot None e = still_under observer p W3 need p.structure _ (λ w. let s = hides_within observer need p.structure w n in
          still_stretched key _ need p n (with_row_stands key (added need body label marks p.structure) p s s e) (element_of p.class key) (own length_key p.rows) refl)

  pub still_add : (o : ℕ) (key : List ℕ) (need : Label) (body : Body) (label : Label) (marks : Marks) (h : List (Object Label)) → Hides observer need → StillHeap observer h (add o key need body label marks h)
  still_add o key need body label marks h n = still_act observer o (add_own key need body label marks) h (λ p d. still_added key need body label marks p n)

  -- ---- two runs

  -- bodies with hidden labels, of arrays that may be longer
  past_hidden : {β : Pairing} (x y : Bool) (i : ℕ) (n m l k : Label) (v u : Value) → Hides observer l → Hides observer k → BodiesAgree observer β (past_label x n l) (past_label y m k) (past_body x i (Data v)) (past_body y i (Data u))
  past_hidden true true i n m l k v u s t = data_bodies (hidden (hides_first observer l n s) (hides_first observer k m t))
  past_hidden true false i n m l k v u s t = data_bodies (hidden (hides_first observer l n s) t)
  past_hidden false true i n m l k v u s t = data_bodies (hidden s (hides_first observer k m t))
  past_hidden false false i n m l k v u s t = data_bodies (hidden s t)

  past_seen : {β : Pairing} (x : Bool) (i : ℕ) (n m l k : Label) {v u : Value} → Sees observer n → n ≡ m → Sees observer l → l ≡ k → SameValue β v u
      → BodiesAgree observer β (past_label x n l) (past_label x m k) (past_body x i (Data v)) (past_body x i (Data u))
  past_seen true i n m l k a b s t r = data_bodies (seen (sees_union observer l n s a) (ap₂ union t b) primitives)
  past_seen false i n m l k a b s t r = data_bodies (seen s t r)

  same_past : {β : Pairing} (i : ℕ) {v u : Value} → SameValue β v u → is_past_value i v ≡ is_past_value i u
  same_past i primitives = refl
  same_past i (objects e) = refl

  past_bodies : {β : Pairing} (i : ℕ) (n m : Label) {l k : Label} {a b : Body} → Sees observer n → n ≡ m → BodiesAgree observer β l k a b
      → BodiesAgree observer β (past_label (is_past i a) n l) (past_label (is_past i b) m k) (past_body (is_past i a) i a) (past_body (is_past i b) i b)
  past_bodies i n m s t (accessors r) = accessors r
  past_bodies i n m {l} {k} s t (data_bodies {v = v} {u = u} (hidden x y)) = past_hidden (is_past_value i v) (is_past_value i u) i n m l k v u x y
  past_bodies {β} i n m {l} {k} s t (data_bodies {v = v} {u = u} (seen x y r)) =
      subst (λ (z : Bool). BodiesAgree observer β (past_label (is_past_value i v) n l) (past_label z m k) (past_body (is_past_value i v) i (Data v)) (past_body z i (Data u))) (same_past i r) (past_seen (is_past_value i v) i n m l k s t x y r)

  objects_grown : {β : Pairing} (o : Option ℕ) (n m : Label) {p q : Object Label} → Sees observer n → n ≡ m → AreDistinct p.rows → AreDistinct q.rows → ObjectsAgree observer β p q
      → ObjectsAgree observer β (with_rows p (grown_rows o n p.rows)) (with_rows q (grown_rows o m q.rows))
  objects_grown None n m s t d e r = record { class = r.class; inner = r.inner; links = r.links; shapes = r.shapes }
  objects_grown (Some i) n m s t d e r = objects_changed observer length_key (grown i n) (grown i m) (λ x h. h) (λ x h. h) (λ x y z. alike_map observer (λ w. (w.0, past_bodies i n m s t w.1)) z) d e r

  -- a row more, with the structure label as its existence label
  shapes_added : {β : Pairing} (key : List ℕ) (n m x y : Label) {a b : Body} {c d : Marks} {p q : Object Label} → Alike observer n m (Unit {0}) → BodiesAgree observer β x y a b → c ≡ d → ShapesAgree observer β p q
      → ShapesAgree observer β (with_rows p (with_row key (added n a x c p.structure) p.rows)) (with_rows q (with_row key (added m b y d q.structure) q.rows))
  shapes_added key n m x y w r e (seen_shape s t z rows) = seen_shape s t z (with_row_both observer key (seen s t (e, bodies_under observer w r)) rows)
  shapes_added {β} key n m x y {a} {b} {c} {d} {p} {q} w r e (hidden_shape s t rows) = hidden_shape s t (subst (λ z. RowsAgree observer β z (seen_rows observer (with_row key (added m b y d q.structure) q.rows))) (sym (seen_with_row observer key (added n a x c p.structure) p.rows s))
      (subst (λ z. RowsAgree observer β (seen_rows observer p.rows) z) (sym (seen_with_row observer key (added m b y d q.structure) q.rows t)) rows))

  objects_added : {β : Pairing} (key : List ℕ) (n m x y : Label) {a b : Body} {c d : Marks} {p q : Object Label} → Sees observer n → n ≡ m → BodiesAgree observer β x y a b → c ≡ d → AreDistinct p.rows → AreDistinct q.rows → ObjectsAgree observer β p q
      → ObjectsAgree observer β (with_added key n a x c p) (with_added key m b y d q)
  objects_added {β} key n m x y {a} {b} {c} {d} {p} {q} s t z e u v r =
      let w = objects_grown (element_of p.class key) n m s t u v r in
      subst (λ o. ObjectsAgree observer β (with_added key n a x c p) (with_rows q (with_row key (added m b y d q.structure) (grown_rows o m q.rows)))) (ap (λ k. element_of k key) r.class)
      (record { class = w.class; inner = w.inner; links = w.links; shapes = shapes_added key n m x y (seen s t tt) z e w.shapes })

  pub level_add : {β : Pairing} {h g : List (Object Label)} → HeapsAgree observer β h g → {i j : ℕ} {k l : List ℕ} {n m x y : Label} (a b : Body) (c d : Marks) → Alike observer n m (SamePlace β i j k l × BodiesAgree observer β x y a b × (c ≡ d))
      → IsNew h i k → IsNew g j l → ActsAfter observer β (add i k n a x c h) (add j l m b y d g)
  level_add {β} {h} {g} r {i} {j} {k} {l} {n} {m} {x} {y} a b c d (seen s t z) u v = subst (λ w. IsNew g j w → ActsAfter observer β (add i k n a x c h) (add j w m b y d g)) z.0.1
      (λ v'. acts_level observer (add_own k n a x c) (add_own k m b y d) (with_added k n a x c) (with_added k m b y d) r z.0.0 (λ p e. makes_add k n a x c p (u p e)) (λ q e. makes_add k m b y d q (v' q e))
      (λ p q e e' d' d'' w. objects_added k n m x y s t z.1 z.2 d' d'' w)) v
  level_add {h = h} {g = g} r {i} {j} {k} {l} {n} {m} {x} {y} a b c d (hidden s t) u v = acts_apart observer r (still_add i k n a x c h s) (still_add j l m b y d g t)

  -- ---- an object more in both, with properties

  -- paired objects stand
  pub paired_below : {β : Pairing} {h g : List (Object Label)} → HeapsAgree observer β h g → (i j : ℕ) → β.objects i j ≡ true → (i < length h) × (j < length g)
  paired_below {β} {h} {g} r i j p = let t = two (r.paired i j p) in (get_below h t.one i t.is_one, get_below g t.other j t.is_other)

  -- a property with a value, whose existence is seen
  pub data_row : {β : Pairing} (key : List ℕ) (marks : Marks) (e : Label) {v u : Val} {rs qs : Rows (Slot Label)} → Sees observer e → Agree observer β v u → RowsAgree observer β rs qs
      → RowsAgree observer β ((key, record { body = Data v.value; label = v.label; existence = e; marks = marks }) ∷ rs) ((key, record { body = Data u.value; label = u.label; existence = e; marks = marks }) ∷ qs)
  data_row key marks e s a r = row (seen s refl (refl, data_bodies a)) r

  -- objects with a structure that is seen, and rows that agree
  pub level_new : {β : Pairing} {h g : List (Object Label)} (p q : Object Label) → p.class ≡ q.class → InnersAgree observer β p.inner q.inner → Alike observer p.link q.link (SameObject β p.proto q.proto)
      → Sees observer p.structure → p.structure ≡ q.structure → p.extensible ≡ q.extensible → RowsAgree observer β p.rows q.rows → AreDistinct p.rows
      → (Sees observer p.link → (o : ObjId) → p.proto ≡ Some o → o.0 < length h) → (Sees observer q.link → (o : ObjId) → q.proto ≡ Some o → o.0 < length g) → TargetBelow observer (length h) p.inner → TargetBelow observer (length g) q.inner → HeapsAgree observer β h g
      → HeapsAgree observer (with_objects β (length h) (length g)) (h ++ p ∷ []) (g ++ q ∷ [])
  level_new p q class inner links s e x rows d below beneath target other r = new_both observer p q (record { below = below; target = target; distinct = d }) (record { below = beneath; target = other; distinct = distinct_agree observer rows d })
      (record { class = class; inner = inner; links = links; shapes = seen_shape s e x rows }) r
