-- New objects and bound functions: in one run and in two. Their references have no label, so they are paired also where what made them differ is hidden.
use Rattle.std.proofs.Common.{◌≡◌, ℕ, suc, ◌<◌, ◌-◌, List, [], ◌∷◌, ◌++◌, length, Bool, true, false, cond, ◌||◌, if◌then◌else◌, map, pos, Option, Some, None, slice_get, codes, refl, sym, ◌∙◌, ap, ap₂, subst, arith}
use Rattle.std.specs.Option.{option_map}
use Rattle.std.proofs.lemmas.Option.{none-some, same_Some}
use Rattle.origin_labels.specs.Names.{same_name}
use Rattle.origin_labels.specs.Label.{Label, bottom, union}
use Rattle.flow_policy.specs.Policies.{Tables}
use Rattle.flow_frames.specs.Frames.{context}
use Rattle.js_number.specs.declared.num.Num.TheVariants.{Int}
use Rattle.js_number.specs.declared.primitive.Primitive.{Primitive}
use Rattle.js_number.specs.declared.primitive.Primitive.TheVariants.{Undefined, Null, Num, Str}
use Rattle.js_number.specs.declared.primitive.Primitive.TheVariants as prims
use Rattle.native_protocol.specs.declared.request.ErrorKind.TheVariants as kinds
use Rattle.js_values.specs.declared.ids.ObjId.{ObjId}
use Rattle.js_values.specs.declared.value.Value.{Value}
use Rattle.js_values.specs.declared.value.Value.TheVariants as value
use Rattle.js_values.specs.declared.property.Body.TheVariants.{Data}
use Rattle.js_values.specs.declared.property.Marks.{Marks}
use Rattle.js_values.specs.declared.property.Slot.{Slot}
use Rattle.prototype_walk.specs.KeyLists.{existences}
use Rattle.js_values.specs.declared.inner.Class.{Class}
use Rattle.js_values.specs.declared.inner.Class.TheVariants as class
use Rattle.js_values.specs.Arrays.{length_key, element_key}
use Rattle.js_values.specs.Objects.{Rows, Property, PlainObject, Object, plain as plain_inner, own, changed, with_row, fresh_plain}
use Rattle.es_meaning.specs.Outcomes.{Outcome, Goes}
use Rattle.es_meaning.specs.Functions.{is_function, property_with}
use Rattle.es_meaning.specs.Definitions.{value_in}
use Rattle.es_meaning.specs.Objects.{made_by_script, defined_over, elements_onto}
use Rattle.es_meaning.specs.Start.{id, start_heap, array_prototype, length_property}
use Rattle.es_meaning.specs.Requested.{places_from, text_value, array_of_texts, listed, made_of, class_prototype, prototype_given, count_in, bound_count}
use Rattle.es_meaning.proofs.Link.{Rels, nils, conses}
use Rattle.flow_meaning.specs.Erased.{erased_slot, erased_rows, made_rows, made_object, unlabelled}
use Rattle.flow_meaning.specs.Scopes.{Val, Halt, State, Jump}
use Rattle.flow_meaning.specs.Tracked.{throw_error, on_object, with_link, standing, make_new, make_new_by, keys_label, keys_in, list_keys, bind_object, bind_value, bind_to}
use Rattle.flow_meaning.specs.Requested.{property_in, length_name, own_label, length_label, bound_object, erased_in, is_function_in, is_function_at}
use Rattle.low_equal.specs.Observed.{Sees, Hides, IsSeen}
use Rattle.low_equal.specs.LowEqual.{Pairing, Alike, seen, hidden, SameValue, primitives, objects, SameObject, neither, both, Agree, AllAgree, none, each, data_bodies, RowsAgree, no_rows, row, plains, bounds, ObjectsAgree, Both, both_stand, AreDistinct, IsAbsent, nowhere, elsewhere, no_keys, one_more, ShapesAgree, seen_shape, hidden_shape, HeapsAgree, LowEqual}
use Rattle.low_equal.specs.Runs.{Confined, InStep, go}
use Rattle.low_equal.proofs.Labels.{not_both, sees_union, sees_second, hides_first, hides_second, sees_bottom}
use Rattle.low_equal.proofs.Agreement.{alike_map, alike_join, records_more, both_map, two}
use Rattle.low_equal.proofs.Lines.{front_refl, lines_refl}
use Rattle.low_equal.proofs.Heaps.{with_objects, extends_objects, pair_new, new_left, start_stands}
use Rattle.low_equal.proofs.Rows.{own_absent, distinct_altered, distinct_with_row}
use Rattle.low_equal.proofs.Additions.{paired_below, level_new}
use Rattle.low_equal.proofs.States.{low_sym, low_heap, same_context}
use Rattle.low_equal.proofs.Steps.{still_goes}
use Rattle.low_equal.proofs.Acts.{conf_throw, thrown_both}
use Rattle.low_equal.proofs.Walks.{own_walk, level_own, OwnSame, names_nothing, names_both}
use Rattle.low_equal.proofs.Mute.{Mute, mutes, Mum, HiddenVal, Never, mum_throw, values_apart, stops_first, stops_second}
use Rattle.low_equal.proofs.References.{conf_at, seen_other}
use Rattle.low_equal.proofs.Standing.{standing_same}
use Rattle.low_equal.proofs.Makes.{function_rows_agree}
use Rattle.low_equal.proofs.Owns.{values_same, object_after}

-- ---- without labels

own_erased : (key : List ℕ) (rows : Rows (Slot Label)) → own key (erased_rows rows) ≡ property_in (own key rows)
own_erased key [] = refl
own_erased key (r ∷ rows) = at_first (same_name r.0 key) (own_erased key rows)
  where
    at_first : (b : Bool) → own key (erased_rows rows) ≡ property_in (own key rows) → cond b (Some (erased_slot r.1)) (own key (erased_rows rows)) ≡ property_in (cond b (Some r.1) (own key rows))
    at_first true e = refl
    at_first false e = e

length_same : {R : Val → Val → Type 0} {vs us : List Val} → Rels R vs us → length vs ≡ length us
length_same nils = refl
length_same (conses a bs) = ap suc (length_same bs)

module _ (observer : Label) where
  pub all_agree : {γ : Pairing} {vs us : List Val} → Rels (Agree observer γ) vs us → AllAgree observer γ vs us
  all_agree nils = none
  all_agree (conses a bs) = each a (all_agree bs)

  -- ---- what gives a prototype

  -- paired objects stand, where the observer sees which they are
  proto_left : {γ : Pairing} {h g : List (Object Label)} {l m : Label} {a b : Option ObjId} → HeapsAgree observer γ h g → Alike observer l m (SameObject γ a b) → Sees observer l → (o : ObjId) → a ≡ Some o → o.0 < length h
  proto_left {l = l} r (hidden x y) v o e = absurd (not_both observer l v x)
  proto_left r (seen x y neither) v o e = absurd (none-some o e)
  proto_left {h = h} r (seen x y (both {o = i} {q = j} p)) v o e = subst (λ (k : ObjId). k.0 < length h) (same_Some i o e) (paired_below observer r i.0 j.0 p).0

  proto_right : {γ : Pairing} {h g : List (Object Label)} {l m : Label} {a b : Option ObjId} → HeapsAgree observer γ h g → Alike observer l m (SameObject γ a b) → Sees observer m → (o : ObjId) → b ≡ Some o → o.0 < length g
  proto_right {m = m} r (hidden x y) v o e = absurd (not_both observer m v y)
  proto_right r (seen x y neither) v o e = absurd (none-some o e)
  proto_right {g = g} r (seen x y (both {o = i} {q = j} p)) v o e = subst (λ (k : ObjId). k.0 < length g) (same_Some j o e) (paired_below observer r i.0 j.0 p).1

  prototypes_same : {γ : Pairing} {h g : List (Object Label)} {v u : Value} → HeapsAgree observer γ h g → SameValue γ v u → SameObject γ (prototype_given v) (prototype_given u)
  prototypes_same r (primitives {p = Null}) = neither
  prototypes_same r (primitives {p = Undefined}) = both (r.starts 0 (omega arith))
  prototypes_same r (primitives {p = prims.Bool b}) = both (r.starts 0 (omega arith))
  prototypes_same r (primitives {p = Num n}) = both (r.starts 0 (omega arith))
  prototypes_same r (primitives {p = Str text}) = both (r.starts 0 (omega arith))
  prototypes_same r (objects p) = both p

  class_below : (c : Class) → (class_prototype c).0 < length start_heap
  class_below class.Object = omega arith
  class_below class.Function = omega arith
  class_below class.Array = omega arith
  class_below class.Arguments = omega arith
  class_below class.Error = omega arith
  class_below class.Math = omega arith
  class_below class.Json = omega arith
  class_below class.String = omega arith
  class_below class.Number = omega arith
  class_below class.Boolean = omega arith

  -- paired objects are functions alike
  pub function_at_same : {γ : Pairing} {h g : List (Object Label)} {v u : Value} → HeapsAgree observer γ h g → SameValue γ v u → is_function_at h v ≡ is_function_at g u
  function_at_same r primitives = refl
  function_at_same r (objects {o = o} {q = q} p) = by_pair (r.paired o.0 q.0 p)
    where
      by_pair : {γ : Pairing} {x y : Option (Object Label)} → Both (ObjectsAgree observer γ) x y → is_function_in x ≡ is_function_in y
      by_pair (both_stand z) = ap is_function z.class

  -- ---- the `length` of a bound function

  numbers_same : {γ : Pairing} {n m : ℕ} → n ≡ m → SameValue γ (value.Primitive (Num (Int (pos n)))) (value.Primitive (Num (Int (pos m))))
  numbers_same {γ} {n} {m} e = subst (λ k. SameValue γ (value.Primitive (Num (Int (pos n)))) (value.Primitive (Num (Int (pos k))))) e primitives

  -- that of the target counts only as a number that is a value
  count_same : {γ : Pairing} (p q : Property) → SameValue γ (value_in p.body) (value_in q.body) → count_in (Some p) ≡ count_in (Some q)
  count_same {γ} p q z = by_value (value_in p.body) (value_in q.body) z
    where
      counted : Value → ℕ
      counted v = count_in (Some (record p { body = Data v }))

      by_value : (v u : Value) → SameValue γ v u → counted v ≡ counted u
      by_value v u primitives = refl
      by_value v u (objects x) = refl

  -- the count of a target's own `length`, under what that depends on
  hidden_own : (structure : Label) (o : Option (Slot Label)) → Hides observer (own_walk structure o) → Hides observer (own_label o structure)
  hidden_own structure None h = h
  hidden_own structure (Some p) h = hides_first observer p.existence p.label h

  counts_alike : {γ : Pairing} (a b : Label) {o u : Option (Slot Label)} → Alike observer (own_walk a o) (own_walk b u) (OwnSame observer γ o u) → Alike observer (own_label o a) (own_label u b) (count_in (property_in o) ≡ count_in (property_in u))
  counts_alike a b {o} {u} (hidden x y) = hidden (hidden_own a o x) (hidden_own b u y)
  counts_alike a b (seen x y names_nothing) = seen x y refl
  counts_alike a b (seen x y (names_both {s = s} {t = t} marks z)) = alike_join observer (λ (k : Unit {0}) e. count_same (erased_slot s) (erased_slot t) e) (seen x y tt) (values_same observer z)

  known_alike : {γ : Pairing} {h g : List (Object Label)} (n m : ℕ) (i j : ℕ) → n ≡ m → HeapsAgree observer γ h g → γ.objects i j ≡ true
      → Alike observer (length_label (slice_get h i)) (length_label (slice_get g j)) (bound_count (erased_in (slice_get h i)) n ≡ bound_count (erased_in (slice_get g j)) m)
  known_alike {γ} {h} {g} n m i j e r pair =
      let z = two (r.paired i j pair) in
      subst (λ x. Alike observer (length_label x) (length_label (slice_get g j)) (bound_count (erased_in x) n ≡ bound_count (erased_in (slice_get g j)) m)) (sym z.is_one)
      (subst (λ x. Alike observer (length_label (Some z.one)) (length_label x) (bound_count (erased_in (Some z.one)) n ≡ bound_count (erased_in x) m)) (sym z.is_other)
      (alike_map observer (λ k. ap₂ (λ x y. x - y) (ap (λ o. count_in o) (own_erased length_name z.one.rows) ∙ k ∙ sym (ap (λ o. count_in o) (own_erased length_name z.other.rows))) e)
      (counts_alike z.one.structure z.other.structure (level_own observer r length_name z.one z.other pair z.is_one z.is_other))))

module _ (observer : Label) (tables : Tables) where
  -- an object more
  abbrev made : Object Label → State → Outcome Halt Jump Val State
  made p s = Goes (unlabelled (value.Object (id (length s.heap)))) (record s { heap = s.heap ++ p ∷ [] })

  conf_made : (p : State → Object Label) → Confined observer tables (λ s. made (p s) s)
  conf_made p = record {
    still = λ s h. still_goes observer tables _ (record { looks = λ β u r. low_heap observer tables r (new_left observer (p s) r.heap) r.records; frames = refl }) refl refl;
    fits = λ s. omega arith;
    adds = λ s. front_refl s.lines;
  }

  -- heaps with a pair of objects more
  made_both : {γ : Pairing} (p q : Object Label) (s t : State) → HeapsAgree observer (with_objects γ (length s.heap) (length t.heap)) (s.heap ++ p ∷ []) (t.heap ++ q ∷ []) → LowEqual observer tables γ s t → IsSeen observer s
      → InStep observer tables (Agree observer) γ (made p s) (made q t)
  made_both {γ} p q s t h r w =
      let more = extends_objects γ (length s.heap) (length t.heap) in
      go (with_objects γ (length s.heap) (length t.heap)) more
      (low_heap observer tables r h (record { paired = λ i j z. both_map (λ c d x. records_more observer more x) (r.records.paired i j z); one_to_one = r.records.one_to_one; left = r.records.left; right = r.records.right }))
      w (seen (sees_bottom observer) refl (objects (pair_new γ.objects (length s.heap) (length t.heap))))

  -- ---- new objects

  -- an object of a class, with its properties: an array has a `length`
  abbrev rows_new : Class → Rows Property
  rows_new class.Array = (length_key, length_property 0) ∷ []
  rows_new class.Object = []
  rows_new class.Function = []
  rows_new class.Arguments = []
  rows_new class.Error = []
  rows_new class.Math = []
  rows_new class.Json = []
  rows_new class.String = []
  rows_new class.Number = []
  rows_new class.Boolean = []

  abbrev new_of : Class → Option ObjId → PlainObject
  new_of c proto = record (fresh_plain c plain_inner proto) { rows = rows_new c }

  new_is : (c : Class) (proto : Option ObjId) → made_of c proto ≡ new_of c proto
  new_is class.Array proto = refl
  new_is class.Object proto = refl
  new_is class.Function proto = refl
  new_is class.Arguments proto = refl
  new_is class.Error proto = refl
  new_is class.Math proto = refl
  new_is class.Json proto = refl
  new_is class.String proto = refl
  new_is class.Number proto = refl
  new_is class.Boolean proto = refl

  record NewRows (γ : Pairing) (l : Label) (rows : Rows Property) : Type 0 where
    agree : RowsAgree observer γ (made_rows l rows) (made_rows l rows)
    distinct : AreDistinct (made_rows l rows)

  no_new : {γ : Pairing} (l : Label) → NewRows γ l []
  no_new l = record { agree = no_rows; distinct = no_keys }

  new_rows : {γ : Pairing} (c : Class) (l : Label) → Sees observer l → NewRows γ l (rows_new c)
  new_rows class.Array l h = record { agree = row (seen h refl (refl, data_bodies (seen h refl primitives))) no_rows; distinct = one_more nowhere no_keys }
  new_rows class.Object l h = no_new l
  new_rows class.Function l h = no_new l
  new_rows class.Arguments l h = no_new l
  new_rows class.Error l h = no_new l
  new_rows class.Math l h = no_new l
  new_rows class.Json l h = no_new l
  new_rows class.String l h = no_new l
  new_rows class.Number l h = no_new l
  new_rows class.Boolean l h = no_new l

  abbrev fresh : Class → Option ObjId → Label → Label → Object Label
  fresh c proto label here = with_link label (made_object here (new_of c proto))

  abbrev fresh_by : PlainObject → Label → Label → Object Label
  fresh_by p label here = with_link label (made_object here p)

  pub conf_new : (c : Class) (proto : Option ObjId) (label : Label) → Confined observer tables (make_new c proto label)
  unfolding make_new
  conf_new c proto label = conf_made (λ s. fresh_by (made_of c proto) label (context s.frames))

  -- in one context, with prototypes that agree
  fresh_both : {γ : Pairing} (c : Class) (a b : Option ObjId) (l m : Label) (s t : State) → Alike observer l m (SameObject γ a b) → LowEqual observer tables γ s t → IsSeen observer s
      → InStep observer tables (Agree observer) γ (made (fresh c a l (context s.frames)) s) (made (fresh c b m (context t.frames)) t)
  fresh_both {γ} c a b l m s t z r w =
      let rows = new_rows {γ = γ} c (context s.frames) w in
      subst (λ x. InStep observer tables (Agree observer) γ (made (fresh c a l (context s.frames)) s) (made (fresh c b m x) t)) (same_context observer tables r w)
      (made_both (fresh c a l (context s.frames)) (fresh c b m (context s.frames)) s t
      (level_new observer (fresh c a l (context s.frames)) (fresh c b m (context s.frames)) refl plains (alike_join observer (λ (u : Unit {0}) x. x) (seen w refl tt) z) w refl refl rows.agree rows.distinct
      (λ v o e. proto_left observer r.heap z (sees_second observer (context s.frames) l v) o e) (λ v o e. proto_right observer r.heap z (sees_second observer (context s.frames) m v) o e) tt tt r.heap) r w)

  new_both : {γ : Pairing} (c : Class) (a b : Option ObjId) (l m : Label) (s t : State) → Alike observer l m (SameObject γ a b) → LowEqual observer tables γ s t → IsSeen observer s
      → InStep observer tables (Agree observer) γ (make_new c a l s) (make_new c b m t)
  unfolding make_new
  new_both {γ} c a b l m s t z r w =
      subst (λ p. InStep observer tables (Agree observer) γ (made (fresh_by p l (context s.frames)) s) (made (fresh_by (made_of c b) m (context t.frames)) t)) (sym (new_is c a))
      (subst (λ p. InStep observer tables (Agree observer) γ (made (fresh c a l (context s.frames)) s) (made (fresh_by p m (context t.frames)) t)) (sym (new_is c b))
      (fresh_both c a b l m s t z r w))

  -- ---- the own keys of an object, which are a new array

  abbrev keys_made : Label → List (List ℕ) → State → Outcome Halt Jump Val State
  keys_made label keys s = Goes (record { value = value.Object (id (length s.heap)); label = label }) (record s { heap = s.heap ++ made_object (context s.frames) (array_of_texts keys) ∷ [] })

  pub conf_keys_of : (all : Bool) (label : Label) (o : ℕ) → Confined observer tables (list_keys all label o)
  unfolding list_keys
  conf_keys_of all label o = record {
    still = λ s h. still_goes observer tables _ (record { looks = λ β u r. low_heap observer tables r (new_left observer (made_object (context s.frames) (array_of_texts (keys_in all (slice_get s.heap o)))) r.heap) r.records; frames = refl }) refl refl;
    fits = λ s. omega arith;
    adds = λ s. front_refl s.lines;
  }

  -- rows of primitive values alone
  data OfPrimitives : Rows Property → Type 0 where
    no_values : OfPrimitives []
    one_value : {key : List ℕ} {p : Primitive} {m : Marks} {rows : Rows Property} → OfPrimitives rows → OfPrimitives ((key, record { body = Data (value.Primitive p); marks = m }) ∷ rows)

  primitive_added : (key : List ℕ) (p : Primitive) (m : Marks) {rows : Rows Property} → OfPrimitives rows → OfPrimitives (with_row key (record { body = Data (value.Primitive p); marks = m }) rows)
  primitive_added key p m no_values = one_value no_values
  primitive_added key p m (one_value r) = one_value (primitive_added key p m r)

  primitive_changed : (key : List ℕ) (p : Primitive) (m : Marks) {rows : Rows Property} → OfPrimitives rows → OfPrimitives (changed key (λ x. record { body = Data (value.Primitive p); marks = m }) rows)
  primitive_changed key p m no_values = no_values
  primitive_changed key p m (one_value {key = other} {p = q} {m = n} {rows = rows} r) = by_name (same_name other key) (primitive_changed key p m r)
    where
      by_name : (b : Bool) → OfPrimitives (changed key (λ x. record { body = Data (value.Primitive p); marks = m }) rows)
          → OfPrimitives (cond b ((other, record { body = Data (value.Primitive p); marks = m }) ∷ rows) ((other, record { body = Data (value.Primitive q); marks = n }) ∷ changed key (λ x. record { body = Data (value.Primitive p); marks = m }) rows))
      by_name true z = one_value r
      by_name false z = one_value z

  primitive_over : (o : Option Property) (key : List ℕ) (p : Primitive) (m : Marks) {rows : Rows Property} → OfPrimitives rows → OfPrimitives (defined_over o key (record { body = Data (value.Primitive p); marks = m }) rows)
  primitive_over None key p m r = primitive_added key p m r
  primitive_over (Some x) key p m r = primitive_changed key p m r

  distinct_defined : (o : Option Property) (key : List ℕ) (x : Property) {rows : Rows Property} → own key rows ≡ o → AreDistinct rows → AreDistinct (defined_over o key x rows)
  distinct_defined None key x {rows} e d = distinct_with_row key x (own_absent key rows e) d
  distinct_defined (Some y) key x e d = distinct_altered key (λ z. Some x) d

  record TextRows (rows : Rows Property) : Type 0 where
    primitive : OfPrimitives rows
    distinct : AreDistinct rows

  texts_onto : (ns : List ℕ) (texts : List (List ℕ)) {rows : Rows Property} → TextRows rows → TextRows (elements_onto rows ns (map (λ v. property_with v made_by_script) (map text_value texts)))
  texts_onto [] texts r = r
  texts_onto (n ∷ ns) [] r = r
  texts_onto (n ∷ ns) (text ∷ texts) {rows} r = texts_onto ns texts (record {
    primitive = primitive_over (own (element_key n) rows) (element_key n) (Str text) made_by_script r.primitive;
    distinct = distinct_defined (own (element_key n) rows) (element_key n) (property_with (text_value text) made_by_script) refl r.distinct;
  })

  rows_of_texts : (keys : List (List ℕ)) → TextRows (array_of_texts keys).rows
  rows_of_texts keys = texts_onto (places_from 0 keys) keys (record { primitive = one_value no_values; distinct = one_more nowhere no_keys })

  made_agree : {γ : Pairing} (l : Label) {rows : Rows Property} → Sees observer l → OfPrimitives rows → RowsAgree observer γ (made_rows l rows) (made_rows l rows)
  made_agree l h no_values = no_rows
  made_agree l h (one_value r) = row (seen h refl (refl, data_bodies (seen h refl primitives))) (made_agree l h r)

  made_absent : (l : Label) (key : List ℕ) {rows : Rows Property} → IsAbsent key rows → IsAbsent key (made_rows l rows)
  made_absent l key nowhere = nowhere
  made_absent l key (elsewhere n a) = elsewhere n (made_absent l key a)

  made_distinct : (l : Label) {rows : Rows Property} → AreDistinct rows → AreDistinct (made_rows l rows)
  made_distinct l no_keys = no_keys
  made_distinct l (one_more {key = key} a d) = one_more (made_absent l key a) (made_distinct l d)

  array_stands : {γ : Pairing} {h g : List (Object Label)} → HeapsAgree observer γ h g → array_prototype.0 < length h
  array_stands r = start_stands observer r array_prototype.0 (omega arith)

  -- in one context: the same keys, under labels that are seen
  texts_both : {γ : Pairing} (keys : List (List ℕ)) (l m here : Label) (s t : State) → Sees observer l → l ≡ m → Sees observer here → LowEqual observer tables γ s t → IsSeen observer s
      → InStep observer tables (Agree observer) γ (Goes (record { value = value.Object (id (length s.heap)); label = l }) (record s { heap = s.heap ++ made_object here (array_of_texts keys) ∷ [] }))
      (Goes (record { value = value.Object (id (length t.heap)); label = m }) (record t { heap = t.heap ++ made_object here (array_of_texts keys) ∷ [] }))
  texts_both {γ} keys l m here s t h e k r w =
      let more = extends_objects γ (length s.heap) (length t.heap) in
      let rows = rows_of_texts keys in
      go (with_objects γ (length s.heap) (length t.heap)) more
      (low_heap observer tables r
      (level_new observer (made_object here (array_of_texts keys)) (made_object here (array_of_texts keys)) refl plains (seen k refl (both (r.heap.starts array_prototype.0 (omega arith)))) k refl refl (made_agree here k rows.primitive) (made_distinct here rows.distinct)
      (λ v o x. subst (λ (y : ObjId). y.0 < length s.heap) (same_Some _ o x) (array_stands r.heap)) (λ v o x. subst (λ (y : ObjId). y.0 < length t.heap) (same_Some _ o x) (array_stands (low_sym observer tables r).heap)) tt tt r.heap)
      (record { paired = λ i j z. both_map (λ c d x. records_more observer more x) (r.records.paired i j z); one_to_one = r.records.one_to_one; left = r.records.left; right = r.records.right }))
      w (seen h e (objects (pair_new γ.objects (length s.heap) (length t.heap))))

  -- the keys of paired objects, under what they depend on
  listed_same : {γ : Pairing} (all : Bool) {rs qs : Rows (Slot Label)} → RowsAgree observer γ rs qs → Alike observer (existences rs) (existences qs) (listed all (erased_rows rs) ≡ listed all (erased_rows qs))
  listed_same all no_rows = seen (sees_bottom observer) refl refl
  listed_same all (row {key = key} a r) = alike_join observer (λ x y. ap₂ (λ (m : Marks) (ks : List (List ℕ)). if all || m.enumerable then key ∷ ks else ks) x.0 y) a (listed_same all r)

  keys_alike : {γ : Pairing} (all : Bool) {p q : Object Label} → ShapesAgree observer γ p q → Alike observer (keys_label (Some p)) (keys_label (Some q)) (keys_in all (Some p) ≡ keys_in all (Some q))
  keys_alike all (seen_shape a b x r) = alike_join observer (λ (u : Unit {0}) y. y) (seen a b tt) (listed_same all r)
  keys_alike all {p} {q} (hidden_shape a b r) = hidden (hides_first observer p.structure _ a) (hides_first observer q.structure _ b)

  mum_keys_of : (all : Bool) (label : Label) (o : ℕ) (s : State) → Hides observer (union label (keys_label (slice_get s.heap o))) → IsSeen observer s → Mute observer tables (HiddenVal observer tables) s (list_keys all label o s)
  unfolding list_keys
  mum_keys_of all label o s h w = mutes (record { looks = λ β u r. low_heap observer tables r (new_left observer (made_object (context s.frames) (array_of_texts (keys_in all (slice_get s.heap o)))) r.heap) r.records; frames = refl })
      (lines_refl observer tables s.lines) h

  keys_both : {γ : Pairing} (all : Bool) (l m : Label) (i j : ℕ) (s t : State) → Sees observer l → l ≡ m → γ.objects i j ≡ true → LowEqual observer tables γ s t → IsSeen observer s → InStep observer tables (Agree observer) γ (list_keys all l i s) (list_keys all m j t)
  unfolding list_keys
  keys_both {γ} all l m i j s t h e pair r w =
      let z = two (r.heap.paired i j pair) in
      by_keys (subst (λ x. Alike observer (keys_label x) (keys_label (slice_get t.heap j)) (keys_in all x ≡ keys_in all (slice_get t.heap j))) (sym z.is_one)
      (subst (λ x. Alike observer (keys_label (Some z.one)) (keys_label x) (keys_in all (Some z.one) ≡ keys_in all x)) (sym z.is_other) (keys_alike all z.related.shapes)))
    where
      by_keys : Alike observer (keys_label (slice_get s.heap i)) (keys_label (slice_get t.heap j)) (keys_in all (slice_get s.heap i) ≡ keys_in all (slice_get t.heap j))
          → InStep observer tables (Agree observer) γ (keys_made (union l (keys_label (slice_get s.heap i))) (keys_in all (slice_get s.heap i)) s) (keys_made (union m (keys_label (slice_get t.heap j))) (keys_in all (slice_get t.heap j)) t)
      by_keys (hidden a b) = values_apart observer tables r w (mum_keys_of all l i s (hides_second observer l _ a) w) (mum_keys_of all m j t (hides_second observer m _ b) (seen_other observer tables r w))
      by_keys (seen a b k) =
          subst (λ ks. InStep observer tables (Agree observer) γ (keys_made (union l (keys_label (slice_get s.heap i))) (keys_in all (slice_get s.heap i)) s) (keys_made (union m (keys_label (slice_get t.heap j))) ks t)) k
          (subst (λ c. InStep observer tables (Agree observer) γ (keys_made (union l (keys_label (slice_get s.heap i))) (keys_in all (slice_get s.heap i)) s)
          (Goes (record { value = value.Object (id (length t.heap)); label = union m (keys_label (slice_get t.heap j)) }) (record t { heap = t.heap ++ made_object c (array_of_texts (keys_in all (slice_get s.heap i))) ∷ [] }))) (same_context observer tables r w)
          (texts_both (keys_in all (slice_get s.heap i)) (union l (keys_label (slice_get s.heap i))) (union m (keys_label (slice_get t.heap j))) (context s.frames) s t (sees_union observer l _ h a) (ap₂ union e b) w r w))

  mum_keys : (all : Bool) (label : Label) (o : ℕ) → Hides observer label → Mum observer tables (HiddenVal observer tables) (list_keys all label o)
  mum_keys all label o h = record { mute = λ s w. mum_keys_of all label o s (hides_first observer label _ h) w }

  pub keys_of_after : {γ : Pairing} (all : Bool) {v u : Val} (s t : State) → Agree observer γ v u → LowEqual observer tables γ s t → IsSeen observer s
      → InStep observer tables (Agree observer) γ (on_object v (list_keys all v.label) s) (on_object u (list_keys all u.label) t)
  keys_of_after all {v} {u} s t a r w = object_after observer tables (list_keys all v.label) (list_keys all u.label) s t a (λ h o. mum_keys all v.label o h) (λ h o. mum_keys all u.label o h)
      (λ h e i j p. keys_both all v.label u.label i j s t h e p r w) r w

  -- with the prototype of its class, and with one that a value gives
  pub new_after : {γ : Pairing} (c : Class) (s t : State) → LowEqual observer tables γ s t → IsSeen observer s
      → InStep observer tables (Agree observer) γ (make_new c (Some (class_prototype c)) bottom s) (make_new c (Some (class_prototype c)) bottom t)
  new_after c s t r w = new_both c (Some (class_prototype c)) (Some (class_prototype c)) bottom bottom s t (seen (sees_bottom observer) refl (both (r.heap.starts (class_prototype c).0 (class_below observer c)))) r w

  pub conf_new_by : (c : Class) (v : Val) → Confined observer tables (make_new_by c v)
  unfolding make_new_by
  conf_new_by c v = conf_at observer tables (λ s. make_new c (option_map (standing s.heap) (prototype_given v.value)) v.label) (λ s. conf_new c (option_map (standing s.heap) (prototype_given v.value)) v.label)

  pub new_given_after : {γ : Pairing} (c : Class) {v u : Val} (s t : State) → Agree observer γ v u → LowEqual observer tables γ s t → IsSeen observer s
      → InStep observer tables (Agree observer) γ (make_new_by c v s) (make_new_by c u t)
  unfolding make_new_by
  new_given_after c {v} {u} s t a r w = new_both c (option_map (standing s.heap) (prototype_given v.value)) (option_map (standing t.heap) (prototype_given u.value)) v.label u.label s t
      (alike_map observer (λ x. standing_same observer r.heap (prototypes_same observer r.heap x)) a) r w

  -- ---- bound functions

  abbrev bound_in : ObjId → Val → Val → List Val → State → Label → Object Label
  bound_in o target this args s here = bound_object o target.label this args (length_label (slice_get s.heap o.0)) (bound_count (erased_in (slice_get s.heap o.0)) (length args)) here

  conf_bind_value : (v : Value) (target this : Val) (args : List Val) → Confined observer tables (bind_value v target this args)
  unfolding bind_value bind_object
  conf_bind_value (value.Primitive p) target this args = conf_at observer tables (λ s. throw_error kinds.TypeError target.label) (λ s. conf_throw observer tables {X = Val} kinds.TypeError target.label)
  conf_bind_value (value.Object o) target this args = conf_made (λ s. bound_in o target this args s (context s.frames))

  conf_bind_to : (b : Bool) (target this : Val) (args : List Val) → Confined observer tables (bind_to b target this args)
  unfolding bind_to
  conf_bind_to true target this args = conf_bind_value target.value target this args
  conf_bind_to false target this args = conf_throw observer tables kinds.TypeError target.label

  pub conf_bind_act : (target this : Val) (args : List Val) → Confined observer tables (λ s. bind_to (is_function_at s.heap target.value) target this args s)
  conf_bind_act target this args = conf_at observer tables (λ s. bind_to (is_function_at s.heap target.value) target this args) (λ s. conf_bind_to (is_function_at s.heap target.value) target this args)

  -- in one context: the target is known under its label, and the count under that and what it depends on
  bound_both : {γ : Pairing} (o q : ObjId) (l m : Label) (this that : Val) (vs us : List Val) (known beside : Label) (n k : ℕ) (here : Label) (s t : State) → Sees observer here → Alike observer l m (γ.objects o.0 q.0 ≡ true) → Agree observer γ this that → Rels (Agree observer γ) vs us
      → Alike observer (union l known) (union m beside) (n ≡ k) → LowEqual observer tables γ s t → IsSeen observer s
      → InStep observer tables (Agree observer) γ (made (bound_object o l this vs known n here) s) (made (bound_object q m that us beside k here) t)
  bound_both {γ} o q l m this that vs us known beside n k here s t h target a bs count r w =
      let first = bound_object o l this vs known n here in
      let second = bound_object q m that us beside k here in
      made_both first second s t
      (level_new observer first second refl (bounds target a (all_agree observer bs)) (seen h refl (both (r.heap.starts 9 (omega arith)))) h refl refl
      (row (seen h refl (refl, data_bodies (alike_join observer (λ e (u : Unit {0}). numbers_same observer e) count (seen h refl tt))))
      (function_rows_agree observer here h r.heap.starts))
      (one_more (own_absent (codes "length") _ refl) (one_more (own_absent (codes "caller") _ refl) (one_more nowhere no_keys)))
      (λ v x e. subst (λ (y : ObjId). y.0 < length s.heap) (same_Some _ x e) (start_stands observer r.heap 9 (omega arith)))
      (λ v x e. subst (λ (y : ObjId). y.0 < length t.heap) (same_Some _ x e) (start_stands observer (low_sym observer tables r).heap 9 (omega arith)))
      (λ v. (below_target target v).0) (λ v. (below_other target v).1) r.heap) r w
    where
      below_target : Alike observer l m (γ.objects o.0 q.0 ≡ true) → Sees observer l → (o.0 < length s.heap) × (q.0 < length t.heap)
      below_target (seen x y p) v = paired_below observer r.heap o.0 q.0 p
      below_target (hidden x y) v = absurd (not_both observer l v x)

      below_other : Alike observer l m (γ.objects o.0 q.0 ≡ true) → Sees observer m → (o.0 < length s.heap) × (q.0 < length t.heap)
      below_other (seen x y p) v = paired_below observer r.heap o.0 q.0 p
      below_other (hidden x y) v = absurd (not_both observer m v y)

  -- two targets that are functions
  targets_both : {γ : Pairing} (o q : ObjId) (target other : Val) {this that : Val} {vs us : List Val} (s t : State) → Alike observer target.label other.label (γ.objects o.0 q.0 ≡ true) → Agree observer γ this that → Rels (Agree observer γ) vs us → LowEqual observer tables γ s t → IsSeen observer s
      → InStep observer tables (Agree observer) γ (made (bound_in o target this vs s (context s.frames)) s) (made (bound_in q other that us t (context t.frames)) t)
  targets_both {γ} o q target other {this} {that} {vs} {us} s t z a bs r w = subst (λ x. InStep observer tables (Agree observer) γ (made (bound_in o target this vs s (context s.frames)) s) (made (bound_in q other that us t x) t)) (same_context observer tables r w)
      (bound_both o q target.label other.label this that vs us (length_label (slice_get s.heap o.0)) (length_label (slice_get t.heap q.0)) _ _ (context s.frames) s t w z a bs (by_label z) r w)
    where
      by_label : Alike observer target.label other.label (γ.objects o.0 q.0 ≡ true) → Alike observer (union target.label (length_label (slice_get s.heap o.0))) (union other.label (length_label (slice_get t.heap q.0)))
          (bound_count (erased_in (slice_get s.heap o.0)) (length vs) ≡ bound_count (erased_in (slice_get t.heap q.0)) (length us))
      by_label (hidden x y) = hidden (hides_first observer target.label (length_label (slice_get s.heap o.0)) x) (hides_first observer other.label (length_label (slice_get t.heap q.0)) y)
      by_label (seen x y p) = alike_join observer (λ (u : Unit {0}) e. e) (seen x y tt) (known_alike observer (length vs) (length us) o.0 q.0 (length_same bs) r.heap p)

  -- what is no function is thrown by its label
  stops_false : (target this : Val) (vs : List Val) (s : State) → Hides observer target.label → IsSeen observer s → Mute observer tables Never s (bind_to false target this vs s)
  unfolding bind_to
  stops_false target this vs s h w = (mum_throw observer tables Never kinds.TypeError target.label h).mute s w

  stops_primitive : (target : Val) (s : State) → Hides observer target.label → IsSeen observer s → Mute observer tables Never s (throw_error {X = Val} kinds.TypeError target.label s)
  stops_primitive target s h w = (mum_throw observer tables Never kinds.TypeError target.label h).mute s w

  values_hidden : {γ : Pairing} (target other : Val) {this that : Val} {vs us : List Val} (v u : Value) (s t : State) → Hides observer target.label → Hides observer other.label → Agree observer γ this that → Rels (Agree observer γ) vs us → LowEqual observer tables γ s t → IsSeen observer s
      → InStep observer tables (Agree observer) γ (bind_value v target this vs s) (bind_value u other that us t)
  unfolding bind_value bind_object
  values_hidden target other {this = this} {that = that} {vs = vs} {us = us} (value.Primitive p) u s t h k a bs r w =
      stops_first observer tables (Agree observer) r (stops_primitive target s h w) ((conf_bind_value u other that us).adds t)
  values_hidden target other {this = this} {that = that} {vs = vs} {us = us} (value.Object o) (value.Primitive p) s t h k a bs r w =
      stops_second observer tables (Agree observer) r ((conf_bind_value (value.Object o) target this vs).adds s) (stops_primitive other t k (seen_other observer tables r w))
  values_hidden target other (value.Object o) (value.Object q) s t h k a bs r w = targets_both o q target other s t (hidden h k) a bs r w

  values_seen : {γ : Pairing} (target other : Val) {this that : Val} {vs us : List Val} {v u : Value} (s t : State) → Sees observer target.label → target.label ≡ other.label → SameValue γ v u → Agree observer γ this that → Rels (Agree observer γ) vs us → LowEqual observer tables γ s t → IsSeen observer s
      → InStep observer tables (Agree observer) γ (bind_value v target this vs s) (bind_value u other that us t)
  unfolding bind_value bind_object
  values_seen target other s t h e primitives a bs r w = thrown_both observer tables (Agree observer) kinds.TypeError s t (seen h e tt) r w
  values_seen target other s t h e (objects {o = o} {q = q} p) a bs r w = targets_both o q target other s t (seen h e p) a bs r w

  -- a target that is hidden: a run in which it is no function ends
  bind_hidden : {γ : Pairing} (b c : Bool) (target other this that : Val) (vs us : List Val) (s t : State) → Hides observer target.label → Hides observer other.label → Agree observer γ this that → Rels (Agree observer γ) vs us
      → LowEqual observer tables γ s t → IsSeen observer s → InStep observer tables (Agree observer) γ (bind_to b target this vs s) (bind_to c other that us t)
  unfolding bind_to
  bind_hidden false c target other this that vs us s t h k a bs r w = stops_first observer tables (Agree observer) r (stops_false target this vs s h w) ((conf_bind_to c other that us).adds t)
  bind_hidden true false target other this that vs us s t h k a bs r w = stops_second observer tables (Agree observer) r ((conf_bind_to true target this vs).adds s) (stops_false other that us t k (seen_other observer tables r w))
  bind_hidden true true target other this that vs us s t h k a bs r w = values_hidden target other target.value other.value s t h k a bs r w

  bind_seen : {γ : Pairing} (b : Bool) (target other this that : Val) (vs us : List Val) (s t : State) → Sees observer target.label → target.label ≡ other.label → SameValue γ target.value other.value → Agree observer γ this that → Rels (Agree observer γ) vs us
      → LowEqual observer tables γ s t → IsSeen observer s → InStep observer tables (Agree observer) γ (bind_to b target this vs s) (bind_to b other that us t)
  unfolding bind_to
  bind_seen true target other this that vs us s t h e p a bs r w = values_seen target other s t h e p a bs r w
  bind_seen false target other this that vs us s t h e p a bs r w = thrown_both observer tables (Agree observer) kinds.TypeError s t (seen h e tt) r w

  pub bind_after : {γ : Pairing} {target other this that : Val} {vs us : List Val} (s t : State) → Agree observer γ target other → Agree observer γ this that → Rels (Agree observer γ) vs us → LowEqual observer tables γ s t → IsSeen observer s
      → InStep observer tables (Agree observer) γ (bind_to (is_function_at s.heap target.value) target this vs s) (bind_to (is_function_at t.heap other.value) other that us t)
  bind_after {target = target} {other = other} {this = this} {that = that} {vs = vs} {us = us} s t (hidden h k) a bs r w = bind_hidden (is_function_at s.heap target.value) (is_function_at t.heap other.value) target other this that vs us s t h k a bs r w
  bind_after {γ} {target} {other} {this} {that} {vs} {us} s t (seen h e p) a bs r w = subst (λ c. InStep observer tables (Agree observer) γ (bind_to (is_function_at s.heap target.value) target this vs s) (bind_to c other that us t)) (function_at_same observer r.heap p)
      (bind_seen (is_function_at s.heap target.value) target other this that vs us s t h e p a bs r w)
