-- Definitions that agree: what they are given, whether they are refused, and what the property is behind them.
use Rattle.std.proofs.Common.{◌≡◌, ℕ, Bool, true, false, cond, ◌&&◌, ◌||◌, List, [], ◌∷◌, zero, suc, Option, Some, None, slice_get, nat_eq, refl, sym, ◌∙◌, ap, ap₂, subst, true≢false}
use Rattle.std.specs.Option.{is_some}
use Rattle.origin_labels.specs.Label.{Label}
use Rattle.js_number.specs.declared.primitive.Primitive.TheVariants.{Undefined, Null, Num, Str}
use Rattle.js_number.specs.declared.primitive.Primitive.TheVariants as prims
use Rattle.js_values.specs.declared.ids.ObjId.{ObjId}
use Rattle.js_values.specs.declared.value.Value.{Value}
use Rattle.js_values.specs.declared.property.Marks.{Marks}
use Rattle.js_values.specs.declared.property.Body.{Body}
use Rattle.js_values.specs.Objects.{Object}
use Rattle.native_protocol.specs.declared.request.GivenMarks.{GivenMarks}
use Rattle.es_meaning.specs.Operations.{Shape}
use Rattle.es_meaning.specs.Functions.{is_function}
use Rattle.es_meaning.specs.Definitions.{GivenBody, no_body, a_value, accessors as given_halves, Definition, given_or, same_mark, same_object, same_value, keeps, is_accessor, becomes_accessor, keeps_attributes, keeps_body, may_define_over, marks_of_kind, defined_over, default_property, defined_new, changes_body, keeps_a_half}
use Rattle.es_meaning.specs.Requested.{is_function_in, given_function, accessors_of, data_given, given_body}
use Rattle.flow_meaning.specs.Erased.{erased_heap}
use Rattle.flow_meaning.specs.Requested.{body_label, erased_in}
use Rattle.low_equal.specs.Observed.{Sees}
use Rattle.low_equal.specs.LowEqual.{Pairing, IsOneToOne, seen, hidden, SameValue, primitives, objects, SameObject, neither, both, BodiesAgree, data_bodies, accessors, HeapsAgree}
use Rattle.low_equal.proofs.Labels.{not_both}
use Rattle.low_equal.proofs.Agreement.{alike_join, two}
use Rattle.std.proofs.lemmas.Bool.{eqb-true, eq-eqb}

-- ---- what is given

-- one half of an accessor: none in both, or paired functions or none
pub data HalvesSame (β : Pairing) : Option (Option ObjId) → Option (Option ObjId) → Type 0 where
  not_given : HalvesSame β None None
  given_half : {f g : Option ObjId} → SameObject β f g → HalvesSame β (Some f) (Some g)

pub data GivenSame (β : Pairing) : GivenBody → GivenBody → Type 0 where
  no_bodies : GivenSame β no_body no_body
  given_values : {v u : Value} → SameValue β v u → GivenSame β (a_value v) (a_value u)
  given_accessors : {a b c d : Option (Option ObjId)} → HalvesSame β a b → HalvesSame β c d → GivenSame β (given_halves a c) (given_halves b d)

-- both are refused, or both are given
pub data GivensAgree (β : Pairing) : Option GivenBody → Option GivenBody → Type 0 where
  none_given : GivensAgree β None None
  both_given : {b c : GivenBody} → GivenSame β b c → GivensAgree β (Some b) (Some c)

-- a getter or a setter that is taken from a value
data TakenSame (β : Pairing) : Option (Option (Option ObjId)) → Option (Option (Option ObjId)) → Type 0 where
  none_taken : TakenSame β None None
  both_taken : {a b : Option (Option ObjId)} → HalvesSame β a b → TakenSame β (Some a) (Some b)

taken_accessors : {β : Pairing} {a b c d : Option (Option (Option ObjId))} → TakenSame β a b → TakenSame β c d → GivensAgree β (accessors_of a c) (accessors_of b d)
taken_accessors none_taken none_taken = none_given
taken_accessors none_taken (both_taken y) = none_given
taken_accessors (both_taken x) none_taken = none_given
taken_accessors (both_taken x) (both_taken y) = both_given (given_accessors x y)

-- an object without its labels
erased_get : (h : List (Object Label)) (i : ℕ) → slice_get (erased_heap h) i ≡ erased_in (slice_get h i)
erased_get [] i = refl
erased_get (p ∷ h) zero = refl
erased_get (p ∷ h) (suc i) = erased_get h i

-- a getter or a setter that a value gives, if it gives a function
if_function : {β : Pairing} (b : Bool) (o q : ObjId) → β.objects o.0 q.0 ≡ true → TakenSame β (cond b (Some (Some (Some o))) None) (cond b (Some (Some (Some q))) None)
if_function true o q p = both_taken (given_half (both p))
if_function false o q p = none_taken

module _ (observer : Label) {β : Pairing} {h g : List (Object Label)} (r : HeapsAgree observer β h g) where
  -- paired objects are functions alike
  function_same : (i j : ℕ) → β.objects i j ≡ true → is_function_in (slice_get (erased_heap h) i) ≡ is_function_in (slice_get (erased_heap g) j)
  function_same i j e =
      let t = two (r.paired i j e) in
      ap is_function_in (erased_get h i ∙ ap (λ (x : Option (Object Label)). erased_in x) t.is_one) ∙ ap is_function t.related.class ∙ sym (ap is_function_in (erased_get g j ∙ ap (λ (x : Option (Object Label)). erased_in x) t.is_other))

  taken_same : (b : Bool) {v u : Value} → SameValue β v u → TakenSame β (given_function (erased_heap h) b v) (given_function (erased_heap g) b u)
  taken_same false p = both_taken not_given
  taken_same true (primitives {p = Undefined}) = both_taken (given_half neither)
  taken_same true (primitives {p = Null}) = none_taken
  taken_same true (primitives {p = prims.Bool b}) = none_taken
  taken_same true (primitives {p = Num n}) = none_taken
  taken_same true (primitives {p = Str text}) = none_taken
  taken_same true (objects {o = o} {q = q} p) = subst (λ b. TakenSame β (cond (is_function_in (slice_get (erased_heap h) o.0)) (Some (Some (Some o))) None) (cond b (Some (Some (Some q))) None)) (function_same o.0 q.0 p)
      (if_function (is_function_in (slice_get (erased_heap h) o.0)) o q p)

  data_same : (b : Bool) {v u : Value} → SameValue β v u → GivenSame β (data_given b v) (data_given b u)
  data_same true p = given_values p
  data_same false p = no_bodies

  by_shape : (b c d : Bool) {x y : Option GivenBody} {v u : Value} → GivensAgree β x y → SameValue β v u
      → GivensAgree β (cond b (cond c None x) (Some (data_given d v))) (cond b (cond c None y) (Some (data_given d u)))
  by_shape false c d q p = both_given (data_same d p)
  by_shape true true d q p = none_given
  by_shape true false d q p = q

  -- a descriptor of values that are the same
  pub givens_agree : (marks : GivenMarks) (shape : Shape) {v u k f s t : Value} → SameValue β v u → SameValue β k f → SameValue β s t → GivensAgree β (given_body (erased_heap h) marks shape v k s) (given_body (erased_heap g) marks shape u f t)
  givens_agree marks shape p q x = by_shape (shape.has_getter || shape.has_setter) (shape.has_value || is_some marks.writable) shape.has_value (taken_accessors (taken_same shape.has_getter q) (taken_same shape.has_setter x)) p

-- ---- whether a definition over a property is refused, where its value is seen

-- numbers that are paired are equal in both or in neither
equal_numbers : (a b c d : ℕ) → (a ≡ c → b ≡ d) × (b ≡ d → a ≡ c) → nat_eq a c ≡ nat_eq b d
equal_numbers a b c d h = by_tests (nat_eq a c) (nat_eq b d) refl refl
  where
    by_tests : (x y : Bool) → nat_eq a c ≡ x → nat_eq b d ≡ y → x ≡ y
    by_tests true true p q = refl
    by_tests false false p q = refl
    by_tests true false p q = absurd (true≢false (sym (eq-eqb b d (h.0 (eqb-true a c p))) ∙ q))
    by_tests false true p q = absurd (true≢false (sym (eq-eqb a c (h.1 (eqb-true b d q))) ∙ p))

module _ (β : Pairing) (u : IsOneToOne β.objects) where
  values_compared : {v w x y : Value} → SameValue β v w → SameValue β x y → same_value v x ≡ same_value w y
  values_compared primitives primitives = refl
  values_compared primitives (objects q) = refl
  values_compared (objects p) primitives = refl
  values_compared (objects {o = a} {q = b} p) (objects {o = c} {q = d} q) = equal_numbers a.0 b.0 c.0 d.0 (u a.0 b.0 c.0 d.0 p q)

  objects_compared : {a b c d : Option ObjId} → SameObject β a b → SameObject β c d → same_object a c ≡ same_object b d
  objects_compared neither neither = refl
  objects_compared neither (both q) = refl
  objects_compared (both p) neither = refl
  objects_compared (both {o = a} {q = b} p) (both {o = c} {q = d} q) = equal_numbers a.0 b.0 c.0 d.0 (u a.0 b.0 c.0 d.0 p q)

  halves_compared : {a b : Option ObjId} {x y : Option (Option ObjId)} → SameObject β a b → HalvesSame β x y → keeps same_object a x ≡ keeps same_object b y
  halves_compared p not_given = refl
  halves_compared p (given_half q) = objects_compared p q

  body_kept : (observer : Label) (writable : Bool) (marks : GivenMarks) {l m : Label} {a b : Body} {x y : GivenBody} → Sees observer l → BodiesAgree observer β l m a b → GivenSame β x y → keeps_body writable a marks x ≡ keeps_body writable b marks y
  body_kept observer writable marks {l} h (data_bodies (hidden c d)) q = absurd (not_both observer l h c)
  body_kept observer writable marks {l} h (accessors (hidden c d)) q = absurd (not_both observer l h c)
  body_kept observer writable marks h (data_bodies (seen c e p)) no_bodies = refl
  body_kept observer writable marks h (data_bodies (seen c e p)) (given_values q) = ap (λ b. writable || (keeps same_mark false marks.writable && b)) (values_compared p q)
  body_kept observer writable marks h (data_bodies (seen c e p)) (given_accessors x y) = refl
  body_kept observer writable marks h (accessors (seen c e p)) no_bodies = refl
  body_kept observer writable marks h (accessors (seen c e p)) (given_values q) = refl
  body_kept observer writable marks h (accessors (seen c e p)) (given_accessors x y) = ap₂ (λ b c. b && c) (halves_compared p.0 x) (halves_compared p.1 y)

  pub refused_alike : (observer : Label) (old : Marks) (marks : GivenMarks) {l m : Label} {a b : Body} {x y : GivenBody} → Sees observer l → BodiesAgree observer β l m a b → GivenSame β x y
      → may_define_over (record { body = a; marks = old }) (record { marks = marks; body = x }) ≡ may_define_over (record { body = b; marks = old }) (record { marks = marks; body = y })
  refused_alike observer old marks h r q = ap (λ b. old.configurable || (keeps_attributes old marks && b)) (body_kept observer old.writable marks h r q)

-- ---- what the property is behind a definition

-- its kind
becomes_same : {β : Pairing} (was : Bool) (marks : GivenMarks) {x y : GivenBody} → GivenSame β x y → becomes_accessor was (record { marks = marks; body = x }) ≡ becomes_accessor was (record { marks = marks; body = y })
becomes_same was marks no_bodies = refl
becomes_same was marks (given_values q) = refl
becomes_same was marks (given_accessors a b) = refl

-- a definition of these marks
abbrev pub defines : Option Bool → Option Bool → Option Bool → GivenBody → Definition
defines w e c x = record { marks = record { writable = w; enumerable = e; configurable = c }; body = x }

module _ (observer : Label) {β : Pairing} where
  kind_of : {l m : Label} {a b : Body} → BodiesAgree observer β l m a b → is_accessor a ≡ is_accessor b
  kind_of (data_bodies r) = refl
  kind_of (accessors r) = refl

  pub marks_behind : (old : Marks) (marks : GivenMarks) {l m : Label} {a b : Body} {x y : GivenBody} → BodiesAgree observer β l m a b → GivenSame β x y
      → (defined_over (record { body = a; marks = old }) (record { marks = marks; body = x })).marks ≡ (defined_over (record { body = b; marks = old }) (record { marks = marks; body = y })).marks
  marks_behind old marks {a = a} {b = b} {x = x} {y = y} r q = ap (λ k. marks_of_kind k old marks) (becomes_same (is_accessor a) marks q ∙ ap (λ k. becomes_accessor k (record { marks = marks; body = y })) (kind_of r))

  -- whether its body is given anew
  pub changes_alike : (old : Marks) (w e c : Option Bool) {l m : Label} {a b : Body} {x y : GivenBody} → BodiesAgree observer β l m a b → GivenSame β x y
      → changes_body (record { body = a; marks = old }) (defines w e c x) ≡ changes_body (record { body = b; marks = old }) (defines w e c y)
  changes_alike old w e c (data_bodies r) no_bodies = refl
  changes_alike old w e c (data_bodies r) (given_values q) = refl
  changes_alike old w e c (data_bodies r) (given_accessors not_given not_given) = refl
  changes_alike old w e c (data_bodies r) (given_accessors not_given (given_half q)) = refl
  changes_alike old w e c (data_bodies r) (given_accessors (given_half p) not_given) = refl
  changes_alike old w e c (data_bodies r) (given_accessors (given_half p) (given_half q)) = refl
  changes_alike old w e c (accessors r) no_bodies = refl
  changes_alike old w e c (accessors r) (given_values q) = refl
  changes_alike old w e c (accessors r) (given_accessors not_given not_given) = refl
  changes_alike old w e c (accessors r) (given_accessors not_given (given_half q)) = refl
  changes_alike old w e c (accessors r) (given_accessors (given_half p) not_given) = refl
  changes_alike old w e c (accessors r) (given_accessors (given_half p) (given_half q)) = refl

  half_or : {a b : Option ObjId} {x y : Option (Option ObjId)} → SameObject β a b → HalvesSame β x y → SameObject β (given_or a x) (given_or b y)
  half_or p not_given = p
  half_or p (given_half q) = q

  -- a body that is given anew, under the labels of the descriptor and of a half that stays
  pub bodies_behind : (old : Marks) (w e c : Option Bool) (given other : Label) {l m : Label} {a b : Body} {x y : GivenBody} → Sees observer given → given ≡ other → BodiesAgree observer β l m a b → GivenSame β x y
      → changes_body (record { body = a; marks = old }) (defines w e c x) ≡ true
      → BodiesAgree observer β (body_label (keeps_a_half (record { body = a; marks = old }) (defines w e c x)) given l) (body_label (keeps_a_half (record { body = b; marks = old }) (defines w e c y)) other m)
      (defined_over (record { body = a; marks = old }) (defines w e c x)).body (defined_over (record { body = b; marks = old }) (defines w e c y)).body
  bodies_behind old None e c given other h d (data_bodies r) no_bodies f = absurd (true≢false (sym f))
  bodies_behind old (Some mark) e c given other h d (data_bodies r) no_bodies f = absurd (true≢false (sym f))
  bodies_behind old None e c given other h d (accessors r) no_bodies f = absurd (true≢false (sym f))
  bodies_behind old (Some mark) e c given other h d (accessors r) no_bodies f = data_bodies (seen h d primitives)
  bodies_behind old w e c given other h d (data_bodies r) (given_values q) f = data_bodies (seen h d q)
  bodies_behind old w e c given other h d (accessors r) (given_values q) f = data_bodies (seen h d q)
  bodies_behind old w e c given other h d (data_bodies r) (given_accessors p q) f = accessors (seen h d (half_or neither p, half_or neither q))
  bodies_behind old w e c given other h d (accessors r) (given_accessors (given_half p) (given_half q)) f = accessors (seen h d (p, q))
  bodies_behind old w e c given other h d (accessors r) (given_accessors not_given not_given) f = accessors (alike_join observer (λ (z : Unit {0}) k. k) (seen h d tt) r)
  bodies_behind old w e c given other h d (accessors r) (given_accessors not_given (given_half q)) f = accessors (alike_join observer (λ (z : Unit {0}) k. (k.0, q)) (seen h d tt) r)
  bodies_behind old w e c given other h d (accessors r) (given_accessors (given_half p) not_given) f = accessors (alike_join observer (λ (z : Unit {0}) k. (p, k.1)) (seen h d tt) r)

  -- a property that is new
  pub bodies_new : (w e c : Option Bool) (given other : Label) {x y : GivenBody} → Sees observer given → given ≡ other → GivenSame β x y → BodiesAgree observer β given other (defined_new (defines w e c x)).body (defined_new (defines w e c y)).body
  bodies_new None e c given other h d no_bodies = data_bodies (seen h d primitives)
  bodies_new (Some mark) e c given other h d no_bodies = data_bodies (seen h d primitives)
  bodies_new w e c given other h d (given_values q) = data_bodies (seen h d q)
  bodies_new w e c given other h d (given_accessors p q) = accessors (seen h d (half_or neither p, half_or neither q))

  pub marks_new : (marks : GivenMarks) {x y : GivenBody} → GivenSame β x y → (defined_new (record { marks = marks; body = x })).marks ≡ (defined_new (record { marks = marks; body = y })).marks
  marks_new marks q = ap (λ k. marks_of_kind k default_property.marks marks) (becomes_same false marks q)
