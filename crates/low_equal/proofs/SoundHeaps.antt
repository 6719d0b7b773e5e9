-- Heaps whose references are all to objects of theirs: without labels they stand for themselves, and what keeps them so.
use Rattle.std.proofs.Common.{◌≡◌, ℕ, zero, suc, ◌<◌, ◌≤◌, List, [], ◌∷◌, ◌++◌, length, Bool, true, false, cond, nat_eq, nat_lt, ◌&&◌, Option, Some, None, slice_get, set, ⊎_elim, refl, sym, ◌∙◌, ap, subst, codes, arith}
use Rattle.std.proofs.lemmas.Bool.{lt-ltb, ltb-true, and_parts, and_from, eqb-true, eq-eqb, cases_eq}
use Rattle.std.proofs.lemmas.Option.{same_Some}
use Rattle.std.proofs.lemmas.List.{length-append}
use Rattle.std.specs.Option.{option_map}
use Rattle.origin_labels.specs.Label.{Label, bottom}
use Rattle.origin_labels.specs.Names.{same_name}
use Rattle.js_number.specs.declared.primitive.Primitive.{Primitive}
use Rattle.js_values.specs.declared.ids.ObjId.{ObjId}
use Rattle.js_values.specs.declared.value.Value.{Value}
use Rattle.js_values.specs.declared.value.Value.TheVariants as value
use Rattle.js_values.specs.declared.property.Body.{Body}
use Rattle.js_values.specs.declared.property.Body.TheVariants.{Data, Accessor}
use Rattle.js_values.specs.Objects.{Rows, Property, PlainInner, plain, script, native, PlainObject, own, changed, with_row}
use Rattle.es_meaning.specs.Start.{count_property, function_rows, start_heap}
use Rattle.es_meaning.specs.Objects.{defined, defined_over, with_rows, with_object, replaced}
use Rattle.es_meaning.specs.Functions.{env_id}
use Rattle.es_meaning.specs.Holders.{with_property_of}
use Rattle.flow_meaning.specs.Erased.{made_rows, made_inner, unlabelled_object, unlabelled_heap}
use Rattle.low_equal.specs.LowEqual.{Pairing, IsOneToOne, seen, SameValue, primitives, objects, SameObject, neither, both, BodiesAgree, data_bodies, accessors, RowsAgree, no_rows, row, InnersAgree, plains, scripts, natives, ObjectsAgree, seen_shape, Both, both_stand, nowhere, elsewhere, AreDistinct, no_keys, one_more, IsAbsent, TargetBelow, IsFormed, FormedAt, HeapsAgree}
use Rattle.low_equal.proofs.Labels.{sees_bottom}
use Rattle.low_equal.proofs.Rows.{own_absent, distinct_altered, distinct_with_row}
use Rattle.low_equal.proofs.HeapActs.{set_here, set_other}
use Rattle.low_equal.proofs.Heaps.{none_some, get_cases}

-- ---- heaps of so many objects whose references are to objects of theirs, and whose functions close over the outermost record

pub data IsBelow (n : ℕ) : Value → Type 0 where
  a_primitive : {p : Primitive} → IsBelow n (value.Primitive p)
  an_object : {o : ObjId} → o.0 < n → IsBelow n (value.Object o)

-- so of an object that there may be
pub data MayBeBelow (n : ℕ) : Option ObjId → Type 0 where
  no_object : MayBeBelow n None
  some_object : {o : ObjId} → o.0 < n → MayBeBelow n (Some o)

-- of what a property holds: a value, or a getter and a setter
pub data HoldsBelow (n : ℕ) : Body → Type 0 where
  holds : {v : Value} → IsBelow n v → HoldsBelow n (Data v)
  calls : {f g : Option ObjId} → MayBeBelow n f → MayBeBelow n g → HoldsBelow n (Accessor f g)

pub data AreBelow (n : ℕ) : Rows Property → Type 0 where
  no_row : AreBelow n []
  one_row : {key : List ℕ} {p : Property} {rs : Rows Property} → HoldsBelow n p.body → AreBelow n rs → AreBelow n ((key, p) ∷ rs)

-- no function, one of the script, or a built-in: none is bound
pub data IsOutermost : PlainInner → Type 0 where
  no_function : IsOutermost plain
  of_the_script : {number : ℕ} → IsOutermost (script number (env_id 0))
  built_in_one : {which : ℕ} → IsOutermost (native which)

pub record IsSound (n o : ℕ) (p : PlainObject) : Type 0 where
  pub distinct : AreDistinct p.rows
  pub rows : AreBelow n p.rows
  pub inner : IsOutermost p.inner
  pub proto : (q : ObjId) → p.proto ≡ Some q → q.0 < o

-- of a heap of so many objects, or of more
pub record AreSound (h : List PlainObject) : Type 0 where
  pub starts : length start_heap ≤ length h
  pub sound : (o : ℕ) (p : PlainObject) → slice_get h o ≡ Some p → IsSound (length h) o p

-- ---- they stand for themselves

made_absent : (label : Label) {key : List ℕ} {rs : Rows Property} → IsAbsent key rs → IsAbsent key (made_rows label rs)
made_absent label nowhere = nowhere
made_absent label (elsewhere n a) = elsewhere n (made_absent label a)

made_distinct : (label : Label) {rs : Rows Property} → AreDistinct rs → AreDistinct (made_rows label rs)
made_distinct label no_keys = no_keys
made_distinct label (one_more a d) = one_more (made_absent label a) (made_distinct label d)

-- each object of a heap of so many, and the record of the outermost code
abbrev pub at_heap : ℕ → Pairing
at_heap n = record { objects = λ i j. nat_eq i j && nat_lt i n; records = λ i j. nat_eq i 0 && nat_eq j 0 }

pub itself_at : (n o : ℕ) → o < n → (at_heap n).objects o o ≡ true
itself_at n o h = and_from (nat_eq o o) (nat_lt o n) (eq-eqb o o refl) (lt-ltb o n h)

one_heap : (n : ℕ) → IsOneToOne (at_heap n).objects
one_heap n i j a b p q =
    let x = eqb-true i j (and_parts (nat_eq i j) (nat_lt i n) p).0 in
    let y = eqb-true a b (and_parts (nat_eq a b) (nat_lt a n) q).0 in
    (λ e. sym x ∙ e ∙ y, λ e. x ∙ e ∙ sym y)

get_made : (h : List PlainObject) (o : ℕ) → slice_get (unlabelled_heap h) o ≡ option_map unlabelled_object (slice_get h o)
get_made [] o = refl
get_made (p ∷ h) zero = refl
get_made (p ∷ h) (suc o) = get_made h o

none_there : (h : List PlainObject) (o : ℕ) → slice_get h o ≡ None → o < length h → ⊥
none_there [] o e lt = absurd (omega arith)
none_there (p ∷ h) zero e lt = none_some p (sym e)
none_there (p ∷ h) (suc o) e lt = none_there h o e (omega arith)

module _ (observer : Label) (n : ℕ) where
  value_itself : {v : Value} → IsBelow n v → SameValue (at_heap n) v v
  value_itself a_primitive = primitives
  value_itself (an_object {o = o} h) = objects (itself_at n o.0 h)

  one_itself : {f : Option ObjId} → MayBeBelow n f → SameObject (at_heap n) f f
  one_itself no_object = neither
  one_itself (some_object {o = o} h) = both (itself_at n o.0 h)

  body_itself : {b : Body} → HoldsBelow n b → BodiesAgree observer (at_heap n) bottom bottom b b
  body_itself (holds h) = data_bodies (seen (sees_bottom observer) refl (value_itself h))
  body_itself (calls f g) = accessors (seen (sees_bottom observer) refl (one_itself f, one_itself g))

  rows_itself : {rs : Rows Property} → AreBelow n rs → RowsAgree observer (at_heap n) (made_rows bottom rs) (made_rows bottom rs)
  rows_itself no_row = no_rows
  rows_itself (one_row h r) = row (seen (sees_bottom observer) refl (refl, body_itself h)) (rows_itself r)

  inner_itself : {i : PlainInner} → IsOutermost i → InnersAgree observer (at_heap n) (made_inner bottom i) (made_inner bottom i)
  inner_itself no_function = plains
  inner_itself of_the_script = scripts refl
  inner_itself built_in_one = natives

  object_itself : {o : ℕ} (p : PlainObject) → o < n → IsSound n o p → ObjectsAgree observer (at_heap n) (unlabelled_object p) (unlabelled_object p)
  object_itself {o} p lt s = record {
    class = refl;
    inner = inner_itself s.inner;
    links = seen (sees_bottom observer) refl (proto_itself p.proto s.proto);
    shapes = seen_shape (sees_bottom observer) refl refl (rows_itself s.rows);
  }
    where
      proto_itself : (x : Option ObjId) → ((q : ObjId) → x ≡ Some q → q.0 < o) → SameObject (at_heap n) x x
      proto_itself None h = neither
      proto_itself (Some q) h = let below = h q refl in both (itself_at n q.0 (omega arith))

module _ (observer : Label) where
  no_target : (o : ℕ) {i : PlainInner} → IsOutermost i → TargetBelow observer o (made_inner bottom i)
  no_target o no_function = tt
  no_target o of_the_script = tt
  no_target o built_in_one = tt

  pub sound_itself : (h : List PlainObject) → AreSound h → HeapsAgree observer (at_heap (length h)) (unlabelled_heap h) (unlabelled_heap h)
  sound_itself h s = record {
    starts = λ o lt. let some = s.starts in itself_at (length h) o (omega arith);
    paired = λ o q x. let p = and_parts (nat_eq o q) (nat_lt o (length h)) x in
        subst (λ m. Both (ObjectsAgree observer (at_heap (length h))) (slice_get (unlabelled_heap h) o) (slice_get (unlabelled_heap h) m)) (eqb-true o q p.0) (at_place o (ltb-true o (length h) p.1));
    one_to_one = one_heap (length h);
    left = λ o q x. formed o;
    right = λ o q x. formed q;
  }
    where
      at_place : (o : ℕ) → o < length h → Both (ObjectsAgree observer (at_heap (length h))) (slice_get (unlabelled_heap h) o) (slice_get (unlabelled_heap h) o)
      at_place o lt = subst (λ x. Both (ObjectsAgree observer (at_heap (length h))) x x) (sym (get_made h o)) (go (slice_get h o) refl)
        where
          go : (x : Option PlainObject) → slice_get h o ≡ x → Both (ObjectsAgree observer (at_heap (length h))) (option_map unlabelled_object x) (option_map unlabelled_object x)
          go None e = absurd (none_there h o e lt)
          go (Some p) e = both_stand (object_itself observer (length h) p lt (s.sound o p e))

      formed : (o : ℕ) → FormedAt observer (unlabelled_heap h) o
      formed o p e = go (slice_get h o) refl (sym (get_made h o) ∙ e)
        where
          go : (x : Option PlainObject) → slice_get h o ≡ x → option_map unlabelled_object x ≡ Some p → IsFormed observer o p
          go None d z = absurd (none_some p z)
          go (Some q) d z = subst (IsFormed observer o) (same_Some (unlabelled_object q) p z) (record {
            below = λ v x y. (s.sound o q d).proto x y;
            target = no_target o (s.sound o q d).inner;
            distinct = made_distinct bottom (s.sound o q d).distinct;
          })

-- ---- what is below stays below where there are more objects, and where a property is given

more_value : {n m : ℕ} {v : Value} → n ≤ m → IsBelow n v → IsBelow m v
more_value h a_primitive = a_primitive
more_value h (an_object lt) = an_object (omega arith)

more_may : {n m : ℕ} {f : Option ObjId} → n ≤ m → MayBeBelow n f → MayBeBelow m f
more_may h no_object = no_object
more_may h (some_object lt) = some_object (omega arith)

more_holds : {n m : ℕ} {b : Body} → n ≤ m → HoldsBelow n b → HoldsBelow m b
more_holds h (holds b) = holds (more_value h b)
more_holds h (calls f g) = calls (more_may h f) (more_may h g)

more_below : {n m : ℕ} {rs : Rows Property} → n ≤ m → AreBelow n rs → AreBelow m rs
more_below h no_row = no_row
more_below h (one_row b r) = one_row (more_holds h b) (more_below h r)

pub more_sound : {n m o : ℕ} {p : PlainObject} → n ≤ m → IsSound n o p → IsSound m o p
more_sound h s = record { distinct = s.distinct; rows = more_below h s.rows; inner = s.inner; proto = s.proto }

pub below_behind : {n : ℕ} {rs qs : Rows Property} → AreBelow n rs → AreBelow n qs → AreBelow n (rs ++ qs)
below_behind no_row b = b
below_behind (one_row h a) b = one_row h (below_behind a b)

pub below_changed : {n : ℕ} (key : List ℕ) (change : Property → Property) → ((p : Property) → HoldsBelow n (change p).body) → {rs : Rows Property} → AreBelow n rs → AreBelow n (changed key change rs)
below_changed key change h no_row = no_row
below_changed {n} key change h (one_row {key = k} {p = p} {rs = rs} b r) = at_first (same_name k key) (below_changed key change h r)
  where
    at_first : (t : Bool) → AreBelow n (changed key change rs) → AreBelow n (cond t ((k, change p) ∷ rs) ((k, p) ∷ changed key change rs))
    at_first true q = one_row (h p) r
    at_first false q = one_row b q

pub below_with_row : {n : ℕ} (key : List ℕ) (p : Property) {rs : Rows Property} → HoldsBelow n p.body → AreBelow n rs → AreBelow n (with_row key p rs)
below_with_row key p h r = below_behind r (one_row h no_row)

pub below_defined : {n : ℕ} (x : Option Property) (key : List ℕ) (p : Property) {rs : Rows Property} → HoldsBelow n p.body → AreBelow n rs → AreBelow n (defined_over x key p rs)
below_defined None key p h r = below_with_row key p h r
below_defined (Some q) key p h r = below_changed key (λ s. p) (λ s. h) r

pub distinct_defined : (x : Option Property) (key : List ℕ) (p : Property) (rs : Rows Property) → own key rs ≡ x → AreDistinct rs → AreDistinct (defined_over x key p rs)
distinct_defined None key p rs e d = distinct_with_row key p (own_absent key rs e) d
distinct_defined (Some q) key p rs e d = distinct_altered key (λ s. Some p) d

-- ---- what keeps a heap sound: an object that is changed, a property, and objects more

pub rows_sound : {n o : ℕ} (p : PlainObject) (rs : Rows Property) → IsSound n o p → AreDistinct rs → AreBelow n rs → IsSound n o (with_rows p rs)
rows_sound p rs s d b = record { distinct = d; rows = b; inner = s.inner; proto = s.proto }

pub length_set : {A : Type 0} (xs : List A) (i : ℕ) (x : A) → length (set xs i x) ≡ length xs
length_set [] i x = refl
length_set (y ∷ xs) zero x = refl
length_set (y ∷ xs) (suc i) x = ap suc (length_set xs i x)

pub length_object : (o : ℕ) (change : PlainObject → PlainObject) (h : List PlainObject) → length (with_object o change h) ≡ length h
length_object o change h = go (slice_get h o)
  where
    go : (x : Option PlainObject) → length (replaced x o change h) ≡ length h
    go None = refl
    go (Some p) = length_set h o (change p)

set_sound : (h : List PlainObject) (i : ℕ) (p q : PlainObject) → slice_get h i ≡ Some p → IsSound (length h) i q → AreSound h → AreSound (set h i q)
set_sound h i p q here k s = record {
  starts = subst (λ n. length start_heap ≤ n) (sym (length_set h i q)) s.starts;
  sound = λ o x e. subst (λ n. IsSound n o x) (sym (length_set h i q)) (⊎_elim
      (λ d. subst (IsSound (length h) o) (same_Some q x (sym (set_here h i q p here) ∙ ap (slice_get (set h i q)) d ∙ e)) (subst (λ n. IsSound (length h) n q) d k))
      (λ d. s.sound o x (sym (set_other h i o q d) ∙ e)) (cases_eq i o));
}

pub object_sound : (h : List PlainObject) (i : ℕ) (change : PlainObject → PlainObject) → AreSound h → ((p : PlainObject) → slice_get h i ≡ Some p → IsSound (length h) i p → IsSound (length h) i (change p)) → AreSound (with_object i change h)
object_sound h i change s k = go (slice_get h i) refl
  where
    go : (x : Option PlainObject) → slice_get h i ≡ x → AreSound (replaced x i change h)
    go None e = s
    go (Some p) e = set_sound h i p (change p) e (k p e (s.sound i p e)) s

pub property_sound : (o : ℕ) (name : List ℕ) (p : Property) (h : List PlainObject) → HoldsBelow (length h) p.body → AreSound h → AreSound (with_property_of o name p h)
property_sound o name p h b s = object_sound h o (λ q. with_rows q (defined name p q.rows)) s
    (λ q e k. rows_sound q _ k (distinct_defined (own name q.rows) name p q.rows refl k.distinct) (below_defined (own name q.rows) name p b k.rows))

one_longer : {A : Type 0} (xs : List A) (x : A) → length (xs ++ x ∷ []) ≡ suc (length xs)
one_longer [] x = refl
one_longer (y ∷ xs) x = ap suc (one_longer xs x)

pub last_below : {A : Type 0} (xs : List A) (x : A) → length xs < length (xs ++ x ∷ [])
last_below xs x = let n = one_longer xs x in omega arith

-- what is asked of all elements of a list with one more
with_last : {A : Type 0} (F : ℕ → A → Type 0) (xs : List A) (a : A) → ((i : ℕ) (x : A) → slice_get xs i ≡ Some x → F i x) → F (length xs) a → (i : ℕ) (x : A) → slice_get (xs ++ a ∷ []) i ≡ Some x → F i x
with_last F xs a h p i x e = ⊎_elim (λ d. h i x d) (λ d. subst (λ n. F n x) (sym d.0) (subst (F (length xs)) d.1 p)) (get_cases xs a x i e)

pub one_more_sound : (h : List PlainObject) (p : PlainObject) → IsSound (suc (length h)) (length h) p → AreSound h → AreSound (h ++ p ∷ [])
one_more_sound h p k s =
    let some = s.starts in
    let longer = one_longer h p in
    record {
      starts = omega arith;
      sound = with_last (IsSound (length (h ++ p ∷ []))) h p (λ o q e. more_sound (omega arith) (s.sound o q e)) (subst (λ n. IsSound n (length h) p) (sym longer) k);
    }

-- two objects that may refer to each other
pub two_more_sound : (h : List PlainObject) (p q : PlainObject) → IsSound (suc (suc (length h))) (length h) p → IsSound (suc (suc (length h))) (suc (length h)) q → AreSound h → AreSound (h ++ p ∷ q ∷ [])
two_more_sound h p q j k s =
    let some = s.starts in
    let n = length-append h (p ∷ q ∷ []) in
    let longer : length (h ++ p ∷ q ∷ []) ≡ suc (suc (length h)) = omega arith in
    record {
      starts = omega arith;
      sound = λ o x e. subst (λ m. IsSound m o x) (sym longer) (with_last (IsSound (suc (suc (length h)))) (h ++ p ∷ []) q
          (with_last (IsSound (suc (suc (length h)))) h p (λ i y d. more_sound (omega arith) (s.sound i y d)) j)
          (subst (λ m. IsSound (suc (suc (length h))) m q) (sym (one_longer h p)) k)
          o x (ap (λ ys. slice_get ys o) (in_turn h) ∙ e));
    }
  where
    in_turn : (xs : List PlainObject) → (xs ++ p ∷ []) ++ q ∷ [] ≡ xs ++ p ∷ q ∷ []
    in_turn [] = refl
    in_turn (x ∷ xs) = ap (λ (ys : List PlainObject). x ∷ ys) (in_turn xs)

-- ---- the parts that functions have

pub below_one : (p : ObjId) (o : ℕ) → p.0 < o → (q : ObjId) → Some p ≡ Some q → q.0 < o
below_one p o h q e = subst (λ (x : ObjId). x.0 < o) (same_Some p q e) h

-- the accessors of each function
pub function_rows_below : (n : ℕ) → length start_heap ≤ n → AreBelow n function_rows
function_rows_below n h = one_row (calls (some_object (omega arith)) (some_object (omega arith))) (one_row (calls (some_object (omega arith)) (some_object (omega arith))) no_row)

-- their keys, behind `length` alone, and behind `length` and `prototype`
pub keys_of_function : (size : ℕ) → AreDistinct ((codes "length", count_property size) ∷ function_rows)
keys_of_function size = one_more (own_absent (codes "length") _ refl) (one_more (own_absent (codes "caller") _ refl) (one_more nowhere no_keys))

pub keys_of_constructor : (size : ℕ) (p : Property) → AreDistinct ((codes "length", count_property size) ∷ (codes "prototype", p) ∷ function_rows)
keys_of_constructor size p = one_more (own_absent (codes "length") _ refl) (one_more (own_absent (codes "prototype") _ refl) (one_more (own_absent (codes "caller") _ refl) (one_more nowhere no_keys)))
