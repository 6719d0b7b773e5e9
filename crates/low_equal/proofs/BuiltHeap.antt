-- The objects that each run starts with, and those that the entries of a set of built-ins make, are sound, whatever the entries are.
use Rattle.std.proofs.Common.{◌≡◌, ℕ, zero, suc, ◌+◌, ◌<◌, ◌≤◌, List, [], ◌∷◌, ◌++◌, length, Bool, true, false, map, if◌then◌else◌, Option, Some, None, slice_get, refl, sym, ap, subst, codes, arith}
use Rattle.std.proofs.lemmas.Option.{same_Some}
use Rattle.origin_labels.specs.Names.{same_name}
use Rattle.js_values.specs.declared.ids.ObjId.{ObjId}
use Rattle.js_values.specs.declared.value.Value.TheVariants as value
use Rattle.js_values.specs.declared.inner.Class.{Class}
use Rattle.js_values.specs.declared.inner.Class.TheVariants as class
use Rattle.js_values.specs.Objects.{Rows, Property, plain, PlainObject, own, fresh_plain}
use Rattle.native_protocol.specs.declared.natives.Form.{Form}
use Rattle.native_protocol.specs.declared.natives.Form.TheVariants as form
use Rattle.native_protocol.specs.declared.request.ErrorKind.{ErrorKind}
use Rattle.native_protocol.specs.declared.request.ErrorKind.TheVariants as kinds
use Rattle.native_protocol.specs.Sets.{SeenEntry}
use Rattle.es_meaning.specs.BuiltIns.{in_set}
use Rattle.es_meaning.specs.Functions.{is_function}
use Rattle.es_meaning.specs.Objects.{defined, with_rows}
use Rattle.es_meaning.specs.Start.{id, object_prototype, global_object, function_prototype, error_prototype, count_property, nan_property, prototype_of_errors, global, prototype_of_functions, prototype_of_arrays, prototype_of_strings, native_function, start_heap}
use Rattle.es_meaning.specs.Holders.{holder_in, named_in, holders, prototypes, holding, with_property_of, with_holder_of, with_holder, prototype_named, prototype_rows, in_front, with_first, with_constructor, left_accessor, made_for, made_on, with_entries, given_rows, with_accessors_if, with_accessors, built_heap}
use Rattle.low_equal.specs.LowEqual.{IsAbsent, nowhere, elsewhere, AreDistinct, no_keys, one_more}
use Rattle.low_equal.proofs.Rows.{own_absent, distinct_altered}
use Rattle.low_equal.proofs.Heaps.{none_some}
use Rattle.low_equal.proofs.SoundHeaps.{HoldsBelow, a_primitive, an_object, MayBeBelow, no_object, some_object, holds, calls, AreBelow, no_row, one_row, no_function, built_in_one, IsSound, AreSound, below_changed, below_defined, distinct_defined, rows_sound, object_sound, length_object, property_sound, last_below, one_more_sound, below_one, function_rows_below}

-- ---- the objects that every run starts with

bare_sound : {n : ℕ} (o : ℕ) (c : Class) (proto : Option ObjId) → ((q : ObjId) → proto ≡ Some q → q.0 < o) → IsSound n o (fresh_plain c plain proto)
bare_sound o c proto h = record { distinct = no_keys; rows = no_row; inner = no_function; proto = h }

global_sound : {n : ℕ} → IsSound n 1 global
global_sound = record {
  distinct = one_more nowhere no_keys;
  rows = one_row (holds a_primitive) no_row;
  inner = no_function;
  proto = below_one object_prototype 1 (omega arith);
}

errors_sound : {n : ℕ} (o : ℕ) (kind : ErrorKind) (proto : ObjId) → proto.0 < o → IsSound n o (prototype_of_errors kind proto)
errors_sound o kind proto h = record {
  distinct = one_more (own_absent (codes "name") _ refl) (one_more nowhere no_keys);
  rows = one_row (holds a_primitive) (one_row (holds a_primitive) no_row);
  inner = no_function;
  proto = below_one proto o h;
}

function_prototype_sound : (n o : ℕ) → object_prototype.0 < o → IsSound n o prototype_of_functions
function_prototype_sound n o h = record {
  distinct = one_more nowhere no_keys;
  rows = one_row (holds a_primitive) no_row;
  inner = no_function;
  proto = below_one object_prototype o h;
}

arrays_sound : (n o : ℕ) → object_prototype.0 < o → IsSound n o prototype_of_arrays
arrays_sound n o h = record {
  distinct = one_more nowhere no_keys;
  rows = one_row (holds a_primitive) no_row;
  inner = no_function;
  proto = below_one object_prototype o h;
}

strings_sound : (n o : ℕ) → object_prototype.0 < o → IsSound n o prototype_of_strings
strings_sound n o h = record {
  distinct = one_more nowhere no_keys;
  rows = one_row (holds a_primitive) no_row;
  inner = no_function;
  proto = below_one object_prototype o h;
}

-- a built-in with properties that its keys allow
native_sound : (n o which size : ℕ) (rows : Rows Property) → function_prototype.0 < o → AreDistinct ((codes "length", count_property size) ∷ rows) → AreBelow n rows → IsSound n o (native_function which size rows)
native_sound n o which size rows h d b = record {
  distinct = d;
  rows = one_row (holds a_primitive) b;
  inner = built_in_one;
  proto = below_one function_prototype o h;
}

-- one object after another, from the one with this number on
data AllSound (n : ℕ) : ℕ → List PlainObject → Type 0 where
  no_more : {o : ℕ} → AllSound n o []
  next : {o : ℕ} {p : PlainObject} {h : List PlainObject} → IsSound n o p → AllSound n (suc o) h → AllSound n o (p ∷ h)

sound_at : {n : ℕ} (k : ℕ) (h : List PlainObject) → AllSound n k h → (o : ℕ) (p : PlainObject) → slice_get h o ≡ Some p → (m : ℕ) → m ≡ o + k → IsSound n m p
sound_at k _ no_more o p e m d = absurd (none_some p e)
sound_at {n} k _ (next {p = q} s r) zero p e m d = let here : k ≡ m = omega arith in subst (λ i. IsSound n i p) here (subst (IsSound n k) (same_Some q p e) s)
sound_at k _ (next {h = h} s r) (suc o) p e m d = let further : m ≡ o + suc k = omega arith in sound_at (suc k) h r o p e m further

errors_behind : {n : ℕ} (o : ℕ) (kind : ErrorKind) → (error_prototype kinds.Error).0 < o → IsSound n o (prototype_of_errors kind (error_prototype kinds.Error))
errors_behind o kind h = errors_sound o kind (error_prototype kinds.Error) h

behind_objects : {n : ℕ} (o : ℕ) (c : Class) → object_prototype.0 < o → IsSound n o (fresh_plain c plain (Some object_prototype))
behind_objects o c h = bare_sound o c (Some object_prototype) (below_one object_prototype o h)

leaving_accessor : {n : ℕ} (o which : ℕ) → function_prototype.0 < o → IsSound n o (native_function which 0 [])
leaving_accessor {n} o which h = native_sound n o which 0 [] h (one_more nowhere no_keys) no_row

start_objects : AllSound (length start_heap) 0 start_heap
start_objects =
    next (bare_sound 0 class.Object None (λ q e. absurd (none_some q e)))
    (next global_sound
    (next (errors_sound 2 kinds.Error object_prototype (omega arith))
    (next (errors_behind 3 kinds.EvalError (omega arith))
    (next (errors_behind 4 kinds.RangeError (omega arith))
    (next (errors_behind 5 kinds.ReferenceError (omega arith))
    (next (errors_behind 6 kinds.SyntaxError (omega arith))
    (next (errors_behind 7 kinds.TypeError (omega arith))
    (next (errors_behind 8 kinds.UriError (omega arith))
    (next (function_prototype_sound (length start_heap) 9 (omega arith))
    (next (behind_objects 10 class.Boolean (omega arith))
    (next (behind_objects 11 class.Number (omega arith))
    (next (behind_objects 12 class.Math (omega arith))
    (next (behind_objects 13 class.Json (omega arith))
    (next (arrays_sound (length start_heap) 14 (omega arith))
    (next (strings_sound (length start_heap) 15 (omega arith))
    (next (leaving_accessor 16 0 (omega arith))
    (next (leaving_accessor 17 1 (omega arith))
    (next (leaving_accessor 18 2 (omega arith)) no_more))))))))))))))))))

start_sound : AreSound start_heap
start_sound = record { starts = omega arith; sound = λ o p e. let same : o ≡ o + 0 = omega arith in sound_at 0 start_heap start_objects o p e o same }

-- ---- what an entry makes: a built-in more, and properties of objects that there are

-- tables of objects that there are
data TableBelow (n : ℕ) : List (List ℕ × ObjId) → Type 0 where
  none_named : TableBelow n []
  one_named : {name : List ℕ} {o : ObjId} {table : List (List ℕ × ObjId)} → o.0 < n → TableBelow n table → TableBelow n ((name, o) ∷ table)

one_of : {n : ℕ} (b : Bool) {x y : Option ObjId} → MayBeBelow n x → MayBeBelow n y → MayBeBelow n (if b then x else y)
one_of true p q = p
one_of false p q = q

named_below : {n : ℕ} (name : List ℕ) {table : List (List ℕ × ObjId)} → TableBelow n table → MayBeBelow n (named_in name table)
named_below name none_named = no_object
named_below name (one_named {name = other} h t) = one_of (same_name name other) (some_object h) (named_below name t)

holders_below : (n : ℕ) → length start_heap ≤ n → TableBelow n holders
holders_below n h = one_named (omega arith) (one_named (omega arith) none_named)

prototypes_below : (n : ℕ) → length start_heap ≤ n → TableBelow n prototypes
prototypes_below n h =
    one_named (omega arith) (one_named (omega arith) (one_named (omega arith) (one_named (omega arith) (one_named (omega arith) (one_named (omega arith)
    (one_named (omega arith) (one_named (omega arith) (one_named (omega arith) (one_named (omega arith) (one_named (omega arith) (one_named (omega arith) (one_named (omega arith) none_named))))))))))))

holder_of_sound : (name : List ℕ) {x : Option ObjId} (h : List PlainObject) → MayBeBelow (length h) x → AreSound h → AreSound (with_holder_of name x h)
holder_of_sound name h no_object s = s
holder_of_sound name h (some_object {o = o} lt) s = property_sound global_object.0 name (holding (value.Object o)) h (holds (an_object lt)) s

holder_sound : (e : SeenEntry) (h : List PlainObject) → AreSound h → AreSound (with_holder e h)
holder_sound e h s = holder_of_sound e.holder h (named_below e.holder (holders_below (length h) s.starts)) s

prototype_keys : (x : Option ObjId) (size : ℕ) → AreDistinct ((codes "length", count_property size) ∷ prototype_rows x)
prototype_keys None size = one_more nowhere no_keys
prototype_keys (Some o) size = one_more (own_absent (codes "length") _ refl) (one_more nowhere no_keys)

prototype_rows_below : {n : ℕ} {x : Option ObjId} → MayBeBelow n x → AreBelow n (prototype_rows x)
prototype_rows_below no_object = no_row
prototype_rows_below (some_object h) = one_row (holds (an_object h)) no_row

-- a property in front of the others
front_distinct : (name : List ℕ) (p : Property) {rows : Rows Property} → IsAbsent name rows → AreDistinct rows → AreDistinct (in_front name p rows)
front_distinct name p nowhere no_keys = one_more nowhere no_keys
front_distinct name p (elsewhere {other = key} {s = q} {rows = rows} n a) (one_more b d) = by_name (same_name key (codes "length"))
  where
    by_name : (c : Bool) → AreDistinct (if c then (key, q) ∷ (name, p) ∷ rows else (name, p) ∷ (key, q) ∷ rows)
    by_name true = one_more (elsewhere (λ e. n (sym e)) b) (one_more a d)
    by_name false = one_more (elsewhere n a) (one_more b d)

front_below : {n : ℕ} (name : List ℕ) (p : Property) {rows : Rows Property} → HoldsBelow n p.body → AreBelow n rows → AreBelow n (in_front name p rows)
front_below name p h no_row = one_row h no_row
front_below {n} name p h (one_row {key = key} {p = q} {rs = rows} b r) = by_name (same_name key (codes "length"))
  where
    by_name : (c : Bool) → AreBelow n (if c then (key, q) ∷ (name, p) ∷ rows else (name, p) ∷ (key, q) ∷ rows)
    by_name true = one_row b (one_row h r)
    by_name false = one_row h (one_row b r)

first_distinct : (x : Option Property) (name : List ℕ) (p : Property) (rows : Rows Property) → own name rows ≡ x → AreDistinct rows → AreDistinct (with_first x name p rows)
first_distinct None name p rows e d = front_distinct name p (own_absent name rows e) d
first_distinct (Some q) name p rows e d = distinct_altered name (λ s. Some p) d

first_below : {n : ℕ} (x : Option Property) (name : List ℕ) (p : Property) {rows : Rows Property} → HoldsBelow n p.body → AreBelow n rows → AreBelow n (with_first x name p rows)
first_below None name p h r = front_below name p h r
first_below (Some q) name p h r = below_changed name (λ s. p) (λ s. h) r

constructor_sound : (x : Option ObjId) (f : ℕ) (h : List PlainObject) → f < length h → AreSound h → AreSound (with_constructor x f h)
constructor_sound None f h k s = s
constructor_sound (Some o) f h k s = object_sound h o.0 (λ q. with_rows q (with_first (own (codes "constructor") q.rows) (codes "constructor") (holding (value.Object (id f))) q.rows)) s
    (λ q e z. rows_sound q _ z (first_distinct (own (codes "constructor") q.rows) (codes "constructor") (holding (value.Object (id f))) q.rows refl z.distinct)
    (first_below (own (codes "constructor") q.rows) (codes "constructor") (holding (value.Object (id f))) (holds (an_object k)) z.rows))

constructor_length : (x : Option ObjId) (f : ℕ) (h : List PlainObject) → length (with_constructor x f h) ≡ length h
constructor_length None f h = refl
constructor_length (Some o) f h = length_object o.0 _ h

module _ (e : SeenEntry) (which holder : ℕ) (h : List PlainObject) (s : AreSound h) where
  -- with the built-in, behind all objects that there are
  abbrev with_native : ℕ → Rows Property → List PlainObject
  with_native size rows = h ++ native_function which size rows ∷ []

  native_below : (size : ℕ) (rows : Rows Property) → length h < length (with_native size rows)
  native_below size rows = last_below h (native_function which size rows)

  with_native_sound : (size : ℕ) (rows : Rows Property) → AreDistinct ((codes "length", count_property size) ∷ rows) → AreBelow (suc (length h)) rows → AreSound (with_native size rows)
  with_native_sound size rows d b =
      let some = s.starts in
      one_more_sound h (native_function which size rows) (native_sound (suc (length h)) (length h) which size rows (omega arith) d b) s

  function_entry : AreSound (made_for form.Function e which holder h)
  function_entry = property_sound holder e.name (holding (value.Object (id (length h)))) (with_native e.length []) (holds (an_object (native_below e.length []))) (with_native_sound e.length [] (one_more nowhere no_keys) no_row)

  constructor_of : (x : Option ObjId) → MayBeBelow (suc (length h)) x → AreSound (with_property_of holder e.name (holding (value.Object (id (length h)))) (with_constructor x (length h) (with_native e.length (prototype_rows x))))
  constructor_of x b = property_sound holder e.name (holding (value.Object (id (length h)))) (with_constructor x (length h) (with_native e.length (prototype_rows x)))
      (holds (an_object (subst (λ n. length h < n) (sym (constructor_length x (length h) (with_native e.length (prototype_rows x)))) (native_below e.length (prototype_rows x)))))
      (constructor_sound x (length h) (with_native e.length (prototype_rows x)) (native_below e.length (prototype_rows x)) (with_native_sound e.length (prototype_rows x) (prototype_keys x e.length) (prototype_rows_below b)))

  constructor_entry : AreSound (made_for form.Constructor e which holder h)
  constructor_entry = let some = s.starts in constructor_of (prototype_named e.name) (named_below e.name (prototypes_below (suc (length h)) (omega arith)))

  accessor_entry : AreSound (made_for form.LeftAccessor e which holder h)
  accessor_entry = property_sound holder e.name (left_accessor e (length h)) (with_native 0 []) (calls (some_object (native_below 0 [])) (some_object (native_below 0 []))) (with_native_sound 0 [] (one_more nowhere no_keys) no_row)

  entry_sound : (f : Form) → AreSound (made_for f e which holder h)
  entry_sound form.Function = function_entry
  entry_sound form.Constructor = constructor_entry
  entry_sound form.LeftFunction = function_entry
  entry_sound form.LeftAccessor = accessor_entry
  entry_sound form.NotANumber = property_sound holder e.name nan_property h (holds a_primitive) s

made_sound : (x : Option ℕ) (e : SeenEntry) (which : ℕ) (h : List PlainObject) → AreSound h → AreSound (made_on x e which h)
made_sound None e which h s = s
made_sound (Some holder) e which h s = entry_sound e which holder h s e.form

-- ---- the entries in turn

entries_sound : (n : ℕ) (entries : List SeenEntry) (h : List PlainObject) → AreSound h → AreSound (with_entries n entries h)
unfolding with_entries
entries_sound n [] h s = s
entries_sound n (e ∷ entries) h s =
    entries_sound (suc n) entries (made_on (holder_in (with_holder e h) e.holder) e (in_set n) (with_holder e h))
    (made_sound (holder_in (with_holder e h) e.holder) e (in_set n) (with_holder e h) (holder_sound e h s))

-- ---- the accessors of functions

given_sound : (n : ℕ) {more : Rows Property} (rows : Rows Property) → AreBelow n more → AreDistinct rows → AreBelow n rows → AreDistinct (given_rows more rows) × AreBelow n (given_rows more rows)
given_sound n rows no_row d b = (d, b)
given_sound n rows (one_row {key = key} {p = q} h m) d b = given_sound n (defined key q rows) m (distinct_defined (own key rows) key q rows refl d) (below_defined (own key rows) key q h b)

accessors_if_sound : (b : Bool) (n o : ℕ) (p : PlainObject) → length start_heap ≤ n → IsSound n o p → IsSound n o (with_accessors_if b p)
accessors_if_sound true n o p some s = let z = given_sound n p.rows (function_rows_below n some) s.distinct s.rows in rows_sound p _ s z.0 z.1
accessors_if_sound false n o p some s = s

length_map : {A B : Type 0} (f : A → B) (xs : List A) → length (map f xs) ≡ length xs
length_map f [] = refl
length_map f (x ∷ xs) = ap suc (length_map f xs)

-- the objects are changed one by one
mapped_at : {A B : Type 0} (F : ℕ → A → Type 0) (G : ℕ → B → Type 0) (f : A → B) (xs : List A) → ((i : ℕ) (x : A) → F i x → G i (f x)) → ((i : ℕ) (x : A) → slice_get xs i ≡ Some x → F i x) → (i : ℕ) (y : B) → slice_get (map f xs) i ≡ Some y → G i y
mapped_at F G f [] k h i y e = absurd (none_some y e)
mapped_at F G f (x ∷ xs) k h zero y e = subst (G 0) (same_Some (f x) y e) (k 0 x (h 0 x refl))
mapped_at F G f (x ∷ xs) k h (suc i) y e = mapped_at (λ n. F (suc n)) (λ n. G (suc n)) f xs (λ n. k (suc n)) (λ n z d. h (suc n) z d) i y e

accessors_sound : (h : List PlainObject) → AreSound h → AreSound (with_accessors h)
accessors_sound h s =
    let change = λ (p : PlainObject). with_accessors_if (is_function p.class) p in
    record {
      starts = subst (λ n. length start_heap ≤ n) (sym (length_map change h)) s.starts;
      sound = mapped_at (IsSound (length h)) (IsSound (length (map change h))) change h (λ o p z. subst (λ n. IsSound n o (change p)) (sym (length_map change h)) (accessors_if_sound (is_function p.class) (length h) o p s.starts z)) s.sound;
    }

pub built_sound : (entries : List SeenEntry) → AreSound (built_heap entries)
unfolding built_heap
built_sound entries = accessors_sound (with_entries 0 entries start_heap) (entries_sound 0 entries start_heap start_sound)
