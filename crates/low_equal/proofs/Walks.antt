-- Objects and their prototypes in two runs: what is found, what a read gives, which keys there are.
use Rattle.std.proofs.Common.{◌≡◌, ℕ, zero, suc, ◌<◌, Bool, true, false, cond, List, [], ◌∷◌, ◌++◌, ◌&&◌, not, Option, Some, None, is_some, slice_get, refl, sym, ap, ap₂, subst, arith}
use Rattle.origin_labels.specs.Label.{Label, bottom, union, sees}
use Rattle.origin_labels.specs.Names.{has_name}
use Rattle.js_number.specs.declared.primitive.Primitive.{Primitive as APrimitive}
use Rattle.js_number.specs.declared.primitive.Primitive.TheVariants.{Undefined, Null, Num, Str}
use Rattle.js_number.specs.declared.primitive.Primitive.TheVariants as prims
use Rattle.js_values.specs.declared.ids.ObjId.{ObjId}
use Rattle.js_values.specs.declared.value.Value.{Value}
use Rattle.js_values.specs.declared.value.Value.TheVariants.{Primitive, Object as Reference}
use Rattle.js_values.specs.declared.property.Marks.{Marks}
use Rattle.js_values.specs.declared.property.Body.{Body}
use Rattle.js_values.specs.declared.property.Body.TheVariants.{Data, Accessor}
use Rattle.js_values.specs.declared.property.Slot.{Slot}
use Rattle.js_values.specs.Chains.{onwards, beginning, chain_within}
use Rattle.js_values.specs.Objects.{Rows, Object, number_of, own, keys_of}
use Rattle.js_values.specs.Walks.{object_chain, Found, found_at, find}
use Rattle.object_heap.specs.Formed.{own_in}
use Rattle.prototype_walk.specs.KeyLists.{fresh_keys, existences, Keys, keys_after, keys}
use Rattle.es_meaning.specs.Primitives.{prototype_of_primitive, chain_from}
use Rattle.es_meaning.specs.Start.{string_prototype, number_prototype, boolean_prototype}
use Rattle.flow_meaning.specs.Scopes.{Val, joined}
use Rattle.low_equal.specs.Observed.{Sees, Hides}
use Rattle.low_equal.specs.LowEqual.{Pairing, AreDistinct, Alike, seen, hidden, SameValue, primitives, objects, SameObject, neither, both, Agree, BodiesAgree, data_bodies, accessors, RowsAgree, no_rows, row, seen_rows, ShapesAgree, seen_shape, hidden_shape, ObjectsAgree, HeapsAgree}
use Rattle.low_equal.proofs.Labels.{hides_first, hides_second, sees_bottom}
use Rattle.low_equal.proofs.Agreement.{alike_map, alike_join, two}
use Rattle.low_equal.proofs.Rows.{OwnAgree, neither_names, both_name, own_agree, seen_slot, own_seen}
use Rattle.low_equal.proofs.HeapActs.{objects_agree}

-- the label of the test whether an object itself has a key
abbrev pub own_walk : Label → Option (Slot Label) → Label
own_walk structure None = structure
own_walk structure (Some s) = s.existence

-- ---- what a read gives, but for its label: undefined, the value, or the getter

abbrev pub function_value : Option ObjId → Value
function_value None = Primitive Undefined
function_value (Some f) = Reference f

abbrev pub body_value : Body → Value
body_value (Data v) = v
body_value (Accessor get set) = function_value get

abbrev pub found_value : Option (ℕ × Slot Label) → Val
found_value None = record { value = Primitive Undefined; label = bottom }
found_value (Some f) = record { value = body_value f.1.body; label = f.1.label }

module _ (observer : Label) where
  -- behind a label that is seen
  pub alike_behind : {P : Type 0} (l m : Label) {a b : Label} → Sees observer l → l ≡ m → Alike observer a b P → Alike observer (union l a) (union m b) P
  alike_behind l m s t r = alike_join observer (λ (z : Unit {0}) y. y) (seen s t tt) r

  -- and one that is hidden
  pub hidden_behind : {P : Type 0} (l m a b : Label) → Hides observer l → Hides observer m → Alike observer (union l a) (union m b) P
  hidden_behind l m a b s t = hidden (hides_first observer l a s) (hides_first observer m b t)

  -- values that agree where a label is seen agree under it
  pub agree_over : {β : Pairing} {l m : Label} (v u : Val) → Alike observer l m (Agree observer β v u) → Agree observer β (joined l v) (joined m u)
  agree_over {l = l} {m = m} v u (seen s t r) = alike_join observer (λ x (y : Unit {0}). x) r (seen s t tt)
  agree_over {l = l} {m = m} v u (hidden s t) = hidden (hides_second observer v.label l s) (hides_second observer u.label m t)

  module _ (β : Pairing) where
    -- ---- a key of two objects

    -- it names properties that are seen, or nothing, or what the observer may not know
    pub data OwnCase (p q : Object Label) : Option (Slot Label) → Option (Slot Label) → Type 0 where
      at_both : {s t : Slot Label} → Sees observer s.existence → s.existence ≡ t.existence → s.marks ≡ t.marks → BodiesAgree observer β s.label t.label s.body t.body → OwnCase p q (Some s) (Some t)
      at_none : Sees observer p.structure → p.structure ≡ q.structure → p.extensible ≡ q.extensible → OwnCase p q None None
      out_of_sight : {o u : Option (Slot Label)} → Hides observer (own_walk p.structure o) → Hides observer (own_walk q.structure u) → OwnCase p q o u

    case_seen : {p q : Object Label} {o u : Option (Slot Label)} → Sees observer p.structure → p.structure ≡ q.structure → p.extensible ≡ q.extensible → OwnAgree observer β o u → OwnCase p q o u
    case_seen a b x neither_names = at_none a b x
    case_seen a b x (both_name (seen s t z)) = at_both s t z.0 z.1
    case_seen a b x (both_name (hidden s t)) = out_of_sight s t

    case_hidden : {p q : Object Label} (o u : Option (Slot Label)) → Hides observer p.structure → Hides observer q.structure → OwnAgree observer β (seen_slot observer o) (seen_slot observer u) → OwnCase p q o u
    case_hidden None None a b r = out_of_sight a b
    case_hidden {p} {q} None (Some t) a b r = by_sight (sees observer t.existence) refl r
      where
        by_sight : (c : Bool) → sees observer t.existence ≡ c → OwnAgree observer β None (cond c (Some t) None) → OwnCase p q None (Some t)
        by_sight false e x = out_of_sight a e
        by_sight true e x = elim x [ ]
    case_hidden {p} {q} (Some s) None a b r = by_sight (sees observer s.existence) refl r
      where
        by_sight : (c : Bool) → sees observer s.existence ≡ c → OwnAgree observer β (cond c (Some s) None) None → OwnCase p q (Some s) None
        by_sight false e x = out_of_sight e b
        by_sight true e x = elim x [ ]
    case_hidden {p} {q} (Some s) (Some t) a b r = by_sight (sees observer s.existence) (sees observer t.existence) refl refl r
      where
        by_sight : (c d : Bool) → sees observer s.existence ≡ c → sees observer t.existence ≡ d → OwnAgree observer β (cond c (Some s) None) (cond d (Some t) None) → OwnCase p q (Some s) (Some t)
        by_sight true true e f (both_name (seen x y z)) = at_both x y z.0 z.1
        by_sight true true e f (both_name (hidden x y)) = out_of_sight x y
        by_sight false false e f x = out_of_sight e f
        by_sight true false e f x = elim x [ ]
        by_sight false true e f x = elim x [ ]

    pub own_case : (key : List ℕ) {p q : Object Label} → AreDistinct p.rows → AreDistinct q.rows → ShapesAgree observer β p q → OwnCase p q (own key p.rows) (own key q.rows)
    own_case key d e (seen_shape a b x r) = case_seen a b x (own_agree observer key r)
    own_case key {p} {q} d e (hidden_shape a b r) = case_hidden (own key p.rows) (own key q.rows) a b
        (subst (λ o. OwnAgree observer β o (seen_slot observer (own key q.rows))) (own_seen observer key d) (subst (λ o. OwnAgree observer β (own key (seen_rows observer p.rows)) o) (own_seen observer key e) (own_agree observer key r)))

    -- nothing is named in both, or properties whose existence is seen
    pub data OwnSame : Option (Slot Label) → Option (Slot Label) → Type 0 where
      names_nothing : OwnSame None None
      names_both : {s t : Slot Label} → s.marks ≡ t.marks → BodiesAgree observer β s.label t.label s.body t.body → OwnSame (Some s) (Some t)

    own_test_case : {p q : Object Label} {o u : Option (Slot Label)} → OwnCase p q o u → Alike observer (own_walk p.structure o) (own_walk q.structure u) (OwnSame o u)
    own_test_case (at_both s t m b) = seen s t (names_both m b)
    own_test_case (at_none a b x) = seen a b names_nothing
    own_test_case (out_of_sight a b) = hidden a b

    module _ (h g : List (Object Label)) where
      -- ---- chains

      pub record ArePaired (i j : ℕ) (p q : Object Label) : Type 0 where
        pub pair : β.objects i j ≡ true
        pub here : slice_get h i ≡ Some p
        pub there : slice_get g j ≡ Some q
        pub distinct : AreDistinct p.rows
        pub others : AreDistinct q.rows
        pub agree : ObjectsAgree observer β p q

      -- chains of paired objects, up to the first hidden link
      pub data ChainsAgree : List (ℕ × Object Label) → List (ℕ × Object Label) → Type 0 where
        no_objects : ChainsAgree [] []
        hidden_link : {i j : ℕ} {p q : Object Label} {c d : List (ℕ × Object Label)} → ArePaired i j p q → Hides observer p.link → Hides observer q.link → ChainsAgree ((i, p) ∷ c) ((j, q) ∷ d)
        seen_link : {i j : ℕ} {p q : Object Label} {c d : List (ℕ × Object Label)} → ArePaired i j p q → Sees observer p.link → p.link ≡ q.link → ChainsAgree c d → ChainsAgree ((i, p) ∷ c) ((j, q) ∷ d)

      -- an object's prototype, as far as is walked in each
      abbrev behind_left : ℕ → ℕ → List (ℕ × Object Label)
      behind_left n i = chain_within (λ p. number_of p.proto) h n i

      abbrev behind_right : ℕ → ℕ → List (ℕ × Object Label)
      behind_right m j = chain_within (λ p. number_of p.proto) g m j

      onwards_agree : (n m : ℕ) {o u : Option ObjId} → SameObject β o u → ((a b : ObjId) → o ≡ Some a → u ≡ Some b → β.objects a.0 b.0 ≡ true → ChainsAgree (behind_left n a.0) (behind_right m b.0))
          → ChainsAgree (onwards (number_of o) (behind_left n)) (onwards (number_of u) (behind_right m))
      onwards_agree n m neither k = no_objects
      onwards_agree n m (both e) k = k _ _ refl refl e

      chain_agrees : (n m : ℕ) {i j : ℕ} {p q : Object Label} → ArePaired i j p q → (Sees observer p.link → Sees observer q.link → (a b : ObjId) → p.proto ≡ Some a → q.proto ≡ Some b → β.objects a.0 b.0 ≡ true → ChainsAgree (behind_left n a.0) (behind_right m b.0))
          → ChainsAgree ((i, p) ∷ onwards (number_of p.proto) (behind_left n)) ((j, q) ∷ onwards (number_of q.proto) (behind_right m))
      chain_agrees n m {i} {j} {p} {q} t k = by_link t.agree.links
        where
          by_link : Alike observer p.link q.link (SameObject β p.proto q.proto) → ChainsAgree ((i, p) ∷ onwards (number_of p.proto) (behind_left n)) ((j, q) ∷ onwards (number_of q.proto) (behind_right m))
          by_link (seen s e x) = seen_link t s e (onwards_agree n m x (k s (subst (Sees observer) e s)))
          by_link (hidden s e) = hidden_link t s e

      -- as many steps as are enough for each
      chains_below : HeapsAgree observer β h g → (n m i j : ℕ) → i < n → j < m → β.objects i j ≡ true → ChainsAgree (behind_left n i) (behind_right m j)
      chains_below r zero m i j lt k e = absurd (omega arith)
      chains_below r (suc n) zero i j lt k e = absurd (omega arith)
      chains_below r (suc n) (suc m) i j lt k e =
          let t = two (r.paired i j e) in
          let w = r.left i j e t.one t.is_one in
          let v = r.right i j e t.other t.is_other in
          subst (λ x. ChainsAgree (beginning i x (λ p. onwards (number_of p.proto) (behind_left n))) (behind_right (suc m) j)) (sym t.is_one)
          (subst (λ x. ChainsAgree ((i, t.one) ∷ onwards (number_of t.one.proto) (behind_left n)) (beginning j x (λ p. onwards (number_of p.proto) (behind_right m)))) (sym t.is_other)
          (chain_agrees n m (record { pair = e; here = t.is_one; there = t.is_other; distinct = w.distinct; others = v.distinct; agree = t.related })
          (λ x y a b leads there p. let below = w.below x a leads in let under = v.below y b there in chains_below r n m a.0 b.0 (omega arith) (omega arith) p)))

      -- the chains of paired objects
      pub chains_agree : HeapsAgree observer β h g → {i j : ℕ} → β.objects i j ≡ true → ChainsAgree (object_chain h i) (object_chain g j)
      chains_agree r {i} {j} e = chains_below r (suc i) (suc j) i j (omega arith) (omega arith) e

      -- ---- find

      module _ (key : List ℕ) where
        -- nothing is found in both, or properties whose existence is seen, in paired objects
        pub data FoundSame : Option (ℕ × Slot Label) → Option (ℕ × Slot Label) → Type 0 where
          not_found : FoundSame None None
          found : {i j : ℕ} {s t : Slot Label} → β.objects i j ≡ true → own_in key (slice_get h i) ≡ Some s → own_in key (slice_get g j) ≡ Some t → s.marks ≡ t.marks → BodiesAgree observer β s.label t.label s.body t.body
              → FoundSame (Some (i, s)) (Some (j, t))

        abbrev pub FoundAgree : Found → Found → Type 0
        FoundAgree a b = Alike observer a.walk b.walk (FoundSame a.at b.at)

        hidden_at : (i : ℕ) (p : Object Label) (o : Option (Slot Label)) (rest : Found) → Hides observer (own_walk p.structure o) → Hides observer (found_at i p o rest).walk
        hidden_at i p None rest e = hides_first observer p.structure (union p.link rest.walk) e
        hidden_at i p (Some s) rest e = e

        find_first : {i j : ℕ} {p q : Object Label} {o u : Option (Slot Label)} (a b : Found) → β.objects i j ≡ true → own_in key (slice_get h i) ≡ o → own_in key (slice_get g j) ≡ u → OwnCase p q o u
            → Alike observer (union p.link a.walk) (union q.link b.walk) (FoundSame a.at b.at) → FoundAgree (found_at i p o a) (found_at j q u b)
        find_first a b e x y (at_both s t m z) r = seen s t (found e x y m z)
        find_first {p = p} {q = q} a b e x y (at_none s t z) r = alike_behind p.structure q.structure s t r
        find_first {i} {j} {p} {q} a b e x y (out_of_sight {o = o} {u = u} s t) r = hidden (hidden_at i p o a s) (hidden_at j q u b t)

        pub find_agree : {c d : List (ℕ × Object Label)} → ChainsAgree c d → FoundAgree (find key c) (find key d)
        find_agree no_objects = seen (sees_bottom observer) refl not_found
        find_agree (hidden_link {p = p} {q = q} {c = c} {d = d} z s t) = find_first (find key c) (find key d) z.pair (ap (own_in key) z.here) (ap (own_in key) z.there) (own_case key z.distinct z.others z.agree.shapes)
            (hidden_behind p.link q.link (find key c).walk (find key d).walk s t)
        find_agree (seen_link {p = p} {q = q} {c = c} {d = d} z s t more) = find_first (find key c) (find key d) z.pair (ap (own_in key) z.here) (ap (own_in key) z.there) (own_case key z.distinct z.others z.agree.shapes)
            (alike_behind p.link q.link s t (find_agree more))

        pub found_there : {o u : Option (ℕ × Slot Label)} → FoundSame o u → is_some o ≡ is_some u
        found_there not_found = refl
        found_there (found e x y m b) = refl

        functions : {a b : Option ObjId} → SameObject β a b → SameValue β (function_value a) (function_value b)
        functions neither = primitives
        functions (both e) = objects e

        body_values : {l m : Label} {a b : Body} → BodiesAgree observer β l m a b → Alike observer l m (SameValue β (body_value a) (body_value b))
        body_values (data_bodies r) = r
        body_values (accessors r) = alike_map observer (λ x. functions x.0) r

        -- what is found has values, or getters, that agree
        pub found_values : {o u : Option (ℕ × Slot Label)} → FoundSame o u → Agree observer β (found_value o) (found_value u)
        found_values not_found = seen (sees_bottom observer) refl primitives
        found_values (found e x y m b) = body_values b

  -- ---- keys

  -- both hidden, or seen and the same keys
  abbrev pub KeysAgree : Keys → Keys → Type 0
  KeysAgree a b = Alike observer a.walk b.walk (a.keys ≡ b.keys)

  fresh_first : {m n : Marks} {ks js : List (List ℕ)} (met : List (List ℕ)) (key : List ℕ) → m ≡ n → ks ≡ js → cond (m.enumerable && not (has_name key met)) (key ∷ ks) ks ≡ cond (n.enumerable && not (has_name key met)) (key ∷ js) js
  fresh_first met key e f = ap₂ (λ (m : Marks) (ks : List (List ℕ)). cond (m.enumerable && not (has_name key met)) (key ∷ ks) ks) e f

  -- own keys, then those beyond
  keys_joined : {e f : Label} (rs qs : Rows (Slot Label)) (met : List (List ℕ)) (a b : Keys) → Alike observer e f ((met : List (List ℕ)) → fresh_keys met rs ≡ fresh_keys met qs) → KeysAgree a b
      → Alike observer (union e a.walk) (union f b.walk) (fresh_keys met rs ++ a.keys ≡ fresh_keys met qs ++ b.keys)
  keys_joined rs qs met a b r t = alike_join observer (λ x y. ap₂ (λ (u v : List (List ℕ)). u ++ v) (x met) y) r t

  module _ {β : Pairing} where
    rows_keys : {rs qs : Rows (Slot Label)} → RowsAgree observer β rs qs → keys_of rs ≡ keys_of qs
    rows_keys no_rows = refl
    rows_keys (row {key = k} a r) = ap (λ (ks : List (List ℕ)). k ∷ ks) (rows_keys r)

    rows_fresh : {rs qs : Rows (Slot Label)} → RowsAgree observer β rs qs → Alike observer (existences rs) (existences qs) ((met : List (List ℕ)) → fresh_keys met rs ≡ fresh_keys met qs)
    rows_fresh no_rows = seen (sees_bottom observer) refl (λ met. refl)
    rows_fresh (row {key = k} a r) = alike_join observer (λ x f met. fresh_first met k x.0 (f met)) a (rows_fresh r)

    module _ (h g : List (Object Label)) where
      pub keys_agree : (met : List (List ℕ)) {c d : List (ℕ × Object Label)} → ChainsAgree β h g c d → KeysAgree (keys_after met c) (keys_after met d)
      keys_agree met no_objects = seen (sees_bottom observer) refl refl
      keys_agree met (hidden_link {p = p} {q = q} {c = c} {d = d} z s t) = hidden (hides_second observer p.structure _ (hides_first observer p.link _ s)) (hides_second observer q.structure _ (hides_first observer q.link _ t))
      keys_agree met (seen_link {p = p} {q = q} {c = c} {d = d} z s t more) = by_shape z.agree.shapes (λ ms. keys_agree ms more)
        where
          by_shape : ShapesAgree observer β p q → ((ms : List (List ℕ)) → KeysAgree (keys_after ms c) (keys_after ms d)) → KeysAgree (keys_after met ((0, p) ∷ c)) (keys_after met ((0, q) ∷ d))
          by_shape (seen_shape a b x rows) ih = alike_behind p.structure q.structure a b (alike_behind p.link q.link s t (keys_joined p.rows q.rows met _ _ (rows_fresh rows)
              (subst (λ (ks : List (List ℕ)). KeysAgree (keys_after (met ++ keys_of p.rows) c) (keys_after (met ++ ks) d)) (rows_keys rows) (ih (met ++ keys_of p.rows)))))
          by_shape (hidden_shape a b rows) ih = hidden_behind p.structure q.structure _ _ a b

  -- ---- of paired objects in heaps that agree

  module _ {β : Pairing} {h g : List (Object Label)} (r : HeapsAgree observer β h g) where
    pub level_find : {i j : ℕ} (key : List ℕ) → β.objects i j ≡ true → FoundAgree β h g key (find key (object_chain h i)) (find key (object_chain g j))
    level_find key e = find_agree β h g key (chains_agree β h g r e)

    -- from an object on that there may be
    pub level_from : {o u : Option ObjId} (key : List ℕ) → SameObject β o u → FoundAgree β h g key (find key (chain_from (object_chain h) o)) (find key (chain_from (object_chain g) u))
    level_from key neither = seen (sees_bottom observer) refl not_found
    level_from key (both e) = level_find key e

    -- the prototype of a primitive value stands for itself
    pub prototype_same : (p : APrimitive) → SameObject β (prototype_of_primitive p) (prototype_of_primitive p)
    prototype_same (Str text) = both (r.starts string_prototype.0 (omega arith))
    prototype_same (Num n) = both (r.starts number_prototype.0 (omega arith))
    prototype_same (prims.Bool b) = both (r.starts boolean_prototype.0 (omega arith))
    prototype_same Undefined = neither
    prototype_same Null = neither

    -- the key is there in both or in neither
    pub level_there : {i j : ℕ} (key : List ℕ) → β.objects i j ≡ true → Alike observer (find key (object_chain h i)).walk (find key (object_chain g j)).walk (is_some (find key (object_chain h i)).at ≡ is_some (find key (object_chain g j)).at)
    level_there key e = alike_map observer (found_there β h g key) (level_find key e)

    -- a read, under the label of the walk and that of the base and the key
    pub level_read : {i j : ℕ} {k l : List ℕ} {n m : Label} → Alike observer n m ((β.objects i j ≡ true) × (k ≡ l))
        → Agree observer β (joined (union n (find k (object_chain h i)).walk) (found_value (find k (object_chain h i)).at)) (joined (union m (find l (object_chain g j)).walk) (found_value (find l (object_chain g j)).at))
    level_read {i} {j} {k} {l} {n} {m} (hidden s t) = agree_over (found_value (find k (object_chain h i)).at) (found_value (find l (object_chain g j)).at) (hidden_behind n m (find k (object_chain h i)).walk (find l (object_chain g j)).walk s t)
    level_read {i} {j} {k} {l} {n} {m} (seen s t z) =
        subst (λ w. Agree observer β (joined (union n (find k (object_chain h i)).walk) (found_value (find k (object_chain h i)).at)) (joined (union m (find w (object_chain g j)).walk) (found_value (find w (object_chain g j)).at))) z.1
        (agree_over (found_value (find k (object_chain h i)).at) (found_value (find k (object_chain g j)).at) (alike_behind n m s t (alike_map observer (found_values β h g k) (level_find k z.0))))

    -- whether an object itself has the key, and what it names there
    pub level_own : {i j : ℕ} (key : List ℕ) (p q : Object Label) → β.objects i j ≡ true → slice_get h i ≡ Some p → slice_get g j ≡ Some q
        → Alike observer (own_walk p.structure (own key p.rows)) (own_walk q.structure (own key q.rows)) (OwnSame β (own key p.rows) (own key q.rows))
    level_own {i} {j} key p q e a b = own_test_case β (own_case β key (r.left i j e p a).distinct (r.right i j e q b).distinct (objects_agree observer r e a b).shapes)

    -- the keys that `for in` takes
    pub level_keys : {i j : ℕ} → β.objects i j ≡ true → KeysAgree (keys (object_chain h i)) (keys (object_chain g j))
    level_keys e = keys_agree h g [] (chains_agree β h g r e)
