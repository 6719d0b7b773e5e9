-- `new` in two runs.
use Rattle.std.proofs.Common.{◌≡◌, ℕ, ◌<◌, List, [], ◌∷◌, ◌++◌, length, Option, Some, None, true, refl, subst, arith}
use Rattle.std.proofs.lemmas.Option.{same_Some}
use Rattle.origin_labels.specs.Label.{Label, union}
use Rattle.flow_policy.specs.Policies.{Tables}
use Rattle.flow_frames.specs.Frames.{context}
use Rattle.js_values.specs.declared.ids.ObjId.{ObjId}
use Rattle.js_values.specs.declared.value.Value.{Value}
use Rattle.js_values.specs.declared.property.Body.{Body}
use Rattle.js_values.specs.declared.property.Slot.{Slot}
use Rattle.js_values.specs.declared.inner.Class.TheVariants as class
use Rattle.js_values.specs.declared.inner.Inner.TheVariants.{Plain}
use Rattle.js_values.specs.Objects.{Object, fresh_object}
use Rattle.js_values.specs.Walks.{find, object_chain}
use Rattle.es_meaning.specs.Definitions.{value_in}
use Rattle.es_meaning.specs.Start.{object_prototype}
use Rattle.es_meaning.specs.Plain.{prototype_name, object_or, object_or_default}
use Rattle.flow_meaning.specs.Scopes.{Val, Came, Left, State, given_back, construction}
use Rattle.flow_meaning.specs.Tracked.{value_found, prototype_of, standing, with_fresh}
use Rattle.low_equal.specs.Observed.{Sees, Hides, IsSeen}
use Rattle.low_equal.specs.LowEqual.{Pairing, Alike, seen, hidden, SameValue, primitives, objects, SameObject, both, Agree, BodiesAgree, data_bodies, accessors, plains, no_rows, seen_shape, no_keys, HeapsAgree, LowEqual}
use Rattle.low_equal.specs.Laws.{Nothing}
use Rattle.low_equal.proofs.Labels.{not_both, hides_first, hides_second, sees_second}
use Rattle.low_equal.proofs.Agreement.{agree_joined, agree_seen, alike_map, alike_join, records_more, both_map, two}
use Rattle.low_equal.proofs.Heaps.{get_below, with_objects, extends_objects, new_both}
use Rattle.low_equal.proofs.Standing.{standing_both}
use Rattle.low_equal.proofs.Walks as walks
use Rattle.low_equal.proofs.Walks.{FoundSame, not_found, level_find}
use Rattle.low_equal.proofs.States.{low_heap, same_context}
use Rattle.low_equal.proofs.Steps.{CameAgree, both_ended, both_caught, LeftAgree}
use Rattle.low_equal.proofs.References.{undefined_agree}

module _ (observer : Label) (tables : Tables) where
  hidden_value : (walk : Label) (f : Option (ℕ × Slot Label)) → Hides observer walk → Hides observer (value_found walk f).label
  hidden_value walk None h = h
  hidden_value walk (Some f) h = hides_first observer walk f.1.label h

  -- what a body holds, under the label of the walk to it
  bodies_found : {γ : Pairing} {h g : List (Object Label)} {l m : Label} {o u : Option (ℕ × Slot Label)} → Sees observer l → l ≡ m → FoundSame observer γ h g prototype_name o u → Agree observer γ (value_found l o) (value_found m u)
  bodies_found s e not_found = seen s e primitives
  bodies_found {γ} {l = l} {m = m} s e (walks.found p x y marks b) = by_body b
    where
      by_body : {i j : Label} {c d : Body} → BodiesAgree observer γ i j c d
          → Agree observer γ (record { value = value_in c; label = union l i }) (record { value = value_in d; label = union m j })
      by_body (data_bodies q) = alike_join observer (λ (k : Unit {0}) z. z) (seen s e tt) q
      by_body (accessors q) = alike_join observer (λ (k : Unit {0}) z. primitives) (seen s e tt) q

  pub prototypes_agree : {γ : Pairing} {h g : List (Object Label)} {o q : ℕ} → HeapsAgree observer γ h g → γ.objects o q ≡ true → Agree observer γ (prototype_of h o) (prototype_of g q)
  prototypes_agree {γ} {h} {g} {o} {q} r p = by_walk (level_find observer r prototype_name p)
    where
      by_walk : Alike observer (find prototype_name (object_chain h o)).walk (find prototype_name (object_chain g q)).walk (FoundSame observer γ h g prototype_name (find prototype_name (object_chain h o)).at (find prototype_name (object_chain g q)).at)
          → Agree observer γ (prototype_of h o) (prototype_of g q)
      by_walk (hidden a b) = hidden (hidden_value (find prototype_name (object_chain h o)).walk (find prototype_name (object_chain h o)).at a) (hidden_value (find prototype_name (object_chain g q)).walk (find prototype_name (object_chain g q)).at b)
      by_walk (seen a e x) = bodies_found a e x

  -- ---- what is made

  default_pair : {γ : Pairing} {h g : List (Object Label)} {v u : Value} → HeapsAgree observer γ h g → SameValue γ v u → γ.objects (standing h (object_or_default v)).0 (standing g (object_or_default u)).0 ≡ true
  default_pair r primitives = standing_both observer r object_prototype object_prototype (r.starts 0 (omega arith))
  default_pair r (objects {o = o} {q = q} p) = standing_both observer r o q p

  same_default : {γ : Pairing} {h g : List (Object Label)} {v u : Value} → HeapsAgree observer γ h g → SameValue γ v u → SameObject γ (Some (standing h (object_or_default v))) (Some (standing g (object_or_default u)))
  same_default r z = both (default_pair r z)

  default_below : {γ : Pairing} {h g : List (Object Label)} {v u : Value} → HeapsAgree observer γ h g → SameValue γ v u → ((standing h (object_or_default v)).0 < length h) × ((standing g (object_or_default u)).0 < length g)
  default_below {h = h} {g = g} {v = v} {u = u} r z =
      let i = (standing h (object_or_default v)).0 in
      let j = (standing g (object_or_default u)).0 in
      let t = two (r.paired i j (default_pair r z)) in (get_below h t.one i t.is_one, get_below g t.other j t.is_other)

  abbrev fresh : List (Object Label) → Val → Label → Object Label
  fresh heap proto l = fresh_object class.Object Plain (Some (standing heap (object_or_default proto.value))) (union l proto.label) l

  pub fresh_both : {γ : Pairing} {a b : Val} (s t : State) → Agree observer γ a b → LowEqual observer tables γ s t → IsSeen observer s → LowEqual observer tables (with_objects γ (length s.heap) (length t.heap)) (with_fresh a s) (with_fresh b t)
  fresh_both {γ} {a} {b} s t q r w =
      subst (λ l. LowEqual observer tables δ (with_fresh a s) (record t { heap = t.heap ++ fresh t.heap b l ∷ [] })) (same_context observer tables r w)
      (low_heap observer tables r
      (new_both observer (fresh s.heap a (context s.frames)) (fresh t.heap b (context s.frames))
      (record { below = λ v n e. subst (λ (x : ObjId). x.0 < length s.heap) (same_Some _ n e) (default_below r.heap (agree_seen observer q (sees_second observer (context s.frames) a.label v))).0; target = tt; distinct = no_keys })
      (record { below = λ v n e. subst (λ (x : ObjId). x.0 < length t.heap) (same_Some _ n e) (by_label q (sees_second observer (context s.frames) b.label v)); target = tt; distinct = no_keys })
      (record { class = refl; inner = plains; links = alike_join observer (λ (k : Unit {0}) z. same_default r.heap z) (seen w refl tt) q; shapes = seen_shape w refl refl no_rows }) r.heap)
      (record { paired = λ i j p. both_map (λ c d x. records_more observer (extends_objects γ (length s.heap) (length t.heap)) x) (r.records.paired i j p); one_to_one = r.records.one_to_one; left = r.records.left; right = r.records.right }))
    where
      δ : Pairing
      δ = with_objects γ (length s.heap) (length t.heap)

      by_label : Agree observer γ a b → Sees observer b.label → (standing t.heap (object_or_default b.value)).0 < length t.heap
      by_label (seen x e z) v = (default_below r.heap z).1
      by_label (hidden x y) v = absurd (not_both observer b.label v y)

  -- an object that is returned, or the one that was made
  same_made : {γ : Pairing} (o q : ℕ) {v u : Value} → γ.objects o q ≡ true → SameValue γ v u → SameValue γ (object_or o v) (object_or q u)
  same_made o q p primitives = objects p
  same_made o q p (objects z) = objects z

  pub constructions_agree : {γ : Pairing} (o q : ℕ) (c d : Left (Unit {0})) → γ.objects o q ≡ true → LeftAgree observer tables Nothing γ c d → Agree observer γ (construction o c) (construction q d)
  constructions_agree o q c d p (hidden a b) = hidden (hides_second observer (given_back c.how).label c.label a) (hides_second observer (given_back d.how).label d.label b)
  constructions_agree {γ} o q c d p (seen a e x) = agree_joined observer (seen a e tt) (alike_map observer (λ z. same_made o q p z) (given x))
    where
      given : {c d : Came (Unit {0})} → CameAgree observer tables Nothing γ c d → Agree observer γ (given_back c) (given_back d)
      given (both_ended z) = undefined_agree observer tables
      given (both_caught z) = z.value
