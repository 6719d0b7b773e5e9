-- Acts on an object of a heap: what no observer can tell of one run, and what two runs do alike.
use Rattle.std.proofs.Common.{◌≡◌, ℕ, zero, suc, true, List, [], ◌∷◌, ◌++◌, set, Option, Some, None, slice_get, Ok, Err, ⊎_elim, refl, sym, ◌∙◌, ap, subst}
use Rattle.std.proofs.lemmas.Bool.{cases_eq}
use Rattle.std.proofs.lemmas.Option.{none-some, same_Some}
use Rattle.origin_labels.specs.Label.{Label}
use Rattle.flow_frames.specs.declared.faults.FlowStop.{FlowStop}
use Rattle.js_values.specs.Objects.{Object}
use Rattle.object_heap.specs.Acts.{Acted, Act, act_on, on_object, put_back}
use Rattle.low_equal.specs.Observed.{Sees}
use Rattle.low_equal.specs.LowEqual.{Pairing, ObjectsAgree, Both, AreDistinct, TargetBelow, IsFormed, FormedAt, HeapsAgree}
use Rattle.low_equal.proofs.Agreement.{two, both_by}
use Rattle.low_equal.proofs.Heaps.{heap_sym, new_left}

-- ---- a list with another element

pub set_here : {A : Type 0} (xs : List A) (i : ℕ) (x y : A) → slice_get xs i ≡ Some y → slice_get (set xs i x) i ≡ Some x
set_here [] i x y e = absurd (none-some _ e)
set_here (z ∷ xs) zero x y e = refl
set_here (z ∷ xs) (suc i) x y e = set_here xs i x y e

pub set_other : {A : Type 0} (xs : List A) (i j : ℕ) (x : A) → (i ≡ j → ⊥) → slice_get (set xs i x) j ≡ slice_get xs j
set_other [] i j x n = refl
set_other (z ∷ xs) zero zero x n = absurd (n refl)
set_other (z ∷ xs) zero (suc j) x n = refl
set_other (z ∷ xs) (suc i) zero x n = refl
set_other (z ∷ xs) (suc i) (suc j) x n = set_other xs i j x (λ e. n (ap suc e))

-- ---- objects in the place of others

-- the keys are as distinct as before, and the prototype and what else the object is are the same
pub record StaysFormed (new old : Object Label) : Type 0 where
  pub distinct : AreDistinct old.rows → AreDistinct new.rows
  pub proto : new.proto ≡ old.proto
  pub link : new.link ≡ old.link
  pub inner : new.inner ≡ old.inner

pub still_formed : {observer : Label} {new old : Object Label} (o : ℕ) → StaysFormed new old → IsFormed observer o old → IsFormed observer o new
still_formed {observer} o s w = record { below = λ v q e. w.below (subst (Sees observer) s.link v) q (sym s.proto ∙ e); target = subst (TargetBelow observer o) (sym s.inner) w.target; distinct = s.distinct w.distinct }

formed_set : {observer : Label} (h : List (Object Label)) (i : ℕ) (new old : Object Label) → slice_get h i ≡ Some old → StaysFormed new old → (o : ℕ) → FormedAt observer h o → FormedAt observer (set h i new) o
formed_set {observer} h i new old here s o w p e = ⊎_elim (λ q. same q) (λ q. w p (sym (set_other h i o new q) ∙ e)) (cases_eq i o)
  where
    same : i ≡ o → IsFormed observer o p
    same q = subst (IsFormed observer o) (same_Some new p (sym (set_here h i new old here) ∙ ap (slice_get (set h i new)) q ∙ e)) (still_formed o s (w old (ap (slice_get h) (sym q) ∙ here)))

-- an act makes this object, or is stopped
pub data Becomes (p : Object Label) : Acted (Object Label) → Type 0 where
  makes : {q : Object Label} → q ≡ p → Becomes p (Ok q)
  ends : {stop : FlowStop Label} → Becomes p (Err stop)

-- and the object is as well formed as the one before
pub record Makes (new old : Object Label) (x : Acted (Object Label)) : Type 0 where
  pub becomes : Becomes new x
  pub formed : StaysFormed new old

module _ (observer : Label) where
  -- ---- one run

  -- what agreed with the heap before agrees with the heap after
  pub record SameHeap (h g : List (Object Label)) : Type 0 where
    pub looks : (β : Pairing) (k : List (Object Label)) → HeapsAgree observer β h k → HeapsAgree observer β g k

  -- where an act goes on, nobody can tell by the heap
  pub data StillHeap (h : List (Object Label)) : Acted (List (Object Label)) → Type 0 where
    goes : {g : List (Object Label)} → SameHeap h g → StillHeap h (Ok g)
    stopped : {stop : FlowStop Label} → StillHeap h (Err stop)

  -- an object agrees with all that another agrees with
  pub record StandsFor (new old : Object Label) : Type 0 where
    pub agrees : (β : Pairing) (q : Object Label) → AreDistinct old.rows → ObjectsAgree observer β old q → ObjectsAgree observer β new q
    pub formed : StaysFormed new old

  pub data StillObject (p : Object Label) : Acted (Object Label) → Type 0 where
    stands : {q : Object Label} → StandsFor q p → StillObject p (Ok q)
    stops : {stop : FlowStop Label} → StillObject p (Err stop)

  pub same_heap : (h : List (Object Label)) → SameHeap h h
  same_heap h = record { looks = λ β k r. r }

  pub same_heap_trans : {h g k : List (Object Label)} → SameHeap h g → SameHeap g k → SameHeap h k
  same_heap_trans a b = record { looks = λ β k r. b.looks β k (a.looks β k r) }

  -- a further object, with properties or without
  pub same_new : (h : List (Object Label)) (p : Object Label) → SameHeap h (h ++ p ∷ [])
  same_new h p = record { looks = λ β k r. new_left observer p r }

  pub stands_same : (p : Object Label) → StandsFor p p
  stands_same p = record { agrees = λ β q d r. r; formed = record { distinct = λ d. d; proto = refl; link = refl; inner = refl } }

  pub stands_trans : {a b c : Object Label} → StandsFor a b → StandsFor b c → StandsFor a c
  stands_trans x y = record {
    agrees = λ β q d r. x.agrees β q (y.formed.distinct d) (y.agrees β q d r);
    formed = record { distinct = λ d. x.formed.distinct (y.formed.distinct d); proto = x.formed.proto ∙ y.formed.proto; link = x.formed.link ∙ y.formed.link; inner = x.formed.inner ∙ y.formed.inner };
  }

  set_left : {β : Pairing} {h g : List (Object Label)} (i : ℕ) (new old : Object Label) → slice_get h i ≡ Some old → StandsFor new old → HeapsAgree observer β h g → HeapsAgree observer β (set h i new) g
  set_left {β} {h} {g} i new old here s r = record {
    starts = r.starts;
    paired = λ a b p. ⊎_elim (λ q. same a b p q) (λ q. other a b p q) (cases_eq i a);
    one_to_one = r.one_to_one;
    left = λ a b p. formed_set h i new old here s.formed a (r.left a b p);
    right = r.right;
  }
    where
      same : (a b : ℕ) → β.objects a b ≡ true → i ≡ a → Both (ObjectsAgree observer β) (slice_get (set h i new) a) (slice_get g b)
      same a b p q =
          let t = two (r.paired a b p) in
          let k : t.one ≡ old = same_Some t.one old (sym t.is_one ∙ ap (slice_get h) (sym q) ∙ here) in
          both_by (ObjectsAgree observer β) (ap (slice_get (set h i new)) (sym q) ∙ set_here h i new old here) t.is_other
          (s.agrees β t.other (r.left a b p old (ap (slice_get h) (sym q) ∙ here)).distinct (subst (λ x. ObjectsAgree observer β x t.other) k t.related))

      other : (a b : ℕ) → β.objects a b ≡ true → (i ≡ a → ⊥) → Both (ObjectsAgree observer β) (slice_get (set h i new) a) (slice_get g b)
      other a b p q = subst (λ x. Both (ObjectsAgree observer β) x (slice_get g b)) (sym (set_other h i a new q)) (r.paired a b p)

  -- an act on an object that stays as it was for the observer
  pub still_act : (o : ℕ) (act : Act) (h : List (Object Label)) → ((p : Object Label) → slice_get h o ≡ Some p → StillObject p (act p)) → StillHeap h (act_on o act h)
  still_act o act h k = with_object (slice_get h o) refl
    where
      put : (p : Object Label) → slice_get h o ≡ Some p → {x : Acted (Object Label)} → StillObject p x → StillHeap h (put_back h o x)
      put p e (stands s) = goes (record { looks = λ β k r. set_left o _ p e s r })
      put p e stops = stopped

      with_object : (x : Option (Object Label)) → slice_get h o ≡ x → StillHeap h (on_object x h o act)
      with_object None e = goes (same_heap h)
      with_object (Some p) e = put p e (k p e)

  -- ---- two runs

  -- where both go on, the heaps agree as before
  pub data ActsAfter (β : Pairing) : Acted (List (Object Label)) → Acted (List (Object Label)) → Type 0 where
    level : {h g : List (Object Label)} → HeapsAgree observer β h g → ActsAfter β (Ok h) (Ok g)
    first_stops : {stop : FlowStop Label} {x : Acted (List (Object Label))} → ActsAfter β (Err stop) x
    second_stops : {x : Acted (List (Object Label))} {stop : FlowStop Label} → ActsAfter β x (Err stop)

  -- both heaps become what looks like them
  pub heaps_same : {β : Pairing} {h g h' g' : List (Object Label)} → SameHeap h h' → SameHeap g g' → HeapsAgree observer β h g → HeapsAgree observer β h' g'
  heaps_same a b r = heap_sym observer (b.looks _ _ (heap_sym observer (a.looks _ _ r)))

  -- each run by itself
  pub acts_apart : {β : Pairing} {h g : List (Object Label)} {x y : Acted (List (Object Label))} → HeapsAgree observer β h g → StillHeap h x → StillHeap g y → ActsAfter β x y
  acts_apart r (goes a) (goes b) = level (heaps_same a b r)
  acts_apart r (goes a) stopped = second_stops
  acts_apart r stopped b = first_stops

  -- the objects of a pair agree
  pub objects_agree : {β : Pairing} {h g : List (Object Label)} → HeapsAgree observer β h g → {i j : ℕ} {p q : Object Label} → β.objects i j ≡ true → slice_get h i ≡ Some p → slice_get g j ≡ Some q → ObjectsAgree observer β p q
  objects_agree {β} r {i} {j} {p} {q} e a b =
      let t = two (r.paired i j e) in
      subst (λ x. ObjectsAgree observer β x q) (same_Some t.one p (sym t.is_one ∙ a)) (subst (λ x. ObjectsAgree observer β t.one x) (same_Some t.other q (sym t.is_other ∙ b)) t.related)

  pub set_both : {β : Pairing} {h g : List (Object Label)} (i j : ℕ) (p q one other : Object Label) → β.objects i j ≡ true → slice_get h i ≡ Some one → slice_get g j ≡ Some other → ObjectsAgree observer β p q
      → StaysFormed p one → StaysFormed q other → HeapsAgree observer β h g → HeapsAgree observer β (set h i p) (set g j q)
  set_both {β} {h} {g} i j p q one other pair is_one is_other agree f k r = record {
    starts = r.starts;
    paired = λ a b z. ⊎_elim (λ e. same a b z e) (λ e. different a b z e) (cases_eq i a);
    one_to_one = r.one_to_one;
    left = λ a b z. formed_set h i p one is_one f a (r.left a b z);
    right = λ a b z. formed_set g j q other is_other k b (r.right a b z);
  }
    where
      same : (a b : ℕ) → β.objects a b ≡ true → i ≡ a → Both (ObjectsAgree observer β) (slice_get (set h i p) a) (slice_get (set g j q) b)
      same a b z e =
          let n = (r.one_to_one i j a b pair z).0 e in
          both_by (ObjectsAgree observer β) (ap (slice_get (set h i p)) (sym e) ∙ set_here h i p one is_one) (ap (slice_get (set g j q)) (sym n) ∙ set_here g j q other is_other) agree

      different : (a b : ℕ) → β.objects a b ≡ true → (i ≡ a → ⊥) → Both (ObjectsAgree observer β) (slice_get (set h i p) a) (slice_get (set g j q) b)
      different a b z e = subst (λ x. Both (ObjectsAgree observer β) x (slice_get (set g j q) b)) (sym (set_other h i a p e))
          (subst (λ x. Both (ObjectsAgree observer β) (slice_get h a) x) (sym (set_other g j b q (λ k. e ((r.one_to_one i j a b pair z).1 k)))) (r.paired a b z))

  after_back : {β : Pairing} (h g : List (Object Label)) (i j : ℕ) {p q : Object Label} {x y : Acted (Object Label)} → HeapsAgree observer β (set h i p) (set g j q) → Becomes p x → Becomes q y → ActsAfter β (put_back h i x) (put_back g j y)
  after_back {β} h g i j {p} r (makes {q = a} e) (makes {q = b} f) = level (subst (λ z. HeapsAgree observer β (set h i z) (set g j b)) (sym e) (subst (λ z. HeapsAgree observer β (set h i p) (set g j z)) (sym f) r))
  after_back h g i j r (makes e) ends = second_stops
  after_back h g i j r ends b = first_stops

  -- acts that keep the objects of a pair in agreement
  pub acts_level : {β : Pairing} {h g : List (Object Label)} {i j : ℕ} (act other : Act) (f k : Object Label → Object Label) → HeapsAgree observer β h g → β.objects i j ≡ true
      → ((p : Object Label) → slice_get h i ≡ Some p → Makes (f p) p (act p)) → ((q : Object Label) → slice_get g j ≡ Some q → Makes (k q) q (other q))
      → ((p q : Object Label) → slice_get h i ≡ Some p → slice_get g j ≡ Some q → AreDistinct p.rows → AreDistinct q.rows → ObjectsAgree observer β p q → ObjectsAgree observer β (f p) (k q)) → ActsAfter β (act_on i act h) (act_on j other g)
  acts_level {β} {h} {g} {i} {j} act other f k r pair a b c =
      let t = two (r.paired i j pair) in
      let x = a t.one t.is_one in
      let y = b t.other t.is_other in
      subst (λ z. ActsAfter β (on_object z h i act) (act_on j other g)) (sym t.is_one) (subst (λ z. ActsAfter β (put_back h i (act t.one)) (on_object z g j other)) (sym t.is_other)
      (after_back h g i j (set_both i j (f t.one) (k t.other) t.one t.other pair t.is_one t.is_other (c t.one t.other t.is_one t.is_other (r.left i j pair t.one t.is_one).distinct (r.right i j pair t.other t.is_other).distinct t.related) x.formed y.formed r) x.becomes y.becomes))
