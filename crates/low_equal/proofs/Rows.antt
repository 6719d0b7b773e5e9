-- Rows: what a key names, and what a change of one property does to rows that agree.
use Rattle.std.proofs.Common.{◌≡◌, ℕ, Bool, true, false, cond, List, [], ◌∷◌, Option, Some, None, refl, sym, ◌∙◌, ap, subst, true≢false}
use Rattle.std.proofs.lemmas.Bool.{false_from_ne_true}
use Rattle.std.proofs.lemmas.Option.{none-some, same_Some}
use Rattle.std.proofs.lemmas.Slice.Eq.{bytes_eq-Decides}
use Rattle.origin_labels.specs.Label.{Label, sees}
use Rattle.origin_labels.specs.Names.{same_name}
use Rattle.js_values.specs.declared.property.Slot.{Slot}
use Rattle.js_values.specs.Objects.{Rows, own, row_or_none, altered, changed, with_row}
use Rattle.low_equal.specs.Observed.{Hides}
use Rattle.low_equal.specs.LowEqual.{Pairing, Alike, seen, hidden, SlotsAgree, RowsAgree, no_rows, row, seen_rows, IsAbsent, nowhere, elsewhere, AreDistinct, no_keys, one_more}

-- ---- keys

pub differ : (a b : List ℕ) → (a ≡ b → ⊥) → same_name a b ≡ false
differ a b n = false_from_ne_true (same_name a b) (λ t. n ((bytes_eq-Decides a b).0 t))

pub are_one : (a b : List ℕ) → same_name a b ≡ true → a ≡ b
are_one a b t = (bytes_eq-Decides a b).0 t

apart : (a b : List ℕ) → same_name a b ≡ false → a ≡ b → ⊥
apart a b f e = true≢false (sym ((bytes_eq-Decides a b).1 e) ∙ f)

-- ---- absent keys and distinct keys

module _ {S : Type 0} where
  -- an absent key names nothing
  pub absent_own : {key : List ℕ} {rows : Rows S} → IsAbsent key rows → own key rows ≡ None
  absent_own nowhere = refl
  absent_own {key} (elsewhere {other = j} {s = s} {rows = rows} n a) = ap (λ b. cond b (Some s) (own key rows)) (differ j key n) ∙ absent_own a

  -- a key that names nothing is absent
  pub own_absent : (key : List ℕ) (rows : Rows S) → own key rows ≡ None → IsAbsent key rows
  own_absent key [] e = nowhere
  own_absent key (r ∷ rows) e = go (same_name r.0 key) refl e (own_absent key rows)
    where
      go : (b : Bool) → same_name r.0 key ≡ b → cond b (Some r.1) (own key rows) ≡ None → (own key rows ≡ None → IsAbsent key rows) → IsAbsent key (r ∷ rows)
      go true t f h = absurd (none-some _ (sym f))
      go false t f h = elsewhere (apart r.0 key t) (h f)

  -- nothing is altered of an absent key
  pub absent_altered : {key : List ℕ} (f : S → Option S) {rows : Rows S} → IsAbsent key rows → altered key f rows ≡ rows
  absent_altered f nowhere = refl
  absent_altered {key} f (elsewhere {other = j} {s = s} {rows = rows} n a) = ap (λ b. cond b (row_or_none j (f s) rows) ((j, s) ∷ altered key f rows)) (differ j key n) ∙ ap (λ (x : Rows S). (j, s) ∷ x) (absent_altered f a)

  -- what is absent stays so
  pub still_absent : {key : List ℕ} (other : List ℕ) (f : S → Option S) {rows : Rows S} → IsAbsent key rows → IsAbsent key (altered other f rows)
  still_absent i f nowhere = nowhere
  still_absent {key} i f (elsewhere {other = j} {s = s} {rows = rows} n a) = at_first (same_name j i) (f s) (still_absent i f a)
    where
      at_first : (b : Bool) (o : Option S) → IsAbsent key (altered i f rows) → IsAbsent key (cond b (row_or_none j o rows) ((j, s) ∷ altered i f rows))
      at_first true None h = a
      at_first true (Some t) h = elsewhere n a
      at_first false o h = elsewhere n h

  -- a change leaves keys distinct
  pub distinct_altered : (key : List ℕ) (f : S → Option S) {rows : Rows S} → AreDistinct rows → AreDistinct (altered key f rows)
  distinct_altered key f no_keys = no_keys
  distinct_altered key f (one_more {key = j} {s = s} {rows = rows} a d) = at_first (same_name j key) (f s) (distinct_altered key f d)
    where
      at_first : (b : Bool) (o : Option S) → AreDistinct (altered key f rows) → AreDistinct (cond b (row_or_none j o rows) ((j, s) ∷ altered key f rows))
      at_first true None h = d
      at_first true (Some t) h = one_more a d
      at_first false o h = one_more (still_absent key f a) h

  pub absent_with_row : {key : List ℕ} (other : List ℕ) (s : S) {rows : Rows S} → (other ≡ key → ⊥) → IsAbsent key rows → IsAbsent key (with_row other s rows)
  absent_with_row j s n nowhere = elsewhere n nowhere
  absent_with_row j s n (elsewhere m a) = elsewhere m (absent_with_row j s n a)

  -- and so does a row more, whose key is absent
  pub distinct_with_row : (key : List ℕ) (s : S) {rows : Rows S} → IsAbsent key rows → AreDistinct rows → AreDistinct (with_row key s rows)
  distinct_with_row key s nowhere no_keys = one_more nowhere no_keys
  distinct_with_row key s (elsewhere n a) (one_more b d) = one_more (absent_with_row key s (λ e. n (sym e)) b) (distinct_with_row key s a d)

  -- only what the key names counts
  pub changed_by : (key : List ℕ) (f g : S → S) (s : S) (rows : Rows S) → own key rows ≡ Some s → f s ≡ g s → changed key f rows ≡ changed key g rows
  changed_by key f g s [] e i = refl
  changed_by key f g s (r ∷ rows) e i = at_first (same_name r.0 key) e (λ d. changed_by key f g s rows d i)
    where
      at_first : (b : Bool) → cond b (Some r.1) (own key rows) ≡ Some s → (own key rows ≡ Some s → changed key f rows ≡ changed key g rows) → cond b ((r.0, f r.1) ∷ rows) (r ∷ changed key f rows) ≡ cond b ((r.0, g r.1) ∷ rows) (r ∷ changed key g rows)
      at_first true d ih = ap (λ (x : S). (r.0, x) ∷ rows) (ap f (same_Some r.1 s d) ∙ i ∙ ap g (sym (same_Some r.1 s d)))
      at_first false d ih = ap (λ (x : Rows S). r ∷ x) (ih d)

  -- the key names what it was changed to
  pub own_changed : (key : List ℕ) (f : S → S) (s : S) (rows : Rows S) → own key rows ≡ Some s → own key (changed key f rows) ≡ Some (f s)
  own_changed key f s [] e = absurd (none-some _ e)
  own_changed key f s (r ∷ rows) e = at_first (same_name r.0 key) refl e (λ d. own_changed key f s rows d)
    where
      at_first : (b : Bool) → same_name r.0 key ≡ b → cond b (Some r.1) (own key rows) ≡ Some s → (own key rows ≡ Some s → own key (changed key f rows) ≡ Some (f s)) → own key (cond b ((r.0, f r.1) ∷ rows) (r ∷ changed key f rows)) ≡ Some (f s)
      at_first true t d ih = ap (λ b. cond b (Some (f r.1)) (own key rows)) t ∙ ap (λ z. Some (f z)) (same_Some r.1 s d)
      at_first false t d ih = ap (λ b. cond b (Some r.1) (own key (changed key f rows))) t ∙ ih d

  changed_not : (key : List ℕ) (rows : Rows S) → changed key (λ s. s) rows ≡ rows
  changed_not key [] = refl
  changed_not key (r ∷ rows) = at_first (same_name r.0 key) (changed_not key rows)
    where
      at_first : (b : Bool) → changed key (λ s. s) rows ≡ rows → cond b (r ∷ rows) (r ∷ changed key (λ s. s) rows) ≡ r ∷ rows
      at_first true ih = refl
      at_first false ih = ap (λ (x : Rows S). r ∷ x) ih

  -- nothing is changed
  pub changed_same : (key : List ℕ) (f : S → S) (s : S) (rows : Rows S) → own key rows ≡ Some s → f s ≡ s → changed key f rows ≡ rows
  changed_same key f s rows e i = changed_by key f (λ x. x) s rows e i ∙ changed_not key rows

  -- a row more leaves what other rows name
  pub own_with_row : (key other : List ℕ) (s t : S) (rows : Rows S) → own key rows ≡ Some s → own key (with_row other t rows) ≡ Some s
  own_with_row key other s t [] e = absurd (none-some _ e)
  own_with_row key other s t (r ∷ rows) e = at_first (same_name r.0 key) e (own_with_row key other s t rows)
    where
      at_first : (b : Bool) → cond b (Some r.1) (own key rows) ≡ Some s → (own key rows ≡ Some s → own key (with_row other t rows) ≡ Some s) → cond b (Some r.1) (own key (with_row other t rows)) ≡ Some s
      at_first true d ih = d
      at_first false d ih = ih d

  pub changed_with_row : (key other : List ℕ) (f : S → S) (s t : S) (rows : Rows S) → own key rows ≡ Some s → changed key f (with_row other t rows) ≡ with_row other t (changed key f rows)
  changed_with_row key other f s t [] e = absurd (none-some _ e)
  changed_with_row key other f s t (r ∷ rows) e = at_first (same_name r.0 key) e (changed_with_row key other f s t rows)
    where
      at_first : (b : Bool) → cond b (Some r.1) (own key rows) ≡ Some s → (own key rows ≡ Some s → changed key f (with_row other t rows) ≡ with_row other t (changed key f rows))
          → cond b ((r.0, f r.1) ∷ with_row other t rows) (r ∷ changed key f (with_row other t rows)) ≡ with_row other t (cond b ((r.0, f r.1) ∷ rows) (r ∷ changed key f rows))
      at_first true d ih = refl
      at_first false d ih = ap (λ (x : Rows S). r ∷ x) (ih d)

-- ---- rows that agree

module _ (observer : Label) where
  -- neither names anything, or both name slots that agree
  pub data OwnAgree (β : Pairing) : Option (Slot Label) → Option (Slot Label) → Type 0 where
    neither_names : OwnAgree β None None
    both_name : {s t : Slot Label} → SlotsAgree observer β s t → OwnAgree β (Some s) (Some t)

  same_sight : {l m : Label} {P : Type 0} → Alike observer l m P → sees observer l ≡ sees observer m
  same_sight (seen s e p) = ap (sees observer) e
  same_sight (hidden h k) = h ∙ sym k

  module _ {β : Pairing} where
    own_first : (b : Bool) {s t : Slot Label} {o p : Option (Slot Label)} → SlotsAgree observer β s t → OwnAgree β o p → OwnAgree β (cond b (Some s) o) (cond b (Some t) p)
    own_first true a r = both_name a
    own_first false a r = r

    pub own_agree : (key : List ℕ) {rs qs : Rows (Slot Label)} → RowsAgree observer β rs qs → OwnAgree β (own key rs) (own key qs)
    own_agree key no_rows = neither_names
    own_agree key (row {key = j} a r) = own_first (same_name j key) a (own_agree key r)

    -- the second rows have distinct keys where the first have
    absent_agree : {key : List ℕ} {rs qs : Rows (Slot Label)} → RowsAgree observer β rs qs → IsAbsent key rs → IsAbsent key qs
    absent_agree no_rows nowhere = nowhere
    absent_agree (row a r) (elsewhere n h) = elsewhere n (absent_agree r h)

    pub distinct_agree : {rs qs : Rows (Slot Label)} → RowsAgree observer β rs qs → AreDistinct rs → AreDistinct qs
    distinct_agree no_rows no_keys = no_keys
    distinct_agree (row a r) (one_more n d) = one_more (absent_agree r n) (distinct_agree r d)

    -- both are altered alike
    pub altered_both : (key : List ℕ) (f g : Slot Label → Option (Slot Label)) {rs qs : Rows (Slot Label)} → ((s t : Slot Label) → SlotsAgree observer β s t → OwnAgree β (f s) (g t)) → RowsAgree observer β rs qs
        → RowsAgree observer β (altered key f rs) (altered key g qs)
    altered_both key f g h no_rows = no_rows
    altered_both key f g h (row {key = j} {s = s} {t = t} {rs = rs} {qs = qs} a r) = at_first (same_name j key) (h s t a) (altered_both key f g h r)
      where
        at_first : (b : Bool) {o p : Option (Slot Label)} → OwnAgree β o p → RowsAgree observer β (altered key f rs) (altered key g qs)
            → RowsAgree observer β (cond b (row_or_none j o rs) ((j, s) ∷ altered key f rs)) (cond b (row_or_none j p qs) ((j, t) ∷ altered key g qs))
        at_first true neither_names ih = r
        at_first true (both_name x) ih = row x r
        at_first false x ih = row a ih

    -- a slot is replaced in one of them, by one that stands for it
    pub altered_left : (key : List ℕ) (f : Slot Label → Option (Slot Label)) (s s' : Slot Label) {rs qs : Rows (Slot Label)} → own key rs ≡ Some s → f s ≡ Some s' → ((t : Slot Label) → SlotsAgree observer β s t → SlotsAgree observer β s' t)
        → RowsAgree observer β rs qs → RowsAgree observer β (altered key f rs) qs
    altered_left key f s s' e i h no_rows = no_rows
    altered_left key f s s' e i h (row {key = j} {s = x} {t = t} {rs = rs} {qs = qs} a r) = at_first (same_name j key) (f x) refl e (λ d. altered_left key f s s' d i h r)
      where
        at_first : (b : Bool) (o : Option (Slot Label)) → f x ≡ o → cond b (Some x) (own key rs) ≡ Some s → (own key rs ≡ Some s → RowsAgree observer β (altered key f rs) qs)
            → RowsAgree observer β (cond b (row_or_none j o rs) ((j, x) ∷ altered key f rs)) ((j, t) ∷ qs)
        at_first true None z d ih = absurd (none-some _ (sym z ∙ ap f (same_Some x s d) ∙ i))
        at_first true (Some y) z d ih = row (subst (λ w. SlotsAgree observer β w t) (same_Some s' y (sym i ∙ ap f (sym (same_Some x s d)) ∙ z)) (h t (subst (λ w. SlotsAgree observer β w t) (same_Some x s d) a))) r
        at_first false o z d ih = row a (ih d)

    pub with_row_both : (key : List ℕ) {s t : Slot Label} {rs qs : Rows (Slot Label)} → SlotsAgree observer β s t → RowsAgree observer β rs qs → RowsAgree observer β (with_row key s rs) (with_row key t qs)
    with_row_both key a no_rows = row a no_rows
    with_row_both key a (row b r) = row b (with_row_both key a r)

    -- rows that agree do so where the observer sees them
    seen_pair : (b c : Bool) (key : List ℕ) {s t : Slot Label} {rs qs : Rows (Slot Label)} → b ≡ c → SlotsAgree observer β s t → RowsAgree observer β rs qs → RowsAgree observer β (cond b ((key, s) ∷ rs) rs) (cond c ((key, t) ∷ qs) qs)
    seen_pair true true j e a r = row a r
    seen_pair false false j e a r = r
    seen_pair true false j e a r = absurd (true≢false e)
    seen_pair false true j e a r = absurd (true≢false (sym e))

    pub seen_both : {rs qs : Rows (Slot Label)} → RowsAgree observer β rs qs → RowsAgree observer β (seen_rows observer rs) (seen_rows observer qs)
    seen_both no_rows = no_rows
    seen_both (row {key = j} a r) = seen_pair _ _ j (same_sight a) a (seen_both r)

  -- ---- the rows that are seen

  abbrev pub seen_slot : Option (Slot Label) → Option (Slot Label)
  seen_slot None = None
  seen_slot (Some s) = cond (sees observer s.existence) (Some s) None

  -- the slot is not there, or not seen
  pub data IsUnseen : Option (Slot Label) → Type 0 where
    no_slot : IsUnseen None
    hidden_slot : {s : Slot Label} → Hides observer s.existence → IsUnseen (Some s)

  pub unseen_slot : {o : Option (Slot Label)} → IsUnseen o → seen_slot o ≡ None
  unseen_slot no_slot = refl
  unseen_slot (hidden_slot {s = s} h) = ap (λ b. cond b (Some s) None) h

  seen_absent : {key : List ℕ} {rows : Rows (Slot Label)} → IsAbsent key rows → IsAbsent key (seen_rows observer rows)
  seen_absent nowhere = nowhere
  seen_absent {key} (elsewhere {other = j} {s = s} {rows = rows} n a) = at_first (sees observer s.existence) (seen_absent a)
    where
      at_first : (b : Bool) → IsAbsent key (seen_rows observer rows) → IsAbsent key (cond b ((j, s) ∷ seen_rows observer rows) (seen_rows observer rows))
      at_first true h = elsewhere n h
      at_first false h = h

  -- among the rows that are seen a key names what it names, if that is seen
  pub own_seen : (key : List ℕ) {rows : Rows (Slot Label)} → AreDistinct rows → own key (seen_rows observer rows) ≡ seen_slot (own key rows)
  own_seen key no_keys = refl
  own_seen key (one_more {key = j} {s = s} {rows = rows} a d) = at_first (same_name j key) (sees observer s.existence) refl refl (own_seen key d)
    where
      at_first : (b c : Bool) → same_name j key ≡ b → sees observer s.existence ≡ c → own key (seen_rows observer rows) ≡ seen_slot (own key rows)
          → own key (cond c ((j, s) ∷ seen_rows observer rows) (seen_rows observer rows)) ≡ seen_slot (cond b (Some s) (own key rows))
      at_first true true e f ih = ap (λ b. cond b (Some s) (own key (seen_rows observer rows))) e ∙ sym (ap (λ c. cond c (Some s) None) f)
      at_first true false e f ih = absent_own (seen_absent (subst (λ x. IsAbsent x rows) (are_one j key e) a)) ∙ sym (ap (λ c. cond c (Some s) None) f)
      at_first false true e f ih = ap (λ b. cond b (Some s) (own key (seen_rows observer rows))) e ∙ ih
      at_first false false e f ih = ih

  -- a change that keeps hidden slots hidden is one of the rows that are seen
  pub seen_altered : (key : List ℕ) (f : Slot Label → Option (Slot Label)) → ((s : Slot Label) → Hides observer s.existence → IsUnseen (f s)) → {rows : Rows (Slot Label)} → AreDistinct rows
      → seen_rows observer (altered key f rows) ≡ altered key (λ s. seen_slot (f s)) (seen_rows observer rows)
  seen_altered key f h no_keys = refl
  seen_altered key f h (one_more {key = j} {s = s} {rows = rows} a d) = at_first (same_name j key) (sees observer s.existence) (f s) refl refl refl (seen_altered key f h d)
    where
      seen_first : (o : Option (Slot Label)) → seen_rows observer (row_or_none j o rows) ≡ row_or_none j (seen_slot o) (seen_rows observer rows)
      seen_first None = refl
      seen_first (Some t) = by_sight (sees observer t.existence)
        where
          by_sight : (c : Bool) → cond c ((j, t) ∷ seen_rows observer rows) (seen_rows observer rows) ≡ row_or_none j (cond c (Some t) None) (seen_rows observer rows)
          by_sight true = refl
          by_sight false = refl

      at_first : (b c : Bool) (o : Option (Slot Label)) → same_name j key ≡ b → sees observer s.existence ≡ c → f s ≡ o → seen_rows observer (altered key f rows) ≡ altered key (λ s. seen_slot (f s)) (seen_rows observer rows)
          → seen_rows observer (cond b (row_or_none j o rows) ((j, s) ∷ altered key f rows)) ≡ altered key (λ x. seen_slot (f x)) (cond c ((j, s) ∷ seen_rows observer rows) (seen_rows observer rows))
      at_first true true o e g i ih = seen_first o ∙ ap (λ x. row_or_none j (seen_slot x) (seen_rows observer rows)) (sym i)
          ∙ sym (ap (λ b. cond b (row_or_none j (seen_slot (f s)) (seen_rows observer rows)) ((j, s) ∷ altered key (λ x. seen_slot (f x)) (seen_rows observer rows))) e)
      at_first true false o e g i ih = seen_first o ∙ ap (λ x. row_or_none j x (seen_rows observer rows)) (unseen_slot (subst IsUnseen i (h s g)))
          ∙ sym (absent_altered (λ x. seen_slot (f x)) (seen_absent (subst (λ x. IsAbsent x rows) (are_one j key e) a)))
      at_first false true o e g i ih = ap (λ c. cond c ((j, s) ∷ seen_rows observer (altered key f rows)) (seen_rows observer (altered key f rows))) g ∙ ap (λ (x : Rows (Slot Label)). (j, s) ∷ x) ih
          ∙ sym (ap (λ b. cond b (row_or_none j (seen_slot (f s)) (seen_rows observer rows)) ((j, s) ∷ altered key (λ x. seen_slot (f x)) (seen_rows observer rows))) e)
      at_first false false o e g i ih = ap (λ c. cond c ((j, s) ∷ seen_rows observer (altered key f rows)) (seen_rows observer (altered key f rows))) g ∙ ih

  -- a row more, which is not seen
  pub seen_with_row : (key : List ℕ) (s : Slot Label) (rows : Rows (Slot Label)) → Hides observer s.existence → seen_rows observer (with_row key s rows) ≡ seen_rows observer rows
  seen_with_row key s [] h = ap (λ b. cond b ((key, s) ∷ []) []) h
  seen_with_row key s (r ∷ rows) h = ap (λ (x : Rows (Slot Label)). cond (sees observer r.1.existence) (r ∷ x) x) (seen_with_row key s rows h)
