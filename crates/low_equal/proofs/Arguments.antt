-- `arguments` objects in two runs: no key of one stands twice, and two of one function with arguments that agree do so.
use Rattle.std.proofs.Common.{◌≡◌, ℕ, suc, pos, ◌<◌, ◌≤◌, List, [], ◌∷◌, ◌++◌, length, map, Bool, true, false, Option, Some, None, codes, refl, sym, ap, subst, true≢false, arith}
use Rattle.std.proofs.lemmas.Option.{same_Some}
use Rattle.origin_labels.specs.Label.{Label}
use Rattle.origin_labels.specs.Names.{same_name}
use Rattle.flow_policy.specs.Policies.{Tables}
use Rattle.js_number.specs.declared.num.Num.TheVariants.{Int}
use Rattle.js_number.specs.declared.primitive.Primitive.TheVariants.{Num}
use Rattle.js_values.specs.Arrays.{element_key}
use Rattle.js_values.specs.declared.ids.ObjId.{ObjId}
use Rattle.js_values.specs.declared.value.Value.TheVariants as value
use Rattle.js_values.specs.declared.property.Body.TheVariants.{Data}
use Rattle.js_values.specs.declared.property.Slot.{Slot}
use Rattle.js_values.specs.Objects.{Rows, own}
use Rattle.es_meaning.specs.Functions.{elements_down, arguments_rows, accessor_rows, made_if}
use Rattle.es_meaning.specs.Objects.{defined_over}
use Rattle.es_meaning.specs.Start.{built_in, caller_accessor, callee_accessor, start_heap}
use Rattle.es_meaning.proofs.Link.{Rels, nils, conses}
use Rattle.flow_meaning.specs.Erased.{made_rows}
use Rattle.flow_meaning.specs.Scopes.{Val}
use Rattle.flow_meaning.specs.Requested.{data_slot, arguments_object}
use Rattle.low_equal.specs.Observed.{Sees}
use Rattle.low_equal.specs.LowEqual.{Pairing, seen, primitives, both, Agree, data_bodies, SlotsAgree, RowsAgree, no_rows, row, scripts, seen_shape, IsAbsent, nowhere, elsewhere, AreDistinct, no_keys, one_more}
use Rattle.low_equal.proofs.Agreement.{alike_join}
use Rattle.low_equal.proofs.Makes.{accessor_row, News, no_news, news}
use Rattle.low_equal.proofs.Keys.{IsNumeral, element_numeral, no_numeral}
use Rattle.low_equal.proofs.Rows.{own_absent, still_absent, absent_with_row, own_agree}
use Rattle.low_equal.proofs.ObjectActs.{distinct_over, rows_over}

-- ---- keys of the rows

module _ {S : Type 0} where
  -- a word is the key of no element
  over_absent : (o : Option S) {key other : List ℕ} (s : S) {rs : Rows S} → (other ≡ key → ⊥) → IsAbsent key rs → IsAbsent key (defined_over o other s rs)
  over_absent None {key} {other} s n a = absent_with_row other s n a
  over_absent (Some x) {key} {other} s n a = still_absent other (λ y. Some s) a

  elements_absent : (c : ℕ) (cs : List ℕ) → 58 ≤ c → (n : ℕ) (xs : List S) {rs : Rows S} → IsAbsent (c ∷ cs) rs → IsAbsent (c ∷ cs) (elements_down rs n xs)
  elements_absent c cs h n [] a = a
  elements_absent c cs h n (x ∷ xs) {rs} a =
      over_absent (own (element_key n) (elements_down rs (suc n) xs)) x (λ e. no_numeral (subst IsNumeral e (element_numeral n)) h) (elements_absent c cs h (suc n) xs a)

  -- two rows behind others
  absent_two : {key : List ℕ} (a b : List ℕ) (s t : S) {rs : Rows S} → (a ≡ key → ⊥) → (b ≡ key → ⊥) → IsAbsent key rs → IsAbsent key (rs ++ (a, s) ∷ (b, t) ∷ [])
  absent_two a b s t m n nowhere = elsewhere m (elsewhere n nowhere)
  absent_two a b s t m n (elsewhere x r) = elsewhere x (absent_two a b s t m n r)

  distinct_two : (a b : List ℕ) (s t : S) {rs : Rows S} → (b ≡ a → ⊥) → IsAbsent a rs → IsAbsent b rs → AreDistinct rs → AreDistinct (rs ++ (a, s) ∷ (b, t) ∷ [])
  distinct_two a b s t n x y no_keys = one_more (elsewhere n nowhere) (one_more nowhere no_keys)
  distinct_two a b s t n (elsewhere j x) (elsewhere k y) (one_more r d) = one_more (absent_two a b s t (λ e. j (sym e)) (λ e. k (sym e)) r) (distinct_two a b s t n x y d)

module _ (observer : Label) (tables : Tables) where
  elements_distinct : (n : ℕ) (xs : List (Slot Label)) {rs : Rows (Slot Label)} → AreDistinct rs → AreDistinct (elements_down rs n xs)
  elements_distinct n [] d = d
  elements_distinct n (x ∷ xs) {rs} d = let key = element_key n in let more = elements_down rs (suc n) xs in distinct_over observer tables (own key more) key x refl (elements_distinct (suc n) xs d)

  callee_differs : codes "callee" ≡ codes "caller" → ⊥
  callee_differs e = true≢false (ap (λ (xs : List ℕ). same_name xs (codes "callee")) e)

  arguments_distinct : (l : Label) (x : Slot Label) (xs : List (Slot Label)) → AreDistinct (arguments_rows x xs ++ made_rows l accessor_rows)
  arguments_distinct l x xs = distinct_two (codes "caller") (codes "callee") _ _ callee_differs
      (elements_absent _ _ (omega arith) 0 xs (own_absent (codes "caller") ((codes "length", x) ∷ []) refl))
      (elements_absent _ _ (omega arith) 0 xs (own_absent (codes "callee") ((codes "length", x) ∷ []) refl))
      (elements_distinct 0 xs (one_more nowhere no_keys))

  module _ (δ : Pairing) where
    same_count : {vs us : List Val} → Rels (Agree observer δ) vs us → length vs ≡ length us
    same_count nils = refl
    same_count (conses a r) = ap suc (same_count r)

    elements_agree : (n : ℕ) (l : Label) {rs qs : Rows (Slot Label)} {vs us : List Val} → Sees observer l → RowsAgree observer δ rs qs → Rels (Agree observer δ) vs us → RowsAgree observer δ (elements_down rs n (map (data_slot l) vs)) (elements_down qs n (map (data_slot l) us))
    elements_agree n l v r nils = r
    elements_agree n l v r (conses a more) = let q = elements_agree (suc n) l v r more in
        rows_over observer tables (element_key n) (own_agree observer (element_key n) q) (seen v refl (refl, data_bodies (alike_join observer (λ x (y : Unit {0}). x) a (seen v refl tt)))) q

    abbrev count_of : Label → ℕ → Slot Label
    count_of l n = record { body = Data (value.Primitive (Num (Int (pos n)))); label = l; existence = l; marks = built_in }

    counts_agree : {m n : ℕ} {l : Label} → Sees observer l → m ≡ n → SlotsAgree observer δ (count_of l m) (count_of l n)
    counts_agree {m} {n} {l} v e = subst (λ k. SlotsAgree observer δ (count_of l m) (count_of l k)) e (seen v refl (refl, data_bodies (seen v refl primitives)))

    rows_behind : {rs qs ps us : Rows (Slot Label)} → RowsAgree observer δ rs qs → RowsAgree observer δ ps us → RowsAgree observer δ (rs ++ ps) (qs ++ us)
    rows_behind no_rows b = b
    rows_behind (row s a) b = row s (rows_behind a b)

    accessors_agree : (l : Label) → Sees observer l → ((o : ℕ) → o < length start_heap → δ.objects o o ≡ true) → RowsAgree observer δ (made_rows l accessor_rows) (made_rows l accessor_rows)
    accessors_agree l v starts = accessor_row observer (codes "caller") caller_accessor l v (starts caller_accessor.0 (omega arith)) (accessor_row observer (codes "callee") callee_accessor l v (starts callee_accessor.0 (omega arith)) no_rows)

    pub arguments_news : (b : Bool) (number i j o q : ℕ) (l : Label) {vs us : List Val} → Sees observer l → δ.records i j ≡ true → ((n : ℕ) → n < length start_heap → δ.objects n n ≡ true) → 0 < o → 0 < q → Rels (Agree observer δ) vs us
        → News observer δ o q (made_if b (arguments_object number i vs l)) (made_if b (arguments_object number j us l))
    arguments_news false number i j o q l v r z a b c = no_news
    arguments_news true number i j o q l {vs} {us} v r z a b c = news
        (record { below = λ x n e. subst (λ (y : ObjId). y.0 < o) (same_Some _ n e) a; target = tt; distinct = arguments_distinct l _ (map (data_slot l) vs) })
        (record { below = λ x n e. subst (λ (y : ObjId). y.0 < q) (same_Some _ n e) b; target = tt; distinct = arguments_distinct l _ (map (data_slot l) us) })
        (record { class = refl; inner = scripts r; links = seen v refl (both (z 0 (omega arith))); shapes = seen_shape v refl refl (rows_behind (elements_agree 0 l v (row (counts_agree v (same_count c)) no_rows) c) (accessors_agree l v z)) })
        no_news
