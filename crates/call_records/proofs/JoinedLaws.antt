-- Arguments that are put in places in turn, each with the context in its label.
use Rattle.std.proofs.Common.{refl, sym, ap, ap₂, subst, ◌∙◌, ◌≡◌, ◌+◌, ◌<◌, ◌≤◌, ℕ, zero, suc, Bool, List, [], ◌∷◌, ◌++◌, append_assoc, append-nil, length, map, take, get_or, set, Option, Some, None, arith}
use Rattle.std.specs.List.{All, slice_get}
use Rattle.std.proofs.lemmas.List.{map-append, length-set, take_more, take_all}
use Rattle.std.proofs.lemmas.List.Elements.{All-push, All-nil}
use Rattle.std.proofs.lemmas.Option.{none-some, slice_get_within, get_or_from_slice_get}
use Rattle.origin_labels.specs.Label.{Label}
use Rattle.origin_labels.specs.Stores.{IsKept}
use Rattle.origin_labels.proofs.StoreLaws.{IsKept-refl, IsKept-trans}
use Rattle.js_values.specs.declared.value.Labelled.{Labelled}
use Rattle.js_values.specs.Readings.{HasValue, read_value}
use Rattle.js_values.proofs.ReadingLaws.{IsReading-earlier, All-weaker}
use Rattle.call_records.specs.Joined.{in_context, Joins, IsNext, ForJoined}
use Rattle.call_records.specs.Placed.{placed}

-- an element that isn't there is behind the last
behind : {X : Type 0} (xs : List X) (k : ℕ) → slice_get xs k ≡ None → length xs ≤ k
behind [] k none = omega arith
behind (x ∷ xs) zero none = absurd (none-some x (sym none))
behind (x ∷ xs) (suc k) none = let rest = behind xs k none in omega arith

module _ {S T : Type 0} (made : S → T → Type 0) (meaning : S → T → Label) where
  -- what holds with some values for the arguments still holds where it becomes weaker
  pub for_joined_weaker : (store : S) (here : T) (args : List (Labelled T)) (m n : ℕ) → m ≡ n → (P Q : List (Labelled T) → Type 0) → ((vs : List (Labelled T)) → P vs → Q vs) → ForJoined made meaning store here (take m args) P → ForJoined made meaning store here (take n args) Q
  for_joined_weaker store here args m n same P Q f some = record { values = some.values; joins = subst (λ k. Joins made meaning store here (take k args) some.values) same some.joins; has = some.has; holds = f some.values some.holds }

module _ {S T : Type 0} (made : S → T → Type 0) (meaning : S → T → Label) (room : S → ℕ) (firm : S → Bool) where
  kept_values : (old new : S) → IsKept made meaning room firm old new → (vs : List (Labelled T)) → All (HasValue (made old)) vs → All (HasValue (made new)) vs
  kept_values old new kept vs all = All-weaker (HasValue (made old)) (HasValue (made new)) vs (λ v m. (kept.labels v.label m).0) all

  joins_later : (old new : S) → IsKept made meaning room firm old new → (here : T) (xs vs : List (Labelled T)) → Joins made meaning old here xs vs → Joins made meaning new here xs vs
  joins_later old new kept here xs vs joins = record { says = λ reading is. joins.says reading (IsReading-earlier made meaning room firm old new reading kept is) }

  joins_push : (store : S) (here : T) (xs vs : List (Labelled T)) (x v : Labelled T) → Joins made meaning store here xs vs → Joins made meaning store here (x ∷ []) (v ∷ []) → Joins made meaning store here (xs ++ x ∷ []) (vs ++ v ∷ [])
  joins_push store here xs vs x v joins one = record {
    says = λ reading is.
        map-append (read_value reading) vs (v ∷ [])
        ∙ ap₂ (λ (front back : List (Labelled Label)). front ++ back) (joins.says reading is) (one.says reading is)
        ∙ sym (map-append (in_context (reading here)) (map (read_value reading) xs) (map (read_value reading) (x ∷ [])))
        ∙ ap (map (in_context (reading here))) (sym (map-append (read_value reading) xs (x ∷ [])));
  }

  -- in a loop over places, so many have their values
  pub record Placing (here : T) (first : S) (args : List (Labelled T)) (missing : Labelled T) (places : List ℕ) (start : List (Labelled T)) (k : ℕ) (store : S) (all : List (Labelled T)) : Type 0 where
    pub within : k ≤ length places
    pub size : length all ≡ length start
    pub kept : IsKept made meaning room firm first store
    pub values : List (Labelled T)
    pub joins : Joins made meaning store here (take k args) values
    pub has : All (HasValue (made store)) values
    pub goes : (qs : List ℕ) (ws : List (Labelled T)) → (length args ≤ k → ws ≡ []) → placed missing (take k places ++ qs) (values ++ ws) start ≡ placed missing qs ws all

  pub placing_begins : (here : T) (first : S) (args : List (Labelled T)) (missing : Labelled T) (places : List ℕ) (start : List (Labelled T)) → Placing here first args missing places start 0 first start
  placing_begins here first args missing places start = record {
    within = omega arith;
    size = refl;
    kept = IsKept-refl made meaning room firm first;
    values = [];
    joins = record { says = λ reading is. refl };
    has = All-nil (HasValue (made first));
    goes = λ qs ws past. refl;
  }

  module _ (here : T) (first : S) (args : List (Labelled T)) (missing : Labelled T) (places : List ℕ) (start : List (Labelled T)) (k : ℕ) (store next : S) (all changed : List (Labelled T)) (v : Labelled T) (lt : k < length places)
      (is : changed ≡ set all (get_or places k 0) v) (so_far : Placing here first args missing places start k store all) (kept : IsKept made meaning room firm store next) where
    one_place : (qs : List ℕ) → take (k + 1) places ++ qs ≡ take k places ++ get_or places k 0 ∷ qs
    one_place qs = ap (λ (ps : List ℕ). ps ++ qs) (take_more places k 0 lt) ∙ append_assoc (take k places) (get_or places k 0 ∷ []) qs

    placing_goes_by : (o : Option (Labelled T)) → slice_get args k ≡ o → IsNext made meaning next here missing o v → Placing here first args missing places start (k + 1) next changed
    placing_goes_by None none missed =
        let past : length args ≤ k = behind args k none in
        let same : take k args ≡ take (k + 1) args = take_all k args past ∙ sym (take_all (k + 1) args (omega arith)) in
        record {
          within = omega arith;
          size = ap (λ (vs : List (Labelled T)). length vs) is ∙ length-set all (get_or places k 0) v ∙ so_far.size;
          kept = IsKept-trans made meaning room firm first store next so_far.kept kept;
          values = so_far.values;
          joins = subst (λ xs. Joins made meaning next here xs so_far.values) same (joins_later store next kept here (take k args) so_far.values so_far.joins);
          has = kept_values store next kept so_far.values so_far.has;
          goes = λ qs ws end.
              let nothing : ws ≡ [] = end (omega arith) in
              ap (λ (ps : List ℕ). placed missing ps (so_far.values ++ ws) start) (one_place qs)
              ∙ so_far.goes (get_or places k 0 ∷ qs) ws (λ le. nothing)
              ∙ ap (λ (us : List (Labelled T)). placed missing (get_or places k 0 ∷ qs) us all) nothing
              ∙ ap (placed missing qs []) (ap (set all (get_or places k 0)) (sym missed) ∙ sym is)
              ∙ ap (λ (us : List (Labelled T)). placed missing qs us changed) (sym nothing);
        }
    placing_goes_by (Some x) some one =
        let there : k < length args = slice_get_within args k x some in
        let longer : take k args ++ x ∷ [] ≡ take (k + 1) args = ap (λ (y : Labelled T). take k args ++ y ∷ []) (sym (get_or_from_slice_get args k x x some)) ∙ sym (take_more args k x there) in
        record {
          within = omega arith;
          size = ap (λ (vs : List (Labelled T)). length vs) is ∙ length-set all (get_or places k 0) v ∙ so_far.size;
          kept = IsKept-trans made meaning room firm first store next so_far.kept kept;
          values = so_far.values ++ v ∷ [];
          joins = subst (λ xs. Joins made meaning next here xs (so_far.values ++ v ∷ [])) longer (joins_push next here (take k args) so_far.values x v (joins_later store next kept here (take k args) so_far.values so_far.joins) one.0);
          has = All-push (HasValue (made next)) so_far.values v (kept_values store next kept so_far.values so_far.has) one.1;
          goes = λ qs ws end.
              ap₂ (λ (ps : List ℕ) (us : List (Labelled T)). placed missing ps us start) (one_place qs) (append_assoc so_far.values (v ∷ []) ws)
              ∙ so_far.goes (get_or places k 0 ∷ qs) (v ∷ ws) (λ le. absurd (omega arith))
              ∙ ap (placed missing qs ws) (sym is);
        }

    pub placing_goes : IsNext made meaning next here missing (slice_get args k) v → Placing here first args missing places start (k + 1) next changed
    placing_goes one = placing_goes_by (slice_get args k) refl one

  pub placing_ends : (here : T) (first : S) (args : List (Labelled T)) (missing : Labelled T) (places : List ℕ) (start : List (Labelled T)) (k : ℕ) (store : S) (all : List (Labelled T)) → length places ≤ k → Placing here first args missing places start k store all
      → ForJoined made meaning store here (take (length places) args) (λ vs. all ≡ placed missing places vs start)
  placing_ends here first args missing places start k store all le so_far =
      let within = so_far.within in
      let whole : k ≡ length places = omega (arith, within) in
      record {
        values = so_far.values;
        joins = subst (λ n. Joins made meaning store here (take n args) so_far.values) whole so_far.joins;
        has = so_far.has;
        holds =
            sym (so_far.goes [] [] (λ end. refl))
            ∙ ap₂ (λ (ps : List ℕ) (us : List (Labelled T)). placed missing ps us start) (append-nil (take k places) ∙ take_all k places le) (append-nil so_far.values);
      }
