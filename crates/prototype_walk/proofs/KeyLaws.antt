-- Enumerations, row by row and object by object, in a reading of the labels.
use Rattle.std.proofs.Common.{◌≡◌, ℕ, zero, suc, ◌+◌, Bool, true, false, ◌&&◌, ◌||◌, not, List, [], ◌∷◌, ◌++◌, drop, Option, Some, None, refl, sym, ap, ◌∙◌, arith, if◌then◌else◌}
use Rattle.std.specs.List.{slice_get}
use Rattle.std.specs.Option.{option_map}
use Rattle.std.specs.Ordering.{nat_cmp}
use Rattle.std.specs.Cmp.Lexicographic.{slice_cmp}
use Rattle.std.specs.BTreeSet.{insert_key}
use Rattle.std.proofs.lemmas.Option.{none-some, same_Some}
use Rattle.std.proofs.lemmas.List.{append_assoc, append-nil}
use Rattle.origin_labels.specs.Label.{Label, IsLabel, bottom, union}
use Rattle.origin_labels.specs.Names.{has_name}
use Rattle.origin_labels.specs.Stores.{IsKept}
use Rattle.origin_labels.proofs.LabelLaws.{IsLabel-bottom, IsLabel-union, union-assoc, union-bottom, union-bottom_left}
use Rattle.js_values.specs.declared.ids.ObjId.{ObjId}
use Rattle.js_values.specs.declared.property.Slot.{Slot}
use Rattle.js_values.specs.Chains.{onwards}
use Rattle.js_values.specs.Objects.{Rows, Object, number_of, keys_of}
use Rattle.js_values.specs.Readings.{IsReading, read_rows, read_object, read_heap}
use Rattle.js_values.specs.Walks.{object_chain}
use Rattle.js_values.proofs.ReadingLaws.{IsReading-earlier}
use Rattle.object_heap.specs.declared.shape.Shape.{Shape}
use Rattle.object_heap.specs.Formed.{IsFormed, row_in, IsShape}
use Rattle.prototype_walk.specs.declared.key_list.KeyList.{KeyList}
use Rattle.prototype_walk.specs.KeyLists.{fresh_keys, listed_keys, own_keys_label, existences, Keys, keys_after, keys, rows_in}
use Rattle.prototype_walk.specs.Answers.{Means, IsKeyList, IsOwnList}
use Rattle.prototype_walk.proofs.HeldLaws.{HasShape, shape_there}
use Rattle.prototype_walk.proofs.MetLaws.{has_append, meets_key}
use Rattle.prototype_walk.proofs.WalkLaws.{chain_at}

-- ---- the rows that are left

pub row_at : {T : Type 0} (o : Option (Object T)) (n : ℕ) → row_in n o ≡ slice_get (rows_in o) n
row_at None n = refl
row_at (Some p) n = refl

pub drop_more : {X : Type 0} (xs : List X) (n : ℕ) (x : X) → slice_get xs n ≡ Some x → drop n xs ≡ x ∷ drop (suc n) xs
drop_more [] n x e = absurd (none-some x e)
drop_more (y ∷ xs) zero x e = ap (λ z. z ∷ xs) (same_Some y x e)
drop_more (y ∷ xs) (suc n) x e = drop_more xs n x e

pub drop_end : {X : Type 0} (xs : List X) (n : ℕ) → slice_get xs n ≡ None → drop n xs ≡ []
drop_end [] zero e = refl
drop_end [] (suc n) e = refl
drop_end (y ∷ xs) zero e = absurd (none-some y (sym e))
drop_end (y ∷ xs) (suc n) e = drop_end xs n e

module _ {T : Type 0} (o : Option (Object T)) (n : ℕ) where
  pub rows_more : (r : List ℕ × Slot T) → Some r ≡ row_in n o → drop n (rows_in o) ≡ r ∷ drop (n + 1) (rows_in o)
  rows_more r e =
      let next : suc n ≡ n + 1 = omega arith in
      drop_more (rows_in o) n r (sym (e ∙ row_at o n)) ∙ ap (λ k. r ∷ drop k (rows_in o)) next

  pub rows_end : None ≡ row_in n o → drop n (rows_in o) ≡ []
  rows_end e = drop_end (rows_in o) n (sym (e ∙ row_at o n))

-- the first row, and the others
pub fresh_first : {T : Type 0} (met : List (List ℕ)) (r : List ℕ × Slot T) (rows : Rows (Slot T)) → fresh_keys met (r ∷ rows) ≡ fresh_keys met (r ∷ []) ++ fresh_keys met rows
fresh_first met r rows = one (r.1.marks.enumerable && not (has_name r.0 met))
  where
    one : (test : Bool) → (if test then r.0 ∷ fresh_keys met rows else fresh_keys met rows) ≡ (if test then r.0 ∷ [] else []) ++ fresh_keys met rows
    one true = refl
    one false = refl

module _ {T : Type 0} (o : Option (Object T)) (n : ℕ) (done all : List (List ℕ)) where
  pub fresh_on : (met new : List (List ℕ)) (r : List ℕ × Slot T) → Some r ≡ row_in n o → new ≡ done ++ fresh_keys met (r ∷ []) → done ++ fresh_keys met (drop n (rows_in o)) ≡ all → new ++ fresh_keys met (drop (n + 1) (rows_in o)) ≡ all
  fresh_on met new r is grows same =
      let rest = fresh_keys met (drop (n + 1) (rows_in o)) in
      ap (λ ks. ks ++ rest) grows ∙ append_assoc done (fresh_keys met (r ∷ [])) rest
      ∙ ap (λ ks. done ++ ks) (sym (fresh_first met r (drop (n + 1) (rows_in o)))) ∙ ap (λ rs. done ++ fresh_keys met rs) (sym (rows_more o n r is)) ∙ same

  pub fresh_all : (met : List (List ℕ)) → None ≡ row_in n o → done ++ fresh_keys met (drop n (rows_in o)) ≡ all → done ≡ all
  fresh_all met is same = sym (append-nil done) ∙ ap (λ rs. done ++ fresh_keys met rs) (sym (rows_end o n is)) ∙ same

-- the own keys, row by row
listed_first : {T : Type 0} (all : Bool) (r : List ℕ × Slot T) (rows : Rows (Slot T)) → listed_keys all (r ∷ rows) ≡ listed_keys all (r ∷ []) ++ listed_keys all rows
listed_first all r rows = one (all || r.1.marks.enumerable)
  where
    one : (test : Bool) → (if test then r.0 ∷ listed_keys all rows else listed_keys all rows) ≡ (if test then r.0 ∷ [] else []) ++ listed_keys all rows
    one true = refl
    one false = refl

module _ {T : Type 0} (o : Option (Object T)) (n : ℕ) (done whole : List (List ℕ)) (all : Bool) where
  pub listed_on : (new : List (List ℕ)) (r : List ℕ × Slot T) → Some r ≡ row_in n o → new ≡ done ++ listed_keys all (r ∷ []) → done ++ listed_keys all (drop n (rows_in o)) ≡ whole → new ++ listed_keys all (drop (n + 1) (rows_in o)) ≡ whole
  listed_on new r is grows same =
      let rest = listed_keys all (drop (n + 1) (rows_in o)) in
      ap (λ ks. ks ++ rest) grows ∙ append_assoc done (listed_keys all (r ∷ [])) rest
      ∙ ap (λ ks. done ++ ks) (sym (listed_first all r (drop (n + 1) (rows_in o)))) ∙ ap (λ rs. done ++ listed_keys all rs) (sym (rows_more o n r is)) ∙ same

  pub listed_all : None ≡ row_in n o → done ++ listed_keys all (drop n (rows_in o)) ≡ whole → done ≡ whole
  listed_all is same = sym (append-nil done) ∙ ap (λ rs. done ++ listed_keys all rs) (sym (rows_end o n is)) ∙ same

-- the own keys, with their label
pub own_listed : {S T : Type 0} (made : S → T → Type 0) (meaning : S → T → Label) (store : S) (heap : List (Object T)) (o : ℕ) (all : Bool) (list : KeyList T) (shape : Shape T) → IsShape (slice_get heap o) shape → list.keys ≡ listed_keys all (rows_in (slice_get heap o))
    → Means made meaning store list.walk (λ reading. union (reading shape.structure) (existences (read_rows reading (rows_in (slice_get heap o))))) → IsOwnList made meaning store heap o all list
own_listed made meaning store heap o all list shape is keys means =
    let there = shape_there heap o shape is in
    record {
      belongs = means.belongs;
      keys = keys;
      is = λ reading read.
          means.is reading read
          ∙ ap (λ (q : Shape _). union (reading q.structure) (existences (read_rows reading (rows_in (slice_get heap o))))) there.is
          ∙ ap (λ p. union (reading there.object.structure) (existences (read_rows reading (rows_in p)))) there.here
          ∙ ap (λ p. own_keys_label (option_map (read_object reading) p)) (sym there.here);
    }

-- the same keys are met
abbrev pub MeetSame : List (List ℕ) → List (List ℕ) → Type 0
MeetSame xs ys = (key : List ℕ) → has_name key xs ≡ has_name key ys

module _ {T : Type 0} (o : Option (Object T)) (n : ℕ) (done all : List (List ℕ)) where
  pub meets_on : (new : List (List ℕ)) (r : List ℕ × Slot T) → Some r ≡ row_in n o → new ≡ insert_key (slice_cmp nat_cmp) done r.0 → MeetSame (done ++ keys_of (drop n (rows_in o))) all → MeetSame (new ++ keys_of (drop (n + 1) (rows_in o))) all
  meets_on new r is grows same = λ key.
      meets_key key r.0 done new (keys_of (drop (n + 1) (rows_in o))) grows
      ∙ ap (λ rs. has_name key (done ++ keys_of rs)) (sym (rows_more o n r is)) ∙ same key

  pub meets_all : None ≡ row_in n o → MeetSame (done ++ keys_of (drop n (rows_in o))) all → MeetSame done all
  meets_all is same = λ key. ap (has_name key) (sym (append-nil done)) ∙ ap (λ rs. has_name key (done ++ keys_of rs)) (sym (rows_end o n is)) ∙ same key

-- what is taken depends on which keys were met alone
fresh_same : {T : Type 0} (xs ys : List (List ℕ)) → MeetSame xs ys → (rows : Rows (Slot T)) → fresh_keys xs rows ≡ fresh_keys ys rows
fresh_same xs ys same [] = refl
fresh_same xs ys same (r ∷ rows) =
    ap (λ ks. if r.1.marks.enumerable && not (has_name r.0 xs) then r.0 ∷ ks else ks) (fresh_same xs ys same rows)
    ∙ ap (λ met. if r.1.marks.enumerable && not met then r.0 ∷ fresh_keys ys rows else fresh_keys ys rows) (same r.0)

met_more : (xs ys more : List (List ℕ)) → MeetSame xs ys → MeetSame (xs ++ more) (ys ++ more)
met_more xs ys more same = λ key. has_append key xs more ∙ ap (λ s. s || has_name key more) (same key) ∙ sym (has_append key ys more)

after_same : (xs ys : List (List ℕ)) → MeetSame xs ys → (objects : List (ℕ × Object Label)) → keys_after xs objects ≡ keys_after ys objects
after_same xs ys same [] = refl
after_same xs ys same (e ∷ objects) =
    ap (λ ks. record {
      keys = ks ++ (keys_after (xs ++ keys_of e.1.rows) objects).keys;
      walk = union e.1.structure (union e.1.link (union (existences e.1.rows) (keys_after (xs ++ keys_of e.1.rows) objects).walk));
    }) (fresh_same xs ys same e.1.rows)
    ∙ ap (λ (rest : Keys). record {
      keys = fresh_keys ys e.1.rows ++ rest.keys;
      walk = union e.1.structure (union e.1.link (union (existences e.1.rows) rest.walk));
    }) (after_same (xs ++ keys_of e.1.rows) (ys ++ keys_of e.1.rows) (met_more xs ys (keys_of e.1.rows) same) objects)

-- ---- in a reading

module _ {T : Type 0} (reading : T → Label) where
  read_fresh : (met : List (List ℕ)) (rows : Rows (Slot T)) → fresh_keys met (read_rows reading rows) ≡ fresh_keys met rows
  read_fresh met [] = refl
  read_fresh met (r ∷ rows) = ap (λ ks. if r.1.marks.enumerable && not (has_name r.0 met) then r.0 ∷ ks else ks) (read_fresh met rows)

  read_keys_of : (rows : Rows (Slot T)) → keys_of (read_rows reading rows) ≡ keys_of rows
  read_keys_of [] = refl
  read_keys_of (r ∷ rows) = ap (λ ks. r.0 ∷ ks) (read_keys_of rows)

pub IsLabel-existences : (rows : Rows (Slot Label)) → IsLabel (existences rows)
IsLabel-existences [] = IsLabel-bottom
IsLabel-existences (r ∷ rows) = IsLabel-union r.1.existence (existences rows) (IsLabel-existences rows)

pub IsLabel-keys : (met : List (List ℕ)) (objects : List (ℕ × Object Label)) → IsLabel (keys_after met objects).walk
IsLabel-keys met [] = IsLabel-bottom
IsLabel-keys met (e ∷ objects) =
    let rest = (keys_after (met ++ keys_of e.1.rows) objects).walk in
    let first = IsLabel-union (existences e.1.rows) rest (IsLabel-keys (met ++ keys_of e.1.rows) objects) in
    IsLabel-union e.1.structure (union e.1.link (union (existences e.1.rows) rest)) (IsLabel-union e.1.link (union (existences e.1.rows) rest) first)

-- the existence of one more row
pub existences_on : {T : Type 0} (o : Option (Object T)) (n : ℕ) (reading : T → Label) (joined label : T) (all : Label) (r : List ℕ × Slot T) → Some r ≡ row_in n o → reading label ≡ union (reading joined) (reading r.1.existence) → union (reading joined) (existences (read_rows reading (drop n (rows_in o)))) ≡ all → union (reading label) (existences (read_rows reading (drop (n + 1) (rows_in o)))) ≡ all
existences_on o n reading joined label all r is joins same =
    let rest = existences (read_rows reading (drop (n + 1) (rows_in o))) in
    ap (λ w. union w rest) joins ∙ union-assoc (reading joined) (reading r.1.existence) rest (IsLabel-existences (read_rows reading (drop (n + 1) (rows_in o))))
    ∙ ap (λ rs. union (reading joined) (existences (read_rows reading rs))) (sym (rows_more o n r is)) ∙ same

pub existences_all : {T : Type 0} (o : Option (Object T)) (n : ℕ) (reading : T → Label) (joined : T) (all : Label) → None ≡ row_in n o → IsLabel (reading joined) → union (reading joined) (existences (read_rows reading (drop n (rows_in o)))) ≡ all → reading joined ≡ all
existences_all o n reading joined all is labels same = sym (union-bottom (reading joined) labels) ∙ ap (λ rs. union (reading joined) (existences (read_rows reading rs))) (sym (rows_end o n is)) ∙ same

-- ---- an enumeration that has come to an object

-- the keys so far, and those that are taken from there on
abbrev pub after : List (List ℕ) → Label → Keys → Keys
after taken walk rest = record { keys = taken ++ rest.keys; walk = union walk rest.walk }

-- the keys from the first object on are those so far and those from here on
abbrev pub Enumerates : {S T : Type 0} → (S → T → Type 0) → (S → T → Label) → S → List (Object T) → ℕ → ℕ → List (List ℕ) → List (List ℕ) → T → Type 0
Enumerates made meaning store heap o at met taken walk = (reading : _) → IsReading made meaning store reading → keys (object_chain (read_heap reading heap) o) ≡ after taken (reading walk) (keys_after met (object_chain (read_heap reading heap) at))

module _ {S T : Type 0} (made : S → T → Type 0) (meaning : S → T → Label) (heap : List (Object T)) (o : ℕ) where
  pub enumerates_first : (store : S) (walk : T) (met taken : List (List ℕ)) → met ≡ [] → taken ≡ [] → made store walk → meaning store walk ≡ bottom → Enumerates made meaning store heap o o met taken walk
  enumerates_first store walk met taken none empty m is reading read =
      let f = keys (object_chain (read_heap reading heap) o) in
      sym (ap (λ ks. after ks (reading walk) (keys_after met (object_chain (read_heap reading heap) o))) empty
      ∙ ap (λ ks. after [] (reading walk) (keys_after ks (object_chain (read_heap reading heap) o))) none
      ∙ ap (λ w. after [] w f) (read.agrees walk m ∙ is) ∙ ap (λ w. record { keys = f.keys; walk = w }) (union-bottom_left f.walk))

  module _ (formed : IsFormed heap) (store : S) (i : ℕ) (met taken met_on taken_on : List (List ℕ)) (walk label : T) (shape : Shape T) (there : IsShape (slice_get heap i) shape)
      (comes : (reading : T → Label) → IsReading made meaning store reading → keys (object_chain (read_heap reading heap) o) ≡ after taken (reading walk) (keys_after met (object_chain (read_heap reading heap) i)))
      (meets : (key : List ℕ) → has_name key met_on ≡ has_name key (met ++ keys_of (rows_in (slice_get heap i)))) (takes : taken_on ≡ taken ++ fresh_keys met (rows_in (slice_get heap i)))
      (means : (reading : T → Label) → IsReading made meaning store reading → reading label ≡ union (union (union (reading walk) (reading shape.structure)) (reading shape.link)) (existences (read_rows reading (rows_in (slice_get heap i))))) where
    held : HasShape heap i shape
    held = shape_there heap i shape there

    rows : Rows (Slot T)
    rows = held.object.rows

    regroup : (reading : T → Label) → IsReading made meaning store reading → (rest : Label) → IsLabel rest → union (reading label) rest ≡ union (reading walk) (union (reading held.object.structure) (union (reading held.object.link) (union (existences (read_rows reading held.object.rows)) rest)))
    regroup reading read rest labels =
        let w = reading walk in
        let s = reading held.object.structure in
        let l = reading held.object.link in
        let e = existences (read_rows reading held.object.rows) in
        let last = IsLabel-union e rest labels in
        ap (λ x. union x rest) (means reading read
        ∙ ap (λ (q : Shape T). union (union (union w (reading q.structure)) (reading q.link)) (existences (read_rows reading (rows_in (slice_get heap i))))) held.is
        ∙ ap (λ x. union (union (union w s) l) (existences (read_rows reading (rows_in x)))) held.here)
        ∙ union-assoc (union (union w s) l) e rest labels
        ∙ union-assoc (union w s) l (union e rest) last
        ∙ union-assoc w s (union l (union e rest)) (IsLabel-union l (union e rest) last)

    -- what is taken of this object, and the rest
    step : (reading : T → Label) → (next : Option ObjId) → shape.proto ≡ next → keys_after met (object_chain (read_heap reading heap) i)
        ≡ record {
          keys = fresh_keys met held.object.rows ++ (keys_after met_on (onwards (number_of next) (object_chain (read_heap reading heap)))).keys;
          walk = union (reading held.object.structure) (union (reading held.object.link) (union (existences (read_rows reading held.object.rows)) (keys_after met_on (onwards (number_of next) (object_chain (read_heap reading heap)))).walk));
        }
    step reading next leads =
        let proto = sym (ap (λ (q : Shape T). q.proto) held.is) ∙ leads in
        let further = λ (key : List ℕ). ap (λ ks. has_name key (met ++ ks)) (read_keys_of reading held.object.rows) ∙ sym (meets key ∙ ap (λ x. has_name key (met ++ keys_of (rows_in x))) held.here) in
        ap (keys_after met) (chain_at reading heap formed i held.object held.here)
        ∙ ap (λ n. keys_after met ((i, read_object reading held.object) ∷ onwards (number_of n) (object_chain (read_heap reading heap)))) proto
        ∙ ap (λ ks. record {
          keys = ks ++ (keys_after (met ++ keys_of (read_rows reading held.object.rows)) (onwards (number_of next) (object_chain (read_heap reading heap)))).keys;
          walk = union (reading held.object.structure) (union (reading held.object.link) (union (existences (read_rows reading held.object.rows)) (keys_after (met ++ keys_of (read_rows reading held.object.rows)) (onwards (number_of next) (object_chain (read_heap reading heap)))).walk));
        }) (read_fresh reading met held.object.rows)
        ∙ ap (λ (rest : Keys). record {
          keys = fresh_keys met held.object.rows ++ rest.keys;
          walk = union (reading held.object.structure) (union (reading held.object.link) (union (existences (read_rows reading held.object.rows)) rest.walk));
        }) (after_same (met ++ keys_of (read_rows reading held.object.rows)) met_on further (onwards (number_of next) (object_chain (read_heap reading heap))))

    behind : (next : Option ObjId) → shape.proto ≡ next → (reading : T → Label) → IsReading made meaning store reading
        → keys (object_chain (read_heap reading heap) o) ≡ after taken_on (reading label) (keys_after met_on (onwards (number_of next) (object_chain (read_heap reading heap))))
    behind next leads reading read =
        let rest = keys_after met_on (onwards (number_of next) (object_chain (read_heap reading heap))) in
        let labels = IsLabel-keys met_on (onwards (number_of next) (object_chain (read_heap reading heap))) in
        comes reading read
        ∙ ap (after taken (reading walk)) (step reading next leads)
        ∙ ap (λ w. record { keys = taken ++ (fresh_keys met held.object.rows ++ rest.keys); walk = w }) (sym (regroup reading read rest.walk labels))
        ∙ ap (λ ks. record { keys = ks; walk = union (reading label) rest.walk }) (sym (append_assoc taken (fresh_keys met held.object.rows) rest.keys) ∙ ap (λ ks. ks ++ rest.keys) (sym (takes ∙ ap (λ x. taken ++ fresh_keys met (rows_in x)) held.here)))

    ended : shape.proto ≡ None → (reading : T → Label) → IsReading made meaning store reading → IsLabel (reading label) → record { keys = taken_on; walk = reading label } ≡ keys (object_chain (read_heap reading heap) o)
    ended ends reading read labels =
        sym (behind None ends reading read ∙ ap (λ ks. record { keys = ks; walk = union (reading label) bottom }) (append-nil taken_on) ∙ ap (λ w. record { keys = taken_on; walk = w }) (union-bottom (reading label) labels))

-- an object was enumerated, in stores that follow on one another
module _ {S T : Type 0} (made : S → T → Type 0) (meaning : S → T → Label) (room : S → ℕ) (firm : S → Bool) (heap : List (Object T)) (formed : IsFormed heap) (o : ℕ) (old mid new : S) (first : IsKept made meaning room firm old mid) (second : IsKept made meaning room firm mid new)
    (i : ℕ) (met taken met_on taken_on : List (List ℕ)) (walk passed label : T) (shape : Shape T) (there : IsShape (slice_get heap i) shape) (comes : Enumerates made meaning old heap o i met taken walk)
    (meets : (key : List ℕ) → has_name key met_on ≡ has_name key (met ++ keys_of (rows_in (slice_get heap i)))) (takes : taken_on ≡ taken ++ fresh_keys met (rows_in (slice_get heap i)))
    (passes : Means made meaning mid passed (λ reading. union (union (reading walk) (reading shape.structure)) (reading shape.link)))
    (joins : Means made meaning new label (λ reading. union (reading passed) (existences (read_rows reading (rows_in (slice_get heap i)))))) where
  at_mid : (reading : T → Label) → IsReading made meaning new reading → IsReading made meaning mid reading
  at_mid reading read = IsReading-earlier made meaning room firm mid new reading second read

  comes_new : Enumerates made meaning new heap o i met taken walk
  comes_new reading read = comes reading (IsReading-earlier made meaning room firm old mid reading first (at_mid reading read))

  means_new : (reading : T → Label) → IsReading made meaning new reading → reading label ≡ union (union (union (reading walk) (reading shape.structure)) (reading shape.link)) (existences (read_rows reading (rows_in (slice_get heap i))))
  means_new reading read = joins.is reading read ∙ ap (λ w. union w (existences (read_rows reading (rows_in (slice_get heap i))))) (passes.is reading (at_mid reading read))

  pub keys_end : shape.proto ≡ None → ((reading : T → Label) → IsReading made meaning new reading → IsLabel (reading label)) → IsKeyList made meaning new heap o (record { keys = taken_on; walk = label })
  keys_end ends labels = record { belongs = joins.belongs; is = λ reading read. ended made meaning heap o formed new i met taken met_on taken_on walk label shape there comes_new meets takes means_new ends reading read (labels reading read) }

  pub keys_on : (proto : ObjId) → shape.proto ≡ Some proto → Enumerates made meaning new heap o proto.0 met_on taken_on label
  keys_on proto leads reading read = behind made meaning heap o formed new i met taken met_on taken_on walk label shape there comes_new meets takes means_new (Some proto) leads reading read
