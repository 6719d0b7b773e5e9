-- The own keys of an object as an array, in a reading of the labels.
use Rattle.std.proofs.Common.{arith, ◌≡◌, ◌+◌, ℕ, suc, Bool, true, false, ◌||◌, List, [], ◌∷◌, ◌++◌, length, map, Option, Some, None, Ok, refl, sym, ap, ap₂, subst, ◌∙◌, if◌then◌else◌}
use Rattle.std.specs.List.{slice_get}
use Rattle.std.specs.Option.{option_map}
use Rattle.std.proofs.lemmas.Option.{slice_get-map}
use Rattle.origin_labels.specs.Label.{Label, bottom, union}
use Rattle.origin_labels.specs.Names.{same_name}
use Rattle.origin_labels.specs.Stores.{IsKept}
use Rattle.origin_labels.proofs.LabelLaws.{union-bottom_left}
use Rattle.flow_policy.specs.Policies.{Tables}
use Rattle.flow_policy.specs.Inputs.{Given}
use Rattle.flow_frames.specs.Frames.{context}
use Rattle.js_number.specs.declared.primitive.Primitive.TheVariants.{Str}
use Rattle.js_values.specs.declared.ids.ObjId.{ObjId}
use Rattle.js_values.specs.declared.inner.Class.TheVariants as class
use Rattle.js_values.specs.declared.inner.Inner.TheVariants.{Plain}
use Rattle.js_values.specs.declared.property.Slot.{Slot}
use Rattle.js_values.specs.declared.value.Labelled.{Labelled}
use Rattle.js_values.specs.declared.value.Value.{Value}
use Rattle.js_values.specs.declared.value.Value.TheVariants as value
use Rattle.js_values.specs.Arrays.{element_key, length_key}
use Rattle.js_values.specs.Objects.{Rows, Property, Object, own, changed, with_row, fresh_object}
use Rattle.js_values.specs.Readings.{IsReading, read_object, read_rows, read_value}
use Rattle.js_values.proofs.ReadingLaws.{IsReading-earlier}
use Rattle.prototype_walk.specs.declared.key_list.KeyList.{KeyList}
use Rattle.prototype_walk.specs.Answers.{IsOwnList, Means}
use Rattle.prototype_walk.specs.KeyLists.{listed_keys, own_keys_label, rows_in}
use Rattle.es_meaning.specs.Objects.{defined, defined_over, elements_onto, made_by_script}
use Rattle.es_meaning.specs.Operations as operations
use Rattle.es_meaning.specs.Outcomes.{Outcome, Goes, Jumps, Ends}
use Rattle.es_meaning.specs.Functions.{property_with}
use Rattle.es_meaning.specs.Requested.{array_of_texts, listed, places_from, text_value}
use Rattle.es_meaning.specs.Start.{id, array_prototype, length_property}
use Rattle.flow_meaning.specs.Erased.{erased_rows, made_object, made_rows}
use Rattle.flow_meaning.specs.Requested.{array_object, data_slot, made_slot}
use Rattle.flow_meaning.specs.Scopes.{Halt, Jump, State, Val}
use Rattle.flow_meaning.specs.Tracked.{act, keys_in, keys_label, list_keys, make_array}
use Rattle.run_state.specs.declared.outcome.Outcome.TheVariants as outcome
use Rattle.run_state.specs.declared.world.World.{World}
use Rattle.run_state.specs.Acts.{Acts}
use Rattle.run_state.specs.Worlds.{state_of}
use Rattle.property_requests.specs.declared.arrays.Element.{Element}
use Rattle.property_requests.specs.Arrays.{AreKeys, ElementsFrom, KeysFrom, places_in, values_in}

-- ---- rows that are made in a context, and elements among them

module _ (c : Label) where
  own_at : (key : List ℕ) (r : List ℕ × Property) (rows : Rows Property) (test : Bool) → own key (made_rows c rows) ≡ option_map (made_slot c) (own key rows) → (if test then Some (made_slot c r.1) else own key (made_rows c rows)) ≡ option_map (made_slot c) (if test then Some r.1 else own key rows)
  own_at key r rows true rest = refl
  own_at key r rows false rest = rest

  own_made : (key : List ℕ) (rows : Rows Property) → own key (made_rows c rows) ≡ option_map (made_slot c) (own key rows)
  own_made key [] = refl
  own_made key (r ∷ rows) = own_at key r rows (same_name r.0 key) (own_made key rows)

  more_made : (key : List ℕ) (p : Property) (rows : Rows Property) → made_rows c (with_row key p rows) ≡ with_row key (made_slot c p) (made_rows c rows)
  more_made key p [] = refl
  more_made key p (r ∷ rows) = ap (λ (rs : Rows (Slot Label)). (r.0, made_slot c r.1) ∷ rs) (more_made key p rows)

  changed_at : (key : List ℕ) (p : Property) (r : List ℕ × Property) (rows : Rows Property) (test : Bool) → made_rows c (changed key (λ s. p) rows) ≡ changed key (λ s. made_slot c p) (made_rows c rows)
      → made_rows c (if test then (r.0, p) ∷ rows else r ∷ changed key (λ s. p) rows) ≡ (if test then (r.0, made_slot c p) ∷ made_rows c rows else (r.0, made_slot c r.1) ∷ changed key (λ s. made_slot c p) (made_rows c rows))
  changed_at key p r rows true rest = refl
  changed_at key p r rows false rest = ap (λ (rs : Rows (Slot Label)). (r.0, made_slot c r.1) ∷ rs) rest

  changed_made : (key : List ℕ) (p : Property) (rows : Rows Property) → made_rows c (changed key (λ s. p) rows) ≡ changed key (λ s. made_slot c p) (made_rows c rows)
  changed_made key p [] = refl
  changed_made key p (r ∷ rows) = changed_at key p r rows (same_name r.0 key) (changed_made key p rows)

  over_made : (key : List ℕ) (p : Property) (rows : Rows Property) (x : Option Property) → made_rows c (defined_over x key p rows) ≡ defined_over (option_map (made_slot c) x) key (made_slot c p) (made_rows c rows)
  over_made key p rows None = more_made key p rows
  over_made key p rows (Some q) = changed_made key p rows

  defined_made : (key : List ℕ) (p : Property) (rows : Rows Property) → made_rows c (defined key p rows) ≡ defined key (made_slot c p) (made_rows c rows)
  defined_made key p rows = over_made key p rows (own key rows) ∙ ap (λ (x : Option (Slot Label)). defined_over x key (made_slot c p) (made_rows c rows)) (sym (own_made key rows))

  elements_made : (rows : Rows Property) (ns : List ℕ) (ps : List Property) → made_rows c (elements_onto rows ns ps) ≡ elements_onto (made_rows c rows) ns (map (made_slot c) ps)
  elements_made rows [] ps = refl
  elements_made rows (n ∷ ns) [] = refl
  elements_made rows (n ∷ ns) (p ∷ ps) = elements_made (defined (element_key n) p rows) ns ps ∙ ap (λ (rs : Rows (Slot Label)). elements_onto rs ns (map (made_slot c) ps)) (defined_made (element_key n) p rows)

-- ---- elements that are the texts of keys

abbrev text_property : List ℕ → Property
text_property key = property_with (text_value key) made_by_script

abbrev with_slots : Label → Rows (Slot Label) → Object Label
with_slots c rows = record (fresh_object class.Array Plain (Some array_prototype) c c) { rows = rows }

module _ {S T : Type 0} (made : S → T → Type 0) (meaning : S → T → Label) (store : S) where
  keys_places : (n : ℕ) (keys : List (List ℕ)) (es : List (Element T)) → KeysFrom made meaning store n keys es → places_in es ≡ places_from n keys
  keys_places n [] [] are = refl
  keys_places n [] (e ∷ es) are = absurd are
  keys_places n (key ∷ keys) [] are = absurd are
  keys_places n (key ∷ keys) (e ∷ es) are = ap₂ (λ (m : ℕ) (ms : List ℕ). m ∷ ms) are.0 (keys_places (suc n) keys es are.4)

  pub keys_have : (n count : ℕ) (keys : List (List ℕ)) (es : List (Element T)) → KeysFrom made meaning store n keys es → n + length es ≡ count → ElementsFrom (made store) n count es
  keys_have n count [] [] are all = tt
  keys_have n count [] (e ∷ es) are all = absurd are
  keys_have n count (key ∷ keys) [] are all = absurd are
  keys_have n count (key ∷ keys) (e ∷ es) are all =
      let place = are.0 in (
        omega (arith, place),
        omega (arith, place, all),
        are.2,
        subst (λ (m : ℕ). ElementsFrom (made store) (suc m) count es) (sym place) (keys_have (suc n) count keys es are.4 (omega (arith, all))),
      )

  pub keys_more : (n : ℕ) (keys : List (List ℕ)) (es : List (Element T)) (key : List ℕ) (e : Element T) → KeysFrom made meaning store n keys es → e.place ≡ n + length es → e.value.value ≡ value.Primitive (Str key) → made store e.value.label → meaning store e.value.label ≡ bottom
      → KeysFrom made meaning store n (keys ++ key ∷ []) (es ++ e ∷ [])
  keys_more n [] [] key e are place is m empty = (omega (arith, place), is, m, empty, tt)
  keys_more n [] (d ∷ es) key e are place is m empty = absurd are
  keys_more n (k ∷ keys) [] key e are place is m empty = absurd are
  keys_more n (k ∷ keys) (d ∷ es) key e are place is m empty = (are.0, are.1, are.2, are.3, keys_more (suc n) keys es key e are.4 (omega (arith, place)) is m empty)

  module _ (reading : T → Label) (agrees : IsReading made meaning store reading) (c : Label) where
    slot_same : (key : List ℕ) (v : Labelled T) → v.value ≡ value.Primitive (Str key) → made store v.label → meaning store v.label ≡ bottom → data_slot c (read_value reading v) ≡ made_slot c (text_property key)
    slot_same key v is m empty =
        ap₂ (λ (u : Value) (l : Label). data_slot c (record { value = u; label = l })) is (agrees.agrees v.label m ∙ empty)
        ∙ ap (λ (l : Label). record (made_slot c (text_property key)) { label = l }) (union-bottom_left c)

    keys_slots : (n : ℕ) (keys : List (List ℕ)) (es : List (Element T)) → KeysFrom made meaning store n keys es → map (data_slot c) (map (read_value reading) (values_in es)) ≡ map (made_slot c) (map (λ v. property_with v made_by_script) (map text_value keys))
    keys_slots n [] [] are = refl
    keys_slots n [] (e ∷ es) are = absurd are
    keys_slots n (key ∷ keys) [] are = absurd are
    keys_slots n (key ∷ keys) (e ∷ es) are = ap₂ (λ (s : Slot Label) (ss : List (Slot Label)). s ∷ ss) (slot_same key e.value are.1 are.2 are.3) (keys_slots (suc n) keys es are.4)

    -- so the array is that of the texts
    keys_array : (count : ℕ) (keys : List (List ℕ)) (es : List (Element T)) → count ≡ length keys → AreKeys made meaning store keys es → array_object count (places_in es) (map (read_value reading) (values_in es)) c ≡ made_object c (array_of_texts keys)
    keys_array count keys es counted are =
        ap (λ (n : ℕ). array_object n (places_in es) (map (read_value reading) (values_in es)) c) counted
        ∙ ap₂ (λ (ns : List ℕ) (ss : List (Slot Label)). with_slots c (elements_onto ((length_key, made_slot c (length_property (length keys))) ∷ []) ns ss)) (keys_places 0 keys es are) (keys_slots 0 keys es are)
        ∙ ap (with_slots c) (sym (elements_made c ((length_key, length_property (length keys)) ∷ []) (places_from 0 keys) (map (λ v. property_with v made_by_script) (map text_value keys))))

  keys_length : (n : ℕ) (keys : List (List ℕ)) (es : List (Element T)) → KeysFrom made meaning store n keys es → length es ≡ length keys
  keys_length n [] [] are = refl
  keys_length n [] (e ∷ es) are = absurd are
  keys_length n (key ∷ keys) [] are = absurd are
  keys_length n (key ∷ keys) (e ∷ es) are = ap suc (keys_length (suc n) keys es are.4)

-- ---- the keys of an object

module _ {T : Type 0} (reading : T → Label) where
  listed_rows : (all : Bool) (rows : Rows (Slot T)) → listed all (erased_rows (read_rows reading rows)) ≡ listed_keys all rows
  listed_rows all [] = refl
  listed_rows all (r ∷ rows) = ap (λ (keys : List (List ℕ)). if all || r.1.marks.enumerable then r.0 ∷ keys else keys) (listed_rows all rows)

  listed_read : (all : Bool) (p : Option (Object T)) → keys_in all (option_map (read_object reading) p) ≡ listed_keys all (rows_in p)
  listed_read all None = refl
  listed_read all (Some p) = listed_rows all p.rows

  label_read : (p : Option (Object T)) → keys_label (option_map (read_object reading) p) ≡ own_keys_label (option_map (read_object reading) p)
  label_read None = refl
  label_read (Some p) = refl

-- in a later store
pub list_later : {S T : Type 0} (made : S → T → Type 0) (meaning : S → T → Label) (room : S → ℕ) (firm : S → Bool) (old new : S) → IsKept made meaning room firm old new → (heap : List (Object T)) (o : ℕ) (all : Bool) (list : KeyList T) → IsOwnList made meaning old heap o all list → IsOwnList made meaning new heap o all list
list_later made meaning room firm old new kept heap o all list is = record {
  belongs = (kept.labels list.walk is.belongs).0;
  keys = is.keys;
  is = λ reading agrees. is.is reading (IsReading-earlier made meaning room firm old new reading kept agrees);
}

-- ---- the act

abbrev value_made : Value → Outcome Halt Jump Val State → Value
value_made other (Goes v s) = v.value
value_made other (Jumps j s) = other
value_made other (Ends halt s) = other

abbrev state_made : State → Outcome Halt Jump Val State → State
state_made other (Goes v s) = s
state_made other (Jumps j s) = other
state_made other (Ends halt s) = other

module _ {S T : Type 0} (made : S → T → Type 0) (meaning : S → T → Label) (room : S → ℕ) (firm : S → Bool) (old new : S) (kept : IsKept made meaning room firm old new) (w after : World T) (tables : Tables) (inputs : Given) where
  pub keys_listed : (o : ObjId) (all : Bool) (base label : T) (list : KeyList T) (elements : List (Element T)) (count : ℕ) (array : Labelled T)
      → IsOwnList made meaning old w.heap o.0 all list → Means made meaning old label (λ reading. union (reading base) (reading list.walk)) → AreKeys made meaning old list.keys elements → count ≡ length elements
      → Acts made meaning new (λ reading. read_value reading) (λ reading. act tables inputs (operations.array_of (places_in elements) count) (map (read_value reading) (values_in elements))) w after (Ok (outcome.Goes array))
      → Acts made meaning new (λ reading. read_value reading) (λ reading. list_keys all (reading base) o.0) w after (Ok (outcome.Goes (record { value = array.value; label = label })))
  unfolding act make_array list_keys
  keys_listed o all base label list elements count array lists means are counted makes = record {
    says = λ reading agrees told turns.
        let s = state_of reading w told turns in
        let earlier = IsReading-earlier made meaning room firm old new reading kept agrees in
        let c = context s.frames in
        let found = slice_get-map (read_object reading) w.heap o.0 in
        let keys : keys_in all (slice_get s.heap o.0) ≡ list.keys = ap (keys_in all) found ∙ listed_read reading all (slice_get w.heap o.0) ∙ sym lists.keys in
        let walk : keys_label (slice_get s.heap o.0) ≡ reading list.walk = ap keys_label found ∙ label_read reading (slice_get w.heap o.0) ∙ sym (lists.is reading earlier) in
        let was = makes.says reading agrees told turns in
        let fresh = record s { heap = s.heap ++ array_object count (places_in elements) (map (read_value reading) (values_in elements)) c ∷ [] } in
        let object = sym (keys_array made meaning old reading earlier c count list.keys elements (counted ∙ keys_length made meaning old 0 list.keys elements are) are) in
        ap₂ (λ (ks : List (List ℕ)) (l : Label). Goes (record { value = value.Object (id (length s.heap)); label = union (reading base) l }) (record s { heap = s.heap ++ made_object c (array_of_texts ks) ∷ [] })) keys walk
        ∙ ap₂ (λ (l : Label) (p : Object Label). Goes (record { value = value.Object (id (length s.heap)); label = l }) (record s { heap = s.heap ++ p ∷ [] })) (sym (means.is reading earlier)) object
        ∙ ap₂ (λ (v : Value) (t : State). Goes (record { value = v; label = reading label }) t) (ap (value_made array.value) was) (ap (state_made fresh) was);
  }
