-- Objects that are made in a context, in a reading of their labels.
use Rattle.std.proofs.Common.{arith, refl, sym, ap, ap₂, subst, ◌∙◌, ◌≡◌, ◌+◌, ◌<◌, ◌≤◌, ℕ, zero, suc, pos, Bool, true, List, [], ◌∷◌, ◌++◌, append_assoc, length, codes, Option, Some, None, Result, Ok, Err, is_ok, if◌then◌else◌}
use Rattle.std.specs.List.{slice_get}
use Rattle.std.proofs.lemmas.Bool.{false≢true}
use Rattle.std.proofs.lemmas.List.{map-append, length-map, length-append}
use Rattle.std.proofs.lemmas.Option.{slice_get_past}
use Rattle.std.proofs.lemmas.List.Elements.{All-push}
use Rattle.origin_labels.specs.Label.{Label, IsLabel, bottom, union, within}
use Rattle.origin_labels.specs.Stores.{IsKept}
use Rattle.origin_labels.proofs.LabelLaws.{within-refl}
use Rattle.flow_frames.specs.declared.faults.FlowStop.{FlowStop}
use Rattle.flow_frames.specs.declared.faults.Rule.TheVariants.{W3}
use Rattle.flow_frames.specs.Frames.{context}
use Rattle.flow_frames.specs.Held.{seen}
use Rattle.js_number.specs.declared.num.Num.TheVariants.{Int}
use Rattle.js_number.specs.declared.primitive.Primitive.TheVariants.{Num}
use Rattle.js_values.specs.declared.ids.EnvId.{EnvId}
use Rattle.js_values.specs.declared.ids.ObjId.{ObjId}
use Rattle.js_values.specs.declared.property.Body.{Body}
use Rattle.js_values.specs.declared.property.Marks.{Marks}
use Rattle.js_values.specs.declared.property.Slot.{Slot}
use Rattle.js_values.specs.declared.inner.Class.TheVariants as class
use Rattle.js_values.specs.declared.inner.Inner.{Inner}
use Rattle.js_values.specs.declared.inner.Inner.TheVariants.{Plain, Script, Bound}
use Rattle.js_values.specs.declared.value.Labelled.{Labelled}
use Rattle.js_values.specs.declared.value.Value.{Value}
use Rattle.js_values.specs.declared.value.Value.TheVariants as value
use Rattle.js_values.specs.Objects.{Rows, Property, Object, PlainObject, PlainInner, plain, script, native, bound, own, with_row, fresh_plain, fresh_object, number_of}
use Rattle.js_values.specs.Readings.{IsReading, HasObject, HasHeap, read_value, read_object, read_heap}
use Rattle.js_values.proofs.ReadingLaws.{IsReading-earlier, HasHeap-kept}
use Rattle.object_heap.specs.Acts.{Acted, added, put_back, on_object, stretched, add_absent, add_own, add, new_object, give}
use Rattle.object_heap.specs.Answers.{read_stop}
use Rattle.js_values.specs.Arrays.{length_key, element_of}
use Rattle.es_meaning.specs.Functions.{function_object, constructed_prototype, kept, property_with}
use Rattle.es_meaning.specs.Plain.{object_or_default, prototype_name, undefined}
use Rattle.es_meaning.specs.Start.{id, built_in, count_property, fixed_accessor, function_rows, caller_accessor, arguments_accessor, function_prototype, object_prototype}
use Rattle.flow_meaning.specs.Erased.{labelled_by, labelled_values, made_inner, made_rows, made_object, made_objects}
use Rattle.es_meaning.specs.Requested.{standing_or_default}
use Rattle.flow_meaning.specs.Requested.{erased_in}
use Rattle.js_values.specs.Chains.{beginning, chain_within, onwards}
use Rattle.js_values.specs.Walks.{find, object_chain}
use Rattle.flow_meaning.specs.Tracked.{prototype_of, standing, value_found, with_fresh}
use Rattle.plain_heap.specs.PlainObjects.{values_with, inner_with, slot_with, rows_with, object_with, objects_with}
use Rattle.plain_heap.proofs.GiveLaws.{last_gives}
use Rattle.plain_heap.proofs.ReadLaws.{read_with}
use Rattle.run_state.specs.declared.world.World.{World}
use Rattle.run_state.specs.Worlds.{Belongs, state_of}
use Rattle.function_entry.specs.ArgumentRows.{counted_object}
use Rattle.function_entry.specs.Changing.{Changes}
use Rattle.function_entry.specs.Making.{Opens, IsOpen, Makes, standing_if, standing_in}
use Rattle.function_entry.proofs.WorldLaws.{last_there, with_heap, heap_belongs, context_read}

-- ---- no rule stops a property that is added in the context in which its object was made

module _ (key : List ℕ) (c : Label) (body : Body) (label : Label) (marks : Marks) where
  absent_goes : (s : Option (Slot Label)) (p : Object Label) → p.structure ≡ c → element_of p.class key ≡ None → is_ok (add_absent s key c body label marks p) ≡ true
  absent_goes (Some s) p structure element = refl
  absent_goes None p structure element =
      let more = with_row key (added c body label marks p.structure) p.rows in
      ap (λ b. is_ok (if b then stretched (element_of p.class key) (own length_key p.rows) c p more else Err (record { rule = W3; need = c; have = p.structure }))) (ap (within c) structure ∙ within-refl c)
      ∙ ap (λ e. is_ok (stretched e (own length_key p.rows) c p more)) element

  put_back_goes : (heap : List (Object Label)) (o : ℕ) (r : Acted (Object Label)) → is_ok r ≡ true → is_ok (put_back heap o r) ≡ true
  put_back_goes heap o (Ok p) goes = refl
  put_back_goes heap o (Err stop) goes = goes

  object_goes : (p : Option (Object Label)) (heap : List (Object Label)) (o : ℕ) → Opens c p → is_ok (on_object p heap o (add_own key c body label marks)) ≡ true
  object_goes None heap o opens = absurd opens
  object_goes (Some p) heap o opens = put_back_goes heap o (add_own key c body label marks p) (absent_goes (own key p.rows) p opens.0 (opens.1 key))

  never_stops : (o : ℕ) (heap : List (Object Label)) (stop : FlowStop Label) → Opens c (slice_get heap o) → add o key c body label marks heap ≡ Err stop → ⊥
  never_stops o heap stop opens e = false≢true (sym (ap is_ok e) ∙ object_goes (slice_get heap o) heap o opens)

module _ {S T : Type 0} (made : S → T → Type 0) (meaning : S → T → Label) (room : S → ℕ) (firm : S → Bool) (s t : S) (kept : IsKept made meaning room firm s t) (here label : T) (o : ℕ) (key : List ℕ) (body : Body) (marks : Marks) (old : List (Object T)) where
  pub unstopped : IsOpen made meaning s old o here → (stop : FlowStop T) → ((reading : T → Label) → IsReading made meaning t reading → add o key (reading here) body (reading label) marks (read_heap reading old) ≡ Err (read_stop reading stop)) → ⊥
  unstopped opened stop stops =
      let reading = meaning t in
      let is : IsReading made meaning t reading = record { agrees = λ l h. refl } in
      never_stops key (reading here) body (reading label) marks o (read_heap reading old) (read_stop reading stop) (opened.says reading (IsReading-earlier made meaning room firm s t reading kept is)) (stops reading is)

-- ---- what was done

abbrev pub done_to : Result (List (Object Label)) (FlowStop Label) → List (Object Label)
done_to (Ok heap) = heap
done_to (Err stop) = []

-- ---- objects with the context's label, as objects that are made in the context

module _ (c : Label) where
  made_values : (vs : List Value) → values_with c vs ≡ labelled_values c vs
  made_values [] = refl
  made_values (v ∷ vs) = ap (λ us. labelled_by c v ∷ us) (made_values vs)

  made_inners : (inner : PlainInner) → inner_with c inner ≡ made_inner c inner
  made_inners plain = refl
  made_inners (script function env) = refl
  made_inners (native which) = refl
  made_inners (bound target this args) = ap (Bound target c (labelled_by c this)) (made_values args)

  made_all : (rows : Rows Property) → rows_with c rows ≡ made_rows c rows
  made_all [] = refl
  made_all (r ∷ rows) = ap (λ more. (r.0, slot_with c r.1) ∷ more) (made_all rows)

  pub made_as : (objects : List PlainObject) → objects_with c objects ≡ made_objects c objects
  made_as [] = refl
  made_as (p ∷ objects) =
      ap₂ (λ (q : Object Label) (more : List (Object Label)). q ∷ more)
      (ap₂ (λ (i : Inner Label) (rows : Rows (Slot Label)). record (object_with c p) { inner = i; rows = rows }) (made_inners p.inner) (made_all p.rows))
      (made_as objects)

module _ {S T : Type 0} (made : S → T → Type 0) (meaning : S → T → Label) where
  made_append : (c : Label) (xs ys : List PlainObject) → made_objects c (xs ++ ys) ≡ made_objects c xs ++ made_objects c ys
  made_append c [] ys = refl
  made_append c (x ∷ xs) ys = ap (λ more. made_object c x ∷ more) (made_append c xs ys)

  -- some objects, and then others
  pub Makes-then : (room : S → ℕ) (firm : S → Bool) (s t : S) (here : T) (xs ys : List PlainObject) (old middle new : List (Object T)) → IsKept made meaning room firm s t → Makes made meaning s here xs old middle → Makes made meaning t here ys middle new → Makes made meaning t here (xs ++ ys) old new
  Makes-then room firm s t here xs ys old middle new kept first next = record {
    says = λ reading is.
        next.says reading is
        ∙ ap (λ h. h ++ made_objects (reading here) ys) (first.says reading (IsReading-earlier made meaning room firm s t reading kept is))
        ∙ append_assoc (read_heap reading old) (made_objects (reading here) xs) (made_objects (reading here) ys)
        ∙ ap (λ h. read_heap reading old ++ h) (sym (made_append (reading here) xs ys));
  }

  pub Makes-both : (store : S) (here : T) (some others : List PlainObject) (old middle new : List (Object T)) → middle ≡ old ++ objects_with here some → new ≡ middle ++ objects_with here others → Makes made meaning store here (some ++ others) old new
  Makes-both store here some others old middle new one more = record {
    says = λ reading is.
        let c = reading here in
        ap (read_heap reading) (more ∙ ap (λ h. h ++ objects_with here others) one ∙ append_assoc old (objects_with here some) (objects_with here others))
        ∙ map-append (read_object reading) old (objects_with here some ++ objects_with here others)
        ∙ ap (λ h. read_heap reading old ++ h)
        (map-append (read_object reading) (objects_with here some) (objects_with here others)
        ∙ ap₂ (λ (h k : List (Object Label)). h ++ k) (read_with reading here some ∙ made_as c some) (read_with reading here others ∙ made_as c others)
        ∙ sym (made_append c some others));
  }

-- ---- a function, as it is given its properties

module _ {T : Type 0} (c : T) (heap fresh sized constructing called last : List (Object T)) (o : ObjId) (next function count : ℕ) (env : EnvId) (place : o.0 ≡ length heap) where
  abbrev function_with : ℕ → Object T
  function_with n = object_with c (record (fresh_plain class.Function (script function env) (Some function_prototype)) { rows = (codes "length", count_property count) ∷ (codes "prototype", property_with (value.Object (id n)) kept) ∷ function_rows })

  pub function_made : fresh ≡ new_object class.Function (Some function_prototype) c c (Script function env) heap → next ≡ length fresh → sized ≡ give o.0 (codes "length") (slot_with c (count_property count)) fresh
      → constructing ≡ give o.0 (codes "prototype") (slot_with c (property_with (value.Object (id next)) kept)) sized → called ≡ give o.0 (codes "caller") (slot_with c (fixed_accessor caller_accessor)) constructing
      → last ≡ give o.0 (codes "arguments") (slot_with c (fixed_accessor arguments_accessor)) called → last ≡ heap ++ objects_with c (function_object (length heap) function env.0 count ∷ [])
  function_made makes next_is sizes constructs calls ends =
      let long = ap length makes ∙ length-append heap (fresh_object class.Function (Script function env) (Some function_prototype) c c ∷ []) in
      let next_number : next ≡ suc (length heap) = omega (arith, long, next_is) in
      last_gives heap called last _ o.0 (codes "arguments") (slot_with c (fixed_accessor arguments_accessor)) place
      (last_gives heap constructing called _ o.0 (codes "caller") (slot_with c (fixed_accessor caller_accessor)) place
      (last_gives heap sized constructing _ o.0 (codes "prototype") (slot_with c (property_with (value.Object (id next)) kept)) place
      (last_gives heap fresh sized _ o.0 (codes "length") (slot_with c (count_property count)) place makes sizes) constructs) calls) ends
      ∙ ap (λ n. heap ++ function_with n ∷ []) next_number

  pub constructed_made : (f : ObjId) → fresh ≡ new_object class.Object (Some object_prototype) c c Plain heap → last ≡ give o.0 (codes "constructor") (slot_with c (property_with (value.Object f) built_in)) fresh → last ≡ heap ++ objects_with c (constructed_prototype f.0 ∷ [])
  constructed_made f makes gives = last_gives heap fresh last _ o.0 (codes "constructor") (slot_with c (property_with (value.Object f) built_in)) place makes gives

  -- the `arguments` object with its `length`
  pub counted_made : fresh ≡ new_object class.Arguments (Some object_prototype) c c (Script function env) heap → last ≡ give o.0 (codes "length") (slot_with c (property_with (value.Primitive (Num (Int (pos count)))) built_in)) fresh
      → last ≡ heap ++ objects_with c (counted_object function env.0 count ∷ [])
  counted_made makes gives = last_gives heap fresh last _ o.0 (codes "length") (slot_with c (property_with (value.Primitive (Num (Int (pos count)))) built_in)) place makes gives

-- it is open in its context
pub counted_open : {S T : Type 0} (made : S → T → Type 0) (meaning : S → T → Label) (store : S) (here : T) (heap last : List (Object T)) (o function place count : ℕ) → o ≡ length heap → last ≡ heap ++ objects_with here (counted_object function place count ∷ []) → IsOpen made meaning store last o here
counted_open made meaning store here heap last o function place count number is = record {
  says = λ reading read.
      let c = reading here in
      let q = object_with c (counted_object function place count) in
      subst (Opens c)
      (sym (ap₂ (λ (h : List (Object _)) n. slice_get (read_heap reading h) n) is number
      ∙ ap (λ (h : List (Object Label)). slice_get h (length heap)) (map-append (read_object reading) heap (objects_with here (counted_object function place count ∷ [])))
      ∙ ap (λ n. slice_get (read_heap reading heap ++ q ∷ []) n) (sym (length-map heap (read_object reading)))
      ∙ last_there (read_heap reading heap) q))
      (refl, λ k. refl);
}

-- ---- what `new` makes

-- what is no object of the heap has no prototype
pub no_prototype : {T : Type 0} (heap : List (Object T)) (o : ℕ) (reading : T → Label) (label : T) → reading label ≡ bottom → length heap ≤ o → read_value reading (record { value = undefined; label = label }) ≡ prototype_of (read_heap reading heap) o
no_prototype heap o reading label none past =
    let all = read_heap reading heap in
    let away : slice_get all o ≡ None = slice_get_past all o (let same = length-map heap (read_object reading) in omega (arith, same, past)) in
    let empty : object_chain all o ≡ [] = ap (λ (p : Option (Object Label)). beginning o p (λ q. onwards (number_of q.proto) (chain_within (λ (r : Object Label). number_of r.proto) all o))) away in
    ap (λ l. labelled_by l undefined) none ∙ sym (ap (λ objects. value_found (find prototype_name objects).walk (find prototype_name objects).at) empty)

-- an object stands in a heap where it stands in the heap that is read
module _ {T : Type 0} where
  standing_by : (reading : T → Label) (o : ObjId) (heap : List (Object T)) (n : ℕ) → standing_or_default o (erased_in (slice_get (read_heap reading heap) n)) ≡ standing_if o (slice_get heap n)
  standing_by reading o [] n = refl
  standing_by reading o (p ∷ heap) zero = refl
  standing_by reading o (p ∷ heap) (suc n) = standing_by reading o heap n

  standing_read : (reading : T → Label) (heap : List (Object T)) (o : ObjId) → standing (read_heap reading heap) o ≡ standing_in heap o
  standing_read reading heap o = standing_by reading o heap o.0

  stands_at : (o : ObjId) (heap : List (Object T)) (n : ℕ) → n < length heap → o ≡ standing_if o (slice_get heap n)
  stands_at o [] n lt = absurd (omega (arith, lt))
  stands_at o (p ∷ heap) zero lt = refl
  stands_at o (p ∷ heap) (suc n) lt = stands_at o heap n (omega (arith, lt))

  pub stands : (heap : List (Object T)) (o : ObjId) → o.0 < length heap → o ≡ standing_in heap o
  stands heap o lt = stands_at o heap o.0 lt

  falls_at : (o : ObjId) (heap : List (Object T)) (n : ℕ) → length heap ≤ n → object_prototype ≡ standing_if o (slice_get heap n)
  falls_at o [] n past = refl
  falls_at o (p ∷ heap) zero past = absurd (omega (arith, past))
  falls_at o (p ∷ heap) (suc n) past = falls_at o heap n (omega (arith, past))

  pub falls : (heap : List (Object T)) (o : ObjId) → length heap ≤ o.0 → object_prototype ≡ standing_in heap o
  falls heap o past = falls_at o heap o.0 past

module _ {S T : Type 0} (made : S → T → Type 0) (meaning : S → T → Label) (room : S → ℕ) (firm : S → Bool) (old new : S) (kept : IsKept made meaning room firm old new) (rising : (store : S) (label : T) → made store label → IsLabel (meaning store label)) (w : World T) (belongs : Belongs made meaning old w) where
  module _ (v : Labelled T) (m : made old v.label) (here link : T) (here_made : made old here) (here_is : meaning old here ≡ context (seen meaning old w.frames.frames)) (link_made : made new link) (link_is : meaning new link ≡ union (meaning old here) (meaning old v.label)) (heap : List (Object T)) where
    pub fresh_made : (o : ObjId) → o ≡ standing_in w.heap (object_or_default v.value) → heap ≡ new_object class.Object (Some o) link here Plain w.heap → Changes made meaning new (λ reading. with_fresh (read_value reading v)) w (with_heap heap w)
    fresh_made o is_proto more = record {
      says = λ reading is told turns.
          let earlier = IsReading-earlier made meaning room firm old new reading kept is in
          let before = context_read made meaning old w.frames.frames here belongs.frames here_made here_is reading earlier in
          let means : reading link ≡ union (context (state_of reading w told turns).frames) (reading v.label) = is.agrees link link_made ∙ link_is ∙ ap₂ union (sym (earlier.agrees here here_made) ∙ sym before) (sym (earlier.agrees v.label m)) in
          ap (λ (h : List (Object Label)). record (state_of reading w told turns) { heap = h })
          (ap (read_heap reading) more ∙ map-append (read_object reading) w.heap (fresh_object class.Object Plain (Some o) link here ∷ [])
          ∙ ap (λ (i : ObjId). read_heap reading w.heap ++ fresh_object class.Object Plain (Some i) (reading link) (reading here) ∷ []) (is_proto ∙ sym (standing_read reading w.heap (object_or_default v.value)))
          ∙ ap₂ (λ (l c : Label). read_heap reading w.heap ++ fresh_object class.Object Plain (Some (standing (read_heap reading w.heap) (object_or_default v.value))) l c ∷ []) means (sym before));
    }

    pub fresh_belongs : (proto : Option ObjId) → heap ≡ new_object class.Object proto link here Plain w.heap → length heap ≡ length w.heap + 1 → Belongs made meaning new (with_heap heap w)
    fresh_belongs proto more longer =
        heap_belongs made meaning room firm old new kept rising w belongs heap
        (subst (λ (h : List (Object T)). HasHeap (made new) h) (sym more) (All-push (HasObject (made new)) w.heap (fresh_object class.Object Plain proto link here) (HasHeap-kept made meaning room firm old new kept w.heap belongs.heap) (record { inner = tt; link = link_made; structure = (kept.labels here here_made).0; rows = λ k d lt. absurd (omega (arith, lt)) })))
        (omega (arith, longer))
