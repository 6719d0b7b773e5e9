-- Objects that are made with properties, in a reading of the labels.
use Rattle.std.proofs.Common.{refl, sym, ap, ap₂, subst, ◌∙◌, ◌≡◌, ℕ, Bool, true, List, [], ◌∷◌, ◌++◌, length, set, Option, Some, None, Ok, Err, is_ok, if◌then◌else◌}
use Rattle.std.specs.List.{slice_get}
use Rattle.std.specs.Option.{option_map}
use Rattle.std.proofs.lemmas.Bool.{false≢true}
use Rattle.std.proofs.lemmas.List.{map-append, length-map}
use Rattle.std.proofs.lemmas.Option.{none-some, slice_get-map}
use Rattle.origin_labels.specs.Label.{Label, bottom, within}
use Rattle.origin_labels.specs.Stores.{IsKept}
use Rattle.origin_labels.proofs.LabelLaws.{within-refl}
use Rattle.flow_frames.specs.declared.faults.FlowStop.{FlowStop}
use Rattle.flow_frames.specs.declared.faults.Rule.TheVariants.{W2, W3}
use Rattle.js_values.specs.declared.property.Body.{Body}
use Rattle.js_values.specs.declared.property.Marks.{Marks}
use Rattle.js_values.specs.declared.property.Slot.{Slot}
use Rattle.js_values.specs.declared.inner.Class.TheVariants as class
use Rattle.js_values.specs.declared.inner.Inner.{Inner}
use Rattle.js_values.specs.Objects.{Rows, Object, own, changed, with_row, fresh_object}
use Rattle.js_values.specs.Readings.{IsReading, read_slot, read_inner, read_object, read_heap}
use Rattle.js_values.proofs.ReadingLaws.{IsReading-earlier}
use Rattle.object_heap.specs.Acts.{Acted, added, lengthened, put_back, on_object, stretched, under, value_have, with_rows, add_absent, add_own, add, new_object}
use Rattle.object_heap.specs.Answers.{read_stop}
use Rattle.js_values.specs.Arrays.{length_key, element_of}
use Rattle.object_heap.specs.Formed.{own_in}
use Rattle.object_heap.specs.Lengths.{IsBelow}
use Rattle.es_meaning.specs.Start.{function_prototype}
use Rattle.property_requests.specs.Building.{OpensFor, IsOpenFor, Adds, AddsAlone, IsLast}
use Rattle.property_requests.proofs.HeldLaws.{read_own_in}

-- ---- no rule stops a property that is added in the context in which its object was made

module _ (key : List ℕ) (c : Label) (body : Body) (label : Label) (marks : Marks) where
  pub below_goes : (e : Option ℕ) (length : Option (Slot Label)) (p : Object Label) (more : Rows (Slot Label)) → IsBelow e length → stretched e length c p more ≡ Ok (with_rows p more)
  below_goes None length p more below = refl
  below_goes (Some i) None p more below = refl
  below_goes (Some i) (Some s) p more below = ap (λ b. if b then under W2 c (value_have s) (Ok (with_rows p (changed length_key (lengthened i c) more))) else Ok (with_rows p more)) below

  absent_goes : (s : Option (Slot Label)) (p : Object Label) → p.structure ≡ c → IsBelow (element_of p.class key) (own length_key p.rows) → is_ok (add_absent s key c body label marks p) ≡ true
  absent_goes (Some s) p structure element = refl
  absent_goes None p structure element =
      let more = with_row key (added c body label marks p.structure) p.rows in
      ap (λ b. is_ok (if b then stretched (element_of p.class key) (own length_key p.rows) c p more else Err (record { rule = W3; need = c; have = p.structure }))) (ap (within c) structure ∙ within-refl c)
      ∙ ap (λ (r : Acted (Object Label)). is_ok r) (below_goes (element_of p.class key) (own length_key p.rows) p more element)

  put_back_goes : (heap : List (Object Label)) (o : ℕ) (r : Acted (Object Label)) → is_ok r ≡ true → is_ok (put_back heap o r) ≡ true
  put_back_goes heap o (Ok p) goes = refl
  put_back_goes heap o (Err stop) goes = goes

  object_goes : (p : Option (Object Label)) (heap : List (Object Label)) (o : ℕ) → OpensFor c key p → is_ok (on_object p heap o (add_own key c body label marks)) ≡ true
  object_goes None heap o opens = absurd opens
  object_goes (Some p) heap o opens = put_back_goes heap o (add_own key c body label marks p) (absent_goes (own key p.rows) p opens.0 opens.1)

  never_stops : (o : ℕ) (heap : List (Object Label)) (stop : FlowStop Label) → OpensFor c key (slice_get heap o) → add o key c body label marks heap ≡ Err stop → ⊥
  never_stops o heap stop opens e = false≢true (sym (ap is_ok e) ∙ object_goes (slice_get heap o) heap o opens)

pub unstopped : {S T : Type 0} (made : S → T → Type 0) (meaning : S → T → Label) (room : S → ℕ) (firm : S → Bool) (s t : S) (kept : IsKept made meaning room firm s t) (here label : T) (o : ℕ) (key : List ℕ) (body : Body) (marks : Marks) (old : List (Object T)) → IsOpenFor made meaning s old o key here
    → (stop : FlowStop T) → ((reading : T → Label) → IsReading made meaning t reading → add o key (reading here) body (reading label) marks (read_heap reading old) ≡ Err (read_stop reading stop)) → ⊥
unstopped made meaning room firm s t kept here label o key body marks old opened stop stops =
    let reading = meaning t in
    let is : IsReading made meaning t reading = record { agrees = λ l h. refl } in
    never_stops key (reading here) body (reading label) marks o (read_heap reading old) (read_stop reading stop) (opened.says reading (IsReading-earlier made meaning room firm s t reading kept is)) (stops reading is)

-- with the empty label it depends on the context alone
pub adds_alone : {S T : Type 0} (made : S → T → Type 0) (meaning : S → T → Label) (room : S → ℕ) (firm : S → Bool) (s t : S) (kept : IsKept made meaning room firm s t) (here label : T) (o : ℕ) (name key : List ℕ) (body : Body) (marks : Marks) (old new : List (Object T)) → made s label → meaning s label ≡ bottom → key ≡ name
    → Adds made meaning t here o key body label marks old new → AddsAlone made meaning t here o name body marks old new
adds_alone made meaning room firm s t kept here label o name key body marks old new m empty named adds = record {
  says = λ reading is.
      ap₂ (λ (k : List ℕ) (l : Label). add o k (reading here) body l marks (read_heap reading old)) (sym named) (sym ((IsReading-earlier made meaning room firm s t reading kept is).agrees label m ∙ empty))
      ∙ adds.says reading is;
}

-- ---- the last of a list

pub last_there : {X : Type 0} (before : List X) (x : X) → slice_get (before ++ x ∷ []) (length before) ≡ Some x
last_there [] x = refl
last_there (b ∷ before) x = last_there before x

pub last_set : {X : Type 0} (before : List X) (x y : X) → set (before ++ x ∷ []) (length before) y ≡ before ++ y ∷ []
last_set [] x y = refl
last_set (b ∷ before) x y = ap (λ xs. b ∷ xs) (last_set before x y)

-- ---- a property that is added to the last object, a function

-- a function that was made in a context, with properties
abbrev pub made_with : Label → Inner Label → Rows (Slot Label) → Object Label
made_with c inner rows = record (fresh_object class.Function inner (Some function_prototype) c c) { rows = rows }

added_last : (front : List (Object Label)) (o : ℕ) (c : Label) (inner : Inner Label) (rows : Rows (Slot Label)) (key : List ℕ) (body : Body) (label : Label) (marks : Marks) → o ≡ length front → own key rows ≡ None
    → add o key c body label marks (front ++ made_with c inner rows ∷ []) ≡ Ok (front ++ made_with c inner (with_row key (added c body label marks c) rows) ∷ [])
added_last front o c inner rows key body label marks place absent =
    let q = made_with c inner rows in
    let heap = front ++ q ∷ [] in
    let more = with_row key (added c body label marks c) rows in
    ap (λ n. add n key c body label marks heap) place
    ∙ ap (λ (x : Option (Object Label)). on_object x heap (length front) (add_own key c body label marks)) (last_there front q)
    ∙ ap (λ (s : Option (Slot Label)). put_back heap (length front) (add_absent s key c body label marks q)) absent
    ∙ ap (λ b. put_back heap (length front) (if b then stretched None (own length_key rows) c q more else Err (record { rule = W3; need = c; have = c }))) (within-refl c)
    ∙ ap (λ (h : List (Object Label)). Ok h) (last_set front q (made_with c inner more))

abbrev pub ok_or : Acted (List (Object Label)) → List (Object Label)
ok_or (Ok heap) = heap
ok_or (Err stop) = []

pub none_of : {A B : Type 0} (f : A → B) (x : Option A) → option_map f x ≡ None → x ≡ None
none_of f None e = refl
none_of f (Some a) e = absurd (none-some (f a) (sym e))

module _ {S T : Type 0} (made : S → T → Type 0) (meaning : S → T → Label) (before : List (Object T)) (here : T) (inner : Inner T) where
  abbrev pub Built : S → List (Object T) → ((T → Label) → Rows (Slot Label)) → Type 0
  Built store heap rows = IsLast made meaning store before heap (λ reading. made_with (reading here) (read_inner reading inner) (rows reading))

  pub built_new : (store : S) (heap : List (Object T)) → heap ≡ new_object class.Function (Some function_prototype) here here inner before → Built store heap (λ reading. [])
  built_new store heap is = record { says = λ reading agrees. ap (read_heap reading) is ∙ map-append (read_object reading) before (fresh_object class.Function inner (Some function_prototype) here here ∷ []) }

  module _ (o : ℕ) (number : o ≡ length before) where
    place : (reading : T → Label) → o ≡ length (read_heap reading before)
    place reading = number ∙ sym (length-map before (read_object reading))

    module _ (s : S) (heap : List (Object T)) (rows : (T → Label) → Rows (Slot Label)) (built : Built s heap rows) where
      pub built_open : (key : List ℕ) → IsOpenFor made meaning s heap o key here
      built_open key = record {
        says = λ reading agrees.
            subst (OpensFor (reading here) key) (sym (ap₂ (λ (h : List (Object Label)) n. slice_get h n) (built.says reading agrees) (place reading) ∙ last_there (read_heap reading before) (made_with (reading here) (read_inner reading inner) (rows reading)))) (refl, tt);
      }

      pub built_lacks : (key : List ℕ) → own key (rows (meaning s)) ≡ None → own_in key (slice_get heap o) ≡ None
      built_lacks key none =
          let reading = meaning s in
          none_of (read_slot reading) (own_in key (slice_get heap o))
          (sym (ap (own_in key) (slice_get-map (read_object reading) heap o) ∙ read_own_in reading key (slice_get heap o))
          ∙ ap₂ (λ (h : List (Object Label)) n. own_in key (slice_get h n)) (built.says reading (record { agrees = λ l h. refl })) (place reading)
          ∙ ap (own_in key) (last_there (read_heap reading before) (made_with (reading here) (read_inner reading inner) (rows reading)))
          ∙ none)

      module _ (room : S → ℕ) (firm : S → Bool) (t : S) (kept : IsKept made meaning room firm s t) (after : List (Object T)) (key : List ℕ) (body : Body) (marks : Marks) (absent : (reading : T → Label) → own key (rows reading) ≡ None) where
        pub built_more : (label : T) → Adds made meaning t here o key body label marks heap after → Built t after (λ reading. with_row key (added (reading here) body (reading label) marks (reading here)) (rows reading))
        built_more label adds = record {
          says = λ reading agrees.
              ap ok_or
              (sym (adds.says reading agrees)
              ∙ ap (add o key (reading here) body (reading label) marks) (built.says reading (IsReading-earlier made meaning room firm s t reading kept agrees))
              ∙ added_last (read_heap reading before) o (reading here) (read_inner reading inner) (rows reading) key body (reading label) marks (place reading) (absent reading));
        }

        pub built_alone : AddsAlone made meaning t here o key body marks heap after → Built t after (λ reading. with_row key (added (reading here) body bottom marks (reading here)) (rows reading))
        built_alone adds = record {
          says = λ reading agrees.
              ap ok_or
              (sym (adds.says reading agrees)
              ∙ ap (add o key (reading here) body bottom marks) (built.says reading (IsReading-earlier made meaning room firm s t reading kept agrees))
              ∙ added_last (read_heap reading before) o (reading here) (read_inner reading inner) (rows reading) key body bottom marks (place reading) (absent reading));
        }
