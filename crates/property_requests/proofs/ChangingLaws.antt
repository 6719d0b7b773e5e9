-- What is done to a property that is there, in a reading of the labels.
use Rattle.std.proofs.Common.{◌≡◌, ℕ, zero, suc, Bool, true, false, List, [], ◌∷◌, map, set, Option, Some, None, IsSome, Ok, Err, Result, IfOk, refl, sym, ap, subst, ◌∙◌, if◌then◌else◌}
use Rattle.std.specs.List.{slice_get}
use Rattle.std.specs.Option.{option_map}
use Rattle.std.specs.Result.{IsErrAnd}
use Rattle.std.proofs.lemmas.Option.{none-some, slice_get-map}
use Rattle.origin_labels.specs.Label.{Label, union, within}
use Rattle.origin_labels.specs.Names.{same_name}
use Rattle.origin_labels.specs.Stores.{IsKept}
use Rattle.flow_frames.specs.declared.faults.FlowFault.{FlowFault}
use Rattle.flow_frames.specs.declared.faults.FlowFault.TheVariants as fault
use Rattle.flow_frames.specs.declared.faults.FlowStop.{FlowStop}
use Rattle.flow_frames.specs.declared.faults.Rule.TheVariants.{W6}
use Rattle.flow_frames.specs.Frames.{context}
use Rattle.flow_frames.specs.Held.{seen_frame}
use Rattle.js_values.specs.declared.property.Body.{Body}
use Rattle.js_values.specs.declared.property.Marks.{Marks}
use Rattle.js_values.specs.declared.property.Slot.{Slot}
use Rattle.js_values.specs.Objects.{Rows, Object, own, changed, altered, row_or_none}
use Rattle.js_values.specs.Readings.{read_heap, read_object, read_slot}
use Rattle.object_heap.specs.Acts as heap_acts
use Rattle.object_heap.specs.Acts.{Acted, on_object, on_slot, put_back, under, with_marks, with_rows}
use Rattle.object_heap.specs.Answers as answers
use Rattle.object_heap.specs.Formed.{own_in}
use Rattle.prototype_walk.specs.Answers.{Means}
use Rattle.es_meaning.specs.Definitions as definitions
use Rattle.es_meaning.specs.Outcomes.{Outcome, Goes, and_then, ret, ◌>>=◌}
use Rattle.flow_meaning.specs.Erased.{erased_slot}
use Rattle.flow_meaning.specs.Requested.{body_label}
use Rattle.flow_meaning.specs.Scopes.{Halt, Jump, State, L}
use Rattle.flow_meaning.specs.Tracked as tracked
use Rattle.flow_meaning.specs.Tracked.{is_defined, acted, set_body_if, set_marks}
use Rattle.run_state.specs.declared.outcome.Outcome as machine
use Rattle.run_state.specs.declared.outcome.Outcome.TheVariants as outcome
use Rattle.run_state.specs.declared.outcome.Defining.{Defining}
use Rattle.run_state.specs.declared.outcome.Defining.TheVariants as defined_as
use Rattle.run_state.specs.declared.world.World.{World}
use Rattle.run_state.specs.Accesses.{read_defining}
use Rattle.run_state.specs.Acts.{Acts, HasAnswer}
use Rattle.run_state.specs.Worlds.{state_of}
use Rattle.run_state.proofs.ActLaws.{Acts-as, Acts-passes, Acts-then}
use Rattle.property_access.proofs.MeansLaws.{means_later}
use Rattle.property_requests.specs.declared.definition.Definition.{Definition}
use Rattle.property_requests.specs.declared.defining.Change.{Change}
use Rattle.property_requests.specs.declared.defining.NewBody.{NewBody}
use Rattle.property_requests.specs.Defining.{body_of, body_set, changed_by, definition_of, HasNewBody, IsChange, IsNewBody}
use Rattle.property_requests.specs.Finding.{went}
use Rattle.property_requests.proofs.HeldLaws.{read_own_in}

-- ---- calls that never throw

pub went_refused : {X T : Type 0} (f : FlowFault T) (result : Result X (FlowFault T)) → IsErrAnd result (λ e. e ≡ f) → IsErrAnd (went result) (λ e. e ≡ f)
went_refused f (Ok x) is = is
went_refused f (Err e) is = is

-- ---- the two acts

module _ {S T : Type 0} (made : S → T → Type 0) (meaning : S → T → Label) (store : S) (w after : World T) (o : ℕ) (key : List ℕ) (place need : T) (result : Result (machine.Outcome (Unit {0}) T) (FlowFault T)) where
  abbrev Does : ((T → Label) → L (Unit {0})) → Type 0
  Does act = Acts made meaning store (λ reading (u : Unit {0}). u) act w after result

  pub marks_set : (given decided : T) (marks : Marks) → Means made meaning store decided (λ reading. union (reading place) (reading given)) → Means made meaning store need (λ reading. union (context (map (seen_frame reading) w.frames.frames)) (reading decided))
      → Does (λ reading s. acted tt (heap_acts.set_attributes o key (reading need) marks s.heap) s) → Does (λ reading. set_marks (union (reading place) (reading given)) marks o key)
  unfolding set_marks
  marks_set given decided marks joined needs acts =
      Acts-as made meaning store (λ reading (u : Unit {0}). u) (λ reading s. acted tt (heap_acts.set_attributes o key (reading need) marks s.heap) s) (λ reading. set_marks (union (reading place) (reading given)) marks o key) w after result
      (λ reading agrees told turns.
      let s = state_of reading w told turns in
      ap (λ n. acted tt (heap_acts.set_attributes o key n marks s.heap) s) (ap (union (context s.frames)) (sym (joined.is reading agrees)) ∙ sym (needs.is reading agrees)))
      acts

  pub body_is_set : (given : Option (NewBody T)) (body : Body) (label : T) → given ≡ Some (record { body = body; label = label }) → Means made meaning store need (λ reading. union (context (map (seen_frame reading) w.frames.frames)) (reading place))
      → Does (λ reading s. acted tt (heap_acts.set_body o key (reading need) body (reading label) s.heap) s) → Does (λ reading. body_set reading (reading place) given o key)
  unfolding body_set set_body_if
  body_is_set given body label is needs acts =
      Acts-as made meaning store (λ reading (u : Unit {0}). u) (λ reading s. acted tt (heap_acts.set_body o key (reading need) body (reading label) s.heap) s) (λ reading. body_set reading (reading place) given o key) w after result
      (λ reading agrees told turns.
      let s = state_of reading w told turns in
      ap (λ x. body_set reading (reading place) x o key s) is
      ∙ ap (λ n. acted tt (heap_acts.set_body o key n body (reading label) s.heap) s) (sym (needs.is reading agrees)))
      acts

pub body_stays : {S T : Type 0} (made : S → T → Type 0) (meaning : S → T → Label) (store : S) (w : World T) (o : ℕ) (key : List ℕ) (place : T) (given : Option (NewBody T)) → given ≡ None → Acts made meaning store (λ reading (u : Unit {0}). u) (λ reading. body_set reading (reading place) given o key) w w (Ok (outcome.Goes tt))
unfolding body_set
body_stays made meaning store w o key place given is = record { says = λ reading agrees told turns. ap (λ x. body_set reading (reading place) x o key (state_of reading w told turns)) is }

-- ---- one behind the other

module _ {S T : Type 0} (made : S → T → Type 0) (meaning : S → T → Label) where
  abbrev Gives : S → World T → World T → ((T → Label) → L (Unit {0})) → Result (Unit {0}) (FlowFault T) → Type 0
  Gives store w after act r = Acts made meaning store (λ reading (u : Unit {0}). u) act w after (went r)

  abbrev marking : ℕ → List ℕ → T → T → Change T → (T → Label) → L (Unit {0})
  marking o key place given change reading = set_marks (union (reading place) (reading given)) change.marks o key

  abbrev Changes : S → World T → World T → ℕ → List ℕ → T → T → Change T → Result (machine.Outcome (Defining T) T) (FlowFault T) → Type 0
  Changes store w after o key place given change result = Acts made meaning store (λ reading. read_defining reading) (λ reading. changed_by reading change (reading place) (reading given) o key) w after result

  -- what is done behind the attributes
  abbrev behind : ℕ → List ℕ → T → Change T → (T → Label) → L tracked.Defining
  behind o key place change reading = body_set reading (reading place) change.body o key >>= λ w. ret (is_defined (reading place))

  pub marks_fail : (store : S) (w after : World T) (o : ℕ) (key : List ℕ) (place given : T) (change : Change T) (r : Result (Unit {0}) (FlowFault T)) (f : FlowFault T) → r ≡ Err f → Gives store w after (marking o key place given change) r
      → (result : Result (machine.Outcome (Defining T) T) (FlowFault T)) → IsErrAnd result (λ e. e ≡ f) → Changes store w after o key place given change result
  marks_fail store w after o key place given change r f err acts result is =
      Acts-passes made meaning store (λ reading (u : Unit {0}). u) (λ reading. read_defining reading) (marking o key place given change) (λ reading u. behind o key place change reading) w after f result is
      (subst (Gives store w after (marking o key place given change)) err acts)

  module _ (room : S → ℕ) (firm : S → Bool) (old new : S) (kept : IsKept made meaning room firm old new) (w middle after : World T) (o : ℕ) (key : List ℕ) (place given : T) (change : Change T) (r : Result (Unit {0}) (FlowFault T)) (ok : r ≡ Ok tt) (acts : Gives old w middle (marking o key place given change) r) where
    then_behind : (result : Result (machine.Outcome (Defining T) T) (FlowFault T)) → Acts made meaning new (λ reading. read_defining reading) (behind o key place change) middle after result → Changes new w after o key place given change result
    then_behind result second =
        Acts-then made meaning room firm old new kept (λ reading (u : Unit {0}). u) (λ reading. read_defining reading) (marking o key place given change) (λ reading u. behind o key place change reading) w middle after tt result
        (subst (Gives old w middle (marking o key place given change)) ok acts) second

    pub body_fails : (s : Result (Unit {0}) (FlowFault T)) (f : FlowFault T) → s ≡ Err f → Gives new middle after (λ reading. body_set reading (reading place) change.body o key) s
        → (result : Result (machine.Outcome (Defining T) T) (FlowFault T)) → IsErrAnd result (λ e. e ≡ f) → Changes new w after o key place given change result
    body_fails s f err second result is =
        then_behind result
        (Acts-passes made meaning new (λ reading (u : Unit {0}). u) (λ reading. read_defining reading) (λ reading. body_set reading (reading place) change.body o key) (λ reading w. ret (is_defined (reading place))) middle after f result is
        (subst (Gives new middle after (λ reading. body_set reading (reading place) change.body o key)) err second))

    pub both_set : (s : Result (Unit {0}) (FlowFault T)) → s ≡ Ok tt → Gives new middle after (λ reading. body_set reading (reading place) change.body o key) s → (v : Defining T) → v ≡ defined_as.Defined place → Changes new w after o key place given change (Ok (outcome.Goes v))
    both_set s done second v is =
        then_behind (Ok (outcome.Goes v)) (record {
          says = λ reading agrees told turns.
              ap (λ (m : Outcome Halt Jump (Unit {0}) State). and_then m (λ w. ret (is_defined (reading place)))) ((subst (Gives new middle after (λ reading. body_set reading (reading place) change.body o key)) done second).says reading agrees told turns)
              ∙ ap (λ (x : Defining T). Goes (read_defining reading x) (state_of reading after told turns)) (sym is);
        })

-- what a call goes on with has labels of the store, and so has a fault that is handed on
pub went_has : {X T : Type 0} (made : T → Type 0) (has : X → Type 0) (r : Result X (FlowFault T)) (x : X) → r ≡ Ok x → HasAnswer has made (went r) → has x
went_has {X = X} {T = T} made has r x ok answer = subst (λ (y : Result X (FlowFault T)). HasAnswer has made (went y)) ok answer

pub passed_has : {X Y T : Type 0} (made : T → Type 0) (had : X → Type 0) (has : Y → Type 0) (r : Result X (FlowFault T)) (f : FlowFault T) → r ≡ Err f → HasAnswer had made (went r) → (result : Result (machine.Outcome Y T) (FlowFault T)) → IsErrAnd result (λ e. e ≡ f) → HasAnswer has made result
passed_has made had has r f err answer (Ok y) is = absurd is
passed_has {X = X} {T = T} made had has r f err answer (Err e) is = by e (subst (λ (x : Result X (FlowFault T)). HasAnswer had made (went x)) (err ∙ ap (λ (x : FlowFault T). Err x) (sym is)) answer)
  where
    by : (e : FlowFault T) → HasAnswer {X = X} had made (Err e) → HasAnswer has made (Err e)
    by (fault.Stop stop) answer = answer
    by fault.OutOfMemory answer = tt

pub faults_has : {X T : Type 0} (made : T → Type 0) (has : X → Type 0) (r : Result (Unit {0}) (FlowFault T)) (f : FlowFault T) → r ≡ Err f → HasAnswer (λ u. Unit {0}) made (went r) → (result : Result (machine.Outcome X T) (FlowFault T)) → IsErrAnd result (λ e. e ≡ f) → HasAnswer has made result
faults_has made has r f err answer result is = passed_has made (λ u. Unit {0}) has r f err answer result is

-- ---- what a definition changes

module _ {T : Type 0} (slot : Slot T) (d : Definition) (was accessor : Bool) (kind : was ≡ definitions.is_accessor slot.body) (becomes : accessor ≡ definitions.becomes_accessor was (definition_of d)) where
  accessor_is : accessor ≡ definitions.becomes_accessor (definitions.is_accessor slot.body) (definition_of d)
  accessor_is = becomes ∙ ap (λ (b : Bool). definitions.becomes_accessor b (definition_of d)) kind

  pub marks_are : (marks : Marks) → marks ≡ definitions.marks_of_kind accessor slot.marks d.marks → marks ≡ (definitions.defined_over (erased_slot slot) (definition_of d)).marks
  marks_are marks is = is ∙ ap (λ (b : Bool). definitions.marks_of_kind b slot.marks d.marks) accessor_is

  pub body_is : (body : Body) → body ≡ definitions.body_of_kind accessor slot.body (body_of d.body) → body ≡ (definitions.defined_over (erased_slot slot) (definition_of d)).body
  body_is body is = is ∙ ap (λ (b : Bool). definitions.body_of_kind b slot.body (body_of d.body)) accessor_is

module _ {S T : Type 0} (made : S → T → Type 0) (meaning : S → T → Label) where
  pub label_given : (store : S) (keeps : Bool) (given old : T) → keeps ≡ false → made store given → Means made meaning store given (λ reading. body_label keeps (reading given) (reading old))
  label_given store keeps given old test m = record { belongs = m; is = λ reading agrees. sym (ap (λ (b : Bool). body_label b (reading given) (reading old)) test) }

  pub label_both : {E : Type 0} (store : S) (keeps : Bool) (given old : T) → keeps ≡ true → (r : Result T E) → IfOk r (λ label. Means made meaning store label (λ reading. union (reading given) (reading old))) → IfOk r (λ label. Means made meaning store label (λ reading. body_label keeps (reading given) (reading old)))
  label_both store keeps given old test (Ok label) means = record { belongs = means.belongs; is = λ reading agrees. means.is reading agrees ∙ sym (ap (λ (b : Bool). body_label b (reading given) (reading old)) test) }
  label_both store keeps given old test (Err e) means = tt

  pub label_is : (store : S) (slot : Slot T) (d : Definition) (given : T) (keeps : Bool) → keeps ≡ definitions.keeps_a_half (erased_slot slot) (definition_of d) → (label : T) → Means made meaning store label (λ reading. body_label keeps (reading given) (reading slot.label))
      → Means made meaning store label (λ reading. body_label (definitions.keeps_a_half (erased_slot slot) (definition_of d)) (reading given) (reading slot.label))
  label_is store slot d given keeps is label means = record { belongs = means.belongs; is = λ reading agrees. means.is reading agrees ∙ ap (λ (b : Bool). body_label b (reading given) (reading slot.label)) is }

  pub change_has : (store : S) (slot : Slot T) (d : Definition) (given : T) (change : Change T) → IsChange made meaning store slot d given change → HasNewBody (made store) change.body
  change_has store slot d given change is = by change.body is.body
    where
      by : (b : Option (NewBody T)) → IsNewBody made meaning store slot d given b → HasNewBody (made store) b
      by None same = tt
      by (Some b) gives = gives.label.belongs

  pub change_later : (room : S → ℕ) (firm : S → Bool) (old new : S) → IsKept made meaning room firm old new → (slot : Slot T) (d : Definition) (given : T) (change : Change T) → IsChange made meaning old slot d given change → IsChange made meaning new slot d given change
  change_later room firm old new kept slot d given change is = record { marks = is.marks; body = by change.body is.body }
    where
      by : (b : Option (NewBody T)) → IsNewBody made meaning old slot d given b → IsNewBody made meaning new slot d given b
      by None same = same
      by (Some b) gives = record { changes = gives.changes; body = gives.body; label = means_later made meaning room firm old new kept b.label _ gives.label }

-- ---- what was there is there still, where its attributes were set

module _ (key : List ℕ) (f : Slot Label → Slot Label) where
  changed_at : (r : List ℕ × Slot Label) (rows : Rows (Slot Label)) (test : Bool) → same_name r.0 key ≡ test → IsSome (if test then Some r.1 else own key rows) → (IsSome (own key rows) → IsSome (own key (changed key f rows)))
      → IsSome (own key (if test then row_or_none r.0 (Some (f r.1)) rows else r ∷ altered key (λ s. Some (f s)) rows))
  changed_at r rows true named some rest = subst (λ (b : Bool). IsSome (if b then Some (f r.1) else own key rows)) (sym named) refl
  changed_at r rows false named some rest = subst (λ (b : Bool). IsSome (if b then Some r.1 else own key (altered key (λ s. Some (f s)) rows))) (sym named) (rest some)

  own_changed : (rows : Rows (Slot Label)) → IsSome (own key rows) → IsSome (own key (changed key f rows))
  own_changed [] some = some
  own_changed (r ∷ rows) some = changed_at r rows (same_name r.0 key) refl some (own_changed rows)

no_some : (s : Option (Slot Label)) → s ≡ None → IsSome s → ⊥
no_some None e some = cc
no_some (Some x) e some = none-some x (sym e)

pub set_there : {X : Type 0} (xs : List X) (i : ℕ) (x y : X) → slice_get xs i ≡ Some x → slice_get (set xs i y) i ≡ Some y
set_there [] i x y here = absurd (none-some x here)
set_there (z ∷ xs) zero x y here = refl
set_there (z ∷ xs) (suc i) x y here = set_there xs i x y here

abbrev heap_or : List (Object Label) → Acted (List (Object Label)) → List (Object Label)
heap_or other (Ok heap) = heap
heap_or other (Err stop) = other

abbrev goes_on : List (Object Label) → Acted (List (Object Label))
goes_on heap = Ok heap

-- what an act that goes on answers is one heap
same_heap : (heap after : List (Object Label)) → goes_on heap ≡ goes_on after → heap ≡ after
same_heap heap after is = ap (heap_or heap) is

module _ (o : ℕ) (key : List ℕ) (need : Label) (marks : Marks) (heap after : List (Object Label)) where
  by_test : (p : Object Label) (s : Slot Label) (test : Bool) → slice_get heap o ≡ Some p → IsSome (own key p.rows)
      → put_back {E = FlowStop Label} heap o (if test then Ok (with_rows p (changed key (with_marks marks) p.rows)) else Err (record { rule = W6; need = need; have = s.existence })) ≡ Ok after → IsSome (own_in key (slice_get after o))
  by_test p s true here some is =
      let object = with_rows p (changed key (with_marks marks) p.rows) in
      let changed_there = subst (λ q. IsSome (own_in key q)) (sym (set_there heap o p object here)) (own_changed key (with_marks marks) p.rows some) in
      subst (λ (h : List (Object Label)). IsSome (own_in key (slice_get h o))) (same_heap (set heap o object) after is) changed_there
  by_test p s false here some is = cc

  by_slot : (p : Object Label) (s : Option (Slot Label)) → slice_get heap o ≡ Some p → own key p.rows ≡ s → IsSome (own key p.rows)
      → put_back heap o (on_slot s p (λ x. under W6 need x.existence (Ok (with_rows p (changed key (with_marks marks) p.rows))))) ≡ Ok after → IsSome (own_in key (slice_get after o))
  by_slot p None here none some is = absurd (no_some (own key p.rows) none some)
  by_slot p (Some s) here own_is some is = by_test p s (within need s.existence) here some is

  by_object : (p : Option (Object Label)) → slice_get heap o ≡ p → IsSome (own_in key p) → on_object p heap o (heap_acts.set_own_attributes key need marks) ≡ Ok after → IsSome (own_in key (slice_get after o))
  by_object None here some is = absurd (no_some None refl some)
  by_object (Some p) here some is = by_slot p (own key p.rows) here refl some is

  attributes_keep : IsSome (own_in key (slice_get heap o)) → heap_acts.set_attributes o key need marks heap ≡ Ok after → IsSome (own_in key (slice_get after o))
  attributes_keep some is = by_object (slice_get heap o) refl some is

module _ {T : Type 0} (reading : T → Label) where
  pub read_there : (heap : List (Object T)) (o : ℕ) (key : List ℕ) → own_in key (slice_get (read_heap reading heap) o) ≡ option_map (read_slot reading) (own_in key (slice_get heap o))
  read_there heap o key = ap (own_in key) (slice_get-map (read_object reading) heap o) ∙ read_own_in reading key (slice_get heap o)

  pub some_read : (s : Option (Slot T)) → IsSome s → IsSome (option_map (read_slot reading) s)
  some_read (Some s) some = refl
  some_read None some = cc

  pub some_there : (s : Option (Slot T)) → IsSome (option_map (read_slot reading) s) → IsSome s
  some_there (Some s) some = refl
  some_there None some = cc

-- a property stays there, where its attributes are set
pub present_still : {S T : Type 0} (made : S → T → Type 0) (meaning : S → T → Label) (store : S) (o : ℕ) (key : List ℕ) (need : T) (marks : Marks) (heap after : List (Object T)) (r : Result (Unit {0}) (FlowFault T)) → r ≡ Ok tt
    → answers.Acts made meaning store read_heap (λ reading. heap_acts.set_attributes o key (reading need) marks) heap after r
    → IsSome (own_in key (slice_get heap o)) → IsSome (own_in key (slice_get after o))
present_still made meaning store o key need marks heap after r ok acts some =
    let reading = meaning store in
    let does = (subst (answers.Acts made meaning store read_heap (λ reading. heap_acts.set_attributes o key (reading need) marks) heap after) ok acts).does reading (record { agrees = λ l m. refl }) in
    let before : IsSome (own_in key (slice_get (read_heap reading heap) o)) = subst IsSome (sym (read_there reading heap o key)) (some_read reading (own_in key (slice_get heap o)) some) in
    some_there reading (own_in key (slice_get after o)) (subst IsSome (read_there reading after o key) (attributes_keep o key (reading need) marks (read_heap reading heap) (read_heap reading after) before does))
