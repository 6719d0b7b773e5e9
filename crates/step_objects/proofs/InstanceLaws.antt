-- Whether a value is an instance of a function, in a reading of the labels.
use Rattle.std.proofs.Common.{◌≡◌, ◌<◌, ℕ, zero, suc, Bool, true, false, List, [], ◌∷◌, length, nat_eq, Option, Some, None, Ok, Result, refl, sym, ap, ap₂, subst, ◌∙◌, if◌then◌else◌, arith}
use Rattle.std.specs.List.{slice_get}
use Rattle.std.specs.Option.{option_map}
use Rattle.std.proofs.lemmas.Bool.{eqb-true}
use Rattle.std.proofs.lemmas.Option.{slice_get-map}
use Rattle.origin_labels.specs.Label.{Label, IsLabel, bottom, union}
use Rattle.origin_labels.specs.Stores.{IsKept}
use Rattle.origin_labels.proofs.LabelLaws.{IsLabel-union, union-assoc, union-bottom_left}
use Rattle.flow_frames.specs.declared.faults.FlowFault.{FlowFault}
use Rattle.js_number.specs.declared.primitive.Primitive.{Primitive}
use Rattle.js_number.specs.declared.primitive.Primitive.TheVariants as prims
use Rattle.js_values.specs.declared.ids.ObjId.{ObjId}
use Rattle.js_values.specs.declared.value.Labelled.{Labelled}
use Rattle.js_values.specs.declared.value.Value.TheVariants as value
use Rattle.js_values.specs.Chains.{beginning, onwards, chain_within}
use Rattle.js_values.specs.Objects.{Object, number_of}
use Rattle.js_values.specs.Readings.{IsReading, HasHeap, read_heap, read_object, read_value}
use Rattle.js_values.specs.Walks.{object_chain}
use Rattle.js_values.proofs.ReadingLaws.{IsReading-earlier}
use Rattle.object_heap.specs.declared.shape.Shape.{Shape}
use Rattle.object_heap.specs.Formed.{IsFormed, IsShape}
use Rattle.prototype_walk.specs.Answers.{Means}
use Rattle.step_objects.proofs.ShapeLaws.{HasShape, chain_at, shape_there, object_has}
use Rattle.es_meaning.specs.Outcomes.{Goes}
use Rattle.native_protocol.specs.declared.request.ErrorKind.TheVariants as kinds
use Rattle.flow_meaning.specs.Scopes.{Val}
use Rattle.flow_meaning.specs.Tracked as tracked
use Rattle.flow_meaning.specs.Tracked.{linked, linked_from, linked_to, is_instance, throw_error, truth_of}
use Rattle.run_state.specs.declared.outcome.Outcome.{Outcome}
use Rattle.run_state.specs.declared.outcome.Outcome.TheVariants as outcome
use Rattle.run_state.specs.declared.world.World.{World}
use Rattle.run_state.specs.Acts.{Acts}
use Rattle.run_state.specs.Worlds.{state_of}
use Rattle.run_state.proofs.ActLaws.{Acts-as}
use Rattle.step_objects.specs.declared.instances.Linked.{Linked}
use Rattle.step_objects.specs.Instances.{IsLinked}

-- ---- the walk from an object along its links

-- two numbers that aren't equal
pub no_eqb : (a b : ℕ) → (a ≡ b → ⊥) → nat_eq a b ≡ false
no_eqb a b differ = at (nat_eq a b) refl
  where
    at : (t : Bool) → nat_eq a b ≡ t → t ≡ false
    at true is = absurd (differ (eqb-true a b is))
    at false is = refl

-- the object with a number that is given out
pub there_at : {X : Type 0} (xs : List X) (i : ℕ) → i < length xs → (x : X) × (slice_get xs i ≡ Some x)
there_at (x ∷ xs) zero lt = (x, refl)
there_at (x ∷ xs) (suc i) lt = there_at xs i (omega (arith, lt))
there_at [] i lt = absurd (omega (arith, lt))

abbrev pub joined : Label → tracked.Linked → tracked.Linked
joined walk rest = record { is = rest.is; links = union walk rest.links }

-- what is found from the first object is what is found from here, behind the links so far
abbrev pub Leads : {S T : Type 0} → (S → T → Type 0) → (S → T → Label) → S → List (Object T) → ℕ → ℕ → ℕ → T → Type 0
Leads made meaning store heap proto o at links = (reading : _) → IsReading made meaning store reading → linked proto (object_chain (read_heap reading heap) o) ≡ joined (reading links) (linked proto (object_chain (read_heap reading heap) at))

-- links are labels
module _ {T : Type 0} (made : T → Type 0) (reading : T → Label) (read : (label : T) → made label → IsLabel (reading label)) (heap : List (Object T)) (has : HasHeap made heap) (proto : ℕ) where
  link_at : (i : ℕ) (p : Object T) → slice_get heap i ≡ Some p → IsLabel (reading p.link)
  link_at i p here = read p.link (object_has made heap i p has here).link

  label_if : (b : Bool) (link : Label) (rest : tracked.Linked) → IsLabel link → IsLabel rest.links → IsLabel (if b then record { is = true; links = link } else tracked.linked_beyond link rest).links
  label_if true link rest l r = l
  label_if false link rest l r = IsLabel-union link rest.links r

  label_onwards : (link : Label) → IsLabel link → (next : ℕ → List (ℕ × Object Label)) → ((j : ℕ) → IsLabel (linked_from proto link (next j)).links) → (o : Option ℕ) → IsLabel (linked_from proto link (onwards o next)).links
  label_onwards link l next labels None = l
  label_onwards link l next labels (Some j) = labels j

  label_from : (n i : ℕ) (link : Label) → IsLabel link → IsLabel (linked_from proto link (chain_within (λ p. number_of p.proto) (read_heap reading heap) n i)).links
  label_from zero i link l = l
  label_from (suc n) i link l =
      subst (λ q. IsLabel (linked_from proto link (beginning i q (λ a. onwards (number_of a.proto) (chain_within (λ p. number_of p.proto) (read_heap reading heap) n)))).links) (sym (slice_get-map (read_object reading) heap i)) (at (λ j own m. label_from n j own m) (slice_get heap i) refl)
    where
      at : ((j : ℕ) (own : Label) → IsLabel own → IsLabel (linked_from proto own (chain_within (λ p. number_of p.proto) (read_heap reading heap) n j)).links) → (q : Option (Object T)) → slice_get heap i ≡ q → IsLabel (linked_from proto link (beginning i (option_map (read_object reading) q) (λ a. onwards (number_of a.proto) (chain_within (λ p. number_of p.proto) (read_heap reading heap) n)))).links
      at labels None here = l
      at labels (Some p) here =
          let next = chain_within (λ p. number_of p.proto) (read_heap reading heap) n in
          let own = link_at i p here in
          label_if (nat_eq i proto) link (linked_from proto (reading p.link) (onwards (number_of p.proto) next)) l (label_onwards (reading p.link) own next (λ j. labels j (reading p.link) own) (number_of p.proto))

  pub IsLabel-links : (i : ℕ) (p : Object T) → slice_get heap i ≡ Some p → IsLabel (linked_from proto (reading p.link) (onwards (number_of p.proto) (object_chain (read_heap reading heap)))).links
  IsLabel-links i p here =
      let own = link_at i p here in
      label_onwards (reading p.link) own (object_chain (read_heap reading heap)) (λ j. label_from (suc j) j (reading p.link) own) (number_of p.proto)

module _ {S T : Type 0} (made : S → T → Type 0) (meaning : S → T → Label) (room : S → ℕ) (firm : S → Bool) (heap : List (Object T)) (formed : IsFormed heap) (proto o : ℕ) where
  pub leads_first : (store : S) (links : T) → made store links → meaning store links ≡ bottom → Leads made meaning store heap proto o o links
  leads_first store links m is reading read =
      let f = linked proto (object_chain (read_heap reading heap) o) in
      sym (ap (λ w. joined w f) (read.agrees links m ∙ is) ∙ ap (λ w. record { is = f.is; links = w }) (union-bottom_left f.links))

  module _ (old new : S) (kept : IsKept made meaning room firm old new) (i : ℕ) (links label : T) (leads : Leads made meaning old heap proto o i links)
      (shape : Shape T) (there : IsShape (slice_get heap i) shape) (means : Means made meaning new label (λ reading. union (reading links) (reading shape.link))) where
    passed : HasShape heap i shape
    passed = shape_there heap i shape there

    earlier : (reading : T → Label) → IsReading made meaning new reading → IsReading made meaning old reading
    earlier reading read = IsReading-earlier made meaning room firm old new reading kept read

    -- from an object on
    here : (next : Option ObjId) → shape.proto ≡ next → (reading : T → Label) → linked proto (object_chain (read_heap reading heap) i) ≡ linked_from proto (reading passed.object.link) (onwards (number_of next) (object_chain (read_heap reading heap)))
    here next ends reading =
        ap (linked proto) (chain_at reading heap formed i passed.object passed.here)
        ∙ ap (λ (q : Option ObjId). linked_from proto (reading passed.object.link) (onwards (number_of q) (object_chain (read_heap reading heap)))) (sym (ap (λ (q : Shape T). q.proto) passed.is) ∙ ends)

    means_here : (reading : T → Label) → IsReading made meaning new reading → reading label ≡ union (reading links) (reading passed.object.link)
    means_here reading read = means.is reading read ∙ ap (λ (q : Shape T). union (reading links) (reading q.link)) passed.is

    -- the last one
    pub linked_none : shape.proto ≡ None → IsLinked made meaning new heap o proto (record { is = false; links = label })
    linked_none ends = record {
      belongs = means.belongs;
      is = λ reading read.
          ap (λ l. record { is = false; links = l }) (means_here reading read)
          ∙ sym (leads reading (earlier reading read) ∙ ap (joined (reading links)) (here None ends reading));
    }

    -- a prototype
    module _ (next : ObjId) (ends : shape.proto ≡ Some next) (q : Object T) (lies : slice_get heap next.0 ≡ Some q) where
      beyond : (reading : T → Label) → linked proto (object_chain (read_heap reading heap) i) ≡ linked_to proto next.0 (reading passed.object.link) (linked proto (object_chain (read_heap reading heap) next.0))
      beyond reading =
          here (Some next) ends reading
          ∙ ap (linked_from proto (reading passed.object.link)) (chain_at reading heap formed next.0 q lies)
          ∙ sym (ap (λ c. linked_to proto next.0 (reading passed.object.link) (linked proto c)) (chain_at reading heap formed next.0 q lies))

      by_test : (b : Bool) (reading : T → Label) → nat_eq next.0 proto ≡ b → linked proto (object_chain (read_heap reading heap) i) ≡ (if b then record { is = true; links = reading passed.object.link } else tracked.linked_beyond (reading passed.object.link) (linked proto (object_chain (read_heap reading heap) next.0)))
      by_test b reading is = beyond reading ∙ ap (λ t. if t then record { is = true; links = reading passed.object.link } else tracked.linked_beyond (reading passed.object.link) (linked proto (object_chain (read_heap reading heap) next.0))) is

      pub linked_here : nat_eq next.0 proto ≡ true → IsLinked made meaning new heap o proto (record { is = true; links = label })
      linked_here this = record {
        belongs = means.belongs;
        is = λ reading read.
            ap (λ l. record { is = true; links = l }) (means_here reading read)
            ∙ sym (leads reading (earlier reading read) ∙ ap (joined (reading links)) (by_test true reading this));
      }

      pub leads_on : nat_eq next.0 proto ≡ false → ((store : S) (label : T) → made store label → IsLabel (meaning store label)) → HasHeap (made new) heap → Leads made meaning new heap proto o next.0 label
      leads_on other rising has reading read =
          let rest = linked proto (object_chain (read_heap reading heap) next.0) in
          let labels : IsLabel rest.links = subst (λ c. IsLabel (linked proto c).links) (sym (chain_at reading heap formed next.0 q lies)) (IsLabel-links (made new) reading (λ l m. subst IsLabel (sym (read.agrees l m)) (rising new l m)) heap has proto next.0 q lies) in
          leads reading (earlier reading read)
          ∙ ap (joined (reading links)) (by_test false reading other)
          ∙ ap (λ l. record { is = rest.is; links = l }) (sym (ap (λ l. union l rest.links) (means_here reading read) ∙ union-assoc (reading links) (reading passed.object.link) rest.links labels))

-- ---- the act

pub linked_later : {S T : Type 0} (made : S → T → Type 0) (meaning : S → T → Label) (room : S → ℕ) (firm : S → Bool) (old new : S) (kept : IsKept made meaning room firm old new) (heap : List (Object T)) (o proto : ℕ) (l : Linked T) → IsLinked made meaning old heap o proto l → IsLinked made meaning new heap o proto l
linked_later made meaning room firm old new kept heap o proto l is = record {
  belongs = (kept.labels l.links is.belongs).0;
  is = λ reading read. is.is reading (IsReading-earlier made meaning room firm old new reading kept read);
}

module _ {S T : Type 0} (made : S → T → Type 0) (meaning : S → T → Label) (store : S) (w : World T) where
  pub prototype_found : (o : ℕ) (proto : ObjId) (label depends : T) (l : Linked T) → IsLinked made meaning store w.heap o proto.0 l → Means made meaning store depends (λ reading. union (reading label) (reading l.links))
      → Acts made meaning store (λ reading. read_value reading) (λ reading. is_instance (reading label) o (value.Object proto)) w w (Ok (outcome.Goes (record { value = value.Primitive (prims.Bool l.is); label = depends })))
  unfolding is_instance
  prototype_found o proto label depends l is means = record {
    says = λ reading read told turns.
        let s = state_of reading w told turns in
        sym (ap (λ (x : tracked.Linked). Goes (truth_of x.is (union (reading label) x.links)) s) (is.is reading read)) ∙ ap (λ k. Goes (truth_of l.is k) s) (sym (means.is reading read));
  }

  -- ---- with its `prototype`

  module _ (o : ℕ) (label depends : T) (proto : Labelled T) (means : Means made meaning store depends (λ reading. union (reading label) (reading proto.label))) where
    pub instance_refused : (after : World T) (result : Result (Outcome (Labelled T) T) (FlowFault T)) (p : Primitive) → proto.value ≡ value.Primitive p → Acts made meaning store (λ reading. read_value reading) (λ reading. throw_error {X = Val} kinds.TypeError (reading depends)) w after result
        → Acts made meaning store (λ reading. read_value reading) (λ reading. is_instance (union (reading label) (reading proto.label)) o proto.value) w after result
    unfolding is_instance
    instance_refused after result p is acts =
        Acts-as made meaning store (λ reading. read_value reading) (λ reading. throw_error {X = Val} kinds.TypeError (reading depends)) (λ reading. is_instance (union (reading label) (reading proto.label)) o proto.value) w after result
        (λ reading read told turns. ap₂ (λ l u. is_instance l o u (state_of reading w told turns)) (sym (means.is reading read)) is) acts

    pub instance_among : (result : Result (Outcome (Labelled T) T) (FlowFault T)) (p : ObjId) → proto.value ≡ value.Object p → Acts made meaning store (λ reading. read_value reading) (λ reading. is_instance (reading depends) o (value.Object p)) w w result
        → Acts made meaning store (λ reading. read_value reading) (λ reading. is_instance (union (reading label) (reading proto.label)) o proto.value) w w result
    instance_among result p is acts =
        Acts-as made meaning store (λ reading. read_value reading) (λ reading. is_instance (reading depends) o (value.Object p)) (λ reading. is_instance (union (reading label) (reading proto.label)) o proto.value) w w result
        (λ reading read told turns. ap₂ (λ l u. is_instance l o u (state_of reading w told turns)) (sym (means.is reading read)) is) acts
