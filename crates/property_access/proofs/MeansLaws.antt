-- Labels, walks and plans of an earlier store, in a later one.
use Rattle.std.proofs.Common.{◌≡◌, ℕ, Bool, List, map, Option, Some, None, Result, Ok, Err, IfOk, option_map, refl, sym, ap, ap₂, ◌∙◌}
use Rattle.origin_labels.specs.Label.{Label, bottom, union}
use Rattle.origin_labels.specs.Stores.{IsKept}
use Rattle.flow_frames.specs.Frames.{context}
use Rattle.flow_frames.specs.Held.{Held, Belong, seen, seen_frame}
use Rattle.js_values.specs.declared.ids.ObjId.{ObjId}
use Rattle.js_values.specs.declared.property.Slot.{Slot}
use Rattle.js_values.specs.Objects.{Object}
use Rattle.js_values.specs.Readings.{read_heap}
use Rattle.js_values.specs.Walks.{Found, find, object_chain}
use Rattle.js_number.specs.declared.primitive.Primitive.{Primitive}
use Rattle.es_meaning.specs.Primitives.{prototype_of_primitive, chain_from}
use Rattle.js_values.proofs.ReadingLaws.{IsReading-earlier}
use Rattle.prototype_walk.specs.declared.plan.PutPlan.{PutPlan}
use Rattle.prototype_walk.specs.Answers.{Means, IsPlace, IsFoundFor, IsPlan}
use Rattle.flow_meaning.specs.Tracked as tracked
use Rattle.flow_meaning.specs.Tracked.{primitive_chain}
use Rattle.run_state.specs.declared.outcome.Access.{Access}
use Rattle.run_state.specs.declared.outcome.Access.TheVariants as access
use Rattle.run_state.specs.Accesses.{IsAccess}
use Rattle.property_access.proofs.Reading.{read_frames}

module _ {S T : Type 0} (made : S → T → Type 0) (meaning : S → T → Label) (room : S → ℕ) (firm : S → Bool) (old new : S) (kept : IsKept made meaning room firm old new) where
  pub means_later : (label : T) (means : (T → Label) → Label) → Means made meaning old label means → Means made meaning new label means
  means_later label means m = record { belongs = (kept.labels label m.belongs).0; is = λ reading read. m.is reading (IsReading-earlier made meaning room firm old new reading kept read) }

  pub plan_later : (means : (T → Label) → PutPlan Label) (plan : PutPlan T) → IsPlan made meaning old means plan → IsPlan made meaning new means plan
  plan_later means plan p = record { belongs = (kept.labels _ p.belongs).0; is = λ reading read. p.is reading (IsReading-earlier made meaning room firm old new reading kept read) }

  pub place_later : (heap : List (Object T)) (o : ℕ) (key : List ℕ) (f : ObjId × Slot T) (walk : T) → IsPlace made meaning old heap o key (Some f) walk → IsPlace made meaning new heap o key (Some f) walk
  place_later heap o key f walk p = record {
    belongs = (kept.labels walk p.belongs).0;
    slot = ((kept.labels f.1.label p.slot.0).0, (kept.labels f.1.existence p.slot.1).0);
    is = λ reading read. p.is reading (IsReading-earlier made meaning room firm old new reading kept read);
  }

  pub no_place_later : (heap : List (Object T)) (o : ℕ) (key : List ℕ) (walk : T) → IsPlace made meaning old heap o key None walk → IsPlace made meaning new heap o key None walk
  no_place_later heap o key walk p = record {
    belongs = (kept.labels walk p.belongs).0;
    slot = tt;
    is = λ reading read. p.is reading (IsReading-earlier made meaning room firm old new reading kept read);
  }

  pub found_later : (means : (T → Label) → Found) (f : ObjId × Slot T) (walk : T) → IsFoundFor made meaning old means (Some f) walk → IsFoundFor made meaning new means (Some f) walk
  found_later means f walk p = record {
    belongs = (kept.labels walk p.belongs).0;
    slot = ((kept.labels f.1.label p.slot.0).0, (kept.labels f.1.existence p.slot.1).0);
    is = λ reading read. p.is reading (IsReading-earlier made meaning room firm old new reading kept read);
  }

  pub none_found_later : (means : (T → Label) → Found) (walk : T) → IsFoundFor made meaning old means None walk → IsFoundFor made meaning new means None walk
  none_found_later means walk p = record {
    belongs = (kept.labels walk p.belongs).0;
    slot = tt;
    is = λ reading read. p.is reading (IsReading-earlier made meaning room firm old new reading kept read);
  }

  pub found_kept : (means : (T → Label) → Found) (at : Option (ObjId × Slot T)) (walk : T) → IsFoundFor made meaning old means at walk → IsFoundFor made meaning new means at walk
  found_kept means None walk p = none_found_later means walk p
  found_kept means (Some f) walk p = found_later means f walk p

  pub access_later : (means : (T → Label) → tracked.Access) (a : Access T) → IsAccess made meaning old means a → IsAccess made meaning new means a
  access_later means (access.Value v) x = record { belongs = (kept.labels v.label x.belongs).0; is = λ reading read. x.is reading (IsReading-earlier made meaning room firm old new reading kept read) }
  access_later means (access.Getter label f this) x = record {
    belongs = ((kept.labels label x.belongs.0).0, (kept.labels this.label x.belongs.1).0);
    is = λ reading read. x.is reading (IsReading-earlier made meaning room firm old new reading kept read);
  }

-- ---- the need of a put

-- the context with a label
pub need_means : {S T : Type 0} (made : S → T → Type 0) (meaning : S → T → Label) (room : S → ℕ) (firm : S → Bool) (old new : S) (kept : IsKept made meaning room firm old new) (frames : List (Held T)) (label place need : T) (this : (T → Label) → Label)
    → Belong made meaning old frames → made old label → meaning old label ≡ context (seen meaning old frames) → Means made meaning old place this → Means made meaning new need (λ reading. union (reading label) (reading place))
    → Means made meaning new need (λ reading. union (context (map (seen_frame reading) frames)) (this reading))
need_means made meaning room firm old new kept frames label place need this belongs m is means joined = record {
  belongs = joined.belongs;
  is = λ reading read.
      let earlier = IsReading-earlier made meaning room firm old new reading kept read in
      joined.is reading read ∙ ap₂ union (earlier.agrees label m ∙ is ∙ sym (ap context (read_frames made meaning old reading frames earlier belongs))) (means.is reading earlier);
}

-- ---- the chain of a primitive value

pub beyond_found : {S T X E : Type 0} (made : S → T → Type 0) (meaning : S → T → Label) (store : S) (heap : List (Object T)) (key : List ℕ) (p : Primitive) (o : ObjId) → Some o ≡ prototype_of_primitive p → (r : Result (Option (ObjId × X) × T) E) (now : X → Slot T) → IfOk r (λ a. IsPlace made meaning store heap o.0 key (option_map {U = ObjId × Slot T} (λ f. (f.0, now f.1)) a.0) a.1)
    → IfOk r (λ a. IsFoundFor made meaning store (λ reading. find key (primitive_chain (read_heap reading heap) p)) (option_map {U = ObjId × Slot T} (λ f. (f.0, now f.1)) a.0) a.1)
beyond_found made meaning store heap key p o is (Err e) now place = tt
beyond_found made meaning store heap key p o is (Ok a) now place = record {
  belongs = place.belongs;
  slot = place.slot;
  is = λ reading read. place.is reading read ∙ ap (λ q. find key (chain_from (object_chain (read_heap reading heap)) q)) is;
}

pub beyond_none : {S T : Type 0} (made : S → T → Type 0) (meaning : S → T → Label) (store : S) (heap : List (Object T)) (key : List ℕ) (p : Primitive) (walk : T) → None ≡ prototype_of_primitive p → made store walk → meaning store walk ≡ bottom → IsFoundFor made meaning store (λ reading. find key (primitive_chain (read_heap reading heap) p)) None walk
beyond_none made meaning store heap key p walk is m means = record {
  belongs = m;
  slot = tt;
  is = λ reading read. ap (λ l. record { at = None; walk = l }) (read.agrees walk m ∙ means) ∙ ap (λ q. find key (chain_from (object_chain (read_heap reading heap)) q)) is;
}

pub slot_twice : {T X : Type 0} (place : Option (ObjId × X)) (now : X → Slot T) → option_map {U = Slot T} (λ f. now f.1) place ≡ option_map {U = Slot T} (λ f. f.1) (option_map {U = ObjId × Slot T} (λ f. (f.0, now f.1)) place)
slot_twice None now = refl
slot_twice (Some f) now = refl
