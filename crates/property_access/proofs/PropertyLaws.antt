-- Properties as they are read, in a reading of the labels.
use Rattle.std.proofs.Common.{◌≡◌, ℕ, List, Option, Some, None, Result, Ok, Err, IfOk, refl, sym, ap, ap₂, subst, ◌∙◌}
use Rattle.origin_labels.specs.Label.{Label, bottom, union}
use Rattle.flow_frames.specs.declared.faults.FlowFault.{FlowFault}
use Rattle.js_values.specs.declared.ids.ObjId.{ObjId}
use Rattle.js_values.specs.declared.property.Body.{Body}
use Rattle.js_values.specs.declared.property.Body.TheVariants.{Data, Accessor}
use Rattle.js_values.specs.declared.property.Slot.{Slot}
use Rattle.js_values.specs.declared.value.Labelled.{Labelled}
use Rattle.js_values.specs.declared.value.Value.{Value}
use Rattle.js_values.specs.declared.value.Value.TheVariants as value
use Rattle.js_values.specs.Objects.{Object}
use Rattle.js_values.specs.Readings.{IsReading, read_heap, read_value}
use Rattle.js_values.specs.Walks.{Found, find, object_chain}
use Rattle.prototype_walk.specs.Answers.{Means, IsPlace, IsFoundFor}
use Rattle.native_protocol.specs.declared.request.ErrorKind.TheVariants as kinds
use Rattle.es_meaning.specs.Outcomes.{Goes}
use Rattle.es_meaning.specs.Plain.{on_global}
use Rattle.es_meaning.specs.Start.{global_object}
use Rattle.flow_meaning.specs.Scopes.{Val}
use Rattle.flow_meaning.specs.Tracked as tracked
use Rattle.flow_meaning.specs.Tracked.{has_value, getter_or_none, held, found_by, found_globally, named, called_value, throw_error}
use Rattle.run_state.specs.declared.outcome.Access.{Access}
use Rattle.run_state.specs.declared.outcome.Access.TheVariants as access
use Rattle.run_state.specs.declared.outcome.Outcome.{Outcome}
use Rattle.run_state.specs.declared.outcome.Outcome.TheVariants as outcome
use Rattle.run_state.specs.declared.world.World.{World}
use Rattle.run_state.specs.Accesses.{HasAccess, IsAccess, read_access}
use Rattle.run_state.specs.Acts.{Acts}
use Rattle.run_state.specs.Worlds.{state_of}
use Rattle.run_state.proofs.ActLaws.{Acts-as}
use Rattle.property_access.specs.Accessors.{getter_of, object_with, undefined_with}

module _ {S T : Type 0} (made : S → T → Type 0) (meaning : S → T → Label) (store : S) where
  -- ---- what a property holds

  module _ (label of_slot : T) (this : Labelled T) (body : Body) (whole : T) (means : Means made meaning store whole (λ reading. union (reading label) (reading of_slot))) where
    abbrev holds : Access T → Type 0
    holds a = IsAccess made meaning store (λ reading. held (union (reading label) (reading of_slot)) (read_value reading this) body) a

    pub held_value : (v copied : Value) → body ≡ Data v → copied ≡ v → holds (access.Value (record { value = copied; label = whole }))
    held_value v copied is same = record {
      belongs = means.belongs;
      is = λ reading read.
          ap₂ (λ (x : Value) (l : Label). has_value (record { value = x; label = l })) same (means.is reading read)
          ∙ sym (ap (held (union (reading label) (reading of_slot)) (read_value reading this)) is);
    }

    getter_has : (get : Option ObjId) → made store this.label → HasAccess (made store) (getter_of whole get this)
    getter_has None has = means.belongs
    getter_has (Some f) has = (means.belongs, has)

    getter_read : (get : Option ObjId) (reading : T → Label) → read_access reading (getter_of whole get this) ≡ getter_or_none (reading whole) get (read_value reading this)
    getter_read None reading = refl
    getter_read (Some f) reading = refl

    pub held_getter : (get set : Option ObjId) (a : Access T) → body ≡ Accessor get set → a ≡ getter_of whole get this → made store this.label → holds a
    held_getter get set a is gives has = subst holds (sym gives) (record {
      belongs = getter_has get has;
      is = λ reading read.
          getter_read get reading
          ∙ ap (λ l. getter_or_none l get (read_value reading this)) (means.is reading read)
          ∙ sym (ap (held (union (reading label) (reading of_slot)) (read_value reading this)) is);
    })

  -- ---- a property of an object, where finding it depends on the label of base and key and on the walk

  module _ (heap : List (Object T)) (o : ObjId) (key : List ℕ) (of_this label walk whole : T) (means : Means made meaning store whole (λ reading. union (reading label) (reading walk))) where
    abbrev gets : Access T → Type 0
    gets a = IsAccess made meaning store (λ reading. found_by (reading label) (called_value (reading of_this) o.0) (find key (object_chain (read_heap reading heap) o.0))) a

    got : (f : ObjId × Slot T) (this : Labelled T) (a : Access T) → this ≡ object_with o of_this → IsPlace made meaning store heap o.0 key (Some f) walk
        → IsAccess made meaning store (λ reading. held (union (reading whole) (reading f.1.label)) (read_value reading this) f.1.body) a → gets a
    got f this a is place holds = record {
      belongs = holds.belongs;
      is = λ reading read.
          holds.is reading read
          ∙ ap₂ (λ (l : Label) (b : Labelled T). held (union l (reading f.1.label)) (read_value reading b) f.1.body) (means.is reading read) is
          ∙ ap (λ (x : Found). found_by (reading label) (called_value (reading of_this) o.0) x) (place.is reading read);
    }

    pub got_if : {E : Type 0} (f : ObjId × Slot T) (this : Labelled T) (result : Result (Access T) E) → this ≡ object_with o of_this → IsPlace made meaning store heap o.0 key (Some f) walk
        → IfOk result (IsAccess made meaning store (λ reading. held (union (reading whole) (reading f.1.label)) (read_value reading this) f.1.body)) → IfOk result gets
    got_if f this (Ok a) is place holds = got f this a is place holds
    got_if f this (Err e) is place holds = tt

    pub got_nothing : (v : Labelled T) → v ≡ undefined_with whole → IsPlace made meaning store heap o.0 key None walk → gets (access.Value v)
    got_nothing v gives place = subst (λ (u : Labelled T). gets (access.Value u)) (sym gives) (record {
      belongs = means.belongs;
      is = λ reading read.
          ap (λ (l : Label). has_value (record { value = (undefined_with whole).value; label = l })) (means.is reading read)
          ∙ ap (λ (x : Found). found_by (reading label) (called_value (reading of_this) o.0) x) (place.is reading read);
    })

  -- ---- a property that is found along a chain, with any base

  module _ (finds : (T → Label) → Found) (base : (T → Label) → Val) (label walk whole : T) (means : Means made meaning store whole (λ reading. union (reading label) (reading walk))) where
    abbrev reads : Access T → Type 0
    reads a = IsAccess made meaning store (λ reading. found_by (reading label) (base reading) (finds reading)) a

    found_reads : (f : ObjId × Slot T) (this : Labelled T) (a : Access T) → ((reading : T → Label) → read_value reading this ≡ base reading) → IsFoundFor made meaning store finds (Some f) walk
        → IsAccess made meaning store (λ reading. held (union (reading whole) (reading f.1.label)) (read_value reading this) f.1.body) a → reads a
    found_reads f this a is place holds = record {
      belongs = holds.belongs;
      is = λ reading read.
          holds.is reading read
          ∙ ap₂ (λ (l : Label) (b : Val). held (union l (reading f.1.label)) b f.1.body) (means.is reading read) (is reading)
          ∙ ap (λ (x : Found). found_by (reading label) (base reading) x) (place.is reading read);
    }

    pub found_if : {E : Type 0} (f : ObjId × Slot T) (this : Labelled T) (result : Result (Access T) E) → ((reading : T → Label) → read_value reading this ≡ base reading) → IsFoundFor made meaning store finds (Some f) walk
        → IfOk result (IsAccess made meaning store (λ reading. held (union (reading whole) (reading f.1.label)) (read_value reading this) f.1.body)) → IfOk result reads
    found_if f this (Ok a) is place holds = found_reads f this a is place holds
    found_if f this (Err e) is place holds = tt

    pub found_nothing : (v : Labelled T) → v ≡ undefined_with whole → IsFoundFor made meaning store finds None walk → reads (access.Value v)
    found_nothing v gives place = subst (λ (u : Labelled T). reads (access.Value u)) (sym gives) (record {
      belongs = means.belongs;
      is = λ reading read.
          ap (λ (l : Label). has_value (record { value = (undefined_with whole).value; label = l })) (means.is reading read)
          ∙ ap (λ (x : Found). found_by (reading label) (base reading) x) (place.is reading read);
    })

  -- ---- a name of the global object

  module _ (w : World T) (name : List ℕ) (label walk whole : T) (means : Means made meaning store whole (λ reading. union (reading label) (reading walk))) where
    pub got_globally : (f : ObjId × Slot T) (none : T) (this : Labelled T) (a : Access T) → this ≡ object_with global_object none → ((reading : T → Label) → IsReading made meaning store reading → reading none ≡ bottom)
        → IsPlace made meaning store w.heap global_object.0 name (Some f) walk
        → IsAccess made meaning store (λ reading. held (union (reading whole) (reading f.1.label)) (read_value reading this) f.1.body) a
        → Acts made meaning store (λ reading. read_access reading) (λ reading. named on_global (reading label) name) w w (Ok (outcome.Goes a))
    unfolding named found_globally
    got_globally f none this a is empty place holds = record {
      says = λ reading read told turns.
          let s = state_of reading w told turns in
          ap (λ (x : Found). found_globally (union (reading label) x.walk) x.at s) (sym (place.is reading read))
          ∙ ap₂ (λ (l of_this : Label). Goes (held (union l (reading f.1.label)) (called_value of_this global_object.0) f.1.body) s) (sym (means.is reading read)) (sym (empty reading read))
          ∙ ap (λ (b : Labelled T). Goes (held (union (reading whole) (reading f.1.label)) (read_value reading b) f.1.body) s) (sym is)
          ∙ ap (λ (x : tracked.Access). Goes x s) (sym (holds.is reading read));
    }

    pub gone_globally : (after : World T) (result : Result (Outcome (Access T) T) (FlowFault T)) → IsPlace made meaning store w.heap global_object.0 name None walk
        → Acts made meaning store (λ reading. read_access reading) (λ reading. throw_error {X = tracked.Access} kinds.ReferenceError (reading whole)) w after result
        → Acts made meaning store (λ reading. read_access reading) (λ reading. named on_global (reading label) name) w after result
    unfolding named found_globally
    gone_globally after result place acts =
        Acts-as made meaning store (λ reading. read_access reading) (λ reading. throw_error {X = tracked.Access} kinds.ReferenceError (reading whole)) (λ reading. named on_global (reading label) name) w after result
        (λ reading read told turns.
        let s = state_of reading w told turns in
        ap (λ (x : Found). found_globally (union (reading label) x.walk) x.at s) (sym (place.is reading read))
        ∙ ap (λ l. throw_error kinds.ReferenceError l s) (sym (means.is reading read)))
        acts
