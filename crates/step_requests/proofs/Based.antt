-- Acts on what registers hold: on bases that must be able to have properties, definitions, new objects.
use Rattle.std.proofs.Common.{refl, sym, ap, subst, ◌∙◌, ◌≡◌, ℕ, Bool, true, false, List, [], ◌∷◌, map, Option, Some, None, Result, Ok, Err}
use Rattle.std.specs.Option.{is_some}
use Rattle.std.specs.Result.{IsErrAnd}
use Rattle.origin_labels.specs.Label.{Label, bottom}
use Rattle.origin_labels.specs.Stores.{IsKept}
use Rattle.flow_policy.specs.Policies.{Tables}
use Rattle.flow_policy.specs.Inputs.{Given}
use Rattle.flow_frames.specs.declared.faults.FlowFault.{FlowFault}
use Rattle.js_number.specs.declared.primitive.Primitive.{Primitive}
use Rattle.js_number.specs.declared.primitive.Primitive.TheVariants.{Str}
use Rattle.js_values.specs.declared.inner.Class.{Class}
use Rattle.js_values.specs.declared.value.Labelled.{Labelled}
use Rattle.js_values.specs.declared.value.Value.TheVariants as value
use Rattle.js_values.specs.Readings.{IsReading, read_value}
use Rattle.native_protocol.specs.declared.registers.Reg.{Reg}
use Rattle.es_meaning.specs.Operations as operations
use Rattle.es_meaning.specs.Outcomes.{Goes, ret}
use Rattle.flow_meaning.specs.Scopes.{L, Val}
use Rattle.flow_meaning.specs.Tracked.{act, defining}
use Rattle.property_requests.specs.declared.descriptor.Descriptor.{Descriptor}
use Rattle.property_requests.specs.Defining as definitions
use Rattle.property_requests.specs.Defining.{given_in}
use Rattle.property_requests.specs.Making.{arguments_of}
use Rattle.run_state.specs.declared.outcome.Defining.{Defining}
use Rattle.run_state.specs.declared.outcome.Outcome.{Outcome}
use Rattle.run_state.specs.declared.outcome.Outcome.TheVariants as outcome
use Rattle.run_state.specs.declared.outcome.Leaving.{Leaving}
use Rattle.run_state.specs.declared.world.World.{World}
use Rattle.run_state.specs.Accesses.{read_defining}
use Rattle.run_state.specs.Acts.{Acts}
use Rattle.run_state.specs.Worlds.{state_of}
use Rattle.run_state.proofs.ActLaws.{Acts-leaves, Acts-passes, Acts-then, Acts-throws}
use Rattle.continuations.specs.Answering.{Reads, held_in}
use Rattle.step_requests.specs.Asked.{defining_of, held_if, key_value, made_by, shape_of, with_base}
use Rattle.step_requests.specs.declared.asked.GivenParts.{GivenParts}
use Rattle.step_requests.specs.Doing.{Holds, ReadsIf}
use Rattle.step_requests.proofs.Held.{acts_if, acts_one}

-- what is there at once
pub at_once : {S T : Type 0} (made : S → T → Type 0) (meaning : S → T → Label) (store : S) (u : (T → Label) → Val) (v : Labelled T) (w : World T) → ((reading : T → Label) → IsReading made meaning store reading → read_value reading v ≡ u reading)
    → Acts made meaning store (λ reading. read_value reading) (λ reading. ret (u reading)) w w (Ok (outcome.Goes v))
at_once made meaning store u v w is = record { says = λ reading read told turns. ap (λ x. Goes x (state_of reading w told turns)) (sym (is reading read)) }

-- a primitive value that depends on nothing
pub unlabelled_holds : {S T : Type 0} (made : S → T → Type 0) (meaning : S → T → Label) (store : S) (p : Primitive) (none : T) → made store none → meaning store none ≡ bottom
    → (reading : T → Label) → IsReading made meaning store reading → read_value reading (record { value = value.Primitive p; label = none }) ≡ record { value = value.Primitive p; label = bottom }
unlabelled_holds made meaning store p none m empty reading read = ap (λ l. record { value = value.Primitive p; label = l }) (read.agrees none m ∙ empty)

pub key_holds : {S T : Type 0} (made : S → T → Type 0) (meaning : S → T → Label) (store : S) (key text : List ℕ) (none : T) → text ≡ key → made store none → meaning store none ≡ bottom
    → Holds made meaning store (key_value key) (record { value = value.Primitive (Str text); label = none })
key_holds made meaning store key text none same m empty = record { has = m; is = λ reading read. unlabelled_holds made meaning store (Str text) none m empty reading read ∙ ap key_value same }

-- ---- bases

module _ {S T : Type 0} (made : S → T → Type 0) (meaning : S → T → Label) (room : S → ℕ) (firm : S → Bool) (tables : Tables) (inputs : Given) (registers : List (Labelled T)) (base : Reg) (v : Labelled T) (first second : S) (kept : IsKept made meaning room firm first second) (reads : Reads made meaning first base registers v) (old middle : World T) where
  abbrev Needs : Result (Outcome (Labelled T) T) (FlowFault T) → Type 0
  Needs reply = Acts made meaning second (λ reading. read_value reading) (λ reading. act tables inputs operations.base_needed (read_value reading v ∷ [])) old middle reply

  needs_held : (reply : Result (Outcome (Labelled T) T) (FlowFault T)) → Needs reply → Acts made meaning second (λ reading. read_value reading) (λ reading. act tables inputs operations.base_needed (held_in base (map (read_value reading) registers) ∷ [])) old middle reply
  needs_held reply acts = acts_one made meaning room firm first second kept (λ reading. read_value reading) registers old middle reply (λ reading u. act tables inputs operations.base_needed (u ∷ [])) base v reads acts

  abbrev held_base : (T → Label) → Val
  held_base reading = held_in base (map (read_value reading) registers)

  pub based : {Z W : Type 0} (read_next : (T → Label) → Z → W) (next : (T → Label) → Val → L W) (third : S) → IsKept made meaning room firm second third → (new : World T) (holder : Labelled T) (result : Result (Outcome Z T) (FlowFault T))
      → Needs (Ok (outcome.Goes holder)) → Acts made meaning third read_next (λ reading. next reading (read_value reading holder)) middle new result
      → Acts made meaning third read_next (λ reading. with_base tables inputs (held_base reading) (next reading)) old new result
  based read_next next third kept_third new holder result acts goes =
      Acts-then made meaning room firm second third kept_third (λ reading. read_value reading) read_next (λ reading. act tables inputs operations.base_needed (held_base reading ∷ [])) next old middle new holder result (needs_held (Ok (outcome.Goes holder)) acts) goes

  module _ {Z W : Type 0} (read_next : (T → Label) → Z → W) (next : (T → Label) → Val → L W) where
    pub based_throws : (error : Labelled T) → Needs (Ok (outcome.Throws error)) → Acts made meaning second read_next (λ reading. with_base tables inputs (held_base reading) (next reading)) old middle (Ok (outcome.Throws error))
    based_throws error acts = Acts-throws made meaning second (λ reading. read_value reading) read_next (λ reading. act tables inputs operations.base_needed (held_base reading ∷ [])) next old middle error (needs_held (Ok (outcome.Throws error)) acts)

    pub based_leaves : (why : Leaving) → Needs (Ok (outcome.Leaves why)) → Acts made meaning second read_next (λ reading. with_base tables inputs (held_base reading) (next reading)) old middle (Ok (outcome.Leaves why))
    based_leaves why acts = Acts-leaves made meaning second (λ reading. read_value reading) read_next (λ reading. act tables inputs operations.base_needed (held_base reading ∷ [])) next old middle why (needs_held (Ok (outcome.Leaves why)) acts)

    pub based_passes : (f : FlowFault T) (result : Result (Outcome Z T) (FlowFault T)) → IsErrAnd result (λ e. e ≡ f) → Needs (Err f) → Acts made meaning second read_next (λ reading. with_base tables inputs (held_base reading) (next reading)) old middle result
    based_passes f result is acts = Acts-passes made meaning second (λ reading. read_value reading) read_next (λ reading. act tables inputs operations.base_needed (held_base reading ∷ [])) next old middle f result is (needs_held (Err f) acts)

-- ---- definitions and new objects

module _ {S T : Type 0} (made : S → T → Type 0) (meaning : S → T → Label) (room : S → ℕ) (firm : S → Bool) (earlier later : S) (kept : IsKept made meaning room firm earlier later) (registers : List (Labelled T)) (old new : World T) (reply : Result (Outcome (Defining T) T) (FlowFault T)) where
  pub acts_define : (base : Reg) (b : Labelled T) (key : List ℕ) (given : GivenParts) (d : Descriptor T) → d.marks ≡ given.marks
      → Reads made meaning earlier base registers b → ReadsIf made meaning earlier given.value registers d.value → ReadsIf made meaning earlier given.get registers d.get → ReadsIf made meaning earlier given.set registers d.set
      → Acts made meaning later (λ reading. read_defining reading) (λ reading. defining key d.marks (definitions.shape_of d) (read_value reading b) (given_in reading d.value) (given_in reading d.get) (given_in reading d.set)) old new reply
      → Acts made meaning later (λ reading. read_defining reading) (λ reading. defining_of base key given (map (read_value reading) registers)) old new reply
  acts_define base b key given d same rb rv rg rs acts =
      let v = given.value in
      let g = given.get in
      let s = given.set in
      let by = λ (reading : T → Label). map (read_value reading) registers in
      let read = λ (reading : T → Label). read_defining reading in
      subst (λ m. Acts made meaning later read (λ reading. defining key m (shape_of v g s) (held_in base (by reading)) (held_if (by reading) v) (held_if (by reading) g) (held_if (by reading) s)) old new reply) same
      (subst (λ z. Acts made meaning later read (λ reading. defining key d.marks (record { has_value = is_some v; has_getter = is_some g; has_setter = z }) (held_in base (by reading)) (held_if (by reading) v) (held_if (by reading) g) (held_if (by reading) s)) old new reply) rs.given
      (subst (λ y. Acts made meaning later read (λ reading. defining key d.marks (record { has_value = is_some v; has_getter = y; has_setter = is_some d.set }) (held_in base (by reading)) (held_if (by reading) v) (held_if (by reading) g) (held_if (by reading) s)) old new reply) rg.given
      (subst (λ x. Acts made meaning later read (λ reading. defining key d.marks (record { has_value = x; has_getter = is_some d.get; has_setter = is_some d.set }) (held_in base (by reading)) (held_if (by reading) v) (held_if (by reading) g) (held_if (by reading) s)) old new reply) rv.given
      (acts_if made meaning room firm earlier later kept read registers old new reply (λ reading u. defining key d.marks (definitions.shape_of d) (held_in base (by reading)) (held_if (by reading) v) (held_if (by reading) g) u) s d.set rs
      (acts_if made meaning room firm earlier later kept read registers old new reply (λ reading u. defining key d.marks (definitions.shape_of d) (held_in base (by reading)) (held_if (by reading) v) u (given_in reading d.set)) g d.get rg
      (acts_if made meaning room firm earlier later kept read registers old new reply (λ reading u. defining key d.marks (definitions.shape_of d) (held_in base (by reading)) u (given_in reading d.get) (given_in reading d.set)) v d.value rv
      (acts_one made meaning room firm earlier later kept read registers old new reply (λ reading u. defining key d.marks (definitions.shape_of d) u (given_in reading d.value) (given_in reading d.get) (given_in reading d.set)) base b rb acts)))))))

module _ {S T : Type 0} (made : S → T → Type 0) (meaning : S → T → Label) (room : S → ℕ) (firm : S → Bool) (earlier later : S) (kept : IsKept made meaning room firm earlier later) (tables : Tables) (inputs : Given) (registers : List (Labelled T)) (old new : World T) (reply : Result (Outcome (Labelled T) T) (FlowFault T)) where
  pub acts_new : (class : Class) (from : Option Reg) (proto : Option (Labelled T)) → ReadsIf made meaning earlier from registers proto
      → Acts made meaning later (λ reading. read_value reading) (λ reading. act tables inputs (operations.new_object class (is_some proto)) (arguments_of reading proto)) old new reply
      → Acts made meaning later (λ reading. read_value reading) (λ reading. made_by tables inputs from class (map (read_value reading) registers)) old new reply
  acts_new class None None reads acts = acts
  acts_new class (Some r) (Some v) reads acts = acts_if made meaning room firm earlier later kept (λ reading. read_value reading) registers old new reply (λ reading u. act tables inputs (operations.new_object class true) (u ∷ [])) (Some r) (Some v) reads acts
  acts_new class None (Some v) reads acts = absurd (let never : true ≡ false = reads.given in cc)
  acts_new class (Some r) None reads acts = absurd (let never : false ≡ true = reads.given in cc)

module _ {S T : Type 0} (made : S → T → Type 0) (meaning : S → T → Label) (store : S) (registers : List (Labelled T)) where
  pub reads_none : ReadsIf made meaning store None registers None
  reads_none = record { given = refl; has = tt; is = λ reading is. refl }

  pub reads_some : (r : Reg) (v : Labelled T) → Reads made meaning store r registers v → made store v.label → ReadsIf made meaning store (Some r) registers (Some v)
  reads_some r v reads m = record { given = refl; has = m; is = λ reading is. reads reading is }
