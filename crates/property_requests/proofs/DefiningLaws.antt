-- Definitions of properties, in a reading of the labels.
use Rattle.std.specs.Prelude.{IfOk, IfSome}
use Rattle.std.proofs.Common.{arith, ◌≡◌, ◌≤◌, ◌<◌, ℕ, zero, suc, Bool, true, false, ◌&&◌, ◌||◌, if◌then◌else◌, [], ◌∷◌, List, length, map, Option, Some, None, IsSome, is_some, Ok, Result, refl, sym, ap, ap₂, subst, ◌∙◌}
use Rattle.std.specs.List.{slice_get}
use Rattle.std.specs.Option.{option_map}
use Rattle.std.proofs.lemmas.Option.{none-some, slice_get-map, slice_get_past}
use Rattle.origin_labels.specs.Label.{Label, union}
use Rattle.flow_frames.specs.declared.faults.FlowFault.{FlowFault}
use Rattle.flow_frames.specs.Frames.{context}
use Rattle.flow_frames.specs.Held.{seen_frame}
use Rattle.js_values.specs.declared.ids.ObjId.{ObjId}
use Rattle.js_values.specs.declared.property.Slot.{Slot}
use Rattle.js_values.specs.declared.property.Body.{Body}
use Rattle.js_values.specs.declared.property.Marks.{Marks}
use Rattle.js_values.specs.declared.value.Labelled.{Labelled}
use Rattle.js_values.specs.declared.value.Value.{Value}
use Rattle.js_values.specs.Arrays.{element_of, is_length, length_key}
use Rattle.js_values.specs.Objects.{Object, PlainObject, own}
use Rattle.js_values.specs.Readings.{IsReading, read_object, read_slot}
use Rattle.native_protocol.specs.declared.request.ErrorKind.TheVariants as kinds
use Rattle.native_protocol.specs.declared.request.GivenMarks.{GivenMarks}
use Rattle.object_heap.specs.Acts as heap_acts
use Rattle.object_heap.specs.Formed.{own_in}
use Rattle.object_heap.proofs.ReadLaws.{read_own}
use Rattle.prototype_walk.specs.Answers.{Means}
use Rattle.prototype_walk.specs.Plans.{gets_element, may_add}
use Rattle.es_meaning.specs.Definitions as definitions
use Rattle.es_meaning.specs.Operations.{Shape}
use Rattle.es_meaning.specs.Outcomes.{Goes, Jumps, Ends, Outcome, and_then, ret, ◌>>=◌}
use Rattle.es_meaning.specs.Requested.{accessors_of, behind_definition, data_given, defined_if, given_body, given_function}
use Rattle.flow_meaning.specs.Erased.{erased_heap, erased_slot}
use Rattle.flow_meaning.specs.Requested.{definition_test, property_in, value_label, body_label}
use Rattle.flow_meaning.specs.Scopes.{Halt, Jump, State, L}
use Rattle.flow_meaning.specs.Tracked as tracked
use Rattle.flow_meaning.specs.Tracked.{acted, define_by, define_given, define_in, define_over, has_length_given, is_defined, redefine, set_body_if, set_marks, throw_error}
use Rattle.run_state.specs.declared.outcome.Outcome as machine
use Rattle.run_state.specs.declared.outcome.Defining.{Defining}
use Rattle.run_state.specs.Accesses.{read_defining}
use Rattle.run_state.specs.declared.world.World.{World}
use Rattle.run_state.specs.Acts.{Acts}
use Rattle.run_state.specs.Worlds.{state_of}
use Rattle.run_state.proofs.ActLaws.{Acts-as}
use Rattle.property_requests.specs.declared.definition.Definition.{Definition}
use Rattle.property_requests.specs.declared.definition.GivenBody.{GivenBody}
use Rattle.property_requests.specs.declared.definition.GivenBody.TheVariants as bodies
use Rattle.property_requests.specs.declared.defining.Change.{Change}
use Rattle.property_requests.specs.declared.defining.NewBody.{NewBody}
use Rattle.property_requests.specs.declared.descriptor.Descriptor.{Descriptor}
use Rattle.property_requests.specs.Defining.{body_of, body_set, changed_by, definition_of, given_at, given_in, gives_length, is_valued, may_add_in, may_hold, shape_of, test_of_definition, value_of, IsChange, IsNewBody}
use Rattle.property_requests.proofs.ErasedLaws.{heap_erased}

given_value : {T : Type 0} (reading : T → Label) (v : Option (Labelled T)) → (given_in reading v).value ≡ value_of v
given_value reading None = refl
given_value reading (Some v) = refl

-- ---- a value is given

abbrev is_value : definitions.GivenBody → Bool
is_value (definitions.a_value v) = true
is_value _ = false

value_given : (accessor has wrote : Bool) (v : Value) (x : Option definitions.GivenBody) → IfSome x (λ y. is_value y ≡ false) → IfSome (if accessor then (if has || wrote then None else x) else Some (data_given has v)) (λ y. is_value y ≡ has)
value_given true true wrote v x other = tt
value_given true false true v x other = tt
value_given true false false v x other = other
value_given false true wrote v x other = refl
value_given false false wrote v x other = refl

halves_give : (get set : Option (Option (Option ObjId))) → IfSome (accessors_of get set) (λ y. is_value y ≡ false)
halves_give (Some get) (Some set) = refl
halves_give (Some get) None = tt
halves_give None set = tt

-- so a body that is given is a value where the descriptor says so
given_valued : (heap : List PlainObject) (marks : GivenMarks) (shape : Shape) (v g f : Value) → IfSome (given_body heap marks shape v g f) (λ y. is_value y ≡ shape.has_value)
given_valued heap marks shape v g f =
    value_given (shape.has_getter || shape.has_setter) shape.has_value (is_some marks.writable) v (accessors_of (given_function heap shape.has_getter g) (given_function heap shape.has_setter f)) (halves_give (given_function heap shape.has_getter g) (given_function heap shape.has_setter f))

body_valued : (b : GivenBody) → is_valued (Some b) ≡ is_value (body_of b)
body_valued (bodies.Value v) = refl
body_valued bodies.Nothing = refl
body_valued (bodies.Accessors get set) = refl

and_true : (x : Bool) → (x && true) ≡ x
and_true true = refl
and_true false = refl

and_false : (x : Bool) → (x && false) ≡ false
and_false true = refl
and_false false = refl

length_given : {T : Type 0} (key : List ℕ) (p : Object T) (b : GivenBody) → (is_length p.class key && is_valued (Some b)) ≡ gives_length key b (Some p)
length_given key p (bodies.Value v) = and_true (is_length p.class key)
length_given key p bodies.Nothing = and_false (is_length p.class key)
length_given key p (bodies.Accessors get set) = and_false (is_length p.class key)

-- what was given decides whether it is a `length`
module _ (p : Object Label) (marks : GivenMarks) (has : Bool) (place given : Label) (o : ℕ) (key : List ℕ) (s : State) where
  by_body : (body : Option GivenBody) → IfSome (option_map body_of body) (λ y. is_value y ≡ has) → define_given has p marks (option_map body_of body) place given o key s ≡ define_given (is_valued body) p marks (option_map body_of body) place given o key s
  unfolding define_given
  by_body None valued = refl
  by_body (Some b) valued = ap (λ (x : Bool). define_given x p marks (Some (body_of b)) place given o key s) (sym valued ∙ sym (body_valued b))

not_past : {X : Type 0} (xs : List X) (i : ℕ) → i < length xs → slice_get xs i ≡ None → ⊥
not_past [] i less e = omega (arith, less)
not_past (x ∷ xs) zero less e = none-some x (sym e)
not_past (x ∷ xs) (suc i) less e = not_past xs i (omega (arith, less)) e

pub found_there : {T : Type 0} (heap : List (Object T)) (o : ℕ) → o < length heap → (P : Type 0) → ((p : Object T) → slice_get heap o ≡ Some p → P) → P
found_there heap o here P next = by (slice_get heap o) refl
  where
    by : (q : Option (Object _)) → slice_get heap o ≡ q → P
    by None e = absurd (not_past heap o here e)
    by (Some p) e = next p e

-- ---- a definition on an object

module _ {S T : Type 0} (made : S → T → Type 0) (meaning : S → T → Label) (store : S) (w : World T) (o : ObjId) (key : List ℕ) (label : T) (d : Descriptor T) where
  abbrev defining : (T → Label) → Option (Object Label) → L tracked.Defining
  defining reading p s = define_in p (reading label) o.0 key d.marks (shape_of d) (given_in reading d.value) (given_in reading d.get) (given_in reading d.set) s

  abbrev Defines : World T → Result (machine.Outcome (Defining T) T) (FlowFault T) → Type 0
  Defines after result = Acts made meaning store (λ reading. read_defining reading) (λ reading s. defining reading (slice_get s.heap o.0) s) w after result

  pub defines_nowhere : (after : World T) (result : Result (machine.Outcome (Defining T) T) (FlowFault T)) → length w.heap ≤ o.0 → Acts made meaning store (λ reading. read_defining reading) (λ reading. throw_error {X = tracked.Defining} kinds.TypeError (reading label)) w after result → Defines after result
  unfolding define_in
  defines_nowhere after result past acts =
      Acts-as made meaning store (λ reading. read_defining reading) (λ reading. throw_error {X = tracked.Defining} kinds.TypeError (reading label)) (λ reading s. defining reading (slice_get s.heap o.0) s) w after result
      (λ reading agrees told turns. ap (λ p. defining reading p (state_of reading w told turns)) (slice_get-map (read_object reading) w.heap o.0 ∙ ap (option_map (read_object reading)) (slice_get_past w.heap o.0 past)))
      acts

  module _ (place given : T) (body : Option GivenBody) (after : World T) (result : Result (machine.Outcome (Defining T) T) (FlowFault T)) where
    abbrev giving_at : (T → Label) → L tracked.Defining
    giving_at reading s = given_at (slice_get s.heap o.0) body d.marks (reading place) (reading given) o.0 key s

    pub defines_there : o.0 < length w.heap → Means made meaning store place (λ reading. union (reading label) (test_of_definition reading key (slice_get w.heap o.0)))
        → Means made meaning store given (λ reading. union (given_in reading d.value).label (union (given_in reading d.get).label (given_in reading d.set).label))
        → option_map body_of body ≡ given_body (erased_heap w.heap) d.marks (shape_of d) (value_of d.value) (value_of d.get) (value_of d.set)
        → Acts made meaning store (λ reading. read_defining reading) giving_at w after result → Defines after result
    unfolding define_in
    defines_there here placed labelled is acts = found_there w.heap o.0 here (Defines after result) (λ p there.
        Acts-as made meaning store (λ reading. read_defining reading) giving_at (λ reading s. defining reading (slice_get s.heap o.0) s) w after result
        (λ reading agrees told turns.
        let s = state_of reading w told turns in
        let q = read_object reading p in
        let v = given_in reading d.value in
        let g = given_in reading d.get in
        let f = given_in reading d.set in
        let found : slice_get s.heap o.0 ≡ Some q = slice_get-map (read_object reading) w.heap o.0 ∙ ap (option_map (read_object reading)) there in
        let has = (shape_of d).has_value in
        ap (λ x. defining reading x s) found
        ∙ ap₂ (λ (body_given : Option definitions.GivenBody) (l : Label). define_given has q d.marks body_given (union (reading label) (definition_test key (own key q.rows) q)) l o.0 key s)
        (ap (λ heap. given_body heap d.marks (shape_of d) v.value g.value f.value) (heap_erased reading w.heap) ∙ given_same reading ∙ sym is) (sym (labelled.is reading agrees))
        ∙ by_body q d.marks has (union (reading label) (definition_test key (own key q.rows) q)) (reading given) o.0 key s body (subst (λ (x : Option definitions.GivenBody). IfSome x (λ y. is_value y ≡ has)) (sym is) (given_valued (erased_heap w.heap) d.marks (shape_of d) (value_of d.value) (value_of d.get) (value_of d.set)))
        ∙ ap (λ (l : Label). define_given (is_valued body) q d.marks (option_map body_of body) l (reading given) o.0 key s)
        (ap (λ x. union (reading label) (test_of_definition reading key x)) (sym there) ∙ sym (placed.is reading agrees))
        ∙ ap (λ x. given_at x body d.marks (reading place) (reading given) o.0 key s) (sym found))
        acts)
      where
        given_same : (reading : T → Label) → given_body (erased_heap w.heap) d.marks (shape_of d) (given_in reading d.value).value (given_in reading d.get).value (given_in reading d.set).value ≡ given_body (erased_heap w.heap) d.marks (shape_of d) (value_of d.value) (value_of d.get) (value_of d.set)
        given_same reading =
            ap (λ x. given_body (erased_heap w.heap) d.marks (shape_of d) x (given_in reading d.get).value (given_in reading d.set).value) (given_value reading d.value)
            ∙ ap₂ (λ x y. given_body (erased_heap w.heap) d.marks (shape_of d) (value_of d.value) x y) (given_value reading d.get) (given_value reading d.set)

pub allowed_there : {A E : Type 0} (r : Result (A × Bool) E) (a : A) (b : Bool) → r ≡ Ok (a, b) → (c : Bool) → IfOk r (λ x. x.1 ≡ c) → b ≡ c
allowed_there r a b is c has = subst (λ (x : Result _ _). IfOk x (λ y. y.1 ≡ c)) is has

-- ---- a refusal

pub refused_as : {S T X Y : Type 0} (made : S → T → Type 0) (meaning : S → T → Label) (store : S) (w after : World T) (result : Result (machine.Outcome X T) (FlowFault T)) (read : (T → Label) → X → Y) (cause : T) (means : (T → Label) → Label) → Means made meaning store cause means
    → Acts made meaning store read (λ reading. throw_error {X = Y} kinds.TypeError (reading cause)) w after result → Acts made meaning store read (λ reading. throw_error {X = Y} kinds.TypeError (means reading)) w after result
refused_as {Y = Y} made meaning store w after result read cause means is acts =
    Acts-as made meaning store read (λ reading. throw_error {X = Y} kinds.TypeError (reading cause)) (λ reading. throw_error {X = Y} kinds.TypeError (means reading)) w after result
    (λ reading agrees told turns. ap (λ l. throw_error kinds.TypeError l (state_of reading w told turns)) (sym (is.is reading agrees)))
    acts

-- ---- what is given

module _ {S T : Type 0} (made : S → T → Type 0) (meaning : S → T → Label) (store : S) (w after : World T) (result : Result (machine.Outcome (Defining T) T) (FlowFault T)) (o : ℕ) (key : List ℕ) (place given : T) where
  abbrev Does : ((T → Label) → L tracked.Defining) → Type 0
  Does act = Acts made meaning store (λ reading. read_defining reading) act w after result

  same_does : (act other : (T → Label) → L tracked.Defining) → ((reading : T → Label) (s : State) → other reading s ≡ act reading s) → Does act → Does other
  same_does act other same acts = Acts-as made meaning store (λ reading. read_defining reading) act other w after result (λ reading agrees told turns. same reading (state_of reading w told turns)) acts

  abbrev refused : Option (Slot T) → (T → Label) → L tracked.Defining
  refused old reading = throw_error {X = tracked.Defining} kinds.TypeError (union (union (reading place) (reading given)) (value_label (option_map (read_slot reading) old)))

  module _ (marks : GivenMarks) (body : Option GivenBody) (here : o < length w.heap) where
    abbrev giving : (T → Label) → L tracked.Defining
    giving reading s = given_at (slice_get s.heap o) body marks (reading place) (reading given) o key s

    abbrev old : Option (Slot T)
    old = own_in key (slice_get w.heap o)

    -- at the object that is there
    at_object : (act : (T → Label) → L tracked.Defining) → ((p : Object T) → slice_get w.heap o ≡ Some p → (reading : T → Label) (s : State) → define_given (is_valued body) (read_object reading p) marks (option_map body_of body) (reading place) (reading given) o key s ≡ act reading s) → Does act → Does giving
    at_object act same acts = found_there w.heap o here (Does giving) (λ p there.
        Acts-as made meaning store (λ reading. read_defining reading) act giving w after result
        (λ reading agrees told turns.
        let s = state_of reading w told turns in
        ap (λ x. given_at x body marks (reading place) (reading given) o key s) (slice_get-map (read_object reading) w.heap o ∙ ap (option_map (read_object reading)) there) ∙ same p there reading s)
        acts)

    own_read : (p : Object T) → slice_get w.heap o ≡ Some p → (reading : T → Label) → own key (read_object reading p).rows ≡ option_map (read_slot reading) old
    own_read p there reading = read_own reading key p.rows ∙ ap (λ x. option_map (read_slot reading) (own_in key x)) (sym there)

    pub given_refused : body ≡ None → Does (refused old) → Does giving
    unfolding define_given
    given_refused none acts = at_object (refused old)
        (λ p there reading s.
        ap (λ b. define_given (is_valued b) (read_object reading p) marks (option_map body_of b) (reading place) (reading given) o key s) none
        ∙ ap (λ (x : Option (Slot Label)). throw_error kinds.TypeError (union (union (reading place) (reading given)) (value_label x)) s) (own_read p there reading))
        acts

    module _ (b : GivenBody) (is : body ≡ Some b) where
      abbrev d : Definition
      d = record { marks = marks; body = b }

      by_length : (p : Object T) → slice_get w.heap o ≡ Some p → (test : Bool) → gives_length key b (slice_get w.heap o) ≡ test → (reading : T → Label) (s : State)
          → define_given (is_valued body) (read_object reading p) marks (option_map body_of body) (reading place) (reading given) o key s ≡ define_by test (read_object reading p) marks (body_of b) (reading place) (reading given) o key s
      unfolding define_given
      by_length p there test gives reading s =
          ap (λ x. define_given (is_valued x) (read_object reading p) marks (option_map body_of x) (reading place) (reading given) o key s) is
          ∙ ap (λ (t : Bool). define_by t (read_object reading p) marks (body_of b) (reading place) (reading given) o key s) (length_given key p b ∙ ap (gives_length key b) (sym there) ∙ gives)

      abbrev length_is_given : (T → Label) → L tracked.Defining
      length_is_given reading s = Goes (has_length_given (reading place) o marks) s

      pub given_length : gives_length key b (slice_get w.heap o) ≡ true → Does length_is_given → Does giving
      unfolding define_by
      given_length gives acts = at_object length_is_given (λ p there reading s. by_length p there true gives reading s) acts

      pub given_present : gives_length key b (slice_get w.heap o) ≡ false → IsSome old
          → ((extensible : Bool) → Does (λ reading. define_over (option_map (read_slot reading) old) (definition_of d) (reading place) (reading given) o key (behind_definition extensible (property_in (option_map (read_slot reading) old)) (definition_of d)))) → Does giving
      unfolding define_by
      given_present gives some acts = found_there w.heap o here (Does giving) (λ p there.
          at_object (λ reading. define_over (option_map (read_slot reading) old) (definition_of d) (reading place) (reading given) o key (behind_definition (may_add key (read_object (meaning store) p)) (property_in (option_map (read_slot reading) old)) (definition_of d)))
          (λ q found reading s.
          by_length q found false gives reading s
          ∙ ap (λ (x : Option (Slot Label)). define_over x (definition_of d) (reading place) (reading given) o key (behind_definition (may_add key (read_object reading q)) (property_in x) (definition_of d)) s) (own_read q found reading)
          ∙ either_extensible old some reading s (may_add key (read_object reading q)) (may_add key (read_object (meaning store) p)))
          (acts (may_add key (read_object (meaning store) p))))
        where
          either_extensible : (x : Option (Slot T)) → IsSome x → (reading : T → Label) (s : State) (e f : Bool)
              → define_over (option_map (read_slot reading) x) (definition_of d) (reading place) (reading given) o key (behind_definition e (property_in (option_map (read_slot reading) x)) (definition_of d)) s
              ≡ define_over (option_map (read_slot reading) x) (definition_of d) (reading place) (reading given) o key (behind_definition f (property_in (option_map (read_slot reading) x)) (definition_of d)) s
          either_extensible None some reading s e f = cc
          either_extensible (Some x) some reading s e f = refl

      pub given_absent : gives_length key b (slice_get w.heap o) ≡ false → old ≡ None → (allowed : Bool) → allowed ≡ may_add_in key (slice_get w.heap o)
          → Does (λ reading. define_over None (definition_of d) (reading place) (reading given) o key (behind_definition allowed None (definition_of d))) → Does giving
      unfolding define_by
      given_absent gives none allowed may acts = at_object (λ reading. define_over None (definition_of d) (reading place) (reading given) o key (behind_definition allowed None (definition_of d)))
          (λ p there reading s.
          by_length p there false gives reading s
          ∙ ap₂ (λ (x : Option (Slot Label)) (e : Bool). define_over x (definition_of d) (reading place) (reading given) o key (behind_definition e (property_in x) (definition_of d)) s)
          (own_read p there reading ∙ ap (option_map (read_slot reading)) none) (add_read p reading ∙ ap (may_add_in key) (sym there) ∙ sym may))
          acts
        where
          hold_read : (e : Option ℕ) (x : Option (Slot T)) (reading : T → Label) → gets_element e (option_map (read_slot reading) x) ≡ may_hold e x
          hold_read None x reading = refl
          hold_read (Some i) None reading = refl
          hold_read (Some i) (Some x) reading = refl

          add_read : (p : Object T) (reading : T → Label) → may_add key (read_object reading p) ≡ may_add_in key (Some p)
          add_read p reading = ap (λ x. p.extensible && gets_element (element_of p.class key) x) (read_own reading length_key p.rows) ∙ ap (λ (x : Bool). p.extensible && x) (hold_read (element_of p.class key) (own length_key p.rows) reading)

  module _ (d : Definition) where
    abbrev absent : Bool → (T → Label) → L tracked.Defining
    absent extensible reading = define_over None (definition_of d) (reading place) (reading given) o key (behind_definition extensible None (definition_of d))

    -- an object that gets no further properties
    pub absent_refused : (old : Option (Slot T)) → old ≡ None → (extensible : Bool) → extensible ≡ false → Does (refused old) → Does (absent extensible)
    unfolding define_over
    absent_refused old none extensible test acts =
        same_does (refused old) (absent extensible)
        (λ reading s.
        ap (λ (b : Bool). define_over None (definition_of d) (reading place) (reading given) o key (behind_definition b None (definition_of d)) s) test
        ∙ ap (λ (x : Option (Slot T)). throw_error kinds.TypeError (union (union (reading place) (reading given)) (value_label (option_map (read_slot reading) x))) s) (sym none))
        acts

    abbrev new_defined : (T → Label) → L tracked.Defining
    new_defined reading = define_over None (definition_of d) (reading place) (reading given) o key (Some (definitions.defined_new (definition_of d)))

    pub absent_added : (extensible : Bool) → extensible ≡ true → Does new_defined → Does (absent extensible)
    absent_added extensible test acts = same_does new_defined (absent extensible) (λ reading s. ap (λ (b : Bool). define_over None (definition_of d) (reading place) (reading given) o key (behind_definition b None (definition_of d)) s) test) acts

    pub new_added : (decided need : T) (accessor : Bool) (body : Body) (marks : Marks) → accessor ≡ definitions.becomes_accessor false (definition_of d) → marks ≡ definitions.marks_of_kind accessor definitions.default_property.marks d.marks
        → body ≡ definitions.body_of_kind accessor definitions.default_property.body (body_of d.body) → Means made meaning store decided (λ reading. union (reading place) (reading given))
        → Means made meaning store need (λ reading. union (context (map (seen_frame reading) w.frames.frames)) (reading decided))
        → Does (λ reading s. acted (is_defined (reading place)) (heap_acts.add o key (reading need) body (reading given) marks s.heap) s) → Does new_defined
    unfolding define_over
    new_added decided need accessor body marks kind marked holds joined needs acts =
        Acts-as made meaning store (λ reading. read_defining reading) (λ reading s. acted (is_defined (reading place)) (heap_acts.add o key (reading need) body (reading given) marks s.heap) s) new_defined w after result
        (λ reading agrees told turns.
        let s = state_of reading w told turns in
        ap₂ (λ (b : Body) (m : Marks). acted (is_defined (reading place)) (heap_acts.add o key (union (context s.frames) (union (reading place) (reading given))) b (reading given) m s.heap) s)
        (ap (λ (k : Bool). definitions.body_of_kind k definitions.default_property.body (body_of d.body)) (sym kind) ∙ sym holds) (ap (λ (k : Bool). definitions.marks_of_kind k definitions.default_property.marks d.marks) (sym kind) ∙ sym marked)
        ∙ ap (λ (n : Label). acted (is_defined (reading place)) (heap_acts.add o key n body (reading given) marks s.heap) s) (ap (union (context s.frames)) (sym (joined.is reading agrees)) ∙ sym (needs.is reading agrees)))
        acts

    -- ---- a property that is there

    module _ (slot : Slot T) where
      abbrev present : Option (Slot T) → Bool → (T → Label) → L tracked.Defining
      present old extensible reading = define_over (option_map (read_slot reading) old) (definition_of d) (reading place) (reading given) o key (behind_definition extensible (property_in (option_map (read_slot reading) old)) (definition_of d))

      pub present_refused : (old : Option (Slot T)) → old ≡ Some slot → definitions.may_define_over (erased_slot slot) (definition_of d) ≡ false → Does (refused old) → (extensible : Bool) → Does (present old extensible)
      unfolding define_over
      present_refused old is test acts extensible =
          same_does (refused old) (present old extensible)
          (λ reading s.
          ap (λ x. present x extensible reading s) is
          ∙ ap (λ (b : Bool). define_over (Some (read_slot reading slot)) (definition_of d) (reading place) (reading given) o key (defined_if b (definitions.defined_over (erased_slot slot) (definition_of d))) s) test
          ∙ ap (λ (x : Option (Slot T)). throw_error kinds.TypeError (union (union (reading place) (reading given)) (value_label (option_map (read_slot reading) x))) s) (sym is))
          acts

      pub present_changed : (old : Option (Slot T)) → old ≡ Some slot → definitions.may_define_over (erased_slot slot) (definition_of d) ≡ true → (change : Change T) → IsChange made meaning store slot d given change
          → Does (λ reading. changed_by reading change (reading place) (reading given) o key) → (extensible : Bool) → Does (present old extensible)
      unfolding define_over redefine body_set set_body_if
      present_changed old is test change changes acts extensible =
          Acts-as made meaning store (λ reading. read_defining reading) (λ reading. changed_by reading change (reading place) (reading given) o key) (present old extensible) w after result
          (λ reading agrees told turns.
          let s = state_of reading w told turns in
          ap (λ x. present x extensible reading s) is
          ∙ ap (λ (b : Bool). define_over (Some (read_slot reading slot)) (definition_of d) (reading place) (reading given) o key (defined_if b (definitions.defined_over (erased_slot slot) (definition_of d))) s) test
          ∙ ap (λ (m : Marks). and_then (set_marks (union (reading place) (reading given)) m o key s) (λ u. old_body reading >>= λ w. ret (is_defined (reading place)))) (sym changes.marks)
          ∙ after_same (set_marks (union (reading place) (reading given)) change.marks o key s) (old_body reading) (body_set reading (reading place) change.body o key) (λ w. ret (is_defined (reading place))) (body_same reading agrees change.body changes.body))
          acts
        where
          old_body : (reading : T → Label) → L (Unit {0})
          old_body reading =
              set_body_if (definitions.changes_body (erased_slot slot) (definition_of d)) (reading place) (definitions.defined_over (erased_slot slot) (definition_of d)).body (body_label (definitions.keeps_a_half (erased_slot slot) (definition_of d)) (reading given) (reading slot.label)) o key

          after_same : (m : Outcome Halt Jump (Unit {0}) State) (f g : L (Unit {0})) (next : Unit {0} → L tracked.Defining) → ((t : State) → f t ≡ g t) → and_then m (λ u. f >>= next) ≡ and_then m (λ u. g >>= next)
          after_same (Goes u t) f g next same = ap (λ n. and_then n next) (same t)
          after_same (Jumps j t) f g next same = refl
          after_same (Ends halt t) f g next same = refl

          body_same : (reading : T → Label) → IsReading made meaning store reading → (new : Option (NewBody T)) → IsNewBody made meaning store slot d given new → (t : State) → old_body reading t ≡ body_set reading (reading place) new o key t
          body_same reading agrees None same t =
              ap (λ (b : Bool). set_body_if b (reading place) (definitions.defined_over (erased_slot slot) (definition_of d)).body (body_label (definitions.keeps_a_half (erased_slot slot) (definition_of d)) (reading given) (reading slot.label)) o key t) same
          body_same reading agrees (Some new) gives t =
              ap (λ (b : Bool). set_body_if b (reading place) (definitions.defined_over (erased_slot slot) (definition_of d)).body (body_label (definitions.keeps_a_half (erased_slot slot) (definition_of d)) (reading given) (reading slot.label)) o key t) gives.changes
              ∙ ap₂ (λ (b : Body) (l : Label). set_body_if true (reading place) b l o key t) (sym gives.body) (sym (gives.label.is reading agrees))
