-- What a labelled run enters keeps a state of declared origins: called functions, getters and setters, conversions, and what `instanceof` reads.
use Rattle.std.proofs.Common.{ℕ, Bool, true, false, List, [], ◌∷◌, ◌++◌, length, Result, Ok, Err, slice_get}
use Rattle.origin_labels.specs.Label.{Label, union}
use Rattle.flow_frames.specs.declared.kind.Kind.TheVariants as kind
use Rattle.js_number.specs.declared.int.LeftNumbers.{LeftNumbers}
use Rattle.js_number.specs.declared.num.Num.{Num as Number}
use Rattle.js_values.specs.declared.ids.ObjId.{ObjId}
use Rattle.js_values.specs.declared.value.Value.{Value}
use Rattle.js_values.specs.declared.value.Value.TheVariants as value
use Rattle.js_values.specs.Walks.{object_chain}
use Rattle.js_ast.specs.Trees.{Statements, body_of}
use Rattle.js_ast.specs.Functions.{FunctionCode}
use Rattle.native_protocol.specs.declared.hint.Hint.{Hint}
use Rattle.native_protocol.specs.declared.hint.Hint.TheVariants as hint
use Rattle.native_protocol.specs.declared.request.GivenMarks.{GivenMarks}
use Rattle.es_meaning.specs.BuiltIns.{BuiltIns}
use Rattle.es_meaning.specs.Holders.{constructs_in}
use Rattle.es_meaning.specs.Outcomes.{Outcome, ret, ◌>>=◌}
use Rattle.es_meaning.specs.Environments.{Env, called_env}
use Rattle.es_meaning.specs.Operations.{Ty, One, Res, Shape}
use Rattle.es_meaning.specs.Operators.{is_object, converts_beside}
use Rattle.es_meaning.specs.Functions.{Callee, not_callable, empty_callee, of_script, of_built_in, this_or}
use Rattle.es_meaning.specs.Start.{id}
use Rattle.es_meaning.specs.Plain.{undefined, number_in, is_count, count_of, prototype_name}
use Rattle.es_meaning.specs.Requested.{no_marks}
use Rattle.flow_meaning.specs.Erased.{unlabelled}
use Rattle.flow_meaning.specs.Scopes.{Val, joined, Halt, State, Jump, L, Came, ended, caught, Left, scope, given_back, answer, construction}
use Rattle.flow_meaning.specs.Requested.{Aim, aim_of, is_function_in}
use Rattle.flow_meaning.specs.Tracked.{Reference, Access, has_value, has_getter, accessed, accessed_for_typeof, Putting, is_put, has_setter, has_length, put_value, Defining, is_defined, has_length_given, defining, set_length, numbered_by, numbered, converted_for_length, given_count, with_count, entered_defining, Enters, callee_at, entered, called_value, call_by, call_aimed, call_value, prototype_of, with_fresh, constructed, construct_built_in, construct_by, construct_aimed, construct_value, entered_access, entered_putting, convert, converted_by, converted, compared, is_instance, instance_by, instance_of, instance_if, instance_value}
use Rattle.low_equal.proofs.DeclaredLabels as labels
use Rattle.low_equal.proofs.DeclaredLabels.{Each, IfThere, each_append, own_bottom, own_union}
use Rattle.low_equal.proofs.DeclaredHeaps as heaps
use Rattle.low_equal.proofs.DeclaredHeaps.{own_chain, own_linked, own_this_or, own_aim_of}
use Rattle.low_equal.proofs.DeclaredStates as states
use Rattle.low_equal.proofs.DeclaredStates.{bind_keeping, ret_keeping, choose_keeping, throw_keeps, scope_keeping, framed_keeping, goes, ends_in}
use Rattle.low_equal.proofs.DeclaredActs as acts
use Rattle.low_equal.proofs.DeclaredActs.{property_keeps, access_keeps, typeof_keeps, put_keeps}
use Rattle.low_equal.proofs.DeclaredRequests as requests
use Rattle.low_equal.proofs.DeclaredRequests.{defining_keeping, length_keeping}
use Rattle.low_equal.proofs.DeclaredCalls.{call_own, fresh_own, own_prototype}

module _ (count : ℕ) where
  abbrev Own : Label → Type 0
  Own label = labels.Own count label

  abbrev OwnState : State → Type 0
  OwnState s = states.OwnState count s

  abbrev Keeps : {X : Type 0} → (X → Type 0) → Outcome Halt Jump X State → Type 0
  Keeps Q o = states.Keeps count Q o

  abbrev Keeping : {X : Type 0} → (X → Type 0) → L X → Type 0
  Keeping Q m = states.Keeping count Q m

  abbrev OwnVal : Val → Type 0
  OwnVal v = labels.Own count v.label

  abbrev OwnResult : (t : Ty) → Res Val t → Type 0
  OwnResult t a = states.OwnResult count t a

  abbrev OwnCame : {X : Type 0} → (X → Type 0) → Came X → Type 0
  OwnCame Q c = states.OwnCame count Q c

  abbrev OwnLeft : {X : Type 0} → (X → Type 0) → Left X → Type 0
  OwnLeft Q l = states.OwnLeft count Q l

  abbrev OwnAim : Aim → Type 0
  OwnAim aim = heaps.OwnAim count aim

  abbrev OwnAccess : Access → Type 0
  OwnAccess a = acts.OwnAccess count a

  abbrev OwnPutting : Putting → Type 0
  OwnPutting p = acts.OwnPutting count p

  abbrev OwnReference : Reference → Type 0
  OwnReference n = acts.OwnReference count n

  -- how what is called is entered
  pub record OwnEnters (E : Enters) : Type 0 where
    pub body : (ss : Statements) (e : Env ℕ) → Keeping (OwnResult One) (E.body ss e)
    pub built_in : (which : ℕ) (construct : Bool) (vs : List Val) → Each OwnVal vs → Keeping OwnVal (E.built_in which construct vs)
    pub conversion : (wanted : Hint) (v : Val) → OwnVal v → Keeping OwnVal (E.conversion wanted v)

  module _ (functions : List FunctionCode) (E : Enters) (enters : OwnEnters E) where
    -- ---- calls

    -- in the frame of the call
    entered_keeps : (callee : Callee) (label : Label) (base : Val) (vs : List Val) (depth : ℕ) (s : State) → Own label → OwnVal base → Each OwnVal vs → OwnState s → Keeps (OwnResult One) (entered functions callee label base vs E depth s)
    unfolding entered
    entered_keeps not_callable label base vs depth s q p r h = throw_keeps count (OwnResult One) _ _ s q h
    entered_keeps empty_callee label base vs depth s q p r h = goes tt h
    entered_keeps (of_built_in which) label base vs depth s q p r h = throw_keeps count (OwnResult One) _ _ s q h
    entered_keeps (of_script number f place) label base vs depth s q p r h = (enters.body (body_of f) (called_env (length s.records) depth)).keeps _ (call_own count functions number f place base vs s p r h)

    -- what is returned
    own_given_back : (c : Came (Unit {0})) → OwnCame (OwnResult One) c → OwnVal (given_back c)
    own_given_back (ended u) q = own_bottom count
    own_given_back (caught j) q = q

    in_frame_keeping : (callee : Callee) (label : Label) (base : Val) (vs : List Val) → Own label → OwnVal base → Each OwnVal vs
        → Keeping OwnVal (scope kind.Call label (λ depth. entered functions callee label base vs E depth) >>= λ c. ret (answer c))
    in_frame_keeping callee label base vs q p r = bind_keeping count (OwnLeft (OwnResult One)) OwnVal _
        (scope_keeping count (OwnResult One) kind.Call label _ q (λ depth. record { keeps = λ s h. entered_keeps callee label base vs depth s q p r h }))
        (λ c l. ret_keeping count OwnVal (answer c) (own_union count (given_back c.how).label c.label (own_given_back c.how l.1) l.0))

    callee_keeping : (callee : Callee) (label : Label) (o : ℕ) (base : Val) (vs : List Val) → Own label → OwnVal base → Each OwnVal vs → Keeping OwnVal (call_by functions callee label o base vs E)
    unfolding call_by
    callee_keeping not_callable label o base vs q p r = in_frame_keeping not_callable label base vs q p r
    callee_keeping empty_callee label o base vs q p r = in_frame_keeping empty_callee label base vs q p r
    callee_keeping (of_script number f place) label o base vs q p r = in_frame_keeping (of_script number f place) label base vs q p r
    callee_keeping (of_built_in which) label o base vs q p r = framed_keeping count kind.Native label _ q (λ depth. enters.built_in which false (base ∷ called_value label o ∷ vs) (p, (q, r)))

    aimed_keeps : (label : Label) (aim : Aim) (base : Val) (vs : List Val) (s : State) → Own label → OwnAim aim → OwnVal base → Each OwnVal vs → OwnState s → Keeps OwnVal (call_aimed functions label aim base vs E s)
    unfolding call_aimed
    aimed_keeps label aim base vs s q a p r h =
        (callee_keeping (callee_at functions s.heap aim.target.function) (union label aim.label) aim.target.function (this_or aim.target.this base) (aim.target.args ++ vs) (own_union count label aim.label q a.label) (own_this_or count aim.target.this base a.this p) (each_append OwnVal aim.target.args vs a.args r)).keeps s h

    pub value_keeping : (v : Value) (label : Label) (base : Val) (vs : List Val) → Own label → OwnVal base → Each OwnVal vs → Keeping OwnVal (call_value functions label v base vs E)
    unfolding call_value
    value_keeping (value.Primitive x) label base vs q p r = record { keeps = λ s h. (callee_keeping not_callable label 0 base vs q p r).keeps s h }
    value_keeping (value.Object o) label base vs q p r = record { keeps = λ s h. aimed_keeps label (aim_of s.heap o.0) base vs s q (own_aim_of count s.heap o.0 h.heap) p r h }

    -- ---- constructions

    constructed_keeps : (callee : Callee) (label : Label) (o : ℕ) (vs : List Val) (depth : ℕ) (s : State) → Own label → Each OwnVal vs → OwnState s → Keeps (OwnResult One) (constructed functions callee label o vs E depth s)
    unfolding constructed
    constructed_keeps not_callable label o vs depth s q r h = throw_keeps count (OwnResult One) _ _ s q h
    constructed_keeps empty_callee label o vs depth s q r h = throw_keeps count (OwnResult One) _ _ s q h
    constructed_keeps (of_built_in which) label o vs depth s q r h = throw_keeps count (OwnResult One) _ _ s q h
    constructed_keeps (of_script number code place) label o vs depth s q r h =
        entered_keeps (of_script number code place) label _ vs depth (with_fresh (prototype_of s.heap o) s) q (own_bottom count) r (fresh_own count (prototype_of s.heap o) s (own_prototype count s.heap o h.heap) h)

    made_keeps : (callee : Callee) (label : Label) (o : ℕ) (vs : List Val) (s : State) → Own label → Each OwnVal vs → OwnState s
        → Keeps OwnVal ((scope kind.Call label (λ depth. constructed functions callee label o vs E depth) >>= λ c. ret (construction (length s.heap) c)) s)
    made_keeps callee label o vs s q r h = (bind_keeping count (OwnLeft (OwnResult One)) OwnVal _
        (scope_keeping count (OwnResult One) kind.Call label _ q (λ depth. record { keeps = λ t k. constructed_keeps callee label o vs depth t q r k }))
        (λ c l. ret_keeping count OwnVal (construction (length s.heap) c) (own_union count (given_back c.how).label c.label (own_given_back c.how l.1) l.0))).keeps s h

    module _ (set : BuiltIns) where
      native_keeping : (which : ℕ) (label : Label) (o : ℕ) (vs : List Val) → Own label → Each OwnVal vs → Keeping OwnVal (construct_built_in set which label o vs E)
      unfolding construct_built_in
      native_keeping which label o vs q r = choose_keeping count {Q = OwnVal} (constructs_in set which) (enters.built_in which true (unlabelled undefined ∷ called_value label o ∷ vs) (own_bottom count, (q, r))) (record { keeps = λ s h. throw_keeps count OwnVal _ label s q h })

      constructor_keeps : (callee : Callee) (label : Label) (o : ℕ) (vs : List Val) (s : State) → Own label → Each OwnVal vs → OwnState s → Keeps OwnVal (construct_by set functions callee label o vs E s)
      unfolding construct_by
      constructor_keeps not_callable label o vs s q r h = made_keeps not_callable label o vs s q r h
      constructor_keeps empty_callee label o vs s q r h = made_keeps empty_callee label o vs s q r h
      constructor_keeps (of_script number code place) label o vs s q r h = made_keeps (of_script number code place) label o vs s q r h
      constructor_keeps (of_built_in which) label o vs s q r h = (framed_keeping count kind.Native label _ q (λ depth. native_keeping which label o vs q r)).keeps s h

      construct_aimed_keeps : (label : Label) (aim : Aim) (vs : List Val) (s : State) → Own label → OwnAim aim → Each OwnVal vs → OwnState s → Keeps OwnVal (construct_aimed set functions label aim vs E s)
      unfolding construct_aimed
      construct_aimed_keeps label aim vs s q a r h =
          constructor_keeps (callee_at functions s.heap aim.target.function) (union label aim.label) aim.target.function (aim.target.args ++ vs) s (own_union count label aim.label q a.label) (each_append OwnVal aim.target.args vs a.args r) h

      pub construct_keeping : (v : Value) (label : Label) (vs : List Val) → Own label → Each OwnVal vs → Keeping OwnVal (construct_value set functions label v vs E)
      unfolding construct_value
      construct_keeping (value.Primitive x) label vs q r = record { keeps = λ s h. constructor_keeps not_callable label 0 vs s q r h }
      construct_keeping (value.Object o) label vs q r = record { keeps = λ s h. construct_aimed_keeps label (aim_of s.heap o.0) vs s q (own_aim_of count s.heap o.0 h.heap) r h }

    -- ---- conversions

    converted_keeping : (b : Bool) (wanted : Hint) (label : Label) (v given : Val) → Own label → OwnVal v → OwnVal given → Keeping OwnVal (converted_by b E wanted label v given)
    unfolding converted_by convert
    converted_keeping true wanted label v given q k g = framed_keeping count kind.Native label _ q (λ depth. enters.conversion wanted v k)
    converted_keeping false wanted label v given q k g = ret_keeping count OwnVal given g

    -- ---- the `length` of an array: a value is converted twice

    for_length_keeping : (label : Label) (v : Val) → Own label → OwnVal v → Keeping OwnVal (converted_for_length E label v)
    unfolding converted_for_length
    for_length_keeping label v q k = converted_keeping (is_object v.value) hint.Number (union label v.label) v v (own_union count label v.label q k) k k

    AnyNumber : Number → Type 0
    AnyNumber n = Unit {0}

    numbered_by_keeping : (r : Result Number LeftNumbers) → Keeping AnyNumber (numbered_by r)
    unfolding numbered_by AnyNumber
    numbered_by_keeping (Ok n) = record { keeps = λ s h. goes tt h }
    numbered_by_keeping (Err e) = record { keeps = λ s h. ends_in tt h }

    numbered_keeping : (v : Val) → Keeping AnyNumber (numbered v)
    unfolding numbered
    numbered_keeping v = numbered_by_keeping (number_in v.value)

    count_keeping : (b : Bool) (n : ℕ) (given label : Label) (next : ℕ → Label → L Val) → Own given → Own label → ((n : ℕ) (given : Label) → Own given → Keeping OwnVal (next n given)) → Keeping OwnVal (given_count b n given label next)
    unfolding given_count
    count_keeping true n given label next q k f = f n given q
    count_keeping false n given label next q k f = record { keeps = λ s h. throw_keeps count OwnVal _ _ s (own_union count label given k q) h }

    with_count_keeping : (label : Label) (v : Val) (next : ℕ → Label → L Val) → Own label → OwnVal v → ((n : ℕ) (given : Label) → Own given → Keeping OwnVal (next n given)) → Keeping OwnVal (with_count E label v next)
    unfolding with_count
    with_count_keeping label v next q k f = bind_keeping count OwnVal OwnVal _ (for_length_keeping label v q k) λ first p. bind_keeping count AnyNumber OwnVal _ (numbered_keeping first) λ m x.
        bind_keeping count OwnVal OwnVal _ (for_length_keeping label v q k) λ second r. bind_keeping count AnyNumber OwnVal _ (numbered_keeping second) λ n y.
        count_keeping (is_count m n) (count_of m) (union first.label second.label) label next (own_union count first.label second.label p r) q f

    -- ---- definitions

    defining_entered : (v : Val) (d : Defining) → OwnVal v → requests.OwnDefining count d → Keeping OwnVal (entered_defining E v d)
    unfolding entered_defining
    defining_entered v (is_defined label) k q = ret_keeping count OwnVal _ q
    defining_entered v (has_length_given label o marks) k q = with_count_keeping label v (set_length true label o marks) q k (λ n given r. length_keeping count true label o marks n given q r)

    pub define_keeping : (key : List ℕ) (marks : GivenMarks) (shape : Shape) (base v g set : Val) → OwnVal base → OwnVal v → OwnVal g → OwnVal set → Keeping OwnVal (defining key marks shape base v g set >>= entered_defining E v)
    define_keeping key marks shape base v g set q a b c = bind_keeping count (requests.OwnDefining count) OwnVal _ (defining_keeping count key marks shape base v g set q a b c) (λ d r. defining_entered v d a r)

    -- ---- getters and setters

    access_entered : (a : Access) → OwnAccess a → Keeping OwnVal (entered_access functions E a)
    unfolding entered_access
    access_entered (has_value v) q = ret_keeping count OwnVal v q
    access_entered (has_getter label f base) q = value_keeping (value.Object f) label base [] q.0 q.1 tt

    putting_entered : (v : Val) (p : Putting) → OwnVal v → OwnPutting p → Keeping (OwnResult One) (entered_putting functions E v p)
    unfolding entered_putting
    putting_entered v is_put k q = ret_keeping count (OwnResult One) tt tt
    putting_entered v (has_setter label f base) k q = bind_keeping count OwnVal (OwnResult One) _ (value_keeping (value.Object f) label base (v ∷ []) q.0 q.1 (k, tt)) (λ u r. ret_keeping count (OwnResult One) tt tt)
    putting_entered v (has_length label o) k q =
        bind_keeping count OwnVal (OwnResult One) _ (with_count_keeping label v (set_length false label o no_marks) q k (λ n given r. length_keeping count false label o no_marks n given q r)) (λ u r. ret_keeping count (OwnResult One) tt tt)

    pub get_keeping : (n : Reference) → OwnReference n → Keeping OwnVal (accessed n >>= entered_access functions E)
    get_keeping n q = bind_keeping count OwnAccess OwnVal _ (record { keeps = λ s h. access_keeps count n s q h }) access_entered

    pub typeof_keeping : (n : Reference) → OwnReference n → Keeping OwnVal (accessed_for_typeof n >>= entered_access functions E)
    typeof_keeping n q = bind_keeping count OwnAccess OwnVal _ (record { keeps = λ s h. typeof_keeps count n s q h }) access_entered

    pub put_keeping : (n : Reference) (v : Val) → OwnReference n → OwnVal v → Keeping (OwnResult One) (put_value n v >>= entered_putting functions E v)
    put_keeping n v q k = bind_keeping count OwnPutting (OwnResult One) _ (record { keeps = λ s h. put_keeps count n v s q k h }) (λ p r. putting_entered v p k r)

    pub primitive_keeping : (wanted : Hint) (v : Val) → OwnVal v → Keeping OwnVal (converted E wanted v)
    primitive_keeping wanted v q = converted_keeping (is_object v.value) wanted v.label v v q q q

    pub comparable_keeping : (v u : Val) → OwnVal v → OwnVal u → Keeping OwnVal (compared E v u)
    comparable_keeping v u q k = converted_keeping (converts_beside v.value u.value) hint.Default (union v.label u.label) v (joined u.label v) (own_union count v.label u.label q k) q (own_union count v.label u.label q k)

    -- ---- `instanceof`

    -- whether an object is among the prototypes of another
    is_instance_keeps : (label : Label) (o : ℕ) (v : Value) (s : State) → Own label → OwnState s → Keeps OwnVal (is_instance label o v s)
    unfolding is_instance
    is_instance_keeps label o (value.Primitive p) s q h = throw_keeps count OwnVal _ _ s q h
    is_instance_keeps label o (value.Object proto) s q h = goes (own_union count label _ q (own_linked count proto.0 (object_chain s.heap o) (own_chain count s.heap o h.heap))) h

    -- or the one that a function gives
    instance_by_keeps : (v : Val) (o : ObjId) (label : Label) (f : ℕ) (s : State) → OwnVal v → Own label → OwnState s → Keeps OwnVal (instance_by functions v o label f E s)
    unfolding instance_by
    instance_by_keeps v o label f s q r h =
        let both = own_union count v.label label q r in
        (bind_keeping count OwnVal OwnVal _
        (bind_keeping count OwnAccess OwnVal _ (record { keeps = λ t k. property_keeps count (union v.label label) (called_value label f) (value.Object (id f)) prototype_name t both r k }) access_entered)
        (λ proto p. record { keeps = λ t k. is_instance_keeps _ o.0 proto.value t (own_union count (union v.label label) proto.label both p) k })).keeps s h

    instance_of_keeps : (v : Val) (x : Value) (label : Label) (aim : Aim) (s : State) → OwnVal v → Own label → Own aim.label → OwnState s → Keeps OwnVal (instance_of functions v x label aim E s)
    unfolding instance_of
    instance_of_keeps v (value.Primitive p) label aim s q r a h = goes (own_union count v.label label q r) h
    instance_of_keeps v (value.Object o) label aim s q r a h = instance_by_keeps v o _ aim.target.function s q (own_union count label aim.label r a) h

    -- of a value that may be no function
    instance_if_keeps : (b : Bool) (v : Val) (label : Label) (f : ℕ) (s : State) → OwnVal v → Own label → OwnState s → Keeps OwnVal (instance_if functions b v label f E s)
    unfolding instance_if
    instance_if_keeps true v label f s q r h = instance_of_keeps v v.value label (aim_of s.heap f) s q r (own_aim_of count s.heap f h.heap).label h
    instance_if_keeps false v label f s q r h = throw_keeps count OwnVal _ _ s r h

    pub instance_keeping : (x : Value) (v : Val) (label : Label) → OwnVal v → Own label → Keeping OwnVal (instance_value functions v label x E)
    unfolding instance_value
    instance_keeping (value.Primitive p) v label q r = record { keeps = λ s h. throw_keeps count OwnVal _ _ s r h }
    instance_keeping (value.Object f) v label q r = record { keeps = λ s h. instance_if_keeps (is_function_in (slice_get s.heap f.0)) v label f.0 s q r h }
