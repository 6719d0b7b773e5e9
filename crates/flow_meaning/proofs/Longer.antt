-- With more turns a monitored run that is over is the same.
use Rattle.std.proofs.Common.{◌≡◌, ℕ, zero, suc, ◌-◌, ◌≤◌, Bool, true, false, List, [], ◌∷◌, length, Option, Some, None, slice_get, nat_lt, ◌&&◌, refl, sym, ap, ap₂, subst}
use Rattle.origin_labels.specs.Label.{Label, bottom, union}
use Rattle.flow_policy.specs.Policies.{Tables}
use Rattle.flow_policy.specs.Inputs.{Given}
use Rattle.flow_frames.specs.declared.kind.Kind.{Kind}
use Rattle.flow_frames.specs.declared.kind.Kind.TheVariants as kind
use Rattle.js_values.specs.declared.ids.ObjId.{ObjId}
use Rattle.js_values.specs.declared.value.Value.{Value}
use Rattle.js_values.specs.declared.value.Value.TheVariants as value
use Rattle.js_ast.specs.Trees.{Statements}
use Rattle.js_ast.specs.Functions.{FunctionCode, functions_of}
use Rattle.native_protocol.specs.declared.hint.Hint.{Hint}
use Rattle.native_protocol.specs.declared.hint.Hint.TheVariants as hint
use Rattle.prototype_walk.specs.KeyLists.{Keys}
use Rattle.es_meaning.specs.BuiltIns.{BuiltIns}
use Rattle.es_meaning.specs.Holders.{constructs_in}
use Rattle.es_meaning.specs.Outcomes.{left, out_of_turns, halted, Outcome, Goes, Jumps, Ends, ret, ◌>>=◌}
use Rattle.es_meaning.specs.Environments.{Env, with_around, with_place, aimed}
use Rattle.es_meaning.specs.Functions.{Callee, not_callable, empty_callee, of_script, of_built_in}
use Rattle.es_meaning.specs.Operations.{Res, Ops}
use Rattle.es_meaning.specs.Operators.{is_object, truth, converts_beside, binary_of}
use Rattle.es_meaning.specs.Evaluation.{program_step}
use Rattle.es_meaning.specs.Start.{id}
use Rattle.es_meaning.specs.Plain.{choose, is_throw, may_declare, outermost_env, prototype_name, count_of, is_count}
use Rattle.es_meaning.proofs.Link.{EnteringLinked, Link}
use Rattle.es_meaning.proofs.RequestLinks.{program_longer}
use Rattle.es_meaning.proofs.Longer.{beyond, few_beyond, beyond_few, Longer, wants, goes, jumps, ends, Lift, bind_longer, choose_longer, at_equal, equal_results, rels_equal, same_rels}
use Rattle.flow_meaning.specs.Laws.{MoreTurns}
use Rattle.flow_meaning.specs.Requested.{Aim, aim_of, is_function_in}
use Rattle.flow_meaning.specs.Scopes.{Val, joined, Halt, as_plain, State, Jump, L, cut_to, pushed_on, Came, ended, caught, Left, popped, stay, scope, settled, settled_value, answer, construction, react, resume, finish, attempt, round_kind}
use Rattle.flow_meaning.specs.Tracked.{spend, seen, Access, has_value, has_getter, Putting, is_put, has_setter, has_length, Defining, is_defined, has_length_given, Enters, entered, called_value, call_by, call_aimed, call_value, constructed, construct_built_in, construct_by, construct_aimed, construct_value, entered_access, entered_putting, entered_defining, convert, converted_by, converted_for_length, given_count, with_count, instance_by, instance_of, instance_if, instance_value, with_call, callee_at, with_fresh, prototype_of, with_name, named_origins, resolved, key_list, with_list, labelled, timed, start, run_of, tracked_run}
use Rattle.flow_meaning.proofs.Steady.{with_turns, left_with, Steady, Holds, holds, ret_steady, ends_steady, given_steady, raise_steady, unary_steady, accessed_steady, typeof_steady, put_steady, defining_steady, set_length_steady, numbered_steady, property_steady, is_instance_steady, remove_steady, act_steady, throws_steady, function_steady, jump_steady, jumps_steady, raised_steady, quiet_steady, resume_steady}

-- the state with k more turns
abbrev more_turns_in : ℕ → State → State
more_turns_in k s = with_turns (beyond k s.turns) s

module _ (k : ℕ) where
  -- outcomes of the labelled meaning
  abbrev Lasts : (X : Type 0) → Outcome Halt Jump X State → Outcome Halt Jump X State → Type 0
  Lasts X o p = Longer (as_plain out_of_turns) (more_turns_in k) o p

  -- and computations
  abbrev On : (X : Type 0) → L X → L X → Type 0
  On X m n = Lift (as_plain out_of_turns) (more_turns_in k) X m n

  -- a turn is spent
  spend_on : (n : ℕ) (s : State) → Lasts (Unit {0}) (spend n s) (spend (beyond k n) (more_turns_in k s))
  unfolding spend
  spend_on zero s = wants
  spend_on (suc n) s = goes

  -- an outcome that has as many turns left
  as_many : {X : Type 0} (n : ℕ) (o : Outcome Halt Jump X State) → Holds n o → Lasts X o (left_with (beyond k n) o)
  as_many {X} n (Goes a s) e = subst (λ m. Lasts X (Goes a s) (Goes a (with_turns (beyond k m) s))) e goes
  as_many {X} n (Jumps j s) e = subst (λ m. Lasts X (Jumps j s) (Jumps j (with_turns (beyond k m) s))) e jumps
  as_many {X} n (Ends halt s) e = subst (λ m. Lasts X (Ends halt s) (Ends halt (with_turns (beyond k m) s))) e ends

  -- an act
  act : {X : Type 0} (m : L X) → Steady m → On X m m
  act {X} m l = record { on = λ s. subst (Lasts X (m s)) (sym (l.steady (beyond k s.turns) s)) (as_many s.turns (m s) (holds m l s)) }

  -- ---- scopes

  -- what a jump at the end of a frame does
  caught_on : {Y : Type 0} (b : Bool) (a : Y) (j : Jump) (s : State) → Lasts Y (choose b (Goes a s) (Jumps j s)) (choose b (Goes a (more_turns_in k s)) (Jumps j (more_turns_in k s)))
  caught_on true a j s = goes
  caught_on false a j s = jumps

  -- the frame at a depth is popped
  popped_on : {X : Type 0} (depth : ℕ) {o p : Outcome Halt Jump X State} → Lasts X o p → Lasts (Left X) (popped depth o) (popped depth p)
  unfolding popped
  popped_on depth wants = wants
  popped_on depth goes = goes
  popped_on depth (jumps {j = j} {s = s}) = caught_on (nat_lt depth (length s.frames)) _ j (cut_to depth s)
  popped_on depth ends = ends

  -- what is done in a frame of its own
  scope_on : {X : Type 0} (kind : Kind) (label : Label) {m n : ℕ → L X} → ((depth : ℕ) → On X (m depth) (n depth)) → On (Left X) (scope kind label m) (scope kind label n)
  scope_on kind label l = record { on = λ s. popped_on (length s.frames) ((l (length s.frames)).on (pushed_on kind label s)) }

  -- the keys of a value
  list_on : (list : Option Keys) (label : Label) (f g : List (List ℕ) → L (Unit {0})) → ((keys : List (List ℕ)) → On (Unit {0}) (f keys) (g keys)) → On (Unit {0}) (with_list list label f) (with_list list label g)
  unfolding with_list
  list_on None label f g h = record { on = λ s. ends }
  list_on (Some list) label f g h = record { on = λ s. (bind_longer _ _ (act _ (raise_steady (union label list.walk))) (λ u. h list.keys)).on s }

  -- ---- calls

  -- what is called is entered alike
  abbrev Alike : Enters → Enters → Type 0
  Alike E D = EnteringLinked (Unit {0}) (λ w v u. v ≡ u) (λ w e d. e ≡ d) (λ t w m n. On (Res Val t) m n) E D

  -- a value is given in a frame of its own
  framed_on : (kind : Kind) (label : Label) {m n : L Val} → On Val m n → On Val (scope kind label (λ depth. m) >>= λ c. ret (settled_value c)) (scope kind label (λ depth. n) >>= λ c. ret (settled_value c))
  framed_on kind label l = bind_longer _ _ (scope_on kind label (λ depth. l)) (λ c. act _ (ret_steady (settled_value c)))

  -- in the frame of a call
  entered_on : (functions : List FunctionCode) (callee : Callee) (label : Label) (this : Val) (args : List Val) {E D : Enters} (depth : ℕ) → Alike E D
      → On (Unit {0}) (entered functions callee label this args E depth) (entered functions callee label this args D depth)
  unfolding entered with_call
  entered_on functions not_callable label this args depth h = record { on = λ s. (act _ (throws_steady (Unit {0}) _ label)).on s }
  entered_on functions empty_callee label this args depth h = record { on = λ s. goes }
  entered_on functions (of_built_in which) label this args depth h = record { on = λ s. (act _ (throws_steady (Unit {0}) _ label)).on s }
  entered_on functions (of_script number f place) label this args depth h = record { on = λ s. (h.body tt _ _ _ refl).on (with_call functions number f place this args s) }

  in_frame_on : (functions : List FunctionCode) (callee : Callee) (label : Label) (this : Val) (args : List Val) {E D : Enters} → Alike E D
      → On Val (scope kind.Call label (λ depth. entered functions callee label this args E depth) >>= λ c. ret (answer c)) (scope kind.Call label (λ depth. entered functions callee label this args D depth) >>= λ c. ret (answer c))
  in_frame_on functions callee label this args h = bind_longer _ _ (scope_on kind.Call label (λ depth. entered_on functions callee label this args depth h)) (λ c. act _ (ret_steady (answer c)))

  call_by_on : (functions : List FunctionCode) (callee : Callee) (label : Label) (o : ℕ) (this : Val) (args : List Val) {E D : Enters} → Alike E D
      → On Val (call_by functions callee label o this args E) (call_by functions callee label o this args D)
  unfolding call_by
  call_by_on functions not_callable label o this args h = in_frame_on functions not_callable label this args h
  call_by_on functions empty_callee label o this args h = in_frame_on functions empty_callee label this args h
  call_by_on functions (of_built_in which) label o this args h = framed_on kind.Native label (h.built_in tt which false _ _ (same_rels (this ∷ called_value label o ∷ args)))
  call_by_on functions (of_script number f place) label o this args h = in_frame_on functions (of_script number f place) label this args h

  call_aimed_on : (functions : List FunctionCode) (label : Label) (aim : Aim) (this : Val) (args : List Val) {E D : Enters} → Alike E D → On Val (call_aimed functions label aim this args E) (call_aimed functions label aim this args D)
  unfolding call_aimed
  call_aimed_on functions label aim this args h = record { on = λ s. (call_by_on functions (callee_at functions s.heap aim.target.function) _ aim.target.function _ _ h).on s }

  call_value_on : (functions : List FunctionCode) (label : Label) (v : Value) (this : Val) (args : List Val) {E D : Enters} → Alike E D → On Val (call_value functions label v this args E) (call_value functions label v this args D)
  unfolding call_value
  call_value_on functions label (value.Primitive p) this args h = record { on = λ s. (call_by_on functions not_callable label 0 this args h).on s }
  call_value_on functions label (value.Object o) this args h = record { on = λ s. (call_aimed_on functions label (aim_of s.heap o.0) this args h).on s }

  -- and of a construction
  constructed_on : (functions : List FunctionCode) (callee : Callee) (label : Label) (o : ℕ) (args : List Val) {E D : Enters} (depth : ℕ) → Alike E D
      → On (Unit {0}) (constructed functions callee label o args E depth) (constructed functions callee label o args D depth)
  unfolding constructed
  constructed_on functions not_callable label o args depth h = record { on = λ s. (act _ (throws_steady (Unit {0}) _ label)).on s }
  constructed_on functions empty_callee label o args depth h = record { on = λ s. (act _ (throws_steady (Unit {0}) _ label)).on s }
  constructed_on functions (of_built_in which) label o args depth h = record { on = λ s. (act _ (throws_steady (Unit {0}) _ label)).on s }
  constructed_on functions (of_script number code place) label o args depth h =
      record { on = λ s. (entered_on functions (of_script number code place) label _ args depth h).on (with_fresh (prototype_of s.heap o) s) }

  built_on : (functions : List FunctionCode) (callee : Callee) (label : Label) (o fresh : ℕ) (args : List Val) {E D : Enters} → Alike E D
      → On Val (scope kind.Call label (λ depth. constructed functions callee label o args E depth) >>= λ c. ret (construction fresh c)) (scope kind.Call label (λ depth. constructed functions callee label o args D depth) >>= λ c. ret (construction fresh c))
  built_on functions callee label o fresh args h = bind_longer _ _ (scope_on kind.Call label (λ depth. constructed_on functions callee label o args depth h)) (λ c. act _ (ret_steady (construction fresh c)))

  built_in_on : (set : BuiltIns) (which : ℕ) (label : Label) (o : ℕ) (args : List Val) {E D : Enters} → Alike E D → On Val (construct_built_in set which label o args E) (construct_built_in set which label o args D)
  unfolding construct_built_in
  built_in_on set which label o args h = choose_longer (constructs_in set which) (h.built_in tt which true _ _ (same_rels _)) (act _ (throws_steady Val _ label))

  construct_by_on : (set : BuiltIns) (functions : List FunctionCode) (callee : Callee) (label : Label) (o : ℕ) (args : List Val) {E D : Enters} → Alike E D
      → On Val (construct_by set functions callee label o args E) (construct_by set functions callee label o args D)
  unfolding construct_by
  construct_by_on set functions not_callable label o args h = record { on = λ s. (built_on functions not_callable label o (length s.heap) args h).on s }
  construct_by_on set functions empty_callee label o args h = record { on = λ s. (built_on functions empty_callee label o (length s.heap) args h).on s }
  construct_by_on set functions (of_built_in which) label o args h = record { on = λ s. (framed_on kind.Native label (built_in_on set which label o args h)).on s }
  construct_by_on set functions (of_script number code place) label o args h = record { on = λ s. (built_on functions (of_script number code place) label o (length s.heap) args h).on s }

  construct_aimed_on : (set : BuiltIns) (functions : List FunctionCode) (label : Label) (aim : Aim) (args : List Val) {E D : Enters} → Alike E D → On Val (construct_aimed set functions label aim args E) (construct_aimed set functions label aim args D)
  unfolding construct_aimed
  construct_aimed_on set functions label aim args h = record { on = λ s. (construct_by_on set functions (callee_at functions s.heap aim.target.function) _ aim.target.function _ h).on s }

  construct_value_on : (set : BuiltIns) (functions : List FunctionCode) (label : Label) (v : Value) (args : List Val) {E D : Enters} → Alike E D → On Val (construct_value set functions label v args E) (construct_value set functions label v args D)
  unfolding construct_value
  construct_value_on set functions label (value.Primitive p) args h = record { on = λ s. (construct_by_on set functions not_callable label 0 args h).on s }
  construct_value_on set functions label (value.Object o) args h = record { on = λ s. (construct_aimed_on set functions label (aim_of s.heap o.0) args h).on s }

  -- ---- getters, setters, and the conversion of objects

  access_on : (functions : List FunctionCode) (a : Access) {E D : Enters} → Alike E D → On Val (entered_access functions E a) (entered_access functions D a)
  unfolding entered_access
  access_on functions (has_value v) h = act _ (ret_steady v)
  access_on functions (has_getter label f this) h = call_value_on functions label (value.Object f) this [] h

  convert_on : (to : Hint) (label : Label) (v : Val) {E D : Enters} → Alike E D → On Val (convert E to label v) (convert D to label v)
  unfolding convert
  convert_on to label v h = framed_on kind.Native label (h.conversion tt to v v refl)

  converted_on : (converts : Bool) (to : Hint) (label : Label) (v given : Val) {E D : Enters} → Alike E D → On Val (converted_by converts E to label v given) (converted_by converts D to label v given)
  unfolding converted_by
  converted_on true to label v given h = convert_on to label v h
  converted_on false to label v given h = act _ (ret_steady given)

  -- a value for the `length` of an array
  for_length_on : (label : Label) (v : Val) {E D : Enters} → Alike E D → On Val (converted_for_length E label v) (converted_for_length D label v)
  unfolding converted_for_length
  for_length_on label v h = converted_on (is_object v.value) hint.Number (union label v.label) v v h

  given_count_on : (is : Bool) (n : ℕ) (given label : Label) (f g : ℕ → Label → L Val) → ((n : ℕ) (given : Label) → On Val (f n given) (g n given)) → On Val (given_count is n given label f) (given_count is n given label g)
  unfolding given_count
  given_count_on true n given label f g next = next n given
  given_count_on false n given label f g next = act _ (throws_steady Val _ _)

  with_count_on : (label : Label) (v : Val) (f g : ℕ → Label → L Val) → ((n : ℕ) (given : Label) → On Val (f n given) (g n given)) → {E D : Enters} → Alike E D → On Val (with_count E label v f) (with_count D label v g)
  unfolding with_count
  with_count_on label v f g next h = bind_longer _ _ (for_length_on label v h) λ first. bind_longer _ _ (act _ (numbered_steady first)) λ m.
      bind_longer _ _ (for_length_on label v h) λ second. bind_longer _ _ (act _ (numbered_steady second)) λ n. given_count_on (is_count m n) (count_of m) (union first.label second.label) label f g next

  defining_ends_on : (v : Val) (d : Defining) {E D : Enters} → Alike E D → On Val (entered_defining E v d) (entered_defining D v d)
  unfolding entered_defining
  defining_ends_on v (is_defined label) h = act _ (ret_steady _)
  defining_ends_on v (has_length_given label o marks) h = with_count_on label v _ _ (λ n given. act _ (set_length_steady true label o marks n given)) h

  putting_on : (functions : List FunctionCode) (v : Val) (p : Putting) {E D : Enters} → Alike E D → On (Unit {0}) (entered_putting functions E v p) (entered_putting functions D v p)
  unfolding entered_putting
  putting_on functions v is_put h = act _ (ret_steady tt)
  putting_on functions v (has_setter label f this) h = bind_longer _ _ (call_value_on functions label (value.Object f) this (v ∷ []) h) (λ u. act _ (ret_steady tt))
  putting_on functions v (has_length label o) h = bind_longer _ _ (with_count_on label v _ _ (λ n given. act _ (set_length_steady false label o _ n given)) h) (λ u. act _ (ret_steady tt))

  -- ---- `instanceof`

  instance_by_on : (functions : List FunctionCode) (v : Val) (o : ObjId) (label : Label) (f : ℕ) {E D : Enters} → Alike E D → On Val (instance_by functions v o label f E) (instance_by functions v o label f D)
  unfolding instance_by
  instance_by_on functions v o label f h = record {
    on = λ s. (bind_longer _ _ (bind_longer _ _ (act _ (property_steady _ (called_value label f) (value.Object (id f)) prototype_name)) (λ a. access_on functions a h)) (λ proto. act _ (is_instance_steady _ o.0 proto.value))).on s;
  }

  instance_of_on : (functions : List FunctionCode) (v : Val) (o : Value) (label : Label) (aim : Aim) {E D : Enters} → Alike E D → On Val (instance_of functions v o label aim E) (instance_of functions v o label aim D)
  unfolding instance_of
  instance_of_on functions v (value.Primitive p) label aim h = act _ (ret_steady _)
  instance_of_on functions v (value.Object o) label aim h = instance_by_on functions v o _ aim.target.function h

  instance_if_on : (functions : List FunctionCode) (is_function : Bool) (v : Val) (label : Label) (f : ℕ) {E D : Enters} → Alike E D → On Val (instance_if functions is_function v label f E) (instance_if functions is_function v label f D)
  unfolding instance_if
  instance_if_on functions true v label f h = record { on = λ s. (instance_of_on functions v v.value label (aim_of s.heap f) h).on s }
  instance_if_on functions false v label f h = record { on = λ s. (act _ (throws_steady Val _ label)).on s }

  instance_on : (functions : List FunctionCode) (v : Val) (label : Label) (f : Value) {E D : Enters} → Alike E D → On Val (instance_value functions v label f E) (instance_value functions v label f D)
  unfolding instance_value
  instance_on functions v label (value.Primitive p) h = record { on = λ s. (act _ (throws_steady Val _ label)).on s }
  instance_on functions v label (value.Object f) h = record { on = λ s. (instance_if_on functions (is_function_in (slice_get s.heap f.0)) v label f.0 h).on s }

  -- ---- `try`

  -- a jump that has reached its frame
  stayed_on : {X : Type 0} (depth : ℕ) {o p : Outcome Halt Jump X State} → Lasts X o p → Lasts (Came X) (stay depth o) (stay depth p)
  unfolding stay
  stayed_on depth wants = wants
  stayed_on depth goes = goes
  stayed_on depth (jumps {j = j} {s = s}) = caught_on (nat_lt depth (length s.frames)) (caught j) j s
  stayed_on depth ends = ends

  stay_on : {X : Type 0} (depth : ℕ) {m n : L X} → On X m n → On (Came X) (λ s. stay depth (m s)) (λ s. stay depth (n s))
  stay_on depth l = record { on = λ s. stayed_on depth (l.on s) }

  react_on : (handles finishes : Bool) (f g : Val → L (Unit {0})) (depth : ℕ) (how : Came (Unit {0})) → ((v : Val) → On (Unit {0}) (f v) (g v)) → On (Came (Unit {0})) (react handles finishes f depth how) (react handles finishes g depth how)
  unfolding react
  react_on handles finishes f g depth (ended u) h = act _ (ret_steady (ended u))
  react_on handles finishes f g depth (caught j) h =
      choose_longer (handles && is_throw j.exit) (bind_longer _ _ (choose_longer finishes (act _ (ret_steady tt)) (act _ quiet_steady)) (λ u. stay_on depth (h j.value))) (act _ (ret_steady (caught j)))

  finish_on : (finishes : Bool) (m n : L (Unit {0})) (how : Came (Unit {0})) → On (Unit {0}) m n → On (Unit {0}) (finish finishes m how) (finish finishes n how)
  unfolding finish
  finish_on finishes m n how l = bind_longer _ _ (act _ quiet_steady) (λ u. bind_longer (resume how) (resume how) (choose_longer finishes l (act _ (ret_steady tt))) (λ x. act _ (resume_steady how)))

  attempt_on : (handles finishes : Bool) {m m' n n' : L (Unit {0})} (f g : Val → L (Unit {0})) → On (Unit {0}) m m' → ((v : Val) → On (Unit {0}) (f v) (g v)) → On (Unit {0}) n n' → On (Unit {0}) (attempt handles finishes m f n) (attempt handles finishes m' g n')
  attempt_on handles finishes {m} {m'} {n} {n'} f g l h q = bind_longer _ _
      (scope_on kind.Try bottom (λ depth. bind_longer _ _ (bind_longer _ _ (stay_on depth l) (λ how. react_on handles finishes f g depth how h)) (λ how. finish_on finishes n n' how q)))
      (λ c. act _ (ret_steady tt))

  module _ (tables : Tables) (inputs : Given) (set : BuiltIns) (functions : List FunctionCode) where
    -- the labelled meaning
    abbrev A : Ops
    A = labelled tables inputs set functions

    -- the labelled meaning, linked with itself
    pub lasting : Link (labelled tables inputs set functions) (labelled tables inputs set functions)
    lasting = record {
      W = Unit {0};
      Le = λ v w. Unit {0};
      RV = λ w v u. v ≡ u;
      RN = λ w n m. n ≡ m;
      RP = λ w i j. i ≡ j;
      RE = λ w e d. e ≡ d;
      Lift = λ t w m n. On (Res Val t) m n;
      Inside = λ v w. Unit {0};
      inside_v = λ p r. r;
      le_refl = λ w. tt;
      le_trans = λ p q. tt;
      more_v = λ p r. r;
      more_n = λ p r. r;
      more_p = λ p r. r;
      more_e = λ p r. r;
      place_of = λ {e = e} r. subst (λ (x : Env ℕ). e.place ≡ x.place) r refl;
      ret_one = λ w. act _ (ret_steady tt);
      ret_value = λ {a = a} r. at_equal ret ret r (act _ (ret_steady a));
      bind = λ t u {w = w} f g l h. bind_longer f g l (λ a. h w tt a a (equal_results Val t w a));
      literal = λ w v. refl;
      unary = λ o {v = v} r. at_equal (A.unary o) (A.unary o) r (act _ (unary_steady tables inputs set functions o v));
      binary = λ o {v = v} {u = u} {u' = u'} r q. at_equal (λ x. A.binary o x u) (λ x. A.binary o x u') r
          (at_equal (A.binary o v) (A.binary o v) q (act _ (given_steady (union v.label u.label) (binary_of o v.value u.value))));
      primitive = λ to {v = v} {E = E} {D = D} r h. at_equal (λ x. A.primitive to x E) (λ x. A.primitive to x D) r (converted_on (is_object v.value) to v.label v v h);
      comparable = λ {v = v} {u = u} {u' = u'} {E = E} {D = D} r q h. at_equal (λ x. A.comparable x u E) (λ x. A.comparable x u' D) r
          (at_equal (λ x. A.comparable v x E) (λ x. A.comparable v x D) q (converted_on (converts_beside v.value u.value) hint.Default (union v.label u.label) v (joined u.label v) h));
      look = λ {w = w} {v = v} f g r h. at_equal (λ x. A.look x f) (λ x. A.look x g) r (bind_longer _ _ (act _ (raise_steady v.label)) (λ u. record { on = λ s. (h w tt (seen s.heap v.value)).on s }));
      throw = λ {v = v} r. at_equal A.throw A.throw r (act _ (jump_steady Val bottom _));
      leave = λ t w name. act _ (ends_steady (Res Val t) (left name));
      act = λ a {vs = vs} r. at_equal (A.act a) (A.act a) (rels_equal r) (act _ (act_steady tables inputs a vs));
      resolve = λ t {w = w} {i = i} x f g p h. at_equal (λ j. A.resolve t j x f) (λ j. A.resolve t j x g) p (record { on = λ s. (h w tt (resolved s.records s.heap i x) (resolved s.records s.heap i x) refl).on s });
      property = λ r q. ap₂ (λ v u. A.property v u) r q;
      get_value = λ {n = n} {E = E} {D = D} r h. at_equal (λ x. A.get_value x E) (λ x. A.get_value x D) r (bind_longer _ _ (act _ (accessed_steady n)) (λ a. access_on functions a h));
      typeof_value = λ {n = n} {E = E} {D = D} r h. at_equal (λ x. A.typeof_value x E) (λ x. A.typeof_value x D) r (bind_longer _ _ (act _ (typeof_steady n)) (λ a. access_on functions a h));
      put_value = λ {n = n} {v = v} {v' = v'} {E = E} {D = D} r q h. at_equal (λ x. A.put_value x v E) (λ x. A.put_value x v' D) r
          (at_equal (λ x. A.put_value n x E) (λ x. A.put_value n x D) q (bind_longer _ _ (act _ (put_steady n v)) (λ p. putting_on functions v p h)));
      remove = λ {n = n} r. at_equal A.remove A.remove r (act _ (remove_steady n));
      define = λ key marks shape {base = b} {v = v} {g = g} {set = q} {base' = b'} {v' = v'} {g' = g'} {set' = q'} {E = E} {D = D} rb rv rg rq h. at_equal (λ x. A.define key marks shape x v g q E) (λ x. A.define key marks shape x v' g' q' D) rb
          (at_equal (λ x. A.define key marks shape b x g q E) (λ x. A.define key marks shape b x g' q' D) rv (at_equal (λ x. A.define key marks shape b v x q E) (λ x. A.define key marks shape b v x q' D) rg
          (at_equal (λ x. A.define key marks shape b v g x E) (λ x. A.define key marks shape b v g x D) rq (bind_longer _ _ (act _ (defining_steady key marks shape b v g q)) (λ d. defining_ends_on v d h)))));
      fork = λ t {w = w} {v = v} {m = m} {n = n} {m' = m'} {n' = n'} r l q. at_equal (λ x. A.fork t x m n) (λ x. A.fork t x m' n') r
          (bind_longer _ _ (scope_on kind.Branch v.label (λ depth. choose_longer (truth v.value) (l w tt) (q w tt))) (λ c. act _ (ret_steady (settled t c))));
      round = λ {w = w} turn labels {e = e} f g r h. at_equal (λ d. A.round turn labels d f) (λ d. A.round turn labels d g) r
          (bind_longer _ _ (scope_on (round_kind turn) bottom (λ depth. h w tt (with_around turn labels depth e) (with_around turn labels depth e) refl)) (λ c. act _ (ret_steady tt)));
      again = λ {v = v} {m = m} {n = n} {m' = m'} {n' = n'} r l q. at_equal (λ x. A.again x m n) (λ x. A.again x m' n') r
          (bind_longer _ _ (act _ (raise_steady v.label)) (λ u. choose_longer (truth v.value) l q));
      function = λ f {i = i} p. at_equal (A.function f) (A.function f) p (act _ (function_steady functions f i));
      jump = λ leaving {e = e} {v = v} {v' = v'} r q. at_equal (λ d. A.jump leaving d v) (λ d. A.jump leaving d v') r (at_equal (A.jump leaving e) (A.jump leaving e) q (act _ (jumps_steady (aimed 0 leaving e) v)));
      raise = λ leaving {e = e} names r. at_equal (λ d. A.raise leaving d names) (λ d. A.raise leaving d names) r (act _ (raised_steady tables inputs leaving (aimed 0 leaving e) (named_origins tables inputs names)));
      this_of = λ r. ap A.this_of r;
      instance = λ {v = v} {f = f} {f' = f'} {E = E} {D = D} r q h. at_equal (λ x. A.instance x f E) (λ x. A.instance x f' D) r (at_equal (λ x. A.instance v x E) (λ x. A.instance v x D) q (instance_on functions v f.label f.value h));
      declare = λ {w = w} name {v = v} {v' = v'} {e = e} {d = d} f g r q h. at_equal (λ x. A.declare name x e f) (λ x. A.declare name x d g) r (at_equal (λ d. A.declare name v d f) (λ d. A.declare name v d g) q
          (record { on = λ s. (h w tt (with_place (length s.records) e) (with_place (length s.records) e) refl).on (with_name e.place name v s) }));
      call = λ {f = f} {this = b} {f' = f'} {this' = b'} {vs = vs} {us = us} {E = E} {D = D} r q rs h. at_equal (λ x. A.call x b vs E) (λ x. A.call x b' us D) r (at_equal (λ x. A.call f x vs E) (λ x. A.call f x us D) q
          (at_equal (λ xs. A.call f b xs E) (λ xs. A.call f b xs D) (rels_equal rs) (call_value_on functions f.label f.value b vs h)));
      construct = λ {f = f} {f' = f'} {vs = vs} {us = us} {E = E} {D = D} r rs h. at_equal (λ x. A.construct x vs E) (λ x. A.construct x us D) r
          (at_equal (λ xs. A.construct f xs E) (λ xs. A.construct f xs D) (rels_equal rs) (construct_value_on set functions f.label f.value vs h));
      attempt = λ {w = w} handles finishes f g l h q. attempt_on handles finishes f g (l w tt) (λ v. h w tt v v refl) (q w tt);
      keys = λ {w = w} {v = v} f g r h. at_equal (λ x. A.keys x f) (λ x. A.keys x g) r (record { on = λ s. (list_on (key_list s.heap v.value) v.label f g (λ keys. h w tt keys)).on s });
    }

    -- a program, to a depth and a larger one
    program_lasts : (may : Bool) (program : Statements) (n m : ℕ) → n ≤ m → (e : Env ℕ) (s : State) → Lasts (Unit {0}) (program_step (timed tables inputs set functions) set n may program e s) (program_step (timed tables inputs set functions) set m may program e (more_turns_in k s))
    unfolding lasting
    program_lasts may program n m le e s =
        (program_longer (timed tables inputs set functions) (timed tables inputs set functions) lasting (λ w. record { on = λ s. spend_on s.turns s }) set (λ t w x. record { on = λ s. wants }) n m le may program {w = tt} {e = e} {d = e} refl).on s

  -- what a run prints and how it ends
  run_lasts : (o p : Outcome Halt Jump (Unit {0}) State) → Lasts (Unit {0}) o p → ((run_of o).ending ≡ halted (as_plain out_of_turns) → ⊥) → run_of p ≡ run_of o
  run_lasts _ _ wants out = absurd (out refl)
  run_lasts _ _ goes out = refl
  run_lasts _ _ jumps out = refl
  run_lasts _ _ ends out = refl

  -- with k more turns
  lasts : (set : BuiltIns) (tables : Tables) (inputs : Given) (program : Statements) (few : ℕ) → ((tracked_run set tables inputs program few).ending ≡ halted (as_plain out_of_turns) → ⊥)
      → tracked_run set tables inputs program (beyond k few) ≡ tracked_run set tables inputs program few
  unfolding tracked_run
  lasts set tables inputs program few out =
      run_lasts _ _ (program_lasts tables inputs set (functions_of program) (may_declare set program) program few (beyond k few) (few_beyond k few) (outermost_env 0) (start tables inputs set program few)) out

-- more turns change no run that ends otherwise
pub more_turns : MoreTurns
more_turns set tables inputs program few many le out = subst (λ n. tracked_run set tables inputs program n ≡ tracked_run set tables inputs program few) (beyond_few few many le) (lasts (many - few) set tables inputs program few out)
