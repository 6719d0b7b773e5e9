-- Performing the plan of a part is the labelled step of the part.
use Rattle.std.proofs.Common.{◌≡◌, ℕ, List, [], ◌∷◌, Option, Some, None, Bool, true, false, length, slice_get, nat_lt, ◌&&◌, refl, ◌∙◌, ap, ap₂, subst}
use Rattle.origin_labels.specs.Label.{Label, bottom, union}
use Rattle.flow_policy.specs.Policies.{Tables}
use Rattle.flow_policy.specs.Inputs.{Given}
use Rattle.flow_frames.specs.declared.kind.Kind.{Kind}
use Rattle.flow_frames.specs.declared.kind.Kind.TheVariants as kind
use Rattle.js_values.specs.declared.ids.ObjId.{ObjId}
use Rattle.js_values.specs.declared.value.Value.{Value as AnyValue}
use Rattle.js_values.specs.declared.value.Value.TheVariants as value
use Rattle.js_ast.specs.Trees.{body_of, Statements}
use Rattle.js_ast.specs.Functions.{FunctionCode}
use Rattle.native_protocol.specs.declared.hint.Hint.{Hint}
use Rattle.native_protocol.specs.declared.hint.Hint.TheVariants as hint
use Rattle.native_protocol.specs.declared.request.ErrorKind.TheVariants as kinds
use Rattle.prototype_walk.specs.KeyLists.{Keys}
use Rattle.es_meaning.specs.BuiltIns.{BuiltIns}
use Rattle.es_meaning.specs.Holders.{constructs_in}
use Rattle.es_meaning.specs.Outcomes.{left, Outcome, Goes, Jumps, Ends, ret, and_then, ◌>>=◌}
use Rattle.es_meaning.specs.Environments.{Env, with_around, with_place, aimed}
use Rattle.es_meaning.specs.Functions.{Callee, not_callable, empty_callee, of_script, of_built_in}
use Rattle.es_meaning.specs.Operations.{Ty, One, Value, Res, Ops, Visit, Rec}
use Rattle.es_meaning.specs.Operators.{is_object, truth, converts_beside, binary_of}
use Rattle.es_meaning.specs.Evaluation.{step, begun}
use Rattle.es_meaning.specs.Start.{id}
use Rattle.es_meaning.specs.Plain.{undefined, choose, is_throw, may_declare, outermost_env, prototype_name, count_of, is_count}
use Rattle.es_meaning.specs.Requested.{no_marks}
use Rattle.es_meaning.proofs.Link.{EnteringLinked, Visits, visits_of, Link, Linked}
use Rattle.es_meaning.proofs.RequestLinks.{step_linked, begun_linked}
use Rattle.es_meaning.proofs.Longer.{equal_results, rels_equal, same_rels}
use Rattle.flow_meaning.specs.Erased.{unlabelled}
use Rattle.flow_meaning.specs.Requested.{Aim, aim_of, is_function_in}
use Rattle.flow_meaning.specs.Scopes.{Val, joined, Halt, State, Jump, L, cut_to, pushed_on, Came, ended, caught, Left, popped, stay, scope, settled, settled_value, answer, construction, quiet, react, resume, finish, tried, round_kind, raise}
use Rattle.flow_meaning.specs.Tracked as tracked
use Rattle.flow_meaning.specs.Tracked.{throw_error, seen, Access, has_value, has_getter, accessed, accessed_for_typeof, property_of, Putting, is_put, has_setter, has_length, put_value, Defining, is_defined, has_length_given, defining, numbered, set_length, truth_of, with_call, callee_at, called_value, with_fresh, prototype_of, is_instance, with_name, named_origins, resolved, key_list, labelled}
use Rattle.flow_meaning.specs.Planned.{Part, an_expr, a_use, a_stmt, a_named, a_turn, a_visit, a_request, Completion, gave, jumped, Plan, Give, Ask, End, Then, and_plan, with_result, as_plan, outcome_of, end_branch, end_round, end_call, end_construction, as_stayed, with_stay, end_last, do_last, end_handler, do_handle, do_react, end_block, Enters, in_frame, enter_call, call_by, call_aimed, call_value, enter_construction, construct_built_in, construct_by, construct_aimed, construct_value, with_outcome, enter_access, end_putting, enter_putting, convert_by, Counted, convert_for_length, given_count, end_second, end_first, enter_count, enter_defining, end_instance, instance_by, instance_of, instance_if, instance_value, with_list, planned, asking, plan, program_plan, Ran, Evaluator, untyped, and_go, completed, perform, of_rec}
use Rattle.flow_meaning.proofs.Steady.{Steady, Holds, holds, ret_steady, ends_steady, given_steady, raise_steady, unary_steady, accessed_steady, typeof_steady, put_steady, defining_steady, set_length_steady, numbered_steady, property_steady, is_instance_steady, remove_steady, act_steady, throws_steady, function_steady, jump_steady, jumps_steady, raised_steady, quiet_steady, resume_steady}

-- ---- no part of a plan but what it asks for changes the turns

-- from so many turns
abbrev pub Keeps : ℕ → Plan → Type 0
Keeps n (Give c s) = s.turns ≡ n
Keeps n (Ask part s go_on) = (s.turns ≡ n) × ((c : Completion) (t : State) → Keeps t.turns (go_on c t))
Keeps n (End halt s) = Unit {0}

-- what follows a plan
keeps_and : (n : ℕ) (p : Plan) (next : Then) → Keeps n p → ((c : Completion) (s : State) → Keeps s.turns (next c s)) → Keeps n (and_plan p next)
keeps_and n (Give c s) next e h = subst (λ m. Keeps m (next c s)) e (h c s)
keeps_and n (Ask part s go_on) next e h = (e.0, λ c t. keeps_and t.turns (go_on c t) next (e.1 c t) h)
keeps_and n (End halt s) next e h = tt

-- an outcome as a plan
keeps_as : (t : Ty) (n : ℕ) (o : Outcome Halt Jump (Res Val t) State) → Holds n o → Keeps n (as_plan t o)
keeps_as t n (Goes a s) h = h
keeps_as t n (Jumps j s) h = h
keeps_as t n (Ends halt s) h = tt

-- ---- the end of a frame changes no turns

-- a jump at the end of a frame
holds_caught : {X : Type 0} (b : Bool) (a : X) (j : Jump) (s : State) → Holds s.turns (choose b (Goes a s) (Jumps j s))
holds_caught true a j s = refl
holds_caught false a j s = refl

-- the frame at a depth is popped behind a part
popped_holds : (t : Ty) (depth : ℕ) (c : Completion) (s : State) → Holds s.turns (popped depth (outcome_of t c s))
unfolding popped
popped_holds t depth (gave v) s = refl
popped_holds t depth (jumped j) s = holds_caught (nat_lt depth (length s.frames)) _ j (cut_to depth s)

-- and a result is given
given_holds : {X Y : Type 0} (n : ℕ) (o : Outcome Halt Jump X State) (f : X → Y) → Holds n o → Holds n (and_then o (λ a. ret (f a)))
given_holds n (Goes a s) f h = h
given_holds n (Jumps j s) f h = h
given_holds n (Ends halt s) f h = h

-- what is done at the end of a frame
abbrev end_of : (t : Ty) (X : Type 0) → (Left (Res Val t) → X) → ℕ → Completion → State → Outcome Halt Jump X State
end_of t X f depth c s = and_then (popped depth (outcome_of t c s)) (λ l. ret (f l))

-- it keeps the turns
keeps_end : (t u : Ty) (f : Left (Res Val t) → Res Val u) (depth : ℕ) (c : Completion) (s : State) → Keeps s.turns (as_plan u (end_of t (Res Val u) f depth c s))
keeps_end t u f depth c s = keeps_as u s.turns (end_of t (Res Val u) f depth c s) (given_holds s.turns (popped depth (outcome_of t c s)) f (popped_holds t depth c s))

-- ---- performing

-- two computations behind another
pub and_go_twice : (o : Ran) (f g h : Completion → State → Ran) → ((c : Completion) (s : State) → f c s ≡ and_go (g c s) h) → and_go o f ≡ and_go (and_go o g) h
unfolding and_go
and_go_twice (Goes v s) f g h e = e (gave v) s
and_go_twice (Jumps j s) f g h e = e (jumped j) s
and_go_twice (Ends halt s) f g h e = refl

-- a plan, and what follows it
pub perform_and : (e : Evaluator) (p : Plan) (next : Then) → perform e (and_plan p next) ≡ and_go (perform e p) (λ c s. perform e (next c s))
unfolding perform and_go completed
perform_and e (Give (gave v) s) next = refl
perform_and e (Give (jumped j) s) next = refl
perform_and e (Ask part s go_on) next = and_go_twice (e part s) _ (λ c t. perform e (go_on c t)) _ (λ c t. perform_and e (go_on c t) next)
perform_and e (End halt s) next = refl

-- an outcome as a plan
perform_as : (e : Evaluator) (t : Ty) (o : Outcome Halt Jump (Res Val t) State) → perform e (as_plan t o) ≡ untyped t o
unfolding perform completed
perform_as e t (Goes a s) = refl
perform_as e t (Jumps j s) = refl
perform_as e t (Ends halt s) = refl

-- nothing is done with a completion
pub and_give : (e : Evaluator) (o : Ran) → and_go o (λ c s. perform e (Give c s)) ≡ o
unfolding perform and_go completed
and_give e (Goes v s) = refl
and_give e (Jumps j s) = refl
and_give e (Ends halt s) = refl

-- a part that is asked for
pub perform_asked : (e : Evaluator) (part : Part) (s : State) → perform e (Ask part s Give) ≡ e part s
unfolding perform
perform_asked e part s = and_give e (e part s)

module _ (tables : Tables) (inputs : Given) (set : BuiltIns) (functions : List FunctionCode) (Q : Rec (labelled tables inputs set functions)) where
  -- the meaning of the parts
  abbrev evaluator : Evaluator
  evaluator = of_rec tables inputs set functions Q

  -- the plans
  abbrev A : Ops
  A = planned tables inputs set functions

  -- the labelled meaning
  abbrev B : Ops
  B = labelled tables inputs set functions

  -- a plan that does what a computation does
  pub record Lift (t : Ty) (m : State → Plan) (n : L (Res Val t)) : Type 0 where
    pub same : (s : State) → perform evaluator (m s) ≡ untyped t (n s)
    pub keeps : (s : State) → Keeps s.turns (m s)

  -- of equal values
  at_equal : {t : Ty} {V : Type 0} {v u : V} (m : State → Plan) (g : V → L (Res Val t)) → v ≡ u → Lift t m (g v) → Lift t m (g u)
  at_equal {t} m g e l = subst (λ x. Lift t m (g x)) e l

  -- an act
  act : (t : Ty) (n : L (Res Val t)) → Steady n → Lift t (λ s. as_plan t (n s)) n
  act t n l = record { same = λ s. perform_as evaluator t (n s); keeps = λ s. keeps_as t s.turns (n s) (holds n l s) }

  -- a plan, and what is done with its completion
  follow : (t : Ty) (m : State → Plan) (next : Then) (s : State) (o : Outcome Halt Jump (Res Val t) State) (p : Ran)
      → perform evaluator (m s) ≡ untyped t o → and_go (untyped t o) (λ c s. perform evaluator (next c s)) ≡ p → perform evaluator (and_plan (m s) next) ≡ p
  follow t m next s o p e h = perform_and evaluator (m s) next ∙ ap (λ o. and_go o (λ c s. perform evaluator (next c s))) e ∙ h

  -- ---- computations that follow each other

  -- the value goes to what follows, and a jump passes it
  after_bind : (t u : Ty) (f : Res Val t → State → Plan) (g : Res Val t → L (Res Val u)) → ((a : Res Val t) → Lift u (f a) (g a))
      → (o : Outcome Halt Jump (Res Val t) State) → and_go (untyped t o) (λ c s. perform evaluator (with_result t f c s)) ≡ untyped u (and_then o g)
  unfolding and_go perform completed
  after_bind One u f g h (Goes a s) = (h a).same s
  after_bind Value u f g h (Goes a s) = (h a).same s
  after_bind t u f g h (Jumps j s) = refl
  after_bind t u f g h (Ends halt s) = refl

  -- which keeps the turns
  keeps_result : (t : Ty) (f : Res Val t → State → Plan) → ((a : Res Val t) (s : State) → Keeps s.turns (f a s)) → (c : Completion) (s : State) → Keeps s.turns (with_result t f c s)
  keeps_result One f h (gave v) s = h tt s
  keeps_result Value f h (gave v) s = h v s
  keeps_result t f h (jumped j) s = refl

  -- one computation, and then the next
  bind_performed : (t u : Ty) {m : State → Plan} {n : L (Res Val t)} (f : Res Val t → State → Plan) (g : Res Val t → L (Res Val u))
      → Lift t m n → ((a : Res Val t) → Lift u (f a) (g a)) → Lift u (λ s. and_plan (m s) (with_result t f)) (n >>= g)
  bind_performed t u {m} {n} f g l h = record {
    same = λ s. follow t m (with_result t f) s (n s) _ (l.same s) (after_bind t u f g h (n s));
    keeps = λ s. keeps_and s.turns (m s) (with_result t f) (l.keeps s) (keeps_result t f (λ a s. (h a).keeps s));
  }

  -- ---- scopes

  -- one of two
  choose_performed : {t : Ty} (b : Bool) {m n : State → Plan} {m' n' : L (Res Val t)} → Lift t m m' → Lift t n n' → Lift t (choose b m n) (choose b m' n')
  choose_performed true l k = l
  choose_performed false l k = k

  -- the end of a frame
  after_scope : (t u : Ty) (f : Left (Res Val t) → Res Val u) (depth : ℕ) (o : Outcome Halt Jump (Res Val t) State)
      → and_go (untyped t o) (λ c s. perform evaluator (as_plan u (end_of t (Res Val u) f depth c s))) ≡ untyped u (and_then (popped depth o) (λ l. ret (f l)))
  unfolding and_go popped
  after_scope One u f depth (Goes a s) = perform_as evaluator u (and_then (popped depth (Goes a s)) (λ l. ret (f l)))
  after_scope Value u f depth (Goes a s) = perform_as evaluator u (and_then (popped depth (Goes a s)) (λ l. ret (f l)))
  after_scope t u f depth (Jumps j s) = perform_as evaluator u (and_then (popped depth (Jumps j s)) (λ l. ret (f l)))
  after_scope t u f depth (Ends halt s) = refl

  -- what is done in a frame of its own
  scope_performed : (t u : Ty) (kind : Kind) (label : Label) (f : Left (Res Val t) → Res Val u) {m : ℕ → State → Plan} {n : ℕ → L (Res Val t)} → ((depth : ℕ) → Lift t (m depth) (n depth))
      → Lift u (λ s. and_plan (m (length s.frames) (pushed_on kind label s)) (λ c s'. as_plan u (end_of t (Res Val u) f (length s.frames) c s'))) (scope kind label n >>= λ l. ret (f l))
  scope_performed t u kind label f {m} {n} l = record {
    same = λ s. let depth = length s.frames in
        follow t (m depth) (λ c s'. as_plan u (end_of t (Res Val u) f depth c s')) (pushed_on kind label s) (n depth (pushed_on kind label s)) _ ((l depth).same (pushed_on kind label s)) (after_scope t u f depth (n depth (pushed_on kind label s)));
    keeps = λ s. let depth = length s.frames in
        keeps_and s.turns (m depth (pushed_on kind label s)) (λ c s'. as_plan u (end_of t (Res Val u) f depth c s')) ((l depth).keeps (pushed_on kind label s)) (keeps_end t u f depth);
  }

  -- a branch
  fork_performed : (t : Ty) (v : Val) {m n : State → Plan} {m' n' : L (Res Val t)} → Lift t m m' → Lift t n n' → Lift t (A.fork t v m n) (B.fork t v m' n')
  unfolding end_branch
  fork_performed t v {m} {n} {m'} {n'} l k = scope_performed t t kind.Branch v.label (settled t) {m = λ depth. choose (truth v.value) m n} {n = λ depth. choose (truth v.value) m' n'} (λ depth. choose_performed (truth v.value) l k)

  -- a loop or a turn
  round_performed : (turn : Bool) (labels : List (Option (List ℕ))) (e : Env ℕ) {m : Env ℕ → State → Plan} {n : Env ℕ → L (Unit {0})} → ((d : Env ℕ) → Lift One (m d) (n d)) → Lift One (A.round turn labels e m) (B.round turn labels e n)
  unfolding end_round
  round_performed turn labels e {m} {n} l = scope_performed One One (round_kind turn) bottom (λ c. tt) {m = λ depth. m (with_around turn labels depth e)} {n = λ depth. n (with_around turn labels depth e)} (λ depth. l (with_around turn labels depth e))

  -- a value that is given in a frame of its own
  framed : (kind : Kind) (label : Label) {m : State → Plan} {n : L Val} → Lift Value m n → Lift Value (in_frame kind label m) (scope kind label (λ depth. n) >>= λ c. ret (settled_value c))
  unfolding end_branch
  framed kind label {m} {n} l = scope_performed Value Value kind label (settled Value) {m = λ depth. m} {n = λ depth. n} (λ depth. l)

  -- ---- what a read or a put comes to, and what is done behind it

  after_outcome : {X : Type 0} (t : Ty) (f : X → State → Plan) (g : X → L (Res Val t)) → ((x : X) → Lift t (f x) (g x)) → (o : Outcome Halt Jump X State) → perform evaluator (with_outcome o f) ≡ untyped t (and_then o g)
  unfolding perform completed
  after_outcome t f g h (Goes x s) = (h x).same s
  after_outcome t f g h (Jumps j s) = refl
  after_outcome t f g h (Ends halt s) = refl

  keeps_outcome : {X : Type 0} (n : ℕ) (f : X → State → Plan) → ((x : X) (s : State) → Keeps s.turns (f x s)) → (o : Outcome Halt Jump X State) → Holds n o → Keeps n (with_outcome o f)
  keeps_outcome n f h (Goes x s) e = subst (λ m. Keeps m (f x s)) e (h x s)
  keeps_outcome n f h (Jumps j s) e = e
  keeps_outcome n f h (Ends halt s) e = tt

  outcome_performed : {X : Type 0} (t : Ty) (m : L X) (f : X → State → Plan) (g : X → L (Res Val t)) → Steady m → ((x : X) → Lift t (f x) (g x)) → Lift t (λ s. with_outcome (m s) f) (m >>= g)
  outcome_performed t m f g l h = record { same = λ s. after_outcome t f g h (m s); keeps = λ s. keeps_outcome s.turns f (λ x s. (h x).keeps s) (m s) (holds m l s) }

  -- ---- calls

  -- what is called is entered alike
  abbrev Alike : Enters → tracked.Enters → Type 0
  Alike E D = EnteringLinked (Unit {0}) (λ w v u. v ≡ u) (λ w e d. e ≡ d) (λ t w m n. Lift t m n) E D

  -- the engine throws
  throws : (t : Ty) (label : Label) → Lift t (λ s. as_plan t (throw_error kinds.TypeError label s)) (throw_error kinds.TypeError label)
  throws t label = act t (throw_error kinds.TypeError label) (throws_steady (Res Val t) kinds.TypeError label)

  -- in the frame of a call
  entered_performed : (callee : Callee) (label : Label) (this : Val) (args : List Val) {E : Enters} {D : tracked.Enters} (depth : ℕ) → Alike E D
      → Lift One (enter_call functions callee label this args E depth) (tracked.entered functions callee label this args D depth)
  unfolding enter_call tracked.entered with_call perform completed
  entered_performed not_callable label this args depth h = record { same = λ s. (throws One label).same s; keeps = λ s. (throws One label).keeps s }
  entered_performed empty_callee label this args depth h = record { same = λ s. refl; keeps = λ s. refl }
  entered_performed (of_built_in which) label this args depth h = record { same = λ s. (throws One label).same s; keeps = λ s. (throws One label).keeps s }
  entered_performed (of_script number f place) label this args depth h = record {
    same = λ s. (h.body tt (body_of f) _ _ refl).same (with_call functions number f place this args s);
    keeps = λ s. (h.body tt (body_of f) _ _ refl).keeps (with_call functions number f place this args s);
  }

  called_performed : (callee : Callee) (label : Label) (this : Val) (args : List Val) {E : Enters} {D : tracked.Enters} → Alike E D
      → Lift Value (λ s. and_plan (enter_call functions callee label this args E (length s.frames) (pushed_on kind.Call label s)) (end_call (length s.frames)))
      (scope kind.Call label (λ depth. tracked.entered functions callee label this args D depth) >>= λ c. ret (answer c))
  unfolding end_call
  called_performed callee label this args {E} {D} h = scope_performed One Value kind.Call label answer
      {m = λ depth. enter_call functions callee label this args E depth} {n = λ depth. tracked.entered functions callee label this args D depth} (λ depth. entered_performed callee label this args depth h)

  call_by_performed : (callee : Callee) (label : Label) (o : ℕ) (this : Val) (args : List Val) {E : Enters} {D : tracked.Enters} → Alike E D
      → Lift Value (call_by functions callee label o this args E) (tracked.call_by functions callee label o this args D)
  unfolding call_by tracked.call_by
  call_by_performed not_callable label o this args h = let l = called_performed not_callable label this args h in record { same = λ s. l.same s; keeps = λ s. l.keeps s }
  call_by_performed empty_callee label o this args h = let l = called_performed empty_callee label this args h in record { same = λ s. l.same s; keeps = λ s. l.keeps s }
  call_by_performed (of_built_in which) label o this args h = let l = framed kind.Native label (h.built_in tt which false _ _ (same_rels (this ∷ called_value label o ∷ args))) in record { same = λ s. l.same s; keeps = λ s. l.keeps s }
  call_by_performed (of_script number f place) label o this args h = let l = called_performed (of_script number f place) label this args h in record { same = λ s. l.same s; keeps = λ s. l.keeps s }

  call_aimed_performed : (label : Label) (aim : Aim) (this : Val) (args : List Val) {E : Enters} {D : tracked.Enters} → Alike E D → Lift Value (call_aimed functions label aim this args E) (tracked.call_aimed functions label aim this args D)
  unfolding call_aimed tracked.call_aimed
  call_aimed_performed label aim this args h = record {
    same = λ s. (call_by_performed (callee_at functions s.heap aim.target.function) _ aim.target.function _ _ h).same s;
    keeps = λ s. (call_by_performed (callee_at functions s.heap aim.target.function) _ aim.target.function _ _ h).keeps s;
  }

  call_performed : (label : Label) (v : AnyValue) (this : Val) (args : List Val) {E : Enters} {D : tracked.Enters} → Alike E D → Lift Value (call_value functions label v this args E) (tracked.call_value functions label v this args D)
  unfolding call_value tracked.call_value
  call_performed label (value.Primitive p) this args h = let l = call_by_performed not_callable label 0 this args h in record { same = λ s. l.same s; keeps = λ s. l.keeps s }
  call_performed label (value.Object o) this args h = record { same = λ s. (call_aimed_performed label (aim_of s.heap o.0) this args h).same s; keeps = λ s. (call_aimed_performed label (aim_of s.heap o.0) this args h).keeps s }

  -- and of a construction
  constructed_performed : (callee : Callee) (label : Label) (o : ℕ) (args : List Val) {E : Enters} {D : tracked.Enters} (depth : ℕ) → Alike E D
      → Lift One (enter_construction functions callee label o args E depth) (tracked.constructed functions callee label o args D depth)
  unfolding enter_construction tracked.constructed
  constructed_performed not_callable label o args depth h = record { same = λ s. (throws One label).same s; keeps = λ s. (throws One label).keeps s }
  constructed_performed empty_callee label o args depth h = record { same = λ s. (throws One label).same s; keeps = λ s. (throws One label).keeps s }
  constructed_performed (of_built_in which) label o args depth h = record { same = λ s. (throws One label).same s; keeps = λ s. (throws One label).keeps s }
  constructed_performed (of_script number code place) label o args depth h = record {
    same = λ s. (entered_performed (of_script number code place) label _ args depth h).same (with_fresh (prototype_of s.heap o) s);
    keeps = λ s. (entered_performed (of_script number code place) label _ args depth h).keeps (with_fresh (prototype_of s.heap o) s);
  }

  built_performed : (fresh : ℕ) (callee : Callee) (label : Label) (o : ℕ) (args : List Val) {E : Enters} {D : tracked.Enters} → Alike E D
      → Lift Value (λ s. and_plan (enter_construction functions callee label o args E (length s.frames) (pushed_on kind.Call label s)) (end_construction fresh (length s.frames)))
      (scope kind.Call label (λ depth. tracked.constructed functions callee label o args D depth) >>= λ c. ret (construction fresh c))
  unfolding end_construction
  built_performed fresh callee label o args {E} {D} h = scope_performed One Value kind.Call label (construction fresh)
      {m = λ depth. enter_construction functions callee label o args E depth} {n = λ depth. tracked.constructed functions callee label o args D depth} (λ depth. constructed_performed callee label o args depth h)

  built_in_performed : (which : ℕ) (label : Label) (o : ℕ) (args : List Val) {E : Enters} {D : tracked.Enters} → Alike E D → Lift Value (construct_built_in set which label o args E) (tracked.construct_built_in set which label o args D)
  unfolding construct_built_in tracked.construct_built_in
  built_in_performed which label o args h = choose_performed (constructs_in set which) (h.built_in tt which true _ _ (same_rels (unlabelled undefined ∷ called_value label o ∷ args))) (throws Value label)

  construct_by_performed : (callee : Callee) (label : Label) (o : ℕ) (args : List Val) {E : Enters} {D : tracked.Enters} → Alike E D
      → Lift Value (construct_by set functions callee label o args E) (tracked.construct_by set functions callee label o args D)
  unfolding construct_by tracked.construct_by
  construct_by_performed not_callable label o args h = record { same = λ s. (built_performed (length s.heap) not_callable label o args h).same s; keeps = λ s. (built_performed (length s.heap) not_callable label o args h).keeps s }
  construct_by_performed empty_callee label o args h = record { same = λ s. (built_performed (length s.heap) empty_callee label o args h).same s; keeps = λ s. (built_performed (length s.heap) empty_callee label o args h).keeps s }
  construct_by_performed (of_built_in which) label o args h = let l = framed kind.Native label (built_in_performed which label o args h) in record { same = λ s. l.same s; keeps = λ s. l.keeps s }
  construct_by_performed (of_script number code place) label o args h = record {
    same = λ s. (built_performed (length s.heap) (of_script number code place) label o args h).same s;
    keeps = λ s. (built_performed (length s.heap) (of_script number code place) label o args h).keeps s;
  }

  construct_aimed_performed : (label : Label) (aim : Aim) (args : List Val) {E : Enters} {D : tracked.Enters} → Alike E D → Lift Value (construct_aimed set functions label aim args E) (tracked.construct_aimed set functions label aim args D)
  unfolding construct_aimed tracked.construct_aimed
  construct_aimed_performed label aim args h = record {
    same = λ s. (construct_by_performed (callee_at functions s.heap aim.target.function) _ aim.target.function _ h).same s;
    keeps = λ s. (construct_by_performed (callee_at functions s.heap aim.target.function) _ aim.target.function _ h).keeps s;
  }

  construct_performed : (label : Label) (v : AnyValue) (args : List Val) {E : Enters} {D : tracked.Enters} → Alike E D → Lift Value (construct_value set functions label v args E) (tracked.construct_value set functions label v args D)
  unfolding construct_value tracked.construct_value
  construct_performed label (value.Primitive p) args h = let l = construct_by_performed not_callable label 0 args h in record { same = λ s. l.same s; keeps = λ s. l.keeps s }
  construct_performed label (value.Object o) args h = record { same = λ s. (construct_aimed_performed label (aim_of s.heap o.0) args h).same s; keeps = λ s. (construct_aimed_performed label (aim_of s.heap o.0) args h).keeps s }

  -- ---- getters, setters, and the conversion of objects

  access_performed : (a : Access) {E : Enters} {D : tracked.Enters} → Alike E D → Lift Value (enter_access functions E a) (tracked.entered_access functions D a)
  unfolding enter_access tracked.entered_access
  access_performed (has_value v) h = let l = act Value (ret v) (ret_steady v) in record { same = λ s. l.same s; keeps = λ s. l.keeps s }
  access_performed (has_getter label f this) h = let l = call_performed label (value.Object f) this [] h in record { same = λ s. l.same s; keeps = λ s. l.keeps s }

  converted_performed : (converts : Bool) (to : Hint) (label : Label) (v given : Val) {E : Enters} {D : tracked.Enters} → Alike E D → Lift Value (convert_by converts E to label v given) (tracked.converted_by converts D to label v given)
  unfolding convert_by tracked.converted_by tracked.convert
  converted_performed true to label v given h = let l = framed kind.Native label (h.conversion tt to v v refl) in record { same = λ s. l.same s; keeps = λ s. l.keeps s }
  converted_performed false to label v given h = let l = act Value (ret given) (ret_steady given) in record { same = λ s. l.same s; keeps = λ s. l.keeps s }

  -- a value for the `length` of an array
  for_length_performed : (label : Label) (v : Val) {E : Enters} {D : tracked.Enters} → Alike E D → Lift Value (convert_for_length E label v) (tracked.converted_for_length D label v)
  unfolding tracked.converted_for_length
  for_length_performed label v h = let l = converted_performed (is_object v.value) hint.Number (union label v.label) v v h in record { same = λ s. l.same s; keeps = λ s. l.keeps s }

  given_count_performed : (is : Bool) (n : ℕ) (given label : Label) (f : Counted) (g : ℕ → Label → L Val) → ((n : ℕ) (given : Label) → Lift Value (f n given) (g n given)) → Lift Value (given_count is n given label f) (tracked.given_count is n given label g)
  unfolding given_count tracked.given_count
  given_count_performed true n given label f g next = record { same = λ s. (next n given).same s; keeps = λ s. (next n given).keeps s }
  given_count_performed false n given label f g next =
      let l = act Value (throw_error kinds.RangeError (union label given)) (throws_steady Val kinds.RangeError (union label given)) in record { same = λ s. l.same s; keeps = λ s. l.keeps s }

  with_count_performed : (label : Label) (v : Val) (f : Counted) (g : ℕ → Label → L Val) → ((n : ℕ) (given : Label) → Lift Value (f n given) (g n given)) → {E : Enters} {D : tracked.Enters} → Alike E D
      → Lift Value (enter_count E label v f) (tracked.with_count D label v g)
  unfolding enter_count end_first end_second tracked.with_count
  with_count_performed label v f g next {E} {D} h =
      let l = bind_performed Value Value _ _ (for_length_performed label v h) λ first. outcome_performed Value (numbered first) _ _ (numbered_steady first) λ m.
      bind_performed Value Value _ _ (for_length_performed label v h) λ second. outcome_performed Value (numbered second) _ _ (numbered_steady second) λ n.
      given_count_performed (is_count m n) (count_of m) (union first.label second.label) label f g next in
      record { same = λ s. l.same s; keeps = λ s. l.keeps s }

  defining_performed : (v : Val) (d : Defining) {E : Enters} {D : tracked.Enters} → Alike E D → Lift Value (enter_defining E v d) (tracked.entered_defining D v d)
  unfolding enter_defining tracked.entered_defining
  defining_performed v (is_defined label) h = let l = act Value (ret (record { value = undefined; label = label })) (ret_steady _) in record { same = λ s. l.same s; keeps = λ s. l.keeps s }
  defining_performed v (has_length_given label o marks) h =
      let l = with_count_performed label v _ (set_length true label o marks) (λ n given. act Value (set_length true label o marks n given) (set_length_steady true label o marks n given)) h in record { same = λ s. l.same s; keeps = λ s. l.keeps s }

  putting_performed : (v : Val) (p : Putting) {E : Enters} {D : tracked.Enters} → Alike E D → Lift One (enter_putting functions E v p) (tracked.entered_putting functions D v p)
  unfolding enter_putting tracked.entered_putting end_putting
  putting_performed v is_put h = let l = act One (ret tt) (ret_steady tt) in record { same = λ s. l.same s; keeps = λ s. l.keeps s }
  putting_performed v (has_setter label f this) h =
      let l = bind_performed Value One (λ u s. Give (gave (unlabelled undefined)) s) (λ u. ret tt) (call_performed label (value.Object f) this (v ∷ []) h) (λ u. act One (ret tt) (ret_steady tt)) in record { same = λ s. l.same s; keeps = λ s. l.keeps s }
  putting_performed v (has_length label o) h =
      let l = bind_performed Value One (λ u s. Give (gave (unlabelled undefined)) s) (λ u. ret tt)
      (with_count_performed label v _ (set_length false label o no_marks) (λ n given. act Value (set_length false label o no_marks n given) (set_length_steady false label o no_marks n given)) h) (λ u. act One (ret tt) (ret_steady tt)) in
      record { same = λ s. l.same s; keeps = λ s. l.keeps s }

  -- ---- `instanceof`

  instance_by_performed : (v : Val) (o : ObjId) (label : Label) (f : ℕ) {E : Enters} {D : tracked.Enters} → Alike E D → Lift Value (instance_by functions v o label f E) (tracked.instance_by functions v o label f D)
  unfolding instance_by tracked.instance_by end_instance
  instance_by_performed v o label f {E} {D} h =
      let l = bind_performed Value Value (λ proto s. as_plan Value (is_instance (union (union v.label label) proto.label) o.0 proto.value s)) (λ proto. is_instance (union (union v.label label) proto.label) o.0 proto.value)
      (outcome_performed Value (property_of (union v.label label) (called_value label f) (value.Object (id f)) prototype_name) (enter_access functions E) (tracked.entered_access functions D) (property_steady _ _ _ _) (λ a. access_performed a h))
      (λ proto. act Value (is_instance (union (union v.label label) proto.label) o.0 proto.value) (is_instance_steady _ o.0 proto.value)) in
      record { same = λ s. l.same s; keeps = λ s. l.keeps s }

  instance_of_performed : (v : Val) (o : AnyValue) (label : Label) (aim : Aim) {E : Enters} {D : tracked.Enters} → Alike E D → Lift Value (instance_of functions v o label aim E) (tracked.instance_of functions v o label aim D)
  unfolding instance_of tracked.instance_of
  instance_of_performed v (value.Primitive p) label aim h = let l = act Value (ret (truth_of false (union v.label label))) (ret_steady _) in record { same = λ s. l.same s; keeps = λ s. l.keeps s }
  instance_of_performed v (value.Object o) label aim h = let l = instance_by_performed v o (union label aim.label) aim.target.function h in record { same = λ s. l.same s; keeps = λ s. l.keeps s }

  instance_if_performed : (is_function : Bool) (v : Val) (label : Label) (f : ℕ) {E : Enters} {D : tracked.Enters} → Alike E D → Lift Value (instance_if functions is_function v label f E) (tracked.instance_if functions is_function v label f D)
  unfolding instance_if tracked.instance_if
  instance_if_performed true v label f h = record { same = λ s. (instance_of_performed v v.value label (aim_of s.heap f) h).same s; keeps = λ s. (instance_of_performed v v.value label (aim_of s.heap f) h).keeps s }
  instance_if_performed false v label f h = record { same = λ s. (throws Value label).same s; keeps = λ s. (throws Value label).keeps s }

  instance_performed : (v : Val) (label : Label) (f : AnyValue) {E : Enters} {D : tracked.Enters} → Alike E D → Lift Value (instance_value functions v label f E) (tracked.instance_value functions v label f D)
  unfolding instance_value tracked.instance_value
  instance_performed v label (value.Primitive p) h = record { same = λ s. (throws Value label).same s; keeps = λ s. (throws Value label).keeps s }
  instance_performed v label (value.Object f) h = record {
    same = λ s. (instance_if_performed (is_function_in (slice_get s.heap f.0)) v label f.0 h).same s;
    keeps = λ s. (instance_if_performed (is_function_in (slice_get s.heap f.0)) v label f.0 h).keeps s;
  }

  -- ---- `try`

  -- a plan that does what an equal computation does
  along : {t : Ty} {m : State → Plan} (n n' : L (Res Val t)) → ((s : State) → n s ≡ n' s) → Lift t m n → Lift t m n'
  along {t} n n' e l = record { same = λ s. l.same s ∙ ap (untyped t) (e s); keeps = λ s. l.keeps s }

  -- computations behind each other
  then_twice : {X Y Z : Type 0} (o : Outcome Halt Jump X State) (f : X → L Y) (g : Y → L Z) → and_then o (λ a s. and_then (f a s) g) ≡ and_then (and_then o f) g
  then_twice (Goes a s) f g = refl
  then_twice (Jumps j s) f g = refl
  then_twice (Ends halt s) f g = refl

  -- a jump that has reached its frame stays
  stayed : (b : Bool) (j : Jump) (s : State) (f : Came (Unit {0}) → State → Plan) (g : Came (Unit {0}) → L (Unit {0})) → ((how : Came (Unit {0})) → Lift One (f how) (g how))
      → perform evaluator (as_stayed (choose b (Goes (caught j) s) (Jumps j s)) f) ≡ untyped One (and_then (choose b (Goes (caught j) s) (Jumps j s)) g)
  unfolding perform completed
  stayed true j s f g h = (h (caught j)).same s
  stayed false j s f g h = refl

  stayed_keeps : (b : Bool) (j : Jump) (s : State) (f : Came (Unit {0}) → State → Plan) → ((how : Came (Unit {0})) (s : State) → Keeps s.turns (f how s)) → Keeps s.turns (as_stayed (choose b (Goes (caught j) s) (Jumps j s)) f)
  stayed_keeps true j s f h = h (caught j) s
  stayed_keeps false j s f h = refl

  after_stay : (depth : ℕ) (f : Came (Unit {0}) → State → Plan) (g : Came (Unit {0}) → L (Unit {0})) → ((how : Came (Unit {0})) → Lift One (f how) (g how))
      → (o : Outcome Halt Jump (Unit {0}) State) → and_go (untyped One o) (λ c s. perform evaluator (with_stay depth f c s)) ≡ untyped One (and_then (stay depth o) g)
  unfolding and_go stay
  after_stay depth f g h (Goes a s) = (h (ended a)).same s
  after_stay depth f g h (Jumps j s) = stayed (nat_lt depth (length s.frames)) j s f g h
  after_stay depth f g h (Ends halt s) = refl

  keeps_stay : (depth : ℕ) (f : Came (Unit {0}) → State → Plan) → ((how : Came (Unit {0})) (s : State) → Keeps s.turns (f how s)) → (c : Completion) (s : State) → Keeps s.turns (with_stay depth f c s)
  unfolding stay
  keeps_stay depth f h (gave v) s = h (ended tt) s
  keeps_stay depth f h (jumped j) s = stayed_keeps (nat_lt depth (length s.frames)) j s f h

  stay_performed : (depth : ℕ) {m : State → Plan} {n : L (Unit {0})} (f : Came (Unit {0}) → State → Plan) (g : Came (Unit {0}) → L (Unit {0})) → Lift One m n → ((how : Came (Unit {0})) → Lift One (f how) (g how))
      → Lift One (λ s. and_plan (m s) (with_stay depth f)) (λ s. and_then (stay depth (n s)) g)
  stay_performed depth {m} {n} f g l h = record {
    same = λ s. follow One m (with_stay depth f) s (n s) _ (l.same s) (after_stay depth f g h (n s));
    keeps = λ s. keeps_and s.turns (m s) (with_stay depth f) (l.keeps s) (keeps_stay depth f (λ how s. (h how).keeps s));
  }

  -- what is done last
  last_performed : (finishes : Bool) {m : State → Plan} {n : L (Unit {0})} (how : Came (Unit {0})) → Lift One m n → Lift One (do_last finishes m how) (finish finishes n how)
  unfolding finish end_last
  last_performed finishes how l = bind_performed One One _ _ (act One quiet quiet_steady) (λ u. bind_performed One One (λ v s. as_plan One (resume how tt s)) (resume how) (choose_performed finishes l (act One (ret tt) (ret_steady tt))) (λ v. act One (resume how tt) (resume_steady how)))

  -- the handler, in the same frame
  steady_choice : (b : Bool) → Steady (choose b (ret tt) quiet)
  steady_choice true = ret_steady tt
  steady_choice false = quiet_steady

  handle_performed : (b finishes : Bool) {m : State → Plan} {n : L (Unit {0})} (f : Val → State → Plan) (g : Val → L (Unit {0})) (depth : ℕ) (j : Jump) → ((v : Val) → Lift One (f v) (g v)) → Lift One m n
      → Lift One (choose b (do_handle finishes f m depth j) (do_last finishes m (caught j))) (choose b (choose finishes (ret tt) quiet >>= λ u s. stay depth (g j.value s)) (ret (caught j)) >>= finish finishes n)
  unfolding end_handler
  handle_performed false finishes f g depth j h l = last_performed finishes (caught j) l
  handle_performed true finishes {m} {n} f g depth j h l =
      along _ _ (λ s. then_twice (choose finishes (ret tt) quiet s) (λ u s. stay depth (g j.value s)) (finish finishes n))
      (bind_performed One One _ (λ u s. and_then (stay depth (g j.value s)) (finish finishes n)) (act One (choose finishes (ret tt) quiet) (steady_choice finishes)) (λ u. stay_performed depth (do_last finishes m) (finish finishes n) (h j.value) (λ how. last_performed finishes how l)))

  react_performed : (handles finishes : Bool) {m : State → Plan} {n : L (Unit {0})} (f : Val → State → Plan) (g : Val → L (Unit {0})) (depth : ℕ) (how : Came (Unit {0})) → ((v : Val) → Lift One (f v) (g v)) → Lift One m n
      → Lift One (do_react handles finishes f m depth how) (react handles finishes g depth how >>= finish finishes n)
  unfolding react
  react_performed handles finishes f g depth (ended u) h l = last_performed finishes (ended u) l
  react_performed handles finishes f g depth (caught j) h l = handle_performed (handles && is_throw j.exit) finishes f g depth j h l

  tried_performed : (handles finishes : Bool) {m k : State → Plan} {m' k' : L (Unit {0})} (f : Val → State → Plan) (g : Val → L (Unit {0})) (depth : ℕ) → Lift One m m' → ((v : Val) → Lift One (f v) (g v)) → Lift One k k'
      → Lift One (λ s. and_plan (m s) (end_block handles finishes f k depth)) (tried handles finishes m' g k' depth)
  unfolding end_block
  tried_performed handles finishes {m} {k} {m'} {k'} f g depth l h q =
      along _ _ (λ s. then_twice (stay depth (m' s)) (react handles finishes g depth) (finish finishes k'))
      (stay_performed depth (do_react handles finishes f k depth) (λ how. react handles finishes g depth how >>= finish finishes k') l (λ how. react_performed handles finishes f g depth how h q))

  attempt_performed : (handles finishes : Bool) {m k : State → Plan} {m' k' : L (Unit {0})} (f : Val → State → Plan) (g : Val → L (Unit {0})) → Lift One m m' → ((v : Val) → Lift One (f v) (g v)) → Lift One k k'
      → Lift One (A.attempt handles finishes m f k) (B.attempt handles finishes m' g k')
  unfolding end_round
  attempt_performed handles finishes {m} {k} {m'} {k'} f g l h q = scope_performed One One kind.Try bottom (λ c. tt)
      {m = λ depth s. and_plan (m s) (end_block handles finishes f k depth)} {n = tried handles finishes m' g k'} (λ depth. tried_performed handles finishes f g depth l h q)

  -- the keys of a value
  list_performed : (list : Option Keys) (label : Label) (f : List (List ℕ) → State → Plan) (g : List (List ℕ) → L (Unit {0})) → ((keys : List (List ℕ)) → Lift One (f keys) (g keys))
      → Lift One (with_list list label f) (tracked.with_list list label g)
  unfolding with_list tracked.with_list perform
  list_performed None label f g h = record { same = λ s. refl; keeps = λ s. tt }
  list_performed (Some list) label f g h =
      let l = bind_performed One One (λ u. f list.keys) (λ u. g list.keys) (act One (raise (union label list.walk)) (raise_steady (union label list.walk))) (λ u. h list.keys) in
      record { same = λ s. l.same s; keeps = λ s. l.keeps s }

  -- the plans and the labelled meaning, linked
  pub performed : Link (planned tables inputs set functions) (labelled tables inputs set functions)
  performed = record {
    W = Unit {0};
    Le = λ v w. Unit {0};
    RV = λ w v u. v ≡ u;
    RN = λ w n m. n ≡ m;
    RP = λ w i j. i ≡ j;
    RE = λ w e d. e ≡ d;
    Lift = λ t w m n. Lift t m n;
    Inside = λ v w. Unit {0};
    inside_v = λ p r. r;
    le_refl = λ w. tt;
    le_trans = λ p q. tt;
    more_v = λ p r. r;
    more_n = λ p r. r;
    more_p = λ p r. r;
    more_e = λ p r. r;
    place_of = λ {e = e} r. subst (λ (x : Env ℕ). e.place ≡ x.place) r refl;
    ret_one = λ w. act One (ret tt) (ret_steady tt);
    ret_value = λ {a = a} r. at_equal (A.ret Value a) (B.ret Value) r (act Value (ret a) (ret_steady a));
    bind = λ t u {w = w} f g l h. bind_performed t u f g l (λ a. h w tt a a (equal_results Val t w a));
    literal = λ w v. refl;
    unary = λ o {v = v} r. at_equal (A.unary o v) (B.unary o) r (act Value (B.unary o v) (unary_steady tables inputs set functions o v));
    binary = λ o {v = v} {u = u} {u' = u'} r q. at_equal (A.binary o v u) (λ x. B.binary o x u') r
        (at_equal (A.binary o v u) (B.binary o v) q (act Value (B.binary o v u) (given_steady (union v.label u.label) (binary_of o v.value u.value))));
    primitive = λ to {v = v} {E = E} {D = D} r h. at_equal (A.primitive to v E) (λ x. B.primitive to x D) r
        (let l = converted_performed (is_object v.value) to v.label v v h in record { same = λ s. l.same s; keeps = λ s. l.keeps s });
    comparable = λ {v = v} {u = u} {u' = u'} {E = E} {D = D} r q h. at_equal (A.comparable v u E) (λ x. B.comparable x u' D) r (at_equal (A.comparable v u E) (λ x. B.comparable v x D) q
        (let l = converted_performed (converts_beside v.value u.value) hint.Default (union v.label u.label) v (joined u.label v) h in record { same = λ s. l.same s; keeps = λ s. l.keeps s }));
    look = λ {w = w} {v = v} f g r h. at_equal (A.look v f) (λ x. B.look x g) r (bind_performed One Value (λ u s. f (seen s.heap v.value) s) (λ u s. g (seen s.heap v.value) s) (act One (raise v.label) (raise_steady v.label)) (λ u. record {
      same = λ s. (h w tt (seen s.heap v.value)).same s;
      keeps = λ s. (h w tt (seen s.heap v.value)).keeps s;
    }));
    throw = λ {v = v} r. at_equal (A.throw v) B.throw r (act Value (B.throw v) (jump_steady Val bottom _));
    leave = λ t w name. act t (B.leave t name) (ends_steady (Res Val t) (left name));
    act = λ a {vs = vs} r. at_equal (A.act a vs) (B.act a) (rels_equal r) (act Value (B.act a vs) (act_steady tables inputs a vs));
    resolve = λ t {w = w} {i = i} x f g p h. at_equal (A.resolve t i x f) (λ j. B.resolve t j x g) p
        (record { same = λ s. (h w tt (resolved s.records s.heap i x) (resolved s.records s.heap i x) refl).same s; keeps = λ s. (h w tt (resolved s.records s.heap i x) (resolved s.records s.heap i x) refl).keeps s });
    property = λ r q. ap₂ (λ v u. A.property v u) r q;
    get_value = λ {n = n} {E = E} {D = D} r h. at_equal (A.get_value n E) (λ m. B.get_value m D) r (outcome_performed Value (accessed n) (enter_access functions E) (tracked.entered_access functions D) (accessed_steady n) (λ a. access_performed a h));
    typeof_value = λ {n = n} {E = E} {D = D} r h. at_equal (A.typeof_value n E) (λ m. B.typeof_value m D) r
        (outcome_performed Value (accessed_for_typeof n) (enter_access functions E) (tracked.entered_access functions D) (typeof_steady n) (λ a. access_performed a h));
    put_value = λ {n = n} {v = v} {v' = v'} {E = E} {D = D} r q h. at_equal (A.put_value n v E) (λ m. B.put_value m v' D) r (at_equal (A.put_value n v E) (λ x. B.put_value n x D) q
        (outcome_performed One (put_value n v) (enter_putting functions E v) (tracked.entered_putting functions D v) (put_steady n v) (λ p. putting_performed v p h)));
    remove = λ {n = n} r. at_equal (A.remove n) B.remove r (act Value (B.remove n) (remove_steady n));
    define = λ key marks shape {base = b} {v = v} {g = g} {set = q} {base' = b'} {v' = v'} {g' = g'} {set' = q'} {E = E} {D = D} rb rv rg rq h. at_equal (A.define key marks shape b v g q E) (λ x. B.define key marks shape x v' g' q' D) rb
        (at_equal (A.define key marks shape b v g q E) (λ x. B.define key marks shape b x g' q' D) rv (at_equal (A.define key marks shape b v g q E) (λ x. B.define key marks shape b v x q' D) rg
        (at_equal (A.define key marks shape b v g q E) (λ x. B.define key marks shape b v g x D) rq
        (outcome_performed Value (defining key marks shape b v g q) (enter_defining E v) (tracked.entered_defining D v) (defining_steady key marks shape b v g q) (λ d. defining_performed v d h)))));
    fork = λ t {w = w} {v = v} {m = m} {n = n} {m' = m'} {n' = n'} r l k. at_equal (A.fork t v m n) (λ x. B.fork t x m' n') r (fork_performed t v (l w tt) (k w tt));
    round = λ {w = w} turn labels {e = e} f g r h. at_equal (A.round turn labels e f) (λ d. B.round turn labels d g) r (round_performed turn labels e (λ d. h w tt d d refl));
    again = λ {v = v} {m = m} {n = n} {m' = m'} {n' = n'} r l k. at_equal (A.again v m n) (λ x. B.again x m' n') r
        (bind_performed One One _ _ (act One (raise v.label) (raise_steady v.label)) (λ u. choose_performed (truth v.value) l k));
    function = λ f {i = i} p. at_equal (A.function f i) (B.function f) p (act Value (B.function f i) (function_steady functions f i));
    jump = λ leaving {e = e} {v = v} {v' = v'} r q. at_equal (A.jump leaving e v) (λ d. B.jump leaving d v') r (at_equal (A.jump leaving e v) (B.jump leaving e) q (act One (B.jump leaving e v) (jumps_steady (aimed 0 leaving e) v)));
    raise = λ leaving {e = e} names r. at_equal (A.raise leaving e names) (λ d. B.raise leaving d names) r (act One (B.raise leaving e names) (raised_steady tables inputs leaving (aimed 0 leaving e) (named_origins tables inputs names)));
    this_of = λ r. ap A.this_of r;
    instance = λ {v = v} {f = f} {f' = f'} {E = E} {D = D} r q h. at_equal (A.instance v f E) (λ x. B.instance x f' D) r (at_equal (A.instance v f E) (λ x. B.instance v x D) q
        (let l = instance_performed v f.label f.value h in record { same = λ s. l.same s; keeps = λ s. l.keeps s }));
    declare = λ {w = w} name {v = v} {v' = v'} {e = e} {d = d} f g r q h. at_equal (A.declare name v e f) (λ x. B.declare name x d g) r (at_equal (A.declare name v e f) (λ d. B.declare name v d g) q (record {
      same = λ s. (h w tt (with_place (length s.records) e) (with_place (length s.records) e) refl).same (with_name e.place name v s);
      keeps = λ s. (h w tt (with_place (length s.records) e) (with_place (length s.records) e) refl).keeps (with_name e.place name v s);
    }));
    call = λ {f = f} {this = b} {f' = f'} {this' = b'} {vs = vs} {us = us} {E = E} {D = D} r q rs h. at_equal (A.call f b vs E) (λ x. B.call x b' us D) r (at_equal (A.call f b vs E) (λ x. B.call f x us D) q
        (at_equal (A.call f b vs E) (λ xs. B.call f b xs D) (rels_equal rs) (let l = call_performed f.label f.value b vs h in record { same = λ s. l.same s; keeps = λ s. l.keeps s })));
    construct = λ {f = f} {f' = f'} {vs = vs} {us = us} {E = E} {D = D} r rs h. at_equal (A.construct f vs E) (λ x. B.construct x us D) r (at_equal (A.construct f vs E) (λ xs. B.construct f xs D) (rels_equal rs)
        (let l = construct_performed f.label f.value vs h in record { same = λ s. l.same s; keeps = λ s. l.keeps s }));
    attempt = λ {w = w} handles finishes f g l h q. attempt_performed handles finishes f g (l w tt) (λ v. h w tt v v refl) (q w tt);
    keys = λ {w = w} {v = v} f g r h. at_equal (A.keys v f) (λ x. B.keys x g) r
        (record { same = λ s. (list_performed (key_list s.heap v.value) v.label f g (λ keys. h w tt keys)).same s; keeps = λ s. (list_performed (key_list s.heap v.value) v.label f g (λ keys. h w tt keys)).keeps s });
  }

  -- a part that is asked for
  asked : (t : Ty) (part : Part) (n : L (Res Val t)) → ((s : State) → evaluator part s ≡ untyped t (n s)) → Lift t (λ s. Ask part s Give) n
  asked t part n h = record { same = λ s. perform_asked evaluator part s ∙ h s; keeps = λ s. (refl, λ c t. refl) }

  visits_equal : {v u : Visit Val} → Visits (λ (x : Val) (y : Val). x ≡ y) v u → v ≡ u
  visits_equal (visits_of {labels = labels} {target = target} {body = body} {key = key} {others = others} e) = ap (λ o. record { labels = labels; target = target; body = body; object = o; key = key; others = others }) e

  -- asking for the parts, and their meaning
  asking_linked : Linked (planned tables inputs set functions) (labelled tables inputs set functions) performed (asking tables inputs set functions) Q
  unfolding performed
  asking_linked = record {
    expr = λ e w i j p. at_equal (λ s. Ask (an_expr e i) s Give) (Q.expr e) p (asked Value (an_expr e i) (Q.expr e i) (λ s. refl));
    use_of = λ use_as e w i j p. at_equal (λ s. Ask (a_use use_as e i) s Give) (Q.use_of use_as e) p (asked Value (a_use use_as e i) (Q.use_of use_as e i) (λ s. refl));
    stmt = λ stmt w e d r. at_equal (λ s. Ask (a_stmt stmt e) s Give) (Q.stmt stmt) r (asked One (a_stmt stmt e) (Q.stmt stmt e) (λ s. refl));
    named = λ labels stmt w e d r. at_equal (λ s. Ask (a_named labels stmt e) s Give) (Q.named labels stmt) r (asked One (a_named labels stmt e) (Q.named labels stmt e) (λ s. refl));
    turn = λ round w e d r. at_equal (λ s. Ask (a_turn round e) s Give) (Q.turn round) r (asked One (a_turn round e) (Q.turn round e) (λ s. refl));
    visit = λ w v u rs e d r. at_equal (λ s. Ask (a_visit v e) s Give) (Q.visit u) r (at_equal (λ s. Ask (a_visit v e) s Give) (λ x. Q.visit x e) (visits_equal rs) (asked One (a_visit v e) (Q.visit v e) (λ s. refl)));
    native = λ steps w vs us rs. at_equal (λ s. Ask (a_request steps vs) s Give) (Q.native steps) (rels_equal rs) (asked Value (a_request steps vs) (Q.native steps vs) (λ s. refl));
  }

  -- the steps of all parts
  steps_linked : Linked (planned tables inputs set functions) (labelled tables inputs set functions) performed (step (planned tables inputs set functions) set (asking tables inputs set functions)) (step (labelled tables inputs set functions) set Q)
  steps_linked = step_linked (planned tables inputs set functions) (labelled tables inputs set functions) performed (asking tables inputs set functions) Q asking_linked set

  -- the plan of a part, performed with the meaning of its parts, is the step of the part
  pub perform_step : (part : Part) (s : State) → perform (of_rec tables inputs set functions Q) (plan tables inputs set functions part s) ≡ of_rec tables inputs set functions (step (labelled tables inputs set functions) set Q) part s
  unfolding performed plan
  perform_step (an_expr e i) s = (steps_linked.expr e tt i i refl).same s
  perform_step (a_use use_as e i) s = (steps_linked.use_of use_as e tt i i refl).same s
  perform_step (a_stmt stmt e) s = (steps_linked.stmt stmt tt e e refl).same s
  perform_step (a_named labels stmt e) s = (steps_linked.named labels stmt tt e e refl).same s
  perform_step (a_turn round e) s = (steps_linked.turn round tt e e refl).same s
  perform_step (a_visit visit e) s = (steps_linked.visit tt visit visit (visits_of refl) e e refl).same s
  perform_step (a_request steps vs) s = (steps_linked.native steps tt vs vs (same_rels vs)).same s

  -- and changes no turns
  pub plan_keeps : (part : Part) (s : State) → Keeps s.turns (plan tables inputs set functions part s)
  unfolding performed plan
  plan_keeps (an_expr e i) s = (steps_linked.expr e tt i i refl).keeps s
  plan_keeps (a_use use_as e i) s = (steps_linked.use_of use_as e tt i i refl).keeps s
  plan_keeps (a_stmt stmt e) s = (steps_linked.stmt stmt tt e e refl).keeps s
  plan_keeps (a_named labels stmt e) s = (steps_linked.named labels stmt tt e e refl).keeps s
  plan_keeps (a_turn round e) s = (steps_linked.turn round tt e e refl).keeps s
  plan_keeps (a_visit visit e) s = (steps_linked.visit tt visit visit (visits_of refl) e e refl).keeps s
  plan_keeps (a_request steps vs) s = (steps_linked.native steps tt vs vs (same_rels vs)).keeps s

  -- that of a program
  program_performed : (program : Statements) → Lift One (program_plan tables inputs set functions program) (begun (labelled tables inputs set functions) Q (may_declare set program) program (outermost_env 0))
  unfolding performed program_plan
  program_performed program = begun_linked (planned tables inputs set functions) (labelled tables inputs set functions) performed (asking tables inputs set functions) Q asking_linked (may_declare set program) program refl

  -- performed with the meaning of the parts it is the program's step
  pub perform_program : (program : Statements) (s : State) → perform (of_rec tables inputs set functions Q) (program_plan tables inputs set functions program s) ≡ untyped One (begun (labelled tables inputs set functions) Q (may_declare set program) program (outermost_env 0) s)
  perform_program program s = (program_performed program).same s

  -- and changes no turns
  pub program_keeps : (program : Statements) (s : State) → Keeps s.turns (program_plan tables inputs set functions program s)
  program_keeps program s = (program_performed program).keeps s
