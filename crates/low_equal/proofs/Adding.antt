-- Performing a plan only adds lines, behind those that the state has. The plans are linked with themselves, by this alone.
use Rattle.std.proofs.Common.{◌≡◌, ℕ, List, [], ◌∷◌, ◌++◌, Option, Some, None, Bool, true, false, ◌&&◌, length, nat_lt, slice_get, refl, sym, ap, subst}
use Rattle.origin_labels.specs.Label.{Label, bottom, union}
use Rattle.flow_policy.specs.Policies.{Tables}
use Rattle.flow_policy.specs.Inputs.{Given}
use Rattle.flow_frames.specs.declared.kind.Kind.{Kind}
use Rattle.flow_frames.specs.declared.kind.Kind.TheVariants as kind
use Rattle.native_protocol.specs.declared.hint.Hint.{Hint}
use Rattle.native_protocol.specs.declared.hint.Hint.TheVariants as hint
use Rattle.native_protocol.specs.declared.request.ErrorKind.TheVariants as kinds
use Rattle.native_protocol.specs.declared.request.GivenMarks.{GivenMarks}
use Rattle.js_number.specs.declared.num.Num.{Num as Number}
use Rattle.js_values.specs.declared.ids.ObjId.{ObjId}
use Rattle.js_values.specs.declared.value.Value.{Value as AnyValue}
use Rattle.js_values.specs.declared.value.Value.TheVariants as value
use Rattle.js_ast.specs.Trees.{Statements, body_of}
use Rattle.js_ast.specs.Functions.{FunctionCode}
use Rattle.es_meaning.specs.BuiltIns.{BuiltIns}
use Rattle.es_meaning.specs.Holders.{constructs_in}
use Rattle.es_meaning.specs.Outcomes.{left, Outcome, Goes, Jumps, Ends, ret, and_then}
use Rattle.es_meaning.specs.Environments.{Env, with_around, with_place, called_env, aimed}
use Rattle.es_meaning.specs.Functions.{Callee, not_callable, empty_callee, of_script, of_built_in, this_or}
use Rattle.es_meaning.specs.Operations.{Ty, One, Value, Res}
use Rattle.es_meaning.specs.Operators.{is_object, truth, converts_beside, binary_of}
use Rattle.es_meaning.specs.Plain.{undefined, leaves_wrappers, is_throw, choose, prototype_name, is_count, count_of}
use Rattle.es_meaning.specs.Requested.{no_marks}
use Rattle.es_meaning.specs.Start.{id}
use Rattle.prototype_walk.specs.KeyLists.{Keys}
use Rattle.es_meaning.proofs.Link.{Rel, Rels, nils, conses, EnteringLinked, Link, Linked}
use Rattle.flow_meaning.specs.Erased.{unlabelled}
use Rattle.flow_meaning.specs.Scopes.{Val, joined, LabelledLine, Halt, as_plain, State, Jump, L, cut_to, pushed_on, Came, ended, caught, Left, popped, stay, settled, answer, construction, resume, round_kind}
use Rattle.flow_meaning.specs.Requested.{Aim, aim_of, is_function_in}
use Rattle.flow_meaning.specs.Tracked.{seen, resolved, key_list, Access, has_value, has_getter, accessed, accessed_for_typeof, property_of, Putting, is_put, has_setter, has_length, put_value, Defining, is_defined, has_length_given, defining, numbered, set_length, truth_of, with_call, callee_at, called_value, with_fresh, prototype_of, is_instance, with_name, named_origins}
use Rattle.flow_meaning.specs.Laws.{performed_run}
use Rattle.flow_meaning.specs.Planned.{Part, an_expr, a_use, a_stmt, a_named, a_turn, a_visit, a_request, Completion, gave, jumped, Plan, Give, Ask, End, Then, and_plan, with_result, as_plan, outcome_of, end_branch, end_round, end_call, end_construction, as_stayed, with_stay, end_last, do_last, end_handler, do_handle, do_react, end_block, Enters, in_frame, enter_call, call_by, call_aimed, call_value, enter_construction, construct_built_in, construct_by, construct_aimed, construct_value, with_outcome, enter_access, end_putting, enter_putting, convert_by, Counted, convert_for_length, given_count, end_second, end_first, enter_count, enter_defining, end_instance, instance_by, instance_of, instance_if, instance_value, with_list, planned, asking, Ran, untyped, and_go, completed, perform, meaning}
use Rattle.flow_meaning.proofs.Performing.{perform_and, perform_asked}
use Rattle.low_equal.specs.Observed.{Front, empty, longer}
use Rattle.low_equal.specs.Runs.{state_of, Confined}
use Rattle.low_equal.proofs.Lines.{front_refl, front_trans}
use Rattle.low_equal.proofs.Steps.{conf_ret, conf_ends}
use Rattle.low_equal.proofs.Acts.{conf_throw, conf_raise, conf_given, conf_unary}
use Rattle.low_equal.proofs.References.{conf_accessed, conf_typeof, conf_property}
use Rattle.low_equal.proofs.Puts.{conf_put}
use Rattle.low_equal.proofs.Lengths.{conf_set_length}
use Rattle.low_equal.proofs.Defines.{conf_define}
use Rattle.low_equal.proofs.Accesses.{conf_numbered}
use Rattle.low_equal.proofs.Deletions.{conf_remove}
use Rattle.low_equal.proofs.AllActs.{conf_act}
use Rattle.low_equal.proofs.Looks.{conf_throw_value}
use Rattle.low_equal.proofs.Makes.{conf_function}
use Rattle.low_equal.proofs.Instances.{conf_is}
use Rattle.low_equal.proofs.Jumps.{conf_jumps, conf_raised_by, conf_quiet, conf_choice, conf_resume}
use Rattle.low_equal.proofs.Observing.{confinement}

-- ---- what stands behind a front

-- a list, and what stands behind it
pub record Continued {A : Type 0} (xs ys : List A) : Type 0 where
  pub rest : List A
  pub is : ys ≡ xs ++ rest

-- of a front there is such a rest
pub front_continued : {A : Type 0} {xs ys : List A} → Front xs ys → Continued xs ys
front_continued (empty {xs = xs}) = record { rest = xs; is = refl }
front_continued (longer {x = x} f) = let c = front_continued f in record { rest = c.rest; is = ap (λ ys. x ∷ ys) c.is }

-- ---- what follows

-- a run's lines
pub lines_run : (o : Ran) → (state_of o).lines ≡ (performed_run o).lines
lines_run (Goes v s) = refl
lines_run (Jumps j s) = refl
lines_run (Ends halt s) = refl

-- whatever the type of the result is
lines_untyped : (t : Ty) (o : Outcome Halt Jump (Res Val t) State) → (state_of o).lines ≡ (state_of (untyped t o)).lines
lines_untyped t (Goes a s) = refl
lines_untyped t (Jumps j s) = refl
lines_untyped t (Ends halt s) = refl

-- what is done with a completion
go_adds : (ls : List LabelledLine) (o : Ran) (next : Completion → State → Ran) → Front ls (state_of o).lines → ((c : Completion) (s : State) → Front s.lines (state_of (next c s)).lines) → Front ls (state_of (and_go o next)).lines
unfolding and_go
go_adds ls (Goes v s) next h f = front_trans h (f (gave v) s)
go_adds ls (Jumps j s) next h f = front_trans h (f (jumped j) s)
go_adds ls (Ends halt s) next h f = h

module _ (tables : Tables) (inputs : Given) (set : BuiltIns) (functions : List FunctionCode) where
  -- the plan, performed with the meaning of the parts, only adds lines
  abbrev pub Adds : State → Plan → Type 0
  Adds s p = Front s.lines (state_of (perform (meaning tables inputs set functions) p)).lines

  -- and so it is from every state
  pub record Adding (m : State → Plan) : Type 0 where
    pub adds : (s : State) → Adds s (m s)

  -- ---- completions and what follows them

  -- what is confined only adds lines, whoever observes
  confined_adds : (t : Ty) {m : L (Res Val t)} → Confined bottom tables m → (s : State) → Front s.lines (state_of (untyped t (m s))).lines
  confined_adds t {m} c s = subst (Front s.lines) (lines_untyped t (m s)) (c.adds s)

  -- the meaning of a part
  meaning_adds : (part : Part) (s : State) → Front s.lines (state_of (meaning tables inputs set functions part s)).lines
  unfolding meaning
  meaning_adds (an_expr e i) s = confined_adds Value ((confinement set bottom tables inputs functions s.turns).expr e i) s
  meaning_adds (a_use use_as e i) s = confined_adds Value ((confinement set bottom tables inputs functions s.turns).use_of use_as e i) s
  meaning_adds (a_stmt stmt e) s = confined_adds One ((confinement set bottom tables inputs functions s.turns).stmt stmt e) s
  meaning_adds (a_named labels stmt e) s = confined_adds One ((confinement set bottom tables inputs functions s.turns).named labels stmt e) s
  meaning_adds (a_turn round e) s = confined_adds One ((confinement set bottom tables inputs functions s.turns).turn round e) s
  meaning_adds (a_visit visit e) s = confined_adds One ((confinement set bottom tables inputs functions s.turns).visit visit e) s
  meaning_adds (a_request steps vs) s = confined_adds Value ((confinement set bottom tables inputs functions s.turns).native steps vs) s

  -- a part that is asked for
  pub ask_adds : (part : Part) (s : State) → Adds s (Ask part s Give)
  ask_adds part s = subst (λ (o : Ran). Front s.lines (state_of o).lines) (sym (perform_asked (meaning tables inputs set functions) part s)) (meaning_adds part s)

  -- a completion
  pub give_adds : (c : Completion) (s : State) → Adds s (Give c s)
  unfolding perform completed
  give_adds (gave v) s = front_refl s.lines
  give_adds (jumped j) s = front_refl s.lines

  -- the end of the run
  pub end_adds : (halt : Halt) (s : State) → Adds s (End halt s)
  unfolding perform
  end_adds halt s = front_refl s.lines

  -- a plan, and what is done with its completion
  pub and_adds : (s : State) (p : Plan) (next : Then) → Adds s p → ((c : Completion) (t : State) → Adds t (next c t)) → Adds s (and_plan p next)
  and_adds s p next h f = subst (λ (o : Ran). Front s.lines (state_of o).lines) (sym (perform_and (meaning tables inputs set functions) p next))
      (go_adds s.lines (perform (meaning tables inputs set functions) p) (λ c t. perform (meaning tables inputs set functions) (next c t)) h f)

  -- a jump passes what is done with a result
  pub result_adds : (t : Ty) (f : Res Val t → State → Plan) → ((a : Res Val t) → Adding (f a)) → (c : Completion) (s : State) → Adds s (with_result t f c s)
  result_adds One f h (gave v) s = (h tt).adds s
  result_adds Value f h (gave v) s = (h v).adds s
  result_adds t f h (jumped j) s = give_adds (jumped j) s

  -- an outcome as a plan
  as_adds : (t : Ty) (s : State) (o : Outcome Halt Jump (Res Val t) State) → Front s.lines (state_of o).lines → Adds s (as_plan t o)
  unfolding perform completed
  as_adds t s (Goes a r) h = h
  as_adds t s (Jumps j r) h = h
  as_adds t s (Ends halt r) h = h

  -- an act
  pub act_adding : (t : Ty) {n : L (Res Val t)} → Confined bottom tables n → Adding (λ s. as_plan t (n s))
  act_adding t {n} c = record { adds = λ s. as_adds t s (n s) (c.adds s) }

  -- one computation, and then the next
  pub bind_adding : (t u : Ty) {m : State → Plan} (f : Res Val t → State → Plan) → Adding m → ((a : Res Val t) → Adding (f a)) → Adding (λ s. and_plan (m s) (with_result t f))
  bind_adding t u {m} f l h = record { adds = λ s. and_adds s (m s) (with_result t f) (l.adds s) (result_adds t f h) }

  -- ---- scopes

  -- a jump at the end of a frame
  caught_adds : {X : Type 0} (t : Ty) (b : Bool) (a : X) (f : X → Res Val t) (j : Jump) (depth : ℕ) (s : State) → Adds s (as_plan t (and_then (choose b (Goes a (cut_to depth s)) (Jumps j (cut_to depth s))) (λ x. ret (f x))))
  unfolding perform completed
  caught_adds t true a f j depth s = front_refl s.lines
  caught_adds t false a f j depth s = front_refl s.lines

  -- what is done at the end of a frame
  popped_adds : (t u : Ty) (f : Left (Res Val t) → Res Val u) (depth : ℕ) (c : Completion) (s : State) → Adds s (as_plan u (and_then (popped depth (outcome_of t c s)) (λ l. ret (f l))))
  unfolding popped perform completed
  popped_adds t u f depth (gave v) s = front_refl s.lines
  popped_adds t u f depth (jumped j) s = caught_adds u (nat_lt depth (length s.frames)) _ f j depth s

  -- the end of a branch
  pub branch_adds : (t : Ty) (depth : ℕ) (c : Completion) (s : State) → Adds s (end_branch t depth c s)
  unfolding end_branch
  branch_adds t depth c s = popped_adds t t (settled t) depth c s

  -- the end of a loop or a turn
  pub round_adds : (depth : ℕ) (c : Completion) (s : State) → Adds s (end_round depth c s)
  unfolding end_round
  round_adds depth c s = popped_adds One One (λ l. tt) depth c s

  -- one of two
  pub choose_adding : (b : Bool) {m n : State → Plan} → Adding m → Adding n → Adding (choose b m n)
  choose_adding true l k = l
  choose_adding false l k = k

  -- what is done in a frame of its own
  pub scope_adding : (kind : Kind) (label : Label) (next : ℕ → Then) {m : ℕ → State → Plan} → ((depth : ℕ) → Adding (m depth)) → ((depth : ℕ) (c : Completion) (s : State) → Adds s (next depth c s))
      → Adding (λ s. and_plan (m (length s.frames) (pushed_on kind label s)) (next (length s.frames)))
  scope_adding kind label next {m} l h = record { adds = λ s. and_adds s (m (length s.frames) (pushed_on kind label s)) (next (length s.frames)) ((l (length s.frames)).adds (pushed_on kind label s)) (h (length s.frames)) }

  -- the keys of a value
  pub list_adding : (list : Option Keys) (label : Label) (f : List (List ℕ) → State → Plan) → ((ks : List (List ℕ)) → Adding (f ks)) → Adding (with_list list label f)
  unfolding with_list
  list_adding None label f h = record { adds = λ s. end_adds (as_plain (left leaves_wrappers)) s }
  list_adding (Some list) label f h = record { adds = λ s. (bind_adding One One (λ u. f list.keys) (act_adding One (conf_raise bottom tables (union label list.walk))) (λ u. h list.keys)).adds s }

  -- ---- calls

  -- the end of a call, and of a construction
  pub call_adds : (depth : ℕ) (c : Completion) (s : State) → Adds s (end_call depth c s)
  unfolding end_call
  call_adds depth c s = popped_adds One Value answer depth c s

  pub construction_adds : (fresh depth : ℕ) (c : Completion) (s : State) → Adds s (end_construction fresh depth c s)
  unfolding end_construction
  construction_adds fresh depth c s = popped_adds One Value (construction fresh) depth c s

  -- what a read or a put comes to, and what is done behind it
  pub outcome_adds : {X : Type 0} (s : State) (o : Outcome Halt Jump X State) (next : X → State → Plan) → Front s.lines (state_of o).lines → ((x : X) → Adding (next x)) → Adds s (with_outcome o next)
  unfolding perform completed
  outcome_adds s (Goes x r) next f h = front_trans f ((h x).adds r)
  outcome_adds s (Jumps j r) next f h = f
  outcome_adds s (Ends halt r) next f h = f

  -- behind a put that enters something, and behind the read of `prototype`
  pub putting_end_adds : (c : Completion) (s : State) → Adds s (end_putting c s)
  unfolding end_putting
  putting_end_adds = result_adds Value (λ v s. Give (gave (unlabelled undefined)) s) (λ v. record { adds = λ s. give_adds (gave (unlabelled undefined)) s })

  pub instance_end_adds : (label : Label) (o : ℕ) (c : Completion) (s : State) → Adds s (end_instance label o c s)
  unfolding end_instance
  instance_end_adds label o = result_adds Value (λ proto s. as_plan Value (is_instance (union label proto.label) o proto.value s)) (λ proto. act_adding Value (conf_is bottom tables functions (union label proto.label) o proto.value))

  -- a number for a `length` that both conversions gave, or a RangeError
  pub count_adding : (b : Bool) (n : ℕ) (given label : Label) (next : Counted) → ((k : ℕ) (l : Label) → Adding (next k l)) → Adding (given_count b n given label next)
  unfolding given_count
  count_adding true n given label next h = record { adds = λ s. (h n given).adds s }
  count_adding false n given label next h = act_adding Value (conf_throw bottom tables kinds.RangeError (union label given))

  -- behind the second conversion of a value for a `length`
  pub second_end_adds : (label : Label) (next : Counted) (first : Val) (m : Number) → ((k : ℕ) (l : Label) → Adding (next k l)) → (c : Completion) (s : State) → Adds s (end_second label next first m c s)
  unfolding end_second
  second_end_adds label next first m h = result_adds Value _ (λ second. record {
    adds = λ s. outcome_adds s (numbered second s) _ ((conf_numbered bottom tables functions second).adds s) (λ n. count_adding (is_count m n) (count_of m) (union first.label second.label) label next h);
  })

  -- the same with the number that the first came to taken there
  pub both_end_adds : (label : Label) (next : Counted) (first : Val) → ((k : ℕ) (l : Label) → Adding (next k l)) → (c : Completion) (s : State)
      → Adds s (with_result Value (λ second t. with_outcome (numbered first t) (λ m r. with_outcome (numbered second r) (λ n. given_count (is_count m n) (count_of m) (union first.label second.label) label next))) c s)
  both_end_adds label next first h = result_adds Value _ (λ second. record {
    adds = λ s. outcome_adds s (numbered first s) _ ((conf_numbered bottom tables functions first).adds s) (λ m. record {
      adds = λ t. outcome_adds t (numbered second t) _ ((conf_numbered bottom tables functions second).adds t) (λ n. count_adding (is_count m n) (count_of m) (union first.label second.label) label next h);
    });
  })

  -- the `length` of an array gets a number
  pub length_adding : (b : Bool) (label : Label) (o : ℕ) (marks : GivenMarks) (n : ℕ) (given : Label) → Adding (λ s. as_plan Value (set_length b label o marks n given s))
  length_adding b label o marks n given = act_adding Value (conf_set_length bottom tables b label o marks n given)

  -- what is done in a frame that gives a value
  pub frame_adding : (kind : Kind) (label : Label) {m : State → Plan} → Adding m → Adding (in_frame kind label m)
  frame_adding kind label {m} l = scope_adding kind label (end_branch Value) {m = λ depth. m} (λ depth. l) (branch_adds Value)

  -- how what is called is entered
  pub record EntersAdding (E : Enters) : Type 0 where
    pub body : (ss : Statements) (e : Env ℕ) → Adding (E.body ss e)
    pub built_in : (which : ℕ) (construct : Bool) (vs : List Val) → Adding (E.built_in which construct vs)
    pub conversion : (h : Hint) (v : Val) → Adding (E.conversion h v)

  module _ {E : Enters} (c : EntersAdding E) where
    -- in the frame of a call
    pub enter_adding : (callee : Callee) (label : Label) (this : Val) (vs : List Val) (depth : ℕ) → Adding (enter_call functions callee label this vs E depth)
    unfolding enter_call with_call
    enter_adding not_callable label this vs depth = act_adding One (conf_throw bottom tables kinds.TypeError label)
    enter_adding empty_callee label this vs depth = record { adds = λ s. give_adds (gave (unlabelled undefined)) s }
    enter_adding (of_built_in which) label this vs depth = act_adding One (conf_throw bottom tables kinds.TypeError label)
    enter_adding (of_script number code place) label this vs depth = record { adds = λ s. (c.body (body_of code) (called_env (length s.records) depth)).adds (with_call functions number code place this vs s) }

    script_adding : (callee : Callee) (label : Label) (this : Val) (vs : List Val) → Adding (λ s. and_plan (enter_call functions callee label this vs E (length s.frames) (pushed_on kind.Call label s)) (end_call (length s.frames)))
    script_adding callee label this vs = scope_adding kind.Call label end_call {m = λ depth s. enter_call functions callee label this vs E depth s} (λ depth. record { adds = λ s. (enter_adding callee label this vs depth).adds s }) call_adds

    by_adding : (callee : Callee) (label : Label) (o : ℕ) (this : Val) (vs : List Val) → Adding (call_by functions callee label o this vs E)
    unfolding call_by
    by_adding not_callable label o this vs = record { adds = λ s. (script_adding not_callable label this vs).adds s }
    by_adding empty_callee label o this vs = record { adds = λ s. (script_adding empty_callee label this vs).adds s }
    by_adding (of_script number code place) label o this vs = record { adds = λ s. (script_adding (of_script number code place) label this vs).adds s }
    by_adding (of_built_in which) label o this vs = record { adds = λ s. (frame_adding kind.Native label (c.built_in which false (this ∷ called_value label o ∷ vs))).adds s }

    aimed_adding : (label : Label) (aim : Aim) (this : Val) (vs : List Val) → Adding (call_aimed functions label aim this vs E)
    unfolding call_aimed
    aimed_adding label aim this vs = record { adds = λ s. (by_adding (callee_at functions s.heap aim.target.function) (union label aim.label) aim.target.function (this_or aim.target.this this) (aim.target.args ++ vs)).adds s }

    pub call_adding : (label : Label) (f : AnyValue) (this : Val) (vs : List Val) → Adding (call_value functions label f this vs E)
    unfolding call_value
    call_adding label (value.Primitive p) this vs = record { adds = λ s. (by_adding not_callable label 0 this vs).adds s }
    call_adding label (value.Object o) this vs = record { adds = λ s. (aimed_adding label (aim_of s.heap o.0) this vs).adds s }

    -- and of a construction
    pub enter_construct_adding : (callee : Callee) (label : Label) (o : ℕ) (vs : List Val) (depth : ℕ) → Adding (enter_construction functions callee label o vs E depth)
    unfolding enter_construction
    enter_construct_adding not_callable label o vs depth = act_adding One (conf_throw bottom tables kinds.TypeError label)
    enter_construct_adding empty_callee label o vs depth = act_adding One (conf_throw bottom tables kinds.TypeError label)
    enter_construct_adding (of_built_in which) label o vs depth = act_adding One (conf_throw bottom tables kinds.TypeError label)
    enter_construct_adding (of_script number code place) label o vs depth = record { adds = λ s. (enter_adding (of_script number code place) label _ vs depth).adds (with_fresh (prototype_of s.heap o) s) }

    constructed_adding : (callee : Callee) (label : Label) (o : ℕ) (vs : List Val) (fresh : ℕ)
        → Adding (λ s. and_plan (enter_construction functions callee label o vs E (length s.frames) (pushed_on kind.Call label s)) (end_construction fresh (length s.frames)))
    constructed_adding callee label o vs fresh = scope_adding kind.Call label (end_construction fresh) {m = λ depth s. enter_construction functions callee label o vs E depth s}
        (λ depth. record { adds = λ s. (enter_construct_adding callee label o vs depth).adds s }) (construction_adds fresh)

    pub built_in_adding : (which : ℕ) (label : Label) (o : ℕ) (vs : List Val) → Adding (construct_built_in set which label o vs E)
    unfolding construct_built_in
    built_in_adding which label o vs = choose_adding (constructs_in set which) (c.built_in which true (unlabelled undefined ∷ called_value label o ∷ vs)) (act_adding Value (conf_throw bottom tables kinds.TypeError label))

    built_adding : (callee : Callee) (label : Label) (o : ℕ) (vs : List Val) → Adding (construct_by set functions callee label o vs E)
    unfolding construct_by
    built_adding not_callable label o vs = record { adds = λ s. (constructed_adding not_callable label o vs (length s.heap)).adds s }
    built_adding empty_callee label o vs = record { adds = λ s. (constructed_adding empty_callee label o vs (length s.heap)).adds s }
    built_adding (of_script number code place) label o vs = record { adds = λ s. (constructed_adding (of_script number code place) label o vs (length s.heap)).adds s }
    built_adding (of_built_in which) label o vs = record { adds = λ s. (frame_adding kind.Native label (built_in_adding which label o vs)).adds s }

    aimed_built : (label : Label) (aim : Aim) (vs : List Val) → Adding (construct_aimed set functions label aim vs E)
    unfolding construct_aimed
    aimed_built label aim vs = record { adds = λ s. (built_adding (callee_at functions s.heap aim.target.function) (union label aim.label) aim.target.function (aim.target.args ++ vs)).adds s }

    pub construct_adding : (label : Label) (f : AnyValue) (vs : List Val) → Adding (construct_value set functions label f vs E)
    unfolding construct_value
    construct_adding label (value.Primitive p) vs = record { adds = λ s. (built_adding not_callable label 0 vs).adds s }
    construct_adding label (value.Object o) vs = record { adds = λ s. (aimed_built label (aim_of s.heap o.0) vs).adds s }

    -- ---- getters and setters, and the conversion of objects

    pub access_adding : (a : Access) → Adding (enter_access functions E a)
    unfolding enter_access
    access_adding (has_value v) = record { adds = λ s. give_adds (gave v) s }
    access_adding (has_getter label f this) = record { adds = λ s. (call_adding label (value.Object f) this []).adds s }

    pub convert_adding : (b : Bool) (h : Hint) (label : Label) (v given : Val) → Adding (convert_by b E h label v given)
    unfolding convert_by
    convert_adding true h label v given = record { adds = λ s. (frame_adding kind.Native label (c.conversion h v)).adds s }
    convert_adding false h label v given = record { adds = λ s. give_adds (gave given) s }

    -- both conversions of a value for a `length`
    pub convert_length_adding : (label : Label) (v : Val) → Adding (convert_for_length E label v)
    convert_length_adding label v = record { adds = λ s. (convert_adding (is_object v.value) hint.Number (union label v.label) v v).adds s }

    pub first_end_adds : (label : Label) (v : Val) (next : Counted) → ((k : ℕ) (l : Label) → Adding (next k l)) → (c : Completion) (s : State) → Adds s (end_first E label v next c s)
    unfolding end_first
    first_end_adds label v next h = result_adds Value _ (λ first. record {
      adds = λ s. outcome_adds s (numbered first s) _ ((conf_numbered bottom tables functions first).adds s) (λ m. record {
        adds = λ t. and_adds t (convert_for_length E label v t) (end_second label next first m) ((convert_length_adding label v).adds t) (second_end_adds label next first m h);
      });
    })

    count_entered : (label : Label) (v : Val) (next : Counted) → ((k : ℕ) (l : Label) → Adding (next k l)) → Adding (enter_count E label v next)
    unfolding enter_count
    count_entered label v next h = record { adds = λ s. and_adds s (convert_for_length E label v s) (end_first E label v next) ((convert_length_adding label v).adds s) (first_end_adds label v next h) }

    pub putting_adding : (v : Val) (p : Putting) → Adding (enter_putting functions E v p)
    unfolding enter_putting
    putting_adding v is_put = record { adds = λ s. give_adds (gave (unlabelled undefined)) s }
    putting_adding v (has_setter label f this) = record { adds = λ s. and_adds s (call_value functions label (value.Object f) this (v ∷ []) E s) end_putting ((call_adding label (value.Object f) this (v ∷ [])).adds s) putting_end_adds }
    putting_adding v (has_length label o) = record {
      adds = λ s. and_adds s (enter_count E label v (λ n given t. as_plan Value (set_length false label o no_marks n given t)) s) end_putting
          ((count_entered label v (λ n given t. as_plan Value (set_length false label o no_marks n given t)) (λ n given. length_adding false label o no_marks n given)).adds s) putting_end_adds;
    }

    pub defining_adding : (v : Val) (d : Defining) → Adding (enter_defining E v d)
    unfolding enter_defining
    defining_adding v (is_defined label) = record { adds = λ s. give_adds _ s }
    defining_adding v (has_length_given label o marks) = record {
      adds = λ s. (count_entered label v (λ n given t. as_plan Value (set_length true label o marks n given t)) (λ n given. length_adding true label o marks n given)).adds s;
    }

    -- ---- `instanceof`

    instance_by_adding : (v : Val) (o : ObjId) (label : Label) (f : ℕ) → Adding (instance_by functions v o label f E)
    unfolding instance_by
    instance_by_adding v o label f = record {
      adds = λ s. and_adds s (with_outcome (property_of (union v.label label) (called_value label f) (value.Object (id f)) prototype_name s) (enter_access functions E)) (end_instance (union v.label label) o.0)
          (outcome_adds s (property_of (union v.label label) (called_value label f) (value.Object (id f)) prototype_name s) (enter_access functions E)
          ((conf_property bottom tables (union v.label label) (called_value label f) (value.Object (id f)) prototype_name).adds s) access_adding) (instance_end_adds (union v.label label) o.0);
    }

    instance_of_adding : (v : Val) (x : AnyValue) (label : Label) (aim : Aim) → Adding (instance_of functions v x label aim E)
    unfolding instance_of
    instance_of_adding v (value.Primitive p) label aim = record { adds = λ s. give_adds (gave (truth_of false (union v.label label))) s }
    instance_of_adding v (value.Object o) label aim = record { adds = λ s. (instance_by_adding v o (union label aim.label) aim.target.function).adds s }

    instance_if_adding : (b : Bool) (v : Val) (label : Label) (f : ℕ) → Adding (instance_if functions b v label f E)
    unfolding instance_if
    instance_if_adding true v label f = record { adds = λ s. (instance_of_adding v v.value label (aim_of s.heap f)).adds s }
    instance_if_adding false v label f = act_adding Value (conf_throw bottom tables kinds.TypeError label)

    pub instance_adding : (v : Val) (label : Label) (f : AnyValue) → Adding (instance_value functions v label f E)
    unfolding instance_value
    instance_adding v label (value.Primitive p) = act_adding Value (conf_throw bottom tables kinds.TypeError label)
    instance_adding v label (value.Object f) = record { adds = λ s. (instance_if_adding (is_function_in (slice_get s.heap f.0)) v label f.0).adds s }

  -- ---- `try`

  -- a jump that has reached its frame stays
  stayed_adds : (b : Bool) (j : Jump) (s : State) (next : Came (Unit {0}) → State → Plan) → ((how : Came (Unit {0})) → Adding (next how)) → Adds s (as_stayed (choose b (Goes (caught j) s) (Jumps j s)) next)
  stayed_adds true j s next h = (h (caught j)).adds s
  stayed_adds false j s next h = give_adds (jumped j) s

  stay_adds : (depth : ℕ) (next : Came (Unit {0}) → State → Plan) → ((how : Came (Unit {0})) → Adding (next how)) → (c : Completion) (s : State) → Adds s (with_stay depth next c s)
  unfolding stay
  stay_adds depth next h (gave v) s = (h (ended tt)).adds s
  stay_adds depth next h (jumped j) s = stayed_adds (nat_lt depth (length s.frames)) j s next h

  -- what is done last
  pub last_adding : (finishes : Bool) {m : State → Plan} (how : Came (Unit {0})) → Adding m → Adding (do_last finishes m how)
  unfolding end_last
  last_adding finishes how l = bind_adding One One _ (act_adding One (conf_quiet bottom tables))
      (λ u. bind_adding One One (λ v s. as_plan One (resume how tt s)) (choose_adding finishes l (record { adds = λ s. give_adds (gave (unlabelled undefined)) s })) (λ v. act_adding One (conf_resume bottom tables how tt)))

  -- and behind it the jump that waited
  pub waiting_adds : (how : Came (Unit {0})) (c : Completion) (s : State) → Adds s (end_last how c s)
  unfolding end_last
  waiting_adds how = result_adds One (λ u s. as_plan One (resume how tt s)) (λ u. act_adding One (conf_resume bottom tables how tt))

  -- the ends of a handler and of a block
  pub handler_adds : (finishes : Bool) {m : State → Plan} (depth : ℕ) → Adding m → (c : Completion) (s : State) → Adds s (end_handler finishes m depth c s)
  unfolding end_handler
  handler_adds finishes {m} depth l = stay_adds depth (do_last finishes m) (λ how. last_adding finishes how l)

  handle_adding : (finishes : Bool) (f : Val → State → Plan) {m : State → Plan} (depth : ℕ) (j : Jump) → ((v : Val) → Adding (f v)) → Adding m → Adding (do_handle finishes f m depth j)
  handle_adding finishes f {m} depth j h l = bind_adding One One _ (act_adding One (conf_choice bottom tables finishes (conf_ret bottom tables tt) (conf_quiet bottom tables)))
      (λ u. record { adds = λ s. and_adds s (f j.value s) (end_handler finishes m depth) ((h j.value).adds s) (handler_adds finishes depth l) })

  react_adding : (handles finishes : Bool) (f : Val → State → Plan) {m : State → Plan} (depth : ℕ) → ((v : Val) → Adding (f v)) → Adding m → (how : Came (Unit {0})) → Adding (do_react handles finishes f m depth how)
  react_adding handles finishes f depth h l (ended u) = last_adding finishes (ended u) l
  react_adding handles finishes f depth h l (caught j) = choose_adding (handles && is_throw j.exit) (handle_adding finishes f depth j h l) (last_adding finishes (caught j) l)

  pub block_adds : (handles finishes : Bool) (f : Val → State → Plan) {m : State → Plan} (depth : ℕ) → ((v : Val) → Adding (f v)) → Adding m → (c : Completion) (s : State) → Adds s (end_block handles finishes f m depth c s)
  unfolding end_block
  block_adds handles finishes f {m} depth h l = stay_adds depth (do_react handles finishes f m depth) (react_adding handles finishes f depth h l)

  pub attempt_adding : (handles finishes : Bool) {m k : State → Plan} (f : Val → State → Plan) → Adding m → ((v : Val) → Adding (f v)) → Adding k
      → Adding (λ s. and_plan (and_plan (m (pushed_on kind.Try bottom s)) (end_block handles finishes f k (length s.frames))) (end_round (length s.frames)))
  attempt_adding handles finishes {m} {k} f l h q = scope_adding kind.Try bottom end_round {m = λ depth s. and_plan (m s) (end_block handles finishes f k depth)}
      (λ depth. record { adds = λ s. and_adds s (m s) (end_block handles finishes f k depth) (l.adds s) (block_adds handles finishes f depth h q) }) round_adds

  -- ---- the operations

  -- any result
  pub any_result : (t : Ty) (a : Res Val t) → Rel (λ (w : Unit {0}) (v u : Val). Unit {0}) t tt a a
  any_result One a = tt
  any_result Value a = tt

  any_results : (vs : List Val) → Rels (λ (v u : Val). Unit {0}) vs vs
  any_results [] = nils
  any_results (v ∷ vs) = conses tt (any_results vs)

  pub entered : {E D : Enters} → EnteringLinked (Unit {0}) (λ w (v u : Val). Unit {0}) (λ w (e d : Env ℕ). Unit {0}) (λ t w (m n : State → Plan). Adding m) E D → EntersAdding E
  entered h = record { body = λ ss e. h.body tt ss e e tt; built_in = λ which construct vs. h.built_in tt which construct vs vs (any_results vs); conversion = λ kind v. h.conversion tt kind v v tt }

  -- the plans, linked with themselves
  unfoldable pub adding : Link (planned tables inputs set functions) (planned tables inputs set functions)
  adding = record {
    W = Unit {0};
    Le = λ v w. Unit {0};
    RV = λ w v u. Unit {0};
    RN = λ w n m. Unit {0};
    RP = λ w i j. Unit {0};
    RE = λ w e d. Unit {0};
    Lift = λ t w m n. Adding m;
    Inside = λ v w. Unit {0};
    inside_v = λ p r. tt;
    le_refl = λ w. tt;
    le_trans = λ p q. tt;
    more_v = λ p r. tt;
    more_n = λ p r. tt;
    more_p = λ p r. tt;
    more_e = λ p r. tt;
    place_of = λ r. tt;
    ret_one = λ w. record { adds = λ s. give_adds _ s };
    ret_value = λ {a = a} r. record { adds = λ s. give_adds (gave a) s };
    bind = λ t u f g l h. bind_adding t u f l (λ a. h tt tt a a (any_result t a));
    literal = λ w v. tt;
    unary = λ o {v = v} r. act_adding Value (conf_unary bottom tables o v);
    binary = λ o {v = v} {u = u} r q. act_adding Value (conf_given bottom tables (union v.label u.label) (binary_of o v.value u.value));
    primitive = λ kind {v = v} r h. convert_adding (entered h) (is_object v.value) kind v.label v v;
    comparable = λ {v = v} {u = u} r q h. convert_adding (entered h) (converts_beside v.value u.value) hint.Default (union v.label u.label) v (joined u.label v);
    look = λ {v = v} f g r h. bind_adding One Value (λ u t. f (seen t.heap v.value) t) (act_adding One (conf_raise bottom tables v.label)) (λ u. record { adds = λ t. (h tt tt (seen t.heap v.value)).adds t });
    throw = λ {v = v} r. act_adding Value (conf_throw_value bottom tables v);
    leave = λ t w name. act_adding t (conf_ends bottom tables (as_plain (left name)));
    act = λ a {vs = vs} r. act_adding Value (conf_act bottom tables inputs a vs);
    resolve = λ t {i = i} x f g p h. record { adds = λ s. (h tt tt (resolved s.records s.heap i x) (resolved s.records s.heap i x) tt).adds s };
    property = λ r q. tt;
    get_value = λ {n = n} {E = E} r h. record { adds = λ s. outcome_adds s (accessed n s) (enter_access functions E) ((conf_accessed bottom tables n).adds s) (access_adding (entered h)) };
    typeof_value = λ {n = n} {E = E} r h. record { adds = λ s. outcome_adds s (accessed_for_typeof n s) (enter_access functions E) ((conf_typeof bottom tables n).adds s) (access_adding (entered h)) };
    put_value = λ {n = n} {v = v} {E = E} r q h. record { adds = λ s. outcome_adds s (put_value n v s) (enter_putting functions E v) ((conf_put bottom tables n v).adds s) (putting_adding (entered h) v) };
    remove = λ {n = n} r. act_adding Value (conf_remove bottom tables n);
    define = λ key marks shape {base = base} {v = v} {g = g} {set = x} {E = E} r q t u h. record {
      adds = λ s. outcome_adds s (defining key marks shape base v g x s) (enter_defining E v) ((conf_define bottom tables key marks shape base v g x).adds s) (defining_adding (entered h) v);
    };
    fork = λ t {v = v} r l k. scope_adding kind.Branch v.label (end_branch t) (λ depth. choose_adding (truth v.value) (l tt tt) (k tt tt)) (branch_adds t);
    round = λ turn labels {e = e} f g r h. scope_adding (round_kind turn) bottom end_round (λ depth. h tt tt (with_around turn labels depth e) (with_around turn labels depth e) tt) round_adds;
    again = λ {v = v} r l k. bind_adding One One _ (act_adding One (conf_raise bottom tables v.label)) (λ u. choose_adding (truth v.value) l k);
    function = λ f {i = i} p. act_adding Value (conf_function bottom tables functions f i);
    jump = λ leaving {e = e} {v = v} r q. act_adding One (conf_jumps bottom tables (aimed 0 leaving e) v);
    raise = λ leaving {e = e} names r. act_adding One (conf_raised_by bottom tables inputs leaving (aimed 0 leaving e) (named_origins tables inputs names));
    this_of = λ r. tt;
    instance = λ {v = v} {f = f} r q h. instance_adding (entered h) v f.label f.value;
    declare = λ name {v = v} {e = e} f g r q h. record { adds = λ s. (h tt tt (with_place (length s.records) e) (with_place (length s.records) e) tt).adds (with_name e.place name v s) };
    call = λ {f = f} {this = this} {vs = vs} r q rs h. call_adding (entered h) f.label f.value this vs;
    construct = λ {f = f} {vs = vs} r rs h. construct_adding (entered h) f.label f.value vs;
    attempt = λ handles finishes f g l h q. attempt_adding handles finishes f (l tt tt) (λ v. h tt tt v v tt) (q tt tt);
    keys = λ {v = v} f g r h. record { adds = λ s. (list_adding (key_list s.heap v.value) v.label f (λ ks. h tt tt ks)).adds s };
  }

  -- asking for the parts
  pub asking_adding : Linked (planned tables inputs set functions) (planned tables inputs set functions) adding (asking tables inputs set functions) (asking tables inputs set functions)
  unfolding adding
  asking_adding = record {
    expr = λ e w i j p. record { adds = λ s. ask_adds (an_expr e i) s };
    use_of = λ use_as e w i j p. record { adds = λ s. ask_adds (a_use use_as e i) s };
    stmt = λ stmt w e d r. record { adds = λ s. ask_adds (a_stmt stmt e) s };
    named = λ labels stmt w e d r. record { adds = λ s. ask_adds (a_named labels stmt e) s };
    turn = λ round w e d r. record { adds = λ s. ask_adds (a_turn round e) s };
    visit = λ w v u rs e d r. record { adds = λ s. ask_adds (a_visit v e) s };
    native = λ steps w vs us rs. record { adds = λ s. ask_adds (a_request steps vs) s };
  }
