-- The planned reading: what a node does up to the next part that is evaluated, and then, as a function of how that part completes. A machine
-- whose pending work is such functions does what the labelled meaning says.
use Rattle.std.specs.Prelude.{ℕ, Bool, true, false, ◌&&◌, List, [], ◌∷◌, ◌++◌, length, Option, Some, None, slice_get}
use Rattle.flow_policy.specs.Policies.{Tables}
use Rattle.flow_policy.specs.Inputs.{Given}
use Rattle.flow_frames.specs.declared.kind.Kind.{Kind}
use Rattle.flow_frames.specs.declared.kind.Kind.TheVariants as kind
use Rattle.origin_labels.specs.Label.{Label, bottom, union}
use Rattle.prototype_walk.specs.KeyLists.{Keys}
use Rattle.js_number.specs.declared.num.Num.{Num as Number}
use Rattle.js_values.specs.declared.ids.ObjId.{ObjId}
use Rattle.js_values.specs.declared.value.Value.{Value as AnyValue}
use Rattle.js_values.specs.declared.value.Value.TheVariants as value
use Rattle.js_ast.specs.Trees.{Expr, body_of, Statement, Statements}
use Rattle.js_ast.specs.Functions.{FunctionCode, functions_of}
use Rattle.native_protocol.specs.declared.hint.Hint.{Hint}
use Rattle.native_protocol.specs.declared.hint.Hint.TheVariants as hint
use Rattle.native_protocol.specs.declared.request.ErrorKind.TheVariants as kinds
use Rattle.native_protocol.specs.declared.request.Seen.{Seen}
use Rattle.native_protocol.specs.Steps.{Steps}
use Rattle.es_meaning.specs.BuiltIns.{BuiltIns}
use Rattle.es_meaning.specs.Holders.{constructs_in}
use Rattle.es_meaning.specs.Outcomes.{left, Outcome, Goes, Jumps, Ends, ret, and_then}
use Rattle.es_meaning.specs.Environments.{Env, with_around, with_place, called_env}
use Rattle.es_meaning.specs.Functions.{Callee, not_callable, empty_callee, of_script, of_built_in, this_or}
use Rattle.es_meaning.specs.Operations.{Ty, One, Value, Res, Entering, Ops, Use, Round, Visit, Rec}
use Rattle.es_meaning.specs.Operators.{is_object, converts_beside, truth}
use Rattle.es_meaning.specs.Evaluation.{step, begun, eval}
use Rattle.es_meaning.specs.Start.{id}
use Rattle.es_meaning.specs.Plain.{undefined, choose, is_throw, leaves_wrappers, may_declare, outermost_env, prototype_name, count_of, is_count}
use Rattle.es_meaning.specs.Requested.{no_marks}
use Rattle.flow_meaning.specs.Erased.{unlabelled}
use Rattle.flow_meaning.specs.Scopes.{Val, joined, Halt, as_plain, State, Jump, pushed_on, popped, Came, ended, caught, stay, settled, answer, construction, quiet, resume, round_kind, raise}
use Rattle.flow_meaning.specs.Requested.{Aim, aim_of, is_function_in}
use Rattle.flow_meaning.specs.Tracked.{throw_error, numbered, set_length, Defining, is_defined, has_length_given, defining, seen, resolved, key_list, Access, has_value, has_getter, accessed, accessed_for_typeof, property_of, Putting, is_put, has_setter, has_length, put_value, truth_of, with_call, callee_at, called_value, with_fresh, prototype_of, is_instance, with_name, labelled, timed, start}

-- what costs a turn to enter
pub data Part : Type 0 where
  an_expr : Expr → ℕ → Part
  a_use : Use → Expr → ℕ → Part
  a_stmt : Statement → Env ℕ → Part
  a_named : List (List ℕ) → Statement → Env ℕ → Part
  a_turn : Round → Env ℕ → Part
  a_visit : Visit Val → Env ℕ → Part
  a_request : Steps → List Val → Part

-- how a part completes
pub data Completion : Type 0 where
  gave : Val → Completion
  jumped : Jump → Completion

-- it completes, asks for a part and goes on behind it, or ends the run
pub data Plan : Type 0 where
  Give : Completion → State → Plan
  Ask : Part → State → (Completion → State → Plan) → Plan
  End : Halt → State → Plan

abbrev pub Then : Type 0
Then = Completion → State → Plan

abbrev pub and_plan : Plan → Then → Plan
and_plan (Give c s) next = next c s
and_plan (Ask part s go_on) next = Ask part s (λ c t. and_plan (go_on c t) next)
and_plan (End halt s) next = End halt s

-- what gives nothing is taken to give undefined
abbrev pub value_of : (t : Ty) → Res Val t → Val
value_of One a = unlabelled undefined
value_of Value v = v

abbrev pub result_of : (t : Ty) → Val → Res Val t
result_of One v = tt
result_of Value v = v

-- a jump passes what would go on
abbrev pub with_result : (t : Ty) → (Res Val t → State → Plan) → Then
with_result t go_on (gave v) s = go_on (result_of t v) s
with_result t go_on (jumped j) s = Give (jumped j) s

abbrev pub as_plan : (t : Ty) → Outcome Halt Jump (Res Val t) State → Plan
as_plan t (Goes a s) = Give (gave (value_of t a)) s
as_plan t (Jumps j s) = Give (jumped j) s
as_plan t (Ends halt s) = End halt s

abbrev pub outcome_of : (t : Ty) → Completion → State → Outcome Halt Jump (Res Val t) State
outcome_of t (gave v) s = Goes (result_of t v) s
outcome_of t (jumped j) s = Jumps j s

-- the end of a branch and of a loop or a turn, in the frame at a depth
unfoldable pub end_branch : (t : Ty) → ℕ → Then
end_branch t depth c s = as_plan t (and_then (popped depth (outcome_of t c s)) (λ l. ret (settled t l)))

unfoldable pub end_round : ℕ → Then
end_round depth c s = as_plan One (and_then (popped depth (outcome_of One c s)) (λ l. ret tt))

-- that of a call, and of a construction, with the number of what was made
unfoldable pub end_call : ℕ → Then
end_call depth c s = as_plan Value (and_then (popped depth (outcome_of One c s)) (λ l. ret (answer l)))

unfoldable pub end_construction : ℕ → ℕ → Then
end_construction fresh depth c s = as_plan Value (and_then (popped depth (outcome_of One c s)) (λ l. ret (construction fresh l)))

-- ---- `try`: what comes behind its block, its handler and what is done last, in the frame at a depth

abbrev pub as_stayed : Outcome Halt Jump (Came (Unit {0})) State → (Came (Unit {0}) → State → Plan) → Plan
as_stayed (Goes how s) next = next how s
as_stayed (Jumps j s) next = Give (jumped j) s
as_stayed (Ends halt s) next = End halt s

abbrev pub with_stay : ℕ → (Came (Unit {0}) → State → Plan) → Then
with_stay depth next c s = as_stayed (stay depth (outcome_of One c s)) next

-- behind what is done last the jump that waited is issued again
unfoldable pub end_last : Came (Unit {0}) → Then
end_last how = with_result One (λ u s. as_plan One (resume how tt s))

abbrev pub nothing_done : State → Plan
nothing_done s = Give (gave (unlabelled undefined)) s

abbrev pub do_last : Bool → (State → Plan) → Came (Unit {0}) → State → Plan
do_last finishes last how s = and_plan (as_plan One (quiet s)) (with_result One (λ u t. and_plan (choose finishes last nothing_done t) (end_last how)))

unfoldable pub end_handler : Bool → (State → Plan) → ℕ → Then
end_handler finishes last depth = with_stay depth (do_last finishes last)

abbrev pub do_handle : Bool → (Val → State → Plan) → (State → Plan) → ℕ → Jump → State → Plan
do_handle finishes handler last depth j s = and_plan (as_plan One (choose finishes (ret tt) quiet s)) (with_result One (λ u t. and_plan (handler j.value t) (end_handler finishes last depth)))

abbrev pub do_react : Bool → Bool → (Val → State → Plan) → (State → Plan) → ℕ → Came (Unit {0}) → State → Plan
do_react handles finishes handler last depth (ended u) s = do_last finishes last (ended u) s
do_react handles finishes handler last depth (caught j) s = choose (handles && is_throw j.exit) (do_handle finishes handler last depth j) (do_last finishes last (caught j)) s

unfoldable pub end_block : Bool → Bool → (Val → State → Plan) → (State → Plan) → ℕ → Then
end_block handles finishes handler last depth = with_stay depth (do_react handles finishes handler last depth)

-- ---- calls, getters and setters, and the conversion of objects

abbrev pub Enters : Type 0
Enters = Entering Val ℕ (λ t. State → Plan)

-- a value is given in a frame
abbrev pub in_frame : Kind → Label → (State → Plan) → State → Plan
in_frame kind label m s = and_plan (m (pushed_on kind label s)) (end_branch Value (length s.frames))

unfoldable pub enter_call : List FunctionCode → Callee → Label → Val → List Val → Enters → ℕ → State → Plan
enter_call functions not_callable label this args E depth s = as_plan One (throw_error kinds.TypeError label s)
enter_call functions empty_callee label this args E depth s = Give (gave (unlabelled undefined)) s
enter_call functions (of_built_in which) label this args E depth s = as_plan One (throw_error kinds.TypeError label s)
enter_call functions (of_script number f place) label this args E depth s = E.body (body_of f) (called_env (length s.records) depth) (with_call functions number f place this args s)

unfoldable pub call_by : List FunctionCode → Callee → Label → ℕ → Val → List Val → Enters → State → Plan
call_by functions (of_built_in which) label o this args E s = in_frame kind.Native label (E.built_in which false (this ∷ called_value label o ∷ args)) s
call_by functions callee label o this args E s = and_plan (enter_call functions callee label this args E (length s.frames) (pushed_on kind.Call label s)) (end_call (length s.frames))

unfoldable pub call_aimed : List FunctionCode → Label → Aim → Val → List Val → Enters → State → Plan
call_aimed functions label aim this args E s =
    call_by functions (callee_at functions s.heap aim.target.function) (union label aim.label) aim.target.function (this_or aim.target.this this) (aim.target.args ++ args) E s

unfoldable pub call_value : List FunctionCode → Label → AnyValue → Val → List Val → Enters → State → Plan
call_value functions label (value.Primitive p) this args E s = call_by functions not_callable label 0 this args E s
call_value functions label (value.Object o) this args E s = call_aimed functions label (aim_of s.heap o.0) this args E s

unfoldable pub enter_construction : List FunctionCode → Callee → Label → ℕ → List Val → Enters → ℕ → State → Plan
enter_construction functions not_callable label o args E depth s = as_plan One (throw_error kinds.TypeError label s)
enter_construction functions empty_callee label o args E depth s = as_plan One (throw_error kinds.TypeError label s)
enter_construction functions (of_built_in which) label o args E depth s = as_plan One (throw_error kinds.TypeError label s)
enter_construction functions (of_script number code place) label o args E depth s =
    enter_call functions (of_script number code place) label (unlabelled (value.Object (id (length s.heap)))) args E depth (with_fresh (prototype_of s.heap o) s)

unfoldable pub construct_built_in : BuiltIns → ℕ → Label → ℕ → List Val → Enters → State → Plan
construct_built_in set which label o args E = choose (constructs_in set which) (E.built_in which true (unlabelled undefined ∷ called_value label o ∷ args)) (λ s. as_plan Value (throw_error kinds.TypeError label s))

unfoldable pub construct_by : BuiltIns → List FunctionCode → Callee → Label → ℕ → List Val → Enters → State → Plan
construct_by set functions (of_built_in which) label o args E s = in_frame kind.Native label (construct_built_in set which label o args E) s
construct_by set functions callee label o args E s = and_plan (enter_construction functions callee label o args E (length s.frames) (pushed_on kind.Call label s)) (end_construction (length s.heap) (length s.frames))

unfoldable pub construct_aimed : BuiltIns → List FunctionCode → Label → Aim → List Val → Enters → State → Plan
construct_aimed set functions label aim args E s =
    construct_by set functions (callee_at functions s.heap aim.target.function) (union label aim.label) aim.target.function (aim.target.args ++ args) E s

unfoldable pub construct_value : BuiltIns → List FunctionCode → Label → AnyValue → List Val → Enters → State → Plan
construct_value set functions label (value.Primitive p) args E s = construct_by set functions not_callable label 0 args E s
construct_value set functions label (value.Object o) args E s = construct_aimed set functions label (aim_of s.heap o.0) args E s

-- what a read or a put comes to, and what is done behind it
abbrev pub with_outcome : {X : Type 0} → Outcome Halt Jump X State → (X → State → Plan) → Plan
with_outcome (Goes x s) next = next x s
with_outcome (Jumps j s) next = Give (jumped j) s
with_outcome (Ends halt s) next = End halt s

unfoldable pub enter_access : List FunctionCode → Enters → Access → State → Plan
enter_access functions E (has_value v) s = Give (gave v) s
enter_access functions E (has_getter label f this) s = call_value functions label (value.Object f) this [] E s

unfoldable pub convert_by : Bool → Enters → Hint → Label → Val → Val → State → Plan
convert_by true E h label v given s = in_frame kind.Native label (E.conversion h v) s
convert_by false E h label v given s = Give (gave given) s

-- the two conversions of a value for the `length` of an array, and then what is done with the number
abbrev pub Counted : Type 0
Counted = ℕ → Label → State → Plan

abbrev pub convert_for_length : Enters → Label → Val → State → Plan
convert_for_length E label v s = convert_by (is_object v.value) E hint.Number (union label v.label) v v s

unfoldable pub given_count : Bool → ℕ → Label → Label → Counted → State → Plan
given_count true n given label next s = next n given s
given_count false n given label next s = as_plan Value (throw_error kinds.RangeError (union label given) s)

unfoldable pub end_second : Label → Counted → Val → Number → Then
end_second label next first m = with_result Value (λ second s. with_outcome (numbered second s) (λ n. given_count (is_count m n) (count_of m) (union first.label second.label) label next))

unfoldable pub end_first : Enters → Label → Val → Counted → Then
end_first E label v next = with_result Value (λ first s. with_outcome (numbered first s) (λ m t. and_plan (convert_for_length E label v t) (end_second label next first m)))

unfoldable pub enter_count : Enters → Label → Val → Counted → State → Plan
enter_count E label v next s = and_plan (convert_for_length E label v s) (end_first E label v next)

unfoldable pub enter_defining : Enters → Val → Defining → State → Plan
enter_defining E v (is_defined label) s = Give (gave (record { value = undefined; label = label })) s
enter_defining E v (has_length_given label o marks) s = enter_count E label v (λ n given t. as_plan Value (set_length true label o marks n given t)) s

-- what a setter gives is of no use, and so is what a `length` gives
unfoldable pub end_putting : Then
end_putting = with_result Value (λ v s. Give (gave (unlabelled undefined)) s)

unfoldable pub enter_putting : List FunctionCode → Enters → Val → Putting → State → Plan
enter_putting functions E v is_put s = Give (gave (unlabelled undefined)) s
enter_putting functions E v (has_setter label f this) s = and_plan (call_value functions label (value.Object f) this (v ∷ []) E s) end_putting
enter_putting functions E v (has_length label o) s = and_plan (enter_count E label v (λ n given t. as_plan Value (set_length false label o no_marks n given t)) s) end_putting

-- `instanceof`, behind the read of `prototype`
unfoldable pub end_instance : Label → ℕ → Then
end_instance label o = with_result Value (λ proto s. as_plan Value (is_instance (union label proto.label) o proto.value s))

unfoldable pub instance_by : List FunctionCode → Val → ObjId → Label → ℕ → Enters → State → Plan
instance_by functions v o label f E s =
    and_plan (with_outcome (property_of (union v.label label) (called_value label f) (value.Object (id f)) prototype_name s) (enter_access functions E)) (end_instance (union v.label label) o.0)

unfoldable pub instance_of : List FunctionCode → Val → AnyValue → Label → Aim → Enters → State → Plan
instance_of functions v (value.Primitive p) label aim E s = Give (gave (truth_of false (union v.label label))) s
instance_of functions v (value.Object o) label aim E s = instance_by functions v o (union label aim.label) aim.target.function E s

unfoldable pub instance_if : List FunctionCode → Bool → Val → Label → ℕ → Enters → State → Plan
instance_if functions true v label f E s = instance_of functions v v.value label (aim_of s.heap f) E s
instance_if functions false v label f E s = as_plan Value (throw_error kinds.TypeError label s)

unfoldable pub instance_value : List FunctionCode → Val → Label → AnyValue → Enters → State → Plan
instance_value functions v label (value.Primitive p) E s = as_plan Value (throw_error kinds.TypeError label s)
instance_value functions v label (value.Object f) E s = instance_if functions (is_function_in (slice_get s.heap f.0)) v label f.0 E s

-- a look raises the frame of its built-in
abbrev pub look : Val → (Seen → State → Plan) → State → Plan
look v k s = and_plan (as_plan One (raise v.label s)) (with_result One (λ u t. k (seen t.heap v.value) t))

-- the keys of a value raise the loop's frame
unfoldable pub with_list : Option Keys → Label → (List (List ℕ) → State → Plan) → State → Plan
with_list None label next s = End (as_plain (left leaves_wrappers)) s
with_list (Some list) label next s = and_plan (as_plan One (raise (union label list.walk) s)) (with_result One (λ u. next list.keys))

module _ (tables : Tables) (inputs : Given) (set : BuiltIns) (functions : List FunctionCode) where
  -- the labelled meaning, of which the acts are taken as they are
  abbrev T : Ops
  T = labelled tables inputs set functions

  abbrev pub planned : Ops
  planned = record {
    V = Val;
    N = T.N;
    H = ℕ;
    M = λ t. State → Plan;
    ret = λ t a s. Give (gave (value_of t a)) s;
    bind = λ t u m f s. and_plan (m s) (with_result t f);
    literal = T.literal;
    unary = λ o v s. as_plan Value (T.unary o v s);
    binary = λ o v u s. as_plan Value (T.binary o v u s);
    act = λ a vs s. as_plan Value (T.act a vs s);
    look = look;
    function = λ f i s. as_plan Value (T.function f i s);
    jump = λ leaving e v s. as_plan One (T.jump leaving e v s);
    raise = λ leaving e names s. as_plan One (T.raise leaving e names s);
    throw = λ v s. as_plan Value (T.throw v s);
    leave = λ t name s. as_plan t (T.leave t name s);
    resolve = λ t i x k s. k (resolved s.records s.heap i x) s;
    property = T.property;
    get_value = λ n E s. with_outcome (accessed n s) (enter_access functions E);
    typeof_value = λ n E s. with_outcome (accessed_for_typeof n s) (enter_access functions E);
    put_value = λ n v E s. with_outcome (put_value n v s) (enter_putting functions E v);
    remove = λ n s. as_plan Value (T.remove n s);
    define = λ key marks shape base v g set E s. with_outcome (defining key marks shape base v g set s) (enter_defining E v);
    this_of = T.this_of;
    instance = λ v f E s. instance_value functions v f.label f.value E s;
    fork = λ t v m n s. and_plan (choose (truth v.value) m n (pushed_on kind.Branch v.label s)) (end_branch t (length s.frames));
    round = λ turn labels e k s. and_plan (k (with_around turn labels (length s.frames) e) (pushed_on (round_kind turn) bottom s)) (end_round (length s.frames));
    again = λ v m n s. and_plan (as_plan One (raise v.label s)) (with_result One (λ u. choose (truth v.value) m n));
    keys = λ v next s. with_list (key_list s.heap v.value) v.label next s;
    declare = λ name v e k s. k (with_place (length s.records) e) (with_name e.place name v s);
    call = λ f this args E s. call_value functions f.label f.value this args E s;
    construct = λ f args E s. construct_value set functions f.label f.value args E s;
    primitive = λ h v E s. convert_by (is_object v.value) E h v.label v v s;
    comparable = λ v u E s. convert_by (converts_beside v.value u.value) E hint.Default (union v.label u.label) v (joined u.label v) s;
    attempt = λ handles finishes block handler last s. and_plan (and_plan (block (pushed_on kind.Try bottom s)) (end_block handles finishes handler last (length s.frames))) (end_round (length s.frames));
  }

  -- a part is asked for, and its completion is given
  abbrev pub asking : Rec planned
  asking = record {
    expr = λ e i s. Ask (an_expr e i) s Give;
    use_of = λ use_as e i s. Ask (a_use use_as e i) s Give;
    stmt = λ stmt e s. Ask (a_stmt stmt e) s Give;
    named = λ labels stmt e s. Ask (a_named labels stmt e) s Give;
    turn = λ round e s. Ask (a_turn round e) s Give;
    visit = λ visit e s. Ask (a_visit visit e) s Give;
    native = λ steps vs s. Ask (a_request steps vs) s Give;
  }

  -- the plan of a part: the evaluator's step
  unfoldable pub plan : Part → State → Plan
  plan (an_expr e i) = (step planned set asking).expr e i
  plan (a_use use_as e i) = (step planned set asking).use_of use_as e i
  plan (a_stmt stmt e) = (step planned set asking).stmt stmt e
  plan (a_named labels stmt e) = (step planned set asking).named labels stmt e
  plan (a_turn round e) = (step planned set asking).turn round e
  plan (a_visit visit e) = (step planned set asking).visit visit e
  plan (a_request steps vs) = (step planned set asking).native steps vs

  -- that of a program's statements, if it may declare its functions
  unfoldable pub program_plan : Statements → State → Plan
  program_plan ss = begun planned asking (may_declare set ss) ss (outermost_env 0)

-- ---- performing

abbrev pub Ran : Type 0
Ran = Outcome Halt Jump Val State

abbrev pub Evaluator : Type 0
Evaluator = Part → State → Ran

abbrev pub untyped : (t : Ty) → Outcome Halt Jump (Res Val t) State → Ran
untyped t (Goes a s) = Goes (value_of t a) s
untyped t (Jumps j s) = Jumps j s
untyped t (Ends halt s) = Ends halt s

unfoldable pub and_go : Ran → (Completion → State → Ran) → Ran
and_go (Goes v s) next = next (gave v) s
and_go (Jumps j s) next = next (jumped j) s
and_go (Ends halt s) next = Ends halt s

unfoldable pub completed : Completion → State → Ran
completed (gave v) s = Goes v s
completed (jumped j) s = Jumps j s

unfoldable pub perform : Evaluator → Plan → Ran
perform evaluator (Give c s) = completed c s
perform evaluator (Ask part s go_on) = and_go (evaluator part s) (λ c t. perform evaluator (go_on c t))
perform evaluator (End halt s) = Ends halt s

module _ (tables : Tables) (inputs : Given) (set : BuiltIns) (functions : List FunctionCode) where
  abbrev pub of_rec : Rec (labelled tables inputs set functions) → Evaluator
  of_rec R (an_expr e i) s = untyped Value (R.expr e i s)
  of_rec R (a_use use_as e i) s = untyped Value (R.use_of use_as e i s)
  of_rec R (a_stmt stmt e) s = untyped One (R.stmt stmt e s)
  of_rec R (a_named labels stmt e) s = untyped One (R.named labels stmt e s)
  of_rec R (a_turn round e) s = untyped One (R.turn round e s)
  of_rec R (a_visit visit e) s = untyped One (R.visit visit e s)
  of_rec R (a_request steps vs) s = untyped Value (R.native steps vs s)

  -- the meaning of a part: each level costs a turn, so the turns bound the depth
  unfoldable pub meaning : Evaluator
  meaning part s = of_rec (eval (timed tables inputs set functions) set s.turns) part s

-- and of a program
unfoldable pub program_meaning : BuiltIns → Tables → Given → Statements → ℕ → Ran
program_meaning set tables inputs program turns = perform (meaning tables inputs set (functions_of program)) (program_plan tables inputs set (functions_of program) program (start tables inputs set program turns))
