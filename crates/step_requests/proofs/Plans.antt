-- The plan of a request is that of what it asks for.
use Rattle.std.proofs.Common.{refl, ◌≡◌, ℕ, List, [], ◌∷◌, Option, Some, None}
use Rattle.flow_policy.specs.Policies.{Tables}
use Rattle.flow_policy.specs.Inputs.{Given}
use Rattle.js_ast.specs.Functions.{FunctionCode}
use Rattle.native_protocol.specs.declared.registers.Reg.{Reg}
use Rattle.native_protocol.specs.declared.request.Request.{Request}
use Rattle.native_protocol.specs.declared.request.Request.TheVariants as request
use Rattle.native_protocol.specs.Steps.{Steps}
use Rattle.origin_labels.specs.Label.{bottom}
use Rattle.es_meaning.specs.BuiltIns.{BuiltIns}
use Rattle.es_meaning.specs.Evaluation.{request_step, native_step, answered, answered_in, answered_by, got_from, had_by, put_in, put_behind, deleted_from, own_setter_read, own_getter_read, own_value_read, own_marks_read}
use Rattle.es_meaning.specs.Operations as operations
use Rattle.es_meaning.specs.Operations.{Ty, One, Value, Res}
use Rattle.es_meaning.specs.Outcomes.{Outcome, Goes, Jumps, Ends, and_then}
use Rattle.flow_meaning.specs.Planned.{Plan, Give, a_request, and_plan, as_plan, gave, with_outcome, with_result, planned, asking, plan, enter_access, enter_defining, enter_putting}
use Rattle.flow_meaning.specs.Scopes.{Halt, Jump, L, State, Val, raise}
use Rattle.flow_meaning.specs.Tracked.{act, accessed, of_property, put_value, remove, throw_error}
use Rattle.continuations.specs.Answering.{held_in}
use Rattle.continuations.specs.Moving.{following}
use Rattle.continuations.specs.Settings.{entrance}
use Rattle.step_requests.specs.declared.asked.Effect.{Effect}
use Rattle.step_requests.specs.declared.asked.Effect.TheVariants as effect
use Rattle.step_requests.specs.Asked.{OwnParts, asked_of, asked_plan, defining_of, effect_on, held_if, giving_parts, owned, owned_all, key_value, thrown_on, answered_to}

-- what goes on behind a completion goes on behind its outcome
pub followed : (t : Ty) (o : Outcome Halt Jump (Res Val t) State) (k : Res Val t → State → Plan) → and_plan (as_plan t o) (with_result t k) ≡ following o k
followed One (Goes x s) k = refl
followed One (Jumps j s) k = refl
followed One (Ends halt s) k = refl
followed Value (Goes x s) k = refl
followed Value (Jumps j s) k = refl
followed Value (Ends halt s) k = refl

-- an act, and then another
followed_then : (o : Outcome Halt Jump Val State) (next : Val → L Val) (k : Val → State → Plan) → and_plan (as_plan Value o) (with_result Value (λ x t. and_plan (as_plan Value (next x t)) (with_result Value k))) ≡ following (and_then o next) k
followed_then (Goes x t) next k = followed Value (next x t) k
followed_then (Jumps j t) next k = refl
followed_then (Ends halt t) next k = refl

-- one that may enter something
entered_by : {X : Type 0} (o : Outcome Halt Jump X State) (enter : X → State → Plan) (t : Ty) (k : Res Val t → State → Plan) → and_plan (with_outcome o enter) (with_result t k) ≡ following o (λ x u. and_plan (enter x u) (with_result t k))
entered_by (Goes x s) enter t k = refl
entered_by (Jumps j s) enter t k = refl
entered_by (Ends halt s) enter t k = refl

-- an act, and then one that may enter something
entered_then : {X : Type 0} (o : Outcome Halt Jump Val State) (next : Val → L X) (enter : X → State → Plan) (t : Ty) (k : Res Val t → State → Plan)
    → and_plan (as_plan Value o) (with_result Value (λ x u. and_plan (with_outcome (next x u) enter) (with_result t k))) ≡ following (and_then o next) (λ x u. and_plan (enter x u) (with_result t k))
entered_then (Goes x u) next enter t k = entered_by (next x u) enter t k
entered_then (Jumps j u) next enter t k = refl
entered_then (Ends halt u) next enter t k = refl

-- an act, and what comes behind it
chained : {X : Type 0} (o : Outcome Halt Jump Val State) (plans : Val → State → Plan) (next : Val → L X) (k : X → State → Plan) → ((x : Val) (t : State) → plans x t ≡ following (next x t) k) → and_plan (as_plan Value o) (with_result Value plans) ≡ following (and_then o next) k
chained (Goes x t) plans next k same = same x t
chained (Jumps j t) plans next k same = refl
chained (Ends halt t) plans next k same = refl

-- an act that gives at once
given_as : (o : Outcome Halt Jump Val State) → as_plan Value o ≡ following o (λ v. Give (gave v))
given_as (Goes v s) = refl
given_as (Jumps j s) = refl
given_as (Ends halt s) = refl

module _ (tables : Tables) (inputs : Given) (set : BuiltIns) (functions : List FunctionCode) where
  abbrev O : operations.Ops
  O = planned tables inputs set functions

  -- the four parts of an own property, one behind the other
  owned_as : (b : Val) (key : List ℕ) (k : OwnParts → State → Plan) (s : State)
      → and_plan (as_plan Value (owned tables inputs operations.own_marks b key s)) (with_result Value (λ m t.
      and_plan (as_plan Value (owned tables inputs operations.own_value b key t)) (with_result Value (λ v u.
      and_plan (as_plan Value (owned tables inputs operations.own_getter b key u)) (with_result Value (λ g w.
      and_plan (as_plan Value (owned tables inputs operations.own_setter b key w)) (with_result Value (λ h. k (record { marks = m; value = v; get = g; set = h })))))))))
      ≡ following (owned_all tables inputs b key s) k
  owned_as b key k s =
      chained (owned tables inputs operations.own_marks b key s) _ _ k (λ m t.
      chained (owned tables inputs operations.own_value b key t) _ _ k (λ v u.
      chained (owned tables inputs operations.own_getter b key u) _ _ k (λ g w.
      chained (owned tables inputs operations.own_setter b key w) _ _ k (λ h y. refl))))

  abbrev base_of : Reg → List Val → State → Outcome Halt Jump Val State
  base_of base vs s = act tables inputs operations.base_needed (held_in base vs ∷ []) s

  by_effect : (e : Effect) (to : Option Reg) (steps : Steps) (vs : List Val) (s : State) → and_plan (as_plan Value (effect_on tables inputs e vs s)) (with_result Value (answered_to to steps vs)) ≡ following (effect_on tables inputs e vs s) (answered_to to steps vs)
  by_effect e to steps vs s = followed Value (effect_on tables inputs e vs s) (answered_to to steps vs)

  -- the plan of what is asked for
  pub asked_is : (request : Request) (steps : Steps) (vs : List Val) (s : State) → request_step O (entrance tables inputs set functions) (asking tables inputs set functions) request steps vs s ≡ asked_plan tables inputs set functions (asked_of request) steps vs s
  unfolding request_step asked_plan answered answered_in answered_by got_from had_by put_in put_behind deleted_from own_setter_read own_getter_read own_value_read own_marks_read raise act
  asked_is (request.Look r) steps vs s = refl
  asked_is (request.Make v to) steps vs s = refl
  asked_is (request.Copy from to) steps vs s = refl
  asked_is (request.Same a b to) steps vs s = followed Value (effect_on tables inputs (effect.Same a b) vs s) (answered_to (Some to) steps vs)
  asked_is (request.Get base key to) steps vs s =
      entered_then (base_of base vs s) (λ b. accessed (of_property b key bottom)) (enter_access functions (entrance tables inputs set functions)) Value (answered_to (Some to) steps vs)
  asked_is (request.Has base key to) steps vs s = followed_then (base_of base vs s) (λ b. act tables inputs operations.has_key (key_value key ∷ b ∷ [])) (answered_to (Some to) steps vs)
  asked_is (request.Put base key from) steps vs s =
      entered_then (base_of base vs s) (λ b. put_value (of_property b key bottom) (held_in from vs)) (enter_putting functions (entrance tables inputs set functions) (held_in from vs)) One (λ u. answered_to None steps vs (held_in from vs))
  asked_is (request.Delete base key to) steps vs s = followed_then (base_of base vs s) (λ b. remove (of_property b key bottom)) (answered_to (Some to) steps vs)
  asked_is (request.Own base key m v g h) steps vs s = owned_as (held_in base vs) key (giving_parts (record { marks = m; value = v; get = g; set = h }) steps vs) s
  asked_is (request.Define base key marks v g h) steps vs s =
      entered_by (defining_of base key (record { marks = marks; value = v; get = g; set = h }) vs s) (enter_defining (entrance tables inputs set functions) (held_if vs v)) Value (answered_to None steps vs)
  asked_is (request.Keys base all to) steps vs s = by_effect (effect.Keys base all) (Some to) steps vs s
  asked_is (request.Proto base to) steps vs s = by_effect (effect.Proto base) (Some to) steps vs s
  asked_is (request.Extensible base to) steps vs s = by_effect (effect.Extensible base) (Some to) steps vs s
  asked_is (request.Prevent base) steps vs s = by_effect (effect.Prevent base) None steps vs s
  asked_is (request.New class None to) steps vs s = by_effect (effect.New class None) (Some to) steps vs s
  asked_is (request.New class (Some r) to) steps vs s = by_effect (effect.New class (Some r)) (Some to) steps vs s
  asked_is (request.Call callee own args to) steps vs s = refl
  asked_is (request.Construct callee args to) steps vs s = refl
  asked_is (request.Bind target own args to) steps vs s = by_effect (effect.Bind target own args) (Some to) steps vs s
  asked_is (request.ReadLine channel to) steps vs s = by_effect (effect.ReadLine channel) (Some to) steps vs s
  asked_is (request.PrintLine channel from) steps vs s = followed Value (act tables inputs operations.print_line (held_in channel vs ∷ held_in from vs ∷ []) s) (answered_to None steps vs)
  asked_is (request.Label from origins to) steps vs s = by_effect (effect.Label from origins) (Some to) steps vs s
  asked_is (request.RaiseStructure base origins) steps vs s = by_effect (effect.RaiseStructure base origins) None steps vs s
  asked_is (request.RaiseExistence base key origins) steps vs s = by_effect (effect.RaiseExistence base key origins) None steps vs s
  asked_is (request.Return from) steps vs s = refl
  asked_is (request.Throw from) steps vs s = given_as (thrown_on (held_in from vs) s)
  asked_is (request.ThrowNew kind) steps vs s = given_as (throw_error {X = Val} kind bottom s)
  asked_is (request.Leave name) steps vs s = refl

  pub request_is : (steps : Steps) (vs : List Val) (s : State) → plan tables inputs set functions (a_request steps vs) s ≡ asked_plan tables inputs set functions (asked_of (steps [])) steps vs s
  unfolding plan native_step
  request_is steps vs s = asked_is (steps []) steps vs s
