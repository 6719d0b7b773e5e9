-- What a built-in asks for, as plans: an effect, whose value goes into a register or nowhere, something that may enter a function, or an end.
use Rattle.std.specs.Prelude.{ℕ, true, false, List, [], ◌∷◌, map, Option, Some, None}
use Rattle.std.specs.Option.{is_some}
use Rattle.origin_labels.specs.Label.{Label, bottom, union}
use Rattle.flow_policy.specs.Policies.{Tables}
use Rattle.flow_policy.specs.Inputs.{Given}
use Rattle.js_ast.specs.Functions.{FunctionCode}
use Rattle.js_ast.specs.declared.operators.BinaryOperator.TheVariants.{StrictEqual}
use Rattle.js_number.specs.declared.primitive.Primitive.TheVariants.{Str}
use Rattle.js_values.specs.declared.inner.Class.{Class}
use Rattle.js_values.specs.declared.value.Labelled.{Labelled}
use Rattle.js_values.specs.declared.value.Value.TheVariants as value
use Rattle.js_values.specs.Readings.{read_value}
use Rattle.native_protocol.specs.declared.registers.Reg.{Reg}
use Rattle.native_protocol.specs.declared.request.Answer.TheVariants as answer
use Rattle.native_protocol.specs.declared.request.Request.{Request}
use Rattle.native_protocol.specs.declared.request.Request.TheVariants as request
use Rattle.native_protocol.specs.Steps.{Steps}
use Rattle.es_meaning.specs.BuiltIns.{BuiltIns, steps_behind}
use Rattle.es_meaning.specs.Operations as operations
use Rattle.es_meaning.specs.Operations.{One, Value, Shape}
use Rattle.es_meaning.specs.Operators.{binary_of}
use Rattle.es_meaning.specs.Outcomes.{throws, left, ret, ◌>>=◌}
use Rattle.es_meaning.specs.Plain.{undefined}
use Rattle.flow_meaning.specs.Erased.{unlabelled}
use Rattle.flow_meaning.specs.Planned.{Enters, Plan, Give, Ask, End, a_request, gave, and_plan, with_result, call_value, construct_value, as_plan, enter_access, enter_count, enter_defining, enter_putting}
use Rattle.flow_meaning.specs.Scopes.{L, State, Val, as_plain, jump, raised_in}
use Rattle.flow_meaning.specs.Tracked as tracked
use Rattle.flow_meaning.specs.Tracked.{Access, Defining, Putting, accessed, defining, given, of_property, put_value, remove, seen, set_length, throw_error}
use Rattle.run_state.specs.declared.outcome.SetLength.{SetLength}
use Rattle.run_state.specs.Accesses.{defines, marks_given}
use Rattle.continuations.specs.Answering.{held_in, written_in}
use Rattle.continuations.specs.Moving.{following}
use Rattle.continuations.specs.Settings.{entrance}
use Rattle.step_requests.specs.declared.asked.Asked.{Asked}
use Rattle.step_requests.specs.declared.asked.Asked.TheVariants as asked
use Rattle.step_requests.specs.declared.asked.GivenParts.{GivenParts}
use Rattle.step_requests.specs.declared.asked.OwnRegisters.{OwnRegisters}
use Rattle.step_requests.specs.declared.asked.Effect.{Effect}
use Rattle.step_requests.specs.declared.asked.Effect.TheVariants as effect

-- what a request asks for
abbrev pub asked_of : Request → Asked
asked_of (request.Look r) = asked.Look r
asked_of (request.Make v to) = asked.Does (effect.Make v) (Some to)
asked_of (request.Copy from to) = asked.Does (effect.Copy from) (Some to)
asked_of (request.Same a b to) = asked.Does (effect.Same a b) (Some to)
asked_of (request.Get base key to) = asked.Get base key to
asked_of (request.Has base key to) = asked.Does (effect.Has base key) (Some to)
asked_of (request.Put base key from) = asked.Put base key from
asked_of (request.Delete base key to) = asked.Does (effect.Delete base key) (Some to)
asked_of (request.Own base key marks v g s) = asked.Own base key (record { marks = marks; value = v; get = g; set = s })
asked_of (request.Define base key marks v g s) = asked.Define base key (record { marks = marks; value = v; get = g; set = s })
asked_of (request.Keys base all to) = asked.Does (effect.Keys base all) (Some to)
asked_of (request.Proto base to) = asked.Does (effect.Proto base) (Some to)
asked_of (request.Extensible base to) = asked.Does (effect.Extensible base) (Some to)
asked_of (request.Prevent base) = asked.Does (effect.Prevent base) None
asked_of (request.New class proto to) = asked.Does (effect.New class proto) (Some to)
asked_of (request.Call callee own args to) = asked.Call callee own args to
asked_of (request.Construct callee args to) = asked.Construct callee args to
asked_of (request.Bind target own args to) = asked.Does (effect.Bind target own args) (Some to)
asked_of (request.ReadLine channel to) = asked.Does (effect.ReadLine channel) (Some to)
asked_of (request.PrintLine channel from) = asked.PrintLine channel from
asked_of (request.Label from origins to) = asked.Does (effect.Label from origins) (Some to)
asked_of (request.RaiseStructure base origins) = asked.Does (effect.RaiseStructure base origins) None
asked_of (request.RaiseExistence base key origins) = asked.Does (effect.RaiseExistence base key origins) None
asked_of (request.Return from) = asked.Return from
asked_of (request.Throw from) = asked.Throw from
asked_of (request.ThrowNew kind) = asked.ThrowNew kind
asked_of (request.Leave name) = asked.Leave name

-- ---- registers

abbrev pub held_all : List Reg → List Val → List Val
held_all rs vs = map (λ r. held_in r vs) rs

abbrev pub held_if : List Val → Option Reg → Val
held_if vs None = unlabelled undefined
held_if vs (Some r) = held_in r vs

-- a value that is given, or undefined
abbrev pub value_or_undefined : {T : Type 0} → (T → Label) → Option (Labelled T) → Val
value_or_undefined reading None = unlabelled undefined
value_or_undefined reading (Some v) = read_value reading v

abbrev pub shape_of : Option Reg → Option Reg → Option Reg → Shape
shape_of v g s = record { has_value = is_some v; has_getter = is_some g; has_setter = is_some s }

abbrev pub key_value : List ℕ → Val
key_value key = unlabelled (value.Primitive (Str key))

-- ---- acts

-- what is known of an own property
pub record OwnParts : Type 0 where
  pub marks : Val
  pub value : Val
  pub get : Val
  pub set : Val

module _ (tables : Tables) (inputs : Given) where
  abbrev act : operations.Act → List Val → L Val
  act = tracked.act tables inputs

  -- what is asked of a base that must be able to have properties
  abbrev pub with_base : {X : Type 0} → Val → (Val → L X) → L X
  with_base base next = act operations.base_needed (base ∷ []) >>= next

  abbrev pub made_by : Option Reg → Class → List Val → L Val
  made_by None class vs = act (operations.new_object class false) []
  made_by (Some r) class vs = act (operations.new_object class true) (held_in r vs ∷ [])

  -- an effect
  abbrev pub effect_on : Effect → List Val → L Val
  effect_on (effect.Make v) vs = ret (unlabelled (value.Primitive v))
  effect_on (effect.Copy from) vs = ret (held_in from vs)
  effect_on (effect.Same a b) vs = given (union (held_in a vs).label (held_in b vs).label) (binary_of StrictEqual (held_in a vs).value (held_in b vs).value)
  effect_on (effect.Has base key) vs = with_base (held_in base vs) (λ b. act operations.has_key (key_value key ∷ b ∷ []))
  effect_on (effect.Delete base key) vs = with_base (held_in base vs) (λ b. remove (of_property b key bottom))
  effect_on (effect.Keys base all) vs = act (operations.own_keys all) (held_in base vs ∷ [])
  effect_on (effect.Proto base) vs = act operations.prototype_of_object (held_in base vs ∷ [])
  effect_on (effect.Extensible base) vs = act operations.is_extensible (held_in base vs ∷ [])
  effect_on (effect.Prevent base) vs = act operations.prevent_extensions (held_in base vs ∷ [])
  effect_on (effect.New class proto) vs = made_by proto class vs
  effect_on (effect.Bind target own args) vs = act operations.bind (held_in target vs ∷ held_in own vs ∷ held_all args vs)
  effect_on (effect.ReadLine channel) vs = act operations.read_line (held_in channel vs ∷ [])
  effect_on (effect.Label from origins) vs = act (operations.join_label origins) (held_in from vs ∷ [])
  effect_on (effect.RaiseStructure base origins) vs = act (operations.raise_structure origins) (held_in base vs ∷ [])
  effect_on (effect.RaiseExistence base key origins) vs = act (operations.raise_existence key origins) (held_in base vs ∷ [])

  -- the read of a property, and its put
  abbrev pub got : Val → List ℕ → L Access
  got base key = with_base base (λ b. accessed (of_property b key bottom))

  abbrev pub putting : Val → List ℕ → Val → L Putting
  putting base key v = with_base base (λ b. put_value (of_property b key bottom) v)

  abbrev pub owned : operations.OwnPart → Val → List ℕ → L Val
  owned part base key = act (operations.own_property part key) (base ∷ [])

  abbrev pub owned_all : Val → List ℕ → L OwnParts
  owned_all base key = owned operations.own_marks base key >>= λ m. owned operations.own_value base key >>= λ v. owned operations.own_getter base key >>= λ g. owned operations.own_setter base key >>= λ s. ret (record { marks = m; value = v; get = g; set = s })

-- what a definition comes to
abbrev pub defining_of : Reg → List ℕ → GivenParts → List Val → L Defining
defining_of base key given vs = defining key given.marks (shape_of given.value given.get given.set) (held_in base vs) (held_if vs given.value) (held_if vs given.get) (held_if vs given.set)

-- a value is thrown, which depends on nothing but the context
abbrev pub thrown_on : Val → L Val
thrown_on v = jump bottom (record { exit = throws; to = 0; value = v })

-- ---- plans

-- the built-in asks next
abbrev pub asks : Steps → List Val → State → Plan
asks steps vs s = Ask (a_request steps vs) s Give

-- what was asked for is done, with a value
abbrev pub answered_to : Option Reg → Steps → List Val → Val → State → Plan
answered_to None steps vs v = asks (steps_behind steps answer.Done) vs
answered_to (Some to) steps vs v = asks (steps_behind steps answer.Done) (written_in to v vs)

-- the four parts of what is known of an own property are written
abbrev pub giving_parts : OwnRegisters → Steps → List Val → OwnParts → State → Plan
giving_parts to steps vs p = asks (steps_behind steps answer.Done) (written_in to.set p.set (written_in to.get p.get (written_in to.value p.value (written_in to.marks p.marks vs))))

module _ (tables : Tables) (inputs : Given) (set : BuiltIns) (functions : List FunctionCode) where
  abbrev E : Enters
  E = entrance tables inputs set functions

  -- a read that came to a value or to a getter, and a put that is done or came to a setter
  abbrev pub entering_access : Reg → Steps → List Val → Access → State → Plan
  entering_access to steps vs access s = and_plan (enter_access functions E access s) (with_result Value (answered_to (Some to) steps vs))

  abbrev pub entering_putting : Val → Steps → List Val → Putting → State → Plan
  entering_putting v steps vs putting s = and_plan (enter_putting functions E v putting s) (with_result One (λ u. answered_to None steps vs v))

  -- a definition that is done, or gives the `length` of an array a value
  abbrev pub entering_defining : Val → Steps → List Val → Defining → State → Plan
  entering_defining v steps vs defining s = and_plan (enter_defining E v defining s) (with_result Value (answered_to None steps vs))

  -- the `length` of an array is set behind both conversions
  abbrev pub length_entered : SetLength → Label → ℕ → Val → Steps → List Val → State → Plan
  length_entered how label o v steps vs s =
      and_plan (enter_count E label v (λ n given t. as_plan Value (set_length (defines how) label o (marks_given how) n given t)) s) (with_result Value (answered_to None steps vs))

  -- what is done with what was asked for, with the steps of the built-in from there on, and its registers
  unfoldable pub asked_plan : Asked → Steps → List Val → State → Plan
  asked_plan (asked.Does act to) steps vs s = following (effect_on tables inputs act vs s) (answered_to to steps vs)
  asked_plan (asked.Look r) steps vs s = asks (steps_behind steps (answer.Seen (seen s.heap (held_in r vs).value))) vs (raised_in (held_in r vs).label s)
  asked_plan (asked.Get base key to) steps vs s = following (got tables inputs (held_in base vs) key s) (entering_access to steps vs)
  asked_plan (asked.Put base key from) steps vs s = following (putting tables inputs (held_in base vs) key (held_in from vs) s) (entering_putting (held_in from vs) steps vs)
  asked_plan (asked.Own base key to) steps vs s = following (owned_all tables inputs (held_in base vs) key s) (giving_parts to steps vs)
  asked_plan (asked.Define base key given) steps vs s = following (defining_of base key given vs s) (entering_defining (held_if vs given.value) steps vs)
  asked_plan (asked.PrintLine channel from) steps vs s = following (tracked.act tables inputs operations.print_line (held_in channel vs ∷ held_in from vs ∷ []) s) (answered_to None steps vs)
  asked_plan (asked.Call callee own args to) steps vs s = and_plan (call_value functions (held_in callee vs).label (held_in callee vs).value (held_in own vs) (held_all args vs) E s) (with_result Value (answered_to (Some to) steps vs))
  asked_plan (asked.Construct callee args to) steps vs s = and_plan (construct_value set functions (held_in callee vs).label (held_in callee vs).value (held_all args vs) E s) (with_result Value (answered_to (Some to) steps vs))
  asked_plan (asked.Return from) steps vs s = Give (gave (held_in from vs)) s
  asked_plan (asked.Throw from) steps vs s = following (thrown_on (held_in from vs) s) (λ v. Give (gave v))
  asked_plan (asked.ThrowNew kind) steps vs s = following (throw_error {X = Val} kind bottom s) (λ v. Give (gave v))
  asked_plan (asked.Leave name) steps vs s = End (as_plain (left name)) s
