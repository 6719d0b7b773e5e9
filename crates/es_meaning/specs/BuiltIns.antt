-- A set of built-ins, as the meanings see it: its entries, and for each built-in by its number the steps of a call with so many arguments, which may be a
-- construction.
use Rattle.std.specs.Prelude.{ℕ, zero, suc, ◌+◌, Bool, List, [], ◌∷◌, Option, Some, None, slice_get, codes}
use Rattle.native_protocol.specs.declared.request.Answer.{Answer}
use Rattle.native_protocol.specs.declared.request.Answer.TheVariants as answer
use Rattle.native_protocol.specs.declared.request.Request.{Request}
use Rattle.native_protocol.specs.declared.request.Request.TheVariants.{Leave}
use Rattle.native_protocol.specs.Running.{behind}
use Rattle.native_protocol.specs.Sets.{SeenEntry}
use Rattle.native_protocol.specs.Steps.{Steps, ends}

pub record BuiltIns : Type 0 where
  pub entries : List SeenEntry
  pub begins : ℕ → ℕ → Bool → Steps

-- what is left of steps behind an answer
abbrev pub steps_behind : Steps → Answer → Steps
steps_behind steps a answers = steps (a ∷ answers)

-- the steps of a state machine from a state on
abbrev pub steps_from : {State : Type 0} → (State → Answer → State) → (State → Request) → State → Steps
steps_from after asks state answers = asks (behind after state answers)

-- a set of state machines: each begins by being told so
abbrev pub built_ins_of : {State : Type 0} → List SeenEntry → (ℕ → ℕ → Bool → State) → (State → Answer → State) → (State → Request) → BuiltIns
built_ins_of entries begin after asks = record { entries = entries; begins = λ which argc construct. steps_behind (steps_from after asks (begin which argc construct)) answer.Begin }

-- ---- the numbers of built-ins: the accessors `caller`, `arguments` and `callee`, which leave the language by their names, and behind them those of the set

abbrev pub in_set : ℕ → ℕ
in_set which = 3 + which

-- a number that no built-in of the set has leaves by the empty name: no function has one
abbrev pub begins_entry : Option SeenEntry → BuiltIns → ℕ → ℕ → Bool → Steps
begins_entry None set which argc construct = ends (Leave [])
begins_entry (Some e) set which argc construct = set.begins which argc construct

abbrev pub begins_in : BuiltIns → ℕ → ℕ → Bool → Steps
begins_in set zero argc construct = ends (Leave (codes "caller"))
begins_in set (suc zero) argc construct = ends (Leave (codes "arguments"))
begins_in set (suc (suc zero)) argc construct = ends (Leave (codes "callee"))
begins_in set (suc (suc (suc which))) argc construct = begins_entry (slice_get set.entries which) set which argc construct
