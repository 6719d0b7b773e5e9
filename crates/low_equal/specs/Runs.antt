-- What is said of one run, and of two.
use Rattle.std.specs.Prelude.{◌≡◌, ℕ, ◌≤◌, length}
use Rattle.origin_labels.specs.Label.{Label}
use Rattle.flow_policy.specs.Policies.{Tables}
use Rattle.es_meaning.specs.Outcomes.{Outcome, Goes, Jumps, Ends}
use Rattle.flow_meaning.specs.Scopes.{Halt, State, Jump, L}
use Rattle.low_equal.specs.Observed.{view, IsSeen, IsHidden, Front, SameLines, FrontLines}
use Rattle.low_equal.specs.LowEqual.{Pairing, Extends, Agree, PositionsAgree, LowEqual}

-- where an outcome leaves the state
abbrev pub state_of : {X : Type 0} → Outcome Halt Jump X State → State
state_of (Goes a s) = s
state_of (Jumps j s) = s
state_of (Ends halt s) = s

-- the run goes on, with a result or a jump
abbrev pub IsLive : {X : Type 0} → Outcome Halt Jump X State → Type 0
IsLive (Goes a s) = Unit {0}
IsLive (Jumps j s) = Unit {0}
IsLive (Ends halt s) = ⊥

-- no more frames are left than were found
abbrev pub Fits : {X : Type 0} → ℕ → Outcome Halt Jump X State → Type 0
Fits n (Goes a s) = length s.frames ≤ n
Fits n (Jumps j s) = length s.frames ≤ n
Fits n (Ends halt s) = Unit {0}

module _ (observer : Label) (tables : Tables) where
  -- whatever looked like the first state looks like the second, under the same pairing: so does the first state itself, where it looks like itself
  pub record Same (s t : State) : Type 0 where
    pub looks : (β : Pairing) (u : State) → LowEqual observer tables β s u → LowEqual observer tables β t u
    pub frames : view observer s.frames ≡ view observer t.frames

  -- ---- one run: where the observer doesn't see the context it can't tell the state behind from the one before. Also where the run ends in the
  -- middle, it has written no line on a channel or with a label that the observer sees, and read none of a channel that it sees

  pub record Still {X : Type 0} (s : State) (o : Outcome Halt Jump X State) : Type 0 where
    pub same : IsLive o → Same s (state_of o)
    pub lines : SameLines observer tables s.lines (state_of o).lines
    pub positions : PositionsAgree observer tables s.positions (state_of o).positions

  -- and everywhere it leaves no more frames than it found, and only adds lines
  pub record Confined {X : Type 0} (m : L X) : Type 0 where
    pub still : (s : State) → IsHidden observer s → Still s (m s)
    pub fits : (s : State) → Fits (length s.frames) (m s)
    pub adds : (s : State) → Front s.lines (state_of (m s)).lines

  -- ---- two runs

  -- jumps agree: they go to one frame, for one reason, with values that agree
  pub record JumpsAgree (β : Pairing) (j k : Jump) : Type 0 where
    pub exit : j.exit ≡ k.exit
    pub to : j.to ≡ k.to
    pub value : Agree observer β j.value k.value

  -- both go on in step; or each goes on by itself, behind one frame that is hidden; or one has ended, and has shown what the other has begun to show
  pub data InStep {X : Type 0} (P : Pairing → X → X → Type 0) (β : Pairing) : Outcome Halt Jump X State → Outcome Halt Jump X State → Type 0 where
    go : {a b : X} {s t : State} (γ : Pairing) → Extends β γ → LowEqual observer tables γ s t → IsSeen observer s → P γ a b → InStep P β (Goes a s) (Goes b t)
    jump : {j k : Jump} {s t : State} (γ : Pairing) → Extends β γ → LowEqual observer tables γ s t → IsSeen observer s → JumpsAgree γ j k → InStep P β (Jumps j s) (Jumps k t)
    apart : {o p : Outcome Halt Jump X State} (γ : Pairing) → Extends β γ → LowEqual observer tables γ (state_of o) (state_of p) → IsHidden observer (state_of o) → IsLive o → IsLive p → InStep P β o p
    first_ends : {halt : Halt} {s : State} {p : Outcome Halt Jump X State} → FrontLines observer tables s.lines (state_of p).lines → InStep P β (Ends halt s) p
    second_ends : {halt : Halt} {t : State} {o : Outcome Halt Jump X State} → FrontLines observer tables t.lines (state_of o).lines → InStep P β o (Ends halt t)

  -- two computations, from states that the observer can't tell apart, in a context that it sees
  pub record Lockstep {X : Type 0} (P : Pairing → X → X → Type 0) (β : Pairing) (m n : L X) : Type 0 where
    pub steps : (γ : Pairing) → Extends β γ → (s t : State) → LowEqual observer tables γ s t → IsSeen observer s → InStep P γ (m s) (n t)
