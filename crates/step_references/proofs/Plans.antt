-- Plans behind each other.
use Rattle.std.proofs.Common.{refl, ap, ◌≡◌}
use Rattle.es_meaning.specs.Outcomes.{Outcome, Goes, Jumps, Ends}
use Rattle.es_meaning.specs.Operations.{Ty, One, Value, Res}
use Rattle.flow_meaning.specs.Scopes.{Val, Halt, State, Jump}
use Rattle.flow_meaning.specs.Planned.{gave, Plan, Give, Ask, End, Then, and_plan, as_plan, with_outcome, with_result}
use Rattle.continuations.specs.Moving.{following}

-- what goes on behind a completion goes on behind its outcome
pub followed : (t : Ty) (o : Outcome Halt Jump (Res Val t) State) (k : Res Val t → State → Plan) → and_plan (as_plan t o) (with_result t k) ≡ following o k
followed One (Goes x s) k = refl
followed One (Jumps j s) k = refl
followed One (Ends halt s) k = refl
followed Value (Goes x s) k = refl
followed Value (Jumps j s) k = refl
followed Value (Ends halt s) k = refl

pub given_follows : (o : Outcome Halt Jump Val State) → as_plan Value o ≡ following o (λ v s. Give (gave v) s)
given_follows (Goes v s) = refl
given_follows (Jumps j s) = refl
given_follows (Ends halt s) = refl

pub outcome_follows : {X : Type 0} (o : Outcome Halt Jump X State) (k : X → State → Plan) → with_outcome o k ≡ following o k
outcome_follows (Goes x s) k = refl
outcome_follows (Jumps j s) k = refl
outcome_follows (Ends halt s) k = refl

-- what stands behind an outcome's plan stands behind what follows the outcome, where it passes a jump
pub outcome_passes : {X : Type 0} (t : Ty) (o : Outcome Halt Jump X State) (k : X → State → Plan) (next : Res Val t → State → Plan) → and_plan (with_outcome o k) (with_result t next) ≡ following o (λ x s. and_plan (k x s) (with_result t next))
outcome_passes One (Goes x s) k next = refl
outcome_passes One (Jumps j s) k next = refl
outcome_passes One (Ends halt s) k next = refl
outcome_passes Value (Goes x s) k next = refl
outcome_passes Value (Jumps j s) k next = refl
outcome_passes Value (Ends halt s) k next = refl

-- of three plans the last two may be taken together
pub grouped : (p : Plan) (f g : Then) → and_plan (and_plan p f) g ≡ and_plan p (λ c s. and_plan (f c s) g)
grouped (Give c s) f g = refl
grouped (Ask part s go_on) f g = ap (Ask part s) (λ i c t. grouped (go_on c t) f g i)
grouped (End halt s) f g = refl
