-- A case that is compared with the value of its `switch`.
use Rattle.std.proofs.Common.{refl, sym, ap, ap₂, ◌∙◌, ◌≡◌, ℕ, Bool, List, [], ◌∷◌, ◌++◌, drop, map, take, length, Ok, append_assoc, subst}
use Rattle.std.specs.Borrow.{Bor}
use Rattle.origin_labels.specs.Label.{Label, union}
use Rattle.flow_policy.specs.Policies.{Tables}
use Rattle.flow_policy.specs.Inputs.{Given}
use Rattle.flow_frames.specs.Held.{Held}
use Rattle.js_ast.specs.declared.operators.BinaryOperator.TheVariants as operator
use Rattle.js_ast.specs.declared.node_list.NodeList.{NodeList}
use Rattle.js_ast.specs.declared.trees.Clause.{Clause}
use Rattle.js_ast.specs.Functions.{FunctionCode}
use Rattle.js_ast.specs.Nodes.{nodes_of}
use Rattle.js_ast.specs.Views.{view_clauses}
use Rattle.js_number.specs.declared.primitive.Primitive.TheVariants as prims
use Rattle.js_values.specs.declared.value.Labelled.{Labelled}
use Rattle.js_values.specs.Readings.{IsReading, read_value}
use Rattle.es_meaning.specs.Environments.{Env}
use Rattle.es_meaning.specs.Operators.{binary_of}
use Rattle.es_meaning.specs.BuiltIns.{BuiltIns}
use Rattle.flow_meaning.specs.Scopes.{State, Val, raised_in}
use Rattle.continuations.specs.declared.continuation.Control.{Control}
use Rattle.continuations.specs.declared.continuation.Continuation.TheVariants as continuation
use Rattle.continuations.specs.Kept.{Kept, kept_operands, operands_of, scopes_of, waiting}
use Rattle.continuations.specs.Pending.{behind, tests_of, setting_above, first_or_undefined}
use Rattle.continuations.specs.Resuming.{BeginsBehind, with_frames}
use Rattle.step_statements.specs.Clauses.{chosen, testing}
use Rattle.step_statements.specs.Fronts.{Fronts, ResumesBesideIn}

-- the two of a list of two
two_last : {X : Type 0} (front : List X) (p a b : X) → front ++ p ∷ [] ≡ a ∷ (b ∷ []) → (front ≡ a ∷ []) × (p ≡ b)
two_last [] p a b e = absurd cc
two_last (x ∷ []) p a b e = let first : x ≡ a = cc in let last : p ≡ b = cc in (ap (λ y. y ∷ []) first, last)
two_last (x ∷ y ∷ []) p a b e = absurd cc
two_last (x ∷ y ∷ z ∷ front) p a b e = absurd cc

-- a front is one of what is longer
front_more : {X : Type 0} (zs xs ys : List X) → zs ≡ take (length zs) xs → zs ≡ take (length zs) (xs ++ ys)
front_more [] xs ys e = refl
front_more (z ∷ zs) [] ys e = absurd cc
front_more (z ∷ zs) (x ∷ xs) ys e = let first : z ≡ x = cc in let rest : zs ≡ take (length zs) xs = cc in ap₂ (λ k ks. k ∷ ks) first (front_more zs xs ys rest)

-- what a call leaves whose uppermost value was taken before
pub fronts_below : {T : Type 0} (old below new : Kept T) (top : Labelled T) (next : Control) → old.loose ≡ below.loose ++ top ∷ [] → below.tasks ≡ old.tasks → Fronts below new next → Fronts old new next
fronts_below old below new top next is tasks fronts =
    let all : operands_of old ≡ operands_of below ++ top ∷ [] = ap₂ (λ ks vs. ks ++ vs) (ap kept_operands (sym tasks)) is ∙ sym (append_assoc (kept_operands below.tasks) below.loose (top ∷ [])) in
    record {
      values = fronts.values;
      scopes = fronts.scopes ∙ ap scopes_of tasks;
      natives = fronts.natives ∙ ap waiting tasks;
      still = fronts.still;
      operands = front_more (operands_of new) (operands_of below) (top ∷ []) fronts.operands ∙ ap (λ vs. take (length (operands_of new)) vs) (sym all);
    }

-- what is said of the clauses that were read is said of those of a list that holds them
pub none_there : (number : ℕ) (read cs : List Clause) → read ≡ cs
    → ((tables : Tables) (inputs : Given) (set : BuiltIns) (functions : List FunctionCode) (v u : Val) (e : Env ℕ) (s : State) → testing tables inputs set functions read number v e s ≡ tests_of tables inputs set functions v (view_clauses read) (view_clauses (drop number read)) e u s)
    → (tables : Tables) (inputs : Given) (set : BuiltIns) (functions : List FunctionCode) (v u : Val) (e : Env ℕ) (s : State) → testing tables inputs set functions cs number v e s ≡ tests_of tables inputs set functions v (view_clauses cs) (view_clauses (drop number cs)) e u s
none_there number read cs same none tables inputs set functions v u e s =
    subst (λ (ks : List Clause). testing tables inputs set functions ks number v e s ≡ tests_of tables inputs set functions v (view_clauses ks) (view_clauses (drop number ks)) e u s) same (none tables inputs set functions v u e s)

pub case_there : (number : ℕ) (left read cs : List Clause) → read ≡ cs
    → ((tables : Tables) (inputs : Given) (set : BuiltIns) (functions : List FunctionCode) (v u : Val) (equal : Bool) (e : Env ℕ) (s : State) → binary_of operator.StrictEqual v.value u.value ≡ Ok (prims.Bool equal) → chosen tables inputs set functions read number left equal v e (raised_in (union v.label u.label) s) ≡ tests_of tables inputs set functions v (view_clauses read) (view_clauses (drop number read)) e u s)
    → (tables : Tables) (inputs : Given) (set : BuiltIns) (functions : List FunctionCode) (v u : Val) (equal : Bool) (e : Env ℕ) (s : State) → binary_of operator.StrictEqual v.value u.value ≡ Ok (prims.Bool equal) → chosen tables inputs set functions cs number left equal v e (raised_in (union v.label u.label) s) ≡ tests_of tables inputs set functions v (view_clauses cs) (view_clauses (drop number cs)) e u s
case_there number left read cs same found tables inputs set functions v u equal e s is =
    subst (λ (ks : List Clause). chosen tables inputs set functions ks number left equal v e (raised_in (union v.label u.label) s) ≡ tests_of tables inputs set functions v (view_clauses ks) (view_clauses (drop number ks)) e u s) same (found tables inputs set functions v u equal e s is)

module _ {S T : Type 0} (made : S → T → Type 0) (meaning : S → T → Label) (store : S) (clauses : Bor (NodeList Clause)) (number : ℕ) (old below new : Kept T) (top : Labelled T) (next : Control) where
  -- no case stands there
  pub none_goes : (frames : List (Held T)) → old.loose ≡ below.loose ++ top ∷ [] → below.tasks ≡ old.tasks
      → ((tables : Tables) (inputs : Given) (set : BuiltIns) (functions : List FunctionCode) (v u : Val) (e : Env ℕ) (s : State) → testing tables inputs set functions (nodes_of clauses.now) number v e s ≡ tests_of tables inputs set functions v (view_clauses (nodes_of clauses.now)) (view_clauses (drop number (nodes_of clauses.now))) e u s)
      → BeginsBehind (λ tables inputs set functions vs e. testing tables inputs set functions (nodes_of clauses.now) number (first_or_undefined vs) e.env) below new next
      → ResumesBesideIn made meaning store (continuation.Compared clauses number) old new frames frames next
  none_goes frames is tasks none begins tables inputs set functions reading e s operand value read loose =
      let both = two_last below.loose top operand value (sym is ∙ loose) in
      let t = with_frames reading frames s in
      begins tables inputs set functions reading e t
      ∙ ap₂ (λ ts vs. behind tables inputs set functions reading ts e (testing tables inputs set functions (nodes_of clauses.now) number (first_or_undefined (map (read_value reading) vs)) (setting_above ts e).env t)) tasks both.0
      ∙ ap (behind tables inputs set functions reading old.tasks e) (none tables inputs set functions (read_value reading operand) (read_value reading value) (setting_above old.tasks e).env t)

  -- the frame is raised by both values, and the comparison chooses
  pub case_goes : (left : List Clause) (equal : Bool) (lowest : Labelled T) (frames_old frames_new : List (Held T)) → old.loose ≡ below.loose ++ top ∷ [] → below.tasks ≡ old.tasks
      → ((value : Labelled T) → below.loose ≡ value ∷ [] → lowest ≡ value)
      → binary_of operator.StrictEqual lowest.value top.value ≡ Ok (prims.Bool equal)
      → ((reading : T → Label) (s : State) → IsReading made meaning store reading → with_frames reading frames_new s ≡ raised_in (union (reading lowest.label) (reading top.label)) (with_frames reading frames_old s))
      → ((tables : Tables) (inputs : Given) (set : BuiltIns) (functions : List FunctionCode) (v u : Val) (equal : Bool) (e : Env ℕ) (s : State) → binary_of operator.StrictEqual v.value u.value ≡ Ok (prims.Bool equal) → chosen tables inputs set functions (nodes_of clauses.now) number left equal v e (raised_in (union v.label u.label) s) ≡ tests_of tables inputs set functions v (view_clauses (nodes_of clauses.now)) (view_clauses (drop number (nodes_of clauses.now))) e u s)
      → BeginsBehind (λ tables inputs set functions vs e. chosen tables inputs set functions (nodes_of clauses.now) number left equal (first_or_undefined vs) e.env) below new next
      → ResumesBesideIn made meaning store (continuation.Compared clauses number) old new frames_old frames_new next
  case_goes left equal lowest frames_old frames_new is tasks lies same frames found begins tables inputs set functions reading e s operand value read loose =
      let both = two_last below.loose top operand value (sym is ∙ loose) in
      let low : lowest ≡ operand = lies operand both.0 in
      let t = with_frames reading frames_new s in
      let r = with_frames reading frames_old s in
      let f = (setting_above old.tasks e).env in
      let v = read_value reading operand in
      let cs = nodes_of clauses.now in
      begins tables inputs set functions reading e t
      ∙ ap₂ (λ ts vs. behind tables inputs set functions reading ts e (chosen tables inputs set functions cs number left equal (first_or_undefined (map (read_value reading) vs)) (setting_above ts e).env t)) tasks both.0
      ∙ ap (λ q. behind tables inputs set functions reading old.tasks e (chosen tables inputs set functions cs number left equal v f q)) (frames reading s read)
      ∙ ap₂ (λ (x : Labelled T) (y : Labelled T). behind tables inputs set functions reading old.tasks e (chosen tables inputs set functions cs number left equal v f (raised_in (union (reading x.label) (reading y.label)) r))) low both.1
      ∙ ap (behind tables inputs set functions reading old.tasks e) (found tables inputs set functions v (read_value reading value) equal f r (sym (ap₂ (λ (x : Labelled T) (y : Labelled T). binary_of operator.StrictEqual x.value y.value) low both.1) ∙ same))
