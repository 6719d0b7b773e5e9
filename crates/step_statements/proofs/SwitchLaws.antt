-- A `switch` in its frame.
use Rattle.std.proofs.Common.{refl, sym, ap, ap₂, ◌∙◌, ◌≡◌, ◌+◌, ℕ, Bool, true, false, List, [], ◌∷◌, ◌++◌, map, take, length, append-nil, arith}
use Rattle.std.specs.Borrow.{Bor}
use Rattle.std.proofs.lemmas.List.{length-map}
use Rattle.origin_labels.specs.Label.{Label, bottom}
use Rattle.flow_policy.specs.Policies.{Tables}
use Rattle.flow_policy.specs.Inputs.{Given}
use Rattle.flow_frames.specs.declared.kind.Kind.TheVariants as kind
use Rattle.flow_frames.specs.Held.{Held, seen_frame}
use Rattle.js_ast.specs.declared.trees.Clause.{Clause}
use Rattle.js_ast.specs.declared.trees.Stmt.{Stmt}
use Rattle.js_ast.specs.declared.node_list.NodeList.{NodeList}
use Rattle.js_ast.specs.Functions.{FunctionCode}
use Rattle.js_ast.specs.Nodes.{nodes_of}
use Rattle.js_ast.specs.Trees.{Clauses}
use Rattle.js_ast.specs.Views.{view_clauses, view_stmt}
use Rattle.js_values.specs.declared.value.Labelled.{Labelled}
use Rattle.js_values.specs.Readings.{IsReading, read_value}
use Rattle.es_meaning.specs.Environments.{Env, with_around}
use Rattle.es_meaning.specs.Evaluation.{cases, in_switch, labels_of, switched}
use Rattle.es_meaning.specs.Operators.{truth}
use Rattle.es_meaning.specs.Plain.{choose}
use Rattle.es_meaning.specs.BuiltIns.{BuiltIns}
use Rattle.flow_meaning.specs.Planned.{Plan, and_plan, end_round, planned, asking}
use Rattle.flow_meaning.specs.Scopes.{State, Val, pushed_on, raise, raised_in}
use Rattle.continuations.specs.declared.continuation.Control.{Control}
use Rattle.continuations.specs.declared.continuation.Continuation.TheVariants as continuation
use Rattle.continuations.specs.Kept.{Kept, scopes_of, waiting, kept_operands, operands_of}
use Rattle.continuations.specs.Pending.{setting_above, behind, after_task, first_or_undefined, inside}
use Rattle.continuations.specs.Resuming.{BeginsBehind, Opened, ResumesIn, with_frames}
use Rattle.continuations.specs.Shapes.{all_labels}
use Rattle.continuations.proofs.Keeping.{kept_more, natives_more, scopes_more}
use Rattle.continuations.proofs.ScopeLaws.{in_scope}
use Rattle.continuations.specs.Settings.{entrance}
use Rattle.step_statements.specs.Clauses.{testing}
use Rattle.step_statements.specs.Fronts.{Fronts}

chosen : (b : Bool) (m : State → Plan) (s : State) → choose b m m s ≡ m s
chosen true m s = refl
chosen false m s = refl

switch_plan : (tables : Tables) (inputs : Given) (set : BuiltIns) (functions : List FunctionCode) (labels : List (List ℕ)) (cs : Clauses) (e : Env ℕ) (v : Val) (s : State)
    → switched (planned tables inputs set functions) (entrance tables inputs set functions) (asking tables inputs set functions) labels cs e v s ≡ and_plan (cases (planned tables inputs set functions) (entrance tables inputs set functions) (asking tables inputs set functions) v cs cs (with_around false (labels_of labels) (length s.frames) e) (raised_in v.label (pushed_on kind.Loop bottom s))) (end_round (length s.frames))
unfolding switched in_switch raise
switch_plan tables inputs set functions labels cs e v s =
    ap (λ p. and_plan p (end_round (length s.frames))) (chosen (truth v.value) (cases (planned tables inputs set functions) (entrance tables inputs set functions) (asking tables inputs set functions) v cs cs (with_around false (labels_of labels) (length s.frames) e)) (raised_in v.label (pushed_on kind.Loop bottom s)))

module _ {S T : Type 0} (made : S → T → Type 0) (meaning : S → T → Label) (store : S) where
  pub switch_goes : (of : Bor Stmt) (clauses : Bor (NodeList Clause)) (old laid new : Kept T) (popped : Labelled T) (frames_old frames_new : List (Held T)) (depth : ℕ) (next : Control)
      → ((value : Labelled T) → old.loose ≡ value ∷ [] → popped ≡ value)
      → depth ≡ length frames_old → laid.tasks ≡ old.tasks ++ (continuation.EndRound false depth of, []) ∷ [] → laid.loose ≡ popped ∷ []
      → ((reading : T → Label) (s : State) → IsReading made meaning store reading → with_frames reading frames_new s ≡ raised_in (reading popped.label) (pushed_on kind.Loop bottom (with_frames reading frames_old s)))
      → BeginsBehind (λ tables inputs set functions vs e. testing tables inputs set functions (nodes_of clauses.now) 0 (first_or_undefined vs) e.env) laid new next
      → ResumesIn made meaning store (continuation.Switched of clauses) old new frames_old frames_new next
  switch_goes of clauses old laid new popped frames_old frames_new depth next is deep tasks lies frames begins tables inputs set functions reading e s value read loose =
      let t = with_frames reading frames_new s in
      let u = with_frames reading frames_old s in
      let cs = nodes_of clauses.now in
      let f = setting_above old.tasks e in
      let env = f.env in
      let w = λ (d : ℕ). continuation.EndRound false d of in
      let v = read_value reading popped in
      begins tables inputs set functions reading e t
      ∙ ap (λ vs. behind tables inputs set functions reading laid.tasks e (testing tables inputs set functions cs 0 (first_or_undefined (map (read_value reading) vs)) (setting_above laid.tasks e).env t)) lies
      ∙ ap (λ ts. behind tables inputs set functions reading ts e (testing tables inputs set functions cs 0 v (setting_above ts e).env t)) tasks
      ∙ in_scope made meaning store tables inputs set functions reading old.tasks (w depth, []) e (λ g. testing tables inputs set functions cs 0 v g.env t)
      ∙ ap (λ d. behind tables inputs set functions reading old.tasks e (and_plan (testing tables inputs set functions cs 0 v (inside (w d) env) t) (after_task tables inputs set functions reading (w d, []) f))) (deep ∙ sym (length-map frames_old (seen_frame reading)))
      ∙ ap (λ r. behind tables inputs set functions reading old.tasks e (and_plan (testing tables inputs set functions cs 0 v (inside (w (length u.frames)) env) r) (after_task tables inputs set functions reading (w (length u.frames), []) f))) (frames reading s read)
      ∙ ap (behind tables inputs set functions reading old.tasks e) (sym (switch_plan tables inputs set functions (all_labels [] (view_stmt of.now)) (view_clauses cs) env v u))
      ∙ ap (λ x. behind tables inputs set functions reading old.tasks e (switched (planned tables inputs set functions) (entrance tables inputs set functions) (asking tables inputs set functions) (all_labels [] (view_stmt of.now)) (view_clauses cs) env (read_value reading x) u)) (is value loose)

-- what it leaves
pub switch_opened : {T : Type 0} (of : Bor Stmt) (old laid new : Kept T) (popped : Labelled T) (frames_old frames_new : List (Held T)) (depth : ℕ) (next : Control)
    → old.loose ≡ popped ∷ [] → depth ≡ length frames_old → laid.tasks ≡ old.tasks ++ (continuation.EndRound false depth of, []) ∷ [] → laid.loose ≡ popped ∷ [] → length frames_new ≡ length frames_old + 1
    → Fronts laid new next → Opened old new frames_old frames_new next
switch_opened of old laid new popped frames_old frames_new depth next top deep tasks lies deeper fronts =
    let w = continuation.EndRound false depth of in
    let same : operands_of laid ≡ operands_of old = ap₂ (λ ks vs. ks ++ vs) (ap kept_operands tasks ∙ kept_more old.tasks (w, []) ∙ append-nil (kept_operands old.tasks)) (lies ∙ sym top) in
    record {
      values = fronts.values;
      scopes = fronts.scopes ∙ ap scopes_of tasks ∙ scopes_more old.tasks (w, []) ∙ ap (λ d. scopes_of old.tasks ++ d ∷ []) deep;
      natives = omega (arith, fronts.natives, ap waiting tasks, natives_more old.tasks (w, []));
      deeper = deeper;
      operands = fronts.operands ∙ ap (λ vs. take (length (operands_of new)) vs) same;
    }
