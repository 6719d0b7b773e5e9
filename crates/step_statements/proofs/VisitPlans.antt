-- What `for in` does with keys, as an act and what follows it.
use Rattle.std.proofs.Common.{refl, sym, ap, ap₂, ◌∙◌, ◌≡◌, ◌<◌, ◌+◌, ◌-◌, ℕ, Bool, List, [], ◌∷◌, map, take, length, get_or, Option, Some, None, arith}
use Rattle.std.proofs.lemmas.List.{length-map, take-map}
use Rattle.origin_labels.specs.Label.{Label}
use Rattle.flow_policy.specs.Policies.{Tables}
use Rattle.flow_policy.specs.Inputs.{Given}
use Rattle.js_ast.specs.Functions.{FunctionCode}
use Rattle.es_meaning.specs.BuiltIns.{BuiltIns}
use Rattle.js_ast.specs.Trees.{Statement, Target}
use Rattle.js_ast.specs.Views.{view_stmt, view_target}
use Rattle.js_number.specs.declared.primitive.Primitive.TheVariants.{Str}
use Rattle.js_values.specs.declared.value.Labelled.{Labelled}
use Rattle.js_values.specs.declared.value.Value.TheVariants as value
use Rattle.js_values.specs.Readings.{read_value}
use Rattle.prototype_walk.specs.KeyLists.{Keys}
use Rattle.es_meaning.specs.Environments.{Env}
use Rattle.es_meaning.specs.Outcomes.{Outcome, Goes, Jumps, Ends, and_then, ret, ◌>>=◌}
use Rattle.es_meaning.specs.Operations.{Value, Visit, has_key}
use Rattle.es_meaning.specs.Operators.{truth}
use Rattle.es_meaning.specs.Plain.{choose, key_text}
use Rattle.es_meaning.specs.Evaluation.{visits, still_there, with_keys}
use Rattle.flow_meaning.specs.Erased.{unlabelled}
use Rattle.flow_meaning.specs.Scopes.{Val, Halt, Jump, State, raise}
use Rattle.flow_meaning.specs.Tracked.{act, key_list}
use Rattle.flow_meaning.specs.Planned.{a_visit, Plan, Give, Ask, and_plan, with_result, as_plan, with_list, planned, asking}
use Rattle.step_objects.specs.Taking.{given_keys, taken, still}
use Rattle.continuations.specs.declared.continuation.Enumeration.{Enumeration}
use Rattle.continuations.specs.declared.continuation.Control.TheVariants as control
use Rattle.continuations.specs.Settings.{Setting, entrance}
use Rattle.continuations.specs.Pending.{keys_left, next_plan}
use Rattle.continuations.specs.Shapes.{labels_at, nth}
use Rattle.continuations.specs.Moving.{following}
use Rattle.step_statements.specs.Visiting.{visits_of}
use Rattle.step_statements.proofs.KeyLaws.{nth_read, next_left, object_below}

-- ---- the keys are taken

listed : (list : Option Keys) (label : Label) (next : List (List ℕ) → State → Plan) (s : State) → with_list list label next s ≡ following (given_keys list label s) next
unfolding with_list given_keys raise
listed None label next s = refl
listed (Some list) label next s = refl

module _ (tables : Tables) (inputs : Given) (set : BuiltIns) (functions : List FunctionCode) where
  -- and those that were taken are visited
  pub keys_taken : (labels : List (Option (List ℕ))) (target : Target) (body : Statement) (o : Val) (e : Env ℕ) (s : State) → with_keys (planned tables inputs set functions) (entrance tables inputs set functions) (asking tables inputs set functions) labels target body o e s ≡ following (taken o s) (λ keys. visits (planned tables inputs set functions) (entrance tables inputs set functions) (asking tables inputs set functions) labels target body o keys e)
  unfolding with_keys taken
  keys_taken labels target body o e s = listed (key_list s.heap o.value) o.label (λ keys. visits (planned tables inputs set functions) (entrance tables inputs set functions) (asking tables inputs set functions) labels target body o keys e) s

  -- ---- a key is looked at

  asked : (m rest : State → Plan) (o : Outcome Halt Jump Val State) → and_plan (as_plan Value o) (with_result Value (λ v. (planned tables inputs set functions).again v m rest)) ≡ following (and_then o (λ v. raise v.label >>= λ u. ret (truth v.value))) (λ b. choose b m rest)
  unfolding raise
  asked m rest (Goes v t) = refl
  asked m rest (Jumps j t) = refl
  asked m rest (Ends halt t) = refl

  -- a turn for a key that is still there, and otherwise the others
  key_visited : (labels : List (Option (List ℕ))) (target : Target) (body : Statement) (o : Val) (key : List ℕ) (others : List (List ℕ)) (e : Env ℕ) (s : State)
      → visits (planned tables inputs set functions) (entrance tables inputs set functions) (asking tables inputs set functions) labels target body o (key ∷ others) e s
      ≡ following (still tables inputs o key s) (λ b. choose b ((asking tables inputs set functions).visit (record { labels = labels; target = target; body = body; object = o; key = key; others = others }) e) (visits (planned tables inputs set functions) (entrance tables inputs set functions) (asking tables inputs set functions) labels target body o others e))
  unfolding visits still_there still
  key_visited labels target body o key others e s =
      asked ((asking tables inputs set functions).visit (record { labels = labels; target = target; body = body; object = o; key = key; others = others }) e) (visits (planned tables inputs set functions) (entrance tables inputs set functions) (asking tables inputs set functions) labels target body o others e)
      (act tables inputs has_key (unlabelled (value.Primitive (Str key)) ∷ o ∷ []) s)

-- ---- the values that lie loose

abbrev visit_with : Enumeration → Val → List ℕ → List (List ℕ) → Visit Val
visit_with x object key others = record { labels = labels_at (view_stmt x.of.now); target = view_target x.target.now; body = view_stmt x.body.now; object = object; key = key; others = others }

module _ {T : Type 0} (x : Enumeration) where
  -- what follows a look at the uppermost key: its turn, or a look at the others
  abbrev pub looked_on : ℕ → List (Labelled T) → Tables → Given → BuiltIns → List FunctionCode → (T → Label) → Setting → Bool → State → Plan
  looked_on left loose tables inputs set functions reading e b = choose b (next_plan tables inputs set functions (control.Visit x (left - 1)) (map (read_value reading) loose) e) (visits_of x (left - 1) (take left loose) tables inputs set functions reading e)

  pub look_as : (left : ℕ) (loose : List (Labelled T)) (object key : Labelled T) → 0 < left → length loose ≡ left + 1 → object ≡ get_or loose 0 object → key ≡ get_or loose left key
      → (tables : Tables) (inputs : Given) (set : BuiltIns) (functions : List FunctionCode) (reading : T → Label) (e : Setting) (s : State) → visits_of x left loose tables inputs set functions reading e s ≡ following (still tables inputs (read_value reading object) (key_text key.value) s) (looked_on left loose tables inputs set functions reading e)
  look_as left loose object key some size is_object is_key tables inputs set functions reading e s =
      let vs = map (read_value reading) loose in
      let o = nth 0 vs in
      let k = nth left vs in
      let labels = labels_at (view_stmt x.of.now) in
      let target = view_target x.target.now in
      let body = view_stmt x.body.now in
      let rest = visits (planned tables inputs set functions) (entrance tables inputs set functions) (asking tables inputs set functions) labels target body in
      let many : length vs ≡ left + 1 = length-map loose (read_value reading) ∙ size in
      let same_object : o ≡ read_value reading object = nth_read reading loose 0 object (omega (arith, size)) ∙ ap (read_value reading) (sym is_object) in
      let same_key : k ≡ read_value reading key = nth_read reading loose left key (omega (arith, size)) ∙ ap (read_value reading) (sym is_key) in
      let before : left ≡ left - 1 + 1 = omega (arith, some) in
      let front : take left vs ≡ map (read_value reading) (take left loose) = take-map (read_value reading) left loose in
      ap (λ ks. rest o ks e.env s) (next_left left vs some many)
      ∙ key_visited tables inputs set functions labels target body o (key_text k.value) (keys_left (take left vs)) e.env s
      ∙ ap₂ (λ (m n : State → Plan). following (still tables inputs o (key_text k.value) s) (λ b. choose b m n))
      (ap (λ n. λ (t : State). Ask (a_visit (visit_with x o (key_text (nth n vs).value) (keys_left (take n vs))) e.env) t Give) before)
      (ap (λ (v : Val). rest v (keys_left (take left vs)) e.env) (sym (object_below left vs some)) ∙ ap (λ us. rest (nth 0 us) (keys_left us) e.env) front)
      ∙ ap₂ (λ (v u : Val). following (still tables inputs v (key_text u.value) s) (looked_on left loose tables inputs set functions reading e)) same_object same_key
