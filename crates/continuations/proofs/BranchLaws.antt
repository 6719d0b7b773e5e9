-- A part in the frame of a branch.
use Rattle.std.proofs.Common.{refl, sym, ap, ap₂, ◌∙◌, ◌≡◌, ◌+◌, Bool, List, [], ◌∷◌, ◌++◌, map, take, length, Result, Ok, Err, IfOk, append-nil, arith}
use Rattle.std.proofs.lemmas.List.{length-map, length-append}
use Rattle.origin_labels.specs.Label.{Label}
use Rattle.flow_policy.specs.Policies.{Tables}
use Rattle.flow_policy.specs.Inputs.{Given}
use Rattle.js_ast.specs.Functions.{FunctionCode}
use Rattle.es_meaning.specs.BuiltIns.{BuiltIns}
use Rattle.flow_text.specs.declared.memory.OutOfMemory.{OutOfMemory}
use Rattle.flow_frames.specs.declared.kind.Kind.TheVariants as kind
use Rattle.flow_frames.specs.Changes.{pushed}
use Rattle.flow_frames.specs.Held.{Held, seen_frame}
use Rattle.js_values.specs.declared.value.Labelled.{Labelled}
use Rattle.js_values.specs.Readings.{IsReading, read_value}
use Rattle.continuations.specs.Settings.{Setting}
use Rattle.es_meaning.specs.Operators.{truth}
use Rattle.es_meaning.specs.Plain.{choose}
use Rattle.flow_meaning.specs.Scopes.{Val, State, pushed_on}
use Rattle.flow_meaning.specs.Planned.{Plan, and_plan, gave, end_branch}
use Rattle.continuations.specs.declared.continuation.Continuation.{Continuation}
use Rattle.continuations.specs.declared.continuation.Continuation.TheVariants as continuation
use Rattle.continuations.specs.declared.continuation.Control.{Control}
use Rattle.continuations.specs.Kept.{Kept, scopes_of, waiting, kept_operands, operands_of}
use Rattle.continuations.specs.Pending.{Task, setting_above, after, next_plan, behind, result_type, values_of}
use Rattle.continuations.specs.Resuming.{coming, Forks, Opened, ResumesIn, with_frames}
use Rattle.continuations.proofs.Keeping.{scopes_more, natives_more, kept_more}
use Rattle.continuations.proofs.ScopeLaws.{in_scope}

-- the last of a list of one
pub last_one : {X : Type 0} (front : List X) (p v : X) → front ++ p ∷ [] ≡ v ∷ [] → p ≡ v
last_one [] p v e = cc e
last_one (x ∷ []) p v e = absurd cc
last_one (x ∷ y ∷ front) p v e = absurd cc

-- two lists with one more element behind them
pub last_two : {X : Type 0} (front others : List X) (p v : X) → front ++ p ∷ [] ≡ others ++ v ∷ [] → (front ≡ others) × (p ≡ v)
last_two [] [] p v e = (refl, cc e)
last_two [] (y ∷ []) p v e = absurd cc
last_two [] (y ∷ z ∷ others) p v e = absurd cc
last_two (x ∷ []) [] p v e = absurd cc
last_two (x ∷ y ∷ front) [] p v e = absurd cc
last_two (x ∷ front) (y ∷ others) p v e =
    let first : x ≡ y = cc e in
    let rest : front ++ p ∷ [] ≡ others ++ v ∷ [] = cc e in
    let both = last_two front others p v rest in
    (ap₂ (λ a xs. a ∷ xs) first both.0, both.1)

-- nothing stands in front of the one element of a list
pub none_in_front : {X : Type 0} (front xs : List X) (p : X) → xs ≡ front ++ p ∷ [] → length xs ≡ 1 → front ≡ []
none_in_front [] xs p e size = refl
none_in_front (x ∷ front) xs p e size = let one : length (x ∷ front ++ p ∷ []) ≡ 1 = ap length (sym e) ∙ size in absurd omega (arith, one, length-append front (p ∷ []))

abbrev pub IsFront : {X : Type 0} → List X → List X → Type 0
IsFront above whole = above ≡ take (length above) whole

front_of : {X : Type 0} (below above whole : List X) → IsFront above whole → below ++ above ≡ take (length (below ++ above)) (below ++ whole)
front_of [] above whole front = front
front_of (x ∷ below) above whole front = ap (λ xs. x ∷ xs) (front_of below above whole front)

module _ {S T : Type 0} (made : S → T → Type 0) (meaning : S → T → Label) (store : S) where
  in_branch : (gives : Bool) (tasks : List (Task T)) (new : Kept T) (frames_old frames_new : List (Held T)) (label : T) (next : Control)
      → new.tasks ≡ tasks ++ (continuation.EndBranch gives (length frames_old), []) ∷ []
      → ((reading : T → Label) → IsReading made meaning store reading → map (seen_frame reading) frames_new ≡ map (seen_frame reading) frames_old ++ pushed kind.Branch (reading label) ∷ [])
      → (tables : Tables) (inputs : Given) (set : BuiltIns) (functions : List FunctionCode) (reading : T → Label) (e : Setting) (s : State) → IsReading made meaning store reading
      → coming tables inputs set functions reading new next e (with_frames reading frames_new s) ≡ behind tables inputs set functions reading tasks e (and_plan (next_plan tables inputs set functions next (map (read_value reading) new.loose) (setting_above tasks e) (pushed_on kind.Branch (reading label) (with_frames reading frames_old s))) (end_branch (result_type gives) (length (map (seen_frame reading) frames_old))))
  in_branch gives tasks new frames_old frames_new label next is entered tables inputs set functions reading e s read =
      let t = with_frames reading frames_new s in
      let f = setting_above tasks e in
      let vs = map (read_value reading) new.loose in
      ap (λ ts. behind tables inputs set functions reading ts e (next_plan tables inputs set functions next vs (setting_above ts e) t)) is
      ∙ in_scope made meaning store tables inputs set functions reading tasks (continuation.EndBranch gives (length frames_old), []) e (λ g. next_plan tables inputs set functions next vs g t)
      ∙ ap₂ (λ d u. behind tables inputs set functions reading tasks e (and_plan (next_plan tables inputs set functions next vs f u) (end_branch (result_type gives) d))) (sym (length-map frames_old (seen_frame reading))) (ap (λ fs. record s { frames = fs }) (entered reading read))

  -- what is done next is what a popped value chose
  pub forked : (gives : Bool) (before middle new : Kept T) (popped : Labelled T) (frames_old frames_new : List (Held T)) (next : Control) (then other : Tables → Given → BuiltIns → List FunctionCode → Val → Setting → State → Plan)
      → length before.loose ≡ 1 → before.loose ≡ middle.loose ++ popped ∷ [] → middle.tasks ≡ before.tasks
      → new.tasks ≡ middle.tasks ++ (continuation.EndBranch gives (length frames_old), middle.loose) ∷ []
      → ((reading : T → Label) → IsReading made meaning store reading → map (seen_frame reading) frames_new ≡ map (seen_frame reading) frames_old ++ pushed kind.Branch (reading popped.label) ∷ [])
      → ((tables : Tables) (inputs : Given) (set : BuiltIns) (functions : List FunctionCode) (reading : T → Label) (f : Setting) (s : State) → next_plan tables inputs set functions next (map (read_value reading) new.loose) f s ≡ choose (truth popped.value) (then tables inputs set functions (read_value reading popped) f) (other tables inputs set functions (read_value reading popped) f) s)
      → Forks made meaning store gives then other before new frames_old frames_new next
  forked gives before middle new popped frames_old frames_new next then other one top stays is entered chosen = λ tables inputs set functions reading e s value read loose.
      let same = last_one middle.loose popped value (sym top ∙ loose) in
      let f = setting_above before.tasks e in
      let u = λ (v : Labelled T). pushed_on kind.Branch (reading v.label) (with_frames reading frames_old s) in
      let ends = end_branch (result_type gives) (length (map (seen_frame reading) frames_old)) in
      in_branch gives before.tasks new frames_old frames_new popped.label next (is ∙ ap₂ (λ ts vs. ts ++ (continuation.EndBranch gives (length frames_old), vs) ∷ []) stays (none_in_front middle.loose before.loose popped top one)) entered tables inputs set functions reading e s read
      ∙ ap (λ p. behind tables inputs set functions reading before.tasks e (and_plan p ends)) (chosen tables inputs set functions reading f (u popped))
      ∙ ap (λ (v : Labelled T). behind tables inputs set functions reading before.tasks e (and_plan (choose (truth v.value) (then tables inputs set functions (read_value reading v) f) (other tables inputs set functions (read_value reading v) f) (u v)) ends)) same

  -- and work that chooses so says the same
  pub resumes_forked : (w : Continuation) (gives : Bool) (then other : Tables → Given → BuiltIns → List FunctionCode → Val → Setting → State → Plan) (old new : Kept T) (frames_old frames_new : List (Held T)) (result : Result Control OutOfMemory)
      → ((tables : Tables) (inputs : Given) (set : BuiltIns) (functions : List FunctionCode) (v : Val) (f : Setting) (s : State) → and_plan (choose (truth v.value) (then tables inputs set functions v f) (other tables inputs set functions v f) (pushed_on kind.Branch v.label s)) (end_branch (result_type gives) (length s.frames)) ≡ after tables inputs set functions w [] f (gave v) s)
      → IfOk result (Forks made meaning store gives then other old new frames_old frames_new)
      → IfOk result (ResumesIn made meaning store w old new frames_old frames_new)
  resumes_forked w gives then other old new frames_old frames_new (Ok next) says forks = λ tables inputs set functions reading e s value read loose.
      forks tables inputs set functions reading e s value read loose ∙ ap (behind tables inputs set functions reading old.tasks e) (says tables inputs set functions (read_value reading value) (setting_above old.tasks e) (with_frames reading frames_old s))
  resumes_forked w gives then other old new frames_old frames_new (Err fault) says forks = tt

  -- what such a call leaves
  pub opened_by : (gives : Bool) (before middle pushed_to new : Kept T) (popped : Labelled T) (frames_old frames_new : List (Held T)) (next : Control) (above : List (Labelled T))
      → length before.loose ≡ 1 → before.loose ≡ middle.loose ++ popped ∷ [] → middle.tasks ≡ before.tasks
      → pushed_to ≡ record { tasks = middle.tasks ++ (continuation.EndBranch gives (length frames_old), middle.loose) ∷ []; loose = [] } → length frames_new ≡ length frames_old + 1
      → new.tasks ≡ pushed_to.tasks → new.loose ≡ pushed_to.loose ++ above → IsFront above (popped ∷ []) → length above ≡ values_of next
      → Opened before new frames_old frames_new next
  opened_by gives before middle pushed_to new popped frames_old frames_new next above one top stays is deeper tasks loose front size =
      let none = none_in_front middle.loose before.loose popped top one in
      let w = continuation.EndBranch gives (length frames_old) in
      let all : new.tasks ≡ before.tasks ++ (w, []) ∷ [] = tasks ∙ ap (λ k. k.tasks) is ∙ ap₂ (λ ts vs. ts ++ (w, vs) ∷ []) stays none in
      let lies : new.loose ≡ above = loose ∙ ap (λ k. k.loose ++ above) is in
      let kept : kept_operands new.tasks ≡ kept_operands before.tasks = ap kept_operands all ∙ kept_more before.tasks (w, []) ∙ append-nil (kept_operands before.tasks) in
      let wait : waiting new.tasks ≡ waiting before.tasks + 0 = ap waiting all ∙ natives_more before.tasks (w, []) in
      let before_all : operands_of before ≡ kept_operands before.tasks ++ popped ∷ [] = ap (λ vs. kept_operands before.tasks ++ vs) (top ∙ ap (λ vs. vs ++ popped ∷ []) none) in
      let new_all : operands_of new ≡ kept_operands before.tasks ++ above = ap₂ (λ ks vs. ks ++ vs) kept lies in
      record {
        values = ap length lies ∙ size;
        scopes = ap scopes_of all ∙ scopes_more before.tasks (w, []);
        natives = omega (arith, wait);
        operands = new_all ∙ front_of (kept_operands before.tasks) above (popped ∷ []) front ∙ ap₂ take (ap length (sym new_all)) (sym before_all);
        deeper = deeper;
      }
