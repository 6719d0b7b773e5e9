-- A throw from inside the frame of a call leaves that frame.
use Rattle.std.proofs.Common.{arith, refl, sym, ap, subst, ◌∙◌, ◌≡◌, ◌≤◌, ◌<◌, ◌+◌, ℕ, zero, suc, Bool, true, false, List, [], ◌∷◌, ◌++◌, length, take}
use Rattle.std.specs.Prelude.{if◌then◌else◌}
use Rattle.std.proofs.lemmas.Bool.{le-ltb}
use Rattle.std.proofs.lemmas.List.{take_all}
use Rattle.origin_labels.specs.Label.{Label, within}
use Rattle.flow_frames.specs.declared.faults.Rule.TheVariants.{W9}
use Rattle.flow_frames.specs.Frames.{Frame}
use Rattle.flow_frames.specs.Held.{meant_at}
use Rattle.flow_frames.specs.Rules.{jump_need}
use Rattle.es_meaning.specs.Operations.{One, Value}
use Rattle.es_meaning.specs.Outcomes.{Outcome, Goes, Jumps, Ends, ret, and_then}
use Rattle.es_meaning.specs.Plain.{choose}
use Rattle.native_protocol.specs.declared.request.ErrorKind.{ErrorKind}
use Rattle.flow_meaning.specs.Planned.{Give, and_plan, as_plan, jumped, end_branch, end_call, end_construction}
use Rattle.flow_meaning.specs.Scopes.{Halt, Jump, Left, State, Val, answer, as_plain, catching, caught, construction, cut_to, guard, jump, jump_to, popped, reached, settled}
use Rattle.flow_meaning.specs.Tracked.{error_jump, throw_error, with_error}
use Rattle.es_meaning.specs.Outcomes as es

length_cut : {X : Type 0} (n : ℕ) (xs : List X) → length (take n xs) ≤ n
length_cut zero xs = omega arith
length_cut (suc n) [] = omega arith
length_cut (suc n) (x ∷ xs) = let rest = length_cut n xs in omega (arith, rest)

-- ---- the frame that a throw reaches

catching_last : (depth best : ℕ) (frames : List Frame) (f : Frame) → f.active ≡ false → catching depth best (frames ++ f ∷ []) ≡ catching depth best frames
catching_last depth best [] f quiet = ap (λ b. if b then depth else best) quiet
catching_last depth best (g ∷ frames) f quiet = catching_last (suc depth) (if g.active then depth else best) frames f quiet

best_below : (b : Bool) (depth best : ℕ) → best < depth → (if b then depth else best) < suc depth
best_below true depth best below = omega arith
best_below false depth best below = omega (arith, below)

catching_below : (depth best : ℕ) (frames : List Frame) → best < depth → catching depth best frames < depth + length frames
catching_below depth best [] below = omega (arith, below)
catching_below depth best (f ∷ frames) below = let rest = catching_below (suc depth) (if f.active then depth else best) frames (best_below f.active depth best below) in omega (arith, rest)

-- it is outside the innermost one, if that doesn't catch
reached_below : (before : List Frame) (f : Frame) → f.active ≡ false → 0 < length before → reached 0 (before ++ f ∷ []) < length before
reached_below [] f quiet some = absurd (omega (arith, some))
reached_below (b ∷ before) f quiet some = let below = catching_below 1 0 before (omega arith) in subst (λ n. n < suc (length before)) (sym (catching_last 1 0 before f quiet)) (omega (arith, below))

-- ---- the outcome of a throw, by rule W9

abbrev thrown_by : {X : Type 0} → Bool → ErrorKind → Label → State → Outcome Halt Jump X State
thrown_by b kind cause s =
    let t = with_error kind s in
    let depth = reached 0 t.frames in
    guard b W9 (jump_need t.frames depth cause) (meant_at t.frames depth) (λ u. Jumps (error_jump cause (length s.heap)) (cut_to (suc depth) u)) t

abbrev allowed : ErrorKind → Label → State → Bool
allowed kind cause s =
    let t = with_error kind s in
    let depth = reached 0 t.frames in
    within (jump_need t.frames depth cause) (meant_at t.frames depth)

thrown_is : {X : Type 0} (kind : ErrorKind) (cause : Label) (s : State) → throw_error {X = X} kind cause s ≡ thrown_by (allowed kind cause s) kind cause s
unfolding throw_error jump jump_to
thrown_is kind cause s = refl

-- it goes nowhere else, and doesn't leave the language
never_goes : {X : Type 0} (b : Bool) (kind : ErrorKind) (cause : Label) (s t : State) (x : X) → thrown_by b kind cause s ≡ Goes x t → ⊥
unfolding guard
never_goes true kind cause s t x is = cc is
never_goes false kind cause s t x is = cc is

never_leaves : {X : Type 0} (b : Bool) (kind : ErrorKind) (cause : Label) (s t : State) (halt : es.Halt) → thrown_by {X = X} b kind cause s ≡ Ends (as_plain halt) t → ⊥
unfolding guard
never_leaves true kind cause s t halt is = cc is
never_leaves false kind cause s t halt is = cc is

pub no_leaving : {X : Type 0} (kind : ErrorKind) (cause : Label) (s t : State) (halt : es.Halt) → throw_error {X = X} kind cause s ≡ Ends (as_plain halt) t → ⊥
no_leaving {X = X} kind cause s t halt is = never_leaves {X = X} (allowed kind cause s) kind cause s t halt (sym (thrown_is {X = X} kind cause s) ∙ is)

-- ---- from inside a frame that doesn't catch

module _ (before : List Frame) (f : Frame) (quiet : f.active ≡ false) (some : 0 < length before) (depth : ℕ) (deep : length before ≡ depth) (s : State) (frames : s.frames ≡ before ++ f ∷ []) where
  cut_short : length (take (suc (reached 0 s.frames)) s.frames) ≤ depth
  cut_short =
      let below : reached 0 s.frames < length before = subst (λ fs. reached 0 fs < length before) (sym frames) (reached_below before f quiet some) in
      omega (arith, below, deep, length_cut (suc (reached 0 s.frames)) s.frames)

  frames_left : {X : Type 0} (b : Bool) (kind : ErrorKind) (cause : Label) (j : Jump) (t : State) → thrown_by {X = X} b kind cause s ≡ Jumps j t → length t.frames ≤ depth
  unfolding guard
  frames_left true kind cause j t is = let same : cut_to (suc (reached 0 s.frames)) (with_error kind s) ≡ t = cc is in subst (λ (u : State). length u.frames ≤ depth) same cut_short
  frames_left false kind cause j t is = absurd (cc is)

  pub throw_leaves : {X : Type 0} (kind : ErrorKind) (cause : Label) (j : Jump) (t : State) → throw_error {X = X} kind cause s ≡ Jumps j t → length t.frames ≤ depth
  throw_leaves {X = X} kind cause j t is = frames_left {X = X} (allowed kind cause s) kind cause j t (sym (thrown_is {X = X} kind cause s) ∙ is)

  -- so the end of the call hands it on
  passes_call : (j : Jump) (t : State) → length t.frames ≤ depth → end_call depth (jumped j) t ≡ Give (jumped j) t
  unfolding end_call popped
  passes_call j t few =
      ap (λ b. as_plan Value (and_then (choose b (Goes (record { label = meant_at t.frames depth; how = caught j }) (cut_to depth t)) (Jumps j (cut_to depth t))) (λ (l : Left (Unit {0})). ret (answer l)))) (le-ltb depth (length t.frames) few)
      ∙ ap (λ fs. Give (jumped j) (record t { frames = fs })) (take_all depth t.frames few)

  passes_construction : (fresh : ℕ) (j : Jump) (t : State) → length t.frames ≤ depth → end_construction fresh depth (jumped j) t ≡ Give (jumped j) t
  unfolding end_construction popped
  passes_construction fresh j t few =
      ap (λ b. as_plan Value (and_then (choose b (Goes (record { label = meant_at t.frames depth; how = caught j }) (cut_to depth t)) (Jumps j (cut_to depth t))) (λ (l : Left (Unit {0})). ret (construction fresh l)))) (le-ltb depth (length t.frames) few)
      ∙ ap (λ fs. Give (jumped j) (record t { frames = fs })) (take_all depth t.frames few)

  passes_branch : (j : Jump) (t : State) → length t.frames ≤ depth → end_branch Value depth (jumped j) t ≡ Give (jumped j) t
  unfolding end_branch popped
  passes_branch j t few =
      ap (λ b. as_plan Value (and_then (choose b (Goes (record { label = meant_at t.frames depth; how = caught j }) (cut_to depth t)) (Jumps j (cut_to depth t))) (λ (l : Left Val). ret (settled Value l)))) (le-ltb depth (length t.frames) few)
      ∙ ap (λ fs. Give (jumped j) (record t { frames = fs })) (take_all depth t.frames few)

  by_call : (b : Bool) (kind : ErrorKind) (cause : Label) → and_plan (as_plan One (thrown_by b kind cause s)) (end_call depth) ≡ as_plan One (thrown_by b kind cause s)
  unfolding guard
  by_call true kind cause = passes_call (error_jump cause (length s.heap)) (cut_to (suc (reached 0 s.frames)) (with_error kind s)) cut_short
  by_call false kind cause = refl

  by_construction : (fresh : ℕ) (b : Bool) (kind : ErrorKind) (cause : Label) → and_plan (as_plan One (thrown_by b kind cause s)) (end_construction fresh depth) ≡ as_plan One (thrown_by b kind cause s)
  unfolding guard
  by_construction fresh true kind cause = passes_construction fresh (error_jump cause (length s.heap)) (cut_to (suc (reached 0 s.frames)) (with_error kind s)) cut_short
  by_construction fresh false kind cause = refl

  by_branch : (b : Bool) (kind : ErrorKind) (cause : Label) → and_plan (as_plan Value (thrown_by {X = Val} b kind cause s)) (end_branch Value depth) ≡ as_plan One (thrown_by b kind cause s)
  unfolding guard
  by_branch true kind cause = passes_branch (error_jump cause (length s.heap)) (cut_to (suc (reached 0 s.frames)) (with_error kind s)) cut_short
  by_branch false kind cause = refl

  pub throw_passes_branch : (kind : ErrorKind) (cause : Label) → and_plan (as_plan Value (throw_error {X = Val} kind cause s)) (end_branch Value depth) ≡ as_plan One (throw_error kind cause s)
  throw_passes_branch kind cause =
      ap (λ (o : Outcome Halt Jump Val State). and_plan (as_plan Value o) (end_branch Value depth)) (thrown_is kind cause s)
      ∙ by_branch (allowed kind cause s) kind cause
      ∙ ap (λ (o : Outcome Halt Jump (Unit {0}) State). as_plan One o) (sym (thrown_is kind cause s))

  pub throw_passes_call : (kind : ErrorKind) (cause : Label) → and_plan (as_plan One (throw_error kind cause s)) (end_call depth) ≡ as_plan One (throw_error kind cause s)
  throw_passes_call kind cause =
      subst (λ (o : Outcome Halt Jump (Unit {0}) State). and_plan (as_plan One o) (end_call depth) ≡ as_plan One o) (sym (thrown_is kind cause s)) (by_call (allowed kind cause s) kind cause)

  pub throw_passes_construction : (fresh : ℕ) (kind : ErrorKind) (cause : Label) → and_plan (as_plan One (throw_error kind cause s)) (end_construction fresh depth) ≡ as_plan One (throw_error kind cause s)
  throw_passes_construction fresh kind cause =
      subst (λ (o : Outcome Halt Jump (Unit {0}) State). and_plan (as_plan One o) (end_construction fresh depth) ≡ as_plan One o) (sym (thrown_is kind cause s)) (by_construction fresh (allowed kind cause s) kind cause)
