-- What the parts of an expression come to is what the expression comes to.
use Rattle.std.proofs.Common.{refl, sym, ap, ap₂, subst, IfSome, ◌∙◌, ◌≡◌, ◌<◌, ◌-◌, ℕ, zero, suc, ℤ, Bool, true, false, List, Option, Some, None, Ok, Err, arith}
use Rattle.origin_labels.specs.Label.{Label, IsLabel, bottom, union}
use Rattle.origin_labels.specs.Stores.{IsKept}
use Rattle.flow_policy.specs.Policies.{Tables}
use Rattle.flow_policy.specs.Inputs as inputs
use Rattle.js_ast.specs.Functions.{FunctionCode}
use Rattle.es_meaning.specs.BuiltIns.{BuiltIns}
use Rattle.js_ast.specs.declared.operators.BinaryOperator.{BinaryOperator}
use Rattle.js_ast.specs.declared.operators.BinaryOperator.TheVariants as binary_operator
use Rattle.js_ast.specs.Trees as trees
use Rattle.js_ast.specs.Trees.{Expr}
use Rattle.js_number.specs.declared.primitive.Primitive.{Primitive}
use Rattle.js_values.specs.declared.value.Labelled.{Labelled}
use Rattle.js_values.specs.declared.value.Value as values
use Rattle.js_values.specs.declared.value.Value.TheVariants as value
use Rattle.js_values.specs.Readings as readings
use Rattle.js_values.proofs.ReadingLaws.{IsReading-earlier}
use Rattle.es_meaning.specs.Evaluation.{binary_right, binary_values, expr_step, read_value}
use Rattle.es_meaning.specs.Operations.{Value}
use Rattle.es_meaning.specs.Operators.{binary_of, binary_values_of, elsewhere}
use Rattle.es_meaning.specs.Outcomes.{Goes}
use Rattle.flow_meaning.specs.Scopes.{LabelledLine, State, Val}
use Rattle.flow_meaning.specs.Tracked.{accessed, given, has_value, resolved}
use Rattle.flow_meaning.specs.Planned.{Ask, Give, Part, Plan, an_expr, and_go, as_plan, asking, completed, enter_access, gave, meaning, perform, plan, planned, with_outcome, with_result}
use Rattle.flow_meaning.proofs.Depth.{is_performed}
use Rattle.flow_meaning.proofs.Performing.{perform_asked}
use Rattle.run_state.specs.declared.world.World.{World}
use Rattle.run_state.specs.Worlds.{state_of}
use Rattle.step_values.specs.Converted.{converts, is_keyed}
use Rattle.step_values.proofs.ConvertedLaws.{operands_as_they_are}
use Rattle.continuations.specs.Shapes.{evaluates_both}
use Rattle.continuations.proofs.Steps.{both_operands}
use Rattle.continuations.specs.Settings.{entrance}
use Rattle.step_numbers.specs.declared.evaluating.Counted.{Counted}
use Rattle.step_numbers.specs.Evaluated.{integer, Evaluates, labelled_number}
use Rattle.step_numbers.specs.Named.{IsNamed}
use Rattle.step_numbers.proofs.NumberLaws.{none_converts}

-- a turn is left
pub one_left : (turns : ℕ) → (turns ≡ 0 → ⊥) → turns - 1 < turns
one_left zero some = absurd (some refl)
one_left (suc n) some = omega arith

-- `in` isn't decided by values alone, so an operator that gives one of them takes no key
in_none : (v u : values.Value) → binary_values_of binary_operator.In v u ≡ elsewhere
in_none (value.Primitive v) (value.Primitive u) = refl
in_none (value.Object v) (value.Object u) = refl
in_none (value.Primitive v) (value.Object u) = refl
in_none (value.Object v) (value.Primitive u) = refl

pub unkeyed : (o : BinaryOperator) (v u : values.Value) (p : Primitive) → binary_of o v u ≡ Ok p → is_keyed o ≡ false
unfolding binary_of
unkeyed binary_operator.In v u p is = cc (sym (in_none v u) ∙ is)
unkeyed _ v u p is = refl

-- ---- plans

module _ (tables : Tables) (inputs : inputs.Given) (set : BuiltIns) (functions : List FunctionCode) where
  -- for a turn an expression comes to what its plan comes to
  entered : {T : Type 0} (reading : T → Label) (w : World T) (told : List LabelledLine) (e : Expr) (at turns : ℕ) → (turns ≡ 0 → ⊥)
      → meaning tables inputs set functions (an_expr e at) (state_of reading w told turns) ≡ perform (meaning tables inputs set functions) (plan tables inputs set functions (an_expr e at) (state_of reading w told (turns - 1)))
  entered reading w told e at zero some = absurd (some refl)
  entered reading w told e at (suc n) some =
      let less : n ≡ suc n - 1 = omega arith in
      subst (λ k. meaning tables inputs set functions (an_expr e at) (state_of reading w told (suc n)) ≡ perform (meaning tables inputs set functions) (plan tables inputs set functions (an_expr e at) (state_of reading w told k))) less
      (is_performed.some_left tables inputs set functions (an_expr e at) (state_of reading w told n) n)

  -- a part that was asked for gave a value
  pub asked_gave : (part : Part) (f : Val → State → Plan) (s t : State) (v : Val) → meaning tables inputs set functions part s ≡ Goes v t → perform (meaning tables inputs set functions) (Ask part s (with_result Value f)) ≡ perform (meaning tables inputs set functions) (f v t)
  unfolding perform and_go
  asked_gave part f s t v h = ap (λ o. and_go o (λ c u. perform (meaning tables inputs set functions) (with_result Value f c u))) h

  number_plan : (place at : ℕ) (n : ℤ) (s : State) → perform (meaning tables inputs set functions) (plan tables inputs set functions (an_expr (trees.number place n) at) s) ≡ Goes (record { value = value.Primitive (integer n); label = bottom }) s
  unfolding plan expr_step perform completed
  number_plan place at n s = refl

  paren_plan : (place at : ℕ) (e : Expr) (s : State) → perform (meaning tables inputs set functions) (plan tables inputs set functions (an_expr (trees.paren place e) at) s) ≡ meaning tables inputs set functions (an_expr e at) s
  unfolding plan expr_step
  paren_plan place at e s = perform_asked (meaning tables inputs set functions) (an_expr e at) s

  name_plan : (place at : ℕ) (text : List ℕ) (s : State) (v : Val) (t : State) → accessed (resolved s.records s.heap at text) s ≡ Goes (has_value v) t → perform (meaning tables inputs set functions) (plan tables inputs set functions (an_expr (trees.name place text) at) s) ≡ Goes v t
  unfolding plan expr_step read_value enter_access perform completed
  name_plan place at text s v t reads = ap (λ o. perform (meaning tables inputs set functions) (with_outcome o (enter_access functions (entrance tables inputs set functions)))) reads

  -- two values of which none is converted
  pub operated_plan : (o : BinaryOperator) (v w : Val) (p : Primitive) (s : State) → IsLabel v.label → IsLabel w.label → converts o v.value w.value ≡ false → binary_of o v.value w.value ≡ Ok p
      → binary_values (planned tables inputs set functions) (entrance tables inputs set functions) o v w s ≡ Give (gave (record { value = value.Primitive p; label = union v.label w.label })) s
  unfolding given
  operated_plan o v w p s left right plain is =
      operands_as_they_are tables inputs set functions (entrance tables inputs set functions) o v w s left right (unkeyed o v.value w.value p is) plain
      ∙ ap (λ x. as_plan Value (given (union v.label w.label) x s)) is

  binary_plan : (place at : ℕ) (l r : Expr) (o : BinaryOperator) (s t u : State) (v w : Val) (p : Primitive) → evaluates_both o ≡ true → IsLabel v.label → IsLabel w.label → converts o v.value w.value ≡ false
      → meaning tables inputs set functions (an_expr l at) s ≡ Goes v t → meaning tables inputs set functions (an_expr r at) t ≡ Goes w u → binary_of o v.value w.value ≡ Ok p
      → perform (meaning tables inputs set functions) (plan tables inputs set functions (an_expr (trees.binary place l o r) at) s) ≡ Goes (record { value = value.Primitive p; label = union v.label w.label }) u
  unfolding plan expr_step binary_right perform completed
  binary_plan place at l r o s t u v w p both first second plain left right is =
      ap (perform (meaning tables inputs set functions)) (both_operands tables inputs set functions o l r at s both)
      ∙ asked_gave (an_expr l at) (binary_right (planned tables inputs set functions) (entrance tables inputs set functions) (asking tables inputs set functions) o r at) s t v left
      ∙ asked_gave (an_expr r at) (binary_values (planned tables inputs set functions) (entrance tables inputs set functions) o v) t u w right
      ∙ ap (perform (meaning tables inputs set functions)) (operated_plan o v w p u first second plain is)

-- ---- what an expression comes to

module _ {S T : Type 0} (made : S → T → Type 0) (meaning_of : S → T → Label) where
  -- in a later store too
  pub later : (room : S → ℕ) (firm : S → Bool) (old new : S) (e : Expr) (at : ℕ) (w : World T) (turns : ℕ) (v : Labelled T) (left : ℕ) → IsKept made meaning_of room firm old new
      → Evaluates made meaning_of old e at w turns v left → Evaluates made meaning_of new e at w turns v left
  later room firm old new e at w turns v left kept evaluates = record {
    comes = λ tables inputs set functions reading told read. evaluates.comes tables inputs set functions reading told (IsReading-earlier made meaning_of room firm old new reading kept read);
    labelled = (kept.labels v.label evaluates.labelled).0;
    fewer = evaluates.fewer;
  }

  pub number_evaluated : (store : S) (place at : ℕ) (w : World T) (turns : ℕ) (n : ℤ) (label : T) → (turns ≡ 0 → ⊥) → made store label → meaning_of store label ≡ bottom
      → Evaluates made meaning_of store (trees.number place n) at w turns (labelled_number n label) (turns - 1)
  number_evaluated store place at w turns n label some has means = record {
    comes = λ tables inputs set functions reading told read.
        entered tables inputs set functions reading w told (trees.number place n) at turns some
        ∙ number_plan tables inputs set functions place at n (state_of reading w told (turns - 1))
        ∙ ap (λ l. Goes (record { value = value.Primitive (integer n); label = l }) (state_of reading w told (turns - 1))) (sym (read.agrees label has ∙ means));
    labelled = has;
    fewer = one_left turns some;
  }

  pub paren_evaluated : (store : S) (place at : ℕ) (w : World T) (turns : ℕ) (e : Expr) (v : Labelled T) (left : ℕ) → (turns ≡ 0 → ⊥)
      → Evaluates made meaning_of store e at w (turns - 1) v left → Evaluates made meaning_of store (trees.paren place e) at w turns v left
  paren_evaluated store place at w turns e v left some inner = record {
    comes = λ tables inputs set functions reading told read.
        entered tables inputs set functions reading w told (trees.paren place e) at turns some
        ∙ paren_plan tables inputs set functions place at e (state_of reading w told (turns - 1))
        ∙ inner.comes tables inputs set functions reading told read;
    labelled = inner.labelled;
    fewer = let fewer = inner.fewer in let below = one_left turns some in omega (arith, below, fewer);
  }

  pub name_evaluated : (store : S) (place at : ℕ) (w : World T) (turns : ℕ) (text : List ℕ) (v : Labelled T) → (turns ≡ 0 → ⊥) → IsNamed made meaning_of store at text w v → Evaluates made meaning_of store (trees.name place text) at w turns v (turns - 1)
  name_evaluated store place at w turns text v some is = record {
    comes = λ tables inputs set functions reading told read.
        let s = state_of reading w told (turns - 1) in
        entered tables inputs set functions reading w told (trees.name place text) at turns some ∙ name_plan tables inputs set functions place at text s (readings.read_value reading v) s (is.comes reading told (turns - 1) read);
    labelled = is.labelled;
    fewer = one_left turns some;
  }

  pub binary_evaluated : (rising : (store : S) (label : T) → made store label → IsLabel (meaning_of store label)) (store : S) (place at : ℕ) (w : World T) (turns : ℕ) (l r : Expr) (o : BinaryOperator) (v u : Labelled T) (t left : ℕ) (p : Primitive) (label : T) → (turns ≡ 0 → ⊥) → evaluates_both o ≡ true → converts o v.value u.value ≡ false
      → Evaluates made meaning_of store l at w (turns - 1) v t → Evaluates made meaning_of store r at w t u left → binary_of o v.value u.value ≡ Ok p
      → made store label → meaning_of store label ≡ union (meaning_of store v.label) (meaning_of store u.label)
      → Evaluates made meaning_of store (trees.binary place l o r) at w turns (record { value = value.Primitive p; label = label }) left
  binary_evaluated rising store place at w turns l r o v u t left p label some both plain first second is has means = record {
    comes = λ tables inputs set functions reading told read.
        let joined : union (reading v.label) (reading u.label) ≡ reading label = ap₂ union (read.agrees v.label first.labelled) (read.agrees u.label second.labelled) ∙ sym means ∙ sym (read.agrees label has) in
        entered tables inputs set functions reading w told (trees.binary place l o r) at turns some
        ∙ binary_plan tables inputs set functions place at l r o (state_of reading w told (turns - 1)) (state_of reading w told t) (state_of reading w told left) (readings.read_value reading v) (readings.read_value reading u) p both
        (subst IsLabel (sym (read.agrees v.label first.labelled)) (rising store v.label first.labelled)) (subst IsLabel (sym (read.agrees u.label second.labelled)) (rising store u.label second.labelled)) plain
        (first.comes tables inputs set functions reading told read) (second.comes tables inputs set functions reading told read) is
        ∙ ap (λ x. Goes (record { value = value.Primitive p; label = x }) (state_of reading w told left)) joined;
    labelled = has;
    fewer = let fewer = first.fewer in let less = second.fewer in let below = one_left turns some in omega (arith, below, fewer, less);
  }

-- ---- what the code answers

module _ {S T : Type 0} (made : S → T → Type 0) (meaning_of : S → T → Label) where
  -- where it answers, an expression comes to a number
  abbrev pub Counts : S → Expr → ℕ → World T → ℕ → Option (Counted T) → Type 0
  Counts store e at w turns result = IfSome result (λ c. Evaluates made meaning_of store e at w turns (labelled_number c.number c.label) c.turns)

  pub name_counts : (store : S) (e : Expr) (place at : ℕ) (w : World T) (turns : ℕ) (text : List ℕ) (result : Option (Counted T)) → e ≡ trees.name place text → (turns ≡ 0 → ⊥)
      → IfSome result (λ c. IsNamed made meaning_of store at text w (labelled_number c.number c.label)) → IfSome result (λ c. c.turns ≡ turns - 1) → Counts store e at w turns result
  name_counts store e place at w turns text None is some named left = tt
  name_counts store e place at w turns text (Some c) is some named left =
      subst (λ x. Evaluates made meaning_of store x at w turns (labelled_number c.number c.label) c.turns) (sym is)
      (subst (λ n. Evaluates made meaning_of store (trees.name place text) at w turns (labelled_number c.number c.label) n) (sym left) (name_evaluated made meaning_of store place at w turns text (labelled_number c.number c.label) some named))

  pub paren_counts : (store : S) (e inner : Expr) (place at : ℕ) (w : World T) (turns : ℕ) (result : Option (Counted T)) → e ≡ trees.paren place inner → (turns ≡ 0 → ⊥) → Counts store inner at w (turns - 1) result → Counts store e at w turns result
  paren_counts store e inner place at w turns None is some counts = tt
  paren_counts store e inner place at w turns (Some c) is some counts =
      subst (λ x. Evaluates made meaning_of store x at w turns (labelled_number c.number c.label) c.turns) (sym is) (paren_evaluated made meaning_of store place at w turns inner (labelled_number c.number c.label) c.turns some counts)

  module _ (rising : (store : S) (label : T) → made store label → IsLabel (meaning_of store label)) (room : S → ℕ) (firm : S → Bool) (earlier middle store : S) (kept : IsKept made meaning_of room firm earlier middle) (behind : IsKept made meaning_of room firm middle store) where
    -- two operands that were evaluated, with the union of their labels
    pub operands_evaluated : (place at : ℕ) (w : World T) (turns : ℕ) (l r : Expr) (o : BinaryOperator) (v u : Labelled T) (t left : ℕ) (p : Primitive) (label : T) → (turns ≡ 0 → ⊥) → evaluates_both o ≡ true → converts o v.value u.value ≡ false
        → Evaluates made meaning_of earlier l at w (turns - 1) v t → Evaluates made meaning_of middle r at w t u left → binary_of o v.value u.value ≡ Ok p
        → made store label → meaning_of store label ≡ union (meaning_of middle v.label) (meaning_of middle u.label)
        → Evaluates made meaning_of store (trees.binary place l o r) at w turns (record { value = value.Primitive p; label = label }) left
    operands_evaluated place at w turns l r o v u t left p label some both plain first second is has means =
        let between = later made meaning_of room firm earlier middle l at w (turns - 1) v t kept first in
        binary_evaluated made meaning_of rising store place at w turns l r o v u t left p label some both plain
        (later made meaning_of room firm middle store l at w (turns - 1) v t behind between) (later made meaning_of room firm middle store r at w t u left behind second) is has
        (means ∙ ap₂ union (sym (behind.labels v.label between.labelled).1) (sym (behind.labels u.label second.labelled).1))

    pub binary_counts : (e l r : Expr) (place at : ℕ) (w : World T) (turns : ℕ) (o : BinaryOperator) (first second : Counted T) (result : Option (Counted T)) → e ≡ trees.binary place l o r → (turns ≡ 0 → ⊥)
        → Evaluates made meaning_of earlier l at w (turns - 1) (labelled_number first.number first.label) first.turns → Evaluates made meaning_of middle r at w first.turns (labelled_number second.number second.label) second.turns
        → IfSome result (λ c. binary_of o (value.Primitive (integer first.number)) (value.Primitive (integer second.number)) ≡ Ok (integer c.number)) → IfSome result (λ c. evaluates_both o ≡ true) → IfSome result (λ c. made store c.label)
        → IfSome result (λ c. meaning_of store c.label ≡ union (meaning_of middle first.label) (meaning_of middle second.label)) → IfSome result (λ c. c.turns ≡ second.turns) → Counts store e at w turns result
    binary_counts e l r place at w turns o first second None is some left right gives both has means turned = tt
    binary_counts e l r place at w turns o first second (Some c) is some left right gives both has means turned =
        subst (λ x. Evaluates made meaning_of store x at w turns (labelled_number c.number c.label) c.turns) (sym is)
        (subst (λ n. Evaluates made meaning_of store (trees.binary place l o r) at w turns (labelled_number c.number c.label) n) (sym turned)
        (operands_evaluated place at w turns l r o (labelled_number first.number first.label) (labelled_number second.number second.label) first.turns second.turns (integer c.number) c.label some both (none_converts o first.number second.number) left right gives has means))
