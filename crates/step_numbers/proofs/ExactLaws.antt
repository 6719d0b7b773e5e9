-- What an expression is evaluated to at once, step by step.
use Rattle.std.proofs.Common.{refl, sym, ap, ap₂, ◌∙◌, ◌≡◌, ◌-◌, ℕ, zero, suc, ℤ, true, false, List, Option, Some, None, if◌then◌else◌, arith}
use Rattle.std.proofs.lemmas.Bool.{true≢false}
use Rattle.js_ast.specs.declared.operators.BinaryOperator.{BinaryOperator}
use Rattle.js_ast.specs.Trees as trees
use Rattle.js_ast.specs.Trees.{Expr}
use Rattle.js_values.specs.declared.value.Labelled.{Labelled}
use Rattle.js_values.specs.Objects.{Object}
use Rattle.js_values.specs.Records.{Record}
use Rattle.step_numbers.specs.Evaluated.{Left, and_left, combined_of, combines, is_tried, left_with, number_at, number_step, of_both}

module _ {T : Type 0} (records : List (Record (Labelled T))) (heap : List (Object T)) (at : ℕ) where
  -- without a turn, and without a level
  pub no_turns : (d : ℕ) (e : Expr) → number_at records heap at d e 0 ≡ None
  unfolding number_at
  no_turns zero e = refl
  no_turns (suc d) e = refl

  pub no_levels : (e : Expr) (turns : ℕ) → number_at records heap at 0 e turns ≡ None
  unfolding number_at
  no_levels e turns = refl

  -- with both it is entered
  pub entered_step : (d : ℕ) (e : Expr) (turns : ℕ) → (d ≡ 0 → ⊥) → (turns ≡ 0 → ⊥) → number_at records heap at d e turns ≡ number_step records heap at (number_at records heap at (d - 1)) e (turns - 1)
  unfolding number_at
  entered_step zero e turns deep some = absurd (deep refl)
  entered_step (suc d) e zero deep some = absurd (some refl)
  entered_step (suc d) e (suc turns) deep some =
      let d_less : d ≡ suc d - 1 = omega arith in
      let t_less : turns ≡ suc turns - 1 = omega arith in
      ap₂ (λ i n. number_step records heap at (number_at records heap at i) e n) d_less t_less

  -- an expression that is this one
  pub entered_as : (d : ℕ) (e other : Expr) (turns : ℕ) → e ≡ other → (d ≡ 0 → ⊥) → (turns ≡ 0 → ⊥) → number_at records heap at d e turns ≡ number_step records heap at (number_at records heap at (d - 1)) other (turns - 1)
  entered_as d e other turns is deep some = entered_step d e turns deep some ∙ ap (λ x. number_step records heap at (number_at records heap at (d - 1)) x (turns - 1)) is

  -- arithmetic evaluates its operands, and no other operator does
  pub arithmetic : (d : ℕ) (e l r : Expr) (place turns : ℕ) (o : BinaryOperator) → e ≡ trees.binary place l o r → combines o ≡ true → (d ≡ 0 → ⊥) → (turns ≡ 0 → ⊥) → number_at records heap at d e turns ≡ of_both (number_at records heap at (d - 1)) l r (combined_of o) (turns - 1)
  arithmetic d e l r place turns o is arith_op deep some =
      entered_as d e (trees.binary place l o r) turns is deep some ∙ ap (λ b. if b then of_both (number_at records heap at (d - 1)) l r (combined_of o) (turns - 1) else None) arith_op

  pub not_arithmetic : (d : ℕ) (e l r : Expr) (place turns : ℕ) (o : BinaryOperator) → e ≡ trees.binary place l o r → combines o ≡ false → (d ≡ 0 → ⊥) → (turns ≡ 0 → ⊥) → number_at records heap at d e turns ≡ None
  not_arithmetic d e l r place turns o is other_op deep some =
      entered_as d e (trees.binary place l o r) turns is deep some ∙ ap (λ b. if b then of_both (number_at records heap at (d - 1)) l r (combined_of o) (turns - 1) else None) other_op

  -- an expression of another kind isn't evaluated
  pub stays_out : (d : ℕ) (e : Expr) (turns : ℕ) → is_tried e ≡ false → None ≡ number_at records heap at d e turns
  unfolding number_at
  stays_out zero e turns other = refl
  stays_out (suc d) e zero other = refl
  stays_out (suc d) (trees.name place text) (suc turns) other = absurd (true≢false other)
  stays_out (suc d) (trees.number place n) (suc turns) other = absurd (true≢false other)
  stays_out (suc d) (trees.paren place e) (suc turns) other = absurd (true≢false other)
  stays_out (suc d) (trees.binary place l o r) (suc turns) other = absurd (true≢false other)
  stays_out (suc d) _ (suc turns) other = refl

-- two operands, of which one isn't there, and of which both are
module _ {X : Type 0} (parts : Expr → ℕ → Left ℤ) (l r : Expr) (make : ℤ → ℤ → Option X) (turns : ℕ) where
  pub no_left : None ≡ parts l turns → of_both parts l r make turns ≡ None
  no_left none = ap (λ x. and_left x (λ m t. and_left (parts r t) (λ n u. left_with (make m n) u))) (sym none)

  pub no_right : (m : ℤ) (t : ℕ) → Some (m, t) ≡ parts l turns → None ≡ parts r t → of_both parts l r make turns ≡ None
  no_right m t first none =
      ap (λ x. and_left x (λ m t. and_left (parts r t) (λ n u. left_with (make m n) u))) (sym first) ∙ ap (λ x. and_left x (λ n u. left_with (make m n) u)) (sym none)

  pub both_there : (m n : ℤ) (t u : ℕ) → Some (m, t) ≡ parts l turns → Some (n, u) ≡ parts r t → of_both parts l r make turns ≡ left_with (make m n) u
  both_there m n t u first second =
      ap (λ x. and_left x (λ m t. and_left (parts r t) (λ n u. left_with (make m n) u))) (sym first) ∙ ap (λ x. and_left x (λ n u. left_with (make m n) u)) (sym second)
