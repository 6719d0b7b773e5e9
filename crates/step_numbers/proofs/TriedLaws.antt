-- What is assigned at once, step by step.
use Rattle.std.proofs.Common.{refl, sym, ap, ◌∙◌, ◌≡◌, ◌-◌, ℕ, zero, suc, ℤ, pos, Bool, true, false, List, Option, Some, None, if◌then◌else◌, arith}
use Rattle.std.specs.Option.{option_map}
use Rattle.std.proofs.lemmas.Bool.{true≢false}
use Rattle.origin_labels.specs.Label.{Label}
use Rattle.js_ast.specs.declared.operators.BinaryOperator.{BinaryOperator}
use Rattle.js_ast.specs.declared.operators.BinaryOperator.TheVariants as binary_operator
use Rattle.js_ast.specs.Trees as trees
use Rattle.js_ast.specs.Trees.{Expr, Semi, Statement}
use Rattle.run_state.specs.declared.world.World.{World}
use Rattle.step_numbers.specs.Assigned.{assigned_at, changes, counted_by, finished_at, given_by, if_changes, number_of, number_of_name}
use Rattle.step_numbers.specs.Evaluated.{Left, and_left, combined_of, combines, left_with}

-- ---- what is assigned to

module _ {T : Type 0} (reading : T → Label) (w : World T) (at : ℕ) (gives : List ℕ → Left ℤ) where
  name_is : (n : Option (List ℕ)) (text : List ℕ) → Some text ≡ n → if_changes reading w at n gives ≡ (if changes reading w at text then gives text else None)
  name_is n text is = ap (λ o. if_changes reading w at o gives) (sym is)

  abbrev nothing : Left ℤ
  nothing = None

  none_where : (b : Bool) → (if b then nothing else nothing) ≡ nothing
  none_where true = refl
  none_where false = refl

  -- a name for which there is no number, one that can't be given a value, and one that can
  pub no_number : (n : Option (List ℕ)) (text : List ℕ) → Some text ≡ n → gives text ≡ None → if_changes reading w at n gives ≡ None
  no_number n text is none = name_is n text is ∙ ap (λ x. if changes reading w at text then x else None) none ∙ none_where (changes reading w at text)

  pub never : (n : Option (List ℕ)) → ((text : List ℕ) → gives text ≡ None) → if_changes reading w at n gives ≡ None
  never None none = refl
  never (Some text) none = no_number (Some text) text refl (none text)

  pub no_change : (n : Option (List ℕ)) (text : List ℕ) → Some text ≡ n → false ≡ changes reading w at text → if_changes reading w at n gives ≡ None
  no_change n text is none = name_is n text is ∙ ap (λ b. if b then gives text else None) (sym none)

  pub changed : (n : Option (List ℕ)) (text : List ℕ) → Some text ≡ n → true ≡ changes reading w at text → if_changes reading w at n gives ≡ gives text
  changed n text is can = name_is n text is ∙ ap (λ b. if b then gives text else None) (sym can)

-- ---- the number that it is given

-- an operator that isn't arithmetic gives no number of two
none_combined : (o : BinaryOperator) (m n : ℤ) → combines o ≡ false → combined_of o m n ≡ None
none_combined binary_operator.Add m n no_arithmetic = absurd (true≢false no_arithmetic)
none_combined binary_operator.Subtract m n no_arithmetic = absurd (true≢false no_arithmetic)
none_combined binary_operator.Multiply m n no_arithmetic = absurd (true≢false no_arithmetic)
none_combined binary_operator.Remainder m n no_arithmetic = absurd (true≢false no_arithmetic)
none_combined _ m n no_arithmetic = refl

module _ {T : Type 0} (w : World T) (at : ℕ) (o : BinaryOperator) (e : Expr) (turns : ℕ) (text : List ℕ) where
  abbrev and_right : Left ℤ → ℤ → ℕ → Left ℤ
  and_right x m t = and_left x (λ n u. left_with (combined_of o m n) u)

  abbrev behind : Left ℤ → Left ℤ
  behind x = and_left x (λ m t. and_right (number_of w at e t) m t)

  -- the name has no number, or the expression none
  pub no_old : None ≡ number_of_name w at text turns → given_by w at (Some o) e turns text ≡ None
  no_old none = ap behind (sym none)

  with_old : (m : ℤ) (t : ℕ) → Some (m, t) ≡ number_of_name w at text turns → t ≡ turns → given_by w at (Some o) e turns text ≡ and_right (number_of w at e turns) m t
  with_old m t is left = ap behind (sym is) ∙ ap (λ k. and_right (number_of w at e k) m t) left

  pub no_operand : (m : ℤ) (t : ℕ) → Some (m, t) ≡ number_of_name w at text turns → t ≡ turns → None ≡ number_of w at e turns → given_by w at (Some o) e turns text ≡ None
  no_operand m t is left none = with_old m t is left ∙ ap (λ x. and_right x m t) (sym none)

  -- both have one
  pub both_given : (m n : ℤ) (t u : ℕ) → Some (m, t) ≡ number_of_name w at text turns → t ≡ turns → Some (n, u) ≡ number_of w at e turns → given_by w at (Some o) e turns text ≡ left_with (combined_of o m n) u
  both_given m n t u is left operand = with_old m t is left ∙ ap (λ x. and_right x m t) (sym operand)

  -- the operator is none of arithmetic
  none_right : (x : Left ℤ) (m : ℤ) (t : ℕ) → combines o ≡ false → and_right x m t ≡ None
  none_right None m t other_op = refl
  none_right (Some x) m t other_op = ap (λ y. left_with y x.1) (none_combined o m x.0 other_op)

  none_behind : (x : Left ℤ) → combines o ≡ false → behind x ≡ None
  none_behind None other_op = refl
  none_behind (Some x) other_op = none_right (number_of w at e x.1) x.0 x.1 other_op

  pub no_arithmetic : combines o ≡ false → given_by w at (Some o) e turns text ≡ None
  no_arithmetic other_op = none_behind (number_of_name w at text turns) other_op

module _ {T : Type 0} (w : World T) (at : ℕ) (o : BinaryOperator) (turns : ℕ) (text : List ℕ) where
  abbrev if_more : Left ℤ → Left ℤ
  if_more x = and_left x (λ m t. left_with (option_map (λ more. m) (combined_of o m (pos 1))) t)

  -- the name has no number, or there is none with one added or taken away
  pub none_counted : None ≡ number_of_name w at text turns → counted_by w at o turns text ≡ None
  none_counted none = ap if_more (sym none)

  pub no_more : (m : ℤ) (t : ℕ) → Some (m, t) ≡ number_of_name w at text turns → None ≡ combined_of o m (pos 1) → counted_by w at o turns text ≡ None
  no_more m t is none = ap if_more (sym is) ∙ ap (λ x. left_with (option_map (λ more. m) x) t) (sym none)

  pub one_counted : (m more : ℤ) (t : ℕ) → Some (m, t) ≡ number_of_name w at text turns → Some more ≡ combined_of o m (pos 1) → counted_by w at o turns text ≡ Some (m, t)
  one_counted m more t is there = ap if_more (sym is) ∙ ap (λ x. left_with (option_map (λ more. m) x) t) (sym there)

-- ---- a statement that is such an expression

module _ {T : Type 0} (reading : T → Label) (w : World T) (at : ℕ) where
  pub finished_as : (s : Statement) (e : Expr) (semi : Semi) (place turns : ℕ) → s ≡ trees.expression place e semi → (turns ≡ 0 → ⊥) → finished_at reading w at s turns ≡ option_map (λ x. x.1) (assigned_at reading w at e (turns - 1))
  finished_as s e semi place zero is some = absurd (some refl)
  finished_as s e semi place (suc n) is some =
      let same : n ≡ suc n - 1 = omega arith in
      ap (λ x. finished_at reading w at x (suc n)) is ∙ ap (λ k. option_map (λ (x : ℤ × ℕ). x.1) (assigned_at reading w at e k)) same
