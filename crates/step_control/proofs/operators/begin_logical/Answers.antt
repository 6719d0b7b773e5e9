use Rattle.std.proofs.Common.{refl, ◌≡◌, false}
use Rattle.js_ast.specs.declared.operators.BinaryOperator.{BinaryOperator}
use Rattle.js_ast.specs.declared.operators.BinaryOperator.TheVariants as operator
use Rattle.continuations.specs.Shapes.{evaluates_both}
use Rattle.step_control.proofs.operators.begin_logical.Goals as goal

-- no other operator evaluates one operand
no_other : (o : BinaryOperator) → evaluates_both o ≡ false → (o ≡ operator.And → ⊥) → (o ≡ operator.Or → ⊥) → (o ≡ operator.Instanceof → ⊥) → ⊥
no_other operator.And e no_and no_or no_instance = no_and refl
no_other operator.Or e no_and no_or no_instance = no_or refl
no_other operator.Instanceof e no_and no_or no_instance = no_instance refl
no_other _ e no_and no_or no_instance = absurd (cc e)

pub unreachable-requires : goal.unreachable-requires
unreachable-requires g c = no_other c.args.operator c.requires.one c.in_default.not-And c.in_default.not-Or c.in_default.not-Instanceof
