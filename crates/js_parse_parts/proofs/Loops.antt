-- The loops of the parser on lists, a turn at a time, as the loops of the code have them: `total` is what the whole loop gives.
use Rattle.std.proofs.Common.{◌≡◌, ◌<◌, List, length, Ok, refl, sym, ◌∙◌}
use Rattle.js_ast.specs.declared.token.Token.{Token}
use Rattle.js_list_parser.specs.Reading.{Read, Turn, again, done, loop}
use Rattle.js_list_parser.proofs.Turns.{TurnWithin, loop-step}
use Rattle.js_parse_parts.specs.declared.reading.ReadFault.{ReadFault}
use Rattle.js_parse_parts.specs.declared.reading.ReadFault.TheVariants.{Refused, OutOfMemory}
use Rattle.js_parse_parts.specs.Answers.{Fails}

-- each turn that goes on takes a token, and none adds one
abbrev pub Shrinks : {S A : Type 0} → (S → List Token → Read (Turn S A)) → Type 0
Shrinks {S = S} step = (s : S) (ts : List Token) → TurnWithin (length ts) (step s ts)

module _ {S A : Type 0} (step : S → List Token → Read (Turn S A)) (each : Shrinks step) (s : S) (ts : List Token) where
  -- a turn goes on
  pub loop_on : (t : S) (z : List Token) (total : Read A) → step s ts ≡ Ok (again t, z) → loop step s ts ≡ total → loop step t z ≡ total
  loop_on t z total h so_far = sym (loop-step step each s ts ∙ rw h refl) ∙ so_far

  -- a turn is done
  pub loop_done : (a : A) (z : List Token) (total : Read A) → step s ts ≡ Ok (done a, z) → loop step s ts ≡ total → total ≡ Ok (a, z)
  loop_done a z total h so_far = sym so_far ∙ loop-step step each s ts ∙ rw h refl

  -- a turn fails
  pub loop_fails : (e : ReadFault) (total : Read A) → Fails e (step s ts) → loop step s ts ≡ total → Fails e total
  loop_fails OutOfMemory total h so_far = tt
  loop_fails (Refused f rest) total h so_far = sym so_far ∙ loop-step step each s ts ∙ rw h refl

  -- a turn that goes on shrinks
  pub loop_shrinks : (t : S) (z : List Token) → step s ts ≡ Ok (again t, z) → length z < length ts
  loop_shrinks t z h = rw h at (each s ts)
