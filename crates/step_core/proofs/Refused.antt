-- What is thrown where a function may not be declared: from the state in which a run starts no rule stops it.
use Rattle.std.proofs.Common.{refl, ap, sym, ◌≡◌, ◌∙◌, ℕ, Bool, true, false, length}
use Rattle.std.proofs.lemmas.Bool.{false≢true}
use Rattle.origin_labels.specs.Label.{bottom, union, within}
use Rattle.flow_frames.specs.Frames.{context}
use Rattle.flow_policy.specs.Policies.{Tables}
use Rattle.flow_policy.specs.Inputs.{Given}
use Rattle.js_ast.specs.Trees.{Statements}
use Rattle.es_meaning.specs.Outcomes.{Outcome, Goes, Jumps, Ends}
use Rattle.native_protocol.specs.declared.request.ErrorKind.TheVariants as kinds
use Rattle.es_meaning.specs.BuiltIns.{BuiltIns}
use Rattle.flow_meaning.specs.Scopes.{Val, State, Halt, guard, jump, jump_to}
use Rattle.flow_meaning.specs.Scopes.{Jump as Jumping}
use Rattle.flow_meaning.specs.Tracked.{start, throw_error}

abbrev Thrown : Type 0
Thrown = Outcome Halt Jumping Val State

is_jump : Thrown → Bool
is_jump (Jumps j s) = true
is_jump (Goes v s) = false
is_jump (Ends h s) = false

frames_of : Thrown → ℕ
frames_of (Jumps j s) = length s.frames
frames_of (Goes v s) = length s.frames
frames_of (Ends h s) = length s.frames

module _ (tables : Tables) (inputs : Given) (set : BuiltIns) (program : Statements) (turns : ℕ) where
  abbrev refused : Thrown
  refused = throw_error {X = Val} kinds.TypeError bottom (start tables inputs set program turns)

  jumps : is_jump refused ≡ true
  unfolding is_jump throw_error jump jump_to guard within union context
  jumps = refl

  alone : frames_of refused ≡ 1
  unfolding frames_of throw_error jump jump_to guard within union context
  alone = refl

  pub never_ends : (h : Halt) (s : State) → refused ≡ Ends h s → ⊥
  unfolding is_jump
  never_ends h s is = false≢true (sym (ap is_jump is) ∙ jumps)

  pub one_frame : (j : Jumping) (s : State) → refused ≡ Jumps j s → length s.frames ≡ 1
  unfolding frames_of
  one_frame j s is = sym (ap frames_of is) ∙ alone
