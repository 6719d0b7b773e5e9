-- Values that have to be of a kind, in a reading of the labels.
use Rattle.std.proofs.Common.{◌≡◌, Bool, true, false, [], ◌∷◌, Result, Ok, sym, ap}
use Rattle.origin_labels.specs.Label.{Label}
use Rattle.flow_frames.specs.declared.faults.FlowFault.{FlowFault}
use Rattle.js_values.specs.declared.value.Labelled.{Labelled}
use Rattle.js_values.specs.Readings.{read_value}
use Rattle.es_meaning.specs.Operations.{base_needed, object_needed}
use Rattle.es_meaning.specs.Operators.{is_object}
use Rattle.es_meaning.specs.Plain.{is_coercible}
use Rattle.native_protocol.specs.declared.request.ErrorKind.TheVariants as kinds
use Rattle.flow_meaning.specs.Scopes.{Val}
use Rattle.flow_policy.specs.Policies.{Tables}
use Rattle.flow_policy.specs.Inputs.{Given}
use Rattle.flow_meaning.specs.Tracked.{act, needed, throw_error}
use Rattle.run_state.specs.declared.outcome.Outcome.{Outcome}
use Rattle.run_state.specs.declared.outcome.Outcome.TheVariants as outcome
use Rattle.run_state.specs.declared.world.World.{World}
use Rattle.run_state.specs.Acts.{Acts}
use Rattle.run_state.specs.Worlds.{state_of}
use Rattle.run_state.proofs.ActLaws.{Acts-as}

module _ {S T : Type 0} (made : S → T → Type 0) (meaning : S → T → Label) (store : S) (w : World T) (v : Labelled T) (holds : Bool) where
  pub need_met : holds ≡ true → Acts made meaning store (λ reading. read_value reading) (λ reading. needed holds (read_value reading v)) w w (Ok (outcome.Goes v))
  unfolding needed
  need_met is = record { says = λ reading read told turns. ap (λ b. needed b (read_value reading v) (state_of reading w told turns)) is }

  module _ (after : World T) (result : Result (Outcome (Labelled T) T) (FlowFault T)) where
    pub need_failed : holds ≡ false → Acts made meaning store (λ reading. read_value reading) (λ reading. throw_error {X = Val} kinds.TypeError (reading v.label)) w after result
        → Acts made meaning store (λ reading. read_value reading) (λ reading. needed holds (read_value reading v)) w after result
    unfolding needed
    need_failed is acts =
        Acts-as made meaning store (λ reading. read_value reading) (λ reading. throw_error {X = Val} kinds.TypeError (reading v.label)) (λ reading. needed holds (read_value reading v)) w after result
        (λ reading read told turns. ap (λ b. needed b (read_value reading v) (state_of reading w told turns)) is)
        acts

    module _ (tables : Tables) (inputs : Given) where
      pub base_needs : holds ≡ is_coercible v.value → Acts made meaning store (λ reading. read_value reading) (λ reading. needed holds (read_value reading v)) w after result
          → Acts made meaning store (λ reading. read_value reading) (λ reading. act tables inputs base_needed (read_value reading v ∷ [])) w after result
      unfolding act
      base_needs is acts =
          Acts-as made meaning store (λ reading. read_value reading) (λ reading. needed holds (read_value reading v)) (λ reading. act tables inputs base_needed (read_value reading v ∷ [])) w after result
          (λ reading read told turns. ap (λ b. needed b (read_value reading v) (state_of reading w told turns)) (sym is))
          acts

      pub object_needs : holds ≡ is_object v.value → Acts made meaning store (λ reading. read_value reading) (λ reading. needed holds (read_value reading v)) w after result
          → Acts made meaning store (λ reading. read_value reading) (λ reading. act tables inputs object_needed (read_value reading v ∷ [])) w after result
      unfolding act
      object_needs is acts =
          Acts-as made meaning store (λ reading. read_value reading) (λ reading. needed holds (read_value reading v)) (λ reading. act tables inputs object_needed (read_value reading v ∷ [])) w after result
          (λ reading read told turns. ap (λ b. needed b (read_value reading v) (state_of reading w told turns)) (sym is))
          acts
