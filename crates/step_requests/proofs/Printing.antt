-- What acts that print came to.
use Rattle.std.proofs.Common.{refl, sym, ap, subst, ◌∙◌, ◌≡◌, ◌<◌, ℕ, List, [], ◌∷◌, ◌++◌, map, None, Result, Ok, Err, IfOk}
use Rattle.std.specs.Result.{IsErrAnd}
use Rattle.origin_labels.specs.Label.{Label}
use Rattle.flow_policy.specs.Policies.{Tables}
use Rattle.flow_frames.specs.declared.faults.FlowFault.{FlowFault}
use Rattle.flow_frames.specs.declared.faults.FlowFault.TheVariants as fault
use Rattle.js_values.specs.Readings.{read_value}
use Rattle.native_protocol.specs.declared.request.Answer.TheVariants as answer
use Rattle.es_meaning.specs.BuiltIns.{steps_behind}
use Rattle.es_meaning.specs.Outcomes.{Goes}
use Rattle.flow_meaning.specs.Scopes.{LabelledLine, stopped}
use Rattle.channel_requests.specs.Answers.{HasPrinted, IfPrinted, line_of, lines_behind, read_printed}
use Rattle.channel_requests.specs.declared.printing.Printed.{Printed}
use Rattle.run_state.specs.declared.outcome.Outcome.{Outcome}
use Rattle.run_state.specs.declared.outcome.Outcome.TheVariants as outcomes
use Rattle.run_state.specs.Acts.{Says}
use Rattle.run_state.specs.Worlds.{state_of}
use Rattle.continuations.specs.declared.continuation.Control.{Control}
use Rattle.continuations.specs.Answering.{with_steps}
use Rattle.continuations.specs.Kept.{Kept}
use Rattle.continuations.specs.Moving.{following}
use Rattle.continuations.specs.Pending.{behind}
use Rattle.continuations.proofs.Handed.{behind_end}
use Rattle.step_requests.specs.declared.moved.Moved.{Moved}
use Rattle.step_requests.specs.declared.moved.Moved.TheVariants as moved
use Rattle.step_requests.specs.declared.handing_on.Went.TheVariants as went
use Rattle.step_requests.specs.Asked.{answered_to}
use Rattle.step_requests.specs.Doing.{Parts, Prints, SettlesPrinted}
use Rattle.step_requests.proofs.Going.{asks_on, over}
use Rattle.step_requests.proofs.Settled.{off_comes, part_on}

module _ {S T : Type 0} (made : S → T → Type 0) (meaning : S → T → Label) (store : S) where
  off_lines : (has : T → Type 0) (tables : Tables) (reading : T → Label) (told : List LabelledLine) (old new : Kept T) (reply : Result (Outcome (Printed T) T) (FlowFault T)) (move : Control) → Parts has old new reply (Ok (went.Off move)) → lines_behind tables reading told reply ≡ told
  off_lines has tables reading told old new (Ok (outcomes.Goes p)) move parts = absurd parts
  off_lines has tables reading told old new (Ok (outcomes.Throws v)) move parts = refl
  off_lines has tables reading told old new (Ok (outcomes.Leaves why)) move parts = refl
  off_lines has tables reading told old new (Err f) move parts = absurd parts

  pub prints_off : (has : T → Type 0) (old new : Kept T) (reply : Result (Outcome (Printed T) T) (FlowFault T)) (move : Control) → Parts has old new reply (Ok (went.Off move)) → SettlesPrinted made meaning store old new reply (Ok (moved.Ends move))
  prints_off has old new reply move parts = record {
    says = λ tables inputs set functions reading e steps w told turns outcome is size says.
        let then = answered_to None steps (map (read_value reading) old.loose) in
        let said = subst (λ ls. Says (read_printed reading) reading outcome (state_of reading w ls turns) reply) (off_lines has tables reading told old new reply move parts) says in
        off_comes made meaning store read_printed (λ ts gs s fs r st vs v. answered_to None st vs v) has tables inputs set functions reading e (state_of reading w told turns) outcome then old new reply move said parts
        ∙ over tables inputs set functions reading old e steps (following outcome then) size;
  }

  pub prints_on : (has : T → Type 0) (old new : Kept T) (reply : Result (Outcome (Printed T) T) (FlowFault T)) (p : Printed T) (n : ℕ) → Parts has old new reply (Ok (went.On p)) → SettlesPrinted made meaning store old new reply (Ok (moved.Prints n p))
  prints_on has old new reply p n parts = record {
    says = λ tables inputs set functions reading e steps w told turns outcome is size says.
        let part = part_on has old new reply p parts in
        let s = state_of reading w (told ++ line_of tables reading p ∷ []) turns in
        let vs = map (read_value reading) old.loose in
        let went : outcome ≡ Goes (read_printed reading p) s = subst (λ r. Says (read_printed reading) reading outcome (state_of reading w (lines_behind tables reading told r) turns) r) part.0 says in
        asks_on tables inputs set functions reading old new n e steps (steps_behind steps answer.Done) vs s (ap (λ (q : Kept T). q.tasks) part.1) (ap (λ (q : Kept T). map (read_value reading) q.loose) part.1) size
        ∙ ap (λ o. behind tables inputs set functions reading old.tasks (with_steps steps e) (following o (answered_to None steps vs))) (sym went);
  }

  prints_fault : (has : T → Type 0) (old between new : Kept T) (reply : Result (Outcome (Printed T) T) (FlowFault T)) (g : FlowFault T) → Parts has old between reply (Err g) → SettlesPrinted made meaning store old new reply (Err g)
  prints_fault has old between new (Ok x) g parts = subst (λ (h : FlowFault T). SettlesPrinted made meaning store old new (Ok x) (Err h)) (sym (failed x parts)) (record { says = λ tables inputs set functions reading e steps w told turns outcome is size says. tt })
    where
      failed : (x : Outcome (Printed T) T) → Parts has old between (Ok x) (Err g) → g ≡ fault.OutOfMemory
      failed (outcomes.Goes p) parts = parts
      failed (outcomes.Throws v) parts = parts
      failed (outcomes.Leaves why) parts = parts
  prints_fault has old between new (Err (fault.Stop stop)) g parts = subst (λ (h : FlowFault T). SettlesPrinted made meaning store old new (Err (fault.Stop stop)) (Err h)) (sym parts) (record {
    says = λ tables inputs set functions reading e steps w told turns outcome is size says.
        sym (behind_end tables inputs set functions reading old.tasks (with_steps steps e) (stopped stop.rule (reading stop.need) (reading stop.have)) (state_of reading w told turns))
        ∙ ap (λ o. behind tables inputs set functions reading old.tasks (with_steps steps e) (following o (answered_to None steps (map (read_value reading) old.loose)))) (sym says);
  })
  prints_fault has old between new (Err fault.OutOfMemory) g parts = subst (λ (h : FlowFault T). SettlesPrinted made meaning store old new (Err fault.OutOfMemory) (Err h)) (sym parts) (record { says = λ tables inputs set functions reading e steps w told turns outcome is size says. tt })

  pub prints_err : (has : T → Type 0) (old between new : Kept T) (reply : Result (Outcome (Printed T) T) (FlowFault T)) (g : FlowFault T) (result : Result (Moved T) (FlowFault T)) → Parts has old between reply (Err g) → IsErrAnd result (λ h. h ≡ g) → SettlesPrinted made meaning store old new reply result
  prints_err has old between new reply g (Ok m) parts is = absurd is
  prints_err has old between new reply g (Err h) parts is = subst (λ (i : FlowFault T). SettlesPrinted made meaning store old new reply (Err i)) (sym is) (prints_fault has old between new reply g parts)

-- the line that is handed out
pub line_printed : {T : Type 0} (made : T → Type 0) (channels : ℕ) (old new : Kept T) (has : T → Type 0) (reply : Result (Outcome (Printed T) T) (FlowFault T)) (p : Printed T) (n : ℕ) → Parts has old new reply (Ok (went.On p)) → HasPrinted made p → IfOk reply (IfPrinted (λ q. q.channel < channels)) → Prints made channels (moved.Prints n p)
line_printed made channels old new has reply p n parts labels lines = record { labels = labels; channel = subst (λ r. IfOk r (IfPrinted (λ q. q.channel < channels))) (part_on has old new reply p parts).0 lines }
