-- What a directive says, as the code holds it, and what it means that a call raises a frame.
use Rattle.std.specs.Prelude.{◌≡◌, ℕ, ◌==◌, Bool, List, [], ◌∷◌, Option, Some, None, Result, Ok, Err}
use Rattle.std.specs.List.{slice_split}
use Rattle.std.specs.Option.{option_map}
use Rattle.origin_labels.specs.Label.{Label}
use Rattle.flow_frames.specs.declared.faults.FlowFault.{FlowFault}
use Rattle.flow_frames.specs.declared.faults.FlowFault.TheVariants as fault
use Rattle.flow_lists.specs.Lists.{names_in}
use Rattle.es_meaning.specs.Directives.{Upgrade}
use Rattle.es_meaning.specs.Environments.{Leaving, thrown, returned, left_by}
use Rattle.es_meaning.specs.Outcomes.{Outcome, Goes, Ends}
use Rattle.flow_meaning.specs.Scopes.{State, Halt, Jump, stopped}
use Rattle.step_jumps.specs.declared.directives.Spoken.{Spoken}
use Rattle.step_jumps.specs.declared.directives.Spoken.TheVariants as spoken
use Rattle.step_jumps.specs.declared.directives.Directive.{Directive}
use Rattle.step_jumps.specs.declared.directives.Words.{Words}

-- the jump of which a directive speaks
abbrev pub leaving_by : Spoken → Leaving
leaving_by spoken.Thrown = thrown
leaving_by spoken.Returned = returned
leaving_by (spoken.Left turn label) = left_by turn (option_map (λ text. text.now) label)

abbrev pub upgrade_held : Directive → Upgrade
upgrade_held d = record { leaving = leaving_by d.leaving; names = names_in d.list.now }

-- the words of a directive: what is raised, a label or none, and the list of origins
abbrev pub is_space : ℕ → Bool
is_space unit = unit == 32

unfoldable pub words_of : List ℕ → List (List ℕ)
words_of units = slice_split is_space units

abbrev pub parts_of : List (List ℕ) → Option (List ℕ × (Option (List ℕ) × List ℕ))
parts_of (flow ∷ what ∷ list ∷ []) = Some (what, (None, list))
parts_of (flow ∷ what ∷ label ∷ list ∷ []) = Some (what, (Some label, list))
parts_of _ = None

abbrev pub parts_held : Words → List ℕ × (Option (List ℕ) × List ℕ)
parts_held w = (w.what.now, (option_map (λ label. label.now) w.label, w.list.now))

-- what an answer says of an outcome: the frame is raised, or a rule stops the run. Want of memory says nothing
abbrev pub SaysRaised : {X T : Type 0} → (T → Label) → Outcome Halt Jump (Unit {0}) State → State → Result X (FlowFault T) → Type 0
SaysRaised reading outcome s (Ok x) = outcome ≡ Goes tt s
SaysRaised reading outcome s (Err (fault.Stop stop)) = outcome ≡ Ends (stopped stop.rule (reading stop.need) (reading stop.have)) s
SaysRaised reading outcome s (Err fault.OutOfMemory) = Unit {0}
