-- Two runs of one script on two inputs, and what of them is put.
use Rattle.std.specs.Prelude.{◌≡◌, ℕ, Bool, true, false, ◌&&◌, List, Option, Some, None}
use Rattle.origin_labels.specs.Label.{Label}
use Rattle.flow_io.specs.Sinks.{Appends, AppendsFront}
use Rattle.flow_policy.specs.Policies.{Tables}
use Rattle.flow_policy.specs.Inputs.{Given}
use Rattle.flow_policy.specs.Observed.{Agree, first_disagreement}
use Rattle.es_meaning.specs.Outcomes.{Ending, done, threw, halted}
use Rattle.flow_meaning.specs.Scopes.{Halt}
use Rattle.flow_meaning.specs.Tracked.{Run}
use Rattle.step_run.specs.declared.ending.Show.TheVariants as show
use Rattle.step_run.specs.Lines.{shown_bytes}
use Rattle.step_run.specs.Ran.{told_by, HasDeclared}
use Rattle.pair_runs.specs.declared.pairing.PairEnd.{PairEnd}
use Rattle.pair_runs.specs.declared.pairing.PairEnd.TheVariants as pair_end

-- a run is finished: it reached its end, or an exception left it
abbrev pub is_finished : Ending Halt → Bool
is_finished done = true
is_finished (threw shown) = true
is_finished (halted halt) = false

abbrev pub are_finished : Run → Run → Bool
are_finished first second = is_finished first.ending && is_finished second.ending

-- what an observer sees of a run, in bytes: the lines on the channels that it sees
abbrev pub seen_bytes : Label → Tables → Run → List ℕ
seen_bytes observer tables run = shown_bytes (show.Only observer) tables run.lines

-- the inputs agree and both runs are finished: what the observer sees of them is the same
pub record AreEqual (tables : Tables) (observer : Label) (given other : Given) (first second : Run) : Type 0 where
  pub agree : Agree observer tables given other
  pub finished : are_finished first second ≡ true
  pub same : seen_bytes observer tables first ≡ seen_bytes observer tables second

-- How a pair ends: with the first disagreement of the inputs, and nothing put; with both endings, of which one isn't a finished run's, and
-- nothing put; with the common view; with a front of that, where the sink failed; or with nothing put for want of memory.
abbrev pub Paired : Tables → Label → Given → Given → Run → Run → Option (List ℕ) → Option (List ℕ) → PairEnd → Type 0
Paired tables observer given other first second old new (pair_end.Disagree channel) = (first_disagreement observer tables given other ≡ Some channel) × (new ≡ old)
Paired tables observer given other first second old new (pair_end.Unfinished one two) = Agree observer tables given other × (are_finished first second ≡ false)
    × (told_by one ≡ Some first.ending) × (told_by two ≡ Some second.ending) × (new ≡ old)
Paired tables observer given other first second old new pair_end.Equal = AreEqual tables observer given other first second × Appends old new (seen_bytes observer tables first)
Paired tables observer given other first second old new pair_end.WriteFault = AreEqual tables observer given other first second × AppendsFront old new (seen_bytes observer tables first)
Paired tables observer given other first second old new pair_end.OutOfMemory = new ≡ old

abbrev pub is_write_fault : PairEnd → Bool
is_write_fault pair_end.WriteFault = true
is_write_fault _ = false

-- the origins of what endings tell are declared
abbrev pub HaveDeclared : ℕ → PairEnd → Type 0
HaveDeclared count (pair_end.Unfinished one two) = HasDeclared count one × HasDeclared count two
HaveDeclared count _ = Unit {0}
