-- How the end of a pair is told.
use Rattle.std.specs.Prelude.{◌≡◌, ℕ, ◌<◌, List, Option, IfSome, length, codes}
use Rattle.flow_policy.specs.Policies.{Tables}
use Rattle.step_run.specs.Ran.{told_by}
use Rattle.pair_runs.specs.declared.pairing.PairEnd.{PairEnd}
use Rattle.pair_runs.specs.declared.pairing.PairEnd.TheVariants as pair_end
use Rattle.js_shell.specs.declared.status.Status.{Status}
use Rattle.js_shell.specs.declared.status.Status.TheVariants as status
use Rattle.js_shell.specs.Answering.{Puts}
use Rattle.js_shell.specs.Replies.{Reply, unfinished_report, differ_report}

-- the channel on which inputs differ is one of the policy's
abbrev pub IsChannelOf : Tables → PairEnd → Type 0
IsChannelOf tables (pair_end.Disagree channel) = channel < length tables.inputs
IsChannelOf tables _ = Unit {0}

abbrev pub equal_reply : Reply
equal_reply = record { bytes = codes "! equal\n"; status = status.Done }

-- what is put behind what a pair put
abbrev pub PutsEnd : Tables → PairEnd → Status → Option (List ℕ) → Option (List ℕ) → Type 0
PutsEnd tables pair_end.Equal result old new = Puts equal_reply result old new
PutsEnd tables (pair_end.Unfinished first second) result old new = IfSome (told_by first) (λ one. IfSome (told_by second) (λ two.
    Puts (record { bytes = unfinished_report tables one two; status = status.Unfinished }) result old new))
PutsEnd tables (pair_end.Disagree channel) result old new = Puts (record { bytes = differ_report tables channel; status = status.Policy }) result old new
PutsEnd tables pair_end.WriteFault result old new = (result ≡ status.WriteFault) × (new ≡ old)
PutsEnd tables pair_end.OutOfMemory result old new = (result ≡ status.OutOfMemory) × (new ≡ old)
