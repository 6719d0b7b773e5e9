-- What the code reads of the rows that `clap` found, and what it answers, without where that lies in memory.
use Rattle.std.specs.Prelude.{◌≡◌, ⊤, ℕ, List, [], map, Option, Some, None, Result, Ok, Err, codes, option_map, if◌then◌else◌}
use Rattle.std.specs.Borrow.{Bor}
use Rattle.std.specs.Str.{bytes_eq}
use Rattle.std.specs.Global.{Global}
use Rattle.std.specs.String.{string_bytes}
use Rattle.std.specs.declared.string.String.{String}
use Rattle.clap.specs.Walk.{Row, first_of}
use Rattle.clap.specs.Simple.{subcommand_of, subcommand_rows_of}
use Rattle.clap.specs.Faults.{fault_of}
use Rattle.clap.specs.declared.parser.matches.ArgMatches.{ArgMatches}
use Rattle.flow_lists.specs.Lists.{are_names}
use Rattle.command_line.specs.Arguments.{line_app}
use Rattle.command_line.specs.Commands.{Word, RunWords, PairWords, Command, run, check, pair, make, trial, number_to, most_turns, default_turns, check_of, made_number, numbered}
use Rattle.command_line.specs.declared.commands.RunWords as run_words
use Rattle.command_line.specs.declared.commands.PairWords as pair_words
use Rattle.command_line.specs.declared.commands.Command as commands
use Rattle.command_line.specs.declared.commands.Command.TheVariants as command
use Rattle.command_line.specs.declared.commands.WordsFault.{WordsFault}
use Rattle.command_line.specs.declared.commands.WordsFault.TheVariants.{Usage, OutOfMemory}

-- ---- rows

-- the turns that an option's value states
abbrev pub turns_by : Option Word → Option ℕ
turns_by None = Some default_turns
turns_by (Some word) = number_to most_turns word

abbrev pub observer_by : Option Word → Option (Option Word)
observer_by None = Some None
observer_by (Some list) = if are_names list then Some (Some list) else None

abbrev pub run_by : Option Word → Option Word → Option Word → Option ℕ → Option (Option Word) → Option RunWords
run_by (Some script) (Some policy) (Some input) (Some turns) (Some observer) =
    Some (record { script = script; policy = policy; input = input; turns = turns; observer = observer })
run_by _ _ _ _ _ = None

abbrev pub pair_by : Option Word → Option Word → Option Word → Option Word → Option Word → Option ℕ → Option PairWords
pair_by (Some script) (Some policy) (Some first) (Some second) (Some observer) (Some turns) = if are_names observer
    then Some (record { script = script; policy = policy; first = first; second = second; observer = observer; turns = turns }) else None
pair_by _ _ _ _ _ _ = None

unfoldable pub run_read : List Row → Option RunWords
run_read rows = run_by (first_of (codes "script") rows) (first_of (codes "policy") rows) (first_of (codes "input") rows) (turns_by (first_of (codes "turns") rows))
    (observer_by (first_of (codes "observer") rows))

unfoldable pub pair_read : List Row → Option PairWords
pair_read rows = pair_by (first_of (codes "script") rows) (first_of (codes "policy") rows) (first_of (codes "first") rows) (first_of (codes "second") rows)
    (first_of (codes "view") rows) (turns_by (first_of (codes "turns") rows))

unfoldable pub number_read : List Row → Option ℕ
number_read rows = made_number (first_of (codes "word") rows)

-- the command of a command word with the rows behind it
unfoldable pub command_read : Word → List Row → Option Command
command_read name rows = if bytes_eq name (codes "run") then option_map run (run_read rows)
    else (if bytes_eq name (codes "check") then check_of (first_of (codes "word") rows)
    else (if bytes_eq name (codes "pair") then option_map pair (pair_read rows)
    else (if bytes_eq name (codes "make") then numbered make (number_read rows)
    else (if bytes_eq name (codes "trial") then numbered trial (number_read rows) else None))))

abbrev pub command_at : Option (Word × List Row) → Option Command
command_at None = None
command_at (Some p) = command_read p.0 p.1

-- ---- what the code answers

-- the words of a command line
abbrev pub texts_of : List (String Global) → List Word
texts_of words = map (λ w. string_bytes w) words

abbrev pub word_seen : Option (Bor Word) → Option Word
word_seen = option_map (λ w. w.now)

abbrev pub run_seen : run_words.RunWords → RunWords
run_seen words = record { script = words.script.now; policy = words.policy.now; input = words.input.now; turns = words.turns; observer = word_seen words.observer }

abbrev pub pair_seen : pair_words.PairWords → PairWords
pair_seen words = record {
  script = words.script.now;
  policy = words.policy.now;
  first = words.first.now;
  second = words.second.now;
  observer = words.observer.now;
  turns = words.turns;
}

abbrev pub seen : commands.Command → Command
seen (command.Run words) = run (run_seen words)
seen (command.Check script) = check script.now
seen (command.Pair words) = pair (pair_seen words)
seen (command.Make number) = make number
seen (command.Trial number) = trial number

-- the result is what was told, where there was memory
abbrev pub Reads : {X Y : Type 0} → (X → Y) → Result X WordsFault → Option Y → Type 0
Reads view (Ok x) told = told ≡ Some (view x)
Reads view (Err Usage) told = told ≡ None
Reads view (Err OutOfMemory) told = ⊤

-- `clap` found the words to be without fault, or with one
abbrev pub Parses : List Word → Result ArgMatches WordsFault → Type 0
Parses words (Ok m) = (fault_of line_app words ≡ []) × (subcommand_rows_of m ≡ subcommand_of line_app words)
Parses words (Err Usage) = fault_of line_app words ≡ [] → ⊥
Parses words (Err OutOfMemory) = ⊤
