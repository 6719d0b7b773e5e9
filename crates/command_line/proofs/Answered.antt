-- From what the code finds to what it answers.
use Rattle.std.proofs.Common.{◌≡◌, ◌∙◌, ⊎_elim, Bool, true, false, sym, ap, subst, List, [], Option, Result, Ok, Err, true≢false, String, Global}
use Rattle.clap.specs.Values.{kind_of}
use Rattle.clap.specs.Kinds.{HasKind, IsAmong}
use Rattle.clap.specs.Simple.{App, HasMatchesOf, is_simple, subcommand_of, subcommand_rows_of}
use Rattle.clap.specs.Faults.{fault_of, is_simple_and_free}
use Rattle.clap.specs.declared.error.Error.{Error}
use Rattle.clap.specs.declared.error.kind.ErrorKind.TheVariants as kind
use Rattle.clap.specs.declared.parser.matches.ArgMatches.{ArgMatches}
use Rattle.clap.proofs.WalkLemmas.{both}
use Rattle.command_line.specs.Arguments.{line_app}
use Rattle.command_line.specs.Commands.{Word, command_of}
use Rattle.command_line.specs.Reading.{Parses, Reads, command_at, seen, texts_of}
use Rattle.command_line.specs.declared.commands.WordsFault.{WordsFault}
use Rattle.command_line.specs.declared.commands.WordsFault.TheVariants.{Usage, OutOfMemory}
use Rattle.command_line.proofs.Built.{line_simple}
use Rattle.command_line.proofs.Lines.{agrees, are_texts}

-- a result is told by what is equal
pub told_as : {X Y : Type 0} (f : X → Y) (r : Result X WordsFault) (a b : Option Y) → a ≡ b → Reads f r a → Reads f r b
told_as f r a b e h = subst (Reads f r) e h

-- ---- the parse

pub parse_ok : (app : App) (words : List Word) (m : ArgMatches) → app ≡ line_app → (is_simple_and_free app ≡ true → fault_of app words ≡ []) → HasMatchesOf app words m → Parses words (Ok m)
parse_ok app words m is kinds matches =
    let free : is_simple_and_free app ≡ true = ap is_simple_and_free is ∙ line_simple in
    let simple : is_simple app ≡ true = (both (is_simple app) _ free).0 in
    (sym (ap (λ a. fault_of a words) is) ∙ kinds free, (matches simple).1 ∙ ap (λ a. subcommand_of a words) is)

abbrev is_usage : WordsFault → Bool
is_usage Usage = true
is_usage OutOfMemory = false

pub parse_err : (app : App) (words : List Word) (e : Error) (fault : WordsFault) → app ≡ line_app → (is_simple_and_free app ≡ true → HasKind (fault_of app words) e)
    → (kind_of e ≡ kind.OutOfMemory → fault ≡ OutOfMemory) → Parses words (Err fault)
parse_err app words e OutOfMemory is kinds memory = tt
parse_err app words e Usage is kinds memory = λ none.
    let free : is_simple_and_free app ≡ true = ap is_simple_and_free is ∙ line_simple in
    let empty : fault_of app words ≡ [] = ap (λ a. fault_of a words) is ∙ none in
    ⊎_elim (λ h. true≢false (ap is_usage (memory h))) (λ among. subst (IsAmong (kind_of e)) empty among) (kinds free)

-- ---- all words

pub read_ok : (words : List (String Global)) (m : ArgMatches) → Parses (texts_of words) (Ok m) → command_at (subcommand_rows_of m) ≡ command_of (texts_of words)
read_ok words m p = ap command_at p.1 ∙ (agrees (texts_of words) (are_texts words)).0 p.0

pub read_err : (words : List (String Global)) (fault : WordsFault) → Parses (texts_of words) (Err fault) → Reads seen (Err fault) (command_of (texts_of words))
read_err words Usage p = (agrees (texts_of words) (are_texts words)).1 p
read_err words OutOfMemory p = tt
