-- From what a part refuses to what is refused of the bytes of a source.
use Rattle.std.proofs.Common.{◌≡◌, ℕ, List, Ok, Err, ap}
use Rattle.flow_text.specs.declared.places.Place.{Place}
use Rattle.js_ast.specs.declared.token.Token.{Token}
use Rattle.js_ast.specs.Trees.{Statements}
use Rattle.js_parse.specs.Programs.{IsProgram}
use Rattle.run_files.specs.declared.refusals.SourceKind.{SourceKind}
use Rattle.run_files.specs.declared.refusals.Refusal.{Refusal}
use Rattle.run_files.specs.declared.refusals.Refusal.TheVariants as refusal
use Rattle.run_files.specs.Sources.{SourceFault, bad_source, source_text, HasTokens, RefusesProgram, has_no_text, has_no_tokens, is_no_program, has_early_error}
use Rattle.run_files.specs.Accepting.{IsBadText, AreBadTokens, IsBadProgram, TakesText, TakesTokens, TakesTree, TakesEarly, Takes}

module _ {X : Type 0} (bytes : List ℕ) (Is : X → Type 0) where
  pub text_refused : (r : Refusal) → TakesText bytes (Err r) → Takes Is (RefusesProgram bytes) (Err r)
  text_refused refusal.LongSource p = absurd p
  text_refused (refusal.SourceUtf8 at) p = has_no_text p
  text_refused (refusal.BadSource k place) p = absurd p
  text_refused refusal.LongPolicy p = absurd p
  text_refused (refusal.BadPolicy line k) p = absurd p
  text_refused (refusal.UnknownObserver name) p = absurd p
  text_refused (refusal.LongInput input) p = absurd p
  text_refused (refusal.BadInput input line k) p = absurd p
  text_refused refusal.ReadFault p = absurd p
  text_refused refusal.OutOfMemory p = tt

  module _ (text : List ℕ) (decoded : source_text bytes ≡ Ok text) where
    bad_text : (k : SourceKind) (place : Place) → IsBadText text k place → RefusesProgram bytes (bad_source k place)
    bad_text k place p = has_no_tokens text p.0 k decoded p.1 p.2 (ap (bad_source k) p.3)

    pub tokens_refused : (r : Refusal) → TakesTokens text (Err r) → Takes Is (RefusesProgram bytes) (Err r)
    tokens_refused refusal.LongSource p = absurd p
    tokens_refused (refusal.SourceUtf8 at) p = absurd p
    tokens_refused (refusal.BadSource k place) p = bad_text k place p
    tokens_refused refusal.LongPolicy p = absurd p
    tokens_refused (refusal.BadPolicy line k) p = absurd p
    tokens_refused (refusal.UnknownObserver name) p = absurd p
    tokens_refused (refusal.LongInput input) p = absurd p
    tokens_refused (refusal.BadInput input line k) p = absurd p
    tokens_refused refusal.ReadFault p = absurd p
    tokens_refused refusal.OutOfMemory p = tt

  module _ (tokens : List Token) (has : HasTokens bytes tokens) where
    bad_tokens : (k : SourceKind) (place : Place) → AreBadTokens has.text tokens k place → RefusesProgram bytes (bad_source k place)
    bad_tokens k place p = is_no_program tokens has p.0 k p.1 p.2 (ap (bad_source k) p.3)

    pub tree_refused : (r : Refusal) → TakesTree has.text tokens (Err r) → Takes Is (RefusesProgram bytes) (Err r)
    tree_refused refusal.LongSource p = absurd p
    tree_refused (refusal.SourceUtf8 at) p = absurd p
    tree_refused (refusal.BadSource k place) p = bad_tokens k place p
    tree_refused refusal.LongPolicy p = absurd p
    tree_refused (refusal.BadPolicy line k) p = absurd p
    tree_refused (refusal.UnknownObserver name) p = absurd p
    tree_refused (refusal.LongInput input) p = absurd p
    tree_refused (refusal.BadInput input line k) p = absurd p
    tree_refused refusal.ReadFault p = absurd p
    tree_refused refusal.OutOfMemory p = tt

    module _ (program : Statements) (parsed : IsProgram tokens program) where
      bad_program : (k : SourceKind) (place : Place) → IsBadProgram has.text program k place → RefusesProgram bytes (bad_source k place)
      bad_program k place p = has_early_error tokens has program p.0 parsed p.1 (λ i. bad_source (p.2 i) (p.3 i))

      pub early_refused : (r : Refusal) → TakesEarly has.text program (Err r) → Takes Is (RefusesProgram bytes) (Err r)
      early_refused refusal.LongSource p = absurd p
      early_refused (refusal.SourceUtf8 at) p = absurd p
      early_refused (refusal.BadSource k place) p = bad_program k place p
      early_refused refusal.LongPolicy p = absurd p
      early_refused (refusal.BadPolicy line k) p = absurd p
      early_refused (refusal.UnknownObserver name) p = absurd p
      early_refused (refusal.LongInput input) p = absurd p
      early_refused (refusal.BadInput input line k) p = absurd p
      early_refused refusal.ReadFault p = absurd p
      early_refused refusal.OutOfMemory p = absurd p

-- what isn't a program is refused for the same fault where something else is wanted
module _ {X Y : Type 0} (Is : X → Type 0) (Wanted : Y → Type 0) (Refuses Others : SourceFault → Type 0) (more : (fault : SourceFault) → Refuses fault → Others fault) where
  pub refused_too : (r : Refusal) → Takes Is Refuses (Err r) → Takes Wanted Others (Err r)
  refused_too refusal.LongSource p = absurd p
  refused_too (refusal.SourceUtf8 at) p = more _ p
  refused_too (refusal.BadSource k place) p = more _ p
  refused_too refusal.LongPolicy p = absurd p
  refused_too (refusal.BadPolicy line k) p = absurd p
  refused_too (refusal.UnknownObserver name) p = absurd p
  refused_too (refusal.LongInput input) p = absurd p
  refused_too (refusal.BadInput input line k) p = absurd p
  refused_too refusal.ReadFault p = absurd p
  refused_too refusal.OutOfMemory p = tt
