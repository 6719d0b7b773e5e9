-- What follows for a pair of what its two runs promise.
use Rattle.std.proofs.Common.{◌≡◌, ℕ, Bool, true, false, List, map, Option, Some, None, Result, Ok, Err, refl, sym, ap, ap₂, subst, ◌∙◌}
use Rattle.std.specs.Prelude.{◌&&◌, ◌↔◌, is_some, if◌then◌else◌}
use Rattle.std.proofs.lemmas.Bool.{and_parts, false≢true}
use Rattle.origin_labels.specs.Label.{Label}
use Rattle.flow_io.specs.Files.{Rose}
use Rattle.flow_io.specs.Sinks.{Appends, AppendsFront}
use Rattle.flow_policy.specs.Policies.{Tables}
use Rattle.flow_policy.specs.Inputs.{Given}
use Rattle.flow_policy.specs.Observed.{Agree}
use Rattle.js_ast.specs.Trees.{Statements}
use Rattle.es_meaning.specs.BuiltIns.{BuiltIns}
use Rattle.es_meaning.specs.Outcomes.{Ending, done, threw, halted}
use Rattle.flow_meaning.specs.Scopes.{Halt, LabelledLine}
use Rattle.flow_meaning.specs.Tracked.{Run, tracked_run}
use Rattle.flow_meaning.specs.Written.{lines_bytes}
use Rattle.low_equal.specs.Laws.{IsFinishedBy}
use Rattle.low_equal.specs.Observed.{seen_lines}
use Rattle.step_run.specs.declared.ending.Ending as code
use Rattle.step_run.specs.declared.ending.Ending.TheVariants as ending
use Rattle.step_run.specs.declared.ending.Show.{Show}
use Rattle.step_run.specs.declared.ending.Show.TheVariants as show
use Rattle.step_run.specs.Lines.{shown_bytes}
use Rattle.step_run.specs.Ran.{HasDeclared, IsFinished, Isolates, Ran, told_by}
use Rattle.pair_runs.specs.declared.pairing.PairEnd.{PairEnd}
use Rattle.pair_runs.specs.declared.pairing.PairEnd.TheVariants as pair_end
use Rattle.pair_runs.specs.Pairs.{AreEqual, HaveDeclared, Paired, are_finished, is_finished, is_write_fault, seen_bytes}
use Rattle.pair_runs.specs.Compared.{are_told, both_finished, compared, known_finished}

-- a run that came to an end of its own ends so, and its shown lines were appended
ran_told : (tables : Tables) (which : Show) (run : Run) (old new : Option (List ℕ)) (result : code.Ending) → is_some (told_by result) ≡ true → Ran tables which run old new result
    → (told_by result ≡ Some run.ending) × Appends old new (shown_bytes which tables run.lines)
ran_told tables which run old new ending.Done told ran = ran
ran_told tables which run old new (ending.Threw text) told ran = ran
ran_told tables which run old new (ending.Stopped rule need have) told ran = ran
ran_told tables which run old new (ending.Left why) told ran = ran
ran_told tables which run old new ending.OutOfTurns told ran = ran
ran_told tables which run old new ending.WriteFault told ran = absurd (false≢true told)
ran_told tables which run old new ending.OutOfMemory told ran = absurd (false≢true told)

finished_in_code : (result : code.Ending) → known_finished (told_by result) ≡ true → IsFinished result
finished_in_code ending.Done finished = tt
finished_in_code (ending.Threw text) finished = tt
finished_in_code (ending.Stopped rule need have) finished = absurd (false≢true finished)
finished_in_code (ending.Left why) finished = absurd (false≢true finished)
finished_in_code ending.OutOfTurns finished = absurd (false≢true finished)
finished_in_code ending.WriteFault finished = absurd (false≢true finished)
finished_in_code ending.OutOfMemory finished = absurd (false≢true finished)

finished_in_meaning : (e : Ending Halt) → is_finished e ≡ true → IsFinishedBy e
finished_in_meaning done finished = tt
finished_in_meaning (threw text) finished = tt
finished_in_meaning (halted halt) finished = absurd (false≢true finished)

-- ---- what a comparison says

-- the answer for runs that are told, or not, and finished, or not
abbrev answer : Bool → Bool → PairEnd → Result (Unit {0}) PairEnd
answer told finished unfinished = if told then (if finished then Ok tt else Err unfinished) else Err pair_end.OutOfMemory

no_error : (e : PairEnd) (z : Unit {0}) → Err e ≡ Ok z → ⊥
no_error e z is = cc

abbrev error_of : Result (Unit {0}) PairEnd → PairEnd
error_of (Ok z) = pair_end.OutOfMemory
error_of (Err e) = e

-- both runs are finished
compared_ok : (one two : code.Ending) (z : Unit {0}) → compared one two ≡ Ok z → (are_told one two ≡ true) × (both_finished one two ≡ true)
unfolding compared
compared_ok one two z is = by_cases (are_told one two) (both_finished one two) (pair_end.Unfinished one two) is
  where
    by_cases : (told finished : Bool) (end : PairEnd) → answer told finished end ≡ Ok z → (told ≡ true) × (finished ≡ true)
    by_cases true true end is = (refl, refl)
    by_cases true false end is = absurd (no_error end z is)
    by_cases false finished end is = absurd (no_error pair_end.OutOfMemory z is)

-- how a pair ends without a view
data Ends (one two : code.Ending) : PairEnd → Type 0 where
  unfinished : are_told one two ≡ true → both_finished one two ≡ false → Ends one two (pair_end.Unfinished one two)
  out_of_memory : Ends one two pair_end.OutOfMemory

compared_err : (one two : code.Ending) (end : PairEnd) → compared one two ≡ Err end → Ends one two end
unfolding compared
compared_err one two end is = by_cases (are_told one two) (both_finished one two) refl refl is
  where
    by_cases : (told finished : Bool) → are_told one two ≡ told → both_finished one two ≡ finished → answer told finished (pair_end.Unfinished one two) ≡ Err end → Ends one two end
    by_cases true true a b is = absurd (no_error end tt (sym is))
    by_cases true false a b is = subst (Ends one two) (ap error_of is) (unfinished a b)
    by_cases false finished a b is = subst (Ends one two) (ap error_of is) out_of_memory

pub compared_no_fault : (one two : code.Ending) (end : PairEnd) → compared one two ≡ Err end → is_write_fault end ≡ false
compared_no_fault one two end is = of_end end (compared_err one two end is)
  where
    of_end : (end : PairEnd) → Ends one two end → is_write_fault end ≡ false
    of_end _ (unfinished told finished) = refl
    of_end _ out_of_memory = refl

pub compared_declared : (count : ℕ) (one two : code.Ending) (end : PairEnd) → HasDeclared count one → HasDeclared count two → compared one two ≡ Err end → HaveDeclared count end
compared_declared count one two end first second is = of_end end (compared_err one two end is)
  where
    of_end : (end : PairEnd) → Ends one two end → HaveDeclared count end
    of_end _ (unfinished told finished) = (first, second)
    of_end _ out_of_memory = tt

-- ---- a pair

module _ (tables : Tables) (observer : Label) (given other : Given) (first second : Run) (old new behind after : Option (List ℕ)) (one two : code.Ending) where
  -- how it ends without a view, with nothing put
  pub pair_ends : (end : PairEnd) → Ran tables (show.Only observer) first old new one → Ran tables (show.Only observer) second behind after two → Agree observer tables given other → compared one two ≡ Err end → (taken : Option (List ℕ)) → Paired tables observer given other first second taken taken end
  pair_ends end ran_first ran_second agree is taken = of_end end (compared_err one two end is)
    where
      of_end : (end : PairEnd) → Ends one two end → Paired tables observer given other first second taken taken end
      of_end _ (unfinished told finished) =
          let each = and_parts (is_some (told_by one)) (is_some (told_by two)) told in
          let first_told = (ran_told tables (show.Only observer) first old new one each.0 ran_first).0 in
          let second_told = (ran_told tables (show.Only observer) second behind after two each.1 ran_second).0 in
          (agree, sym (ap₂ (λ x y. known_finished x && known_finished y) first_told second_told) ∙ finished, first_told, second_told, refl)
      of_end _ out_of_memory = refl

  -- what the first run showed is what came behind what was taken
  pub pair_view : (z : Unit {0}) → Ran tables (show.Only observer) first old new one → compared one two ≡ Ok z → Appends old new (seen_bytes observer tables first)
  pair_view z ran_first is =
      let told = and_parts (is_some (told_by one)) (is_some (told_by two)) (compared_ok one two z is).0 in
      (ran_told tables (show.Only observer) first old new one told.0 ran_first).1

  -- the two views are equal, since the lines are
  pub pair_equal : (z : Unit {0}) → Ran tables (show.Only observer) first old new one → Ran tables (show.Only observer) second behind after two → Agree observer tables given other → compared one two ≡ Ok z
      → (IsFinished one → IsFinishedBy second.ending → seen_lines observer tables first.lines ≡ seen_lines observer tables second.lines)
      → AreEqual tables observer given other first second
  pair_equal z ran_first ran_second agree is isolated =
      let both = compared_ok one two z is in
      let told = and_parts (is_some (told_by one)) (is_some (told_by two)) both.0 in
      let finished = and_parts (known_finished (told_by one)) (known_finished (told_by two)) both.1 in
      let first_told = (ran_told tables (show.Only observer) first old new one told.0 ran_first).0 in
      let second_told = (ran_told tables (show.Only observer) second behind after two told.1 ran_second).0 in
      let second_finished : is_finished second.ending ≡ true = sym (ap known_finished second_told) ∙ finished.1 in
      record {
        agree = agree;
        finished = sym (ap₂ (λ x y. known_finished x && known_finished y) first_told second_told) ∙ both.1;
        same = ap (λ (lines : List LabelledLine). lines_bytes (map (λ l. l.line) lines)) (isolated (finished_in_code one finished.0) (finished_in_meaning second.ending second_finished));
      }

-- ---- what is put

module _ (tables : Tables) (observer : Label) (given other : Given) where
  -- inputs agree where no disagreement is found
  pub found_agreed : (found : Option ℕ) → ((found ≡ None) ↔ Agree observer tables given other) → found ≡ None → Agree observer tables given other
  found_agreed found law none = law.0 none

  module _ (first second : Run) (old new : Option (List ℕ)) (piece view : List ℕ) where
    pub view_put : AreEqual tables observer given other first second → view ≡ seen_bytes observer tables first → piece ≡ view → Appends old new piece → Paired tables observer given other first second old new pair_end.Equal
    view_put equal is_view is_piece put = (equal, subst (Appends old new) (is_piece ∙ is_view) put)

    pub view_cut : AreEqual tables observer given other first second → view ≡ seen_bytes observer tables first → piece ≡ view → AppendsFront old new piece → Paired tables observer given other first second old new pair_end.WriteFault
    view_cut equal is_view is_piece put = (equal, subst (AppendsFront old new) (is_piece ∙ is_view) put)

-- a pair that doesn't end with a fault owes none
pub no_fault_rose : (end : PairEnd) (old new : ℕ) → is_write_fault end ≡ false → end ≡ pair_end.WriteFault → Rose old new
no_fault_rose end old new no_fault is = absurd (false≢true (sym no_fault ∙ ap is_write_fault is))
