-- Lines that are put as a machine prints them.
use Rattle.std.proofs.Common.{◌≡◌, ℕ, Bool, List, [], ◌∷◌, ◌++◌, Option, Ok, Err, refl, sym, ap, subst, ◌∙◌}
use Rattle.origin_labels.specs.Label.{Label}
use Rattle.origin_labels.specs.Stores.{IsKept}
use Rattle.flow_io.specs.Sinks.{IsFrontOf, Appends, AppendsFront}
use Rattle.flow_policy.specs.Policies.{Tables}
use Rattle.js_values.specs.Readings.{IsReading}
use Rattle.js_values.proofs.ReadingLaws.{IsReading-earlier}
use Rattle.native_protocol.specs.declared.request.Answer.{Answer}
use Rattle.native_protocol.specs.declared.request.Request.{Request}
use Rattle.es_meaning.specs.BuiltIns.{BuiltIns}
use Rattle.flow_meaning.specs.Laws.{performed_run}
use Rattle.flow_meaning.specs.Planned.{Ran}
use Rattle.flow_meaning.specs.Scopes.{LabelledLine}
use Rattle.flow_meaning.specs.Tracked.{Run}
use Rattle.low_equal.specs.Observed.{Front, empty, longer}
use Rattle.channel_requests.specs.declared.printing.Printed.{Printed}
use Rattle.channel_requests.specs.Answers.{line_of}
use Rattle.step_core.specs.declared.machine.Machine.{Machine}
use Rattle.step_core.specs.declared.steps.Ending as core
use Rattle.step_core.specs.Machines.{comes_to, ending_of}
use Rattle.step_run.specs.declared.ending.Show.{Show}
use Rattle.step_run.specs.declared.putting.Cut.{Cut}
use Rattle.step_run.specs.Lines.{shown_bytes}
use Rattle.step_run.specs.Puts.{PutsRun}
use Rattle.step_run.proofs.Appending.{appends_nothing, appends_then, front_then, front_longer, front_of_whole}
use Rattle.step_run.proofs.Shown.{bytes_append, bytes_none}

-- what stands behind a front
front_rest : {A : Type 0} {xs ys : List A} → Front xs ys → (rest : List A) × (ys ≡ xs ++ rest)
front_rest (empty {xs = xs}) = (xs, refl)
front_rest (longer {x = x} f) = let r = front_rest f in (r.0, ap (λ ys. x ∷ ys) r.1)

-- a run that begins with these lines puts their bytes first
begins_bytes : (which : Show) (tables : Tables) (lines : List LabelledLine) (run : Run) → Front lines run.lines → IsFrontOf (shown_bytes which tables lines) (shown_bytes which tables run.lines)
begins_bytes which tables lines run front = let r = front_rest front in (shown_bytes which tables r.0, ap (shown_bytes which tables) r.1 ∙ bytes_append which tables lines r.0)

module _ {S T X : Type 0} (set : BuiltIns) (tells : X → Answer → X) (asks : X → Request) (made : S → T → Type 0) (meaning : S → T → Label) (store : S) (tables : Tables) (m n : Machine T X) (p : Printed T) where
  -- a step that prints a line by a policy
  abbrev pub PrintsBy : Tables → Type 0
  PrintsBy t = (reading : T → Label) (told : List LabelledLine) → IsReading made meaning store reading → comes_to set tells asks reading m told ≡ comes_to set tells asks reading n (told ++ line_of t reading p ∷ [])

  -- prints it by that which its machine borrows
  pub prints_by : n.policy.now ≡ tables → PrintsBy n.policy.now → PrintsBy tables
  prints_by same steps = subst PrintsBy same steps

module _ {S T X : Type 0} (set : BuiltIns) (tells : X → Answer → X) (asks : X → Request) (made : S → T → Type 0) (meaning : S → T → Label) (which : Show) (tables : Tables) (first : Machine T X) where
  -- how far a run has come: these lines were printed, those that are shown are appended, and the machine goes on from there
  pub record SoFar (store : S) (m : Machine T X) (old now : Option (List ℕ)) : Type 0 where
    pub lines : (T → Label) → List LabelledLine
    pub comes : (reading : T → Label) → IsReading made meaning store reading → comes_to set tells asks reading first [] ≡ comes_to set tells asks reading m (lines reading)
    pub appended : (reading : T → Label) → Appends old now (shown_bytes which tables (lines reading))

  pub begun : (store : S) (old : Option (List ℕ)) → SoFar store first old old
  begun store old = record {
    lines = λ reading. [];
    comes = λ reading read. refl;
    appended = λ reading. subst (Appends old old) (sym (bytes_none which tables)) (appends_nothing old);
  }

  -- what the whole run comes to
  abbrev pub whole : (T → Label) → Run
  whole reading = performed_run (comes_to set tells asks reading first [])

  module _ (room : S → ℕ) (firm : S → Bool) (adds : (reading : T → Label) (m : Machine T X) (told : List LabelledLine) → Front told (performed_run (comes_to set tells asks reading m told)).lines) (store later : S) (kept : IsKept made meaning room firm store later) (m n : Machine T X) (old now : Option (List ℕ)) (so_far : SoFar store m old now) where
    earlier : (reading : T → Label) → IsReading made meaning later reading → IsReading made meaning store reading
    earlier reading read = IsReading-earlier made meaning room firm store later reading kept read

    -- a step that prints nothing
    pub goes_on : ((reading : T → Label) (told : List LabelledLine) → IsReading made meaning later reading → comes_to set tells asks reading m told ≡ comes_to set tells asks reading n told) → SoFar later n old now
    goes_on steps = record {
      lines = so_far.lines;
      comes = λ reading read. so_far.comes reading (earlier reading read) ∙ steps reading (so_far.lines reading) read;
      appended = so_far.appended;
    }

    -- the end
    pub ended : (e : core.Ending T) → ((reading : T → Label) (told : List LabelledLine) → IsReading made meaning later reading → performed_run (comes_to set tells asks reading m told) ≡ record { lines = told; ending = ending_of set tells asks reading n e })
        → (reading : T → Label) → IsReading made meaning later reading → PutsRun which tables (whole reading) (ending_of set tells asks reading n) old now (Ok e)
    ended e ends reading read =
        let run : whole reading ≡ record { lines = so_far.lines reading; ending = ending_of set tells asks reading n e } = ap performed_run (so_far.comes reading (earlier reading read)) ∙ ends reading (so_far.lines reading) read in
        (ap (λ (r : Run). r.ending) run, subst (Appends old now) (ap (λ (r : Run). shown_bytes which tables r.lines) (sym run)) (so_far.appended reading))

    -- the lines so far begin those of the run
    begins : (reading : T → Label) → IsReading made meaning later reading → IsFrontOf (shown_bytes which tables (so_far.lines reading)) (shown_bytes which tables (whole reading).lines)
    begins reading read =
        subst (λ (o : Ran). IsFrontOf (shown_bytes which tables (so_far.lines reading)) (shown_bytes which tables (performed_run o).lines)) (sym (so_far.comes reading (earlier reading read)))
        (begins_bytes which tables (so_far.lines reading) (performed_run (comes_to set tells asks reading m (so_far.lines reading))) (adds reading m (so_far.lines reading)))

    -- memory was wanted
    pub cut_off : (why : Cut) (reading : T → Label) → IsReading made meaning later reading → PutsRun which tables (whole reading) (ending_of set tells asks reading n) old now (Err why)
    cut_off why reading read = front_of_whole old now (shown_bytes which tables (so_far.lines reading)) (shown_bytes which tables (whole reading).lines) (so_far.appended reading) (begins reading read)

    -- a step that prints a line
    module _ (p : Printed T) (steps : (reading : T → Label) (told : List LabelledLine) → IsReading made meaning later reading → comes_to set tells asks reading m told ≡ comes_to set tells asks reading n (told ++ line_of tables reading p ∷ [])) where
      -- which is put
      pub line_put : (behind : Option (List ℕ)) → ((reading : T → Label) → Appends now behind (shown_bytes which tables (line_of tables reading p ∷ []))) → SoFar later n old behind
      line_put behind put = record {
        lines = λ reading. so_far.lines reading ++ line_of tables reading p ∷ [];
        comes = λ reading read. so_far.comes reading (earlier reading read) ∙ steps reading (so_far.lines reading) read;
        appended = λ reading. subst (Appends old behind) (sym (bytes_append which tables (so_far.lines reading) (line_of tables reading p ∷ [])))
            (appends_then old now behind (shown_bytes which tables (so_far.lines reading)) (shown_bytes which tables (line_of tables reading p ∷ [])) (so_far.appended reading) (put reading));
      }

      -- the lines with it begin those of the run
      begins_behind : (reading : T → Label) → IsReading made meaning later reading → IsFrontOf (shown_bytes which tables (so_far.lines reading ++ line_of tables reading p ∷ [])) (shown_bytes which tables (whole reading).lines)
      begins_behind reading read =
          let lines : List LabelledLine = so_far.lines reading ++ line_of tables reading p ∷ [] in
          subst (λ (o : Ran). IsFrontOf (shown_bytes which tables lines) (shown_bytes which tables (performed_run o).lines)) (sym (so_far.comes reading (earlier reading read) ∙ steps reading (so_far.lines reading) read))
          (begins_bytes which tables lines (performed_run (comes_to set tells asks reading n lines)) (adds reading n lines))

      -- which is cut off
      pub line_cut : (why : Cut) (behind : Option (List ℕ)) → ((reading : T → Label) → AppendsFront now behind (shown_bytes which tables (line_of tables reading p ∷ [])))
          → (reading : T → Label) → IsReading made meaning later reading → PutsRun which tables (whole reading) (ending_of set tells asks reading n) old behind (Err why)
      line_cut why behind put reading read =
          let line : List ℕ = shown_bytes which tables (line_of tables reading p ∷ []) in
          front_longer old behind (shown_bytes which tables (so_far.lines reading) ++ line) (shown_bytes which tables (whole reading).lines)
          (front_then old now behind (shown_bytes which tables (so_far.lines reading)) line (so_far.appended reading) (put reading))
          (subst (λ (w : List ℕ). IsFrontOf w (shown_bytes which tables (whole reading).lines)) (bytes_append which tables (so_far.lines reading) (line_of tables reading p ∷ [])) (begins_behind reading read))
