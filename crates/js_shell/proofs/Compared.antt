-- From what a pair put, and its report, to the reply of a pair.
use Rattle.std.proofs.Common.{◌≡◌, ℕ, ◌<◌, Bool, true, false, cond, List, ◌++◌, length, Option, Some, None, IfSome, nat_lt, codes, refl, sym, ap, subst, ◌∙◌}
use Rattle.std.specs.List.{position, position_or_len, range_with_len}
use Rattle.std.proofs.lemmas.Bool.{ltb-true}
use Rattle.std.proofs.lemmas.List.FromFn.{length-range_with_len}
use Rattle.origin_labels.specs.Label.{Label}
use Rattle.flow_io.specs.Sinks.{AppendsFront}
use Rattle.flow_policy.specs.Policies.{Tables, IsPolicy}
use Rattle.flow_policy.specs.Inputs.{Given}
use Rattle.flow_policy.specs.Observed.{Agree, differ_at, first_disagreement}
use Rattle.flow_policy.proofs.ObservedLaws.{disagree_agree}
use Rattle.js_ast.specs.Trees.{Statements}
use Rattle.all_natives.specs.Together.{all_entries, all_begin, all_after, all_asks}
use Rattle.es_meaning.specs.BuiltIns.{built_ins_of}
use Rattle.es_meaning.specs.Outcomes.{Ending}
use Rattle.flow_meaning.specs.Scopes.{Halt}
use Rattle.flow_meaning.specs.Tracked.{Run}
use Rattle.flow_meaning.specs.Tracked as tracked
use Rattle.pair_runs.specs.declared.pairing.PairEnd.{PairEnd}
use Rattle.pair_runs.specs.declared.pairing.PairEnd.TheVariants as pair_end
use Rattle.pair_runs.specs.Pairs.{are_finished, seen_bytes, AreEqual, Paired}
use Rattle.run_files.specs.Tasks.{Task}
use Rattle.step_run.specs.Ran.{told_by}
use Rattle.step_run.proofs.Appending.{front_longer}
use Rattle.step_run.proofs.Kept.{named}
use Rattle.js_shell.specs.declared.status.Status.{Status}
use Rattle.js_shell.specs.declared.status.Status.TheVariants as status
use Rattle.js_shell.specs.Answering.{Puts, is_cut_status}
use Rattle.js_shell.specs.Comparing.{IsChannelOf, equal_reply, PutsEnd}
use Rattle.js_shell.specs.Replies.{built_ins, tracked_run, tracked_with, written_lines, cut, Reply, unfinished_report, both_reply, compared}
use Rattle.js_shell.proofs.Answering.{some_map}
use Rattle.js_shell.proofs.Cutting.{cut_run}
use Rattle.js_shell.proofs.PutLaws.{puts_part, puts_nothing, puts_same, puts_behind}

-- ---- the channel on which inputs differ

cond_within : (k n i : ℕ) (b : Bool) → nat_lt k n ≡ b → cond b (Some k) None ≡ Some i → i < n
cond_within k n i true e f = let same : k ≡ i = cc in subst (λ (j : ℕ). j < n) same (ltb-true k n e)
cond_within k n i false e f = absurd cc

position_within : (p : ℕ → Bool) (xs : List ℕ) (i : ℕ) → position p xs ≡ Some i → i < length xs
position_within p xs i e = cond_within (position_or_len p xs) (length xs) i (nat_lt (position_or_len p xs) (length xs)) refl e

pub channel_within : (observer : Label) (tables : Tables) (first second : Given) (i : ℕ) → first_disagreement observer tables first second ≡ Some i → i < length tables.inputs
unfolding first_disagreement
channel_within observer tables first second i e =
    subst (λ (n : ℕ). i < n) (length-range_with_len 0 (length tables.inputs)) (position_within (differ_at observer tables first second) (range_with_len 0 (length tables.inputs)) i e)

-- the end of a pair speaks of a channel of the policy
pub end_channel : (tables : Tables) (observer : Label) (given other : Given) (first second : Run) (old new : Option (List ℕ)) (end : PairEnd) → Paired tables observer given other first second old new end → IsChannelOf tables end
end_channel tables observer given other first second old new (pair_end.Disagree channel) p = channel_within observer tables given other channel p.0
end_channel tables observer given other first second old new pair_end.Equal p = tt
end_channel tables observer given other first second old new (pair_end.Unfinished one two) p = tt
end_channel tables observer given other first second old new pair_end.WriteFault p = tt
end_channel tables observer given other first second old new pair_end.OutOfMemory p = tt

-- the built-ins have the names of the policy's origins
pub paired_with : (observer : Label) (tables : Tables) (given other : Given) (program : Statements) (turns : ℕ) (old now : Option (List ℕ)) (end : PairEnd) (names : List (List ℕ)) → names ≡ tables.origins
    → Paired tables observer given other (tracked.tracked_run (built_ins_of all_entries all_begin (all_after names) all_asks) tables given program turns) (tracked.tracked_run (built_ins_of all_entries all_begin (all_after names) all_asks) tables other program turns) old now end
    → Paired tables observer given other (tracked.tracked_run (built_ins tables) tables given program turns) (tracked.tracked_run (built_ins tables) tables other program turns) old now end
paired_with observer tables given other program turns old now end names is p =
    subst (λ (o : List (List ℕ)). Paired tables observer given other (tracked.tracked_run (built_ins_of all_entries all_begin (all_after o) all_asks) tables given program turns) (tracked.tracked_run (built_ins_of all_entries all_begin (all_after o) all_asks) tables other program turns) old now end) is p

-- ---- the reply

module _ (turns : ℕ) (task : Task) (observer : Label) (second : Given) (formed : IsPolicy task.tables) (result : Status) (old now new : Option (List ℕ)) where
  abbrev one : Run
  one = tracked_run turns task

  abbrev two : Run
  two = tracked_with turns task second

  abbrev answer : Reply
  answer = compared turns task observer second (first_disagreement observer task.tables task.given second)

  -- what the observer sees, and then the report
  abbrev equal : Reply
  equal = record { bytes = seen_bytes observer task.tables one ++ codes "! equal\n"; status = status.Done }

  answers_by : (o : Option ℕ) → first_disagreement observer task.tables task.given second ≡ o → compared turns task observer second o ≡ answer
  answers_by o e = sym (ap (compared turns task observer second) e)

  agreeing : Agree observer task.tables task.given second → both_reply task.tables observer one two ≡ answer
  agreeing agree = answers_by None ((disagree_agree observer task.tables task.given second (first_disagreement observer task.tables task.given second) refl).1 agree)

  unfinished_is : are_finished one two ≡ false → record { bytes = unfinished_report task.tables one.ending two.ending; status = status.Unfinished } ≡ both_reply task.tables observer one two
  unfinished_is e = rw e refl

  finished_is : are_finished one two ≡ true → record { bytes = cut observer task.tables (written_lines one) ++ codes "! equal\n"; status = status.Done } ≡ both_reply task.tables observer one two
  finished_is e = rw e refl

  equal_is : AreEqual task.tables observer task.given second one two → equal ≡ answer
  equal_is h =
      ap (λ (bytes : List ℕ). record { bytes = bytes ++ codes "! equal\n"; status = status.Done }) (sym (cut_run task.tables formed observer one (named (built_ins task.tables) task.tables task.given task.program turns)))
      ∙ finished_is h.finished ∙ agreeing h.agree

  -- the report of two runs that aren't both finished
  unfinished_put : (o p : Option (Ending Halt)) → o ≡ Some one.ending → p ≡ Some two.ending
      → IfSome o (λ first. IfSome p (λ second. Puts (record { bytes = unfinished_report task.tables first second; status = status.Unfinished }) result now new))
      → Puts (record { bytes = unfinished_report task.tables one.ending two.ending; status = status.Unfinished }) result now new
  unfinished_put o p is so put =
      subst (λ (x : Option (Ending Halt)). IfSome x (λ second. Puts (record { bytes = unfinished_report task.tables one.ending second; status = status.Unfinished }) result now new)) so
      (subst (λ (x : Option (Ending Halt)). IfSome x (λ first. IfSome p (λ second. Puts (record { bytes = unfinished_report task.tables first second; status = status.Unfinished }) result now new))) is put)

  -- nothing was put before
  from_start : (reply : Reply) → now ≡ old → Puts reply result now new → Puts reply result old new
  from_start reply is p = subst (λ (o : Option (List ℕ)). Puts reply result o new) is p

  pub paired_puts : (end : PairEnd) → Paired task.tables observer task.given second one two old now end → PutsEnd task.tables end result now new → Puts answer result old new
  paired_puts (pair_end.Disagree channel) p q = puts_same _ answer result old new (answers_by (Some channel) p.0) (from_start _ p.1 q)
  paired_puts (pair_end.Unfinished first other) p q =
      puts_same _ answer result old new (unfinished_is p.1 ∙ agreeing p.0) (from_start _ p.4 (unfinished_put (told_by first) (told_by other) p.2 p.3 q))
  paired_puts pair_end.Equal p q = puts_same equal answer result old new (equal_is p.0) (puts_behind (seen_bytes observer task.tables one) equal_reply result old now new p.1 q)
  paired_puts pair_end.WriteFault p q =
      puts_same equal answer result old new (equal_is p.0)
      (puts_part equal result old new (ap is_cut_status q.0)
      (subst (λ (o : Option (List ℕ)). AppendsFront old o equal.bytes) (sym q.1) (front_longer old now (seen_bytes observer task.tables one) equal.bytes p.1 (codes "! equal\n", refl))))
  paired_puts pair_end.OutOfMemory p q = rw (q.0, q.1, p) (puts_nothing answer old)

-- ---- the report of two runs that aren't both finished, as it is put

module _ (tables : Tables) (first second : Option (Ending Halt)) where
  pub unfinished_told : (bytes : List ℕ) (result : Status) (old new : Option (List ℕ)) → IfSome first (λ one. IfSome second (λ two. bytes ≡ unfinished_report tables one two))
      → Puts (record { bytes = bytes; status = status.Unfinished }) result old new
      → IfSome first (λ one. IfSome second (λ two. Puts (record { bytes = unfinished_report tables one two; status = status.Unfinished }) result old new))
  unfinished_told bytes result old new is p =
      some_map first (λ one. IfSome second (λ two. bytes ≡ unfinished_report tables one two)) (λ one. IfSome second (λ two. Puts (record { bytes = unfinished_report tables one two; status = status.Unfinished }) result old new))
      (λ one h. some_map second (λ two. bytes ≡ unfinished_report tables one two) (λ two. Puts (record { bytes = unfinished_report tables one two; status = status.Unfinished }) result old new)
      (λ two same. subst (λ (b : List ℕ). Puts (record { bytes = b; status = status.Unfinished }) result old new) same p) h) is
