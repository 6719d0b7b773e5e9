-- Two runs of one script with one set of built-ins begin in states that an observer can't tell apart.
use Rattle.std.proofs.Common.{◌≡◌, ℕ, zero, suc, [], ◌∷◌, length, true, nat_eq, slice_get, None, refl, sym, ◌∙◌, ap, subst, arith}
use Rattle.std.proofs.lemmas.Bool.{and_parts, eqb-true}
use Rattle.std.proofs.lemmas.Option.{same_Some}
use Rattle.origin_labels.specs.Label.{Label}
use Rattle.flow_policy.specs.Policies.{Tables}
use Rattle.flow_policy.specs.Inputs.{Given}
use Rattle.flow_frames.specs.Frames.{context}
use Rattle.js_values.specs.Records.{Record}
use Rattle.js_values.specs.declared.value.Value.TheVariants as value
use Rattle.js_ast.specs.Trees.{Statements}
use Rattle.es_meaning.specs.BuiltIns.{BuiltIns}
use Rattle.es_meaning.specs.Start.{global_object}
use Rattle.es_meaning.specs.Plain.{first_heap, outermost, outermost_env}
use Rattle.flow_meaning.specs.Erased.{unlabelled}
use Rattle.flow_meaning.specs.Scopes.{Val}
use Rattle.flow_meaning.specs.Tracked.{start}
use Rattle.low_equal.specs.Observed.{Sees}
use Rattle.low_equal.specs.LowEqual.{Pairing, IsOneToOne, seen, objects, outermost as no_outer, no_bindings, bindings, RecordsAgree, Both, both_stand, NestedAt, LowEqual}
use Rattle.low_equal.specs.Laws.{EnvsAgree}
use Rattle.low_equal.proofs.Labels.{sees_bottom}
use Rattle.low_equal.proofs.SoundHeaps.{at_heap, itself_at}
use Rattle.low_equal.proofs.FirstHeap.{first_sound, first_itself}
use Rattle.low_equal.proofs.Heaps.{none_some}
use Rattle.low_equal.proofs.Lines.{lines_refl, positions_refl}
use Rattle.low_equal.proofs.Views.{sees_none, sees_whole}

-- the objects that a script starts with, and the record of the outermost code, stand for themselves
abbrev pub at_start : BuiltIns → Statements → Pairing
at_start set program = at_heap (length (first_heap set program))

one_record : (set : BuiltIns) (program : Statements) → IsOneToOne (at_start set program).records
one_record set program i j a b p q =
    let x = and_parts (nat_eq i 0) (nat_eq j 0) p in
    let y = and_parts (nat_eq a 0) (nat_eq b 0) q in
    (λ e. eqb-true j 0 x.1 ∙ sym (eqb-true b 0 y.1), λ e. eqb-true i 0 x.0 ∙ sym (eqb-true a 0 y.0))

-- ---- the record of the outermost code

module _ (observer : Label) (set : BuiltIns) (program : Statements) where
  global_stands : (at_start set program).objects global_object.0 global_object.0 ≡ true
  global_stands = let some = (first_sound set program).starts in itself_at (length (first_heap set program)) global_object.0 (omega arith)

  outermost_agrees : RecordsAgree observer (at_start set program) (outermost (unlabelled (value.Object global_object))) (outermost (unlabelled (value.Object global_object)))
  outermost_agrees = record { outer = no_outer; bindings = bindings (seen (sees_bottom observer) refl (objects global_stands)) no_bindings }

  records_paired : (r : Record Val) → RecordsAgree observer (at_start set program) r r → (i j : ℕ) → (at_start set program).records i j ≡ true → Both (RecordsAgree observer (at_start set program)) (slice_get (r ∷ []) i) (slice_get (r ∷ []) j)
  records_paired r a i j p =
      let x = and_parts (nat_eq i 0) (nat_eq j 0) p in
      subst (λ n. Both (RecordsAgree observer (at_start set program)) (slice_get (r ∷ []) n) (slice_get (r ∷ []) j)) (sym (eqb-true i 0 x.0))
      (subst (λ n. Both (RecordsAgree observer (at_start set program)) (slice_get (r ∷ []) 0) (slice_get (r ∷ []) n)) (sym (eqb-true j 0 x.1)) (both_stand a))

  outermost_nested : (r : Record Val) → r.outer ≡ None → (i : ℕ) → NestedAt (r ∷ []) i
  outermost_nested r n zero x e d o = absurd (none_some d (sym n ∙ ap (λ (y : Record Val). y.outer) (same_Some r x e) ∙ o))
  outermost_nested r n (suc i) x e d o = absurd (none_some x e)

  -- ---- the states

  pub starts_low : (tables : Tables) (first second : Given) (turns others : ℕ) → LowEqual observer tables (at_start set program) (start tables first set program turns) (start tables second set program others)
  starts_low tables first second turns others = record {
    some = omega arith;
    counts = refl;
    frames = refl;
    heap = first_itself set program observer;
    records = record {
      paired = records_paired (outermost (unlabelled (value.Object global_object))) outermost_agrees;
      one_to_one = one_record set program;
      left = λ i j p. outermost_nested (outermost (unlabelled (value.Object global_object))) refl i;
      right = λ i j p. outermost_nested (outermost (unlabelled (value.Object global_object))) refl j;
    };
    positions = positions_refl observer tables _;
    lines = lines_refl observer tables [];
  }

  -- in a context that is seen
  pub start_seen : (tables : Tables) (inputs : Given) (turns : ℕ) → Sees observer (context (start tables inputs set program turns).frames)
  start_seen tables inputs turns = sees_whole observer _ [] (sees_bottom observer) (sees_none observer)

pub envs_start : (set : BuiltIns) (program : Statements) → EnvsAgree (at_start set program) (outermost_env 0) (outermost_env 0)
envs_start set program = record { place = refl; call = refl; around = refl }
