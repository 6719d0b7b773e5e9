-- A run under a policy that declares no origin is never stopped: what a rule needs has no origin then, and is within whatever there is.
use Rattle.std.proofs.Common.{◌≡◌, ℕ, ◌<◌, true, false, List, [], ◌∷◌, length, refl, sym, ap, ap₂, subst, ◌∙◌, arith}
use Rattle.std.proofs.lemmas.Bool.{false≢true}
use Rattle.origin_labels.specs.Label.{Label, within}
use Rattle.flow_policy.specs.Policies.{Tables}
use Rattle.flow_policy.specs.Inputs.{Given}
use Rattle.flow_frames.specs.declared.faults.Rule.{Rule}
use Rattle.js_ast.specs.Trees.{Statements}
use Rattle.es_meaning.specs.BuiltIns.{BuiltIns}
use Rattle.es_meaning.specs.Outcomes as es
use Rattle.es_meaning.specs.Outcomes.{Ending, done, threw, halted}
use Rattle.es_meaning.specs.Plain.{plain_run}
use Rattle.flow_meaning.specs.Scopes.{stopped}
use Rattle.flow_meaning.specs.Tracked.{tracked_run}
use Rattle.low_equal.specs.Declared.{IsDeclared, EndsDeclared, SpeaksOfDeclared}
use Rattle.low_equal.specs.Erasure.{IsErasing, Erases, goes_on, stops, monitored}
use Rattle.js_shell.specs.Promises.{IsNeverStopped}

-- an unlabelled run isn't stopped by a rule
pub plain_unstopped : (e : Ending es.Halt) (rule : Rule) (need have : Label) → monitored e ≡ halted (stopped rule need have) → ⊥
plain_unstopped done rule need have p = cc
plain_unstopped (threw shown) rule need have p = cc
plain_unstopped (halted halt) rule need have p = cc

-- a stop is of a rule that is broken
pub stop_broken : (erasing : IsErasing) (set : BuiltIns) (tables : Tables) (given : Given) (program : Statements) (turns : ℕ) (rule : Rule) (need have : Label)
    → (tracked_run set tables given program turns).ending ≡ halted (stopped rule need have) → within need have ≡ false
stop_broken erasing set tables given program turns rule need have e = by (erasing set tables given program turns)
  where
    by : Erases (tracked_run set tables given program turns) (plain_run set tables given program turns) → within need have ≡ false
    by (goes_on same lines) = absurd (plain_unstopped (plain_run set tables given program turns).ending rule need have (sym same ∙ e))
    by (stops other n h rest ends broken front) =
        let same : halted (stopped other n h) ≡ halted (stopped rule need have) = sym ends ∙ e in
        let need_is : n ≡ need = cc in
        let have_is : h ≡ have = cc in
        ap₂ within (sym need_is) (sym have_is) ∙ broken

-- none of no origins
nothing_declared : (label : Label) → IsDeclared 0 label → label ≡ []
nothing_declared [] all = refl
nothing_declared (origin ∷ label) all = let bad : origin < 0 = all 0 0 (omega arith) in absurd (omega arith)

nothing_within : (need have : Label) → need ≡ [] → within need have ≡ true
unfolding within
nothing_within need have e = ap (λ (label : Label). within label have) e

pub never_stopped : IsErasing → SpeaksOfDeclared → IsNeverStopped
never_stopped erasing declared set program tables given turns rule need have formed none e =
    let ends : EndsDeclared (length tables.origins) (halted (stopped rule need have)) = subst (EndsDeclared (length tables.origins)) e (declared set tables given program turns formed).ending in
    let few : IsDeclared 0 need = subst (λ (n : ℕ). IsDeclared n need) (ap (λ (o : List (List ℕ)). length o) none) ends.0 in
    false≢true (sym (stop_broken erasing set tables given program turns rule need have e) ∙ nothing_within need have (nothing_declared need few))
