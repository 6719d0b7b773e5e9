use Rattle.std.proofs.Common.{refl, ap, sym, ◌∙◌, ◌≡◌, ◌∷◌, [], List}
use Rattle.std.proofs.lemmas.Bool.{false≢true}
use Rattle.origin_labels.specs.Label.{Label}
use Rattle.origin_labels.proofs.LabelLaws.{IsLabel-single}
use Rattle.origin_labels.proofs.StoreLaws.{IsKept-refl}
use Rattle.interned_labels.specs.Interned.{InternedSets}
use Rattle.interned_labels.proofs.TableLaws.{IsAdded, table_added}
use Rattle.interned_labels.proofs.UnionLaws.{on_err, store_of, kept_same, labels_kept, made_at, formed_kept, single_found, single_missing}
use Rattle.interned_labels.proofs.interned.InternedLabels.single.Goals as goal

pub returns-in-Some-clause-made : goal.returns-in-Some-clause-made
returns-in-Some-clause-made c = (single_found (store_of c.self.inside.sets c.self.inside.unions.entries c.self.inside.room) c.args.self.now c.args.origin c.in-Some.number c.self.view_is c.in-Some.ensures).0

pub returns-in-Some-clause-meaning : goal.returns-in-Some-clause-meaning
returns-in-Some-clause-meaning c = (single_found (store_of c.self.inside.sets c.self.inside.unions.entries c.self.inside.room) c.args.self.now c.args.origin c.in-Some.number c.self.view_is c.in-Some.ensures).1

pub returns-in-Some-clause-kept : goal.returns-in-Some-clause-kept
returns-in-Some-clause-kept c = IsKept-refl _ _ _ _ _

pub returns-in-Some-clause-again : goal.returns-in-Some-clause-again
returns-in-Some-clause-again c = λ n lt same. (refl, refl)

pub returns-in_err-set-clause-kept : goal.returns-in_err-set-clause-kept
returns-in_err-set-clause-kept c = IsKept-refl _ _ _ _ _

pub returns-in_err-set-clause-firm : goal.returns-in_err-set-clause-firm
returns-in_err-set-clause-firm c = λ e. absurd (false≢true e)

pub returns-in_err-set-clause-again : goal.returns-in_err-set-clause-again
returns-in_err-set-clause-again c = λ n lt same. absurd (single_missing (store_of c.self.inside.sets c.self.inside.unions.entries c.self.inside.room) c.args.self.now c.args.origin c.self.view_is c.in_default.ensures n lt same)

pub invariant_of-self : goal.invariant_of-self
invariant_of-self c = rw c.in_err-number.ensures.unchanged c.self.invariant

pub returns-in_err-number-clause-kept : goal.returns-in_err-number-clause-kept
returns-in_err-number-clause-kept c = kept_same c.args.self.now (store_of c.add.new.self c.self.inside.unions.entries c.self.inside.room)
    (ap (λ (l : List Label). store_of l c.self.inside.unions.entries c.self.inside.room) c.in_err-number.ensures.unchanged ∙ c.self.view_is)

pub returns-in_err-number-clause-firm : goal.returns-in_err-number-clause-firm
returns-in_err-number-clause-firm c = λ e. absurd (false≢true e)

pub returns-in_err-number-clause-unions_kept : goal.returns-in_err-number-clause-unions_kept
returns-in_err-number-clause-unions_kept c = ap (λ (s : InternedSets). s.unions) c.self.view_is

pub returns-in_err-number-clause-again : goal.returns-in_err-number-clause-again
returns-in_err-number-clause-again c = λ n lt same. absurd (single_missing (store_of c.self.inside.sets c.self.inside.unions.entries c.self.inside.room) c.args.self.now c.args.origin c.self.view_is c.in_default.ensures n lt same)

pub returns-in_err-number-clause-refused : goal.returns-in_err-number-clause-refused
returns-in_err-number-clause-refused c = on_err c.from_residual-in_err-number.result (ap (λ (l : List Label). store_of l c.self.inside.unions.entries c.self.inside.room) c.in_err-number.ensures.unchanged ∙ c.self.view_is)

pub invariant_of-self-2 : goal.invariant_of-self-2
invariant_of-self-2 c =
    let added = table_added c.self.inside.sets c.add.new.self (c.args.origin ∷ []) c.in_ok-set.set.items c.in_ok-number.number c.in_ok-set.ensures.items c.in_ok-number.ensures.number c.in_ok-number.ensures.sets in
    formed_kept (store_of c.self.inside.sets c.self.inside.unions.entries c.self.inside.room) (store_of c.add.new.self c.self.inside.unions.entries c.self.inside.room) added.kept refl c.self.invariant

pub returns-clause-made : goal.returns-clause-made
returns-clause-made c =
    let added = table_added c.self.inside.sets c.add.new.self (c.args.origin ∷ []) c.in_ok-set.set.items c.in_ok-number.number c.in_ok-set.ensures.items c.in_ok-number.ensures.number c.in_ok-number.ensures.sets in
    made_at (store_of c.add.new.self c.self.inside.unions.entries c.self.inside.room) c.in_ok-number.number (c.args.origin ∷ []) added.known added.is (IsLabel-single c.args.origin)

pub returns-clause-meaning : goal.returns-clause-meaning
returns-clause-meaning c =
    let added = table_added c.self.inside.sets c.add.new.self (c.args.origin ∷ []) c.in_ok-set.set.items c.in_ok-number.number c.in_ok-set.ensures.items c.in_ok-number.ensures.number c.in_ok-number.ensures.sets in
    added.is

pub returns-clause-kept : goal.returns-clause-kept
returns-clause-kept c =
    let added = table_added c.self.inside.sets c.add.new.self (c.args.origin ∷ []) c.in_ok-set.set.items c.in_ok-number.number c.in_ok-set.ensures.items c.in_ok-number.ensures.number c.in_ok-number.ensures.sets in
    labels_kept (store_of c.self.inside.sets c.self.inside.unions.entries c.self.inside.room) c.args.self.now (store_of c.add.new.self c.self.inside.unions.entries c.self.inside.room) c.self.view_is added.kept refl

pub returns-clause-unions_kept : goal.returns-clause-unions_kept
returns-clause-unions_kept c = ap (λ (s : InternedSets). s.unions) c.self.view_is

pub returns-clause-again : goal.returns-clause-again
returns-clause-again c = λ n lt same. absurd (single_missing (store_of c.self.inside.sets c.self.inside.unions.entries c.self.inside.room) c.args.self.now c.args.origin c.self.view_is c.in_default.ensures n lt same)
