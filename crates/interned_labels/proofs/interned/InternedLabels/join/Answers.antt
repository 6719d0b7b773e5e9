use Rattle.std.proofs.Common.{arith, refl, ap, ap₂, sym, subst, ◌∙◌, ◌≡◌, ◌<◌, List, ℕ, length, Option, Some, None}
use Rattle.std.specs.Map.{lookup}
use Rattle.std.proofs.lemmas.Bool.{false≢true}
use Rattle.std.proofs.lemmas.Option.{none-some}
use Rattle.origin_labels.specs.Label.{Label, IsLabel, union}
use Rattle.origin_labels.proofs.LabelLaws.{IsLabel-union}
use Rattle.origin_labels.proofs.StoreLaws.{IsKept-refl}
use Rattle.interned_labels.specs.Interned.{InternedSets, set_at, known_union, same_pair, IsMade, IsUnion, IsFormed, KeepsUnions}
use Rattle.interned_labels.proofs.TableLaws.{IsAdded, table_added}
use Rattle.interned_labels.proofs.UnionLaws.{on_err, HasPair, IsMissing, store_of, kept_same, unions_same, labels_kept, made_at, same_some, known_made, union_added, missing, known_after, unions_kept, formed_with}
use Rattle.interned_labels.proofs.interned.InternedLabels.join.Goals as goal

pub returns-in-Some-clause-made : goal.returns-in-Some-clause-made
returns-in-Some-clause-made c =
    let known : Some c.in-Some.label.0 ≡ known_union c.args.self.now.unions c.args.a.0 c.args.b.0 = c.in-Some.ensures in
    (known_made (store_of c.self.inside.sets c.self.inside.unions.entries c.self.inside.room) c.args.self.now c.args.a c.args.b c.in-Some.label.0 c.self.view_is c.self.invariant c.requires.first c.requires.second known).0

pub returns-in-Some-clause-meaning : goal.returns-in-Some-clause-meaning
returns-in-Some-clause-meaning c =
    let known : Some c.in-Some.label.0 ≡ known_union c.args.self.now.unions c.args.a.0 c.args.b.0 = c.in-Some.ensures in
    (known_made (store_of c.self.inside.sets c.self.inside.unions.entries c.self.inside.room) c.args.self.now c.args.a c.args.b c.in-Some.label.0 c.self.view_is c.self.invariant c.requires.first c.requires.second known).1

pub returns-in-Some-clause-kept : goal.returns-in-Some-clause-kept
returns-in-Some-clause-kept c = IsKept-refl _ _ _ _ _

pub returns-in-Some-clause-unions_kept : goal.returns-in-Some-clause-unions_kept
returns-in-Some-clause-unions_kept c = λ x y m e. e

pub returns-in-Some-clause-remembered : goal.returns-in-Some-clause-remembered
returns-in-Some-clause-remembered c =
    let known : Some c.in-Some.label.0 ≡ known_union c.args.self.now.unions c.args.a.0 c.args.b.0 = c.in-Some.ensures in
    sym known

pub returns-in-Some-clause-again : goal.returns-in-Some-clause-again
returns-in-Some-clause-again c = λ n e.
    let known : Some c.in-Some.label.0 ≡ known_union c.args.self.now.unions c.args.a.0 c.args.b.0 = c.in-Some.ensures in
    (refl, same_some c.in-Some.label.0 n (known ∙ e))

pub invariant_of-self : goal.invariant_of-self
invariant_of-self c =
    let same : store_of c.self.inside.sets c.reserve.new.self.entries c.self.inside.room ≡ c.args.self.now = ap (λ (u : List ((ℕ × ℕ) × ℕ)). store_of c.self.inside.sets u c.self.inside.room) c.reserve.ensures.entries ∙ c.self.view_is in
    subst IsFormed (c.self.view_is ∙ sym same) c.self.invariant

pub returns-in_err-reserve-clause-kept : goal.returns-in_err-reserve-clause-kept
returns-in_err-reserve-clause-kept c =
    let same : store_of c.self.inside.sets c.reserve.new.self.entries c.self.inside.room ≡ c.args.self.now = ap (λ (u : List ((ℕ × ℕ) × ℕ)). store_of c.self.inside.sets u c.self.inside.room) c.reserve.ensures.entries ∙ c.self.view_is in
    kept_same c.args.self.now (store_of c.self.inside.sets c.reserve.new.self.entries c.self.inside.room) same

pub returns-in_err-reserve-clause-firm : goal.returns-in_err-reserve-clause-firm
returns-in_err-reserve-clause-firm c = λ e. absurd (false≢true e)

pub returns-in_err-reserve-clause-unions_kept : goal.returns-in_err-reserve-clause-unions_kept
returns-in_err-reserve-clause-unions_kept c =
    let same : store_of c.self.inside.sets c.reserve.new.self.entries c.self.inside.room ≡ c.args.self.now = ap (λ (u : List ((ℕ × ℕ) × ℕ)). store_of c.self.inside.sets u c.self.inside.room) c.reserve.ensures.entries ∙ c.self.view_is in
    unions_same c.args.self.now (store_of c.self.inside.sets c.reserve.new.self.entries c.self.inside.room) same

pub returns-in_err-reserve-clause-again : goal.returns-in_err-reserve-clause-again
returns-in_err-reserve-clause-again c = λ n e.
    let none : None ≡ known_union c.args.self.now.unions c.args.a.0 c.args.b.0 = c.in_default.ensures in
    absurd (none-some n (none ∙ e))

pub returns-in_err-reserve-clause-refused : goal.returns-in_err-reserve-clause-refused
returns-in_err-reserve-clause-refused c =
    let same : store_of c.self.inside.sets c.reserve.new.self.entries c.self.inside.room ≡ c.args.self.now = ap (λ (u : List ((ℕ × ℕ) × ℕ)). store_of c.self.inside.sets u c.self.inside.room) c.reserve.ensures.entries ∙ c.self.view_is in
    on_err c.from_residual.result same

pub invariant_of-self-in_err-set : goal.invariant_of-self-in_err-set
invariant_of-self-in_err-set c =
    let same : store_of c.self.inside.sets c.reserve.new.self.entries c.self.inside.room ≡ c.args.self.now = ap (λ (u : List ((ℕ × ℕ) × ℕ)). store_of c.self.inside.sets u c.self.inside.room) c.reserve.ensures.entries ∙ c.self.view_is in
    subst IsFormed (c.self.view_is ∙ sym same) c.self.invariant

pub returns-in_err-set-clause-kept : goal.returns-in_err-set-clause-kept
returns-in_err-set-clause-kept c =
    let same : store_of c.self.inside.sets c.reserve.new.self.entries c.self.inside.room ≡ c.args.self.now = ap (λ (u : List ((ℕ × ℕ) × ℕ)). store_of c.self.inside.sets u c.self.inside.room) c.reserve.ensures.entries ∙ c.self.view_is in
    kept_same c.args.self.now (store_of c.self.inside.sets c.reserve.new.self.entries c.self.inside.room) same

pub returns-in_err-set-clause-firm : goal.returns-in_err-set-clause-firm
returns-in_err-set-clause-firm c = λ e. absurd (false≢true e)

pub returns-in_err-set-clause-unions_kept : goal.returns-in_err-set-clause-unions_kept
returns-in_err-set-clause-unions_kept c =
    let same : store_of c.self.inside.sets c.reserve.new.self.entries c.self.inside.room ≡ c.args.self.now = ap (λ (u : List ((ℕ × ℕ) × ℕ)). store_of c.self.inside.sets u c.self.inside.room) c.reserve.ensures.entries ∙ c.self.view_is in
    unions_same c.args.self.now (store_of c.self.inside.sets c.reserve.new.self.entries c.self.inside.room) same

pub returns-in_err-set-clause-again : goal.returns-in_err-set-clause-again
returns-in_err-set-clause-again c = λ n e.
    let none : None ≡ known_union c.args.self.now.unions c.args.a.0 c.args.b.0 = c.in_default.ensures in
    absurd (none-some n (none ∙ e))

pub returns-in_err-set-clause-refused : goal.returns-in_err-set-clause-refused
returns-in_err-set-clause-refused c =
    let same : store_of c.self.inside.sets c.reserve.new.self.entries c.self.inside.room ≡ c.args.self.now = ap (λ (u : List ((ℕ × ℕ) × ℕ)). store_of c.self.inside.sets u c.self.inside.room) c.reserve.ensures.entries ∙ c.self.view_is in
    on_err c.from_residual-in_err-set.result same

pub invariant_of-self-in_err-number : goal.invariant_of-self-in_err-number
invariant_of-self-in_err-number c =
    let same : store_of c.add.new.self c.reserve.new.self.entries c.self.inside.room ≡ c.args.self.now = ap (λ (l : List Label). store_of l c.reserve.new.self.entries c.self.inside.room) c.in_err-number.ensures.unchanged ∙ ap (λ (u : List ((ℕ × ℕ) × ℕ)). store_of c.self.inside.sets u c.self.inside.room) c.reserve.ensures.entries ∙ c.self.view_is in
    subst IsFormed (c.self.view_is ∙ sym same) c.self.invariant

pub returns-in_err-number-clause-kept : goal.returns-in_err-number-clause-kept
returns-in_err-number-clause-kept c =
    let same : store_of c.add.new.self c.reserve.new.self.entries c.self.inside.room ≡ c.args.self.now = ap (λ (l : List Label). store_of l c.reserve.new.self.entries c.self.inside.room) c.in_err-number.ensures.unchanged ∙ ap (λ (u : List ((ℕ × ℕ) × ℕ)). store_of c.self.inside.sets u c.self.inside.room) c.reserve.ensures.entries ∙ c.self.view_is in
    kept_same c.args.self.now (store_of c.add.new.self c.reserve.new.self.entries c.self.inside.room) same

pub returns-in_err-number-clause-firm : goal.returns-in_err-number-clause-firm
returns-in_err-number-clause-firm c = λ e. absurd (false≢true e)

pub returns-in_err-number-clause-unions_kept : goal.returns-in_err-number-clause-unions_kept
returns-in_err-number-clause-unions_kept c =
    let same : store_of c.add.new.self c.reserve.new.self.entries c.self.inside.room ≡ c.args.self.now = ap (λ (l : List Label). store_of l c.reserve.new.self.entries c.self.inside.room) c.in_err-number.ensures.unchanged ∙ ap (λ (u : List ((ℕ × ℕ) × ℕ)). store_of c.self.inside.sets u c.self.inside.room) c.reserve.ensures.entries ∙ c.self.view_is in
    unions_same c.args.self.now (store_of c.add.new.self c.reserve.new.self.entries c.self.inside.room) same

pub returns-in_err-number-clause-again : goal.returns-in_err-number-clause-again
returns-in_err-number-clause-again c = λ n e.
    let none : None ≡ known_union c.args.self.now.unions c.args.a.0 c.args.b.0 = c.in_default.ensures in
    absurd (none-some n (none ∙ e))

pub returns-in_err-number-clause-refused : goal.returns-in_err-number-clause-refused
returns-in_err-number-clause-refused c =
    let same : store_of c.add.new.self c.reserve.new.self.entries c.self.inside.room ≡ c.args.self.now = ap (λ (l : List Label). store_of l c.reserve.new.self.entries c.self.inside.room) c.in_err-number.ensures.unchanged ∙ ap (λ (u : List ((ℕ × ℕ) × ℕ)). store_of c.self.inside.sets u c.self.inside.room) c.reserve.ensures.entries ∙ c.self.view_is in
    on_err c.from_residual-in_err-number.result same

pub origins-requires : goal.origins-requires
origins-requires c =
    let made : IsMade (store_of c.self.inside.sets c.self.inside.unions.entries c.self.inside.room) c.args.a = subst (λ (s : InternedSets). IsMade s c.args.a) (sym c.self.view_is) c.requires.first in
    made.known

pub origins-requires-2 : goal.origins-requires-2
origins-requires-2 c =
    let made : IsMade (store_of c.self.inside.sets c.self.inside.unions.entries c.self.inside.room) c.args.b = subst (λ (s : InternedSets). IsMade s c.args.b) (sym c.self.view_is) c.requires.second in
    made.known

pub union_of-requires-clause-first : goal.union_of-requires-clause-first
union_of-requires-clause-first c =
    let made : IsMade (store_of c.self.inside.sets c.self.inside.unions.entries c.self.inside.room) c.args.a = subst (λ (s : InternedSets). IsMade s c.args.a) (sym c.self.view_is) c.requires.first in
    subst IsLabel (sym c.origins.ensures) made.rises

pub union_of-requires-clause-second : goal.union_of-requires-clause-second
union_of-requires-clause-second c =
    let made : IsMade (store_of c.self.inside.sets c.self.inside.unions.entries c.self.inside.room) c.args.b = subst (λ (s : InternedSets). IsMade s c.args.b) (sym c.self.view_is) c.requires.second in
    subst IsLabel (sym c.origins-2.ensures) made.rises

pub unwrap-requires : goal.unwrap-requires
unwrap-requires c = c.insert.ensures.succeeds (omega (arith, c.in_ok-reserve.ensures.ok))

pub invariant_of-self-2 : goal.invariant_of-self-2
invariant_of-self-2 c =
    let sets = c.self.inside.sets in
    let a = set_at sets c.args.a.0 in
    let b = set_at sets c.args.b.0 in
    let added = table_added sets c.add.new.self (union a b) c.in_ok-set.set.items c.in_ok-number.number (c.in_ok-set.ensures ∙ ap₂ union c.origins.ensures c.origins-2.ensures) c.in_ok-number.ensures.number c.in_ok-number.ensures.sets in
    let same : store_of c.self.inside.sets c.reserve.new.self.entries c.self.inside.room ≡ c.args.self.now = ap (λ (u : List ((ℕ × ℕ) × ℕ)). store_of c.self.inside.sets u c.self.inside.room) c.reserve.ensures.entries ∙ c.self.view_is in
    let first : IsMade (store_of c.self.inside.sets c.self.inside.unions.entries c.self.inside.room) c.args.a = subst (λ (s : InternedSets). IsMade s c.args.a) (sym c.self.view_is) c.requires.first in
    let second : IsMade (store_of c.self.inside.sets c.self.inside.unions.entries c.self.inside.room) c.args.b = subst (λ (s : InternedSets). IsMade s c.args.b) (sym c.self.view_is) c.requires.second in
    let updates = rw c.unwrap.ensures at c.insert.ensures.updates in
    let has : HasPair c.reserve.new.self.entries c.insert.new.self.entries c.args.a.0 c.args.b.0 c.in_ok-number.number = updates.0 in
    let is : IsUnion c.add.new.self c.args.a.0 c.args.b.0 c.in_ok-number.number = union_added sets c.add.new.self c.args.a.0 c.args.b.0 c.in_ok-number.number first.known second.known added in
    formed_with (store_of sets c.reserve.new.self.entries c.self.inside.room) (store_of c.add.new.self c.insert.new.self.entries c.self.inside.room) c.args.a.0 c.args.b.0 c.in_ok-number.number added.kept (subst IsFormed (c.self.view_is ∙ sym same) c.self.invariant) has is

pub returns-clause-made : goal.returns-clause-made
returns-clause-made c =
    let sets = c.self.inside.sets in
    let a = set_at sets c.args.a.0 in
    let b = set_at sets c.args.b.0 in
    let added = table_added sets c.add.new.self (union a b) c.in_ok-set.set.items c.in_ok-number.number (c.in_ok-set.ensures ∙ ap₂ union c.origins.ensures c.origins-2.ensures) c.in_ok-number.ensures.number c.in_ok-number.ensures.sets in
    let first : IsMade (store_of c.self.inside.sets c.self.inside.unions.entries c.self.inside.room) c.args.a = subst (λ (s : InternedSets). IsMade s c.args.a) (sym c.self.view_is) c.requires.first in
    let second : IsMade (store_of c.self.inside.sets c.self.inside.unions.entries c.self.inside.room) c.args.b = subst (λ (s : InternedSets). IsMade s c.args.b) (sym c.self.view_is) c.requires.second in
    made_at (store_of c.add.new.self c.insert.new.self.entries c.self.inside.room) c.in_ok-number.number (union a b) added.known added.is (IsLabel-union a b second.rises)

pub returns-clause-meaning : goal.returns-clause-meaning
returns-clause-meaning c =
    let sets = c.self.inside.sets in
    let a = set_at sets c.args.a.0 in
    let b = set_at sets c.args.b.0 in
    let added = table_added sets c.add.new.self (union a b) c.in_ok-set.set.items c.in_ok-number.number (c.in_ok-set.ensures ∙ ap₂ union c.origins.ensures c.origins-2.ensures) c.in_ok-number.ensures.number c.in_ok-number.ensures.sets in
    added.is ∙ ap (λ (s : InternedSets). union (set_at s.sets c.args.a.0) (set_at s.sets c.args.b.0)) c.self.view_is

pub returns-clause-kept : goal.returns-clause-kept
returns-clause-kept c =
    let sets = c.self.inside.sets in
    let a = set_at sets c.args.a.0 in
    let b = set_at sets c.args.b.0 in
    let added = table_added sets c.add.new.self (union a b) c.in_ok-set.set.items c.in_ok-number.number (c.in_ok-set.ensures ∙ ap₂ union c.origins.ensures c.origins-2.ensures) c.in_ok-number.ensures.number c.in_ok-number.ensures.sets in
    let same : store_of c.self.inside.sets c.reserve.new.self.entries c.self.inside.room ≡ c.args.self.now = ap (λ (u : List ((ℕ × ℕ) × ℕ)). store_of c.self.inside.sets u c.self.inside.room) c.reserve.ensures.entries ∙ c.self.view_is in
    labels_kept (store_of sets c.reserve.new.self.entries c.self.inside.room) c.args.self.now (store_of c.add.new.self c.insert.new.self.entries c.self.inside.room) same added.kept refl

pub returns-clause-unions_kept : goal.returns-clause-unions_kept
returns-clause-unions_kept c =
    let same : store_of c.self.inside.sets c.reserve.new.self.entries c.self.inside.room ≡ c.args.self.now = ap (λ (u : List ((ℕ × ℕ) × ℕ)). store_of c.self.inside.sets u c.self.inside.room) c.reserve.ensures.entries ∙ c.self.view_is in
    let updates = rw c.unwrap.ensures at c.insert.ensures.updates in
    let has : HasPair c.reserve.new.self.entries c.insert.new.self.entries c.args.a.0 c.args.b.0 c.in_ok-number.number = updates.0 in
    let none : None ≡ known_union c.args.self.now.unions c.args.a.0 c.args.b.0 = c.in_default.ensures in
    let miss : IsMissing c.reserve.new.self.entries c.args.a.0 c.args.b.0 = missing c.reserve.new.self.entries c.args.a.0 c.args.b.0 (ap (λ (s : InternedSets). known_union s.unions c.args.a.0 c.args.b.0) same ∙ sym none) in
    subst (λ (s : InternedSets). KeepsUnions s.unions c.insert.new.self.entries) same (unions_kept c.reserve.new.self.entries c.insert.new.self.entries c.args.a.0 c.args.b.0 c.in_ok-number.number miss has)

pub returns-clause-remembered : goal.returns-clause-remembered
returns-clause-remembered c =
    let same : store_of c.self.inside.sets c.reserve.new.self.entries c.self.inside.room ≡ c.args.self.now = ap (λ (u : List ((ℕ × ℕ) × ℕ)). store_of c.self.inside.sets u c.self.inside.room) c.reserve.ensures.entries ∙ c.self.view_is in
    let none : None ≡ known_union c.args.self.now.unions c.args.a.0 c.args.b.0 = c.in_default.ensures in
    let miss : IsMissing c.reserve.new.self.entries c.args.a.0 c.args.b.0 = missing c.reserve.new.self.entries c.args.a.0 c.args.b.0 (ap (λ (s : InternedSets). known_union s.unions c.args.a.0 c.args.b.0) same ∙ sym none) in
    let updates = rw c.unwrap.ensures at c.insert.ensures.updates in
    known_after c.reserve.new.self.entries c.insert.new.self.entries c.args.a.0 c.args.b.0 c.in_ok-number.number miss updates.1

pub returns-clause-again : goal.returns-clause-again
returns-clause-again c = λ n e.
    let none : None ≡ known_union c.args.self.now.unions c.args.a.0 c.args.b.0 = c.in_default.ensures in
    absurd (none-some n (none ∙ e))
