-- Lines and positions that an observer can't tell apart.
use Rattle.std.proofs.Common.{◌≡◌, ℕ, zero, suc, ◌+◌, List, [], ◌∷◌, ◌++◌, length, Bool, true, false, cond, Option, Some, None, slice_get, slice_index, slice_set, ⊎_elim, refl, sym, ◌∙◌, ap, subst, arith, append-nil, length-set, get_or-set_other}
use Rattle.std.specs.List.{filter}
use Rattle.std.proofs.lemmas.Bool.{cases_eq}
use Rattle.std.proofs.lemmas.Option.{same_Some}
use Rattle.std.proofs.lemmas.List.Elements.{filter-append}
use Rattle.origin_labels.specs.Label.{Label}
use Rattle.flow_policy.specs.declared.policy.Channel.{Channel}
use Rattle.flow_policy.specs.Policies.{Tables}
use Rattle.es_meaning.specs.Plain.{positions_behind}
use Rattle.flow_meaning.specs.Scopes.{LabelledLine}
use Rattle.low_equal.specs.Observed.{Sees, Hides, Front, empty, longer, SameLines, FrontLines, seen_lines, labelled_lines}
use Rattle.low_equal.specs.LowEqual.{PositionsAgree}
use Rattle.low_equal.proofs.Labels.{not_both}

-- ---- fronts

pub front_refl : {A : Type 0} (xs : List A) → Front xs xs
front_refl [] = empty
front_refl (x ∷ xs) = longer (front_refl xs)

pub front_trans : {A : Type 0} {xs ys zs : List A} → Front xs ys → Front ys zs → Front xs zs
front_trans empty q = empty
front_trans (longer p) (longer q) = longer (front_trans p q)

pub front_more : {A : Type 0} (xs ys : List A) → Front xs (xs ++ ys)
front_more [] ys = empty
front_more (x ∷ xs) ys = longer (front_more xs ys)

pub front_equal : {A : Type 0} {xs ys : List A} → xs ≡ ys → Front xs ys
front_equal {xs = xs} e = subst (Front xs) e (front_refl xs)

front_test : {A : Type 0} (b : Bool) (x : A) {xs ys : List A} → Front xs ys → Front (cond b (x ∷ xs) xs) (cond b (x ∷ ys) ys)
front_test true x f = longer f
front_test false x f = f

-- what passes a test of a front is a front of what passes it
pub front_filter : {A : Type 0} (p : A → Bool) {xs ys : List A} → Front xs ys → Front (filter p xs) (filter p ys)
front_filter p empty = empty
front_filter p (longer {x = x} f) = front_test (p x) x (front_filter p f)

-- ---- lists

-- a further element that fails the test changes nothing
filter_hidden : {X : Type 0} (p : X → Bool) (xs : List X) (x : X) → p x ≡ false → filter p xs ≡ filter p (xs ++ x ∷ [])
filter_hidden p xs x e = sym (filter-append p xs (x ∷ []) ∙ ap (λ (b : Bool). filter p xs ++ cond b (x ∷ []) []) e ∙ append-nil (filter p xs))

-- the same further element keeps lists of passing ones equal
filter_both : {X : Type 0} (p : X → Bool) (xs ys : List X) (x : X) → filter p xs ≡ filter p ys → filter p (xs ++ x ∷ []) ≡ filter p (ys ++ x ∷ [])
filter_both {X} p xs ys x e = filter-append p xs (x ∷ []) ∙ ap (λ (zs : List X). zs ++ filter p (x ∷ [])) e ∙ sym (filter-append p ys (x ∷ []))

-- a number is written at one place of two lists of one length
set_both : (ps qs : List ℕ) (i n m : ℕ) → length ps ≡ length qs → n ≡ m → slice_index (slice_set ps i n) i ≡ slice_index (slice_set qs i m) i
set_both [] [] i n m e h = refl
set_both [] (q ∷ qs) i n m e h = absurd (omega arith)
set_both (p ∷ ps) [] i n m e h = absurd (omega arith)
set_both (p ∷ ps) (q ∷ qs) zero n m e h = h
set_both (p ∷ ps) (q ∷ qs) (suc i) n m e h = set_both ps qs i n m (omega arith) h

-- as many positions stand behind a read
pub length_behind : (i : ℕ) (line : Option (List ℕ)) (ps : List ℕ) → length (positions_behind i line ps) ≡ length ps
length_behind i (Some text) ps = length-set ps i _
length_behind i None ps = refl

-- a read moves no other position
behind_other : (i : ℕ) (line : Option (List ℕ)) (ps : List ℕ) (j : ℕ) → (j ≡ i → ⊥) → slice_index (positions_behind i line ps) j ≡ slice_index ps j
behind_other i (Some text) ps j ne = get_or-set_other ps i j _ 0 ne
behind_other i None ps j ne = refl

-- where the same line is read, the positions behind agree
behind_same : (i : ℕ) (line : Option (List ℕ)) (ps qs : List ℕ) → length ps ≡ length qs → slice_index ps i ≡ slice_index qs i → slice_index (positions_behind i line ps) i ≡ slice_index (positions_behind i line qs) i
behind_same i (Some text) ps qs l e = set_both ps qs i _ _ l (ap (λ n. n + 1) e)
behind_same i None ps qs l e = e

module _ (observer : Label) (tables : Tables) where
  -- ---- lines

  pub lines_refl : (ls : List LabelledLine) → SameLines observer tables ls ls
  lines_refl ls = record { on_channels = refl; by_labels = refl }

  pub lines_sym : {ls ms : List LabelledLine} → SameLines observer tables ls ms → SameLines observer tables ms ls
  lines_sym r = record { on_channels = sym r.on_channels; by_labels = sym r.by_labels }

  pub lines_trans : {ls ms ns : List LabelledLine} → SameLines observer tables ls ms → SameLines observer tables ms ns → SameLines observer tables ls ns
  lines_trans r q = record { on_channels = r.on_channels ∙ q.on_channels; by_labels = r.by_labels ∙ q.by_labels }

  pub lines_front : {ls ms : List LabelledLine} → SameLines observer tables ls ms → FrontLines observer tables ls ms
  lines_front r = record { on_channels = front_equal r.on_channels; by_labels = front_equal r.by_labels }

  pub front_lines : {ls ms : List LabelledLine} → Front ls ms → FrontLines observer tables ls ms
  front_lines f = record { on_channels = front_filter _ f; by_labels = front_filter _ f }

  pub fronts_trans : {ls ms ns : List LabelledLine} → FrontLines observer tables ls ms → FrontLines observer tables ms ns → FrontLines observer tables ls ns
  fronts_trans r q = record { on_channels = front_trans r.on_channels q.on_channels; by_labels = front_trans r.by_labels q.by_labels }

  -- a line that is hidden both ways
  pub lines_hidden : (ls : List LabelledLine) (l : LabelledLine) → Rattle.low_equal.specs.Observed.on_seen_channel observer tables l ≡ false → Hides observer l.label → SameLines observer tables ls (ls ++ l ∷ [])
  lines_hidden ls l e h = record { on_channels = filter_hidden _ ls l e; by_labels = filter_hidden _ ls l h }

  -- one line on both sides
  pub lines_both : {ls ms : List LabelledLine} (l : LabelledLine) → SameLines observer tables ls ms → SameLines observer tables (ls ++ l ∷ []) (ms ++ l ∷ [])
  lines_both {ls} {ms} l r = record { on_channels = filter_both _ ls ms l r.on_channels; by_labels = filter_both _ ls ms l r.by_labels }

  -- ---- positions

  pub positions_refl : (ps : List ℕ) → PositionsAgree observer tables ps ps
  positions_refl ps i c at s = refl

  pub positions_sym : (ps qs : List ℕ) → PositionsAgree observer tables ps qs → PositionsAgree observer tables qs ps
  positions_sym ps qs r i c at s = sym (r i c at s)

  pub positions_trans : (ps qs rs : List ℕ) → PositionsAgree observer tables ps qs → PositionsAgree observer tables qs rs → PositionsAgree observer tables ps rs
  positions_trans ps qs rs r q i c at s = r i c at s ∙ q i c at s

  -- a read of a hidden channel can't be told
  pub positions_hidden : (i : ℕ) (c : Channel) (line : Option (List ℕ)) (ps : List ℕ) → slice_get tables.inputs i ≡ Some c → Hides observer c.label → PositionsAgree observer tables ps (positions_behind i line ps)
  positions_hidden i c line ps at h j d at_j s = ⊎_elim (λ e. absurd (same e)) (λ ne. sym (behind_other i line ps j ne)) (cases_eq j i)
    where
      same : j ≡ i → ⊥
      same e = not_both observer c.label (subst (λ (x : Channel). Sees observer x.label) (same_Some d c (sym at_j ∙ ap (slice_get tables.inputs) e ∙ at)) s) h

  -- a read of one line on both sides
  pub positions_both : (i : ℕ) (c : Channel) (line : Option (List ℕ)) (ps qs : List ℕ) → slice_get tables.inputs i ≡ Some c → Sees observer c.label → length ps ≡ length qs → PositionsAgree observer tables ps qs
      → PositionsAgree observer tables (positions_behind i line ps) (positions_behind i line qs)
  positions_both i c line ps qs at s l r j d at_j t = ⊎_elim (λ e. same e) (λ ne. behind_other i line ps j ne ∙ r j d at_j t ∙ sym (behind_other i line qs j ne)) (cases_eq j i)
    where
      same : j ≡ i → slice_index (positions_behind i line ps) j ≡ slice_index (positions_behind i line qs) j
      same e = subst (λ k. slice_index (positions_behind i line ps) k ≡ slice_index (positions_behind i line qs) k) (sym e) (behind_same i line ps qs l (r i c at s))
