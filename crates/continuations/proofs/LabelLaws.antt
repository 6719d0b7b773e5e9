-- Labels in front of statements.
use Rattle.std.proofs.Common.{refl, ap, ◌∙◌, ◌≡◌, ◌≢◌, ◌-◌, arith, Some, None, ℕ, zero, suc, Bool, true, false, List, ◌∷◌}
use Rattle.js_ast.specs.Trees.{Statement, labelled}
use Rattle.continuations.specs.Shapes.{body_behind, inner_of, all_labels, behind_labels, passed_labels}

-- no label stands in front
abbrev pub is_bare : Statement → Bool
is_bare (labelled at text s) = false
is_bare s = true

inner_bare : (s : Statement) → is_bare s ≡ true → inner_of s ≡ s
unfolding inner_of
inner_bare (labelled at text s) e = cc e
inner_bare s e = refl

all_bare : (labels : List (List ℕ)) (s : Statement) → is_bare s ≡ true → all_labels labels s ≡ labels
unfolding all_labels
all_bare labels (labelled at text s) e = cc e
all_bare labels s e = refl

-- behind all labels stands what none stands in front of
pub inner_behind : (n : ℕ) (s : Statement) → is_bare (behind_labels n s) ≡ true → inner_of s ≡ behind_labels n s
unfolding inner_of
inner_behind zero s e = inner_bare s e
inner_behind (suc n) (labelled at text s) e = inner_behind n s e
inner_behind (suc n) s e = refl

pub labels_behind : (n : ℕ) (labels : List (List ℕ)) (s : Statement) → is_bare (behind_labels n s) ≡ true → all_labels labels s ≡ passed_labels n labels s
unfolding all_labels
labels_behind zero labels s e = all_bare labels s e
labels_behind (suc n) labels (labelled at text s) e = labels_behind n (text ∷ labels) s e
labels_behind (suc n) labels s e = refl

-- one more of them
pub labels_more : (n : ℕ) (labels : List (List ℕ)) (s : Statement) (at : ℕ) (text : List ℕ) (t : Statement) → behind_labels n s ≡ labelled at text t → passed_labels (suc n) labels s ≡ text ∷ passed_labels n labels s
labels_more zero labels s at text t e = ap (λ x. passed_labels 1 labels x) e
labels_more (suc n) labels (labelled place name s) at text t e = labels_more n (name ∷ labels) s at text t e
labels_more (suc n) labels s at text t e = cc e

pub behind_one : (n : ℕ) (s : Statement) (at : ℕ) (text : List ℕ) (t : Statement) → behind_labels n s ≡ labelled at text t → behind_labels (suc n) s ≡ t
behind_one zero s at text t e = ap (λ x. behind_labels 1 x) e
behind_one (suc n) (labelled place name s) at text t e = behind_one n s at text t e
behind_one (suc n) s at text t e = cc e

pub behind_bare : (n : ℕ) (s : Statement) → body_behind s ≡ None → behind_labels n s ≡ s
behind_bare zero s e = refl
behind_bare (suc n) (labelled at text s) e = cc e
behind_bare (suc n) s e = refl

-- by the statement behind one label
pub inner_body : (s t : Statement) → body_behind s ≡ Some t → inner_of s ≡ inner_of t
unfolding inner_of
inner_body (labelled at text s) t e = ap inner_of {x = s} {y = t} (cc e)
inner_body s t e = cc e

pub inner_alone : (s : Statement) → body_behind s ≡ None → inner_of s ≡ s
unfolding inner_of
inner_alone (labelled at text s) e = cc e
inner_alone s e = refl

pub behind_body : (n : ℕ) (s t : Statement) → n ≢ 0 → body_behind s ≡ Some t → behind_labels (n - 1) t ≡ behind_labels n s
behind_body zero s t some e = absurd (some refl)
behind_body (suc n) (labelled at text s) t some e = let one : suc n - 1 ≡ n = omega arith in ap (λ k. behind_labels k t) one ∙ ap (behind_labels n) {x = t} {y = s} (cc e)
behind_body (suc n) s t some e = cc e
