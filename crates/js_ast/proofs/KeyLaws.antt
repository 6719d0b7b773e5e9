-- The order of texts, turned round and at the end of one of them.
use Rattle.std.proofs.Common.{refl, sym, ap, ◌∙◌, ◌≡◌, ◌<◌, ℕ, List, [], ◌∷◌, length, arith}
use Rattle.std.specs.Cmp.{nat_cmp_is}
use Rattle.std.specs.Cmp.Lexicographic.{slice_cmp}
use Rattle.std.specs.Ordering.{nat_cmp, ordering_reverse}
use Rattle.std.specs.declared.cmp.Ordering.{Ordering}
use Rattle.std.specs.declared.cmp.Ordering.TheVariants.{Less, Greater}
use Rattle.std.proofs.lemmas.Cmp.{nat_list_cmp_total}

-- the other way round
pub texts_turned : (xs ys : List ℕ) (o : Ordering) → o ≡ slice_cmp nat_cmp xs ys → ordering_reverse o ≡ slice_cmp nat_cmp ys xs
texts_turned xs ys o e = ap ordering_reverse e ∙ sym (nat_list_cmp_total.antisymm ys xs)

-- where one has ended, the length of the other decides
pub text_ended : (xs ys : List ℕ) → length xs < 1 → slice_cmp nat_cmp xs ys ≡ nat_cmp 0 (length ys)
text_ended [] [] h = refl
text_ended [] (y ∷ ys) h = nat_cmp_is 0 (length (y ∷ ys)) Less (omega arith)
text_ended (x ∷ xs) ys h = absurd (omega arith)

pub other_ended : (xs ys : List ℕ) → length ys < 1 → slice_cmp nat_cmp xs ys ≡ nat_cmp (length xs) 0
other_ended [] [] h = refl
other_ended (x ∷ xs) [] h = nat_cmp_is (length (x ∷ xs)) 0 Greater (omega arith)
other_ended xs (y ∷ ys) h = absurd (omega arith)
