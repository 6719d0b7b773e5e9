-- Hashes of units.
use Rattle.std.proofs.Common.{◌≡◌, ◌≢◌, ◌∙◌, ◌<◌, ℕ, zero, suc, Bool, true, false, List, [], ◌∷◌, ◌++◌, length, get_or, Fits, w16, arith, Option, None, refl, sym, ap, subst}
use Rattle.std.specs.Cmp.Lexicographic.{bytes_decides}
use Rattle.std.specs.List.{fold}
use Rattle.std.specs.Str.{bytes_eq}
use Rattle.std.proofs.lemmas.List.Sums.{fold-append}
use Rattle.std.specs.declared.rc.Rc.{Rc}
use Rattle.std.proofs.lemmas.List.Elements.{All-append}
use Rattle.flow_text.specs.Text.{AreUnits, units_in}
use Rattle.flow_text.specs.Hashes.{hash_step, hash_of}

-- the hash grows with the units
pub hash_more : (xs ys : List ℕ) → fold hash_step (hash_of xs) ys ≡ hash_of (xs ++ ys)
unfolding hash_of
hash_more xs ys = sym (fold-append hash_step 0 xs ys)

apart : (xs ys : List ℕ) (b : Bool) → bytes_eq xs ys ≡ b → hash_of xs ≢ hash_of ys → b ≡ false
apart xs ys true is differ = absurd (differ (ap hash_of ((bytes_decides xs ys).0 is)))
apart xs ys false is differ = refl

-- units whose hashes differ, differ
pub hash_apart : (xs ys : List ℕ) → hash_of xs ≢ hash_of ys → bytes_eq xs ys ≡ false
hash_apart xs ys differ = apart xs ys _ refl differ

-- units that others follow
pub grown : (xs ys zs : List ℕ) → AreUnits xs → AreUnits ys → zs ≡ xs ++ ys → AreUnits zs
grown xs ys zs first second is = subst AreUnits (sym is) (All-append (λ u. u < 65536) xs ys first second)

pub grown_hash : (xs ys zs : List ℕ) (old new : ℕ) → old ≡ hash_of xs → new ≡ fold hash_step old ys → zs ≡ xs ++ ys → new ≡ hash_of zs
grown_hash xs ys zs old new was grows is = grows ∙ ap (λ h. fold hash_step h ys) was ∙ hash_more xs ys ∙ ap hash_of (sym is)

pub none_hash : {Z : Type 0} (shared : Option (Rc (List ℕ) Z)) (units : List ℕ) → shared ≡ None → units_in shared ≡ units → 0 ≡ hash_of units
unfolding hash_of
none_hash shared units is view = ap hash_of (ap units_in (sym is) ∙ view)

-- the units of a slice are 16-bit numbers
pub slice_units : (xs : List ℕ) → ((i : ℕ) → Fits w16 (get_or xs i 0)) → AreUnits xs
slice_units [] fit k d lt = absurd (omega arith)
slice_units (x ∷ xs) fit zero d lt = (fit 0).fits
slice_units (x ∷ xs) fit (suc k) d lt = slice_units xs (λ i. fit (suc i)) k d (omega arith)
