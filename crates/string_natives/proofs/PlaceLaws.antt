-- The lines of what looks for places and units of a text mean their clauses.
use Rattle.std.proofs.Common.{◌≡◌, ℕ, ◌<◌, ◌≤◌, Bool, true, false, cond, ltb, not, List, [], length, Some, ℤ, pos, negsuc, ◌+ℤ◌, if◌then◌else◌, refl, sym, ap, ◌∙◌, arith, le-ltb, ltb-true, ltb-false}
use Rattle.std.specs.Prelude.{int_lt}
use mathlib.Core.Path.{fun_ext}
use Rattle.js_number.specs.Number.{integer_of}
use Rattle.js_number.specs.declared.num.Num.{Num}
use Rattle.js_number.specs.declared.num.Num.TheVariants.{Nan, Int}
use Rattle.js_number.specs.declared.primitive.Primitive.{Primitive}
use Rattle.js_number.specs.declared.primitive.Primitive.TheVariants as prims
use Rattle.native_protocol.specs.Steps.{Steps}
use Rattle.native_programs.specs.Choosing.{is_nan, unit_at, within}
use Rattle.native_programs.specs.Clauses.{gives, integer}
use Rattle.native_programs.specs.Meaning.{means}
use Rattle.native_programs.specs.Searching.{found_back_in}
use Rattle.native_programs.specs.Wordings.{part_of}
use Rattle.string_natives.specs.declared.places.TheConstants.{CHAR_AT, CHAR_CODE_AT, TEXT_INDEX_OF, TEXT_LAST_INDEX_OF}
use Rattle.string_natives.specs.Places.{text_at, char_at, code_at, char_code_at, index_by, index_of, last_index_in, last_index_by, last_index_of}
use Rattle.string_natives.specs.Texts.{text_of_unit, number_of_unit}
use Rattle.string_natives.specs.Values.{argument, this_text}
use Rattle.string_natives.proofs.TextLaws.{clamped_is, text_here, code_here, none_here, index_is}

-- ---- charAt and charCodeAt

-- a place that isn't below 0 or past the end has what is made of it
placed : ℕ → (List ℕ → ℤ → Primitive) → Primitive → List ℕ → ℤ → Steps
placed argc made none units place = if int_lt place (pos 0) then gives argc none else (if not (int_lt place (pos (length units))) then gives argc none else gives argc (made units place))

placed_at : (t : Bool) (argc : ℕ) (units : List ℕ) (k : ℕ) (made clause : List ℕ → ℤ → Primitive) (none : Primitive)
    → (k < length units → made units (pos k) ≡ clause units (pos k)) → (length units ≤ k → none ≡ clause units (pos k))
    → ltb k (length units) ≡ t → cond (not t) (gives argc none) (gives argc (made units (pos k))) ≡ gives argc (clause units (pos k))
placed_at true argc units k made clause none h i e = ap (gives argc) (h (ltb-true k (length units) e))
placed_at false argc units k made clause none h i e = ap (gives argc) (i (ltb-false k (length units) e))

placed_is : (argc : ℕ) (units : List ℕ) (place : ℤ) (made clause : List ℕ → ℤ → Primitive) (none : Primitive)
    → ((k : ℕ) → k < length units → made units (pos k) ≡ clause units (pos k)) → ((k : ℕ) → length units ≤ k → none ≡ clause units (pos k)) → ((k : ℕ) → none ≡ clause units (negsuc k))
    → placed argc made none units place ≡ gives argc (clause units place)
unfolding placed
placed_is argc units (pos k) made clause none h i j =
    ap (λ t. cond t (gives argc none) (cond (not (ltb k (length units))) (gives argc none) (gives argc (made units (pos k))))) (le-ltb k 0 (omega arith))
    ∙ placed_at (ltb k (length units)) argc units k made clause none (h k) (i k) refl
placed_is argc units (negsuc k) made clause none h i j = ap (gives argc) (j k)

part_at : List ℕ → ℤ → Primitive
part_at units place = prims.Str (part_of units place (place +ℤ pos 1))

text_placed : (argc : ℕ) (units : List ℕ) (place : ℤ) → placed argc part_at (prims.Str []) units place ≡ gives argc (text_at units place)
unfolding part_at
text_placed argc units place =
    placed_is argc units place part_at text_at (prims.Str []) (λ k h. ap prims.Str (text_here units k h)) (λ k h. ap (λ o. prims.Str (text_of_unit o)) (sym (none_here units k h))) (λ k. refl)

placing_by : (List ℕ → ℤ → Steps) → ℕ → Steps
placing_by steps argc = this_text argc (λ units. integer argc (argument 0) (steps units))

pub char_at_means : (argc : ℕ) (construct : Bool) → means CHAR_AT argc construct ≡ char_at argc
unfolding placed part_at placing_by
char_at_means argc construct = ap (λ (steps : List ℕ → ℤ → Steps). placing_by steps argc) (fun_ext (λ units. fun_ext (text_placed argc units)))

unit_number : List ℕ → ℤ → Primitive
unit_number units place = prims.Num (Int (unit_at units place))

code_placed : (argc : ℕ) (units : List ℕ) (place : ℤ) → placed argc unit_number (prims.Num Nan) units place ≡ gives argc (code_at units place)
unfolding unit_number
code_placed argc units place =
    placed_is argc units place unit_number code_at (prims.Num Nan) (λ k h. ap prims.Num (code_here units k h)) (λ k h. ap (λ o. prims.Num (number_of_unit o)) (sym (none_here units k h))) (λ k. refl)

pub char_code_at_means : (argc : ℕ) (construct : Bool) → means CHAR_CODE_AT argc construct ≡ char_code_at argc
unfolding placed unit_number placing_by
char_code_at_means argc construct = ap (λ (steps : List ℕ → ℤ → Steps). placing_by steps argc) (fun_ext (λ units. fun_ext (code_placed argc units)))

-- ---- indexOf and lastIndexOf

pub index_of_means : (argc : ℕ) (construct : Bool) → means TEXT_INDEX_OF argc construct ≡ index_of argc
index_of_means argc construct = ap (λ (index : List ℕ → List ℕ → ℤ → ℤ). index_by index argc) (fun_ext (λ units. fun_ext (λ sought. fun_ext (index_is units sought))))

last_at : ℕ → List ℕ → List ℕ → ℤ → Steps
last_at argc units sought start = gives argc (prims.Num (Int (found_back_in units sought (within start (pos (length units))))))

last_steps : ℕ → List ℕ → List ℕ → Num → Steps
last_steps argc units sought position = if is_nan (Some position) then last_at argc units sought (pos (length units)) else last_at argc units sought (integer_of position)

last_is : (argc : ℕ) (units sought : List ℕ) (position : Num) → last_steps argc units sought position ≡ gives argc (prims.Num (Int (last_index_in units sought position)))
unfolding last_at last_steps
last_is argc units sought Nan =
    ap (λ n. gives argc (prims.Num (Int (found_back_in units sought n)))) (clamped_is (pos (length units)) (length units) ∙ ap pos (omega arith))
last_is argc units sought (Int n) = ap (λ k. gives argc (prims.Num (Int (found_back_in units sought k)))) (clamped_is n (length units))

pub last_index_of_means : (argc : ℕ) (construct : Bool) → means TEXT_LAST_INDEX_OF argc construct ≡ last_index_of argc
unfolding last_at last_steps
last_index_of_means argc construct =
    ap (λ (steps : List ℕ → List ℕ → Num → Steps). last_index_by steps argc) (fun_ext (λ units. fun_ext (λ sought. fun_ext (last_is argc units sought))))
