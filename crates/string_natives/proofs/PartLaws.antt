-- The lines of what makes a text of texts mean their clauses.
use Rattle.std.proofs.Common.{◌≡◌, ℕ, zero, Bool, List, drop, ℤ, pos, refl, ap, ◌∙◌}
use mathlib.Core.Path.{fun_ext}
use Rattle.js_number.specs.declared.primitive.Primitive.TheVariants.{Str}
use Rattle.native_protocol.specs.Steps.{Steps}
use Rattle.native_programs.proofs.EachLaws.{each_alike}
use Rattle.native_programs.specs.declared.values.Values.{Values}
use Rattle.native_programs.specs.Choosing.{count_between, passed}
use Rattle.native_programs.specs.Clauses.{gives}
use Rattle.native_programs.specs.Meaning.{each, fails, meaning, means}
use Rattle.native_programs.specs.Values.{values_begin}
use Rattle.string_natives.specs.declared.parts.TheConstants.{TEXT_CONCAT, TEXT_SLICE, SUBSTRING, TO_LOWER_CASE, TO_UPPER_CASE, TRIM}
use Rattle.string_natives.specs.Parts.{text_added, all_added, concat, part_by, slice, substring, to_lower_case, to_upper_case, trim}
use Rattle.string_natives.specs.Values.{Growing, growing, this_text}
use Rattle.string_natives.proofs.TextLaws.{all_passed, sliced_is, substring_is}

-- how many arguments there are, which is next, and the text so far
at_text : ℕ → Bool → Growing → Values
at_text argc construct g = record (values_begin argc construct) { items = passed argc 0; index = pos g.at; result = g.text }

texts_added : (argc : ℕ) (construct : Bool) (units : List ℕ) → meaning zero (drop 2 TEXT_CONCAT) fails fails (at_text argc construct (growing 0 units)) ≡ all_added argc units
unfolding at_text
texts_added argc construct units =
    each_alike (at_text argc construct) _ _ _ _ (λ again g. refl) (λ g. refl) (count_between (pos 0) (passed argc 0)) (growing 0 units)
    ∙ ap (λ n. each n (text_added argc) (λ g. gives argc (Str g.text)) (growing 0 units)) (all_passed argc)

pub concat_means : (argc : ℕ) (construct : Bool) → means TEXT_CONCAT argc construct ≡ concat argc
unfolding at_text
concat_means argc construct = ap (λ (adds : List ℕ → Steps). this_text argc adds) (fun_ext (texts_added argc construct))

pub slice_means : (argc : ℕ) (construct : Bool) → means TEXT_SLICE argc construct ≡ slice argc
slice_means argc construct = ap (λ (part : List ℕ → ℤ → ℤ → List ℕ). part_by part argc) (fun_ext (λ units. fun_ext (λ a. fun_ext (sliced_is units a))))

pub substring_means : (argc : ℕ) (construct : Bool) → means SUBSTRING argc construct ≡ substring argc
substring_means argc construct = ap (λ (part : List ℕ → ℤ → ℤ → List ℕ). part_by part argc) (fun_ext (λ units. fun_ext (λ a. fun_ext (substring_is units a))))

pub to_lower_case_means : (argc : ℕ) (construct : Bool) → means TO_LOWER_CASE argc construct ≡ to_lower_case argc
to_lower_case_means argc construct = refl

pub to_upper_case_means : (argc : ℕ) (construct : Bool) → means TO_UPPER_CASE argc construct ≡ to_upper_case argc
to_upper_case_means argc construct = refl

pub trim_means : (argc : ℕ) (construct : Bool) → means TRIM argc construct ≡ trim argc
trim_means argc construct = refl
