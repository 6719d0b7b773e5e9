-- The lines of `String`, of `fromCharCode` and of the value of a text mean their clauses.
use Rattle.std.proofs.Common.{◌≡◌, ℕ, zero, suc, ◌+◌, ◌%◌, Bool, not, [], ◌∷◌, ◌++◌, drop, codes, ℤ, pos, if◌then◌else◌, refl, ap, ◌∙◌}
use mathlib.Core.Path.{fun_ext}
use Rattle.js_number.specs.Bits.{uint32}
use Rattle.js_number.specs.Number.{integer_of}
use Rattle.js_number.specs.declared.num.Num.{Num}
use Rattle.js_number.specs.declared.primitive.Primitive.TheVariants as prims
use Rattle.js_values.specs.declared.inner.Class.TheVariants as class
use Rattle.native_protocol.specs.declared.request.Request.TheVariants.{Return}
use Rattle.native_protocol.specs.declared.request.Seen.{Seen}
use Rattle.native_protocol.specs.declared.request.Seen.TheVariants.{Prim, Object}
use Rattle.native_protocol.specs.Steps.{Steps, look, ends, leaves, is_text, reg, throws_type_error}
use Rattle.native_programs.proofs.LoopLaws.{turn_body}
use Rattle.native_programs.specs.declared.line.Ask.TheVariants as asking
use Rattle.native_programs.specs.declared.line.Count.TheVariants as count
use Rattle.native_programs.specs.declared.line.Counter.TheVariants as counter
use Rattle.native_programs.specs.declared.line.Exit.TheVariants as exit
use Rattle.native_programs.specs.declared.line.Place.TheVariants as place
use Rattle.native_programs.specs.declared.line.Sight.TheVariants as sight
use Rattle.native_programs.specs.declared.line.Whole.TheVariants as whole
use Rattle.native_programs.specs.declared.values.Values.{Values}
use Rattle.native_programs.specs.Choosing.{count_between, is_string_object, passed}
use Rattle.native_programs.specs.Clauses.{argument_at, gives}
use Rattle.native_programs.specs.Meaning.{each, fails, meaning, means}
use Rattle.native_programs.specs.Values.{values_begin}
use Rattle.native_programs.specs.Wordings.{has_room, unit_of}
use Rattle.string_natives.specs.declared.constructor.TheConstants.{STRING, FROM_CHAR_CODE, VALUE}
use Rattle.string_natives.specs.Values.{Growing, growing, string, unit_added, from_char_code, text_value, to_number, value_of_text}
use Rattle.string_natives.proofs.TextLaws.{all_passed, unit_is}

pub string_means : (argc : ℕ) (construct : Bool) → means STRING argc construct ≡ string argc construct
string_means argc construct = refl

-- ---- fromCharCode

-- how many arguments there are, which is next, the text so far, and the unit that was added last
at_unit : ℕ → Bool → ℤ → Growing → Values
at_unit argc construct unit g = record (values_begin argc construct) { items = passed argc 0; index = pos g.at; count = unit; result = g.text }

-- a turn of the loop
unit_turn : Values → (Values → Steps) → Steps
unit_turn =
    turn_body (count.Up counter.Index counter.Items) (asking.Number (place.ArgumentAt 0 counter.Index) sight.Anything counter.Count whole.Uint16 exit.Stay)
    (drop 2 FROM_CHAR_CODE) (meaning (suc zero) (drop 2 FROM_CHAR_CODE) fails fails)

units_added : (argc : ℕ) (construct : Bool) (n : ℕ) (unit : ℤ) (g : Growing)
    → each n unit_turn (meaning (suc zero) (drop 2 FROM_CHAR_CODE) fails fails) (at_unit argc construct unit g) ≡ each n (unit_added argc) (λ h. gives argc (prims.Str h.text)) g
unfolding at_unit unit_turn each
units_added argc construct zero unit g = refl
units_added argc construct (suc n) unit g =
    ap (λ (f : Num → Steps). to_number argc (argument_at 0 (pos g.at)) f)
    (fun_ext (λ x.
    ap (λ (s : Steps). if has_room g.text then s else leaves (codes "string"))
    (units_added argc construct n (pos (uint32 (integer_of x) % 65536)) (growing (g.at + 1) (g.text ++ unit_of (pos (uint32 (integer_of x) % 65536)) ∷ []))
    ∙ ap (λ u. each n (unit_added argc) (λ h. gives argc (prims.Str h.text)) (growing (g.at + 1) (g.text ++ u ∷ []))) (unit_is (integer_of x)))))

pub from_char_code_means : (argc : ℕ) (construct : Bool) → means FROM_CHAR_CODE argc construct ≡ from_char_code argc
unfolding at_unit unit_turn
from_char_code_means argc construct =
    units_added argc construct (count_between (pos 0) (passed argc 0)) (pos 0) (growing 0 [])
    ∙ ap (λ n. each n (unit_added argc) (λ h. gives argc (prims.Str h.text)) (growing 0 [])) (all_passed argc)

-- ---- toString and valueOf

value_seen : (s : Seen) → (if is_string_object s then leaves (codes "wrapper") else (if not (is_text s) then throws_type_error else ends (Return (reg 0)))) ≡ text_value s
value_seen (Prim prims.Undefined) = refl
value_seen (Prim prims.Null) = refl
value_seen (Prim (prims.Bool b)) = refl
value_seen (Prim (prims.Num n)) = refl
value_seen (Prim (prims.Str t)) = refl
value_seen (Object class.String) = refl
value_seen (Object c) = refl

pub value_means : (argc : ℕ) (construct : Bool) → means VALUE argc construct ≡ value_of_text
value_means argc construct = ap (λ (f : Seen → Steps). look (reg 0) f) (fun_ext value_seen)
