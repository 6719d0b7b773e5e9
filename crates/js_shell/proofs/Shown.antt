-- What is shown of a value that leaves a script stands on one line.
use Rattle.std.proofs.Common.{◌≡◌, ℕ, zero, suc, ◌+◌, ◌<◌, ◌%◌, ◌/◌, Bool, true, false, cond, not, nat_lt, ◌==◌, List, [], ◌∷◌, ◌++◌, pos, negsuc, ℤ, Option, Some, None, refl, sym, ap, ◌∙◌, codes, arith, slice_get}
use Rattle.std.specs.List.{list_all}
use Rattle.std.specs.Fmt.{decimal, signed_decimal, digits, digits_onto, digit_glyph}
use Rattle.std.proofs.lemmas.Bool.{and_from, lt-ltb, ne_eqb}
use Rattle.flow_text.specs.Utf8.{utf8_of}
use Rattle.flow_text.specs.Written.{escaped}
use Rattle.flow_text.proofs.Laws.{no_line_end, ascii_bytes, ascii_front_bytes}
use Rattle.flow_policy.specs.Policies.{Tables}
use Rattle.flow_policy.specs.Inputs.{Given}
use Rattle.js_ast.specs.Functions.{functions_of}
use Rattle.js_ast.specs.Trees.{Statements}
use Rattle.js_number.specs.declared.num.Num.TheVariants as nums
use Rattle.js_number.specs.declared.primitive.Primitive.{Primitive}
use Rattle.js_number.specs.declared.primitive.Primitive.TheVariants as prims
use Rattle.js_values.specs.declared.value.Value.{Value}
use Rattle.js_values.specs.declared.value.Value.TheVariants as value
use Rattle.js_values.specs.declared.inner.Class.{Class}
use Rattle.js_values.specs.declared.inner.Class.TheVariants as class
use Rattle.js_values.specs.declared.property.Body.{Body}
use Rattle.js_values.specs.declared.property.Body.TheVariants.{Data, Accessor}
use Rattle.js_values.specs.Objects.{Property, PlainObject}
use Rattle.js_values.specs.Walks.{plain_chain, plain_find}
use Rattle.es_meaning.specs.BuiltIns.{BuiltIns}
use Rattle.es_meaning.specs.Outcomes.{threw, Outcome, Goes, Jumps, Ends}
use Rattle.es_meaning.specs.Evaluation.{program_step}
use Rattle.es_meaning.specs.Plain.{may_declare, outermost_env}
use Rattle.es_meaning.specs.Start.{shown, shown_primitive, shown_name, shown_body, shown_found, shown_class, class_name}
use Rattle.flow_meaning.specs.Erased.{erased_heap}
use Rattle.flow_meaning.specs.Scopes.{Halt, State, Jump}
use Rattle.flow_meaning.specs.Tracked.{timed, start, run_of, tracked_run}
use Rattle.step_run.proofs.Views.{on_line, line_behind}

-- ---- texts without LF, whose bytes are their units

-- ASCII, and no LF
record IsSimple (text : List ℕ) : Type 0 where
  ascii : list_all (λ u. nat_lt u 128) text ≡ true
  line : on_line text ≡ true

simple_more : (u : ℕ) (text : List ℕ) → u < 128 → (u ≡ 10 → ⊥) → IsSimple text → IsSimple (u ∷ text)
simple_more u text small other h = record { ascii = and_from (nat_lt u 128) _ (lt-ltb u 128 small) h.ascii; line = and_from (not (u == 10)) _ (ap not (ne_eqb u 10 other)) h.line }

-- behind such a front the bytes of a text stand on the line if they do without it
front_line : (front rest : List ℕ) → IsSimple front → on_line (utf8_of rest) ≡ true → on_line (utf8_of (front ++ rest)) ≡ true
front_line front rest h r = ap on_line (ascii_front_bytes front rest h.ascii) ∙ line_behind front (utf8_of rest) h.line r

whole_line : (text : List ℕ) → IsSimple text → on_line (utf8_of text) ≡ true
whole_line text h = ap on_line (ascii_bytes text h.ascii) ∙ h.line

-- ---- numbers

glyph_simple : (n : ℕ) (text : List ℕ) → IsSimple text → IsSimple (digit_glyph false (n % 10) ∷ text)
glyph_simple n text h =
    let small : nat_lt (n % 10) 10 ≡ true = lt-ltb (n % 10) 10 (omega arith) in
    rw small (simple_more (48 + n % 10) text (omega arith) (λ e. omega arith) h)

either_simple : (b : Bool) (xs ys : List ℕ) → IsSimple xs → IsSimple ys → IsSimple (cond b xs ys)
either_simple true xs ys p q = p
either_simple false xs ys p q = q

digits_simple : (k n : ℕ) (text : List ℕ) → IsSimple text → IsSimple (digits_onto k 10 false n text)
digits_simple zero n text h = h
digits_simple (suc k) n text h = let last = glyph_simple n text h in either_simple (n / 10 == 0) _ _ last (digits_simple k (n / 10) (digit_glyph false (n % 10) ∷ text) last)

decimal_simple : (n : ℕ) → IsSimple (decimal n)
unfolding digits
decimal_simple n = digits_simple 64 n [] (record { ascii = refl; line = refl })

number_simple : (n : ℤ) → IsSimple (signed_decimal n)
number_simple (pos n) = decimal_simple n
number_simple (negsuc n) = simple_more 45 (decimal (suc n)) (omega arith) (λ e. omega arith) (decimal_simple (suc n))

-- ---- values

primitive_line : (p : Primitive) → on_line (utf8_of (shown_primitive p)) ≡ true
primitive_line prims.Undefined = whole_line (codes "undefined") (record { ascii = refl; line = refl })
primitive_line prims.Null = whole_line (codes "null") (record { ascii = refl; line = refl })
primitive_line (prims.Bool true) = whole_line (codes "boolean true") (record { ascii = refl; line = refl })
primitive_line (prims.Bool false) = whole_line (codes "boolean false") (record { ascii = refl; line = refl })
primitive_line (prims.Num nums.Nan) = whole_line (codes "number NaN") (record { ascii = refl; line = refl })
primitive_line (prims.Num (nums.Int n)) = front_line (codes "number ") (signed_decimal n) (record { ascii = refl; line = refl }) (whole_line (signed_decimal n) (number_simple n))
primitive_line (prims.Str text) = front_line (codes "string ") (escaped text) (record { ascii = refl; line = refl }) (no_line_end text)

nothing_line : on_line (utf8_of []) ≡ true
nothing_line = whole_line [] (record { ascii = refl; line = refl })

name_line : (v : Value) → on_line (utf8_of (shown_name v)) ≡ true
name_line (value.Primitive (prims.Str text)) = front_line (32 ∷ []) (escaped text) (record { ascii = refl; line = refl }) (no_line_end text)
name_line (value.Primitive prims.Undefined) = nothing_line
name_line (value.Primitive prims.Null) = nothing_line
name_line (value.Primitive (prims.Bool b)) = nothing_line
name_line (value.Primitive (prims.Num n)) = nothing_line
name_line (value.Object o) = nothing_line

body_line : (b : Body) → on_line (utf8_of (shown_body b)) ≡ true
body_line (Data v) = name_line v
body_line (Accessor get set) = nothing_line

found_line : (o : Option (ℕ × Property)) → on_line (utf8_of (shown_found o)) ≡ true
found_line None = nothing_line
found_line (Some f) = body_line f.1.body

class_simple : (c : Class) → IsSimple (class_name c)
class_simple class.Object = record { ascii = refl; line = refl }
class_simple class.Function = record { ascii = refl; line = refl }
class_simple class.Array = record { ascii = refl; line = refl }
class_simple class.Arguments = record { ascii = refl; line = refl }
class_simple class.Error = record { ascii = refl; line = refl }
class_simple class.Math = record { ascii = refl; line = refl }
class_simple class.Json = record { ascii = refl; line = refl }
class_simple class.String = record { ascii = refl; line = refl }
class_simple class.Number = record { ascii = refl; line = refl }
class_simple class.Boolean = record { ascii = refl; line = refl }

named_line : (o : Option PlainObject) (name : List ℕ) → on_line (utf8_of name) ≡ true → on_line (utf8_of (shown_class o ++ name)) ≡ true
named_line None name h = h
named_line (Some p) name h = front_line (class_name p.class) name (class_simple p.class) h

shown_line : (heap : List PlainObject) (v : Value) → on_line (utf8_of (shown heap v)) ≡ true
unfolding shown
shown_line heap (value.Primitive p) = primitive_line p
shown_line heap (value.Object o) =
    front_line (codes "object ") _ (record { ascii = refl; line = refl })
    (named_line (slice_get heap o.0) _ (found_line (plain_find (codes "name") (plain_chain heap o.0))))

-- ---- runs

outcome_shown : (o : Outcome Halt Jump (Unit {0}) State) (text : List ℕ) → (run_of o).ending ≡ threw text → on_line (utf8_of text) ≡ true
outcome_shown (Goes u s) text e = absurd cc
outcome_shown (Jumps j s) text e =
    let same : shown (erased_heap s.heap) j.value.value ≡ text = cc in
    ap (λ (t : List ℕ). on_line (utf8_of t)) (sym same) ∙ shown_line (erased_heap s.heap) j.value.value
outcome_shown (Ends halt s) text e = absurd cc

-- what a run shows of an exception that leaves it
pub run_shown : (set : BuiltIns) (tables : Tables) (inputs : Given) (program : Statements) (turns : ℕ) (text : List ℕ) → (tracked_run set tables inputs program turns).ending ≡ threw text → on_line (utf8_of text) ≡ true
unfolding tracked_run
run_shown set tables inputs program turns text e = outcome_shown (program_step (timed tables inputs set (functions_of program)) set turns (may_declare set program) program (outermost_env 0) (start tables inputs set program turns)) text e
