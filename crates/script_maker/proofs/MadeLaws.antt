-- Of each script that is made: how long it is at most, and that its bytes are ASCII.
use Rattle.std.proofs.Common.{◌≡◌, ℕ, zero, suc, ◌+◌, ◌*◌, ◌^◌, ◌<◌, ◌≤◌, true, List, [], ◌∷◌, ◌++◌, length, codes, decimal, refl, arith, length-append}
use Rattle.std.specs.Prelude.{flat_map, IsAscii}
use Rattle.std.specs.Char.{is_ascii}
use Rattle.std.specs.List.{range_with_len, list_all}
use Rattle.std.proofs.lemmas.Bool.{and_parts, ltb-true}
use Rattle.std.proofs.lemmas.Fmt.{length-decimal-le, IsAscii-decimal}
use Rattle.std.proofs.lemmas.Str.{IsAscii-append}
use Rattle.std.proofs.lemmas.Str.Ascii.{IsAscii-nil, IsAscii-cons}
use Rattle.script_maker.specs.Made.{first_line, call_line, last_lines, made}

-- the line of a number with at most 5 digits
length_call : (k : ℕ) → k < 10 ^ 5 → length (call_line k) ≤ 67
length_call k small =
    let digits = length-decimal-le 5 k (omega arith) small (omega arith) in
    let rest = codes "; t = t + o.n; })({ n: t % 10 });\n" in
    omega (arith, digits, length-append (codes "(function (o) { o.n = o.n + ") (decimal k ++ rest), length-append (decimal k) rest)

length_calls : (n k : ℕ) → k + n ≤ 10 ^ 5 → length (flat_map call_line (range_with_len k n)) ≤ 67 * n
length_calls zero k within = omega arith
length_calls (suc n) k within =
    let first = length_call k (omega arith) in
    let others = length_calls n (k + 1) (omega arith) in
    omega (arith, first, others, length-append (call_line k) (flat_map call_line (range_with_len (k + 1) n)))

pub made_is_short : (number : ℕ) → number ≤ 10000 → length (made number) < 1048576
unfolding made
made_is_short number most =
    let calls = flat_map call_line (range_with_len 1 number) in
    omega (arith, length_calls number 1 (omega arith), length-append first_line (calls ++ last_lines), length-append calls last_lines)

ascii_text : (bytes : List ℕ) → list_all is_ascii bytes ≡ true → IsAscii bytes
ascii_text [] e = IsAscii-nil
ascii_text (byte ∷ bytes) e = let parts = and_parts _ _ e in IsAscii-cons byte bytes (ltb-true byte 128 parts.0) (ascii_text bytes parts.1)

ascii_call : (k : ℕ) → k < 10 ^ 5 → IsAscii (call_line k)
ascii_call k small =
    let first = codes "(function (o) { o.n = o.n + " in
    let rest = codes "; t = t + o.n; })({ n: t % 10 });\n" in
    IsAscii-append first (decimal k ++ rest) (ascii_text first refl) (IsAscii-append (decimal k) rest (IsAscii-decimal k (omega arith)) (ascii_text rest refl))

ascii_calls : (n k : ℕ) → k + n ≤ 10 ^ 5 → IsAscii (flat_map call_line (range_with_len k n))
ascii_calls zero k within = IsAscii-nil
ascii_calls (suc n) k within = IsAscii-append (call_line k) (flat_map call_line (range_with_len (k + 1) n)) (ascii_call k (omega arith)) (ascii_calls n (k + 1) (omega arith))

pub made_is_ascii : (number : ℕ) → number ≤ 10000 → IsAscii (made number)
unfolding made
made_is_ascii number most =
    let calls = flat_map call_line (range_with_len 1 number) in
    IsAscii-append first_line (calls ++ last_lines) (ascii_text first_line refl) (IsAscii-append calls last_lines (ascii_calls number 1 (omega arith)) (ascii_text last_lines refl))
