-- The lines so far, and those of the numbers that are left, are all lines.
use Rattle.std.proofs.Common.{◌≡◌, ℕ, suc, ◌+◌, ◌-◌, ◌<◌, ◌≤◌, List, ◌++◌, codes, decimal, sym, ap, ap₂, ◌∙◌, arith, append_assoc}
use Rattle.std.specs.Prelude.{flat_map}
use Rattle.std.specs.List.{range_with_len}
use Rattle.std.proofs.lemmas.List.{append-nil}
use Rattle.script_maker.specs.Made.{first_line, call_line, last_lines, made}

-- the lines of the numbers from k up to the end
abbrev pub calls_left : ℕ → ℕ → List ℕ
calls_left k end = flat_map call_line (range_with_len k (end - k))

-- one line, piece by piece
pub is_called : (old first second new digits : List ℕ) (k : ℕ) → first ≡ old ++ codes "(function (o) { o.n = o.n + " → digits ≡ decimal k → second ≡ first ++ digits
    → new ≡ second ++ codes "; t = t + o.n; })({ n: t % 10 });\n" → new ≡ old ++ call_line k
is_called old first second new digits k a d b e =
    let before = codes "(function (o) { o.n = o.n + " in
    let rest = codes "; t = t + o.n; })({ n: t % 10 });\n" in
    let two : second ≡ (old ++ before) ++ decimal k = b ∙ ap₂ (λ (xs ys : List ℕ). xs ++ ys) a d in
    e ∙ ap (λ (xs : List ℕ). xs ++ rest) two ∙ append_assoc (old ++ before) (decimal k) rest ∙ append_assoc old before (decimal k ++ rest)

-- before the loop
pub begins : (bytes : List ℕ) (number : ℕ) → bytes ≡ first_line → bytes ++ calls_left 1 (number + 1) ≡ first_line ++ flat_map call_line (range_with_len 1 number)
begins bytes number e =
    let count : number + 1 - 1 ≡ number = omega arith in
    ap (λ (xs : List ℕ). xs ++ calls_left 1 (number + 1)) e ∙ ap (λ n. first_line ++ flat_map call_line (range_with_len 1 n)) count

-- after the line of k
pub goes_on : (old new all : List ℕ) (k end : ℕ) → k < end → new ≡ old ++ call_line k → old ++ calls_left k end ≡ all → new ++ calls_left (k + 1) end ≡ all
goes_on old new all k end more e h =
    let count : end - k ≡ suc (end - (k + 1)) = omega arith in
    ap (λ (xs : List ℕ). xs ++ calls_left (k + 1) end) e ∙ append_assoc old (call_line k) (calls_left (k + 1) end) ∙ sym (ap (λ n. old ++ flat_map call_line (range_with_len k n)) count) ∙ h

-- after the loop, and the last lines
pub ends : (old new : List ℕ) (number k : ℕ) → number + 1 ≤ k → new ≡ old ++ last_lines → old ++ calls_left k (number + 1) ≡ first_line ++ flat_map call_line (range_with_len 1 number)
    → new ≡ made number
unfolding made
ends old new number k none e h =
    let count : number + 1 - k ≡ 0 = omega arith in
    let before : old ≡ first_line ++ flat_map call_line (range_with_len 1 number) = sym (append-nil old) ∙ sym (ap (λ n. old ++ flat_map call_line (range_with_len k n)) count) ∙ h in
    e ∙ ap (λ (xs : List ℕ). xs ++ last_lines) before ∙ append_assoc first_line (flat_map call_line (range_with_len 1 number)) last_lines
