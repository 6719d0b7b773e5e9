-- Each token of a source begins within it.
use Rattle.std.proofs.Common.{◌≡◌, ℕ, ◌+◌, ◌≤◌, List, [], ◌∷◌, length, ap, ◌∙◌, arith, Result, Ok, Err, IfOk}
use Rattle.std.specs.List.{All}
use Rattle.std.proofs.lemmas.List.{length-append}
use Rattle.std.proofs.lemmas.List.Elements.{All-nil, All-cons}
use Rattle.js_ast.specs.declared.token.Token.{Token}
use Rattle.js_scan.specs.declared.fault.ScanFault.{ScanFault}
use Rattle.js_scan.specs.declared.state.State.{State}
use Rattle.js_scan.specs.Elements.{spelled}
use Rattle.js_scan.specs.Tokens.{start, past, after, Splits, nothing, separator, lexeme, IsTokens}

begin_within : (n : ℕ) (s : State) (us : List ℕ) (ts : List Token) (to : State) (rest : List ℕ) → Splits s us ts to rest → s.at + length us ≤ n → All (λ (t : Token). t.from ≤ n) ts
begin_within n _ _ _ _ _ (nothing s us) le = All-nil (λ (t : Token). t.from ≤ n)
begin_within n _ _ _ _ _ (separator s us e behind ts to rest next is more) le =
    let l : length us ≡ length (spelled e) + length behind = ap length next.whole ∙ length-append (spelled e) behind in
    begin_within n (past s e) behind ts to rest more (omega arith)
begin_within n _ _ _ _ _ (lexeme s us e behind t ts to rest k next accepted is more) le =
    let l : length us ≡ length (spelled e) + length behind = ap length next.whole ∙ length-append (spelled e) behind in
    let from_is : t.from ≡ s.at = ap (λ (x : Token). x.from) is in
    let to_is : t.to ≡ s.at + length (spelled e) = ap (λ (x : Token). x.to) is in
    All-cons (λ (t : Token). t.from ≤ n) t ts (omega arith) (begin_within n (after s t) behind ts to rest more (omega arith))

pub tokens_within : (source : List ℕ) (ts : List Token) → IsTokens source ts → All (λ (t : Token). t.from ≤ length source) ts
tokens_within source ts is = begin_within (length source) start source ts is.0 [] is.1 (omega arith)

-- the same of an answer
pub answer_begins : {X : Type 0} (items : X → List Token) (source : List ℕ) (r : Result X ScanFault) → IfOk r (λ x. IsTokens source (items x)) → IfOk r (λ x. All (λ (t : Token). t.from ≤ length source) (items x))
answer_begins items source (Ok x) is = tokens_within source (items x) is
answer_begins items source (Err f) is = tt
