-- A source has one list of tokens, or one fault.
use Rattle.std.proofs.Common.{◌≡◌, ℕ, ◌+◌, ◌≤◌, Bool, true, false, ◌⊎◌, inl, inr, List, [], ◌∷◌, length, refl, sym, ap, subst, ◌∙◌, arith, if◌then◌else◌, Result, Ok, Err, IfOk, IfErr, MatchResult}
use Rattle.std.proofs.lemmas.List.{length-append}
use Rattle.js_ast.specs.declared.token.Token.{Token}
use Rattle.js_scan.specs.declared.fault.ScanFault.{ScanFault}
use Rattle.js_scan.specs.declared.fault.ScanFault.TheVariants as fault
use Rattle.js_scan.specs.Units.{begins_with}
use Rattle.js_scan.specs.Strings.{spelled_string_parts}
use Rattle.js_scan.specs.Elements.{spelled, name}
use Rattle.js_scan.specs.declared.state.State.{State}
use Rattle.js_scan.specs.Tokens.{start, past, after, Splits, nothing, separator, lexeme, IsTokens, IsBad, no_token, bad_name, bad_escape, open_comment, open_string, regular_expression, bad_number, IsFault, IsFaultOf, fault_at}
use Rattle.js_scan.proofs.Readings.{one_way, end_stuck}
pub use Rattle.js_scan.proofs.Totality.{reads_all}
use Rattle.js_scan.proofs.Faults.{bad_stuck, bad_once, good_end}

pub one_tokens : (source : List ℕ) (ts us : List Token) → IsTokens source ts → IsTokens source us → ts ≡ us
one_tokens source ts us a b = (one_way start source ts us a.0 b.0 [] [] a.1 (end_stuck a.0) b.1 (end_stuck b.0)).tokens

pub one_fault : (source : List ℕ) (f g : ScanFault) → IsFault source f → IsFault source g → f ≡ g
one_fault source f g a b =
    let w = one_way start source a.0 b.0 a.1 b.1 a.2 b.2 a.3 (bad_stuck a.1 a.2 f a.4) b.3 (bad_stuck b.1 b.2 g b.4) in
    bad_once b.1 b.2 f g (subst (λ x. IsBad x b.2 f) w.state (subst (λ x. IsBad a.1 x f) w.units a.4)) b.4

pub never_both : (source : List ℕ) (ts : List Token) (f : ScanFault) → IsTokens source ts → IsFault source f → ⊥
never_both source ts f a b =
    let w = one_way start source ts b.0 a.0 b.1 [] b.2 a.1 (end_stuck a.0) b.3 (bad_stuck b.1 b.2 f b.4) in
    good_end b.1 f (subst (λ x. IsBad b.1 x f) (sym w.units) b.4)

-- a reading leads so far
advances : (s : State) (us : List ℕ) (ts : List Token) (to : State) (rest : List ℕ) → Splits s us ts to rest → s.at + length us ≡ to.at + length rest
advances _ _ _ _ _ (nothing s us) = refl
advances _ _ _ _ _ (separator s us e behind ts to rest n h more) =
    let l : length us ≡ length (spelled e) + length behind = ap length n.whole ∙ length-append (spelled e) behind in
    let k = advances (past s e) behind ts to rest more in
    omega arith
advances _ _ _ _ _ (lexeme s us e behind t ts to rest k n a h more) =
    let l : length us ≡ length (spelled e) + length behind = ap length n.whole ∙ length-append (spelled e) behind in
    let to_is : t.to ≡ s.at + length (spelled e) = ap (λ x. x.to) h in
    let k = advances (after s t) behind ts to rest more in
    omega arith

-- the place of a bad name
name_within : (b : Bool) (k n at : ℕ) → at ≡ (if b then k else 0) → k ≤ n → at ≤ n
name_within true k n at h l = omega arith
name_within false k n at h l = omega arith

bad_within : (s : State) (us : List ℕ) (f : ScanFault) → IsBad s us f → fault_at f ≤ s.at + length us
bad_within s us _ (no_token at b e) = omega arith
bad_within s us _ (bad_name at behind h e) =
    let l : length us ≡ length (spelled (name h.0)) + length h.1 = ap length h.2.whole ∙ length-append (spelled (name h.0)) h.1 in
    let k = name_within (begins_with 92 h.1) (length (spelled (name h.0))) (length us) behind h.4 (omega arith) in
    omega arith
bad_within s us _ (bad_escape at behind h e) =
    let l : length us ≡ length (h.0 ∷ spelled_string_parts h.1) + length h.2 = ap length h.4 ∙ length-append (h.0 ∷ spelled_string_parts h.1) h.2 in
    let k : behind ≡ length (h.0 ∷ spelled_string_parts h.1) = h.7 in
    omega arith
bad_within s us _ (open_comment at h e) = omega arith
bad_within s us _ (open_string at h e) = omega arith
bad_within s us _ (regular_expression at b none d e) = omega arith
bad_within s us _ (bad_number at h e) = omega arith

-- a fault has its place in the source
pub fault_within : (source : List ℕ) (f : ScanFault) → IsFault source f → fault_at f ≤ length source
fault_within source f h =
    let l = advances start source h.0 h.1 h.2 h.3 in
    let k = bad_within h.1 h.2 f h.4 in
    omega arith

pub answer_within : (source : List ℕ) (f : ScanFault) → IsFaultOf source f → fault_at f ≤ length source
answer_within source (fault.BadToken at) h = fault_within source (fault.BadToken at) h
answer_within source (fault.Unterminated at) h = fault_within source (fault.Unterminated at) h
answer_within source (fault.RegExpLiteral at) h = fault_within source (fault.RegExpLiteral at) h
answer_within source (fault.NumberLiteral at) h = fault_within source (fault.NumberLiteral at) h
answer_within source fault.OutOfMemory h = omega arith

-- tokens are the answer where a source has them, unless memory ran out
pub gives_tokens : (source : List ℕ) (f : ScanFault) (ts : List Token) → IsFaultOf source f → IsTokens source ts → f ≡ fault.OutOfMemory
gives_tokens source (fault.BadToken at) ts h g = absurd (never_both source ts (fault.BadToken at) g h)
gives_tokens source (fault.Unterminated at) ts h g = absurd (never_both source ts (fault.Unterminated at) g h)
gives_tokens source (fault.RegExpLiteral at) ts h g = absurd (never_both source ts (fault.RegExpLiteral at) g h)
gives_tokens source (fault.NumberLiteral at) ts h g = absurd (never_both source ts (fault.NumberLiteral at) g h)
gives_tokens source fault.OutOfMemory ts h g = refl

pub gives_fault : (source : List ℕ) (f g : ScanFault) → IsFaultOf source f → IsFault source g → (f ≡ g) ⊎ (f ≡ fault.OutOfMemory)
gives_fault source (fault.BadToken at) g h k = inl (one_fault source (fault.BadToken at) g h k)
gives_fault source (fault.Unterminated at) g h k = inl (one_fault source (fault.Unterminated at) g h k)
gives_fault source (fault.RegExpLiteral at) g h k = inl (one_fault source (fault.RegExpLiteral at) g h k)
gives_fault source (fault.NumberLiteral at) g h k = inl (one_fault source (fault.NumberLiteral at) g h k)
gives_fault source fault.OutOfMemory g h k = inr refl

-- an answer that is the tokens or the fault of a source, against what the source has
pub only_tokens : {X : Type 0} (items : X → List Token) (source : List ℕ) (r : Result X ScanFault) → IfOk r (λ x. IsTokens source (items x)) → IfErr r (λ f. IsFaultOf source f) → (ts : List Token) → IsTokens source ts → MatchResult r (λ x. items x ≡ ts) (λ f. f ≡ fault.OutOfMemory)
only_tokens items source (Ok x) tokens refused ts h = one_tokens source (items x) ts tokens h
only_tokens items source (Err f) tokens refused ts h = gives_tokens source f ts refused h

pub only_fault : {X : Type 0} (items : X → List Token) (source : List ℕ) (r : Result X ScanFault) → IfOk r (λ x. IsTokens source (items x)) → IfErr r (λ f. IsFaultOf source f) → (g : ScanFault) → IsFault source g → MatchResult r (λ x. ⊥) (λ f. (f ≡ g) ⊎ (f ≡ fault.OutOfMemory))
only_fault items source (Ok x) tokens refused g h = never_both source (items x) g tokens h
only_fault items source (Err f) tokens refused g h = gives_fault source f g refused h
