-- One turn of the scanner.
use Rattle.std.proofs.Common.{◌≡◌, ℕ, ◌+◌, ◌-◌, ◌<◌, ◌≤◌, Bool, ◌||◌, List, [], ◌∷◌, ◌++◌, length, take, drop, drop-drop, append-nil, sym, ap, subst, ◌∙◌, arith, Err}
use Rattle.std.proofs.lemmas.List.{length-append, length-drop}
use Rattle.std.proofs.Math.Seq.{drop-append_seam}
use Rattle.std.proofs.Math.ListN.{drop_of_length-le}
use Rattle.js_ast.specs.declared.token.Token.{Token}
use Rattle.js_scan.specs.declared.fault.ScanFault.{ScanFault}
use Rattle.js_scan.specs.declared.fault.ScanFault.TheVariants as fault
use Rattle.js_scan.specs.declared.state.State.{State}
use Rattle.js_scan.specs.declared.element.Found.TheVariants.{Separator, Lexeme}
use Rattle.js_scan.specs.Elements.{Element, spelled, Next, breaks_line}
use Rattle.js_scan.specs.Tokens.{start, past, after, Splits, nothing, separator, lexeme, IsTokens, IsFaultOf}
use Rattle.js_scan.specs.Found.{Finds, FindsElement}
use Rattle.js_scan.proofs.Sames.{spelled_first}
use Rattle.js_scan.proofs.Rests.{rest_is}

-- one reading after another
joined : (s : State) (us : List ℕ) (ts vs : List Token) (to to' : State) (rest rest' : List ℕ) → Splits s us ts to rest → Splits to rest vs to' rest' → Splits s us (ts ++ vs) to' rest'
joined _ _ _ vs _ to' _ rest' (nothing s us) more = more
joined _ _ _ vs _ to' _ rest' (separator s us e behind ts to rest n h first) more = separator s us e behind (ts ++ vs) to' rest' n h (joined (past s e) behind ts vs to to' rest rest' first more)
joined _ _ _ vs _ to' _ rest' (lexeme s us e behind t ts to rest k n a g first) more = lexeme s us e behind t (ts ++ vs) to' rest' k n a g (joined (after s t) behind ts vs to to' rest rest' first more)

-- what stands behind an element
behind_is : (us : List ℕ) (e : Element) (behind : List ℕ) → us ≡ spelled e ++ behind → drop (length (spelled e)) us ≡ behind
behind_is us e behind h = ap (drop (length (spelled e))) h ∙ drop-append_seam (spelled e) behind

-- how far one turn leads
record Turn (us : List ℕ) (at n : ℕ) : Type 0 where
  pub some : 1 ≤ n
  pub within : at + n ≤ length us
  pub rest : drop n (drop at us) ≡ drop (at + n) us

next_some : (us : List ℕ) (e : Element) (behind : List ℕ) → Next us e behind → 1 ≤ length (spelled e)
next_some us e behind n = let f = spelled_first e n.is in subst (λ w. 1 ≤ length w) (sym f.2) (let h : 1 ≤ length (f.0 ∷ f.1) = omega arith in h)

dropped_twice : (n at : ℕ) (us : List ℕ) → drop n (drop at us) ≡ drop (at + n) us
dropped_twice n at us = drop-drop n at us

rest_length : (at : ℕ) (us : List ℕ) → at ≤ length us → length (drop at us) + at ≡ length us
rest_length at us h = let l = length-drop at us in omega arith

turn : (us : List ℕ) (at : ℕ) (e : Element) (behind : List ℕ) → at ≤ length us → Next (drop at us) e behind → Turn us at (length (spelled e))
turn us at e behind h n =
    let l : length (drop at us) ≡ length (spelled e) + length behind = ap length n.whole ∙ length-append (spelled e) behind in
    let k = rest_length at us h in
    record { some = next_some (drop at us) e behind n; within = omega arith; rest = dropped_twice (length (spelled e)) at us }

-- so many tokens were read, and so far
pub record Read (us : List ℕ) (ts : List Token) (s : State) : Type 0 where
  pub within : s.at ≤ length us
  pub split : Splits start us ts s (drop s.at us)

pub record Goes (us : List ℕ) (ts : List Token) (s to : State) : Type 0 where
  pub further : s.at < to.at
  pub read : Read us ts to

pub separated : (us : List ℕ) (ts : List Token) (s : State) (n : ℕ) (b : Bool) → Read us ts s → FindsElement s (drop s.at us) (Separator n b) → Goes us ts s (record { at = s.at + n; newline = s.newline || b; dot = s.dot; divides = s.divides })
separated us ts s n b r f =
    let t : Turn us s.at n = subst (Turn us s.at) f.3 (turn us s.at f.0 (drop n (drop s.at us)) r.within f.1) in
    let to : State = record { at = s.at + n; newline = s.newline || b; dot = s.dot; divides = s.divides } in
    let some = t.some in
    let is : past s f.0 ≡ to = ap (λ k. record { at = s.at + k; newline = s.newline || breaks_line f.0; dot = s.dot; divides = s.divides }) f.3 ∙ ap (λ x. record { at = s.at + n; newline = s.newline || x; dot = s.dot; divides = s.divides }) f.4 in
    let step : Splits s (drop s.at us) [] to (drop n (drop s.at us)) = separator s (drop s.at us) f.0 (drop n (drop s.at us)) [] to (drop n (drop s.at us)) f.1 f.2 (subst (λ x. Splits x (drop n (drop s.at us)) [] to (drop n (drop s.at us))) (sym is) (nothing to (drop n (drop s.at us)))) in
    let all : Splits start us ts to (drop n (drop s.at us)) = subst (λ xs. Splits start us xs to (drop n (drop s.at us))) (append-nil ts) (joined start us ts [] s to (drop s.at us) (drop n (drop s.at us)) r.split step) in
    record { further = omega arith; read = record { within = t.within; split = subst (λ xs. Splits start us ts to xs) t.rest all } }

pub taken : (us : List ℕ) (ts : List Token) (s : State) (t : Token) → Read us ts s → FindsElement s (drop s.at us) (Lexeme t) → Goes us (ts ++ t ∷ []) s (after s t)
taken us ts s t r f =
    let n : ℕ = length (spelled f.0) in
    let g : Turn us s.at (length (spelled f.0)) = turn us s.at f.0 f.1 r.within f.3 in
    let to_is : t.to ≡ s.at + length (spelled f.0) = ap (λ x. x.to) f.5 in
    let some = g.some in
    let within = g.within in
    let rest_is' : f.1 ≡ drop t.to us = sym (behind_is (drop s.at us) f.0 f.1 f.3.whole) ∙ g.rest ∙ ap (λ k. drop k us) (sym to_is) in
    let step : Splits s (drop s.at us) (t ∷ []) (after s t) f.1 = lexeme s (drop s.at us) f.0 f.1 t [] (after s t) f.1 f.2 f.3 f.4 f.5 (nothing (after s t) f.1) in
    let all : Splits start us (ts ++ t ∷ []) (after s t) f.1 = joined start us ts (t ∷ []) s (after s t) (drop s.at us) f.1 r.split step in
    record { further = omega arith; read = record { within = omega arith; split = subst (λ xs. Splits start us (ts ++ t ∷ []) (after s t) xs) rest_is' all } }

pub read_start : (us : List ℕ) (ts : List Token) (s : State) → ts ≡ [] → s ≡ start → Read us ts s
read_start us ts s g h = subst (λ x. Read us ts x) (sym h) (subst (λ x. Read us x start) (sym g) (record { within = omega arith; split = nothing start us }))

pub less_left : (us : List ℕ) (ts : List Token) (s to : State) → Goes us ts s to → length us - to.at < length us - s.at
less_left us ts s to g = let a = g.further in let b = g.read.within in omega arith

-- the rest as the code has it
abbrev pub ahead : List ℕ → State → List ℕ
ahead us s = take (length us - s.at) (drop s.at us)

pub separator_turn : (us : List ℕ) (ts : List Token) (s to : State) (n : ℕ) (b : Bool) → Read us ts s → FindsElement s (ahead us s) (Separator n b) → to ≡ record { at = s.at + n; newline = s.newline || b; dot = s.dot; divides = s.divides } → Goes us ts s to
separator_turn us ts s to n b r f h = subst (λ x. Goes us ts s x) (sym h) (separated us ts s n b r (subst (λ xs. FindsElement s xs (Separator n b)) (rest_is s.at us r.within) f))

pub lexeme_turn : (us : List ℕ) (ts vs : List Token) (s to : State) (t : Token) → Read us ts s → FindsElement s (ahead us s) (Lexeme t) → vs ≡ ts ++ t ∷ [] → to ≡ after s t → Goes us vs s to
lexeme_turn us ts vs s to t r f g h =
    subst (λ x. Goes us x s to) (sym g) (subst (λ x. Goes us (ts ++ t ∷ []) s x) (sym h) (taken us ts s t r (subst (λ xs. FindsElement s xs (Lexeme t)) (rest_is s.at us r.within) f)))

fault_here : (us : List ℕ) (ts : List Token) (s : State) (f : ScanFault) → Read us ts s → Finds s (drop s.at us) (Err f) → IsFaultOf us f
fault_here us ts s (fault.BadToken at) r h = (ts, s, drop s.at us, r.split, h)
fault_here us ts s (fault.Unterminated at) r h = (ts, s, drop s.at us, r.split, h)
fault_here us ts s (fault.RegExpLiteral at) r h = (ts, s, drop s.at us, r.split, h)
fault_here us ts s (fault.NumberLiteral at) r h = (ts, s, drop s.at us, r.split, h)
fault_here us ts s fault.OutOfMemory r h = tt

pub fault_turn : (us : List ℕ) (ts : List Token) (s : State) (f : ScanFault) → Read us ts s → Finds s (ahead us s) (Err f) → IsFaultOf us f
fault_turn us ts s f r h = fault_here us ts s f r (subst (λ xs. Finds s xs (Err f)) (rest_is s.at us r.within) h)

nothing_left : (us : List ℕ) (at : ℕ) → at ≤ length us → length us ≤ at → drop at us ≡ []
nothing_left us at h stop = drop_of_length-le us {i = at} stop

pub read_whole : (us : List ℕ) (ts : List Token) (s : State) → Read us ts s → length us ≤ s.at → IsTokens us ts
read_whole us ts s r stop = (s, subst (λ xs. Splits start us ts s xs) (nothing_left us s.at r.within stop) r.split)
