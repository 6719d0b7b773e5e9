-- Each source has tokens, or a fault.
use Rattle.std.proofs.Common.{◌≡◌, ℕ, zero, suc, ◌+◌, ◌-◌, ◌^◌, ◌<◌, nat_lt, Bool, true, false, not, ◌&&◌, ◌||◌, ◌⊎◌, inl, inr, ⊎_elim, List, [], ◌∷◌, ◌++◌, length, take, drop, refl, sym, subst, ◌∙◌, arith, Option, Some, None, Result, Ok, Err}
use Rattle.std.specs.List.{list_any}
use Rattle.std.proofs.lemmas.Bool.{cases_Bool, cases_lt, ltb-true, ltb-false, and_parts, not-true}
use Rattle.std.proofs.lemmas.List.{length-drop}
use Rattle.js_number.specs.NumericText.{number_of_text}
use Rattle.js_number.proofs.Found.{answer_exact, answer_nan}
use Rattle.js_number.specs.declared.int.LeftNumbers.{LeftNumbers}
use Rattle.js_number.specs.declared.num.Num.{Num}
use Rattle.js_number.specs.declared.num.Num.TheVariants.{Int, Nan}
use Rattle.js_ast.specs.declared.token.TokenKind.TheVariants as kind
use Rattle.js_ast.specs.declared.token.Token.{Token}
use Rattle.js_scan.specs.declared.class.Class.{Class}
use Rattle.js_scan.specs.declared.class.Class.TheVariants as class
use Rattle.js_scan.specs.declared.names.Word.{Word}
use Rattle.js_scan.specs.declared.strings.Quoted.{Quoted}
use Rattle.js_scan.specs.declared.strings.Quoted.TheVariants as quoted
use Rattle.js_scan.specs.declared.strings.Ahead.{Ahead}
use Rattle.js_scan.specs.declared.strings.Ahead.TheVariants as ahead
use Rattle.js_scan.specs.declared.fault.ScanFault.{ScanFault}
use Rattle.js_scan.specs.declared.fault.ScanFault.TheVariants as fault
use Rattle.js_scan.specs.declared.state.State.{State}
use Rattle.js_scan.specs.declared.element.Found.{Found}
use Rattle.js_scan.specs.declared.element.Found.TheVariants.{Separator, Lexeme}
use Rattle.js_scan.specs.Units.{is_line_terminator, is_quote, begins_with, begins_with_digit}
use Rattle.js_scan.specs.Names.{BeginsName, is_reserved, word_kind}
use Rattle.js_scan.specs.NameReading.{ReadsName, start_at, part_at}
use Rattle.js_scan.specs.NumberReading.{number_length}
use Rattle.js_scan.specs.StringReading.{look_ahead}
use Rattle.js_scan.specs.CommentReading.{close_from, line_length}
use Rattle.js_scan.specs.Tokens.{start, after, IsTokens, IsFault, IsBad, open_comment, open_string, bad_escape}
use Rattle.js_scan.specs.Found.{class_at, FindsName, FindsWord, FindsNumber, FindsPunctuator, FindsQuoted, FindsElement}
use Rattle.js_scan.proofs.NameLaws.{first_read, more_read, all_read, less_left, none_begins}
use Rattle.js_scan.proofs.StringReadingLaws.{ReadTo, quote_read, on_within, value_read, nothing_read, quote_found, line_end_found, bad_escape_found}
use Rattle.js_scan.proofs.CommentLaws.{line_found as line_stands, block_found as block_stands, block_open}
use Rattle.js_scan.proofs.NumberLaws.{finds as number_stands}
use Rattle.js_scan.proofs.PunctuatorLaws.{longest_at, finds as punctuator_stands}
use Rattle.js_scan.proofs.Finding.{line_begins, block_begins, quote_begins, number_begins, blank_found, blank_some, line_found, block_found, string_found, number_found, number_digit, number_name, number_value, name_found, name_backslash, name_reserved, punctuator_found, expression_fault, none_fault_at}
use Rattle.js_scan.proofs.Steps.{Read, read_start, separated, taken, read_whole}

name_by : (o : Option (ℕ × ℕ)) (k : ℕ) (us text : List ℕ) (n : ℕ) (escaped : Bool) → length us - n < suc k → ReadsName us text n escaped → part_at (drop n us) ≡ o
    → ((more : List ℕ) (m : ℕ) (b : Bool) → length us - m < k → ReadsName us more m b → (w : Word) × FindsName us w) → (w : Word) × FindsName us w
name_by None k us text n escaped h r e again = (record { text = text; length = n; escaped = escaped }, all_read us text n escaped r e)
name_by (Some x) k us text n escaped h r e again =
    let less = less_left us text n escaped x r e in
    let l = less.1 in
    again (text ++ x.0 ∷ []) (n + x.1) (escaped || nat_lt 1 x.1) (omega arith) (more_read us text n escaped x r e)

-- the longest name from here on
name_from : (k : ℕ) (us text : List ℕ) (n : ℕ) (escaped : Bool) → length us - n < k → ReadsName us text n escaped → (w : Word) × FindsName us w
name_from zero us text n escaped h r = absurd (omega arith)
name_from (suc k) us text n escaped h r =
    name_by (part_at (drop n us)) k us text n escaped h r refl (name_from k us)

word_by : (us : List ℕ) (o : Option (ℕ × ℕ)) → start_at us ≡ o → (w : Option Word) × FindsWord us w
word_by us None e = (None, none_begins us e)
word_by us (Some x) e = let w = name_from (suc (length us)) us (x.0 ∷ []) x.1 (nat_lt 1 x.1) (omega arith) (first_read us x e) in (Some w.0, w.1)

-- what stands at the front as a word
pub word_exists : (us : List ℕ) → (o : Option Word) × FindsWord us o
word_exists us = word_by us (start_at us) refl

string_by : (found : Ahead) (k : ℕ) (us : List ℕ) (quote : ℕ) (value : List ℕ) (at : ℕ) → is_quote quote ≡ true → length us - at < suc k → ReadTo us quote value at → found ≡ look_ahead quote (drop at us)
    → ((more : List ℕ) (m : ℕ) → is_quote quote ≡ true → length us - m < k → ReadTo us quote more m → (q : Quoted) × FindsQuoted us q) → (q : Quoted) × FindsQuoted us q
string_by (ahead.Value unit n) k us quote value at i h r e again =
    let on = value_read us quote value at r unit n e in let moves = on.moves in let within = on_within us quote (value ++ unit ∷ []) at n on in
    again (value ++ unit ∷ []) (at + n) i (omega arith) on.read
string_by (ahead.Nothing n) k us quote value at i h r e again =
    let on = nothing_read us quote value at r n e in let moves = on.moves in let within = on_within us quote value at n on in
    again value (at + n) i (omega arith) on.read
string_by ahead.Quote k us quote value at i h r e again = (quoted.Closed value (at + 1), quote_found us quote value at r i e)
string_by ahead.LineEnd k us quote value at i h r e again = (quoted.Open, line_end_found us quote value at r i e)
string_by ahead.BadEscape k us quote value at i h r e again = (quoted.BadEscape at, bad_escape_found us quote value at r i e)

string_from : (k : ℕ) (us : List ℕ) (quote : ℕ) (value : List ℕ) (at : ℕ) → is_quote quote ≡ true → length us - at < k → ReadTo us quote value at → (q : Quoted) × FindsQuoted us q
string_from zero us quote value at i h r = absurd (omega arith)
string_from (suc k) us quote value at i h r = string_by (look_ahead quote (drop at us)) k us quote value at i h r refl (string_from k us quote)

string_exists : (us : List ℕ) (quote : ℕ) (rest : List ℕ) → us ≡ quote ∷ rest → is_quote quote ≡ true → (q : Quoted) × FindsQuoted us q
string_exists us quote rest h i = subst (λ xs. (q : Quoted) × FindsQuoted xs q) (sym h) (string_from (suc (length (quote ∷ rest))) (quote ∷ rest) quote [] 1 i (omega arith) (quote_read (quote ∷ rest) quote rest refl))

-- what stands next, or its fault
pub data Outcome (s : State) (us : List ℕ) : Type 0 where
  finds : (found : Found) → FindsElement s us found → Outcome s us
  faults : (f : ScanFault) → IsBad s us f → Outcome s us

block_outcome : (s : State) (us inside : List ℕ) (o : Option ℕ) → class_at us ≡ class.BlockComment → us ≡ 47 ∷ 42 ∷ inside → o ≡ close_from 0 (drop 2 us) → Outcome s us
block_outcome s us inside (Some n) c w h = let f = block_stands us inside n w h in finds (Separator (n + 4) (list_any is_line_terminator (take n (drop 2 us)))) (block_found s us (n + 4) (list_any is_line_terminator (take n (drop 2 us))) c f)
block_outcome s us inside None c w h = faults (fault.Unterminated s.at) (open_comment s.at (block_open us inside w h) refl)

string_outcome : (s : State) (us : List ℕ) (q : Quoted) → class_at us ≡ class.Quoted → FindsQuoted us q → Outcome s us
string_outcome s us (quoted.Closed value n) c f = finds (Lexeme (record { kind = kind.String value; text = take n us; from = s.at; to = s.at + n; newline = s.newline })) (string_found s us value n _ c f refl)
string_outcome s us quoted.Open c f = faults (fault.Unterminated s.at) (open_string s.at f refl)
string_outcome s us (quoted.BadEscape at) c f = faults (fault.BadToken (s.at + at)) (bad_escape (s.at + at) at f refl)

-- the value of a number, where it has one of the profile
value_outcome : (s : State) (us : List ℕ) (n : ℕ) (o : Result Num LeftNumbers) → class_at us ≡ class.Number → FindsNumber us n → begins_with_digit (drop n us) ≡ false → (BeginsName (drop n us) → ⊥) → number_of_text (take n us) ≡ o → Outcome s us
value_outcome s us n (Ok (Int v)) c f d none h =
    let both = (answer_exact (take n us) (number_of_text (take n us)) v refl).0 h in
    finds (Lexeme (record { kind = kind.Number v; text = take n us; from = s.at; to = s.at + n; newline = s.newline })) (number_found s us n v _ c f both.0 both.1 d none refl)
value_outcome s us n (Ok Nan) c f d none h =
    faults (fault.NumberLiteral s.at) (number_value s us n c f (λ w k. absurd ((answer_nan (take n us) (number_of_text (take n us)) refl).0 h (record { literal = k.1.literal; spells = k.1.spells }))))
value_outcome s us n (Err e) c f d none h =
    faults (fault.NumberLiteral s.at) (number_value s us n c f (λ w k. let clash : Err e ≡ Ok (Int w) = sym h ∙ (answer_exact (take n us) (number_of_text (take n us)) w refl).1 k in cc clash))

behind_number : (s : State) (us : List ℕ) (n : ℕ) (o : Option Word) → class_at us ≡ class.Number → FindsNumber us n → begins_with_digit (drop n us) ≡ false → FindsWord (drop n us) o → Outcome s us
behind_number s us n (Some w) c f d g = faults (fault.NumberLiteral s.at) (number_name s us n c f (g.parts, drop w.length (drop n us), g.is, g.whole))
behind_number s us n None c f d g = value_outcome s us n (number_of_text (take n us)) c f d g refl

number_outcome : (s : State) (us : List ℕ) (n : ℕ) → class_at us ≡ class.Number → FindsNumber us n → Outcome s us
number_outcome s us n c f = ⊎_elim
    (λ d. faults (fault.NumberLiteral s.at) (number_digit s us n c f d))
    (λ d. let w = word_exists (drop n us) in behind_number s us n w.0 c f d w.1)
    (cases_Bool (begins_with_digit (drop n us)))

name_outcome : (s : State) (us : List ℕ) (w : Word) → class_at us ≡ class.Other → FindsName us w → Outcome s us
name_outcome s us w c f = ⊎_elim
    (λ b. faults (fault.BadToken (s.at + w.length)) (name_backslash s us w c f b))
    (λ b. ⊎_elim
    (λ r. faults (fault.BadToken s.at) (name_reserved s us w c f b r))
    (λ r. finds (Lexeme (record { kind = word_kind w.text; text = w.text; from = s.at; to = s.at + w.length; newline = s.newline })) (name_found s us w _ c f b r refl))
    (cases_Bool (w.escaped && is_reserved w.text)))
    (cases_Bool (begins_with 92 (drop w.length us)))

punctuator_outcome : (s : State) (us : List ℕ) (n : ℕ) → class_at us ≡ class.Other → (BeginsName us → ⊥) → 0 < length us → FindsPunctuator us n → Outcome s us
punctuator_outcome s us zero c none some f = faults (fault.BadToken s.at) (none_fault_at s us 0 c none some f refl)
punctuator_outcome s us (suc n) c none some f = ⊎_elim
    (λ h. let p = and_parts (begins_with 47 us) (not s.divides) h in faults (fault.RegExpLiteral s.at) (expression_fault s us c p.0 (not-true s.divides p.1)))
    (λ h. finds (Lexeme (record { kind = kind.Punctuator; text = take (suc n) us; from = s.at; to = s.at + suc n; newline = s.newline })) (punctuator_found s us (suc n) _ c none f (omega arith) h refl))
    (cases_Bool (begins_with 47 us && not s.divides))

other_outcome : (s : State) (us : List ℕ) (o : Option Word) → class_at us ≡ class.Other → 0 < length us → FindsWord us o → Outcome s us
other_outcome s us (Some w) c some f = name_outcome s us w c f
other_outcome s us None c some f = punctuator_outcome s us (longest_at us) c f some (punctuator_stands us (longest_at us) refl)

blank_outcome : (s : State) (us : List ℕ) → class_at us ≡ class.Blank → Outcome s us
blank_outcome s [] c = absurd (blank_some c)
blank_outcome s (u ∷ us) c = finds (Separator 1 (is_line_terminator u)) (blank_found s u us c)

outcome_by : (s : State) (us : List ℕ) (k : Class) → 0 < length us → class_at us ≡ k → Outcome s us
outcome_by s us class.Blank some c = blank_outcome s us c
outcome_by s us class.LineComment some c = let b = line_begins us c in let n : ℕ = 2 + line_length (drop 2 us) in finds (Separator n false) (line_found s us n c (line_stands us b.0 b.1))
outcome_by s us class.BlockComment some c = let b = block_begins us c in block_outcome s us b.0 (close_from 0 (drop 2 us)) c b.1 refl
outcome_by s us class.Quoted some c = let b = quote_begins us c in let q = string_exists us b.0 b.1 b.2 b.3 in string_outcome s us q.0 c q.1
outcome_by s us class.Number some c = number_outcome s us (number_length us) c (number_stands us (number_length us) (number_begins us c) refl)
outcome_by s us class.Other some c = let w = word_exists us in other_outcome s us w.0 c some w.1

-- tokens or a fault
pub data Reading (us : List ℕ) : Type 0 where
  has_tokens : (ts : List Token) → IsTokens us ts → Reading us
  has_fault : (f : ScanFault) → IsFault us f → Reading us

reading_by : (k : ℕ) (us : List ℕ) (ts : List Token) (s : State) → length us - s.at < suc k → Read us ts s → Outcome s (drop s.at us)
    → ((vs : List Token) (to : State) → length us - to.at < k → Read us vs to → Reading us) → Reading us
reading_by k us ts s h r (faults f bad) again = has_fault f (ts, s, drop s.at us, r.split, bad)
reading_by k us ts s h r (finds (Separator n b) f) again = let g = separated us ts s n b r f in let further = g.further in let within = g.read.within in again ts _ (omega arith) g.read
reading_by k us ts s h r (finds (Lexeme t) f) again = let g = taken us ts s t r f in let further = g.further in let within = g.read.within in again (ts ++ t ∷ []) (after s t) (omega arith) g.read

reading_from : (k : ℕ) (us : List ℕ) (ts : List Token) (s : State) → length us - s.at < k → Read us ts s → Reading us
reading_from zero us ts s h r = absurd (omega arith)
reading_from (suc k) us ts s h r = ⊎_elim
    (λ l. let some : 0 < length (drop s.at us) = let e = length-drop s.at us in omega arith in reading_by k us ts s h r (outcome_by s (drop s.at us) (class_at (drop s.at us)) some refl) (reading_from k us))
    (λ l. has_tokens ts (read_whole us ts s r l))
    (cases_lt s.at (length us))

reading : (us : List ℕ) → Reading us
reading us = reading_from (suc (length us)) us [] start (omega arith) (read_start us [] start refl refl)

either : (us : List ℕ) → Reading us → ((ts : List Token) × IsTokens us ts) ⊎ ((f : ScanFault) × IsFault us f)
either us (has_tokens ts h) = inl (ts, h)
either us (has_fault f h) = inr (f, h)

-- each source has tokens, or a fault
pub reads_all : (source : List ℕ) → ((ts : List Token) × IsTokens source ts) ⊎ ((f : ScanFault) × IsFault source f)
reads_all source = either source (reading source)
