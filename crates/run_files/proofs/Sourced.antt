-- What the bytes of a source are: a program, or none for one fault.
use Rattle.std.proofs.Common.{◌≡◌, ℕ, List, length, Option, Some, None, Result, Ok, Err, refl, sym, ap, subst, ◌∙◌, inl, inr, ◌⊎◌}
use Rattle.flow_text.specs.Places.{place_of}
use Rattle.js_ast.specs.declared.token.Token.{Token}
use Rattle.js_ast.specs.Trees.{Statements}
use Rattle.js_scan.specs.declared.fault.ScanFault.{ScanFault}
use Rattle.js_scan.specs.declared.fault.ScanFault.TheVariants as scan_fault
use Rattle.js_scan.specs.Tokens.{IsTokens, IsFault, IsBad, fault_at}
use Rattle.js_scan.proofs.Laws as scanned
use Rattle.js_faults.specs.declared.fault.EarlyError.{EarlyError}
use Rattle.js_parse_expr.specs.declared.fault.ParseFault.{ParseFault}
use Rattle.js_parse_expr.specs.declared.fault.ParseFault.TheVariants as parse_fault
use Rattle.js_parse_expr.specs.Parsed.{fault_at as parse_fault_at}
use Rattle.js_parse.specs.Programs.{IsProgram, IsFault as IsNoProgram}
use Rattle.js_parse.proofs.Laws as parsed
use Rattle.js_early.specs.EarlyErrors.{early_error}
use Rattle.run_files.specs.declared.refusals.SourceKind.{SourceKind}
use Rattle.run_files.specs.declared.refusals.SourceKind.TheVariants as kind
use Rattle.run_files.specs.Sources.{SourceFault, bad_source, source_text, scan_kind, parse_kind, early_kind, HasTokens, HasProgram, RefusesProgram, has_no_text, has_no_tokens, is_no_program, has_early_error}
use Rattle.run_files.specs.Laws.{IsProgramOnce, IsProgramOrRefused}

pub ok_is : {X E : Type 0} (x y : X) (r : Result X E) → r ≡ Ok x → r ≡ Ok y → x ≡ y
ok_is x y (Ok z) p q = cc
ok_is x y (Err e) p q = cc

pub err_is : {X E : Type 0} (x y : E) (r : Result X E) → r ≡ Err x → r ≡ Err y → x ≡ y
err_is x y (Ok z) p q = cc
err_is x y (Err e) p q = cc

pub ok_or_err : {X E : Type 0} (x : X) (y : E) (r : Result X E) → r ≡ Ok x → r ≡ Err y → ⊥
ok_or_err x y (Ok z) p q = cc
ok_or_err x y (Err e) p q = cc

pub some_is : {X : Type 0} (x y : X) (o : Option X) → o ≡ Some x → o ≡ Some y → x ≡ y
some_is x y (Some z) p q = cc
some_is x y None p q = cc

none_or_some : {X : Type 0} (x : X) (o : Option X) → o ≡ None → o ≡ Some x → ⊥
none_or_some x (Some z) p q = cc
none_or_some x None p q = cc

-- ---- one at most

text_is : (bytes text other : List ℕ) → source_text bytes ≡ Ok text → source_text bytes ≡ Ok other → text ≡ other
text_is bytes text other e f = ok_is text other (source_text bytes) e f

-- the bytes have a text, and are refused as having none
text_or_fault : (bytes text : List ℕ) (x : SourceFault) → source_text bytes ≡ Ok text → source_text bytes ≡ Err x → ⊥
text_or_fault bytes text x e f = ok_or_err text x (source_text bytes) e f

-- one fault of a source from one kind and one place
fault_is : (x y : SourceFault) (k l : SourceKind) (text other : List ℕ) (at to : ℕ) → x ≡ bad_source k (place_of text at) → y ≡ bad_source l (place_of other to) → k ≡ l → text ≡ other → at ≡ to → x ≡ y
fault_is x y k l text other at to e f same_kind same_text same_unit = e ∙ (λ i. bad_source (same_kind i) (place_of (same_text i) (same_unit i))) ∙ sym f

module _ (bytes : List ℕ) where
  module _ (ts us : List Token) (p : HasTokens bytes ts) (q : HasTokens bytes us) where
    same_text : p.text ≡ q.text
    same_text = text_is bytes p.text q.text p.decoded q.decoded

    same_tokens : ts ≡ us
    same_tokens = scanned.one_tokens q.text ts us (subst (λ (t : List ℕ). IsTokens t ts) same_text p.scanned) q.scanned

    same_tree : (a b : Statements) → IsProgram ts a → IsProgram us b → a ≡ b
    same_tree a b h j = parsed.one_program us a b (subst (λ (t : List Token). IsProgram t a) same_tokens h) j

    tree_or_none : (a : Statements) (end : ℕ) (f : ParseFault) → IsProgram ts a → IsNoProgram us end f → ⊥
    tree_or_none a end f h j = parsed.never_both us end a f (subst (λ (t : List Token). IsProgram t a) same_tokens h) j

  tokens_or_none : (ts : List Token) (text : List ℕ) (f : ScanFault) → HasTokens bytes ts → source_text bytes ≡ Ok text → IsFault text f → ⊥
  tokens_or_none ts text f p e bad = scanned.never_both text ts f (subst (λ (t : List ℕ). IsTokens t ts) (text_is bytes p.text text p.decoded e) p.scanned) bad

  pub program_is : (p q : Statements) → HasProgram bytes p → HasProgram bytes q → p ≡ q
  program_is p q h j = same_tree h.tokens j.tokens h.has_tokens j.has_tokens p q h.parsed j.parsed

  pub program_or_fault : (p : Statements) (x : SourceFault) → HasProgram bytes p → RefusesProgram bytes x → ⊥
  program_or_fault p x h (has_no_text e) = text_or_fault bytes h.has_tokens.text x h.has_tokens.decoded e
  program_or_fault p x h (has_no_tokens text f k decoded bad called is) = tokens_or_none h.tokens text f h.has_tokens decoded bad
  program_or_fault p x h (is_no_program tokens has f k bad called is) = tree_or_none h.tokens tokens h.has_tokens has p (length has.text) f h.parsed bad
  program_or_fault p x h (has_early_error tokens has program f tree early is) =
      none_or_some f (early_error program) (ap early_error (sym (same_tree h.tokens tokens h.has_tokens has p program h.parsed tree)) ∙ h.faultless) early

  -- two faults of the tokens of one source
  module _ (ts us : List Token) (p : HasTokens bytes ts) (q : HasTokens bytes us) where
    same_parse_fault : (f g : ParseFault) → IsNoProgram ts (length p.text) f → IsNoProgram us (length q.text) g → f ≡ g
    same_parse_fault f g h j = parsed.one_fault us (length q.text) f g (subst (λ (t : List ℕ). IsNoProgram us (length t) f) (same_text ts us p q) (subst (λ (t : List Token). IsNoProgram t (length p.text) f) (same_tokens ts us p q) h)) j

    two_parse_faults : (x y : SourceFault) (f g : ParseFault) (k l : SourceKind) → IsNoProgram ts (length p.text) f → IsNoProgram us (length q.text) g → parse_kind f ≡ Some k → parse_kind g ≡ Some l
        → x ≡ bad_source k (place_of p.text (parse_fault_at f)) → y ≡ bad_source l (place_of q.text (parse_fault_at g)) → x ≡ y
    two_parse_faults x y f g k l h j called named e e' =
        let same = same_parse_fault f g h j in
        fault_is x y k l p.text q.text (parse_fault_at f) (parse_fault_at g) e e' (some_is k l (parse_kind g) (ap parse_kind (sym same) ∙ called) named) (same_text ts us p q) (ap parse_fault_at same)

    two_early_errors : (x y : SourceFault) (a b : Statements) (f g : EarlyError) → IsProgram ts a → IsProgram us b → early_error a ≡ Some f → early_error b ≡ Some g
        → x ≡ bad_source (early_kind f.kind) (place_of p.text f.at) → y ≡ bad_source (early_kind g.kind) (place_of q.text g.at) → x ≡ y
    two_early_errors x y a b f g h j early early' e e' =
        let same : f ≡ g = some_is f g (early_error b) (ap early_error (sym (same_tree ts us p q a b h j)) ∙ early) early' in
        fault_is x y (early_kind f.kind) (early_kind g.kind) p.text q.text f.at g.at e e' (ap (λ (z : EarlyError). early_kind z.kind) same) (same_text ts us p q) (ap (λ (z : EarlyError). z.at) same)

  two_scan_faults : (x y : SourceFault) (text other : List ℕ) (f g : ScanFault) (k l : SourceKind) → source_text bytes ≡ Ok text → source_text bytes ≡ Ok other → IsFault text f → IsFault other g
      → scan_kind f ≡ Some k → scan_kind g ≡ Some l → x ≡ bad_source k (place_of text (fault_at f)) → y ≡ bad_source l (place_of other (fault_at g)) → x ≡ y
  two_scan_faults x y text other f g k l d d' h j called named e e' =
      let texts = text_is bytes text other d d' in
      let same = scanned.one_fault other f g (subst (λ (t : List ℕ). IsFault t f) texts h) j in
      fault_is x y k l text other (fault_at f) (fault_at g) e e' (some_is k l (scan_kind g) (ap scan_kind (sym same) ∙ called) named) texts (ap fault_at same)

  pub program_fault : (x y : SourceFault) → RefusesProgram bytes x → RefusesProgram bytes y → x ≡ y
  program_fault x y (has_no_text e) (has_no_text e') = err_is x y (source_text bytes) e e'
  program_fault x y (has_no_text e) (has_no_tokens text f k d bad called is) = absurd (text_or_fault bytes text x d e)
  program_fault x y (has_no_text e) (is_no_program tokens has f k bad called is) = absurd (text_or_fault bytes has.text x has.decoded e)
  program_fault x y (has_no_text e) (has_early_error tokens has program f tree early is) = absurd (text_or_fault bytes has.text x has.decoded e)
  program_fault x y (has_no_tokens text f k d bad called is) (has_no_text e) = absurd (text_or_fault bytes text y d e)
  program_fault x y (has_no_tokens text f k d bad called is) (has_no_tokens text' f' k' d' bad' called' is') = two_scan_faults x y text text' f f' k k' d d' bad bad' called called' is is'
  program_fault x y (has_no_tokens text f k d bad called is) (is_no_program tokens has f' k' bad' called' is') = absurd (tokens_or_none tokens text f has d bad)
  program_fault x y (has_no_tokens text f k d bad called is) (has_early_error tokens has program f' tree early is') = absurd (tokens_or_none tokens text f has d bad)
  program_fault x y (is_no_program tokens has f k bad called is) (has_no_text e) = absurd (text_or_fault bytes has.text y has.decoded e)
  program_fault x y (is_no_program tokens has f k bad called is) (has_no_tokens text f' k' d' bad' called' is') = absurd (tokens_or_none tokens text f' has d' bad')
  program_fault x y (is_no_program tokens has f k bad called is) (is_no_program tokens' has' f' k' bad' called' is') = two_parse_faults tokens tokens' has has' x y f f' k k' bad bad' called called' is is'
  program_fault x y (is_no_program tokens has f k bad called is) (has_early_error tokens' has' program f' tree early is') = absurd (tree_or_none tokens' tokens has' has program (length has.text) f tree bad)
  program_fault x y (has_early_error tokens has program f tree early is) (has_no_text e) = absurd (text_or_fault bytes has.text y has.decoded e)
  program_fault x y (has_early_error tokens has program f tree early is) (has_no_tokens text f' k' d' bad' called' is') = absurd (tokens_or_none tokens text f' has d' bad')
  program_fault x y (has_early_error tokens has program f tree early is) (is_no_program tokens' has' f' k' bad' called' is') = absurd (tree_or_none tokens tokens' has has' program (length has'.text) f' tree bad')
  program_fault x y (has_early_error tokens has program f tree early is) (has_early_error tokens' has' program' f' tree' early' is') = two_early_errors tokens tokens' has has' x y program program' f f' tree tree' early early' is is'

-- ---- one at least

-- a fault of the scanner has a kind, and so has one of the parser
scan_kind_of : (s : _) (rest : List ℕ) (f : ScanFault) → IsBad s rest f → (k : SourceKind) × (scan_kind f ≡ Some k)
scan_kind_of s rest (scan_fault.BadToken at) bad = (kind.BadToken, refl)
scan_kind_of s rest (scan_fault.Unterminated at) bad = (kind.Unterminated, refl)
scan_kind_of s rest (scan_fault.RegExpLiteral at) bad = (kind.RegExpLiteral, refl)
scan_kind_of s rest (scan_fault.NumberLiteral at) bad = (kind.NumberLiteral, refl)
scan_kind_of s rest scan_fault.OutOfMemory bad = elim bad [ ]

parse_kind_of : (tokens : List Token) (end : ℕ) (f : ParseFault) → IsNoProgram tokens end f → (k : SourceKind) × (parse_kind f ≡ Some k)
parse_kind_of tokens end (parse_fault.Syntax at) bad = (kind.Syntax, refl)
parse_kind_of tokens end (parse_fault.With at) bad = (kind.With, refl)
parse_kind_of tokens end (parse_fault.Nesting at) bad = (kind.Nesting, refl)
parse_kind_of tokens end (parse_fault.Directive at) bad = (kind.Directive, refl)
parse_kind_of tokens end parse_fault.OutOfMemory bad = absurd bad

module _ (bytes : List ℕ) where
  -- the bytes are a program, or are refused
  abbrev pub ProgramOrFault : Type 0
  ProgramOrFault = ((program : Statements) × HasProgram bytes program) ⊎ ((x : SourceFault) × RefusesProgram bytes x)

  module _ (tokens : List Token) (has : HasTokens bytes tokens) where
    with_early : (program : Statements) → IsProgram tokens program → (o : Option EarlyError) → early_error program ≡ o → ProgramOrFault
    with_early program tree None e = inl (program, record { tokens = tokens; has_tokens = has; parsed = tree; faultless = e })
    with_early program tree (Some f) e = inr (bad_source (early_kind f.kind) (place_of has.text f.at), has_early_error tokens has program f tree e refl)

    with_tokens : ((p : Statements) × IsProgram tokens p) ⊎ ((f : ParseFault) × IsNoProgram tokens (length has.text) f) → ProgramOrFault
    with_tokens (inl h) = with_early h.0 h.1 (early_error h.0) refl
    with_tokens (inr h) =
        let k = parse_kind_of tokens (length has.text) h.0 h.1 in
        inr (bad_source k.0 (place_of has.text (parse_fault_at h.0)), is_no_program tokens has h.0 k.0 h.1 k.1 refl)

  with_text : (text : List ℕ) → source_text bytes ≡ Ok text → ((ts : List Token) × IsTokens text ts) ⊎ ((f : ScanFault) × IsFault text f) → ProgramOrFault
  with_text text decoded (inl h) = with_tokens h.0 (record { text = text; decoded = decoded; scanned = h.1 }) (parsed.one_at_least h.0 (length text))
  with_text text decoded (inr h) =
      let bad = h.1 in
      let k = scan_kind_of bad.1 bad.2 h.0 bad.4 in
      inr (bad_source k.0 (place_of text (fault_at h.0)), has_no_tokens text h.0 k.0 decoded h.1 k.1 refl)

  pub program_judged : ProgramOrFault
  program_judged = by (source_text bytes) refl
    where
      by : (r : Result (List ℕ) SourceFault) → source_text bytes ≡ r → ProgramOrFault
      by (Ok text) e = with_text text e (scanned.reads_all text)
      by (Err x) e = inr (x, has_no_text e)

-- ---- the laws

pub is_program_once : IsProgramOnce
is_program_once first second bytes p q = program_is bytes first second p q

pub is_program_or_refused : IsProgramOrRefused
is_program_or_refused bytes = (program_judged bytes, program_or_fault bytes, program_fault bytes)
