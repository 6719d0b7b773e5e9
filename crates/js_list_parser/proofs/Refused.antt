-- The parsers refuse where the tokens before have a completion, and so exactly at the first token with which they have none: for programs, for lists
-- of statements and for expressions.
use Rattle.std.proofs.Common.{◌≡◌, ℕ, zero, suc, ◌<◌, ◌≤◌, max, ◌⊎◌, inl, inr, Bool, true, false, cond, if◌then◌else◌, List, [], ◌∷◌, ◌++◌, Some, Result, Ok, Err, refl, sym, ap, subst, ◌∙◌, append_assoc, append-nil, arith}
use Rattle.std.proofs.lemmas.List.{append_cancel_right}
use Rattle.js_ast.specs.declared.token.Token.{Token}
use Rattle.js_ast.specs.declared.words.Keyword.TheVariants as key
use Rattle.js_ast.specs.declared.words.Sign.TheVariants as sign
use Rattle.js_ast.specs.Words.{Word, a_key, a_sign, word_by, word_of}
use Rattle.js_ast.specs.Trees.{Expr, Statements}
use Rattle.js_ast.specs.Depth.{depth_statements}
use Rattle.js_ast.specs.Validity.{ValidStatements}
use Rattle.js_ast.specs.Grammar.{is_close_brace, closes, Reads, Spells, ReadsStatements}
use Rattle.js_list_parser.specs.Reading.{Fault, syntax, refused, Read, ◌>>=◌, word_at}
use Rattle.js_list_parser.specs.ExpressionParsing.{Stops}
use Rattle.js_list_parser.specs.StatementParsing.{ends_list}
use Rattle.js_list_parser.specs.Parsing.{parsers, to_end, program_at, to_close, list_at, longest_at}
use Rattle.js_list_parser.specs.Refusals.{Nonterminal, BeginsProgram, IsWholeProgram, a_program, IsList, a_list, BeginsExpression, IsLongest, IsLongestExpression, an_expression, InPlaceOf, FindsExactly, RefusesExactly, OneFound, OneRefusal, FoundOrRefused}
use Rattle.js_list_parser.proofs.Sound.{all_sound, program_sound}
use Rattle.js_list_parser.proofs.Complete.{all_below, program_reads}
use Rattle.js_list_parser.proofs.Fronts.{expr_fixed, statements_loose}
use Rattle.js_list_parser.proofs.Outcomes.{bind_ok, same_tree, same_rest}
use Rattle.js_list_parser.proofs.Local.{Alike, alike_nothing, alike_something, Local, always, never, local_then, local_ok, local_fail, local_swap}
use Rattle.js_list_parser.proofs.Stops.{closer_stops}
use Rattle.js_list_parser.proofs.Stopping.{stops_or_goes_on}
use Rattle.js_list_parser.proofs.Remaining.{no_longer}
use Rattle.js_list_parser.proofs.LocalProgram.{parsers_local, parsers_grow, program_local, program_grows}
use Rattle.js_list_parser.proofs.Viable.{Completes, CompletesStatements, debugger_for, Stuck, StuckBelow, Fails, fails-ok, fails-err, fails-bind}
use Rattle.js_list_parser.proofs.ExpressionRefused.{expression_refused, primary_refused, further_refused}
use Rattle.js_list_parser.proofs.ExpressionRefusedOperand.{operand_refused}
use Rattle.js_list_parser.proofs.ExpressionRefusedLists.{function_rest_refused}
use Rattle.js_list_parser.proofs.WordRefused.{statement_at_refused}
use Rattle.js_list_parser.proofs.ListRefused.{statements_at_refused, statements_at_complete}
use Rattle.js_list_parser.proofs.RefusalLaws.{Halts, Parses, Finds, ends}
use Rattle.js_list_parser.proofs.RefusalLaws as laws

-- by induction on the number
pub all_stuck : (n : ℕ) → 0 < n → StuckBelow n (parsers n)
unfolding parsers
all_stuck zero pos = absurd (omega arith)
all_stuck (suc d) pos =
    let (b, c) = all_sound d in
    let shrinks = no_longer d in
    let stuck = λ (p : 0 < d). all_stuck d p in
    let sub = parsers d in
    let expressions = λ (ts : List Token). expression_refused d sub b shrinks stuck 0 (omega arith) true ts in
    record {
      expression = λ wanted free ts low. expression_refused d sub b shrinks stuck wanted low free ts;
      operand = λ wanted free ts low. operand_refused d sub b shrinks stuck wanted low free ts;
      first = λ wanted free ts low. primary_refused d sub b shrinks stuck wanted low free ts;
      further = λ l wanted free start e ts low f a. further_refused d sub b shrinks stuck wanted low free l start e ts f a;
      statement = statement_at_refused d sub b c stuck (parsers_local d) expressions;
      statements = statements_at_refused d sub b c stuck (parsers_local d) expressions (λ p ts. function_rest_refused d sub b shrinks p (stuck p) ts);
    }

-- ---- what completes tokens

debugger_stands : (t : Token) → InPlaceOf t (debugger_for t)
unfolding word_by
debugger_stands t = (refl, refl)

-- where the completions are trees that the tokens begin
stuck_halts : {T : Type 0} (kind : Nonterminal T) {C : ℕ → List Token → Type 0} (limit : ℕ) (f : Fault) (ts z : List Token) → ((n : ℕ) (w : List Token) → C n w → kind.Begins n w) → Stuck C limit f ts z → Halts kind limit f ts z
stuck_halts kind limit f ts z begins s = record {
  taken = s.word;
  parts = s.parts;
  begins = begins limit s.word s.within;
  deeper = λ g. let x = s.deeper g in (x.token, x.rest, x.parts, (x.limit, begins x.limit _ x.is));
  stands = λ g. let x = s.instead g in (x.token, x.rest, x.parts, x.is_with, (debugger_for x.token, debugger_stands x.token, (x.limit, begins x.limit _ x.is)));
}

begins_program : (n : ℕ) (w : List Token) → CompletesStatements true n w → BeginsProgram n w
begins_program n w h = let x = (h.opens).each [] in record { program = h.trees; more = x.0; valid = h.valid; shallow = h.shallow; spells = x.1 }

begins_expression : (free : Bool) (n : ℕ) (w : List Token) → Completes 0 free n w → BeginsExpression free n w
begins_expression free n w h = let x = (h.opens).each [] in record { tree = h.tree; more = x.0; valid = h.valid; without_in = h.without_in; shallow = h.shallow; spells = x.1 }

program_front : (limit : ℕ) (a b : List Token) → BeginsProgram limit (a ++ b) → BeginsProgram limit a
program_front limit a b h = record { program = h.program; more = b ++ h.more; valid = h.valid; shallow = h.shallow; spells = rw append_assoc at h.spells }

expression_front : (free : Bool) (limit : ℕ) (a b : List Token) → BeginsExpression free limit (a ++ b) → BeginsExpression free limit a
expression_front free limit a b h = record { tree = h.tree; more = b ++ h.more; valid = h.valid; without_in = h.without_in; shallow = h.shallow; spells = rw append_assoc at h.spells }

-- ---- statements, and what ends them

-- what ends statements refuses a token behind them, and what was read is complete
module _ (end : Statements → List Token → Read Statements) (ends_or_refuses : (n : ℕ) (start : List Token) (ss : Statements) (ts : List Token) → Stuck (CompletesStatements true) n syntax start ts → Fails (end ss ts) (λ f z. Stuck (CompletesStatements true) n f start z)) where
  statements_refused : (d : ℕ) (ts : List Token) → Fails ((parsers (suc d)).statements true ts >>= λ ss. end ss.0 ss.1) (λ f z. Stuck (CompletesStatements true) (suc d) f ts z)
  unfolding parsers
  statements_refused d ts =
      let (b, c) = all_sound d in
      let shrinks = no_longer d in
      let stuck = λ (p : 0 < d). all_stuck d p in
      let sub = parsers d in
      fails-bind (statements_at_complete d sub b c stuck (parsers_local d) (λ us. expression_refused d sub b shrinks stuck 0 (omega arith) true us) (λ p us. function_rest_refused d sub b shrinks p (stuck p) us) true ts)
      ((all_stuck (suc d) (omega arith)).statements true ts) (λ ss s. ends_or_refuses (suc d) ts ss.0 ss.1 s)

-- ---- programs

end_refused : (n : ℕ) (start : List Token) (ss : Statements) (ts : List Token) → Stuck (CompletesStatements true) n syntax start ts → Fails (to_end ss ts) (λ f z. Stuck (CompletesStatements true) n f start z)
unfolding to_end
end_refused n start ss [] s = fails-ok
end_refused n start ss (t ∷ ts) s = fails-err s

program_refused : (n : ℕ) → 1 ≤ n → (ts : List Token) → Fails (program_at n ts) (λ f z. Stuck (CompletesStatements true) n f ts z)
unfolding program_at
program_refused zero pos ts = absurd (omega arith)
program_refused (suc d) pos ts = statements_refused to_end end_refused d ts

program_whole : (limit : ℕ) (taken : List Token) → BeginsProgram limit taken → (more : List Token) × (tree : Statements) × (program_at limit (taken ++ more) ≡ Ok (tree, []))
program_whole limit taken h = (h.more, h.program, program_reads limit h.program (taken ++ h.more) h.valid h.shallow h.spells)

parses_programs : Parses a_program program_at
parses_programs = record {
  front = program_front;
  whole = program_whole;
  local = program_local;
  grows = program_grows;
  halts = λ n pos ts z f e. stuck_halts a_program n f ts z begins_program ((program_refused n pos ts).is f z e);
}

-- behind a program is nothing
at_end : (p ss : Statements) (us z : List Token) → to_end ss us ≡ Ok (p, z) → z ≡ []
unfolding to_end
at_end p ss [] z e = sym (same_rest _ _ _ _ e)
at_end p ss (t ∷ us) z e = absurd cc

program_found : (limit : ℕ) (p : Statements) (ts z : List Token) → program_at limit ts ≡ Ok (p, z) → z ≡ []
unfolding program_at
program_found limit p ts z e = let (x, h, i) = bind_ok ((parsers limit).statements true ts) _ (p, z) e in at_end p x.0 x.1 z i

finds_programs : Finds a_program program_at
finds_programs = record {
  begun = λ n p taken others h. record { program = p; more = []; valid = h.valid; shallow = h.shallow; spells = rw append-nil h.spells };
  sound = λ n p ts z e. let s = (program_sound n ts).is (p, z) e in let nothing = program_found n p ts z e in (ts, rw (nothing, append-nil) refl, record { valid = s.0; shallow = s.1; spells = s.2; all = nothing });
  complete = λ n p taken others h. rw (h.all, append-nil) (program_reads n p taken h.valid h.shallow h.spells);
}

-- ---- lists of statements

-- by whether the tokens close
close_by : Bool → Statements → List Token → Read Statements
close_by closing ss ts = if closing then Ok (ss, ts) else Err (refused syntax ts)

-- what begins alike closes or doesn't
alike_closes : (z y : List Token) → Alike z y → closes y ≡ closes z
alike_closes [] y a = rw (alike_nothing y a) refl
alike_closes (t ∷ z) [] a = absurd (alike_something t z a)
alike_closes (t ∷ z) (s ∷ y) (inl e) = let same : t ≡ s = cc in rw same refl
alike_closes (t ∷ z) (s ∷ y) (inr w) = let here : word_of t ≡ a_key key.With = (let h = w.here in cc) in let there : word_of s ≡ a_key key.Debugger = (let h = w.there in cc) in rw (here, there) refl

local_close : {same : Bool} (ss : Statements) (ts : List Token) → Local same never (to_close ss) ts (to_close ss ts)
unfolding to_close close_by
local_close {same = same} ss ts = by (closes ts) refl
  where
    alike : (b : Bool) → closes ts ≡ b → (u : List Token) → Alike ts u → to_close ss u ≡ close_by b ss u
    alike b e u a = rw (alike_closes ts u a, e) refl

    by : (b : Bool) → closes ts ≡ b → Local same never (to_close ss) ts (close_by b ss ts)
    by true e = local_swap (alike true e) local_ok
    by false e = local_swap (alike false e) local_fail

list_local : (n : ℕ) (ts : List Token) → Local true never (list_at n) ts (list_at n ts)
unfolding list_at
list_local n ts = local_then _ _ ((parsers_local n).statements true ts) (λ ss m. local_close ss m)

list_grows : (n m : ℕ) → n ≤ m → (ts : List Token) → Local false never (list_at m) ts (list_at n ts)
unfolding list_at
list_grows n m le ts = local_then _ _ ((parsers_grow n m le).statements true ts) (λ ss m. local_close ss m)

close_refused : (n : ℕ) (start : List Token) (ss : Statements) (ts : List Token) → Stuck (CompletesStatements true) n syntax start ts → Fails (to_close ss ts) (λ f z. Stuck (CompletesStatements true) n f start z)
unfolding to_close close_by
close_refused n start ss ts s = by (closes ts)
  where
    by : (b : Bool) → Fails (close_by b ss ts) (λ f z. Stuck (CompletesStatements true) n f start z)
    by true = fails-ok
    by false = fails-err s

list_refused : (n : ℕ) → 1 ≤ n → (ts : List Token) → Fails (list_at n ts) (λ f z. Stuck (CompletesStatements true) n f ts z)
unfolding list_at
list_refused zero pos ts = absurd (omega arith)
list_refused (suc d) pos ts = statements_refused to_close close_refused d ts

-- where they close, a list ends
closing_word : (w : Word) → is_close_brace w ≡ true → ends_list (Some w) ≡ true
closing_word (a_sign sign.CloseBrace) h = refl
closing_word _ h = cc

closing_ends : (ts : List Token) → closes ts ≡ true → ends_list (word_at ts) ≡ true
closing_ends [] h = refl
closing_ends (t ∷ ts) h = closing_word (word_of t) h

closed_ok : (ss : Statements) (ts : List Token) → closes ts ≡ true → to_close ss ts ≡ Ok (ss, ts)
unfolding to_close
closed_ok ss ts h = rw h refl

list_reads : (n : ℕ) (ss : Statements) (ts z : List Token) → ValidStatements true ss → depth_statements ss < n → ReadsStatements ss ts z → closes z ≡ true → list_at n ts ≡ Ok (ss, z)
unfolding list_at
list_reads n ss ts z v lt r c = rw ((all_below n).1.statements true ss ts z v lt r (closing_ends z c)) (closed_ok ss z c)

parses_lists : Parses a_list list_at
parses_lists = record {
  front = program_front;
  whole = λ n taken h. (h.more, h.program, list_reads n h.program (taken ++ h.more) [] h.valid h.shallow h.spells refl);
  local = list_local;
  grows = list_grows;
  halts = λ n pos ts z f e. stuck_halts a_list n f ts z begins_program ((list_refused n pos ts).is f z e);
}

-- what closes is all
closed_is : (ss p : Statements) (ts z : List Token) → to_close ss ts ≡ Ok (p, z) → (ss ≡ p) × (ts ≡ z) × (closes z ≡ true)
unfolding to_close close_by
closed_is ss p ts z e = by (closes ts) refl e
  where
    by : (b : Bool) → closes ts ≡ b → close_by b ss ts ≡ Ok (p, z) → (ss ≡ p) × (ts ≡ z) × (closes z ≡ true)
    by true h e = let same = same_rest _ _ _ _ e in (same_tree _ _ _ _ e, same, rw (sym same) h)
    by false h e = absurd cc

list_sound : (n : ℕ) (ss : Statements) (ts z : List Token) → list_at n ts ≡ Ok (ss, z) → (taken : List Token) × (ts ≡ taken ++ z) × IsList n ss taken z
unfolding list_at
list_sound n ss ts z e =
    let (x, h, i) = bind_ok ((parsers n).statements true ts) _ (ss, z) e in
    let c = closed_is x.0 ss x.1 z i in
    let f = (all_sound n).1.statements true ts x.0 x.1 h in
    let w = statements_loose x.0 ts x.1 f.reads in (
      w.word,
      w.parts ∙ ap (λ (v : List Token). w.word ++ v) c.1,
      record {
        valid = subst (ValidStatements true) c.0 f.valid;
        shallow = subst (λ (s : Statements). depth_statements s < n) c.0 f.shallow;
        reads = subst (λ (s : Statements). ReadsStatements s (w.word ++ z) z) c.0 (subst (λ (v : List Token). ReadsStatements x.0 (w.word ++ v) v) c.1 (subst (λ (v : List Token). ReadsStatements x.0 v x.1) w.parts f.reads));
        closed = c.2;
      },
    )

-- the end of the tokens may stand where a `}` stands
list_begun : (n : ℕ) (p : Statements) (taken others : List Token) → IsList n p taken others → BeginsProgram n taken
list_begun n p taken others h =
    let w = statements_loose p (taken ++ others) others h.reads in
    let same_word : w.word ≡ taken = append_cancel_right w.word taken others (sym w.parts) in
    record { program = p; more = []; valid = h.valid; shallow = h.shallow; spells = subst (λ (v : List Token). ReadsStatements p (v ++ []) []) same_word (w.each [] (inr refl)) }

finds_lists : Finds a_list list_at
finds_lists = record {
  begun = list_begun;
  sound = list_sound;
  complete = λ n p taken others h. list_reads n p (taken ++ others) others h.valid h.shallow h.reads h.closed;
}

-- ---- expressions

-- an answer that takes a token or none
any_takes : {A : Type 0} {same : Bool} {some : A → Bool} {p : List Token → Read A} {ts : List Token} {r : Read A} → Local same some p ts r → Local same never p ts r
any_takes l = record { reads = l.reads; takes = λ a z h e. absurd cc; refuses = l.refuses }

expression_whole : (free : Bool) (n : ℕ) (taken : List Token) → BeginsExpression free n taken → (more : List Token) × (tree : Expr) × (longest_at free n (taken ++ more) ≡ Ok (tree, []))
unfolding longest_at
expression_whole free n taken h = (h.more, h.tree, (all_below n).0.expression 0 free h.tree (taken ++ h.more) [] h.valid h.shallow (inl (omega arith)) h.without_in h.spells (closer_stops 0 free h.tree [] refl))

parses_expressions : (free : Bool) → Parses (an_expression free) (longest_at free)
unfolding longest_at
parses_expressions free = record {
  front = expression_front free;
  whole = expression_whole free;
  local = λ n ts. any_takes ((parsers_local n).expression 0 free ts);
  grows = λ n m le ts. any_takes ((parsers_grow n m le).expression 0 free ts);
  halts = λ n pos ts z f e. stuck_halts (an_expression free) n f ts z (begins_expression free) (((all_stuck n pos).expression 0 free ts (omega arith)).is f z e);
}

-- no expression goes on where one was read
read_longest : (free : Bool) (n : ℕ) (e : Expr) (taken z : List Token) → longest_at free n (taken ++ z) ≡ Ok (e, z) → IsLongest free taken z
read_longest free n e taken [] h = tt
read_longest free n e taken (x ∷ z) h = λ limit b. ends (an_expression free) (longest_at free) (parses_expressions free) n e taken x z h (limit, b)

expression_sound : (free : Bool) (n : ℕ) (e : Expr) (ts z : List Token) → longest_at free n ts ≡ Ok (e, z) → (taken : List Token) × (ts ≡ taken ++ z) × IsLongestExpression free n e taken z
unfolding longest_at
expression_sound free n e ts z h =
    let f = (all_sound n).0.expression 0 free ts e z (omega arith) h in
    let w = expr_fixed e ts z f.reads in (
      w.word,
      w.parts,
      record {
        valid = f.valid;
        without_in = f.without_in;
        shallow = f.shallow;
        spells = subst (λ (v : List Token). Reads e v []) (append-nil w.word) (w.each [] tt);
        longest = read_longest free n e w.word z (subst (λ (v : List Token). longest_at free n v ≡ Ok (e, z)) w.parts h);
      },
    )

-- the longest expression stops
longest_stops : (free : Bool) (n : ℕ) (e : Expr) (taken others : List Token) → IsLongestExpression free n e taken others → Reads e (taken ++ others) others → Stops 0 free e others
longest_stops free n e taken [] h r = closer_stops 0 free e [] refl
longest_stops free n e taken (x ∷ others) h r =
    let w = expr_fixed e (taken ++ x ∷ others) (x ∷ others) r in
    let same_word : w.word ≡ taken = append_cancel_right w.word taken (x ∷ others) (sym w.parts) in
    elim (stops_or_goes_on free e (taken ++ x ∷ others) x others h.valid h.without_in r) [
      | inl s ↦ s
      | inr g ↦ absurd (h.longest g.0 (begins_expression free g.0 (taken ++ x ∷ []) (subst (λ (v : List Token). Completes 0 free g.0 (v ++ x ∷ [])) same_word g.1)))
    ]

expression_complete : (free : Bool) (n : ℕ) (e : Expr) (taken others : List Token) → IsLongestExpression free n e taken others → longest_at free n (taken ++ others) ≡ Ok (e, others)
unfolding longest_at
expression_complete free n e taken others h =
    let w = expr_fixed e taken [] h.spells in
    let same_word : w.word ≡ taken = sym (w.parts ∙ append-nil w.word) in
    let r : Reads e (taken ++ others) others = subst (λ (v : List Token). Reads e (v ++ others) others) same_word (w.each others tt) in
    (all_below n).0.expression 0 free e (taken ++ others) others h.valid h.shallow (inl (omega arith)) h.without_in r (longest_stops free n e taken others h r)

finds_expressions : (free : Bool) → Finds (an_expression free) (longest_at free)
finds_expressions free = record {
  begun = λ n e taken others h. record { tree = e; more = []; valid = h.valid; without_in = h.without_in; shallow = h.shallow; spells = rw append-nil h.spells };
  sound = expression_sound free;
  complete = expression_complete free;
}

-- ---- the laws

pub finds_exactly : FindsExactly a_program program_at × FindsExactly a_list list_at × ((free : Bool) → FindsExactly (an_expression free) (longest_at free))
finds_exactly = (
  laws.finds_exactly a_program program_at parses_programs finds_programs,
  laws.finds_exactly a_list list_at parses_lists finds_lists,
  λ free. laws.finds_exactly (an_expression free) (longest_at free) (parses_expressions free) (finds_expressions free),
)

pub refuses_exactly : RefusesExactly a_program program_at × RefusesExactly a_list list_at × ((free : Bool) → RefusesExactly (an_expression free) (longest_at free))
refuses_exactly = (
  laws.refuses_exactly a_program program_at parses_programs finds_programs,
  laws.refuses_exactly a_list list_at parses_lists finds_lists,
  λ free. laws.refuses_exactly (an_expression free) (longest_at free) (parses_expressions free) (finds_expressions free),
)

pub one_found : OneFound a_program × OneFound a_list × ((free : Bool) → OneFound (an_expression free))
one_found = (
  laws.one_found a_program program_at parses_programs finds_programs,
  laws.one_found a_list list_at parses_lists finds_lists,
  λ free. laws.one_found (an_expression free) (longest_at free) (parses_expressions free) (finds_expressions free),
)

pub one_refusal : OneRefusal a_program × OneRefusal a_list × ((free : Bool) → OneRefusal (an_expression free))
one_refusal = (
  laws.one_refusal a_program program_at parses_programs,
  laws.one_refusal a_list list_at parses_lists,
  λ free. laws.one_refusal (an_expression free) (longest_at free) (parses_expressions free),
)

pub found_or_refused : FoundOrRefused a_program × FoundOrRefused a_list × ((free : Bool) → FoundOrRefused (an_expression free))
found_or_refused = (
  laws.found_or_refused a_program program_at parses_programs finds_programs,
  laws.found_or_refused a_list list_at parses_lists finds_lists,
  λ free. laws.found_or_refused (an_expression free) (longest_at free) (parses_expressions free) (finds_expressions free),
)
