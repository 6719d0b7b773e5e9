use Rattle.std.proofs.Common.{sym, ◌≡◌, true, false, eq-eqb, ne_eqb}
use Rattle.std.specs.Prelude.{slice_index}
use Rattle.flow_policy.specs.Words.{words_of}
use Rattle.flow_policy.specs.Policies.{is_comment}
use Rattle.flow_policy.proofs.PolicyLaws.{words_none, words_comment, words_origin, words_in, words_out, words_keyword}
use Rattle.flow_policy.proofs.policy.Policy.declare.Goals as goal

pub returns-in_default : goal.returns-in_default
returns-in_default c = words_none c.args.self.now (words_of c.args.line.now) c.in_default.ensures.words

pub returns-then-keyword-eq35 : goal.returns-then-keyword-eq35
returns-then-keyword-eq35 c =
    let comment : is_comment c.in-Some.keyword.now ≡ true = eq-eqb (slice_index c.in-Some.keyword.now 0) 35 c.if-keyword-eq35.true in
    words_comment c.args.self.now (words_of c.args.line.now) (words_of c.in-Some.words.now) c.in-Some.keyword.now c.in-Some.ensures.words comment

pub returns-then-eq : goal.returns-then-eq
returns-then-eq c =
    let comment : is_comment c.in-Some.keyword.now ≡ false = ne_eqb (slice_index c.in-Some.keyword.now 0) 35 c.if-keyword-eq35.false in
    let origin = rw c.as_slice.ensures at (sym c.if-eq.ensures) in
    rw (words_origin c.args.self.now (words_of c.args.line.now) (words_of c.in-Some.words.now) c.in-Some.keyword.now c.in-Some.ensures.words comment origin) c.declare_origin.ensures

pub returns-then-eq-2 : goal.returns-then-eq-2
returns-then-eq-2 c =
    let comment : is_comment c.in-Some.keyword.now ≡ false = ne_eqb (slice_index c.in-Some.keyword.now 0) 35 c.if-keyword-eq35.false in
    let origin = rw c.as_slice.ensures at (sym c.if-eq.ensures) in
    let input = rw c.as_slice-else-eq.ensures at (sym c.if-eq-2.ensures) in
    rw (words_in c.args.self.now (words_of c.args.line.now) (words_of c.in-Some.words.now) c.in-Some.keyword.now c.in-Some.ensures.words comment origin input) c.declare_input.ensures

pub returns-then-eq-3 : goal.returns-then-eq-3
returns-then-eq-3 c =
    let comment : is_comment c.in-Some.keyword.now ≡ false = ne_eqb (slice_index c.in-Some.keyword.now 0) 35 c.if-keyword-eq35.false in
    let origin = rw c.as_slice.ensures at (sym c.if-eq.ensures) in
    let input = rw c.as_slice-else-eq.ensures at (sym c.if-eq-2.ensures) in
    let output = rw c.as_slice-else-eq-2.ensures at (sym c.if-eq-3.ensures) in
    rw (words_out c.args.self.now (words_of c.args.line.now) (words_of c.in-Some.words.now) c.in-Some.keyword.now c.in-Some.ensures.words comment origin input output) c.declare_output.ensures

pub returns-else-eq-3 : goal.returns-else-eq-3
returns-else-eq-3 c =
    let comment : is_comment c.in-Some.keyword.now ≡ false = ne_eqb (slice_index c.in-Some.keyword.now 0) 35 c.if-keyword-eq35.false in
    let origin = rw c.as_slice.ensures at (sym c.if-eq.ensures) in
    let input = rw c.as_slice-else-eq.ensures at (sym c.if-eq-2.ensures) in
    let output = rw c.as_slice-else-eq-2.ensures at (sym c.if-eq-3.ensures) in
    words_keyword c.args.self.now (words_of c.args.line.now) (words_of c.in-Some.words.now) c.in-Some.keyword.now c.in-Some.ensures.words comment origin input output
