use Rattle.std.proofs.Common.{rules, IfOk, IfErr, subst}
use Rattle.js_scan.specs.Tokens.{IsTokens, IsFaultOf}
use Rattle.js_scan.proofs.Beginnings.{answer_begins}
use Rattle.js_scan.proofs.scanning.scan.Goals as goal
use Rattle.js_scan.proofs.Laws.{answer_within, only_tokens, only_fault}

pub returns-clause-begins : goal.returns-clause-begins
returns-clause-begins c =
    answer_begins (λ x. x.items) c.args.source.now c.tokens_of.result (subst (λ us. IfOk c.tokens_of.result (λ x. IsTokens us x.items)) c.units.ensures c.tokens_of.ensures.tokens)

pub returns-clause-place : goal.returns-clause-place
returns-clause-place c = search (rules, answer_within)

pub returns-clause-only_tokens : goal.returns-clause-only_tokens
returns-clause-only_tokens c =
    only_tokens (λ x. x.items) c.args.source.now c.tokens_of.result
    (subst (λ us. IfOk c.tokens_of.result (λ x. IsTokens us x.items)) c.units.ensures c.tokens_of.ensures.tokens)
    (subst (λ us. IfErr c.tokens_of.result (λ f. IsFaultOf us f)) c.units.ensures c.tokens_of.ensures.fault)

pub returns-clause-only_fault : goal.returns-clause-only_fault
returns-clause-only_fault c =
    only_fault (λ x. x.items) c.args.source.now c.tokens_of.result
    (subst (λ us. IfOk c.tokens_of.result (λ x. IsTokens us x.items)) c.units.ensures c.tokens_of.ensures.tokens)
    (subst (λ us. IfErr c.tokens_of.result (λ f. IsFaultOf us f)) c.units.ensures c.tokens_of.ensures.fault)
