use Rattle.std.proofs.Common.{rules, subst, ap, ◌∙◌, ◌++◌, ◌∷◌, []}
use Rattle.js_scan.specs.Found.{FindsElement}
use Rattle.js_scan.proofs.Steps.{read_start, separator_turn, lexeme_turn, fault_turn, read_whole, ahead, less_left}
use Rattle.js_scan.proofs.scanning.tokens_of.Goals as goal

pub elements-init : goal.elements-init
elements-init c = read_start c.args.units.now c.new-tokens.result.items c.start-state.result c.new-tokens.ensures.items c.start-state.ensures

pub returns-in_err-length-clause-fault : goal.returns-in_err-length-clause-fault
returns-in_err-length-clause-fault c = search (rules, fault_turn)

pub elements-smaller-in-Separator : goal.elements-smaller-in-Separator
elements-smaller-in-Separator c = less_left c.args.units.now c.elements.tokens.items c.elements.state c.past-state.result (separator_turn c.args.units.now c.elements.tokens.items c.elements.state c.past-state.result c.in-Separator.length c.in-Separator.breaks_line c.elements.invariant
    (subst (λ x. FindsElement c.elements.state (ahead c.args.units.now c.elements.state) x) c.in-Separator.is c.in_ok-length.ensures) c.past-state.ensures)

pub elements-preserved-in-Separator : goal.elements-preserved-in-Separator
elements-preserved-in-Separator c = (separator_turn c.args.units.now c.elements.tokens.items c.elements.state c.past-state.result c.in-Separator.length c.in-Separator.breaks_line c.elements.invariant
    (subst (λ x. FindsElement c.elements.state (ahead c.args.units.now c.elements.state) x) c.in-Separator.is c.in_ok-length.ensures) c.past-state.ensures).read

pub elements-smaller : goal.elements-smaller
elements-smaller c = less_left c.args.units.now c.push.new.self.items c.elements.state c.after-state.result (lexeme_turn c.args.units.now c.elements.tokens.items c.push.new.self.items c.elements.state c.after-state.result c.in-Lexeme.token c.elements.invariant
    (subst (λ x. FindsElement c.elements.state (ahead c.args.units.now c.elements.state) x) c.in-Lexeme.is c.in_ok-length.ensures) (c.in_ok-push-in-Lexeme.ensures.items ∙ ap (λ t. c.elements.tokens.items ++ t ∷ []) c.in_ok-token-in-Lexeme.ensures) c.after-state.ensures)

pub elements-preserved : goal.elements-preserved
elements-preserved c = (lexeme_turn c.args.units.now c.elements.tokens.items c.push.new.self.items c.elements.state c.after-state.result c.in-Lexeme.token c.elements.invariant
    (subst (λ x. FindsElement c.elements.state (ahead c.args.units.now c.elements.state) x) c.in-Lexeme.is c.in_ok-length.ensures) (c.in_ok-push-in-Lexeme.ensures.items ∙ ap (λ t. c.elements.tokens.items ++ t ∷ []) c.in_ok-token-in-Lexeme.ensures) c.after-state.ensures).read

pub returns-clause-tokens : goal.returns-clause-tokens
returns-clause-tokens c = read_whole c.args.units.now c.elements.tokens.items c.elements.state c.elements.invariant c.elements-test.false
