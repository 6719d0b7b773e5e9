use Rattle.std.proofs.Common.{sym, ap, ap₂, ◌∙◌, ◌++◌, [], ◌∷◌, ◌≡◌}
use Rattle.js_values.specs.Readings.{HasValue}
use Rattle.js_values.proofs.ReadingLaws.{IsReading-earlier}
use Rattle.flow_meaning.specs.Scopes.{raised_in}
use Rattle.continuations.specs.declared.continuation.Continuation.TheVariants as continuation
use Rattle.continuations.proofs.BranchLaws.{last_one, none_in_front}
use Rattle.continuations.proofs.EndLaws.{last_has}
use Rattle.step_statements.proofs.SwitchLaws.{switch_goes, switch_opened}
use Rattle.step_statements.proofs.scopes.switched_in.Goals as goal

pub raise-requires-clause-label : goal.raise-requires-clause-label
raise-requires-clause-label g c = (c.in_ok-enter.ensures.kept.labels c.pop-value.result.label (last_has (HasValue (g.L.Labels.made c.args.labels.now)) c.pop-value.new.self.loose c.args.stack.now.loose c.pop-value.result c.pop-value.ensures.top c.requires.made)).0

pub returns-clause-goes_on : goal.returns-clause-goes_on
returns-clause-goes_on g c =
    let none : c.pop-value.new.self.loose ≡ [] = none_in_front c.pop-value.new.self.loose c.args.stack.now.loose c.pop-value.result c.pop-value.ensures.top c.requires.loose in
    switch_goes g.L.Labels.made g.L.Labels.meaning c.raise.new.labels c.args.of c.args.clauses c.args.stack.now c.lay.new.self c.test_from.new.stack c.pop-value.result c.args.frames.now.frames c.raise.new.frames.frames c.len-depth.result c.in_ok-next.next
    (λ value loose. last_one c.pop-value.new.self.loose c.pop-value.result value (sym c.pop-value.ensures.top ∙ loose))
    c.len-depth.ensures.length
    (c.lay.ensures.tasks ∙ ap (λ k. k.tasks) c.in_ok-push.ensures.ok ∙ ap₂ (λ ts vs. ts ++ (continuation.EndRound _ c.len-depth.result c.args.of, vs) ∷ []) c.pop-value.ensures.tasks none)
    (c.in_ok-lay.ensures.laid ∙ ap (λ k. k.loose ++ c.pop-value.result ∷ []) c.in_ok-push.ensures.ok)
    (λ reading s read. c.in_ok-raise.ensures.raised reading s read ∙ ap (λ fs. raised_in (reading c.pop-value.result.label) (record s { frames = fs })) (c.in_ok-enter.ensures.entered reading (IsReading-earlier g.L.Labels.made g.L.Labels.meaning g.L.Labels.room g.L.Labels.firm c.enter.new.labels c.raise.new.labels reading c.raise.ensures.kept read)))
    c.in_ok-next.ensures.goes_on

pub returns-clause-opened : goal.returns-clause-opened
returns-clause-opened g c =
    let none : c.pop-value.new.self.loose ≡ [] = none_in_front c.pop-value.new.self.loose c.args.stack.now.loose c.pop-value.result c.pop-value.ensures.top c.requires.loose in
    switch_opened c.args.of c.args.stack.now c.lay.new.self c.test_from.new.stack c.pop-value.result c.args.frames.now.frames c.raise.new.frames.frames c.len-depth.result c.in_ok-next.next
    (c.pop-value.ensures.top ∙ ap (λ vs. vs ++ c.pop-value.result ∷ []) none) c.len-depth.ensures.length
    (c.lay.ensures.tasks ∙ ap (λ k. k.tasks) c.in_ok-push.ensures.ok ∙ ap₂ (λ ts vs. ts ++ (continuation.EndRound _ c.len-depth.result c.args.of, vs) ∷ []) c.pop-value.ensures.tasks none)
    (c.in_ok-lay.ensures.laid ∙ ap (λ k. k.loose ++ c.pop-value.result ∷ []) c.in_ok-push.ensures.ok)
    (c.raise.ensures.length ∙ c.in_ok-enter.ensures.length) c.in_ok-next.ensures.fronts
