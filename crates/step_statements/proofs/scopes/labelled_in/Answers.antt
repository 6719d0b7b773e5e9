use Rattle.std.proofs.Common.{refl, ap, length, [], ◌∷◌, Ok}
use Rattle.std.proofs.lemmas.List.{nil_from_length}
use Rattle.continuations.specs.declared.continuation.Continuation.TheVariants as continuation
use Rattle.continuations.specs.declared.continuation.Control.TheVariants as control
use Rattle.continuations.proofs.Keeping.{opened_keeping}
use Rattle.step_statements.proofs.Labelled.{label_begins}
use Rattle.step_statements.proofs.scopes.labelled_in.Goals as goal

pub returns-clause-goes_on : goal.returns-clause-goes_on
returns-clause-goes_on g c =
    label_begins g.L.Labels.made g.L.Labels.meaning c.enter.new.labels c.args.text c.args.body c.args.stack.now c.push.new.self c.args.frames.now.frames c.enter.new.frames.frames c.len-depth.result
    (nil_from_length c.args.stack.now.loose c.requires.loose) c.in_ok-push.ensures.ok c.len-depth.ensures.length c.in_ok-enter.ensures.entered

pub returns-clause-opened : goal.returns-clause-opened
returns-clause-opened g c =
    opened_keeping c.args.stack.now c.push.new.self c.push.new.self (continuation.EndLabel c.len-depth.result c.args.text) c.args.frames.now.frames c.enter.new.frames.frames (Ok (control.Stmt c.args.body))
    (ap (λ d. d ∷ []) c.len-depth.ensures.length) refl c.in_ok-push.ensures.scopes c.in_ok-push.ensures.natives c.in_ok-push.ensures.operands c.in_ok-enter.ensures.length
    (record { values = ap (λ k. length k.loose) c.in_ok-push.ensures.ok; scopes = refl; natives = refl; operands = refl })
