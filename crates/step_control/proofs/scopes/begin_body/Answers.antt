use Rattle.std.proofs.Common.{refl, ap, length, ◌∙◌, [], ◌∷◌, true, Ok}
use Rattle.std.proofs.lemmas.List.{nil_from_length}
use Rattle.flow_frames.specs.declared.kind.Kind.TheVariants as kind
use Rattle.origin_labels.specs.Label.{bottom}
use Rattle.js_values.proofs.ReadingLaws.{IsReading-earlier}
use Rattle.flow_meaning.specs.Planned.{planned, asking}
use Rattle.continuations.specs.declared.continuation.Continuation.TheVariants as continuation
use Rattle.continuations.specs.declared.continuation.Control.TheVariants as control
use Rattle.continuations.specs.Shapes.{round_of}
use Rattle.continuations.proofs.ScopeLaws.{scope_begins}
use Rattle.continuations.proofs.Keeping.{opened_keeping}
use Rattle.step_control.proofs.scopes.begin_body.Goals as goal

pub returns-clause-goes_on : goal.returns-clause-goes_on
returns-clause-goes_on g c =
    let body = (round_of c.args.round).body in
    scope_begins g.L.Labels.made g.L.Labels.meaning c.enter.new.labels
    (λ tables inputs set functions e. (asking tables inputs set functions).stmt body e.env) (λ tables inputs set functions e. (planned tables inputs set functions).round true (round_of c.args.round).labels e.env ((asking tables inputs set functions).stmt body)) (λ depth. continuation.EndRound true depth c.args.round.of) kind.Turn bottom
    c.args.stack.now c.push.new.self c.push.new.self c.args.frames.now.frames c.enter.new.frames.frames c.len-depth.result c.bottom-none.result (Ok (control.Stmt c.body.result))
    (λ tables inputs set functions f s. refl) (nil_from_length c.args.stack.now.loose c.requires.loose) c.in_ok-push.ensures.ok c.len-depth.ensures.length c.in_ok-enter.ensures.entered
    (λ reading read. (IsReading-earlier g.L.Labels.made g.L.Labels.meaning g.L.Labels.room g.L.Labels.firm c.args.labels.now c.enter.new.labels reading c.enter.ensures.kept read).agrees c.bottom-none.result c.bottom-none.ensures.made ∙ c.bottom-none.ensures.meaning)
    (λ tables inputs set functions reading e s loose. rw c.body.ensures refl)

pub returns-clause-opened : goal.returns-clause-opened
returns-clause-opened g c =
    opened_keeping c.args.stack.now c.push.new.self c.push.new.self (continuation.EndRound true c.len-depth.result c.args.round.of) c.args.frames.now.frames c.enter.new.frames.frames (Ok (control.Stmt c.body.result))
    (ap (λ d. d ∷ []) c.len-depth.ensures.length) refl c.in_ok-push.ensures.scopes c.in_ok-push.ensures.natives c.in_ok-push.ensures.operands c.in_ok-enter.ensures.length
    (record { values = ap (λ k. length k.loose) c.in_ok-push.ensures.ok; scopes = refl; natives = refl; operands = refl })
