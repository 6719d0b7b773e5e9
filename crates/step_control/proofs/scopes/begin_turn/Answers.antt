use Rattle.std.proofs.Common.{refl, true}
use Rattle.std.proofs.lemmas.List.{nil_from_length}
use Rattle.es_meaning.specs.Evaluation.{turn_step}
use Rattle.flow_meaning.specs.Planned.{planned, asking}
use Rattle.continuations.specs.declared.continuation.Continuation.TheVariants as continuation
use Rattle.continuations.specs.Shapes.{round_of}
use Rattle.continuations.proofs.Steps.{turn_parts}
use Rattle.continuations.proofs.ScopeLaws.{work_begins}
use Rattle.continuations.proofs.Keeping.{opened_behind}
use Rattle.step_control.proofs.scopes.begin_turn.Goals as goal
use Rattle.continuations.specs.Settings.{entrance}

pub returns-clause-goes_on : goal.returns-clause-goes_on
returns-clause-goes_on g c =
    let round = round_of c.args.round in
    work_begins g.L.Labels.made g.L.Labels.meaning c.begin_body.new.labels
    (λ tables inputs set functions e. (planned tables inputs set functions).round true round.labels e.env ((asking tables inputs set functions).stmt round.body)) (λ tables inputs set functions e. turn_step (planned tables inputs set functions) (entrance tables inputs set functions) (asking tables inputs set functions) round e.env) (continuation.Turned c.args.round)
    c.args.stack.now c.push.new.self c.begin_body.new.stack c.args.frames.now.frames c.begin_body.new.frames.frames c.begin_body.result
    (λ tables inputs set functions f s. turn_parts tables inputs set functions round f.env s) (nil_from_length c.args.stack.now.loose c.requires.loose) c.in_ok-push.ensures.ok c.begin_body.ensures.goes_on

pub returns-clause-opened : goal.returns-clause-opened
returns-clause-opened g c =
    opened_behind c.args.stack.now c.push.new.self c.begin_body.new.stack (continuation.Turned c.args.round) c.args.frames.now.frames c.begin_body.new.frames.frames c.begin_body.result
    refl refl c.in_ok-push.ensures.scopes c.in_ok-push.ensures.natives c.in_ok-push.ensures.operands c.begin_body.ensures.opened
