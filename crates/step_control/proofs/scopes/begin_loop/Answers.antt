use Rattle.std.proofs.Common.{refl, ap, ◌∙◌, [], ◌∷◌, Bool}
use Rattle.std.proofs.lemmas.List.{nil_from_length}
use Rattle.flow_frames.specs.declared.kind.Kind.TheVariants as kind
use Rattle.origin_labels.specs.Label.{bottom}
use Rattle.js_values.proofs.ReadingLaws.{IsReading-earlier}
use Rattle.es_meaning.specs.Evaluation.{loop, tested}
use Rattle.flow_meaning.specs.Planned.{planned, asking}
use Rattle.continuations.specs.declared.continuation.Continuation.TheVariants as continuation
use Rattle.continuations.specs.Shapes.{round_of}
use Rattle.continuations.proofs.Steps.{loop_step}
use Rattle.continuations.proofs.ScopeLaws.{scope_begins}
use Rattle.continuations.proofs.Keeping.{opened_keeping}
use Rattle.step_control.proofs.scopes.begin_loop.Goals as goal
use Rattle.continuations.specs.Settings.{entrance}

pub returns-clause-goes_on : goal.returns-clause-goes_on
returns-clause-goes_on g c =
    let round = round_of c.args.round in
    scope_begins g.L.Labels.made g.L.Labels.meaning c.enter.new.labels
    (λ tables inputs set functions e. tested (planned tables inputs set functions) (entrance tables inputs set functions) (asking tables inputs set functions) round e.env) (λ tables inputs set functions e. loop (planned tables inputs set functions) (entrance tables inputs set functions) (asking tables inputs set functions) round e.env) (λ depth. continuation.EndRound Bool.false depth c.args.round.of) kind.Loop bottom
    c.args.stack.now c.push.new.self c.begin_test.new.stack c.args.frames.now.frames c.enter.new.frames.frames c.len-depth.result c.bottom-none.result c.begin_test.result
    (λ tables inputs set functions f s. loop_step tables inputs set functions round f.env s) (nil_from_length c.args.stack.now.loose c.requires.loose) c.in_ok-push.ensures.ok c.len-depth.ensures.length c.in_ok-enter.ensures.entered
    (λ reading read. (IsReading-earlier g.L.Labels.made g.L.Labels.meaning g.L.Labels.room g.L.Labels.firm c.args.labels.now c.enter.new.labels reading c.enter.ensures.kept read).agrees c.bottom-none.result c.bottom-none.ensures.made ∙ c.bottom-none.ensures.meaning)
    c.begin_test.ensures.goes_on

pub returns-clause-opened : goal.returns-clause-opened
returns-clause-opened g c =
    opened_keeping c.args.stack.now c.push.new.self c.begin_test.new.stack (continuation.EndRound Bool.false c.len-depth.result c.args.round.of) c.args.frames.now.frames c.enter.new.frames.frames c.begin_test.result
    (ap (λ d. d ∷ []) c.len-depth.ensures.length) refl c.in_ok-push.ensures.scopes c.in_ok-push.ensures.natives c.in_ok-push.ensures.operands c.in_ok-enter.ensures.length c.begin_test.ensures.keeps
