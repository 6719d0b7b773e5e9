use Rattle.std.proofs.Common.{arith, refl, ap, ◌∙◌, ◌-◌, [], ◌∷◌, ◌++◌, length}
use Rattle.flow_frames.specs.declared.kind.Kind.TheVariants as kind
use Rattle.js_values.specs.declared.value.Labelled.{Labelled}
use Rattle.es_meaning.specs.Plain.{undefined}
use Rattle.continuations.specs.declared.continuation.Control.TheVariants as control
use Rattle.continuations.proofs.EndLaws.{label_has}
use Rattle.step_calling.proofs.CallLaws.{nothing_given}
use Rattle.step_calling.proofs.StandingLaws.{stands_laid}
use Rattle.step_calling.proofs.refusals.give_nothing.Goals as goal

pub returns-clause-gives : goal.returns-clause-gives
returns-clause-gives g c tables inputs set functions ns =
    let out : Labelled _ = record { value = undefined; label = c.pop-label.result } in
    nothing_given g.L.Labels.made g.L.Labels.meaning c.args.labels.now tables inputs set functions ns c.args.stack.now c.lay.new.self c.args.world.now c.pop-label.new.self c.args.count c.args._depth c.args._label c.pop-label.result c.requires.begun
    c.pop-label.ensures.frames c.pop-label.ensures.label (c.lay.ensures.tasks ∙ c.clear.ensures.tasks) (c.in_ok-lay.ensures.laid ∙ ap (λ vs. vs ++ out ∷ []) c.clear.ensures.none)

pub returns-clause-standing : goal.returns-clause-standing
returns-clause-standing g c =
    let made = g.L.Labels.made in
    let meaning = g.L.Labels.meaning in
    let store = c.args.labels.now in
    let begun = c.requires.begun in
    let out : Labelled _ = record { value = undefined; label = c.pop-label.result } in
    stands_laid made meaning g.L.Labels.room g.L.Labels.firm store store (record { labels = λ l m. (m, refl); same_room = refl; same_firm = refl }) kind.Call c.args.stack.now c.args.world.now c.args.count c.args._depth c.args._label begun
    (record c.args.world.now { frames = c.pop-label.new.self })
    (record {
      frames = c.belonging_lasts.ensures.outermost store c.args.world.now.frames.frames c.pop-label.new.self.frames (length c.args.world.now.frames.frames - 1) c.pop-label.ensures.frames begun.belongs.frames;
      catch = c.len-count.ensures.catch;
      heap = begun.belongs.heap;
      records = begun.belongs.records;
      started = begun.belongs.started;
    })
    (omega arith) c.lay.new.self out control.Value (c.lay.ensures.tasks ∙ c.clear.ensures.tasks) (c.in_ok-lay.ensures.laid ∙ ap (λ vs. vs ++ out ∷ []) c.clear.ensures.none)
    (label_has (made store) c.args.world.now.frames.frames (length c.args.world.now.frames.frames - 1) c.pop-label.result begun.belongs.frames.labels c.pop-label.ensures.label) refl refl
    (omega (arith, c.pop-label.ensures.length, begun.frames, begun.deep))
