use Rattle.std.proofs.Common.{sym, subst}
use Rattle.origin_labels.specs.Label.{union}
use Rattle.flow_meaning.specs.Tracked.{set_marks_if}
use Rattle.run_state.specs.declared.outcome.SetLength.{SetLength}
use Rattle.run_state.specs.Accesses.{defines}
use Rattle.run_state.specs.Acts.{Acts}
use Rattle.property_requests.specs.Finding.{went}
use Rattle.property_requests.proofs.lengths.define_marks.Goals as goal

pub returns-in-Define-clause-acts : goal.returns-in-Define-clause-acts
returns-in-Define-clause-acts g c =
    subst (λ (how : SetLength). Acts g.L.Labels.made g.L.Labels.meaning c.set_marks.new.labels (λ reading (u : Unit {0}). u) (λ reading. set_marks_if (defines how) (union (reading c.args.site.now.place) (reading c.args.site.now.given)) c.args.marks c.args.site.now.object.0 c.args.site.now.key) c.args.world.now c.set_marks.new.world (went c.set_marks.result))
    (sym c.in-Define.is) c.set_marks.ensures.acts
