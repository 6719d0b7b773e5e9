use Rattle.std.proofs.Common.{subst, sym}
use Rattle.flow_frames.specs.Held.{Belong}
use Rattle.flow_frames.proofs.ContextLaws.{seen-kept}
use Rattle.flow_frames.proofs.StandingLaws.{Belong-kept, Belong-take, Belong-quieted}
use Rattle.flow_frames.proofs.laws.belonging_lasts.Goals as goal

pub returns-clause-belongs : goal.returns-clause-belongs
returns-clause-belongs g c = λ old new frames kept belong. Belong-kept _ _ g.met.L.Labels.rising _ _ old new frames kept belong

pub returns-clause-seen : goal.returns-clause-seen
returns-clause-seen g c = λ old new frames kept belong. seen-kept _ _ _ _ old new frames kept belong.labels

pub returns-clause-outermost : goal.returns-clause-outermost
returns-clause-outermost g c = λ store before after n same belong. subst (Belong g.L.Labels.made g.L.Labels.meaning store) (sym same) (Belong-take _ _ g.met.L.Labels.rising store n before belong)

pub returns-clause-quiet : goal.returns-clause-quiet
returns-clause-quiet g c = λ store before after depth same belong. subst (Belong g.L.Labels.made g.L.Labels.meaning store) (sym same) (Belong-quieted _ _ g.met.L.Labels.rising store before depth belong)
