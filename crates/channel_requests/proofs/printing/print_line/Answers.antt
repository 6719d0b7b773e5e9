use Rattle.origin_labels.proofs.StoreLaws.{IsKept-trans}
use Rattle.flow_frames.proofs.StandingLaws.{Belong-kept}
use Rattle.channel_requests.proofs.AnswerLaws.{channel_here, print_leaves, print_lacks, print_stops, print_goes}
use Rattle.channel_requests.proofs.MeansLaws.{means_itself, means_joined, means_later}
use Rattle.channel_requests.proofs.WorldLaws.{belongs_later}
use Rattle.channel_requests.proofs.printing.print_line.Goals as goal

pub returns-in_default-clause-prints : goal.returns-in_default-clause-prints
returns-in_default-clause-prints g c = print_leaves g.L.Labels.made g.L.Labels.meaning c.args.policy.now c.args.world.now c.args.name.now c.args.value.now c.args.labels.now (rw c.outputs.ensures.outputs at c.in_default.ensures.number)

pub returns-in_default-2-clause-prints : goal.returns-in_default-2-clause-prints
returns-in_default-2-clause-prints g c =
    print_lacks g.L.Labels.made g.L.Labels.meaning c.args.policy.now c.args.world.now c.args.name.now c.args.value.now c.args.labels.now c.in-Some.i (rw c.outputs.ensures.outputs at c.in-Some.ensures.number) (rw c.in_default-2.is at c.in_ok-text.ensures)

pub returns-in_err-label-clause-belongs : goal.returns-in_err-label-clause-belongs
returns-in_err-label-clause-belongs g c = belongs_later g.L.Labels.made g.L.Labels.meaning g.met.L.Labels.rising g.L.Labels.room g.L.Labels.firm c.args.labels.now c.join.new.self c.args.world.now c.join.ensures.kept c.requires.belongs

pub ask-requires-clause-belongs : goal.ask-requires-clause-belongs
ask-requires-clause-belongs g c = Belong-kept g.L.Labels.made g.L.Labels.meaning g.met.L.Labels.rising g.L.Labels.room g.L.Labels.firm c.args.labels.now c.join.new.self c.args.world.now.frames.frames c.in_ok-label.ensures.kept c.requires.belongs.frames

pub returns-in_err-asked-clause-prints : goal.returns-in_err-asked-clause-prints
returns-in_err-asked-clause-prints g c =
    let made = g.L.Labels.made in
    let meaning = g.L.Labels.meaning in
    let label = means_joined made meaning g.L.Labels.room g.L.Labels.firm c.args.labels.now c.join.new.self c.in_ok-label.ensures.kept c.args.name.now.label c.args.value.now.label c.in_ok-label.label (λ reading. reading c.args.name.now.label) (λ reading. reading c.args.value.now.label)
    (means_itself made meaning c.args.labels.now c.args.name.now.label c.requires.name) (means_itself made meaning c.args.labels.now c.args.value.now.label c.requires.value) c.in_ok-label.ensures.made c.in_ok-label.ensures.meaning in
    print_stops made meaning c.args.policy.now c.args.world.now c.args.name.now c.args.value.now c.ask.new.labels c.in-Some.i c.index-outputs-i.result c.in-Some-2.text c.in_ok-label.label (rw c.outputs.ensures.outputs at c.in-Some.ensures.number)
    (means_later made meaning g.L.Labels.room g.L.Labels.firm c.join.new.self c.ask.new.labels c.in_err-asked.ensures.kept c.in_ok-label.label _ label) (rw c.in-Some-2.is at c.in_ok-text.ensures)
    (channel_here c.args.policy.now.outputs c.outputs-2.result.now c.in-Some.i c.index-outputs-i.result c.outputs-2.ensures.outputs (rw c.outputs.ensures.outputs at c.in-Some.ensures.within) c.index-outputs-i.is)
    c.in_err-asked.field-0.0 c.in_err-asked.ensures.stopped c.from_residual-in_err-asked.result c.from_residual-in_err-asked.ensures.1

pub returns-in_err-asked-clause-belongs : goal.returns-in_err-asked-clause-belongs
returns-in_err-asked-clause-belongs g c = belongs_later g.L.Labels.made g.L.Labels.meaning g.met.L.Labels.rising g.L.Labels.room g.L.Labels.firm c.args.labels.now c.ask.new.labels c.args.world.now (IsKept-trans _ _ _ _ _ _ _ c.in_ok-label.ensures.kept c.in_err-asked.ensures.kept) c.requires.belongs

pub returns-clause-prints : goal.returns-clause-prints
returns-clause-prints g c =
    let made = g.L.Labels.made in
    let meaning = g.L.Labels.meaning in
    let label = means_joined made meaning g.L.Labels.room g.L.Labels.firm c.args.labels.now c.join.new.self c.in_ok-label.ensures.kept c.args.name.now.label c.args.value.now.label c.in_ok-label.label (λ reading. reading c.args.name.now.label) (λ reading. reading c.args.value.now.label)
    (means_itself made meaning c.args.labels.now c.args.name.now.label c.requires.name) (means_itself made meaning c.args.labels.now c.args.value.now.label c.requires.value) c.in_ok-label.ensures.made c.in_ok-label.ensures.meaning in
    print_goes made meaning c.args.policy.now c.args.world.now c.args.name.now c.args.value.now c.ask.new.labels c.in-Some.i c.index-outputs-i.result c.in-Some-2.text c.in_ok-label.label (rw c.outputs.ensures.outputs at c.in-Some.ensures.number)
    (means_later made meaning g.L.Labels.room g.L.Labels.firm c.join.new.self c.ask.new.labels c.in_ok-asked.ensures.kept c.in_ok-label.label _ label) (rw c.in-Some-2.is at c.in_ok-text.ensures)
    (channel_here c.args.policy.now.outputs c.outputs-2.result.now c.in-Some.i c.index-outputs-i.result c.outputs-2.ensures.outputs (rw c.outputs.ensures.outputs at c.in-Some.ensures.within) c.index-outputs-i.is)
    c.in_ok-asked.asked.need c.in_ok-asked.asked.have c.in_ok-asked.ensures.asked

pub returns-clause-belongs : goal.returns-clause-belongs
returns-clause-belongs g c = belongs_later g.L.Labels.made g.L.Labels.meaning g.met.L.Labels.rising g.L.Labels.room g.L.Labels.firm c.args.labels.now c.ask.new.labels c.args.world.now (IsKept-trans _ _ _ _ _ _ _ c.in_ok-label.ensures.kept c.in_ok-asked.ensures.kept) c.requires.belongs
