use Rattle.std.proofs.Common.{◌≡◌, ◌∙◌, ap, sym, List, ℕ, length, arith}
use Rattle.std.specs.Vec.{with_items}
use Rattle.std.proofs.lemmas.List.{with_items_is}
use Rattle.es_meaning.specs.Plain.{positions_behind, line_at}
use Rattle.run_state.specs.Worlds.{state_of}
use Rattle.channel_requests.proofs.AnswerLaws.{channel_here, read_leaves, read_stops, read_goes}
use Rattle.channel_requests.proofs.WorldLaws.{belongs_later}
use Rattle.channel_requests.proofs.reading.read_line.Goals as goal

pub returns-in_default-clause-acts : goal.returns-in_default-clause-acts
returns-in_default-clause-acts g c =
    read_leaves g.L.Labels.made g.L.Labels.meaning c.args.policy.now c.args.world.now c.args.name.now c.args.labels.now c.args.inputs.now (rw c.inputs.ensures.inputs at c.in_default.ensures.number)

pub returns-in_err-asked-clause-acts : goal.returns-in_err-asked-clause-acts
returns-in_err-asked-clause-acts g c =
    read_stops g.L.Labels.made g.L.Labels.meaning c.args.policy.now c.args.world.now c.args.name.now c.ask.new.labels c.args.inputs.now c.in-Some.i c.index-inputs-i.result (rw c.inputs.ensures.inputs at c.in-Some.ensures.number)
    (channel_here c.args.policy.now.inputs c.inputs-2.result.now c.in-Some.i c.index-inputs-i.result c.inputs-2.ensures.inputs (rw c.inputs.ensures.inputs at c.in-Some.ensures.within) c.index-inputs-i.is)
    c.in_err-asked.field-0.0 c.in_err-asked.ensures.stopped c.from_residual.result c.from_residual.ensures.1

pub returns-in_err-asked-clause-belongs : goal.returns-in_err-asked-clause-belongs
returns-in_err-asked-clause-belongs g c = belongs_later g.L.Labels.made g.L.Labels.meaning g.met.L.Labels.rising g.L.Labels.room g.L.Labels.firm c.args.labels.now c.ask.new.labels c.args.world.now c.in_err-asked.ensures.kept c.requires.belongs

pub returns-in_err-value-clause-belongs : goal.returns-in_err-value-clause-belongs
returns-in_err-value-clause-belongs g c =
    let b = belongs_later g.L.Labels.made g.L.Labels.meaning g.met.L.Labels.rising g.L.Labels.room g.L.Labels.firm c.args.labels.now c.ask.new.labels c.args.world.now c.in_ok-asked.ensures.kept c.requires.belongs in
    record { frames = b.frames; catch = b.catch; heap = b.heap; records = b.records; started = b.started }

pub returns-clause-belongs : goal.returns-clause-belongs
returns-clause-belongs g c =
    let b = belongs_later g.L.Labels.made g.L.Labels.meaning g.met.L.Labels.rising g.L.Labels.room g.L.Labels.firm c.args.labels.now c.ask.new.labels c.args.world.now c.in_ok-asked.ensures.kept c.requires.belongs in
    record { frames = b.frames; catch = b.catch; heap = b.heap; records = b.records; started = b.started }

pub returns-clause-acts : goal.returns-clause-acts
returns-clause-acts g c =
    let w = c.args.world.now in
    let same = c.deref_mut.ensures.value in
    let fits : length c.next_value.new.positions ≡ w.positions.len = omega (arith, w.positions.ok.0, ap length same, c.next_value.auto.positions) in
    let written : (with_items w.positions c.next_value.new.positions).items ≡ positions_behind c.in-Some.i (line_at c.args.inputs.now c.in-Some.i w.positions.items) w.positions.items =
    with_items_is w.positions c.next_value.new.positions fits ∙ rw same at c.in_ok-value.ensures.positions in
    read_goes g.L.Labels.made g.L.Labels.meaning c.args.policy.now w c.args.name.now c.ask.new.labels c.args.inputs.now c.in-Some.i c.index-inputs-i.result (rw c.inputs.ensures.inputs at c.in-Some.ensures.number)
    (channel_here c.args.policy.now.inputs c.inputs-2.result.now c.in-Some.i c.index-inputs-i.result c.inputs-2.ensures.inputs (rw c.inputs.ensures.inputs at c.in-Some.ensures.within) c.index-inputs-i.is)
    c.in_ok-asked.asked.need c.in_ok-asked.asked.have c.in_ok-value.value _
    c.in_ok-asked.ensures.asked (rw same at c.in_ok-value.ensures.value) (λ reading told turns. ap (λ (ps : List ℕ). record (state_of reading w told turns) { positions = ps }) (sym written))
