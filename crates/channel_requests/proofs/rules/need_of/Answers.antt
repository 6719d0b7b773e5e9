use Rattle.channel_requests.proofs.MeansLaws.{means_itself, means_join}
use Rattle.channel_requests.proofs.FrameLaws.{means_context}
use Rattle.channel_requests.proofs.rules.need_of.Goals as goal

pub returns-clause-means : goal.returns-clause-means
returns-clause-means g c =
    let made = g.L.Labels.made in
    let meaning = g.L.Labels.meaning in
    means_join made meaning g.L.Labels.room g.L.Labels.firm c.args.labels.now c.join.new.self c.join.ensures.kept c.join.result c.context.result c.args.label _ _
    (means_context made meaning c.args.labels.now c.context.result c.args.frames.now.frames c.requires.belongs c.context.ensures.made c.context.ensures.meaning)
    (means_itself made meaning c.args.labels.now c.args.label c.requires.label)
    c.join.ensures.made c.join.ensures.meaning
