use Rattle.js_values.proofs.ReadingLaws.{HasRecords-kept}
use Rattle.env_records.proofs.RecordLaws.{HasRecords-new, HasRecords-bind}
use Rattle.env_records.proofs.laws.records_belong.Goals as goal

pub returns-clause-later : goal.returns-clause-later
returns-clause-later g c = λ old new records kept has. HasRecords-kept g.L.Labels.made g.L.Labels.meaning g.L.Labels.room g.L.Labels.firm old new kept records has

pub returns-clause-record_more : goal.returns-clause-record_more
returns-clause-record_more g c = λ store outer records has. HasRecords-new (g.L.Labels.made store) outer records has

pub returns-clause-binding_more : goal.returns-clause-binding_more
returns-clause-binding_more g c = λ store i b records m has. HasRecords-bind (g.L.Labels.made store) i b records m has
