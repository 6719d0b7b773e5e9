use Rattle.std.proofs.Common.{sym, subst, refl, ◌≡◌, ◌<◌, length, List, Ok, Err, Result}
use Rattle.std.specs.Result.{IsErrAnd}
use Rattle.origin_labels.specs.Label.{Label}
use Rattle.std.specs.List.{slice_get}
use Rattle.js_values.specs.declared.value.Labelled.{Labelled}
use Rattle.js_values.specs.Records.{Record, bound_in}
use Rattle.js_values.specs.Readings.{HasRecords, read_value}
use Rattle.js_values.proofs.ReadingLaws.{HasRecords-kept}
use Rattle.env_records.specs.declared.faults.AssignFault.{AssignFault}
use Rattle.env_records.specs.Acts.{Assigned, Variables, assign}
use Rattle.env_records.specs.Answers.{Assigns, Refuses}
use Rattle.env_records.specs.Formed.{LeadOutwards}
use Rattle.env_records.proofs.AssignLaws.{refuses, does}
use Rattle.env_records.proofs.PlaceLaws.{some_of, some_is, stands_there}
use Rattle.env_records.proofs.RecordLaws.{read_record, put_there, LeadOutwards-put, HasRecords-put, HasRecords-at}
use Rattle.env_records.proofs.envs.Envs.assign.Goals as goal

-- a call that fails as another one did, with this fault
assigns_refused : {S T : Type 0} (made : S → T → Type 0) (meaning : S → T → Label) (store : S) (act : (T → Label) → Variables → Assigned) (records : List (Record (Labelled T))) (fault : AssignFault T) (result : Result (Unit {0}) (AssignFault T)) → Refuses made meaning store act records fault → IsErrAnd result (λ e. e ≡ fault) → Assigns made meaning store act records records result
assigns_refused made meaning store act records fault (Ok u) refuses is = absurd is
assigns_refused made meaning store act records fault (Err e) refuses is = record { does = tt; refused = subst (Refuses made meaning store act records) (sym is) refuses; unchanged = refl }

pub returns-in_err-check-clause-assigns : goal.returns-in_err-check-clause-assigns
returns-in_err-check-clause-assigns g c =
    let b = some_of (bound_in c.args.name.now (slice_get c.args.self.now c.args.e.0)) c.requires.bound in
    let bound = some_is (bound_in c.args.name.now (slice_get c.args.self.now c.args.e.0)) c.requires.bound in
    let there = stands_there c.args.name.now c.args.self.now c.args.e.0 c.record.result.now c.place-place.result b c.record.ensures (c.place-place.ensures.place c.record.result.now c.record.ensures) bound in
    let label = HasRecords-at (g.L.Labels.made c.args.labels.now) c.args.self.now c.args.e.0 c.record.result.now c.place-place.result b c.record.ensures there c.requires.belongs in
    assigns_refused g.L.Labels.made g.L.Labels.meaning c.args.labels.now (λ reading. assign c.args.e.0 c.args.name.now (reading c.args.context) (read_value reading c.args.value)) c.args.self.now c.in_err-check.field-0.0 c.from_residual.result
    (refuses g.L.Labels.made g.L.Labels.meaning c.args.e.0 c.args.name.now c.args.context c.args.value c.args.self.now b bound c.args.labels.now c.requires.context label c.in_err-check.field-0.0 (c.in_err-check.ensures b there).forbids)
    c.from_residual.ensures.1

pub set-requires : goal.set-requires
set-requires g c =
    let same = read_record c.args.self.now c.self.inside.records.items c.args.e.0 c.record.result.now c.index_mut.result.now c.self.view_is c.record.ensures c.index_mut.ensures.value in
    subst (λ (r : Record (Labelled g.row.T.Denot)). c.place-place.result < length r.bindings) (sym same) (c.place-place.ensures.place c.record.result.now c.record.ensures).within

pub invariant_of-self : goal.invariant_of-self
invariant_of-self g c =
    let put_is = put_there c.args.self.now c.self.inside.records.items c.args.e.0 c.record.result.now c.index_mut.result.now c.self.view_is c.record.ensures c.index_mut.ensures.value c.args.name.now (record { value = c.args.value.value; label = c.in_ok-label.label }) c.place-place.result c.set.new.self (c.place-place.ensures.place c.record.result.now c.record.ensures) c.set.ensures in
    subst (λ (rs : List (Record (Labelled g.row.T.Denot))). LeadOutwards rs) (sym put_is) (LeadOutwards-put c.args.e.0 c.args.name.now (record { value = c.args.value.value; label = c.in_ok-label.label }) c.args.self.now (subst (λ (rs : List (Record (Labelled g.row.T.Denot))). LeadOutwards rs) c.self.view_is c.self.invariant))

pub returns-clause-assigns : goal.returns-clause-assigns
returns-clause-assigns g c =
    let v : Labelled g.row.T.Denot = record { value = c.args.value.value; label = c.in_ok-label.label } in
    let put_is = put_there c.args.self.now c.self.inside.records.items c.args.e.0 c.record.result.now c.index_mut.result.now c.self.view_is c.record.ensures c.index_mut.ensures.value c.args.name.now v c.place-place.result c.set.new.self (c.place-place.ensures.place c.record.result.now c.record.ensures) c.set.ensures in
    let b = some_of (bound_in c.args.name.now (slice_get c.args.self.now c.args.e.0)) c.requires.bound in
    let bound = some_is (bound_in c.args.name.now (slice_get c.args.self.now c.args.e.0)) c.requires.bound in
    let there = stands_there c.args.name.now c.args.self.now c.args.e.0 c.record.result.now c.place-place.result b c.record.ensures (c.place-place.ensures.place c.record.result.now c.record.ensures) bound in
    let label = HasRecords-at (g.L.Labels.made c.args.labels.now) c.args.self.now c.args.e.0 c.record.result.now c.place-place.result b c.record.ensures there c.requires.belongs in
    subst (λ (rs : List (Record (Labelled g.row.T.Denot))). Assigns g.L.Labels.made g.L.Labels.meaning c.join.new.self (λ reading. assign c.args.e.0 c.args.name.now (reading c.args.context) (read_value reading c.args.value)) c.args.self.now rs (Ok tt)) (sym put_is)
    (record {
      does = does g.L.Labels.made g.L.Labels.meaning c.args.e.0 c.args.name.now c.args.context c.args.value c.args.self.now b bound g.L.Labels.room g.L.Labels.firm c.args.labels.now c.join.new.self c.in_ok-label.label c.in_ok-label.ensures.kept c.requires.context c.requires.value label c.in_ok-label.ensures.made c.in_ok-label.ensures.meaning (c.in_ok-check.ensures b there).allows.0 (c.in_ok-check.ensures b there).allows.1;
      refused = tt;
      unchanged = tt;
    })

pub returns-clause-belongs : goal.returns-clause-belongs
returns-clause-belongs g c =
    let v : Labelled g.row.T.Denot = record { value = c.args.value.value; label = c.in_ok-label.label } in
    let put_is = put_there c.args.self.now c.self.inside.records.items c.args.e.0 c.record.result.now c.index_mut.result.now c.self.view_is c.record.ensures c.index_mut.ensures.value c.args.name.now v c.place-place.result c.set.new.self (c.place-place.ensures.place c.record.result.now c.record.ensures) c.set.ensures in
    subst (λ (rs : List (Record (Labelled g.row.T.Denot))). HasRecords (g.L.Labels.made c.join.new.self) rs) (sym put_is)
    (HasRecords-put (g.L.Labels.made c.join.new.self) c.args.e.0 c.args.name.now v c.args.self.now c.in_ok-label.ensures.made
    (HasRecords-kept g.L.Labels.made g.L.Labels.meaning g.L.Labels.room g.L.Labels.firm c.args.labels.now c.join.new.self c.in_ok-label.ensures.kept c.args.self.now c.requires.belongs))
