use Rattle.std.proofs.Common.{ap, sym, subst, ◌∙◌, ◌≡◌, length, List, Some, get_or, refl}
use Rattle.std.specs.List.{slice_get}
use Rattle.std.proofs.lemmas.Option.{slice_get_read}
use Rattle.js_values.specs.declared.value.Labelled.{Labelled}
use Rattle.js_values.specs.Records.{Record}
use Rattle.env_records.specs.Formed.{LeadOutwards}
use Rattle.env_records.specs.Places.{IsPlace}
use Rattle.env_records.proofs.LookupLaws.{lookup_on, outside_within}
use Rattle.env_records.proofs.envs.Envs.find.Goals as goal

pub outwards-preserved : goal.outwards-preserved
outwards-preserved g c =
    let r = c.index-record.result.now in
    let back = subst (λ (rs : List (Record (Labelled g.row.T.Denot))). LeadOutwards rs) c.self.view_is c.self.invariant in
    let read : r ≡ get_or c.args.self.now c.outwards.at.0 r = c.index-record.ensures ∙ ap (λ (rs : List (Record (Labelled g.row.T.Denot))). get_or rs c.outwards.at.0 r) c.self.view_is in
    let here : slice_get c.args.self.now c.outwards.at.0 ≡ Some r = slice_get_read c.args.self.now (length c.args.self.now) c.outwards.at.0 r refl c.outwards.invariant.there read in
    let none = subst (IsPlace c.args.name.now r.bindings) c.in_default.is c.place.ensures in
    let outer = sym c.outer.ensures ∙ c.in_ok-at.was in
    record {
      there = outside_within c.args.name.now c.args.self.now back c.outwards.at.0 r here c.in_ok-at.at outer;
      same = lookup_on c.args.name.now c.args.self.now back c.outwards.at.0 r here c.in_ok-at.at none outer ∙ c.outwards.invariant.same;
    }
