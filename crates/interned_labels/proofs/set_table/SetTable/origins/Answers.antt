use Rattle.std.proofs.Common.{arith, ap, ◌∙◌, ◌≡◌, ◌<◌, ◌-◌, ◌∷◌, length, List}
use Rattle.origin_labels.specs.Label.{Label, bottom}
use Rattle.interned_labels.proofs.TableLaws.{set_behind, set_zero}
use Rattle.interned_labels.proofs.set_table.SetTable.origins.Goals as goal

pub bounds-as_slice-place : goal.bounds-as_slice-place
bounds-as_slice-place c = omega (arith, c.in-Some.ensures.0, c.in-Some.ensures.1, c.requires, ap (λ (l : List Label). length l) c.self.view_is, ap (λ (l : List Label). length l) c.as_slice.ensures.keys)

pub returns-in-Some : goal.returns-in-Some
returns-in-Some c =
    let within : c.in-Some.place < length c.as_slice.result.now = omega (arith, c.in-Some.ensures.0, c.in-Some.ensures.1, c.requires, ap (λ (l : List Label). length l) c.self.view_is, ap (λ (l : List Label). length l) c.as_slice.ensures.keys) in
    c.origins.ensures ∙ set_behind c.self.inside.sets.keys c.as_slice.result.now c.args.self.now c.in-Some.place c.args.number c.index-as_slice-place.result c.self.view_is c.as_slice.ensures.keys c.in-Some.ensures.0 c.in-Some.ensures.1 within c.index-as_slice-place.is

pub returns-in-None : goal.returns-in-None
returns-in-None c = set_zero c.self.inside.sets.keys c.args.self.now c.args.number c.self.view_is c.in-None.ensures
