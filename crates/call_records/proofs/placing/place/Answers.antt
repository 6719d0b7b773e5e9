use Rattle.std.proofs.Common.{true, sym, ap, ◌++◌, ◌∙◌, Some}
use Rattle.env_records.specs.Layouts.{first_place}
use Rattle.call_records.specs.Planned.{names}
use Rattle.call_records.proofs.NameLaws.{fresh_place}
use Rattle.call_records.proofs.placing.place.Goals as goal

pub returns-in_ok-push-in-None-clause-place : goal.returns-in_ok-push-in-None-clause-place
returns-in_ok-push-in-None-clause-place c =
    let name = c.args.name.now in
    let layout = c.args.layout.now in
    ap (first_place name) (c.in_ok-push-in-None.ensures.ok ∙ ap (λ n. layout ++ names true n) c.in_ok-copy-in-None.ensures)
    ∙ fresh_place name true layout (sym c.in-None.ensures) ∙ ap Some (sym c.len-place.ensures)
