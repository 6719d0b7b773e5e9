use Rattle.std.proofs.Common.{◌∙◌, refl, sym, ap, ℕ, List, Bor, Option, Ok, option_copied}
use Rattle.flow_policy.specs.Listed.{list_of}
use Rattle.run_files.specs.Tasks.{observer_in}
use Rattle.run_files.proofs.Naming.{piece_bytes, list_given, name_unknown}
use Rattle.run_files.proofs.observers.accept_observer.Goals as goal

pub returns-in-Ok-clause-observes : goal.returns-in-Ok-clause-observes
returns-in-Ok-clause-observes c =
    ap (λ (o : Option (Bor (List ℕ))). observer_in c.args.policy.now (option_copied o)) c.in-Some.is
    ∙ list_given c.args.policy.now c.in-Some.list.now (Ok c.in-Ok.observer) (ap (λ (names : List (List ℕ)). list_of names c.in-Some.list.now) (sym c.origins.ensures.origins) ∙ c.in-Ok.ensures.list)

pub returns-in-Err-Unknown-clause-observes : goal.returns-in-Err-Unknown-clause-observes
returns-in-Err-Unknown-clause-observes c =
    ap (λ (o : Option (Bor (List ℕ))). observer_in c.args.policy.now (option_copied o)) c.in-Some.is
    ∙ name_unknown c.args.policy.now c.in-Some.list.now c.unwrap_or.result.now c.in-Err-Unknown.which
    (ap (λ (names : List (List ℕ)). list_of names c.in-Some.list.now) (sym c.origins.ensures.origins) ∙ (rw c.in-Err-Unknown.field-0-is at c.in-Err-Unknown.ensures.list))
    (option_copied c.piece.result) c.piece.ensures (piece_bytes c.piece.result _ c.unwrap_or.result c.unwrap_or.ensures refl)
