use Rattle.std.proofs.Common.{◌≡◌, sym, subst, ℕ, List, Bor, Option, Some, None, Ok, Err, option_copied}
use Rattle.std.proofs.lemmas.Result.{err_from_is_err_and}
use Rattle.flow_policy.specs.Inputs.{Given}
use Rattle.run_files.specs.Tasks.{second_at}
use Rattle.run_files.specs.Accepting.{OfFiles, Steps}
use Rattle.run_files.proofs.Asked.{none_taken, second_taken, second_refused_too}
use Rattle.run_files.proofs.accepting.accept_second.Goals as goal

pub returns-in_default-clause-accepts : goal.returns-in_default-clause-accepts
returns-in_default-clause-accepts g c =
    subst (λ (o : Option (Bor (List ℕ))). OfFiles (g.F.Store.contents c.args.store.now) (λ files. second_at c.args.policy.now files (option_copied o) ≡ Some (Ok None))) (sym c.in_default.is)
    (none_taken c.args.policy.now (g.F.Store.contents c.args.store.now))

pub returns-in_err-inputs-clause-accepts : goal.returns-in_err-inputs-clause-accepts
returns-in_err-inputs-clause-accepts g c =
    let p = err_from_is_err_and c.from_residual.result c.from_residual.ensures.1 in
    rw (p.1, p.2) (subst (λ (o : Option (Bor (List ℕ))). Steps {X = Option Given} (g.F.Store.contents c.args.store.now) (λ files. second_at c.args.policy.now files (option_copied o)) (Err c.in_err-inputs.field-0.0)) (sym c.in-Some.is)
    (second_refused_too c.args.policy.now (g.F.Store.contents c.args.store.now) c.in-Some.path.now c.in_err-inputs.field-0.0 c.in_err-inputs.ensures.accepts))

pub returns-clause-accepts : goal.returns-clause-accepts
returns-clause-accepts g c =
    subst (λ (o : Option (Bor (List ℕ))). OfFiles (g.F.Store.contents c.args.store.now) (λ files. second_at c.args.policy.now files (option_copied o) ≡ Some (Ok (Some c.in_ok-inputs.inputs)))) (sym c.in-Some.is)
    (second_taken c.args.policy.now (g.F.Store.contents c.args.store.now) c.in-Some.path.now c.in_ok-inputs.inputs c.in_ok-inputs.ensures.accepts)
