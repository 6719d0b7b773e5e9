use Rattle.std.proofs.Common.{◌≡◌, ◌∙◌, subst, true, Option, Ok, Err}
use Rattle.flow_io.specs.Files.{Files}
use Rattle.flow_policy.specs.Policies.{Tables}
use Rattle.flow_policy.specs.Inputs.{Given}
use Rattle.std.proofs.lemmas.Result.{err_from_is_err_and}
use Rattle.run_files.specs.Tasks.{policy_at, input_at, second_at}
use Rattle.run_files.specs.Seen.{seen_request}
use Rattle.run_files.specs.Accepting.{Steps}
use Rattle.run_files.proofs.Asked.{of_path, script_reached, script_refused, policy_reached, policy_refused, observer_refused, input_reached, input_refused, second_reached, second_refused, task_taken}
use Rattle.run_files.proofs.accepting.accept_task.Goals as goal

pub accept_script-requires : goal.accept_script-requires
accept_script-requires g c = c.requires.asked c.args.request.now.script.now (script_reached (seen_request c.args.request.now) (g.F.Store.contents c.args.store.now))

pub returns-in_err-script-clause-accepts : goal.returns-in_err-script-clause-accepts
returns-in_err-script-clause-accepts g c =
    let p = err_from_is_err_and c.from_residual.result c.from_residual.ensures.1 in
    rw (p.1, p.2) (script_refused (seen_request c.args.request.now) (g.F.Store.contents c.args.store.now) c.in_err-script.field-0.0 c.in_err-script.ensures.accepts)

pub accept_policy-requires : goal.accept_policy-requires
accept_policy-requires g c =
    c.in_ok-script.ensures.kept.same_paths c.args.request.now.policy.now
    ∙ c.requires.asked c.args.request.now.policy.now (policy_reached (seen_request c.args.request.now) (g.F.Store.contents c.args.store.now) _ c.in_ok-script.ensures.accepts)

pub returns-in_err-policy-clause-accepts : goal.returns-in_err-policy-clause-accepts
returns-in_err-policy-clause-accepts g c =
    let p = err_from_is_err_and c.from_residual-in_err-policy.result c.from_residual-in_err-policy.ensures.1 in
    rw (p.1, p.2) (policy_refused (seen_request c.args.request.now) (g.F.Store.contents c.args.store.now) _ c.in_ok-script.ensures.accepts c.in_err-policy.field-0.0
    (subst (λ (o : Option Files). Steps {X = Tables} o (λ files. policy_at files c.args.request.now.policy.now) (Err c.in_err-policy.field-0.0)) c.in_ok-script.ensures.kept.same_contents c.in_err-policy.ensures.accepts))

pub returns-in_err-observer-clause-accepts : goal.returns-in_err-observer-clause-accepts
returns-in_err-observer-clause-accepts g c =
    let p = err_from_is_err_and c.from_residual-in_err-observer.result c.from_residual-in_err-observer.ensures.1 in
    rw (p.1, p.2) (observer_refused (seen_request c.args.request.now) (g.F.Store.contents c.args.store.now) _ c.in_ok-script.ensures.accepts c.in_ok-policy.policy
    (rw c.in_ok-script.ensures.kept.same_contents at c.in_ok-policy.ensures.accepts) c.in_err-observer.field-0.0 c.in_err-observer.ensures.observes)

pub accept_input-requires : goal.accept_input-requires
accept_input-requires g c =
    c.in_ok-policy.ensures.kept.same_paths c.args.request.now.input.now ∙ c.in_ok-script.ensures.kept.same_paths c.args.request.now.input.now
    ∙ c.requires.asked c.args.request.now.input.now (input_reached (seen_request c.args.request.now) (g.F.Store.contents c.args.store.now) _ c.in_ok-script.ensures.accepts c.in_ok-policy.policy
    (rw c.in_ok-script.ensures.kept.same_contents at c.in_ok-policy.ensures.accepts) c.in_ok-observer.observer c.in_ok-observer.ensures.observes)

pub returns-in_err-inputs-clause-accepts : goal.returns-in_err-inputs-clause-accepts
returns-in_err-inputs-clause-accepts g c =
    let p = err_from_is_err_and c.from_residual-in_err-inputs.result c.from_residual-in_err-inputs.ensures.1 in
    rw (p.1, p.2) (input_refused (seen_request c.args.request.now) (g.F.Store.contents c.args.store.now) _ c.in_ok-script.ensures.accepts c.in_ok-policy.policy
    (rw c.in_ok-script.ensures.kept.same_contents at c.in_ok-policy.ensures.accepts) c.in_ok-observer.observer c.in_ok-observer.ensures.observes c.in_err-inputs.field-0.0
    (subst (λ (o : Option Files). Steps {X = Given} o (λ files. input_at c.in_ok-policy.policy files c.args.request.now.input.now) (Err c.in_err-inputs.field-0.0))
    (c.in_ok-policy.ensures.kept.same_contents ∙ c.in_ok-script.ensures.kept.same_contents) c.in_err-inputs.ensures.accepts))

pub accept_second-requires : goal.accept_second-requires
accept_second-requires g c =
    of_path c.args.request.now.second (λ path. g.F.Store.may_ask c.accept_input.new.store path ≡ true) (λ path is.
    c.in_ok-inputs.ensures.kept.same_paths path ∙ c.in_ok-policy.ensures.kept.same_paths path ∙ c.in_ok-script.ensures.kept.same_paths path
    ∙ c.requires.asked path (second_reached (seen_request c.args.request.now) (g.F.Store.contents c.args.store.now) _ c.in_ok-script.ensures.accepts c.in_ok-policy.policy
    (rw c.in_ok-script.ensures.kept.same_contents at c.in_ok-policy.ensures.accepts) c.in_ok-observer.observer c.in_ok-observer.ensures.observes c.in_ok-inputs.inputs
    (subst (λ (o : Option Files). Steps {X = Given} o (λ files. input_at c.in_ok-policy.policy files c.args.request.now.input.now) (Ok c.in_ok-inputs.inputs))
    (c.in_ok-policy.ensures.kept.same_contents ∙ c.in_ok-script.ensures.kept.same_contents) c.in_ok-inputs.ensures.accepts) path is))

pub returns-in_err-second-clause-accepts : goal.returns-in_err-second-clause-accepts
returns-in_err-second-clause-accepts g c =
    let p = err_from_is_err_and c.from_residual-in_err-second.result c.from_residual-in_err-second.ensures.1 in
    rw (p.1, p.2) (second_refused (seen_request c.args.request.now) (g.F.Store.contents c.args.store.now) _ c.in_ok-script.ensures.accepts c.in_ok-policy.policy
    (rw c.in_ok-script.ensures.kept.same_contents at c.in_ok-policy.ensures.accepts) c.in_ok-observer.observer c.in_ok-observer.ensures.observes c.in_ok-inputs.inputs
    (subst (λ (o : Option Files). Steps {X = Given} o (λ files. input_at c.in_ok-policy.policy files c.args.request.now.input.now) (Ok c.in_ok-inputs.inputs))
    (c.in_ok-policy.ensures.kept.same_contents ∙ c.in_ok-script.ensures.kept.same_contents) c.in_ok-inputs.ensures.accepts) c.in_err-second.field-0.0
    (subst (λ (o : Option Files). Steps {X = Option Given} o (λ files. second_at c.in_ok-policy.policy files (seen_request c.args.request.now).second) (Err c.in_err-second.field-0.0))
    (c.in_ok-inputs.ensures.kept.same_contents ∙ c.in_ok-policy.ensures.kept.same_contents ∙ c.in_ok-script.ensures.kept.same_contents) c.in_err-second.ensures.accepts))

pub returns-clause-accepts : goal.returns-clause-accepts
returns-clause-accepts g c =
    task_taken (seen_request c.args.request.now) (g.F.Store.contents c.args.store.now) _ c.in_ok-script.ensures.accepts c.in_ok-policy.policy
    (rw c.in_ok-script.ensures.kept.same_contents at c.in_ok-policy.ensures.accepts) c.in_ok-observer.observer c.in_ok-observer.ensures.observes c.in_ok-inputs.inputs
    (subst (λ (o : Option Files). Steps {X = Given} o (λ files. input_at c.in_ok-policy.policy files c.args.request.now.input.now) (Ok c.in_ok-inputs.inputs))
    (c.in_ok-policy.ensures.kept.same_contents ∙ c.in_ok-script.ensures.kept.same_contents) c.in_ok-inputs.ensures.accepts) c.in_ok-second.second
    (subst (λ (o : Option Files). Steps {X = Option Given} o (λ files. second_at c.in_ok-policy.policy files (seen_request c.args.request.now).second) (Ok c.in_ok-second.second))
    (c.in_ok-inputs.ensures.kept.same_contents ∙ c.in_ok-policy.ensures.kept.same_contents ∙ c.in_ok-script.ensures.kept.same_contents) c.in_ok-second.ensures.accepts)
