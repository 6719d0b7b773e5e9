use Rattle.std.proofs.lemmas.Result.{err_from_is_err_and}
use Rattle.run_files.specs.Sources.{HasProgram, RefusesProgram}
use Rattle.run_files.specs.Accepting.{IsSourceOf}
use Rattle.run_files.proofs.Refusing.{refused_too}
use Rattle.run_files.proofs.sources.script_of.Goals as goal

pub returns-in_err-source-clause-takes : goal.returns-in_err-source-clause-takes
returns-in_err-source-clause-takes c =
    let p = err_from_is_err_and c.from_residual.result c.from_residual.ensures.1 in
    rw (p.1, p.2) (refused_too (IsSourceOf c.args.bytes.now) (HasProgram c.args.bytes.now) (RefusesProgram c.args.bytes.now) (RefusesProgram c.args.bytes.now) (λ fault h. h) c.in_err-source.field-0.0 c.in_err-source.ensures.takes)

pub returns-clause-takes : goal.returns-clause-takes
returns-clause-takes c = c.in_ok-source.ensures.takes.0
