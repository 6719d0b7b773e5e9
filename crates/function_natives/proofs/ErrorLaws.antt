-- The lines of the constructors of errors and of an error's text mean their clauses.
use Rattle.std.proofs.Common.{◌≡◌, ℕ, Bool, refl}
use Rattle.native_programs.specs.Meaning.{means}
use Rattle.function_natives.specs.declared.errors.TheConstants.{ERROR, ERROR_TEXT}
use Rattle.function_natives.specs.Errors.{error, error_to_string}

pub error_means : (argc : ℕ) (construct : Bool) → means ERROR argc construct ≡ error argc
error_means argc construct = refl

pub error_to_string_means : (argc : ℕ) (construct : Bool) → means ERROR_TEXT argc construct ≡ error_to_string argc
error_to_string_means argc construct = refl
