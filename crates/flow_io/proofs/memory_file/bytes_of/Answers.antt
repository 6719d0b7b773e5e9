use Rattle.std.proofs.Common.{◌≡◌, ℕ, List, Some, true, false, ap, ◌∙◌, rules}
use Rattle.std.specs.Str.{bytes_eq}
use Rattle.flow_io.specs.Files.{File}
use Rattle.flow_io.proofs.Named.{file_found, file_passed, file_missing}
use Rattle.flow_io.proofs.memory_file.bytes_of.Goals as goal

pub returns-then-eq : goal.returns-then-eq
returns-then-eq c =
    let same : bytes_eq c.file-item.result.path c.args.path.now ≡ true = search rules in
    let found = file_found c.args.files.now c.args.path.now c.loop-file.file-index c.file-item.result _ c.loop-file-test.true c.file-item.is same c.loop-file.invariant in
    ap (λ (xs : List ℕ). Some xs) (c.deref.ensures.value ∙ ap (λ (file : File). file.bytes) c.file.view_is) ∙ found

pub loop-file-preserved : goal.loop-file-preserved
loop-file-preserved c =
    let other : bytes_eq c.file-item.result.path c.args.path.now ≡ false = search rules in
    file_passed c.args.files.now c.args.path.now c.loop-file.file-index c.file-item.result _ c.loop-file-test.true c.file-item.is other c.loop-file.invariant

pub returns : goal.returns
returns c = file_missing c.args.files.now c.args.path.now c.loop-file.file-index _ c.loop-file-test.false c.loop-file.invariant
