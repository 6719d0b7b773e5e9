use Rattle.std.proofs.Common.{◌≡◌, drop}
use Rattle.flow_io.specs.Files.{file_at}
use Rattle.flow_io.proofs.memory_file.bytes_of.Given as goal

abbrev pub invariant-loop-file : goal.invariant-loop-file
invariant-loop-file l = file_at (drop l.file-index l.files) l.path ≡ file_at l.fn.files l.path
