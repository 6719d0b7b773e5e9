use Rattle.std.proofs.Common.{◌≡◌, [], map, take}
use Rattle.std.specs.List.{join_with_byte, slice_index_or}
use Rattle.flow_text.specs.Utf8.{utf8_of}
use Rattle.js_shell.proofs.report.joined_names.Given as goal

-- the names of the origins so far, with commas between
abbrev pub invariant-loop-i : goal.invariant-loop-i
invariant-loop-i l = l.bytes.items ≡ join_with_byte 44 (map (λ k. utf8_of (slice_index_or l.origins k [])) (take l.i l.label))
