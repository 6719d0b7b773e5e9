-- The states of the store and the sink in memory, and what a call makes of them.
use Rattle.std.specs.Prelude.{ℕ, ◌+◌, ◌-◌, Bool, true, List, Option, Result, Ok, Err, ◌||◌, ◌==◌, length, min, is_none, option_map, unwrap_or, find}
use Rattle.std.specs.List.{list_any}
use Rattle.flow_io.specs.declared.memory_sink.FailingPut.{FailingPut}
use Rattle.flow_io.specs.Files.{Files, file_at, last_count, given_after}

-- what a store in memory holds
pub record MemoryFiles : Type 0 where
  -- the newest first
  pub files : Files
  -- how many bytes a read gives at most, if that is limited
  pub most : Option ℕ
  -- the numbers of the calls that fail, from 1
  pub failing : List ℕ
  -- how many reads there were
  pub calls : ℕ
  pub faults : ℕ
  pub given : ℕ

-- what a sink in memory holds
pub record MemoryBytes : Type 0 where
  pub taken : List ℕ
  -- the newest first
  pub failing : List FailingPut
  -- how many puts there were
  pub calls : ℕ
  pub faults : ℕ
  pub shut : Bool

-- a count after one more
abbrev pub next_count : ℕ → ℕ
next_count n = min (n + 1) last_count

-- whether the next read fails: its call is listed, or its path is absent
abbrev pub read_fails : MemoryFiles → List ℕ → Bool
read_fails s path = list_any (λ call. call == next_count s.calls) s.failing || is_none (file_at s.files path)

-- how many bytes a read gives: what the piece holds, the limit allows and the file has left
abbrev pub read_length : Option ℕ → ℕ → ℕ → List ℕ → ℕ
read_length most room at bytes = min (min room (unwrap_or most room)) (length bytes - at)

-- the store after a read
abbrev pub after_read : {E : Type 0} → MemoryFiles → Result ℕ E → MemoryFiles
after_read s (Ok n) = record s { calls = next_count s.calls; given = given_after s.given n }
after_read s (Err _) = record s { calls = next_count s.calls; faults = next_count s.faults }

-- how many bytes a put keeps, if it is to fail: as the first of the list with its call says
abbrev pub keep_at : List FailingPut → ℕ → Option ℕ
keep_at failing call = option_map (λ put. put.keep) (find (λ put. put.call == call) failing)

-- the same, of the put that comes next
abbrev pub next_keep : MemoryBytes → Option ℕ
next_keep s = keep_at s.failing (next_count s.calls)

-- the sink after a put, but for the bytes that it took
abbrev pub after_put : {E : Type 0} → MemoryBytes → List ℕ → Result (Unit {0}) E → MemoryBytes
after_put s taken (Ok _) = record s { taken = taken; calls = next_count s.calls }
after_put s taken (Err _) = record s { taken = taken; calls = next_count s.calls; faults = next_count s.faults; shut = true }
