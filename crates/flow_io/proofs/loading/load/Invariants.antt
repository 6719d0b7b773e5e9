use Rattle.std.proofs.Common.{◌≡◌, ℕ, ◌+◌, ◌-◌, ◌≤◌, vec_len}
use Rattle.flow_io.specs.Files.{given_after, IsStoreKept}
use Rattle.flow_io.proofs.Pieces.{IsFrontRead}
use Rattle.flow_io.proofs.loading.load.Given as goal

abbrev pub invariant-loop-bytes : goal.invariant-loop-bytes
invariant-loop-bytes g l = record {
  kept : IsStoreKept (g.F.Store.contents) (g.F.Store.may_ask) (g.F.Store.faults) l.initial.store l.store;
  no_fault : g.F.Store.faults l.store ≡ g.F.Store.faults l.initial.store;
  within : vec_len l.bytes ≤ l.most;
  front : IsFrontRead (g.F.Store.contents l.initial.store) l.path l.bytes.items;
  given : (n : ℕ) → given_after (g.F.Store.given l.store) n ≡ given_after (g.F.Store.given l.initial.store) (vec_len l.bytes + n);
  bounded : g.F.Store.given l.store ≤ g.F.Store.given l.initial.store + vec_len l.bytes;
}

abbrev pub decreases-loop-bytes : goal.decreases-loop-bytes
decreases-loop-bytes g l = l.most + 1 - vec_len l.bytes
