-- How much a machine does before it enters a further part: each step that enters none has less to do afterwards, so they come to an end.
use Rattle.std.specs.Prelude.{ℕ, ◌+◌, ◌≤◌, List, [], ◌∷◌}
use Rattle.continuations.specs.declared.continuation.Continuation.{Continuation}
use Rattle.continuations.specs.declared.continuation.Continuation.TheVariants as continuation
use Rattle.continuations.specs.declared.continuation.Control.{Control}
use Rattle.continuations.specs.declared.continuation.Control.TheVariants as control
use Rattle.continuations.specs.Pending.{Task}
use Rattle.continuations.specs.Kept.{Kept}

-- what work counts: one, and more where what it does next counts more than it and a value do
abbrev pub weight : Continuation → ℕ
weight (continuation.AndRight r) = 2
weight (continuation.OrRight r) = 2
weight (continuation.Choose a b) = 2
weight (continuation.ChooseStmt s) = 2
weight (continuation.ChooseStmts s t) = 2
weight (continuation.Unary o) = 3
weight (continuation.BinaryRight o r) = 2
weight (continuation.BinaryDone o) = 5
weight (continuation.ConvertedLeft o) = 3
weight (continuation.InstanceRight r) = 2
weight continuation.InstanceDone = 4
weight (continuation.AssignTo t) = 6
weight (continuation.Variable t ds) = 6
weight (continuation.CompoundRight o x t) = 8
weight (continuation.CompoundDone o t) = 11
weight (continuation.Counted how o t) = 8
weight (continuation.CountedNumber how o t) = 6
weight (continuation.Argument f count rest) = 3
weight (continuation.Callee es) = 3
weight (continuation.Constructor es) = 3
weight (continuation.CalledBy es) = 3
weight (continuation.Property ps count) = 2
weight (continuation.Item is place count) = 2
weight (continuation.LengthOnce how) = 3
weight (continuation.MemberBase how text) = 11
weight (continuation.IndexBase how x) = 10
weight (continuation.IndexKey how) = 13
weight (continuation.KeyOf how) = 11
weight (continuation.Switched of cs) = 2
weight (continuation.EndBlock s depth) = 3
weight (continuation.EndHandler s own depth) = 2
weight (continuation.Visited x count) = 2
weight (continuation.Enumerated x) = 4
weight _ = 1

abbrev pub load : {T : Type 0} → List (Task T) → ℕ
load [] = 0
load (w ∷ tasks) = weight w.0 + load tasks

-- what a next move counts. One that enters a part counts nothing: it costs a turn
abbrev pub lift : Control → ℕ
lift (control.Expr x) = 0
lift (control.Use how x) = 0
lift (control.Stmt x) = 0
lift (control.Block x) = 0
lift (control.Named x n) = 0
lift (control.Turn r) = 0
lift (control.Visit x count) = 0
lift (control.Request count) = 0
lift (control.Leave why) = 0
lift control.Value = 6
lift (control.Jumps j) = 6
lift control.Done = 6
lift (control.Loop r) = 3
lift (control.DoLoop r) = 3
lift (control.Keys x) = 8
lift (control.Name text) = 9
lift control.This = 9
lift (control.Call count) = 8
lift (control.Construct count) = 8
lift (control.GiveVariable x) = 12
lift (control.Try x) = 11
lift _ = 7

-- a call adds at most so much
abbrev pub Adds : {T : Type 0} → ℕ → Kept T → Kept T → Control → Type 0
Adds n old new next = load new.tasks + lift next ≤ load old.tasks + n
