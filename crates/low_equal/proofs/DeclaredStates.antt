-- Labelled states of which each label speaks of declared origins alone, and computations that keep them so.
use Rattle.std.proofs.Common.{ℕ, suc, Bool, true, false, nat_lt, List, length, Option, ◌&&◌}
use Rattle.origin_labels.specs.Label.{Label, bottom, within}
use Rattle.flow_frames.specs.declared.kind.Kind.{Kind}
use Rattle.flow_frames.specs.declared.kind.Kind.TheVariants as kind
use Rattle.flow_frames.specs.declared.faults.Rule.{Rule}
use Rattle.flow_frames.specs.declared.faults.Rule.TheVariants.{W9, W10}
use Rattle.flow_frames.specs.Frames.{Frame, inside}
use Rattle.flow_frames.specs.Held.{meant_at}
use Rattle.flow_frames.specs.Changes.{pushed}
use Rattle.js_values.specs.Objects.{Object}
use Rattle.js_values.specs.Records.{Record}
use Rattle.native_protocol.specs.declared.request.ErrorKind.{ErrorKind}
use Rattle.es_meaning.specs.Outcomes as es
use Rattle.es_meaning.specs.Outcomes.{Outcome, Goes, Jumps, Ends, ret, and_then, ◌>>=◌}
use Rattle.es_meaning.specs.Environments.{Env, with_around}
use Rattle.es_meaning.specs.Operations.{Ty, One, Res}
use Rattle.es_meaning.specs.Operations.{Value as a_value}
use Rattle.es_meaning.specs.Operators.{truth}
use Rattle.es_meaning.specs.Plain.{choose, is_throw}
use Rattle.flow_meaning.specs.Scopes.{Val, Halt, as_plain, stopped, State, Jump, L, guard, under, innermost, raise, reached, jump_to, jump, cut_to, pushed_on, Came, ended, caught, Left, popped, scope, given_by, depending, settled, settled_value, fork, round_kind, round, again, raise_frame, stay, quiet, react, resume, finish, tried, attempt}
use Rattle.flow_meaning.specs.Tracked.{ends, with_error, throw_error}
use Rattle.low_equal.proofs.DeclaredLabels as labels
use Rattle.low_equal.proofs.DeclaredLabels.{Each, each_push, each_take, own_bottom, own_union, own_context, own_inside, own_meant, own_raised, own_quieted}
use Rattle.low_equal.proofs.DeclaredHeaps as heaps
use Rattle.low_equal.proofs.DeclaredRecords as records

module _ (count : ℕ) where
  abbrev Own : Label → Type 0
  Own label = labels.Own count label

  abbrev OwnFrames : List Frame → Type 0
  OwnFrames frames = labels.OwnFrames count frames

  abbrev OwnObject : Object Label → Type 0
  OwnObject p = heaps.OwnObject count p

  abbrev OwnHeap : List (Object Label) → Type 0
  OwnHeap heap = heaps.OwnHeap count heap

  abbrev OwnRecords : List (Record Val) → Type 0
  OwnRecords list = records.OwnRecords count list

  abbrev OwnVal : Val → Type 0
  OwnVal v = labels.Own count v.label

  -- ---- states, outcomes and computations

  -- the labels of frames, of variables and of lines
  pub record OwnState (s : State) : Type 0 where
    pub frames : OwnFrames s.frames
    pub heap : OwnHeap s.heap
    pub records : OwnRecords s.records
    pub lines : Each (λ l. Own l.label) s.lines

  -- the labels of a stop
  abbrev pub OwnHalt : Halt → Type 0
  OwnHalt (as_plain halt) = Unit {0}
  OwnHalt (stopped rule need have) = Own need × Own have

  -- what an outcome gives, takes along or stops with, and its state
  pub data Keeps {X : Type 0} (Q : X → Type 0) : Outcome Halt Jump X State → Type 0 where
    goes : {a : X} {s : State} → Q a → OwnState s → Keeps Q (Goes a s)
    jumps : {j : Jump} {s : State} → Own j.value.label → OwnState s → Keeps Q (Jumps j s)
    ends_in : {halt : Halt} {s : State} → OwnHalt halt → OwnState s → Keeps Q (Ends halt s)

  -- from each state of declared origins
  pub record Keeping {X : Type 0} (Q : X → Type 0) (m : L X) : Type 0 where
    pub keeps : (s : State) → OwnState s → Keeps Q (m s)

  -- the label of a result
  abbrev pub OwnResult : (t : Ty) → Res Val t → Type 0
  OwnResult One a = Unit {0}
  OwnResult a_value v = Own v.label

  -- what follows an outcome
  pub keeps_then : {X Y : Type 0} (Q : X → Type 0) (R : Y → Type 0) {o : Outcome Halt Jump X State} (f : X → L Y) → Keeps Q o → ((a : X) → Q a → Keeping R (f a)) → Keeps R (and_then o f)
  keeps_then Q R f (goes {a = a} {s = s} q h) k = (k a q).keeps s h
  keeps_then Q R f (jumps q h) k = jumps q h
  keeps_then Q R f (ends_in q h) k = ends_in q h

  -- one computation, and then the next
  pub bind_keeping : {X Y : Type 0} (Q : X → Type 0) (R : Y → Type 0) {m : L X} (f : X → L Y) → Keeping Q m → ((a : X) → Q a → Keeping R (f a)) → Keeping R (m >>= f)
  bind_keeping Q R f l k = record { keeps = λ s h. keeps_then Q R f (l.keeps s h) k }

  -- a result
  pub ret_keeping : {X : Type 0} (Q : X → Type 0) (a : X) → Q a → Keeping Q (ret a)
  ret_keeping Q a q = record { keeps = λ s h. goes q h }

  -- one of two
  pub choose_keeping : {X : Type 0} {Q : X → Type 0} (b : Bool) {m n : L X} → Keeping Q m → Keeping Q n → Keeping Q (choose b m n)
  choose_keeping true h k = h
  choose_keeping false h k = k

  -- an end that is no stop
  pub halts_keeping : {X : Type 0} (Q : X → Type 0) (halt : es.Halt) → Keeping Q (ends halt)
  halts_keeping Q halt = record { keeps = λ s h. ends_in tt h }

  -- where a rule is asked
  guard_keeps : {X : Type 0} (Q : X → Type 0) (b : Bool) (rule : Rule) (need have : Label) (m : L X) (s : State) → Own need → Own have → OwnState s → Keeps Q (m s) → Keeps Q (guard b rule need have m s)
  unfolding guard
  guard_keeps Q true rule need have m s p q h k = k
  guard_keeps Q false rule need have m s p q h k = ends_in (p, q) h

  -- a rule
  pub under_keeps : {X : Type 0} (Q : X → Type 0) (rule : Rule) (need have : Label) (m : L X) (s : State) → Own need → Own have → OwnState s → Keeps Q (m s) → Keeps Q (under rule need have m s)
  under_keeps Q rule need have m s p q h k = guard_keeps Q (within need have) rule need have m s p q h k

  -- ---- frames of computations

  -- the outermost frames
  cut_own : (depth : ℕ) (s : State) → OwnState s → OwnState (cut_to depth s)
  cut_own depth s h = record { frames = each_take (λ f. Own f.label) depth s.frames h.frames; heap = h.heap; records = h.records; lines = h.lines }

  -- one more frame
  pushed_own : (k : Kind) (label : Label) (s : State) → Own label → OwnState s → OwnState (pushed_on k label s)
  pushed_own k label s q h = record { frames = each_push (λ f. Own f.label) s.frames (pushed k label) h.frames q; heap = h.heap; records = h.records; lines = h.lines }

  -- a jump
  pub jump_keeps : {X : Type 0} (Q : X → Type 0) (cause : Label) (j : Jump) (s : State) → Own cause → Own j.value.label → OwnState s → Keeps Q (jump {X = X} cause j s)
  unfolding jump jump_to
  jump_keeps Q cause j s p q h =
      let depth = reached j.to s.frames in
      under_keeps Q W9 _ _ _ s (own_union count (inside s.frames depth) cause (own_inside count s.frames depth h.frames) p) (own_meant count s.frames depth h.frames) h (jumps q (cut_own (suc depth) s h))

  -- an exception of the engine
  pub throw_keeps : {X : Type 0} (Q : X → Type 0) (k : ErrorKind) (cause : Label) (s : State) → Own cause → OwnState s → Keeps Q (throw_error {X = X} k cause s)
  unfolding throw_error
  throw_keeps Q k cause s p h =
      let here = own_context count s.frames h.frames in
      jump_keeps Q cause _ (with_error k s) p p (record { frames = h.frames; heap = each_push OwnObject s.heap _ h.heap (record { link = here; structure = here; inner = tt; rows = tt }); records = h.records; lines = h.lines })

  -- the label of what was left, and what its end was come to with
  abbrev pub OwnCame : {X : Type 0} → (X → Type 0) → Came X → Type 0
  OwnCame Q (ended a) = Q a
  OwnCame Q (caught j) = Own j.value.label

  abbrev pub OwnLeft : {X : Type 0} → (X → Type 0) → Left X → Type 0
  OwnLeft Q l = Own l.label × OwnCame Q l.how

  -- the frame at a depth is popped
  popped_keeps : {X : Type 0} (Q : X → Type 0) (depth : ℕ) {o : Outcome Halt Jump X State} → Keeps Q o → Keeps (OwnLeft Q) (popped depth o)
  unfolding popped
  popped_keeps Q depth (goes {a = a} {s = s} q h) = goes (own_meant count s.frames depth h.frames, q) (cut_own depth s h)
  popped_keeps Q depth (jumps {j = j} {s = s} q h) = by_case (nat_lt depth (length s.frames))
    where
      by_case : (b : Bool) → Keeps (OwnLeft Q) (choose b (Goes (record { label = meant_at s.frames depth; how = caught j }) (cut_to depth s)) (Jumps j (cut_to depth s)))
      by_case true = goes (own_meant count s.frames depth h.frames, q) (cut_own depth s h)
      by_case false = jumps q (cut_own depth s h)
  popped_keeps Q depth (ends_in q h) = ends_in q h

  -- a jump that has reached it stays there
  stay_keeps : {X : Type 0} (Q : X → Type 0) (depth : ℕ) {o : Outcome Halt Jump X State} → Keeps Q o → Keeps (OwnCame Q) (stay depth o)
  unfolding stay
  stay_keeps Q depth (goes q h) = goes q h
  stay_keeps Q depth (jumps {j = j} {s = s} q h) = by_case (nat_lt depth (length s.frames))
    where
      by_case : (b : Bool) → Keeps (OwnCame Q) (choose b (Goes (caught j) s) (Jumps j s))
      by_case true = goes q h
      by_case false = jumps q h
  stay_keeps Q depth (ends_in q h) = ends_in q h

  -- what is done in a frame of its own
  pub scope_keeping : {X : Type 0} (Q : X → Type 0) (k : Kind) (label : Label) (m : ℕ → L X) → Own label → ((depth : ℕ) → Keeping Q (m depth)) → Keeping (OwnLeft Q) (scope k label m)
  scope_keeping Q k label m q l = record { keeps = λ s h. popped_keeps Q (length s.frames) ((l (length s.frames)).keeps (pushed_on k label s) (pushed_own k label s q h)) }

  -- what the frame gives
  own_given_by : (t : Ty) (c : Came (Res Val t)) → OwnCame (OwnResult t) c → OwnResult t (given_by t c)
  own_given_by t (ended a) q = q
  own_given_by One (caught j) q = tt
  own_given_by a_value (caught j) q = own_bottom count

  -- a result that depends on a label
  own_depending : (t : Ty) (label : Label) (a : Res Val t) → Own label → OwnResult t a → OwnResult t (depending t label a)
  own_depending One label a p q = tt
  own_depending a_value label v p q = own_union count v.label label q p

  -- the result of a branch
  own_settled : (t : Ty) (l : Left (Res Val t)) → OwnLeft (OwnResult t) l → OwnResult t (settled t l)
  own_settled t l q = own_depending t l.label (given_by t l.how) q.0 (own_given_by t l.how q.1)

  -- a value that is given in a frame of its own
  pub framed_keeping : (k : Kind) (label : Label) (m : ℕ → L Val) → Own label → ((depth : ℕ) → Keeping OwnVal (m depth)) → Keeping OwnVal (scope k label m >>= λ c. ret (settled_value c))
  framed_keeping k label m q l = bind_keeping (OwnLeft OwnVal) OwnVal _ (scope_keeping OwnVal k label m q l) (λ c p. ret_keeping OwnVal (settled_value c) (own_settled a_value c p))

  -- a branch
  pub fork_keeping : (t : Ty) (v : Val) {m n : L (Res Val t)} → Own v.label → Keeping (OwnResult t) m → Keeping (OwnResult t) n → Keeping (OwnResult t) (fork t v m n)
  fork_keeping t v {m} {n} q h k = bind_keeping (OwnLeft (OwnResult t)) (OwnResult t) _ (scope_keeping (OwnResult t) kind.Branch v.label (λ depth. choose (truth v.value) m n) q (λ depth. choose_keeping (truth v.value) h k))
      (λ l p. ret_keeping (OwnResult t) (settled t l) (own_settled t l p))

  -- a loop or a turn
  pub round_keeping : (turn : Bool) (labels : List (Option (List ℕ))) (e : Env ℕ) (k : Env ℕ → L (Unit {0})) → ((d : Env ℕ) → Keeping (OwnResult One) (k d)) → Keeping (OwnResult One) (round turn labels e k)
  round_keeping turn labels e k h = bind_keeping (OwnLeft (OwnResult One)) (OwnResult One) _ (scope_keeping (OwnResult One) (round_kind turn) bottom (λ depth. k (with_around turn labels depth e)) (own_bottom count) (λ depth. h (with_around turn labels depth e)))
      (λ l p. ret_keeping (OwnResult One) tt tt)

  -- the innermost frame is raised
  pub raise_keeping : (label : Label) → Own label → Keeping (OwnResult One) (raise label)
  unfolding raise
  raise_keeping label q = record { keeps = λ s h. goes tt (record { frames = own_raised count s.frames (innermost s.frames) label h.frames q; heap = h.heap; records = h.records; lines = h.lines }) }

  -- by a condition
  pub again_keeping : (v : Val) {m n : L (Unit {0})} → Own v.label → Keeping (OwnResult One) m → Keeping (OwnResult One) n → Keeping (OwnResult One) (again v m n)
  again_keeping v q h k = bind_keeping (OwnResult One) (OwnResult One) _ (raise_keeping v.label q) (λ u p. choose_keeping (truth v.value) h k)

  -- ---- `try`

  -- the innermost frame catches no longer
  quiet_keeping : Keeping (OwnResult One) quiet
  unfolding quiet
  quiet_keeping = record { keeps = λ s h. goes tt (record { frames = own_quieted count s.frames (innermost s.frames) h.frames; heap = h.heap; records = h.records; lines = h.lines }) }

  -- what is thrown is handled
  react_keeping : (handles finishes : Bool) (handler : Val → L (Unit {0})) (depth : ℕ) (c : Came (Unit {0})) → ((v : Val) → OwnVal v → Keeping (OwnResult One) (handler v)) → OwnCame (OwnResult One) c
      → Keeping (OwnCame (OwnResult One)) (react handles finishes handler depth c)
  unfolding react
  react_keeping handles finishes handler depth (ended u) k q = ret_keeping (OwnCame (OwnResult One)) (ended u) tt
  react_keeping handles finishes handler depth (caught j) k q = choose_keeping (handles && is_throw j.exit)
      (bind_keeping (OwnResult One) (OwnCame (OwnResult One)) _ (choose_keeping finishes (ret_keeping (OwnResult One) tt tt) quiet_keeping) (λ u p. record { keeps = λ s h. stay_keeps (OwnResult One) depth ((k j.value q).keeps s h) }))
      (ret_keeping (OwnCame (OwnResult One)) (caught j) q)

  -- a jump that waited is issued again
  resume_keeping : (c : Came (Unit {0})) (u : Unit {0}) → OwnCame (OwnResult One) c → Keeping (OwnResult One) (resume c u)
  unfolding resume
  resume_keeping (ended u) v q = ret_keeping (OwnResult One) tt tt
  resume_keeping (caught j) v q = record { keeps = λ s h. jump_keeps (OwnResult One) bottom j s (own_bottom count) q h }

  -- what is done last
  finish_keeping : (finishes : Bool) (last : L (Unit {0})) (c : Came (Unit {0})) → Keeping (OwnResult One) last → OwnCame (OwnResult One) c → Keeping (OwnResult One) (finish finishes last c)
  unfolding finish
  finish_keeping finishes last c k q = bind_keeping (OwnResult One) (OwnResult One) _ quiet_keeping (λ u p. bind_keeping (OwnResult One) (OwnResult One) _ (choose_keeping finishes k (ret_keeping (OwnResult One) tt tt)) (λ u p. resume_keeping c u q))

  -- all of it
  pub attempt_keeping : (handles finishes : Bool) {m : L (Unit {0})} (handler : Val → L (Unit {0})) {n : L (Unit {0})} → Keeping (OwnResult One) m → ((v : Val) → OwnVal v → Keeping (OwnResult One) (handler v)) → Keeping (OwnResult One) n
      → Keeping (OwnResult One) (attempt handles finishes m handler n)
  attempt_keeping handles finishes {m} handler {n} h k l = bind_keeping (OwnLeft (OwnResult One)) (OwnResult One) _
      (scope_keeping (OwnResult One) kind.Try bottom (tried handles finishes m handler n) (own_bottom count) (λ depth.
      bind_keeping (OwnCame (OwnResult One)) (OwnResult One) _
      (bind_keeping (OwnCame (OwnResult One)) (OwnCame (OwnResult One)) _ (record { keeps = λ s q. stay_keeps (OwnResult One) depth (h.keeps s q) }) (λ c q. react_keeping handles finishes handler depth c k q))
      (λ c q. finish_keeping finishes n c l q)))
      (λ c q. ret_keeping (OwnResult One) tt tt)

  -- ---- upgrade directives

  -- the frame at a depth is raised
  pub frame_keeps : (depth : ℕ) (label : Label) (s : State) → Own label → OwnState s → Keeps (OwnResult One) (raise_frame depth label s)
  unfolding raise_frame
  frame_keeps depth label s q h = under_keeps (OwnResult One) W10 _ _ _ s (own_inside count s.frames depth h.frames) (own_meant count s.frames depth h.frames) h
      (goes tt (record { frames = own_raised count s.frames depth label h.frames q; heap = h.heap; records = h.records; lines = h.lines }))
