-- The labelled state, and computations that open and leave frames under the flow rules. Frames say what decides that the run is where it is.
use Rattle.std.specs.Prelude.{ℕ, suc, ◌-◌, ◌&&◌, List, [], ◌∷◌, ◌++◌, Bool, true, false, length, take, drop, nat_lt, Option, if◌then◌else◌}
use Rattle.origin_labels.specs.Label.{Label, bottom, union, within}
use Rattle.flow_frames.specs.declared.kind.Kind.{Kind}
use Rattle.flow_frames.specs.declared.kind.Kind.TheVariants as kind
use Rattle.flow_frames.specs.declared.faults.Rule.{Rule}
use Rattle.flow_frames.specs.declared.faults.Rule.TheVariants.{W9, W10}
use Rattle.flow_frames.specs.Frames.{Frame}
use Rattle.flow_frames.specs.Held.{meant_at}
use Rattle.flow_frames.specs.Changes.{pushed, raised, changed_at}
use Rattle.flow_frames.specs.Rules.{jump_need, raise_need}
use Rattle.js_values.specs.declared.value.Labelled.{Labelled}
use Rattle.js_values.specs.Objects.{Object}
use Rattle.js_values.specs.Records.{Record}
use Rattle.es_meaning.specs.Outcomes as es
use Rattle.es_meaning.specs.Outcomes.{Exit, Outcome, Goes, Jumps, Ends, From, ret, and_then, ◌>>=◌}
use Rattle.es_meaning.specs.Operations.{Ty, One, Value, Res}
use Rattle.es_meaning.specs.Operators.{truth}
use Rattle.es_meaning.specs.Environments.{Env, with_around, Leaving, thrown, returned, left_by}
use Rattle.es_meaning.specs.Plain.{Line, undefined, choose, is_throw, object_or}
use Rattle.flow_meaning.specs.Erased.{unlabelled}

-- a value with the origins that it depends on
abbrev pub Val : Type 0
Val = Labelled Label

abbrev pub joined : Label → Val → Val
joined label v = record { value = v.value; label = union v.label label }

-- a printed line with its recorded label, the need of the rule for `print`
pub record LabelledLine : Type 0 where
  pub line : Line
  pub label : Label

-- a run ends in its middle as without labels, or it is stopped by a rule whose need isn't included in its have
pub data Halt : Type 0 where
  as_plain : es.Halt → Halt
  stopped : Rule → Label → Label → Halt

pub record State : Type 0 where
  -- outermost first: a frame's depth is its place
  pub frames : List Frame
  pub heap : List (Object Label)
  pub records : List (Record Val)
  -- how many lines of each input channel were read
  pub positions : List ℕ
  pub lines : List LabelledLine
  pub turns : ℕ

-- a jump, the depth of the frame that it goes to, and the value that it takes along. A throw goes to the Root, if no frame catches it before
pub record Jump : Type 0 where
  pub exit : Exit
  pub to : ℕ
  pub value : Val

abbrev pub L : Type 0 → Type 0
L X = From Halt Jump State X

-- goes on where need is included in have, and else stops the run by the rule
unfoldable pub guard : {X : Type 0} → Bool → Rule → Label → Label → L X → L X
guard true rule need have go_on s = go_on s
guard false rule need have go_on s = Ends (stopped rule need have) s

abbrev pub under : {X : Type 0} → Rule → Label → Label → L X → L X
under rule need have go_on = guard (within need have) rule need have go_on

-- ---- frames

abbrev pub innermost : List Frame → ℕ
innermost frames = length frames - 1

-- with a frame pushed, and with so many of the outermost frames alone
abbrev pub pushed_on : Kind → Label → State → State
pushed_on kind label s = record s { frames = s.frames ++ pushed kind label ∷ [] }

abbrev pub cut_to : ℕ → State → State
cut_to depth s = record s { frames = take depth s.frames }

-- the innermost frame is raised by the label
abbrev pub raised_in : Label → State → State
raised_in label s = record s { frames = raised s.frames (innermost s.frames) label }

unfoldable pub raise : Label → L (Unit {0})
raise label s = Goes tt (raised_in label s)

-- ---- jumps

-- of frames that begin at a depth: the depth of the innermost that catches, or another one where none does
abbrev pub catching : ℕ → ℕ → List Frame → ℕ
catching depth best [] = best
catching depth best (f ∷ frames) = catching (suc depth) (if f.active then depth else best) frames

-- the frame that a jump reaches first: the innermost active Try frame inside the one that it goes to, or that one
abbrev pub reached : ℕ → List Frame → ℕ
reached to frames = catching (suc to) to (drop (suc to) frames)

-- a jump leaves the frames inside the one that it reaches, if rule W9 allows it
unfoldable pub jump_to : {X : Type 0} → ℕ → Label → Jump → L X
jump_to depth cause j s = under W9 (jump_need s.frames depth cause) (meant_at s.frames depth) (λ t. Jumps j (cut_to (suc depth) t)) s

unfoldable pub jump : {X : Type 0} → Label → Jump → L X
jump cause j s = jump_to (reached j.to s.frames) cause j s

-- an upgrade directive raises the frame at a depth, if rule W10 allows it
unfoldable pub raise_frame : ℕ → Label → L (Unit {0})
raise_frame depth label s = under W10 (raise_need s.frames depth) (meant_at s.frames depth) (λ t. Goes tt (record t { frames = raised t.frames depth label })) s

-- it speaks of the frame to which such a jump goes: a throw goes to the one that catches it
abbrev pub frame_of : Leaving → ℕ → List Frame → ℕ
frame_of thrown to frames = reached to frames
frame_of returned to frames = to
frame_of (left_by turn label) to frames = to

-- the innermost frame catches no longer
abbrev pub quieted_in : State → State
quieted_in s = record s { frames = changed_at (λ f. record f { active = false }) s.frames (innermost s.frames) }

unfoldable pub quiet : L (Unit {0})
quiet s = Goes tt (quieted_in s)

-- ---- scopes

-- how the end of a frame was come to: by its end, or by a jump that reached it
pub data Came (X : Type 0) : Type 0 where
  ended : X → Came X
  caught : Jump → Came X

-- a frame that was left: its label, and how its end was come to
pub record Left (X : Type 0) : Type 0 where
  pub label : Label
  pub how : Came X

-- the frame at a depth is popped. A jump has reached it where it still stands, and else passes
unfoldable pub popped : {X : Type 0} → ℕ → Outcome Halt Jump X State → Outcome Halt Jump (Left X) State
popped depth (Goes a s) = Goes (record { label = meant_at s.frames depth; how = ended a }) (cut_to depth s)
popped depth (Jumps j s) = choose (nat_lt depth (length s.frames)) (Goes (record { label = meant_at s.frames depth; how = caught j }) (cut_to depth s)) (Jumps j (cut_to depth s))
popped depth (Ends halt s) = Ends halt s

-- a jump that has reached the frame at a depth stays there, and else passes
unfoldable pub stay : {X : Type 0} → ℕ → Outcome Halt Jump X State → Outcome Halt Jump (Came X) State
stay depth (Goes a s) = Goes (ended a) s
stay depth (Jumps j s) = choose (nat_lt depth (length s.frames)) (Goes (caught j) s) (Jumps j s)
stay depth (Ends halt s) = Ends halt s

-- what is done in a frame of its own, which is told the frame's depth
abbrev pub scope : {X : Type 0} → Kind → Label → (ℕ → L X) → L (Left X)
scope kind label m s = popped (length s.frames) (m (length s.frames) (pushed_on kind label s))

-- what a frame gives: where a jump reached it, nothing or undefined
abbrev pub given_by : (t : Ty) → Came (Res Val t) → Res Val t
given_by t (ended a) = a
given_by One (caught j) = tt
given_by Value (caught j) = unlabelled undefined

-- the result of a branch depends on what chose it
abbrev pub depending : (t : Ty) → Label → Res Val t → Res Val t
depending One label a = tt
depending Value label v = joined label v

abbrev pub settled : (t : Ty) → Left (Res Val t) → Res Val t
settled t c = depending t c.label (given_by t c.how)

abbrev pub settled_value : Left Val → Val
settled_value c = settled Value c

abbrev pub fork : (t : Ty) → Val → L (Res Val t) → L (Res Val t) → L (Res Val t)
fork t v m n = scope kind.Branch v.label (λ depth. choose (truth v.value) m n) >>= λ c. ret (settled t c)

abbrev pub round_kind : Bool → Kind
round_kind true = kind.Turn
round_kind false = kind.Loop

abbrev pub round : Bool → List (Option (List ℕ)) → Env ℕ → (Env ℕ → L (Unit {0})) → L (Unit {0})
round turn labels e k = scope (round_kind turn) bottom (λ depth. k (with_around turn labels depth e)) >>= λ c. ret tt

-- a condition raises the frame of its loop
abbrev pub again : Val → L (Unit {0}) → L (Unit {0}) → L (Unit {0})
again v m n = raise v.label >>= λ u. choose (truth v.value) m n

-- ---- calls: the result has the frame's label

-- what is returned, or undefined
abbrev pub given_back : Came (Unit {0}) → Val
given_back (ended u) = unlabelled undefined
given_back (caught j) = j.value

abbrev pub answer : Left (Unit {0}) → Val
answer c = joined c.label (given_back c.how)

-- an object that the function returns stands for the one that was made, of which this is the number. That a primitive is returned depends on its label
abbrev pub made_or : ℕ → Val → Val
made_or fresh v = record { value = object_or fresh v.value; label = v.label }

abbrev pub construction : ℕ → Left (Unit {0}) → Val
construction fresh c = joined c.label (made_or fresh (given_back c.how))

-- ---- `try`: all of it is done in one frame, which is active while its block is, and while a handler is behind which something is done last

-- what is thrown is handled, if there is a handler
unfoldable pub react : Bool → Bool → (Val → L (Unit {0})) → ℕ → Came (Unit {0}) → L (Came (Unit {0}))
react handles finishes handler depth (ended u) = ret (ended u)
react handles finishes handler depth (caught j) = choose (handles && is_throw j.exit) (choose finishes (ret tt) quiet >>= λ u s. stay depth (handler j.value s)) (ret (caught j))

-- a jump that waited is issued again, from inside the frame
unfoldable pub resume : Came (Unit {0}) → Unit {0} → L (Unit {0})
resume (ended u) v = ret tt
resume (caught j) v = jump bottom j

-- what is done last
unfoldable pub finish : Bool → L (Unit {0}) → Came (Unit {0}) → L (Unit {0})
finish finishes last how = quiet >>= λ u. choose finishes last (ret tt) >>= resume how

abbrev pub tried : Bool → Bool → L (Unit {0}) → (Val → L (Unit {0})) → L (Unit {0}) → ℕ → L (Unit {0})
tried handles finishes block handler last depth = (λ s. stay depth (block s)) >>= react handles finishes handler depth >>= finish finishes last

abbrev pub attempt : Bool → Bool → L (Unit {0}) → (Val → L (Unit {0})) → L (Unit {0}) → L (Unit {0})
attempt handles finishes block handler last = scope kind.Try bottom (tried handles finishes block handler last) >>= λ c. ret tt
