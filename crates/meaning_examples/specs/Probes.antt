-- Built-ins that each ask for one request, so that small scripts can tell what requests do. They stand behind the five functions of channels.
use Rattle.std.specs.Prelude.{ℕ, pos, ◌-◌, Bool, true, false, List, [], ◌∷◌, ◌++◌, map, codes, Option, Some, None, nat_lt, slice_get, if◌then◌else◌}
use Rattle.flow_policy.specs.Policies.{Tables}
use Rattle.js_number.specs.declared.num.Num.TheVariants.{Int}
use Rattle.js_number.specs.declared.primitive.Primitive.TheVariants.{Num, Str}
use Rattle.js_values.specs.declared.inner.Class.TheVariants as class
use Rattle.native_protocol.specs.declared.natives.Form.{Form}
use Rattle.native_protocol.specs.declared.natives.Form.TheVariants.{Function, Constructor, LeftFunction, LeftAccessor}
use Rattle.native_protocol.specs.declared.registers.Reg.{Reg}
use Rattle.native_protocol.specs.declared.request.GivenMarks.{GivenMarks}
use Rattle.native_protocol.specs.declared.request.Request.{Request}
use Rattle.native_protocol.specs.declared.request.Request.TheVariants as request
use Rattle.native_protocol.specs.Sets.{SeenEntry, seen_entry}
use Rattle.native_protocol.specs.Steps.{Steps, ask, ends, leaves, reg, text_of_register}
use Rattle.es_meaning.specs.BuiltIns.{BuiltIns}
use Rattle.channels.specs.Clauses.{clause, first, second}
use Rattle.channels.specs.Entries.{channel_entries}

-- ---- registers: two more arguments, two for a key, one for what a request gives, one that stays undefined, and four for an own property

abbrev pub third : Reg
third = reg 4

abbrev pub fourth : Reg
fourth = reg 5

abbrev pub out : Reg
out = reg 20

abbrev pub unset : Reg
unset = reg 21

-- ---- what they do

-- a request, and then what it gave, or undefined
abbrev pub gives : Request → Steps
gives r = ask r (ends (request.Return out))

abbrev pub asks : Request → Steps
asks r = ask r (ends (request.Return unset))

-- with the second argument as a key
abbrev pub with_key : (List ℕ → Steps) → Steps
with_key next = text_of_register second (reg 18) (reg 19) (λ key at. next key)

-- a part of the own property
abbrev pub own_part : Reg → Steps
own_part part = with_key (λ key. ask (request.Own first key (reg 22) (reg 23) (reg 24) (reg 25)) (ends (request.Return part)))

-- a definition of it
abbrev pub marks_given : Option Bool → Option Bool → Option Bool → GivenMarks
marks_given writable enumerable configurable = record { writable = writable; enumerable = enumerable; configurable = configurable }

abbrev pub defines : GivenMarks → Option Reg → Option Reg → Option Reg → Steps
defines marks value getter setter = with_key (λ key. asks (request.Define first key marks value getter setter))

abbrev pub no_marks : GivenMarks
no_marks = marks_given None None None

-- ---- the set

pub record Probe : Type 0 where
  pub holder : List ℕ
  pub name : List ℕ
  pub form : Form
  -- by whether it is constructed
  pub steps : Bool → Steps

abbrev pub probe : List ℕ → Steps → Probe
probe name steps = record { holder = codes "global"; name = name; form = Function; steps = λ construct. steps }

abbrev pub left_out : List ℕ → Form → Probe
left_out name form = record { holder = codes "global"; name = name; form = form; steps = λ construct. leaves name }

-- what is made by `new Box(n)` has n as a property, and a call gives n
abbrev pub box_steps : Bool → Steps
box_steps true = ask (request.New class.Object None out) (ask (request.Put out (codes "n") first) (ends (request.Return out)))
box_steps false = ends (request.Return first)

abbrev pub probes : List Probe
probes =
    probe (codes "has") (with_key (λ key. gives (request.Has first key out)))
    ∷ probe (codes "put") (with_key (λ key. asks (request.Put first key third)))
    ∷ probe (codes "remove") (with_key (λ key. gives (request.Delete first key out)))
    ∷ probe (codes "marks") (own_part (reg 22))
    ∷ probe (codes "value") (own_part (reg 23))
    ∷ probe (codes "getter") (own_part (reg 24))
    ∷ probe (codes "fix") (defines no_marks (Some third) None None)
    ∷ probe (codes "hide") (defines (marks_given None (Some false) None) None None None)
    ∷ probe (codes "freeze") (defines (marks_given (Some false) None (Some false)) None None None)
    ∷ probe (codes "access") (defines no_marks None (Some third) (Some fourth))
    ∷ probe (codes "get_by") (defines no_marks None (Some third) None)
    ∷ probe (codes "confuse") (defines no_marks (Some third) (Some third) None)
    ∷ probe (codes "proto") (gives (request.Proto first out))
    ∷ probe (codes "extensible") (gives (request.Extensible first out))
    ∷ probe (codes "prevent") (asks (request.Prevent first))
    ∷ probe (codes "make") (gives (request.New class.Object None out))
    ∷ probe (codes "create") (gives (request.New class.Object (Some first) out))
    ∷ probe (codes "make_function") (gives (request.New class.Function None out))
    ∷ probe (codes "make_error") (gives (request.New class.Error None out))
    ∷ probe (codes "bind") (gives (request.Bind first second (third ∷ []) out))
    ∷ probe (codes "apply") (gives (request.Call first second (third ∷ []) out))
    ∷ probe (codes "build") (gives (request.Construct first (second ∷ []) out))
    ∷ probe (codes "same") (gives (request.Same first second out))
    ∷ probe (codes "raise") (ends (request.Throw first))
    ∷ record { holder = codes "global"; name = codes "Box"; form = Constructor; steps = box_steps }
    ∷ record { holder = codes "global"; name = codes "Object"; form = Constructor; steps = λ construct. ends (request.Return first) }
    ∷ record { holder = codes "Object.prototype"; name = codes "toString"; form = Function; steps = λ construct. gives (request.Make (Str (codes "[o]")) out) }
    ∷ record { holder = codes "Math"; name = codes "one"; form = Function; steps = λ construct. gives (request.Make (Num (Int (pos 1))) out) }
    ∷ left_out (codes "eval") LeftFunction
    ∷ left_out (codes "NaN") LeftAccessor
    ∷ probe (codes "keys") (gives (request.Keys first false out))
    ∷ probe (codes "names") (gives (request.Keys first true out))
    ∷ probe (codes "make_array") (gives (request.New class.Array None out))
    ∷ []

abbrev pub probe_entry : Probe → SeenEntry
probe_entry p = seen_entry p.holder p.name 0 p.form

abbrev pub steps_of : Option Probe → Bool → Steps
steps_of None construct = leaves []
steps_of (Some p) construct = p.steps construct

abbrev pub probe_clause : List (List ℕ) → ℕ → ℕ → Bool → Steps
probe_clause names which argc construct = if nat_lt which 5 then clause names which argc construct else steps_of (slice_get probes (which - 5)) construct

abbrev pub probe_set : Tables → BuiltIns
probe_set tables = record { entries = channel_entries ++ map probe_entry probes; begins = probe_clause tables.origins }
