-- The clauses of `read`, `print`, `lbl`, `upgs` and `upge`: what each asks for, in order. The names are those of the declared origins, each with its place as
-- its number.
use Rattle.std.specs.Prelude.{ℕ, zero, suc, ◌+◌, ◌-◌, Bool, List, codes, Option, Some, None, if◌then◌else◌}
use Rattle.js_number.specs.declared.primitive.Primitive.TheVariants.{Str}
use Rattle.origin_labels.specs.Label.{Label, bottom, with_origin}
use Rattle.origin_labels.specs.Names.{place_of}
use Rattle.native_protocol.specs.declared.registers.Reg.{Reg}
use Rattle.native_protocol.specs.declared.request.Request.TheVariants as request
use Rattle.native_protocol.specs.declared.request.Seen.{Seen}
use Rattle.native_protocol.specs.declared.request.Seen.TheVariants.{Prim, Object}
use Rattle.native_protocol.specs.Steps.{Steps, ask, look, ends, leaves, throws_type_error, is_text, is_object, reg, first_free, text_of_register}
use Rattle.channels.specs.declared.state.BuiltIn.{BuiltIn}
use Rattle.channels.specs.declared.state.BuiltIn.TheVariants as built_in
use Rattle.channels.specs.Entries.{built_in_at}

-- ---- registers: the arguments, and behind them those for what is made on the way; the last one holds undefined, as nothing writes it

abbrev pub first : Reg
first = reg 2

abbrev pub second : Reg
second = reg 3

abbrev pub method_of : ℕ → Reg
method_of argc = reg (first_free argc)

abbrev pub value_of : ℕ → Reg
value_of argc = reg (first_free argc + 1)

abbrev pub unset_of : ℕ → Reg
unset_of argc = reg (first_free argc + 2)

-- ---- what several of them do

abbrev pub returns : Reg → Steps
returns r = ends (request.Return r)

-- the first argument must be a text, or the run is left: it names no channel
abbrev pub with_channel : Steps → Steps
with_channel next = look first (λ name. if is_text name then next else leaves (codes "channel"))

-- the first argument must be an object
abbrev pub with_object : Steps → Steps
with_object next = look first (λ o. if is_object o then next else throws_type_error)

-- the text of the second argument, and the register that holds it
abbrev pub with_second_text : ℕ → (List ℕ → Reg → Steps) → Steps
with_second_text argc next = text_of_register second (method_of argc) (value_of argc) next

-- the number of the declared origin that a value names
abbrev pub origin_in : List (List ℕ) → Seen → Option ℕ
origin_in names (Prim (Str name)) = place_of name names
origin_in names (Prim p) = None
origin_in names (Object c) = None

abbrev pub if_origin : Option ℕ → (ℕ → Steps) → Steps
if_origin (Some origin) next = next origin
if_origin None next = leaves (codes "origin")

-- so many registers from one on are looked at, from the left: each names a declared origin, which joins the set, or the run is left
abbrev pub with_origins : List (List ℕ) → ℕ → ℕ → Label → (Label → Steps) → Steps
with_origins names r zero origins next = next origins
with_origins names r (suc n) origins next =
    look (reg r) (λ seen. if_origin (origin_in names seen) (λ origin. with_origins names (r + 1) n (with_origin origin origins) next))

-- the origins that the arguments behind the first name, or those behind the second
abbrev pub with_others : List (List ℕ) → ℕ → (Label → Steps) → Steps
with_others names argc next = with_origins names 3 (argc - 1) bottom next

abbrev pub with_last : List (List ℕ) → ℕ → (Label → Steps) → Steps
with_last names argc next = with_origins names 4 (argc - 2) bottom next

-- ---- the five

-- the next line of the channel
abbrev pub read : ℕ → Steps
read argc = with_channel (ask (request.ReadLine first (value_of argc)) (returns (value_of argc)))

-- the text of the second argument as a line of the channel
abbrev pub print : ℕ → Steps
print argc = with_channel (with_second_text argc (λ text at. ask (request.PrintLine first at) (returns (unset_of argc))))

-- the first argument, with the origins in its label
abbrev pub lbl : List (List ℕ) → ℕ → Steps
lbl names argc = with_others names argc (λ origins. ask (request.Label first origins (value_of argc)) (returns (value_of argc)))

-- the origins join the structure label of the object
abbrev pub upgs : List (List ℕ) → ℕ → Steps
upgs names argc = with_object (with_others names argc (λ origins. ask (request.RaiseStructure first origins) (returns (unset_of argc))))

-- the origins join the existence label of the object's property
abbrev pub upge : List (List ℕ) → ℕ → Steps
upge names argc =
    with_object (with_second_text argc (λ key at. with_last names argc (λ origins.
    ask (request.RaiseExistence first key origins) (returns (unset_of argc)))))

abbrev pub clause_of : List (List ℕ) → BuiltIn → ℕ → Steps
clause_of names built_in.Read argc = read argc
clause_of names built_in.Print argc = print argc
clause_of names built_in.Lbl argc = lbl names argc
clause_of names built_in.Upgs argc = upgs names argc
clause_of names built_in.Upge argc = upge names argc

-- what is asked for next after these answers. None of the five is a constructor, so the mark for a construction makes no difference
abbrev pub clause : List (List ℕ) → ℕ → ℕ → Bool → Steps
clause names which argc construct = clause_of names (built_in_at which) argc
