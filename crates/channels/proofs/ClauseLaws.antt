-- The five machines follow their clauses.
use Rattle.std.proofs.Common.{arith, ltb-true, ltb-false, ◌≡◌, ℕ, zero, suc, ◌+◌, ◌-◌, Bool, true, false, nat_lt, if◌then◌else◌, List, [], ◌∷◌, Option, Some, None, refl, ◌∙◌, ap}
use Rattle.origin_labels.specs.Label.{Label, bottom, with_origin}
use Rattle.native_protocol.proofs.PieceLaws.{text_is}
use Rattle.native_protocol.proofs.RunningLaws.{asks_rest}
use Rattle.native_protocol.specs.declared.progress.Progress.{Progress}
use Rattle.native_protocol.specs.declared.progress.Progress.TheVariants.{Going, Ready}
use Rattle.native_protocol.specs.declared.request.Answer.{Answer}
use Rattle.native_protocol.specs.declared.request.Answer.TheVariants as answer
use Rattle.native_protocol.specs.declared.request.Request.TheVariants as request
use Rattle.native_protocol.specs.declared.text_of.HeldText.{HeldText}
use Rattle.native_protocol.specs.declared.text_of.TextOf.{TextOf}
use Rattle.native_protocol.specs.Pieces.{held_text, text_after, text_rest}
use Rattle.native_protocol.specs.Running.{behind, carried_on, Follows}
use Rattle.native_protocol.specs.Steps.{Steps, ask, look, ends, throws_type_error, seen_in, is_text, is_object, reg, text_of_register}
use Rattle.channels.specs.Clauses.{first, second, returns, with_channel, with_object, origin_in, if_origin, with_origins, clause_of, clause}
use Rattle.channels.specs.Entries.{built_in_at}
use Rattle.channels.specs.Machine.{registers_of, channel_begin, join_asks, leave_asks, channel_asks, looking, second_text, begin_with, print_behind, existence_behind, origin_behind, join_gives, channel_after}
use Rattle.channels.specs.declared.state.BuiltIn.{BuiltIn}
use Rattle.channels.specs.declared.state.BuiltIn.TheVariants as built_in
use Rattle.channels.specs.declared.state.ChannelState.{ChannelState}
use Rattle.channels.specs.declared.state.ChannelState.TheVariants as state
use Rattle.channels.specs.declared.state.Joining.{Joining}
use Rattle.channels.specs.declared.state.Joining.TheVariants as joining
use Rattle.channels.specs.declared.state.Registers.{Registers}
use Rattle.channels.specs.declared.state.Unknown.TheVariants as unknown

-- ---- the steps that a state has still to take

abbrev join_rest : Joining → Registers → Label → Steps
join_rest purpose rs origins = ask (join_asks origins purpose rs) (returns (join_gives purpose rs))

abbrev origins_rest : List (List ℕ) → ℕ → Label → Joining → Registers → Steps
origins_rest names at origins purpose rs = with_origins names at (rs.end - at) origins (join_rest purpose rs)

abbrev print_rest : Registers → HeldText → Steps
print_rest rs held = ask (request.PrintLine first held.at) (returns rs.unset)

abbrev existence_rest : List (List ℕ) → Registers → HeldText → Steps
existence_rest names rs held = origins_rest names 4 bottom (joining.Existence held.text) rs

abbrev second_rest : Registers → (HeldText → Steps) → Steps
second_rest rs next = text_of_register second rs.method rs.value (λ text at. next (held_text text at))

abbrev begin_rest : List (List ℕ) → BuiltIn → Registers → Steps
begin_rest names built_in.Read rs = with_channel (ask (request.ReadLine first rs.value) (returns rs.value))
begin_rest names built_in.Print rs = with_channel (second_rest rs (print_rest rs))
begin_rest names built_in.Lbl rs = origins_rest names 3 bottom joining.Label rs
begin_rest names built_in.Upgs rs = with_object (origins_rest names 3 bottom joining.Structure rs)
begin_rest names built_in.Upge rs = with_object (second_rest rs (existence_rest names rs))

abbrev begun_rest : List (List ℕ) → BuiltIn → Registers → Steps
begun_rest names b rs [] = request.Look first
begun_rest names b rs (a ∷ answers) = begin_rest names b rs answers

abbrev rest : List (List ℕ) → ChannelState → Steps
rest names (state.Begun b rs) = begun_rest names b rs
rest names (state.ReadName rs) = begin_rest names built_in.Read rs
rest names (state.ReadLine rs) = ask (request.ReadLine first rs.value) (returns rs.value)
rest names (state.PrintName rs) = begin_rest names built_in.Print rs
rest names (state.PrintText text rs) = text_rest text (print_rest rs)
rest names (state.PrintLine from rs) = ask (request.PrintLine first from) (returns rs.unset)
rest names (state.StructureObject rs) = begin_rest names built_in.Upgs rs
rest names (state.ExistenceObject rs) = begin_rest names built_in.Upge rs
rest names (state.ExistenceKey text rs) = text_rest text (existence_rest names rs)
rest names (state.Origin at origins purpose rs) =
    look (reg at) (λ seen. if_origin (origin_in names seen) (λ origin. origins_rest names (at + 1) (with_origin origin origins) purpose rs))
rest names (state.Join origins purpose rs) = join_rest purpose rs origins
rest names (state.Return from) = returns from
rest names state.Throw = throws_type_error
rest names (state.Leave u) = ends (leave_asks u)

-- ---- one answer

-- the origins that are left are those of the registers up to the last argument
looking_by : (names : List (List ℕ)) (at : ℕ) (origins : Label) (purpose : Joining) (rs : Registers) (more : Bool) (answers : List Answer) → nat_lt at rs.end ≡ more → origins_rest names at origins purpose rs answers ≡ rest names (if more then state.Origin at origins purpose rs else state.Join origins purpose rs) answers
looking_by names at origins purpose rs true answers e =
    let lt = ltb-true at rs.end e in
    ap (λ n. with_origins names at n origins (join_rest purpose rs) answers) (let left : rs.end - at ≡ suc (rs.end - (at + 1)) = omega (arith, lt) in left)
looking_by names at origins purpose rs false answers e =
    let le = ltb-false at rs.end e in
    ap (λ n. with_origins names at n origins (join_rest purpose rs) answers) (let none : rs.end - at ≡ zero = omega (arith, le) in none)

looking_is : (names : List (List ℕ)) (at : ℕ) (origins : Label) (purpose : Joining) (rs : Registers) (answers : List Answer) → origins_rest names at origins purpose rs answers ≡ rest names (looking at origins purpose rs) answers
looking_is names at origins purpose rs answers = looking_by names at origins purpose rs (nat_lt at rs.end) answers refl

choice : (names : List (List ℕ)) (b : Bool) (p q : Steps) (x y : ChannelState) (answers : List Answer) → p answers ≡ rest names x answers → q answers ≡ rest names y answers → (if b then p else q) answers ≡ rest names (if b then x else y) answers
choice names true p q x y answers one other = one
choice names false p q x y answers one other = other

behind_begin : (names : List (List ℕ)) (b : BuiltIn) (rs : Registers) (answers : List Answer) → begin_rest names b rs answers ≡ rest names (begin_with b rs) answers
behind_begin names built_in.Read rs answers = refl
behind_begin names built_in.Print rs answers = refl
behind_begin names built_in.Lbl rs answers = looking_is names 3 bottom joining.Label rs answers
behind_begin names built_in.Upgs rs answers = refl
behind_begin names built_in.Upge rs answers = refl

behind_print : (names : List (List ℕ)) (rs : Registers) (p : Progress TextOf HeldText) (answers : List Answer) → carried_on text_rest p (print_rest rs) answers ≡ rest names (print_behind rs p) answers
behind_print names rs (Going text) answers = refl
behind_print names rs (Ready held) answers = refl

behind_existence : (names : List (List ℕ)) (rs : Registers) (p : Progress TextOf HeldText) (answers : List Answer) → carried_on text_rest p (existence_rest names rs) answers ≡ rest names (existence_behind rs p) answers
behind_existence names rs (Going text) answers = refl
behind_existence names rs (Ready held) answers = looking_is names 4 bottom (joining.Existence held.text) rs answers

behind_origin : (names : List (List ℕ)) (named : Option ℕ) (at : ℕ) (origins : Label) (purpose : Joining) (rs : Registers) (answers : List Answer) → if_origin named (λ origin. origins_rest names (at + 1) (with_origin origin origins) purpose rs) answers ≡ rest names (origin_behind named at origins purpose rs) answers
behind_origin names (Some origin) at origins purpose rs answers = looking_is names (at + 1) (with_origin origin origins) purpose rs answers
behind_origin names None at origins purpose rs answers = refl

first_is : (names : List (List ℕ)) (s : ChannelState) → rest names s [] ≡ channel_asks s
first_is names (state.Begun b rs) = refl
first_is names (state.ReadName rs) = refl
first_is names (state.ReadLine rs) = refl
first_is names (state.PrintName rs) = refl
first_is names (state.PrintText text rs) = text_is.first text (print_rest rs)
first_is names (state.PrintLine from rs) = refl
first_is names (state.StructureObject rs) = refl
first_is names (state.ExistenceObject rs) = refl
first_is names (state.ExistenceKey text rs) = text_is.first text (existence_rest names rs)
first_is names (state.Origin at origins purpose rs) = refl
first_is names (state.Join origins purpose rs) = refl
first_is names (state.Return from) = refl
first_is names state.Throw = refl
first_is names (state.Leave u) = refl

others_are : (names : List (List ℕ)) (s : ChannelState) (a : Answer) (answers : List Answer) → rest names s (a ∷ answers) ≡ rest names (channel_after names s a) answers
others_are names (state.Begun b rs) a answers = behind_begin names b rs answers
others_are names (state.ReadName rs) a answers =
    choice names (is_text (seen_in a)) _ _ (state.ReadLine rs) (state.Leave unknown.Channel) answers refl refl
others_are names (state.ReadLine rs) a answers = refl
others_are names (state.PrintName rs) a answers =
    choice names (is_text (seen_in a)) _ _ (state.PrintText (second_text rs) rs) (state.Leave unknown.Channel) answers refl refl
others_are names (state.PrintText text rs) a answers = text_is.others text (print_rest rs) a answers ∙ behind_print names rs (text_after text a) answers
others_are names (state.PrintLine from rs) a answers = refl
others_are names (state.StructureObject rs) a answers =
    choice names (is_object (seen_in a)) _ _ (looking 3 bottom joining.Structure rs) state.Throw answers (looking_is names 3 bottom joining.Structure rs answers) refl
others_are names (state.ExistenceObject rs) a answers =
    choice names (is_object (seen_in a)) _ _ (state.ExistenceKey (second_text rs) rs) state.Throw answers refl refl
others_are names (state.ExistenceKey text rs) a answers = text_is.others text (existence_rest names rs) a answers ∙ behind_existence names rs (text_after text a) answers
others_are names (state.Origin at origins purpose rs) a answers = behind_origin names (origin_in names (seen_in a)) at origins purpose rs answers
others_are names (state.Join origins purpose rs) a answers = refl
others_are names (state.Return from) a answers = refl
others_are names state.Throw a answers = refl
others_are names (state.Leave u) a answers = refl

steps_followed : (names : List (List ℕ)) → Follows channel_asks (channel_after names) (rest names)
steps_followed names = record { first = first_is names; others = others_are names }

-- ---- the clauses

clause_is : (names : List (List ℕ)) (b : BuiltIn) (argc : ℕ) (answers : List Answer) → begin_rest names b (registers_of argc) answers ≡ clause_of names b argc answers
clause_is names built_in.Read argc answers = refl
clause_is names built_in.Print argc answers = refl
clause_is names built_in.Lbl argc answers =
    ap (λ n. with_origins names 3 n bottom (join_rest joining.Label (registers_of argc)) answers) (let count : argc + 2 - 3 ≡ argc - 1 = omega arith in count)
clause_is names built_in.Upgs argc answers =
    ap (λ n. with_object (with_origins names 3 n bottom (join_rest joining.Structure (registers_of argc))) answers) (let count : argc + 2 - 3 ≡ argc - 1 = omega arith in count)
clause_is names built_in.Upge argc answers =
    ap (λ n. with_object (second_rest (registers_of argc) (λ held. with_origins names 4 n bottom (join_rest (joining.Existence held.text) (registers_of argc)))) answers) (let count : argc + 2 - 4 ≡ argc - 2 = omega arith in count)

pub clause_followed : (names : List (List ℕ)) (which argc : ℕ) (construct : Bool) (answers : List Answer) → channel_asks (behind (channel_after names) (channel_begin which argc construct) (answer.Begin ∷ answers)) ≡ clause names which argc construct answers
clause_followed names which argc construct answers =
    asks_rest (steps_followed names) (channel_begin which argc construct) (answer.Begin ∷ answers)
    ∙ clause_is names (built_in_at which) argc answers
