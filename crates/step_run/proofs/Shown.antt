-- The bytes of the lines that are shown.
use Rattle.std.proofs.Common.{◌≡◌, ℕ, zero, suc, ◌<◌, Bool, true, false, List, [], ◌∷◌, ◌++◌, length, map, get_or, Some, refl, sym, ap, ◌∙◌, arith, append-nil}
use Rattle.std.specs.List.{find, flat_map, slice_get}
use Rattle.std.proofs.lemmas.Bool.{false_from_ne_true}
use Rattle.std.proofs.lemmas.List.{map-append, get_or-map, length-map}
use Rattle.std.proofs.lemmas.List.Concat.{flat_map-append}
use Rattle.std.proofs.lemmas.List.Elements.{filter-append}
use Rattle.std.proofs.lemmas.Option.{slice_get_within, slice_get_read, get_or_from_slice_get}
use Rattle.std.proofs.lemmas.Slice.Eq.{bytes_eq-Decides}
use Rattle.origin_labels.specs.Label.{Label}
use Rattle.origin_labels.specs.Names.{same_name}
use Rattle.flow_policy.specs.declared.policy.Channel.{Channel}
use Rattle.flow_policy.specs.Observed.{sees_channel}
use Rattle.flow_policy.specs.Policies.{Tables, AreChannels, IsPolicy, channel_named}
use Rattle.es_meaning.specs.Plain.{name_at}
use Rattle.flow_meaning.specs.Scopes.{LabelledLine}
use Rattle.low_equal.specs.Observed.{on_seen_channel}
use Rattle.channel_requests.specs.declared.printing.Printed.{Printed}
use Rattle.channel_requests.specs.Answers.{line_of}
use Rattle.step_run.specs.declared.ending.Show.{Show}
use Rattle.step_run.specs.declared.ending.Show.TheVariants as show
use Rattle.flow_meaning.specs.Written.{line_bytes, lines_bytes}
use Rattle.step_run.specs.Lines.{shows, shown_lines, shown_bytes}

-- ---- some lines, and others behind them

shown_append : (which : Show) (tables : Tables) (ls ms : List LabelledLine) → shown_lines which tables (ls ++ ms) ≡ shown_lines which tables ls ++ shown_lines which tables ms
shown_append show.All tables ls ms = refl
shown_append (show.Only observer) tables ls ms = filter-append (on_seen_channel observer tables) ls ms

pub bytes_append : (which : Show) (tables : Tables) (ls ms : List LabelledLine) → shown_bytes which tables (ls ++ ms) ≡ shown_bytes which tables ls ++ shown_bytes which tables ms
unfolding lines_bytes
bytes_append which tables ls ms =
    ap (λ (xs : List LabelledLine). flat_map line_bytes (map (λ l. l.line) xs)) (shown_append which tables ls ms)
    ∙ ap (flat_map line_bytes) (map-append (λ (l : LabelledLine). l.line) (shown_lines which tables ls) (shown_lines which tables ms))
    ∙ flat_map-append line_bytes (map (λ l. l.line) (shown_lines which tables ls)) (map (λ l. l.line) (shown_lines which tables ms))

pub bytes_none : (which : Show) (tables : Tables) → shown_bytes which tables [] ≡ []
unfolding lines_bytes
bytes_none show.All tables = refl
bytes_none (show.Only observer) tables = refl

-- ---- the channel of a name

-- the first element that passes
find_first : {X : Type 0} (p : X → Bool) (xs : List X) (i : ℕ) (x : X) → slice_get xs i ≡ Some x → p x ≡ true → ((k : ℕ) → k < i → p (get_or xs k x) ≡ false) → find p xs ≡ Some x
find_first p [] i x at passes before = absurd cc
find_first p (y ∷ xs) zero x at passes before =
    let same : y ≡ x = cc in
    let holds : p y ≡ true = rw same passes in
    rw holds (ap Some same)
find_first p (y ∷ xs) (suc i) x at passes before =
    let fails : p y ≡ false = before 0 (omega arith) in
    rw fails (find_first p xs i x at passes (λ k lt. before (suc k) (omega arith)))

-- no other channel has its name
named_at : (n : ℕ) (channels : List Channel) → AreChannels n channels → (i : ℕ) (c : Channel) → slice_get channels i ≡ Some c → channel_named c.name channels ≡ Some c
unfolding channel_named
named_at n channels formed i c here =
    let inside = slice_get_within channels i c here in
    let name = λ (d : Channel). d.name in
    let len = length-map channels name in
    let last : get_or (map name channels) i [] ≡ c.name = get_or-map name channels i c [] inside ∙ ap name (get_or_from_slice_get channels i c c here) in
    find_first (λ (d : Channel). same_name d.name c.name) channels i c here ((bytes_eq-Decides c.name c.name).1 refl)
    (λ k lt. false_from_ne_true (same_name (get_or channels k c).name c.name)
    (λ same. formed.distinct k i [] lt (omega (arith, len, inside)) (get_or-map name channels k c [] (omega (arith, lt, inside)) ∙ (bytes_eq-Decides (get_or channels k c).name c.name).0 same ∙ sym last)))

-- the channel that was read at a place
pub channel_at : (channels shown : List Channel) (i : ℕ) (c : Channel) → shown ≡ channels → i < length channels → c ≡ get_or shown i c → slice_get channels i ≡ Some c
channel_at channels shown i c e lt is = slice_get_read channels (length channels) i c refl lt (is ∙ ap (λ (cs : List Channel). get_or cs i c) e)

-- ---- a line on a channel

line_shown : (which : Show) (tables : Tables) (c : Channel) (l : LabelledLine) → channel_named l.line.channel tables.outputs ≡ Some c → shows which c ≡ true → shown_bytes which tables (l ∷ []) ≡ line_bytes l.line
unfolding lines_bytes sees_channel
line_shown show.All tables c l named seen = append-nil (line_bytes l.line)
line_shown (show.Only observer) tables c l named seen =
    let passes : on_seen_channel observer tables l ≡ true = ap (sees_channel observer) named ∙ seen in
    rw passes (append-nil (line_bytes l.line))

line_hidden : (which : Show) (tables : Tables) (c : Channel) (l : LabelledLine) → channel_named l.line.channel tables.outputs ≡ Some c → shows which c ≡ false → shown_bytes which tables (l ∷ []) ≡ []
unfolding lines_bytes sees_channel
line_hidden show.All tables c l named hidden = absurd cc
line_hidden (show.Only observer) tables c l named hidden =
    let fails : on_seen_channel observer tables l ≡ false = ap (sees_channel observer) named ∙ hidden in
    rw fails refl

module _ {T : Type 0} (which : Show) (tables : Tables) (reading : T → Label) (p : Printed T) (formed : IsPolicy tables) (c : Channel) (here : slice_get tables.outputs p.channel ≡ Some c) where
  named : channel_named (line_of tables reading p).line.channel tables.outputs ≡ Some c
  named = ap (λ o. channel_named (name_at o) tables.outputs) here ∙ named_at _ tables.outputs formed.outputs p.channel c here

  -- its bytes where it is shown
  pub printed_shown : shows which c ≡ true → shown_bytes which tables (line_of tables reading p ∷ []) ≡ line_bytes (record { channel = c.name; text = p.text })
  printed_shown seen = line_shown which tables c (line_of tables reading p) named seen ∙ ap (λ o. line_bytes (record { channel = name_at o; text = p.text })) here

  -- and where it isn't
  pub printed_hidden : shows which c ≡ false → shown_bytes which tables (line_of tables reading p ∷ []) ≡ []
  printed_hidden hidden = line_hidden which tables c (line_of tables reading p) named hidden
