-- What a policy declares, line by line.
use Rattle.std.specs.Prelude.{◌≡◌, ℕ, ◌+◌, ◌<◌, ◌≤◌, Bool, true, not, ◌&&◌, List, [], ◌∷◌, ◌++◌, length, Option, Result, Ok, Err, ◌==◌, nat_le, if◌then◌else◌, slice_index, codes, map}
use Rattle.std.specs.List.{All, find, list_any}
use Rattle.origin_labels.specs.Label.{IsLabel}
use Rattle.origin_labels.specs.Names.{same_name, has_name, AreDistinct}
use Rattle.flow_policy.specs.declared.policy.Channel.{Channel}
use Rattle.flow_policy.specs.declared.fault.PolicyKind.{PolicyKind}
use Rattle.flow_policy.specs.declared.fault.PolicyKind.TheVariants.{Keyword, Words, Name, Unknown, Repeat, Many}
use Rattle.flow_policy.specs.Lines.{lines_of}
use Rattle.flow_lists.specs.Names.{is_name}
use Rattle.flow_policy.specs.Words.{words_of}
use Rattle.flow_lists.specs.Lists.{are_names}
use Rattle.flow_policy.specs.Lists.{are_declared, label_in}

-- origins, input channels and output channels, each in the order of their lines
pub record Tables : Type 0 where
  pub origins : List (List ℕ)
  pub inputs : List Channel
  pub outputs : List Channel

abbrev pub no_tables : Tables
no_tables = record { origins = []; inputs = []; outputs = [] }

-- the channel of a name
unfoldable pub channel_named : List ℕ → List Channel → Option Channel
channel_named name channels = find (λ c. same_name c.name name) channels

abbrev pub has_channel : List ℕ → List Channel → Bool
has_channel name channels = list_any (λ c. same_name c.name name) channels

-- each table has room for this many
abbrev pub table_room : ℕ
table_room = 64

-- the table of origins after a further one
unfoldable pub with_new_origin : List (List ℕ) → List ℕ → Result (List (List ℕ)) PolicyKind
with_new_origin origins name =
    if not (is_name name) then Err Name
    else (if has_name name origins then Err Repeat
    else (if nat_le table_room (length origins) then Err Many
    else Ok (origins ++ name ∷ [])))

-- a table of channels after a further one with a list as its label
unfoldable pub with_new_channel : List (List ℕ) → List Channel → List ℕ → List ℕ → Result (List Channel) PolicyKind
with_new_channel origins channels name list =
    if not (is_name name && are_names list) then Err Name
    else (if not (are_declared origins list) then Err Unknown
    else (if has_channel name channels then Err Repeat
    else (if nat_le table_room (length channels) then Err Many
    else Ok (channels ++ record { name = name; label = label_in origins list } ∷ []))))

-- the same result with f of its value
abbrev pub ok_map : {A B E : Type 0} → (A → B) → Result A E → Result B E
ok_map f (Ok x) = Ok (f x)
ok_map f (Err e) = Err e

-- the tables after `origin NAME`, `in NAME LIST` and `out NAME LIST`, of which the words behind the first are given
unfoldable pub after_origin : Tables → List (List ℕ) → Result Tables PolicyKind
after_origin tables (name ∷ []) = ok_map (λ origins. record tables { origins = origins }) (with_new_origin tables.origins name)
after_origin tables words = Err Words

unfoldable pub after_in : Tables → List (List ℕ) → Result Tables PolicyKind
after_in tables (name ∷ list ∷ []) = ok_map (λ inputs. record tables { inputs = inputs }) (with_new_channel tables.origins tables.inputs name list)
after_in tables words = Err Words

unfoldable pub after_out : Tables → List (List ℕ) → Result Tables PolicyKind
after_out tables (name ∷ list ∷ []) = ok_map (λ outputs. record tables { outputs = outputs }) (with_new_channel tables.origins tables.outputs name list)
after_out tables words = Err Words

-- a word that begins with `#`
abbrev pub is_comment : List ℕ → Bool
is_comment word = slice_index word 0 == 35

-- the tables after a line of these words, or the first kind of fault that applies; a line without words and a comment declare nothing
unfoldable pub after_words : Tables → List (List ℕ) → Result Tables PolicyKind
after_words tables [] = Ok tables
after_words tables (word ∷ words) =
    if is_comment word then Ok tables
    else (if same_name word (codes "origin") then after_origin tables words
    else (if same_name word (codes "in") then after_in tables words
    else (if same_name word (codes "out") then after_out tables words
    else Err Keyword)))

-- the first bad line of a file, numbered from 1, and its fault
pub record BadLine (Kind : Type 0) : Type 0 where
  pub line : ℕ
  pub kind : Kind

-- goes on behind a line with the tables that it leaves, or tells that it is bad
abbrev pub next_line : {A B Kind : Type 0} → ℕ → Result A Kind → (A → Result B (BadLine Kind)) → Result B (BadLine Kind)
next_line number (Ok after) go_on = go_on after
next_line number (Err kind) go_on = Err (record { line = number; kind = kind })

-- the tables after lines of which the first has this number, or the first bad line
unfoldable pub after_lines : ℕ → Tables → List (List ℕ) → Result Tables (BadLine PolicyKind)
after_lines number tables [] = Ok tables
after_lines number tables (line ∷ lines) = next_line number (after_words tables (words_of line)) (λ after. after_lines (number + 1) after lines)

-- the policy that the bytes of a file state
unfoldable pub policy_of : List ℕ → Result Tables (BadLine PolicyKind)
policy_of bytes = after_lines 1 no_tables (lines_of bytes)

-- what holds of each channel of a policy with n origins: its label has declared origins alone
pub record IsChannel (n : ℕ) (channel : Channel) : Type 0 where
  pub name : is_name channel.name ≡ true
  pub label : IsLabel channel.label
  pub declared : All (λ origin. origin < n) channel.label

pub record AreChannels (n : ℕ) (channels : List Channel) : Type 0 where
  pub each : All (IsChannel n) channels
  pub distinct : AreDistinct (map (λ c. c.name) channels)
  pub few : length channels ≤ table_room

-- what holds of each policy
pub record IsPolicy (tables : Tables) : Type 0 where
  pub names : All (λ name. is_name name ≡ true) tables.origins
  pub origins : AreDistinct tables.origins
  pub few : length tables.origins ≤ table_room
  pub inputs : AreChannels (length tables.origins) tables.inputs
  pub outputs : AreChannels (length tables.origins) tables.outputs
