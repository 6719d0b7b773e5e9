-- splice (ECMA-262 15.4.4.12).
use Rattle.std.specs.Prelude.{ℕ, ℤ, pos, negsuc, ◌+ℤ◌, ◌-ℤ◌, int_lt, if◌then◌else◌}
use Rattle.native_protocol.specs.declared.request.Request.TheVariants.{Return}
use Rattle.native_protocol.specs.Steps.{Steps, ends, reg}
use Rattle.native_programs.specs.Choosing.{passed, relative, within}
use Rattle.native_programs.specs.Clauses.{argument_at, array_length, each_index, each_index_down, integer, this_object}
use Rattle.array_natives.specs.Shared.{array, define_at, delete_at, element, element_or, length_made, moved, new_array, put_at}

-- the length, the start (actualStart), how many elements are removed (actualDeleteCount), and how many items are put in their place
pub record Splice : Type 0 where
  pub len : ℤ
  pub start : ℤ
  pub removed : ℤ
  pub items : ℤ

abbrev pub splice_of : ℕ → ℤ → ℤ → ℤ → Splice
splice_of argc len start removed = record { len = len; start = start; removed = removed; items = passed argc 2 }

-- steps 16 and 17
abbrev pub spliced_length : ℕ → Splice → Steps
spliced_length argc s = length_made argc (reg 0) ((s.len -ℤ s.removed) +ℤ s.items) (ends (Return (array argc)))

-- steps 14 and 15: the items are put
abbrev pub items_put : ℕ → Splice → Steps
items_put argc s = each_index (pos 0) s.items (λ j again. put_at (s.start +ℤ j) (argument_at 2 j) again) (spliced_length argc s)

-- step 13, where more items come than elements go: the rest moves up, the last first
abbrev pub opened : ℕ → Splice → Steps → Steps
opened argc s next =
    each_index_down (s.len -ℤ s.removed) s.start (λ k again. moved argc ((k +ℤ s.removed) +ℤ negsuc 0) ((k +ℤ s.items) +ℤ negsuc 0) again) next

abbrev pub opened_or : Steps → Splice → Steps → Steps
opened_or opens s next = if int_lt s.removed s.items then opens else next

-- step 12, where fewer come: the rest moves down, and what is past it is deleted, the last first
abbrev pub cut_off : ℕ → Splice → Steps → Steps
cut_off argc s next = each_index_down s.len ((s.len -ℤ s.removed) +ℤ s.items) (λ k again. delete_at argc (k +ℤ negsuc 0) again) next

abbrev pub closed : ℕ → Splice → Steps → Steps
closed argc s next = each_index s.start (s.len -ℤ s.removed) (λ k again. moved argc (k +ℤ s.removed) (k +ℤ s.items) again) next

abbrev pub closed_or : Steps → Splice → Steps → Steps
closed_or closes s next = if int_lt s.items s.removed then closes else next

-- steps 10 to 17
abbrev pub filled_up : ℕ → Splice → Steps
filled_up argc s = opened_or (opened argc s (items_put argc s)) s (items_put argc s)

abbrev pub replaced : ℕ → Splice → Steps
replaced argc s = closed_or (closed argc s (cut_off argc s (filled_up argc s))) s (filled_up argc s)

-- steps 8 and 9: what is removed is copied; the standard's relativeStart is taken for its actualStart there
abbrev pub removed_copied : ℕ → Splice → Steps → Steps
removed_copied argc s next = each_index (pos 0) s.removed (λ k again. element_or argc (s.start +ℤ k) (define_at argc k (element argc) again) again) next

abbrev pub spliced : ℕ → ℤ → ℤ → ℤ → Steps
spliced argc len start removed = removed_copied argc (splice_of argc len start removed) (replaced argc (splice_of argc len start removed))

-- steps 5 to 7
abbrev pub splice_begun : (ℤ → ℤ → ℤ → Steps) → ℕ → ℤ → Steps
splice_begun splices argc len =
    integer argc (reg 2) (λ start. integer argc (reg 3) (λ count. splices len (relative start len) (within count (len -ℤ relative start len))))

-- steps 1 to 4
abbrev pub splice_by : (ℤ → ℤ → ℤ → Steps) → ℕ → Steps
splice_by splices argc = this_object (new_array argc (array_length argc (reg 0) (splice_begun splices argc)))

abbrev pub splice : ℕ → Steps
splice argc = splice_by (spliced argc) argc
