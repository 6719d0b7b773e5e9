-- What is added and removed at the ends (ECMA-262 15.4.4.6, 15.4.4.7, 15.4.4.9, 15.4.4.13).
use Rattle.std.specs.Prelude.{ℕ, ℤ, pos, negsuc, ◌+ℤ◌, if◌then◌else◌}
use Rattle.std.specs.Fmt.{signed_decimal}
use Rattle.std.specs.Ordering.{int_eq}
use Rattle.js_number.specs.declared.primitive.Primitive.TheVariants.{Str}
use Rattle.native_protocol.specs.declared.request.Request.TheVariants.{Make, Return}
use Rattle.native_protocol.specs.Steps.{Steps, ask, ends, reg}
use Rattle.native_programs.specs.Choosing.{passed}
use Rattle.native_programs.specs.Clauses.{argument_at, each_index, each_index_down}
use Rattle.array_natives.specs.Shared.{delete_at, element, get_at, length_made, length_put, made, moved, nothing, other, put_at, this_and_length}

-- nothing is there to be removed: step 4 of `pop` and of `shift`
abbrev pub emptied : ℕ → Steps
emptied argc = length_made argc (reg 0) (pos 0) (ends (Return (nothing argc)))

-- the new length is put, and given: the last two steps of `push` and of `unshift`
abbrev pub length_given : ℕ → ℤ → Steps
length_given argc len = length_made argc (reg 0) len (ends (Return (made argc)))

-- ---- pop (15.4.4.6)

-- step 5, with the last index: its text is put as the length
abbrev pub popped : ℕ → ℤ → Steps
popped argc last =
    ask (Make (Str (signed_decimal last)) (made argc))
    (get_at (reg 0) last (element argc) (delete_at argc last (length_put argc (reg 0) (ends (Return (element argc))))))

abbrev pub pop : ℕ → Steps
pop argc = this_and_length argc (λ len. if int_eq len (pos 0) then emptied argc else popped argc (len +ℤ negsuc 0))

-- ---- push (15.4.4.7)

-- steps 4 to 7
abbrev pub pushed : ℕ → ℤ → Steps
pushed argc len = each_index (pos 0) (passed argc 0) (λ i again. put_at (len +ℤ i) (argument_at 0 i) again) (length_given argc (len +ℤ passed argc 0))

abbrev pub push_by : (ℤ → Steps) → ℕ → Steps
push_by pushes argc = this_and_length argc pushes

abbrev pub push : ℕ → Steps
push argc = push_by (pushed argc) argc

-- ---- shift (15.4.4.9)

-- steps 8 to 10
abbrev pub shortened : ℕ → ℤ → Steps
shortened argc len = delete_at argc (len +ℤ negsuc 0) (length_made argc (reg 0) (len +ℤ negsuc 0) (ends (Return (other argc))))

-- steps 6 and 7
abbrev pub shifted : ℕ → ℤ → Steps
shifted argc len = each_index (pos 1) len (λ k again. moved argc k (k +ℤ negsuc 0) again) (shortened argc len)

-- steps 1 to 5
abbrev pub shift_by : (ℤ → Steps) → ℕ → Steps
shift_by shifts argc = this_and_length argc (λ len. if int_eq len (pos 0) then emptied argc else get_at (reg 0) (pos 0) (other argc) (shifts len))

abbrev pub shift : ℕ → Steps
shift argc = shift_by (shifted argc) argc

-- ---- unshift (15.4.4.13)

-- steps 7 to 11
abbrev pub items_first : ℕ → ℤ → Steps
items_first argc len = each_index (pos 0) (passed argc 0) (λ j again. put_at j (argument_at 0 j) again) (length_given argc (len +ℤ passed argc 0))

-- steps 4 to 6
abbrev pub moved_up_by : Steps → ℕ → ℤ → Steps
moved_up_by puts argc len = each_index_down len (pos 0) (λ k again. moved argc (k +ℤ negsuc 0) ((k +ℤ passed argc 0) +ℤ negsuc 0) again) puts

abbrev pub unshift_by : (ℤ → Steps) → ℕ → Steps
unshift_by unshifts argc = this_and_length argc unshifts

abbrev pub unshift : ℕ → Steps
unshift argc = unshift_by (λ len. moved_up_by (items_first argc len) argc len) argc
