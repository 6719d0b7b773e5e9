-- How a reply is put: whole with its status, or cut off.
use Rattle.std.proofs.Common.{◌≡◌, ℕ, ◌≤◌, List, ◌++◌, true, false, Option, refl, sym, subst, ◌∙◌, inl, inr, ◌⊎◌, arith}
use Rattle.std.proofs.lemmas.Bool.{cases_lt, false≢true}
use Rattle.flow_io.specs.Files.{Rose}
use Rattle.flow_io.specs.Sinks.{Appends, AppendsFront}
use Rattle.step_run.proofs.Appending.{front_whole, front_of_whole, appends_then, front_then, fronts_nothing}
use Rattle.js_shell.specs.declared.status.Status.{Status}
use Rattle.js_shell.specs.declared.status.Status.TheVariants as status
use Rattle.js_shell.specs.Answering.{Puts, is_cut_status}
use Rattle.js_shell.specs.Promises.{UnlessEarly}
use Rattle.js_shell.specs.Replies.{Reply}
use Rattle.js_shell.proofs.StatusLaws.{unless_early, cut_unless, cut_isnt}

pub data IsPut (reply : Reply) (result : Status) (old new : Option (List ℕ)) : Type 0 where
  whole : result ≡ reply.status → Appends old new reply.bytes → IsPut reply result old new
  part : is_cut_status result ≡ true → AppendsFront old new reply.bytes → IsPut reply result old new

pub put_so : (reply : Reply) (result : Status) (old new : Option (List ℕ)) → Puts reply result old new → IsPut reply result old new
put_so reply status.WriteFault old new p = part refl p
put_so reply status.OutOfMemory old new p = part refl p
put_so reply status.ReadFault old new p = whole (sym p.0) p.1
put_so reply status.Done old new p = whole (sym p.0) p.1
put_so reply status.Threw old new p = whole (sym p.0) p.1
put_so reply status.Usage old new p = whole (sym p.0) p.1
put_so reply status.Source old new p = whole (sym p.0) p.1
put_so reply status.Policy old new p = whole (sym p.0) p.1
put_so reply status.Stopped old new p = whole (sym p.0) p.1
put_so reply status.Left old new p = whole (sym p.0) p.1
put_so reply status.OutOfTurns old new p = whole (sym p.0) p.1
put_so reply status.Unfinished old new p = whole (sym p.0) p.1

pub puts_whole : (reply : Reply) (result : Status) (old new : Option (List ℕ)) → reply.status ≡ result → Appends old new reply.bytes → Puts reply result old new
puts_whole reply status.WriteFault old new e p = front_of_whole old new reply.bytes reply.bytes p (front_whole reply.bytes)
puts_whole reply status.OutOfMemory old new e p = front_of_whole old new reply.bytes reply.bytes p (front_whole reply.bytes)
puts_whole reply status.ReadFault old new e p = (e, p)
puts_whole reply status.Done old new e p = (e, p)
puts_whole reply status.Threw old new e p = (e, p)
puts_whole reply status.Usage old new e p = (e, p)
puts_whole reply status.Source old new e p = (e, p)
puts_whole reply status.Policy old new e p = (e, p)
puts_whole reply status.Stopped old new e p = (e, p)
puts_whole reply status.Left old new e p = (e, p)
puts_whole reply status.OutOfTurns old new e p = (e, p)
puts_whole reply status.Unfinished old new e p = (e, p)

pub puts_part : (reply : Reply) (result : Status) (old new : Option (List ℕ)) → is_cut_status result ≡ true → AppendsFront old new reply.bytes → Puts reply result old new
puts_part reply status.WriteFault old new e p = p
puts_part reply status.OutOfMemory old new e p = p
puts_part reply status.ReadFault old new e p = absurd (false≢true e)
puts_part reply status.Done old new e p = absurd (false≢true e)
puts_part reply status.Threw old new e p = absurd (false≢true e)
puts_part reply status.Usage old new e p = absurd (false≢true e)
puts_part reply status.Source old new e p = absurd (false≢true e)
puts_part reply status.Policy old new e p = absurd (false≢true e)
puts_part reply status.Stopped old new e p = absurd (false≢true e)
puts_part reply status.Left old new e p = absurd (false≢true e)
puts_part reply status.OutOfTurns old new e p = absurd (false≢true e)
puts_part reply status.Unfinished old new e p = absurd (false≢true e)

-- nothing is put, for want of memory
pub puts_nothing : (reply : Reply) (old : Option (List ℕ)) → Puts reply status.OutOfMemory old old
puts_nothing reply old = fronts_nothing old reply.bytes

-- what is put of one reply is put of another that is the same
pub puts_same : (reply other : Reply) (result : Status) (old new : Option (List ℕ)) → reply ≡ other → Puts reply result old new → Puts other result old new
puts_same reply other result old new e p = subst (λ (r : Reply). Puts r result old new) e p

-- bytes, and then a reply
pub puts_behind : (front : List ℕ) (reply : Reply) (result : Status) (old now new : Option (List ℕ)) → Appends old now front → Puts reply result now new → Puts (record { bytes = front ++ reply.bytes; status = reply.status }) result old new
puts_behind front reply result old now new p q = by (put_so reply result now new q)
  where
    both : Reply
    both = record { bytes = front ++ reply.bytes; status = reply.status }

    by : IsPut reply result now new → Puts both result old new
    by (whole e w) = puts_whole both result old new (sym e) (appends_then old now new front reply.bytes p w)
    by (part c w) = puts_part both result old new c (front_then old now new front reply.bytes p w)

-- a status that the reply doesn't have isn't answered, but where the reply is cut off
pub puts_isnt : (reply : Reply) (result other : Status) (old new : Option (List ℕ)) → Puts reply result old new → (reply.status ≡ other → ⊥) → is_cut_status other ≡ false → result ≡ other → ⊥
puts_isnt reply result other old new p isnt not_cut e = by (put_so reply result old new p)
  where
    by : IsPut reply result old new → ⊥
    by (whole is w) = isnt (sym is ∙ e)
    by (part c w) = cut_isnt result other e c not_cut

-- the status of a reply comes with it, unless the call ends early
pub puts_status : (reply : Reply) (result : Status) (old new : Option (List ℕ)) → Puts reply result old new → UnlessEarly result (result ≡ reply.status)
puts_status reply result old new p = by (put_so reply result old new p)
  where
    by : IsPut reply result old new → UnlessEarly result (result ≡ reply.status)
    by (whole is w) = unless_early result (result ≡ reply.status) is
    by (part c w) = cut_unless result (result ≡ reply.status) c

-- ---- faults that are counted

-- a count that rose before or rises now has risen
pub rose_then : (a b c : ℕ) → a ≤ b → b ≤ c → Rose a b ⊎ Rose b c → Rose a c
rose_then a b c first second (inl (inl lt)) = inl (omega arith)
rose_then a b c first second (inl (inr e)) = elim (cases_lt b c) [
  | inl lt ↦ inl (omega arith)
  | inr le ↦ let same : c ≡ b = omega arith in inr (same ∙ e)
]
rose_then a b c first second (inr (inl lt)) = inl (omega arith)
rose_then a b c first second (inr (inr e)) = inr e
