-- What holds of a call that didn't end early, and of one that did.
use Rattle.std.proofs.Common.{◌≡◌, ◌↔◌, Bool, true, false, refl, sym, ap, ◌∙◌}
use Rattle.std.proofs.lemmas.Bool.{false≢true}
use Rattle.js_shell.specs.declared.status.Status.{Status}
use Rattle.js_shell.specs.declared.status.Status.TheVariants as status
use Rattle.js_shell.specs.Answering.{is_reply_status, is_cut_status, is_write_fault}
use Rattle.js_shell.specs.Promises.{UnlessEarly, IfEarly}

-- what holds of a call holds unless it ends early
pub unless_early : (s : Status) (P : Type 0) → P → UnlessEarly s P
unless_early status.ReadFault P p = tt
unless_early status.WriteFault P p = tt
unless_early status.OutOfMemory P p = tt
unless_early status.Done P p = p
unless_early status.Threw P p = p
unless_early status.Usage P p = p
unless_early status.Source P p = p
unless_early status.Policy P p = p
unless_early status.Stopped P p = p
unless_early status.Left P p = p
unless_early status.OutOfTurns P p = p
unless_early status.Unfinished P p = p

-- of a call that was cut off nothing is said
pub cut_unless : (s : Status) (P : Type 0) → is_cut_status s ≡ true → UnlessEarly s P
cut_unless status.WriteFault P e = tt
cut_unless status.OutOfMemory P e = tt
cut_unless status.ReadFault P e = tt
cut_unless status.Done P e = absurd (false≢true e)
cut_unless status.Threw P e = absurd (false≢true e)
cut_unless status.Usage P e = absurd (false≢true e)
cut_unless status.Source P e = absurd (false≢true e)
cut_unless status.Policy P e = absurd (false≢true e)
cut_unless status.Stopped P e = absurd (false≢true e)
cut_unless status.Left P e = absurd (false≢true e)
cut_unless status.OutOfTurns P e = absurd (false≢true e)
cut_unless status.Unfinished P e = absurd (false≢true e)

pub reply_early : (s : Status) (P : Type 0) → is_reply_status s ≡ true → IfEarly s P
reply_early status.ReadFault P e = absurd (false≢true e)
reply_early status.WriteFault P e = absurd (false≢true e)
reply_early status.OutOfMemory P e = absurd (false≢true e)
reply_early status.Done P e = tt
reply_early status.Threw P e = tt
reply_early status.Usage P e = tt
reply_early status.Source P e = tt
reply_early status.Policy P e = tt
reply_early status.Stopped P e = tt
reply_early status.Left P e = tt
reply_early status.OutOfTurns P e = tt
reply_early status.Unfinished P e = tt

pub if_early : (s : Status) (P : Type 0) → P → IfEarly s P
if_early status.ReadFault P p = p
if_early status.WriteFault P p = p
if_early status.OutOfMemory P p = p
if_early status.Done P p = tt
if_early status.Threw P p = tt
if_early status.Usage P p = tt
if_early status.Source P p = tt
if_early status.Policy P p = tt
if_early status.Stopped P p = tt
if_early status.Left P p = tt
if_early status.OutOfTurns P p = tt
if_early status.Unfinished P p = tt

pub cut_isnt : (s t : Status) → s ≡ t → is_cut_status s ≡ true → is_cut_status t ≡ false → ⊥
cut_isnt s t e cut not_cut = false≢true (sym not_cut ∙ sym (ap is_cut_status e) ∙ cut)

-- what isn't cut off isn't shut, and had no write fault
pub uncut_open : (s : Status) → is_cut_status s ≡ false → is_write_fault s ≡ false
uncut_open status.WriteFault e = absurd (false≢true (sym e))
uncut_open status.OutOfMemory e = refl
uncut_open status.ReadFault e = refl
uncut_open status.Done e = refl
uncut_open status.Threw e = refl
uncut_open status.Usage e = refl
uncut_open status.Source e = refl
uncut_open status.Policy e = refl
uncut_open status.Stopped e = refl
uncut_open status.Left e = refl
uncut_open status.OutOfTurns e = refl
uncut_open status.Unfinished e = refl

pub uncut_failed : (s : Status) → is_cut_status s ≡ false → s ≡ status.WriteFault → ⊥
uncut_failed s e f = false≢true (sym e ∙ ap is_cut_status f)

is_fault : (s : Status) → is_write_fault s ≡ true → s ≡ status.WriteFault
is_fault status.WriteFault e = refl
is_fault status.OutOfMemory e = absurd (false≢true e)
is_fault status.ReadFault e = absurd (false≢true e)
is_fault status.Done e = absurd (false≢true e)
is_fault status.Threw e = absurd (false≢true e)
is_fault status.Usage e = absurd (false≢true e)
is_fault status.Source e = absurd (false≢true e)
is_fault status.Policy e = absurd (false≢true e)
is_fault status.Stopped e = absurd (false≢true e)
is_fault status.Left e = absurd (false≢true e)
is_fault status.OutOfTurns e = absurd (false≢true e)
is_fault status.Unfinished e = absurd (false≢true e)

-- the sink is shut exactly where there was a write fault
pub write_fault_shut : (s : Status) (shut : Bool) → shut ≡ is_write_fault s → (s ≡ status.WriteFault) ↔ (shut ≡ true)
write_fault_shut s shut e = (λ f. e ∙ ap is_write_fault f, λ t. is_fault s (sym e ∙ t))
