-- How the parts of a call put what they answer.
use Rattle.std.specs.Prelude.{◌≡◌, ℕ, Bool, true, false, List, Option, IfSome}
use Rattle.flow_io.specs.Files.{Files}
use Rattle.flow_io.specs.Sinks.{Appends, AppendsFront}
use Rattle.js_shell.specs.declared.status.Status.{Status}
use Rattle.js_shell.specs.declared.status.Status.TheVariants as status
use Rattle.run_files.specs.declared.refusals.Refusal.{Refusal}
use Rattle.run_files.specs.declared.refusals.Refusal.TheVariants as refusal
use Rattle.run_files.specs.Seen.{seen_refusal}
use Rattle.run_files.specs.Tasks.{read_fault_report}
use Rattle.js_shell.specs.Replies.{Reply, fault_reply}

-- a reply is put, whole with its status, or, where a fault or want of memory cut it off, a front of it
abbrev pub Puts : Reply → Status → Option (List ℕ) → Option (List ℕ) → Type 0
Puts reply status.WriteFault old new = AppendsFront old new reply.bytes
Puts reply status.OutOfMemory old new = AppendsFront old new reply.bytes
Puts reply result old new = (reply.status ≡ result) × Appends old new reply.bytes

abbrev pub is_write_fault : Status → Bool
is_write_fault status.WriteFault = true
is_write_fault _ = false

-- the statuses of replies
abbrev pub is_reply_status : Status → Bool
is_reply_status status.ReadFault = false
is_reply_status status.WriteFault = false
is_reply_status status.OutOfMemory = false
is_reply_status _ = true

-- what is put where a file could not be read
abbrev pub read_fault_reply : Reply
read_fault_reply = record { bytes = read_fault_report; status = status.ReadFault }

-- How a call answers: it puts a reply that is one over the files; or the report of a read fault; or nothing, for want of memory.
pub data Answers (contents : Option Files) (Is : Files → Reply → Type 0) (StoreFailed : Type 0) (old new : Option (List ℕ)) (result : Status) : Type 0 where
  replies : (reply : Reply) → IfSome contents (λ files. Is files reply) → is_reply_status reply.status ≡ true → Puts reply result old new → Answers contents Is StoreFailed old new result
  unread : StoreFailed → Puts read_fault_reply result old new → Answers contents Is StoreFailed old new result
  no_memory : result ≡ status.OutOfMemory → new ≡ old → Answers contents Is StoreFailed old new result

-- the status that a refusal has
abbrev pub refusal_status : Refusal → Status
refusal_status refusal.LongSource = status.Source
refusal_status (refusal.SourceUtf8 at) = status.Source
refusal_status (refusal.BadSource kind place) = status.Source
refusal_status refusal.LongPolicy = status.Policy
refusal_status (refusal.BadPolicy line kind) = status.Policy
refusal_status (refusal.UnknownObserver name) = status.Policy
refusal_status (refusal.LongInput number) = status.Policy
refusal_status (refusal.BadInput number line kind) = status.Policy
refusal_status refusal.ReadFault = status.ReadFault
refusal_status refusal.OutOfMemory = status.OutOfMemory

-- How a refusal is put: as the reply to its fault; or as the report of a read fault; or not at all, for want of memory.
abbrev pub Refuses : Refusal → Status → Option (List ℕ) → Option (List ℕ) → Type 0
Refuses refusal.ReadFault result old new = Puts read_fault_reply result old new
Refuses refusal.OutOfMemory result old new = (result ≡ status.OutOfMemory) × (new ≡ old)
Refuses r result old new = IfSome (seen_refusal r) (λ fault. Puts (fault_reply fault) result old new)

-- the statuses of calls that were cut off
abbrev pub is_cut_status : Status → Bool
is_cut_status status.WriteFault = true
is_cut_status status.OutOfMemory = true
is_cut_status _ = false
