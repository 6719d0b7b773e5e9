-- A refusal that is put with its report.
use Rattle.std.proofs.Common.{◌≡◌, ℕ, List, false, Option, Some, refl, ap}
use Rattle.run_files.specs.declared.refusals.Refusal.{Refusal}
use Rattle.run_files.specs.declared.refusals.Refusal.TheVariants as refusal
use Rattle.run_files.specs.Seen.{refusal_report}
use Rattle.run_files.specs.Tasks.{script_fault, policy_fault, unknown_observer, input_fault, too_long, bad_line, fault_report, read_fault_report}
use Rattle.run_files.specs.Sources.{long_source, source_utf8, bad_source}
use Rattle.js_shell.specs.declared.status.Status.{Status}
use Rattle.js_shell.specs.declared.status.Status.TheVariants as status
use Rattle.js_shell.specs.Answering.{Puts, Refuses, refusal_status, read_fault_reply, is_cut_status}
use Rattle.js_shell.specs.Replies.{fault_status, fault_reply}
use Rattle.js_shell.proofs.PutLaws.{puts_nothing, puts_same}

-- nothing is put, for want of memory
pub refuses_nothing : (r : Refusal) (old : Option (List ℕ)) → Refuses r status.OutOfMemory old old
refuses_nothing refusal.LongSource old = puts_nothing (fault_reply (script_fault long_source)) old
refuses_nothing (refusal.SourceUtf8 at) old = puts_nothing (fault_reply (script_fault (source_utf8 at))) old
refuses_nothing (refusal.BadSource kind place) old = puts_nothing (fault_reply (script_fault (bad_source kind place))) old
refuses_nothing refusal.LongPolicy old = puts_nothing (fault_reply (policy_fault too_long)) old
refuses_nothing (refusal.BadPolicy line kind) old = puts_nothing (fault_reply (policy_fault (bad_line (record { line = line; kind = kind })))) old
refuses_nothing (refusal.UnknownObserver name) old = puts_nothing (fault_reply (unknown_observer name.now)) old
refuses_nothing (refusal.LongInput number) old = puts_nothing (fault_reply (input_fault number too_long)) old
refuses_nothing (refusal.BadInput number line kind) old = puts_nothing (fault_reply (input_fault number (bad_line (record { line = line; kind = kind })))) old
refuses_nothing refusal.ReadFault old = puts_nothing read_fault_reply old
refuses_nothing refusal.OutOfMemory old = (refl, refl)

-- a refusal with a report isn't for want of memory
pub refusal_uncut : (r : Refusal) (bytes : List ℕ) → refusal_report r ≡ Some bytes → is_cut_status (refusal_status r) ≡ false
refusal_uncut refusal.LongSource bytes e = refl
refusal_uncut (refusal.SourceUtf8 at) bytes e = refl
refusal_uncut (refusal.BadSource kind place) bytes e = refl
refusal_uncut refusal.LongPolicy bytes e = refl
refusal_uncut (refusal.BadPolicy line kind) bytes e = refl
refusal_uncut (refusal.UnknownObserver name) bytes e = refl
refusal_uncut (refusal.LongInput number) bytes e = refl
refusal_uncut (refusal.BadInput number line kind) bytes e = refl
refusal_uncut refusal.ReadFault bytes e = refl
refusal_uncut refusal.OutOfMemory bytes e = cc

module _ (bytes : List ℕ) (result : Status) (old new : Option (List ℕ)) where
  -- bytes that are those of a reply
  reported : (s : Status) (report : List ℕ) → Some report ≡ Some bytes → Puts (record { bytes = bytes; status = s }) result old new → Puts (record { bytes = report; status = s }) result old new
  reported s report e p = let same : bytes ≡ report = cc in puts_same (record { bytes = bytes; status = s }) (record { bytes = report; status = s }) result old new (ap (λ (b : List ℕ). record { bytes = b; status = s }) same) p

  pub refusal_put : (r : Refusal) → refusal_report r ≡ Some bytes → Puts (record { bytes = bytes; status = refusal_status r }) result old new → Refuses r result old new
  refusal_put refusal.LongSource e p = reported (fault_status (script_fault long_source)) (fault_report (script_fault long_source)) e p
  refusal_put (refusal.SourceUtf8 at) e p = reported (fault_status (script_fault (source_utf8 at))) (fault_report (script_fault (source_utf8 at))) e p
  refusal_put (refusal.BadSource kind place) e p = reported (fault_status (script_fault (bad_source kind place))) (fault_report (script_fault (bad_source kind place))) e p
  refusal_put refusal.LongPolicy e p = reported (fault_status (policy_fault too_long)) (fault_report (policy_fault too_long)) e p
  refusal_put (refusal.BadPolicy line kind) e p = reported (fault_status (policy_fault (bad_line (record { line = line; kind = kind })))) (fault_report (policy_fault (bad_line (record { line = line; kind = kind })))) e p
  refusal_put (refusal.UnknownObserver name) e p = reported (fault_status (unknown_observer name.now)) (fault_report (unknown_observer name.now)) e p
  refusal_put (refusal.LongInput number) e p = reported (fault_status (input_fault number too_long)) (fault_report (input_fault number too_long)) e p
  refusal_put (refusal.BadInput number line kind) e p = reported (fault_status (input_fault number (bad_line (record { line = line; kind = kind })))) (fault_report (input_fault number (bad_line (record { line = line; kind = kind })))) e p
  refusal_put refusal.ReadFault e p = reported status.ReadFault read_fault_report e p
  refusal_put refusal.OutOfMemory e p = cc
