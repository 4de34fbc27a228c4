-- The first session alone: an audit of it shows nothing, and has no record.
use Rattle.std.proofs.Common.{◌≡◌, ℕ, List, [], Some, refl, sym, ◌∙◌}
use Rattle.chacha_seal.specs.Keys.{KeyParts}
use Rattle.closure_laws.specs.History.{history, own_serial, published_from}
use Rattle.closure_laws.specs.Seen.{seen, sights_from, sights_in}
use Rattle.cry_base.specs.Store.{HolderEntry, holder_entry, no_store}
use Rattle.cry_base.specs.declared.client.Bundle.{Bundle}
use Rattle.log_visits.specs.Judging.{Failure}
use Rattle.log_visits.specs.Placing.{body_contents, body_links, log_contents, log_links}
use Rattle.role_graph.specs.Rights.Who.{TheOwner}
use Rattle.public_fold.specs.Journal.{entry_step, entry_store, nothing, stand_after, stand_then, steps_from, steps_of, store_of}
use Rattle.journal_bytes.specs.Bytes.{bodies_from, bodies_of, entry_body}
use Rattle.journal_bytes.specs.Folds.{log_of}
use Rattle.journal_bytes.specs.Opening.{reading_of}
use Rattle.reader_laws.proofs.Readable.{begun}
use Rattle.trail_audit.specs.Auditing.{RecordFault}
use Rattle.trail_audit.specs.Auditing.RecordFault.{WrongLink, WrongContent, WrongText}
use Rattle.trail_audit.specs.Derived.{audit_of}
use Rattle.audit_laws.specs.Audited.{audit_of_journal}

no_contents : (owner : List ℕ) (keys : List KeyParts) → audit_of keys (log_contents (log_of owner begun)) ≡ []
unfolding audit_of log_contents log_of bodies_of bodies_from entry_body body_contents
no_contents owner keys = refl

no_sights : audit_of_journal begun TheOwner ≡ []
unfolding audit_of_journal seen sights_from sights_in own_serial history published_from steps_of steps_from entry_step
no_sights = refl

pub begun_audit : (owner : List ℕ) (keys : List KeyParts) → audit_of keys (log_contents (log_of owner begun)) ≡ audit_of_journal begun TheOwner
begun_audit owner keys = no_contents owner keys ∙ sym no_sights

pub begun_faults : (owner : List ℕ) (bundle : Bundle) (failure : Failure) → RecordFault (reading_of owner begun) bundle failure → ⊥
unfolding log_links log_contents log_of bodies_of bodies_from entry_body body_links body_contents
begun_faults owner bundle failure (WrongLink l i source wrong) = i
begun_faults owner bundle failure (WrongContent c i seal wrong) = i
begun_faults owner bundle failure (WrongText c i seal tagged form) = i

-- and it knows no holder
pub begun_holder : (h : ℕ) (e : HolderEntry) → holder_entry (store_of begun) h ≡ Some e → ⊥
unfolding holder_entry store_of stand_after stand_then entry_store nothing no_store
begun_holder h e is = cc
