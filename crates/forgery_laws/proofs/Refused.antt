-- A record that was changed while its tag stayed is refused, or has the same tag all the same.
use Rattle.std.proofs.Common.{◌≡◌, inl, inr, ℕ, Bool, true, false, cond, List, Ok, Err, refl, sym, ◌∙◌}
use Rattle.std.specs.Prelude.{◌⊎◌}
use Rattle.std.specs.Str.{bytes_eq}
use Rattle.std.proofs.lemmas.Slice.Eq.{bytes_eq-Decides}
use Rattle.chacha_seal.specs.Sealing.{seal_tag, sealed}
use Rattle.commit_journal.specs.Answering.{Fault, Tampered}
use Rattle.log_visits.specs.Verdict.{open_content, open_link}
use Rattle.record_format.specs.Plain.{PlainContent}
use Rattle.record_format.specs.Spelling.{content_head, link_head}
use Rattle.record_format.specs.declared.link.LinkRecord.{LinkRecord}

-- the test fails, or what it compares is the same
refused_or : (tag due old : List ℕ) (text : List ℕ) (fault : Fault) → tag ≡ old → (test : Bool) → bytes_eq tag due ≡ test → (cond test (Ok text) (Err fault) ≡ Err fault) ⊎ (due ≡ old)
refused_or tag due old text fault stayed true t = inr (sym ((bytes_eq-Decides tag due).0 t) ∙ stayed)
refused_or tag due old text fault stayed false t = inl refl

pub link_refused : (batch at : ℕ) (key : List ℕ) (old new : LinkRecord) → old.tag ≡ seal_tag key (link_head old) old.cipher → new.tag ≡ old.tag
    → (open_link batch at key new ≡ Err (Tampered batch at)) ⊎ (seal_tag key (link_head new) new.cipher ≡ seal_tag key (link_head old) old.cipher)
unfolding open_link
link_refused batch at key old new right stayed =
    let due = seal_tag key (link_head new) new.cipher in
    refused_or new.tag due (seal_tag key (link_head old) old.cipher) (sealed key new.nonce new.cipher) (Tampered batch at) (stayed ∙ right) (bytes_eq new.tag due) refl

pub content_refused : (batch at : ℕ) (key : List ℕ) (old new : PlainContent) → old.tag ≡ seal_tag key (content_head old) old.cipher → new.tag ≡ old.tag
    → (open_content batch at key new ≡ Err (Tampered batch at)) ⊎ (seal_tag key (content_head new) new.cipher ≡ seal_tag key (content_head old) old.cipher)
unfolding open_content
content_refused batch at key old new right stayed =
    let due = seal_tag key (content_head new) new.cipher in
    refused_or new.tag due (seal_tag key (content_head old) old.cipher) (sealed key new.nonce new.cipher) (Tampered batch at) (stayed ∙ right) (bytes_eq new.tag due) refl
