-- When a ring has the key of a record.
use Rattle.std.proofs.Common.{List, Option, Some, subst, ℕ, ◌≡◌}
use Rattle.key_links.specs.Opened.{IsAuthenticContent, IsAuthenticLink, target_of, text_of}
use Rattle.key_links.specs.Sealed.{sealed_content, sealed_link}
use Rattle.key_links.proofs.Ends.{one}
use Rattle.key_links.proofs.InPlace.{opened_content, opened_link}
use Rattle.chacha_seal.specs.Keys.{KeyParts}
use Rattle.record_format.specs.Plain.{PlainContent}
use Rattle.record_format.specs.declared.link.LinkRecord.{LinkRecord}

-- what was sealed under the key that the ring has is opened with it
pub link_opened : (o : Option KeyParts) (own from to : KeyParts) (nonce : ℕ) (r : LinkRecord) → o ≡ Some own → o ≡ Some from → r ≡ sealed_link r.kind from to nonce →
    IsAuthenticLink own r × (target_of own r ≡ to)
link_opened o own from to nonce r has has' is =
    let same : from ≡ own = one o from own has' has in
    subst (λ k. IsAuthenticLink k r × (target_of k r ≡ to)) same (opened_link r.kind from to nonce r is)

pub text_opened : (o : Option KeyParts) (own key : KeyParts) (nonce : ℕ) (text : List ℕ) (r : PlainContent) → o ≡ Some own → o ≡ Some key →
    r ≡ sealed_content r.kind key r.object nonce text → IsAuthenticContent own r × (text_of own r ≡ text)
text_opened o own key nonce text r has has' is =
    let same : key ≡ own = one o key own has' has in
    subst (λ k. IsAuthenticContent k r × (text_of k r ≡ text)) same (opened_content r.kind key r.object nonce text r is)
