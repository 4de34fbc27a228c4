-- Records that are opened as the definition says.
use Rattle.std.proofs.Common.{◌≡◌, ℕ, true, List, Ok, refl, ap}
use Rattle.std.specs.Str.{bytes_eq}
use Rattle.std.proofs.lemmas.Slice.Eq.{bytes_eq-Decides}
use Rattle.chacha_seal.specs.Sealing.{seal_tag}
use Rattle.chacha_seal.proofs.SealingLemmas.{sealed-sealed}
use Rattle.record_format.specs.Spelling.{link_head, content_head}
use Rattle.chacha_seal.specs.Keys.{KeyParts}
use Rattle.key_links.specs.Sealed.{sealed_link, sealed_content}
use Rattle.log_visits.specs.Verdict.{open_link, open_content}

-- ---- what was sealed is opened

pub opens_link : (batch at kind : ℕ) (from to : KeyParts) (nonce : ℕ) → open_link batch at from.bytes (sealed_link kind from to nonce) ≡ Ok to.bytes
unfolding open_link sealed_link link_head
opens_link batch at kind from to nonce =
    let r = sealed_link kind from to nonce in
    let test : bytes_eq r.tag (seal_tag from.bytes (link_head r) r.cipher) ≡ true = (bytes_eq-Decides r.tag (seal_tag from.bytes (link_head r) r.cipher)).1 refl in
    rw test (ap Ok (sealed-sealed from.bytes nonce to.bytes))

pub opens_content : (batch at kind : ℕ) (key : KeyParts) (object nonce : ℕ) (text : List ℕ) →
    open_content batch at key.bytes (sealed_content kind key object nonce text) ≡ Ok text
unfolding open_content sealed_content content_head
opens_content batch at kind key object nonce text =
    let r = sealed_content kind key object nonce text in
    let test : bytes_eq r.tag (seal_tag key.bytes (content_head r) r.cipher) ≡ true = (bytes_eq-Decides r.tag (seal_tag key.bytes (content_head r) r.cipher)).1 refl in
    rw test (ap Ok (sealed-sealed key.bytes nonce text))
