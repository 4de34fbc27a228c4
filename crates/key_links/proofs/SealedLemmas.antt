-- What the crates above need to know of sealed records: their lengths, and that they open.
use Rattle.std.proofs.Common.{◌≡◌, ℕ, ◌+◌, ◌<◌, ◌≤◌, ◌^◌, List, length, subst, sym, arith}
use Rattle.std.proofs.lemmas.List.{length-append}
use Rattle.chacha_seal.specs.Keys.{KeyParts}
use Rattle.chacha_seal.specs.Sealing.{sealed}
use Rattle.chacha_seal.proofs.SealingLemmas.{length-sealed, length-seal_tag, sealed-sealed}
use Rattle.record_format.specs.Spellable.{IsLink, IsContent, shortest_text, longest_text}
use Rattle.record_format.specs.Spelling.{spell_link, spell_content}
use Rattle.record_format.proofs.Lengths.{length-link_head, length-content_head}
use Rattle.key_links.specs.Sealed.{sealed_link, sealed_content}

pub length-sealed_link : (kind : ℕ) (from to : KeyParts) (nonce : ℕ) → length to.bytes ≡ 32 → length (spell_link (sealed_link kind from to nonce)) ≡ 98
unfolding sealed_link spell_link
length-sealed_link kind from to nonce size =
    let cipher = length-sealed from.bytes nonce to.bytes in
    simp (length-append, length-link_head, length-seal_tag) (omega (arith, cipher))

pub length-sealed_content : (kind : ℕ) (key : KeyParts) (object nonce : ℕ) (text : List ℕ) → length (spell_content (sealed_content kind key object nonce text)) ≡ 58 + length text
unfolding sealed_content spell_content
length-sealed_content kind key object nonce text =
    let cipher = length-sealed key.bytes nonce text in
    simp (length-append, length-content_head, length-seal_tag) (omega (arith, cipher))

pub opens_link : (kind : ℕ) (from to : KeyParts) (nonce : ℕ) → sealed from.bytes nonce (sealed_link kind from to nonce).cipher ≡ to.bytes
unfolding sealed_link
opens_link kind from to nonce = sealed-sealed from.bytes nonce to.bytes

pub opens_content : (kind : ℕ) (key : KeyParts) (object nonce : ℕ) (text : List ℕ) → sealed key.bytes nonce (sealed_content kind key object nonce text).cipher ≡ text
unfolding sealed_content
opens_content kind key object nonce text = sealed-sealed key.bytes nonce text

pub link_spellable : (kind : ℕ) (from to : KeyParts) (nonce : ℕ) →
    1 ≤ kind → kind ≤ 11 → from.id < 2 ^ 32 → to.id < 2 ^ 32 → from.serial < 2 ^ 64 → to.serial < 2 ^ 64 → nonce < 2 ^ 64 →
    length to.bytes ≡ 32 → IsLink (sealed_link kind from to nonce)
unfolding sealed_link
link_spellable kind from to nonce low high from_id to_id from_serial to_serial number size =
    let cipher = length-sealed from.bytes nonce to.bytes in
    record {
      kind_from_one = low;
      kind_to_eleven = high;
      from_id = from_id;
      to_id = to_id;
      from_serial = from_serial;
      to_serial = to_serial;
      nonce = number;
      cipher = omega (arith, cipher);
      tag = length-seal_tag from.bytes _ _;
    }

pub content_spellable : (kind : ℕ) (key : KeyParts) (object nonce : ℕ) (text : List ℕ) →
    1 ≤ kind → kind ≤ 3 → object < 2 ^ 32 → key.serial < 2 ^ 64 → nonce < 2 ^ 64 →
    shortest_text kind ≤ length text → length text ≤ longest_text kind → IsContent (sealed_content kind key object nonce text)
unfolding sealed_content
content_spellable kind key object nonce text low high id serial number short long =
    let cipher = length-sealed key.bytes nonce text in
    record {
      kind_from_one = low;
      kind_to_three = high;
      object = id;
      key_serial = serial;
      nonce = number;
      text_from = subst (λ (n : ℕ). shortest_text kind ≤ n) (sym cipher) short;
      text_to = subst (λ (n : ℕ). n ≤ longest_text kind) (sym cipher) long;
      tag = length-seal_tag key.bytes _ _;
    }
