-- Keys and texts sealed under keys. This project's own, docs/FORMAT.md, "Records".
use Rattle.std.specs.Prelude.{ℕ, List, []}
use Rattle.chacha_seal.specs.Keys.{KeyParts}
use Rattle.chacha_seal.specs.Sealing.{sealed, seal_tag}
use Rattle.record_format.specs.declared.link.LinkRecord.{LinkRecord}
use Rattle.record_format.specs.Plain.{PlainContent}
use Rattle.record_format.specs.Spelling.{link_head, content_head}

-- a link with these cipher bytes, before its tag
abbrev pub untagged_link : ℕ → KeyParts → KeyParts → ℕ → List ℕ → LinkRecord
untagged_link kind from to nonce cipher = record {
  kind = kind;
  from_id = from.id;
  to_id = to.id;
  from_serial = record { 0 = from.serial };
  to_serial = record { 0 = to.serial };
  nonce = nonce;
  cipher = cipher;
  tag = [];
}

-- the key of the target, sealed under the key of the source
unfoldable pub sealed_link : ℕ → KeyParts → KeyParts → ℕ → LinkRecord
sealed_link kind from to nonce =
    let cipher = sealed from.bytes nonce to.bytes in
    let bare = untagged_link kind from to nonce cipher in
    record bare { tag = seal_tag from.bytes (link_head bare) cipher }

-- a content with these cipher bytes, before its tag
abbrev pub untagged_content : ℕ → KeyParts → ℕ → ℕ → List ℕ → PlainContent
untagged_content kind key object nonce cipher = record {
  kind = kind;
  object = object;
  key_serial = record { 0 = key.serial };
  nonce = nonce;
  cipher = cipher;
  tag = [];
}

-- a text of an object, sealed under a key
unfoldable pub sealed_content : ℕ → KeyParts → ℕ → ℕ → List ℕ → PlainContent
sealed_content kind key object nonce text =
    let cipher = sealed key.bytes nonce text in
    let bare = untagged_content kind key object nonce cipher in
    record bare { tag = seal_tag key.bytes (content_head bare) cipher }
