-- Records as who has the key of their source opens them. This project's own, docs/FORMAT.md, "Records".
use Rattle.std.specs.Prelude.{◌≡◌, ℕ, List}
use Rattle.chacha_seal.specs.Keys.{KeyParts}
use Rattle.chacha_seal.specs.Sealing.{sealed, seal_tag}
use Rattle.record_format.specs.declared.content.ContentRecord.{ContentRecord}
use Rattle.record_format.specs.declared.link.LinkRecord.{LinkRecord}
use Rattle.record_format.specs.Plain.{PlainContent}
use Rattle.record_format.specs.Spelling.{link_head, content_head}

-- the link has this kind, and leads on from this key
abbrev pub StartsAt : ℕ → KeyParts → LinkRecord → Type 0
StartsAt kind from r = (r.kind ≡ kind) × (r.from_id ≡ from.id) × (r.from_serial.0 ≡ from.serial)

-- the link's tag is the one that the key of its source makes
abbrev pub IsAuthenticLink : KeyParts → LinkRecord → Type 0
IsAuthenticLink from r = r.tag ≡ seal_tag from.bytes (link_head r) r.cipher

-- the key that the link leads to
abbrev pub target_of : KeyParts → LinkRecord → KeyParts
target_of from r = record { id = r.to_id; serial = r.to_serial.0; bytes = sealed from.bytes r.nonce r.cipher }

-- the content's tag is the one that its key makes
abbrev pub IsAuthenticContent : KeyParts → PlainContent → Type 0
IsAuthenticContent key r = r.tag ≡ seal_tag key.bytes (content_head r) r.cipher

-- the content's text, by its key
abbrev pub text_of : KeyParts → PlainContent → List ℕ
text_of key r = sealed key.bytes r.nonce r.cipher

-- the content with these bytes in the place of its own
abbrev pub with_text : ContentRecord → List ℕ → ContentRecord
with_text r text = record r { cipher = record { items = text; spare = r.cipher.spare } }
