-- What a record opens to under a key, if its tag is right. This project's own, docs/FORMAT.md, "Reading".
use Rattle.std.specs.Prelude.{ℕ, if◌then◌else◌, List, Result, Ok, Err}
use Rattle.std.specs.Str.{bytes_eq}
use Rattle.chacha_seal.specs.Sealing.{sealed, seal_tag}
use Rattle.record_format.specs.declared.link.LinkRecord.{LinkRecord}
use Rattle.record_format.specs.Plain.{PlainContent}
use Rattle.record_format.specs.Spelling.{link_head, content_head}
use Rattle.commit_journal.specs.Answering.{Fault, Tampered}

-- the key that a link leads to under the key of its source, if its tag is right
unfoldable pub open_link : ℕ → ℕ → List ℕ → LinkRecord → Result (List ℕ) Fault
open_link batch at key r =
    if bytes_eq r.tag (seal_tag key (link_head r) r.cipher) then Ok (sealed key r.nonce r.cipher) else Err (Tampered batch at)

-- the text of a content under its key, if its tag is right
unfoldable pub open_content : ℕ → ℕ → List ℕ → PlainContent → Result (List ℕ) Fault
open_content batch at key r =
    if bytes_eq r.tag (seal_tag key (content_head r) r.cipher) then Ok (sealed key r.nonce r.cipher) else Err (Tampered batch at)
