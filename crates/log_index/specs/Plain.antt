-- The bytes of a checkpoint file. This project's own, docs/FORMAT.md, "The checkpoint".
use Rattle.std.specs.Prelude.{ℕ, List, [], ◌∷◌, ◌++◌, length}
use Rattle.hmac_seal.specs.Hmac.{hmac}
use Rattle.index_format.specs.Plain.{IndexBody}
use Rattle.index_format.specs.declared.head.IndexHead.{IndexHead}
use Rattle.index_format.specs.Spelling.{spell_body, spell_front}

-- the number of a batch, its owner tag, and what the log comes to behind it
pub record PlainCheckpoint : Type 0 where
  pub batch : ℕ
  pub tag : List ℕ
  pub body : IndexBody

-- the key of an owner's tags on such files
unfoldable pub index_tag_key : List ℕ → List ℕ
index_tag_key owner = hmac owner (6 ∷ [])

-- what stands before the body
abbrev pub head_of : PlainCheckpoint → IndexHead
head_of p = record { batch = p.batch; tag = p.tag; body_len = length (spell_body p.body) }

-- all that stands before the tag
abbrev pub front_of : PlainCheckpoint → List ℕ
front_of p = spell_front p.batch p.tag (spell_body p.body)

-- the file, and the tag at its end, under an owner's key
unfoldable pub spell_index : List ℕ → PlainCheckpoint → List ℕ
spell_index owner p = front_of p ++ hmac (index_tag_key owner) (front_of p)

-- the checkpoint of a head and a body
abbrev pub plain_of : IndexHead → IndexBody → PlainCheckpoint
plain_of h b = record { batch = h.batch; tag = h.tag; body = b }
