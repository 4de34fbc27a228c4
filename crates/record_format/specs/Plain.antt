-- Records without the room that their lists have beside their items.
use Rattle.std.specs.Prelude.{ℕ, List, map}
use Rattle.cry_base.specs.declared.ids.Serial.{Serial}
use Rattle.record_format.specs.declared.content.ContentRecord.{ContentRecord}
use Rattle.record_format.specs.declared.link.LinkRecord.{LinkRecord}
use Rattle.record_format.specs.declared.note.Note.{Note}
use Rattle.record_format.specs.declared.payload.Payload.{Payload}

-- a sealed text, with its cipher bytes as a list
pub record PlainContent : Type 0 where
  pub kind : ℕ
  pub object : ℕ
  pub key_serial : Serial
  pub nonce : ℕ
  pub cipher : List ℕ
  pub tag : List ℕ

abbrev pub plain_content : ContentRecord → PlainContent
plain_content r = record {
  kind = r.kind;
  object = r.object;
  key_serial = r.key_serial;
  nonce = r.nonce;
  cipher = r.cipher.items;
  tag = r.tag;
}

-- a note with its records in order
pub record PlainPayload : Type 0 where
  pub note : Note
  pub links : List LinkRecord
  pub contents : List PlainContent

abbrev pub plain_payload : Payload → PlainPayload
plain_payload p = record { note = p.note; links = p.links.items; contents = map plain_content p.contents.items }
