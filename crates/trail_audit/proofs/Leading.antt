-- Right keys by more links, and from one right key on.
use Rattle.std.proofs.Common.{◌≡◌, ℕ, List, ◌++◌, inl, refl, ap}
use Rattle.chacha_seal.specs.Keys.{KeyParts}
use Rattle.cry_base.proofs.Members.{In-append}
use Rattle.record_format.specs.declared.link.LinkRecord.{LinkRecord}
use Rattle.record_format.specs.Spelling.{link_head, content_head}
use Rattle.key_links.specs.Sealed.{sealed_link, sealed_content}
use Rattle.key_links.proofs.SealedLemmas.{opens_link}
use Rattle.trail_audit.specs.Records.{IsTagged}
use Rattle.trail_audit.specs.Records.PlainRecord.{AContent}
use Rattle.trail_audit.specs.Right.{IsRight, LeadsOn, target_of}
use Rattle.trail_audit.specs.Right.IsRight.{OfBundle, Behind}

pub right_more : (links more : List LinkRecord) (bundle : KeyParts) {key : KeyParts} → IsRight links bundle key → IsRight (links ++ more) bundle key
right_more links more bundle OfBundle = OfBundle
right_more links more bundle (Behind {key = key} l right there leads) =
    Behind {key = key} l (right_more links more bundle right) ((In-append LinkRecord l links more).1 (inl there)) leads

pub right_onward : (links : List LinkRecord) (bundle key : KeyParts) {further : KeyParts} → IsRight links bundle key → IsRight links key further → IsRight links bundle further
right_onward links bundle key right OfBundle = right
right_onward links bundle key right (Behind {key = last} l way there leads) = Behind {key = last} l (right_onward links bundle key right way) there leads

pub link_leads : (kind : ℕ) (from to : KeyParts) (nonce : ℕ) → LeadsOn from (sealed_link kind from to nonce)
unfolding sealed_link link_head
link_leads kind from to nonce = record { from_id = refl; from_serial = refl; tagged = refl }

with_bytes : (id serial : ℕ) (xs ys : List ℕ) → xs ≡ ys → (let a : KeyParts = record { id = id; serial = serial; bytes = xs } in a) ≡ record { id = id; serial = serial; bytes = ys }
with_bytes id serial xs ys same = ap (λ b. (let a : KeyParts = record { id = id; serial = serial; bytes = b } in a)) same

pub link_target : (kind : ℕ) (from to : KeyParts) (nonce : ℕ) → target_of from (sealed_link kind from to nonce) ≡ to
unfolding sealed_link
link_target kind from to nonce = with_bytes to.id to.serial _ to.bytes (opens_link kind from to nonce)

pub content_tagged : (kind : ℕ) (key : KeyParts) (object nonce : ℕ) (text : List ℕ) → IsTagged key.bytes (AContent (sealed_content kind key object nonce text))
unfolding sealed_content content_head
content_tagged kind key object nonce text = refl
