-- The right keys of a valid journal's log are exactly those that its history derives, with the bytes that were drawn for them.
use Rattle.std.proofs.Common.{◌≡◌, ◌↔◌, ℕ, List, refl, sym, ap, subst, ◌∙◌}
use Rattle.chacha_seal.specs.Keys.{KeyParts}
use Rattle.closure_laws.specs.History.{Derives, history, trails}
use Rattle.cry_base.specs.Sets.{In, Path}
use Rattle.cry_base.specs.Sets.Path.{Here, On}
use Rattle.cry_base.proofs.Members.{In-map}
use Rattle.log_visits.specs.Placing.{PlacedLink, log_links}
use Rattle.key_links.specs.Sealed.{sealed_link}
use Rattle.record_format.specs.declared.link.LinkRecord.{LinkRecord}
use Rattle.role_graph.specs.Roles.{role_id}
use Rattle.public_fold.specs.Journal.{Journal}
use Rattle.public_fold.specs.Valid.{IsValid}
use Rattle.journal_bytes.specs.Bytes.{link_record}
use Rattle.journal_bytes.specs.Folds.{log_of}
use Rattle.journal_bytes.specs.Keys.{AreWhole, all_keys, bytes_in, key_bytes}
use Rattle.trail_audit.specs.Records.{ALink, IsTagged}
use Rattle.trail_audit.specs.Right.{IsRight, LeadsOn, target_of}
use Rattle.trail_audit.specs.Right.IsRight.{OfBundle, Behind}
use Rattle.trail_audit.specs.Trails.{AreRightKeys, records_of_links}
use Rattle.trail_audit.proofs.Derivable.{derived_alone, journal_serials}
use Rattle.trail_audit.proofs.Leading.{link_leads, link_target}
use Rattle.audit_laws.proofs.Keyed.{journal_apart, own_bytes}
use Rattle.audit_laws.proofs.Recorded.{IsKeyedLink, journal_logged}

-- a link from one of the keys to one of them
pub record IsOwnLink (keys : List KeyParts) (l : LinkRecord) : Type 0 where
  pub from : KeyParts
  pub to : KeyParts
  pub has_from : In from keys
  pub has_to : In to keys
  pub kind : ℕ
  pub nonce : ℕ
  pub is_sealed : l ≡ sealed_link kind from to nonce

-- a key by its parts
pub key_as : (key : KeyParts) (id serial : ℕ) (bytes : List ℕ) → key.id ≡ id → key.serial ≡ serial → bytes ≡ key.bytes → (let k : KeyParts = record { id = id; serial = serial; bytes = bytes } in k) ≡ key
key_as key id serial bytes same_id same_serial same_bytes = λ i. record { id = sym same_id i; serial = sym same_serial i; bytes = same_bytes i }

begins_at : (kind : ℕ) (from to : KeyParts) (nonce : ℕ) → ((sealed_link kind from to nonce).from_serial.0 ≡ from.serial) × ((sealed_link kind from to nonce).to_serial.0 ≡ to.serial)
unfolding sealed_link
begins_at kind from to nonce = (refl, refl)

-- what was sealed leads on from a key that is its source
leads_from : (key : KeyParts) (l : LinkRecord) (kind : ℕ) (from to : KeyParts) (nonce : ℕ) → l ≡ sealed_link kind from to nonce → from ≡ key → LeadsOn key l × (target_of key l ≡ to)
leads_from key l kind from to nonce is same =
    let sealed : sealed_link kind key to nonce ≡ l = ap (λ k. sealed_link kind k to nonce) (sym same) ∙ sym is in (
      subst (LeadsOn key) sealed (link_leads kind key to nonce),
      ap (target_of key) (sym sealed) ∙ link_target kind key to nonce,
    )

module _ (owner : List ℕ) (m : Journal) (valid : IsValid m) (whole : AreWhole owner m) where
  abbrev all : List KeyParts
  all = all_keys owner m

  abbrev links : List LinkRecord
  links = records_of_links (log_links (log_of owner m))

  own_link : (l : LinkRecord) → IsKeyedLink all l → IsOwnLink all l
  unfolding link_record
  own_link l is =
      let k = is.link in
      let from = is.from in
      let to = is.to in
      let from_bytes : bytes_in all k.from_serial ≡ from.key.bytes = ap (bytes_in all) (sym from.serial) ∙ own_bytes owner m valid from.key from.there in
      let to_bytes : bytes_in all k.to_serial ≡ to.key.bytes = ap (bytes_in all) (sym to.serial) ∙ own_bytes owner m valid to.key to.there in record {
        from = from.key;
        to = to.key;
        has_from = from.there;
        has_to = to.there;
        kind = k.edge.kind;
        nonce = k.nonce;
        is_sealed = is.is_sealed
            ∙ (λ i. sealed_link k.edge.kind
            (key_as from.key (role_id k.edge.from) k.from_serial (bytes_in all k.from_serial) from.id from.serial from_bytes i)
            (key_as to.key (role_id k.edge.to) k.to_serial (bytes_in all k.to_serial) to.id to.serial to_bytes i)
            k.nonce);
      }

  pub each_link : (p : PlacedLink) → In p (log_links (log_of owner m)) → IsOwnLink all p.link
  each_link p i = own_link p.link ((journal_logged owner m valid whole).links p i)

  -- a link that begins at a key that there is
  pub source_is : (key : KeyParts) (l : LinkRecord) (own : IsOwnLink all l) → In key all → l.from_serial.0 ≡ key.serial → own.from ≡ key
  source_is key l own there begins =
      journal_apart owner m valid own.from key own.has_from there
      (sym (begins_at own.kind own.from own.to own.nonce).0 ∙ sym (ap (λ (r : LinkRecord). r.from_serial.0) own.is_sealed) ∙ begins)

  pub right_there : (own : KeyParts) → In own all → {key : KeyParts} → IsRight links own key → In key all
  right_there own there OfBundle = there
  right_there own there (Behind {key = key} l right i leads) =
      let w = (In-map PlacedLink LinkRecord (λ (p : PlacedLink). p.link) l (log_links (log_of owner m))).0 i in
      let link = subst (IsOwnLink all) (sym w.2) (each_link w.0 w.1) in
      let same = source_is key l link (right_there own there right) leads.from_serial in
      subst (λ (k : KeyParts). In k all) (sym (leads_from key l link.kind link.from link.to link.nonce link.is_sealed same).1) link.has_to

  pub derived_right : (own : KeyParts) → In own all → {n : ℕ} → Path (trails (history m)) own.serial n → (key : KeyParts) × In key all × (key.serial ≡ n) × IsRight links own key
  derived_right own there Here = (own, there, refl, OfBundle)
  derived_right own there (On {b = b} {c = c} way step) =
      let before = derived_right own there way in
      let key = before.0 in
      let logged = log_links (log_of owner m) in
      let i = subst (λ (pairs : List (ℕ × ℕ)). In {X = ℕ × ℕ} (b, c) pairs) (sym (journal_serials owner m)) step in
      let w = (In-map PlacedLink (ℕ × ℕ) (λ (p : PlacedLink). (p.link.from_serial.0, p.link.to_serial.0)) (b, c) logged).0 i in
      let p = w.0 in
      let link = each_link p w.1 in
      let same = source_is key p.link link before.1 (ap (λ (x : ℕ × ℕ). x.0) (sym w.2) ∙ sym before.2) in
      let leads = leads_from key p.link link.kind link.from link.to link.nonce link.is_sealed same in
      let there_too : In p.link links = (In-map PlacedLink LinkRecord (λ (q : PlacedLink). q.link) p.link logged).1 (p, w.1, refl) in (
        link.to,
        link.has_to,
        sym (begins_at link.kind link.from link.to link.nonce).1 ∙ sym (ap (λ (r : LinkRecord). r.to_serial.0) link.is_sealed) ∙ ap (λ (x : ℕ × ℕ). x.1) (sym w.2),
        subst (IsRight links own) leads.1 (Behind {key = key} p.link before.3 there_too leads.0),
      )

  -- the right keys are those of the journal that its history derives
  pub right_or_derived : (own : KeyParts) → In own all → (key : KeyParts) → IsRight links own key ↔ (In key all × Derives (history m) own.serial key.serial)
  unfolding key_bytes
  right_or_derived own there key = (
    λ right. (right_there own there right, (derived_alone owner m valid whole own (sym (own_bytes owner m valid own there)) right).0),
    λ w. let found = derived_right own there w.1 in
        subst (IsRight links own) (journal_apart owner m valid found.0 key found.1 w.0 found.2) found.3,
  )

  pub keys_are : (own : KeyParts) (keys : List KeyParts) → In own all → AreRightKeys (log_links (log_of owner m)) own keys → (key : KeyParts) → In key keys ↔ (In key all × Derives (history m) own.serial key.serial)
  keys_are own keys there right key = (
    λ i. (right_or_derived own there key).0 ((right.right key).0 i),
    λ w. (right.right key).1 ((right_or_derived own there key).1 w),
  )

  -- each link that begins at a key of the journal has the right tag under it
  pub link_tagged : (key : KeyParts) (p : PlacedLink) → In p (log_links (log_of owner m)) → In key all → p.link.from_serial.0 ≡ key.serial → IsTagged key.bytes (ALink p.link)
  link_tagged key p i there begins =
      let link = each_link p i in
      (leads_from key p.link link.kind link.from link.to link.nonce link.is_sealed (source_is key p.link link there begins)).0.tagged
