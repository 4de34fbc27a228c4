-- The records that a journal published: each has the form of its kind, and its key opens it to what the history says.
use Rattle.std.proofs.Common.{◌≡◌, ⊎_elim, inl, inr, ℕ, ◌+◌, List, [], ◌∷◌, length, map, refl, sym, ap, subst, ◌∙◌}
use Rattle.std.specs.Prelude.{All}
use Rattle.std.proofs.lemmas.List.Elements.{All-head, All-tail}
use Rattle.chacha_seal.specs.Keys.{KeyParts}
use Rattle.chacha_seal.specs.Sealing.{sealed}
use Rattle.commit_journal.specs.Laws.{AreBodies, batch_of, placed_from}
use Rattle.commit_journal.specs.Placed.{PlainBody, Commands, NewEpoch, PlainPlaced}
use Rattle.commit_journal.specs.Places.{content_offset, link_offset}
use Rattle.cry_base.specs.Layout.{batch_len, header_len}
use Rattle.cry_base.specs.Sets.{In}
use Rattle.cry_base.proofs.Members.{In-append, In-flat_map, In-map}
use Rattle.log_visits.specs.Placing.{PlacedContent, PlacedLink, body_contents, body_links, contents_at, links_at, log_contents, log_links}
use Rattle.journal_bytes.specs.Bytes.{bodies_of, content_record, link_record}
use Rattle.journal_bytes.specs.Folds.{log_of}
use Rattle.journal_bytes.specs.Keys.{AreWhole, all_keys, bytes_in, key_bytes}
use Rattle.journal_bytes.proofs.Ascending.{drawn_found}
use Rattle.journal_bytes.proofs.Counted.{HasSerial}
use Rattle.journal_bytes.proofs.LogsWalked.{journal_walked}
use Rattle.journal_bytes.proofs.Spelled.{journal_spelled}
use Rattle.key_links.specs.Sealed.{sealed_content, sealed_link}
use Rattle.key_links.proofs.SealedLemmas.{opens_content, opens_link}
use Rattle.public_fold.specs.Journal.{Journal}
use Rattle.public_fold.specs.Records.{Content, Link, sealing_role, text_of}
use Rattle.public_fold.specs.Valid.{IsValid}
use Rattle.public_fold.proofs.AllFit.{journal_all_fit}
use Rattle.record_format.specs.Plain.{PlainContent, PlainPayload}
use Rattle.record_format.specs.Sizes.{content_size}
use Rattle.record_format.specs.Spellable.{IsContent, IsLink, IsSpellable}
use Rattle.record_format.specs.declared.link.LinkRecord.{LinkRecord}
use Rattle.role_graph.specs.Roles.{role_id}
use Rattle.trail_audit.specs.Forged.{body_records, records_of}
use Rattle.trail_audit.specs.Records.{ALink, AContent, PlainRecord, payload_records}
use Rattle.trail_audit.proofs.Disclosed.{journal_content}
use Rattle.forgery_laws.specs.Written.{WasPublished}

-- ---- records of payloads

same_link : (a b : LinkRecord) → ALink a ≡ ALink b → a ≡ b
same_link a b e = cc

same_content : (a b : PlainContent) → AContent a ≡ AContent b → a ≡ b
same_content a b e = cc

no_link : (l : LinkRecord) (c : PlainContent) → ALink l ≡ AContent c → ⊥
no_link l c e = absurd cc

pub link_in : (p : PlainPayload) (l : LinkRecord) → In (ALink l) (payload_records p) → In l p.links
unfolding payload_records
link_in p l i = ⊎_elim
    (λ a. let w = (In-map LinkRecord PlainRecord ALink (ALink l) p.links).0 a in subst (λ z. In z p.links) (sym (same_link l w.0 w.2)) w.1)
    (λ b. let w = (In-map PlainContent PlainRecord AContent (ALink l) p.contents).0 b in absurd (no_link l w.0 w.2))
    ((In-append PlainRecord (ALink l) (map ALink p.links) (map AContent p.contents)).0 i)

pub content_in : (p : PlainPayload) (c : PlainContent) → In (AContent c) (payload_records p) → In c p.contents
unfolding payload_records
content_in p c i = ⊎_elim
    (λ a. let w = (In-map LinkRecord PlainRecord ALink (AContent c) p.links).0 a in absurd (no_link w.0 c (sym w.2)))
    (λ b. let w = (In-map PlainContent PlainRecord AContent (AContent c) p.contents).0 b in subst (λ z. In z p.contents) (sym (same_content c w.0 w.2)) w.1)
    ((In-append PlainRecord (AContent c) (map ALink p.links) (map AContent p.contents)).0 i)

pub in_links : (p : PlainPayload) (l : LinkRecord) → In l p.links → In (ALink l) (payload_records p)
unfolding payload_records
in_links p l i = (In-append PlainRecord (ALink l) (map ALink p.links) (map AContent p.contents)).1 (inl ((In-map LinkRecord PlainRecord ALink (ALink l) p.links).1 (l, i, refl)))

pub in_contents : (p : PlainPayload) (c : PlainContent) → In c p.contents → In (AContent c) (payload_records p)
unfolding payload_records
in_contents p c i = (In-append PlainRecord (AContent c) (map ALink p.links) (map AContent p.contents)).1 (inr ((In-map PlainContent PlainRecord AContent (AContent c) p.contents).1 (c, i, refl)))

pub All-In : (X : Type 0) (P : X → Type 0) (xs : List X) (x : X) → All P xs → In x xs → P x
All-In X P [] x all i = absurd i
All-In X P (y ∷ ys) x all i = ⊎_elim (λ (e : x ≡ y). subst P (sym e) (All-head P y ys all)) (λ u. All-In X P ys x (All-tail P y ys all) u) i

-- ---- payloads of bodies

same_payload : (a b : PlainPayload) → Commands a ≡ Commands b → a ≡ b
same_payload a b e = cc

no_payload : (a : PlainPayload) → Commands a ≡ NewEpoch → ⊥
no_payload a e = absurd cc

spelled_body : (epoch : ℕ) (bodies : List PlainBody) (payload : PlainPayload) → AreBodies epoch bodies → In (Commands payload) bodies → IsSpellable payload
spelled_body epoch [] payload are i = absurd i
spelled_body epoch (Commands p ∷ bodies) payload are i = ⊎_elim
    (λ (e : Commands payload ≡ Commands p). subst IsSpellable (sym (same_payload payload p e)) are.1)
    (λ u. spelled_body epoch bodies payload are.2 u) i
spelled_body epoch (NewEpoch ∷ bodies) payload are i = ⊎_elim
    (λ (e : Commands payload ≡ NewEpoch). absurd (no_payload payload e))
    (λ u. spelled_body (epoch + 1) bodies payload are u) i

placed_link : (batch at : ℕ) (ls : List LinkRecord) (l : LinkRecord) → In l ls → (p : PlacedLink) × In p (links_at batch at ls) × (p.link ≡ l)
unfolding links_at
placed_link batch at [] l i = absurd i
placed_link batch at (k ∷ ls) l i = ⊎_elim
    (λ (e : l ≡ k). (record { batch = batch; at = at; link = k }, inl refl, sym e))
    (λ u. let w = placed_link batch (at + 98) ls l u in (w.0, inr w.1, w.2)) i

placed_content : (batch at : ℕ) (cs : List PlainContent) (c : PlainContent) → In c cs → (p : PlacedContent) × In p (contents_at batch at cs) × (p.content ≡ c)
unfolding contents_at
placed_content batch at [] c i = absurd i
placed_content batch at (d ∷ cs) c i = ⊎_elim
    (λ (e : c ≡ d). (record { batch = batch; at = at; content = d }, inl refl, sym e))
    (λ u. let w = placed_content batch (at + content_size d) cs c u in (w.0, inr w.1, w.2)) i

-- a body of a log, placed
body_placed : (place number epoch : ℕ) (bodies : List PlainBody) (body : PlainBody) → In body bodies → (p : PlainPlaced) × In p (placed_from place number epoch bodies) × (p.body ≡ body)
body_placed place number epoch [] body i = absurd i
body_placed place number epoch (b ∷ bodies) body i =
    let batch = batch_of number epoch b in
    ⊎_elim
    (λ (e : body ≡ b). (record { batch = batch.number; epoch = record { 0 = batch.epoch }; place = place + 45; body = b }, inl refl, sym e))
    (λ u. let w = body_placed (place + (batch_len + length batch.payload)) batch.number batch.epoch bodies body u in (w.0, inr w.1, w.2)) i

link_of_body : (batch place : ℕ) (body : PlainBody) (payload : PlainPayload) (l : LinkRecord) → body ≡ Commands payload → In l payload.links → (q : PlacedLink) × In q (body_links batch place body) × (q.link ≡ l)
unfolding body_links
link_of_body batch place NewEpoch payload l e i = absurd (no_payload payload (sym e))
link_of_body batch place (Commands p) payload l e i = placed_link batch (place + link_offset p 0) p.links l (subst (λ (z : PlainPayload). In l z.links) (sym (same_payload p payload e)) i)

content_of_body : (batch place : ℕ) (body : PlainBody) (payload : PlainPayload) (c : PlainContent) → body ≡ Commands payload → In c payload.contents → (q : PlacedContent) × In q (body_contents batch place body) × (q.content ≡ c)
unfolding body_contents
content_of_body batch place NewEpoch payload c e i = absurd (no_payload payload (sym e))
content_of_body batch place (Commands p) payload c e i = placed_content batch (place + content_offset p 0) p.contents c (subst (λ (z : PlainPayload). In c z.contents) (sym (same_payload p payload e)) i)

pub log_link : (log : List PlainPlaced) (p : PlainPlaced) (payload : PlainPayload) (l : LinkRecord) → In p log → p.body ≡ Commands payload → In l payload.links → (q : PlacedLink) × In q (log_links log) × (q.link ≡ l)
unfolding log_links
log_link log p payload l i is j =
    let w = link_of_body p.batch p.place p.body payload l is j in
    (w.0, (In-flat_map PlainPlaced PlacedLink (λ z. body_links z.batch z.place z.body) w.0 log).1 (p, i, w.1), w.2)

pub log_content : (log : List PlainPlaced) (p : PlainPlaced) (payload : PlainPayload) (c : PlainContent) → In p log → p.body ≡ Commands payload → In c payload.contents → (q : PlacedContent) × In q (log_contents log) × (q.content ≡ c)
unfolding log_contents
log_content log p payload c i is j =
    let w = content_of_body p.batch p.place p.body payload c is j in
    (w.0, (In-flat_map PlainPlaced PlacedContent (λ z. body_contents z.batch z.place z.body) w.0 log).1 (p, i, w.1), w.2)

-- ---- and back: a record of a log is one of a payload of it

links_back : (batch at : ℕ) (ls : List LinkRecord) (q : PlacedLink) → In q (links_at batch at ls) → In q.link ls
unfolding links_at
links_back batch at [] q i = absurd i
links_back batch at (k ∷ ls) q i = ⊎_elim
    (λ (e : q ≡ record { batch = batch; at = at; link = k }). inl (ap (λ (z : PlacedLink). z.link) e))
    (λ u. inr (links_back batch (at + 98) ls q u)) i

contents_back : (batch at : ℕ) (cs : List PlainContent) (q : PlacedContent) → In q (contents_at batch at cs) → In q.content cs
unfolding contents_at
contents_back batch at [] q i = absurd i
contents_back batch at (d ∷ cs) q i = ⊎_elim
    (λ (e : q ≡ record { batch = batch; at = at; content = d }). inl (ap (λ (z : PlacedContent). z.content) e))
    (λ u. inr (contents_back batch (at + content_size d) cs q u)) i

abbrev pub HasLink : List PlainPlaced → LinkRecord → Type 0
HasLink log l = (p : PlainPlaced) × In p log × ((payload : PlainPayload) × (p.body ≡ Commands payload) × In l payload.links)

abbrev pub HasContent : List PlainPlaced → PlainContent → Type 0
HasContent log c = (p : PlainPlaced) × In p log × ((payload : PlainPayload) × (p.body ≡ Commands payload) × In c payload.contents)

body_link : (batch place : ℕ) (body : PlainBody) (q : PlacedLink) → In q (body_links batch place body) → (payload : PlainPayload) × (body ≡ Commands payload) × In q.link payload.links
unfolding body_links
body_link batch place (Commands p) q i = (p, refl, links_back batch _ p.links q i)
body_link batch place NewEpoch q i = absurd i

body_content : (batch place : ℕ) (body : PlainBody) (q : PlacedContent) → In q (body_contents batch place body) → (payload : PlainPayload) × (body ≡ Commands payload) × In q.content payload.contents
unfolding body_contents
body_content batch place (Commands p) q i = (p, refl, contents_back batch _ p.contents q i)
body_content batch place NewEpoch q i = absurd i

pub link_payload : (log : List PlainPlaced) (q : PlacedLink) → In q (log_links log) → HasLink log q.link
unfolding log_links
link_payload log q i =
    let w = (In-flat_map PlainPlaced PlacedLink (λ z. body_links z.batch z.place z.body) q log).0 i in
    (w.0, w.1, body_link w.0.batch w.0.place w.0.body q w.2)

pub content_payload : (log : List PlainPlaced) (q : PlacedContent) → In q (log_contents log) → HasContent log q.content
unfolding log_contents
content_payload log q i =
    let w = (In-flat_map PlainPlaced PlacedContent (λ z. body_contents z.batch z.place z.body) q log).0 i in
    (w.0, w.1, body_content w.0.batch w.0.place w.0.body q w.2)

-- ---- records of the journal

module _ (owner : List ℕ) (m : Journal) (valid : IsValid m) (whole : AreWhole owner m) where
  abbrev keys : List KeyParts
  keys = all_keys owner m

  in_body : (r : PlainRecord) (body : PlainBody) → In r (body_records body) → (payload : PlainPayload) × (body ≡ Commands payload) × In r (payload_records payload)
  unfolding body_records
  in_body r (Commands payload) i = (payload, refl, i)
  in_body r NewEpoch i = absurd i

  -- the payload of a body that has the record
  own_payload : (r : PlainRecord) → In r (records_of owner m) → (payload : PlainPayload) × In (Commands payload) (bodies_of owner m) × In r (payload_records payload)
  unfolding records_of
  own_payload r i =
      let w = (In-flat_map PlainBody PlainRecord body_records r (bodies_of owner m)).0 i in
      let v = in_body r w.0 w.2 in
      (v.0, subst (λ b. In b (bodies_of owner m)) v.1 w.1, v.2)

  own_form : (payload : PlainPayload) → In (Commands payload) (bodies_of owner m) → IsSpellable payload
  own_form payload i = spelled_body 0 (bodies_of owner m) payload (journal_spelled owner m valid whole) i

  -- what a link of the journal holds for who has the bytes of its key
  pub record IsOwnLink (l : LinkRecord) : Type 0 where
    pub form : IsLink l
    pub target : KeyParts
    pub there : In target keys
    pub opens : sealed (bytes_in keys l.from_serial.0) l.nonce l.cipher ≡ target.bytes

  opened : (l : LinkRecord) (link : Link) → l ≡ link_record keys link → sealed (bytes_in keys l.from_serial.0) l.nonce l.cipher ≡ bytes_in keys link.to_serial
  unfolding link_record sealed_link
  opened l link is =
      let from : KeyParts = record { id = role_id link.edge.from; serial = link.from_serial; bytes = bytes_in keys link.from_serial } in
      let to : KeyParts = record { id = role_id link.edge.to; serial = link.to_serial; bytes = bytes_in keys link.to_serial } in
      ap (λ (r : LinkRecord). sealed (bytes_in keys r.from_serial.0) r.nonce r.cipher) is
      ∙ opens_link link.edge.kind from to link.nonce

  own_bytes : (n : ℕ) → (has : HasSerial keys n) → bytes_in keys n ≡ has.0.bytes
  unfolding key_bytes
  own_bytes n has = ap (bytes_in keys) (sym has.2) ∙ drawn_found owner m (journal_all_fit m valid) has.0 has.1

  pub own_link : (l : LinkRecord) → In (ALink l) (records_of owner m) → IsOwnLink l
  unfolding log_of
  own_link l i =
      let w = own_payload (ALink l) i in
      let at = body_placed header_len 0 0 (bodies_of owner m) (Commands w.0) w.1 in
      let inside = link_in w.0 l w.2 in
      let q = log_link (log_of owner m) at.0 w.0 l at.1 at.2 inside in
      let under = (journal_walked owner m valid whole).each_link q.0 q.1 in
      record {
        form = All-In LinkRecord IsLink w.0.links l (own_form w.0 w.1).links inside;
        target = under.has_to.0;
        there = under.has_to.1;
        opens = opened l under.link (sym q.2 ∙ under.is_sealed) ∙ own_bytes under.link.to_serial under.has_to;
      }

  -- a content of the journal is one that its history has
  pub record IsOwnContent (c : PlainContent) : Type 0 where
    pub form : IsContent c
    pub content : Content
    pub published : WasPublished m content
    pub kind : c.kind ≡ content.piece.kind
    pub object : c.object ≡ content.piece.object
    pub opens : sealed (bytes_in keys c.key_serial.0) c.nonce c.cipher ≡ text_of content.piece

  opened_text : (c : PlainContent) (x : Content) → c ≡ content_record keys x → sealed (bytes_in keys c.key_serial.0) c.nonce c.cipher ≡ text_of x.piece
  unfolding content_record sealed_content
  opened_text c x is =
      let key : KeyParts = record { id = role_id (sealing_role x.piece); serial = x.key_serial; bytes = bytes_in keys x.key_serial } in
      ap (λ (r : PlainContent). sealed (bytes_in keys r.key_serial.0) r.nonce r.cipher) is
      ∙ opens_content x.piece.kind key x.piece.object x.nonce (text_of x.piece)

  head_is : (c : PlainContent) (x : Content) → c ≡ content_record keys x → (c.kind ≡ x.piece.kind) × (c.object ≡ x.piece.object)
  unfolding content_record sealed_content
  head_is c x is = (ap (λ (r : PlainContent). r.kind) is, ap (λ (r : PlainContent). r.object) is)

  pub own_content : (c : PlainContent) → In (AContent c) (records_of owner m) → IsOwnContent c
  unfolding log_of
  own_content c i =
      let w = own_payload (AContent c) i in
      let at = body_placed header_len 0 0 (bodies_of owner m) (Commands w.0) w.1 in
      let inside = content_in w.0 c w.2 in
      let q = log_content (log_of owner m) at.0 w.0 c at.1 at.2 inside in
      let b = journal_content owner m valid whole q.0 q.1 in
      let x = b.3.0 in
      let is : c ≡ content_record keys x = sym q.2 ∙ b.3.2 in
      record {
        form = All-In PlainContent IsContent w.0.contents c (own_form w.0 w.1).contents inside;
        content = x;
        published = (b.0, b.1, b.3.1);
        kind = (head_is c x is).0;
        object = (head_is c x is).1;
        opens = opened_text c x is;
      }
