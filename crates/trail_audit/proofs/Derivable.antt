-- What the links of a journal's log lead to: the keys that its history derives.
use Rattle.std.proofs.Common.{◌≡◌, ◌+◌, ℕ, List, [], ◌∷◌, ◌++◌, length, map, refl, sym, ap, subst, ◌∙◌}
use Rattle.std.proofs.lemmas.List.{map-append}
use Rattle.chacha_seal.specs.Keys.{KeyParts}
use Rattle.chacha_seal.specs.Sealing.{sealed}
use Rattle.closure_laws.specs.History.{Derives, history, published_from, trails}
use Rattle.commit_journal.specs.Laws.{batch_of, placed_from}
use Rattle.cry_base.specs.Layout.{batch_len, header_len}
use Rattle.cry_base.specs.Sets.{In}
use Rattle.cry_base.specs.Sets.Path.{Here, On}
use Rattle.cry_base.proofs.Members.{In-map}
use Rattle.log_visits.specs.Placing.{PlacedLink, body_links, links_at, log_links}
use Rattle.journal_bytes.specs.Bytes.{bodies_from, bodies_of, entry_body, keys_then, link_record, step_payload}
use Rattle.journal_bytes.specs.Folds.{log_of}
use Rattle.journal_bytes.specs.Keys.{AreWhole, all_keys, bytes_in, key_bytes, owner_parts}
use Rattle.public_fold.specs.Valid.{IsValid}
use Rattle.journal_bytes.proofs.LogsWalked.{journal_walked}
use Rattle.key_links.specs.Sealed.{sealed_link}
use Rattle.key_links.proofs.SealedLemmas.{opens_link}
use Rattle.public_fold.specs.Journal.{Entry, Journal, Stand, entry_step, nothing, stand_then, steps_from, steps_of}
use Rattle.public_fold.specs.Journal.Entry.{Session, Made, Did, Upgraded}
use Rattle.public_fold.specs.Records.{Link}
use Rattle.record_format.specs.declared.link.LinkRecord.{LinkRecord}
use Rattle.role_graph.specs.Roles.{role_id}
use Rattle.trail_audit.specs.Right.{IsRight}
use Rattle.trail_audit.specs.Right.IsRight.{OfBundle, Behind}
use Rattle.trail_audit.specs.Trails.{records_of_links}

-- ---- the serials of the log's links are those of the history

abbrev serials_of : List PlacedLink → List (ℕ × ℕ)
serials_of links = map (λ (l : PlacedLink). (l.link.from_serial.0, l.link.to_serial.0)) links

placed_serials : (batch at : ℕ) (keys : List KeyParts) (links : List Link) → serials_of (links_at batch at (map (link_record keys) links)) ≡ map (λ (l : Link). (l.from_serial, l.to_serial)) links
unfolding links_at link_record sealed_link
placed_serials batch at keys [] = refl
placed_serials batch at keys (l ∷ links) = ap (λ (rest : List (ℕ × ℕ)). (l.from_serial, l.to_serial) ∷ rest) (placed_serials batch (at + 98) keys links)

no_serials : (at : Stand) → (let pairs : List (ℕ × ℕ) = [] in pairs) ≡ map (λ (l : Link). (l.from_serial, l.to_serial)) (entry_step at Session).links
unfolding entry_step
no_serials at = refl

body_serials : (keys : List KeyParts) (at : Stand) (entry : Entry) (batch place : ℕ) → serials_of (body_links batch place (entry_body keys at entry)) ≡ map (λ (l : Link). (l.from_serial, l.to_serial)) (entry_step at entry).links
unfolding entry_body body_links step_payload
body_serials keys at Session batch place = no_serials at
body_serials keys at (Made version drawn) batch place = placed_serials batch _ keys (entry_step at (Made version drawn)).links
body_serials keys at (Did request drawn) batch place = placed_serials batch _ keys (entry_step at (Did request drawn)).links
body_serials keys at (Upgraded drawn) batch place = placed_serials batch _ keys (entry_step at (Upgraded drawn)).links

log_serials : (keys : List KeyParts) (at : Stand) (entries : List Entry) (place number epoch n : ℕ) →
    serials_of (log_links (placed_from place number epoch (bodies_from keys at entries))) ≡ trails (published_from n (steps_from at entries))
unfolding log_links bodies_from trails published_from steps_from
log_serials keys at [] place number epoch n = refl
log_serials keys at (entry ∷ entries) place number epoch n =
    let keys_with = keys_then keys at entry in
    let body = entry_body keys_with at entry in
    let batch = batch_of number epoch body in
    let here = body_links batch.number (place + 45) body in
    let next = place + (batch_len + length batch.payload) in
    let rest = log_links (placed_from next batch.number batch.epoch (bodies_from keys_with (stand_then at entry) entries)) in
    map-append (λ (l : PlacedLink). (l.link.from_serial.0, l.link.to_serial.0)) here rest
    ∙ ap (λ (pairs : List (ℕ × ℕ)). pairs ++ serials_of rest) (body_serials keys_with at entry batch.number (place + 45))
    ∙ ap (λ (pairs : List (ℕ × ℕ)). map (λ (l : Link). (l.from_serial, l.to_serial)) (entry_step at entry).links ++ pairs)
    (log_serials keys_with (stand_then at entry) entries next batch.number batch.epoch (n + 1))

pub journal_serials : (owner : List ℕ) (m : Journal) → serials_of (log_links (log_of owner m)) ≡ trails (history m)
unfolding log_of bodies_of history steps_of
journal_serials owner m = log_serials (owner_parts owner ∷ []) nothing m header_len 0 0 1

-- ---- right keys

-- a link of the journal holds, for who has its source's bytes, those of its target
opened_bytes : (keys : List KeyParts) (key : KeyParts) (l : LinkRecord) (link : Link) → l ≡ link_record keys link → l.from_serial.0 ≡ key.serial → key.bytes ≡ bytes_in keys key.serial →
    sealed key.bytes l.nonce l.cipher ≡ bytes_in keys l.to_serial.0
unfolding link_record sealed_link
opened_bytes keys key l link is begins drawn =
    let from : KeyParts = record { id = role_id link.edge.from; serial = link.from_serial; bytes = bytes_in keys link.from_serial } in
    let to : KeyParts = record { id = role_id link.edge.to; serial = link.to_serial; bytes = bytes_in keys link.to_serial } in
    let same : key.bytes ≡ from.bytes = drawn ∙ ap (bytes_in keys) (sym begins ∙ ap (λ (r : LinkRecord). r.from_serial.0) is) in
    ap (λ (r : LinkRecord). sealed key.bytes r.nonce r.cipher) is
    ∙ ap (λ (b : List ℕ). sealed b link.nonce (sealed_link link.edge.kind from to link.nonce).cipher) same
    ∙ opens_link link.edge.kind from to link.nonce
    ∙ ap (bytes_in keys) (sym (ap (λ (r : LinkRecord). r.to_serial.0) is))

pub derived_alone : (owner : List ℕ) (m : Journal) → IsValid m → AreWhole owner m → (own : KeyParts) → own.bytes ≡ key_bytes owner m own.serial → {key : KeyParts} → IsRight (records_of_links (log_links (log_of owner m))) own key →
    Derives (history m) own.serial key.serial × (key.bytes ≡ key_bytes owner m key.serial)
unfolding key_bytes
derived_alone owner m valid whole own drawn OfBundle = (Here, drawn)
derived_alone owner m valid whole own drawn (Behind {key = key} l right there leads) =
    let links = log_links (log_of owner m) in
    let before = derived_alone owner m valid whole own drawn right in
    let w = (In-map PlacedLink LinkRecord (λ (p : PlacedLink). p.link) l links).0 there in
    let under = (journal_walked owner m valid whole).each_link w.0 w.1 in
    let pair : (let p : ℕ × ℕ = (key.serial, l.to_serial.0) in p) ≡ (w.0.link.from_serial.0, w.0.link.to_serial.0) =
    λ i. ((sym leads.from_serial ∙ ap (λ (r : LinkRecord). r.from_serial.0) w.2) i, (ap (λ (r : LinkRecord). r.to_serial.0) w.2) i)
    in
    let step : In {X = ℕ × ℕ} (key.serial, l.to_serial.0) (trails (history m)) =
    subst (λ (pairs : List (ℕ × ℕ)). In {X = ℕ × ℕ} (key.serial, l.to_serial.0) pairs) (journal_serials owner m)
    ((In-map PlacedLink (ℕ × ℕ) (λ (p : PlacedLink). (p.link.from_serial.0, p.link.to_serial.0)) (key.serial, l.to_serial.0) links).1 (w.0, w.1, pair))
    in
    (On before.0 step, opened_bytes (all_keys owner m) key l under.link (w.2 ∙ under.is_sealed) leads.from_serial before.1)
