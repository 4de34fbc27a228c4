-- The records of a valid journal's log: which keys they were sealed under, and that its contents are those of the history in order.
use Rattle.std.proofs.Common.{◌≡◌, ⊎_elim, inl, inr, ℕ, ◌+◌, ◌≤◌, List, [], ◌∷◌, ◌++◌, length, map, append_assoc, append-nil, refl, sym, ap, subst, ◌∙◌}
use Rattle.std.specs.List.{flat_map}
use Rattle.std.proofs.lemmas.List.{map-append}
use Rattle.chacha_seal.specs.Keys.{KeyParts}
use Rattle.closure_laws.specs.History.{Published, history, published_from}
use Rattle.commit_journal.specs.Laws.{batch_of, placed_from}
use Rattle.commit_journal.specs.Placed.{PlainPlaced}
use Rattle.cry_base.specs.Layout.{batch_len, header_len}
use Rattle.cry_base.specs.Sets.{In}
use Rattle.cry_base.proofs.Members.{In-append, In-map}
use Rattle.log_visits.specs.Placing.{PlacedContent, PlacedLink, body_contents, body_links, contents_at, links_at, log_contents, log_links}
use Rattle.key_links.specs.Sealed.{sealed_content, sealed_link}
use Rattle.record_format.specs.declared.link.LinkRecord.{LinkRecord}
use Rattle.record_format.specs.Plain.{PlainContent}
use Rattle.record_format.specs.Sizes.{content_size}
use Rattle.role_graph.specs.Roles.{role_id}
use Rattle.public_fold.specs.Journal.{Entry, Journal, Stand, entry_step, keys_of, nothing, stand_after, stand_then, steps_from, steps_of}
use Rattle.public_fold.specs.Journal.Entry.{Session, Made, Did, Upgraded}
use Rattle.public_fold.specs.KeyStep.{KeyState, Stepped}
use Rattle.public_fold.specs.Records.{Content, Link, sealing_role, text_of}
use Rattle.public_fold.specs.Valid.{IsValid}
use Rattle.journal_bytes.specs.Bytes.{bodies_from, bodies_of, content_record, entry_body, keys_then, link_record, step_payload}
use Rattle.journal_bytes.specs.Folds.{log_of}
use Rattle.journal_bytes.specs.Keys.{AreWhole, all_keys, entry_keys, keys_from, owner_parts}
use Rattle.journal_bytes.specs.Sealing.{IsSealable}
use Rattle.journal_bytes.proofs.Grown.{batch_number, found_first}
use Rattle.journal_bytes.proofs.Weighed.{AreFed, begins_fed}
use Rattle.audit_laws.proofs.Keyed.{AreKeyed, HasKey, key_stays, keyed_at_first, keyed_then, newest_keyed, serial_of}
use Rattle.audit_laws.proofs.Steps.{AreWell, HasForm, IsWell, journal_well}

-- ---- records under keys

-- a link of the model, sealed under the keys of its serials, which are those of its roles
pub record IsKeyedLink (keys : List KeyParts) (l : LinkRecord) : Type 0 where
  pub link : Link
  pub is_sealed : l ≡ link_record keys link
  pub from : HasKey keys (link.edge.from, link.from_serial)
  pub to : HasKey keys (link.edge.to, link.to_serial)

-- the key of the content's serial is that of its role, and its text has the form of its kind
pub record IsKeyedContent (keys : List KeyParts) (x : Content) : Type 0 where
  pub key : HasKey keys (sealing_role x.piece, x.key_serial)
  pub kind_from_one : 1 ≤ x.piece.kind
  pub kind_to_three : x.piece.kind ≤ 3
  pub form : HasForm x.piece

link_stays : (keys more : List KeyParts) (l : LinkRecord) → IsKeyedLink keys l → IsKeyedLink (keys ++ more) l
unfolding link_record
link_stays keys more l is =
    let k = is.link in record {
      link = k;
      is_sealed = is.is_sealed
          ∙ (λ i. sealed_link k.edge.kind
          (record { id = role_id k.edge.from; serial = k.from_serial; bytes = sym (found_first keys more k.from_serial (serial_of keys (k.edge.from, k.from_serial) is.from)) i })
          (record { id = role_id k.edge.to; serial = k.to_serial; bytes = sym (found_first keys more k.to_serial (serial_of keys (k.edge.to, k.to_serial) is.to)) i })
          k.nonce);
      from = key_stays keys more (k.edge.from, k.from_serial) is.from;
      to = key_stays keys more (k.edge.to, k.to_serial) is.to;
    }

content_stays : (keys more : List KeyParts) (x : Content) → IsKeyedContent keys x → IsKeyedContent (keys ++ more) x
content_stays keys more x is = record {
  key = key_stays keys more (sealing_role x.piece, x.key_serial) is.key;
  kind_from_one = is.kind_from_one;
  kind_to_three = is.kind_to_three;
  form = is.form;
}

same_record : (keys more : List KeyParts) (x : Content) → IsKeyedContent keys x → content_record keys x ≡ content_record (keys ++ more) x
unfolding content_record
same_record keys more x is = λ i. sealed_content x.piece.kind
    (record { id = role_id (sealing_role x.piece); serial = x.key_serial; bytes = sym (found_first keys more x.key_serial (serial_of keys (sealing_role x.piece, x.key_serial) is.key)) i })
    x.piece.object x.nonce (text_of x.piece)

-- ---- one entry

step_link : (keys : List KeyParts) (step : Stepped) → IsSealable step → AreKeyed keys step.after → (l : Link) → In l step.links → IsKeyedLink keys (link_record keys l)
step_link keys step seal have l i = record {
  link = l;
  is_sealed = refl;
  from = newest_keyed keys step.after l.edge.from l.from_serial have (seal.sources l i);
  to = newest_keyed keys step.after l.edge.to l.to_serial have (seal.targets l i);
}

step_content : (keys : List KeyParts) (at : Stand) (entry : Entry) → IsWell at entry → AreKeyed keys (entry_step at entry).after → (x : Content) → In x (entry_step at entry).contents → IsKeyedContent keys x
step_content keys at entry well have x i =
    let seal = well.sealable in
    let kinds = seal.kinds x i in record {
      key = newest_keyed keys (entry_step at entry).after (sealing_role x.piece) x.key_serial have (seal.sealing x i);
      kind_from_one = kinds.0;
      kind_to_three = kinds.1;
      form = well.forms x i;
    }

placed_link : (batch at : ℕ) (rs : List LinkRecord) (p : PlacedLink) → In p (links_at batch at rs) → In p.link rs
unfolding links_at
placed_link batch at [] p i = absurd i
placed_link batch at (r ∷ rs) p i = ⊎_elim
    (λ (q : p ≡ record { batch = batch; at = at; link = r }). inl (ap (λ (z : PlacedLink). z.link) q))
    (λ u. inr (placed_link batch (at + 98) rs p u)) i

step_links : (keys : List KeyParts) (step : Stepped) (batch at : ℕ) → IsSealable step → AreKeyed keys step.after → (p : PlacedLink) → In p (links_at batch at (map (link_record keys) step.links)) → IsKeyedLink keys p.link
step_links keys step batch at seal have p i =
    let w = (In-map Link LinkRecord (link_record keys) p.link step.links).0 (placed_link batch at (map (link_record keys) step.links) p i) in
    subst (IsKeyedLink keys) (sym w.2) (step_link keys step seal have w.0 w.1)

entry_links : (keys : List KeyParts) (at : Stand) (entry : Entry) (batch place : ℕ) → IsWell at entry → AreKeyed keys (entry_step at entry).after → (p : PlacedLink) → In p (body_links batch place (entry_body keys at entry)) → IsKeyedLink keys p.link
unfolding entry_body body_links step_payload
entry_links keys at Session batch place well have p i = absurd i
entry_links keys at (Made version drawn) batch place well have p i = step_links keys (entry_step at (Made version drawn)) batch _ well.sealable have p i
entry_links keys at (Did r drawn) batch place well have p i = step_links keys (entry_step at (Did r drawn)) batch _ well.sealable have p i
entry_links keys at (Upgraded drawn) batch place well have p i = step_links keys (entry_step at (Upgraded drawn)) batch _ well.sealable have p i

-- ---- the contents in order

-- a content and the number of its batch
abbrev pub Head : Type 0
Head = ℕ × PlainContent

abbrev pub head_of : PlacedContent → Head
head_of p = (p.batch, p.content)

abbrev pub head_in : List KeyParts → ℕ → Content → Head
head_in keys batch x = (batch, content_record keys x)

abbrev pub heads_in : List KeyParts → Published → List Head
heads_in keys b = map (head_in keys b.batch) b.contents

placed_heads : (keys : List KeyParts) (batch at : ℕ) (xs : List Content) → map head_of (contents_at batch at (map (content_record keys) xs)) ≡ map (head_in keys batch) xs
unfolding contents_at
placed_heads keys batch at [] = refl
placed_heads keys batch at (x ∷ xs) = ap (λ (hs : List Head). head_in keys batch x ∷ hs) (placed_heads keys batch (at + content_size (content_record keys x)) xs)

no_heads : (keys : List KeyParts) (at : Stand) (batch : ℕ) → (let none : List Head = [] in none) ≡ map (head_in keys batch) (entry_step at Session).contents
unfolding entry_step
no_heads keys at batch = refl

body_heads : (keys : List KeyParts) (at : Stand) (entry : Entry) (batch place : ℕ) → map head_of (body_contents batch place (entry_body keys at entry)) ≡ map (head_in keys batch) (entry_step at entry).contents
unfolding entry_body body_contents step_payload
body_heads keys at Session batch place = no_heads keys at batch
body_heads keys at (Made version drawn) batch place = placed_heads keys batch _ (entry_step at (Made version drawn)).contents
body_heads keys at (Did r drawn) batch place = placed_heads keys batch _ (entry_step at (Did r drawn)).contents
body_heads keys at (Upgraded drawn) batch place = placed_heads keys batch _ (entry_step at (Upgraded drawn)).contents

same_heads : (keys more : List KeyParts) (batch : ℕ) (xs : List Content) → ((x : Content) → In x xs → IsKeyedContent keys x) → map (head_in keys batch) xs ≡ map (head_in (keys ++ more) batch) xs
same_heads keys more batch [] each = refl
same_heads keys more batch (x ∷ xs) each = λ i. (batch, same_record keys more x (each x (inl refl)) i) ∷ same_heads keys more batch xs (λ y j. each y (inr j)) i

-- ---- entries

-- each link and each content is sealed under its key, and the contents are those of the history, in order
pub record IsKeyedLog (keys : List KeyParts) (after : KeyState) (log : List PlainPlaced) (h : List Published) : Type 0 where
  pub keyed : AreKeyed keys after
  pub links : (p : PlacedLink) → In p (log_links log) → IsKeyedLink keys p.link
  pub contents : map head_of (log_contents log) ≡ flat_map (heads_in keys) h
  pub pieces : (b : Published) → In b h → (x : Content) → In x b.contents → IsKeyedContent keys x

nothing_logged : (keys : List KeyParts) (k : KeyState) → AreKeyed keys k → IsKeyedLog keys k [] []
unfolding log_links log_contents
nothing_logged keys k have = record { keyed = have; links = λ p i. absurd i; contents = refl; pieces = λ b i. absurd i }

-- a batch before a log
batch_logged : (keys more : List KeyParts) (after : KeyState) (at : Stand) (entry : Entry) (p : PlainPlaced) (log : List PlainPlaced) (h : List Published) (b : Published) → p.body ≡ entry_body keys at entry → p.batch ≡ b.batch
    → b.contents ≡ (entry_step at entry).contents → IsWell at entry → AreKeyed keys (entry_step at entry).after → IsKeyedLog (keys ++ more) after log h → IsKeyedLog (keys ++ more) after (p ∷ log) (b ∷ h)
unfolding log_links log_contents
batch_logged keys more after at entry p log h b body batch contents well have others =
    let all = keys ++ more in
    let here : (x : Content) → In x b.contents → IsKeyedContent keys x = λ x i. step_content keys at entry well have x (subst (In x) contents i) in
    let heads : map head_of (body_contents p.batch p.place p.body) ≡ heads_in all b =
    ap (λ z. map head_of (body_contents p.batch p.place z)) body
    ∙ body_heads keys at entry p.batch p.place
    ∙ (λ i. map (head_in keys (batch i)) (sym contents i))
    ∙ same_heads keys more b.batch b.contents here
    in record {
      keyed = others.keyed;
      links = λ l i. ⊎_elim
          (λ u. link_stays keys more l.link (entry_links keys at entry p.batch p.place well have l (subst (λ z. In l (body_links p.batch p.place z)) body u)))
          (λ v. others.links l v)
          ((In-append PlacedLink l (body_links p.batch p.place p.body) (log_links log)).0 i);
      contents = map-append head_of (body_contents p.batch p.place p.body) (log_contents log) ∙ (λ i. heads i ++ others.contents i);
      pieces = λ d i x j. ⊎_elim
          (λ (is : d ≡ b). content_stays keys more x (here x (subst (λ (z : Published). In x z.contents) is j)))
          (λ v. others.pieces d v x j)
          i;
    }

walk : (entries : List Entry) (keys : List KeyParts) (at : Stand) (place number epoch : ℕ) → AreKeyed keys at.keys → AreFed at entries → AreWell at entries
    → IsKeyedLog (keys ++ keys_from at entries) (stand_after at entries).keys (placed_from place number epoch (bodies_from keys at entries)) (published_from (number + 1) (steps_from at entries))
unfolding keys_from stand_after bodies_from published_from steps_from keys_then stand_then
walk [] keys at place number epoch have fed well = subst (λ ks. IsKeyedLog ks at.keys [] []) (sym (append-nil keys)) (nothing_logged keys at.keys have)
walk (entry ∷ entries) keys at place number epoch have fed well =
    let later = keys_then keys at entry in
    let body = entry_body later at entry in
    let batch = batch_of number epoch body in
    let next = stand_then at entry in
    let have_more = keyed_then keys at entry have fed.0 in
    let log = placed_from (place + (batch_len + length batch.payload)) batch.number batch.epoch (bodies_from later next entries) in
    let p : PlainPlaced = record { batch = batch.number; epoch = record { 0 = batch.epoch }; place = place + 45; body = body } in
    let b : Published = record { batch = number + 1; links = (entry_step at entry).links; contents = (entry_step at entry).contents } in
    let others = subst (λ n. IsKeyedLog (later ++ keys_from next entries) (stand_after next entries).keys log (published_from (n + 1) (steps_from next entries))) (batch_number number epoch body)
    (walk entries later next (place + (batch_len + length batch.payload)) batch.number batch.epoch have_more fed.1 well.1)
    in
    subst (λ ks. IsKeyedLog ks (stand_after next entries).keys (p ∷ log) (b ∷ published_from (number + 1 + 1) (steps_from next entries))) (append_assoc keys (entry_keys at entry) (keys_from next entries))
    (batch_logged later (keys_from next entries) (stand_after next entries).keys at entry p log (published_from (number + 1 + 1) (steps_from next entries)) b refl (batch_number number epoch body) refl well.0 have_more others)

pub journal_logged : (owner : List ℕ) (m : Journal) → IsValid m → AreWhole owner m → IsKeyedLog (all_keys owner m) (keys_of m) (log_of owner m) (history m)
unfolding all_keys keys_of log_of bodies_of history steps_of
journal_logged owner m valid whole =
    walk m (owner_parts owner ∷ []) nothing header_len 0 0 (keyed_at_first owner) (begins_fed m valid.0 whole.drawn_sizes) (journal_well owner m valid whole)
