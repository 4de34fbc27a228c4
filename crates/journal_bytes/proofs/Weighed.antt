-- How long the image of a journal is.
use Rattle.std.proofs.Common.{◌≡◌, ℕ, ◌+◌, ◌*◌, List, [], ◌∷◌, length, map, All, Option, Some, None, arith, refl, sym, ap, subst, ◌∙◌, inl, inr}
use Rattle.std.specs.List.{sum_by, flat_map}
use Rattle.std.proofs.lemmas.List.{length-append}
use Rattle.std.proofs.lemmas.List.Elements.{All-head, All-tail}
use Rattle.std.proofs.lemmas.List.Sums.{sum_by-cons}
use Rattle.chacha_seal.specs.Keys.{KeyParts}
use Rattle.chacha_seal.specs.Sealing.{check_of}
use Rattle.chacha_seal.proofs.SealingLemmas.{length-check_of}
use Rattle.cry_base.specs.Layout.{batch_len}
use Rattle.cry_base.specs.Requests.{Request}
use Rattle.cry_base.specs.Requests.Request.{AddHolder, MakeFolder, WriteFile, Remove, Rename, Relocate, Grant, Revoke}
use Rattle.cry_base.specs.Sets.{In}
use Rattle.cry_base.specs.Store.{Store, root_store}
use Rattle.cry_base.specs.declared.roles.Node.{Node}
use Rattle.cry_base.specs.declared.roles.Node.TheVariants.{Folder, File}
use Rattle.record_format.specs.Spelling.{spell_note, spell_link, spell_content, spell_payload}
use Rattle.record_format.proofs.Lengths.{length-be32}
use Rattle.commit_journal.specs.Image.{Batch}
use Rattle.commit_journal.specs.Laws.{batch_of, batches_from}
use Rattle.commit_journal.specs.Placed.{PlainBody, Commands, NewEpoch}
use Rattle.commit_journal.proofs.Standings.{length-image}
use Rattle.key_links.proofs.SealedLemmas.{length-sealed_link, length-sealed_content}
use Rattle.role_graph.specs.Roles.{role_id}
use Rattle.record_format.specs.Noted.{Note}
use Rattle.record_format.specs.Noted.Note.{Root, NewHolder, NewFolder, NewFile, Rewrite, NameFile, NameFolder, DropFile, DropFolder, ShiftFile, ShiftFolder, Give, Take, StrictRoot, Upgrade}
use Rattle.move_plan.specs.Noting.{note_of, write_note, remove_note, rename_note, move_note}
use Rattle.public_fold.specs.Records.{Link, Content, sealing_role, text_of}
use Rattle.public_fold.specs.KeyStep.{Stepped}
use Rattle.public_fold.specs.Journal.{Entry, Journal, Stand, nothing, first_key, entry_step, stand_then, note_step, root_note}
use Rattle.public_fold.specs.Journal.Entry.{Session, Made, Did, Upgraded}
use Rattle.public_fold.specs.Lengths.{note_len, content_len, payload_len, entry_payload, payloads_from, end_of}
use Rattle.public_fold.specs.Valid.{FollowOn, BeginsWell, IsValid}
use Rattle.public_fold.specs.WorkedSteps.{journals}
use Rattle.journal_bytes.specs.Bytes.{link_record, content_record, step_payload, keys_then, entry_body, bodies_from, bodies_of, batches_of, image_of}
use Rattle.journal_bytes.specs.Keys.{drawn_by, owner_parts, bytes_in, AreWhole}
use Rattle.journal_bytes.specs.Notes.{declared_note}
use Rattle.journal_bytes.proofs.RootNotes.{of_root}
use Rattle.journal_bytes.proofs.Counted.{HaveKeys, IsFed, present_long, entry_links, have_then, have_at_first}

-- ---- notes

-- a holder's check has 32 bytes
abbrev pub HasCheck : Note → Type 0
HasCheck Root = Unit {0}
HasCheck (NewHolder h check) = length check ≡ 32
HasCheck (NewFolder f p) = Unit {0}
HasCheck (NewFile x f) = Unit {0}
HasCheck (Rewrite x) = Unit {0}
HasCheck (NameFile x) = Unit {0}
HasCheck (NameFolder f) = Unit {0}
HasCheck (DropFile x) = Unit {0}
HasCheck (DropFolder f) = Unit {0}
HasCheck (ShiftFile x g) = Unit {0}
HasCheck (ShiftFolder g q) = Unit {0}
HasCheck (Give h f) = Unit {0}
HasCheck (Take h f) = Unit {0}
HasCheck StrictRoot = Unit {0}
HasCheck Upgrade = Unit {0}

note_weight : (note : Note) → HasCheck note → length (spell_note (declared_note note)) ≡ note_len note
unfolding declared_note spell_note note_len
note_weight Root has = refl
note_weight (NewHolder h check) has = simp (length-append, length-be32, has)
note_weight (NewFolder f p) has = simp (length-append, length-be32)
note_weight (NewFile x f) has = simp (length-append, length-be32)
note_weight (Rewrite x) has = simp length-be32
note_weight (NameFile x) has = simp length-be32
note_weight (NameFolder f) has = simp length-be32
note_weight (DropFile x) has = simp length-be32
note_weight (DropFolder f) has = simp length-be32
note_weight (ShiftFile x g) has = simp (length-append, length-be32)
note_weight (ShiftFolder g q) has = simp (length-append, length-be32)
note_weight (Give h f) has = simp (length-append, length-be32)
note_weight (Take h f) has = simp (length-append, length-be32)
note_weight StrictRoot has = refl
note_weight Upgrade has = refl

-- a check in a note makes it no longer than another
abbrev pub Weighs : Note → Note → Type 0
Weighs with bare = HasCheck with × (note_len with ≡ note_len bare)

write_weighs : (s : Store) (o : Option Node) (folder : ℕ) → Weighs (write_note s o folder) (write_note s o folder)
unfolding write_note
write_weighs s None folder = (tt, refl)
write_weighs s (Some (Folder f)) folder = (tt, refl)
write_weighs s (Some (File x)) folder = (tt, refl)

remove_weighs : (o : Option Node) → Weighs (remove_note o) (remove_note o)
unfolding remove_note
remove_weighs None = (tt, refl)
remove_weighs (Some (Folder f)) = (tt, refl)
remove_weighs (Some (File x)) = (tt, refl)

rename_weighs : (o : Option Node) → Weighs (rename_note o) (rename_note o)
unfolding rename_note
rename_weighs None = (tt, refl)
rename_weighs (Some (Folder f)) = (tt, refl)
rename_weighs (Some (File x)) = (tt, refl)

move_weighs : (o : Option Node) (into : ℕ) → Weighs (move_note o into) (move_note o into)
unfolding move_note
move_weighs None into = (tt, refl)
move_weighs (Some (Folder f)) into = (tt, refl)
move_weighs (Some (File x)) into = (tt, refl)

pub note_of_weighs : (s : Store) (r : Request) (check : List ℕ) → length check ≡ 32 → Weighs (note_of s r check) (note_of s r [])
unfolding note_of note_len
note_of_weighs s AddHolder check size = (size, refl)
note_of_weighs s (MakeFolder path) check size = (tt, refl)
note_of_weighs s (WriteFile path bytes) check size = write_weighs s _ _
note_of_weighs s (Remove path) check size = remove_weighs _
note_of_weighs s (Rename path name) check size = rename_weighs _
note_of_weighs s (Relocate path into) check size = move_weighs _ _
note_of_weighs s (Grant holder path) check size = (tt, refl)
note_of_weighs s (Revoke holder path) check size = (tt, refl)

-- ---- records

links_weigh : (keys : List KeyParts) (links : List Link) → ((l : Link) → In l links → length (bytes_in keys l.to_serial) ≡ 32) →
    length (flat_map spell_link (map (link_record keys) links)) ≡ 98 * length links
links_weigh keys [] long = refl
links_weigh keys (l ∷ links) long =
    let first : length (spell_link (link_record keys l)) ≡ 98 = unfold link_record in length-sealed_link l.edge.kind _ _ l.nonce (long l (inl refl)) in
    let others = links_weigh keys links (λ x i. long x (inr i)) in
    rw length-append (omega (arith, first, others))

contents_weigh : (keys : List KeyParts) (contents : List Content) → length (flat_map spell_content (map (content_record keys) contents)) ≡ sum_by content_len contents
unfolding content_record content_len
contents_weigh keys [] = refl
contents_weigh keys (c ∷ contents) =
    let key : KeyParts = record { id = role_id (sealing_role c.piece); serial = c.key_serial; bytes = bytes_in keys c.key_serial } in
    let first = length-sealed_content c.piece.kind key c.piece.object c.nonce (text_of c.piece) in
    let others = contents_weigh keys contents in
    rw length-append (omega (arith, first, others, sum_by-cons content_len c contents))

payload_weighs : (keys : List KeyParts) (note bare : Note) (step : Stepped) → Weighs note bare → ((l : Link) → In l step.links → length (bytes_in keys l.to_serial) ≡ 32) →
    length (spell_payload (step_payload keys (declared_note note) step)) ≡ payload_len bare step
unfolding spell_payload step_payload payload_len
payload_weighs keys note bare step weighs long =
    let n = note_weight note weighs.0 in
    let l = links_weigh keys step.links long in
    let c = contents_weigh keys step.contents in
    let same = weighs.1 in
    simp (length-append, length-be32) (omega (arith, n, l, c, same))

-- ---- entries

-- the payload of a batch
abbrev pub body_weight : PlainBody → ℕ
body_weight (Commands payload) = length (spell_payload payload)
body_weight NewEpoch = 0

links_long : (keys : List KeyParts) (at : Stand) (entry : Entry) → HaveKeys keys (entry_step at entry).after → (l : Link) → In l (entry_step at entry).links → length (bytes_in keys l.to_serial) ≡ 32
links_long keys at entry have l i =
    let to = entry_links at entry l i in
    subst (λ (n : ℕ). length (bytes_in keys n) ≡ 32) (sym to.1) (present_long keys (entry_step at entry).after to.0 have)

root_weighs : (version : ℕ) → Weighs (root_note version) (root_note version)
root_weighs version = of_root (λ note. Weighs note note) (tt, refl) (tt, refl) version

body_weighs : (keys : List KeyParts) (at : Stand) (entry : Entry) → HaveKeys keys (entry_step at entry).after → body_weight (entry_body keys at entry) ≡ entry_payload at entry
unfolding entry_body entry_payload declared_note
body_weighs keys at Session have = refl
body_weighs keys at (Made version drawn) have =
    payload_weighs keys (root_note version) (root_note version) (entry_step at (Made version drawn)) (root_weighs version) (links_long keys at (Made version drawn) have)
body_weighs keys at (Did request drawn) have =
    payload_weighs keys (note_of at.store request (check_of (first_key drawn))) (note_of at.store request []) (entry_step at (Did request drawn))
    (note_of_weighs at.store request (check_of (first_key drawn)) (length-check_of (first_key drawn)))
    (links_long keys at (Did request drawn) have)
body_weighs keys at (Upgraded drawn) have =
    payload_weighs keys Upgrade Upgrade (entry_step at (Upgraded drawn)) (tt, refl) (links_long keys at (Upgraded drawn) have)

-- each entry drew its keys
abbrev pub AreFed : Stand → List Entry → Type 0
AreFed at [] = Unit {0}
AreFed at (entry ∷ entries) = IsFed at entry × AreFed (stand_then at entry) entries

batch_weight : (number epoch : ℕ) (body : PlainBody) → length (batch_of number epoch body).payload ≡ body_weight body
batch_weight number epoch (Commands payload) = refl
batch_weight number epoch NewEpoch = refl

entries_weigh : (keys : List KeyParts) (at : Stand) (entries : List Entry) (number epoch : ℕ) → HaveKeys keys at.keys → AreFed at entries →
    sum_by (λ (b : Batch). batch_len + length b.payload) (batches_from number epoch (bodies_from keys at entries)) ≡ sum_by (λ len. batch_len + len) (payloads_from at entries)
unfolding bodies_from payloads_from stand_then
entries_weigh keys at [] number epoch have fed = refl
entries_weigh keys at (entry ∷ entries) number epoch have fed =
    let then = keys_then keys at entry in
    let body = entry_body then at entry in
    let batch = batch_of number epoch body in
    let have_more : HaveKeys then (entry_step at entry).after = have_then keys at entry have fed.0 in
    let first : length batch.payload ≡ entry_payload at entry = batch_weight number epoch body ∙ body_weighs then at entry have_more in
    let others = entries_weigh then (stand_then at entry) entries batch.number batch.epoch have_more fed.1 in
    sum_by-cons (λ (b : Batch). batch_len + length b.payload) batch (batches_from batch.number batch.epoch (bodies_from then (stand_then at entry) entries))
    ∙ ap (λ n. batch_len + n + sum_by (λ (b : Batch). batch_len + length b.payload) (batches_from batch.number batch.epoch (bodies_from then (stand_then at entry) entries))) first
    ∙ ap (λ n. batch_len + entry_payload at entry + n) others
    ∙ sym (sum_by-cons (λ (len : ℕ). batch_len + len) (entry_payload at entry) (payloads_from (stand_then at entry) entries))

-- ---- valid journals

abbrev pub Sized : Entry → Type 0
Sized entry = All (λ (key : List ℕ). length key ≡ 32) (drawn_by entry)

pub follows_fed : (at : Stand) (entries : List Entry) → FollowOn at entries → All Sized entries → AreFed at entries
unfolding drawn_by entry_step
follows_fed at [] follow sizes = tt
follows_fed at (Session ∷ entries) follow sizes = (
  record { many = refl; sizes = All-head Sized Session entries sizes },
  follows_fed (stand_then at Session) entries follow.1 (All-tail Sized Session entries sizes),
)
follows_fed at (Made version drawn ∷ entries) follow sizes = absurd follow.0
follows_fed at (Did request drawn ∷ entries) follow sizes = (
  record { many = follow.0.1; sizes = All-head Sized (Did request drawn) entries sizes },
  follows_fed (stand_then at (Did request drawn)) entries follow.1 (All-tail Sized (Did request drawn) entries sizes),
)
follows_fed at (Upgraded drawn ∷ entries) follow sizes = (
  record { many = follow.0.1; sizes = All-head Sized (Upgraded drawn) entries sizes },
  follows_fed (stand_then at (Upgraded drawn)) entries follow.1 (All-tail Sized (Upgraded drawn) entries sizes),
)

-- either note that makes the root gives five keys
root_five : (version : ℕ) → length (note_step (stand_then nothing Session) (root_note version) root_store).given ≡ 5
root_five version = of_root (λ note. length (note_step (stand_then nothing Session) note root_store).given ≡ 5) (unfold journals in refl) (unfold journals in refl) version

pub five_given : (version : ℕ) (drawn : List (List ℕ)) → length (entry_step (stand_then nothing Session) (Made version drawn)).given ≡ 5
unfolding entry_step
five_given version drawn = root_five version

pub begins_fed : (m : Journal) → BeginsWell m → All Sized m → AreFed nothing m
unfolding drawn_by entry_step
begins_fed [] begins sizes = absurd begins
begins_fed (Session ∷ []) begins sizes = absurd begins
begins_fed (Session ∷ Session ∷ entries) begins sizes = absurd begins
begins_fed (Session ∷ Made version drawn ∷ entries) begins sizes =
    let rest = All-tail Sized Session (Made version drawn ∷ entries) sizes in (
      record { many = refl; sizes = All-head Sized Session (Made version drawn ∷ entries) sizes },
      (
        record { many = begins.0 ∙ sym (five_given version drawn); sizes = All-head Sized (Made version drawn) entries rest },
        follows_fed (stand_then (stand_then nothing Session) (Made version drawn)) entries begins.1 (All-tail Sized (Made version drawn) entries rest),
      ),
    )
begins_fed (Session ∷ Did request drawn ∷ entries) begins sizes = absurd begins
begins_fed (Session ∷ Upgraded drawn ∷ entries) begins sizes = absurd begins
begins_fed (Made version drawn ∷ entries) begins sizes = absurd begins
begins_fed (Did request drawn ∷ entries) begins sizes = absurd begins
begins_fed (Upgraded drawn ∷ entries) begins sizes = absurd begins

payloads_weigh : (keys : List KeyParts) (at : Stand) (entries : List Entry) (number epoch : ℕ) → HaveKeys keys at.keys → AreFed at entries →
    map (λ (b : Batch). batch_len + length b.payload) (batches_from number epoch (bodies_from keys at entries)) ≡ map (λ len. batch_len + len) (payloads_from at entries)
unfolding bodies_from payloads_from stand_then
payloads_weigh keys at [] number epoch have fed = refl
payloads_weigh keys at (entry ∷ entries) number epoch have fed =
    let then = keys_then keys at entry in
    let body = entry_body then at entry in
    let batch = batch_of number epoch body in
    let have_more : HaveKeys then (entry_step at entry).after = have_then keys at entry have fed.0 in
    let first : length batch.payload ≡ entry_payload at entry = batch_weight number epoch body ∙ body_weighs then at entry have_more in
    let others = payloads_weigh then (stand_then at entry) entries batch.number batch.epoch have_more fed.1 in
    ap (λ n. (batch_len + n) ∷ map (λ (b : Batch). batch_len + length b.payload) (batches_from batch.number batch.epoch (bodies_from then (stand_then at entry) entries))) first
    ∙ ap (λ r. (batch_len + entry_payload at entry) ∷ r) others

pub valid_payloads : (owner : List ℕ) (m : Journal) → IsValid m → AreWhole owner m →
    map (λ (b : Batch). batch_len + length b.payload) (batches_of owner m) ≡ map (λ len. batch_len + len) (payloads_from nothing m)
unfolding batches_of bodies_of
valid_payloads owner m valid whole =
    payloads_weigh (owner_parts owner ∷ []) nothing m 0 0 (have_at_first owner whole.owner_size) (begins_fed m valid.0 whole.drawn_sizes)

pub image_weighs : (owner : List ℕ) (m : Journal) → length owner ≡ 32 → AreFed nothing m → length (image_of owner m) + 1 ≡ end_of m
unfolding image_of batches_of bodies_of end_of
image_weighs owner m size fed =
    let whole = length-image owner (batches_from 0 0 (bodies_from (owner_parts owner ∷ []) nothing m)) in
    let sum = entries_weigh (owner_parts owner ∷ []) nothing m 0 0 (have_at_first owner size) fed in
    omega (arith, whole, sum)

pub valid_weighs : (owner : List ℕ) (m : Journal) → IsValid m → AreWhole owner m → length (image_of owner m) + 1 ≡ end_of m
valid_weighs owner m valid whole = image_weighs owner m whole.owner_size (begins_fed m valid.0 whole.drawn_sizes)
