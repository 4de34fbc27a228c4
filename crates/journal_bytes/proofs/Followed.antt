-- The payloads of a valid journal fit, one after another, and make what stands after it.
use Rattle.std.proofs.Common.{◌≡◌, ℕ, ◌+◌, ◌≤◌, true, ◌&&◌, ◌==◌, List, [], ◌∷◌, ◌++◌, map, length, All, None, Ok, Err, inl, inr, arith, refl, sym, ap, subst, ◌∙◌}
use Rattle.std.specs.Prelude.{◌-◌, ◌^◌, if◌then◌else◌, nat_lt}
use Rattle.std.proofs.lemmas.Bool.{and_from, and_parts, eq-eqb}
use Rattle.std.proofs.lemmas.List.{length-append, length-map}
use Rattle.std.proofs.lemmas.List.Elements.{All-head, All-tail}
use Rattle.chacha_seal.specs.Keys.{KeyParts}
use Rattle.chacha_seal.specs.Sealing.{check_of}
use Rattle.chacha_seal.proofs.SealingLemmas.{length-sealed}
use Rattle.commit_journal.specs.Answering.{Damaged, and_then}
use Rattle.commit_journal.specs.Laws.{batch_of, placed_from}
use Rattle.commit_journal.specs.Placed.{PlainBody, PlainPlaced, Commands}
use Rattle.cry_base.specs.Layout.{batch_len, header_len}
use Rattle.cry_base.specs.Limits.{most_file_bytes, most_store_bytes}
use Rattle.cry_base.specs.Refusing.{refusal_in, refusal_of}
use Rattle.cry_base.proofs.Versions.{accepted_in}
use Rattle.cry_base.specs.Requests.{Request}
use Rattle.cry_base.specs.Requests.Request.{AddHolder, MakeFolder, WriteFile, Remove, Rename, Relocate, Grant, Revoke}
use Rattle.cry_base.specs.Sets.{In}
use Rattle.cry_base.specs.Stepping.{effect}
use Rattle.cry_base.specs.Store.{no_store, root_store}
use Rattle.cry_base.specs.declared.roles.Edge.{Edge}
use Rattle.cry_base.specs.declared.roles.Role.{Role}
use Rattle.log_visits.specs.Folding.{folded, stand_behind}
use Rattle.log_visits.proofs.ToldLemmas.{accepted_told}
use Rattle.key_links.specs.Sealed.{sealed_content, sealed_link}
use Rattle.move_plan.specs.Change.{Change, change_of, no_change, row_change}
use Rattle.move_plan.specs.Fitting.{fits, public_of}
use Rattle.move_plan.specs.Noting.{note_of}
use Rattle.move_plan.proofs.Public.{change_public, edges_public}
use Rattle.record_format.specs.Noted.{Note}
use Rattle.record_format.specs.Noted.Note.{Root, NewHolder, NewFolder, NewFile, Rewrite, NameFile, NameFolder, DropFile, DropFolder, ShiftFile, ShiftFolder, Give, Take, StrictRoot, Upgrade}
use Rattle.record_format.specs.Plain.{PlainContent}
use Rattle.record_format.specs.Told.{told_note}
use Rattle.role_graph.specs.Edges.{edges}
use Rattle.role_graph.specs.Roles.{holder_role, role_id}
use Rattle.public_fold.specs.Fitted.{are_due, fits_step, has_content_head, has_heads, has_length, has_link_head, payload_fits, told_stand, told_step}
use Rattle.public_fold.specs.Heads.{content_head, is_content_of}
use Rattle.public_fold.specs.Journal.{Entry, Journal, Stand, nothing, first_key, note_step, entry_step, entry_store, stand_then, stand_after, store_of, keys_of, root_note}
use Rattle.public_fold.specs.Journal.Entry.{Session, Made, Did, Upgraded}
use Rattle.public_fold.specs.KeyStep.{KeyState, Stepped, given, key_step, keys_then, next_serial, published, published_edges, renewed, step_with, is_strict}
use Rattle.public_fold.specs.Lengths.{end_of}
use Rattle.public_fold.specs.Records.{Content, Link, Piece, pieces_of, text_of}
use Rattle.public_fold.specs.StandFits.{all_fit, entry_fits, has_count, note_fits}
use Rattle.public_fold.specs.Told.{told_store}
use Rattle.public_fold.specs.Valid.{BeginsWell, FollowOn, IsValid}
use Rattle.public_fold.proofs.AllFit.{journal_all_fit}
use Rattle.public_fold.proofs.KeyMoves.{IsSound, effect_sound, root_sound}
use Rattle.public_fold.proofs.NotesFit as notes
use Rattle.public_fold.proofs.Numbers.{HasNumbers, IsWithin, numbers_below, within_did, within_made, within_session, within_upgraded}
use Rattle.public_fold.proofs.Serials.{numbered-length}
use Rattle.journal_bytes.specs.Bytes as bytes
use Rattle.journal_bytes.specs.Bytes.{bodies_from, bodies_of, content_record, entry_body, link_record, step_payload}
use Rattle.journal_bytes.specs.Folds.{fold_of, log_of, public_stand}
use Rattle.journal_bytes.specs.Keys.{AreWhole, bytes_in, drawn_by, owner_parts}
use Rattle.journal_bytes.specs.Notes.{declared_note}
use Rattle.journal_bytes.proofs.RootNotes.{of_root}
use Rattle.journal_bytes.proofs.SeenFits.{fits_seen}
use Rattle.journal_bytes.proofs.Sealable.{content_from}
use Rattle.journal_bytes.proofs.TextSizes.{AreShort, HasKeySize, IsSized, command_sized, effect_short, is_length, root_short, root_sized}
use Rattle.journal_bytes.proofs.ToldSkeleton.{bare, pieces_bare, same_change, same_heads, same_pieces}
use Rattle.journal_bytes.proofs.Weighed.{Sized}

-- ---- records have the heads that are due

link_due : (keys : List KeyParts) (l : Link) → has_link_head l (link_record keys l) ≡ true
unfolding has_link_head link_record sealed_link
link_due keys l =
    let same : (n : ℕ) → (n == n) ≡ true = λ n. eq-eqb n n refl in
    and_from (l.edge.kind == l.edge.kind) _ (same l.edge.kind)
    (and_from (role_id l.edge.from == role_id l.edge.from) _ (same (role_id l.edge.from))
    (and_from (role_id l.edge.to == role_id l.edge.to) _ (same (role_id l.edge.to))
    (and_from (l.from_serial == l.from_serial) _ (same l.from_serial)
    (and_from (l.to_serial == l.to_serial) (l.nonce == l.nonce) (same l.to_serial) (same l.nonce)))))

links_due : (keys : List KeyParts) (links : List Link) → are_due has_link_head links (map (link_record keys) links) ≡ true
unfolding are_due
links_due keys [] = refl
links_due keys (l ∷ links) =
    and_from (has_link_head l (link_record keys l)) (are_due has_link_head links (map (link_record keys) links)) (link_due keys l) (links_due keys links)

content_due : (keys : List KeyParts) (c : Content) → IsSized c.piece → is_content_of (content_head c) (content_record keys c) ≡ true
unfolding is_content_of content_record sealed_content has_length
content_due keys c size =
    let same : (n : ℕ) → (n == n) ≡ true = λ n. eq-eqb n n refl in
    let long = length-sealed (bytes_in keys c.key_serial) c.nonce (text_of c.piece) in
    and_from (c.piece.kind == c.piece.kind) _ (same c.piece.kind)
    (and_from (c.piece.object == c.piece.object) _ (same c.piece.object)
    (and_from (c.key_serial == c.key_serial) _ (same c.key_serial)
    (and_from (c.nonce == c.nonce) _ (same c.nonce)
    (ap (is_length c.piece.kind c.piece.object) long ∙ size))))

contents_due : (keys : List KeyParts) (cs : List Content) → ((c : Content) → In c cs → IsSized c.piece) → are_due is_content_of (map content_head cs) (map (content_record keys) cs) ≡ true
unfolding are_due
contents_due keys [] sizes = refl
contents_due keys (c ∷ cs) sizes =
    and_from (is_content_of (content_head c) (content_record keys c)) (are_due is_content_of (map content_head cs) (map (content_record keys) cs))
    (content_due keys c (sizes c (inl refl))) (contents_due keys cs (λ x i. sizes x (inr i)))

by_heads : (told : List Content) (rs : List PlainContent) → are_due has_content_head told rs ≡ are_due is_content_of (map content_head told) rs
unfolding are_due has_content_head is_content_of
by_heads [] [] = refl
by_heads [] (r ∷ rs) = refl
by_heads (c ∷ told) [] = refl
by_heads (c ∷ told) (r ∷ rs) = ap (λ b. is_content_of (content_head c) r && b) (by_heads told rs)

-- ---- a step that everyone may make differs in its texts alone

record IsToldAs (told step : Stepped) : Type 0 where
  after : told.after ≡ step.after
  links : told.links ≡ step.links
  contents : map content_head told.contents ≡ map content_head step.contents

abbrev counted : KeyState → ℕ → KeyState
counted k count = record k { count = count }

other_pieces : (k : KeyState) (before : List Edge) (c : Change) (ps qs : List Piece) → map bare ps ≡ map bare qs → IsToldAs (key_step k before c ps) (key_step k before c qs)
unfolding key_step step_with published
other_pieces k before c ps qs same =
    let new = given k c (renewed k before c) in
    let es = published_edges before c (renewed k before c) in
    let many : length ps ≡ length qs = sym (length-map ps bare) ∙ ap length same ∙ length-map qs bare in record {
      after = ap (λ n. counted (key_step k before c ps).after (k.count + length new + length es + n)) many;
      links = refl;
      contents = same_heads (keys_then k c (renewed k before c)) (next_serial k + length new + length es) ps qs same;
    }

told_as : (k : KeyState) (before edges_before : List Edge) (c d : Change) (ps qs : List Piece) → before ≡ edges_before → c ≡ d → map bare ps ≡ map bare qs
    → IsToldAs (key_step k before c ps) (key_step k edges_before d qs)
told_as k before edges_before c d ps qs same_edges same same_texts =
    subst (λ (es : List Edge). IsToldAs (key_step k before c ps) (key_step k es d qs)) same_edges
    (subst (λ (x : Change). IsToldAs (key_step k before c ps) (key_step k before x qs)) same (other_pieces k before c ps qs same_texts))

-- what everyone may see of a stand
abbrev pub shown : Stand → Stand
shown at = record { store = public_of at.store; keys = at.keys }

told_command : (at : Stand) (r : Request) (check : List ℕ) (drawn : List (List ℕ)) (n : ℕ) → refusal_of at.store r n ≡ None → IsToldAs (told_step (shown at) (note_of at.store r check)) (entry_step at (Did r drawn))
unfolding told_step note_step entry_step
told_command at r check drawn n none =
    let s = at.store in
    let note = note_of s r check in
    let plain = note_of s r [] in
    let t = effect s r (first_key drawn) in
    told_as at.keys (edges (public_of s)) (edges s) (change_of (is_strict at.keys) (public_of s) note) (change_of (is_strict at.keys) s plain) (pieces_of note (told_store (public_of s) note)) (pieces_of plain t)
    (edges_public s)
    (change_public (is_strict at.keys) s note ∙ same_change (is_strict at.keys) s r check)
    (ap (λ z. map bare (pieces_of note z)) (sym (accepted_told s r (first_key drawn) check n none)) ∙ pieces_bare note t ∙ ap (map bare) (same_pieces s r check t))

-- ---- a payload that fits

told_declared : (note : Note) → told_note (declared_note note) ≡ note
unfolding told_note declared_note
told_declared Root = refl
told_declared (NewHolder holder check) = refl
told_declared (NewFolder folder parent) = refl
told_declared (NewFile file folder) = refl
told_declared (Rewrite file) = refl
told_declared (NameFile file) = refl
told_declared (NameFolder folder) = refl
told_declared (DropFile file) = refl
told_declared (DropFolder folder) = refl
told_declared (ShiftFile file into) = refl
told_declared (ShiftFolder folder into) = refl
told_declared (Give holder folder) = refl
told_declared (Take holder folder) = refl
told_declared StrictRoot = refl
told_declared Upgrade = refl

heads_fit : (at : Stand) (keys : List KeyParts) (note : Note) (told step : Stepped) → IsToldAs told step → note_fits at note told ≡ true → ((c : Content) → In c step.contents → IsSized c.piece)
    → fits_step at note told (step_payload keys (declared_note note) step) ≡ true
unfolding fits_step has_heads step_payload
heads_fit at keys note told step told_is fit sizes =
    let ls = map (link_record keys) step.links in
    let cs = map (content_record keys) step.contents in
    let links : are_due has_link_head told.links ls ≡ true = ap (λ z. are_due has_link_head z ls) told_is.links ∙ links_due keys step.links in
    let contents : are_due has_content_head told.contents cs ≡ true =
    by_heads told.contents cs ∙ ap (λ z. are_due is_content_of z cs) told_is.contents ∙ contents_due keys step.contents sizes
    in
    and_from (note_fits at note told) (are_due has_link_head told.links ls && are_due has_content_head told.contents cs) fit
    (and_from (are_due has_link_head told.links ls) (are_due has_content_head told.contents cs) links contents)

-- what stands behind the payload of a step
behind_step : (at : Stand) (place : ℕ) (keys : List KeyParts) (note : Note) (step : Stepped) → IsToldAs (told_step at note) step → note_fits at note (told_step at note) ≡ true
    → ((c : Content) → In c step.contents → IsSized c.piece) → stand_behind at place (Commands (step_payload keys (declared_note note) step)) ≡ Ok (told_stand at note)
unfolding stand_behind payload_fits step_payload declared_note
behind_step at place keys note step told_is fit sizes =
    let p = step_payload keys (declared_note note) step in
    ap (λ z. if fits_step at z (told_step at z) p then Ok (told_stand at z) else Err (Damaged place)) (told_declared note)
    ∙ ap (λ b. if b then Ok (told_stand at note) else Err (Damaged place)) (heads_fit at keys note (told_step at note) step told_is fit sizes)

-- ---- a command

pieces_sized : (k : KeyState) (before : List Edge) (c : Change) (ps : List Piece) → ((p : Piece) → In p ps → IsSized p) → (x : Content) → In x (key_step k before c ps).contents → IsSized x.piece
unfolding key_step step_with published
pieces_sized k before c ps sizes x i =
    let plan_of = renewed k before c in
    sizes x.piece (content_from (keys_then k c plan_of) (next_serial k + length (given k c plan_of) + length (published_edges before c plan_of)) ps x i).0

pub command_contents : (at : Stand) (r : Request) (drawn : List (List ℕ)) → IsSound at.store → AreShort at.store → refusal_of at.store r most_file_bytes ≡ None → HasKeySize r (first_key drawn)
    → (c : Content) → In c (entry_step at (Did r drawn)).contents → IsSized c.piece
unfolding entry_step note_step
command_contents at r drawn sound short none size =
    let note = note_of at.store r [] in
    pieces_sized at.keys (edges at.store) (change_of (is_strict at.keys) at.store note) (pieces_of note (effect at.store r (first_key drawn)))
    (command_sized at.store r (first_key drawn) [] sound short none size)

command_fits : (at : Stand) (r : Request) (check : List ℕ) (drawn : List (List ℕ)) (told : Stepped) → IsSound at.store → HasNumbers at.store → refusal_in (is_strict at.keys) at.store r most_file_bytes ≡ None → entry_fits at (Did r drawn) ≡ true
    → told.after ≡ (entry_step at (Did r drawn)).after → note_fits (shown at) (note_of at.store r check) told ≡ true
unfolding entry_fits note_fits has_count
command_fits at r check drawn told sound few none fit same =
    let s = at.store in
    let note = note_of s r check in
    let strict = is_strict at.keys in
    let step = entry_step at (Did r drawn) in
    let one = and_parts (nat_lt 0 at.keys.epoch) (fits strict s (note_of s r []) && nat_lt step.after.count (2 ^ 32 - 1)) fit in
    let two = and_parts (fits strict s (note_of s r [])) (nat_lt step.after.count (2 ^ 32 - 1)) one.1 in
    let here : fits strict (public_of s) note ≡ true = fits_seen strict s note ∙ notes.accepted_fits strict s r check most_file_bytes none few sound.tree in
    and_from (nat_lt 0 at.keys.epoch) (fits strict (public_of s) note && nat_lt told.after.count (2 ^ 32 - 1)) one.0
    (and_from (fits strict (public_of s) note) (nat_lt told.after.count (2 ^ 32 - 1)) here (ap (λ (k : KeyState). nat_lt k.count (2 ^ 32 - 1)) same ∙ two.1))

command_behind : (at : Stand) (place : ℕ) (keys : List KeyParts) (r : Request) (drawn : List (List ℕ)) → IsSound at.store → HasNumbers at.store → AreShort at.store → refusal_in (is_strict at.keys) at.store r most_file_bytes ≡ None → entry_fits at (Did r drawn) ≡ true
    → HasKeySize r (first_key drawn) → stand_behind (shown at) place (entry_body keys at (Did r drawn)) ≡ Ok (shown (stand_then at (Did r drawn)))
unfolding entry_body stand_then entry_store told_stand
command_behind at place keys r drawn sound few short none fit size =
    let s = at.store in
    let taken = accepted_in (is_strict at.keys) s r most_file_bytes none in
    let check = check_of (first_key drawn) in
    let note = note_of s r check in
    let told_is = told_command at r check drawn most_file_bytes taken in
    behind_step (shown at) place keys note (entry_step at (Did r drawn)) told_is (command_fits at r check drawn (told_step (shown at) note) sound few none fit told_is.after) (command_contents at r drawn sound short taken size)
    ∙ (λ i. Ok (record { store = sym (accepted_told s r (first_key drawn) check most_file_bytes taken) i; keys = told_is.after i }))

-- a new holder's key is one of those drawn
holder_given : (at : Stand) (drawn : List (List ℕ)) → 1 ≤ length (entry_step at (Did AddHolder drawn)).given
unfolding entry_step note_step key_step step_with published given note_of change_of row_change no_change
holder_given at drawn =
    let note = note_of at.store AddHolder [] in
    let c = change_of (is_strict at.keys) at.store note in
    let plan_of = renewed at.keys (edges at.store) c in
    let many = numbered-length Role (next_serial at.keys) (plan_of ++ holder_role (at.store.holders_made + 1) ∷ []) in
    let long = length-append plan_of (holder_role (at.store.holders_made + 1) ∷ []) in
    omega (arith, many, long)

pub key_sized : (at : Stand) (r : Request) (drawn : List (List ℕ)) → length drawn ≡ length (entry_step at (Did r drawn)).given → All (λ (key : List ℕ). length key ≡ 32) drawn → HasKeySize r (first_key drawn)
unfolding first_key
key_sized at AddHolder [] many sizes = let some = holder_given at [] in absurd (omega (arith, some, many))
key_sized at AddHolder (key ∷ drawn) many sizes = All-head (λ (key : List ℕ). length key ≡ 32) key drawn sizes
key_sized at (MakeFolder path) drawn many sizes = tt
key_sized at (WriteFile path bytes) drawn many sizes = tt
key_sized at (Remove path) drawn many sizes = tt
key_sized at (Rename path name) drawn many sizes = tt
key_sized at (Relocate path into) drawn many sizes = tt
key_sized at (Grant h path) drawn many sizes = tt
key_sized at (Revoke h path) drawn many sizes = tt

-- ---- entries

session_behind : (at : Stand) (place : ℕ) (keys : List KeyParts) → stand_behind (shown at) place (entry_body keys at Session) ≡ Ok (shown (stand_then at Session))
unfolding stand_behind entry_body stand_then entry_store entry_step
session_behind at place keys = refl

-- an upgrade seals nothing
upgraded_as : (at : Stand) (drawn : List (List ℕ)) → IsToldAs (told_step (shown at) Upgrade) (entry_step at (Upgraded drawn))
unfolding told_step told_store note_step entry_step pieces_of
upgraded_as at drawn =
    let strict = is_strict at.keys in
    told_as at.keys (edges (public_of at.store)) (edges at.store) (change_of strict (public_of at.store) Upgrade) (change_of strict at.store Upgrade) [] []
    (edges_public at.store) (change_public strict at.store Upgrade) refl

pub upgraded_contents : (at : Stand) (drawn : List (List ℕ)) (c : Content) → In c (entry_step at (Upgraded drawn)).contents → IsSized c.piece
unfolding entry_step note_step pieces_of
upgraded_contents at drawn = pieces_sized at.keys (edges at.store) (change_of (is_strict at.keys) at.store Upgrade) [] (λ p i. absurd i)

upgraded_fits : (at : Stand) (drawn : List (List ℕ)) (told : Stepped) → entry_fits at (Upgraded drawn) ≡ true → told.after ≡ (entry_step at (Upgraded drawn)).after
    → note_fits (shown at) Upgrade told ≡ true
unfolding entry_fits note_fits has_count
upgraded_fits at drawn told fit same =
    let s = at.store in
    let strict = is_strict at.keys in
    let step = entry_step at (Upgraded drawn) in
    let one = and_parts (nat_lt 0 at.keys.epoch) (fits strict s Upgrade && nat_lt step.after.count (2 ^ 32 - 1)) fit in
    let two = and_parts (fits strict s Upgrade) (nat_lt step.after.count (2 ^ 32 - 1)) one.1 in
    and_from (nat_lt 0 at.keys.epoch) (fits strict (public_of s) Upgrade && nat_lt told.after.count (2 ^ 32 - 1)) one.0
    (and_from (fits strict (public_of s) Upgrade) (nat_lt told.after.count (2 ^ 32 - 1)) (fits_seen strict s Upgrade ∙ two.0) (ap (λ (k : KeyState). nat_lt k.count (2 ^ 32 - 1)) same ∙ two.1))

upgraded_behind : (at : Stand) (place : ℕ) (keys : List KeyParts) (drawn : List (List ℕ)) → entry_fits at (Upgraded drawn) ≡ true
    → stand_behind (shown at) place (entry_body keys at (Upgraded drawn)) ≡ Ok (shown (stand_then at (Upgraded drawn)))
unfolding entry_body stand_then entry_store told_stand told_store
upgraded_behind at place keys drawn fit =
    let told_is = upgraded_as at drawn in
    behind_step (shown at) place keys Upgrade (entry_step at (Upgraded drawn)) told_is (upgraded_fits at drawn (told_step (shown at) Upgrade) fit told_is.after) (upgraded_contents at drawn)
    ∙ (λ i. Ok (record { store = public_of at.store; keys = told_is.after i }))

upgraded_sound : (at : Stand) (drawn : List (List ℕ)) → IsSound at.store → IsSound (stand_then at (Upgraded drawn)).store
unfolding stand_then entry_store
upgraded_sound at drawn sound = sound

upgraded_short : (at : Stand) (drawn : List (List ℕ)) → AreShort at.store → AreShort (stand_then at (Upgraded drawn)).store
unfolding stand_then entry_store
upgraded_short at drawn short = short

-- before the root is made
abbrev begun : Stand
begun = stand_then nothing Session

-- either note that makes the root seals its name
either_sized : (version : ℕ) (p : Piece) → In p (pieces_of (root_note version) root_store) → IsSized p
unfolding pieces_of
either_sized version = of_root (λ note. (p : Piece) → In p (pieces_of note root_store) → IsSized p) root_sized root_sized version

made_as : (version : ℕ) (drawn : List (List ℕ)) → IsToldAs (told_step (shown begun) (root_note version)) (entry_step begun (Made version drawn))
unfolding told_step told_store note_step entry_step stand_then entry_store nothing no_store public_of
made_as version drawn =
    of_root (λ note. IsToldAs (told_step (shown begun) note) (note_step begun note root_store))
    (record { after = refl; links = refl; contents = refl }) (record { after = refl; links = refl; contents = refl }) version

made_fits : (version : ℕ) (drawn : List (List ℕ)) → entry_fits begun (Made version drawn) ≡ true → note_fits (shown begun) (root_note version) (told_step (shown begun) (root_note version)) ≡ true
unfolding entry_fits told_step told_store note_step entry_step stand_then entry_store nothing no_store public_of
made_fits version drawn = of_root (λ note. note_fits begun note (note_step begun note root_store) ≡ true → note_fits (shown begun) note (told_step (shown begun) note) ≡ true) (λ fit. fit) (λ fit. fit) version

pub made_contents : (version : ℕ) (drawn : List (List ℕ)) (c : Content) → In c (entry_step begun (Made version drawn)).contents → IsSized c.piece
unfolding entry_step note_step
made_contents version drawn = pieces_sized begun.keys (edges begun.store) (change_of (is_strict begun.keys) begun.store (root_note version)) (pieces_of (root_note version) root_store) (either_sized version)

made_stand : (version : ℕ) (drawn : List (List ℕ)) → told_stand (shown begun) (root_note version) ≡ shown (stand_then begun (Made version drawn))
unfolding told_stand told_step told_store note_step entry_step stand_then entry_store nothing root_store no_store public_of
made_stand version drawn =
    of_root (λ note. told_stand (shown begun) note ≡ shown (record { store = root_store; keys = (note_step begun note root_store).after })) refl refl version

made_body : (keys : List KeyParts) (version : ℕ) (drawn : List (List ℕ)) → entry_body keys begun (Made version drawn) ≡ Commands (step_payload keys (declared_note (root_note version)) (entry_step begun (Made version drawn)))
unfolding entry_body declared_note
made_body keys version drawn = refl

made_behind : (place : ℕ) (keys : List KeyParts) (version : ℕ) (drawn : List (List ℕ)) → entry_fits begun (Made version drawn) ≡ true
    → stand_behind (shown begun) place (entry_body keys begun (Made version drawn)) ≡ Ok (shown (stand_then begun (Made version drawn)))
made_behind place keys version drawn fit =
    ap (stand_behind (shown begun) place) (made_body keys version drawn)
    ∙ behind_step (shown begun) place keys (root_note version) (entry_step begun (Made version drawn)) (made_as version drawn) (made_fits version drawn fit) (made_contents version drawn)
    ∙ ap Ok (made_stand version drawn)

next_behind : (at next : Stand) (place : ℕ) (body : PlainBody) (log : List PlainPlaced) (last : Stand) → stand_behind at place body ≡ Ok next → folded next log ≡ Ok last
    → and_then (stand_behind at place body) (λ b. folded b log) ≡ Ok last
unfolding and_then
next_behind at next place body log last here rest = ap (λ r. and_then r (λ b. folded b log)) here ∙ rest

session_sound : (at : Stand) → IsSound at.store → IsSound (stand_then at Session).store
unfolding stand_then entry_store
session_sound at sound = sound

session_short : (at : Stand) → AreShort at.store → AreShort (stand_then at Session).store
unfolding stand_then entry_store
session_short at short = short

drawn_sizes : (r : Request) (drawn : List (List ℕ)) → Sized (Did r drawn) → All (λ (key : List ℕ). length key ≡ 32) drawn
unfolding drawn_by
drawn_sizes r drawn sizes = sizes

did_sound : (at : Stand) (r : Request) (drawn : List (List ℕ)) → refusal_in (is_strict at.keys) at.store r most_file_bytes ≡ None → HasNumbers at.store → IsSound at.store → IsSound (stand_then at (Did r drawn)).store
unfolding stand_then entry_store
did_sound at r drawn none few sound = effect_sound (is_strict at.keys) at.store r (first_key drawn) most_file_bytes none few sound

did_short : (at : Stand) (r : Request) (drawn : List (List ℕ)) → refusal_in (is_strict at.keys) at.store r most_file_bytes ≡ None → AreShort at.store → AreShort (stand_then at (Did r drawn)).store
unfolding stand_then entry_store
did_short at r drawn none short = effect_short at.store r (first_key drawn) (accepted_in (is_strict at.keys) at.store r most_file_bytes none) short

follows : (keys : List KeyParts) (entries : List Entry) (at : Stand) (place number epoch : ℕ) → IsSound at.store → IsWithin at entries → AreShort at.store → FollowOn at entries → all_fit at entries ≡ true → All Sized entries
    → folded (shown at) (placed_from place number epoch (bodies_from keys at entries)) ≡ Ok (shown (stand_after at entries))
unfolding folded bodies_from stand_after all_fit
follows keys [] at place number epoch sound few short follow fit sizes = refl
follows keys (Session ∷ entries) at place number epoch sound few short follow fit sizes =
    let later = bytes.keys_then keys at Session in
    let body = entry_body later at Session in
    let batch = batch_of number epoch body in
    let next = stand_then at Session in
    let log = placed_from (place + (batch_len + length batch.payload)) batch.number batch.epoch (bodies_from later next entries) in
    next_behind (shown at) (shown next) (place + 45) body log (shown (stand_after next entries)) (session_behind at (place + 45) later)
    (follows later entries next (place + (batch_len + length batch.payload)) batch.number batch.epoch (session_sound at sound) (within_session at entries few) (session_short at short) follow.1
    (and_parts (entry_fits at Session) (all_fit next entries) fit).1 (All-tail Sized Session entries sizes))
follows keys (Made version drawn ∷ entries) at place number epoch sound few short follow fit sizes = absurd follow.0
follows keys (Did r drawn ∷ entries) at place number epoch sound few short follow fit sizes =
    let later = bytes.keys_then keys at (Did r drawn) in
    let body = entry_body later at (Did r drawn) in
    let batch = batch_of number epoch body in
    let next = stand_then at (Did r drawn) in
    let log = placed_from (place + (batch_len + length batch.payload)) batch.number batch.epoch (bodies_from later next entries) in
    let fits_both = and_parts (entry_fits at (Did r drawn)) (all_fit next entries) fit in
    let size = key_sized at r drawn follow.0.1 (drawn_sizes r drawn (All-head Sized (Did r drawn) entries sizes)) in
    next_behind (shown at) (shown next) (place + 45) body log (shown (stand_after next entries)) (command_behind at (place + 45) later r drawn sound (numbers_below at (Did r drawn) entries few) short follow.0.0 fits_both.0 size)
    (follows later entries next (place + (batch_len + length batch.payload)) batch.number batch.epoch (did_sound at r drawn follow.0.0 (numbers_below at (Did r drawn) entries few) sound) (within_did at r drawn entries few) (did_short at r drawn follow.0.0 short) follow.1
    fits_both.1 (All-tail Sized (Did r drawn) entries sizes))
follows keys (Upgraded drawn ∷ entries) at place number epoch sound few short follow fit sizes =
    let later = bytes.keys_then keys at (Upgraded drawn) in
    let body = entry_body later at (Upgraded drawn) in
    let batch = batch_of number epoch body in
    let next = stand_then at (Upgraded drawn) in
    let log = placed_from (place + (batch_len + length batch.payload)) batch.number batch.epoch (bodies_from later next entries) in
    let fits_both = and_parts (entry_fits at (Upgraded drawn)) (all_fit next entries) fit in
    next_behind (shown at) (shown next) (place + 45) body log (shown (stand_after next entries)) (upgraded_behind at (place + 45) later drawn fits_both.0)
    (follows later entries next (place + (batch_len + length batch.payload)) batch.number batch.epoch (upgraded_sound at drawn sound) (within_upgraded at drawn entries few) (upgraded_short at drawn short) follow.1
    fits_both.1 (All-tail Sized (Upgraded drawn) entries sizes))

first_shown : shown nothing ≡ nothing
unfolding nothing no_store public_of
first_shown = refl

made_sound : (version : ℕ) (drawn : List (List ℕ)) → IsSound (stand_then begun (Made version drawn)).store
unfolding stand_then entry_store
made_sound version drawn = root_sound

made_short : (version : ℕ) (drawn : List (List ℕ)) → AreShort (stand_then begun (Made version drawn)).store
unfolding stand_then entry_store
made_short version drawn = root_short

begins : (keys : List KeyParts) (m : Journal) → BeginsWell m → end_of m ≤ most_store_bytes → all_fit nothing m ≡ true → All Sized m → folded (shown nothing) (placed_from header_len 0 0 (bodies_from keys nothing m)) ≡ Ok (shown (stand_after nothing m))
unfolding folded bodies_from stand_after all_fit
begins keys [] b low fit sizes = absurd b
begins keys (Session ∷ []) b low fit sizes = absurd b
begins keys (Session ∷ Session ∷ es) b low fit sizes = absurd b
begins keys (Session ∷ Made version drawn ∷ es) b low fit sizes =
    let first = bytes.keys_then keys nothing Session in
    let body = entry_body first nothing Session in
    let batch = batch_of 0 0 body in
    let later = bytes.keys_then first begun (Made version drawn) in
    let made = entry_body later begun (Made version drawn) in
    let second = batch_of batch.number batch.epoch made in
    let place = header_len + (batch_len + length batch.payload) in
    let next = stand_then begun (Made version drawn) in
    let log = placed_from (place + (batch_len + length second.payload)) second.number second.epoch (bodies_from later next es) in
    let outer = and_parts (entry_fits nothing Session) (entry_fits begun (Made version drawn) && all_fit next es) fit in
    let inner = and_parts (entry_fits begun (Made version drawn)) (all_fit next es) outer.1 in
    let rest = All-tail Sized Session (Made version drawn ∷ es) sizes in
    next_behind (shown nothing) (shown begun) (header_len + 45) body (placed_from place batch.number batch.epoch (made ∷ bodies_from later next es)) (shown (stand_after next es)) (session_behind nothing (header_len + 45) first)
    (next_behind (shown begun) (shown next) (place + 45) made log (shown (stand_after next es)) (made_behind (place + 45) later version drawn inner.0)
    (follows later es next (place + (batch_len + length second.payload)) second.number second.epoch (made_sound version drawn) (within_made version drawn es low) (made_short version drawn) b.1 inner.1 (All-tail Sized (Made version drawn) es rest)))
begins keys (Session ∷ Did request drawn ∷ es) b low fit sizes = absurd b
begins keys (Session ∷ Upgraded drawn ∷ es) b low fit sizes = absurd b
begins keys (Made version drawn ∷ es) b low fit sizes = absurd b
begins keys (Did request drawn ∷ es) b low fit sizes = absurd b
begins keys (Upgraded drawn ∷ es) b low fit sizes = absurd b

pub journal_followed : (owner : List ℕ) (m : Journal) → IsValid m → AreWhole owner m → fold_of owner m ≡ Ok (public_stand m)
unfolding fold_of log_of bodies_of public_stand store_of keys_of
journal_followed owner m valid whole =
    ap (λ z. folded z (placed_from header_len 0 0 (bodies_from (owner_parts owner ∷ []) nothing m))) (sym first_shown)
    ∙ begins (owner_parts owner ∷ []) m valid.0 valid.1 (journal_all_fit m valid) whole.drawn_sizes
