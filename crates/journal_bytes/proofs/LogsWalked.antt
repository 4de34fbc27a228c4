-- What holds of the records of a valid journal's log.
use Rattle.std.proofs.Common.{◌≡◌, ◌⊎◌, ⊎_elim, inl, inr, cond, ℕ, ◌+◌, ◌≤◌, true, ◌&&◌, List, [], ◌∷◌, ◌++◌, length, Some, None, append_assoc, append-nil, arith, refl, sym, ap, subst, ◌∙◌, Bool, false}
use Rattle.std.specs.Prelude.{nat_lt}
use Rattle.std.proofs.lemmas.Bool.{and_parts, ltb-true}
use Rattle.chacha_seal.specs.Keys.{KeyParts}
use Rattle.chacha_seal.specs.Sealing.{check_of}
use Rattle.commit_journal.specs.Laws.{batch_of, placed_from}
use Rattle.commit_journal.specs.Placed.{PlainPlaced}
use Rattle.commit_journal.specs.Places.{content_offset, link_offset}
use Rattle.cry_base.specs.Layout.{batch_len, header_len}
use Rattle.cry_base.specs.Limits.{most_file_bytes, most_store_bytes}
use Rattle.cry_base.specs.Refusing.{refusal_in}
use Rattle.cry_base.proofs.Versions.{accepted_in}
use Rattle.cry_base.specs.Requests.{Request}
use Rattle.cry_base.specs.Requests.Request.{AddHolder}
use Rattle.cry_base.specs.Sets.{In}
use Rattle.cry_base.specs.Stepping.{effect}
use Rattle.cry_base.specs.Store.{Store, HolderEntry, no_store, root_store}
use Rattle.cry_base.specs.declared.roles.Role.{Role}
use Rattle.cry_base.specs.declared.roles.Role.TheVariants.{Owner}
use Rattle.log_visits.specs.Placing.{PlacedContent, PlacedLink, body_contents, body_links, log_contents, log_links}
use Rattle.move_plan.specs.Change.{Change, change_of, no_change, row_change, strict_of, is_upgrade}
use Rattle.move_plan.specs.Fitting.{fits}
use Rattle.move_plan.specs.Noting.{note_of}
use Rattle.record_format.specs.Noted.{Note}
use Rattle.record_format.specs.Noted.Note.{NewHolder, Upgrade}
use Rattle.public_fold.specs.Journal.{Entry, Journal, Stand, nothing, first_key, note_step, entry_step, entry_store, stand_then, stand_after, store_of, keys_of, root_note}
use Rattle.public_fold.specs.Journal.Entry.{Session, Made, Did, Upgraded}
use Rattle.public_fold.specs.Keyed.{KeysHold}
use Rattle.public_fold.specs.KeyStep.{KeyState, Stepped, given, key_step, keys_then, keys_without, newest, next_epoch, next_serial, no_keys, numbered, published, renewed, step_with, is_strict}
use Rattle.public_fold.specs.Lengths.{end_of}
use Rattle.public_fold.specs.Records.{Link, Piece, pieces_of}
use Rattle.role_graph.specs.Edges.{edges}
use Rattle.role_graph.specs.Roles.{holder_role, role_id, same_role, variant_of}
use Rattle.rekey_walk.specs.Strict.{strict_roles}
use Rattle.rekey_walk.proofs.Sources.{strict_told}
use Rattle.role_graph.proofs.Comparing.{same_role_tells}
use Rattle.public_fold.specs.StandFits.{all_fit, entry_fits, has_count, note_fits}
use Rattle.public_fold.specs.Valid.{BeginsWell, FollowOn, IsValid}
use Rattle.public_fold.proofs.Accepting.{accepted}
use Rattle.public_fold.proofs.AllFit.{journal_all_fit}
use Rattle.public_fold.proofs.KeyMoves.{IsSound, command_moves, effect_sound, epoch_holds, nothing_holds, root_moves, root_sound, upgrade_moves}
use Rattle.public_fold.proofs.KeepingKeys.{IsMove, keys_after, planned_told, renewed_told}
use Rattle.public_fold.proofs.Numbers.{HasNumbers, IsWithin, numbers_below, within_did, within_made, within_session, within_upgraded}
use Rattle.public_fold.proofs.Serials.{numbered-length}
use Rattle.journal_bytes.specs.Bytes as bytes
use Rattle.journal_bytes.specs.Bytes.{bodies_from, bodies_of, entry_body, step_payload}
use Rattle.journal_bytes.specs.Folds.{log_of}
use Rattle.journal_bytes.specs.Keys.{AreWhole, all_keys, bytes_in, drawn_by, entry_keys, key_bytes, keys_from, owner_parts, with_bytes}
use Rattle.journal_bytes.specs.Notes.{declared_note}
use Rattle.journal_bytes.specs.Opening.{AreLast, HoldsPresent}
use Rattle.journal_bytes.proofs.Ascending.{drawn_found}
use Rattle.journal_bytes.proofs.Counted.{IsFed, have_at_first, have_then}
use Rattle.journal_bytes.proofs.Kept.{command_holders, command_kept, either_kept, upgrade_kept}
use Rattle.journal_bytes.proofs.Sealable.{fresh_once, pieces_due}
use Rattle.journal_bytes.proofs.Walked.{AreHoldersKeyed, IsHolderKeyed, IsWalked, IsZeroOwners, step_walked}
use Rattle.journal_bytes.proofs.Weighed.{AreFed, begins_fed}

-- ---- one entry

same_walked : (keys others : List KeyParts) (s : Store) (k : KeyState) (ls ms : List PlacedLink) (cs ds : List PlacedContent) → keys ≡ others → ls ≡ ms → cs ≡ ds → IsWalked keys s k ls cs → IsWalked others s k ms ds
same_walked keys others s k ls ms cs ds a b c is =
    subst (λ z. IsWalked others s k ms z) c (subst (λ z. IsWalked others s k z cs) b (subst (λ z. IsWalked z s k ls cs) a is))

session_walked : (keys : List KeyParts) (s : Store) (k : KeyState) (ls : List PlacedLink) (cs : List PlacedContent) → IsWalked keys s k ls cs → IsWalked keys s (next_epoch k) ls cs
unfolding next_epoch
session_walked keys s k ls cs is =
    let last = is.contents_present in record {
      have = record { long = is.have.long; owner = is.have.owner; each = is.have.each };
      zero = is.zero;
      each_link = is.each_link;
      contents_present = record {
        folders = λ e i. let x = last.folders e i in record { placed = x.placed; is_last = x.is_last; serial = x.serial; is_present = x.is_present; nonce = x.nonce; is_sealed = x.is_sealed };
        files = λ e i. let x = last.files e i in record { placed = x.placed; is_last = x.is_last; serial = x.serial; is_present = x.is_present; nonce = x.nonce; is_sealed = x.is_sealed };
        holders = λ e i. let x = last.holders e i in record { placed = x.placed; is_last = x.is_last; serial = x.serial; is_present = x.is_present; nonce = x.nonce; is_sealed = x.is_sealed };
      };
      owner_first = is.owner_first;
      holders_keyed = is.holders_keyed;
    }

-- an epoch was begun before a note
begun_from : (at : Stand) (note : Note) (step : Stepped) → note_fits at note step ≡ true → 1 ≤ at.keys.epoch
unfolding note_fits
begun_from at note step fit = ltb-true 0 at.keys.epoch (and_parts (nat_lt 0 at.keys.epoch) (fits (is_strict at.keys) at.store note && has_count step) fit).0

-- a new holder's key is the one that was drawn
key_given : (n : ℕ) (r : Role) (drawn : List (List ℕ)) (rest : List (Role × ℕ)) → length drawn ≡ 1
    → (q : KeyParts) × In q (with_bytes (numbered n (r ∷ [])) drawn) × (newest (numbered n (r ∷ []) ++ rest) r ≡ Some q.serial) × (q.bytes ≡ first_key drawn)
unfolding with_bytes numbered newest first_key
key_given n r [] rest one = absurd (omega (arith, one))
key_given n r (b ∷ drawn) rest one =
    (record { id = role_id r; serial = n; bytes = b }, inl refl, ap (λ t. cond t (Some n) (newest rest r)) ((same_role_tells r r).1 refl), refl)

nothing_in : (X : Type 0) (xs : List X) → ((x : X) → In x xs → ⊥) → xs ≡ []
nothing_in X [] none = refl
nothing_in X (x ∷ xs) none = absurd (none x (inl refl))

holder_drawn : (s t : Store) (k : KeyState) (h : ℕ) (c : Change) (links : List Link) (ps : List Piece) (drawn : List (List ℕ)) → IsMove s c t → KeysHold s k links → c.wanted ≡ [] → c.strict ≡ [] → c.fresh ≡ holder_role h ∷ []
    → length drawn ≡ length (key_step k (edges s) c ps).given
    → (q : KeyParts) × In q (with_bytes (key_step k (edges s) c ps).given drawn) × (newest (key_step k (edges s) c ps).after.keys (holder_role h) ≡ Some q.serial) × (q.bytes ≡ first_key drawn)
unfolding key_step step_with published keys_then given
holder_drawn s t k h c links ps drawn mv ok wants lazy fresh many =
    let plan = renewed k (edges s) c in
    let none : plan ≡ [] = nothing_in Role plan (λ r i. ⊎_elim
    (λ u. subst (λ (l : List Role). In r l) lazy u)
    (λ p. let w = (planned_told s t k c links mv ok r).0 p in subst (λ (ws : List Role). In w.1.0 ws) wants w.1.1)
    ((renewed_told s t k c links mv ok r).0 i)) in
    let one : plan ++ c.fresh ≡ holder_role h ∷ [] = (λ i. none i ++ fresh i) in
    let n = next_serial k in
    let rest = keys_without (plan ++ c.gone) k.keys in
    let count : length drawn ≡ 1 = many ∙ numbered-length Role n (plan ++ c.fresh) ∙ ap length one in
    subst (λ (rs : List Role). (q : KeyParts) × In q (with_bytes (numbered n rs) drawn) × (newest (numbered n rs ++ rest) (holder_role h) ≡ Some q.serial) × (q.bytes ≡ first_key drawn)) (sym one)
    (key_given n (holder_role h) drawn rest count)

abbrev IsDrawn : Stand → Request → List (List ℕ) → Type 0
IsDrawn at r drawn =
    (q : KeyParts) × In q (entry_keys at (Did r drawn)) × (newest (entry_step at (Did r drawn)).after.keys (holder_role (at.store.holders_made + 1)) ≡ Some q.serial) × (q.bytes ≡ first_key drawn)

-- no role is strict for a new holder, since no edge goes
holder_strict : (strict : Bool) (s : Store) (h : ℕ) (check : List ℕ) → (change_of strict s (NewHolder h check)).strict ≡ []
unfolding change_of strict_of is_upgrade row_change no_change
holder_strict true s h check = nothing_in Role (strict_roles (edges s) [] []) (λ r i. ((strict_told (edges s) [] [] r).0 i).0.1)
holder_strict false s h check = refl

holder_entry_drawn : (at : Stand) (drawn : List (List ℕ)) (links : List Link) → IsSound at.store → HasNumbers at.store → KeysHold at.store at.keys links → refusal_in (is_strict at.keys) at.store AddHolder most_file_bytes ≡ None
    → IsFed at (Did AddHolder drawn) → IsDrawn at AddHolder drawn
unfolding entry_keys drawn_by entry_step note_step note_of change_of row_change no_change
holder_entry_drawn at drawn links sound few ok none fed =
    let s = at.store in
    let h = s.holders_made + 1 in
    let note = note_of s AddHolder [] in
    holder_drawn s (effect s AddHolder (first_key drawn)) at.keys h (change_of (is_strict at.keys) s note) links (pieces_of note (effect s AddHolder (first_key drawn))) drawn
    (command_moves (is_strict at.keys) s AddHolder (first_key drawn) [] most_file_bytes none few sound) ok refl (holder_strict (is_strict at.keys) s h []) refl fed.many

did_drawn : (at : Stand) (r : Request) (drawn : List (List ℕ)) (links : List Link) → r ≡ AddHolder → IsSound at.store → HasNumbers at.store → KeysHold at.store at.keys links → refusal_in (is_strict at.keys) at.store r most_file_bytes ≡ None
    → IsFed at (Did r drawn) → IsDrawn at r drawn
did_drawn at r drawn links is sound few ok none fed =
    subst (λ z. IsDrawn at z drawn) (sym is)
    (holder_entry_drawn at drawn links sound few ok (subst (λ z. refusal_in (is_strict at.keys) at.store z most_file_bytes ≡ None) is none) (subst (λ z. IsFed at (Did z drawn)) is fed))

did_holders : (at : Stand) (r : Request) (drawn : List (List ℕ)) (links : List Link) → IsSound at.store → HasNumbers at.store → KeysHold at.store at.keys links → refusal_in (is_strict at.keys) at.store r most_file_bytes ≡ None → IsFed at (Did r drawn)
    → (e : HolderEntry) → In e (effect at.store r (first_key drawn)).holders → In e at.store.holders ⊎ IsHolderKeyed (entry_keys at (Did r drawn)) (entry_step at (Did r drawn)).after e
did_holders at r drawn links sound few ok none fed e i = ⊎_elim
    (λ old. inl old)
    (λ new. let w = did_drawn at r drawn links new.0 sound few ok none fed in
    inr (w.0, w.1, ap (λ n. newest (entry_step at (Did r drawn)).after.keys (holder_role n)) new.1 ∙ w.2, w.3 ∙ sym new.2))
    (command_holders at.store r (first_key drawn) e i)

did_walked : (keys : List KeyParts) (at : Stand) (r : Request) (drawn : List (List ℕ)) (links : List Link) (batch place : ℕ) (ls : List PlacedLink) (cs : List PlacedContent) → IsSound at.store → HasNumbers at.store → KeysHold at.store at.keys links
    → refusal_in (is_strict at.keys) at.store r most_file_bytes ≡ None → entry_fits at (Did r drawn) ≡ true → IsFed at (Did r drawn) → IsWalked keys at.store at.keys ls cs
    → IsWalked (bytes.keys_then keys at (Did r drawn)) (stand_then at (Did r drawn)).store (stand_then at (Did r drawn)).keys
    (ls ++ body_links batch place (entry_body (bytes.keys_then keys at (Did r drawn)) at (Did r drawn))) (cs ++ body_contents batch place (entry_body (bytes.keys_then keys at (Did r drawn)) at (Did r drawn)))
unfolding bytes.keys_then stand_then entry_store entry_body body_links body_contents step_payload entry_step note_step entry_fits change_of
did_walked keys at r drawn links batch place ls cs sound few ok none fit fed is =
    let s = at.store in
    let note = note_of s r [] in
    let t = effect s r (first_key drawn) in
    let more = entry_keys at (Did r drawn) in
    let whole = step_payload (keys ++ more) (declared_note (note_of s r (check_of (first_key drawn)))) (entry_step at (Did r drawn)) in
    step_walked keys more s t at.keys (change_of (is_strict at.keys) s note) links (pieces_of note t) (command_moves (is_strict at.keys) s r (first_key drawn) [] most_file_bytes none few sound) ok (fresh_once (is_strict at.keys) s note) (pieces_due note t)
    batch (place + link_offset whole 0) (place + content_offset whole 0) ls cs (begun_from at note (entry_step at (Did r drawn)) fit) (have_then keys at (Did r drawn) is.have fed)
    (command_kept s r (first_key drawn) (accepted s r most_file_bytes (accepted_in (is_strict at.keys) s r most_file_bytes none)) sound.rooted.counted
    (effect_sound (is_strict at.keys) s r (first_key drawn) most_file_bytes none few sound).tree)
    (did_holders at r drawn links sound few ok none fed) is

upgraded_walked : (keys : List KeyParts) (at : Stand) (drawn : List (List ℕ)) (links : List Link) (batch place : ℕ) (ls : List PlacedLink) (cs : List PlacedContent) → IsSound at.store → KeysHold at.store at.keys links
    → entry_fits at (Upgraded drawn) ≡ true → IsFed at (Upgraded drawn) → IsWalked keys at.store at.keys ls cs
    → IsWalked (bytes.keys_then keys at (Upgraded drawn)) (stand_then at (Upgraded drawn)).store (stand_then at (Upgraded drawn)).keys
    (ls ++ body_links batch place (entry_body (bytes.keys_then keys at (Upgraded drawn)) at (Upgraded drawn))) (cs ++ body_contents batch place (entry_body (bytes.keys_then keys at (Upgraded drawn)) at (Upgraded drawn)))
unfolding bytes.keys_then stand_then entry_store entry_body body_links body_contents step_payload entry_step note_step entry_fits
upgraded_walked keys at drawn links batch place ls cs sound ok fit fed is =
    let s = at.store in
    let strict = is_strict at.keys in
    let more = entry_keys at (Upgraded drawn) in
    let whole = step_payload (keys ++ more) (declared_note Upgrade) (entry_step at (Upgraded drawn)) in
    step_walked keys more s s at.keys (change_of strict s Upgrade) links (pieces_of Upgrade s) (upgrade_moves strict s sound) ok (fresh_once strict s Upgrade) (pieces_due Upgrade s)
    batch (place + link_offset whole 0) (place + content_offset whole 0) ls cs (begun_from at Upgrade (entry_step at (Upgraded drawn)) fit) (have_then keys at (Upgraded drawn) is.have fed)
    (upgrade_kept strict s) (λ e i. inl i) is

-- before the root is made
abbrev begun : Stand
begun = stand_then nothing Session

no_holders : (keys : List KeyParts) (k : KeyState) (e : HolderEntry) → In e root_store.holders → In e no_store.holders ⊎ IsHolderKeyed keys k e
unfolding root_store no_store
no_holders keys k e i = absurd i

made_walked : (keys : List KeyParts) (version : ℕ) (drawn : List (List ℕ)) (batch place : ℕ) → entry_fits begun (Made version drawn) ≡ true → IsFed begun (Made version drawn) → IsWalked keys begun.store begun.keys [] []
    → IsWalked (bytes.keys_then keys begun (Made version drawn)) (stand_then begun (Made version drawn)).store (stand_then begun (Made version drawn)).keys
    (body_links batch place (entry_body (bytes.keys_then keys begun (Made version drawn)) begun (Made version drawn))) (body_contents batch place (entry_body (bytes.keys_then keys begun (Made version drawn)) begun (Made version drawn)))
unfolding bytes.keys_then stand_then entry_store entry_body body_links body_contents step_payload entry_step note_step entry_fits nothing declared_note is_strict next_epoch no_keys
made_walked keys version drawn batch place fit fed is =
    let more = entry_keys begun (Made version drawn) in
    let whole = step_payload (keys ++ more) (declared_note (root_note version)) (entry_step begun (Made version drawn)) in
    step_walked keys more no_store root_store (next_epoch no_keys) (change_of false no_store (root_note version)) [] (pieces_of (root_note version) root_store) (root_moves version) nothing_holds (fresh_once false no_store (root_note version)) (pieces_due (root_note version) root_store)
    batch (place + link_offset whole 0) (place + content_offset whole 0) [] [] (begun_from begun (root_note version) (entry_step begun (Made version drawn)) fit) (have_then keys begun (Made version drawn) is.have fed)
    (either_kept version) (no_holders more (entry_step begun (Made version drawn)).after) is

-- ---- entries

-- what a log has, from its first batch on
more_links : (p : PlainPlaced) (log : List PlainPlaced) → log_links (p ∷ log) ≡ body_links p.batch p.place p.body ++ log_links log
unfolding log_links
more_links p log = refl

more_contents : (p : PlainPlaced) (log : List PlainPlaced) → log_contents (p ∷ log) ≡ body_contents p.batch p.place p.body ++ log_contents log
unfolding log_contents
more_contents p log = refl

-- the first batch is that of an entry, and what follows walks on
joined : (keys more rest : List KeyParts) (s : Store) (k : KeyState) (ls : List PlacedLink) (cs : List PlacedContent) (p : PlainPlaced) (log : List PlainPlaced)
    → IsWalked ((keys ++ more) ++ rest) s k ((ls ++ body_links p.batch p.place p.body) ++ log_links log) ((cs ++ body_contents p.batch p.place p.body) ++ log_contents log)
    → IsWalked (keys ++ (more ++ rest)) s k (ls ++ log_links (p ∷ log)) (cs ++ log_contents (p ∷ log))
joined keys more rest s k ls cs p log is =
    same_walked ((keys ++ more) ++ rest) (keys ++ (more ++ rest)) s k
    ((ls ++ body_links p.batch p.place p.body) ++ log_links log) (ls ++ log_links (p ∷ log))
    ((cs ++ body_contents p.batch p.place p.body) ++ log_contents log) (cs ++ log_contents (p ∷ log))
    (append_assoc keys more rest)
    (append_assoc ls (body_links p.batch p.place p.body) (log_links log) ∙ ap (λ z. ls ++ z) (sym (more_links p log)))
    (append_assoc cs (body_contents p.batch p.place p.body) (log_contents log) ∙ ap (λ z. cs ++ z) (sym (more_contents p log)))
    is

session_keys : (keys : List KeyParts) (at : Stand) → bytes.keys_then keys at Session ≡ keys
unfolding bytes.keys_then entry_keys entry_step drawn_by with_bytes
session_keys keys at = append-nil keys

session_entry : (keys : List KeyParts) (at : Stand) (batch place : ℕ) (ls : List PlacedLink) (cs : List PlacedContent) → IsWalked keys at.store at.keys ls cs
    → IsWalked (bytes.keys_then keys at Session) (stand_then at Session).store (stand_then at Session).keys
    (ls ++ body_links batch place (entry_body (bytes.keys_then keys at Session) at Session)) (cs ++ body_contents batch place (entry_body (bytes.keys_then keys at Session) at Session))
unfolding stand_then entry_store entry_step entry_body body_links body_contents
session_entry keys at batch place ls cs is =
    same_walked keys (bytes.keys_then keys at Session) at.store (next_epoch at.keys) ls (ls ++ []) cs (cs ++ [])
    (sym (session_keys keys at)) (sym (append-nil ls)) (sym (append-nil cs)) (session_walked keys at.store at.keys ls cs is)

did_holds : (at : Stand) (r : Request) (drawn : List (List ℕ)) (links : List Link) → IsSound at.store → HasNumbers at.store → KeysHold at.store at.keys links → refusal_in (is_strict at.keys) at.store r most_file_bytes ≡ None
    → IsSound (stand_then at (Did r drawn)).store × KeysHold (stand_then at (Did r drawn)).store (stand_then at (Did r drawn)).keys (links ++ (entry_step at (Did r drawn)).links)
unfolding stand_then entry_store entry_step note_step
did_holds at r drawn links sound few ok none =
    let s = at.store in
    let t = effect s r (first_key drawn) in
    let note = note_of s r [] in (
      effect_sound (is_strict at.keys) s r (first_key drawn) most_file_bytes none few sound,
      keys_after s t at.keys (change_of (is_strict at.keys) s note) links (command_moves (is_strict at.keys) s r (first_key drawn) [] most_file_bytes none few sound) ok (pieces_of note t),
    )

session_holds : (at : Stand) (links : List Link) → IsSound at.store → KeysHold at.store at.keys links → IsSound (stand_then at Session).store × KeysHold (stand_then at Session).store (stand_then at Session).keys links
unfolding stand_then entry_store entry_step
session_holds at links sound ok = (sound, epoch_holds at.store at.keys links ok)

upgraded_holds : (at : Stand) (drawn : List (List ℕ)) (links : List Link) → IsSound at.store → KeysHold at.store at.keys links
    → IsSound (stand_then at (Upgraded drawn)).store × KeysHold (stand_then at (Upgraded drawn)).store (stand_then at (Upgraded drawn)).keys (links ++ (entry_step at (Upgraded drawn)).links)
unfolding stand_then entry_store entry_step note_step
upgraded_holds at drawn links sound ok =
    (sound, keys_after at.store at.store at.keys (change_of (is_strict at.keys) at.store Upgrade) links (upgrade_moves (is_strict at.keys) at.store sound) ok (pieces_of Upgrade at.store))

no_links : [] ≡ log_links []
unfolding log_links
no_links = refl

no_contents : [] ≡ log_contents []
unfolding log_contents
no_contents = refl

then_keys : (keys : List KeyParts) (at : Stand) (entry : Entry) → bytes.keys_then keys at entry ≡ keys ++ entry_keys at entry
unfolding bytes.keys_then
then_keys keys at entry = refl

walk : (entries : List Entry) (keys : List KeyParts) (at : Stand) (links : List Link) (ls : List PlacedLink) (cs : List PlacedContent) (place number epoch : ℕ) → IsSound at.store → IsWithin at entries → KeysHold at.store at.keys links
    → FollowOn at entries → all_fit at entries ≡ true → AreFed at entries → IsWalked keys at.store at.keys ls cs
    → IsWalked (keys ++ keys_from at entries) (stand_after at entries).store (stand_after at entries).keys
    (ls ++ log_links (placed_from place number epoch (bodies_from keys at entries))) (cs ++ log_contents (placed_from place number epoch (bodies_from keys at entries)))
unfolding keys_from stand_after all_fit bodies_from
walk [] keys at links ls cs place number epoch sound few ok follow fit fed is =
    same_walked keys (keys ++ []) at.store at.keys ls (ls ++ log_links []) cs (cs ++ log_contents [])
    (sym (append-nil keys)) (sym (append-nil ls) ∙ ap (λ z. ls ++ z) no_links) (sym (append-nil cs) ∙ ap (λ z. cs ++ z) no_contents) is
walk (Session ∷ entries) keys at links ls cs place number epoch sound few ok follow fit fed is =
    let later = bytes.keys_then keys at Session in
    let body = entry_body later at Session in
    let batch = batch_of number epoch body in
    let next = stand_then at Session in
    let p : PlainPlaced = record { batch = batch.number; epoch = record { 0 = batch.epoch }; place = place + 45; body = body } in
    let log = placed_from (place + (batch_len + length batch.payload)) batch.number batch.epoch (bodies_from later next entries) in
    let holds = session_holds at links sound ok in
    joined keys (entry_keys at Session) (keys_from next entries) (stand_after next entries).store (stand_after next entries).keys ls cs p log
    (subst (λ z. IsWalked (z ++ keys_from next entries) (stand_after next entries).store (stand_after next entries).keys ((ls ++ body_links p.batch p.place p.body) ++ log_links log) ((cs ++ body_contents p.batch p.place p.body) ++ log_contents log)) (then_keys keys at Session)
    (walk entries later next links (ls ++ body_links p.batch p.place p.body) (cs ++ body_contents p.batch p.place p.body) (place + (batch_len + length batch.payload)) batch.number batch.epoch
    holds.0 (within_session at entries few) holds.1 follow.1 (and_parts (entry_fits at Session) (all_fit next entries) fit).1 fed.1 (session_entry keys at p.batch p.place ls cs is)))
walk (Made version drawn ∷ entries) keys at links ls cs place number epoch sound few ok follow fit fed is = absurd follow.0
walk (Did r drawn ∷ entries) keys at links ls cs place number epoch sound few ok follow fit fed is =
    let later = bytes.keys_then keys at (Did r drawn) in
    let body = entry_body later at (Did r drawn) in
    let batch = batch_of number epoch body in
    let next = stand_then at (Did r drawn) in
    let p : PlainPlaced = record { batch = batch.number; epoch = record { 0 = batch.epoch }; place = place + 45; body = body } in
    let log = placed_from (place + (batch_len + length batch.payload)) batch.number batch.epoch (bodies_from later next entries) in
    let left = numbers_below at (Did r drawn) entries few in
    let holds = did_holds at r drawn links sound left ok follow.0.0 in
    let both = and_parts (entry_fits at (Did r drawn)) (all_fit next entries) fit in
    joined keys (entry_keys at (Did r drawn)) (keys_from next entries) (stand_after next entries).store (stand_after next entries).keys ls cs p log
    (subst (λ z. IsWalked (z ++ keys_from next entries) (stand_after next entries).store (stand_after next entries).keys ((ls ++ body_links p.batch p.place p.body) ++ log_links log) ((cs ++ body_contents p.batch p.place p.body) ++ log_contents log)) (then_keys keys at (Did r drawn))
    (walk entries later next (links ++ (entry_step at (Did r drawn)).links) (ls ++ body_links p.batch p.place p.body) (cs ++ body_contents p.batch p.place p.body) (place + (batch_len + length batch.payload)) batch.number batch.epoch
    holds.0 (within_did at r drawn entries few) holds.1 follow.1 both.1 fed.1 (did_walked keys at r drawn links p.batch p.place ls cs sound left ok follow.0.0 both.0 fed.0 is)))
walk (Upgraded drawn ∷ entries) keys at links ls cs place number epoch sound few ok follow fit fed is =
    let later = bytes.keys_then keys at (Upgraded drawn) in
    let body = entry_body later at (Upgraded drawn) in
    let batch = batch_of number epoch body in
    let next = stand_then at (Upgraded drawn) in
    let p : PlainPlaced = record { batch = batch.number; epoch = record { 0 = batch.epoch }; place = place + 45; body = body } in
    let log = placed_from (place + (batch_len + length batch.payload)) batch.number batch.epoch (bodies_from later next entries) in
    let holds = upgraded_holds at drawn links sound ok in
    let both = and_parts (entry_fits at (Upgraded drawn)) (all_fit next entries) fit in
    joined keys (entry_keys at (Upgraded drawn)) (keys_from next entries) (stand_after next entries).store (stand_after next entries).keys ls cs p log
    (subst (λ z. IsWalked (z ++ keys_from next entries) (stand_after next entries).store (stand_after next entries).keys ((ls ++ body_links p.batch p.place p.body) ++ log_links log) ((cs ++ body_contents p.batch p.place p.body) ++ log_contents log)) (then_keys keys at (Upgraded drawn))
    (walk entries later next (links ++ (entry_step at (Upgraded drawn)).links) (ls ++ body_links p.batch p.place p.body) (cs ++ body_contents p.batch p.place p.body) (place + (batch_len + length batch.payload)) batch.number batch.epoch
    holds.0 (within_upgraded at drawn entries few) holds.1 follow.1 both.1 fed.1 (upgraded_walked keys at drawn links p.batch p.place ls cs sound ok both.0 fed.0 is)))

-- ---- journals

zero_first : IsZeroOwners nothing.keys.keys
unfolding nothing no_keys
zero_first q i z = ⊎_elim (λ (e : q ≡ (Owner, 0)). ap (λ (x : Role × ℕ). x.0) e) (λ n. absurd n) i

none_first : (owner : List ℕ) → AreLast (owner_parts owner ∷ []) nothing.store nothing.keys []
unfolding nothing no_store
none_first owner = record { folders = λ e i. absurd i; files = λ e i. absurd i; holders = λ e i. absurd i }

owner_at_first : newest nothing.keys.keys Owner ≡ Some 0
unfolding nothing no_keys newest same_role variant_of role_id
owner_at_first = refl

no_holder_first : (owner : List ℕ) → AreHoldersKeyed (owner_parts owner ∷ []) nothing.store nothing.keys
unfolding nothing no_store
no_holder_first owner e i = absurd i

first_walked : (owner : List ℕ) → length owner ≡ 32 → IsWalked (owner_parts owner ∷ []) nothing.store nothing.keys [] []
first_walked owner size = record {
  have = have_at_first owner size;
  zero = zero_first;
  each_link = λ p i. absurd i;
  contents_present = none_first owner;
  owner_first = owner_at_first;
  holders_keyed = no_holder_first owner;
}

begun_walked : (owner : List ℕ) → length owner ≡ 32 → IsWalked (bytes.keys_then (owner_parts owner ∷ []) nothing Session) begun.store begun.keys [] []
unfolding stand_then entry_store entry_step
begun_walked owner size =
    let keys = owner_parts owner ∷ [] in
    same_walked keys (bytes.keys_then keys nothing Session) nothing.store (next_epoch nothing.keys) [] [] [] []
    (sym (session_keys keys nothing)) refl refl (session_walked keys nothing.store nothing.keys [] [] (first_walked owner size))

session_body : (keys : List KeyParts) (batch place : ℕ) → (body_links batch place (entry_body keys nothing Session) ≡ []) × (body_contents batch place (entry_body keys nothing Session) ≡ [])
unfolding entry_body body_links body_contents
session_body keys batch place = (refl, refl)

root_holds : (version : ℕ) (drawn : List (List ℕ)) → IsSound (stand_then begun (Made version drawn)).store × KeysHold (stand_then begun (Made version drawn)).store (stand_then begun (Made version drawn)).keys (entry_step begun (Made version drawn)).links
unfolding stand_then entry_store entry_step note_step nothing is_strict next_epoch no_keys
root_holds version drawn = (root_sound, keys_after no_store root_store (next_epoch no_keys) (change_of false no_store (root_note version)) [] (root_moves version) nothing_holds (pieces_of (root_note version) root_store))

-- the keys and records of two entries and of those that follow
two_keys : (keys a b c first second : List KeyParts) → first ≡ keys ++ a → second ≡ first ++ b → second ++ c ≡ keys ++ (a ++ (b ++ c))
two_keys keys a b c first second one two =
    let both : second ≡ (keys ++ a) ++ b = two ∙ ap (λ z. z ++ b) one in
    ap (λ z. z ++ c) both ∙ append_assoc (keys ++ a) b c ∙ append_assoc keys a (b ++ c)

two_links : (p q : PlainPlaced) (log : List PlainPlaced) → body_links p.batch p.place p.body ≡ [] → body_links q.batch q.place q.body ++ log_links log ≡ log_links (p ∷ q ∷ log)
two_links p q log none = sym (more_links q log) ∙ ap (λ z. z ++ log_links (q ∷ log)) (sym none) ∙ sym (more_links p (q ∷ log))

two_contents : (p q : PlainPlaced) (log : List PlainPlaced) → body_contents p.batch p.place p.body ≡ [] → body_contents q.batch q.place q.body ++ log_contents log ≡ log_contents (p ∷ q ∷ log)
two_contents p q log none = sym (more_contents q log) ∙ ap (λ z. z ++ log_contents (q ∷ log)) (sym none) ∙ sym (more_contents p (q ∷ log))

begins : (owner : List ℕ) (m : Journal) → length owner ≡ 32 → BeginsWell m → end_of m ≤ most_store_bytes → all_fit nothing m ≡ true → AreFed nothing m
    → IsWalked ((owner_parts owner ∷ []) ++ keys_from nothing m) (stand_after nothing m).store (stand_after nothing m).keys
    (log_links (placed_from header_len 0 0 (bodies_from (owner_parts owner ∷ []) nothing m))) (log_contents (placed_from header_len 0 0 (bodies_from (owner_parts owner ∷ []) nothing m)))
unfolding keys_from stand_after all_fit bodies_from
begins owner [] size b low fit fed = absurd b
begins owner (Session ∷ []) size b low fit fed = absurd b
begins owner (Session ∷ Session ∷ es) size b low fit fed = absurd b
begins owner (Session ∷ Made version drawn ∷ es) size b low fit fed =
    let keys = owner_parts owner ∷ [] in
    let first = bytes.keys_then keys nothing Session in
    let body = entry_body first nothing Session in
    let batch = batch_of 0 0 body in
    let later = bytes.keys_then first begun (Made version drawn) in
    let made = entry_body later begun (Made version drawn) in
    let second = batch_of batch.number batch.epoch made in
    let place = header_len + (batch_len + length batch.payload) in
    let next = stand_then begun (Made version drawn) in
    let p : PlainPlaced = record { batch = batch.number; epoch = record { 0 = batch.epoch }; place = header_len + 45; body = body } in
    let q : PlainPlaced = record { batch = second.number; epoch = record { 0 = second.epoch }; place = place + 45; body = made } in
    let log = placed_from (place + (batch_len + length second.payload)) second.number second.epoch (bodies_from later next es) in
    let outer = and_parts (entry_fits nothing Session) (entry_fits begun (Made version drawn) && all_fit next es) fit in
    let inner = and_parts (entry_fits begun (Made version drawn)) (all_fit next es) outer.1 in
    let holds = root_holds version drawn in
    let none = session_body first p.batch p.place in
    let at = stand_after next es in
    let made_is = made_walked first version drawn q.batch q.place inner.0 fed.1.0 (begun_walked owner size) in
    let rest = walk es later next (entry_step begun (Made version drawn)).links (body_links q.batch q.place made) (body_contents q.batch q.place made) (place + (batch_len + length second.payload)) second.number second.epoch
    holds.0 (within_made version drawn es low) holds.1 b.1 inner.1 fed.1.1 made_is in
    same_walked (later ++ keys_from next es) (keys ++ (entry_keys nothing Session ++ (entry_keys begun (Made version drawn) ++ keys_from next es))) at.store at.keys
    (body_links q.batch q.place made ++ log_links log) (log_links (p ∷ q ∷ log))
    (body_contents q.batch q.place made ++ log_contents log) (log_contents (p ∷ q ∷ log))
    (two_keys keys (entry_keys nothing Session) (entry_keys begun (Made version drawn)) (keys_from next es) first later (then_keys keys nothing Session) (then_keys first begun (Made version drawn)))
    (two_links p q log none.0) (two_contents p q log none.1)
    rest
begins owner (Session ∷ Did request drawn ∷ es) size b low fit fed = absurd b
begins owner (Session ∷ Upgraded drawn ∷ es) size b low fit fed = absurd b
begins owner (Made version drawn ∷ es) size b low fit fed = absurd b
begins owner (Did request drawn ∷ es) size b low fit fed = absurd b
begins owner (Upgraded drawn ∷ es) size b low fit fed = absurd b

-- each record of a valid journal's log is what it should be
pub journal_walked : (owner : List ℕ) (m : Journal) → IsValid m → AreWhole owner m → IsWalked (all_keys owner m) (store_of m) (keys_of m) (log_links (log_of owner m)) (log_contents (log_of owner m))
unfolding all_keys store_of keys_of log_of bodies_of
journal_walked owner m valid whole = begins owner m whole.owner_size valid.0 valid.1 (journal_all_fit m valid) (begins_fed m valid.0 whole.drawn_sizes)

-- the last contents are those of what stands
pub journal_contents : (owner : List ℕ) (m : Journal) → IsValid m → AreWhole owner m → HoldsPresent (all_keys owner m) (store_of m) (keys_of m) (log_of owner m)
journal_contents owner m valid whole = (journal_walked owner m valid whole).contents_present

found_bytes : (owner : List ℕ) (m : Journal) → IsValid m → (q : KeyParts) → In q (all_keys owner m) → bytes_in (all_keys owner m) q.serial ≡ q.bytes
unfolding key_bytes
found_bytes owner m valid q i = drawn_found owner m (journal_all_fit m valid) q i

-- so is the key of each holder
pub journal_holder : (owner : List ℕ) (m : Journal) → IsValid m → AreWhole owner m → (e : HolderEntry) → In e (store_of m).holders
    → (n : ℕ) × (newest (keys_of m).keys (holder_role e.number) ≡ Some n) × (e.key ≡ bytes_in (all_keys owner m) n)
journal_holder owner m valid whole e i =
    let w = (journal_walked owner m valid whole).holders_keyed e i in
    (w.0.serial, w.2, sym w.3 ∙ sym (found_bytes owner m valid w.0 w.1))
