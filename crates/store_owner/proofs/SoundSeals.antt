-- A command that isn't refused, and whose note fits, can be sealed by the keys of a sound owner's ring.
use Rattle.std.proofs.Common.{◌≡◌, ℕ, ◌+◌, ◌-◌, ◌^◌, ◌≤◌, ◌<◌, Bool, true, false, cond, not, List, [], ◌∷◌, ◌++◌, length, replicate, All, Option, Some, None, sym, ap, ◌∙◌, subst, arith, length-append}
use Rattle.std.proofs.lemmas.Bool.{ltb-true}
use Rattle.std.proofs.lemmas.List.Elements.{All-head}
use Rattle.chacha_seal.specs.Keys.{KeyParts}
use Rattle.chacha_seal.specs.Serials.{Counting}
use Rattle.cry_base.specs.Limits.{most_file_bytes}
use Rattle.cry_base.proofs.Versions.{accepted_in}
use Rattle.cry_base.specs.Refusing.{has_bad_name, refusal_of}
use Rattle.cry_base.specs.Requests.{Request}
use Rattle.cry_base.specs.Requests.Request.{AddHolder, MakeFolder, WriteFile, Remove, Rename, Relocate, Grant, Revoke}
use Rattle.cry_base.specs.Store.{Store}
use Rattle.cry_base.specs.declared.roles.Role.{Role}
use Rattle.folder_nodes.specs.Titles.{tree_store}
use Rattle.key_links.specs.Ringed.{Ringed, key_of}
use Rattle.move_plan.specs.Change.{change_of, no_change, row_change}
use Rattle.move_plan.specs.Noting.{note_of}
use Rattle.record_format.specs.Noted.{Note}
use Rattle.record_format.specs.Noted.Note.{NewHolder, Upgrade}
use Rattle.role_graph.specs.Edges.{edges}
use Rattle.role_graph.specs.Roles.{holder_role}
use Rattle.public_fold.specs.Fitted.{told_step}
use Rattle.public_fold.specs.Heads.{IsSkeleton}
use Rattle.public_fold.specs.Journal.{Stand, first_key, note_step}
use Rattle.public_fold.specs.KeyStep.{KeyState, contents_from, given, is_strict, key_step, keys_then, next_epoch, next_serial, numbered, published, published_edges, renewed, step_with}
use Rattle.public_fold.specs.Preparing.{begun, begun_keys}
use Rattle.public_fold.specs.Records.{Link, pieces_of}
use Rattle.public_fold.specs.StandFits.{has_count, note_fits}
use Rattle.public_fold.specs.Standing.{IsSeenAs}
use Rattle.public_fold.specs.Told.{told_store}
use Rattle.public_fold.specs.Turns.{StandHolds}
use Rattle.public_fold.specs.declared.heads.Skeleton.{Skeleton}
use Rattle.public_fold.proofs.Serials.{numbered-length}
use Rattle.public_fold.proofs.TurnsHold.{fit_told}
use Rattle.journal_bytes.specs.Sealing.{CanSeal, HasLength, HoldsKeys, IsSealable}
use Rattle.journal_bytes.specs.Texting.{due_key, due_text}
use Rattle.journal_bytes.proofs.Ready.{can_seal, next_holds}
use Rattle.journal_bytes.proofs.Sealable.{content_from}
use Rattle.journal_bytes.proofs.SoundSteps.{begun_stands, holding_sealable}
use Rattle.store_owner.specs.Deeds.{Deed, deed_key, deed_note, deed_refusal, deed_text, IsWellNamed}
use Rattle.store_owner.specs.Applying.{sealed_text}
use Rattle.store_owner.specs.Deeds.Deed.{Commanded, Upgrading}
use Rattle.store_owner.proofs.DeedSteps.{deed_same}
use Rattle.store_owner.specs.Owned.{OwnerView, counting}
use Rattle.store_owner.specs.Sound.{IsSound, own_store}
use Rattle.store_owner.proofs.SoundStores.{own_kept}
use Rattle.store_owner.proofs.SoundTexts.{IsKeyFor, IsSized, due_fits, files_sized}

-- ---- the keys once the session has its epoch

pub count_low : (at : Stand) (links : List Link) → StandHolds at links → at.keys.count ≤ 4294967296
count_low at links holds = let low : at.keys.count < 2 ^ 32 = holds.count in omega arith

held_by : (keys : List KeyParts) (k : KeyState) (ring other : Ringed) (counter : Counting) → other.keys ≡ ring.keys → HoldsKeys keys k ring counter → HoldsKeys keys k other counter
unfolding key_of
held_by keys k ring other counter same holds = record {
  has_present = unfold key_of in (λ r n e. ap (λ ks. key_of (record ring { keys = ks }) r) same ∙ holds.has_present r n e);
  drawn_below = holds.drawn_below;
  present_below = holds.present_below;
  is_counted = holds.is_counted;
}

-- the counter goes on in the session's epoch, or begins the next one
pub held_then : (has : Bool) (keys : List KeyParts) (k : KeyState) (ring other : Ringed) (kept : Option Counting) (counter : Counting) (epoch : ℕ) → HoldsKeys keys k ring (counting k)
    → other.keys ≡ ring.keys → k.count ≤ 4294967296 → epoch ≡ k.epoch + 1 → kept ≡ cond has (Some (counting k)) None → cond has (kept ≡ Some counter) (counter ≡ record { epoch = epoch; count = 0 })
    → HoldsKeys keys (begun_keys (not has) k) other counter
unfolding begun_keys
held_then true keys k ring other kept counter epoch holds same low next was is =
    let one : counting k ≡ counter = cc in subst (HoldsKeys keys k other) one (held_by keys k ring other (counting k) same holds)
held_then false keys k ring other kept counter epoch holds same low next was is =
    subst (HoldsKeys keys (next_epoch k) other) (ap (λ n. record { epoch = n; count = 0 }) (sym next) ∙ sym is) (next_holds keys k other (counting k) (held_by keys k ring other (counting k) same holds) low)

-- ---- the text

-- a new holder's key is drawn
is_drawn : (drawn : List (List ℕ)) (n m : ℕ) → length drawn ≡ n → n ≡ m + 1 → All (λ (key : List ℕ). length key ≡ 32) drawn → length (first_key drawn) ≡ 32
unfolding first_key
is_drawn [] n m long more sizes = absurd (omega (arith, long, more))
is_drawn (key ∷ drawn) n m long more sizes = All-head (λ (k : List ℕ). length k ≡ 32) key drawn sizes

holder_given : (at : Stand) (h : ℕ) (check : List ℕ) → (m : ℕ) × (length (told_step at (NewHolder h check)).given ≡ m + 1)
unfolding told_step note_step key_step step_with published given change_of row_change no_change
holder_given at h check =
    let c = change_of (is_strict at.keys) at.store (NewHolder h check) in
    let plan = renewed at.keys (edges at.store) c in
    (length plan, numbered-length Role (next_serial at.keys) (plan ++ holder_role h ∷ []) ∙ length-append plan (holder_role h ∷ []))

pub keyed : (at : Stand) (s : Store) (r : Request) (check : List ℕ) (drawn : List (List ℕ)) → length drawn ≡ length (told_step at (note_of s r check)).given
    → All (λ (key : List ℕ). length key ≡ 32) drawn → IsKeyFor r (first_key drawn)
unfolding note_of
keyed at s AddHolder check drawn long sizes = let w = holder_given at (s.holders_made + 1) check in is_drawn drawn _ w.0 long w.1 sizes
keyed at s (MakeFolder path) check drawn long sizes = tt
keyed at s (WriteFile path bytes) check drawn long sizes = tt
keyed at s (Remove path) check drawn long sizes = tt
keyed at s (Rename path name) check drawn long sizes = tt
keyed at s (Relocate path into) check drawn long sizes = tt
keyed at s (Grant h path) check drawn long sizes = tt
keyed at s (Revoke h path) check drawn long sizes = tt

lengths : (at : Stand) (s : Store) (r : Request) (key check : List ℕ) (n : ℕ) → n ≤ most_file_bytes → has_bad_name r ≡ false → refusal_of s r n ≡ None → IsSized s → IsKeyFor r key
    → HasLength (told_step at (note_of s r check)) (due_text s r ++ due_key r key)
unfolding told_step note_step key_step step_with published
lengths at s r key check n small good none sized is x i =
    let note = note_of s r check in
    let after = told_store at.store note in
    let k = at.keys in
    let c = change_of (is_strict k) at.store note in
    let plan = renewed k (edges at.store) c in
    due_fits s after r key check n small good none sized is x.piece
    (content_from (keys_then k c plan) (next_serial k + length (given k c plan) + length (published_edges (edges at.store) c plan)) (pieces_of note after) x i).0

seals_nothing : (at : Stand) → HasLength (told_step at Upgrade) []
unfolding told_step note_step key_step step_with published pieces_of contents_from numbered
seals_nothing at x i = absurd i

-- of what is asked
deed_lengths : (at : Stand) (strict : Bool) (s : Store) (d : Deed) (drawn : List (List ℕ)) (n : ℕ) → n ≤ most_file_bytes → IsWellNamed d → deed_refusal strict s d n ≡ None → IsSized s
    → length drawn ≡ length (told_step at (deed_note s d (replicate 32 0))).given → All (λ (key : List ℕ). length key ≡ 32) drawn
    → HasLength (told_step at (deed_note s d (replicate 32 0))) (deed_text s d ++ deed_key d (first_key drawn))
deed_lengths at strict s (Commanded r) drawn n small good none sized long sizes =
    lengths at s r (first_key drawn) (replicate 32 0) n small good (accepted_in strict s r n none) sized (keyed at s r (replicate 32 0) drawn long sizes)
deed_lengths at strict s Upgrading drawn n small good none sized long sizes = seals_nothing at

-- ---- the whole

has_room : (at : Stand) (note : Note) → note_fits at note (told_step at note) ≡ true → (told_step at note).after.count < 4294967296
unfolding has_count
has_room at note f =
    let low : (told_step at note).after.count < 2 ^ 32 - 1 = ltb-true (told_step at note).after.count (2 ^ 32 - 1) (unfold has_count in (fit_told at note f).1) in omega arith

sealing : (keys : List KeyParts) (at : Stand) (note : Note) (ring : Ringed) (counter : Counting) (s : Skeleton) (text : List ℕ) (drawn : List (List ℕ)) → HoldsKeys keys at.keys ring counter
    → IsSealable (told_step at note) → IsSkeleton (told_step at note) s → (told_step at note).after.count < 4294967296 → length drawn ≡ length s.keys.items → length s.keys.items ≤ ring.spare
    → HasLength (told_step at note) text → CanSeal ring counter s drawn text
unfolding told_step note_step
sealing keys at note ring counter s text drawn holds can skeleton small long room sizes =
    can_seal keys at.keys (edges at.store) (change_of (is_strict at.keys) at.store note) (pieces_of note (told_store at.store note)) ring counter s text holds can skeleton drawn small long room sizes

pub sound_seals : (o : OwnerView) (r : Deed) (drawn : List (List ℕ)) (s : Skeleton) (ring : Ringed) (counter : Counting) → IsSound o → IsWellNamed r
    → deed_refusal (is_strict o.state.keys) (own_store o) r o.file_bytes ≡ None
    → ((at : Stand) → IsSeenAs o.state at → IsSkeleton (told_step (begun (not o.journal.has_epoch) at) (deed_note (own_store o) r (replicate 32 0))) s)
    → ((at : Stand) → IsSeenAs o.state at → note_fits (begun (not o.journal.has_epoch) at) (deed_note (own_store o) r (replicate 32 0))
    (told_step (begun (not o.journal.has_epoch) at) (deed_note (own_store o) r (replicate 32 0))) ≡ true)
    → ring.keys ≡ o.ring.keys → length s.keys.items ≤ ring.spare → length drawn ≡ length s.keys.items → All (λ (key : List ℕ). length key ≡ 32) drawn
    → cond o.journal.has_epoch (o.counter ≡ Some counter) (counter ≡ record { epoch = o.journal.epoch + 1; count = 0 })
    → CanSeal ring counter s drawn (sealed_text o r drawn)
sound_seals o r drawn s ring counter sound good none skeleton fits same room long sizes is =
    let at = begun (not o.journal.has_epoch) sound.at in
    let note = deed_note (own_store o) r (replicate 32 0) in
    let made = skeleton sound.at sound.seen in
    let fit = fits sound.at sound.seen in
    let low = count_low sound.at sound.goes_on.links sound.goes_on.holds in
    let holds = held_then o.journal.has_epoch sound.keys sound.at.keys o.ring ring o.counter counter (o.journal.epoch + 1) sound.held same low (ap (λ n. n + 1) sound.same_epoch) sound.counts is in
    let can = holding_sealable at sound.goes_on.links note (begun_stands (not o.journal.has_epoch) sound.at sound.goes_on.links sound.goes_on.holds) fit in
    let text = deed_same (tree_store o.state.tree o.names) (own_store o) r (own_kept o).tree in
    sealing sound.keys at note ring counter s (sealed_text o r drawn) drawn holds can made (has_room at note fit) long room
    (subst (λ t. HasLength (told_step at note) (t ++ deed_key r (first_key drawn))) (sym text)
    (deed_lengths at (is_strict o.state.keys) (own_store o) r drawn o.file_bytes sound.bounded good none (files_sized (own_store o) sound.sized) (long ∙ ap length made.keys) sizes))
