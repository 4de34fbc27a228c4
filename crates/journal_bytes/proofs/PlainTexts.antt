-- The names and bytes of a journal's store have the forms that a reader tests.
use Rattle.std.proofs.Common.{◌≡◌, ◌≢◌, ⊎_elim, inl, ℕ, ◌≤◌, Bool, true, false, ◌==◌, ◌&&◌, List, [], ◌∷◌, ◌++◌, length, take, drop, None, arith, refl, sym, ap, subst, ◌∙◌, length-append}
use Rattle.std.specs.Prelude.{if◌then◌else◌, nat_le}
use Rattle.std.proofs.Math.Seq.{drop-append_seam, take-append_seam}
use Rattle.std.proofs.lemmas.Bool.{and_from, and_parts, eq-eqb, eqb-true, le-leb, ne_eqb}
use Rattle.cry_base.specs.Limits.{most_file_bytes, most_store_bytes}
use Rattle.cry_base.specs.Naming.{is_name}
use Rattle.cry_base.specs.Refusing.{refusal_in}
use Rattle.cry_base.proofs.Versions.{accepted_in}
use Rattle.cry_base.specs.Requests.{Request}
use Rattle.cry_base.specs.Sets.{In}
use Rattle.cry_base.specs.Stepping.{effect}
use Rattle.cry_base.specs.Store.{Store, FolderEntry, FileEntry, no_store, root_store}
use Rattle.log_visits.specs.Visiting.{is_file_text, is_folder_text}
use Rattle.move_plan.specs.Noting.{note_of}
use Rattle.public_fold.specs.Journal.{Entry, Journal, Stand, nothing, first_key, entry_store, stand_then, stand_after, store_of}
use Rattle.public_fold.specs.Journal.Entry.{Session, Made, Did, Upgraded}
use Rattle.public_fold.specs.KeyStep.{is_strict}
use Rattle.public_fold.specs.Lengths.{end_of}
use Rattle.public_fold.specs.Records.{Piece, pieces_of, text_of}
use Rattle.public_fold.specs.Valid.{BeginsWell, FollowOn, IsValid}
use Rattle.public_fold.proofs.Accepting.{accepted}
use Rattle.public_fold.proofs.Keeping.{HasTree}
use Rattle.public_fold.proofs.KeyMoves.{IsSound, effect_sound, root_sound}
use Rattle.public_fold.proofs.Numbers.{HasNumbers, IsWithin, numbers_below, within_did, within_made, within_session, within_upgraded}
use Rattle.journal_bytes.specs.Keys.{AreWhole, drawn_by}
use Rattle.journal_bytes.specs.Texting.{file_text}
use Rattle.journal_bytes.proofs.Followed.{key_sized}
use Rattle.journal_bytes.proofs.Kept.{command_kept}
use Rattle.journal_bytes.proofs.TextSizes.{AreShort, HasKeySize, IsSized, command_sized, effect_short, is_length, root_short}
use Rattle.journal_bytes.proofs.Weighed.{AreFed, begins_fed}

-- the root has no name
abbrev pub HasBareRoot : Store → Type 0
HasBareRoot s = (e : FolderEntry) → In e s.folders → e.id ≡ 1 → e.name ≡ []

-- no file has more bytes than one may have, and the root has no name
pub record IsPlain (s : Store) : Type 0 where
  pub short : AreShort s
  pub bare_root : HasBareRoot s

empty : (xs : List ℕ) → length xs ≡ 0 → xs ≡ []
empty [] none = refl
empty (x ∷ xs) none = absurd (omega (arith, none))

-- the root's name is sealed empty
root_text : (p : Piece) → p.kind ≡ 1 → p.object ≡ 1 → IsSized p → text_of p ≡ []
root_text p kind object size =
    let at : is_length 1 1 (length (text_of p)) ≡ true = (λ i. is_length (sym kind i) (sym object i) (length (text_of p))) ∙ size in
    let both = and_parts _ (length (text_of p) == 0) at in
    empty (text_of p) (eqb-true (length (text_of p)) 0 both.1)

effect_bare : (strict : Bool) (s : Store) (r : Request) (key : List ℕ) → IsSound s → HasNumbers s → AreShort s → refusal_in strict s r most_file_bytes ≡ None → HasKeySize r key → HasBareRoot s → HasBareRoot (effect s r key)
effect_bare strict s r key sound few short none size bare e i one =
    let taken = accepted_in strict s r most_file_bytes none in ⊎_elim
    (λ now.
    let p : Piece = now.0 in
    let there : In p (pieces_of (note_of s r []) (effect s r key)) = subst (λ (ps : List Piece). In p ps) (sym now.1) (inl refl) in
    sym now.4 ∙ root_text p now.2 (now.3 ∙ one) (command_sized s r key [] sound short taken size p there))
    (λ left. let d = left.1 in sym d.3 ∙ bare d.0 d.1 (d.2 ∙ one))
    ((command_kept s r key (accepted s r most_file_bytes taken) sound.rooted.counted (effect_sound strict s r key most_file_bytes none few sound).tree).folders e i)

effect_plain : (strict : Bool) (s : Store) (r : Request) (key : List ℕ) → IsSound s → HasNumbers s → refusal_in strict s r most_file_bytes ≡ None → HasKeySize r key → IsPlain s → IsPlain (effect s r key)
effect_plain strict s r key sound few none size plain = record {
  short = effect_short s r key (accepted_in strict s r most_file_bytes none) plain.short;
  bare_root = effect_bare strict s r key sound few plain.short none size plain.bare_root;
}

root_bare : HasBareRoot root_store
unfolding root_store no_store
root_bare e i one = ⊎_elim (λ (q : e ≡ record { id = 1; parent = 0; name = [] }). ap (λ (z : FolderEntry). z.name) q) (λ n. absurd n) i

root_plain : IsPlain root_store
root_plain = record { short = root_short; bare_root = root_bare }

after_plain : (entries : List Entry) (at : Stand) → IsSound at.store → IsWithin at entries → IsPlain at.store → FollowOn at entries → AreFed at entries → IsPlain (stand_after at entries).store
unfolding stand_after stand_then entry_store drawn_by
after_plain [] at sound few plain f fed = plain
after_plain (Session ∷ entries) at sound few plain f fed = after_plain entries (stand_then at Session) sound (within_session at entries few) plain f.1 fed.1
after_plain (Made version keys ∷ entries) at sound few plain f fed = absurd f.0
after_plain (Did r keys ∷ entries) at sound few plain f fed =
    let strict = is_strict at.keys in
    let left = numbers_below at (Did r keys) entries few in
    after_plain entries (stand_then at (Did r keys)) (effect_sound strict at.store r (first_key keys) most_file_bytes f.0.0 left sound) (within_did at r keys entries few)
    (effect_plain strict at.store r (first_key keys) sound left f.0.0 (key_sized at r keys fed.0.many fed.0.sizes) plain) f.1 fed.1
after_plain (Upgraded keys ∷ entries) at sound few plain f fed = after_plain entries (stand_then at (Upgraded keys)) sound (within_upgraded at keys entries few) plain f.1 fed.1

begun_plain : (m : Journal) → BeginsWell m → end_of m ≤ most_store_bytes → AreFed nothing m → IsPlain (stand_after nothing m).store
unfolding stand_after stand_then entry_store nothing
begun_plain [] b low fed = absurd b
begun_plain (Session ∷ []) b low fed = absurd b
begun_plain (Session ∷ Session ∷ es) b low fed = absurd b
begun_plain (Session ∷ Made version keys ∷ es) b low fed =
    after_plain es (stand_then (stand_then nothing Session) (Made version keys)) root_sound (within_made version keys es low) root_plain b.1 fed.1.1
begun_plain (Session ∷ Did r keys ∷ es) b low fed = absurd b
begun_plain (Session ∷ Upgraded keys ∷ es) b low fed = absurd b
begun_plain (Made version keys ∷ es) b low fed = absurd b
begun_plain (Did r keys ∷ es) b low fed = absurd b
begun_plain (Upgraded keys ∷ es) b low fed = absurd b

pub journal_plain : (owner : List ℕ) (m : Journal) → IsValid m → AreWhole owner m → IsPlain (store_of m)
unfolding store_of
journal_plain owner m valid whole = begun_plain m valid.0 valid.1 (begins_fed m valid.0 whole.drawn_sizes)

-- ---- the forms that a reader tests

other_or : (n : ℕ) (name : List ℕ) → n ≢ 1 → is_name name ≡ true → is_folder_text n name ≡ true
unfolding is_folder_text
other_or n name other named = ap (λ b. if b then length name == 0 else is_name name) (ne_eqb n 1 other) ∙ named

root_or : (n : ℕ) (name : List ℕ) → n ≡ 1 → name ≡ [] → is_folder_text n name ≡ true
unfolding is_folder_text
root_or n name one none = (λ i. if one i == 1 then length (none i) == 0 else is_name (none i))

pub folder_form : (s : Store) → HasTree s → IsPlain s → (e : FolderEntry) → In e s.folders → is_folder_text e.id e.name ≡ true
folder_form s tree plain e i =
    (elim (e.id == 1) as (λ b. e.id == 1 ≡ b → is_folder_text e.id e.name ≡ true) [
      | true ↦ λ t. let one = eqb-true e.id 1 t in root_or e.id e.name one (plain.bare_root e i one)
      | false ↦ λ t. let other : e.id ≢ 1 = λ q. absurd (let u : (e.id == 1) ≡ true = eq-eqb e.id 1 q in cc) in
          other_or e.id e.name other (tree.folder_name e i (λ z. other (tree.numbered.one_root e i z)))
    ]) refl

pub file_form : (s : Store) → HasTree s → IsPlain s → (e : FileEntry) → In e s.files → is_file_text (file_text e.name e.bytes) ≡ true
unfolding is_file_text
file_form s tree plain e i =
    let both = length-append e.name e.bytes in
    let rest = e.name ++ e.bytes in
    let n = length e.name in
    and_from (nat_le n (length rest)) (is_name (take n rest) && nat_le (length (drop n rest)) most_file_bytes) (le-leb n (length rest) (omega (arith, both)))
    (and_from (is_name (take n rest)) (nat_le (length (drop n rest)) most_file_bytes)
    (ap is_name (take-append_seam e.name e.bytes) ∙ tree.file_name e i)
    (le-leb (length (drop n rest)) most_file_bytes (subst (λ xs. length xs ≤ most_file_bytes) (sym (drop-append_seam e.name e.bytes)) (plain.short e i))))
