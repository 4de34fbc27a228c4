-- Turns add few numbers, one a turn of each kind at the most.
use Rattle.std.proofs.Common.{◌≡◌, ℕ, suc, ◌+◌, ◌^◌, ◌<◌, ◌≤◌, Bool, true, false, cond, not, ◌==◌, ◌&&◌, List, [], ◌∷◌, ◌++◌, filter, length, inl, inr, ⊎_elim, refl, sym, ap, ◌∙◌, subst, arith, length-append}
use Rattle.cry_base.specs.Clearances.{clear_number}
use Rattle.cry_base.specs.Sets.{In}
use Rattle.cry_base.specs.Stepping.{with_new_holder, with_new_folder, with_new_file, with_folder, with_file, without_folder, without_file, without_grant}
use Rattle.cry_base.specs.Store.{Store, GrantEntry, no_store, root_store}
use Rattle.cry_base.proofs.Members.{In-append}
use Rattle.record_format.specs.Noted.{Note}
use Rattle.record_format.specs.Noted.Note.{Root, NewHolder, NewFolder, NewFile, Rewrite, NameFile, NameFolder, DropFile, DropFolder, ShiftFile, ShiftFolder, Give, Take, StrictRoot, Upgrade}
use Rattle.public_fold.specs.Fitted.{told_stand, told_step}
use Rattle.public_fold.specs.Journal.{Stand, note_step, nothing}
use Rattle.public_fold.specs.KeyStep.{KeyState, key_step, next_epoch, no_keys, published, step_with}
use Rattle.public_fold.specs.Standing.{AreOnce, IsSeenAs, PublicView}
use Rattle.public_fold.specs.StateLaws.{AreFew}
use Rattle.public_fold.specs.Told.{told_store}
use Rattle.public_fold.specs.Turns.{Turn, turn_stand, turns_stand}
use Rattle.public_fold.specs.Turns.Turn.{Began, Noted}

-- no number is more than so many above
record Adds (n : ℕ) (a b : Store) : Type 0 where
  folders : b.folders_made ≤ a.folders_made + n
  files : b.files_made ≤ a.files_made + n
  holders : b.holders_made ≤ a.holders_made + n
  grants : length b.grants ≤ length a.grants + n

kept : (s t : Store) → t.folders_made ≡ s.folders_made → t.files_made ≡ s.files_made → t.holders_made ≡ s.holders_made → length t.grants ≤ length s.grants → Adds 1 s t
kept s t folders files holders grants = record { folders = omega arith; files = omega arith; holders = omega arith; grants = omega arith }

filter_few : (p : GrantEntry → Bool) (gs : List GrantEntry) → length (filter p gs) ≤ length gs
filter_few p [] = omega arith
filter_few p (g ∷ gs) =
    let h : length (filter p gs) ≤ length gs = filter_few p gs in
    elim (p g) as (λ b. length (cond b (g ∷ filter p gs) (filter p gs)) ≤ suc (length gs)) [ true ↦ omega arith | false ↦ omega arith ]

root_adds : (s : Store) → Adds 1 s root_store
unfolding root_store no_store
root_adds s = record { folders = omega arith; files = omega arith; holders = omega arith; grants = omega arith }

note_adds : (s : Store) (note : Note) → Adds 1 s (told_store s note)
unfolding told_store with_new_holder with_new_folder with_new_file with_folder with_file without_folder without_file without_grant
note_adds s Root = root_adds s
note_adds s (NewHolder h check) = record { folders = omega arith; files = omega arith; holders = omega arith; grants = omega arith }
note_adds s (NewFolder f p) = record { folders = omega arith; files = omega arith; holders = omega arith; grants = omega arith }
note_adds s (NewFile x f) = record { folders = omega arith; files = omega arith; holders = omega arith; grants = omega arith }
note_adds s (Rewrite x) = kept s s refl refl refl (omega arith)
note_adds s (NameFile x) = kept s s refl refl refl (omega arith)
note_adds s (NameFolder f) = kept s s refl refl refl (omega arith)
note_adds s (DropFile x) = kept s (without_file s x) refl refl refl (filter_few (λ g. not (g.folder == clear_number x)) s.grants)
note_adds s (DropFolder f) = kept s (without_folder s f) refl refl refl (filter_few (λ g. not (g.folder == f)) s.grants)
note_adds s (ShiftFile x g) = record { folders = omega arith; files = omega arith; holders = omega arith; grants = omega arith }
note_adds s (ShiftFolder g q) = record { folders = omega arith; files = omega arith; holders = omega arith; grants = omega arith }
note_adds s (Give h f) =
    let one : length (s.grants ++ record { holder = h; folder = f } ∷ []) ≡ length s.grants + 1 = length-append s.grants (record { holder = h; folder = f } ∷ []) in record {
      folders = omega arith;
      files = omega arith;
      holders = omega arith;
      grants = omega arith;
    }
note_adds s (Take h f) = kept s (without_grant s h f) refl refl refl (filter_few (λ g. not (g.holder == h && g.folder == f)) s.grants)
note_adds s StrictRoot = root_adds s
note_adds s Upgrade = kept s s refl refl refl (omega arith)

-- and no epoch
record Grows (n : ℕ) (a b : Stand) : Type 0 where
  store : Adds n a.store b.store
  epoch : b.keys.epoch ≤ a.keys.epoch + n

turn_grows : (at : Stand) (turn : Turn) → Grows 1 at (turn_stand at turn)
unfolding turn_stand told_stand told_step note_step key_step step_with published next_epoch
turn_grows at Began = record { store = kept at.store at.store refl refl refl (omega arith); epoch = omega arith }
turn_grows at (Noted note) = record { store = note_adds at.store note; epoch = omega arith }

turns_grow : (turns : List Turn) (at : Stand) → Grows (length turns) at (turns_stand at turns)
unfolding turns_stand
turns_grow [] at = record { store = record { folders = omega arith; files = omega arith; holders = omega arith; grants = omega arith }; epoch = omega arith }
turns_grow (turn ∷ turns) at =
    let first = turn_grows at turn in
    let rest = turns_grow turns (turn_stand at turn) in
    let a = first.store in
    let b = rest.store in record {
      store = record {
        folders = omega (arith, a.folders, b.folders);
        files = omega (arith, a.files, b.files);
        holders = omega (arith, a.holders, b.holders);
        grants = omega (arith, a.grants, b.grants);
      };
      epoch = omega (arith, first.epoch, rest.epoch);
    }

-- ---- grants that stand once each are no more than those that hold them

split_at : (hs : List GrantEntry) (g : GrantEntry) → In g hs → (a : List GrantEntry) × (b : List GrantEntry) × (hs ≡ a ++ g ∷ b)
split_at [] g i = absurd i
split_at (h ∷ hs) g i = ⊎_elim
    (λ (e : g ≡ h). ([], hs, ap (λ x. x ∷ hs) (sym e)))
    (λ u. let w = split_at hs g u in (h ∷ w.0, w.1, ap (λ l. h ∷ l) w.2)) i

once_few : (gs hs : List GrantEntry) → AreOnce gs → ((g : GrantEntry) → In g gs → In g hs) → length gs ≤ length hs
once_few [] hs once sub = omega arith
once_few (g ∷ gs) hs once sub =
    let w = split_at hs g (sub g (inl refl)) in
    let rest : length gs ≤ length (w.0 ++ w.1) = once_few gs (w.0 ++ w.1) once.1 (λ x i. (In-append GrantEntry x w.0 w.1).1 (⊎_elim
    (λ u. inl u)
    (λ u. ⊎_elim (λ (e : x ≡ g). absurd (once.0 (subst (λ z. In z gs) e i))) (λ v. inr v) u)
    ((In-append GrantEntry x w.0 (g ∷ w.1)).0 (subst (λ l. In x l) w.2 (sub x (inr i)))))) in
    let all : length hs ≡ length w.0 + length (g ∷ w.1) = ap length w.2 ∙ length-append w.0 (g ∷ w.1) in
    let less : length (w.0 ++ w.1) ≡ length w.0 + length w.1 = length-append w.0 w.1 in omega arith

-- ---- few turns from nothing

pub few_left : (turns : List Turn) (v : PublicView) → IsSeenAs v (turns_stand nothing turns) → length turns < 2 ^ 28 → v.keys.count < 2 ^ 30 → AreFew v
unfolding nothing no_store no_keys
few_left turns v seen few count =
    let at : Stand = turns_stand nothing turns in
    let grown = turns_grow turns nothing in
    let folders : at.store.folders_made ≡ v.tree.folders_made = ap (λ (z : Store). z.folders_made) seen.store in
    let files : at.store.files_made ≡ v.tree.files_made = ap (λ (z : Store). z.files_made) seen.store in
    let holders : at.store.holders_made ≡ length v.checks = ap (λ (z : Store). z.holders_made) seen.store in
    let epoch : at.keys.epoch ≡ v.keys.epoch = ap (λ (k : KeyState). k.epoch) seen.keys in
    let grants : length v.pairs ≤ length at.store.grants = once_few v.pairs at.store.grants seen.grants.once (λ g i. (seen.grants.same g).0 i) in
    let a : at.store.folders_made ≤ 0 + length turns = grown.store.folders in
    let b : at.store.files_made ≤ 0 + length turns = grown.store.files in
    let c : at.store.holders_made ≤ 0 + length turns = grown.store.holders in
    let d : length at.store.grants ≤ 0 + length turns = grown.store.grants in
    let e : at.keys.epoch ≤ 0 + length turns = grown.epoch in record {
      epoch = omega arith;
      count = count;
      folders = omega arith;
      files = omega arith;
      holders = omega arith;
      grants = omega arith;
    }
