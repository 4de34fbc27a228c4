-- What is prepared hangs on no check: a new holder's may come later.
use Rattle.std.proofs.Common.{◌≡◌, ℕ, Bool, List, [], ◌∷◌, ◌++◌, map, length, refl, sym, ap, subst, ◌∙◌}
use Rattle.std.specs.List.{range_with_len}
use Rattle.std.proofs.lemmas.List.{length_push}
use Rattle.cry_base.specs.Store.{Store, GrantEntry}
use Rattle.record_format.specs.Told.{told_note}
use Rattle.record_format.specs.declared.note.Note.{Note as Declared}
use Rattle.record_format.specs.declared.note.Note.TheVariants as declared
use Rattle.move_plan.specs.Change.{change_of, is_upgrade, row_change, strict_of}
use Rattle.move_plan.specs.Fitting.{fits, needs_root, row_fits}
use Rattle.move_plan.specs.Seen.{keyless, seen_store}
use Rattle.public_fold.specs.Changing.{checks_then, pairs_then, tree_then}
use Rattle.public_fold.specs.Fitted.{told_stand, told_step}
use Rattle.public_fold.specs.Journal.{Stand, note_step}
use Rattle.public_fold.specs.KeyStep.{KeyState, is_strict}
use Rattle.public_fold.specs.Preparing.{CanSettle, PreparedView, begun, begun_keys, begun_view, root_made, settled, with_check}
use Rattle.public_fold.specs.Records.{pieces_of}
use Rattle.public_fold.specs.Standing.{IsPublicOf, IsSeenAs, PublicView, public_store_of}
use Rattle.public_fold.specs.Told.{told_store}

pub begun_seen : (new : Bool) (v : PublicView) (at : Stand) → IsSeenAs v at → IsSeenAs (begun_view new v) (begun new at)
begun_seen new v at sees = record { store = sees.store; grants = sees.grants; keys = ap (begun_keys new) sees.keys }

-- whether the note fits hangs on no check
pub check_fits : (strict : Bool) (s : Store) (n : Declared) (check : List ℕ) → fits strict s (told_note (with_check n check)) ≡ fits strict s (told_note n)
unfolding told_note fits row_fits needs_root
check_fits strict s (declared.NewHolder holder old) check = refl
check_fits strict s declared.Root check = refl
check_fits strict s (declared.NewFolder folder parent) check = refl
check_fits strict s (declared.NewFile file folder) check = refl
check_fits strict s (declared.Rewrite file) check = refl
check_fits strict s (declared.NameFile file) check = refl
check_fits strict s (declared.NameFolder folder) check = refl
check_fits strict s (declared.DropFile file) check = refl
check_fits strict s (declared.DropFolder folder) check = refl
check_fits strict s (declared.ShiftFile file into) check = refl
check_fits strict s (declared.ShiftFolder folder into) check = refl
check_fits strict s (declared.Give holder folder) check = refl
check_fits strict s (declared.Take holder folder) check = refl
check_fits strict s declared.StrictRoot check = refl
check_fits strict s declared.Upgrade check = refl

pub check_root : (n : Declared) (check : List ℕ) → root_made (told_note n) ≡ root_made (told_note (with_check n check))
unfolding told_note
check_root (declared.NewHolder holder old) check = refl
check_root declared.Root check = refl
check_root (declared.NewFolder folder parent) check = refl
check_root (declared.NewFile file folder) check = refl
check_root (declared.Rewrite file) check = refl
check_root (declared.NameFile file) check = refl
check_root (declared.NameFolder folder) check = refl
check_root (declared.DropFile file) check = refl
check_root (declared.DropFolder folder) check = refl
check_root (declared.ShiftFile file into) check = refl
check_root (declared.ShiftFolder folder into) check = refl
check_root (declared.Give holder folder) check = refl
check_root (declared.Take holder folder) check = refl
check_root declared.StrictRoot check = refl
check_root declared.Upgrade check = refl

-- nor does what stands after it
pub check_told : (n : Declared) (check : List ℕ) (at : Stand) → told_stand at (told_note (with_check n check)) ≡ told_stand at (told_note n)
unfolding told_note told_stand told_step note_step told_store change_of row_change strict_of is_upgrade pieces_of
check_told (declared.NewHolder holder old) check at = refl
check_told declared.Root check at = refl
check_told (declared.NewFolder folder parent) check at = refl
check_told (declared.NewFile file folder) check at = refl
check_told (declared.Rewrite file) check at = refl
check_told (declared.NameFile file) check at = refl
check_told (declared.NameFolder folder) check at = refl
check_told (declared.DropFile file) check at = refl
check_told (declared.DropFolder folder) check at = refl
check_told (declared.ShiftFile file into) check at = refl
check_told (declared.ShiftFolder folder into) check at = refl
check_told (declared.Give holder folder) check at = refl
check_told (declared.Take holder folder) check at = refl
check_told declared.StrictRoot check at = refl
check_told declared.Upgrade check at = refl

-- the store as everyone may see it after a note
abbrev pub seen_then : PublicView → Declared → Store
seen_then v n = seen_store (tree_then v.tree (told_note n)) (record { checks = checks_then v.checks (told_note n); pairs = pairs_then v.pairs (told_note n); spare = 0 })

holders_seen : (t : Store) (gs : List GrantEntry) (a b : List (List ℕ)) (k : KeyState) (at : Stand) → length b ≡ length a
    → IsPublicOf (seen_store t (record { checks = a; pairs = gs; spare = 0 })) k at → IsPublicOf (seen_store t (record { checks = b; pairs = gs; spare = 0 })) k at
holders_seen t gs a b k at e sees = record {
  store = sees.store ∙ (λ i. record (seen_store t (record { checks = a; pairs = gs; spare = 0 })) { grants = at.store.grants; holders = map keyless (range_with_len 1 (sym e i)); holders_made = sym e i });
  grants = sees.grants;
  keys = sees.keys;
}

-- nor what everyone may see of it
pub check_seen : (v : PublicView) (n : Declared) (check : List ℕ) (k : KeyState) (at : Stand) → IsPublicOf (seen_then v n) k at → IsPublicOf (seen_then v (with_check n check)) k at
unfolding told_note tree_then checks_then pairs_then
check_seen v (declared.NewHolder holder old) check k at sees = holders_seen v.tree v.pairs (v.checks ++ old ∷ []) (v.checks ++ check ∷ []) k at (length_push v.checks check ∙ sym (length_push v.checks old)) sees
check_seen v declared.Root check k at sees = sees
check_seen v (declared.NewFolder folder parent) check k at sees = sees
check_seen v (declared.NewFile file folder) check k at sees = sees
check_seen v (declared.Rewrite file) check k at sees = sees
check_seen v (declared.NameFile file) check k at sees = sees
check_seen v (declared.NameFolder folder) check k at sees = sees
check_seen v (declared.DropFile file) check k at sees = sees
check_seen v (declared.DropFolder folder) check k at sees = sees
check_seen v (declared.ShiftFile file into) check k at sees = sees
check_seen v (declared.ShiftFolder folder into) check k at sees = sees
check_seen v (declared.Give holder folder) check k at sees = sees
check_seen v (declared.Take holder folder) check k at sees = sees
check_seen v declared.StrictRoot check k at sees = sees
check_seen v declared.Upgrade check k at sees = sees

-- what can be made with one note can be made with another that fits alike, and leaves the same
pub can_with : (v : PublicView) (old new : PreparedView) → fits (is_strict v.keys) (public_store_of v) (told_note new.note) ≡ fits (is_strict v.keys) (public_store_of v) (told_note old.note)
    → ((at : Stand) → told_stand at (told_note new.note) ≡ told_stand at (told_note old.note)) → ((at : Stand) → IsSeenAs (settled v old) at → IsSeenAs (settled v new) at)
    → CanSettle v old → CanSettle v new
can_with v old new fit told seen can = record {
  note_fits = fit ∙ can.note_fits;
  begins = can.begins;
  leaves = λ at sees.
      let then = begun can.begins at in
      subst (λ a. IsSeenAs (settled v new) a) (sym (told then)) (seen (told_stand then (told_note old.note)) (can.leaves at sees));
}
