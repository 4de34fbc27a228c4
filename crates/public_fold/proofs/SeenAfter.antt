-- The state after a note is what everyone may see of the stand after it.
use Rattle.std.proofs.Common.{◌≡◌, ℕ, ◌+◌, Bool, true, not, ◌==◌, List, [], ◌∷◌, ◌++◌, map, length, refl, sym, ap, ◌∙◌, subst, add-one, add_comm}
use Rattle.std.specs.List.{range_with_len}
use Rattle.std.specs.Prelude.{unwrap_or}
use Rattle.std.proofs.lemmas.List.{length_push, map-append}
use Rattle.cry_base.specs.Clearances.{clear_number}
use Rattle.cry_base.specs.Stepping.{with_new_holder, with_new_folder, with_new_file, with_folder, with_file, without_folder, without_file, without_grant}
use Rattle.cry_base.specs.Store.{Store, GrantEntry, no_store, root_store}
use Rattle.grant_book.specs.Granted.{grant_of, is_grant}
use Rattle.grant_book.proofs.Matched.{range_more}
use Rattle.record_format.specs.Noted.{Note}
use Rattle.record_format.specs.Noted.Note.{Root, NewHolder, NewFolder, NewFile, Rewrite, NameFile, NameFolder, DropFile, DropFolder, ShiftFile, ShiftFolder, Give, Take, StrictRoot, Upgrade}
use Rattle.move_plan.specs.Fitting.{fits, needs_root}
use Rattle.move_plan.specs.Seen.{keyless, seen_store}
use Rattle.public_fold.specs.Changing.{checks_then, pairs_then, tree_then}
use Rattle.public_fold.specs.Fitted.{told_stand, told_step}
use Rattle.public_fold.specs.Journal.{Stand}
use Rattle.public_fold.specs.KeyStep.{KeyState}
use Rattle.public_fold.specs.Standing.{AreSameGrants, IsSeenAs, PublicView, public_store_of, stand_of}
use Rattle.public_fold.specs.Stepping.{IsStep, keys_left}
use Rattle.public_fold.specs.Told.{told_store}
use Rattle.public_fold.specs.declared.step.Step.{Step}
use Rattle.public_fold.proofs.MayChange.{may_change_grants}
use Rattle.public_fold.proofs.SameGrants.{less_same, more_same}
use Rattle.public_fold.proofs.SeenSame.{seen_step}

-- the numbers of the holders, with one more
keyless_more : (n m : ℕ) → m ≡ n + 1 → map keyless (range_with_len 1 n) ++ keyless (n + 1) ∷ [] ≡ map keyless (range_with_len 1 m)
keyless_more n m e =
    ap (λ k. map keyless (range_with_len 1 n) ++ keyless k ∷ []) (add_comm n 1)
    ∙ sym (map-append keyless (range_with_len 1 n) ((1 + n) ∷ []))
    ∙ ap (map keyless) (range_more 1 n)
    ∙ ap (λ k. map keyless (range_with_len 1 k)) (sym (e ∙ add-one n))

-- the store as everyone may see it, from the tree, the checks and the grants
abbrev pub seen : Store → List (List ℕ) → List GrantEntry → Store
seen t checks gs = seen_store t (record { checks = checks; pairs = gs; spare = 0 })

pub store_after : (t : Store) (checks : List (List ℕ)) (gs : List GrantEntry) (note : Note)
    → told_store (seen t checks gs) note ≡ seen (tree_then t note) (checks_then checks note) (told_store (seen t checks gs) note).grants
unfolding told_store tree_then checks_then with_new_holder with_new_folder with_new_file with_folder with_file without_folder without_file without_grant root_store no_store
store_after t checks gs Root = refl
store_after t checks gs (NewHolder h check) = λ i. record {
  folders = t.folders;
  files = t.files;
  holders = keyless_more (length checks) (length (checks ++ check ∷ [])) (length_push checks check) i;
  grants = gs;
  folders_made = t.folders_made;
  files_made = t.files_made;
  holders_made = sym (length_push checks check) i;
}
store_after t checks gs (NewFolder f p) = refl
store_after t checks gs (NewFile x f) = refl
store_after t checks gs (Rewrite x) = refl
store_after t checks gs (NameFile x) = refl
store_after t checks gs (NameFolder f) = refl
store_after t checks gs (DropFile x) = refl
store_after t checks gs (DropFolder f) = refl
store_after t checks gs (ShiftFile x g) = refl
store_after t checks gs (ShiftFolder g q) = refl
store_after t checks gs (Give h f) = refl
store_after t checks gs (Take h f) = refl
store_after t checks gs StrictRoot = refl
store_after t checks gs Upgrade = refl

needs_one : (h f : ℕ) → needs_root (Give h f) ≡ true
unfolding needs_root
needs_one h f = refl

grants_after : (strict : Bool) (t : Store) (checks : List (List ℕ)) (pairs gs : List GrantEntry) (note : Note) → fits strict (seen t checks pairs) note ≡ true → AreSameGrants pairs gs
    → AreSameGrants (pairs_then pairs note) (told_store (seen t checks gs) note).grants
unfolding told_store pairs_then with_new_holder with_new_folder with_new_file with_folder with_file without_folder without_file without_grant root_store no_store
grants_after strict t checks pairs gs Root fit are = record { same = λ g. (λ i. i, λ i. i); once = tt; other_once = tt }
grants_after strict t checks pairs gs (NewHolder h check) fit are = are
grants_after strict t checks pairs gs (NewFolder f p) fit are = are
grants_after strict t checks pairs gs (NewFile x f) fit are = are
grants_after strict t checks pairs gs (Rewrite x) fit are = are
grants_after strict t checks pairs gs (NameFile x) fit are = are
grants_after strict t checks pairs gs (NameFolder f) fit are = are
grants_after strict t checks pairs gs (DropFile x) fit are = less_same pairs gs (λ e. not (e.folder == clear_number x)) are
grants_after strict t checks pairs gs (DropFolder f) fit are = less_same pairs gs (λ e. not (e.folder == f)) are
grants_after strict t checks pairs gs (ShiftFile x g) fit are = are
grants_after strict t checks pairs gs (ShiftFolder g q) fit are = are
grants_after strict t checks pairs gs (Give h f) fit are =
    more_same pairs gs (grant_of h f) are (may_change_grants strict t (record { checks = checks; pairs = pairs; spare = 0 }) (Give h f) fit (needs_one h f)).1
grants_after strict t checks pairs gs (Take h f) fit are = less_same pairs gs (λ e. not (is_grant h f e)) are
grants_after strict t checks pairs gs StrictRoot fit are = record { same = λ g. (λ i. i, λ i. i); once = tt; other_once = tt }
grants_after strict t checks pairs gs Upgrade fit are = are

-- the state that a step leaves, with these keys before it
abbrev pub state_after : PublicView → KeyState → Note → Step → PublicView
state_after v k note s = record {
  tree = tree_then v.tree note;
  checks = checks_then v.checks note;
  pairs = pairs_then v.pairs note;
  keys = record { keys = keys_left k.keys s; dirty = s.left.dirty; epoch = s.left.epoch; count = s.left.count; version = unwrap_or s.left.version k.version };
  spare = v.spare;
  key_spare = v.key_spare;
}

-- the keys after a step, whatever is sealed
keys_after : (k : KeyState) (at : Stand) (note : Note) (s : Step) → IsStep k (told_step at note) s
    → (told_step at note).after ≡ record { keys = keys_left k.keys s; dirty = s.left.dirty; epoch = s.left.epoch; count = s.left.count; version = unwrap_or s.left.version k.version }
keys_after k at note s is = λ i. record { keys = sym is.keys i; dirty = sym is.dirty i; epoch = sym is.epoch i; count = sym is.count i; version = sym is.version i }

pub seen_after : (strict : Bool) (v : PublicView) (k : KeyState) (note : Note) (s : Step) → fits strict (public_store_of v) note ≡ true → IsStep k (told_step (stand_of v) note) s
    → (at : Stand) → IsSeenAs v at → IsSeenAs (state_after v k note s) (told_stand at note)
unfolding told_stand
seen_after strict v k note s fit is at sees =
    let gs = at.store.grants in
    let told : told_store at.store note ≡ told_store (seen v.tree v.checks gs) note = ap (λ (z : Store). told_store z note) sees.store in
    let grants : (told_store (seen v.tree v.checks gs) note).grants ≡ (told_store at.store note).grants = ap (λ (z : Store). z.grants) (sym told) in
    record {
      store = told ∙ store_after v.tree v.checks gs note ∙ (λ i. seen (tree_then v.tree note) (checks_then v.checks note) (grants i));
      grants = subst (λ (l : List GrantEntry). AreSameGrants (pairs_then v.pairs note) l) grants (grants_after strict v.tree v.checks v.pairs gs note fit sees.grants);
      keys = keys_after k at note s (subst (λ z. IsStep k z s) (sym (seen_step v at note sees)) is);
    }
