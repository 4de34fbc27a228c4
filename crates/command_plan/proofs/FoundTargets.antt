-- What a command refuses, notes, seals and names is what its target says.
use Rattle.std.proofs.Common.{◌≡◌, ◌≤◌, ◌<◌, ℕ, ◌+◌, arith, false, true, List, [], length, replicate, Some, None, Result, Ok, Err, refl, sym, ap, ◌∙◌, subst}
use Rattle.std.specs.Borrow.{Bor}
use Rattle.std.specs.Prelude.{IsSome}
use Rattle.std.specs.Result.{IfOk}
use Rattle.std.proofs.lemmas.Bool.{false≢true}
use Rattle.cry_base.specs.Refusing.{granted_id, has_bad_name, id_of}
use Rattle.cry_base.specs.Requests.{Request}
use Rattle.cry_base.specs.Requests.Request.{AddHolder, MakeFolder, WriteFile, Remove, Rename, Relocate, Grant, Revoke}
use Rattle.cry_base.specs.Clearances.{clear_base}
use Rattle.cry_base.specs.Store.{Store, FileEntry, file_entry, node_at}
use Rattle.cry_base.specs.declared.roles.Node.{Node}
use Rattle.cry_base.specs.declared.roles.Node.TheVariants.{Folder, File}
use Rattle.cry_base.specs.Listed.{Listed}
use Rattle.folder_nodes.specs.Targets.{IsTargetOf, file_found}
use Rattle.folder_nodes.specs.Targets.IsTargetOf.{AddsHolder, MakesFolder, WritesFile, Removes, Renames, Relocates, Grants, Revokes}
use Rattle.folder_nodes.specs.Titles.{Titles, tree_store}
use Rattle.folder_nodes.specs.Trees.{IsTree}
use Rattle.folder_nodes.specs.declared.targets.Target.{Target}
use Rattle.folder_nodes.specs.declared.targets.Target.TheVariants as targets
use Rattle.folder_nodes.proofs.Ascending.{All-in}
use Rattle.folder_nodes.proofs.Checked.{found_stands}
use Rattle.folder_nodes.proofs.Downward.{file_id}
use Rattle.folder_nodes.proofs.Located.{file_in}
use Rattle.grant_book.specs.Granted.{Granted}
use Rattle.grant_book.specs.Refused.{refusal_of_grant}
use Rattle.record_format.specs.Noted.Note.{NewFolder, Give, Take}
use Rattle.move_plan.specs.Noting.{move_note, note_of, remove_note, rename_note, write_note}
use Rattle.journal_bytes.specs.Owning.{IsStoreOf, refusal_for_grants}
use Rattle.journal_bytes.specs.Texting.{due_key, due_text, file_text, name_at, titled_text}
use Rattle.command_plan.specs.NameChanges.{IsNameChangeOf, IsRemoving, IsRenaming, IsSetting, IsWriting}
use Rattle.command_plan.specs.Targeted.{HasNumber, HasShortName, IsNameChangeTo, IsNumbered, key_to, note_to, refusal_to, text_to}
use Rattle.command_plan.specs.declared.name_change.NameChange.{NameChange}
use Rattle.command_plan.proofs.Forms.{bytes_form, last_named, name_form, name_size, short}
use Rattle.command_plan.proofs.NotesTold.{bytes_note, folder_note, grant_note, holder_note, name_note, removal_note, revoke_note, shift_note}
use Rattle.command_plan.proofs.TextsTold.{named_anew}

-- ---- why the grants refuse it

pub refusal_told : (g : Granted) (s : Store) {r : Request} {target : Target} → IsTargetOf s r target → refusal_to g target ≡ refusal_for_grants s g r
refusal_told g s AddsHolder = refl
refusal_told g s (MakesFolder place named) = refl
refusal_told g s (WritesFile place at named) = refl
refusal_told g s (Removes at) = refl
refusal_told g s (Renames at) = refl
refusal_told g s (Relocates at to) = refl
refusal_told g s (Grants {holder = holder} at) = ap (λ o. refusal_of_grant g.checks g.pairs true holder.0 (granted_id o)) (sym at)
refusal_told g s (Revokes {holder = holder} at) = ap (λ o. refusal_of_grant g.checks g.pairs false holder.0 (granted_id o)) (sym at)

-- ---- its note

module _ (tree : Store) (n : Titles) (g : Granted) (s : Store) (is : IsStoreOf tree n g s) where
  pub note_told : {r : Request} {target : Target} → IsTargetOf (tree_store tree n) r target → note_to tree (length g.checks) target ≡ note_of s r (replicate 32 0)
  unfolding id_of granted_id
  note_told AddsHolder = holder_note tree n g s is (replicate 32 0) AddHolder refl
  note_told (MakesFolder {path = path} {parent = parent} place named) =
      ap (λ o. NewFolder (tree.folders_made + 1) (id_of o)) (sym place) ∙ folder_note tree n g s is (replicate 32 0) (MakeFolder path) path refl
  note_told (WritesFile {path = path} {folder = folder} {bytes = bytes} place at named) =
      ap (λ o. write_note tree o folder.0) (sym at)
      ∙ ap (λ o. write_note tree (node_at (tree_store tree n) path) (id_of o)) (sym place)
      ∙ bytes_note tree n g s is (replicate 32 0) (WriteFile path bytes.now) path bytes.now refl
  note_told (Removes {path = path} at) =
      ap remove_note (sym at) ∙ removal_note tree n g s is (replicate 32 0) (Remove path) path refl
  note_told (Renames {path = path} {name = name} at) =
      ap rename_note (sym at) ∙ name_note tree n g s is (replicate 32 0) (Rename path name.now) path name.now refl
  note_told (Relocates {path = path} {into = into} {folder = folder} at to) =
      ap (λ o. move_note o folder.0) (sym at)
      ∙ ap (λ o. move_note (node_at (tree_store tree n) path) (id_of o)) (sym to)
      ∙ shift_note tree n g s is (replicate 32 0) (Relocate path into) path into refl
  note_told (Grants {path = path} {holder = holder} at) =
      ap (λ o. Give holder.0 (granted_id o)) (sym at) ∙ grant_note tree n g s is (replicate 32 0) (Grant holder.0 path) holder.0 path refl
  note_told (Revokes {path = path} {holder = holder} at) =
      ap (λ o. Take holder.0 (granted_id o)) (sym at) ∙ revoke_note tree n g s is (replicate 32 0) (Revoke holder.0 path) holder.0 path refl

-- ---- the number of what it grants

numbered : (tree : Store) (n : Titles) (path : List ℕ) (node : Node) → IsTree tree → tree.files_made < clear_base → node_at (tree_store tree n) path ≡ Some node → IsNumbered node
numbered tree n path (Folder f) is low at = tt
numbered tree n path (File x) is low at =
    (elim (file_entry tree x.0) as (λ o. file_entry tree x.0 ≡ o → IsSome o → x.0 < clear_base) [
      | None ↦ λ q some. absurd (false≢true some)
      | Some e ↦ λ q some.
          let made = All-in FileEntry (λ (e : FileEntry). (1 ≤ e.id) × (e.id ≤ tree.files_made)) tree.files e is.files_made (file_in tree x.0 e q) in
          let last = made.1 in let same = file_id tree x.0 e q in omega (arith, last, same, low)
    ]) refl (found_stands tree n path (File x) at)

pub number_told : (tree : Store) (n : Titles) → IsTree tree → tree.files_made < clear_base → {r : Request} {target : Target} → IsTargetOf (tree_store tree n) r target → HasNumber target
number_told tree n is low AddsHolder = tt
number_told tree n is low (MakesFolder place named) = tt
number_told tree n is low (WritesFile place at named) = tt
number_told tree n is low (Removes at) = tt
number_told tree n is low (Renames at) = tt
number_told tree n is low (Relocates at to) = tt
number_told tree n is low (Grants {path = path} {node = node} at) = numbered tree n path node is low at
number_told tree n is low (Revokes {path = path} {node = node} at) = numbered tree n path node is low at

-- ---- its text

anew : (n : Titles) (node : Node) (name : Bor (List ℕ)) → text_to n (targets.Rename node name) ≡ titled_text n (Some node) name.now
anew n (Folder f) name = refl
anew n (File x) name = refl

pub text_told : (tree : Store) (n : Titles) {r : Request} {target : Target} → IsTargetOf (tree_store tree n) r target → text_to n target ≡ due_text (tree_store tree n) r
unfolding due_text
text_told tree n AddsHolder = refl
text_told tree n (MakesFolder place named) = named
text_told tree n (WritesFile {bytes = bytes} place at named) = ap (λ l. file_text l bytes.now) named
text_told tree n (Removes at) = refl
text_told tree n (Renames {path = path} {node = node} {name = name} at) = anew n node name ∙ named_anew tree n path name.now (Some node) (sym at)
text_told tree n (Relocates at to) = refl
text_told tree n (Grants at) = refl
text_told tree n (Revokes at) = refl

pub key_told : (s : Store) (key : List ℕ) {r : Request} {target : Target} → IsTargetOf s r target → key_to target key ≡ due_key r key
unfolding due_key
key_told s key AddsHolder = refl
key_told s key (MakesFolder place named) = refl
key_told s key (WritesFile place at named) = refl
key_told s key (Removes at) = refl
key_told s key (Renames at) = refl
key_told s key (Relocates at to) = refl
key_told s key (Grants at) = refl
key_told s key (Revokes at) = refl

-- only a command that makes a holder has its target
pub holder_only : (s : Store) {r : Request} {target : Target} → IsTargetOf s r target → r ≡ AddHolder → target ≡ targets.AddHolder
holder_only s AddsHolder e = refl
holder_only s (MakesFolder place named) e = absurd (cc)
holder_only s (WritesFile place at named) e = absurd (cc)
holder_only s (Removes at) e = absurd (cc)
holder_only s (Renames at) e = absurd (cc)
holder_only s (Relocates at to) e = absurd (cc)
holder_only s (Grants at) e = absurd (cc)
holder_only s (Revokes at) e = absurd (cc)

pub room_told : {E : Type 0} (result : Result (Listed ℕ) E) (target : Target) → (target ≡ targets.AddHolder → IfOk result (λ text. 32 ≤ text.spare))
    → IfOk result (λ text. (s : Store) (r : Request) → IsTargetOf s r target → r ≡ AddHolder → 32 ≤ text.spare)
room_told (Ok text) target room = λ s r of e. room (holder_only s of e)
room_told (Err e) target room = tt

pub short_told : (s : Store) {r : Request} {target : Target} → IsTargetOf s r target → has_bad_name r ≡ false → HasShortName target
short_told s AddsHolder good = tt
short_told s (MakesFolder place named) good = tt
short_told s (WritesFile {path = path} {bytes = bytes} place at named) good =
    subst (λ l. length l ≤ 64) (sym named) (short (name_at path) (last_named path (bytes_form path bytes.now good)))
short_told s (Removes at) good = tt
short_told s (Renames {path = path} {name = name} at) good = (name_size name.now (name_form path name.now good).1).1
short_told s (Relocates at to) good = tt
short_told s (Grants at) good = tt
short_told s (Revokes at) good = tt

-- ---- the change of its names

pub change_told : (tree : Store) (n : Titles) (change : NameChange) {r : Request} {target : Target} → IsTargetOf (tree_store tree n) r target → IsNameChangeTo tree n target change → IsNameChangeOf (tree_store tree n) r n change
unfolding tree_store
change_told tree n change AddsHolder h = h
change_told tree n change (MakesFolder place named) h = subst (λ l. IsSetting change (Folder (record { 0 = tree.folders_made + 1 })) l []) named h
change_told tree n change (WritesFile {path = path} {file = file} {bytes = bytes} place at named) h =
    subst (λ o. IsWriting change tree.files_made o (name_at path) bytes.now) (sym at) (subst (λ l. IsWriting change tree.files_made (file_found file) l bytes.now) named h)
change_told tree n change (Removes at) h = subst (λ o. IsRemoving change o) (sym at) h
change_told tree n change (Renames {name = name} at) h = subst (λ o. IsRenaming change n o name.now) (sym at) h
change_told tree n change (Relocates at to) h = h
change_told tree n change (Grants at) h = h
change_told tree n change (Revokes at) h = h
