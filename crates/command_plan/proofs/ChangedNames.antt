-- What a change of names makes of them, and when it can be made.
use Rattle.std.proofs.Common.{◌≡◌, ℕ, ◌+◌, ◌≤◌, false, List, [], Option, Some, None, inr, sym, subst}
use Rattle.cry_base.specs.Refusing.{has_bad_name}
use Rattle.cry_base.specs.Requests.{Request}
use Rattle.cry_base.specs.Requests.Request.{AddHolder, MakeFolder, WriteFile, Remove, Rename, Relocate, Grant, Revoke}
use Rattle.cry_base.specs.Store.{Store, node_at}
use Rattle.cry_base.specs.declared.roles.Node.{Node}
use Rattle.cry_base.specs.declared.roles.Node.TheVariants.{Folder, File}
use Rattle.folder_nodes.specs.Joining.{IsSet, IsForgotten}
use Rattle.folder_nodes.specs.Titles.{MayBeNamed, Titles, bytes_in, title_at}
use Rattle.journal_bytes.specs.Owning.{IsTreeOf}
use Rattle.journal_bytes.specs.Texting.{AreKept, AreTitlesAfter, IsRemoved, IsRenamed, IsWritten, name_at}
use Rattle.journal_bytes.proofs.Refused.{found_same}
use Rattle.command_plan.specs.NameChanges.{CanChangeNames, IsForgetting, IsKeeping, IsRemoving, IsRenaming, AreNamesChanged, IsNameChangeOf, IsSetting, IsWriting}
use Rattle.command_plan.specs.declared.name_change.NameChange.{NameChange}
use Rattle.command_plan.specs.declared.name_change.NameChange.TheVariants.{Keep, Set, Forget}
use Rattle.command_plan.proofs.Forms.{bytes_form, folder_form, last_named, name_form}

setting : (change : NameChange) (node : Node) (name bytes : List ℕ) (old new : Titles) → IsSetting change node name bytes → AreNamesChanged change old new → IsSet old new node name bytes
setting Keep node name bytes old new is made = absurd is
setting (Set at text content) node name bytes old new is made =
    subst (λ b. IsSet old new node name b) is.2 (subst (λ n. IsSet old new node n content.items) is.1 (subst (λ z. IsSet old new z text.items content.items) is.0 made))
setting (Forget at) node name bytes old new is made = absurd is

keeping : (change : NameChange) (old new : Titles) → IsKeeping change → AreNamesChanged change old new → AreKept old new
keeping Keep old new is made = made
keeping (Set at text content) old new is made = absurd is
keeping (Forget at) old new is made = absurd is

forgetting : (change : NameChange) (node : Node) (old new : Titles) → IsForgetting change node → AreNamesChanged change old new → IsForgotten old new node
forgetting Keep node old new is made = absurd is
forgetting (Set at text content) node old new is made = absurd is
forgetting (Forget at) node old new is made = subst (λ z. IsForgotten old new z) is made

writing : (change : NameChange) (made : ℕ) (o : Option Node) (name bytes : List ℕ) (old new : Titles) → IsWriting change made o name bytes → AreNamesChanged change old new → IsWritten made old new o name bytes
writing change made None name bytes old new is done = setting change (File (record { 0 = made + 1 })) name bytes old new is done
writing change made (Some (Folder f)) name bytes old new is done = keeping change old new is done
writing change made (Some (File x)) name bytes old new is done = setting change (File x) name bytes old new is done

removing : (change : NameChange) (o : Option Node) (old new : Titles) → IsRemoving change o → AreNamesChanged change old new → IsRemoved old new o
removing change None old new is done = keeping change old new is done
removing change (Some node) old new is done = forgetting change node old new is done

renaming : (change : NameChange) (o : Option Node) (name : List ℕ) (old new : Titles) → IsRenaming change old o name → AreNamesChanged change old new → IsRenamed old new o name
renaming change None name old new is done = keeping change old new is done
renaming change (Some (Folder f)) name old new is done = setting change (Folder f) name [] old new is done
renaming change (Some (File x)) name old new is done = setting change (File x) name (bytes_in (title_at old.files x.0)) old new is done

-- the names after a command's change are those after the command
pub titles_after : (t s : Store) (r : Request) (old new : Titles) (change : NameChange) → IsTreeOf t s → IsNameChangeOf t r old change → AreNamesChanged change old new → AreTitlesAfter s r old new
titles_after t s AddHolder old new change of is done = keeping change old new is done
titles_after t s (MakeFolder path) old new change of is done =
    subst (λ k. IsSet old new (Folder (record { 0 = k + 1 })) (name_at path) []) of.folders_made (setting change (Folder (record { 0 = t.folders_made + 1 })) (name_at path) [] old new is done)
titles_after t s (WriteFile path bytes) old new change of is done =
    subst (λ o. IsWritten s.files_made old new o (name_at path) bytes) (found_same t s path of)
    (subst (λ k. IsWritten k old new (node_at t path) (name_at path) bytes) of.files_made (writing change t.files_made (node_at t path) (name_at path) bytes old new is done))
titles_after t s (Remove path) old new change of is done = subst (λ o. IsRemoved old new o) (found_same t s path of) (removing change (node_at t path) old new is done)
titles_after t s (Rename path name) old new change of is done = subst (λ o. IsRenamed old new o name) (found_same t s path of) (renaming change (node_at t path) name old new is done)
titles_after t s (Relocate path into) old new change of is done = keeping change old new is done
titles_after t s (Grant h path) old new change of is done = keeping change old new is done
titles_after t s (Revoke h path) old new change of is done = keeping change old new is done

can_set : (change : NameChange) (node : Node) (name bytes : List ℕ) (old : Titles) → IsSetting change node name bytes → MayBeNamed name → 1 ≤ old.spare → CanChangeNames change old
can_set Keep node name bytes old is may room = tt
can_set (Set at text content) node name bytes old is may room = (room, subst MayBeNamed (sym is.1) may)
can_set (Forget at) node name bytes old is may room = tt

can_keep : (change : NameChange) (old : Titles) → IsKeeping change → CanChangeNames change old
can_keep Keep old is = tt
can_keep (Set at text content) old is = absurd is
can_keep (Forget at) old is = tt

can_forget : (change : NameChange) (node : Node) (old : Titles) → IsForgetting change node → CanChangeNames change old
can_forget Keep node old is = tt
can_forget (Set at text content) node old is = absurd is
can_forget (Forget at) node old is = tt

can_write : (change : NameChange) (made : ℕ) (o : Option Node) (name bytes : List ℕ) (old : Titles) → IsWriting change made o name bytes → MayBeNamed name → 1 ≤ old.spare → CanChangeNames change old
can_write change made None name bytes old is may room = can_set change (File (record { 0 = made + 1 })) name bytes old is may room
can_write change made (Some (Folder f)) name bytes old is may room = can_keep change old is
can_write change made (Some (File x)) name bytes old is may room = can_set change (File x) name bytes old is may room

can_remove : (change : NameChange) (o : Option Node) (old : Titles) → IsRemoving change o → CanChangeNames change old
can_remove change None old is = can_keep change old is
can_remove change (Some node) old is = can_forget change node old is

can_rename : (change : NameChange) (o : Option Node) (name : List ℕ) (old : Titles) → IsRenaming change old o name → MayBeNamed name → 1 ≤ old.spare → CanChangeNames change old
can_rename change None name old is may room = can_keep change old is
can_rename change (Some (Folder f)) name old is may room = can_set change (Folder f) name [] old is may room
can_rename change (Some (File x)) name old is may room = can_set change (File x) name (bytes_in (title_at old.files x.0)) old is may room

-- a command's change can be made where there is room for it
pub can_change : (t : Store) (r : Request) (old : Titles) (change : NameChange) → has_bad_name r ≡ false → IsNameChangeOf t r old change → 1 ≤ old.spare → CanChangeNames change old
can_change t AddHolder old change form is room = can_keep change old is
can_change t (MakeFolder path) old change form is room = can_set change (Folder (record { 0 = t.folders_made + 1 })) (name_at path) [] old is (last_named path (folder_form path form)) room
can_change t (WriteFile path bytes) old change form is room = can_write change t.files_made (node_at t path) (name_at path) bytes old is (last_named path (bytes_form path bytes form)) room
can_change t (Remove path) old change form is room = can_remove change (node_at t path) old is
can_change t (Rename path name) old change form is room = can_rename change (node_at t path) name old is (inr (name_form path name form).1) room
can_change t (Relocate path into) old change form is room = can_keep change old is
can_change t (Grant h path) old change form is room = can_keep change old is
can_change t (Revoke h path) old change form is room = can_keep change old is
