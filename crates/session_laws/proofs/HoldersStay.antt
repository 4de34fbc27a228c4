-- A holder who was made stays, with the same key.
use Rattle.std.proofs.Common.{◌≡◌, ℕ, ◌+◌, Bool, true, false, cond, List, [], ◌∷◌, ◌++◌, Option, Some, None, refl, sym, subst}
use Rattle.std.specs.Prelude.{find, ◌==◌}
use Rattle.commit_journal.specs.Holding.{IsPrefix}
use Rattle.commit_journal.proofs.KeptLemmas.{prefix_same, prefix_trans}
use Rattle.cry_base.specs.Refusing.{id_of}
use Rattle.cry_base.specs.Requests.{Request}
use Rattle.cry_base.specs.Requests.Request.{AddHolder, MakeFolder, WriteFile, Remove, Rename, Relocate, Grant, Revoke}
use Rattle.cry_base.specs.Stepping.{effect, moved, with_bytes_at, with_file, with_folder, with_name, with_new_file, with_new_folder, with_new_holder, without_file, without_folder, without_grant, without_node}
use Rattle.cry_base.specs.Store.{HolderEntry, Store, holder_entry, no_store, node_at}
use Rattle.cry_base.specs.declared.roles.Node.{Node}
use Rattle.cry_base.specs.declared.roles.Node.TheVariants.{File, Folder}
use Rattle.public_fold.specs.Journal.{Entry, Journal, Stand, entry_store, first_key, nothing, stand_after, stand_then, store_of}
use Rattle.public_fold.specs.Journal.Entry.{Session, Made, Did, Upgraded}
use Rattle.public_fold.specs.Valid.{BeginsWell, FollowOn, IsNext}
use Rattle.public_fold.proofs.Prefixes.{stand_after-append}
use Rattle.session_laws.specs.Serving.{IsHonestKey}

-- ---- one command

bytes_holders : (s : Store) (o : Option Node) (path bytes : List ℕ) → (with_bytes_at s o path bytes).holders ≡ s.holders
unfolding with_bytes_at with_new_file with_file
bytes_holders s None path bytes = refl
bytes_holders s (Some (Folder f)) path bytes = refl
bytes_holders s (Some (File x)) path bytes = refl

less_holders : (s : Store) (o : Option Node) → (without_node s o).holders ≡ s.holders
unfolding without_node without_folder without_file
less_holders s None = refl
less_holders s (Some (Folder f)) = refl
less_holders s (Some (File x)) = refl

named_holders : (s : Store) (o : Option Node) (name : List ℕ) → (with_name s o name).holders ≡ s.holders
unfolding with_name with_folder with_file
named_holders s None name = refl
named_holders s (Some (Folder f)) name = refl
named_holders s (Some (File x)) name = refl

moved_holders : (s : Store) (o : Option Node) (into : ℕ) → (moved s o into).holders ≡ s.holders
unfolding moved with_folder with_file
moved_holders s None into = refl
moved_holders s (Some (Folder f)) into = refl
moved_holders s (Some (File x)) into = refl

same_holders : (a b : List HolderEntry) → b ≡ a → IsPrefix a b
same_holders a b same = subst (IsPrefix a) (sym same) (prefix_same a)

command_holders : (s : Store) (r : Request) (key : List ℕ) → IsPrefix s.holders (effect s r key).holders
unfolding effect with_new_holder with_new_folder without_grant
command_holders s AddHolder key = (record { number = s.holders_made + 1; key = key } ∷ [], refl)
command_holders s (MakeFolder path) key = prefix_same s.holders
command_holders s (WriteFile path bytes) key = same_holders s.holders (with_bytes_at s (node_at s path) path bytes).holders (bytes_holders s (node_at s path) path bytes)
command_holders s (Remove path) key = same_holders s.holders (without_node s (node_at s path)).holders (less_holders s (node_at s path))
command_holders s (Rename path name) key = same_holders s.holders (with_name s (node_at s path) name).holders (named_holders s (node_at s path) name)
command_holders s (Relocate path into) key =
    same_holders s.holders (moved s (node_at s path) (id_of (node_at s into))).holders (moved_holders s (node_at s path) (id_of (node_at s into)))
command_holders s (Grant h path) key = prefix_same s.holders
command_holders s (Revoke h path) key = prefix_same s.holders

-- ---- entries

entry_holders : (at : Stand) (entry : Entry) → IsNext at entry → IsPrefix at.store.holders (stand_then at entry).store.holders
unfolding stand_then entry_store
entry_holders at Session next = prefix_same at.store.holders
entry_holders at (Made version keys) next = absurd next
entry_holders at (Did r keys) next = command_holders at.store r (first_key keys)
entry_holders at (Upgraded keys) next = prefix_same at.store.holders

after_holders : (at : Stand) (entries : List Entry) → FollowOn at entries → IsPrefix at.store.holders (stand_after at entries).store.holders
unfolding stand_after
after_holders at [] follow = prefix_same at.store.holders
after_holders at (entry ∷ entries) follow =
    let next = stand_then at entry in
    prefix_trans at.store.holders next.store.holders (stand_after next entries).store.holders (entry_holders at entry follow.0) (after_holders next entries follow.1)

follow_back : (at : Stand) (xs ys : List Entry) → FollowOn at (xs ++ ys) → FollowOn (stand_after at xs) ys
unfolding stand_after
follow_back at [] ys follow = follow
follow_back at (x ∷ xs) ys follow = follow_back (stand_then at x) xs ys follow.1

later_holders : (at : Stand) (xs ys : List Entry) → FollowOn at (xs ++ ys) → IsPrefix (stand_after at xs).store.holders (stand_after at (xs ++ ys)).store.holders
later_holders at xs ys follow =
    subst (λ (z : Stand). IsPrefix (stand_after at xs).store.holders z.store.holders) (sym (stand_after-append at xs ys))
    (after_holders (stand_after at xs) ys (follow_back at xs ys follow))

-- ---- a journal

pub holders_grow : (m more : Journal) → BeginsWell (m ++ more) → IsPrefix (store_of m).holders (store_of (m ++ more)).holders
unfolding store_of stand_after stand_then entry_store nothing no_store
holders_grow [] more begins = ((store_of more).holders, refl)
holders_grow (Session ∷ []) more begins = ((store_of (Session ∷ more)).holders, refl)
holders_grow (Session ∷ Session ∷ es) more begins = absurd begins
holders_grow (Session ∷ Made version keys ∷ es) more begins = later_holders (stand_then (stand_then nothing Session) (Made version keys)) es more begins.1
holders_grow (Session ∷ Did r keys ∷ es) more begins = absurd begins
holders_grow (Session ∷ Upgraded keys ∷ es) more begins = absurd begins
holders_grow (Made version keys ∷ es) more begins = absurd begins
holders_grow (Did r keys ∷ es) more begins = absurd begins
holders_grow (Upgraded keys ∷ es) more begins = absurd begins

found_front : (h : ℕ) (xs ys : List HolderEntry) (e : HolderEntry) → find (λ d. d.number == h) xs ≡ Some e → find (λ d. d.number == h) (xs ++ ys) ≡ Some e
found_front h [] ys e is = absurd (cc)
found_front h (x ∷ xs) ys e is =
    (elim (x.number == h) as (λ (test : Bool). cond test (Some x) (find (λ d. d.number == h) xs) ≡ Some e → cond test (Some x) (find (λ d. d.number == h) (xs ++ ys)) ≡ Some e) [
      | true ↦ λ found. found
      | false ↦ λ later. found_front h xs ys e later
    ]) is

pub holder_stays : (m more : Journal) (h : ℕ) (e : HolderEntry) → BeginsWell (m ++ more) → holder_entry (store_of m) h ≡ Some e → holder_entry (store_of (m ++ more)) h ≡ Some e
unfolding holder_entry
holder_stays m more h e begins is =
    let grown = holders_grow m more begins in
    subst (λ hs. find (λ d. d.number == h) hs ≡ Some e) grown.1 (found_front h (store_of m).holders grown.0 e is)

-- a key that is the holder's in all of a journal is so in its first entries
pub honest_front : (m more : Journal) (h : ℕ) (key : List ℕ) → BeginsWell (m ++ more) → IsHonestKey (m ++ more) h key → IsHonestKey m h key
honest_front m more h key begins honest e is = honest e (holder_stays m more h e begins is)
