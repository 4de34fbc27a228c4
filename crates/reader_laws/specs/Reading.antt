-- What whoever reads the bytes of a journal is shown. This project's own, docs/FORMAT.md, "Reading".
use Rattle.std.specs.Prelude.{◌≡◌, ◌≢◌, ℕ, List, None, Some, Result, Ok, Err}
use Rattle.chacha_seal.specs.Sealing.{check_of}
use Rattle.cry_base.specs.Sets.{In}
use Rattle.cry_base.specs.Store.{FileEntry, HolderEntry, Store, holder_entry}
use Rattle.cry_base.specs.declared.client.Bundle.{Bundle}
use Rattle.cry_base.specs.declared.client.Bundle.TheVariants as bundles
use Rattle.log_visits.specs.Asking.{line_at, or_else}
use Rattle.log_visits.specs.Judging.{Failure, NoHolder, Unseen, who_of}
use Rattle.log_visits.specs.View.{Line, view}
use Rattle.public_fold.specs.Journal.{Journal, store_of}
use Rattle.role_graph.specs.Rights.{Who, IsFileAllowedTo}

-- the bundle has a key of the journal's: the owner's, or the one of a holder that it made
abbrev pub IsReaderOf : List ℕ → Journal → Bundle → Type 0
IsReaderOf owner m (bundles.Owner key) = key ≡ owner
IsReaderOf owner m (bundles.Holder h key) = (e : HolderEntry) × (holder_entry (store_of m) h.0 ≡ Some e) × (key ≡ e.key)

-- the bundle has no wrong key: the owner's, or that of a holder, if the journal made the holder
abbrev pub IsRightFor : List ℕ → Journal → Bundle → Type 0
IsRightFor owner m (bundles.Owner key) = key ≡ owner
IsRightFor owner m (bundles.Holder h key) = (e : HolderEntry) → holder_entry (store_of m) h.0 ≡ Some e → key ≡ e.key

-- the bundle's key has another check than the one that is published for its reader
abbrev pub IsWrongFor : List ℕ → Journal → Bundle → Type 0
IsWrongFor owner m (bundles.Owner key) = check_of owner ≢ check_of key
IsWrongFor owner m (bundles.Holder h key) = (e : HolderEntry) × (holder_entry (store_of m) h.0 ≡ Some e) × (check_of e.key ≢ check_of key)

-- each of these is a file that stands and is allowed
abbrev pub AreAllowed : Store → Who → List ℕ → Type 0
AreAllowed s who xs = (x : ℕ) → In x xs → (e : FileEntry) × In e s.files × (e.id ≡ x) × IsFileAllowedTo s who e

-- the answer to a bundle's reader, if the store knows who it is: the owner, or a holder who was made
unfoldable pub if_known : {A : Type 0} → Store → Bundle → Result A Failure → Result A Failure
if_known s (bundles.Owner key) answer = answer
if_known s (bundles.Holder h key) answer = elim (holder_entry s h.0) [ None ↦ Err (NoHolder s.holders_made) | Some e ↦ answer ]

-- what a store shows to a bundle's reader
unfoldable pub shown_of : Store → Bundle → Result (List Line) Failure
shown_of s bundle = if_known s bundle (Ok (view s (who_of bundle)))

-- the line of it with a path
unfoldable pub line_shown_of : Store → Bundle → List ℕ → Result Line Failure
line_shown_of s bundle path = if_known s bundle (or_else (line_at path (view s (who_of bundle))) (Err Unseen))
