-- Worked rows of journals, and the words that open them to a computation.
use Rattle.std.specs.Prelude.{ℕ, zero, suc, Bool, List, [], ◌∷◌, ◌++◌, map, length, codes, replicate, slice_get, Some, None}
use Rattle.std.specs.Fmt.{digits}
use Rattle.cry_base.specs.Requests.{Request}
use Rattle.cry_base.specs.Requests.Request.{AddHolder, MakeFolder, WriteFile, Grant, Revoke, Remove, Rename, Relocate}
use Rattle.cry_base.specs.declared.roles.Role.{Role}
use Rattle.std.specs.Cmp.Lexicographic.{pointwise}
use Rattle.role_graph.specs.Edges.{edges, same_edge}
use Rattle.record_format.specs.Noted.Note.{Upgrade}
use Rattle.move_plan.specs.Noting.{note_of}
use Rattle.move_plan.specs.Change.{Change, no_change, change_of}
use Rattle.rekey_walk.specs.WorkedMarks.{marks}
use Rattle.move_plan.specs.WorkedChanges.{changes}
use Rattle.public_fold.specs.Records.{folder_piece, file_piece, holder_piece, pieces_of, sealing_role, text_of}
use Rattle.public_fold.specs.KeyStep.{Stepped, no_keys, is_strict, next_epoch, without, keys_without, edges_left, dirty_left, planned}
use Rattle.public_fold.specs.KeyStep.{renewed, next_serial, version_then}
use Rattle.public_fold.specs.KeyStep.{numbered, given, keys_then, newest, present, edges_then, is_published, published_edges, link_of}
use Rattle.public_fold.specs.KeyStep.{links_from, content_of, contents_from, published, step_with, key_step}
use Rattle.public_fold.specs.Journal.{Entry, Journal, Stand, nothing, first_key, note_step, root_note, entry_step, entry_store, stand_then}
use Rattle.public_fold.specs.Journal.{stand_after, store_of, keys_of, steps_from, steps_of}
use Rattle.public_fold.specs.Journal.Entry.{Session, Made, Did, Upgraded}
use Rattle.public_fold.specs.Lengths.{note_len, content_len, payload_len, entry_payload, payloads_from, end_of}
use Rattle.public_fold.specs.StandFits.{has_count, note_fits, entry_fits, all_fit}

-- n keys of 32 bytes. What a row says hangs on their number and length alone
unfoldable pub some_keys : ℕ → List (List ℕ)
some_keys n = replicate n (replicate 32 1)

-- a command that draws n keys
unfoldable pub does : ℕ → Request → Entry
does n r = Did r (some_keys n)

-- a fresh store of version 1
unfoldable pub fresh : Journal
fresh = Session ∷ Made 1 (some_keys 5) ∷ []

-- the rows "tree and rename" and "empty rewrite in a second session"
unfoldable pub renaming : Journal
renaming = fresh ++ (Session ∷ does 5 (MakeFolder (codes "/a")) ∷ does 1 (WriteFile (codes "/a/x") (0 ∷ 255 ∷ []))
    ∷ does 0 (Rename (codes "/a/x") (codes "y")) ∷ [])

unfoldable pub rewriting : Journal
rewriting = renaming ++ (Session ∷ does 0 (WriteFile (codes "/a/y") []) ∷ [])

-- the rows "grant", "revoked" and "written after revocation"
unfoldable pub granting : Journal
granting = fresh ++ (Session ∷ does 5 (MakeFolder (codes "/a")) ∷ does 1 (WriteFile (codes "/a/x") (0 ∷ 255 ∷ [])) ∷ does 1 AddHolder
    ∷ does 0 (Grant 1 (codes "/a")) ∷ [])

unfoldable pub revoking : Journal
revoking = granting ++ (Session ∷ does 1 (Revoke 1 (codes "/a")) ∷ [])

unfoldable pub writing_again : Journal
writing_again = revoking ++ (Session ∷ does 3 (WriteFile (codes "/a/x") (1 ∷ [])) ∷ does 1 AddHolder ∷ does 0 (Grant 2 (codes "/")) ∷ [])

-- the row "rename after revocation"
unfoldable pub renaming_again : Journal
renaming_again = fresh ++ (Session ∷ does 5 (MakeFolder (codes "/a")) ∷ does 5 (MakeFolder (codes "/a/b")) ∷ does 1 AddHolder
    ∷ does 1 AddHolder
    ∷ does 0 (Grant 1 (codes "/a")) ∷ does 0 (Grant 2 (codes "/a/b")) ∷ does 1 (Revoke 1 (codes "/a"))
    ∷ does 5 (Rename (codes "/a") (codes "z")) ∷ [])

-- the row "move away from a grant"
unfoldable pub moving_away : Journal
moving_away = fresh ++ (Session ∷ does 5 (MakeFolder (codes "/s")) ∷ does 5 (MakeFolder (codes "/p")) ∷ does 5 (MakeFolder (codes "/s/d"))
    ∷ does 1 (WriteFile (codes "/s/d/f") (1 ∷ []))
    ∷ does 1 AddHolder ∷ does 0 (Grant 1 (codes "/s")) ∷ does 2 (Relocate (codes "/s/d") (codes "/p"))
    ∷ does 2 (WriteFile (codes "/p/d/f") (2 ∷ [])) ∷ [])

-- after "revoked", what is put into the folder under its dirty keys: a file moved in; and after two more revocations
-- a new folder, and a new file and the folder's new name
unfoldable pub making_again : Journal
making_again = revoking ++ (Session ∷ does 1 (WriteFile (codes "/y") (3 ∷ [])) ∷ does 2 (Relocate (codes "/y") (codes "/a"))
    ∷ does 0 (Grant 1 (codes "/a")) ∷ does 1 (Revoke 1 (codes "/a")) ∷ does 6 (MakeFolder (codes "/a/n"))
    ∷ does 0 (Grant 1 (codes "/a")) ∷ does 1 (Revoke 1 (codes "/a")) ∷ does 3 (WriteFile (codes "/a/w") (4 ∷ []))
    ∷ does 4 (Rename (codes "/a") (codes "b")) ∷ [])

-- after "grant", the file moved to the root and back, a folder granted and dropped with its grant, the file dropped
unfoldable pub dropping : Journal
dropping = granting ++ (Session ∷ does 0 (Relocate (codes "/a/x") (codes "/")) ∷ does 5 (MakeFolder (codes "/a/b"))
    ∷ does 0 (Grant 1 (codes "/a/b")) ∷ does 0 (Remove (codes "/a/b")) ∷ does 0 (Remove (codes "/x")) ∷ [])

-- a fresh store of version 2
unfoldable pub fresh_strict : Journal
fresh_strict = Session ∷ Made 2 (some_keys 5) ∷ []

-- the rows "strict move" and "strict departure"
unfoldable pub moving_strictly : Journal
moving_strictly = fresh_strict ++ (Session ∷ does 5 (MakeFolder (codes "/s")) ∷ does 5 (MakeFolder (codes "/p"))
    ∷ does 5 (MakeFolder (codes "/s/d")) ∷ does 1 (WriteFile (codes "/s/d/f") (1 ∷ []))
    ∷ does 1 AddHolder ∷ does 0 (Grant 1 (codes "/s")) ∷ does 7 (Relocate (codes "/s/d") (codes "/p"))
    ∷ does 2 (WriteFile (codes "/p/d/f") (2 ∷ [])) ∷ [])

unfoldable pub departing_strictly : Journal
departing_strictly = fresh_strict ++ (Session ∷ does 5 (MakeFolder (codes "/a")) ∷ does 5 (MakeFolder (codes "/b"))
    ∷ does 1 (WriteFile (codes "/a/x") (0 ∷ [])) ∷ does 5 (Relocate (codes "/a/x") (codes "/b")) ∷ does 1 AddHolder
    ∷ does 0 (Grant 1 (codes "/a")) ∷ [])

-- the row "upgraded": after "grant" the store is made strict, and a file leaves the folder
unfoldable pub upgrading : Journal
upgrading = granting ++ (Session ∷ Upgraded (some_keys 8) ∷ [])

unfoldable pub departing_after_it : Journal
departing_after_it = upgrading ++ (Session ∷ does 5 (MakeFolder (codes "/b")) ∷ does 5 (Relocate (codes "/a/x") (codes "/b"))
    ∷ does 1 (WriteFile (codes "/b/x") (2 ∷ [])) ∷ [])

-- the rows on grants on a file: the second holder is granted /a/x, and loses the grant again; the first one loses /a; the file moves, and
-- goes
unfoldable pub granting_file : Journal
granting_file = fresh_strict ++ (Session ∷ does 5 (MakeFolder (codes "/a")) ∷ does 1 (WriteFile (codes "/a/x") (0 ∷ 255 ∷ []))
    ∷ does 1 AddHolder ∷ does 0 (Grant 1 (codes "/a"))
    ∷ Session ∷ does 1 AddHolder ∷ does 1 (Grant 2 (codes "/a/x")) ∷ [])

unfoldable pub revoking_file : Journal
revoking_file = granting_file ++ (does 0 (Revoke 2 (codes "/a/x")) ∷ does 1 (WriteFile (codes "/a/x") (1 ∷ [])) ∷ [])

unfoldable pub keeping_file : Journal
keeping_file = granting_file ++ (Session ∷ does 1 (Revoke 1 (codes "/a")) ∷ does 3 (WriteFile (codes "/a/x") (1 ∷ [])) ∷ [])

unfoldable pub moving_file : Journal
moving_file =
    granting_file ++ (does 0 (Grant 1 (codes "/a/x")) ∷ does 1 (Revoke 1 (codes "/a/x")) ∷ does 6 (Relocate (codes "/a/x") (codes "/"))
    ∷ does 3 (Remove (codes "/x")) ∷ [])

-- the step of batch n, from 1
unfoldable pub step_at : Journal → ℕ → List Stepped
step_at m zero = []
step_at m (suc n) = elim (slice_get (steps_of m) n) [ None ↦ [] | Some s ↦ s ∷ [] ]

-- what a batch renews, how many links and contents it has
unfoldable pub renewals_at : Journal → ℕ → List (List Role)
renewals_at m n = map (λ s. s.renewals) (step_at m n)

unfoldable pub links_at : Journal → ℕ → List ℕ
links_at m n = map (λ s. length s.links) (step_at m n)

unfoldable pub contents_at : Journal → ℕ → List ℕ
contents_at m n = map (λ s. length s.contents) (step_at m n)

-- the change of an entry, and whether the edges that it leaves are those of the store after it
unfoldable pub entry_change : Stand → Entry → Change
entry_change at Session = no_change
entry_change at (Made version keys) = change_of (is_strict at.keys) at.store (root_note version)
entry_change at (Did request keys) = change_of (is_strict at.keys) at.store (note_of at.store request [])
entry_change at (Upgraded keys) = change_of (is_strict at.keys) at.store Upgrade

unfoldable pub edges_agree_at : Stand → Entry → Bool
edges_agree_at at entry = pointwise same_edge (edges_then (edges at.store) (entry_change at entry)) (edges (entry_store at.store entry))

-- whether the edges that each key step leaves are those of the store after it
unfoldable pub edges_agree : Stand → List Entry → List Bool
edges_agree at [] = []
edges_agree at (entry ∷ entries) = edges_agree_at at entry ∷ edges_agree (stand_then at entry) entries

-- every word of a journal
unfoldable pub journals : Unit {0}
unfolding has_count note_fits entry_fits all_fit digits entry_change edges_agree_at edges_agree marks changes folder_piece file_piece
    holder_piece pieces_of sealing_role text_of no_keys is_strict next_epoch without keys_without edges_left dirty_left planned
    renewed version_then next_serial numbered given keys_then newest present edges_then is_published published_edges link_of
    links_from content_of contents_from published step_with key_step nothing first_key note_step root_note entry_step entry_store
    stand_then stand_after store_of keys_of steps_from steps_of note_len content_len payload_len entry_payload payloads_from end_of
    some_keys does fresh renaming rewriting granting revoking writing_again renaming_again moving_away making_again dropping
    fresh_strict moving_strictly departing_strictly upgrading departing_after_it granting_file revoking_file
    keeping_file moving_file step_at renewals_at links_at contents_at
journals = tt
