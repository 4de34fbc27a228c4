-- When a content was written, and what an entry gives a holder anew.
use Rattle.std.specs.Prelude.{◌≡◌, ℕ, Bool, false, not, ◌&&◌, ◌||◌, ◌==◌, ◌⊎◌, List, [], ◌∷◌}
use Rattle.std.specs.List.{list_any}
use Rattle.cry_base.specs.Sets.{In}
use Rattle.cry_base.specs.Requests.{Request}
use Rattle.cry_base.specs.Requests.Request.{AddHolder, MakeFolder, WriteFile, Remove, Rename, Relocate, Grant, Revoke}
use Rattle.cry_base.specs.Store.{Store, nodes_of}
use Rattle.cry_base.specs.declared.roles.Node.{Node}
use Rattle.role_graph.specs.Rights.{IsShown, IsOpen, shown, node_allowed}
use Rattle.role_graph.specs.Rights.Who.{TheHolder}
use Rattle.public_fold.specs.Records.{Content}
use Rattle.public_fold.specs.Journal.{Entry, Stand, nothing, entry_step, stand_then, stand_after}
use Rattle.public_fold.specs.Journal.Entry.{Session, Made, Did, Upgraded}

-- the content is written by this entry of the journal, which comes after the entries before
abbrev pub IsWritten : List Entry → Entry → Content → Type 0
IsWritten before entry c = In c (entry_step (stand_after nothing before) entry).contents

-- the request gives the holder a grant
abbrev pub GivesGrant : Request → ℕ → Type 0
GivesGrant AddHolder h = ⊥
GivesGrant (MakeFolder path) h = ⊥
GivesGrant (WriteFile path bytes) h = ⊥
GivesGrant (Remove path) h = ⊥
GivesGrant (Rename path name) h = ⊥
GivesGrant (Relocate path into) h = ⊥
GivesGrant (Grant holder path) h = holder ≡ h
GivesGrant (Revoke holder path) h = ⊥

-- the node stood in the store before, and is shown or allowed to the holder in the store after it, and wasn't so
abbrev pub IsGainedNode : Store → Store → ℕ → Node → Type 0
IsGainedNode before after h node =
    In node (nodes_of before) × ((IsShown after (TheHolder h) node × ¬ IsShown before (TheHolder h) node)
    ⊎ (IsOpen after (TheHolder h) node × ¬ IsOpen before (TheHolder h) node))

-- the entry gives the holder a grant, or shows or allows a node that stood before
abbrev pub IsGain : Stand → Entry → ℕ → Type 0
IsGain at Session h = ⊥
IsGain at (Made version keys) h = ⊥
IsGain at (Upgraded keys) h = ⊥
IsGain at (Did request keys) h = GivesGrant request h
    ⊎ ((node : Node) × IsGainedNode at.store (stand_then at (Did request keys)).store h node)

-- whether it does
unfoldable pub gives_grant : Request → ℕ → Bool
gives_grant (Grant holder path) h = holder == h
gives_grant r h = false

unfoldable pub is_gained_node : Store → Store → ℕ → Node → Bool
is_gained_node before after h node =
    (shown after (TheHolder h) node && not (shown before (TheHolder h) node))
    || (node_allowed after (TheHolder h) node && not (node_allowed before (TheHolder h) node))

unfoldable pub gains : Stand → Entry → ℕ → Bool
gains at Session h = false
gains at (Made version keys) h = false
gains at (Upgraded keys) h = false
gains at (Did request keys) h = gives_grant request h
    || list_any (is_gained_node at.store (stand_then at (Did request keys)).store h) (nodes_of at.store)

-- whether each entry is a gain, one after another
unfoldable pub gains_from : Stand → List Entry → ℕ → List Bool
gains_from at [] h = []
gains_from at (entry ∷ entries) h = gains at entry h ∷ gains_from (stand_then at entry) entries h
