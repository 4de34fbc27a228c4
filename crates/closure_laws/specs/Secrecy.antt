-- Revocation: what a holder derives of what was written while its object wasn't shown.
use Rattle.std.specs.Prelude.{◌≡◌, ℕ, Bool, true, false, not, ◌&&◌, ◌||◌, ◌==◌, ◌⊎◌, List, [], ◌∷◌, ◌++◌, Option, Some, None}
use Rattle.std.specs.List.{list_all}
use Rattle.cry_base.specs.Sets.{has}
use Rattle.cry_base.specs.Store.{Store, folder_node, file_node}
use Rattle.cry_base.specs.declared.roles.Node.{Node}
use Rattle.role_graph.specs.Rights.{IsShown, shown}
use Rattle.role_graph.specs.Rights.Who.{TheHolder}
use Rattle.public_fold.specs.Records.{Content, Piece}
use Rattle.public_fold.specs.Journal.{Entry, Journal, Stand, nothing, entry_step, stand_then, stand_after}
use Rattle.closure_laws.specs.Gains.{IsWritten, IsGain, gains}
use Rattle.closure_laws.specs.History.{DerivesFor, history, derived, own_serial}

-- the object of a content is shown to the holder in the store. A holder's sealed key is shown to the owner alone
unfoldable pub node_of_piece : Piece → Option Node
node_of_piece p = elim (p.kind == 1) [
  | true ↦ Some (folder_node p.object)
  | false ↦ elim (p.kind == 2)
      [ true ↦ Some (file_node p.object) | false ↦ None ]
]

abbrev pub IsShownNode : Store → ℕ → Option Node → Type 0
IsShownNode s h None = ⊥
IsShownNode s h (Some node) = IsShown s (TheHolder h) node

-- some entry of those that follow is a gain for the holder
abbrev pub GainsLater : Stand → List Entry → ℕ → Type 0
GainsLater at [] h = ⊥
GainsLater at (entry ∷ entries) h = IsGain at entry h ⊎ GainsLater (stand_then at entry) entries h

-- what an entry writes while its object isn't shown to the holder isn't derived, unless a later entry is a gain
abbrev pub KeepsSecret : Journal → ℕ → Type 0
KeepsSecret m h = (before : List Entry) (entry : Entry) (later : List Entry) (c : Content) →
    m ≡ before ++ entry ∷ later → IsWritten before entry c
    → (IsShownNode (stand_after nothing (before ++ entry ∷ [])).store h (node_of_piece c.piece) → ⊥)
    → (GainsLater (stand_after nothing (before ++ entry ∷ [])) later h → ⊥)
    → DerivesFor m (TheHolder h) c → ⊥

-- the same, computed for one journal: whether each content was shown, or is followed by a gain, or isn't derived
unfoldable pub shown_node : Store → ℕ → Option Node → Bool
shown_node s h None = false
shown_node s h (Some node) = shown s (TheHolder h) node

unfoldable pub gains_later : Stand → List Entry → ℕ → Bool
gains_later at [] h = false
gains_later at (entry ∷ entries) h = gains at entry h || gains_later (stand_then at entry) entries h

unfoldable pub kept_content : List ℕ → Store → ℕ → Bool → Content → Bool
kept_content known s h gain c = shown_node s h (node_of_piece c.piece) || gain || not (has ◌==◌ known c.key_serial)

unfoldable pub keeps_from : List ℕ → ℕ → Stand → List Entry → Bool
keeps_from known h at [] = true
keeps_from known h at (entry ∷ entries) =
    list_all (kept_content known (stand_then at entry).store h (gains_later (stand_then at entry) entries h)) (entry_step at entry).contents
    && keeps_from known h (stand_then at entry) entries

-- the serials that a holder derives
unfoldable pub known_to : Journal → Option ℕ → List ℕ
known_to m None = []
known_to m (Some a) = derived (history m) a

unfoldable pub keeps_secret : Journal → ℕ → Bool
keeps_secret m h = keeps_from (known_to m (own_serial m (TheHolder h))) h nothing m
