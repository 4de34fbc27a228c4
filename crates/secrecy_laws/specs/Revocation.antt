-- Revocation, in the positive: how a holder came to derive what was written while it wasn't shown.
use Rattle.std.specs.Prelude.{◌≡◌, ℕ, Bool, false, not, ◌&&◌, ◌||◌, ◌==◌, ◌⊎◌, List, [], ◌∷◌, ◌++◌, filter, is_some, Some}
use Rattle.std.specs.List.{list_any}
use Rattle.cry_base.specs.Sets.{has}
use Rattle.cry_base.specs.Store.{Store}
use Rattle.cry_base.specs.declared.roles.Role.{Role}
use Rattle.role_graph.specs.Edges.{Reaches, edges, reach_along}
use Rattle.role_graph.specs.Rights.Who.{TheHolder}
use Rattle.role_graph.specs.Roles.{holder_role, same_role}
use Rattle.public_fold.specs.Journal.{Entry, Journal, Stand, nothing, entry_step, keys_of, stand_then, stand_after, store_of}
use Rattle.public_fold.specs.KeyStep.{newest}
use Rattle.public_fold.specs.Records.{Content}
use Rattle.closure_laws.specs.Gains.{IsWritten, IsGain, gains}
use Rattle.closure_laws.specs.History.{Derives, DerivesFor, history, own_serial}
use Rattle.closure_laws.specs.Secrecy.{IsShownNode, node_of_piece, shown_node, known_to}

-- the role had a key before, and wasn't in the holder's reach; after it is, and its present key then leads to the key of the serial by
-- what was published up to then
pub record IsBrought (before after : Journal) (h k : ℕ) (r : Role) : Type 0 where
  pub stood : (j : ℕ) × (newest (keys_of before).keys r ≡ Some j)
  pub was_out : Reaches (edges (store_of before)) (holder_role h) r → ⊥
  pub reached : Reaches (edges (store_of after)) (holder_role h) r
  pub leads : (j : ℕ) × (newest (keys_of after).keys r ≡ Some j) × Derives (history after) j k

-- the entry is a gain for the holder and opens the content: the holder didn't derive it from what was published before the entry, does so
-- from what is published with it, and a role that is brought leads to it
pub record OpensContent (before : Journal) (entry : Entry) (h : ℕ) (c : Content) : Type 0 where
  pub gain : IsGain (stand_after nothing before) entry h
  pub not_before : DerivesFor before (TheHolder h) c → ⊥
  pub after : DerivesFor (before ++ entry ∷ []) (TheHolder h) c
  pub brought : (r : Role) × IsBrought before (before ++ entry ∷ []) h c.key_serial r

-- some entry of those that follow opens the content
abbrev pub GainOpens : Journal → List Entry → ℕ → Content → Type 0
GainOpens before [] h c = ⊥
GainOpens before (entry ∷ entries) h c = OpensContent before entry h c ⊎ GainOpens (before ++ entry ∷ []) entries h c

-- where a holder derives what an entry wrote while its object wasn't shown to the holder, a later entry is a gain that opens it
abbrev pub OpensByGain : Journal → ℕ → Type 0
OpensByGain m h = (before : List Entry) (entry : Entry) (later : List Entry) (c : Content) →
    m ≡ before ++ entry ∷ later → IsWritten before entry c
    → (IsShownNode (stand_after nothing (before ++ entry ∷ [])).store h (node_of_piece c.piece) → ⊥)
    → DerivesFor m (TheHolder h) c → GainOpens (before ++ entry ∷ []) later h c

-- the same, computed: of the roles in the holder's reach after, which is brought; whether an entry opens the content, or some that follow
unfoldable pub brings_role : Journal → Journal → ℕ → ℕ → Role → Bool
brings_role before after h k r =
    is_some (newest (keys_of before).keys r)
    && not (has same_role (reach_along (edges (store_of before)) (holder_role h ∷ [])) r)
    && has ◌==◌ (known_to after (newest (keys_of after).keys r)) k

unfoldable pub opens_content : Journal → Journal → Bool → ℕ → ℕ → Bool
opens_content before after gain h k =
    gain && not (has ◌==◌ (known_to before (own_serial before (TheHolder h))) k)
    && has ◌==◌ (known_to after (own_serial after (TheHolder h))) k
    && list_any (brings_role before after h k) (reach_along (edges (store_of after)) (holder_role h ∷ []))

unfoldable pub gain_opens : Journal → List Entry → ℕ → Content → Bool
gain_opens before [] h c = false
gain_opens before (entry ∷ entries) h c =
    opens_content before (before ++ entry ∷ []) (gains (stand_after nothing before) entry h) h c.key_serial
    || gain_opens (before ++ entry ∷ []) entries h c

-- the holder derives the content, which an entry wrote while its object wasn't shown to the holder
abbrev pub IsDerivedUnseen : Journal → ℕ → Content → Type 0
IsDerivedUnseen m h c = (before : List Entry) × ((entry : Entry) × ((later : List Entry)
    × (m ≡ before ++ entry ∷ later) × IsWritten before entry c
    × (IsShownNode (stand_after nothing (before ++ entry ∷ [])).store h (node_of_piece c.piece) → ⊥) × DerivesFor m (TheHolder h) c))

-- the same, computed: of what each entry writes, what isn't shown after it and is under a key of these serials
unfoldable pub is_unseen : List ℕ → Store → ℕ → Content → Bool
is_unseen known s h c = has ◌==◌ known c.key_serial && not (shown_node s h (node_of_piece c.piece))

unfoldable pub unseen_from : List ℕ → ℕ → Stand → List Entry → List Content
unseen_from known h at [] = []
unseen_from known h at (entry ∷ entries) =
    filter (is_unseen known (stand_then at entry).store h) (entry_step at entry).contents
    ++ unseen_from known h (stand_then at entry) entries

unfoldable pub derived_unseen : Journal → ℕ → List Content
derived_unseen m h = unseen_from (known_to m (own_serial m (TheHolder h))) h nothing m
