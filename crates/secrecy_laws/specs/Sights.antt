-- How a holder came to see what an audit shows.
use Rattle.std.specs.Prelude.{◌≡◌, ℕ, ◌+◌, ◌⊎◌, List, [], ◌∷◌, ◌++◌, length}
use Rattle.public_fold.specs.Journal.{Entry, Journal, nothing, stand_after}
use Rattle.public_fold.specs.Records.{Content}
use Rattle.closure_laws.specs.Gains.{IsWritten}
use Rattle.closure_laws.specs.Secrecy.{IsShownNode, node_of_piece}
use Rattle.closure_laws.specs.Seen.{Sight, sight_of}
use Rattle.secrecy_laws.specs.Departures.{IsDerivedBefore, IsShownSince}
use Rattle.secrecy_laws.specs.Revocation.{GainOpens}

-- the entry of the sight's batch wrote it, and it was shown to the holder then, or a later gain opened it
pub record IsFairlySeen (m : Journal) (h : ℕ) (x : Sight) : Type 0 where
  pub before : List Entry
  pub entry : Entry
  pub later : List Entry
  pub content : Content
  pub parts : m ≡ before ++ entry ∷ later
  pub written : IsWritten before entry content
  pub sight : x ≡ sight_of (1 + length before) content
  pub why : IsShownNode (stand_after nothing (before ++ entry ∷ [])).store h (node_of_piece content.piece)
      ⊎ GainOpens (before ++ entry ∷ []) later h content

-- the entry of the sight's batch wrote it, and since then it was shown to the holder at some moment, or the holder derived it before the
-- store came to have version 2
pub record IsStrictlySeen (m : Journal) (h : ℕ) (x : Sight) : Type 0 where
  pub before : List Entry
  pub entry : Entry
  pub later : List Entry
  pub content : Content
  pub parts : m ≡ before ++ entry ∷ later
  pub written : IsWritten before entry content
  pub sight : x ≡ sight_of (1 + length before) content
  pub why : IsShownSince (before ++ entry ∷ []) later h content ⊎ IsDerivedBefore (before ++ entry ∷ []) later h content
