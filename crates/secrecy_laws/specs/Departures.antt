-- What departures close: where present keys lead in a store of version 2, and how a holder came to derive what it derives there.
use Rattle.std.specs.Prelude.{◌≡◌, ℕ, Bool, false, ◌⊎◌, List, [], ◌∷◌, ◌++◌, Some}
use Rattle.cry_base.specs.Sets.{In, Path}
use Rattle.role_graph.specs.Rights.Who.{TheHolder}
use Rattle.public_fold.specs.Journal.{Entry, Journal, store_of}
use Rattle.public_fold.specs.Journal.Entry.{Upgraded}
use Rattle.public_fold.specs.Records.{Content}
use Rattle.closure_laws.specs.Gains.{IsWritten}
use Rattle.closure_laws.specs.History.{DerivesFor}
use Rattle.closure_laws.specs.Secrecy.{IsShownNode, node_of_piece}
use Rattle.secrecy_laws.specs.States.{State, Move, IsTouched}

-- the present key of a role that is no root leads only to keys of roles that edges lead to from it
abbrev pub LeadAlongEdges : {R : Type 0} → (R → Bool) → State R → Type 0
LeadAlongEdges {R} root s = (a r : R) (j k : ℕ) → root a ≡ false → s.key a ≡ Some j → In {X = R × ℕ} (r, k) s.made → Path s.links j k
    → Path s.edges a r

-- a step renews, but for roots and what goes, each role from which edges led to where a removed edge began
abbrev pub RenewsWhatLed : {R : Type 0} → (R → Bool) → State R → Move R → Type 0
RenewsWhatLed {R} root old m = (e : R × R) → In e m.removed → (a : R) → Path old.edges a e.0 → root a ≡ false → (In a m.gone → ⊥)
    → In a m.renewed

-- a step gives new keys to all roles but roots from whose present keys links lead on
abbrev pub RenewsAllThatLead : {R : Type 0} → (R → Bool) → State R → Move R → Type 0
RenewsAllThatLead {R} root old m = (a : R) (j : ℕ) → root a ≡ false → old.key a ≡ Some j
    → IsTouched m a ⊎ ((k : ℕ) → In {X = ℕ × ℕ} (j, k) old.links → ⊥)

-- the object of the content is shown to the holder once some of the entries that follow what was written are done, or none of them
pub record IsShownSince (written : Journal) (later : List Entry) (h : ℕ) (c : Content) : Type 0 where
  pub since : List Entry
  pub rest : List Entry
  pub parts : later ≡ since ++ rest
  pub shown : IsShownNode (store_of (written ++ since)) h (node_of_piece c.piece)

-- one of the entries that follow makes the store one of version 2, and before it the holder derives the content
pub record IsDerivedBefore (written : Journal) (later : List Entry) (h : ℕ) (c : Content) : Type 0 where
  pub until : List Entry
  pub keys : List (List ℕ)
  pub rest : List Entry
  pub parts : later ≡ until ++ Upgraded keys ∷ rest
  pub derived : DerivesFor (written ++ until) (TheHolder h) c

-- what a holder derives was shown to the holder at some moment, from its writing on
abbrev pub ClosesDepartures : Journal → ℕ → Type 0
ClosesDepartures m h = (before : List Entry) (entry : Entry) (later : List Entry) (c : Content) →
    m ≡ before ++ entry ∷ later → IsWritten before entry c → DerivesFor m (TheHolder h) c
    → IsShownSince (before ++ entry ∷ []) later h c

-- or the holder derived it before the store came to have version 2
abbrev pub KeepsDepartures : Journal → ℕ → Type 0
KeepsDepartures m h = (before : List Entry) (entry : Entry) (later : List Entry) (c : Content) →
    m ≡ before ++ entry ∷ later → IsWritten before entry c → DerivesFor m (TheHolder h) c
    → IsShownSince (before ++ entry ∷ []) later h c ⊎ IsDerivedBefore (before ++ entry ∷ []) later h c
