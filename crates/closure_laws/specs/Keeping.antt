-- A history as code keeps it: the links of the payloads that were pushed, and the trails along them.
use Rattle.std.specs.Prelude.{◌≡◌, ℕ, ◌+◌, IsTrue, List, [], ◌∷◌, ◌++◌, map}
use Rattle.std.specs.List.{flat_map}
use Rattle.cry_base.specs.Sets.{In, Path}
use Rattle.public_fold.specs.Fitted.{are_due, has_link_head}
use Rattle.public_fold.specs.Journal.{Journal, steps_of}
use Rattle.public_fold.specs.Keyed.{links_of}
use Rattle.record_format.specs.declared.link.LinkRecord.{LinkRecord}
use Rattle.closure_laws.specs.declared.keeping.HeldLink.{HeldLink}
use Rattle.closure_laws.specs.declared.keeping.LinkRef.{LinkRef}

-- how many payloads were pushed, and their links in order
pub record HistoryState : Type 0 where
  pub payloads : ℕ
  pub links : List HeldLink

-- nothing was pushed
abbrev pub nothing_kept : HistoryState
nothing_kept = record { payloads = 0; links = [] }

-- a link from serial to serial, and where it stands
abbrev pub held : ℕ → ℕ → LinkRef → HeldLink
held a b at = record { from = record { 0 = a }; to = record { 0 = b }; at = at }

-- the links of a payload, the first of which has this number
abbrev pub held_links : ℕ → ℕ → List LinkRecord → List HeldLink
held_links payload n [] = []
held_links payload n (l ∷ ls) = held l.from_serial.0 l.to_serial.0 (record { payload = payload; link = n }) ∷ held_links payload (n + 1) ls

-- a payload with these links more
abbrev pub with_payload : HistoryState → List LinkRecord → HistoryState
with_payload h ls = record { payloads = h.payloads + 1; links = h.links ++ held_links h.payloads 0 ls }

-- what is kept once these payloads were pushed too, one after another, each told by its links
abbrev pub kept_with : HistoryState → List (List LinkRecord) → HistoryState
kept_with h [] = h
kept_with h (ls ∷ more) = kept_with (with_payload h ls) more

-- the payloads have the links that the journal publishes
abbrev pub HaveLinksOf : Journal → List (List LinkRecord) → Type 0
HaveLinksOf m payloads = IsTrue (are_due has_link_head (links_of (steps_of m)) (flat_map (λ ls. ls) payloads))

-- from serial to serial
abbrev pub ends_of : HeldLink → ℕ × ℕ
ends_of l = (l.from.0, l.to.0)

-- a trail of the links leads from the one serial to the other
abbrev pub Leads : List HeldLink → ℕ → ℕ → Type 0
Leads links a b = Path (map ends_of links) a b

-- these links, one after another, lead from the one serial to the other: none from a serial to itself
abbrev pub IsTrail : List HeldLink → ℕ → ℕ → List LinkRef → Type 0
IsTrail links a b [] = a ≡ b
IsTrail links a b (at ∷ ats) = (c : ℕ) × In (held a c at) links × IsTrail links c b ats
