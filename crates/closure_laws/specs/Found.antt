-- Serials from which links lead to one serial, as they are found: each with the link that leads on from it, and the place of that link's
-- end among them.
use Rattle.std.specs.Prelude.{◌≡◌, ◌<◌, ℕ, ◌==◌, ◌⊎◌, Bool, List, [], filter, get_or, length, map, Option, Some, None}
use Rattle.std.specs.HashMap.{HashMap, get}
use Rattle.cry_base.specs.Listed.{Listed}
use Rattle.cry_base.specs.Sets.{In}
use Rattle.closure_laws.specs.Keeping.{held}
use Rattle.closure_laws.specs.declared.keeping.HeldLink.{HeldLink}
use Rattle.closure_laws.specs.declared.trail_search.Found.{Found}

-- the links of a group, none where there is no group
abbrev pub links_in : Option (Listed HeldLink) → List HeldLink
links_in None = []
links_in (Some group) = group.items

-- whether a link ends at the serial
abbrev pub ends_at : ℕ → HeldLink → Bool
ends_at s l = l.to.0 == s

-- the serials found
abbrev pub serials_of : List Found → List ℕ
serials_of found = map (λ x. x.serial.0) found

-- where a link begins, found from the place of its end
abbrev pub found_by : ℕ → HeldLink → Found
found_by next l = record { serial = l.from; by = l.at; next = next }

-- x stands at place i
abbrev pub StandsAt : List Found → ℕ → Found → Type 0
StandsAt found i x = (i < length found) × (x ≡ get_or found i x)

-- from the serial at place i a link leads to the serial of an earlier place
abbrev pub LeadsBack : List HeldLink → List Found → ℕ → Found → Type 0
LeadsBack links found i x = (x.next < i) × ((y : Found) × StandsAt found x.next y × In (held x.serial.0 y.serial.0 x.by) links)

-- the first is the serial that is led to, and each other leads back
abbrev pub AreChained : List HeldLink → ℕ → List Found → Type 0
AreChained links b found = (i : ℕ) (x : Found) → StandsAt found i x → ((i ≡ 0) × (x.serial.0 ≡ b)) ⊎ LeadsBack links found i x

-- where each link that ends at the serial begins was found
abbrev pub IsClosed : List HeldLink → List Found → ℕ → Type 0
IsClosed links found s = (l : HeldLink) → In l links → l.to.0 ≡ s → In l.from.0 (serials_of found)

-- the links by their ends; those that end at some serials were taken out, and where they begin was found
abbrev pub AreOpen : {S : Type 0} → List HeldLink → List Found → HashMap ℕ (Listed HeldLink) S → Type 0
AreOpen links found groups = (s : ℕ) →
    (links_in (get ◌==◌ groups s) ≡ filter (ends_at s) links) ⊎ ((links_in (get ◌==◌ groups s) ≡ []) × IsClosed links found s)

-- all serials that lead to one were found, and no others
pub record AreAllFound (links : List HeldLink) (b : ℕ) (found : List Found) : Type 0 where
  pub own : In b (serials_of found)
  pub chained : AreChained links b found
  pub closed : (s : ℕ) → In s (serials_of found) → IsClosed links found s
