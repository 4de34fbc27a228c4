-- How the lists of holders and grants stand to a plain store.
use Rattle.std.specs.Prelude.{◌≡◌, ℕ, ◌↔◌, Bool, cond, List, map, length}
use Rattle.std.specs.List.{range_with_len}
use Rattle.cry_base.specs.Requests.{Request}
use Rattle.cry_base.specs.Requests.Request.{Grant, Revoke}
use Rattle.cry_base.specs.Sets.{In}
use Rattle.cry_base.specs.Store.{Store, GrantEntry, HolderEntry}

-- the store's holders have the numbers from 1 up, as many as there are checks, and its grants are the pairs, in any order
pub record AreGrantsOf (checks : List (List ℕ)) (pairs : List GrantEntry) (s : Store) : Type 0 where
  pub numbers : map (λ (e : HolderEntry). e.number) s.holders ≡ range_with_len 1 (length checks)
  pub made : s.holders_made ≡ length checks
  pub granted : (e : GrantEntry) → In e pairs ↔ In e s.grants

-- the request for a grant on what the path finds, or to take it back
abbrev pub grant_request : Bool → ℕ → List ℕ → Request
grant_request give h path = cond give (Grant h path) (Revoke h path)
