-- How a command changes the keys, and what it publishes. This project's own, docs/FORMAT.md, "The key step".
use Rattle.std.specs.Prelude.{ℕ, ◌+◌, ◌*◌, ◌^◌, Bool, cond, not, ◌||◌, ◌==◌, List, [], ◌∷◌, ◌++◌, map, filter, length, Option, Some, None}
use Rattle.std.specs.Prelude.{unwrap_or}
use Rattle.cry_base.specs.Sets.{has}
use Rattle.cry_base.specs.declared.roles.Edge.{Edge}
use Rattle.cry_base.specs.declared.roles.Role.{Role}
use Rattle.cry_base.specs.declared.roles.Role.TheVariants.{Owner}
use Rattle.role_graph.specs.Ascending.{ascending}
use Rattle.role_graph.specs.Roles.{same_role}
use Rattle.role_graph.specs.Edges.{same_edge, edge_before, in_order}
use Rattle.rekey_walk.specs.Dirty.{mark_all, plan}
use Rattle.move_plan.specs.Change.{Change}
use Rattle.public_fold.specs.Records.{Link, Piece, Content, sealing_role}

-- the serial of each role's newest key, the dirty roles, where the counter of serials stands, and the version: 0 before the root is made
pub record KeyState : Type 0 where
  pub keys : List (Role × ℕ)
  pub dirty : List Role
  pub epoch : ℕ
  pub count : ℕ
  pub version : ℕ

-- before the first epoch there is the owner's key alone, of serial 0
unfoldable pub no_keys : KeyState
no_keys = record { keys = (Owner, 0) ∷ []; dirty = []; epoch = 0; count = 0; version = 0 }

-- a store of version 2 is strict: what left a folder is closed to whoever comes later
unfoldable pub is_strict : KeyState → Bool
is_strict k = k.version == 2

-- a session begins the next epoch, and counts from 0
unfoldable pub next_epoch : KeyState → KeyState
next_epoch k = record k { epoch = k.epoch + 1; count = 0 }

-- the list without some
unfoldable pub without : {X : Type 0} → (X → X → Bool) → List X → List X → List X
without same gone xs = filter (λ x. not (has same gone x)) xs

-- the keys without those of some roles
unfoldable pub keys_without : List Role → List (Role × ℕ) → List (Role × ℕ)
keys_without gone keys = filter (λ key. not (has same_role gone key.0)) keys

-- 1 and 2: the edges that are left; the dirty roles that are left once all behind a removed edge is marked
unfoldable pub edges_left : List Edge → Change → List Edge
edges_left before c = without same_edge c.removed before

unfoldable pub dirty_left : KeyState → List Edge → Change → List Role
dirty_left k before c = without same_role c.gone (mark_all k.dirty before (map (λ e. e.to) c.removed))

-- 3: the plan of what is wanted; the roles that are renewed: the strict ones and those of the plan, in their order, each once
unfoldable pub planned : KeyState → List Edge → Change → List Role
planned k before c = plan (dirty_left k before c) (edges_left before c) c.wanted

unfoldable pub renewed : KeyState → List Edge → Change → List Role
renewed k before c = ascending (c.strict ++ planned k before c)

-- the serial that the counter gives next, and the items numbered from a serial on
unfoldable pub next_serial : KeyState → ℕ
next_serial k = k.epoch * 2 ^ 32 + k.count

unfoldable pub numbered : {X : Type 0} → ℕ → List X → List (X × ℕ)
numbered n [] = []
numbered n (x ∷ xs) = (x, n) ∷ numbered (n + 1) xs

-- 4: the keys given, those renewed first, and then the new roles'; the keys then
unfoldable pub given : KeyState → Change → List Role → List (Role × ℕ)
given k c plan = numbered (next_serial k) (plan ++ c.fresh)

unfoldable pub keys_then : KeyState → Change → List Role → List (Role × ℕ)
keys_then k c plan = given k c plan ++ keys_without (plan ++ c.gone) k.keys

-- the serial of a role's newest key, where it has one, and 0 where it has none
unfoldable pub newest : List (Role × ℕ) → Role → Option ℕ
newest [] r = None
newest (key ∷ keys) r = cond (same_role key.0 r) (Some key.1) (newest keys r)

unfoldable pub present : List (Role × ℕ) → Role → ℕ
present keys r = unwrap_or (newest keys r) 0

-- 5: the edges then, in order
unfoldable pub edges_then : List Edge → Change → List Edge
edges_then before c = in_order edge_before (edges_left before c ++ c.added)

-- 6: the edges that are published: those added, and those with a role at an end that got a key
unfoldable pub is_published : Change → List Role → Edge → Bool
is_published c plan e = has same_edge c.added e || has same_role (plan ++ c.fresh) e.from || has same_role (plan ++ c.fresh) e.to

unfoldable pub published_edges : List Edge → Change → List Role → List Edge
published_edges before c plan = filter (is_published c plan) (edges_then before c)

-- a link for each, from present key to present key, with the nonces numbered from a serial on
unfoldable pub link_of : List (Role × ℕ) → Edge × ℕ → Link
link_of keys e = record { edge = e.0; from_serial = present keys e.0.from; to_serial = present keys e.0.to; nonce = e.1 }

unfoldable pub links_from : List (Role × ℕ) → ℕ → List Edge → List Link
links_from keys n es = map (link_of keys) (numbered n es)

-- 7: a content for each piece, under the present key of its role
unfoldable pub content_of : List (Role × ℕ) → Piece × ℕ → Content
content_of keys p = record { piece = p.0; key_serial = present keys (sealing_role p.0); nonce = p.1 }

unfoldable pub contents_from : List (Role × ℕ) → ℕ → List Piece → List Content
contents_from keys n pieces = map (content_of keys) (numbered n pieces)

-- the version then
unfoldable pub version_then : KeyState → Change → ℕ
version_then k c = unwrap_or c.version k.version

-- what a command leaves and publishes
pub record Stepped : Type 0 where
  pub after : KeyState
  pub renewals : List Role
  pub given : List (Role × ℕ)
  pub links : List Link
  pub contents : List Content

-- the step once the keys are numbered: keys first, then the links' nonces, then the contents'
unfoldable pub published : ℕ → KeyState → List Role → List Role → List (Role × ℕ) → List (Role × ℕ) → List Edge → List Piece → Stepped
published version k dirty plan new keys es pieces = record {
  after = record {
    keys = keys;
    dirty = without same_role plan dirty;
    epoch = k.epoch;
    count = k.count + length new + length es + length
        pieces;
    version = version;
  };
  renewals = plan;
  given = new;
  links = links_from keys (next_serial k + length new) es;
  contents = contents_from keys (next_serial k + length new + length es) pieces;
}

-- the step with its plan
unfoldable pub step_with : KeyState → List Edge → Change → List Piece → List Role → Stepped
step_with k before c pieces plan =
    published (version_then k c) k (dirty_left k before c) plan (given k c plan) (keys_then k c plan) (published_edges before c plan) pieces

-- the key step: from the keys, the edges before, the change and what is due to be sealed
unfoldable pub key_step : KeyState → List Edge → Change → List Piece → Stepped
key_step k before c pieces = step_with k before c pieces (renewed k before c)
