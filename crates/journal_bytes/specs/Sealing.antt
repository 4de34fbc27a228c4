-- When the records of a step can be sealed, and what they are sealed from. This project's own, docs/FORMAT.md, "The key step"
-- and "Records".
use Rattle.std.specs.Prelude.{◌≡◌, ◌≢◌, ℕ, ◌+◌, ◌*◌, ◌<◌, ◌≤◌, ◌^◌, ◌⊎◌, List, [], ◌∷◌, ◌++◌, length, map, Some, IsSome}
use Rattle.chacha_seal.specs.Keys.{KeyParts}
use Rattle.chacha_seal.specs.Serials.{Counting}
use Rattle.cry_base.specs.Sets.{In}
use Rattle.cry_base.specs.declared.roles.Role.{Role}
use Rattle.cry_base.specs.declared.roles.Role.TheVariants.{Owner}
use Rattle.kind_table.specs.declared.eleven.TheConstants.{ELEVEN}
use Rattle.key_links.specs.Ended as ended
use Rattle.key_links.specs.Ringed.{Ringed, key_of}
use Rattle.record_format.specs.Noted.{Note}
use Rattle.record_format.specs.Spellable.{longest_text, shortest_text}
use Rattle.role_graph.specs.Roles.{role_id}
use Rattle.role_graph.specs.Tabled.{row_of}
use Rattle.public_fold.specs.Heads.{IsSkeleton}
use Rattle.public_fold.specs.KeyStep.{KeyState, Stepped, newest, next_serial}
use Rattle.public_fold.specs.Lengths.{note_len}
use Rattle.public_fold.specs.Records.{Content, Link, sealing_role, text_of}
use Rattle.public_fold.specs.declared.heads.ContentHead.{ContentHead}
use Rattle.public_fold.specs.declared.heads.Skeleton.{Skeleton}
use Rattle.journal_bytes.specs.Keys.{bytes_in, with_bytes}

-- how many links and how many contents there is room for
pub record Space : Type 0 where
  pub links : ℕ
  pub contents : ℕ

-- there is room for those of the skeleton
pub record IsSpaceFor (space : Space) (s : Skeleton) : Type 0 where
  pub enough_links : length s.links.items ≤ space.links
  pub enough_contents : length s.contents.items ≤ space.contents

-- the ring has a key for the role, or one is given to it
abbrev pub WillHave : Ringed → List (Role × ℕ) → Role → Type 0
WillHave ring given role = IsSome (key_of ring role) ⊎ In role (map (λ key. key.0) given)

-- the link is of a kind that there is, and its ends have keys, or get them
pub record CanLink (ring : Ringed) (given : List (Role × ℕ)) (l : Link) : Type 0 where
  pub is_tabled : In (row_of l.edge) ELEVEN.rows
  pub has_source : WillHave ring given l.edge.from
  pub has_target : WillHave ring given l.edge.to

-- the content is of a kind that there is, its text of a length in that kind's range, and the sealing role has a key, or gets it
pub record CanSealText (ring : Ringed) (given : List (Role × ℕ)) (text : List ℕ) (h : ContentHead) : Type 0 where
  pub kind_from_one : 1 ≤ h.kind
  pub kind_to_three : h.kind ≤ 3
  pub has_key : WillHave ring given (ended.sealing_role h.kind h.object)
  pub text_from : shortest_text h.kind ≤ length text
  pub text_to : length text ≤ longest_text h.kind

-- for each key that the skeleton gives there are bytes and room in the ring, and for each record a serial and its keys. The
-- owner is given no key, and there is one text at most
pub record CanSeal (ring : Ringed) (counter : Counting) (s : Skeleton) (drawn : List (List ℕ)) (text : List ℕ) : Type 0 where
  pub enough_drawn : length drawn ≡ length s.keys.items
  pub enough_room : length s.keys.items ≤ ring.spare
  pub no_owner : (key : Role × ℕ) → In key s.keys.items → key.0 ≢ Owner
  pub enough_serials : counter.count + length s.keys.items + length s.links.items + length s.contents.items < 2 ^ 32
  pub each_link : (l : Link) → In l s.links.items → CanLink ring s.keys.items l
  pub one_content : length s.contents.items ≤ 1
  pub each_content : (h : ContentHead) → In h s.contents.items → CanSealText ring s.keys.items text h

-- the ring has the present key of each role, with the bytes that were drawn for its serial; all keys so far have serials below
-- the next one, which the counter gives
pub record HoldsKeys (keys : List KeyParts) (k : KeyState) (ring : Ringed) (counter : Counting) : Type 0 where
  pub has_present : (r : Role) (n : ℕ) → newest k.keys r ≡ Some n
      → key_of ring r ≡ Some (record { id = role_id r; serial = n; bytes = bytes_in keys n })
  pub drawn_below : (key : KeyParts) → In key keys → key.serial < next_serial k
  pub present_below : (r : Role) (n : ℕ) → newest k.keys r ≡ Some n → n < next_serial k
  pub is_counted : counter ≡ record { epoch = k.epoch; count = k.count }

-- no role stands twice
abbrev pub EachOnce : List Role → Type 0
EachOnce [] = Unit {0}
EachOnce (r ∷ rs) = (In r rs → ⊥) × EachOnce rs

-- the step gives each role one key and the owner none, publishes links and seals one text at most, of kinds that there are,
-- each under keys that are present after it
pub record IsSealable (step : Stepped) : Type 0 where
  pub given_once : EachOnce (map (λ key. key.0) step.given)
  pub no_owner : (key : Role × ℕ) → In key step.given → key.0 ≢ Owner
  pub tabled : (l : Link) → In l step.links → In (row_of l.edge) ELEVEN.rows
  pub sources : (l : Link) → In l step.links → newest step.after.keys l.edge.from ≡ Some l.from_serial
  pub targets : (l : Link) → In l step.links → newest step.after.keys l.edge.to ≡ Some l.to_serial
  pub one_content : length step.contents ≤ 1
  pub kinds : (c : Content) → In c step.contents → (1 ≤ c.piece.kind) × (c.piece.kind ≤ 3)
  pub sealing : (c : Content) → In c step.contents → newest step.after.keys (sealing_role c.piece) ≡ Some c.key_serial

-- the skeleton is the step's, which can be sealed, and the text is that of its content
pub record IsTold (step : Stepped) (s : Skeleton) (text : List ℕ) : Type 0 where
  pub can_be_sealed : IsSealable step
  pub is_skeleton : IsSkeleton step s
  pub is_text : (c : Content) → In c step.contents → text_of c.piece ≡ text

-- the text has a length in the range of its content's kind
abbrev pub HasLength : Stepped → List ℕ → Type 0
HasLength step text = (c : Content) → In c step.contents → (shortest_text c.piece.kind ≤ length text)
    × (length text ≤ longest_text c.piece.kind)

-- the bytes of a payload with this note and this skeleton, whose one content has a text of so many bytes
abbrev pub skeleton_size : Note → Skeleton → ℕ → ℕ
skeleton_size note s text = note_len note + 8 + 98 * length s.links.items + (58 + text) * length s.contents.items

-- all keys that there are once the step's were drawn
abbrev pub keys_with : List KeyParts → Stepped → List (List ℕ) → List KeyParts
keys_with keys step drawn = keys ++ with_bytes step.given drawn
