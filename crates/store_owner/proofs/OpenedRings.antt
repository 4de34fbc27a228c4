-- A ring with the keys that the owner's visits opened has the present key of each role that stands.
use Rattle.std.proofs.Common.{◌≡◌, ◌≢◌, ℕ, true, List, [], Option, Some, None, option_map, Ok, refl, sym, ap, subst, ◌∙◌}
use Rattle.std.specs.Prelude.{IsSome, IsTrue, unwrap_or}
use Rattle.std.proofs.lemmas.Bool.{false≢true}
use Rattle.chacha_seal.specs.Keys.{KeyParts}
use Rattle.commit_journal.specs.Placed.{PlainPlaced}
use Rattle.cry_base.specs.declared.roles.Role.{Role}
use Rattle.cry_base.specs.declared.roles.Role.TheVariants.{Owner, Holder, Clear, Sub, Back, Files, Data, File}
use Rattle.log_visits.specs.Folding.{folded}
use Rattle.log_visits.specs.Opening.{is_no_holders}
use Rattle.log_visits.specs.Visiting.{Opened, visit_all}
use Rattle.log_visits.specs.Visiting as opened
use Rattle.key_links.specs.Ringed.{Ringed, key_of}
use Rattle.folder_nodes.specs.Titles.{Titles}
use Rattle.move_plan.specs.Fitting.{folder_stands}
use Rattle.role_graph.specs.Roles.{holder_role, role_id}
use Rattle.public_fold.specs.Journal.{Stand, nothing}
use Rattle.public_fold.specs.KeyStep.{newest, present}
use Rattle.journal_bytes.proofs.OwnerVisits.{new_open}
use Rattle.store_owner.specs.Opened.{IsKept, reading_with, starts_with, visits_of}
use Rattle.store_owner.proofs.SoundVisits.{holders_there, keys_open}

-- ---- a key by its bytes

pub with_these : (o : Option KeyParts) (bytes : List ℕ) → option_map (λ (k : KeyParts). k.bytes) o ≡ Some bytes → (key : KeyParts) × (o ≡ Some key) × (key.bytes ≡ bytes)
with_these None bytes is = absurd cc
with_these (Some key) bytes is = (key, refl, let same : key.bytes ≡ bytes = cc in same)

some_bytes : (o : Option (List ℕ)) → IsSome o → (bytes : List ℕ) × (o ≡ Some bytes)
some_bytes None some = absurd (false≢true some)
some_bytes (Some bytes) some = (bytes, refl)

pub present_serial : (keys : List (Role × ℕ)) (r : Role) (n : ℕ) → newest keys r ≡ Some n → present keys r ≡ n
unfolding present
present_serial keys r n e = ap (λ o. unwrap_or o 0) e

-- ---- the ring

pub is_other : (role : Role) → IsTrue (is_no_holders role) → (h : ℕ) → role ≢ holder_role h
unfolding holder_role
is_other role told h is = false≢true (subst (λ x. is_no_holders x ≡ true) is told)

module _ (log : List PlainPlaced) (at : Stand) (owner : List ℕ) (after : Opened) (ring : Ringed) (names : Titles) (folds : folded nothing log ≡ Ok at) (root : folder_stands at.store 1 ≡ true)
    (done : visit_all (reading_with log at) (visits_of at) (starts_with owner at) ≡ Ok after) (kept : IsKept at after ring names) where
  opened_in : (role : Role) (n : ℕ) → IsTrue (is_no_holders role) → newest at.keys.keys role ≡ Some n → (key : KeyParts) × (key_of ring role ≡ Some key)
  opened_in role n told newer =
      let some = some_bytes (opened.key_of after.keys role) (keys_open log at (starts_with owner at) after folds root (new_open [] Owner owner) done role n newer (is_other role told)) in
      let key = with_these (key_of ring role) some.0 (sym (kept.opened role told) ∙ some.1) in
      (key.0, key.1)

  has_key : (role : Role) (n : ℕ) → newest at.keys.keys role ≡ Some n → (key : KeyParts) × (key_of ring role ≡ Some key)
  unfolding holder_role
  has_key Owner n newer = opened_in Owner n refl newer
  has_key (Holder h) n newer =
      let w = holders_there log at (starts_with owner at) after folds root refl done h.0 n newer in
      let key = with_these (key_of ring (Holder (record { 0 = w.0.number }))) w.0.key (kept.holders w.0 w.1) in
      (key.0, subst (λ x. key_of ring (Holder (record { 0 = x })) ≡ Some key.0) w.2 key.1)
  has_key (Clear f) n newer = opened_in (Clear f) n refl newer
  has_key (Sub f) n newer = opened_in (Sub f) n refl newer
  has_key (Back f) n newer = opened_in (Back f) n refl newer
  has_key (Files f) n newer = opened_in (Files f) n refl newer
  has_key (Data f) n newer = opened_in (Data f) n refl newer
  has_key (File x) n newer = opened_in (File x) n refl newer

pub ring_keyed : (log : List PlainPlaced) (at : Stand) (owner : List ℕ) (after : Opened) (ring : Ringed) (names : Titles) → folded nothing log ≡ Ok at → folder_stands at.store 1 ≡ true
    → visit_all (reading_with log at) (visits_of at) (starts_with owner at) ≡ Ok after → IsKept at after ring names
    → (role : Role) (n : ℕ) → newest at.keys.keys role ≡ Some n → (key : KeyParts) × (key_of ring role ≡ Some key) × (key.id ≡ role_id role) × (key.serial ≡ n)
ring_keyed log at owner after ring names folds root done kept role n newer =
    let key = has_key log at owner after ring names folds root done kept role n newer in
    let own = kept.present role key.0 key.1 in
    (key.0, key.1, own.0, own.1 ∙ present_serial at.keys.keys role n newer)
