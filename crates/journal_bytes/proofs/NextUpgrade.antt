-- A journal of version 1 with an upgrade is a journal, where its log ends within the store's limit; and what the upgrade's step has.
use Rattle.std.proofs.Common.{◌≡◌, ⊎_elim, ℕ, ◌+◌, ◌-◌, ◌*◌, ◌^◌, ◌≤◌, ◌<◌, Bool, true, false, not, ◌&&◌, List, [], ◌∷◌, ◌++◌, length, replicate, arith, refl, sym, ap, subst, ◌∙◌, length-append}
use Rattle.std.specs.Prelude.{nat_lt}
use Rattle.std.specs.List.{sum_by}
use Rattle.std.proofs.lemmas.Bool.{and_from, and_parts, cases_lt, false≢true}
use Rattle.std.proofs.lemmas.List.{length-replicate}
use Rattle.cry_base.specs.Limits.{most_store_bytes}
use Rattle.role_graph.specs.Edges.{edges}
use Rattle.move_plan.specs.Change.{change_of}
use Rattle.move_plan.specs.Fitting.{fits, public_of}
use Rattle.move_plan.proofs.Public.{change_public, edges_public}
use Rattle.record_format.specs.Noted.Note.{Upgrade}
use Rattle.public_fold.specs.Fitted.{told_step}
use Rattle.public_fold.specs.Journal.{Journal, Stand, entry_step, keys_of, note_step, nothing, stand_after, steps_of, store_of}
use Rattle.public_fold.specs.Journal.Entry.{Upgraded}
use Rattle.public_fold.specs.Keyed.{links_of}
use Rattle.public_fold.specs.KeyStep.{KeyState, contents_from, is_strict, key_step, next_epoch, numbered, published, published_edges, renewed, step_with}
use Rattle.public_fold.specs.Lengths.{content_len, end_of, entry_payload, note_len, payload_len}
use Rattle.public_fold.specs.Preparing.{begun, begun_keys}
use Rattle.public_fold.specs.Records.{pieces_of}
use Rattle.public_fold.specs.StandFits.{entry_fits, has_count, note_fits}
use Rattle.public_fold.specs.Valid.{IsNext, IsValid}
use Rattle.public_fold.proofs.AllFit.{journal_all_fit}
use Rattle.public_fold.proofs.HeldMarks.{begun_strict}
use Rattle.public_fold.proofs.KeyMoves.{journal_holds, journal_sound, upgrade_moves}
use Rattle.public_fold.proofs.SerialsKept.{few_fresh, plan_short}
use Rattle.journal_bytes.specs.Folds.{public_stand}
use Rattle.journal_bytes.specs.Sealing.{IsSealable}
use Rattle.journal_bytes.specs.Upgrading.{upgrade_draws, upgrade_end, upgrade_payload, upgraded_then}
use Rattle.journal_bytes.proofs.NextEntry.{begun_renewed, between, given_many, links_many, stand_between}
use Rattle.journal_bytes.proofs.NextFits.{last_fits}
use Rattle.journal_bytes.proofs.NextValid.{begins-append, begun_valid, end_between, end_then}
use Rattle.journal_bytes.proofs.Sealable.{fresh_once, pieces_due, step_sealable}
use Rattle.journal_bytes.proofs.SeenFits.{fits_seen}

-- ---- the step, whatever the epoch

module _ (at : Stand) where
  -- it seals no text
  step_is : (new : Bool) (drawn : List (List ℕ)) → entry_step (begun new at) (Upgraded drawn) ≡ key_step (begun_keys new at.keys) (edges at.store) (change_of (is_strict at.keys) at.store Upgrade) []
  unfolding entry_step note_step pieces_of
  step_is new drawn = ap (λ strict. key_step (begun_keys new at.keys) (edges at.store) (change_of strict at.store Upgrade) []) (begun_strict new at.keys)

  step_now : (drawn : List (List ℕ)) → entry_step at (Upgraded drawn) ≡ key_step at.keys (edges at.store) (change_of (is_strict at.keys) at.store Upgrade) []
  unfolding entry_step note_step pieces_of
  step_now drawn = refl

  pub given_then : (new : Bool) (drawn other : List (List ℕ)) → length (entry_step (begun new at) (Upgraded drawn)).given ≡ length (entry_step at (Upgraded other)).given
  given_then new drawn other =
      let c = change_of (is_strict at.keys) at.store Upgrade in
      ap (λ s. length s.given) (step_is new drawn)
      ∙ given_many (begun_keys new at.keys) (edges at.store) c []
      ∙ ap (λ plan. length (plan ++ c.fresh)) (begun_renewed new at.keys (edges at.store) c)
      ∙ sym (given_many at.keys (edges at.store) c [])
      ∙ ap (λ s. length s.given) (sym (step_now other))

  pub links_then : (new : Bool) (drawn other : List (List ℕ)) → length (entry_step (begun new at) (Upgraded drawn)).links ≡ length (entry_step at (Upgraded other)).links
  links_then new drawn other =
      let c = change_of (is_strict at.keys) at.store Upgrade in
      ap (λ s. length s.links) (step_is new drawn)
      ∙ links_many (begun_keys new at.keys) (edges at.store) c []
      ∙ ap (λ plan. length (published_edges (edges at.store) c plan)) (begun_renewed new at.keys (edges at.store) c)
      ∙ sym (links_many at.keys (edges at.store) c [])
      ∙ ap (λ s. length s.links) (sym (step_now other))

  pub no_contents : (new : Bool) (drawn : List (List ℕ)) → (entry_step (begun new at) (Upgraded drawn)).contents ≡ []
  unfolding key_step step_with published contents_from numbered
  no_contents new drawn = ap (λ s. s.contents) (step_is new drawn)

  pub payload_then : (new : Bool) (drawn other : List (List ℕ)) → entry_payload (begun new at) (Upgraded drawn) ≡ 9 + 98 * length (entry_step at (Upgraded other)).links
  unfolding entry_payload payload_len note_len
  payload_then new drawn other =
      ap (λ l. 1 + 8 + 98 * l + sum_by content_len (entry_step (begun new at) (Upgraded drawn)).contents) (links_then new drawn other)
      ∙ ap (λ cs. 1 + 8 + 98 * length (entry_step at (Upgraded other)).links + sum_by content_len cs) (no_contents new drawn)
      ∙ omega arith

  pub payload_now : (drawn : List (List ℕ)) → entry_payload at (Upgraded drawn) ≡ 9 + 98 * length (entry_step at (Upgraded drawn)).links
  unfolding begun_keys
  payload_now drawn = payload_then false drawn drawn

  -- everyone may see the whole of it
  pub told_whole : (drawn : List (List ℕ)) → told_step (record { store = public_of at.store; keys = at.keys }) Upgrade ≡ entry_step at (Upgraded drawn)
  unfolding told_step note_step entry_step pieces_of
  told_whole drawn =
      ap (λ es. key_step at.keys es (change_of (is_strict at.keys) (public_of at.store) Upgrade) []) (edges_public at.store)
      ∙ ap (λ c. key_step at.keys (edges at.store) c []) (change_public (is_strict at.keys) at.store Upgrade)

-- ---- the journal with it

version_begun : (new : Bool) (k : KeyState) → (begun_keys new k).version ≡ k.version
unfolding begun_keys next_epoch
version_begun true k = refl
version_begun false k = refl

module _ (m : Journal) (has_begun : Bool) (drawn : List (List ℕ)) where
  pub end_upgraded : end_of (upgraded_then m has_begun drawn) ≡ upgrade_end m has_begun
  unfolding upgrade_end upgrade_payload
  end_upgraded =
      let at = stand_after nothing m in
      let last = end_then (between m has_begun) (Upgraded drawn) in
      let size : entry_payload (stand_after nothing (between m has_begun)) (Upgraded drawn) ≡ upgrade_payload m =
      ap (λ at. entry_payload at (Upgraded drawn)) (stand_between m has_begun) ∙ payload_then at (not has_begun) drawn [] ∙ sym (payload_now at [])
      in
      let start = end_between m has_begun in
      omega (arith, last, size, start)

  module _ (valid : IsValid m) (first : (keys_of m).version ≡ 1) (many : length drawn ≡ upgrade_draws m) (low : upgrade_end m has_begun ≤ most_store_bytes) where
    upgrade_next : IsNext (stand_after nothing (between m has_begun)) (Upgraded drawn)
    unfolding keys_of upgrade_draws
    upgrade_next =
        subst (λ at. IsNext at (Upgraded drawn)) (sym (stand_between m has_begun))
        (version_begun (not has_begun) (stand_after nothing m).keys ∙ first, many ∙ sym (given_then (stand_after nothing m) (not has_begun) drawn []))

    pub begun_low : IsValid (between m has_begun)
    unfolding upgrade_end
    begun_low = begun_valid m has_begun (upgrade_payload m) valid low

    pub upgraded_valid : IsValid (upgraded_then m has_begun drawn)
    upgraded_valid =
        let last = end_upgraded in
        (begins-append (between m has_begun) (Upgraded drawn ∷ []) begun_low.0 (upgrade_next, tt), omega (arith, last, low))

pub upgrade_sealable : (m : Journal) → IsValid m → (drawn : List (List ℕ)) → IsSealable (entry_step (stand_after nothing m) (Upgraded drawn))
unfolding entry_step note_step store_of keys_of steps_of
upgrade_sealable m valid drawn =
    let at = stand_after nothing m in
    step_sealable at.store at.store at.keys (change_of (is_strict at.keys) at.store Upgrade) (links_of (steps_of m)) (pieces_of Upgrade at.store)
    (upgrade_moves (is_strict at.keys) at.store (journal_sound m valid)) (journal_holds m valid) (fresh_once (is_strict at.keys) at.store Upgrade) (pieces_due Upgrade at.store)

-- ---- it fits, or the store is too full

module _ (m : Journal) (has_begun : Bool) (valid : IsValid m) (first : (keys_of m).version ≡ 1) where
  upgrade_fits_low : upgrade_end m has_begun ≤ most_store_bytes → note_fits (begun (not has_begun) (public_stand m)) Upgrade (told_step (begun (not has_begun) (public_stand m)) Upgrade) ≡ true
  unfolding note_fits has_count entry_fits public_stand store_of keys_of
  upgrade_fits_low low =
      let at = begun (not has_begun) (stand_after nothing m) in
      let strict = is_strict at.keys in
      let drawn : List (List ℕ) = replicate (upgrade_draws m) [] in
      let next = upgraded_valid m has_begun drawn valid first (length-replicate (upgrade_draws m) []) low in
      let last = subst (λ (a : Stand). entry_fits a (Upgraded drawn) ≡ true) (stand_between m has_begun) (last_fits nothing (between m has_begun) (Upgraded drawn) (journal_all_fit _ next)) in
      let parts = and_parts (nat_lt 0 at.keys.epoch) (fits strict at.store Upgrade && has_count (entry_step at (Upgraded drawn))) last in
      let both = and_parts (fits strict at.store Upgrade) (has_count (entry_step at (Upgraded drawn))) parts.1 in
      let told = told_step (begun (not has_begun) (public_stand m)) Upgrade in
      and_from (nat_lt 0 at.keys.epoch) (fits strict (public_of at.store) Upgrade && has_count told) parts.0
      (and_from (fits strict (public_of at.store) Upgrade) (has_count told) (fits_seen strict at.store Upgrade ∙ both.0)
      (ap (λ s. nat_lt s.after.count (2 ^ 32 - 1)) (told_whole at drawn) ∙ both.1))

  pub upgrade_fits_or_full : note_fits (begun (not has_begun) (public_stand m)) Upgrade (told_step (begun (not has_begun) (public_stand m)) Upgrade) ≡ false → most_store_bytes < upgrade_end m has_begun
  upgrade_fits_or_full not_fit =
      ⊎_elim (λ (past : most_store_bytes < upgrade_end m has_begun). past) (λ (low : upgrade_end m has_begun ≤ most_store_bytes). absurd (false≢true (sym not_fit ∙ upgrade_fits_low low)))
      (cases_lt most_store_bytes (upgrade_end m has_begun))

-- ---- it draws few keys: each renewed role is the end of a link

pub upgrade_draws_few : (m : Journal) (has_begun : Bool) → IsValid m → upgrade_end m has_begun ≤ most_store_bytes → 32 * upgrade_draws m < 4294967296
unfolding store_of keys_of steps_of upgrade_draws upgrade_end upgrade_payload
upgrade_draws_few m has_begun valid low =
    let at = stand_after nothing m in
    let strict = is_strict at.keys in
    let c = change_of strict at.store Upgrade in
    let p = renewed at.keys (edges at.store) c in
    let es = published_edges (edges at.store) c p in
    let short : length p ≤ length es = plan_short at.store at.store at.keys c (links_of (steps_of m)) (upgrade_moves strict at.store (journal_sound m valid)) (journal_holds m valid) in
    let joined : length (p ++ c.fresh) ≡ length p + length c.fresh = length-append p c.fresh in
    let fresh = few_fresh strict at.store Upgrade in
    let many : upgrade_draws m ≡ length (p ++ c.fresh) = ap (λ s. length s.given) (step_now at []) ∙ given_many at.keys (edges at.store) c [] in
    let links : length (entry_step at (Upgraded [])).links ≡ length es = ap (λ s. length s.links) (step_now at []) ∙ links_many at.keys (edges at.store) c [] in
    let payload = payload_now at [] in
    omega (arith, short, joined, fresh, many, links, payload, low)
