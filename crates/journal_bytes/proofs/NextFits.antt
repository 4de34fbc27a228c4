-- Where a command's batch ends within the store's limit, its note fits.
use Rattle.std.proofs.Common.{◌≡◌, ⊎_elim, ℕ, ◌-◌, ◌^◌, ◌≤◌, ◌<◌, Bool, true, false, not, ◌&&◌, List, [], ◌∷◌, ◌++◌, length, replicate, None, refl, sym, ap, subst, ◌∙◌}
use Rattle.std.specs.Prelude.{nat_lt}
use Rattle.std.proofs.lemmas.Bool.{and_from, and_parts, cases_lt, false≢true}
use Rattle.std.proofs.lemmas.List.{length-replicate}
use Rattle.std.proofs.lemmas.List.Elements.{All-replicate}
use Rattle.cry_base.specs.Limits.{most_file_bytes, most_store_bytes}
use Rattle.cry_base.specs.Refusing.{refusal_in}
use Rattle.cry_base.specs.Requests.{Request}
use Rattle.cry_base.proofs.Versions.{accepted_in}
use Rattle.move_plan.specs.Fitting.{fits, public_of}
use Rattle.move_plan.specs.Noting.{note_of}
use Rattle.public_fold.specs.Fitted.{told_step}
use Rattle.public_fold.specs.Journal.{Entry, Journal, Stand, nothing, entry_step, keys_of, stand_then, stand_after, store_of}
use Rattle.public_fold.specs.Journal.Entry.{Did}
use Rattle.public_fold.specs.KeyStep.{is_strict}
use Rattle.public_fold.specs.Preparing.{begun}
use Rattle.public_fold.specs.StandFits.{all_fit, entry_fits, has_count, note_fits}
use Rattle.public_fold.specs.Valid.{IsValid}
use Rattle.public_fold.proofs.AllFit.{journal_all_fit}
use Rattle.public_fold.proofs.HeldMarks.{begun_strict}
use Rattle.public_fold.proofs.NotesFit.{journal_fits}
use Rattle.journal_bytes.specs.Folds.{public_stand}
use Rattle.journal_bytes.specs.Script.{draws_of, due_end}
use Rattle.journal_bytes.proofs.NextEntry.{between, stand_between}
use Rattle.journal_bytes.proofs.NextValid.{next_valid}
use Rattle.journal_bytes.proofs.SeenFits.{fits_seen}
use Rattle.journal_bytes.proofs.ToldSkeleton.{told_keys}

pub last_fits : (at : Stand) (entries : List Entry) (entry : Entry) → all_fit at (entries ++ entry ∷ []) ≡ true → entry_fits (stand_after at entries) entry ≡ true
unfolding all_fit stand_after
last_fits at [] entry fit = (and_parts (entry_fits at entry) true fit).0
last_fits at (x ∷ entries) entry fit = last_fits (stand_then at x) entries entry (and_parts (entry_fits at x) (all_fit (stand_then at x) (entries ++ entry ∷ [])) fit).1

module _ (m : Journal) (has_begun : Bool) (r : Request) (file_bytes : ℕ) (valid : IsValid m) (bound : file_bytes ≤ most_file_bytes) (none : refusal_in (is_strict (keys_of m)) (store_of m) r file_bytes ≡ None) where
  fits_low : (check : List ℕ) → due_end m has_begun r ≤ most_store_bytes
      → note_fits (begun (not has_begun) (public_stand m)) (note_of (store_of m) r check) (told_step (begun (not has_begun) (public_stand m)) (note_of (store_of m) r check)) ≡ true
  unfolding note_fits has_count entry_fits public_stand store_of keys_of
  fits_low check low =
      let at = begun (not has_begun) (stand_after nothing m) in
      let strict = is_strict at.keys in
      let note = note_of (store_of m) r check in
      let drawn : List (List ℕ) = replicate (draws_of m r) (replicate 32 0) in
      let next = next_valid m has_begun r drawn file_bytes valid bound none (length-replicate (draws_of m r) (replicate 32 0)) (All-replicate (λ (key : List ℕ). length key ≡ 32) (draws_of m r) (replicate 32 0) refl) low in
      let last = subst (λ (a : Stand). entry_fits a (Did r drawn) ≡ true) (stand_between m has_begun) (last_fits nothing (between m has_begun) (Did r drawn) (journal_all_fit _ next)) in
      let parts = and_parts (nat_lt 0 at.keys.epoch) (fits strict at.store (note_of at.store r []) && has_count (entry_step at (Did r drawn))) last in
      let counted = (and_parts (fits strict at.store (note_of at.store r [])) (has_count (entry_step at (Did r drawn))) parts.1).1 in
      let seen : fits strict (public_of at.store) note ≡ true = fits_seen strict at.store note
      ∙ journal_fits strict m valid r check file_bytes (subst (λ b. refusal_in b (store_of m) r file_bytes ≡ None) (sym (begun_strict (not has_begun) (stand_after nothing m).keys)) none)
      in
      let same = told_keys at r check drawn file_bytes (accepted_in (is_strict (keys_of m)) (store_of m) r file_bytes none) in
      and_from (nat_lt 0 at.keys.epoch) (fits strict (public_of at.store) note && has_count (told_step (begun (not has_begun) (public_stand m)) note)) parts.0
      (and_from (fits strict (public_of at.store) note) (has_count (told_step (begun (not has_begun) (public_stand m)) note)) seen
      (ap (λ k. nat_lt k.count (2 ^ 32 - 1)) same ∙ counted))

  pub fits_or_full : (check : List ℕ)
      → note_fits (begun (not has_begun) (public_stand m)) (note_of (store_of m) r check) (told_step (begun (not has_begun) (public_stand m)) (note_of (store_of m) r check)) ≡ false
      → most_store_bytes < due_end m has_begun r
  fits_or_full check not_fit =
      ⊎_elim (λ (past : most_store_bytes < due_end m has_begun r). past) (λ (low : due_end m has_begun r ≤ most_store_bytes). absurd (false≢true (sym not_fit ∙ fits_low check low))) (cases_lt most_store_bytes (due_end m has_begun r))
