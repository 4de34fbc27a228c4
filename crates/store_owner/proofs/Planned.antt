-- What a planned command is answered: accepted, or that the store is too full.
use Rattle.std.proofs.Common.{◌≡◌, ℕ, ◌+◌, ◌^◌, ◌≤◌, ◌<◌, ◌⊎◌, ⊎_elim, Bool, true, false, nat_lt, not, List, ◌++◌, length, replicate, Some, None, arith, ap, subst, ◌∙◌}
use Rattle.std.proofs.lemmas.Bool.{le-ltb, lt-ltb}
use Rattle.commit_journal.specs.Journals.{end_with}
use Rattle.cry_base.specs.Layout.{batch_len}
use Rattle.cry_base.specs.Limits.{most_store_bytes}
use Rattle.cry_base.specs.declared.commands.Refusal.{Refusal}
use Rattle.cry_base.specs.declared.commands.Refusal.TheVariants.{Full}
use Rattle.folder_nodes.specs.Titles.{tree_store}
use Rattle.record_format.specs.Noted.{Note}
use Rattle.public_fold.specs.Fitted.{told_step}
use Rattle.public_fold.specs.Heads.{IsSkeleton}
use Rattle.public_fold.specs.Journal.{Journal, keys_of, store_of}
use Rattle.public_fold.specs.KeyStep.{is_strict}
use Rattle.public_fold.specs.Preparing.{begun}
use Rattle.journal_bytes.specs.Folds.{public_stand}
use Rattle.journal_bytes.specs.Owning.{IsStoreOf}
use Rattle.journal_bytes.specs.Script.{answer, answer_with, due_end}
use Rattle.journal_bytes.specs.Upgrading.{upgrade_answer}
use Rattle.cry_base.specs.Requests.{Request}
use Rattle.cry_base.specs.Refusing.{refusal_in}
use Rattle.store_owner.specs.Deeds.{Deed, deed_answer, deed_end, deed_key, deed_note, deed_payload, deed_refusal, deed_text}
use Rattle.store_owner.specs.Deeds.Deed.{Commanded, Upgrading}
use Rattle.journal_bytes.specs.Sealing.{skeleton_size}
use Rattle.store_owner.specs.Owned.{IsOwnerOf, OwnerView, limits_in}
use Rattle.store_owner.specs.Planning.{IsDrafted, planned_size}
use Rattle.store_owner.specs.Sound.{granted_in}
use Rattle.store_owner.specs.declared.change.Change.{Change}

-- what the store itself doesn't refuse, but for a full store
pub answered : (o : OwnerView) (m : Journal) (r : Deed) (full : Bool) → deed_refusal (is_strict (keys_of m)) (store_of m) r o.file_bytes ≡ None → nat_lt o.journal.limit (deed_end m o.journal.has_epoch r) ≡ full
    → deed_answer (limits_in o) m o.journal.has_epoch r ≡ answer_with None full
unfolding answer upgrade_answer store_of keys_of
answered o m (Commanded r) full accepted at = ap (λ w. answer_with w (nat_lt o.journal.limit (due_end m o.journal.has_epoch r))) accepted ∙ ap (answer_with None) at
answered o m Upgrading full accepted at = ap (answer_with None) at

pub is_refused : (o : OwnerView) (m : Journal) (r : Request) (why : Refusal) → refusal_in (is_strict (keys_of m)) (store_of m) r o.file_bytes ≡ Some why → answer (limits_in o) m o.journal.has_epoch r ≡ Some why
unfolding answer answer_with store_of keys_of
is_refused o m r why refused = ap (λ w. answer_with w (nat_lt o.journal.limit (due_end m o.journal.has_epoch r))) refused

pub is_full : (o : OwnerView) (m : Journal) (r : Deed) → deed_refusal (is_strict (keys_of m)) (store_of m) r o.file_bytes ≡ None → o.journal.limit < deed_end m o.journal.has_epoch r → deed_answer (limits_in o) m o.journal.has_epoch r ≡ Some Full
unfolding answer_with
is_full o m r accepted past = answered o m r true accepted (lt-ltb o.journal.limit (deed_end m o.journal.has_epoch r) past)

pub is_accepted : (o : OwnerView) (m : Journal) (r : Deed) → deed_refusal (is_strict (keys_of m)) (store_of m) r o.file_bytes ≡ None → deed_end m o.journal.has_epoch r ≤ o.journal.limit → deed_answer (limits_in o) m o.journal.has_epoch r ≡ None
unfolding answer_with
is_accepted o m r accepted within = answered o m r false accepted (le-ltb o.journal.limit (deed_end m o.journal.has_epoch r) within)

-- the skeleton and the size of a draft, for an owner of a journal
module _ (m : Journal) (r : Deed) (o : OwnerView) (p : Change) (drafted : IsDrafted r o p) (is : IsOwnerOf m o) (store : IsStoreOf o.state.tree o.names (granted_in o) (store_of m)) where
  pub skeleton_due : IsSkeleton (told_step (begun (not o.journal.has_epoch) (public_stand m)) (deed_note (store_of m) r (replicate 32 0))) p.ready.skeleton
  skeleton_due = subst (λ (n : Note). IsSkeleton (told_step (begun (not o.journal.has_epoch) (public_stand m)) n) p.ready.skeleton) (drafted.told (store_of m) store) (drafted.is_skeleton (public_stand m) is.seen)

  pub size_due : skeleton_size (deed_note (store_of m) r (replicate 32 0)) p.ready.skeleton (length (deed_text (tree_store o.state.tree o.names) r ++ deed_key r (replicate 32 0))) ≡ deed_payload m r → planned_size r p ≡ deed_payload m r
  size_due law =
      ap (λ (n : Note). skeleton_size n p.ready.skeleton (length (p.text.items ++ deed_key r (replicate 32 0)))) (drafted.told (store_of m) store)
      ∙ ap (λ (t : List ℕ). skeleton_size (deed_note (store_of m) r (replicate 32 0)) p.ready.skeleton (length (t ++ deed_key r (replicate 32 0)))) drafted.text_is
      ∙ law

-- where the log would end, past the limit or within it
pub past_end : (o : OwnerView) (size due end : ℕ) → size ≡ due → end_with o.journal due ≡ end → o.journal.limit < end_with o.journal size → o.journal.limit < end
past_end o size due end same at past = subst (λ n. o.journal.limit < n) (ap (end_with o.journal) same ∙ at) past

pub within_end : (o : OwnerView) (size due end : ℕ) → size ≡ due → end_with o.journal due ≡ end → end_with o.journal size ≤ o.journal.limit → end ≤ o.journal.limit
within_end o size due end same at within = subst (λ n. n ≤ o.journal.limit) (ap (end_with o.journal) same ∙ at) within

le_or_lt : (a b : ℕ) → (a ≤ b) ⊎ (b < a)
le_or_lt a b = grind arith

pub not_within : (a b : ℕ) → (a ≤ b → ⊥) → b < a
not_within a b h = ⊎_elim (λ (l : a ≤ b). absurd (h l)) (λ (l : b < a). l) (le_or_lt a b)

pub not_low : (a b : ℕ) → (a < b → ⊥) → b ≤ a
not_low a b h = ⊎_elim (λ (l : b ≤ a). l) (λ (l : a < b). absurd (h l)) (le_or_lt b a)

not_below : (size whole limit end more : ℕ) → limit ≤ most_store_bytes → size ≡ whole → (size < 2 ^ 64 → ⊥) → limit < end + (batch_len + whole) + more
not_below size whole limit end more low same far = let high : 2 ^ 64 ≤ size = not_low size (2 ^ 64) far in omega (arith, high, same, low)

pub far_past : (o : OwnerView) (size whole : ℕ) → o.journal.limit ≤ most_store_bytes → size ≡ whole → (size < 2 ^ 64 → ⊥) → o.journal.limit < end_with o.journal whole
far_past o size whole limit same far = not_below size whole o.journal.limit o.journal.end _ limit same far
