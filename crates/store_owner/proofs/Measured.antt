-- What a command takes, as its skeleton and the journal tell it.
use Rattle.std.proofs.Common.{◌≡◌, ℕ, ◌+◌, ◌*◌, ◌≤◌, ◌<◌, Bool, false, cond, not, List, [], ◌∷◌, length, map, replicate, None, ◌++◌, arith, sym, ap, subst, ◌∙◌}
use Rattle.std.proofs.lemmas.List.{length-map}
use Rattle.cry_base.specs.Layout.{batch_len}
use Rattle.cry_base.specs.Limits.{most_file_bytes, most_store_bytes}
use Rattle.cry_base.specs.Refusing.{refusal_in}
use Rattle.cry_base.specs.Requests.{Request}
use Rattle.cry_base.specs.Store.{Store}
use Rattle.cry_base.proofs.Versions.{accepted_in}
use Rattle.commit_journal.specs.Image.{image}
use Rattle.commit_journal.specs.Journals.{end_with}
use Rattle.move_plan.specs.Noting.{note_of}
use Rattle.record_format.specs.Noted.Note.{Upgrade}
use Rattle.public_fold.specs.Fitted.{told_step}
use Rattle.public_fold.specs.Heads.{IsSkeleton, content_head}
use Rattle.public_fold.specs.Journal.{Journal, nothing, entry_step, first_key, keys_of, stand_after, store_of}
use Rattle.public_fold.specs.Journal.Entry.{Did, Upgraded}
use Rattle.public_fold.specs.KeyStep.{KeyState, Stepped, is_strict}
use Rattle.public_fold.specs.Lengths.{end_of, entry_payload, note_len}
use Rattle.public_fold.specs.Preparing.{begun, begun_keys}
use Rattle.public_fold.specs.StandFits.{note_fits}
use Rattle.public_fold.specs.Valid.{IsValid}
use Rattle.public_fold.specs.declared.heads.Skeleton.{Skeleton}
use Rattle.journal_bytes.specs.Bytes.{batches_of, image_of}
use Rattle.journal_bytes.specs.Folds.{public_stand}
use Rattle.journal_bytes.specs.Owning.{IsTreeOf}
use Rattle.journal_bytes.specs.Script.{draws_of, due_end, due_payload}
use Rattle.journal_bytes.specs.Sealing.{skeleton_size}
use Rattle.journal_bytes.specs.Texting.{due_key, due_text}
use Rattle.journal_bytes.specs.Upgrading.{upgrade_draws, upgrade_end, upgrade_payload}
use Rattle.journal_bytes.proofs.DueTexts.{due_same}
use Rattle.journal_bytes.proofs.FewDraws.{few_draws}
use Rattle.journal_bytes.proofs.NextEntry.{contents_due, due, due_weighs, given_begun, links_begun, payload_due, text_long}
use Rattle.journal_bytes.proofs.NextFits.{fits_or_full}
use Rattle.journal_bytes.proofs.NextUpgrade.{given_then, links_then, no_contents, payload_now, told_whole, upgrade_draws_few, upgrade_fits_or_full}
use Rattle.journal_bytes.proofs.ToldSkeleton.{told_at}
use Rattle.journal_bytes.proofs.Weighed.{note_of_weighs, valid_weighs}
use Rattle.store_owner.specs.Deeds.{Deed, deed_draws, deed_end, deed_entry, deed_key, deed_note, deed_payload, deed_refusal, deed_text, Suits}
use Rattle.store_owner.specs.Deeds.Deed.{Commanded, Upgrading}
use Rattle.store_owner.specs.Owned.{IsOwnerOf, OwnerView}

pub skeleton_is : (m : Journal) (new : Bool) (d : Deed) (check : List ℕ) (drawn : List (List ℕ)) (file_bytes : ℕ) → deed_refusal (is_strict (keys_of m)) (store_of m) d file_bytes ≡ None
    → (s : Skeleton) → IsSkeleton (told_step (begun new (public_stand m)) (deed_note (store_of m) d check)) s → IsSkeleton (entry_step (begun new (stand_after nothing m)) (deed_entry d drawn)) s
unfolding public_stand store_of keys_of
skeleton_is m new (Commanded r) check drawn file_bytes none s is = told_at (begun new (stand_after nothing m)) r check drawn file_bytes (accepted_in (is_strict (keys_of m)) (stand_after nothing m).store r file_bytes none) s is
skeleton_is m new Upgrading check drawn file_bytes none s is = subst (λ (step : Stepped). IsSkeleton step s) (told_whole (begun new (stand_after nothing m)) drawn) is

pub draws_told : (m : Journal) (new : Bool) (d : Deed) (check : List ℕ) (file_bytes : ℕ) → deed_refusal (is_strict (keys_of m)) (store_of m) d file_bytes ≡ None
    → (s : Skeleton) → IsSkeleton (told_step (begun new (public_stand m)) (deed_note (store_of m) d check)) s → length s.keys.items ≡ deed_draws m d
unfolding draws_of upgrade_draws
draws_told m new (Commanded r) check file_bytes none s is =
    ap length (skeleton_is m new (Commanded r) check [] file_bytes none s is).keys ∙ given_begun (stand_after nothing m) r new [] []
draws_told m new Upgrading check file_bytes none s is =
    ap length (skeleton_is m new Upgrading check [] file_bytes none s is).keys ∙ given_then (stand_after nothing m) new [] []

command_told : (m : Journal) (new : Bool) (r : Request) (check : List ℕ) (file_bytes : ℕ) (t : Store) → IsValid m → IsTreeOf t (store_of m) → length check ≡ 32
    → refusal_in (is_strict (keys_of m)) (store_of m) r file_bytes ≡ None → (s : Skeleton) → IsSkeleton (told_step (begun new (public_stand m)) (note_of (store_of m) r check)) s
    → skeleton_size (note_of (store_of m) r check) s (length (due_text t r ++ due_key r (replicate 32 0))) ≡ due_payload m r
unfolding due_payload store_of begun_keys first_key
command_told m new r check file_bytes t valid of size none s is =
    let at = stand_after nothing m in
    let drawn : List (List ℕ) = replicate 32 0 ∷ [] in
    let step = skeleton_is m new (Commanded r) check drawn file_bytes none s is in
    let links : length s.links.items ≡ length (entry_step at (Did r drawn)).links = ap length step.links ∙ links_begun at r new drawn drawn in
    let contents : length s.contents.items ≡ length (due at r drawn) =
    ap length step.contents ∙ length-map (entry_step (begun new at) (Did r drawn)).contents content_head ∙ contents_due at r new drawn
    in
    let text : length (due_text t r ++ due_key r (replicate 32 0)) ≡ text_long at.store r (replicate 32 0) =
    ap (λ l. length (l ++ due_key r (replicate 32 0))) (due_same t at.store r of)
    in
    let note : note_len (note_of at.store r check) ≡ note_len (note_of at.store r []) = (note_of_weighs at.store r check size).1 in
    ap (λ n. n + 8 + 98 * length s.links.items + (58 + length (due_text t r ++ due_key r (replicate 32 0))) * length s.contents.items) note
    ∙ ap (λ n. note_len (note_of at.store r []) + 8 + 98 * n + (58 + length (due_text t r ++ due_key r (replicate 32 0))) * length s.contents.items) links
    ∙ ap (λ n. note_len (note_of at.store r []) + 8 + 98 * length (entry_step at (Did r drawn)).links + (58 + n) * length s.contents.items) text
    ∙ ap (λ n. note_len (note_of at.store r []) + 8 + 98 * length (entry_step at (Did r drawn)).links + (58 + text_long at.store r (replicate 32 0)) * n) contents
    ∙ ap (λ n. note_len (note_of at.store r []) + 8 + 98 * length (entry_step at (Did r drawn)).links + n) (sym (due_weighs m r drawn file_bytes valid (accepted_in (is_strict (keys_of m)) at.store r file_bytes none)))
    ∙ sym (payload_due at r false drawn)

size_with : (links texts long due : ℕ) → texts ≡ 0 → due ≡ 9 + 98 * links → 1 + 8 + 98 * links + long * texts ≡ due
size_with links texts long due none is = ap (λ n. 1 + 8 + 98 * links + long * n) none ∙ omega (arith, is)

upgrade_told : (m : Journal) (new : Bool) (long : ℕ) (s : Skeleton) → IsSkeleton (entry_step (begun new (stand_after nothing m)) (Upgraded [])) s → skeleton_size Upgrade s long ≡ upgrade_payload m
unfolding note_len upgrade_payload
upgrade_told m new long s step =
    let at = stand_after nothing m in
    let texts : length s.contents.items ≡ 0 = ap length step.contents ∙ ap (λ cs. length (map content_head cs)) (no_contents at new []) in
    size_with (length s.links.items) (length s.contents.items) (58 + long) (entry_payload at (Upgraded [])) texts
    (payload_now at [] ∙ ap (λ n. 9 + 98 * n) (sym (ap length step.links ∙ links_then at new [] [])))

pub payload_told : (m : Journal) (new : Bool) (d : Deed) (check : List ℕ) (file_bytes : ℕ) (t : Store) → IsValid m → IsTreeOf t (store_of m) → length check ≡ 32
    → deed_refusal (is_strict (keys_of m)) (store_of m) d file_bytes ≡ None → (s : Skeleton) → IsSkeleton (told_step (begun new (public_stand m)) (deed_note (store_of m) d check)) s
    → skeleton_size (deed_note (store_of m) d check) s (length (deed_text t d ++ deed_key d (replicate 32 0))) ≡ deed_payload m d
payload_told m new (Commanded r) check file_bytes t valid of size none s is = command_told m new r check file_bytes t valid of size none s is
payload_told m new Upgrading check file_bytes t valid of size none s is = upgrade_told m new 0 s (skeleton_is m new Upgrading check [] file_bytes none s is)

moved : (e p n : ℕ) → e + (batch_len + p) + n ≡ e + n + batch_len + p
moved e p n = omega arith

end_for : (m : Journal) (payload : ℕ) (o : OwnerView) → IsOwnerOf m o → end_with o.journal payload ≡ end_of m + cond o.journal.has_epoch 0 batch_len + batch_len + payload
unfolding image_of
end_for m payload o is =
    let end : o.journal.end ≡ end_of m =
    is.stands.end ∙ ap (λ owner. length (image owner (batches_of o.key m)) + 1) is.same_key ∙ valid_weighs o.key m is.valid is.whole_keys
    in
    ap (λ e. e + (batch_len + payload) + cond o.journal.has_epoch 0 batch_len) end ∙ moved (end_of m) payload (cond o.journal.has_epoch 0 batch_len)

pub end_told : (m : Journal) (d : Deed) (o : OwnerView) → IsOwnerOf m o → end_with o.journal (deed_payload m d) ≡ deed_end m o.journal.has_epoch d
unfolding due_end upgrade_end
end_told m (Commanded r) o is = end_for m (due_payload m r) o is
end_told m Upgrading o is = end_for m (upgrade_payload m) o is

pub few_told : (m : Journal) (has_begun : Bool) (d : Deed) (file_bytes : ℕ) → IsValid m → deed_refusal (is_strict (keys_of m)) (store_of m) d file_bytes ≡ None → deed_end m has_begun d ≤ most_store_bytes
    → 32 * deed_draws m d < 4294967296
few_told m has_begun (Commanded r) file_bytes valid none low = few_draws m has_begun r file_bytes valid none low
few_told m has_begun Upgrading file_bytes valid none low = upgrade_draws_few m has_begun valid low

-- the version that a journal leaves is the one that its owner sees
pub suits_journal : (m : Journal) (o : OwnerView) (d : Deed) → IsOwnerOf m o → Suits o.state.keys d → Suits (keys_of m) d
unfolding public_stand
suits_journal m o d is suits = subst (λ (k : KeyState). Suits k d) (sym is.seen.keys) suits

-- so is what it refuses
pub strict_journal : (m : Journal) (o : OwnerView) (r : Request) (file_bytes : ℕ) → IsOwnerOf m o → refusal_in (is_strict (keys_of m)) (store_of m) r file_bytes ≡ refusal_in (is_strict o.state.keys) (store_of m) r file_bytes
unfolding public_stand
strict_journal m o r file_bytes is = ap (λ (k : KeyState). refusal_in (is_strict k) (store_of m) r file_bytes) is.seen.keys

pub accepted_journal : (m : Journal) (o : OwnerView) (d : Deed) (file_bytes : ℕ) → IsOwnerOf m o → deed_refusal (is_strict o.state.keys) (store_of m) d file_bytes ≡ None → deed_refusal (is_strict (keys_of m)) (store_of m) d file_bytes ≡ None
unfolding public_stand
accepted_journal m o d file_bytes is none = subst (λ (k : KeyState). deed_refusal (is_strict k) (store_of m) d file_bytes ≡ None) (sym is.seen.keys) none

pub fits_told : (m : Journal) (has_begun : Bool) (d : Deed) (file_bytes : ℕ) (check : List ℕ) → IsValid m → file_bytes ≤ most_file_bytes → deed_refusal (is_strict (keys_of m)) (store_of m) d file_bytes ≡ None → Suits (keys_of m) d
    → note_fits (begun (not has_begun) (public_stand m)) (deed_note (store_of m) d check) (told_step (begun (not has_begun) (public_stand m)) (deed_note (store_of m) d check)) ≡ false
    → most_store_bytes < deed_end m has_begun d
fits_told m has_begun (Commanded r) file_bytes check valid bound none suits not_fit = fits_or_full m has_begun r file_bytes valid bound none check not_fit
fits_told m has_begun Upgrading file_bytes check valid bound none suits not_fit = upgrade_fits_or_full m has_begun valid suits not_fit
