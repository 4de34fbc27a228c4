-- What the first batches of a journal show to who has a seat.
use Rattle.std.proofs.Common.{◌≡◌, ℕ, zero, suc, ◌≤◌, Bool, true, false, List, [], ◌∷◌, ◌++◌, length, take, drop, Option, Some, None, Result, Ok, Err, arith, inl, inr, refl, sym, ap, subst, ◌∙◌}
use Rattle.std.specs.Prelude.{All, if◌then◌else◌, option_map}
use Rattle.std.specs.Str.{bytes_eq}
use Rattle.std.proofs.lemmas.List.{length-take-le}
use Rattle.std.proofs.lemmas.List.Elements.{All-take}
use Rattle.std.proofs.lemmas.Slice.Eq.{bytes_eq-Decides}
use Rattle.std.proofs.Math.Seq.{take-length}
use Rattle.chacha_seal.specs.Sealing.{check_of}
use Rattle.commit_journal.specs.Answering.{WrongKey, and_then}
use Rattle.commit_journal.specs.Placed.{PlainPlaced}
use Rattle.cry_base.specs.Store.{HolderEntry, Store, holder_entry, no_store}
use Rattle.cry_base.specs.declared.client.Bundle.{Bundle}
use Rattle.cry_base.specs.declared.client.Bundle.TheVariants as bundles
use Rattle.cry_base.specs.declared.ids.HolderId.{HolderId}
use Rattle.log_visits.specs.Folding.{folded}
use Rattle.log_visits.specs.Judging.{Failure, NoHolder, OfBytes, holder_reads, may_read, of_bytes, opened_first, published_check, read_through, read_with, then_on, view_with, who_of}
use Rattle.log_visits.specs.View.{Line, view}
use Rattle.log_visits.specs.Visiting.{Reading, visit_all}
use Rattle.log_visits.specs.Visits.{all_visits}
use Rattle.journal_bytes.specs.Folds.{log_of}
use Rattle.journal_bytes.specs.Keys.{AreWhole, drawn_by}
use Rattle.journal_bytes.specs.Opening.{reading_of}
use Rattle.public_fold.specs.Journal.{Entry, Journal, nothing, stand_after, store_of}
use Rattle.public_fold.specs.Journal.Entry.{Session, Made, Did, Upgraded}
use Rattle.public_fold.specs.Valid.{BeginsWell, IsValid}
use Rattle.public_fold.proofs.Prefixes.{prefix_valid}
use Rattle.reader_laws.specs.Reading.{if_known, shown_of}
use Rattle.reader_laws.proofs.Published.{MayPublish}
use Rattle.reader_laws.proofs.Readable.{IsReadable, readable}
use Rattle.reader_laws.proofs.Shown.{log_shown, read_on}
use Rattle.role_graph.specs.Rights.Who.{TheHolder}
use Rattle.session_laws.specs.Answers.{RepliesTo}
use Rattle.session_laws.specs.Seats.{seat_shows, shows_entry}
use Rattle.session_laws.specs.Serving.{IsHonestKey}
use Rattle.session_laws.proofs.HoldersStay.{honest_front}
use Rattle.session_laws.proofs.LogsGrown.{log_front, log_many}

-- ---- a log that can be read

known_shown : (s : Store) (h : HolderId) (key : List ℕ) (o : Option HolderEntry) → holder_entry s h.0 ≡ o →
    shown_of s (bundles.Holder h key) ≡ elim o as (λ z. Result (List Line) Failure) [ None ↦ Err (NoHolder s.holders_made) | Some e ↦ Ok (view s (TheHolder h.0)) ]
unfolding shown_of if_known who_of
known_shown s h key o is = ap (λ x. elim x as (λ z. Result (List Line) Failure) [ None ↦ Err (NoHolder s.holders_made) | Some e ↦ Ok (view s (TheHolder h.0)) ]) is

module _ (owner : List ℕ) (m : Journal) (ok : IsReadable owner m) (h : HolderId) (key : List ℕ) (honest : IsHonestKey m h.0 key) where
  abbrev bundle : Bundle
  bundle = bundles.Holder h key

  -- another check than the holder's
  wrong_view : (e : HolderEntry) → holder_entry (store_of m) h.0 ≡ Some e → bytes_eq (check_of e.key) (check_of key) ≡ false →
      view_with bundle (Ok (log_of owner m)) ≡ Err (OfBytes WrongKey)
  unfolding view_with read_with may_read then_on holder_reads
  wrong_view e is other =
      let ask : Reading → Result (List Line) Failure =
      λ r. then_on (of_bytes (visit_all r (all_visits r.stand.store (who_of bundle)) (opened_first bundle r))) (λ o. Ok (view o.store (who_of bundle)))
      in
      ap (λ z. then_on (then_on z (may_read bundle)) ask) (read_on owner m ok.followed)
      ∙ ap (λ o. then_on (holder_reads key (reading_of owner m) o) ask) (ok.checked h.0 ∙ ap (option_map (λ (d : HolderEntry). check_of d.key)) is)
      ∙ ap (λ (b : Bool). then_on (if b then Ok (reading_of owner m) else Err (OfBytes WrongKey)) ask) other

  one_entry : (a b : HolderEntry) → Some a ≡ Some b → a ≡ b
  one_entry a b is = cc

  shown_so : (e : HolderEntry) → holder_entry (store_of m) h.0 ≡ Some e → (test : Bool) → bytes_eq (check_of e.key) (check_of key) ≡ test →
      RepliesTo (view_with bundle (Ok (log_of owner m))) (shows_entry (store_of m) h.0 key (Some e))
  unfolding shows_entry
  shown_so e is true same =
      let check : check_of e.key ≡ check_of key = (bytes_eq-Decides (check_of e.key) (check_of key)).0 same in
      let view_is : view_with bundle (Ok (log_of owner m)) ≡ Ok (view (store_of m) (TheHolder h.0)) =
      log_shown owner m ok bundle (λ d there. honest d there (ap (λ (z : HolderEntry). check_of z.key) (one_entry d e (sym there ∙ is)) ∙ check))
      ∙ known_shown (store_of m) h key (Some e) is
      in
      subst (λ z. RepliesTo z (shows_entry (store_of m) h.0 key (Some e))) (sym view_is) (rw same refl)
  shown_so e is false other =
      subst (λ z. RepliesTo z (shows_entry (store_of m) h.0 key (Some e))) (sym (wrong_view e is other)) (rw other refl)

  no_entry : (e : HolderEntry) → holder_entry (store_of m) h.0 ≡ None → holder_entry (store_of m) h.0 ≡ Some e → key ≡ e.key
  no_entry e none some = let wrong : None ≡ Some e = sym none ∙ some in absurd (cc)

  shown_to : (o : Option HolderEntry) → holder_entry (store_of m) h.0 ≡ o → RepliesTo (view_with bundle (Ok (log_of owner m))) (shows_entry (store_of m) h.0 key o)
  unfolding shows_entry
  shown_to None is =
      let view_is : view_with bundle (Ok (log_of owner m)) ≡ Err (NoHolder (store_of m).holders_made) =
      log_shown owner m ok bundle (λ e there. no_entry e is there) ∙ known_shown (store_of m) h key None is
      in
      subst (λ z. RepliesTo z (shows_entry (store_of m) h.0 key None)) (sym view_is) refl
  shown_to (Some e) is = shown_so e is (bytes_eq (check_of e.key) (check_of key)) refl

  pub readable_shown : RepliesTo (view_with bundle (Ok (log_of owner m))) (seat_shows (store_of m) h.0 key)
  unfolding seat_shows
  readable_shown = shown_to (holder_entry (store_of m) h.0) refl

-- ---- the first batches of a valid journal

-- no batch at all
none_shown : (h : HolderId) (key : List ℕ) → RepliesTo (view_with (bundles.Holder h key) (Ok [])) (seat_shows (store_of []) h.0 key)
unfolding view_with read_with read_through and_then folded may_read published_check holder_reads then_on of_bytes seat_shows shows_entry store_of stand_after nothing no_store holder_entry
none_shown h key = refl

split_at : (xs : Journal) (k : ℕ) → take k xs ++ drop k xs ≡ xs
split_at [] zero = refl
split_at [] (suc k) = refl
split_at (x ∷ xs) zero = refl
split_at (x ∷ xs) (suc k) = ap (λ (l : Journal). x ∷ l) (split_at xs k)

first_entry : (m : Journal) → BeginsWell m → take 1 m ≡ Session ∷ []
first_entry [] begins = absurd begins
first_entry (Session ∷ es) begins = refl
first_entry (Made version keys ∷ es) begins = absurd begins
first_entry (Did r keys ∷ es) begins = absurd begins
first_entry (Upgraded keys ∷ es) begins = absurd begins

module _ (owner : List ℕ) (m : Journal) (valid : IsValid m) (whole : AreWhole owner m) where
  front_publishes : (k : ℕ) → 1 ≤ k → k ≤ length m → MayPublish owner (take k m)
  front_publishes zero some within = absurd (omega arith)
  front_publishes (suc zero) some within = inr (first_entry m valid.0)
  front_publishes (suc (suc k)) some within =
      let long : length (take (suc (suc k)) m) ≡ suc (suc k) = length-take-le (suc (suc k)) m within in
      inl (
        prefix_valid (take (suc (suc k)) m) (drop (suc (suc k)) m) (omega (arith, long)) (subst IsValid (sym (split_at m (suc (suc k)))) valid),
        record {
          owner_size = whole.owner_size;
          drawn_sizes = All-take (λ (entry : Entry). All (λ (key : List ℕ). length key ≡ 32) (drawn_by entry)) (suc (suc k)) m whole.drawn_sizes;
        },
      )

  pub log_taken : (k : ℕ) → k ≤ length m → take k (log_of owner m) ≡ log_of owner (take k m)
  log_taken k within =
      let front = take k m in
      let long : length front ≡ k = length-take-le k m within in
      let many = log_many owner front in
      ap (λ (l : Journal). take k (log_of owner l)) (sym (split_at m k))
      ∙ log_front owner front (drop k m) k (omega (arith, long))
      ∙ ap (λ n. take n (log_of owner front)) (sym (many ∙ long))
      ∙ take-length (log_of owner front)

  pub front_shows : (k : ℕ) (h : HolderId) (key : List ℕ) → k ≤ length m → IsHonestKey m h.0 key →
      RepliesTo (view_with (bundles.Holder h key) (Ok (take k (log_of owner m)))) (seat_shows (store_of (take k m)) h.0 key)
  front_shows zero h key within honest = none_shown h key
  front_shows (suc k) h key within honest =
      subst (λ (l : List PlainPlaced). RepliesTo (view_with (bundles.Holder h key) (Ok l)) (seat_shows (store_of (take (suc k) m)) h.0 key)) (sym (log_taken (suc k) within))
      (readable_shown owner (take (suc k) m) (readable owner (take (suc k) m) (front_publishes (suc k) (omega arith) within)) h key
      (honest_front (take (suc k) m) (drop (suc k) m) h.0 key
      (subst BeginsWell (sym (split_at m (suc k))) valid.0)
      (subst (λ l. IsHonestKey l h.0 key) (sym (split_at m (suc k))) honest)))
