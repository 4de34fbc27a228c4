-- What opening a store kept at each moment, of journals.
use Rattle.std.proofs.Common.{◌≤◌, ⊎_elim, inl, ℕ, List, Option, sym, subst, ◌∙◌}
use Rattle.cry_base.specs.Limits.{most_store_bytes}
use Rattle.cry_io.specs.Told.{WhereTold}
use Rattle.commit_journal.specs.Holding.{IsKept}
use Rattle.commit_journal.specs.Image.{Batch}
use Rattle.commit_journal.specs.Moments.{OpensThroughout}
use Rattle.commit_journal.specs.Standing.{StandsFor}
use Rattle.commit_journal.proofs.OpenedMoments.{still_gated}
use Rattle.public_fold.specs.Journal.{Journal}
use Rattle.public_fold.specs.Lengths.{end_of}
use Rattle.journal_bytes.specs.Bytes.{batches_of, bodies_of}
use Rattle.journal_bytes.specs.Journals.{HoldsBetween, Kept, StandsForJournal}
use Rattle.journal_bytes.proofs.Grown.{journal_recovered}
use Rattle.store_owner.proofs.OpenedBehind.{within}

-- bytes that stand for the batches of one journal stand for the other, if some bytes stand for both
same_batches : (key : List ℕ) (held m : Journal) (x c : List ℕ) → StandsForJournal key held x → StandsForJournal key m x → StandsFor key (batches_of key m) c → StandsForJournal key held c
same_batches key held m x c one two stands =
    record {
      valid = one.valid;
      whole_keys = one.whole_keys;
      stands = subst (λ (bs : List Batch). StandsFor key bs c) (sym (journal_recovered key m x two) ∙ journal_recovered key held x one) stands;
    }

pub journals_kept : (limit : ℕ) (key : List ℕ) (was : Option (List ℕ)) (left : List ℕ → Type 0) (since : List ℕ → List ℕ → Type 0) → limit ≤ most_store_bytes →
    OpensThroughout limit key was left since →
    (m m1 m2 : Journal) → HoldsBetween key m1 m2 was left → WhereTold was (StandsForJournal key m) → end_of m ≤ limit → Kept key m1 m2 m2 since
unfolding batches_of
journals_kept limit key was left since known stops m m1 m2 holds stands fits s c at =
    let x = holds.shows in
    let shown = stands x.0 x.1 in
    ⊎_elim
    (λ old. let b = holds.leaves c old.1 in
    (let is : IsKept (StandsForJournal key) m1 m2 m2 c = record { held = b.held; from = b.from; to = inl b.to; stands_for = b.stands_for } in is))
    (λ gated.
    (let is : IsKept (StandsForJournal key) m1 m2 m2 c = record {
      held = x.2.held;
      from = x.2.from;
      to = inl x.2.to;
      stands_for = same_batches key x.2.held m x.0 c x.2.stands_for shown
          (still_gated limit key x.0 c known gated.1 (bodies_of key m) (within limit key m x.0 shown fits));
    } in is))
    (stops x.0 x.1 s c at)
