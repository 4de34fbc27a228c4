-- Of each list that a disk shows while batches join its log: which writes were handed over, and that the batches are published whose veil
-- keys are among these.
use Rattle.std.proofs.Common.{◌≡◌, ◌⊎◌, ⊎_elim, inl, inr, ℕ, suc, ◌+◌, ◌-◌, arith, drop, List, [], ◌∷◌, ◌++◌, All, length, Option, Some, append-nil, append_assoc, refl, sym, ap, subst, ◌∙◌}
use Rattle.std.proofs.Math.Seq.{drop-append_seam}
use Rattle.std.proofs.lemmas.List.Elements.{All-cons, All-head, All-nil, All-tail}
use Rattle.cry_base.specs.Limits.{most_store_bytes}
use Rattle.cry_base.specs.Sets.{In}
use Rattle.cry_io.specs.Stops.{Torn}
use Rattle.batch_log.specs.Handing.{IsStage, IsTornStage, Write, all_written}
use Rattle.batch_log.specs.Steps.{written_at}
use Rattle.chacha_seal.proofs.SealingLemmas.{length-veil_of}
use Rattle.commit_journal.specs.Handing.{Hands, log_writes, opening_writes}
use Rattle.commit_journal.specs.Holding.{IsPrefix}
use Rattle.commit_journal.specs.Image.{Batch, batch_veil, empty_slot, image, spell_batch}
use Rattle.commit_journal.specs.Opening.{slots_filled}
use Rattle.commit_journal.specs.Standing.{HasSizes, StandsWhole, last_tag}
use Rattle.commit_journal.specs.WholeLogs.{whole_log}
use Rattle.commit_journal.proofs.Refilled.{filled_whole}
use Rattle.commit_journal.proofs.Reopened.{opened_standing}
use Rattle.public_fold.specs.Journal.{Journal}
use Rattle.public_fold.specs.Valid.{IsValid}
use Rattle.journal_bytes.specs.Bytes.{batches_of, bodies_of}
use Rattle.journal_bytes.specs.Journals.{StandsForJournal}
use Rattle.journal_bytes.specs.Keys.{AreWhole}
use Rattle.journal_bytes.proofs.Grown.{batches_fit, batches_grow}
use Rattle.store_owner.specs.Published.{published_batches}
use Rattle.store_owner.specs.Stopping.{journal_writes}
use Rattle.store_owner.proofs.HandedBatches.{journal_writes_are}
use Rattle.store_owner.proofs.OpenedBehind.{within}
use Rattle.store_owner.proofs.SlotsHanded.{opened_shows}
use Rattle.handed_laws.specs.Unveiled.{HasNoEmptyVeil, IsHanded, ShowsJoined, ShowsUnveiled, batches_behind, unveiled_by}
use Rattle.handed_laws.proofs.Publishing.{AreVeiled, whole_published}
use Rattle.handed_laws.proofs.Staged.{none_written, one_torn, one_written, three_stands, three_torn, two_torn, two_written}

-- ---- fronts of lists

all_front : {X : Type 0} (P : X → Type 0) (xs ys : List X) → All P (xs ++ ys) → All P xs
all_front P [] ys all = All-nil P
all_front P (x ∷ xs) ys all = All-cons P x xs (All-head P x (xs ++ ys) all) (all_front P xs ys (All-tail P x (xs ++ ys) all))

in_front : {X : Type 0} (x : X) (xs ys : List X) → In x xs → In x (xs ++ ys)
in_front x [] ys has = absurd has
in_front x (y ∷ xs) ys (inl is) = inl is
in_front x (y ∷ xs) ys (inr later) = inr (in_front x xs ys later)

veiled_front : (owner : List ℕ) (bs more : List Batch) → AreVeiled owner (bs ++ more) → AreVeiled owner bs
veiled_front owner bs more veiled b has = veiled b (in_front b bs more has)

-- ---- the writes by which batches join a log

module _ (last : Type 0) (owner : List ℕ) where
  pub record Shown (bs more : List Batch) (x s : List ℕ) : Type 0 where
    pub handed : ℕ
    pub is : IsHanded last handed (log_writes owner bs more) x s
    pub has : IsPrefix (bs ++ unveiled_by handed more) (published_batches owner s)

  abbrev Stage : List Batch → List Batch → List ℕ → List ℕ → Type 0
  Stage bs more x s = IsStage (log_writes owner bs more) x s ⊎ (last × IsTornStage (log_writes owner bs more) x s)

  none_more : (bs : List Batch) (x s : List ℕ) → StandsWhole owner bs x → All HasSizes bs → AreVeiled owner bs → s ≡ x → Shown bs [] x s
  unfolding log_writes IsHanded unveiled_by
  none_more bs x s whole sizes veiled is = record {
    handed = 0;
    is = is;
    has = subst (λ l. IsPrefix l (published_batches owner s)) (sym (append-nil bs)) (whole_published owner bs s (subst (StandsWhole owner bs) (sym is) whole) sizes veiled);
  }

  module _ (b : Batch) (bs more : List Batch) (x s : List ℕ) (whole : StandsWhole owner bs x) (all_sizes : All HasSizes (bs ++ b ∷ more)) (all_veiled : AreVeiled owner (bs ++ b ∷ more)) where
    abbrev further : List Batch
    further = bs ++ b ∷ []

    abbrev next : (bs ++ b ∷ []) ++ more ≡ bs ++ b ∷ more
    next = append_assoc bs (b ∷ []) more

    more_sizes : All HasSizes (further ++ more)
    more_sizes = subst (All HasSizes) (sym next) all_sizes

    more_veiled : AreVeiled owner (further ++ more)
    more_veiled = subst (AreVeiled owner) (sym next) all_veiled

    here_sizes : All HasSizes further
    here_sizes = all_front HasSizes further more more_sizes

    sizes : All HasSizes bs
    sizes = all_front HasSizes bs (b ∷ more) all_sizes

    veiled : AreVeiled owner bs
    veiled = veiled_front owner bs (b ∷ more) all_veiled

    abbrev Here : Type 0
    Here = Shown bs (b ∷ more) x s

    abbrev Published : Type 0
    Published = IsPrefix bs (published_batches owner s)

    without : Published → IsPrefix (bs ++ []) (published_batches owner s)
    without has = subst (λ l. IsPrefix l (published_batches owner s)) (sym (append-nil bs)) has

    abbrev one : List ℕ
    one = written_at (length (image owner bs) + 1) (spell_batch owner (last_tag owner bs) empty_slot b ++ 0 ∷ []) x

    abbrev two : List ℕ
    two = written_at (length (image owner bs) + 1 - 1) (1 ∷ []) one

    abbrev three : List ℕ
    three = written_at (length (image owner bs) + 1 + 13) (batch_veil owner b) two

    staged : s ≡ x → Here
    unfolding log_writes IsHanded unveiled_by
    staged is = record { handed = 0; is = is; has = without (subst (λ l. IsPrefix bs (published_batches owner l)) (sym is) (none_written owner bs b x whole sizes here_sizes veiled)) }

    staged_one : s ≡ one → Here
    unfolding log_writes IsHanded unveiled_by
    staged_one is = record { handed = 1; is = inl is; has = without (subst (λ l. IsPrefix bs (published_batches owner l)) (sym is) (one_written owner bs b x whole sizes here_sizes veiled)) }

    staged_two : s ≡ two → Here
    unfolding log_writes IsHanded unveiled_by
    staged_two is = record { handed = 2; is = inl (inl is); has = without (subst (λ l. IsPrefix bs (published_batches owner l)) (sym is) (two_written owner bs b x whole sizes here_sizes veiled)) }

    torn_one : last → Torn (length (image owner bs) + 1) (length (spell_batch owner (last_tag owner bs) empty_slot b ++ 0 ∷ [])) x s → Here
    unfolding log_writes IsHanded unveiled_by
    torn_one at torn = record { handed = 1; is = inr (refl, at, torn); has = without (one_torn owner bs b x whole sizes here_sizes veiled s torn) }

    torn_two : last → Torn (length (image owner bs) + 1 - 1) 1 one s → Here
    unfolding log_writes IsHanded unveiled_by
    torn_two at torn = record { handed = 2; is = inl (inr (refl, at, torn)); has = without (two_torn owner bs b x whole sizes here_sizes veiled s torn) }

    torn_three : last → Torn (length (image owner bs) + 1 + 13) (length (batch_veil owner b)) two s → Here
    unfolding log_writes IsHanded unveiled_by
    torn_three at torn =
        ⊎_elim
        (λ is. staged_two is)
        (λ has. (let is : Here = record { handed = 3; is = inl (inl (inr (refl, at, torn))); has = has } in is))
        (three_torn owner bs b x whole sizes here_sizes veiled s (subst (λ n. Torn (length (image owner bs) + 1 + 13) n two s) (length-veil_of owner b.epoch b.number) torn))

    staged_more : Shown further more three s → Here
    unfolding log_writes IsHanded unveiled_by
    staged_more shown = record {
      handed = suc (suc (suc shown.handed));
      is = inl (inl (inl shown.is));
      has = subst (λ l. IsPrefix l (published_batches owner s)) (append_assoc bs (b ∷ []) (unveiled_by shown.handed more)) shown.has;
    }

  pub stage_shown : (bs more : List Batch) (x s : List ℕ) → StandsWhole owner bs x → All HasSizes (bs ++ more) → AreVeiled owner (bs ++ more) → Stage bs more x s → Shown bs more x s
  unfolding log_writes IsStage IsTornStage
  stage_shown bs [] x s whole sized not_empty (inl is) =
      none_more bs x s whole (all_front HasSizes bs [] sized) (veiled_front owner bs [] not_empty) is
  stage_shown bs [] x s whole sized not_empty (inr torn) = absurd torn.1
  stage_shown bs (b ∷ more) x s whole sized not_empty (inl (inl is)) = staged b bs more x s whole sized not_empty is
  stage_shown bs (b ∷ more) x s whole sized not_empty (inl (inr (inl is))) = staged_one b bs more x s whole sized not_empty is
  stage_shown bs (b ∷ more) x s whole sized not_empty (inl (inr (inr (inl is)))) = staged_two b bs more x s whole sized not_empty is
  stage_shown bs (b ∷ more) x s whole sized not_empty (inl (inr (inr (inr later)))) =
      staged_more b bs more x s whole sized not_empty
      (stage_shown (bs ++ b ∷ []) more _ s (three_stands owner bs b x whole) (more_sizes b bs more x s whole sized not_empty) (more_veiled b bs more x s whole sized not_empty) (inl later))
  stage_shown bs (b ∷ more) x s whole sized not_empty (inr (at, inl torn)) = torn_one b bs more x s whole sized not_empty at torn
  stage_shown bs (b ∷ more) x s whole sized not_empty (inr (at, inr (inl torn))) = torn_two b bs more x s whole sized not_empty at torn
  stage_shown bs (b ∷ more) x s whole sized not_empty (inr (at, inr (inr (inl torn)))) = torn_three b bs more x s whole sized not_empty at torn
  stage_shown bs (b ∷ more) x s whole sized not_empty (inr (at, inr (inr (inr later)))) =
      staged_more b bs more x s whole sized not_empty
      (stage_shown (bs ++ b ∷ []) more _ s (three_stands owner bs b x whole) (more_sizes b bs more x s whole sized not_empty) (more_veiled b bs more x s whole sized not_empty) (inr (at, later)))

-- ---- some writes, and then others

stage_splits : (ws more : List Write) (x s : List ℕ) → IsStage (ws ++ more) x s → IsStage ws x s ⊎ IsStage more (all_written ws x) s
unfolding IsStage all_written
stage_splits [] more x s is = inr is
stage_splits (w ∷ ws) more x s (inl is) = inl (inl is)
stage_splits (w ∷ ws) more x s (inr later) = ⊎_elim (λ first. inl (inr first)) (λ then. inr then) (stage_splits ws more (written_at w.place w.bytes x) s later)

torn_splits : (ws more : List Write) (x s : List ℕ) → IsTornStage (ws ++ more) x s → IsTornStage ws x s ⊎ IsTornStage more (all_written ws x) s
unfolding IsTornStage all_written
torn_splits [] more x s torn = inr torn
torn_splits (w ∷ ws) more x s (inl torn) = inl (inl torn)
torn_splits (w ∷ ws) more x s (inr later) = ⊎_elim (λ first. inl (inr first)) (λ then. inr then) (torn_splits ws more (written_at w.place w.bytes x) s later)

-- ---- a whole run

-- bytes that stood for a journal stand for the whole of it, once the slots are filled
pub filled_stands : (key : List ℕ) (m : Journal) (x : List ℕ) → StandsForJournal key m x → StandsWhole key (batches_of key m) (all_written (opening_writes most_store_bytes key x) x)
unfolding batches_of
filled_stands key m x stands =
    let small = stands.valid.1 in
    let bodies = bodies_of key m in
    let inside = within most_store_bytes key m x stands small in
    let log = whole_log key bodies in
    let is = opened_shows key m x (slots_filled key log.placed x) stands small (log, opened_standing most_store_bytes key bodies x (omega arith) inside, refl) in
    subst (StandsWhole key (batches_of key m)) is (filled_whole key bodies x stands.stands)

-- batches that joined the log behind a journal
pub joins_shown : (key : List ℕ) (m reached : Journal) (x s : List ℕ) (shown : Option (List ℕ)) → StandsWhole key (batches_of key m) x → IsPrefix m reached → IsValid reached
    → AreWhole key reached → HasNoEmptyVeil key reached
    → IsStage (journal_writes key m reached) x s ⊎ ((shown ≡ Some s) × IsTornStage (journal_writes key m reached) x s) → ShowsJoined key m reached x shown s
joins_shown key m reached x s shown whole longer valid keys veiled stage =
    let bs = batches_of key m in
    let grown = batches_grow key m reached longer in
    let more = grown.0 in
    let all = grown.1 in
    let joins : journal_writes key m reached ≡ log_writes key bs more = journal_writes_are key m reached more (sym all) in
    let behind : batches_behind key m reached ≡ more = ap (λ (l : List Batch). drop (length bs) l) (sym all) ∙ drop-append_seam bs more in
    let sizes = subst (All HasSizes) (sym all) (batches_fit key reached valid keys) in
    let not_empty = subst (AreVeiled key) (sym all) veiled in
    let here = stage_shown (shown ≡ Some s) key bs more x s whole sizes not_empty
    (⊎_elim
    (λ is. inl (subst (λ (ws : List Write). IsStage ws x s) joins is))
    (λ torn. inr (torn.0, subst (λ (ws : List Write). IsTornStage ws x s) joins torn.1))
    stage) in (
      here.handed,
      subst (λ (ws : List Write). IsHanded (shown ≡ Some s) here.handed ws x s) (sym joins) here.is,
      subst (λ (l : List Batch). IsPrefix (bs ++ unveiled_by here.handed l) (published_batches key s)) (sym behind) here.has,
    )

pub run_shows : (key : List ℕ) (m reached : Journal) (x : List ℕ) (was shown : Option (List ℕ)) (since : List ℕ → List ℕ → Type 0) → was ≡ Some x → StandsForJournal key m x
    → IsPrefix m reached → IsValid reached → AreWhole key reached → HasNoEmptyVeil key reached
    → Hands (opening_writes most_store_bytes key x ++ journal_writes key m reached) (Unit {0}) was shown since
    → (s c : List ℕ) → since s c → ShowsUnveiled key m reached x shown s
run_shows key m reached x was shown since is_x stands longer valid keys veiled hands s c at =
    let fills = opening_writes most_store_bytes key x in
    let joins = journal_writes key m reached in
    let y = all_written fills x in
    let whole = filled_stands key m x stands in
    let joined : IsStage joins y s ⊎ ((shown ≡ Some s) × IsTornStage joins y s) → ShowsUnveiled key m reached x shown s = λ stage.
    inr (inr (joins_shown key m reached y s shown whole longer valid keys veiled stage)) in
    ⊎_elim
    (λ is. ⊎_elim (λ first. inl first) (λ then. joined (inl then)) (stage_splits fills joins x s is))
    (λ torn. ⊎_elim (λ first. inr (inl (torn.1, first))) (λ then. joined (inr (torn.1, then))) (torn_splits fills joins x s torn.2))
    (hands x is_x s c at)
