-- For which batches a log stands whose last commit met a fault of the disk.
use Rattle.std.proofs.Common.{◌≡◌, ◌≢◌, ◌⊎◌, inl, inr, ⊎_elim, ℕ, ◌+◌, Bool, true, false, eqb, List, [], ◌∷◌, ◌++◌, length, Option, append_assoc, arith, refl, sym, ap, subst, ◌∙◌}
use Rattle.std.proofs.lemmas.Bool.Decides.{nat_tests}
use Rattle.cry_io.specs.Told.{WhereBothTold}
use Rattle.batch_log.specs.Steps.{Interrupts, with_slot}
use Rattle.commit_journal.specs.Image.{Batch, empty_slot, image, spell_batch}
use Rattle.commit_journal.specs.Journals.{JournalState, MayJoin}
use Rattle.commit_journal.specs.Standing.{StandsFor, StandsWhole, last_tag}
use Rattle.commit_journal.proofs.BatchLemmas.{length-empty_slot, with_slot-spelled}
use Rattle.commit_journal.proofs.Standings.{opened, staged, whole_stands}

abbrev MayStand : List ℕ → List Batch → Batch → List ℕ → Type 0
MayStand owner bs b y = StandsWhole owner bs y ⊎ StandsFor owner (bs ++ b ∷ []) y

-- behind a closed gate they are the old ones, whatever stands there
still : (owner : List ℕ) (bs : List Batch) (b : Batch) (gate : ℕ) (after y : List ℕ) → gate ≢ 1 → y ≡ image owner bs ++ gate ∷ after → MayStand owner bs b y
still owner bs b gate after y shut is = inl (subst (StandsWhole owner bs) (sym is) (staged owner bs gate after shut))

-- behind the open gate the batch counts, whatever is in its slot
more : (owner slot : List ℕ) (bs : List Batch) (b : Batch) (after y : List ℕ) → length slot ≡ 32
    → y ≡ image owner bs ++ (1 ∷ (spell_batch owner (last_tag owner bs) slot b ++ 0 ∷ after)) → MayStand owner bs b y
more owner slot bs b after y size is = inr (subst (StandsFor owner (bs ++ b ∷ [])) (sym is) (opened owner slot bs b 0 after size (λ e. omega (arith, e))))

-- the gate is open or it isn't
either : (owner slot : List ℕ) (bs : List Batch) (b : Batch) (gate : ℕ) (after y : List ℕ) → length slot ≡ 32
    → y ≡ image owner bs ++ (gate ∷ (spell_batch owner (last_tag owner bs) slot b ++ 0 ∷ after)) → MayStand owner bs b y
either owner slot bs b gate after y size is =
    (elim (eqb gate 1) as (λ (test : Bool). eqb gate 1 ≡ test → MayStand owner bs b y) [
      | true ↦ λ gated. let one : gate ≡ 1 = grind (arith, nat_tests) in
          more owner slot bs b after y size (is ∙ ap (λ g. image owner bs ++ (g ∷ (spell_batch owner (last_tag owner bs) slot b ++ 0 ∷ after))) one)
      | false ↦ λ shut. let other : gate ≢ 1 = grind (arith, nat_tests) in still owner bs b gate _ y other is
    ]) refl

pub may_stand_whole : (owner batch x y : List ℕ) (bs : List Batch) (b : Batch) (end : ℕ) → StandsWhole owner bs x → end ≡ length (image owner bs) + 1
    → batch ≡ spell_batch owner (last_tag owner bs) empty_slot b ++ 0 ∷ [] → Interrupts end batch x y → MayStand owner bs b y
may_stand_whole owner batch x y bs b end whole at batch_is interrupts =
    let previous = last_tag owner bs in
    ⊎_elim
    (λ (kept : (after : List ℕ) × (y ≡ image owner bs ++ whole.gate ∷ after)). still owner bs b whole.gate kept.0 y whole.closed kept.1)
    (λ (torn : (now : ℕ) × (slot after : List ℕ) × (length slot ≡ 32) × (y ≡ image owner bs ++ (now ∷ (with_slot slot batch ++ after)))).
    either owner torn.1 bs b torn.0 torn.2 y torn.3
    (torn.4
    ∙ ap (λ w. image owner bs ++ (torn.0 ∷ (with_slot torn.1 w ++ torn.2))) batch_is
    ∙ ap (λ w. image owner bs ++ (torn.0 ∷ (w ++ torn.2))) (with_slot-spelled owner previous empty_slot torn.1 b length-empty_slot)
    ∙ ap (λ w. image owner bs ++ (torn.0 ∷ w)) (append_assoc (spell_batch owner previous torn.1 b) (0 ∷ []) torn.2)))
    (interrupts (image owner bs) whole.behind whole.gate (sym at) whole.bytes_are)

pub may_stand : (owner batch x y : List ℕ) (bs : List Batch) (b : Batch) (end : ℕ) → StandsWhole owner bs x → end ≡ length (image owner bs) + 1
    → batch ≡ spell_batch owner (last_tag owner bs) empty_slot b ++ 0 ∷ [] → Interrupts end batch x y → StandsFor owner bs y ⊎ StandsFor owner (bs ++ b ∷ []) y
may_stand owner batch x y bs b end whole at batch_is interrupts =
    ⊎_elim (λ old. inl (whole_stands owner bs y old)) (λ new. inr new) (may_stand_whole owner batch x y bs b end whole at batch_is interrupts)

pub may_join : (old : JournalState) (b : Batch) (batch : List ℕ) (was shows : Option (List ℕ))
    → batch ≡ spell_batch old.owner old.tag empty_slot b ++ 0 ∷ [] → WhereBothTold was shows (Interrupts old.end batch) → MayJoin b old was shows
may_join old b batch was shows batch_is interrupts = λ bs of x y x_is y_is whole.
    may_stand old.owner batch x y bs b old.end whole of.end (batch_is ∙ ap (λ t. spell_batch old.owner t empty_slot b ++ 0 ∷ []) of.tag) (interrupts x y x_is y_is)
