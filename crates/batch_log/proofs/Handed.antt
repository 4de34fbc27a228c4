-- What calls that come one after another hand a disk.
use Rattle.std.proofs.Common.{◌≡◌, ◌≤◌, ◌⊎◌, ⊎_elim, inl, inr, ℕ, List, [], ◌∷◌, ◌++◌, length, Option, Some, refl, sym, subst, ◌∙◌}
use Rattle.std.specs.Prelude.{is_some}
use Rattle.cry_io.specs.Told.{WhereBothTold}
use Rattle.cry_io.proofs.ToldLemmas.{told_again}
use Rattle.batch_log.specs.Handing.{Hands, IsStage, IsTornStage, Write, all_written}
use Rattle.batch_log.specs.Moments.{GoesOn, Throughout}
use Rattle.batch_log.specs.Steps.{written_at}
use Rattle.batch_log.proofs.WrittenMoments.{told_one}

-- none of them is done
pub at_start : (ws : List Write) (x : List ℕ) → IsStage ws x x
unfolding IsStage
at_start [] x = refl
at_start (w ∷ ws) x = inl refl

-- all of them are
pub at_end : (ws : List Write) (x : List ℕ) → IsStage ws x (all_written ws x)
unfolding IsStage all_written
at_end [] x = refl
at_end (w ∷ ws) x = inr (at_end ws (written_at w.place w.bytes x))

-- others may follow
pub stage_before : (ws more : List Write) (x s : List ℕ) → IsStage ws x s → IsStage (ws ++ more) x s
unfolding IsStage
stage_before [] more x s is = subst (λ r. IsStage more x r) (sym is) (at_start more x)
stage_before (w ∷ ws) more x s (inl is) = inl is
stage_before (w ∷ ws) more x s (inr later) = inr (stage_before ws more (written_at w.place w.bytes x) s later)

pub torn_before : (ws more : List Write) (x s : List ℕ) → IsTornStage ws x s → IsTornStage (ws ++ more) x s
unfolding IsTornStage
torn_before [] more x s torn = absurd torn
torn_before (w ∷ ws) more x s (inl torn) = inl torn
torn_before (w ∷ ws) more x s (inr later) = inr (torn_before ws more (written_at w.place w.bytes x) s later)

-- or stand before
pub stage_behind : (ws more : List Write) (x s : List ℕ) → IsStage more (all_written ws x) s → IsStage (ws ++ more) x s
unfolding IsStage all_written
stage_behind [] more x s is = is
stage_behind (w ∷ ws) more x s is = inr (stage_behind ws more (written_at w.place w.bytes x) s is)

pub torn_after : (ws more : List Write) (x s : List ℕ) → IsTornStage more (all_written ws x) s → IsTornStage (ws ++ more) x s
unfolding IsTornStage all_written
torn_after [] more x s torn = torn
torn_after (w ∷ ws) more x s torn = inr (torn_after ws more (written_at w.place w.bytes x) s torn)

pub all_both : (ws more : List Write) (x : List ℕ) → all_written (ws ++ more) x ≡ all_written more (all_written ws x)
unfolding all_written
all_both [] more x = refl
all_both (w ∷ ws) more x = all_both ws more (written_at w.place w.bytes x)

-- a call that wrote nothing
pub hands_nothing : (ws : List Write) (failed : Type 0) (was shown : Option (List ℕ)) (since : List ℕ → List ℕ → Type 0) →
    Throughout (λ s c. was ≡ Some s) since → Hands ws failed was shown since
hands_nothing ws failed was shown since same x x_is s c at = inl (subst (λ r. IsStage ws x r) (told_one was x s x_is (same s c at)) (at_start ws x))

-- one that failed, or didn't, before others
pub hands_before : (ws more : List Write) (fails failed : Type 0) (was shown : Option (List ℕ)) (since : List ℕ → List ℕ → Type 0) →
    (fails → failed) → Hands ws fails was shown since → Hands (ws ++ more) failed was shown since
hands_before ws more fails failed was shown since fault hands x x_is s c at =
    ⊎_elim (λ is. inl (stage_before ws more x s is)) (λ torn. inr (fault torn.0, torn.1, torn_before ws more x s torn.2)) (hands x x_is s c at)

-- a call that fails where another does
pub hands_failing : (ws : List Write) (fails failed : Type 0) (was shown : Option (List ℕ)) (since : List ℕ → List ℕ → Type 0) →
    (fails → failed) → Hands ws fails was shown since → Hands ws failed was shown since
hands_failing ws fails failed was shown since fault hands x x_is s c at =
    ⊎_elim (λ is. inl is) (λ torn. inr (fault torn.0, torn.1, torn.2)) (hands x x_is s c at)

-- a call that did all of them showed none of them torn
pub hands_done : (ws : List Write) (failed : Type 0) (was shows : Option (List ℕ)) (since : List ℕ → List ℕ → Type 0) →
    ((x : List ℕ) → was ≡ Some x → shows ≡ Some (all_written ws x)) → Hands ws failed was shows since → Hands ws ⊥ was shows since
hands_done ws failed was shows since all hands x x_is s c at =
    ⊎_elim
    (λ is. inl is)
    (λ torn. inl (subst (λ r. IsStage ws x r) (told_one shows (all_written ws x) s (all x x_is) torn.1) (at_end ws x)))
    (hands x x_is s c at)

-- one that didn't fail, and then others
pub hands_then : (ws more : List Write) (fails failed : Type 0) (was shows shown : Option (List ℕ)) (first start : ℕ)
    (past since : ℕ → List ℕ → List ℕ → Type 0) → (fails → ⊥) → first ≤ start → GoesOn start past since →
    ((x : List ℕ) → was ≡ Some x → shows ≡ Some (all_written ws x)) → Hands ws fails was shows (past first) →
    Hands more failed shows shown (since start) → Hands (ws ++ more) failed was shown (since first)
hands_then ws more fails failed was shows shown first start past since never order goes all before after x x_is s c at =
    ⊎_elim
    (λ old. ⊎_elim (λ is. inl (stage_before ws more x s is)) (λ torn. absurd (never torn.0)) (before x x_is s c old))
    (λ new. ⊎_elim
    (λ is. inl (stage_behind ws more x s is))
    (λ torn. inr (torn.0, torn.1, torn_after ws more x s torn.2))
    (after (all_written ws x) (all x x_is) s c new))
    ((goes first s c order).0 at)

-- what is shown in the end, once all of them are done
pub shows_all : (ws : List Write) (was shows : Option (List ℕ)) → is_some shows ≡ is_some was →
    WhereBothTold was shows (λ x y. y ≡ all_written ws x) → (x : List ℕ) → was ≡ Some x → shows ≡ Some (all_written ws x)
shows_all ws was shows told all x x_is =
    let y = told_again was shows x told x_is in subst (λ r. shows ≡ Some r) (all x y.0 x_is y.1) y.1
