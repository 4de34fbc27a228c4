-- What bytes publish of a valid journal is a valid journal, or the first session alone.
use Rattle.std.proofs.Common.{◌≡◌, ◌⊎◌, inl, inr, ℕ, ◌≤◌, true, false, cond, List, [], ◌∷◌, ◌++◌, length, All, arith, refl, sym, ap, subst}
use Rattle.std.proofs.lemmas.List.Elements.{All-cons, All-head, All-nil, All-tail}
use Rattle.commit_journal.specs.Publishing.{is_last_published, last_slot, published_of, without_last}
use Rattle.public_fold.specs.Journal.{Entry, Journal}
use Rattle.public_fold.specs.Journal.Entry.{Session, Made, Did, Upgraded}
use Rattle.public_fold.specs.Valid.{IsValid}
use Rattle.public_fold.proofs.Prefixes.{prefix_valid}
use Rattle.journal_bytes.specs.Bytes.{batches_of}
use Rattle.journal_bytes.specs.Journals.{published_journal}
use Rattle.journal_bytes.specs.Keys.{AreWhole, drawn_by}

-- a journal that bytes may publish
abbrev pub MayPublish : List ℕ → Journal → Type 0
MayPublish owner p = (IsValid p × AreWhole owner p) ⊎ (p ≡ Session ∷ [])

split_last : (X : Type 0) (x : X) (xs : List X) → (l : X) × (without_last (x ∷ xs) ++ l ∷ [] ≡ x ∷ xs)
unfolding without_last
split_last X x [] = (x, refl)
split_last X x (y ∷ ys) = let rest = split_last X y ys in (rest.0, ap (λ l. x ∷ l) rest.1)

all_without : (X : Type 0) (P : X → Type 0) (xs : List X) → All P xs → All P (without_last xs)
unfolding without_last
all_without X P [] all = all
all_without X P (x ∷ []) all = All-nil P
all_without X P (x ∷ y ∷ ys) all = All-cons P x (without_last (y ∷ ys)) (All-head P x (y ∷ ys) all) (all_without X P (y ∷ ys) (All-tail P x (y ∷ ys) all))

two_left : (a b c : Entry) (entries : List Entry) → 2 ≤ length (without_last (a ∷ b ∷ c ∷ entries))
unfolding without_last
two_left a b c entries = omega arith

cut : (owner : List ℕ) (m : Journal) → IsValid m → AreWhole owner m → MayPublish owner (without_last m)
unfolding without_last
cut owner [] valid whole = absurd valid.0
cut owner (Session ∷ []) valid whole = absurd valid.0
cut owner (Session ∷ Session ∷ es) valid whole = absurd valid.0
cut owner (Session ∷ Made version drawn ∷ []) valid whole = inr refl
cut owner (Session ∷ Made version drawn ∷ e ∷ es) valid whole =
    let m : Journal = Session ∷ Made version drawn ∷ e ∷ es in
    let split = split_last Entry Session (Made version drawn ∷ e ∷ es) in
    inl (
      prefix_valid (without_last m) (split.0 ∷ []) (two_left Session (Made version drawn) e es) (subst IsValid (sym split.1) valid),
      record { owner_size = whole.owner_size; drawn_sizes = all_without Entry (λ entry. All (λ (key : List ℕ). length key ≡ 32) (drawn_by entry)) m whole.drawn_sizes },
    )
cut owner (Session ∷ Did r drawn ∷ es) valid whole = absurd valid.0
cut owner (Session ∷ Upgraded drawn ∷ es) valid whole = absurd valid.0
cut owner (Made version drawn ∷ es) valid whole = absurd valid.0
cut owner (Did r drawn ∷ es) valid whole = absurd valid.0
cut owner (Upgraded drawn ∷ es) valid whole = absurd valid.0

pub may_publish : (owner bytes : List ℕ) (m : Journal) → IsValid m → AreWhole owner m → MayPublish owner (published_journal owner bytes m)
unfolding published_journal published_of
may_publish owner bytes m valid whole =
    elim (is_last_published owner (last_slot bytes) (batches_of owner m)) as (λ b. MayPublish owner (cond b m (without_last m))) [
      | true ↦ inl (valid, whole)
      | false ↦ cut owner m valid whole
    ]
