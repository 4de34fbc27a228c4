-- What disks hold and calls kept: how calls one after another add up.
use Rattle.std.proofs.Common.{◌≡◌, ◌≤◌, ⊎_elim, inl, inr, ℕ, List, [], ◌++◌, Option, Some, append_assoc, sym, ap, ◌∙◌}
use Rattle.std.proofs.lemmas.List.{append-nil}
use Rattle.commit_journal.specs.Holding.{IsPrefix, IsBetween, HoldsBetween, IsSettled, IsKept, Kept, GoesOn}

pub prefix_same : {X : Type 0} (xs : List X) → IsPrefix xs xs
prefix_same xs = ([], append-nil xs)

pub prefix_trans : {X : Type 0} (xs ys zs : List X) → IsPrefix xs ys → IsPrefix ys zs → IsPrefix xs zs
prefix_trans xs ys zs p q = (p.0 ++ q.0, sym (append_assoc xs p.0 q.0) ∙ ap (λ l. l ++ q.0) p.1 ∙ q.1)

pub settled_holds : {X : Type 0} (stands whole : List X → List ℕ → Type 0) (held : List X) (shown : Option (List ℕ)) (may_leave : List ℕ → Type 0) →
    ((m : List X) (b : List ℕ) → whole m b → stands m b) → IsSettled whole held shown may_leave → HoldsBetween stands held held shown may_leave
settled_holds stands whole held shown may_leave weaker settled =
    let at = λ (c : List ℕ) (w : whole held c). (let is : IsBetween stands held held c = record { held = held; from = prefix_same held; to = prefix_same held; stands_for = weaker held c w } in is) in
    record {
      shows = (settled.shows.0, settled.shows.1, at settled.shows.0 settled.shows.2);
      leaves = λ c left. at c (settled.leaves c left);
    }

pub between_wider : {X : Type 0} (stands : List X → List ℕ → Type 0) (low high lower higher : List X) (shown : Option (List ℕ)) (may_leave : List ℕ → Type 0) →
    IsPrefix lower low → IsPrefix high higher → HoldsBetween stands low high shown may_leave → HoldsBetween stands lower higher shown may_leave
between_wider stands low high lower higher shown may_leave down up holds =
    let wider = λ (c : List ℕ) (b : IsBetween stands low high c).
    (let is : IsBetween stands lower higher c =
    record { held = b.held; from = prefix_trans lower low b.held down b.from; to = prefix_trans b.held high higher b.to up; stands_for = b.stands_for } in is)
    in
    record {
      shows = (holds.shows.0, holds.shows.1, wider holds.shows.0 holds.shows.2);
      leaves = λ c left. wider c (holds.leaves c left);
    }

pub kept_starts : {X : Type 0} (stands : List X → List ℕ → Type 0) (low high reached : List X) (shown : Option (List ℕ)) (may_leave : List ℕ → Type 0)
    (since : List ℕ → List ℕ → Type 0) → HoldsBetween stands low high shown may_leave →
    ((s c : List ℕ) → since s c → (shown ≡ Some s) × may_leave c) → Kept stands low high reached since
kept_starts stands low high reached shown may_leave since holds only s c at =
    let b = holds.leaves c (only s c at).1 in
    record { held = b.held; from = b.from; to = inl b.to; stands_for = b.stands_for }

pub kept_then : {X : Type 0} (stands : List X → List ℕ → Type 0) (low high reached a b further : List X) (start first : ℕ)
    (past since : ℕ → List ℕ → List ℕ → Type 0) → first ≤ start → GoesOn start past since →
    IsPrefix low a → IsPrefix b further → IsPrefix reached further →
    Kept stands low high reached (past first) → Kept stands a b further (since start) → Kept stands low high further (since first)
kept_then stands low high reached a b further start first past since before goes lower second more kept next s c at =
    ⊎_elim
    (λ old. let k = kept s c old in
    (let is : IsKept stands low high further c = record {
      held = k.held;
      from = k.from;
      to = ⊎_elim (λ p. inl p) (λ p. inr (prefix_trans k.held reached further p more)) k.to;
      stands_for = k.stands_for;
    } in is))
    (λ new. let k = next s c new in
    (let is : IsKept stands low high further c = record {
      held = k.held;
      from = prefix_trans low a k.held lower k.from;
      to = ⊎_elim (λ p. inr (prefix_trans k.held b further p second)) (λ p. inr p) k.to;
      stands_for = k.stands_for;
    } in is))
    ((goes first s c before).0 at)
