-- What is computed of what a holder derives unseen is what is said of it.
use Rattle.std.proofs.Common.{◌≡◌, ℕ, not, ◌==◌, ◌↔◌, List, [], ◌∷◌, ◌++◌, filter, inl, inr, ◌⊎◌, ⊎_elim, refl, sym, ap, ◌∙◌, subst}
use Rattle.std.proofs.lemmas.Bool.{and_parts, and_from, false≢true, not-true, not_from_false, false_from_ne_true}
use Rattle.cry_base.specs.Sets.{In, has}
use Rattle.cry_base.proofs.Members.{In-append, In-filter, filter-In}
use Rattle.cry_base.proofs.Reaching.{has-in, in-has}
use Rattle.role_graph.specs.Rights.Who.{TheHolder}
use Rattle.role_graph.proofs.Granting.{nat_tells}
use Rattle.public_fold.specs.Journal.{Entry, Journal, Stand, nothing, entry_step, stand_then, stand_after}
use Rattle.public_fold.specs.Records.{Content}
use Rattle.closure_laws.specs.History.{own_serial}
use Rattle.closure_laws.specs.Secrecy.{IsShownNode, node_of_piece, shown_node, known_to}
use Rattle.secrecy_laws.specs.Revocation.{IsDerivedUnseen, is_unseen, unseen_from, derived_unseen}
use Rattle.secrecy_laws.proofs.Computed.{node_told, known_told, never_empty}

-- what one entry writes, and what some write
abbrev IsUnseenHere : List ℕ → ℕ → Stand → Entry → Content → Type 0
IsUnseenHere known h at entry c = In c (entry_step at entry).contents × (IsShownNode (stand_then at entry).store h (node_of_piece c.piece) → ⊥) × In c.key_serial known

abbrev IsUnseenFrom : List ℕ → ℕ → Stand → List Entry → Content → Type 0
IsUnseenFrom known h at entries c = (before : List Entry) × ((entry : Entry) × ((later : List Entry) × (entries ≡ before ++ entry ∷ later)
    × In c (entry_step (stand_after at before) entry).contents
    × (IsShownNode (stand_after at (before ++ entry ∷ [])).store h (node_of_piece c.piece) → ⊥) × In c.key_serial known))

here_told : (known : List ℕ) (h : ℕ) (at : Stand) (entry : Entry) (c : Content)
    → In c (filter (is_unseen known (stand_then at entry).store h) (entry_step at entry).contents) ↔ IsUnseenHere known h at entry c
unfolding is_unseen
here_told known h at entry c =
    let s = (stand_then at entry).store in
    let cs = (entry_step at entry).contents in
    let a = has ◌==◌ known c.key_serial in
    let b = shown_node s h (node_of_piece c.piece) in
    let node = node_told s h (node_of_piece c.piece) in (
      λ i. let w = In-filter Content (is_unseen known s h) c cs i in
          let both = and_parts a (not b) w.1 in
          (w.0, (λ sh. false≢true (sym (not-true b both.1) ∙ node.1 sh)), has-in ℕ ◌==◌ nat_tells known c.key_serial both.0),
      λ w. filter-In Content (is_unseen known s h) c cs w.0
          (and_from a (not b) (in-has ℕ ◌==◌ nat_tells known c.key_serial w.2) (not_from_false b (false_from_ne_true b (λ t. w.1 (node.0 t))))),
    )

from_parts : (known : List ℕ) (h : ℕ) (at : Stand) (x : Entry) (xs : List Entry) (c : Content)
    → IsUnseenFrom known h at (x ∷ xs) c → IsUnseenHere known h at x c ⊎ IsUnseenFrom known h (stand_then at x) xs c
from_parts known h at x xs c w = by_before w.0 w.1.0 w.1.1.0 w.1.1.1 w.1.1.2 w.1.1.3 w.1.1.4
  where
    by_before : (before : List Entry) (entry : Entry) (later : List Entry) → x ∷ xs ≡ before ++ entry ∷ later → In c (entry_step (stand_after at before) entry).contents
        → (IsShownNode (stand_after at (before ++ entry ∷ [])).store h (node_of_piece c.piece) → ⊥) → In c.key_serial known → IsUnseenHere known h at x c ⊎ IsUnseenFrom known h (stand_then at x) xs c
    by_before [] entry later e i n k = unfold stand_after in let p : x ≡ entry = cc in inl (subst (λ z. IsUnseenHere known h at z c) (sym p) (i, n, k))
    by_before (b ∷ bs) entry later e i n k =
        unfold stand_after in let p : x ≡ b = cc in let q : xs ≡ bs ++ entry ∷ later = cc in
        inr (subst (λ z. IsUnseenFrom known h (stand_then at z) xs c) (sym p) (bs, (entry, (later, q, i, n, k))))

to_parts : (known : List ℕ) (h : ℕ) (at : Stand) (x : Entry) (xs : List Entry) (c : Content)
    → IsUnseenHere known h at x c ⊎ IsUnseenFrom known h (stand_then at x) xs c → IsUnseenFrom known h at (x ∷ xs) c
unfolding stand_after
to_parts known h at x xs c w = ⊎_elim
    (λ u. ([], (x, (xs, refl, u.0, u.1, u.2))))
    (λ v. (x ∷ v.0, (v.1.0, (v.1.1.0, ap (λ l. x ∷ l) v.1.1.1, v.1.1.2, v.1.1.3, v.1.1.4)))) w

from_told : (known : List ℕ) (h : ℕ) (entries : List Entry) (at : Stand) (c : Content) → In c (unseen_from known h at entries) ↔ IsUnseenFrom known h at entries c
unfolding unseen_from
from_told known h [] at c = (λ i. absurd i, λ w. never_empty w.0 w.1.0 w.1.1.0 w.1.1.1)
from_told known h (x ∷ xs) at c =
    let both = In-append Content c (filter (is_unseen known (stand_then at x).store h) (entry_step at x).contents) (unseen_from known h (stand_then at x) xs) in
    let here = here_told known h at x c in
    let rest = from_told known h xs (stand_then at x) c in (
      λ i. to_parts known h at x xs c (⊎_elim (λ a. inl (here.0 a)) (λ b. inr (rest.0 b)) (both.0 i)),
      λ w. both.1 (⊎_elim (λ a. inl (here.1 a)) (λ b. inr (rest.1 b)) (from_parts known h at x xs c w)),
    )

pub unseen_told : (m : Journal) (h : ℕ) (c : Content) → In c (derived_unseen m h) ↔ IsDerivedUnseen m h c
unfolding derived_unseen
unseen_told m h c =
    let own = own_serial m (TheHolder h) in
    let told = from_told (known_to m own) h m nothing c in
    let known = known_told m c.key_serial own in (
      λ i. let w = told.0 i in (w.0, (w.1.0, (w.1.1.0, w.1.1.1, w.1.1.2, w.1.1.3, known.0 w.1.1.4))),
      λ w. told.1 (w.0, (w.1.0, (w.1.1.0, w.1.1.1, w.1.1.2, w.1.1.3, known.1 w.1.1.4))),
    )
