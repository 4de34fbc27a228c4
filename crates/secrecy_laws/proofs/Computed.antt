-- What is computed of a journal's secrets is what is said of them.
use Rattle.std.proofs.Common.{◌≡◌, ℕ, Bool, true, not, ◌||◌, ◌==◌, ◌↔◌, List, [], ◌∷◌, ◌++◌, Option, Some, None, IsTrue, inl, inr, ⊎_elim, refl, sym, ap, ◌∙◌, subst}
use Rattle.std.specs.List.{list_all}
use Rattle.std.proofs.lemmas.Bool.{or_cases, or_left, or_right, and_parts, and_from, false≢true, not-true, not_from_false, cases_Bool}
use Rattle.cry_base.specs.Sets.{In, has}
use Rattle.cry_base.specs.Store.{Store}
use Rattle.cry_base.specs.declared.roles.Node.{Node}
use Rattle.cry_base.proofs.Reaching.{has-in, in-has}
use Rattle.role_graph.specs.Rights.Who.{TheHolder}
use Rattle.role_graph.proofs.Granting.{nat_tells, shown_told}
use Rattle.public_fold.specs.Journal.{Entry, Journal, Stand, nothing, entry_step, stand_then, stand_after}
use Rattle.public_fold.specs.Records.{Content}
use Rattle.closure_laws.specs.Gains.{gains}
use Rattle.closure_laws.specs.History.{Derives, history, own_serial}
use Rattle.closure_laws.specs.Secrecy.{IsShownNode, GainsLater, KeepsSecret, node_of_piece, shown_node, gains_later, kept_content, keeps_from, known_to, keeps_secret}
use Rattle.closure_laws.proofs.Gaining.{derived_told, gains_told}

all_told : {X : Type 0} (test : X → Bool) (xs : List X) → IsTrue (list_all test xs) ↔ ((x : X) → In x xs → IsTrue (test x))
all_told test [] = (λ t x i. absurd i, λ w. refl)
all_told test (y ∷ ys) =
    let rest = all_told test ys in (
      λ t x i. let both = and_parts (test y) (list_all test ys) t in ⊎_elim (λ e. subst (λ z. test z ≡ true) (sym e) both.0) (λ j. rest.0 both.1 x j) i,
      λ w. and_from (test y) (list_all test ys) (w y (inl refl)) (rest.1 (λ x i. w x (inr i))),
    )

pub node_told : (s : Store) (h : ℕ) (o : Option Node) → IsTrue (shown_node s h o) ↔ IsShownNode s h o
unfolding shown_node
node_told s h None = (λ t. false≢true t, λ n. absurd n)
node_told s h (Some node) = shown_told s (TheHolder h) node

later_told : (entries : List Entry) (at : Stand) (h : ℕ) → IsTrue (gains_later at entries h) ↔ GainsLater at entries h
unfolding gains_later
later_told [] at h = (λ t. false≢true t, λ n. absurd n)
later_told (entry ∷ entries) at h =
    let one = gains_told at entry h in
    let rest = later_told entries (stand_then at entry) h in
    let a = gains at entry h in
    let b = gains_later (stand_then at entry) entries h in (
      λ t. ⊎_elim (λ u. inl (one.0 u)) (λ u. inr (rest.0 u)) (or_cases a b t),
      λ g. ⊎_elim (λ u. or_left a b (one.1 u)) (λ u. or_right a b (rest.1 u)) g,
    )

content_told : (known : List ℕ) (s : Store) (h : ℕ) (gain : Bool) (G : Type 0) → IsTrue gain ↔ G → (c : Content)
    → IsTrue (kept_content known s h gain c) ↔ ((IsShownNode s h (node_of_piece c.piece) → ⊥) → (G → ⊥) → In c.key_serial known → ⊥)
unfolding kept_content
content_told known s h gain G told c =
    let a = shown_node s h (node_of_piece c.piece) in
    let b = has ◌==◌ known c.key_serial in
    let node = node_told s h (node_of_piece c.piece) in (
      λ t hidden none i. ⊎_elim
          (λ u. ⊎_elim (λ v. hidden (node.0 v)) (λ v. none (told.0 v)) (or_cases a gain u))
          (λ u. false≢true (sym (not-true b u) ∙ in-has ℕ ◌==◌ nat_tells known c.key_serial i))
          (or_cases (a || gain) (not b) t),
      λ w. ⊎_elim
          (λ u. or_left (a || gain) (not b) (or_left a gain u))
          (λ u. ⊎_elim
          (λ v. or_left (a || gain) (not b) (or_right a gain v))
          (λ v. ⊎_elim
          (λ x. absurd (w (λ z. false≢true (sym u ∙ node.1 z)) (λ z. false≢true (sym v ∙ told.1 z)) (has-in ℕ ◌==◌ nat_tells known c.key_serial x)))
          (λ x. or_right (a || gain) (not b) (not_from_false b x))
          (cases_Bool b))
          (cases_Bool gain))
          (cases_Bool a),
    )

-- what an entry writes, with what comes later; and all that entries write
abbrev KeepsHere : List ℕ → ℕ → Stand → Entry → List Entry → Type 0
KeepsHere known h at entry later = (c : Content) → In c (entry_step at entry).contents → (IsShownNode (stand_then at entry).store h (node_of_piece c.piece) → ⊥)
    → (GainsLater (stand_then at entry) later h → ⊥) → In c.key_serial known → ⊥

abbrev KeepsFrom : List ℕ → ℕ → Stand → List Entry → Type 0
KeepsFrom known h at entries = (before : List Entry) (entry : Entry) (later : List Entry) (c : Content) →
    entries ≡ before ++ entry ∷ later → In c (entry_step (stand_after at before) entry).contents
    → (IsShownNode (stand_after at (before ++ entry ∷ [])).store h (node_of_piece c.piece) → ⊥)
    → (GainsLater (stand_after at (before ++ entry ∷ [])) later h → ⊥) → In c.key_serial known → ⊥

pub never_empty : (before : List Entry) (entry : Entry) (later : List Entry) → [] ≡ before ++ entry ∷ later → ⊥
never_empty [] entry later e = absurd cc
never_empty (b ∷ bs) entry later e = absurd cc

here_told : (known : List ℕ) (h : ℕ) (at : Stand) (entry : Entry) (later : List Entry)
    → IsTrue (list_all (kept_content known (stand_then at entry).store h (gains_later (stand_then at entry) later h)) (entry_step at entry).contents) ↔ KeepsHere known h at entry later
here_told known h at entry later =
    let next = stand_then at entry in
    let gain = gains_later next later h in
    let each = λ (c : Content). content_told known next.store h gain (GainsLater next later h) (later_told later next h) c in
    let all = all_told (kept_content known next.store h gain) (entry_step at entry).contents in (
      λ t c i. (each c).0 (all.0 t c i),
      λ w. all.1 (λ c i. (each c).1 (w c i)),
    )

from_parts : (known : List ℕ) (h : ℕ) (at : Stand) (x : Entry) (xs : List Entry) → KeepsHere known h at x xs → KeepsFrom known h (stand_then at x) xs → KeepsFrom known h at (x ∷ xs)
unfolding stand_after
from_parts known h at x xs here rest [] entry later c e =
    let p : x ≡ entry = cc in let q : xs ≡ later = cc in
    subst (λ z. KeepsHere known h at z later) p (subst (λ zs. KeepsHere known h at x zs) q here) c
from_parts known h at x xs here rest (b ∷ bs) entry later c e =
    let p : x ≡ b = cc in let q : xs ≡ bs ++ entry ∷ later = cc in
    subst (λ z. KeepsFrom known h (stand_then at z) xs) p rest bs entry later c q

to_parts : (known : List ℕ) (h : ℕ) (at : Stand) (x : Entry) (xs : List Entry) → KeepsFrom known h at (x ∷ xs) → KeepsHere known h at x xs × KeepsFrom known h (stand_then at x) xs
unfolding stand_after
to_parts known h at x xs w = (λ c. w [] x xs c refl, λ before entry later c e. w (x ∷ before) entry later c (ap (λ l. x ∷ l) e))

from_told : (known : List ℕ) (h : ℕ) (entries : List Entry) (at : Stand) → IsTrue (keeps_from known h at entries) ↔ KeepsFrom known h at entries
unfolding keeps_from
from_told known h [] at = (λ t before entry later c e. absurd (never_empty before entry later e), λ w. refl)
from_told known h (x ∷ xs) at =
    let here = here_told known h at x xs in
    let rest = from_told known h xs (stand_then at x) in
    let a = list_all (kept_content known (stand_then at x).store h (gains_later (stand_then at x) xs h)) (entry_step at x).contents in
    let b = keeps_from known h (stand_then at x) xs in (
      λ t. let both = and_parts a b t in from_parts known h at x xs (here.0 both.0) (rest.0 both.1),
      λ w. let both = to_parts known h at x xs w in and_from a b (here.1 both.0) (rest.1 both.1),
    )

pub known_told : (m : Journal) (k : ℕ) (o : Option ℕ) → In k (known_to m o) ↔ ((a : ℕ) × (o ≡ Some a) × Derives (history m) a k)
unfolding known_to
known_told m k None = (λ i. absurd i, λ w. let none : None ≡ Some w.0 = w.1 in absurd cc)
known_told m k (Some a) = (
  λ i. (a, refl, (derived_told (history m) a k).0 i),
  λ w. let some : Some a ≡ Some w.0 = w.1 in let same : w.0 ≡ a = cc in (derived_told (history m) a k).1 (subst (λ z. Derives (history m) z k) same w.2),
)

pub keeps_told : (m : Journal) (h : ℕ) → IsTrue (keeps_secret m h) ↔ KeepsSecret m h
unfolding keeps_secret
keeps_told m h =
    let own = own_serial m (TheHolder h) in
    let told = from_told (known_to m own) h m nothing in (
      λ t before entry later c e i hidden none d. told.0 t before entry later c e i hidden none ((known_told m c.key_serial own).1 d),
      λ w. told.1 (λ before entry later c e i hidden none k. w before entry later c e i hidden none ((known_told m c.key_serial own).0 k)),
    )
