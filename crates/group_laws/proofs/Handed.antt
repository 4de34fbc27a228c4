-- What a replacement hands on.
use Rattle.std.proofs.Common.{◌≡◌, ◌≢◌, ℕ, ◌+◌, ◌≤◌, ◌<◌, ◌⊎◌, ◌↔◌, ◌==◌, List, [], ◌∷◌, ◌++◌, map, Some, inl, inr, ⊎_elim, refl, sym, ap, ◌∙◌, subst, arith}
use Rattle.std.proofs.lemmas.Bool.{eqb-true}
use Rattle.cry_base.proofs.Finding.{find-found}
use Rattle.cry_base.proofs.Members.{In-append, In-map}
use Rattle.cry_base.proofs.Versions.{file_of_folder, file_of_number}
use Rattle.cry_base.specs.Clearances.{clear_base, file_of}
use Rattle.cry_base.specs.Refusing.{granted_id}
use Rattle.cry_base.specs.Requests.Request.{AddHolder}
use Rattle.cry_base.specs.Sets.{In}
use Rattle.cry_base.specs.Store.{Store, FileEntry, FolderEntry, GrantEntry, HolderEntry, file_node, folder_node, holder_entry, nodes_of}
use Rattle.cry_base.specs.declared.limits.Limits.{Limits}
use Rattle.cry_base.specs.declared.roles.Node.{Node}
use Rattle.group_book.specs.Replacing.{ascending, granted_node, granted_paths, node_by, replacement, stands_for, stands_for_entry}
use Rattle.group_book.proofs.Sorted.{ascending_in}
use Rattle.group_laws.specs.Handing.{IsHandedOn, NoneIsRefused}
use Rattle.group_laws.proofs.Accepted.{back_accepted, behind, first_accepted, front_accepted, goes_behind, going_append, rest_accepted}
use Rattle.group_laws.proofs.Granting.{AreFound, AreGranted, AreTaken, HasOneHolderMore, granted_all, granting, holder_more, revoking, taken_all, tree_on}
use Rattle.group_laws.proofs.Viewing.{HasNone, HaveSameGrants, granted_numbers, holder_view, no_numbers, owner_view, shown_nothing}
use Rattle.journal_bytes.specs.Owning.{IsTreeOf}
use Rattle.journal_bytes.specs.Script.{Going, script_going, script_replies}
use Rattle.log_visits.specs.View.{view}
use Rattle.public_fold.specs.Journal.{Journal, store_of}
use Rattle.public_fold.specs.Rooted.{IsRooted}
use Rattle.public_fold.specs.Valid.{IsValid}
use Rattle.public_fold.proofs.KeyMoves.{journal_sound}
use Rattle.public_fold.proofs.OwnPaths.{path_finds}
use Rattle.role_graph.specs.Rights.{IsGranted, Who, granted_to}
use Rattle.role_graph.specs.Rights.Who.{TheHolder, TheOwner}
use Rattle.role_graph.specs.RightsByReach.{HasClearNumber, HasFolder, MayBeGranted}

-- ---- what a valid journal tells

pub rooted : (m : Journal) → IsValid m → IsRooted (store_of m)
rooted m valid = (journal_sound m valid).rooted

pub folder_in : (s : Store) (e : FolderEntry) → In e s.folders → In (folder_node e.id) (nodes_of s)
unfolding nodes_of
folder_in s e i = (In-append Node (folder_node e.id) (map (λ (x : FolderEntry). folder_node x.id) s.folders) (map (λ (x : FileEntry). file_node x.id) s.files)).1
    (inl ((In-map FolderEntry Node (λ (x : FolderEntry). folder_node x.id) (folder_node e.id) s.folders).1 (e, i, refl)))

file_in : (s : Store) (e : FileEntry) → In e s.files → In (file_node e.id) (nodes_of s)
unfolding nodes_of
file_in s e i = (In-append Node (file_node e.id) (map (λ (x : FolderEntry). folder_node x.id) s.folders) (map (λ (x : FileEntry). file_node x.id) s.files)).1
    (inr ((In-map FileEntry Node (λ (x : FileEntry). file_node x.id) (file_node e.id) s.files).1 (e, i, refl)))

-- what has the number stands, and the number is its own
pub record IsNode (s : Store) (k : ℕ) : Type 0 where
  pub stands : In (granted_node k) (nodes_of s)
  pub number : granted_id (Some (granted_node k)) ≡ k

pub node_of : (s : Store) → IsRooted s → (k : ℕ) → MayBeGranted s k → IsNode s k
unfolding granted_node node_by granted_id folder_node file_node
node_of s ok k may = ⊎_elim
    (λ (w : HasFolder s k).
    let low : k < clear_base = (let top : w.0.id ≤ s.folders_made = ok.counted.each_folder w.0 w.1 in let below = ok.folders_below in let is = w.2 in omega (arith, top, below, is)) in
    let is : granted_node k ≡ folder_node k = ap (node_by k) (file_of_folder k low) in
    record {
      stands = subst (λ node. In node (nodes_of s)) (ap folder_node w.2 ∙ sym is) (folder_in s w.0 w.1);
      number = ap (λ node. granted_id (Some node)) is;
    })
    (λ (w : HasClearNumber s k).
    let is : granted_node k ≡ file_node w.0.id = ap (node_by k) (ap file_of (sym w.2) ∙ file_of_number w.0.id) in
    record {
      stands = subst (λ node. In node (nodes_of s)) (sym is) (file_in s w.0 w.1);
      number = ap (λ node. granted_id (Some node)) is ∙ w.2;
    })
    may

pub number_told : (s : Store) (n k : ℕ) → In k (ascending (granted_to s n)) ↔ IsGranted s n k
number_told s n k = (
  λ i. (granted_numbers s n k).0 ((ascending_in k (granted_to s n)).0 i),
  λ i. (ascending_in k (granted_to s n)).1 ((granted_numbers s n k).1 i),
)

pub node_told : (m : Journal) → IsValid m → (n k : ℕ) → In k (ascending (granted_to (store_of m) n)) → IsNode (store_of m) k
node_told m valid n k i =
    let ok = rooted m valid in
    node_of (store_of m) ok k (ok.granted_stands (record { holder = n; folder = k }) ((number_told (store_of m) n k).0 i))

pub are_found : (m : Journal) → IsValid m → (n : ℕ) → AreFound (store_of m) (ascending (granted_to (store_of m) n))
are_found m valid n k i =
    let node = node_told m valid n k i in
    record { finds = path_finds m valid (granted_node k) node.stands; number = node.number }

-- the old holder was made, and the new one wasn't
pub made_before : (m : Journal) → IsValid m → (n : ℕ) → (e : HolderEntry) × (holder_entry (store_of m) n ≡ Some e) → n ≤ (store_of m).holders_made
unfolding holder_entry
made_before m valid n some =
    let found = find-found HolderEntry (λ (e : HolderEntry). e.number == n) (store_of m).holders some.0 some.1 in
    let low : some.0.number ≤ (store_of m).holders_made = (rooted m valid).counted.each_holder some.0 found.0 in
    let is : some.0.number ≡ n = eqb-true some.0.number n found.1 in
    omega (arith, low, is)

pub new_has_none : (m : Journal) → IsValid m → HasNone (store_of m) ((store_of m).holders_made + 1)
new_has_none m valid f i =
    let ok = rooted m valid in
    let w = ok.held (record { holder = (store_of m).holders_made + 1; folder = f }) i in
    let low : w.0.number ≤ (store_of m).holders_made = ok.counted.each_holder w.0 w.1 in
    let is : w.0.number ≡ (store_of m).holders_made + 1 = w.2 in
    omega (arith, low, is)

pub stands_told : (s : Store) (n : ℕ) → (e : HolderEntry) × (holder_entry s n ≡ Some e) →
    stands_for s n ≡ AddHolder ∷ (granting s (s.holders_made + 1) (ascending (granted_to s n)) ++ revoking s n (ascending (granted_to s n)))
unfolding stands_for stands_for_entry replacement granted_paths
stands_told s n some = ap (stands_for_entry s n) some.1

-- ---- the grants behind all commands

pub record AreHanded (before after : Store) (old new : ℕ) : Type 0 where
  pub tree : IsTreeOf after before
  pub key : List ℕ
  pub holders : after.holders ≡ before.holders ++ (let e : HolderEntry = record { number = before.holders_made + 1; key = key } in e) ∷ []
  pub made : after.holders_made ≡ before.holders_made + 1
  pub grants : (e : GrantEntry) → In e after.grants ↔ ((In e before.grants ⊎ ((e.holder ≡ new) × IsGranted before old e.folder)) × ((e.holder ≡ old) × IsGranted before old e.folder → ⊥))

grants_behind : (s s1 s2 s3 : Store) (old new : ℕ) → HasOneHolderMore s s1 → AreGranted s1 s2 new (ascending (granted_to s old)) → AreTaken s2 s3 old (ascending (granted_to s old)) → AreHanded s s3 old new
grants_behind s s1 s2 s3 old new more given taken = record {
  tree = tree_on s s2 s3 (tree_on s s1 s2 more.tree given.same) taken.same;
  key = more.key;
  holders = taken.same.holders ∙ given.same.holders ∙ more.holders;
  made = taken.same.made ∙ given.same.made ∙ more.made;
  grants = λ e. (
    λ i. let w = (taken.grants e).0 i in (
      ⊎_elim (λ j. inl (subst (In e) more.grants j)) (λ (u : (e.holder ≡ new) × In e.folder (ascending (granted_to s old))). inr (u.0, (number_told s old e.folder).0 u.1)) ((given.grants e).0 w.0),
      λ q. w.1 (q.0, (number_told s old e.folder).1 q.1),
    ),
    λ w. (taken.grants e).1 (
      (given.grants e).1 (⊎_elim (λ j. inl (subst (In e) (sym more.grants) j)) (λ (u : (e.holder ≡ new) × IsGranted s old e.folder). inr (u.0, (number_told s old e.folder).1 u.1)) w.0),
      λ q. w.1 (q.0, (number_told s old e.folder).0 q.1),
    ),
  );
}

pub handed : (limits : Limits) (g : Going) (n : ℕ) → IsValid g.journal → (e : HolderEntry) × (holder_entry (store_of g.journal) n ≡ Some e) → NoneIsRefused (script_replies limits g (stands_for (store_of g.journal) n)) →
    AreHanded (store_of g.journal) (store_of (script_going limits g (stands_for (store_of g.journal) n)).journal) n ((store_of g.journal).holders_made + 1)
handed limits g n valid some none =
    let s = store_of g.journal in
    let new = s.holders_made + 1 in
    let ks = ascending (granted_to s n) in
    let giving = granting s new ks in
    let taking = revoking s n ks in
    let all = stands_told s n some in
    let accepted = subst (λ l. NoneIsRefused (script_replies limits g l)) all none in
    let h1 = behind g AddHolder in
    let rest = rest_accepted limits g AddHolder (giving ++ taking) accepted in
    let h2 = script_going limits h1 giving in
    let more = holder_more g in
    let found = are_found g.journal valid n in
    let given = granted_all limits s new ks found h1 more.tree (front_accepted limits h1 giving taking rest) in
    let taken = taken_all limits s n ks found h2 (tree_on s (store_of h1.journal) (store_of h2.journal) more.tree given.same) (back_accepted limits h1 giving taking rest) in
    subst (λ (h : Going). AreHanded s (store_of h.journal) n new)
    (sym (ap (script_going limits g) all ∙ goes_behind limits g AddHolder (giving ++ taking) (first_accepted limits g AddHolder (giving ++ taking) accepted) ∙ going_append limits h1 giving taking))
    (grants_behind s (store_of h1.journal) (store_of h2.journal) (store_of (script_going limits h2 taking).journal) n new more given taken)

-- ---- who is shown what

hands : (before after : Store) (old new : ℕ) → AreHanded before after old new → old ≢ new → HasNone before new → HasNone after old × HaveSameGrants before old after new
hands before after old new are differ none = (
  λ f i. let w = (are.grants (record { holder = old; folder = f })).0 i in
      ⊎_elim (λ j. w.1 (refl, j)) (λ (u : (old ≡ new) × IsGranted before old f). differ u.0) w.0,
  λ f. (
    λ i. ⊎_elim (λ j. absurd (none f j)) (λ (u : (new ≡ new) × IsGranted before old f). u.1) ((are.grants (record { holder = new; folder = f })).0 i).0,
    λ i. (are.grants (record { holder = new; folder = f })).1 (inr (refl, i), λ q. differ (sym q.0)),
  ),
)

others : (before after : Store) (old new other : ℕ) → AreHanded before after old new → other ≢ old → other ≢ new → HaveSameGrants before other after other
others before after old new other are not_old not_new f = (
  λ i. ⊎_elim (λ j. j) (λ (u : (other ≡ new) × IsGranted before old f). absurd (not_new u.0)) ((are.grants (record { holder = other; folder = f })).0 i).0,
  λ i. (are.grants (record { holder = other; folder = f })).1 (inl i, λ q. not_old q.0),
)

views : (before after : Store) (old : ℕ) → AreHanded before after old (before.holders_made + 1) → old ≢ before.holders_made + 1 → HasNone before (before.holders_made + 1) → IsHandedOn before after old
views before after old are differ none =
    let both = hands before after old (before.holders_made + 1) are differ none in
    record {
      tree = are.tree;
      key = are.key;
      holders = are.holders;
      holders_made = are.made;
      old_has_none = no_numbers after old both.0;
      new_has_the_same = both.1;
      others_have_theirs = λ h not_old not_new. others before after old (before.holders_made + 1) h are not_old not_new;
      old_is_shown_nothing = shown_nothing after old both.0;
      new_is_shown_the_same = holder_view before after old (before.holders_made + 1) are.tree.folders are.tree.files both.1;
      others_are_shown_the_same = by_who;
    }
  where
    by_who : (who : Who) → who ≢ TheHolder old → who ≢ TheHolder (before.holders_made + 1) → view after who ≡ view before who
    by_who TheOwner not_old not_new = owner_view before after are.tree.folders are.tree.files
    by_who (TheHolder k) not_old not_new = holder_view before after k k are.tree.folders are.tree.files
        (others before after old (before.holders_made + 1) k are (λ e. not_old (ap TheHolder e)) (λ e. not_new (ap TheHolder e)))

pub hands_on : (limits : Limits) (g : Going) (n : ℕ) → IsValid g.journal → (e : HolderEntry) × (holder_entry (store_of g.journal) n ≡ Some e) → NoneIsRefused (script_replies limits g (stands_for (store_of g.journal) n)) →
    IsHandedOn (store_of g.journal) (store_of (script_going limits g (stands_for (store_of g.journal) n)).journal) n
hands_on limits g n valid some none =
    let low = made_before g.journal valid n some in
    views (store_of g.journal) (store_of (script_going limits g (stands_for (store_of g.journal) n)).journal) n (handed limits g n valid some none)
    (λ e. omega (arith, low, e)) (new_has_none g.journal valid)
