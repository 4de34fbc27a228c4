-- The grants that the commands of a replacement leave.
use Rattle.std.proofs.Common.{◌≡◌, ℕ, ◌+◌, Bool, true, false, not, ◌&&◌, ◌==◌, ◌⊎◌, ◌↔◌, List, [], ◌∷◌, ◌++◌, map, Some, inl, inr, ⊎_elim, refl, sym, ap, ◌∙◌, subst}
use Rattle.std.proofs.lemmas.Bool.{and_from, and_parts, eq-eqb, eqb-true, false≢true, not-true}
use Rattle.cry_base.proofs.Members.{In-append, In-filter, filter-In}
use Rattle.cry_base.specs.Refusing.{granted_id}
use Rattle.cry_base.specs.Requests.{Request}
use Rattle.cry_base.specs.Requests.Request.{AddHolder, Grant, Revoke}
use Rattle.cry_base.specs.Sets.{In}
use Rattle.cry_base.specs.Stepping.{effect, with_new_holder, without_grant}
use Rattle.cry_base.specs.Store.{Store, GrantEntry, HolderEntry, node_at, path_of}
use Rattle.cry_base.specs.declared.limits.Limits.{Limits}
use Rattle.group_book.specs.Replacing.{granted_node}
use Rattle.group_laws.specs.Handing.{NoneIsRefused}
use Rattle.group_laws.proofs.Accepted.{behind, first_accepted, goes_behind, rest_accepted, store_behind}
use Rattle.journal_bytes.specs.Owning.{IsTreeOf}
use Rattle.journal_bytes.specs.Script.{Going, script_going, script_replies}
use Rattle.journal_bytes.proofs.Refused.{found_same}
use Rattle.public_fold.specs.Journal.{store_of}

-- what a number names stands, and its path finds it
pub record IsFound (s : Store) (k : ℕ) : Type 0 where
  pub finds : node_at s (path_of s (granted_node k)) ≡ Some (granted_node k)
  pub number : granted_id (Some (granted_node k)) ≡ k

abbrev pub AreFound : Store → List ℕ → Type 0
AreFound s ks = (k : ℕ) → In k ks → IsFound s k

abbrev pub granting : Store → ℕ → List ℕ → List Request
granting s new ks = map (Grant new) (map (λ k. path_of s (granted_node k)) ks)

abbrev pub revoking : Store → ℕ → List ℕ → List Request
revoking s old ks = map (Revoke old) (map (λ k. path_of s (granted_node k)) ks)

-- but for grants the one store is the other
pub record IsSameBesideGrants (s t : Store) : Type 0 where
  pub tree : IsTreeOf t s
  pub holders : t.holders ≡ s.holders
  pub made : t.holders_made ≡ s.holders_made

same_on : (a b c : Store) → IsSameBesideGrants a b → IsSameBesideGrants b c → IsSameBesideGrants a c
same_on a b c first second = record {
  tree = record {
    folders = second.tree.folders ∙ first.tree.folders;
    files = second.tree.files ∙ first.tree.files;
    folders_made = second.tree.folders_made ∙ first.tree.folders_made;
    files_made = second.tree.files_made ∙ first.tree.files_made;
  };
  holders = second.holders ∙ first.holders;
  made = second.made ∙ first.made;
}

pub tree_on : (s a b : Store) → IsTreeOf a s → IsSameBesideGrants a b → IsTreeOf b s
tree_on s a b tree same = record {
  folders = same.tree.folders ∙ tree.folders;
  files = same.tree.files ∙ tree.files;
  folders_made = same.tree.folders_made ∙ tree.folders_made;
  files_made = same.tree.files_made ∙ tree.files_made;
}

-- what a path of the first store finds in one of the same tree
pub found_number : (s t : Store) (k : ℕ) → IsTreeOf t s → IsFound s k → granted_id (node_at t (path_of s (granted_node k))) ≡ k
found_number s t k tree found = ap granted_id (found_same t s (path_of s (granted_node k)) tree ∙ found.finds) ∙ found.number

-- ---- grants

with_grant : (s : Store) (h f : ℕ) → Store
with_grant s h f = record s { grants = s.grants ++ (let g : GrantEntry = record { holder = h; folder = f } in g) ∷ [] }

granted_behind : (s : Store) (g : Going) (new k : ℕ) → IsTreeOf (store_of g.journal) s → IsFound s k →
    store_of (behind g (Grant new (path_of s (granted_node k)))).journal ≡ with_grant (store_of g.journal) new k
unfolding effect with_grant
granted_behind s g new k tree found =
    (store_behind g (Grant new (path_of s (granted_node k)))).1 ∙ ap (with_grant (store_of g.journal) new) (found_number s (store_of g.journal) k tree found)

grant_keeps : (s : Store) (h f : ℕ) (t : Store) → t ≡ with_grant s h f → IsSameBesideGrants s t
unfolding with_grant
grant_keeps s h f t is = record {
  tree = record { folders = ap (λ (x : Store). x.folders) is; files = ap (λ (x : Store). x.files) is; folders_made = ap (λ (x : Store). x.folders_made) is; files_made = ap (λ (x : Store). x.files_made) is };
  holders = ap (λ (x : Store). x.holders) is;
  made = ap (λ (x : Store). x.holders_made) is;
}

-- the grants of the one store, and the holder's on these numbers
pub record AreGranted (before after : Store) (new : ℕ) (ks : List ℕ) : Type 0 where
  pub same : IsSameBesideGrants before after
  pub grants : (e : GrantEntry) → In e after.grants ↔ (In e before.grants ⊎ ((e.holder ≡ new) × In e.folder ks))

none_more : (s : Store) (new : ℕ) → AreGranted s s new []
none_more s new = record {
  same = record { tree = record { folders = refl; files = refl; folders_made = refl; files_made = refl }; holders = refl; made = refl };
  grants = λ e. (λ i. inl i, λ u. ⊎_elim (λ i. i) (λ (w : (e.holder ≡ new) × ⊥). absurd w.1) u);
}

one_more : (s t u : Store) (new k : ℕ) (ks : List ℕ) → t ≡ with_grant s new k → AreGranted t u new ks → AreGranted s u new (k ∷ ks)
unfolding with_grant
one_more s t u new k ks is more = record {
  same = same_on s t u (grant_keeps s new k t is) more.same;
  grants = λ e. (
    λ i. ⊎_elim
        (λ j. ⊎_elim (λ old. inl old)
        (λ (one : (e ≡ (let g : GrantEntry = record { holder = new; folder = k } in g)) ⊎ ⊥). ⊎_elim (λ same. inr (ap (λ (x : GrantEntry). x.holder) same, inl (ap (λ (x : GrantEntry). x.folder) same))) (λ n. absurd n) one)
        ((In-append GrantEntry e s.grants _).0 (subst (In e) (ap (λ (x : Store). x.grants) is) j)))
        (λ (w : (e.holder ≡ new) × In e.folder ks). inr (w.0, inr w.1))
        ((more.grants e).0 i),
    λ u. (more.grants e).1 (⊎_elim
        (λ old. inl (subst (In e) (sym (ap (λ (x : Store). x.grants) is)) ((In-append GrantEntry e s.grants _).1 (inl old))))
        (λ (w : (e.holder ≡ new) × ((e.folder ≡ k) ⊎ In e.folder ks)). ⊎_elim
        (λ (here : e.folder ≡ k). inl (subst (In e) (sym (ap (λ (x : Store). x.grants) is)) ((In-append GrantEntry e s.grants _).1 (inr (inl (entry_is e w.0 here))))))
        (λ there. inr (w.0, there)) w.1) u),
  );
}
  where
    entry_is : (e : GrantEntry) → e.holder ≡ new → e.folder ≡ k → e ≡ (let g : GrantEntry = record { holder = new; folder = k } in g)
    entry_is e p q = λ i. record { holder = p i; folder = q i }

pub granted_all : (limits : Limits) (s : Store) (new : ℕ) (ks : List ℕ) → AreFound s ks → (g : Going) → IsTreeOf (store_of g.journal) s → NoneIsRefused (script_replies limits g (granting s new ks)) →
    AreGranted (store_of g.journal) (store_of (script_going limits g (granting s new ks)).journal) new ks
unfolding script_going
granted_all limits s new [] found g tree none = none_more (store_of g.journal) new
granted_all limits s new (k ∷ ks) found g tree none =
    let r = Grant new (path_of s (granted_node k)) in
    let is = first_accepted limits g r (granting s new ks) none in
    let one = granted_behind s g new k tree (found k (inl refl)) in
    let keeps = grant_keeps (store_of g.journal) new k (store_of (behind g r).journal) one in
    let more = granted_all limits s new ks (λ j i. found j (inr i)) (behind g r) (tree_on s (store_of g.journal) (store_of (behind g r).journal) tree keeps) (rest_accepted limits g r (granting s new ks) none) in
    subst (λ (h : Going). AreGranted (store_of g.journal) (store_of h.journal) new (k ∷ ks)) (sym (goes_behind limits g r (granting s new ks) is))
    (one_more (store_of g.journal) (store_of (behind g r).journal) _ new k ks one more)

-- ---- revocations

taken_behind : (s : Store) (g : Going) (old k : ℕ) → IsTreeOf (store_of g.journal) s → IsFound s k →
    store_of (behind g (Revoke old (path_of s (granted_node k)))).journal ≡ without_grant (store_of g.journal) old k
unfolding effect
taken_behind s g old k tree found =
    (store_behind g (Revoke old (path_of s (granted_node k)))).1 ∙ ap (without_grant (store_of g.journal) old) (found_number s (store_of g.journal) k tree found)

taking_keeps : (s : Store) (h f : ℕ) (t : Store) → t ≡ without_grant s h f → IsSameBesideGrants s t
unfolding without_grant
taking_keeps s h f t is = record {
  tree = record { folders = ap (λ (x : Store). x.folders) is; files = ap (λ (x : Store). x.files) is; folders_made = ap (λ (x : Store). x.folders_made) is; files_made = ap (λ (x : Store). x.files_made) is };
  holders = ap (λ (x : Store). x.holders) is;
  made = ap (λ (x : Store). x.holders_made) is;
}

-- the grants of the one store, but for the holder's on these numbers
pub record AreTaken (before after : Store) (old : ℕ) (ks : List ℕ) : Type 0 where
  pub same : IsSameBesideGrants before after
  pub grants : (e : GrantEntry) → In e after.grants ↔ (In e before.grants × ((e.holder ≡ old) × In e.folder ks → ⊥))

none_less : (s : Store) (old : ℕ) → AreTaken s s old []
none_less s old = record {
  same = record { tree = record { folders = refl; files = refl; folders_made = refl; files_made = refl }; holders = refl; made = refl };
  grants = λ e. (λ i. (i, λ w. w.1), λ w. w.0);
}

one_less : (s t u : Store) (old k : ℕ) (ks : List ℕ) → t ≡ without_grant s old k → AreTaken t u old ks → AreTaken s u old (k ∷ ks)
unfolding without_grant
one_less s t u old k ks is more = record {
  same = same_on s t u (taking_keeps s old k t is) more.same;
  grants = λ e. (
    λ i. let w = (more.grants e).0 i in
        let told = In-filter GrantEntry (λ (g : GrantEntry). not (g.holder == old && g.folder == k)) e s.grants (subst (In e) (ap (λ (x : Store). x.grants) is) w.0) in (
          told.0,
          λ (q : (e.holder ≡ old) × ((e.folder ≡ k) ⊎ In e.folder ks)). ⊎_elim
              (λ (here : e.folder ≡ k). false≢true (sym (not-true (e.holder == old && e.folder == k) told.1) ∙ and_from (e.holder == old) (e.folder == k) (eq-eqb e.holder old q.0) (eq-eqb e.folder k here)))
              (λ there. w.1 (q.0, there)) q.1,
        ),
    λ w. (more.grants e).1 (
      subst (In e) (sym (ap (λ (x : Store). x.grants) is)) (filter-In GrantEntry (λ (g : GrantEntry). not (g.holder == old && g.folder == k)) e s.grants w.0
          (other e (e.holder == old && e.folder == k) refl (λ p q. w.1 (p, inl q)))),
      λ q. w.1 (q.0, inr q.1),
    ),
  );
}
  where
    other : (e : GrantEntry) (b : Bool) → (e.holder == old && e.folder == k) ≡ b → (e.holder ≡ old → e.folder ≡ k → ⊥) → not (e.holder == old && e.folder == k) ≡ true
    other e true t never = absurd (let both = and_parts (e.holder == old) (e.folder == k) t in never (eqb-true e.holder old both.0) (eqb-true e.folder k both.1))
    other e false t never = ap not t

pub taken_all : (limits : Limits) (s : Store) (old : ℕ) (ks : List ℕ) → AreFound s ks → (g : Going) → IsTreeOf (store_of g.journal) s → NoneIsRefused (script_replies limits g (revoking s old ks)) →
    AreTaken (store_of g.journal) (store_of (script_going limits g (revoking s old ks)).journal) old ks
unfolding script_going
taken_all limits s old [] found g tree none = none_less (store_of g.journal) old
taken_all limits s old (k ∷ ks) found g tree none =
    let r = Revoke old (path_of s (granted_node k)) in
    let is = first_accepted limits g r (revoking s old ks) none in
    let one = taken_behind s g old k tree (found k (inl refl)) in
    let keeps = taking_keeps (store_of g.journal) old k (store_of (behind g r).journal) one in
    let more = taken_all limits s old ks (λ j i. found j (inr i)) (behind g r) (tree_on s (store_of g.journal) (store_of (behind g r).journal) tree keeps) (rest_accepted limits g r (revoking s old ks) none) in
    subst (λ (h : Going). AreTaken (store_of g.journal) (store_of h.journal) old (k ∷ ks)) (sym (goes_behind limits g r (revoking s old ks) is))
    (one_less (store_of g.journal) (store_of (behind g r).journal) _ old k ks one more)

-- ---- the new holder

-- beside holders the one store is the other, and one holder more was made
pub record HasOneHolderMore (s t : Store) : Type 0 where
  pub tree : IsTreeOf t s
  pub grants : t.grants ≡ s.grants
  pub key : List ℕ
  pub holders : t.holders ≡ s.holders ++ (let e : HolderEntry = record { number = s.holders_made + 1; key = key } in e) ∷ []
  pub made : t.holders_made ≡ s.holders_made + 1

pub holder_more : (g : Going) → HasOneHolderMore (store_of g.journal) (store_of (behind g AddHolder).journal)
unfolding effect with_new_holder
holder_more g =
    let w = store_behind g AddHolder in
    record {
      tree = record { folders = ap (λ (x : Store). x.folders) w.1; files = ap (λ (x : Store). x.files) w.1; folders_made = ap (λ (x : Store). x.folders_made) w.1; files_made = ap (λ (x : Store). x.files_made) w.1 };
      grants = ap (λ (x : Store). x.grants) w.1;
      key = w.0;
      holders = ap (λ (x : Store). x.holders) w.1;
      made = ap (λ (x : Store). x.holders_made) w.1;
    }
