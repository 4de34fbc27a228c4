-- Keys in five tables, each of which has those of its kinds alone.
use Rattle.std.proofs.Common.{◌≡◌, ℕ, ◌+◌, ◌*◌, ◌%◌, ◌≤◌, ◌==◌, ◌⊎◌, List, ◌++◌, true, false, cond, Option, Some, None, refl, sym, ap, subst, ◌∙◌, arith, inl, inr, ⊎_elim}
use Rattle.std.proofs.lemmas.Bool.{eqb-true}
use Rattle.cry_base.specs.declared.ids.FileId.{FileId}
use Rattle.cry_base.specs.declared.ids.FolderId.{FolderId}
use Rattle.cry_base.specs.declared.ids.HolderId.{HolderId}
use Rattle.cry_base.specs.declared.roles.Role.{Role}
use Rattle.cry_base.specs.declared.roles.Role.TheVariants.{Owner, Holder, Clear, Sub, Back, Files, Data, File}
use Rattle.sorted_table.specs.Rows.{row_at, without}
use Rattle.key_links.specs.ByKind.{AreSorted, HasOnly, IsFoundBeside}
use Rattle.key_links.specs.Ringed.{key_rank, rank_of, role_of}
use Rattle.key_links.specs.declared.any_key.AnyKey.{AnyKey}
use Rattle.key_links.proofs.BesideKeys.{before, behind, either, found_either}
use Rattle.key_links.proofs.Looked.{found_without}

either_none : (o : Option AnyKey) → either o None ≡ o
unfolding either
either_none (Some x) = refl
either_none None = refl

only_front : (front rest : List AnyKey) (k : ℕ) → row_at key_rank rest k ≡ None → row_at key_rank front k ≡ row_at key_rank (front ++ rest) k
only_front front rest k none =
    sym (found_either front rest k ∙ ap (either (row_at key_rank front k)) none ∙ either_none (row_at key_rank front k))

only_rest : (front rest : List AnyKey) (k : ℕ) → row_at key_rank front k ≡ None → row_at key_rank rest k ≡ row_at key_rank (front ++ rest) k
unfolding either
only_rest front rest k none = sym (found_either front rest k ∙ ap (λ o. either o (row_at key_rank rest k)) none)

in_neither : (front rest : List AnyKey) (k : ℕ) → row_at key_rank front k ≡ None → row_at key_rank rest k ≡ None → row_at key_rank (front ++ rest) k ≡ None
in_neither front rest k none nor = sym (only_rest front rest k none) ∙ nor

-- what is found in one of the five is what is found in all
pub holder_found : (a b c d e : List AnyKey) (k : ℕ) → AreSorted a b c d e → k % 8 ≤ 1 → row_at key_rank a k ≡ row_at key_rank (a ++ (b ++ (c ++ (d ++ e)))) k
holder_found a b c d e k sorted below =
    only_front a (b ++ (c ++ (d ++ e))) k (in_neither b (c ++ (d ++ e)) k (sorted.entries_only k (inl (omega arith)))
    (in_neither c (d ++ e) k (sorted.ways_only k (inl (omega arith))) (in_neither d e k (sorted.titles_only k (inl (omega arith))) (sorted.files_only k (inl (omega arith))))))

pub entry_found : (a b c d e : List AnyKey) (k : ℕ) → AreSorted a b c d e → 2 ≤ k % 8 → k % 8 ≤ 3 → row_at key_rank b k ≡ row_at key_rank (a ++ (b ++ (c ++ (d ++ e)))) k
entry_found a b c d e k sorted above below =
    only_front b (c ++ (d ++ e)) k (in_neither c (d ++ e) k (sorted.ways_only k (inl (omega arith)))
    (in_neither d e k (sorted.titles_only k (inl (omega arith))) (sorted.files_only k (inl (omega arith)))))
    ∙ only_rest a (b ++ (c ++ (d ++ e))) k (sorted.holders_only k (inr (omega arith)))

pub way_found : (a b c d e : List AnyKey) (k : ℕ) → AreSorted a b c d e → 4 ≤ k % 8 → k % 8 ≤ 5 → row_at key_rank c k ≡ row_at key_rank (a ++ (b ++ (c ++ (d ++ e)))) k
way_found a b c d e k sorted above below =
    only_front c (d ++ e) k (in_neither d e k (sorted.titles_only k (inl (omega arith))) (sorted.files_only k (inl (omega arith))))
    ∙ only_rest b (c ++ (d ++ e)) k (sorted.entries_only k (inr (omega arith)))
    ∙ only_rest a (b ++ (c ++ (d ++ e))) k (sorted.holders_only k (inr (omega arith)))

pub title_found : (a b c d e : List AnyKey) (k : ℕ) → AreSorted a b c d e → k % 8 ≡ 6 → row_at key_rank d k ≡ row_at key_rank (a ++ (b ++ (c ++ (d ++ e)))) k
title_found a b c d e k sorted here =
    only_front d e k (sorted.files_only k (inl (omega arith)))
    ∙ only_rest c (d ++ e) k (sorted.ways_only k (inr (omega arith)))
    ∙ only_rest b (c ++ (d ++ e)) k (sorted.entries_only k (inr (omega arith)))
    ∙ only_rest a (b ++ (c ++ (d ++ e))) k (sorted.holders_only k (inr (omega arith)))

pub file_found : (a b c d e : List AnyKey) (k : ℕ) → AreSorted a b c d e → k % 8 ≡ 7 → row_at key_rank e k ≡ row_at key_rank (a ++ (b ++ (c ++ (d ++ e)))) k
file_found a b c d e k sorted here =
    only_rest d e k (sorted.titles_only k (inr (omega arith)))
    ∙ only_rest c (d ++ e) k (sorted.ways_only k (inr (omega arith)))
    ∙ only_rest b (c ++ (d ++ e)) k (sorted.entries_only k (inr (omega arith)))
    ∙ only_rest a (b ++ (c ++ (d ++ e))) k (sorted.holders_only k (inr (omega arith)))

-- a key of a table's kinds that comes into it
pub only_with : (low high : ℕ) (key : AnyKey) (rows after : List AnyKey) → low ≤ key_rank key % 8 → key_rank key % 8 ≤ high
    → HasOnly low high rows → IsFoundBeside key rows after → HasOnly low high after
only_with low high key rows after above below only is = λ k outside.
    is k ∙ (elim (key_rank key == k) as (λ b. key_rank key == k ≡ b → cond b (Some key) (row_at key_rank rows k) ≡ None) [
      | true ↦ λ t. let from = subst (λ n. low ≤ n % 8) (eqb-true (key_rank key) k t) above in
          let to = subst (λ n. n % 8 ≤ high) (eqb-true (key_rank key) k t) below in
          absurd (⊎_elim (λ p. omega (arith, p, from)) (λ p. omega (arith, p, to)) outside)
      | false ↦ λ t. only k outside
    ]) refl

-- and one that goes
pub only_without : (low high : ℕ) (rows : List AnyKey) (at : ℕ) → HasOnly low high rows → HasOnly low high (without key_rank rows at)
only_without low high rows at only = λ k outside.
    found_without AnyKey key_rank rows at k
    ∙ (elim (at == k) as (λ b. cond b None (row_at key_rank rows k) ≡ None) [
      | true ↦ refl
      | false ↦ only k outside
    ])

-- the places of each table's kinds
pub holder_rank : (role : Role) (k : ℕ) → (role ≡ Owner) ⊎ ((x : HolderId) × (role ≡ Holder x)) → k ≡ rank_of role → k % 8 ≤ 1
unfolding rank_of
holder_rank role k kind same = ⊎_elim
    (λ e. let place : k ≡ 0 = same ∙ ap rank_of e in omega arith)
    (λ p. let place : k ≡ p.0.0 * 8 + 1 = same ∙ ap rank_of p.1 in omega arith) kind

pub entry_rank : (role : Role) (k : ℕ) → ((x : FolderId) × (role ≡ Clear x)) ⊎ ((x : FolderId) × (role ≡ Sub x)) → k ≡ rank_of role
    → (2 ≤ k % 8) × (k % 8 ≤ 3)
unfolding rank_of
entry_rank role k kind same = ⊎_elim
    (λ p. let place : k ≡ p.0.0 * 8 + 2 = same ∙ ap rank_of p.1 in (omega arith, omega arith))
    (λ p. let place : k ≡ p.0.0 * 8 + 3 = same ∙ ap rank_of p.1 in (omega arith, omega arith)) kind

pub way_rank : (role : Role) (k : ℕ) → ((x : FolderId) × (role ≡ Back x)) ⊎ ((x : FolderId) × (role ≡ Files x)) → k ≡ rank_of role
    → (4 ≤ k % 8) × (k % 8 ≤ 5)
unfolding rank_of
way_rank role k kind same = ⊎_elim
    (λ p. let place : k ≡ p.0.0 * 8 + 4 = same ∙ ap rank_of p.1 in (omega arith, omega arith))
    (λ p. let place : k ≡ p.0.0 * 8 + 5 = same ∙ ap rank_of p.1 in (omega arith, omega arith)) kind

pub title_rank : (role : Role) (k : ℕ) (x : FolderId) → role ≡ Data x → k ≡ rank_of role → k % 8 ≡ 6
unfolding rank_of
title_rank role k x kind same = let place : k ≡ x.0 * 8 + 6 = same ∙ ap rank_of kind in omega arith

pub file_rank : (role : Role) (k : ℕ) (x : FileId) → role ≡ File x → k ≡ rank_of role → k % 8 ≡ 7
unfolding rank_of
file_rank role k x kind same = let place : k ≡ x.0 * 8 + 7 = same ∙ ap rank_of kind in omega arith

pub place_of_key : (key : AnyKey) (role : Role) → role ≡ role_of key → key_rank key ≡ rank_of role
unfolding key_rank
place_of_key key role is = sym (ap rank_of is)

-- a key that comes into the table of its kind: what is found in all, and that each still has its kinds alone
pub holder_put : (a b c d e a' : List AnyKey) (key : AnyKey) → AreSorted a b c d e → key_rank key % 8 ≤ 1 → IsFoundBeside key a a'
    → IsFoundBeside key (a ++ (b ++ (c ++ (d ++ e)))) (a' ++ (b ++ (c ++ (d ++ e)))) × AreSorted a' b c d e
holder_put a b c d e a' key sorted below is = (
  before key a a' (b ++ (c ++ (d ++ e))) is,
  record {
    holders_only = only_with 0 1 key a a' (omega arith) (omega arith) sorted.holders_only is;
    entries_only = sorted.entries_only;
    ways_only = sorted.ways_only;
    titles_only = sorted.titles_only;
    files_only = sorted.files_only;
  },
)

pub entry_put : (a b c d e b' : List AnyKey) (key : AnyKey) → AreSorted a b c d e → 2 ≤ key_rank key % 8 → key_rank key % 8 ≤ 3 → IsFoundBeside key b b'
    → IsFoundBeside key (a ++ (b ++ (c ++ (d ++ e)))) (a ++ (b' ++ (c ++ (d ++ e)))) × AreSorted a b' c d e
entry_put a b c d e b' key sorted above below is = (
  behind key a (b ++ (c ++ (d ++ e))) (b' ++ (c ++ (d ++ e))) (sorted.holders_only (key_rank key) (inr (omega arith)))
      (before key b b' (c ++ (d ++ e)) is),
  record {
    holders_only = sorted.holders_only;
    entries_only = only_with 2 3 key b b' (omega arith) (omega arith) sorted.entries_only is;
    ways_only = sorted.ways_only;
    titles_only = sorted.titles_only;
    files_only = sorted.files_only;
  },
)

pub way_put : (a b c d e c' : List AnyKey) (key : AnyKey) → AreSorted a b c d e → 4 ≤ key_rank key % 8 → key_rank key % 8 ≤ 5 → IsFoundBeside key c c'
    → IsFoundBeside key (a ++ (b ++ (c ++ (d ++ e)))) (a ++ (b ++ (c' ++ (d ++ e)))) × AreSorted a b c' d e
way_put a b c d e c' key sorted above below is = (
  behind key a (b ++ (c ++ (d ++ e))) (b ++ (c' ++ (d ++ e))) (sorted.holders_only (key_rank key) (inr (omega arith)))
      (behind key b (c ++ (d ++ e)) (c' ++ (d ++ e)) (sorted.entries_only (key_rank key) (inr (omega arith)))
      (before key c c' (d ++ e) is)),
  record {
    holders_only = sorted.holders_only;
    entries_only = sorted.entries_only;
    ways_only = only_with 4 5 key c c' (omega arith) (omega arith) sorted.ways_only is;
    titles_only = sorted.titles_only;
    files_only = sorted.files_only;
  },
)

pub title_put : (a b c d e d' : List AnyKey) (key : AnyKey) → AreSorted a b c d e → key_rank key % 8 ≡ 6 → IsFoundBeside key d d'
    → IsFoundBeside key (a ++ (b ++ (c ++ (d ++ e)))) (a ++ (b ++ (c ++ (d' ++ e)))) × AreSorted a b c d' e
title_put a b c d e d' key sorted here is = (
  behind key a (b ++ (c ++ (d ++ e))) (b ++ (c ++ (d' ++ e))) (sorted.holders_only (key_rank key) (inr (omega arith)))
      (behind key b (c ++ (d ++ e)) (c ++ (d' ++ e)) (sorted.entries_only (key_rank key) (inr (omega arith)))
      (behind key c (d ++ e) (d' ++ e) (sorted.ways_only (key_rank key) (inr (omega arith)))
      (before key d d' e is))),
  record {
    holders_only = sorted.holders_only;
    entries_only = sorted.entries_only;
    ways_only = sorted.ways_only;
    titles_only = only_with 6 6 key d d' (omega arith) (omega arith) sorted.titles_only is;
    files_only = sorted.files_only;
  },
)

pub file_put : (a b c d e e' : List AnyKey) (key : AnyKey) → AreSorted a b c d e → key_rank key % 8 ≡ 7 → IsFoundBeside key e e'
    → IsFoundBeside key (a ++ (b ++ (c ++ (d ++ e)))) (a ++ (b ++ (c ++ (d ++ e')))) × AreSorted a b c d e'
file_put a b c d e e' key sorted here is = (
  behind key a (b ++ (c ++ (d ++ e))) (b ++ (c ++ (d ++ e'))) (sorted.holders_only (key_rank key) (inr (omega arith)))
      (behind key b (c ++ (d ++ e)) (c ++ (d ++ e')) (sorted.entries_only (key_rank key) (inr (omega arith)))
      (behind key c (d ++ e) (d ++ e') (sorted.ways_only (key_rank key) (inr (omega arith)))
      (behind key d e e' (sorted.titles_only (key_rank key) (inr (omega arith))) is))),
  record {
    holders_only = sorted.holders_only;
    entries_only = sorted.entries_only;
    ways_only = sorted.ways_only;
    titles_only = sorted.titles_only;
    files_only = only_with 7 7 key e e' (omega arith) (omega arith) sorted.files_only is;
  },
)

-- a key that goes from all
pub sorted_without : (a b c d e a' b' c' d' e' : List AnyKey) (at : ℕ) → AreSorted a b c d e
    → a' ≡ without key_rank a at → b' ≡ without key_rank b at → c' ≡ without key_rank c at → d' ≡ without key_rank d at → e' ≡ without key_rank e at
    → AreSorted a' b' c' d' e'
sorted_without a b c d e a' b' c' d' e' at sorted in_a in_b in_c in_d in_e = rw (in_a, in_b, in_c, in_d, in_e) (record {
  holders_only = only_without 0 1 a at sorted.holders_only;
  entries_only = only_without 2 3 b at sorted.entries_only;
  ways_only = only_without 4 5 c at sorted.ways_only;
  titles_only = only_without 6 6 d at sorted.titles_only;
  files_only = only_without 7 7 e at sorted.files_only;
})
