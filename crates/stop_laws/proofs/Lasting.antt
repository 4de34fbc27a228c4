-- What was published at any moment of calls and stops stays.
use Rattle.std.proofs.Common.{◌≡◌, ◌≤◌, ◌<◌, ◌+◌, ⊎_elim, ◌⊎◌, inl, inr, ℕ, List, [], ◌∷◌, ◌++◌, length, Option, Some, append_assoc, arith, refl, sym, ap, subst, ◌∙◌, length-append}
use Rattle.std.proofs.lemmas.List.{append-nil, append_cancel_left}
use Rattle.commit_journal.specs.Gates.{recovered}
use Rattle.commit_journal.specs.Holding.{IsBetween, IsPrefix}
use Rattle.commit_journal.specs.Image.{Batch}
use Rattle.commit_journal.proofs.KeptLemmas.{prefix_trans}
use Rattle.cry_io.specs.declared.disk.Disk as disk
use Rattle.journal_bytes.specs.Bytes.{batches_of}
use Rattle.journal_bytes.specs.Journals.{HoldsBetween, StandsForJournal}
use Rattle.journal_bytes.proofs.Grown.{batches_grow, journal_recovered}
use Rattle.public_fold.specs.Journal.{Journal}
use Rattle.store_owner.specs.Published.{HasPublished, StaysPublished, published_batches}
use Rattle.stop_laws.specs.Runs.{Runs, WasShown}
use Rattle.stop_laws.specs.Runs.Runs.{Begun, Ran, StopsBehind, StopsIn}
use Rattle.stop_laws.proofs.Kept.{all_stay, ends_keep}
use Rattle.stop_laws.proofs.Left.{all_left, call_leaves}

-- ---- beginnings of one list

-- the shorter of two begins the other
shorter_begins : {X : Type 0} (xs ys whole : List X) → IsPrefix xs whole → IsPrefix ys whole → length xs ≤ length ys → IsPrefix xs ys
shorter_begins [] ys whole one other less = (ys, refl)
shorter_begins (x ∷ xs) [] whole one other less = absurd (let no : ⊥ = omega (arith, less) in no)
shorter_begins (x ∷ xs) (y ∷ ys) [] one other less = absurd (let no : x ∷ (xs ++ one.0) ≡ [] = one.1 in cc)
shorter_begins (x ∷ xs) (y ∷ ys) (z ∷ whole) one other less =
    let first : x ∷ (xs ++ one.0) ≡ z ∷ whole = one.1 in
    let second : y ∷ (ys ++ other.0) ≡ z ∷ whole = other.1 in
    let here : x ≡ y = cc in
    let p : xs ++ one.0 ≡ whole = cc in
    let q : ys ++ other.0 ≡ whole = cc in
    let rest = shorter_begins xs ys whole (one.0, p) (other.0, q) (omega (arith, less)) in
    (rest.0, ap (λ w. x ∷ w) rest.1 ∙ ap (λ w. w ∷ ys) here)

one_more_by : {X : Type 0} (l m k rest behind : List X) (e : X) → l ++ m ≡ k → k ++ behind ≡ l ++ e ∷ rest → (k ≡ l → ⊥) → IsPrefix (l ++ e ∷ []) k
one_more_by l [] k rest behind e is to other = absurd (other (sym is ∙ append-nil l))
one_more_by l (x ∷ m) k rest behind e is to other =
    let both : x ∷ (m ++ behind) ≡ e ∷ rest =
    append_cancel_left l (x ∷ (m ++ behind)) (e ∷ rest) (sym (append_assoc l (x ∷ m) behind) ∙ ap (λ w. w ++ behind) is ∙ to) in
    let here : x ≡ e = cc in
    (m, append_assoc l (e ∷ []) m ∙ ap (λ z. l ++ z ∷ m) (sym here) ∙ is)

-- a list that lies between l and a longer one, and isn't l, has the next one too
one_more : {X : Type 0} (l k rest : List X) (e : X) → IsPrefix l k → IsPrefix k (l ++ e ∷ rest) → (k ≡ l → ⊥) → IsPrefix (l ++ e ∷ []) k
one_more l k rest e from to other = one_more_by l from.0 k rest to.0 e from.1 to.1 other

within_or_beyond : (a b : ℕ) → (a ≤ b) ⊎ (b < a)
within_or_beyond a b = grind arith

-- ---- a journal that has what was published

module _ (key : List ℕ) (shown : Option (List ℕ)) (may_leave : List ℕ → Type 0) (published : List Batch) where
  -- whatever is shown or left has it
  abbrev HasIt : Type 0
  HasIt = (c : List ℕ) → (shown ≡ Some c) ⊎ may_leave c → IsPrefix published (recovered key c)

  held_has : HasIt → (l h : Journal) (c : List ℕ) → (shown ≡ Some c) ⊎ may_leave c → (at : IsBetween (StandsForJournal key) l h c) → IsPrefix published (batches_of key at.held)
  held_has has l h c left at = subst (IsPrefix published) (journal_recovered key at.held c at.stands_for) (has c left)

  pub record Raised (l h : Journal) : Type 0 where
    pub low : Journal
    pub holds : HoldsBetween key low h shown may_leave
    pub has : IsPrefix published (batches_of key low)

  -- it is raised entry by entry
  raised_by : (l more h : Journal) → l ++ more ≡ h → HasIt → HoldsBetween key l h shown may_leave → Raised l h
  raised_by l [] h is has holds =
      let here = holds.shows.2 in
      let shown_has = held_has has l h holds.shows.0 (inl holds.shows.1) here in
      let all : h ≡ l = sym is ∙ append-nil l in
      record {
        low = l;
        holds = holds;
        has = prefix_trans published (batches_of key here.held) (batches_of key l) shown_has
            (batches_grow key here.held l (subst (IsPrefix here.held) all here.to));
      }
  raised_by l (e ∷ more) h is has holds =
      let here = holds.shows.2 in
      let shown_has = held_has has l h holds.shows.0 (inl holds.shows.1) here in
      ⊎_elim
      (λ (enough : length published ≤ length (batches_of key l)).
      let done : Raised l h = record {
        low = l;
        holds = holds;
        has = shorter_begins published (batches_of key l) (batches_of key here.held) shown_has (batches_grow key l here.held here.from) enough;
      } in done)
      (λ (wanting : length (batches_of key l) < length published).
      let next : Journal = l ++ e ∷ [] in
      let raise : (c : List ℕ) → (shown ≡ Some c) ⊎ may_leave c → IsBetween (StandsForJournal key) l h c → IsBetween (StandsForJournal key) next h c = λ c left at. record {
        held = at.held;
        from = one_more l at.held more e at.from (subst (IsPrefix at.held) (sym is) at.to)
            (λ same.
            let long = held_has has l h c left at in
            let n : length published + length long.0 ≡ length (batches_of key at.held) = sym (length-append published long.0) ∙ ap length long.1 in
            let k : length (batches_of key at.held) ≡ length (batches_of key l) = ap (λ (j : Journal). length (batches_of key j)) same in
            let no : ⊥ = omega (arith, wanting, n, k) in no);
        to = at.to;
        stands_for = at.stands_for;
      } in
      let more_holds : HoldsBetween key next h shown may_leave = record {
        shows = (holds.shows.0, holds.shows.1, raise holds.shows.0 (inl holds.shows.1) here);
        leaves = λ c left. raise c (inr left) (holds.leaves c left);
      } in
      let end = raised_by next more h (append_assoc l (e ∷ []) more ∙ is) has more_holds in
      record { low = end.low; holds = end.holds; has = end.has })
      (within_or_beyond (length published) (length (batches_of key l)))

  pub raised : (l h : Journal) → HasIt → HoldsBetween key l h shown may_leave → Raised l h
  raised l h has holds =
      let here = holds.shows.2 in
      let whole = prefix_trans l here.held h here.from here.to in
      raised_by l whole.0 h whole.1 has holds

-- ---- calls and stops

module _ {D : Type 0} (disks : disk.Ghosts D)
    (counted : (d : D) (t : ℕ) (s c : List ℕ) → t ≤ disks.moment d → disks.shown d ≡ Some s → disks.may_leave d c → disks.since d t s c)
    (present : (d : D) (s c : List ℕ) → disks.since d (disks.moment d) s c → (disks.shown d ≡ Some s) × disks.may_leave d c)
    (may_be_left : (d : D) (s : List ℕ) → disks.shown d ≡ Some s → disks.may_leave d s) (key : List ℕ)
    (start : D) (m1 m2 : Journal) (holds : HoldsBetween key m1 m2 (disks.shown start) (disks.may_leave start)) (stays : StaysPublished key (disks.shown start) (disks.may_leave start)) where
  abbrev Came : D → Type 0
  Came now = Runs disks key start now

  -- what is shown may be left
  left_too : (d : D) (s : List ℕ) → ((c : List ℕ) → disks.may_leave d c → HasPublished key s c) → (c : List ℕ) → (disks.shown d ≡ Some c) ⊎ disks.may_leave d c → HasPublished key s c
  left_too d s has c either = ⊎_elim (λ is. has c (may_be_left d c is)) (λ left. has c left) either

  -- behind a call, and at each moment of it
  raised_at : (s : List ℕ) (before : D) (runs : Came before) → ((c : List ℕ) → disks.may_leave before c → HasPublished key s c)
      → (h : Journal) × Raised key (disks.shown before) (disks.may_leave before) (published_batches key s) m1 h
  raised_at s before runs has =
      let so_far = all_left disks counted key start m1 m2 holds before runs in
      let up = raised key (disks.shown before) (disks.may_leave before) (published_batches key s) so_far.0 so_far.1 (left_too before s has) so_far.3 in
      (so_far.1, record { low = up.low; holds = up.holds; has = up.has })

  has_from : (s c : List ℕ) (low held : Journal) → IsPrefix (published_batches key s) (batches_of key low) → IsPrefix low held → StandsForJournal key held c → HasPublished key s c
  has_from s c low held has longer stands =
      subst (IsPrefix (published_batches key s)) (sym (journal_recovered key held c stands))
      (prefix_trans (published_batches key s) (batches_of key low) (batches_of key held) has (batches_grow key low held longer))

  pub never_lost : (now : D) (runs : Came now) (s : List ℕ) → WasShown disks key start now runs s → (bytes : List ℕ) → disks.may_leave now bytes → HasPublished key s bytes
  never_lost now Begun s was bytes left = stays s was bytes left
  never_lost now (Ran {before = before} {after = after} runs call) s was bytes left =
      ⊎_elim
      (λ old.
      let up = raised_at s before runs (never_lost before runs s old) in
      let then = call_leaves disks counted key start before now up.1.low up.0 up.1.holds call in
      let at = then.holds.leaves bytes left in
      has_from s bytes up.1.low at.held up.1.has (prefix_trans up.1.low then.low at.held then.grown at.from) at.stands_for)
      (λ at. ends_keep disks counted key start m1 m2 holds stays present before now runs call s at.0 bytes at.1 left)
      was
  never_lost now (StopsBehind {before = before} {after = after} {bytes = there} runs could is) s was bytes left =
      ⊎_elim
      (λ old.
      let same : there ≡ bytes = let both = sym is.0 ∙ is.1 bytes left in cc in
      subst (HasPublished key s) same (never_lost before runs s old there could))
      (λ now_shown. all_stay disks counted key start m1 m2 holds stays now (StopsBehind runs could is) s now_shown bytes left)
      was
  never_lost now (StopsIn {before = before} {after = after} {next = next} {there = there} {bytes = stopped} runs call at is) s was bytes left =
      ⊎_elim
      (λ old.
      let same : stopped ≡ bytes = let both = sym is.0 ∙ is.1 bytes left in cc in
      let up = raised_at s before runs (never_lost before runs s old) in
      let k = (call_leaves disks counted key start before after up.1.low up.0 up.1.holds call).kept there stopped at in
      subst (HasPublished key s) same (has_from s stopped up.1.low k.held up.1.has k.from k.stands_for))
      (λ now_shown. all_stay disks counted key start m1 m2 holds stays now (StopsIn runs call at is) s now_shown bytes left)
      was
