-- What a holder's audit shows was shown to the holder when it was written, or a later gain opened it; in version 2 it was shown since.
use Rattle.std.proofs.Common.{◌≡◌, ℕ, suc, ◌+◌, List, [], ◌∷◌, ◌++◌, length, inl, inr, ◌⊎◌, ⊎_elim, refl, sym, ap, ◌∙◌, subst, arith}
use Rattle.std.proofs.lemmas.Bool.{false≢true, cases_Bool}
use Rattle.cry_base.specs.Sets.{In}
use Rattle.role_graph.specs.Rights.Who.{TheHolder}
use Rattle.public_fold.specs.Journal.{Entry, Journal, Stand, nothing, entry_step, keys_of, stand_then, stand_after, steps_from, steps_of}
use Rattle.public_fold.specs.Records.{Content}
use Rattle.public_fold.specs.Valid.{IsValid}
use Rattle.closure_laws.specs.Gains.{IsWritten}
use Rattle.closure_laws.specs.History.{Published, published_from, history, DerivesFor}
use Rattle.closure_laws.specs.Secrecy.{IsShownNode, node_of_piece, shown_node}
use Rattle.closure_laws.specs.Seen.{Sight, sight_of, seen}
use Rattle.closure_laws.proofs.Growing.{seen_told}
use Rattle.secrecy_laws.specs.Revocation.{GainOpens}
use Rattle.secrecy_laws.specs.Sights.{IsFairlySeen, IsStrictlySeen}
use Rattle.secrecy_laws.proofs.Computed.{node_told}
use Rattle.secrecy_laws.proofs.Departed.{keeps_departures}
use Rattle.secrecy_laws.proofs.Secrets.{opens_by_gain}

-- the positive form of revocation secrecy
pub shown_or_opened : (m : Journal) → IsValid m → (h : ℕ) (before : List Entry) (entry : Entry) (later : List Entry) (c : Content) → m ≡ before ++ entry ∷ later → IsWritten before entry c
    → DerivesFor m (TheHolder h) c
    → IsShownNode (stand_after nothing (before ++ entry ∷ [])).store h (node_of_piece c.piece) ⊎ GainOpens (before ++ entry ∷ []) later h c
shown_or_opened m v h before entry later c e i d =
    let s = (stand_after nothing (before ++ entry ∷ [])).store in
    let told = node_told s h (node_of_piece c.piece) in ⊎_elim
    (λ t. inl (told.0 t))
    (λ f. inr (opens_by_gain m v h before entry later c e i (λ sh. false≢true (sym f ∙ told.1 sh)) d))
    (cases_Bool (shown_node s h (node_of_piece c.piece)))

-- a batch's contents are those that its entry writes
record IsBatchOf (n : ℕ) (at : Stand) (entries : List Entry) (p : Published) : Type 0 where
  before : List Entry
  entry : Entry
  later : List Entry
  parts : entries ≡ before ++ entry ∷ later
  batch : p.batch ≡ n + length before
  contents : p.contents ≡ (entry_step (stand_after at before) entry).contents

batch_of : (n : ℕ) (at : Stand) (entries : List Entry) (p : Published) → In p (published_from n (steps_from at entries)) → IsBatchOf n at entries p
unfolding published_from steps_from stand_after
batch_of n at [] p i = absurd i
batch_of n at (x ∷ xs) p i = ⊎_elim
    (λ e. record {
      before = [];
      entry = x;
      later = xs;
      parts = refl;
      batch = ap (λ (z : Published). z.batch) e ∙ none n;
      contents = ap (λ (z : Published). z.contents) e;
    })
    (λ j. let w = batch_of (n + 1) (stand_then at x) xs p j in record {
      before = x ∷ w.before;
      entry = w.entry;
      later = w.later;
      parts = ap (λ l. x ∷ l) w.parts;
      batch = w.batch ∙ one n (length w.before);
      contents = w.contents;
    }) i
  where
    none : (n : ℕ) → n ≡ n + 0
    none n = omega arith

    one : (n k : ℕ) → (n + 1) + k ≡ n + suc k
    one n k = omega arith

history_batch : (m : Journal) (p : Published) → In p (history m) → IsBatchOf 1 nothing m p
unfolding history steps_of
history_batch m p i = batch_of 1 nothing m p i

-- a sight's content, the entry that wrote it, and that the holder derives it
record IsSightOf (m : Journal) (h : ℕ) (x : Sight) : Type 0 where
  before : List Entry
  entry : Entry
  later : List Entry
  content : Content
  parts : m ≡ before ++ entry ∷ later
  written : IsWritten before entry content
  sight : x ≡ sight_of (1 + length before) content
  derived : DerivesFor m (TheHolder h) content

sight_is : (m : Journal) (h : ℕ) (x : Sight) → In x (seen m (TheHolder h)) → IsSightOf m h x
sight_is m h x i =
    let w = (seen_told m (TheHolder h) x).0 i in
    let b = history_batch m w.0 w.1 in
    let c = w.2.0 in record {
      before = b.before;
      entry = b.entry;
      later = b.later;
      content = c;
      parts = b.parts;
      written = subst (In c) b.contents w.2.1;
      sight = w.2.2 ∙ ap (λ n. sight_of n c) b.batch;
      derived = w.2.4;
    }

pub fairly_seen : (m : Journal) → IsValid m → (h : ℕ) (x : Sight) → In x (seen m (TheHolder h)) → IsFairlySeen m h x
fairly_seen m v h x i =
    let s = sight_is m h x i in record {
      before = s.before;
      entry = s.entry;
      later = s.later;
      content = s.content;
      parts = s.parts;
      written = s.written;
      sight = s.sight;
      why = shown_or_opened m v h s.before s.entry s.later s.content s.parts s.written s.derived;
    }

pub strictly_seen : (m : Journal) → IsValid m → (keys_of m).version ≡ 2 → (h : ℕ) (x : Sight) → In x (seen m (TheHolder h)) → IsStrictlySeen m h x
strictly_seen m v two h x i =
    let s = sight_is m h x i in record {
      before = s.before;
      entry = s.entry;
      later = s.later;
      content = s.content;
      parts = s.parts;
      written = s.written;
      sight = s.sight;
      why = keeps_departures m v two h s.before s.entry s.later s.content s.parts s.written s.derived;
    }
