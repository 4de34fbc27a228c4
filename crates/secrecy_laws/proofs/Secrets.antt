-- Revocation secrecy for every valid journal, both sentences.
use Rattle.std.proofs.Common.{◌≡◌, ℕ, ◌+◌, ◌<◌, ◌≤◌, true, List, [], ◌∷◌, ◌++◌, map, length, Some, inl, inr, ◌⊎◌, ◌↔◌, ⊎_elim, refl, sym, ap, ◌∙◌, subst, append_assoc, append-nil}
use Rattle.std.proofs.lemmas.List.{map-append}
use Rattle.cry_base.specs.Limits.{most_store_bytes}
use Rattle.cry_base.specs.Sets.{In, Path}
use Rattle.cry_base.specs.Requests.{Request}
use Rattle.cry_base.specs.Store.{Store, no_store, root_store}
use Rattle.cry_base.specs.Stepping.{effect}
use Rattle.cry_base.specs.declared.roles.Role.{Role}
use Rattle.role_graph.specs.Edges.{edges}
use Rattle.role_graph.specs.Rights.Who.{TheHolder}
use Rattle.role_graph.specs.Roles.{holder_role, is_root_role}
use Rattle.move_plan.specs.Change.{Change, change_of}
use Rattle.move_plan.specs.Noting.{note_of}
use Rattle.record_format.specs.Noted.{Note}
use Rattle.record_format.specs.Noted.Note.{Upgrade}
use Rattle.public_fold.specs.Journal.{Entry, Journal, Stand, nothing, first_key, note_step, root_note, entry_step, entry_store, stand_then, stand_after, steps_from, steps_of, store_of, keys_of}
use Rattle.public_fold.specs.Journal.Entry.{Session, Made, Did, Upgraded}
use Rattle.public_fold.specs.Keyed.{KeysHold, links_of}
use Rattle.public_fold.specs.KeyStep.{KeyState, Stepped, is_strict, no_keys, next_epoch, newest, next_serial, keys_then, renewed, given, published_edges, published, step_with, key_step}
use Rattle.public_fold.specs.Lengths.{end_of}
use Rattle.public_fold.specs.Records.{Content, pieces_of, sealing_role}
use Rattle.public_fold.specs.StandFits.{all_fit}
use Rattle.public_fold.specs.Valid.{BeginsWell, IsValid}
use Rattle.public_fold.proofs.AllFit.{journal_all_fit}
use Rattle.public_fold.proofs.KeepingKeys.{IsMove}
use Rattle.public_fold.proofs.Prefixes.{stand_after-append}
use Rattle.public_fold.proofs.KeyMoves.{root_moves, upgrade_moves, nothing_holds}
use Rattle.public_fold.proofs.Numbers.{within_made}
use Rattle.closure_laws.specs.Gains.{IsWritten, IsGain}
use Rattle.closure_laws.specs.History.{published_from, history, trails, own_serial, Derives, DerivesFor}
use Rattle.closure_laws.specs.Secrecy.{IsShownNode, node_of_piece, GainsLater, KeepsSecret}
use Rattle.secrecy_laws.specs.States.{State}
use Rattle.secrecy_laws.specs.Holding.{Holds, Opens, OpensAnew}
use Rattle.secrecy_laws.specs.Pasts.{Past, no_past, past_then, past_entry, past_after, past_of, ends_of, state_of}
use Rattle.secrecy_laws.specs.Revocation.{OpensContent, GainOpens, OpensByGain}
use Rattle.secrecy_laws.proofs.KeySteps.{source_clean, keyed_present}
use Rattle.secrecy_laws.proofs.Departing.{Departing, session_departs, did_departs, upgraded_departs, made_departs, journal_departs}
use Rattle.secrecy_laws.proofs.Sealing.{IsSealedPiece, IsDueRole, pieces_sealed, sealed_due, sealed_stands, reached_shown, content_told}
use Rattle.secrecy_laws.proofs.Journals.{Follow, IsDone, Kept, follow_within, moves, made_stand, made_past, made_fit, did_count, upgraded_count, session_fit, OpensFrom, later_opens, first_below}

due_source : (c : Change) (r : Role) → IsDueRole c r → (is_root_role r ≡ true) ⊎ (In r c.wanted ⊎ In r c.fresh)
unfolding is_root_role Rattle.role_graph.specs.Roles.variant_of
due_source c r w = ⊎_elim (λ q. inl (ap is_root_role q)) (λ u. inr u) w

-- a content's serial is of the present key of a clean role, and the piece stands
pub record IsSealedAt (at : Stand) (c : Content) : Type 0 where
  pub key : newest at.keys.keys (sealing_role c.piece) ≡ Some c.key_serial
  pub clean : In (sealing_role c.piece) at.keys.dirty → ⊥
  pub sealed : IsSealedPiece at.store c.piece

-- so it is with what a step writes
step_seals : (s t : Store) (k : KeyState) (note : Note) (p : Past) → IsMove s (change_of (is_strict k) s note) t → KeysHold s k p.links → ((key : Role × ℕ) → In key p.made → key.1 < next_serial k)
    → (c : Content) → In c (key_step k (edges s) (change_of (is_strict k) s note) (pieces_of note t)).contents
    → IsSealedAt (record { store = t; keys = (key_step k (edges s) (change_of (is_strict k) s note) (pieces_of note t)).after }) c
unfolding key_step step_with published
step_seals s t k note p mv ok below c i =
    let change = change_of (is_strict k) s note in
    let pieces = pieces_of note t in
    let new = keys_then k change (renewed k (edges s) change) in
    let w = content_told new (next_serial k + length (given k change (renewed k (edges s) change)) + length (published_edges (edges s) change (renewed k (edges s) change))) pieces c i in
    let r = sealing_role c.piece in
    let sealed = pieces_sealed t note c.piece w.0 in record {
      key = keyed_present s t k change p pieces mv ok below r (sealed_stands t c.piece sealed) ∙ ap (λ n. Some n) (sym w.1);
      clean = source_clean s t k change p pieces mv ok below r (due_source change r (sealed_due (is_strict k) s t note c.piece w.0));
      sealed = sealed;
    }

did_seals : (at : Stand) (p : Past) (request : Request) (keys : List (List ℕ)) → Kept at p → IsDone at request
    → (c : Content) → In c (entry_step at (Did request keys)).contents → IsSealedAt (stand_then at (Did request keys)) c
unfolding stand_then entry_store entry_step note_step
did_seals at p request keys ok e c i =
    step_seals at.store (effect at.store request (first_key keys)) at.keys (note_of at.store request []) p (moves at request keys ok.sound e) ok.keys ok.below c i

upgraded_seals : (at : Stand) (p : Past) (keys : List (List ℕ)) → Kept at p → (c : Content) → In c (entry_step at (Upgraded keys)).contents → IsSealedAt (stand_then at (Upgraded keys)) c
unfolding stand_then entry_store entry_step note_step
upgraded_seals at p keys ok c i = step_seals at.store at.store at.keys Upgrade p (upgrade_moves (is_strict at.keys) at.store ok.sound) ok.keys ok.below c i

made_seals : (version : ℕ) (keys : List (List ℕ)) (c : Content) → In c (entry_step (stand_then nothing Session) (Made version keys)).contents → IsSealedAt (made_stand version keys) c
unfolding stand_then entry_store entry_step note_step nothing
made_seals version keys c i =
    step_seals no_store root_store (next_epoch no_keys) (root_note version) no_past (first_moves version) (unfold no_past in nothing_holds) first_below c i
  where
    first_moves : (version : ℕ) → IsMove no_store (change_of (is_strict (next_epoch no_keys)) no_store (root_note version)) root_store
    first_moves version = unfold is_strict next_epoch no_keys in root_moves version

-- what an entry writes is sealed where the entry leaves the store, and the entries that follow may come there
pub record IsWrittenAt (at : Stand) (p : Past) (later : List Entry) (c : Content) : Type 0 where
  pub departs : Departing at p
  pub follow : Follow at later
  pub fit : all_fit at later ≡ true
  pub seals : IsSealedAt at c

from_stand : (before : List Entry) (at : Stand) (p : Past) (entry : Entry) (later : List Entry) (c : Content)
    → Departing at p → Follow at (before ++ entry ∷ later) → all_fit at (before ++ entry ∷ later) ≡ true
    → In c (entry_step (stand_after at before) entry).contents
    → IsWrittenAt (stand_after at (before ++ entry ∷ [])) (past_after at p (before ++ entry ∷ [])) later c
unfolding stand_after past_after
from_stand [] at p Session later c ok f t i = absurd (unfold entry_step in i)
from_stand [] at p (Made version keys) later c ok f t i = absurd f.0
from_stand [] at p (Did request keys) later c ok f t i =
    let w = did_count at request keys later t in
    record { departs = did_departs at p request keys ok f.0 w.0; follow = f.1; fit = w.1; seals = did_seals at p request keys ok.kept f.0 c i }
from_stand [] at p (Upgraded keys) later c ok f t i =
    let w = upgraded_count at keys later t in
    record { departs = upgraded_departs at p keys ok w.0; follow = f.1; fit = w.1; seals = upgraded_seals at p keys ok.kept c i }
from_stand (Session ∷ before) at p entry later c ok f t i =
    from_stand before (stand_then at Session) (past_entry at p Session) entry later c (session_departs at p ok) f.1 (session_fit at (before ++ entry ∷ later) t) i
from_stand (Made version keys ∷ before) at p entry later c ok f t i = absurd f.0
from_stand (Did request keys ∷ before) at p entry later c ok f t i =
    let w = did_count at request keys (before ++ entry ∷ later) t in
    from_stand before (stand_then at (Did request keys)) (past_entry at p (Did request keys)) entry later c (did_departs at p request keys ok f.0 w.0) f.1 w.1 i
from_stand (Upgraded keys ∷ before) at p entry later c ok f t i =
    let w = upgraded_count at keys (before ++ entry ∷ later) t in
    from_stand before (stand_then at (Upgraded keys)) (past_entry at p (Upgraded keys)) entry later c (upgraded_departs at p keys ok w.0) f.1 w.1 i

from_nothing : (before : List Entry) (entry : Entry) (later : List Entry) (c : Content)
    → BeginsWell (before ++ entry ∷ later) → end_of (before ++ entry ∷ later) ≤ most_store_bytes → all_fit nothing (before ++ entry ∷ later) ≡ true
    → In c (entry_step (stand_after nothing before) entry).contents
    → IsWrittenAt (stand_after nothing (before ++ entry ∷ [])) (past_after nothing no_past (before ++ entry ∷ [])) later c
unfolding stand_after past_after past_entry
from_nothing [] Session later c b low t i = absurd (unfold entry_step in i)
from_nothing [] (Made version keys) later c b low t i = absurd b
from_nothing [] (Did request keys) later c b low t i = absurd b
from_nothing [] (Upgraded keys) later c b low t i = absurd b
from_nothing (Session ∷ []) Session later c b low t i = absurd b
from_nothing (Session ∷ []) (Made version keys) later c b low t i =
    let w = made_fit version keys later t in
    record { departs = made_departs version keys w.0; follow = follow_within later (made_stand version keys) b.1 (within_made version keys later low); fit = w.1; seals = made_seals version keys c i }
from_nothing (Session ∷ []) (Did request keys) later c b low t i = absurd b
from_nothing (Session ∷ []) (Upgraded keys) later c b low t i = absurd b
from_nothing (Session ∷ Session ∷ before) entry later c b low t i = absurd b
from_nothing (Session ∷ Made version keys ∷ before) entry later c b low t i =
    let w = made_fit version keys (before ++ entry ∷ later) t in
    from_stand before (made_stand version keys) (made_past version keys) entry later c (made_departs version keys w.0)
    (follow_within (before ++ entry ∷ later) (made_stand version keys) b.1 (within_made version keys (before ++ entry ∷ later) low)) w.1 i
from_nothing (Session ∷ Did request keys ∷ before) entry later c b low t i = absurd b
from_nothing (Session ∷ Upgraded keys ∷ before) entry later c b low t i = absurd b
from_nothing (Made version keys ∷ before) entry later c b low t i = absurd b
from_nothing (Did request keys ∷ before) entry later c b low t i = absurd b
from_nothing (Upgraded keys ∷ before) entry later c b low t i = absurd b

pub written_at : (before : List Entry) (entry : Entry) (later : List Entry) (c : Content) → IsValid (before ++ entry ∷ later) → IsWritten before entry c
    → IsWrittenAt (stand_after nothing (before ++ entry ∷ [])) (past_of (before ++ entry ∷ [])) later c
unfolding past_of
written_at before entry later c v i = from_nothing before entry later c v.0 v.1 (journal_all_fit (before ++ entry ∷ later) v) i

-- the links of the past are the trails of the history
past_links : (entries : List Entry) (at : Stand) (p : Past) → (past_after at p entries).links ≡ p.links ++ links_of (steps_from at entries)
unfolding past_after past_entry past_then links_of steps_from
past_links [] at p = sym (append-nil p.links)
past_links (Session ∷ entries) at p = past_links entries (stand_then at Session) p ∙ ap (λ l. p.links ++ (l ++ links_of (steps_from (stand_then at Session) entries))) (no_links at)
  where
    no_links : (at : Stand) → [] ≡ (entry_step at Session).links
    no_links at = unfold entry_step in refl
past_links (Made version keys ∷ entries) at p =
    let step = entry_step at (Made version keys) in
    past_links entries (stand_then at (Made version keys)) (past_then p (edges at.store) (change_of (is_strict at.keys) at.store (root_note version)) step)
    ∙ append_assoc p.links step.links (links_of (steps_from (stand_then at (Made version keys)) entries))
past_links (Did request keys ∷ entries) at p =
    let step = entry_step at (Did request keys) in
    past_links entries (stand_then at (Did request keys)) (past_then p (edges at.store) (change_of (is_strict at.keys) at.store (note_of at.store request [])) step)
    ∙ append_assoc p.links step.links (links_of (steps_from (stand_then at (Did request keys)) entries))
past_links (Upgraded keys ∷ entries) at p =
    let step = entry_step at (Upgraded keys) in
    past_links entries (stand_then at (Upgraded keys)) (past_then p (edges at.store) (change_of (is_strict at.keys) at.store Upgrade) step)
    ∙ append_assoc p.links step.links (links_of (steps_from (stand_then at (Upgraded keys)) entries))

trails_are : (n : ℕ) (steps : List Stepped) → trails (published_from n steps) ≡ map ends_of (links_of steps)
unfolding trails published_from links_of
trails_are n [] = refl
trails_are n (x ∷ xs) = ap (λ l. map ends_of x.links ++ l) (trails_are (n + 1) xs) ∙ sym (map-append ends_of x.links (links_of xs))

pub journal_trails : (m : Journal) → trails (history m) ≡ map ends_of (past_of m).links
unfolding history past_of steps_of
journal_trails m = trails_are 1 (steps_of m) ∙ ap (λ l. map ends_of l) (sym (past_links m nothing no_past ∙ first))
  where
    first : no_past.links ++ links_of (steps_from nothing m) ≡ links_of (steps_from nothing m)
    first = unfold no_past in refl

-- one entry more
after_stand : (before : Journal) (entry : Entry) → stand_after nothing (before ++ entry ∷ []) ≡ stand_then (stand_after nothing before) entry
unfolding stand_after
after_stand before entry = stand_after-append nothing before (entry ∷ [])

pub past_after-append : (at : Stand) (p : Past) (xs ys : List Entry) → past_after at p (xs ++ ys) ≡ past_after (stand_after at xs) (past_after at p xs) ys
unfolding past_after stand_after
past_after-append at p [] ys = refl
past_after-append at p (x ∷ xs) ys = past_after-append (stand_then at x) (past_entry at p x) xs ys

after_past : (before : Journal) (entry : Entry) → past_of (before ++ entry ∷ []) ≡ past_entry (stand_after nothing before) (past_of before) entry
unfolding past_after past_of
after_past before entry = past_after-append nothing no_past before (entry ∷ [])

-- the keys of a journal with its past
abbrev state_in : Journal → State Role
state_in m = state_of (stand_after nothing m) (past_of m)

state_more : (before : Journal) (entry : Entry) → state_of (stand_then (stand_after nothing before) entry) (past_entry (stand_after nothing before) (past_of before) entry) ≡ state_in (before ++ entry ∷ [])
state_more before entry = sym (ap (λ at. state_of at (past_of (before ++ entry ∷ []))) (after_stand before entry) ∙ ap (state_of (stand_then (stand_after nothing before) entry)) (after_past before entry))

-- what a key opens there, the history of the journal derives from it
pub opens_derives : (m : Journal) (r : Role) (k : ℕ) → Opens (state_in m) r k ↔ ((j : ℕ) × (newest (keys_of m).keys r ≡ Some j) × Derives (history m) j k)
unfolding keys_of
opens_derives m r k = (
  λ d. (d.0, d.1, subst (λ z. Path z d.0 k) (sym (journal_trails m)) d.2),
  λ d. (d.0, d.1, subst (λ z. Path z d.0 k) (journal_trails m) d.2),
)

content_opened : (before : Journal) (entry : Entry) (h : ℕ) (c : Content) → IsGain (stand_after nothing before) entry h → OpensAnew (state_in before) (state_in (before ++ entry ∷ [])) (holder_role h) c.key_serial → OpensContent before entry h c
unfolding own_serial store_of keys_of
content_opened before entry h c gain w =
    let after = before ++ entry ∷ [] in
    let b = w.brought.1 in record {
      gain = gain;
      not_before = λ d. w.not_before ((opens_derives before (holder_role h) c.key_serial).1 d);
      after = (opens_derives after (holder_role h) c.key_serial).0 w.after;
      brought = (
        w.brought.0,
        record { stood = b.0; was_out = b.2; reached = b.1; leads = (opens_derives after w.brought.0 c.key_serial).0 w.brought.2 },
      );
    }

opens_later : (later : List Entry) (before : Journal) (h : ℕ) (c : Content) → OpensFrom (stand_after nothing before) (past_of before) later h c.key_serial → GainOpens before later h c
opens_later [] before h c g = g
opens_later (entry ∷ later) before h c g =
    let at = stand_after nothing before in
    let after = before ++ entry ∷ [] in ⊎_elim
    (λ w. inl (content_opened before entry h c w.0 (subst (λ z. OpensAnew (state_in before) z (holder_role h) c.key_serial) (state_more before entry) w.1)))
    (λ u. inr (opens_later later after h c
    (subst (λ z. OpensFrom z (past_of after) later h c.key_serial) (sym (after_stand before entry))
    (subst (λ z. OpensFrom (stand_then at entry) z later h c.key_serial) (sym (after_past before entry)) u)))) g

-- whoever derives a content opens its key in the end
pub opens_last : (before : List Entry) (entry : Entry) (later : List Entry) (h : ℕ) (c : Content) → DerivesFor (before ++ entry ∷ later) (TheHolder h) c
    → Opens (state_of (stand_after (stand_after nothing (before ++ entry ∷ [])) later) (past_after (stand_after nothing (before ++ entry ∷ [])) (past_of (before ++ entry ∷ [])) later)) (holder_role h) c.key_serial
unfolding own_serial keys_of past_of
opens_last before entry later h c d =
    let m = before ++ entry ∷ later in
    let written = before ++ entry ∷ [] in
    let whole : written ++ later ≡ m = append_assoc before (entry ∷ []) later in
    let stand : stand_after nothing m ≡ stand_after (stand_after nothing written) later = sym (ap (stand_after nothing) whole) ∙ stand_after-append nothing written later in
    let past : past_after nothing no_past m ≡ past_after (stand_after nothing written) (past_after nothing no_past written) later
    = sym (ap (past_after nothing no_past) whole) ∙ past_after-append nothing no_past written later in (
      d.0,
      subst (λ (at : Stand). newest at.keys.keys (holder_role h) ≡ Some d.0) stand d.1,
      subst (λ (p : Past). Path (map ends_of p.links) d.0 c.key_serial) past (subst (λ z. Path z d.0 c.key_serial) (journal_trails m) d.2),
    )

-- the second sentence, and then the first
parts_open : (before : List Entry) (entry : Entry) (later : List Entry) (c : Content) (h : ℕ) → IsValid (before ++ entry ∷ later) → IsWritten before entry c
    → (IsShownNode (stand_after nothing (before ++ entry ∷ [])).store h (node_of_piece c.piece) → ⊥) → DerivesFor (before ++ entry ∷ later) (TheHolder h) c
    → GainOpens (before ++ entry ∷ []) later h c
parts_open before entry later c h v i hidden d =
    let written = before ++ entry ∷ [] in
    let at = stand_after nothing written in
    let w = written_at before entry later c v i in
    let way = opens_last before entry later h c d in
    opens_later later written h c
    (later_opens later at (past_of written) h (sealing_role c.piece) c.key_serial way.0 w.departs.kept w.follow w.fit w.seals.key w.seals.clean
    (λ reached. hidden (reached_shown at.store h c.piece w.departs.kept.sound w.seals.sealed reached)) way.1 way.2)

pub opens_by_gain : (m : Journal) → IsValid m → (h : ℕ) → OpensByGain m h
opens_by_gain m v h before entry later c e i hidden d =
    parts_open before entry later c h (subst IsValid e v) i hidden (subst (λ z. DerivesFor z (TheHolder h) c) e d)

gains_later : (entries : List Entry) (before : Journal) (h : ℕ) (c : Content) → GainOpens before entries h c → GainsLater (stand_after nothing before) entries h
gains_later [] before h c g = g
gains_later (entry ∷ entries) before h c g = ⊎_elim
    (λ w. inl w.gain)
    (λ u. inr (subst (λ z. GainsLater z entries h) (after_stand before entry) (gains_later entries (before ++ entry ∷ []) h c u))) g

pub keeps_secret : (m : Journal) → IsValid m → (h : ℕ) → KeepsSecret m h
keeps_secret m v h before entry later c e i hidden none d =
    none (gains_later later (before ++ entry ∷ []) h c (opens_by_gain m v h before entry later c e i hidden d))

-- what holds after each entry
pub journal_holds : (m : Journal) → IsValid m → Holds is_root_role (state_of (stand_after nothing m) (past_of m))
journal_holds m v = (journal_departs m v).kept.holds

pub journal_below : (m : Journal) → IsValid m → (key : Role × ℕ) → In key (past_of m).made → key.1 < next_serial (keys_of m)
unfolding keys_of
journal_below m v = (journal_departs m v).kept.below
