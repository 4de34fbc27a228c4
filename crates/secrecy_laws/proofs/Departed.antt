-- What a holder derives in a store of version 2 was shown to the holder from its writing on, or was derived before the upgrade.
use Rattle.std.proofs.Common.{◌≡◌, ℕ, ◌==◌, true, false, List, [], ◌∷◌, ◌++◌, Some, ◌⊎◌, inl, inr, ⊎_elim, refl, sym, ap, ◌∙◌, subst, arith, append_assoc}
use Rattle.std.proofs.lemmas.Bool.{cases_Bool, eqb-true, eq-eqb, false≢true}
use Rattle.cry_base.specs.Requests.{Request}
use Rattle.cry_base.specs.Sets.{In, Path}
use Rattle.cry_base.specs.Store.{Store}
use Rattle.cry_base.specs.declared.roles.Role.{Role}
use Rattle.cry_base.proofs.Members.{In-append}
use Rattle.role_graph.specs.Edges.{Reaches, edges}
use Rattle.role_graph.specs.Rights.Who.{TheHolder}
use Rattle.role_graph.specs.Roles.{holder_role, is_root_role, same_role}
use Rattle.role_graph.proofs.Comparing.{same_role_tells}
use Rattle.move_plan.specs.Change.{change_of}
use Rattle.move_plan.specs.Noting.{note_of}
use Rattle.record_format.specs.Noted.Note.{Upgrade}
use Rattle.public_fold.specs.Journal.{Entry, Journal, Stand, nothing, entry_step, keys_of, stand_after, stand_then, store_of}
use Rattle.public_fold.specs.Journal.Entry.{Session, Made, Did, Upgraded}
use Rattle.public_fold.specs.KeyStep.{is_strict, newest}
use Rattle.public_fold.specs.Records.{Content, sealing_role}
use Rattle.public_fold.specs.StandFits.{all_fit}
use Rattle.public_fold.specs.Valid.{FollowOn, IsValid}
use Rattle.public_fold.proofs.KeyMoves.{upgrade_moves}
use Rattle.public_fold.proofs.Prefixes.{stand_after-append}
use Rattle.public_fold.proofs.Versioned.{did_version, session_version, upgraded_version}
use Rattle.closure_laws.specs.Gains.{IsWritten}
use Rattle.closure_laws.specs.History.{Derives, DerivesFor, history, own_serial}
use Rattle.closure_laws.specs.Secrecy.{IsShownNode, node_of_piece}
use Rattle.secrecy_laws.specs.Departures.{ClosesDepartures, IsDerivedBefore, IsShownSince, KeepsDepartures}
use Rattle.secrecy_laws.specs.Holding.{Opens}
use Rattle.secrecy_laws.specs.Pasts.{Past, no_past, past_after, past_entry, past_of, past_then, state_of, move_of}
use Rattle.secrecy_laws.proofs.Departing.{Departing, did_departs, journal_departs, made_version, session_departs, upgraded_departs}
use Rattle.secrecy_laws.proofs.Journals.{Follow, IsDone, Kept, did_count, did_fits, did_step, holder_is_root, made_stand, session_fit, session_state, upgraded_brings, upgraded_count, upgraded_fits, upgraded_step}
use Rattle.secrecy_laws.proofs.Leading.{opens_or_reaches}
use Rattle.secrecy_laws.proofs.Sealing.{IsSealedPiece, reached_shown, sealed_later}
use Rattle.secrecy_laws.proofs.Secrets.{journal_trails, opens_derives, opens_last, past_after-append, written_at}
use Rattle.secrecy_laws.proofs.Steps.{opened_or}
use Rattle.secrecy_laws.proofs.Whole.{unread}

pub present_leads : (m : Journal) → IsValid m → (keys_of m).version ≡ 2 → (a r : Role) (j k : ℕ) → is_root_role a ≡ false → newest (keys_of m).keys a ≡ Some j
    → In {X = Role × ℕ} (r, k) (past_of m).made → Derives (history m) j k → Reaches (edges (store_of m)) a r
unfolding keys_of store_of
present_leads m v two a r j k no_root own made way =
    (journal_departs m v).leads two a r j k no_root own made (subst (λ z. Path z j k) (journal_trails m) way)

-- versions stay
one_or_two : (n : ℕ) → n ≡ 1 → n ≡ 2 → ⊥
one_or_two n a b = omega (arith, a, b)

stays_two : (entries : List Entry) (at : Stand) → FollowOn at entries → at.keys.version ≡ 2 → (stand_after at entries).keys.version ≡ 2
unfolding stand_after
stays_two [] at f two = two
stays_two (Session ∷ entries) at f two = stays_two entries (stand_then at Session) f.1 (session_version at ∙ two)
stays_two (Made version keys ∷ entries) at f two = absurd f.0
stays_two (Did request keys ∷ entries) at f two = stays_two entries (stand_then at (Did request keys)) f.1 (did_version at request keys f.0.0 ∙ two)
stays_two (Upgraded keys ∷ entries) at f two = absurd (one_or_two at.keys.version f.0.0 two)

none_upgrades : (before : List Entry) (keys : List (List ℕ)) (rest : List Entry) (at : Stand) → FollowOn at (before ++ Upgraded keys ∷ rest) → at.keys.version ≡ 2 → ⊥
none_upgrades [] keys rest at f two = one_or_two at.keys.version f.0.0 two
none_upgrades (Session ∷ before) keys rest at f two = none_upgrades before keys rest (stand_then at Session) f.1 (session_version at ∙ two)
none_upgrades (Made version drawn ∷ before) keys rest at f two = f.0
none_upgrades (Did request drawn ∷ before) keys rest at f two = none_upgrades before keys rest (stand_then at (Did request drawn)) f.1 (did_version at request drawn f.0.0 ∙ two)
none_upgrades (Upgraded drawn ∷ before) keys rest at f two = one_or_two at.keys.version f.0.0 two

-- of the entries that follow a stand, some lead to where the object is shown; the key is opened, and then the store made strict
abbrev ShownFrom : Stand → List Entry → ℕ → Content → Type 0
ShownFrom at later h c = (since : List Entry) × ((rest : List Entry) × (later ≡ since ++ rest) × IsShownNode (stand_after at since).store h (node_of_piece c.piece))

abbrev OpensBefore : Stand → Past → List Entry → ℕ → ℕ → Type 0
OpensBefore at p later h k = (until : List Entry) × ((keys : List (List ℕ)) × ((rest : List Entry)
    × (later ≡ until ++ Upgraded keys ∷ rest) × Opens (state_of (stand_after at until) (past_after at p until)) (holder_role h) k))

shown_on : (at : Stand) (entry : Entry) (entries : List Entry) (h : ℕ) (c : Content) → ShownFrom (stand_then at entry) entries h c → ShownFrom at (entry ∷ entries) h c
unfolding stand_after
shown_on at entry entries h c w = (entry ∷ w.0, (w.1.0, ap (λ l. entry ∷ l) w.1.1, w.1.2))

opens_on : (at : Stand) (p : Past) (entry : Entry) (entries : List Entry) (h k : ℕ) → OpensBefore (stand_then at entry) (past_entry at p entry) entries h k → OpensBefore at p (entry ∷ entries) h k
unfolding stand_after past_after
opens_on at p entry entries h k w = (entry ∷ w.0, (w.1.0, (w.1.1.0, ap (λ l. entry ∷ l) w.1.1.1, w.1.1.2)))

shown_here : (at : Stand) (later : List Entry) (h : ℕ) (c : Content) → IsShownNode at.store h (node_of_piece c.piece) → ShownFrom at later h c
unfolding stand_after
shown_here at later h c shown = ([], (later, refl, shown))

-- what was made stays made
made_on : (at : Stand) (p : Past) (entry : Entry) (key : Role × ℕ) → In key p.made → In key (past_entry at p entry).made
unfolding past_entry past_then
made_on at p Session key i = i
made_on at p (Made version keys) key i = (In-append (Role × ℕ) key p.made (entry_step at (Made version keys)).given).1 (inl i)
made_on at p (Did request keys) key i = (In-append (Role × ℕ) key p.made (entry_step at (Did request keys)).given).1 (inl i)
made_on at p (Upgraded keys) key i = (In-append (Role × ℕ) key p.made (entry_step at (Upgraded keys)).given).1 (inl i)

-- a piece's object, and whether the content's key was made
module _ (t : Store) (h : ℕ) (c : Content) (sealed : IsSealedPiece t c.piece) where
  abbrev IsMadeKey : Past → Type 0
  IsMadeKey p = In {X = Role × ℕ} (sealing_role c.piece, c.key_serial) p.made

  abbrev OpensNow : Stand → Past → Type 0
  OpensNow at p = Opens (state_of at p) (holder_role h) c.key_serial

  -- what is in reach is shown
  reached_now : (at : Stand) (p : Past) → Kept at p → Reaches (edges at.store) (holder_role h) (sealing_role c.piece) → IsShownNode at.store h (node_of_piece c.piece)
  reached_now at p ok way = reached_shown at.store h c.piece ok.sound (sealed_later t at.store h c.piece ok.sound (upgrade_moves false at.store ok.sound).ends_before sealed way) way

  did_opens : (at : Stand) (p : Past) (request : Request) (keys : List (List ℕ)) → Departing at p → IsDone at request
      → Departing (stand_then at (Did request keys)) (past_entry at p (Did request keys)) → (stand_then at (Did request keys)).keys.version ≡ 2 → IsMadeKey p
      → OpensNow (stand_then at (Did request keys)) (past_entry at p (Did request keys)) → OpensNow at p ⊎ Reaches (edges (stand_then at (Did request keys)).store) (holder_role h) (sealing_role c.piece)
  did_opens at p request keys ok e after two made d =
      opens_or_reaches same_role same_role_tells is_root_role (state_of at p)
      (move_of (edges at.store) (change_of (is_strict at.keys) at.store (note_of at.store request [])) (entry_step at (Did request keys)))
      (state_of (stand_then at (Did request keys)) (past_entry at p (Did request keys)))
      ok.kept.holds (did_step at p request keys ok.kept e) (did_fits at p request keys ok.kept e) (after.leads two)
      (holder_role h) (sealing_role c.piece) c.key_serial (holder_is_root h) made d

  -- a session opens nothing, and neither does an upgrade
  session_opens : (at : Stand) (p : Past) → OpensNow (stand_then at Session) (past_entry at p Session) → OpensNow at p
  unfolding past_entry
  session_opens at p o = subst (λ s. Opens s (holder_role h) c.key_serial) (session_state at p) o

  upgraded_opens : (at : Stand) (p : Past) (keys : List (List ℕ)) → Departing at p → IsMadeKey p → OpensNow (stand_then at (Upgraded keys)) (past_entry at p (Upgraded keys)) → OpensNow at p
  upgraded_opens at p keys ok made d = ⊎_elim
      (λ o. o)
      (λ g. absurd (upgraded_brings at p keys (holder_role h) g.0 g.1))
      (opened_or same_role same_role_tells is_root_role (state_of at p)
      (move_of (edges at.store) (change_of (is_strict at.keys) at.store Upgrade) (entry_step at (Upgraded keys)))
      (state_of (stand_then at (Upgraded keys)) (past_entry at p (Upgraded keys)))
      ok.kept.holds (upgraded_step at p keys ok.kept) (upgraded_fits at p keys ok.kept)
      (holder_role h) (holder_is_root h) (sealing_role c.piece) c.key_serial made d)

  -- in version 2 what is opened in the end is opened now, or shown later
  opened_in_two : (later : List Entry) (at : Stand) (p : Past) → Departing at p → Follow at later → all_fit at later ≡ true → at.keys.version ≡ 2 → IsMadeKey p
      → OpensNow (stand_after at later) (past_after at p later) → OpensNow at p ⊎ ShownFrom at later h c
  unfolding stand_after past_after
  opened_in_two [] at p ok f t two made d = inl d
  opened_in_two (Session ∷ later) at p ok f t two made d = ⊎_elim
      (λ o. inl (session_opens at p o))
      (λ w. inr (shown_on at Session later h c w))
      (opened_in_two later (stand_then at Session) (past_entry at p Session) (session_departs at p ok) f.1 (session_fit at later t) (session_version at ∙ two) (made_on at p Session (sealing_role c.piece, c.key_serial) made) d)
  opened_in_two (Made version keys ∷ later) at p ok f t two made d = absurd f.0
  opened_in_two (Did request keys ∷ later) at p ok f t two made d =
      let entry = Did request keys in
      let count = did_count at request keys later t in
      let after = did_departs at p request keys ok f.0 count.0 in
      let still = did_version at request keys f.0.0 ∙ two in ⊎_elim
      (λ o. ⊎_elim
      (λ before. inl before)
      (λ way. inr (shown_on at entry later h c (shown_here (stand_then at entry) later h c (reached_now (stand_then at entry) (past_entry at p entry) after.kept way))))
      (did_opens at p request keys ok f.0 after still made o))
      (λ w. inr (shown_on at entry later h c w))
      (opened_in_two later (stand_then at entry) (past_entry at p entry) after f.1 count.1 still (made_on at p entry (sealing_role c.piece, c.key_serial) made) d)
  opened_in_two (Upgraded keys ∷ later) at p ok f t two made d = absurd (one_or_two at.keys.version f.0 two)

  -- in a store that comes to have version 2 it was opened before that, or is shown later
  opened_by_two : (later : List Entry) (at : Stand) (p : Past) → Departing at p → Follow at later → all_fit at later ≡ true → (at.keys.version ≡ 2 → ⊥) → IsMadeKey p
      → (stand_after at later).keys.version ≡ 2 → OpensNow (stand_after at later) (past_after at p later) → ShownFrom at later h c ⊎ OpensBefore at p later h c.key_serial
  unfolding stand_after past_after
  opened_by_two [] at p ok f t other made two d = absurd (other two)
  opened_by_two (Session ∷ later) at p ok f t other made two d = ⊎_elim
      (λ w. inl (shown_on at Session later h c w))
      (λ w. inr (opens_on at p Session later h c.key_serial w))
      (opened_by_two later (stand_then at Session) (past_entry at p Session) (session_departs at p ok) f.1 (session_fit at later t) (λ v. other (sym (session_version at) ∙ v)) (made_on at p Session (sealing_role c.piece, c.key_serial) made) two d)
  opened_by_two (Made version keys ∷ later) at p ok f t other made two d = absurd f.0
  opened_by_two (Did request keys ∷ later) at p ok f t other made two d =
      let entry = Did request keys in
      let count = did_count at request keys later t in ⊎_elim
      (λ w. inl (shown_on at entry later h c w))
      (λ w. inr (opens_on at p entry later h c.key_serial w))
      (opened_by_two later (stand_then at entry) (past_entry at p entry) (did_departs at p request keys ok f.0 count.0) f.1 count.1
      (λ v. other (sym (did_version at request keys f.0.0) ∙ v)) (made_on at p entry (sealing_role c.piece, c.key_serial) made) two d)
  opened_by_two (Upgraded keys ∷ later) at p ok f t other made two d =
      let entry = Upgraded keys in
      let count = upgraded_count at keys later t in ⊎_elim
      (λ o. inr ([], (keys, (later, refl, upgraded_opens at p keys ok made o))))
      (λ w. inl (shown_on at entry later h c w))
      (opened_in_two later (stand_then at entry) (past_entry at p entry) (upgraded_departs at p keys ok count.0) f.1 count.1 (upgraded_version at keys)
      (made_on at p entry (sealing_role c.piece, c.key_serial) made) d)

-- both cases from a stand on, where the content was written
departed : (later : List Entry) (before : List Entry) (entry : Entry) (c : Content) (h : ℕ) → IsValid (before ++ entry ∷ later) → IsWritten before entry c
    → (keys_of (before ++ entry ∷ later)).version ≡ 2 → DerivesFor (before ++ entry ∷ later) (TheHolder h) c
    → ShownFrom (stand_after nothing (before ++ entry ∷ [])) later h c ⊎ OpensBefore (stand_after nothing (before ++ entry ∷ [])) (past_of (before ++ entry ∷ [])) later h c.key_serial
unfolding keys_of
departed later before entry c h v i two d =
    let written = before ++ entry ∷ [] in
    let at = stand_after nothing written in
    let p = past_of written in
    let w = written_at before entry later c v i in
    let kept = w.departs.kept in
    let made = kept.holds.once.present (sealing_role c.piece) c.key_serial w.seals.key in
    let last = opens_last before entry later h c d in
    let ends : (stand_after at later).keys.version ≡ 2
    = subst (λ (z : Stand). z.keys.version ≡ 2) (sym (ap (stand_after nothing) (append_assoc before (entry ∷ []) later)) ∙ stand_after-append nothing written later) two in ⊎_elim
    (λ b. inl (⊎_elim
    (λ o. shown_here at later h c (reached_now at.store h c w.seals.sealed at p kept
    (unread is_root_role (state_of at p) kept.holds (holder_role h) (sealing_role c.piece) c.key_serial w.seals.key w.seals.clean o)))
    (λ s. s)
    (opened_in_two at.store h c w.seals.sealed later at p w.departs w.follow w.fit (eqb-true at.keys.version 2 b) made last)))
    (λ b. opened_by_two at.store h c w.seals.sealed later at p w.departs w.follow w.fit (λ s. false≢true (sym b ∙ eq-eqb at.keys.version 2 s)) made ends last)
    (cases_Bool (at.keys.version == 2))

shown_since : (written : Journal) (later : List Entry) (h : ℕ) (c : Content) → ShownFrom (stand_after nothing written) later h c → IsShownSince written later h c
unfolding store_of
shown_since written later h c w = record {
  since = w.0;
  rest = w.1.0;
  parts = w.1.1;
  shown = subst (λ (at : Stand). IsShownNode at.store h (node_of_piece c.piece)) (sym (stand_after-append nothing written w.0)) w.1.2;
}

derived_before : (written : Journal) (later : List Entry) (h : ℕ) (c : Content) → OpensBefore (stand_after nothing written) (past_of written) later h c.key_serial → IsDerivedBefore written later h c
unfolding past_of own_serial
derived_before written later h c w =
    let until = w.0 in
    let stand : stand_after nothing (written ++ until) ≡ stand_after (stand_after nothing written) until = stand_after-append nothing written until in
    let past : past_of (written ++ until) ≡ past_after (stand_after nothing written) (past_of written) until = past_after-append nothing no_past written until in record {
      until = until;
      keys = w.1.0;
      rest = w.1.1.0;
      parts = w.1.1.1;
      derived = (opens_derives (written ++ until) (holder_role h) c.key_serial).0
          (subst (λ at. Opens (state_of at (past_of (written ++ until))) (holder_role h) c.key_serial) (sym stand)
          (subst (λ p. Opens (state_of (stand_after (stand_after nothing written) until) p) (holder_role h) c.key_serial) (sym past) w.1.1.2));
    }

parts_depart : (before : List Entry) (entry : Entry) (later : List Entry) (c : Content) (h : ℕ) → IsValid (before ++ entry ∷ later) → IsWritten before entry c
    → (keys_of (before ++ entry ∷ later)).version ≡ 2 → DerivesFor (before ++ entry ∷ later) (TheHolder h) c
    → IsShownSince (before ++ entry ∷ []) later h c ⊎ IsDerivedBefore (before ++ entry ∷ []) later h c
parts_depart before entry later c h v i two d = ⊎_elim
    (λ s. inl (shown_since (before ++ entry ∷ []) later h c s))
    (λ o. inr (derived_before (before ++ entry ∷ []) later h c o))
    (departed later before entry c h v i two d)

pub keeps_departures : (m : Journal) → IsValid m → (keys_of m).version ≡ 2 → (h : ℕ) → KeepsDepartures m h
keeps_departures m v two h before entry later c e i d =
    parts_depart before entry later c h (subst IsValid e v) i (subst (λ z. (keys_of z).version ≡ 2) e two) (subst (λ z. DerivesFor z (TheHolder h) c) e d)

-- a journal that was made with version 2 has no upgrade
never_upgraded : (before : List Entry) (drawn : List (List ℕ)) (rest : List Entry) (keys : List (List ℕ)) (entries : List Entry)
    → Session ∷ Made 2 keys ∷ entries ≡ before ++ Upgraded drawn ∷ rest → FollowOn (made_stand 2 keys) entries → ⊥
never_upgraded [] drawn rest keys entries e f = absurd cc
never_upgraded (x ∷ []) drawn rest keys entries e f = absurd cc
never_upgraded (x ∷ y ∷ before) drawn rest keys entries e f =
    let same : entries ≡ before ++ Upgraded drawn ∷ rest = cc in
    none_upgrades before drawn rest (made_stand 2 keys) (subst (FollowOn (made_stand 2 keys)) same f) (made_version keys)

made_in_two : (keys : List (List ℕ)) (entries : List Entry) → FollowOn (made_stand 2 keys) entries → (keys_of (Session ∷ Made 2 keys ∷ entries)).version ≡ 2
unfolding keys_of stand_after
made_in_two keys entries f = stays_two entries (made_stand 2 keys) f (made_version keys)

pub closes_departures : (keys : List (List ℕ)) (entries : List Entry) → IsValid (Session ∷ Made 2 keys ∷ entries) → (h : ℕ) → ClosesDepartures (Session ∷ Made 2 keys ∷ entries) h
closes_departures keys entries v h before entry later c e i d =
    let m = Session ∷ Made 2 keys ∷ entries in
    let follow = v.0.1 in ⊎_elim
    (λ s. s)
    (λ w. let parts : m ≡ (before ++ entry ∷ w.until) ++ Upgraded w.keys ∷ w.rest = e ∙ ap (λ l. before ++ entry ∷ l) w.parts ∙ sym (append_assoc before (entry ∷ w.until) (Upgraded w.keys ∷ w.rest)) in
    absurd (never_upgraded (before ++ entry ∷ w.until) w.keys w.rest keys entries parts follow))
    (keeps_departures m v (made_in_two keys entries follow) h before entry later c e i d)
