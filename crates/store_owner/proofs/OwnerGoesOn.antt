-- An owner of a journal who carries out a command goes on as the owner of the journal with it.
use Rattle.std.proofs.Common.{◌≡◌, ℕ, ◌+◌, ◌-◌, ◌≤◌, Bool, true, false, cond, not, List, [], ◌∷◌, ◌++◌, drop, length, replicate, Option, Some, None, append-nil, arith, refl, sym, ap, subst, ◌∙◌}
use Rattle.std.specs.Prelude.{is_some, nat_lt}
use Rattle.std.proofs.lemmas.Bool.{ltb-false}
use Rattle.std.proofs.lemmas.List.{drop-drop}
use Rattle.chacha_seal.specs.Keys.{KeyParts}
use Rattle.chacha_seal.specs.Sealing.{check_of}
use Rattle.chacha_seal.specs.Serials.{Counting}
use Rattle.commit_journal.specs.Image.{Batch}
use Rattle.commit_journal.specs.Journals.{IsJournalOf, Joins, JournalState, next_command, next_epoch as epoch_batch}
use Rattle.commit_journal.specs.Laws.{batch_of}
use Rattle.commit_journal.specs.Placed.{Commands}
use Rattle.commit_journal.specs.Standing.{StandsWhole}
use Rattle.cry_io.specs.Told.{WhereBothTold}
use Rattle.cry_base.specs.Limits.{most_file_bytes, most_store_bytes}
use Rattle.cry_base.specs.Sets.{In}
use Rattle.cry_base.specs.Stepping.{effect}
use Rattle.cry_base.specs.Store.{Store, FolderEntry, FileEntry}
use Rattle.cry_base.specs.declared.commands.Refusal.{Refusal}
use Rattle.cry_base.proofs.Members.{In-map}
use Rattle.cry_base.specs.declared.roles.Edge.{Edge}
use Rattle.folder_nodes.specs.Titles.{tree_store}
use Rattle.key_links.specs.Ringed.{Ringed}
use Rattle.move_plan.specs.Change.{Change}
use Rattle.move_plan.specs.Fitting.{public_of}
use Rattle.record_format.specs.Spelling.{spell_payload}
use Rattle.public_fold.specs.Changing.{tree_then}
use Rattle.public_fold.specs.Fitted.{told_stand, told_step}
use Rattle.public_fold.specs.Heads.{IsSkeleton}
use Rattle.public_fold.specs.Journal.{Journal, Stand, nothing, entry_step, entry_store, first_key, keys_of, note_step, stand_then, stand_after, store_of}
use Rattle.public_fold.specs.Journal.Entry.{Session, Did}
use Rattle.public_fold.specs.KeyStep.{KeyState, Stepped, given, is_strict, key_step, keys_then, next_epoch, next_serial, published, published_edges, renewed, step_with}
use Rattle.public_fold.specs.Preparing.{begun, begun_keys}
use Rattle.public_fold.specs.Records.{Content, Piece, pieces_of, text_of}
use Rattle.public_fold.specs.Standing.{IsSeenAs, PublicView}
use Rattle.public_fold.specs.Told.{told_store}
use Rattle.public_fold.specs.Valid.{IsValid}
use Rattle.public_fold.proofs.Accepting.{accepted}
use Rattle.public_fold.proofs.Counting.{journal_counted}
use Rattle.public_fold.proofs.HeldMarks.{begun_strict}
use Rattle.public_fold.proofs.Keeping.{journal_tree}
use Rattle.public_fold.proofs.Prefixes.{stand_after-append}
use Rattle.public_fold.proofs.SerialsKept.{journal_count}
use Rattle.journal_bytes.specs.Bytes.{batches_of, entry_body, step_payload}
use Rattle.journal_bytes.specs.Folds.{public_stand}
use Rattle.journal_bytes.specs.Keys.{AreWhole, all_keys}
use Rattle.journal_bytes.specs.Notes.{declared_note}
use Rattle.journal_bytes.specs.Owning.{IsTreeOf}
use Rattle.journal_bytes.specs.Script.{answer, answer_with, due_end}
use Rattle.journal_bytes.specs.Sealing.{HoldsKeys, IsSealable, IsTold, keys_with}
use Rattle.journal_bytes.proofs.DueTexts.{sealed}
use Rattle.journal_bytes.proofs.NewTitles.{AreBelow}
use Rattle.journal_bytes.proofs.NextBatches.{batches_then, epoch_of}
use Rattle.journal_bytes.proofs.NextEntry.{between, stand_between}
use Rattle.journal_bytes.proofs.NotesDeclared.{told_back}
use Rattle.journal_bytes.proofs.Ready.{next_holds}
use Rattle.journal_bytes.proofs.Sealable.{content_from}
use Rattle.journal_bytes.proofs.TitlesAfter.{titled_tree, told_tree, tree_back, tree_on}
use Rattle.cry_base.specs.Requests.{Request}
use Rattle.move_plan.specs.Noting.{note_of}
use Rattle.cry_base.specs.Refusing.{refusal_in}
use Rattle.cry_base.proofs.Versions.{accepted_in}
use Rattle.journal_bytes.specs.Texting.{due_key, due_text}
use Rattle.journal_bytes.specs.Upgrading.{upgrade_answer, upgrade_end}
use Rattle.journal_bytes.proofs.NextUpgrade.{no_contents}
use Rattle.store_owner.specs.Deeds.{Deed, deed_answer, deed_draws, deed_end, deed_entry, deed_key, deed_note, deed_refusal, deed_text, deed_then, Suits}
use Rattle.store_owner.specs.Deeds.Deed.{Commanded, Upgrading}
use Rattle.store_owner.proofs.DeedSteps.{deed_begun, deed_body, deed_keys, deed_sealable, deed_same, deed_step, deed_told, deed_told_keys, deed_tree, deed_valid, deed_whole}
use Rattle.store_owner.specs.Applying.{IsCarriedOut, IsSealed, sealed_text}
use Rattle.store_owner.specs.Owned.{IsOwnerOf, OwnerView, counting, limits_in}
use Rattle.store_owner.proofs.Measured.{draws_told, skeleton_is, suits_journal}
use Rattle.store_owner.proofs.OwnerKeeps.{store_kept}

-- ---- an accepted command

answered : (o : Option Refusal) (full : Bool) → answer_with o full ≡ None → (o ≡ None) × (full ≡ false)
unfolding answer_with
answered (Some why) full = λ e. absurd cc
answered None true = λ e. absurd cc
answered None false = λ e. (refl, refl)

pub not_refused : (m : Journal) (r : Deed) (o : OwnerView) → deed_answer (limits_in o) m o.journal.has_epoch r ≡ None
    → (deed_refusal (is_strict (keys_of m)) (store_of m) r o.file_bytes ≡ None) × (deed_end m o.journal.has_epoch r ≤ o.journal.limit)
unfolding answer upgrade_answer store_of keys_of
not_refused m (Commanded r) o fine =
    let both = answered (refusal_in (is_strict (stand_after nothing m).keys) (stand_after nothing m).store r o.file_bytes) (nat_lt o.journal.limit (due_end m o.journal.has_epoch r)) fine in
    (both.0, ltb-false o.journal.limit (due_end m o.journal.has_epoch r) both.1)
not_refused m Upgrading o fine =
    let both = answered None (nat_lt o.journal.limit (upgrade_end m o.journal.has_epoch)) fine in (refl, ltb-false o.journal.limit (upgrade_end m o.journal.has_epoch) both.1)

pub ends_low_is : (m : Journal) (r : Deed) (o : OwnerView) → o.journal.limit ≤ most_store_bytes → deed_answer (limits_in o) m o.journal.has_epoch r ≡ None → deed_end m o.journal.has_epoch r ≤ most_store_bytes
ends_low_is m r o low fine = let end = (not_refused m r o fine).1 in omega (arith, end, low)

-- ---- what is seen of a stand

seen_tree : (v : PublicView) (at : Stand) → IsSeenAs v at → IsTreeOf at.store v.tree
seen_tree v at seen = record {
  folders = ap (λ (s : Store). s.folders) seen.store;
  files = ap (λ (s : Store). s.files) seen.store;
  folders_made = ap (λ (s : Store). s.folders_made) seen.store;
  files_made = ap (λ (s : Store). s.files_made) seen.store;
}

seen_below : (m : Journal) (t : Store) → IsTreeOf (public_of (store_of m)) t → AreBelow t
unfolding public_of
seen_below m t is =
    let counted = journal_counted m in
    record {
      folders = λ e i.
          let w = (In-map FolderEntry FolderEntry (λ (e : FolderEntry). record e { name = [] }) e (store_of m).folders).0 (subst (In e) (sym is.folders) i) in
          let low : w.0.id ≤ (store_of m).folders_made = counted.each_folder w.0 w.1 in
          let same : e.id ≡ w.0.id = ap (λ (x : FolderEntry). x.id) w.2 in
          let made = is.folders_made in
          omega (arith, low, same, made);
      files = λ e i.
          let w = (In-map FileEntry FileEntry (λ (e : FileEntry). record e { name = []; bytes = [] }) e (store_of m).files).0 (subst (In e) (sym is.files) i) in
          let low : w.0.id ≤ (store_of m).files_made = counted.each_file w.0 w.1 in
          let same : e.id ≡ w.0.id = ap (λ (x : FileEntry). x.id) w.2 in
          let made = is.files_made in
          omega (arith, low, same, made);
    }

-- ---- the keys, once the session is begun

starts_hold : (has_begun : Bool) (keys : List KeyParts) (k : KeyState) (ring : Ringed) (counter : Option Counting) (starts : Counting) (epoch : ℕ) → HoldsKeys keys k ring (counting k) → k.count ≤ 4294967296
    → counter ≡ cond has_begun (Some (counting k)) None → cond has_begun (counter ≡ Some starts) (starts ≡ record { epoch = epoch; count = 0 }) → epoch ≡ (begun_keys (not has_begun) k).epoch
    → HoldsKeys keys (begun_keys (not has_begun) k) ring starts
unfolding begun_keys next_epoch
starts_hold true keys k ring counter starts epoch holds few counts is begins =
    let same : counting k ≡ starts = cc in subst (HoldsKeys keys k ring) same holds
starts_hold false keys k ring counter starts epoch holds few counts is begins =
    subst (HoldsKeys keys (next_epoch k) ring) (sym (is ∙ ap (λ (n : ℕ). record { epoch = n; count = 0 }) begins)) (next_holds keys k ring (counting k) holds few)

content_piece : (k : KeyState) (before : List Edge) (c : Change) (pieces : List Piece) (x : Content) → In x (key_step k before c pieces).contents → In x.piece pieces
unfolding key_step step_with published
content_piece k before c pieces x i =
    let plan = renewed k before c in
    (content_from (keys_then k c plan) (next_serial k + length (given k c plan) + length (published_edges before c plan)) pieces x i).0

-- ---- the journal, once the session is begun

abbrev Begins : Bool → JournalState → JournalState → Option (List ℕ) → Option (List ℕ) → Type 0
Begins has_begun ready then was showed = cond has_begun ((then ≡ ready) × (showed ≡ was)) (Joins (epoch_batch ready) ready then was showed × (then.owner ≡ ready.owner))

begun_stands : (has_begun : Bool) (owner : List ℕ) (m : Journal) (ready then : JournalState) (was showed : Option (List ℕ)) → Begins has_begun ready then was showed
    → IsJournalOf (batches_of owner m) ready → IsJournalOf (batches_of owner (between m has_begun)) then
unfolding entry_body
begun_stands true owner m ready then was showed begins stands =
    subst (λ n. IsJournalOf (batches_of owner n) then) (sym (append-nil m)) (subst (IsJournalOf (batches_of owner m)) (sym begins.0) stands)
begun_stands false owner m ready then was showed begins stands =
    subst (λ bs. IsJournalOf bs then) (sym (batches_then owner m Session ready stands)) (begins.0.stands (batches_of owner m) stands)

begun_owner : (has_begun : Bool) (ready then : JournalState) (was showed : Option (List ℕ)) → Begins has_begun ready then was showed → then.owner ≡ ready.owner
begun_owner true ready then was showed begins = ap (λ (j : JournalState). j.owner) begins.0
begun_owner false ready then was showed begins = begins.1

begun_shown : (has_begun : Bool) (owner : List ℕ) (m : Journal) (ready then : JournalState) (was showed : Option (List ℕ)) → Begins has_begun ready then was showed
    → IsJournalOf (batches_of owner m) ready
    → WhereBothTold was showed (λ x y. StandsWhole ready.owner (batches_of owner m) x → StandsWhole ready.owner (batches_of owner (between m has_begun)) y)
unfolding entry_body
begun_shown true owner m ready then was showed begins stands = λ x y e f whole.
    let same : showed ≡ was = begins.1 in
    let one : x ≡ y = cc in
    subst (λ n. StandsWhole ready.owner (batches_of owner n) y) (sym (append-nil m)) (subst (StandsWhole ready.owner (batches_of owner m)) one whole)
begun_shown false owner m ready then was showed begins stands = λ x y e f whole.
    subst (λ bs. StandsWhole ready.owner bs y) (sym (batches_then owner m Session ready stands)) (begins.0.shown (batches_of owner m) stands x y e f whole)

-- what stands behind the log stays
pub drops_more : (a b : ℕ) (x y : List ℕ) → a ≤ b → drop a y ≡ drop a x → drop b y ≡ drop b x
drops_more a b x y fits same =
    let n = b - a in
    let parts : b ≡ a + n = omega (arith, fits) in
    ap (λ k. drop k y) parts ∙ sym (drop-drop n a y) ∙ ap (λ r. drop n r) same ∙ drop-drop n a x ∙ ap (λ k. drop k x) (sym parts)

begun_further : (has_begun : Bool) (ready then : JournalState) (was showed : Option (List ℕ)) → Begins has_begun ready then was showed → ready.end ≤ then.end
begun_further true ready then was showed begins = omega (arith, ap (λ (j : JournalState). j.end) begins.0)
begun_further false ready then was showed begins = begins.0.further

begun_behind : (has_begun : Bool) (owner : List ℕ) (m : Journal) (ready then : JournalState) (was showed : Option (List ℕ)) → Begins has_begun ready then was showed
    → IsJournalOf (batches_of owner m) ready → WhereBothTold was showed (λ x y. StandsWhole ready.owner (batches_of owner m) x → drop then.end y ≡ drop then.end x)
begun_behind true owner m ready then was showed begins stands = λ x y e f whole.
    let same : showed ≡ was = begins.1 in
    let one : y ≡ x = cc in
    ap (λ b. drop then.end b) one
begun_behind false owner m ready then was showed begins stands = begins.0.behind (batches_of owner m) stands

-- the log only grows
pub further_then : (r : Deed) (drawn : List (List ℕ)) (old new : OwnerView) (was shows : Option (List ℕ)) → IsCarriedOut r drawn old new was shows → old.journal.end ≤ new.journal.end
further_then r drawn old new was shows out =
    let sealed = out.sealed in
    let room = ap (λ (j : JournalState). j.end) sealed.has_room in
    let begun = begun_further old.journal.has_epoch sealed.ready sealed.between was sealed.showed sealed.begins in
    omega (arith, room, begun, out.commits.further)

pub told_some : (o : Option (List ℕ)) → is_some o ≡ true → (x : List ℕ) × (o ≡ Some x)
told_some None = λ e. absurd cc
told_some (Some x) = λ e. (x, refl)

module _ (m : Journal) (r : Deed) (drawn : List (List ℕ)) (old : OwnerView) (was : Option (List ℕ)) (is : IsOwnerOf m old) (low : old.journal.limit ≤ most_store_bytes) (bound : old.file_bytes ≤ most_file_bytes)
    (fine : deed_answer (limits_in old) m old.journal.has_epoch r ≡ None) (suits : Suits old.state.keys r) (done : IsSealed r drawn old was) where
  abbrev at : Stand
  at = begun (not old.journal.has_epoch) (stand_after nothing m)

  accepted_is : deed_refusal (is_strict (keys_of m)) (store_of m) r old.file_bytes ≡ None
  accepted_is = (not_refused m r old fine).0

  ends_low : deed_end m old.journal.has_epoch r ≤ most_store_bytes
  ends_low = let end = (not_refused m r old fine).1 in omega (arith, end, low)

  told_skeleton_is : IsSkeleton (told_step (begun (not old.journal.has_epoch) (public_stand m)) (deed_note (store_of m) r (replicate 32 0))) done.skeleton
  told_skeleton_is = done.is_skeleton (public_stand m) (store_of m) is.seen (store_kept m old is)

  step_skeleton : IsSkeleton (entry_step at (deed_entry r drawn)) done.skeleton
  step_skeleton = skeleton_is m (not old.journal.has_epoch) r (replicate 32 0) drawn old.file_bytes accepted_is done.skeleton told_skeleton_is

  many : length drawn ≡ deed_draws m r
  many = done.drawn_count ∙ draws_told m (not old.journal.has_epoch) r (replicate 32 0) old.file_bytes accepted_is done.skeleton told_skeleton_is

  pub valid_then : IsValid (deed_then m old.journal.has_epoch r drawn)
  valid_then = deed_valid m old.journal.has_epoch r drawn old.file_bytes is.valid bound accepted_is (suits_journal m old r is suits) many done.drawn_sizes ends_low

  sealable : IsSealable (entry_step at (deed_entry r drawn))
  sealable =
      subst (λ a. IsSealable (entry_step a (deed_entry r drawn))) (stand_between m old.journal.has_epoch)
      (deed_sealable (between m old.journal.has_epoch) (deed_begun m old.journal.has_epoch r is.valid ends_low) r drawn old.file_bytes
      (subst (λ (a : Stand). deed_refusal (is_strict a.keys) a.store r old.file_bytes ≡ None) (sym (stand_between m old.journal.has_epoch)) (subst (λ (b : Bool). deed_refusal b (stand_after nothing m).store r old.file_bytes ≡ None) (sym (begun_strict (not old.journal.has_epoch) (stand_after nothing m).keys)) (unfold store_of keys_of in accepted_is))))

  command_sealed : (request : Request) → r ≡ Commanded request → (c : Content) → In c (entry_step at (Did request drawn)).contents → text_of c.piece ≡ due_text (store_of m) request ++ due_key request (first_key drawn)
  unfolding entry_step note_step store_of
  command_sealed request one c i =
      let fine : refusal_in (is_strict (keys_of m)) (store_of m) request old.file_bytes ≡ None = subst (λ (d : Deed). deed_refusal (is_strict (keys_of m)) (store_of m) d old.file_bytes ≡ None) one accepted_is in
      sealed (store_of m) request (first_key drawn) [] (accepted (store_of m) request old.file_bytes (accepted_in (is_strict (keys_of m)) (store_of m) request old.file_bytes fine)) (journal_counted m) (journal_tree m is.valid) c.piece
      (content_piece at.keys _ _ (pieces_of (note_of (store_of m) request []) (effect (store_of m) request (first_key drawn))) c i)

  deed_sealed : (d : Deed) → r ≡ d → (c : Content) → In c (entry_step at (deed_entry d drawn)).contents → text_of c.piece ≡ deed_text (store_of m) d ++ deed_key d (first_key drawn)
  deed_sealed (Commanded request) one c i = command_sealed request one c i
  deed_sealed Upgrading one c i = absurd (subst (In c) (no_contents (stand_after nothing m) (not old.journal.has_epoch) drawn) i)

  text_is : (c : Content) → In c (entry_step at (deed_entry r drawn)).contents → text_of c.piece ≡ sealed_text old r drawn
  text_is c i =
      deed_sealed r refl c i
      ∙ ap (λ t. t ++ deed_key r (first_key drawn)) (sym (deed_same (tree_store old.state.tree old.names) (store_of m) r is.tree))

  told : IsTold (entry_step at (deed_entry r drawn)) done.skeleton (sealed_text old r drawn)
  told = record { can_be_sealed = sealable; is_skeleton = step_skeleton; is_text = text_is }

  -- the journal
  pub ready_stands : IsJournalOf (batches_of old.key m) done.ready
  ready_stands =
      subst (IsJournalOf (batches_of old.key m)) (sym done.has_room)
      (record { batches = is.stands.batches; epoch = is.stands.epoch; end = is.stands.end; tag = is.stands.tag })

  pub between_stands : IsJournalOf (batches_of old.key (between m old.journal.has_epoch)) done.between
  between_stands = begun_stands old.journal.has_epoch old.key m done.ready done.between was done.showed done.begins ready_stands

  ready_owner : done.ready.owner ≡ old.key
  ready_owner = ap (λ (j : JournalState). j.owner) done.has_room ∙ is.same_key

  pub between_owner : done.between.owner ≡ old.key
  between_owner = begun_owner old.journal.has_epoch done.ready done.between was done.showed done.begins ∙ ready_owner

  between_epoch : done.between.epoch ≡ at.keys.epoch
  unfolding keys_of
  between_epoch = between_stands.epoch ∙ epoch_of old.key (between m old.journal.has_epoch) ∙ ap (λ (a : Stand). a.keys.epoch) (stand_between m old.journal.has_epoch)

  holds_at : HoldsKeys (all_keys old.key m) at.keys old.ring done.starts
  unfolding keys_of
  holds_at =
      let few = journal_count m is.valid in
      starts_hold old.journal.has_epoch (all_keys old.key m) (stand_after nothing m).keys old.ring old.counter done.starts done.between.epoch is.holds (omega (arith, few)) is.counts done.starts_as between_epoch

  payload_are : done.payload ≡ step_payload (all_keys old.key (deed_then m old.journal.has_epoch r drawn)) (declared_note (deed_note (store_of m) r (check_of (first_key drawn)))) (entry_step at (deed_entry r drawn))
  unfolding store_of
  payload_are =
      let note = deed_note (store_of m) r [] in
      let after = entry_store (store_of m) (deed_entry r drawn) in
      let same = deed_step at r drawn in
      done.payload_is (all_keys old.key m) at note after holds_at (subst (λ (s : Stepped). IsTold s done.skeleton (sealed_text old r drawn)) same told)
      ∙ ap (λ (s : Stepped). step_payload (keys_with (all_keys old.key m) s drawn) done.note s) (sym same)
      ∙ ap (λ keys. step_payload keys done.note (entry_step at (deed_entry r drawn))) (deed_keys old.key m old.journal.has_epoch r drawn)
      ∙ ap (λ note. step_payload (all_keys old.key (deed_then m old.journal.has_epoch r drawn)) note (entry_step at (deed_entry r drawn)))
      (sym (told_back done.note) ∙ ap declared_note (done.told (store_of m) (store_kept m old is)))

  pub batches_are : batches_of old.key (deed_then m old.journal.has_epoch r drawn)
      ≡ batches_of old.key (between m old.journal.has_epoch) ++ next_command done.between (spell_payload done.payload) ∷ []
  unfolding store_of
  batches_are =
      let bs = batches_of old.key (between m old.journal.has_epoch) in
      let keys = all_keys old.key (deed_then m old.journal.has_epoch r drawn) in
      batches_then old.key (between m old.journal.has_epoch) (deed_entry r drawn) done.between between_stands
      ∙ ap (λ a. bs ++ batch_of done.between.batches done.between.epoch (entry_body keys a (deed_entry r drawn)) ∷ []) (stand_between m old.journal.has_epoch)
      ∙ ap (λ body. bs ++ batch_of done.between.batches done.between.epoch body ∷ []) (deed_body keys at r drawn)
      ∙ ap (λ p. bs ++ batch_of done.between.batches done.between.epoch (Commands p) ∷ []) (sym payload_are)

  -- the disk, once the session is begun
  pub between_shown : WhereBothTold was done.showed (λ x y. StandsWhole old.key (batches_of old.key m) x → StandsWhole done.between.owner (batches_of old.key (between m old.journal.has_epoch)) y)
  between_shown = λ x y e f whole.
      let bs = batches_of old.key (between m old.journal.has_epoch) in
      subst (λ key. StandsWhole key bs y) (ready_owner ∙ sym between_owner)
      (begun_shown old.journal.has_epoch old.key m done.ready done.between was done.showed done.begins ready_stands x y e f
      (subst (λ key. StandsWhole key (batches_of old.key m) x) (sym ready_owner) whole))

-- ---- what is committed

module _ (m : Journal) (r : Deed) (drawn : List (List ℕ)) (old new : OwnerView) (was shows : Option (List ℕ)) (is : IsOwnerOf m old) (low : old.journal.limit ≤ most_store_bytes) (bound : old.file_bytes ≤ most_file_bytes)
    (fine : deed_answer (limits_in old) m old.journal.has_epoch r ≡ None) (suits : Suits old.state.keys r) (out : IsCarriedOut r drawn old new was shows) where
  stands_then : IsJournalOf (batches_of old.key (deed_then m old.journal.has_epoch r drawn)) new.journal
  stands_then = subst (λ bs. IsJournalOf bs new.journal) (sym (batches_are m r drawn old was is low bound fine suits out.sealed)) (out.commits.stands (batches_of old.key (between m old.journal.has_epoch)) (between_stands m r drawn old was is low bound fine suits out.sealed))

  -- the store and the keys
  stand_is : stand_after nothing (deed_then m old.journal.has_epoch r drawn) ≡ stand_then (at m r drawn old was is low bound fine suits out.sealed) (deed_entry r drawn)
  unfolding stand_after
  stand_is = stand_after-append nothing (between m old.journal.has_epoch) (deed_entry r drawn ∷ []) ∙ ap (λ a. stand_then a (deed_entry r drawn)) (stand_between m old.journal.has_epoch)

  public_is : public_stand (deed_then m old.journal.has_epoch r drawn) ≡ told_stand (begun (not old.journal.has_epoch) (public_stand m)) (deed_note (store_of m) r (replicate 32 0))
  unfolding public_stand store_of keys_of told_stand stand_then
  public_is =
      ap (λ (a : Stand). record { store = public_of a.store; keys = a.keys }) stand_is
      ∙ (λ i. record {
        store = deed_told (is_strict (keys_of m)) (store_of m) r drawn (replicate 32 0) old.file_bytes (accepted_is m r drawn old was is low bound fine suits out.sealed) i;
        keys = sym (deed_told_keys (is_strict (keys_of m)) (at m r drawn old was is low bound fine suits out.sealed) r (replicate 32 0) drawn old.file_bytes (accepted_is m r drawn old was is low bound fine suits out.sealed)) i;
      })

  seen_then : IsSeenAs new.state (public_stand (deed_then m old.journal.has_epoch r drawn))
  seen_then = subst (IsSeenAs new.state) (sym public_is) (out.seen_then (public_stand m) (store_of m) is.seen (store_kept m old is))

  tree_is : IsTreeOf (tree_store new.state.tree new.names) (store_of (deed_then m old.journal.has_epoch r drawn))
  unfolding public_stand store_of told_stand stand_then
  tree_is =
      let s = store_of m in
      let note = deed_note s r (replicate 32 0) in
      let before : IsTreeOf (public_of s) old.state.tree = seen_tree old.state (public_stand m) is.seen in
      let after = subst (λ (a : Stand). IsTreeOf a.store new.state.tree) public_is (seen_tree new.state (public_stand (deed_then m old.journal.has_epoch r drawn)) seen_then) in
      let same : IsTreeOf new.state.tree (tree_then old.state.tree note) =
      tree_on new.state.tree (told_store (public_of s) note) (tree_then old.state.tree note) (tree_back (told_store (public_of s) note) new.state.tree after)
      (told_tree (public_of s) old.state.tree note before)
      in
      let whole = deed_tree old.state.tree s old.names new.names (seen_below m old.state.tree before) is.tree (is_strict (keys_of m)) r drawn (replicate 32 0) old.file_bytes (accepted_is m r drawn old was is low bound fine suits out.sealed)
      (journal_tree m is.valid) (out.titles_then s is.tree)
      in
      subst (IsTreeOf (tree_store new.state.tree new.names)) (sym (ap (λ (a : Stand). a.store) stand_is))
      (tree_on (tree_store new.state.tree new.names) (tree_store (tree_then old.state.tree note) new.names) (entry_store s (deed_entry r drawn))
      (titled_tree new.state.tree (tree_then old.state.tree note) new.names same) whole)

  holds_then : HoldsKeys (all_keys old.key (deed_then m old.journal.has_epoch r drawn)) (keys_of (deed_then m old.journal.has_epoch r drawn)) new.ring out.ends
  unfolding keys_of stand_then store_of
  holds_then =
      let here = at m r drawn old was is low bound fine suits out.sealed in
      let step = entry_step here (deed_entry r drawn) in
      let same = deed_step here r drawn in
      subst (λ (k : KeyState). HoldsKeys (all_keys old.key (deed_then m old.journal.has_epoch r drawn)) k new.ring out.ends) (sym (ap (λ (a : Stand). a.keys) stand_is))
      (subst (λ keys. HoldsKeys keys step.after new.ring out.ends) (deed_keys old.key m old.journal.has_epoch r drawn)
      (subst (λ (s : Stepped). HoldsKeys (keys_with (all_keys old.key m) s drawn) s.after new.ring out.ends) (sym same)
      (out.keys_then (all_keys old.key m) here (deed_note (store_of m) r []) (entry_store (store_of m) (deed_entry r drawn)) (holds_at m r drawn old was is low bound fine suits out.sealed)
      (subst IsSealable same (sealable m r drawn old was is low bound fine suits out.sealed))
      (subst (λ (s : Stepped). IsSkeleton s out.sealed.skeleton) same (step_skeleton m r drawn old was is low bound fine suits out.sealed)))))

  pub owner_then : IsOwnerOf (deed_then m old.journal.has_epoch r drawn) new
  owner_then =
      let after = deed_then m old.journal.has_epoch r drawn in
      let back = sym out.same_key in
      record {
        valid = (valid_then m r drawn old was is low bound fine suits out.sealed);
        whole_keys = subst (λ key. AreWhole key after) back (deed_whole old.key m old.journal.has_epoch r drawn is.whole_keys out.sealed.drawn_sizes);
        same_key = out.same_owner ∙ (between_owner m r drawn old was is low bound fine suits out.sealed) ∙ back;
        stands = subst (λ key. IsJournalOf (batches_of key after) new.journal) back stands_then;
        seen = seen_then;
        tree = tree_is;
        holds = subst (λ key. HoldsKeys (all_keys key after) (keys_of after) new.ring (counting (keys_of after))) back
            (subst (HoldsKeys (all_keys old.key after) (keys_of after) new.ring) holds_then.is_counted holds_then);
        counts = out.ends_as ∙ ap Some holds_then.is_counted ∙ ap (λ b. cond b (Some (counting (keys_of after))) None) (sym out.has_begun);
      }

  pub disk_then : WhereBothTold was shows (λ x y. StandsWhole old.key (batches_of old.key m) x → StandsWhole old.key (batches_of old.key (deed_then m old.journal.has_epoch r drawn)) y)
  disk_then = λ x y e f whole.
      let bs = batches_of old.key (between m old.journal.has_epoch) in
      let some = told_some out.sealed.showed (out.sealed.stays_told ∙ ap (λ (o : Option (List ℕ)). is_some o) e) in
      let first = between_shown m r drawn old was is low bound fine suits out.sealed x some.0 e some.1 whole in
      let last = out.commits.shown bs (between_stands m r drawn old was is low bound fine suits out.sealed) some.0 y some.1 f first in
      subst (λ (bs : List Batch). StandsWhole old.key bs y) (sym (batches_are m r drawn old was is low bound fine suits out.sealed))
      (subst (λ key. StandsWhole key (bs ++ next_command out.sealed.between (spell_payload out.sealed.payload) ∷ []) y) (between_owner m r drawn old was is low bound fine suits out.sealed) last)

  pub behind_then : WhereBothTold was shows (λ x y. StandsWhole old.key (batches_of old.key m) x → drop new.journal.end y ≡ drop new.journal.end x)
  behind_then = λ x y e f whole.
      let sealed = out.sealed in
      let some = told_some sealed.showed (sealed.stays_told ∙ ap (λ (o : Option (List ℕ)). is_some o) e) in
      let between_whole = between_shown m r drawn old was is low bound fine suits sealed x some.0 e some.1 whole in
      let ready_whole = subst (λ key. StandsWhole key (batches_of old.key m) x) (sym (ready_owner m r drawn old was is low bound fine suits sealed)) whole in
      let first = begun_behind old.journal.has_epoch old.key m sealed.ready sealed.between was sealed.showed sealed.begins (ready_stands m r drawn old was is low bound fine suits sealed)
      x some.0 e some.1 ready_whole in
      let last = out.commits.behind (batches_of old.key (between m old.journal.has_epoch)) (between_stands m r drawn old was is low bound fine suits sealed) some.0 y some.1 f between_whole in
      last ∙ drops_more sealed.between.end new.journal.end x some.0 out.commits.further first
