-- An owner with other room for what is to come is the same owner.
use Rattle.std.proofs.Common.{◌≡◌, ℕ, ◌+◌, ◌≤◌, cond, List, [], Option, None, Some, refl, sym, ap, subst, ◌∙◌, inl, inr}
use Rattle.chacha_seal.specs.Keys.{KeyParts}
use Rattle.chacha_seal.specs.Serials.{Counting}
use Rattle.commit_journal.specs.Journals.{JournalState}
use Rattle.cry_base.specs.Requests.{Request}
use Rattle.cry_base.specs.Requests.Request.{AddHolder, MakeFolder, WriteFile, Remove, Rename, Relocate, Grant, Revoke}
use Rattle.cry_base.specs.Store.{Store, node_at}
use Rattle.cry_base.specs.declared.roles.Node.{Node}
use Rattle.cry_base.specs.declared.roles.Node.TheVariants.{Folder, File}
use Rattle.folder_nodes.specs.Joining.{IsSet}
use Rattle.folder_nodes.specs.Titles.{Title, Titles, bytes_in, is_node, new_title, title_at, title_of, tree_store}
use Rattle.grant_book.specs.Granted.{Granted}
use Rattle.key_links.specs.Ringed.{Ringed, key_of}
use Rattle.key_links.specs.declared.any_key.AnyKey.{AnyKey}
use Rattle.public_fold.specs.Journal.{Journal, Stand, keys_of}
use Rattle.public_fold.specs.KeyStep.{KeyState, is_strict}
use Rattle.public_fold.specs.Standing.{IsSeenAs, PublicView, with_room_of}
use Rattle.journal_bytes.specs.Keys.{all_keys}
use Rattle.journal_bytes.specs.Owning.{IsStoreOf}
use Rattle.journal_bytes.specs.Sealing.{HoldsKeys}
use Rattle.journal_bytes.specs.Texting.{AreKept, AreTitlesAfter, IsRemoved, IsRenamed, IsWritten, name_at}
use Rattle.store_owner.specs.Deeds.{AreDeedTitles, Deed, deed_refusal, IsDeedChange, Suits}
use Rattle.store_owner.specs.Applying.{HasOtherRoom, IsCarriedOut, IsInterrupted, IsSealed}
use Rattle.store_owner.specs.Deeds.Deed.{Commanded, Upgrading}
use Rattle.store_owner.specs.Owned.{IsOwnerOf, OwnerView, counting}
use Rattle.store_owner.specs.Planning.{IsDrafted}
use Rattle.store_owner.specs.declared.counted.Counted.{Counted}
use Rattle.command_plan.specs.NameChanges.{IsRenaming, IsNameChangeOf}
use Rattle.store_owner.specs.Published.{PublishesWithin}
use Rattle.store_owner.specs.Sound.{IsSound, granted_in, own_store}
use Rattle.store_owner.specs.Stopping.{HandsAll, StopsWithin}
use Rattle.store_owner.specs.declared.change.Change.{Change}
use Rattle.command_plan.specs.declared.name_change.NameChange.{NameChange}

-- the owner with this room
abbrev with_room : OwnerView → ℕ → ℕ → ℕ → ℕ → ℕ → OwnerView
with_room o b c d e f = record {
  key = o.key;
  journal = record o.journal { room = b };
  state = record o.state { spare = e; key_spare = f };
  names = record { folders = o.names.folders; files = o.names.files; spare = c };
  ring = record { keys = o.ring.keys; spare = d };
  counter = o.counter;
  file_bytes = o.file_bytes;
  tally = o.tally;
}

abbrev owner : List ℕ → JournalState → PublicView → List Title → List Title → ℕ → List AnyKey → ℕ → Option Counting → ℕ → Counted → OwnerView
owner key journal state folders files c keys d counter file_bytes tally = record {
  key = key;
  journal = journal;
  state = state;
  names = record { folders = folders; files = files; spare = c };
  ring = record { keys = keys; spare = d };
  counter = counter;
  file_bytes = file_bytes;
  tally = tally;
}

has_room : (old new : OwnerView) → HasOtherRoom old new → new ≡ with_room old new.journal.room new.names.spare new.ring.spare new.state.spare new.state.key_spare
has_room old new h =
    ap (λ x. owner x new.journal new.state new.names.folders new.names.files new.names.spare new.ring.keys new.ring.spare new.counter new.file_bytes new.tally) h.key
    ∙ ap (λ x. owner old.key x new.state new.names.folders new.names.files new.names.spare new.ring.keys new.ring.spare new.counter new.file_bytes new.tally) h.journal
    ∙ ap (λ x. owner old.key (record old.journal { room = new.journal.room }) x new.names.folders new.names.files new.names.spare new.ring.keys new.ring.spare new.counter new.file_bytes new.tally) h.state
    ∙ ap (λ x. owner old.key (record old.journal { room = new.journal.room }) (with_room_of old.state new.state) x new.names.files new.names.spare new.ring.keys new.ring.spare new.counter new.file_bytes new.tally) h.folder_names
    ∙ ap (λ x. owner old.key (record old.journal { room = new.journal.room }) (with_room_of old.state new.state) old.names.folders x new.names.spare new.ring.keys new.ring.spare new.counter new.file_bytes new.tally) h.file_names
    ∙ ap (λ x. owner old.key (record old.journal { room = new.journal.room }) (with_room_of old.state new.state) old.names.folders old.names.files new.names.spare x new.ring.spare new.counter new.file_bytes new.tally) h.ring_keys
    ∙ ap (λ x. owner old.key (record old.journal { room = new.journal.room }) (with_room_of old.state new.state) old.names.folders old.names.files new.names.spare old.ring.keys new.ring.spare x new.file_bytes new.tally) h.counter
    ∙ ap (λ x. owner old.key (record old.journal { room = new.journal.room }) (with_room_of old.state new.state) old.names.folders old.names.files new.names.spare old.ring.keys new.ring.spare old.counter x new.tally) h.file_bytes
    ∙ ap (λ x. owner old.key (record old.journal { room = new.journal.room }) (with_room_of old.state new.state) old.names.folders old.names.files new.names.spare old.ring.keys new.ring.spare old.counter old.file_bytes x) h.tally

held_still : (keys : List KeyParts) (k : KeyState) (ring : Ringed) (d : ℕ) (counter : Counting) → HoldsKeys keys k ring counter → HoldsKeys keys k (record { keys = ring.keys; spare = d }) counter
unfolding key_of
held_still keys k ring d counter h = record { has_present = h.has_present; drawn_below = h.drawn_below; present_below = h.present_below; is_counted = h.is_counted }

sound_with : (o : OwnerView) (b c d e f : ℕ) → IsSound o → IsSound (with_room o b c d e f)
unfolding tree_store
sound_with o b c d e f s = record {
  at = s.at;
  keys = s.keys;
  goes_on = s.goes_on;
  seen = s.seen;
  same_epoch = s.same_epoch;
  held = held_still s.keys _ o.ring d _ s.held;
  counts = s.counts;
  sized = s.sized;
  bounded = s.bounded;
}

pub sound_still : (old new : OwnerView) → HasOtherRoom old new → IsSound old → IsSound new
sound_still old new h s = subst IsSound (sym (has_room old new h)) (sound_with old _ _ _ _ _ s)

pub seen_still : (old new : OwnerView) → HasOtherRoom old new → (at : Stand) → IsSeenAs old.state at → IsSeenAs new.state at
seen_still old new h at seen = subst (λ (o : OwnerView). IsSeenAs o.state at) (sym (has_room old new h)) seen

pub limit_still : (old new : OwnerView) → HasOtherRoom old new → (most : ℕ) → old.journal.limit ≤ most → new.journal.limit ≤ most
limit_still old new h most low = subst (λ (o : OwnerView). o.journal.limit ≤ most) (sym (has_room old new h)) low

store_with : (t s : Store) (n : Titles) (c : ℕ) (g : Granted) → IsStoreOf t n g s → IsStoreOf t (record { folders = n.folders; files = n.files; spare = c }) g s
unfolding tree_store
store_with t s n c g h = record { tree = h.tree; grants = h.grants }

store_before : (t s : Store) (n : Titles) (c : ℕ) (g : Granted) → IsStoreOf t (record { folders = n.folders; files = n.files; spare = c }) g s → IsStoreOf t n g s
unfolding tree_store
store_before t s n c g h = record { tree = h.tree; grants = h.grants }

-- the names with other room
abbrev named : Titles → ℕ → Titles
named n c = record { folders = n.folders; files = n.files; spare = c }

title_with : (n : Titles) (c : ℕ) (node : Node) → title_of (named n c) node ≡ title_of n node
title_with n c (Folder f) = refl
title_with n c (File x) = refl

renaming_with : (p : NameChange) (n : Titles) (c : ℕ) (found : Option Node) (name : List ℕ) → IsRenaming p n found name → IsRenaming p (named n c) found name
renaming_with p n c None name h = h
renaming_with p n c (Some (Folder f)) name h = h
renaming_with p n c (Some (File x)) name h = h

name_change_with : (t : Store) (r : Request) (n : Titles) (c : ℕ) (p : NameChange) → IsNameChangeOf t r n p → IsNameChangeOf t r (named n c) p
name_change_with t AddHolder n c p h = h
name_change_with t (MakeFolder path) n c p h = h
name_change_with t (WriteFile path bytes) n c p h = h
name_change_with t (Remove path) n c p h = h
name_change_with t (Rename path name) n c p h = renaming_with p n c (node_at t path) name h
name_change_with t (Relocate path into) n c p h = h
name_change_with t (Grant holder path) n c p h = h
name_change_with t (Revoke holder path) n c p h = h

kept_before : (n new : Titles) (c : ℕ) → AreKept (named n c) new → AreKept n new
kept_before n new c h = record { folders = h.folders; files = h.files }

set_before : (n new : Titles) (c : ℕ) (node : Node) (name bytes : List ℕ) → IsSet (named n c) new node name bytes → IsSet n new node name bytes
set_before n new c node name bytes h = λ other. h other ∙ ap (cond (is_node node other) (Some (new_title node name bytes))) (title_with n c other)

written_before : (made : ℕ) (n new : Titles) (c : ℕ) (found : Option Node) (name bytes : List ℕ) → IsWritten made (named n c) new found name bytes → IsWritten made n new found name bytes
written_before made n new c None name bytes h = set_before n new c (File (record { 0 = made + 1 })) name bytes h
written_before made n new c (Some (Folder f)) name bytes h = kept_before n new c h
written_before made n new c (Some (File x)) name bytes h = set_before n new c (File x) name bytes h

removed_before : (n new : Titles) (c : ℕ) (found : Option Node) → IsRemoved (named n c) new found → IsRemoved n new found
removed_before n new c None h = kept_before n new c h
removed_before n new c (Some node) h = λ other. h other ∙ ap (cond (is_node node other) None) (title_with n c other)

renamed_before : (n new : Titles) (c : ℕ) (found : Option Node) (name : List ℕ) → IsRenamed (named n c) new found name → IsRenamed n new found name
renamed_before n new c None name h = kept_before n new c h
renamed_before n new c (Some (Folder f)) name h = set_before n new c (Folder f) name [] h
renamed_before n new c (Some (File x)) name h = set_before n new c (File x) name (bytes_in (title_at n.files x.0)) h

titles_before : (s : Store) (r : Request) (n new : Titles) (c : ℕ) → AreTitlesAfter s r (named n c) new → AreTitlesAfter s r n new
titles_before s AddHolder n new c h = kept_before n new c h
titles_before s (MakeFolder path) n new c h = set_before n new c (Folder (record { 0 = s.folders_made + 1 })) (name_at path) [] h
titles_before s (WriteFile path bytes) n new c h = written_before s.files_made n new c (node_at s path) (name_at path) bytes h
titles_before s (Remove path) n new c h = removed_before n new c (node_at s path) h
titles_before s (Rename path name) n new c h = renamed_before n new c (node_at s path) name h
titles_before s (Relocate path into) n new c h = kept_before n new c h
titles_before s (Grant holder path) n new c h = kept_before n new c h
titles_before s (Revoke holder path) n new c h = kept_before n new c h

-- of what is asked
deed_change_with : (t : Store) (d : Deed) (n : Titles) (c : ℕ) (p : NameChange) → IsDeedChange t d n p → IsDeedChange t d (named n c) p
deed_change_with t (Commanded r) n c p h = name_change_with t r n c p h
deed_change_with t Upgrading n c p h = h

deed_titles_before : (s : Store) (d : Deed) (n new : Titles) (c : ℕ) → AreDeedTitles s d (named n c) new → AreDeedTitles s d n new
deed_titles_before s (Commanded r) n new c h = titles_before s r n new c h
deed_titles_before s Upgrading n new c h = kept_before n new c h

pub store_still : (s : Store) (old new : OwnerView) → HasOtherRoom old new → IsStoreOf old.state.tree old.names (granted_in old) s → IsStoreOf new.state.tree new.names (granted_in new) s
store_still s old new h is = subst (λ (o : OwnerView). IsStoreOf o.state.tree o.names (granted_in o) s) (sym (has_room old new h)) (store_with old.state.tree s old.names _ (granted_in old) is)

drafted_with : (r : Deed) (o : OwnerView) (p : Change) (b c d e f : ℕ) → IsDrafted r o p → IsDrafted r (with_room o b c d e f) p
unfolding tree_store
drafted_with r o p b c d e f h = record {
  told = λ s is. h.told s (store_before o.state.tree s o.names c (granted_in o) is);
  same_note = h.same_note;
  is_skeleton = h.is_skeleton;
  can_settle = record { note_fits = h.can_settle.note_fits; begins = h.can_settle.begins; leaves = h.can_settle.leaves };
  seen_then = h.seen_then;
  fits = h.fits;
  text_is = h.text_is;
  text_room = h.text_room;
  titles_are = deed_change_with (tree_store o.state.tree o.names) r o.names c p.titles h.titles_are;
}

pub drafted_still : (r : Deed) (old new : OwnerView) (p : Change) → HasOtherRoom old new → IsDrafted r old p → IsDrafted r new p
drafted_still r old new p h d = subst (λ (o : OwnerView). IsDrafted r o p) (sym (has_room old new h)) (drafted_with r old p _ _ _ _ _ d)

sealed_before : (r : Deed) (drawn : List (List ℕ)) (o : OwnerView) (was : Option (List ℕ)) (b c d e f : ℕ) → IsSealed r drawn (with_room o b c d e f) was → IsSealed r drawn o was
unfolding tree_store
sealed_before r drawn o was b c d e f h = record {
  note = h.note;
  skeleton = h.skeleton;
  payload = h.payload;
  ready = h.ready;
  between = h.between;
  showed = h.showed;
  starts = h.starts;
  drawn_count = h.drawn_count;
  drawn_sizes = h.drawn_sizes;
  told = λ s is. h.told s (store_with o.state.tree s o.names c (granted_in o) is);
  is_skeleton = λ at s seen is. h.is_skeleton at s seen (store_with o.state.tree s o.names c (granted_in o) is);
  has_room = h.has_room;
  begins = h.begins;
  stays_told = h.stays_told;
  starts_as = h.starts_as;
  payload_is = λ keys at other after held is. h.payload_is keys at other after (held_still keys at.keys o.ring d h.starts held) is;
}

carried_before : (r : Deed) (drawn : List (List ℕ)) (o new : OwnerView) (was shows : Option (List ℕ)) (b c d e f : ℕ) → IsCarriedOut r drawn (with_room o b c d e f) new was shows → IsCarriedOut r drawn o new was shows
unfolding tree_store sealed_before
carried_before r drawn o new was shows b c d e f h = record {
  sealed = sealed_before r drawn o was b c d e f h.sealed;
  ends = h.ends;
  same_key = h.same_key;
  same_bound = h.same_bound;
  seen_then = λ at s seen is. h.seen_then at s seen (store_with o.state.tree s o.names c (granted_in o) is);
  keys_then = λ keys at other after held can is. h.keys_then keys at other after (held_still keys at.keys o.ring d h.sealed.starts held) can is;
  ends_as = h.ends_as;
  commits = h.commits;
  same_owner = h.same_owner;
  same_epoch = h.same_epoch;
  has_begun = h.has_begun;
  same_limit = h.same_limit;
  titles_then = λ s tree. deed_titles_before s r o.names new.names c (h.titles_then s tree);
}

interrupted_before : (r : Deed) (drawn : List (List ℕ)) (o : OwnerView) (was shows : Option (List ℕ)) (b c d e f : ℕ) → IsInterrupted r drawn (with_room o b c d e f) was shows → IsInterrupted r drawn o was shows
unfolding sealed_before
interrupted_before r drawn o was shows b c d e f (inl early) = inl early
interrupted_before r drawn o was shows b c d e f (inr late) = inr (sealed_before r drawn o was b c d e f late.0, late.1)

pub interrupted_from : (r : Deed) (drawn : List (List ℕ)) (old between : OwnerView) (was shows : Option (List ℕ)) → HasOtherRoom old between → IsInterrupted r drawn between was shows → IsInterrupted r drawn old was shows
interrupted_from r drawn old between was shows h c = interrupted_before r drawn old was shows _ _ _ _ _ (subst (λ (o : OwnerView). IsInterrupted r drawn o was shows) (has_room old between h) c)

pub carried_from : (r : Deed) (drawn : List (List ℕ)) (old between new : OwnerView) (was shows : Option (List ℕ)) → HasOtherRoom old between → IsCarriedOut r drawn between new was shows → IsCarriedOut r drawn old new was shows
carried_from r drawn old between new was shows h c = carried_before r drawn old new was shows _ _ _ _ _ (subst (λ (o : OwnerView). IsCarriedOut r drawn o new was shows) (has_room old between h) c)

pub accepted_still : (r : Deed) (old new : OwnerView) → HasOtherRoom old new → deed_refusal (is_strict old.state.keys) (own_store old) r old.file_bytes ≡ None → deed_refusal (is_strict new.state.keys) (own_store new) r new.file_bytes ≡ None
unfolding tree_store
accepted_still r old new h accepted = subst (λ (o : OwnerView). deed_refusal (is_strict o.state.keys) (own_store o) r o.file_bytes ≡ None) (sym (has_room old new h)) accepted

owner_with : (o : OwnerView) (b c d e f : ℕ) (m : Journal) → IsOwnerOf m o → IsOwnerOf m (with_room o b c d e f)
unfolding tree_store
owner_with o b c d e f m is = record {
  valid = is.valid;
  whole_keys = is.whole_keys;
  same_key = is.same_key;
  stands = record { batches = is.stands.batches; epoch = is.stands.epoch; end = is.stands.end; tag = is.stands.tag };
  seen = is.seen;
  tree = is.tree;
  holds = held_still (all_keys o.key m) (keys_of m) o.ring d (counting (keys_of m)) is.holds;
  counts = is.counts;
}

pub suits_still : (d : Deed) (old new : OwnerView) → HasOtherRoom old new → Suits old.state.keys d → Suits new.state.keys d
suits_still d old new h suits = subst (λ (o : OwnerView). Suits o.state.keys d) (sym (has_room old new h)) suits

pub owner_still : (m : Journal) (old new : OwnerView) → HasOtherRoom old new → IsOwnerOf m old → IsOwnerOf m new
owner_still m old new h is = subst (IsOwnerOf m) (sym (has_room old new h)) (owner_with old _ _ _ _ _ m is)

stops_before : (r : Deed) (drawn : List (List ℕ)) (o : OwnerView) (was shows : Option (List ℕ)) (might may : List ℕ → Type 0) (since : List ℕ → List ℕ → Type 0) (b c d e f : ℕ)
    → StopsWithin r drawn (with_room o b c d e f) was shows might may since → StopsWithin r drawn o was shows might may since
stops_before r drawn o was shows might may since b c d e f h = λ m is low bound fine. h m (owner_with o b c d e f m is) low bound fine

pub stops_from : (r : Deed) (drawn : List (List ℕ)) (old between : OwnerView) (was shows : Option (List ℕ)) (might may : List ℕ → Type 0) (since : List ℕ → List ℕ → Type 0) → HasOtherRoom old between
    → StopsWithin r drawn between was shows might may since → StopsWithin r drawn old was shows might may since
stops_from r drawn old between was shows might may since h c =
    stops_before r drawn old was shows might may since _ _ _ _ _ (subst (λ (o : OwnerView). StopsWithin r drawn o was shows might may since) (has_room old between h) c)

handed_before : (r : Deed) (drawn : List (List ℕ)) (o : OwnerView) (was shows : Option (List ℕ)) (b c d e f : ℕ)
    → HandsAll r drawn (with_room o b c d e f) was shows → HandsAll r drawn o was shows
handed_before r drawn o was shows b c d e f h = λ m is low bound fine. h m (owner_with o b c d e f m is) low bound fine

pub handed_from : (r : Deed) (drawn : List (List ℕ)) (old between : OwnerView) (was shows : Option (List ℕ)) → HasOtherRoom old between
    → HandsAll r drawn between was shows → HandsAll r drawn old was shows
handed_from r drawn old between was shows h c =
    handed_before r drawn old was shows _ _ _ _ _ (subst (λ (o : OwnerView). HandsAll r drawn o was shows) (has_room old between h) c)

published_before : (r : Deed) (o : OwnerView) (was : Option (List ℕ)) (might : List ℕ → Type 0) (on : (List ℕ → List ℕ → Type 0) → Type 0) (b c d e f : ℕ)
    → PublishesWithin r (with_room o b c d e f) was might on → PublishesWithin r o was might on
published_before r o was might on b c d e f h = λ m is low bound fine rests. h m (owner_with o b c d e f m is) low bound fine rests

pub published_from : (r : Deed) (old between : OwnerView) (was : Option (List ℕ)) (might : List ℕ → Type 0) (on : (List ℕ → List ℕ → Type 0) → Type 0) → HasOtherRoom old between
    → PublishesWithin r between was might on → PublishesWithin r old was might on
published_from r old between was might on h c =
    published_before r old was might on _ _ _ _ _ (subst (λ (o : OwnerView). PublishesWithin r o was might on) (has_room old between h) c)
