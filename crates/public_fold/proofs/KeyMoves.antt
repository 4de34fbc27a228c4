-- Each command is a move of edges and roles, so what holds of the keys holds in every valid journal.
use Rattle.std.proofs.Common.{◌≡◌, ℕ, ◌<◌, ◌≤◌, Bool, true, false, cond, ◌==◌, ◌↔◌, List, [], ◌∷◌, ◌++◌, Some, None, inr, refl, sym, ap, subst, append_assoc, append-nil}
use Rattle.cry_base.specs.Clearances.{clear_base}
use Rattle.cry_base.specs.Limits.{most_file_bytes, most_store_bytes}
use Rattle.cry_base.specs.Sets.{In}
use Rattle.cry_base.specs.Requests.{Request}
use Rattle.cry_base.specs.Store.{Store, no_store, root_store}
use Rattle.cry_base.specs.Refusing.{refusal_in}
use Rattle.cry_base.specs.Stepping.{effect}
use Rattle.cry_base.specs.declared.roles.Role.{Role}
use Rattle.cry_base.specs.declared.roles.Role.TheVariants.{Owner, Holder, Clear, Sub, Back, Files, Data, File}
use Rattle.cry_base.proofs.Versions.{accepted_in}
use Rattle.role_graph.specs.Roles.{same_role, variant_of, role_id}
use Rattle.cry_base.specs.declared.roles.Edge.{Edge}
use Rattle.role_graph.specs.Edges.{edges}
use Rattle.role_graph.proofs.Edging.{edges_told}
use Rattle.public_fold.proofs.EdgesThen.{then_told}
use Rattle.move_plan.specs.Change.{change_of, row_change}
use Rattle.record_format.specs.Noted.Note.{Root, StrictRoot, Upgrade}
use Rattle.move_plan.specs.Fitting.{fits, public_of}
use Rattle.move_plan.specs.Noting.{note_of}
use Rattle.public_fold.specs.Journal.{Journal, Entry, Stand, nothing, first_key, note_step, root_note, entry_step, entry_store, stand_then, stand_after, steps_from, steps_of, store_of, keys_of}
use Rattle.public_fold.specs.Journal.Entry.{Session, Made, Did, Upgraded}
use Rattle.public_fold.specs.Keyed.{HasRole, KeysHold, links_of}
use Rattle.public_fold.specs.KeyStep.{KeyState, edges_then, is_strict, no_keys, next_epoch, newest}
use Rattle.public_fold.specs.Lengths.{end_of}
use Rattle.public_fold.specs.Records.{Link, pieces_of}
use Rattle.public_fold.specs.Rooted.{IsRooted}
use Rattle.public_fold.specs.Told.{told_store}
use Rattle.public_fold.specs.Valid.{FollowOn, BeginsWell, IsValid}
use Rattle.public_fold.proofs.Accepting.{accepted}
use Rattle.public_fold.proofs.Commanded.{AreAlike, edge_alike, effect_alike, granted_alike, holder_alike, role_alike}
use Rattle.public_fold.proofs.Counting.{effect_counted}
use Rattle.public_fold.proofs.Keeping.{HasTree, effect_tree, root_tree}
use Rattle.public_fold.proofs.KeepingKeys.{IsMove, keys_after}
use Rattle.public_fold.proofs.Levels.{level_stands}
use Rattle.public_fold.proofs.NoteMoves.{no_role, upgrade_row, note_moves, note_rooted, root_rooted, root_row}
use Rattle.public_fold.proofs.NotesFit as notes
use Rattle.public_fold.proofs.Numbers.{HasNumbers, IsWithin, journal_numbers, numbers_below, within_did, within_made, within_session, within_upgraded}
use Rattle.public_fold.proofs.StrictMoves.{IsRowMove, strict_moves}
pub use Rattle.public_fold.proofs.RowEnds.{no_edge}

-- what holds of a store beside its keys
pub record IsSound (s : Store) : Type 0 where
  pub tree : HasTree s
  pub rooted : IsRooted s

pub root_sound : IsSound root_store
root_sound = record { tree = root_tree; rooted = root_rooted }

-- the note of a command that a store accepts fits it, where there are numbers left
pub command_fits : (strict : Bool) (s : Store) (r : Request) (check : List ℕ) (n : ℕ) → refusal_in strict s r n ≡ None → HasNumbers s → IsSound s → fits strict s (note_of s r check) ≡ true
command_fits strict s r check n q few ok = notes.accepted_fits strict s r check n q few ok.tree

-- the command leaves what its note leaves, as everyone may see it
pub command_alike : (strict : Bool) (s : Store) (r : Request) (key check : List ℕ) (n : ℕ) → refusal_in strict s r n ≡ None → AreAlike (effect s r key) (told_store s (note_of s r check))
command_alike strict s r key check n q = effect_alike s r key check (accepted s r n (accepted_in strict s r n q))

made_alike : (s t : Store) → AreAlike s t → (s.folders_made ≡ t.folders_made) × (s.files_made ≡ t.files_made) × (s.grants ≡ t.grants)
unfolding public_of
made_alike s t same = (ap (λ (z : Store). z.folders_made) same, ap (λ (z : Store). z.files_made) same, ap (λ (z : Store). z.grants) same)

pub effect_sound : (strict : Bool) (s : Store) (r : Request) (key : List ℕ) (n : ℕ) → refusal_in strict s r n ≡ None → HasNumbers s → IsSound s → IsSound (effect s r key)
effect_sound strict s r key n q few ok =
    let t = effect s r key in
    let note = note_of s r [] in
    let u = told_store s note in
    let alike : AreAlike t u = command_alike strict s r key [] n q in
    let after : IsRooted u = note_rooted strict s note (command_fits strict s r [] n q few ok) (inr ok.rooted) in
    let tree : HasTree t = effect_tree s r key (accepted s r n (accepted_in strict s r n q)) ok.rooted.counted ok.tree in
    let same = made_alike t u alike in record {
      tree = tree;
      rooted = record {
        counted = effect_counted s r key ok.rooted.counted;
        numbered = tree.numbered;
        own_file = tree.own_file;
        root_stands = tree.root_stands;
        folder_level = λ e i. let l = tree.folder_level e i in (l.0, l.1);
        file_folder = λ x i. let l = tree.file_level x i in level_stands l.0 t.folders x.folder l.1;
        granted_stands = λ g i. granted_alike u t g.folder (sym alike) (after.granted_stands g (subst (In g) same.2 i));
        held = λ g i. holder_alike u t g.holder (sym alike) (after.held g (subst (In g) same.2 i));
        folders_below = subst (λ m. m < clear_base) (sym same.0) after.folders_below;
        files_below = subst (λ m. m < clear_base) (sym same.1) after.files_below;
      };
    }

pub command_moves : (strict : Bool) (s : Store) (r : Request) (key check : List ℕ) (n : ℕ) → refusal_in strict s r n ≡ None → HasNumbers s → IsSound s → IsMove s (change_of strict s (note_of s r check)) (effect s r key)
command_moves strict s r key check n q few ok =
    let t = effect s r key in
    let note = note_of s r check in
    let u = told_store s note in
    let mv = note_moves strict s note (command_fits strict s r check n q few ok) (inr ok.rooted) in
    let alike : AreAlike t u = command_alike strict s r key check n q in record {
      leads = λ e. (λ w. edge_alike u t e (sym alike) ((mv.leads e).0 w), λ w. (mv.leads e).1 (edge_alike t u e alike w));
      roles = λ role. (λ h. (mv.roles role).0 (role_alike t u role alike h), λ w. role_alike u t role (sym alike) ((mv.roles role).1 w));
      removed_stand = mv.removed_stand;
      fresh_is_new = mv.fresh_is_new;
      fresh_stays = mv.fresh_stays;
      sources = mv.sources;
      ends_before = mv.ends_before;
      ends_after = λ e w. let h = mv.ends_after e (edge_alike t u e alike w) in (role_alike u t e.from (sym alike) h.0, role_alike u t e.to (sym alike) h.1);
      strict_stand = mv.strict_stand;
      strict_seals_none = mv.strict_seals_none;
      strict_back = mv.strict_back;
    }

-- so is an upgrade, which leaves all as it stands
pub upgrade_moves : (strict : Bool) (s : Store) → IsSound s → IsMove s (change_of strict s Upgrade) s
upgrade_moves strict s ok = strict_moves strict s s Upgrade (upgrade_row s ok.rooted)

-- and the root's making, from nothing
either_root : (strict : Bool) → IsRowMove no_store (row_change no_store (cond strict StrictRoot Root)) root_store
unfolding row_change
either_root true = root_row 2
either_root false = root_row 1

pub root_moves : (version : ℕ) → IsMove no_store (change_of false no_store (root_note version)) root_store
unfolding root_note
root_moves version = strict_moves false no_store root_store (root_note version) (either_root (version == 2))

-- before the first entry the owner's key alone is there
no_keyed : (r : Role) → (n : ℕ) × (newest ((Owner, 0) ∷ []) r ≡ Some n) → HasRole no_store r
unfolding newest same_role variant_of no_store
no_keyed Owner w = tt
no_keyed (Holder k) w = let e : None ≡ Some w.0 = w.1 in absurd cc
no_keyed (Clear f) w = let e : None ≡ Some w.0 = w.1 in absurd cc
no_keyed (Sub f) w = let e : None ≡ Some w.0 = w.1 in absurd cc
no_keyed (Back f) w = let e : None ≡ Some w.0 = w.1 in absurd cc
no_keyed (Files f) w = let e : None ≡ Some w.0 = w.1 in absurd cc
no_keyed (Data f) w = let e : None ≡ Some w.0 = w.1 in absurd cc
no_keyed (File x) w = let e : None ≡ Some w.0 = w.1 in absurd cc

owner_keyed : (n : ℕ) × (newest ((Owner, 0) ∷ []) Owner ≡ Some n)
unfolding newest same_role variant_of role_id
owner_keyed = (0, refl)

pub nothing_holds : KeysHold no_store (next_epoch no_keys) []
unfolding next_epoch no_keys
nothing_holds = record {
  closed = λ e i d. absurd d;
  no_root = λ r d. absurd d;
  dirty_stands = λ r d. absurd d;
  linked = λ e i. absurd (no_edge e ((edges_told no_store e).0 i));
  keyed = λ r. (λ h. subst (λ x. (n : ℕ) × (newest ((Owner, 0) ∷ []) x ≡ Some n)) (sym (no_role r h)) owner_keyed, λ w. no_keyed r w);
}

-- an epoch changes no key
pub epoch_holds : (s : Store) (k : KeyState) (links : List Link) → KeysHold s k links → KeysHold s (next_epoch k) links
unfolding next_epoch
epoch_holds s k links ok = record { closed = ok.closed; no_root = ok.no_root; dirty_stands = ok.dirty_stands; linked = ok.linked; keyed = ok.keyed }

more_links : (s : Store) (k : KeyState) (xs ys : List Link) → xs ≡ ys → KeysHold s k xs → KeysHold s k ys
more_links s k xs ys e ok = subst (KeysHold s k) e ok

after_holds : (entries : List Entry) (at : Stand) (links : List Link) → IsSound at.store → IsWithin at entries → KeysHold at.store at.keys links → FollowOn at entries → KeysHold (stand_after at entries).store (stand_after at entries).keys (links ++ links_of (steps_from at entries))
unfolding stand_after stand_then entry_store entry_step note_step steps_from links_of
after_holds [] at links sound few ok f = more_links at.store at.keys links (links ++ []) (sym (append-nil links)) ok
after_holds (Session ∷ entries) at links sound few ok f = after_holds entries (stand_then at Session) links sound (within_session at entries few) (epoch_holds at.store at.keys links ok) f.1
after_holds (Made version keys ∷ entries) at links sound few ok f = absurd f.0
after_holds (Did request keys ∷ entries) at links sound few ok f =
    let s = at.store in
    let strict = is_strict at.keys in
    let left = numbers_below at (Did request keys) entries few in
    let t = effect s request (first_key keys) in
    let note = note_of s request [] in
    let step = note_step at note t in
    let on = after_holds entries (stand_then at (Did request keys)) (links ++ step.links) (effect_sound strict s request (first_key keys) most_file_bytes f.0.0 left sound) (within_did at request keys entries few)
    (keys_after s t at.keys (change_of strict s note) links (command_moves strict s request (first_key keys) [] most_file_bytes f.0.0 left sound) ok (pieces_of note t)) f.1 in
    more_links (stand_after (stand_then at (Did request keys)) entries).store (stand_after (stand_then at (Did request keys)) entries).keys
    ((links ++ step.links) ++ links_of (steps_from (stand_then at (Did request keys)) entries)) (links ++ (step.links ++ links_of (steps_from (stand_then at (Did request keys)) entries)))
    (append_assoc links step.links (links_of (steps_from (stand_then at (Did request keys)) entries))) on
after_holds (Upgraded keys ∷ entries) at links sound few ok f =
    let s = at.store in
    let step = note_step at Upgrade s in
    let next = stand_then at (Upgraded keys) in
    let on = after_holds entries next (links ++ step.links) sound (within_upgraded at keys entries few)
    (keys_after s s at.keys (change_of (is_strict at.keys) s Upgrade) links (upgrade_moves (is_strict at.keys) s sound) ok (pieces_of Upgrade s)) f.1 in
    more_links (stand_after next entries).store (stand_after next entries).keys
    ((links ++ step.links) ++ links_of (steps_from next entries)) (links ++ (step.links ++ links_of (steps_from next entries)))
    (append_assoc links step.links (links_of (steps_from next entries))) on

begun_holds : (m : Journal) → BeginsWell m → end_of m ≤ most_store_bytes → KeysHold (stand_after nothing m).store (stand_after nothing m).keys (links_of (steps_from nothing m))
unfolding stand_after stand_then entry_store entry_step note_step steps_from links_of nothing is_strict next_epoch no_keys
begun_holds [] b low = absurd b
begun_holds (Session ∷ []) b low = absurd b
begun_holds (Session ∷ Session ∷ es) b low = absurd b
begun_holds (Session ∷ Made version keys ∷ es) b low =
    let at = stand_then (stand_then nothing Session) (Made version keys) in
    let root = root_note version in
    let step = note_step (stand_then nothing Session) root root_store in
    after_holds es at step.links root_sound (within_made version keys es low) (keys_after no_store root_store (next_epoch no_keys) (change_of false no_store root) [] (root_moves version) nothing_holds (pieces_of root root_store)) b.1
begun_holds (Session ∷ Did request keys ∷ es) b low = absurd b
begun_holds (Session ∷ Upgraded keys ∷ es) b low = absurd b
begun_holds (Made version keys ∷ es) b low = absurd b
begun_holds (Did request keys ∷ es) b low = absurd b
begun_holds (Upgraded keys ∷ es) b low = absurd b

pub journal_holds : (m : Journal) → IsValid m → KeysHold (store_of m) (keys_of m) (links_of (steps_of m))
unfolding store_of keys_of steps_of
journal_holds m v = begun_holds m v.0 v.1

-- ---- the store of a valid journal is sound

after_sound : (entries : List Entry) (at : Stand) → IsSound at.store → IsWithin at entries → FollowOn at entries → IsSound (stand_after at entries).store
unfolding stand_after
after_sound [] at sound few f = sound
after_sound (Session ∷ entries) at sound few f = after_sound entries (stand_then at Session) (unfold stand_then entry_store in sound) (within_session at entries few) f.1
after_sound (Made version keys ∷ entries) at sound few f = absurd f.0
after_sound (Did request keys ∷ entries) at sound few f =
    let sound_then = effect_sound (is_strict at.keys) at.store request (first_key keys) most_file_bytes f.0.0 (numbers_below at (Did request keys) entries few) sound in
    after_sound entries (stand_then at (Did request keys)) (unfold stand_then entry_store in sound_then) (within_did at request keys entries few) f.1
after_sound (Upgraded keys ∷ entries) at sound few f = after_sound entries (stand_then at (Upgraded keys)) (unfold stand_then entry_store in sound) (within_upgraded at keys entries few) f.1

begun_sound : (m : Journal) → BeginsWell m → end_of m ≤ most_store_bytes → IsSound (stand_after nothing m).store
unfolding stand_after
begun_sound [] b low = absurd b
begun_sound (Session ∷ []) b low = absurd b
begun_sound (Session ∷ Session ∷ es) b low = absurd b
begun_sound (Session ∷ Made version keys ∷ es) b low =
    after_sound es (stand_then (stand_then nothing Session) (Made version keys)) (unfold stand_then entry_store in root_sound) (within_made version keys es low) b.1
begun_sound (Session ∷ Did request keys ∷ es) b low = absurd b
begun_sound (Session ∷ Upgraded keys ∷ es) b low = absurd b
begun_sound (Made version keys ∷ es) b low = absurd b
begun_sound (Did request keys ∷ es) b low = absurd b
begun_sound (Upgraded keys ∷ es) b low = absurd b

pub journal_sound : (m : Journal) → IsValid m → IsSound (store_of m)
unfolding store_of
journal_sound m v = begun_sound m v.0 v.1

-- the edges of a step are the edges of the store after it
pub edges_after : (strict : Bool) (m : Journal) → IsValid m → (r : Request) (key check : List ℕ) (n : ℕ) → refusal_in strict (store_of m) r n ≡ None → (e : Edge) → In e (edges_then (edges (store_of m)) (change_of strict (store_of m) (note_of (store_of m) r check))) ↔ In e (edges (effect (store_of m) r key))
edges_after strict m v r key check n q e =
    let s = store_of m in
    let told = then_told s (change_of strict s (note_of s r check)) e in
    let on = (command_moves strict s r key check n q (journal_numbers m v) (journal_sound m v)).leads e in
    let after = edges_told (effect s r key) e in (λ i. after.1 (on.0 (told.0 i)), λ i. told.1 (on.1 (after.0 i)))
