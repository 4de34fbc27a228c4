-- Whole journals: in version 2 present keys of roles that are no roots lead along edges alone.
use Rattle.std.proofs.Common.{◌≡◌, ℕ, ◌<◌, ◌≤◌, ◌^◌, ◌||◌, ◌==◌, Bool, true, false, cond, List, [], ◌∷◌, Option, Some, None, inl, inr, ⊎_elim, refl, sym, ap, ◌∙◌, subst}
use Rattle.std.specs.Prelude.{is_none}
use Rattle.std.proofs.lemmas.Bool.{cases_Bool, false≢true, or_parts}
use Rattle.cry_base.specs.Limits.{most_file_bytes, most_store_bytes}
use Rattle.cry_base.specs.Naming.{parent_path}
use Rattle.cry_base.specs.Requests.{Request, paths_of}
use Rattle.cry_base.specs.Requests.Request.{AddHolder, MakeFolder, WriteFile, Remove, Rename, Relocate, Grant, Revoke}
use Rattle.cry_base.specs.Refusing.{finds_no_path, id_of, is_folder, writes_folder}
use Rattle.cry_base.specs.Sets.{In}
use Rattle.cry_base.specs.Stepping.{effect}
use Rattle.cry_base.specs.Store.{Store, no_store, root_store, node_at}
use Rattle.cry_base.specs.declared.roles.Edge.{Edge}
use Rattle.cry_base.specs.declared.roles.Node.{Node}
use Rattle.cry_base.specs.declared.roles.Node.TheVariants as node
use Rattle.cry_base.specs.declared.roles.Role.{Role}
use Rattle.cry_base.specs.declared.roles.Role.TheVariants.{Owner}
use Rattle.cry_base.proofs.Versions.{accepted_in}
use Rattle.role_graph.specs.Edges.{Reaches, edges, pairs_of}
use Rattle.role_graph.specs.Roles.{is_root_role, is_sealing_role, same_role, variant_of}
use Rattle.role_graph.proofs.Comparing.{same_role_tells}
use Rattle.role_graph.proofs.Typing.{typed}
use Rattle.rekey_walk.specs.Strict.{strict_roles}
use Rattle.rekey_walk.proofs.Sources.{strict_told}
use Rattle.move_plan.specs.Change.{Change, no_change, row_change, change_of, inner_roles, is_upgrade, strict_of}
use Rattle.move_plan.specs.Noting.{note_of, write_note, remove_note, rename_note, move_note}
use Rattle.record_format.specs.Noted.{Note}
use Rattle.record_format.specs.Noted.Note.{Upgrade}
use Rattle.public_fold.specs.Journal.{Entry, Journal, Stand, nothing, first_key, note_step, root_note, entry_step, entry_store, stand_then, stand_after}
use Rattle.public_fold.specs.Journal.Entry.{Session, Made, Did, Upgraded}
use Rattle.public_fold.specs.KeyStep.{KeyState, Stepped, is_strict, no_keys, next_epoch, key_step, step_with, published, version_then}
use Rattle.public_fold.specs.Lengths.{end_of}
use Rattle.public_fold.specs.Records.{pieces_of}
use Rattle.public_fold.specs.StandFits.{all_fit}
use Rattle.public_fold.specs.Valid.{BeginsWell, IsValid}
use Rattle.public_fold.proofs.Accepting.{IsAccepted, accepted}
use Rattle.public_fold.proofs.AllFit.{journal_all_fit}
use Rattle.public_fold.proofs.KeepingKeys.{renewed_told}
use Rattle.public_fold.proofs.KeyMoves.{root_moves, upgrade_moves, nothing_holds, no_edge}
use Rattle.public_fold.proofs.Numbers.{within_made}
use Rattle.public_fold.proofs.StrictMoves.{inner_is}
use Rattle.public_fold.proofs.Versioned.{did_version}
use Rattle.secrecy_laws.specs.Departures.{LeadAlongEdges, RenewsWhatLed, RenewsAllThatLead}
use Rattle.secrecy_laws.specs.Pasts.{Past, no_past, past_entry, past_after, past_of, state_of, move_of}
use Rattle.secrecy_laws.proofs.Journals.{Follow, IsDone, Kept, follow_within, moves, made_stand, made_past, made_fit, made_kept, session_kept, session_fit, did_kept, did_step, did_fits, did_count, upgraded_kept, upgraded_step, upgraded_fits, upgraded_count, first_below, first_holds, owner_alone}
use Rattle.secrecy_laws.proofs.KeySteps.{is_step, fits_step, pair_told, source_is}
use Rattle.secrecy_laws.proofs.Leading.{BeginInside, stays_inside, strict_step_leads, whole_step_leads}

-- a command's note is no upgrade
write_common : (s : Store) (f : ℕ) (o : Option Node) → is_folder o ≡ false → is_upgrade (write_note s o f) ≡ false
unfolding write_note is_folder is_upgrade
write_common s f None t = refl
write_common s f (Some (node.Folder g)) t = absurd (false≢true (sym t))
write_common s f (Some (node.File x)) t = refl

remove_common : (o : Option Node) → is_none o ≡ false → is_upgrade (remove_note o) ≡ false
unfolding remove_note is_upgrade
remove_common None t = absurd (false≢true (sym t))
remove_common (Some (node.Folder g)) t = refl
remove_common (Some (node.File x)) t = refl

rename_common : (o : Option Node) → is_none o ≡ false → is_upgrade (rename_note o) ≡ false
unfolding rename_note is_upgrade
rename_common None t = absurd (false≢true (sym t))
rename_common (Some (node.Folder g)) t = refl
rename_common (Some (node.File x)) t = refl

move_common : (q : ℕ) (o : Option Node) → is_none o ≡ false → is_upgrade (move_note o q) ≡ false
unfolding move_note is_upgrade
move_common q None t = absurd (false≢true (sym t))
move_common q (Some (node.Folder g)) t = refl
move_common q (Some (node.File x)) t = refl

command_common : (s : Store) (r : Request) → IsAccepted s r → is_upgrade (note_of s r []) ≡ false
unfolding note_of is_upgrade finds_no_path writes_folder paths_of
command_common s AddHolder a = refl
command_common s (MakeFolder path) a = refl
command_common s (WriteFile path bytes) a = write_common s (id_of (node_at s (parent_path path))) (node_at s path) a.writes_file
command_common s (Remove path) a = remove_common (node_at s path) (or_parts (is_none (node_at s path)) false a.finds_path).0
command_common s (Rename path name) a = rename_common (node_at s path) (or_parts (is_none (node_at s path)) false a.finds_path).0
command_common s (Relocate path into) a = move_common (id_of (node_at s into)) (node_at s path) (or_parts (is_none (node_at s path)) (is_none (node_at s into) || false) a.finds_path).0
command_common s (Grant holder path) a = refl
command_common s (Revoke holder path) a = refl

-- the version that a store is made with
pub made_version : (keys : List (List ℕ)) → (made_stand 2 keys).keys.version ≡ 2
unfolding stand_then entry_step note_step key_step step_with published version_then change_of row_change no_change root_note
made_version keys = refl

strict_then : (k : KeyState) → k.version ≡ 2 → is_strict k ≡ true
unfolding is_strict
strict_then k two = ap (λ n. n == 2) two

-- what leads to where a removed edge began is strict in version 2
led_is_strict : (s : Store) (note : Note) (e : Edge) (r : Role) → is_upgrade note ≡ false → In e (row_change s note).removed → Reaches (edges s) r e.from → is_root_role r ≡ false
    → (In r (row_change s note).gone → ⊥) → In r (change_of true s note).strict
unfolding change_of strict_of
led_is_strict s note e r common i way no_root stays =
    let row = row_change s note in
    subst (λ b. In r (cond b (inner_roles s) (strict_roles (edges s) row.removed row.gone))) (sym common)
    ((strict_told (edges s) row.removed row.gone r).1 ((e, i, way), (no_root, stays)))

strict_led : (strict : Bool) (s : Store) (note : Note) (e : Edge) (r : Role) → strict ≡ true → is_upgrade note ≡ false → In e (change_of strict s note).removed → Reaches (edges s) r e.from
    → is_root_role r ≡ false → (In r (change_of strict s note).gone → ⊥) → In r (change_of strict s note).strict
unfolding change_of
strict_led strict s note e r t common i way no_root stays =
    subst (λ b. In r (change_of b s note).strict) (sym t) (led_is_strict s note e r common i way no_root stays)

did_renews : (at : Stand) (p : Past) (request : Request) (keys : List (List ℕ)) → Kept at p → IsDone at request → at.keys.version ≡ 2
    → RenewsWhatLed is_root_role (state_of at p) (move_of (edges at.store) (change_of (is_strict at.keys) at.store (note_of at.store request [])) (entry_step at (Did request keys)))
unfolding entry_step note_step key_step step_with published
did_renews at p request keys ok done two q i a way no_root stays =
    let s = at.store in
    let note = note_of s request [] in
    let c = change_of (is_strict at.keys) s note in
    let w = (pair_told c.removed q).0 i in
    (renewed_told s (effect s request (first_key keys)) at.keys c p.links (moves at request keys ok.sound done) ok.keys a).1 (inl
    (strict_led (is_strict at.keys) s note w.0 a (strict_then at.keys two) (command_common s request (accepted s request most_file_bytes (accepted_in (is_strict at.keys) s request most_file_bytes done.0))) w.1
    (subst (λ r. Reaches (edges s) a r) (source_is q w.0 w.2) way) no_root stays))

-- an upgrade renews all that leads on: what is no root and seals nothing
upgrade_inner : (strict : Bool) (s : Store) → (change_of strict s Upgrade).strict ≡ inner_roles s
unfolding change_of strict_of is_upgrade
upgrade_inner strict s = refl

upgraded_renews : (at : Stand) (p : Past) (keys : List (List ℕ)) → Kept at p → BeginInside is_sealing_role (state_of at p)
    → RenewsAllThatLead is_root_role (state_of at p) (move_of (edges at.store) (change_of (is_strict at.keys) at.store Upgrade) (entry_step at (Upgraded keys)))
unfolding entry_step note_step key_step step_with published
upgraded_renews at p keys ok inside a j no_root own =
    let s = at.store in
    let c = change_of (is_strict at.keys) s Upgrade in ⊎_elim
    (λ seals. inr (λ k i. false≢true (sym (inside (j, k) i a (ok.holds.once.present a j own)) ∙ seals)))
    (λ inner. inl (inl ((renewed_told s s at.keys c p.links (upgrade_moves (is_strict at.keys) s ok.sound) ok.keys a).1 (inl
    (subst (λ l. In a l) (sym (upgrade_inner (is_strict at.keys) s)) (inner_is s a ((ok.keys.keyed a).1 (j, own)) no_root inner))))))
    (cases_Bool (is_sealing_role a))

-- what holds of a stand with its past
pub record Departing (at : Stand) (p : Past) : Type 0 where
  pub kept : Kept at p
  pub inside : BeginInside is_sealing_role (state_of at p)
  pub leads : at.keys.version ≡ 2 → LeadAlongEdges is_root_role (state_of at p)

begins_inside : (t : Store) (q : Role × Role) → In q (pairs_of (edges t)) → is_sealing_role q.0 ≡ false
begins_inside t q i =
    let w = (pair_told (edges t) q).0 i in
    ap is_sealing_role (source_is q w.0 w.2) ∙ (typed t w.0 w.1).1

pub session_departs : (at : Stand) (p : Past) → Departing at p → Departing (stand_then at Session) (past_entry at p Session)
session_departs at p ok = record { kept = session_kept at p ok.kept; inside = same_inside at p ok.inside; leads = same_leads at p ok.leads }
  where
    same_inside : (at : Stand) (p : Past) → BeginInside is_sealing_role (state_of at p) → BeginInside is_sealing_role (state_of (stand_then at Session) (past_entry at p Session))
    same_inside at p inside = unfold stand_then entry_store entry_step next_epoch past_entry in inside

    same_leads : (at : Stand) (p : Past) → (at.keys.version ≡ 2 → LeadAlongEdges is_root_role (state_of at p))
        → (stand_then at Session).keys.version ≡ 2 → LeadAlongEdges is_root_role (state_of (stand_then at Session) (past_entry at p Session))
    same_leads at p leads = unfold stand_then entry_store entry_step next_epoch past_entry in leads

pub did_departs : (at : Stand) (p : Past) (request : Request) (keys : List (List ℕ)) → Departing at p → IsDone at request
    → (entry_step at (Did request keys)).after.count < 2 ^ 32 → Departing (stand_then at (Did request keys)) (past_entry at p (Did request keys))
did_departs at p request keys ok e count =
    let old = state_of at p in
    let m = move_of (edges at.store) (change_of (is_strict at.keys) at.store (note_of at.store request [])) (entry_step at (Did request keys)) in
    let new = state_of (stand_then at (Did request keys)) (past_entry at p (Did request keys)) in
    let step = did_step at p request keys ok.kept e in
    let fits = did_fits at p request keys ok.kept e in record {
      kept = did_kept at p request keys ok.kept e count;
      inside = stays_inside same_role same_role_tells is_root_role old m new ok.kept.holds step fits is_sealing_role ok.inside (begins_inside (stand_then at (Did request keys)).store);
      leads = λ two.
          let before = sym (did_version at request keys e.0) ∙ two in
          strict_step_leads same_role same_role_tells is_root_role old m new ok.kept.holds step fits (ok.leads before) (did_renews at p request keys ok.kept e before);
    }

pub upgraded_departs : (at : Stand) (p : Past) (keys : List (List ℕ)) → Departing at p → (entry_step at (Upgraded keys)).after.count < 2 ^ 32
    → Departing (stand_then at (Upgraded keys)) (past_entry at p (Upgraded keys))
upgraded_departs at p keys ok count =
    let old = state_of at p in
    let m = move_of (edges at.store) (change_of (is_strict at.keys) at.store Upgrade) (entry_step at (Upgraded keys)) in
    let new = state_of (stand_then at (Upgraded keys)) (past_entry at p (Upgraded keys)) in
    let step = upgraded_step at p keys ok.kept in
    let fits = upgraded_fits at p keys ok.kept in record {
      kept = upgraded_kept at p keys ok.kept count;
      inside = stays_inside same_role same_role_tells is_root_role old m new ok.kept.holds step fits is_sealing_role ok.inside (begins_inside (stand_then at (Upgraded keys)).store);
      leads = λ two. whole_step_leads same_role same_role_tells is_root_role old m new ok.kept.holds step fits (upgraded_renews at p keys ok.kept ok.inside);
    }

-- at first no role but the owner's has a key
owner_is_root : is_root_role Owner ≡ true
unfolding is_root_role variant_of
owner_is_root = refl

abbrev begun : Stand
begun = record { store = no_store; keys = next_epoch no_keys }

first_leads : LeadAlongEdges is_root_role (state_of begun no_past)
unfolding next_epoch no_keys
first_leads a r j k no_root own i way = absurd (false≢true (sym no_root ∙ ap is_root_role (sym (owner_alone a j own).0) ∙ owner_is_root))

first_inside : BeginInside is_sealing_role (state_of begun no_past)
unfolding no_past
first_inside l i r made = absurd i

abbrev root_made : ℕ → Change
root_made version = change_of false no_store (root_note version)

root_renews : (version : ℕ) (step : Stepped) → RenewsWhatLed is_root_role (state_of begun no_past) (move_of (edges no_store) (root_made version) step)
root_renews version step q i a way no_root stays =
    let w = (pair_told (root_made version).removed q).0 i in absurd (no_edge w.0 ((root_moves version).removed_stand w.0 w.1))

pub made_departs : (version : ℕ) (keys : List (List ℕ)) → (entry_step (stand_then nothing Session) (Made version keys)).after.count < 2 ^ 32 → Departing (made_stand version keys) (made_past version keys)
unfolding stand_then entry_store entry_step note_step nothing past_entry is_strict next_epoch no_keys
made_departs version keys count =
    let note = root_note version in
    let k = next_epoch no_keys in
    let step = key_step k (edges no_store) (root_made version) (pieces_of note root_store) in
    let old = state_of begun no_past in
    let m = move_of (edges no_store) (root_made version) step in
    let new = state_of (made_stand version keys) (made_past version keys) in
    let is = is_step no_store root_store k (root_made version) no_past (pieces_of note root_store) (root_moves version) (unfold no_past in nothing_holds) first_below in
    let fits = fits_step no_store root_store k (root_made version) no_past (pieces_of note root_store) (root_moves version) (unfold no_past in nothing_holds) first_below in record {
      kept = made_kept version keys count;
      inside = stays_inside same_role same_role_tells is_root_role old m new first_holds is fits is_sealing_role first_inside (begins_inside root_store);
      leads = λ two. strict_step_leads same_role same_role_tells is_root_role old m new first_holds is fits first_leads (root_renews version step);
    }

-- after some entries, and in whole journals
after_departs : (entries : List Entry) (at : Stand) (p : Past) → Departing at p → Follow at entries → all_fit at entries ≡ true → Departing (stand_after at entries) (past_after at p entries)
unfolding stand_after past_after
after_departs [] at p ok f t = ok
after_departs (Session ∷ entries) at p ok f t = after_departs entries (stand_then at Session) (past_entry at p Session) (session_departs at p ok) f.1 (session_fit at entries t)
after_departs (Made version keys ∷ entries) at p ok f t = absurd f.0
after_departs (Did request keys ∷ entries) at p ok f t =
    let w = did_count at request keys entries t in
    after_departs entries (stand_then at (Did request keys)) (past_entry at p (Did request keys)) (did_departs at p request keys ok f.0 w.0) f.1 w.1
after_departs (Upgraded keys ∷ entries) at p ok f t =
    let w = upgraded_count at keys entries t in
    after_departs entries (stand_then at (Upgraded keys)) (past_entry at p (Upgraded keys)) (upgraded_departs at p keys ok w.0) f.1 w.1

begun_departs : (m : Journal) → BeginsWell m → end_of m ≤ most_store_bytes → all_fit nothing m ≡ true → Departing (stand_after nothing m) (past_after nothing no_past m)
unfolding stand_after past_after past_entry
begun_departs [] b low t = absurd b
begun_departs (Session ∷ []) b low t = absurd b
begun_departs (Session ∷ Session ∷ es) b low t = absurd b
begun_departs (Session ∷ Made version keys ∷ es) b low t =
    let w = made_fit version keys es t in after_departs es (made_stand version keys) (made_past version keys) (made_departs version keys w.0) (follow_within es (made_stand version keys) b.1 (within_made version keys es low)) w.1
begun_departs (Session ∷ Did request keys ∷ es) b low t = absurd b
begun_departs (Session ∷ Upgraded keys ∷ es) b low t = absurd b
begun_departs (Made version keys ∷ es) b low t = absurd b
begun_departs (Did request keys ∷ es) b low t = absurd b
begun_departs (Upgraded keys ∷ es) b low t = absurd b

pub journal_departs : (m : Journal) → IsValid m → Departing (stand_after nothing m) (past_of m)
unfolding past_of
journal_departs m v = begun_departs m v.0 v.1 (journal_all_fit m v)
