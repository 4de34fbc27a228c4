-- No link leaves a key that is dirty after its command.
use Rattle.std.proofs.Common.{◌≡◌, ℕ, ◌+◌, ◌≤◌, ◌||◌, false, List, [], ◌∷◌, ◌++◌, length, inl, inr, ⊎_elim, sym, ap, ◌∙◌, subst}
use Rattle.std.proofs.lemmas.Bool.{or_cases, false≢true}
use Rattle.cry_base.specs.Limits.{most_file_bytes, most_store_bytes}
use Rattle.cry_base.specs.Sets.{In, has}
use Rattle.cry_base.specs.Store.{Store, no_store, root_store}
use Rattle.cry_base.specs.Stepping.{effect}
use Rattle.cry_base.specs.declared.roles.Edge.{Edge}
use Rattle.cry_base.specs.declared.roles.Role.{Role}
use Rattle.cry_base.proofs.Members.{In-append, In-map, In-filter}
use Rattle.cry_base.proofs.Reaching.{has-in}
use Rattle.role_graph.specs.Roles.{same_role}
use Rattle.role_graph.specs.Edges.{edges, same_edge}
use Rattle.role_graph.proofs.Comparing.{same_role_tells}
use Rattle.move_plan.specs.Change.{Change, change_of}
use Rattle.record_format.specs.Noted.Note.{Upgrade}
use Rattle.move_plan.specs.Noting.{note_of}
use Rattle.public_fold.specs.Journal.{Journal, Entry, Stand, nothing, first_key, note_step, root_note, entry_step, entry_store, stand_then, steps_from, steps_of}
use Rattle.public_fold.specs.Journal.Entry.{Session, Made, Did, Upgraded}
use Rattle.public_fold.specs.Keyed.{KeysHold, LeavesClean}
use Rattle.public_fold.specs.KeyStep.{KeyState, Stepped, is_strict, no_keys, next_epoch, next_serial, numbered, given, keys_then, renewed, dirty_left, edges_then, is_published, published_edges, link_of, links_from, published, step_with, key_step}
use Rattle.public_fold.specs.Records.{Link, Piece, pieces_of}
use Rattle.public_fold.specs.Valid.{FollowOn, BeginsWell, IsValid}
use Rattle.public_fold.proofs.EdgesThen.{then_told}
use Rattle.role_graph.proofs.AtEnds.{same_edge_tells}
use Rattle.public_fold.proofs.KeepingKeys.{IsMove, without_told, marked_stands, marked_no_root, renewed_wanted, closed_then, keys_after}
use Rattle.public_fold.specs.Lengths.{end_of}
use Rattle.public_fold.proofs.Numbers.{IsWithin, numbers_below, within_did, within_made, within_session, within_upgraded}
use Rattle.public_fold.proofs.KeyMoves.{IsSound, effect_sound, root_sound, command_moves, root_moves, upgrade_moves, nothing_holds, epoch_holds}

-- what is numbered is of the list
numbered-of : (n : ℕ) (es : List Edge) (q : Edge × ℕ) → In q (numbered n es) → In q.0 es
unfolding numbered
numbered-of n [] q i = i
numbered-of n (x ∷ xs) q i = ⊎_elim (λ s. inl (ap (λ (z : Edge × ℕ). z.0) s)) (λ r. inr (numbered-of (n + 1) xs q r)) i

module _ (s t : Store) (k : KeyState) (c : Change) (links : List Link) (mv : IsMove s c t) (ok : KeysHold s k links) where
  -- an edge that is published leaves no role that stays dirty
  edge_clean : (e : Edge) → In e (published_edges (edges s) c (renewed k (edges s) c)) → In e.from (dirty_left k (edges s) c) → (In e.from (renewed k (edges s) c) → ⊥) → ⊥
  unfolding published_edges is_published
  edge_clean e i d out =
      let p = renewed k (edges s) c in
      let w = In-filter Edge (is_published c p) e (edges_then (edges s) c) i in
      let new = λ (r : Role) (dirty : In r (dirty_left k (edges s) c)) (f : In r c.fresh). mv.fresh_is_new r f (marked_stands s t k c links mv ok r dirty) in
      ⊎_elim
      (λ u. ⊎_elim
      (λ a. ⊎_elim
      (λ root. false≢true (sym (marked_no_root s t k c links mv ok e.from d) ∙ root))
      (λ v. ⊎_elim
      (λ wanted. out (renewed_wanted s t k c links mv ok e.from d wanted))
      (λ f. new e.from d f) v)
      (mv.sources e (has-in Edge same_edge same_edge_tells c.added e a)))
      (λ b. ⊎_elim out (λ f. new e.from d f) ((In-append Role e.from p c.fresh).0 (has-in Role same_role same_role_tells (p ++ c.fresh) e.from b)))
      (or_cases (has same_edge c.added e) (has same_role (p ++ c.fresh) e.from) u))
      (λ b.
      let to = closed_then s t k c links mv ok e ((mv.leads e).0 ((then_told s c e).0 w.0)) d out in
      ⊎_elim to.1 (λ f. new e.to to.0 f) ((In-append Role e.to p c.fresh).0 (has-in Role same_role same_role_tells (p ++ c.fresh) e.to b)))
      (or_cases (has same_edge c.added e || has same_role (p ++ c.fresh) e.from) (has same_role (p ++ c.fresh) e.to) w.1)

  pub links_clean : (pieces : List Piece) → LeavesClean (key_step k (edges s) c pieces)
  unfolding key_step step_with published links_from link_of
  links_clean pieces l i d =
      let p = renewed k (edges s) c in
      let es = published_edges (edges s) c p in
      let n = next_serial k + length (given k c p) in
      let w = (In-map (Edge × ℕ) Link (link_of (keys_then k c p)) l (numbered n es)).0 i in
      let same : l.edge ≡ w.0.0 = ap (λ (x : Link). x.edge) w.2 in
      let left = (without_told p (dirty_left k (edges s) c) l.edge.from).0 d in
      edge_clean w.0.0 (numbered-of n es w.0 w.1) (subst (λ (e : Edge). In e.from (dirty_left k (edges s) c)) same left.0) (λ r. left.1 (subst (λ (e : Edge). In e.from p) (sym same) r))

after_clean : (entries : List Entry) (at : Stand) (links : List Link) → IsSound at.store → IsWithin at entries → KeysHold at.store at.keys links → FollowOn at entries → (step : Stepped) → In step (steps_from at entries) → LeavesClean step
unfolding stand_then entry_store entry_step note_step steps_from
after_clean [] at links sound few ok f step i = absurd i
after_clean (Session ∷ entries) at links sound few ok f step i = ⊎_elim
    (λ q l j d. subst (In l) (ap (λ (x : Stepped). x.links) q) j)
    (λ r. after_clean entries (stand_then at Session) links sound (within_session at entries few) (epoch_holds at.store at.keys links ok) f.1 step r) i
after_clean (Made version keys ∷ entries) at links sound few ok f step i = absurd f.0
after_clean (Did request keys ∷ entries) at links sound few ok f step i =
    let s = at.store in
    let t = effect s request (first_key keys) in
    let note = note_of s request [] in
    let c = change_of (is_strict at.keys) s note in
    let left = numbers_below at (Did request keys) entries few in
    let mv = command_moves (is_strict at.keys) s request (first_key keys) [] most_file_bytes f.0.0 left sound in
    let here : Stepped = note_step at note t in ⊎_elim
    (λ q. subst LeavesClean (sym q) (links_clean s t at.keys c links mv ok (pieces_of note t)))
    (λ r. after_clean entries (stand_then at (Did request keys)) (links ++ here.links) (effect_sound (is_strict at.keys) s request (first_key keys) most_file_bytes f.0.0 left sound) (within_did at request keys entries few)
    (keys_after s t at.keys c links mv ok (pieces_of note t)) f.1 step r) i
after_clean (Upgraded keys ∷ entries) at links sound few ok f step i =
    let s = at.store in
    let c = change_of (is_strict at.keys) s Upgrade in
    let mv = upgrade_moves (is_strict at.keys) s sound in
    let here : Stepped = note_step at Upgrade s in ⊎_elim
    (λ q. subst LeavesClean (sym q) (links_clean s s at.keys c links mv ok (pieces_of Upgrade s)))
    (λ r. after_clean entries (stand_then at (Upgraded keys)) (links ++ here.links) sound (within_upgraded at keys entries few)
    (keys_after s s at.keys c links mv ok (pieces_of Upgrade s)) f.1 step r) i

begun_clean : (m : Journal) → BeginsWell m → end_of m ≤ most_store_bytes → (step : Stepped) → In step (steps_from nothing m) → LeavesClean step
unfolding stand_then entry_store entry_step note_step steps_from nothing is_strict next_epoch no_keys
begun_clean [] b low step i = absurd b
begun_clean (Session ∷ []) b low step i = absurd b
begun_clean (Session ∷ Session ∷ es) b low step i = absurd b
begun_clean (Session ∷ Made version keys ∷ es) b low step i =
    let at = stand_then (stand_then nothing Session) (Made version keys) in
    let k : KeyState = next_epoch no_keys in
    let root = root_note version in
    let c = change_of false no_store root in
    let here : Stepped = note_step (stand_then nothing Session) root root_store in ⊎_elim
    (λ q l j d. subst (In l) (ap (λ (x : Stepped). x.links) q) j)
    (λ r. ⊎_elim
    (λ q. subst LeavesClean (sym q) (links_clean no_store root_store k c [] (root_moves version) nothing_holds (pieces_of root root_store)))
    (λ u. after_clean es at here.links root_sound (within_made version keys es low) (keys_after no_store root_store k c [] (root_moves version) nothing_holds (pieces_of root root_store)) b.1 step u) r) i
begun_clean (Session ∷ Did request keys ∷ es) b low step i = absurd b
begun_clean (Session ∷ Upgraded keys ∷ es) b low step i = absurd b
begun_clean (Made version keys ∷ es) b low step i = absurd b
begun_clean (Did request keys ∷ es) b low step i = absurd b
begun_clean (Upgraded keys ∷ es) b low step i = absurd b

pub journal_clean : (m : Journal) → IsValid m → (step : Stepped) → In step (steps_of m) → LeavesClean step
unfolding steps_of
journal_clean m v step i = begun_clean m v.0 v.1 step i
