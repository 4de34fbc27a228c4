-- What holds of a stand holds of the state that is seen as it: the order of the grants alone may differ.
use Rattle.std.proofs.Common.{◌≡◌, ℕ, ◌^◌, ◌<◌, List, [], ◌∷◌, inl, inr, ⊎_elim, refl, sym, ap, ◌∙◌, subst}
use Rattle.std.specs.Prelude.{IsTrue}
use Rattle.cry_base.specs.Sets.{In}
use Rattle.cry_base.specs.Store.{Store, GrantEntry, no_store}
use Rattle.cry_base.specs.declared.roles.Edge.{Edge}
use Rattle.cry_base.specs.declared.roles.Role.{Role}
use Rattle.cry_base.specs.declared.roles.Role.TheVariants.{Owner, Holder, Clear, Sub, Back, Files, Data, File}
use Rattle.role_graph.specs.Edges.{edges, has_grants}
use Rattle.public_fold.specs.Journal.{Stand}
use Rattle.public_fold.specs.Keyed.{HasRole, KeysHold, SerialsHold}
use Rattle.public_fold.specs.KeyStep.{KeyState}
use Rattle.public_fold.specs.Records.{Link}
use Rattle.public_fold.specs.Rooted.{IsRooted, MayStand}
use Rattle.public_fold.specs.Standing.{AreSameGrants, IsSeenAs, PublicView, public_store_of, stand_of}
use Rattle.public_fold.specs.Turns.{StandHolds}
use Rattle.public_fold.proofs.SeenSame.{edges_same, granting, has_same}

none_in : (gs : List GrantEntry) → ((g : GrantEntry) → In g gs → ⊥) → gs ≡ []
none_in [] none = refl
none_in (g ∷ gs) none = absurd (none g (inl refl))

module _ (s : Store) (gs hs : List GrantEntry) (are : AreSameGrants gs hs) where
  rooted_alike : IsRooted (granting s hs) → IsRooted (granting s gs)
  rooted_alike ok = record {
    counted = record { each_folder = ok.counted.each_folder; each_file = ok.counted.each_file; each_holder = ok.counted.each_holder };
    numbered = ok.numbered;
    own_file = ok.own_file;
    root_stands = ok.root_stands;
    folder_level = ok.folder_level;
    file_folder = ok.file_folder;
    granted_stands = λ g i. ok.granted_stands g ((are.same g).0 i);
    held = λ g i. ok.held g ((are.same g).0 i);
    folders_below = ok.folders_below;
    files_below = ok.files_below;
  }

  both_none : granting s hs ≡ no_store → granting s gs ≡ no_store
  unfolding no_store
  both_none e =
      let none : hs ≡ [] = ap (λ (z : Store). z.grants) e in
      let here : gs ≡ [] = none_in gs (λ g i. subst (λ l. In g l) none ((are.same g).0 i)) in
      ap (granting s) (here ∙ sym none) ∙ e

  stands_alike : MayStand (granting s hs) → MayStand (granting s gs)
  stands_alike ok = ⊎_elim (λ e. inl (both_none e)) (λ r. inr (rooted_alike r)) ok

  clearance_alike : (c : ℕ) → IsTrue (has_grants (granting s hs) c) → IsTrue (has_grants (granting s gs) c)
  clearance_alike c t = subst IsTrue (sym (has_same s gs hs are c)) t

  role_alike : (r : Role) → HasRole (granting s hs) r → HasRole (granting s gs) r
  role_alike Owner w = w
  role_alike (Holder h) w = w
  role_alike (Clear f) w = ⊎_elim (λ u. inl u) (λ u. inr (u.0, clearance_alike f.0 u.1)) w
  role_alike (Sub f) w = w
  role_alike (Back f) w = w
  role_alike (Files f) w = w
  role_alike (Data f) w = w
  role_alike (File x) w = w

  clearance_back : (c : ℕ) → IsTrue (has_grants (granting s gs) c) → IsTrue (has_grants (granting s hs) c)
  clearance_back c t = subst IsTrue (has_same s gs hs are c) t

  role_back : (r : Role) → HasRole (granting s gs) r → HasRole (granting s hs) r
  role_back Owner w = w
  role_back (Holder h) w = w
  role_back (Clear f) w = ⊎_elim (λ u. inl u) (λ u. inr (u.0, clearance_back f.0 u.1)) w
  role_back (Sub f) w = w
  role_back (Back f) w = w
  role_back (Files f) w = w
  role_back (Data f) w = w
  role_back (File x) w = w

  keys_alike : (k : KeyState) (links : List Link) → KeysHold (granting s hs) k links → KeysHold (granting s gs) k links
  keys_alike k links ok =
      let there = λ (e : Edge) (i : In e (edges (granting s gs))). subst (λ l. In e l) (edges_same s gs hs are) i in record {
        closed = λ e i. ok.closed e (there e i);
        no_root = ok.no_root;
        dirty_stands = λ r i. role_alike r (ok.dirty_stands r i);
        linked = λ e i. ok.linked e (there e i);
        keyed = λ r. (λ w. (ok.keyed r).0 (role_back r w), λ w. role_alike r ((ok.keyed r).1 w));
      }

pub holds_seen : (v : PublicView) (at : Stand) (links : List Link) → IsSeenAs v at → StandHolds at links → StandHolds (stand_of v) links
holds_seen v at links seen ok =
    let s = public_store_of v in
    let gs = at.store.grants in record {
      store = stands_alike s v.pairs gs seen.grants (subst MayStand seen.store ok.store);
      keys = keys_alike s v.pairs gs seen.grants v.keys links
          (subst (λ z. KeysHold z v.keys links) seen.store (subst (λ k. KeysHold at.store k links) seen.keys ok.keys));
      serials = subst SerialsHold seen.keys ok.serials;
      count = subst (λ (k : KeyState). k.count < 2 ^ 32) seen.keys ok.count;
    }
