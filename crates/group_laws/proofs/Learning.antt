-- A holder without grants stays so as long as nothing is a gain, and is shown nothing.
use Rattle.std.proofs.Common.{◌≡◌, ◌⊎◌, ℕ, Bool, List, [], ◌∷◌, ◌++◌, filter, Option, Some, None, inl, inr, ⊎_elim, sym, ap, ◌∙◌, subst, append_assoc}
use Rattle.cry_base.proofs.Members.{In-append, In-filter}
use Rattle.cry_base.specs.Requests.{Request}
use Rattle.cry_base.specs.Requests.Request.{AddHolder, MakeFolder, WriteFile, Remove, Rename, Relocate, Grant, Revoke}
use Rattle.cry_base.specs.Refusing.{granted_id, id_of}
use Rattle.cry_base.specs.Sets.{In}
use Rattle.cry_base.specs.Stepping.{effect, moved, with_bytes_at, with_file, with_folder, with_name, with_new_file, with_new_folder, with_new_holder, without_file, without_folder, without_grant, without_node}
use Rattle.cry_base.specs.Store.{Store, GrantEntry, node_at, root_store, no_store}
use Rattle.cry_base.specs.declared.roles.Node.{Node}
use Rattle.cry_base.specs.declared.roles.Node.TheVariants.{Folder, File}
use Rattle.closure_laws.specs.Gains.{GivesGrant, IsGain, IsWritten}
use Rattle.closure_laws.specs.History.{DerivesFor}
use Rattle.closure_laws.specs.Secrecy.{GainsLater, IsShownNode, node_of_piece}
use Rattle.group_laws.proofs.Viewing.{HasNone, has_none}
use Rattle.public_fold.specs.Journal.{Entry, Journal, Stand, entry_store, first_key, nothing, stand_after, stand_then, store_of}
use Rattle.public_fold.specs.Journal.Entry.{Did, Made, Session, Upgraded}
use Rattle.public_fold.specs.Records.{Content}
use Rattle.public_fold.specs.Valid.{IsValid}
use Rattle.public_fold.proofs.Prefixes.{stand_after-append}
use Rattle.role_graph.specs.Rights.{granted_to}
use Rattle.role_graph.specs.Rights.Who.{TheHolder}
use Rattle.secrecy_laws.proofs.Secrets.{keeps_secret}

less : (p : GrantEntry → Bool) (xs : List GrantEntry) (e : GrantEntry) → (In e xs → ⊥) → In e (filter p xs) → ⊥
less p xs e none i = none (In-filter GrantEntry p e xs i).0

written : (s : Store) (o : Option Node) (path bytes : List ℕ) (h : ℕ) → HasNone s h → HasNone (with_bytes_at s o path bytes) h
unfolding with_bytes_at with_file with_new_file
written s (Some (File x)) path bytes h none = none
written s (Some (Folder f)) path bytes h none = none
written s None path bytes h none = none

removed : (s : Store) (o : Option Node) (h : ℕ) → HasNone s h → HasNone (without_node s o) h
unfolding without_node without_folder without_file
removed s None h none = none
removed s (Some (Folder f)) h none = λ k i. less _ s.grants _ (none k) i
removed s (Some (File x)) h none = λ k i. less _ s.grants _ (none k) i

renamed : (s : Store) (o : Option Node) (name : List ℕ) (h : ℕ) → HasNone s h → HasNone (with_name s o name) h
unfolding with_name with_folder with_file
renamed s None name h none = none
renamed s (Some (Folder f)) name h none = none
renamed s (Some (File x)) name h none = none

relocated : (s : Store) (o : Option Node) (into : ℕ) (h : ℕ) → HasNone s h → HasNone (moved s o into) h
unfolding moved with_folder with_file
relocated s None into h none = none
relocated s (Some (Folder f)) into h none = none
relocated s (Some (File x)) into h none = none

stays_none : (s : Store) (r : Request) (key : List ℕ) (h : ℕ) → HasNone s h → (GivesGrant r h → ⊥) → HasNone (effect s r key) h
unfolding effect with_new_holder with_new_folder without_grant
stays_none s AddHolder key h none gives = none
stays_none s (MakeFolder path) key h none gives = none
stays_none s (WriteFile path bytes) key h none gives = written s (node_at s path) path bytes h none
stays_none s (Remove path) key h none gives = removed s (node_at s path) h none
stays_none s (Rename path name) key h none gives = renamed s (node_at s path) name h none
stays_none s (Relocate path into) key h none gives = relocated s (node_at s path) (id_of (node_at s into)) h none
stays_none s (Grant holder path) key h none gives = λ k i.
    ⊎_elim (λ old. none k old)
    (λ (one : ((let e : GrantEntry = record { holder = h; folder = k } in e) ≡ (let e : GrantEntry = record { holder = holder; folder = granted_id (node_at s path) } in e)) ⊎ ⊥). ⊎_elim (λ same. gives (sym (ap (λ (e : GrantEntry). e.holder) same))) (λ n. absurd n) one)
    ((In-append GrantEntry (record { holder = h; folder = k }) s.grants _).0 i)
stays_none s (Revoke holder path) key h none gives = λ k i. less _ s.grants _ (none k) i

entry_none : (at : Stand) (entry : Entry) (h : ℕ) → HasNone at.store h → (IsGain at entry h → ⊥) → HasNone (stand_then at entry).store h
unfolding stand_then entry_store root_store no_store
entry_none at Session h none gain = none
entry_none at (Made version keys) h none gain = λ k i. absurd i
entry_none at (Did request keys) h none gain = stays_none at.store request (first_key keys) h none (λ g. gain (inl g))
entry_none at (Upgraded keys) h none gain = none

entries_none : (at : Stand) (entries : List Entry) (h : ℕ) → HasNone at.store h → (GainsLater at entries h → ⊥) → HasNone (stand_after at entries).store h
unfolding stand_after
entries_none at [] h none gain = none
entries_none at (entry ∷ entries) h none gain = entries_none (stand_then at entry) entries h (entry_none at entry h none (λ g. gain (inl g))) (λ g. gain (inr g))

gains_front : (at : Stand) (xs ys : List Entry) (h : ℕ) → GainsLater at xs h → GainsLater at (xs ++ ys) h
gains_front at [] ys h g = absurd g
gains_front at (x ∷ xs) ys h g = ⊎_elim (λ a. inl a) (λ b. inr (gains_front (stand_then at x) xs ys h b)) g

gains_back : (at : Stand) (xs ys : List Entry) (h : ℕ) → GainsLater (stand_after at xs) ys h → GainsLater at (xs ++ ys) h
unfolding stand_after
gains_back at [] ys h g = g
gains_back at (x ∷ xs) ys h g = inr (gains_back (stand_then at x) xs ys h g)

-- nothing is shown
none_shown : (s : Store) (h : ℕ) (o : Option Node) → HasNone s h → IsShownNode s h o → ⊥
none_shown s h None none is = is
none_shown s h (Some (Folder f)) none is = ⊎_elim (λ a. none a.0 a.1) (λ w. none w.0 w.1) is.2
none_shown s h (Some (File x)) none is = ⊎_elim (λ a. none a.0 a.1) (λ g. none _ g) is.2

stands_none : (m : Journal) (h : ℕ) → granted_to (store_of m) h ≡ [] → HasNone (stand_after nothing m).store h
unfolding store_of
stands_none m h none = has_none (stand_after nothing m).store h none

pub learns_nothing : (m later : Journal) (h : ℕ) → IsValid (m ++ later) → granted_to (store_of m) h ≡ [] → (GainsLater (stand_after nothing m) later h → ⊥) →
    (front : Journal) (entry : Entry) (back : Journal) (c : Content) → later ≡ front ++ entry ∷ back → IsWritten (m ++ front) entry c → DerivesFor (m ++ later) (TheHolder h) c → ⊥
learns_nothing m later h valid none gain front entry back c is writes =
    let at = stand_after nothing m in
    let split : later ≡ (front ++ entry ∷ []) ++ back = is ∙ sym (append_assoc front (entry ∷ []) back) in
    let no_gain : GainsLater at ((front ++ entry ∷ []) ++ back) h → ⊥ = λ g. gain (subst (λ l. GainsLater at l h) (sym split) g) in
    let there : stand_after nothing ((m ++ front) ++ entry ∷ []) ≡ stand_after at (front ++ entry ∷ []) =
    ap (stand_after nothing) (append_assoc m front (entry ∷ [])) ∙ stand_after-append nothing m (front ++ entry ∷ []) in
    let behind = entries_none at (front ++ entry ∷ []) h (stands_none m h none) (λ g. no_gain (gains_front at (front ++ entry ∷ []) back h g)) in
    keeps_secret (m ++ later) valid h (m ++ front) entry back c
    (ap (λ l. m ++ l) is ∙ sym (append_assoc m front (entry ∷ back)))
    writes
    (λ shown. none_shown (stand_after at (front ++ entry ∷ [])).store h (node_of_piece c.piece) behind (subst (λ (s : Stand). IsShownNode s.store h (node_of_piece c.piece)) there shown))
    (λ g. no_gain (gains_back at (front ++ entry ∷ []) back h (subst (λ (s : Stand). GainsLater s back h) there g)))
