-- Present keys have serials of their own below the counter, and no epoch's count runs over.
use Rattle.std.proofs.Common.{◌≡◌, ◌≢◌, ℕ, suc, ◌+◌, ◌*◌, ◌^◌, ◌≤◌, ◌<◌, Bool, true, false, cond, not, ◌==◌, ◌&&◌, ◌||◌, ◌⊎◌, List, [], ◌∷◌, ◌++◌, filter, length, Option, Some, None, inl, inr, ⊎_elim, refl, sym, ap, ◌∙◌, subst, arith, length-append}
use Rattle.std.specs.Prelude.{nat_lt}
use Rattle.std.specs.List.{sum_by}
use Rattle.std.proofs.lemmas.Bool.{or_right, or_parts, and_parts, and_from, or_cases, or_left, not_from_false, false≢true, cases_Bool, ltb-true, lt-ltb, ltb-false, eqb-true, eq-eqb, cases_order}
use Rattle.std.proofs.lemmas.List.{length-map}
use Rattle.std.proofs.lemmas.List.Sums.{sum_by-cons}
use Rattle.cry_base.specs.Layout.{batch_len, header_len}
use Rattle.cry_base.specs.Limits.{most_file_bytes, most_store_bytes}
use Rattle.cry_base.specs.Sets.{In, has}
use Rattle.cry_base.specs.Store.{Store, FileEntry, root_store, no_store}
use Rattle.cry_base.specs.Stepping.{effect, without_grant}
use Rattle.cry_base.specs.Clearances.{clear_number, file_of}
use Rattle.cry_base.specs.declared.roles.Edge.{Edge}
use Rattle.cry_base.specs.declared.roles.Role.{Role}
use Rattle.cry_base.specs.declared.roles.Role.TheVariants.{Owner, Holder, Clear, Sub, Back, Files, Data, File}
use Rattle.cry_base.proofs.Members.{In-append, filter-In}
use Rattle.cry_base.proofs.Reaching.{in-has}
use Rattle.role_graph.specs.Roles.{same_role, role_before, variant_of, role_id, is_root_role, clear_of, sub_of, back_of, files_of, data_of, file_role, folder_roles}
use Rattle.role_graph.specs.Edges.{edge, edges, same_edge, folder_edges, file_edge, clearance_edges, grant_edge, has_grants, IsEdge}
use Rattle.role_graph.specs.RightsByReach.{HasFolder, IsClearance}
use Rattle.role_graph.proofs.Comparing.{same_role_tells}
use Rattle.role_graph.specs.Ascending.{with_role, ascending}
use Rattle.move_plan.specs.Change.{Change, no_change, row_change, change_of, edges_at, edges_of_first, given_on, taken_from, without_roles}
use Rattle.record_format.specs.Noted.{Note}
use Rattle.record_format.specs.Noted.Note.{Root, NewHolder, NewFolder, NewFile, Rewrite, NameFile, NameFolder, DropFile, DropFolder, ShiftFile, ShiftFolder, Give, Take, StrictRoot, Upgrade}
use Rattle.move_plan.specs.Noting.{note_of}
use Rattle.public_fold.specs.Journal.{Journal, Entry, Stand, nothing, first_key, note_step, root_note, entry_step, entry_store, stand_then, stand_after, keys_of}
use Rattle.public_fold.specs.Journal.Entry.{Session, Made, Did, Upgraded}
use Rattle.public_fold.specs.Keyed.{HasRole, KeysHold, SerialsHold}
use Rattle.public_fold.specs.KeyStep.{KeyState, Stepped, is_strict, no_keys, next_epoch, renewed, next_serial, numbered, given, keys_then, keys_without, newest, edges_then, published_edges, is_published, links_from, contents_from, published, step_with, key_step}
use Rattle.public_fold.specs.Lengths.{content_len, payload_len, entry_payload, payloads_from, end_of}
use Rattle.public_fold.specs.Records.{Link, Piece, Content, pieces_of}
use Rattle.public_fold.specs.Valid.{FollowOn, BeginsWell, IsValid}
use Rattle.public_fold.proofs.Levels.{filter_shorter}
use Rattle.public_fold.proofs.Serials.{numbered-between, numbered-length}
use Rattle.public_fold.proofs.EdgesThen.{clear_is, file_is, then_told}
use Rattle.public_fold.proofs.KeepingKeys.{IsMove, newest-first, numbered-some, renewed_stands, same_key, no_key, in_or, keys_after}
use Rattle.public_fold.proofs.Numbers.{IsWithin, numbers_below, within_did, within_made, within_session, within_upgraded}
pub use Rattle.public_fold.proofs.Numbers.{spent}
use Rattle.public_fold.proofs.KeyMoves.{IsSound, effect_sound, root_sound, command_moves, root_moves, upgrade_moves, nothing_holds, epoch_holds}

-- the key that is found is among the keys
newest-in : (keys : List (Role × ℕ)) (r : Role) (n : ℕ) → newest keys r ≡ Some n → (q : Role × ℕ) × In q keys × (q.1 ≡ n)
unfolding newest
newest-in [] r n = λ e. absurd cc
newest-in (x ∷ xs) r n =
    elim (same_role x.0 r) as (λ b. cond b (Some x.1) (newest xs r) ≡ Some n → (q : Role × ℕ) × In q (x ∷ xs) × (q.1 ≡ n)) [
      | true ↦ λ e. let h : x.1 ≡ n = cc in (x, inl refl, h)
      | false ↦ λ e. let w = newest-in xs r n e in (w.0, inr w.1, w.2)
    ]

numbered-range : (k : ℕ) (rs : List Role) (r : Role) (n : ℕ) → newest (numbered k rs) r ≡ Some n → (k ≤ n) × (n < k + length rs)
numbered-range k rs r n e =
    let w = newest-in (numbered k rs) r n e in
    let told = numbered-between Role k rs w.0 w.1 in
    let low : k ≤ w.0.1 = told.0 in let high : w.0.1 < k + length rs = told.1 in let same : w.0.1 ≡ n = w.2 in (omega arith, omega arith)

-- numbered roles have numbers of their own
numbered-own : (k : ℕ) (rs : List Role) (a b : Role) (n : ℕ) → newest (numbered k rs) a ≡ Some n → newest (numbered k rs) b ≡ Some n → a ≡ b
unfolding newest numbered
numbered-own k [] a b n = λ e f. absurd cc
numbered-own k (x ∷ xs) a b n =
    (elim (same_role x a) as (λ t. same_role x a ≡ t → cond t (Some k) (newest (numbered (k + 1) xs) a) ≡ Some n → cond (same_role x b) (Some k) (newest (numbered (k + 1) xs) b) ≡ Some n → a ≡ b) [
      | true ↦ λ t e. (elim (same_role x b) as (λ u. same_role x b ≡ u → cond u (Some k) (newest (numbered (k + 1) xs) b) ≡ Some n → a ≡ b) [
        | true ↦ λ u f. sym ((same_role_tells x a).0 t) ∙ (same_role_tells x b).0 u
        | false ↦ λ u f. let low : k + 1 ≤ n = (numbered-range (k + 1) xs b n f).0 in let same : k ≡ n = cc in absurd (omega arith)
      ]) refl
      | false ↦ λ t e. (elim (same_role x b) as (λ u. same_role x b ≡ u → cond u (Some k) (newest (numbered (k + 1) xs) b) ≡ Some n → a ≡ b) [
        | true ↦ λ u f. let low : k + 1 ≤ n = (numbered-range (k + 1) xs a n e).0 in let same : k ≡ n = cc in absurd (omega arith)
        | false ↦ λ u f. numbered-own (k + 1) xs a b n e f
      ]) refl
    ]) refl

and_not : (a b : Bool) → (a && b) ≡ false → (a ≡ false) ⊎ (b ≡ false)
and_not true b t = inr t
and_not false b t = inl refl

other_than : (a x : Role) → (a ≡ x → ⊥) → same_role a x ≡ false
other_than a x n = ⊎_elim (λ t. absurd (n ((same_role_tells a x).0 t))) (λ f. f) (cases_Bool (same_role a x))

with_in : (r q : Role) (xs : List Role) → In q (with_role r xs) → (q ≡ r) ⊎ In q xs
unfolding with_role
with_in r q [] = λ i. ⊎_elim (λ e. inl e) (λ n. absurd n) i
with_in r q (x ∷ xs) =
    elim (role_before x r) as (λ b. In q (cond b (x ∷ with_role r xs) (cond (same_role r x) (x ∷ xs) (r ∷ x ∷ xs))) → (q ≡ r) ⊎ In q (x ∷ xs)) [
      | true ↦ λ i. ⊎_elim (λ e. inr (inl e)) (λ t. ⊎_elim (λ e. inl e) (λ u. inr (inr u)) (with_in r q xs t)) i
      | false ↦ elim (same_role r x) as (λ b. In q (cond b (x ∷ xs) (r ∷ x ∷ xs)) → (q ≡ r) ⊎ In q (x ∷ xs)) [ true ↦ λ i. inr i | false ↦ λ i. i ]
    ]

-- roles in their order, each once
abbrev Before : Role → Role → Type 0
Before a b = role_before a b ≡ true

abbrev Rises : List Role → Type 0
Rises [] = Unit {0}
Rises (x ∷ xs) = ((y : Role) → In y xs → Before x y) × Rises xs

before_on : (a b c : Role) → Before a b → Before b c → Before a c
unfolding role_before
before_on a b c p q = ⊎_elim
    (λ u. let ab : variant_of a < variant_of b = ltb-true (variant_of a) (variant_of b) u in ⊎_elim
    (λ v. let bc : variant_of b < variant_of c = ltb-true (variant_of b) (variant_of c) v in or_left _ _ (lt-ltb (variant_of a) (variant_of c) (omega arith)))
    (λ v. let bc : variant_of b ≡ variant_of c = eqb-true (variant_of b) (variant_of c) (and_parts _ _ v).0 in or_left _ _ (lt-ltb (variant_of a) (variant_of c) (omega arith)))
    (or_cases _ _ q))
    (λ u. let both = and_parts _ _ u in let ab : variant_of a ≡ variant_of b = eqb-true (variant_of a) (variant_of b) both.0 in let ids : role_id a < role_id b = ltb-true (role_id a) (role_id b) both.1 in ⊎_elim
    (λ v. let bc : variant_of b < variant_of c = ltb-true (variant_of b) (variant_of c) v in or_left _ _ (lt-ltb (variant_of a) (variant_of c) (omega arith)))
    (λ v. let on = and_parts _ _ v in let bc : variant_of b ≡ variant_of c = eqb-true (variant_of b) (variant_of c) on.0 in let more : role_id b < role_id c = ltb-true (role_id b) (role_id c) on.1 in
    or_right _ _ (and_from _ _ (eq-eqb (variant_of a) (variant_of c) (omega arith)) (lt-ltb (role_id a) (role_id c) (omega arith))))
    (or_cases _ _ q))
    (or_cases _ _ p)

before_self : (a : Role) → Before a a → ⊥
unfolding role_before
before_self a p = ⊎_elim
    (λ u. let h : variant_of a < variant_of a = ltb-true (variant_of a) (variant_of a) u in omega arith)
    (λ u. let h : role_id a < role_id a = ltb-true (role_id a) (role_id a) (and_parts _ _ u).1 in omega arith)
    (or_cases _ _ p)

one_before : (a b : Role) → role_before a b ≡ false → same_role b a ≡ false → Before b a
unfolding role_before same_role
one_before a b p q =
    let parts = or_parts _ _ p in
    let low : variant_of b ≤ variant_of a = ltb-false (variant_of a) (variant_of b) parts.0 in ⊎_elim
    (λ (e : variant_of a ≡ variant_of b).
    let ids : role_id b ≤ role_id a = ⊎_elim (λ n. absurd (false≢true (sym n ∙ eq-eqb (variant_of a) (variant_of b) e))) (λ n. ltb-false (role_id a) (role_id b) n) (and_not (variant_of a == variant_of b) (nat_lt (role_id a) (role_id b)) parts.1) in
    let other : role_id b ≢ role_id a = λ h. false≢true (sym q ∙ and_from (variant_of b == variant_of a) (role_id b == role_id a) (eq-eqb (variant_of b) (variant_of a) (sym e)) (eq-eqb (role_id b) (role_id a) h)) in
    or_right _ _ (and_from _ _ (eq-eqb (variant_of b) (variant_of a) (sym e)) (lt-ltb (role_id b) (role_id a) (omega arith))))
    (λ w. ⊎_elim (λ (h : variant_of a < variant_of b). absurd (omega arith)) (λ (h : variant_of b < variant_of a). or_left _ _ (lt-ltb (variant_of b) (variant_of a) h)) w)
    (cases_order (variant_of a) (variant_of b))

with_rises : (r : Role) (xs : List Role) → Rises xs → Rises (with_role r xs)
unfolding with_role
with_rises r [] w = (λ y i. absurd i, tt)
with_rises r (x ∷ xs) w =
    (elim (role_before x r) as (λ b. role_before x r ≡ b → Rises (cond b (x ∷ with_role r xs) (cond (same_role r x) (x ∷ xs) (r ∷ x ∷ xs)))) [
      | true ↦ λ t. (λ y i. ⊎_elim (λ (e : y ≡ r). subst (Before x) (sym e) t) (λ u. w.0 y u) (with_in r y xs i), with_rises r xs w.1)
      | false ↦ λ t. (elim (same_role r x) as (λ b. same_role r x ≡ b → Rises (cond b (x ∷ xs) (r ∷ x ∷ xs))) [
        | true ↦ λ u. w
        | false ↦ λ u. let first = one_before x r t u in (λ y i. ⊎_elim (λ (e : y ≡ x). subst (Before r) (sym e) first) (λ v. before_on r x y first (w.0 y v)) i, w)
      ]) refl
    ]) refl

ascending_rises : (xs : List Role) → Rises (ascending xs)
unfolding ascending
ascending_rises [] = tt
ascending_rises (x ∷ xs) = with_rises x (ascending xs) (ascending_rises xs)

-- each of the roles is the end of an edge of its own
ends_cover : (rs : List Role) (es : List Edge) → Rises rs → ((r : Role) → In r rs → (e : Edge) × In e es × (e.to ≡ r)) → length rs ≤ length es
ends_cover [] es w cover = omega arith
ends_cover (x ∷ xs) es w cover =
    let first = cover x (inl refl) in
    let test : Edge → Bool = λ e. not (same_role e.to x) in
    let rest = ends_cover xs (filter test es) w.1 (λ r i.
    let e = cover r (inr i) in
    let other : same_role e.0.to x ≡ false = other_than e.0.to x (λ (q : e.0.to ≡ x). before_self x (subst (Before x) (sym e.2 ∙ q) (w.0 r i))) in
    (e.0, filter-In Edge test e.0 es e.1 (not_from_false (same_role e.0.to x) other), e.2)) in
    let low : length xs ≤ length (filter test es) = rest in
    let less : suc (length (filter test es)) ≤ length es = filter_shorter Edge test first.0 es first.1 (ap not ((same_role_tells first.0.to x).1 first.2)) in
    omega arith

-- a role that stands and is no root is the end of an edge
own_edge : (s : Store) (f : ℕ) (kind : ℕ) (a b r : Role) → r ≡ b → HasFolder s f → In (edge kind a b) (folder_edges f) → (e : Edge) × IsEdge s e × (e.to ≡ r)
unfolding edge
own_edge s f kind a b r q w i = (edge kind a b, inl (w.0, w.1, subst (λ n. In (edge kind a b) (folder_edges n)) (sym w.2) i), sym q)

file_led : (s : Store) (x : ℕ) → (y : FileEntry) × In y s.files × (y.id ≡ x) → (e : Edge) × IsEdge s e × (e.to ≡ File (record { 0 = x }))
unfolding file_edge edge file_role
file_led s x h = (file_edge h.0.folder h.0.id, file_is s (file_edge h.0.folder h.0.id) (h.0, h.1, refl), ap file_role h.2)

clear_led : (s : Store) (f : ℕ) → IsClearance s f → (e : Edge) × IsEdge s e × (e.to ≡ Clear (record { 0 = f }))
unfolding clearance_edges edge clear_of
clear_led s f h =
    let e = edge 1 Owner (clear_of (clear_number h.0.0.id)) in
    (e, clear_is s e (h.0.0, h.0.1, subst (λ n. has_grants s n ≡ true) (sym h.0.2) h.1, inl refl), ap clear_of h.0.2)

led_to : (s : Store) (r : Role) → HasRole s r → is_root_role r ≡ false → (e : Edge) × IsEdge s e × (e.to ≡ r)
unfolding is_root_role variant_of folder_edges clear_of sub_of back_of files_of data_of
led_to s Owner h t = absurd (false≢true (sym t))
led_to s (Holder k) h t = absurd (false≢true (sym t))
led_to s (Clear f) h t = ⊎_elim (λ w. own_edge s f.0 1 Owner (clear_of f.0) (Clear f) refl w (inl refl)) (λ w. clear_led s f.0 w) h
led_to s (Sub f) h t = own_edge s f.0 3 (clear_of f.0) (sub_of f.0) (Sub f) refl h (inr (inl refl))
led_to s (Back f) h t = own_edge s f.0 4 (sub_of f.0) (back_of f.0) (Back f) refl h (inr (inr (inl refl)))
led_to s (Files f) h t = own_edge s f.0 5 (sub_of f.0) (files_of f.0) (Files f) refl h (inr (inr (inr (inl refl))))
led_to s (Data f) h t = own_edge s f.0 7 (back_of f.0) (data_of f.0) (Data f) refl h (inr (inr (inr (inr (inl refl)))))
led_to s (File x) h t = file_led s x.0 h

sum_content : (cs : List Content) → length cs ≤ sum_by content_len cs
unfolding content_len
sum_content [] = omega arith
sum_content (c ∷ cs) =
    let h : length cs ≤ sum_by content_len cs = sum_content cs in
    let sum : sum_by content_len (c ∷ cs) ≡ content_len c + sum_by content_len cs = sum_by-cons content_len c cs in omega arith

few_given : (s : Store) (h f : ℕ) (o : Option ℕ) → length (given_on s h f o).fresh ≤ 5
unfolding given_on no_change
few_given s h f None = omega arith
few_given s h f (Some x) = by (has_grants s f)
  where
    by : (b : Bool) → length (cond b (record no_change { added = grant_edge h f ∷ [] }) (record no_change { fresh = clear_of f ∷ []; added = edges_of_first s h x })).fresh ≤ 5
    by true = omega arith
    by false = omega arith

few_taken : (s : Store) (h f : ℕ) (o : Option ℕ) → length (taken_from s h f o).fresh ≤ 5
unfolding taken_from without_roles no_change
few_taken s h f None = omega arith
few_taken s h f (Some x) = by (has_grants (without_grant s h f) f)
  where
    by : (b : Bool) → length (cond b (record no_change { removed = grant_edge h f ∷ []; wanted = clear_of f ∷ [] }) (record no_change { removed = edges_at s (clear_of f ∷ []); gone = clear_of f ∷ [] })).fresh ≤ 5
    by true = omega arith
    by false = omega arith

-- no note brings more than five roles
few_row : (s : Store) (note : Note) → length (row_change s note).fresh ≤ 5
unfolding row_change no_change folder_roles
few_row s Root = omega arith
few_row s (NewHolder h check) = omega arith
few_row s (NewFolder f p) = omega arith
few_row s (NewFile x f) = omega arith
few_row s (Rewrite x) = omega arith
few_row s (NameFile x) = omega arith
few_row s (NameFolder f) = omega arith
few_row s (DropFile x) = unfold without_roles in omega arith
few_row s (DropFolder f) = unfold without_roles in omega arith
few_row s (ShiftFile x g) = omega arith
few_row s (ShiftFolder g q) = omega arith
few_row s (Give h f) = few_given s h f (file_of f)
few_row s (Take h f) = few_taken s h f (file_of f)
few_row s StrictRoot = omega arith
few_row s Upgrade = omega arith

pub few_fresh : (strict : Bool) (s : Store) (note : Note) → length (change_of strict s note).fresh ≤ 5
unfolding change_of
few_fresh strict s note = few_row s note

module _ (s t : Store) (k : KeyState) (c : Change) (links : List Link) (mv : IsMove s c t) (ok : KeysHold s k links) where
  -- each renewed role is the end of an edge that is published
  pub plan_short : length (renewed k (edges s) c) ≤ length (published_edges (edges s) c (renewed k (edges s) c))
  unfolding renewed published_edges is_published
  plan_short =
      let p = renewed k (edges s) c in
      ends_cover p (published_edges (edges s) c p) (ascending_rises _)
      (λ r i.
      let told = renewed_stands s t k c links mv ok r i in
      let stands = (mv.roles r).1 (inl (told.0, told.1.0)) in
      let e = led_to t r stands told.1.1 in (
        e.0,
        filter-In Edge (is_published c p) e.0 (edges_then (edges s) c) ((then_told s c e.0).1 ((mv.leads e.0).1 e.1))
            (or_right (has same_edge c.added e.0 || has same_role (p ++ c.fresh) e.0.from) (has same_role (p ++ c.fresh) e.0.to)
            (in-has Role same_role same_role_tells (p ++ c.fresh) e.0.to ((In-append Role e.0.to p c.fresh).1 (inl (subst (λ x. In x p) (sym e.2) i))))),
        e.2,
      ))

  -- a serial of the step before or of this one
  key_from : (r : Role) (n : ℕ) → newest (keys_then k c (renewed k (edges s) c)) r ≡ Some n
      → (newest (numbered (next_serial k) (renewed k (edges s) c ++ c.fresh)) r ≡ Some n) ⊎ (newest k.keys r ≡ Some n)
  unfolding keys_then given
  key_from r n e =
      let p = renewed k (edges s) c in ⊎_elim
      (λ i. let w = numbered-some (next_serial k) (p ++ c.fresh) r i in
      let there : newest (keys_then k c p) r ≡ Some w.0 = newest-first (numbered (next_serial k) (p ++ c.fresh)) (keys_without (p ++ c.gone) k.keys) r w.0 w.1 in
      inl (w.1 ∙ sym there ∙ e))
      (λ out. ⊎_elim
      (λ g. let none : newest (keys_then k c p) r ≡ None = no_key s t k c links mv ok r out g in absurd cc)
      (λ stays. inr (sym (same_key s t k c links mv ok r out stays) ∙ e))
      (in_or s t k c links mv ok r c.gone))
      (in_or s t k c links mv ok r (p ++ c.fresh))

  pub serials_after : (pieces : List Piece) → SerialsHold k → SerialsHold (key_step k (edges s) c pieces).after
  unfolding key_step step_with published next_serial given
  serials_after pieces old =
      let p = renewed k (edges s) c in
      let first : ℕ = k.epoch * 2 ^ 32 + k.count in
      let long : length (numbered first (p ++ c.fresh)) ≡ length (p ++ c.fresh) = numbered-length Role first (p ++ c.fresh) in record {
        own = λ a b n e f. ⊎_elim
            (λ u. ⊎_elim
            (λ v. numbered-own first (p ++ c.fresh) a b n u v)
            (λ v. let low : first ≤ n = (numbered-range first (p ++ c.fresh) a n u).0 in let high : n < first = old.below b n v in absurd (omega arith))
            (key_from b n f))
            (λ u. ⊎_elim
            (λ v. let low : first ≤ n = (numbered-range first (p ++ c.fresh) b n v).0 in let high : n < first = old.below a n u in absurd (omega arith))
            (λ v. old.own a b n u v)
            (key_from b n f))
            (key_from a n e);
        below = λ r n e. ⊎_elim
            (λ u. let high : n < first + length (p ++ c.fresh) = (numbered-range first (p ++ c.fresh) r n u).1 in omega arith)
            (λ u. let high : n < first = old.below r n u in omega arith)
            (key_from r n e);
      }

  -- a step takes no more serials than its payload has bytes
  pub count_after : (note : Note) (pieces : List Piece) → length c.fresh ≤ 5 → (key_step k (edges s) c pieces).after.count ≤ k.count + (batch_len + payload_len note (key_step k (edges s) c pieces))
  unfolding key_step step_with published payload_len given links_from contents_from
  count_after note pieces few =
      let p = renewed k (edges s) c in
      let es = published_edges (edges s) c p in
      let first : ℕ = next_serial k in
      let keys : length (numbered first (p ++ c.fresh)) ≡ length (p ++ c.fresh) = numbered-length Role first (p ++ c.fresh) in
      let joined : length (p ++ c.fresh) ≡ length p + length c.fresh = length-append p c.fresh in
      let short : length p ≤ length es = plan_short in
      let ls = links_from (keys_then k c p) (first + length (given k c p)) es in
      let cs = contents_from (keys_then k c p) (first + length (given k c p) + length es) pieces in
      let links_long : length ls ≡ length es = length-map (numbered (first + length (given k c p)) es) _ ∙ numbered-length Edge (first + length (given k c p)) es in
      let contents_long : length cs ≡ length pieces = length-map (numbered (first + length (given k c p) + length es) pieces) _ ∙ numbered-length Piece (first + length (given k c p) + length es) pieces in
      let contents_sum : length cs ≤ sum_by content_len cs = sum_content cs in
      omega arith

-- an epoch begins above all serials before it
pub serials_epoch : (k : KeyState) → k.count ≤ 4294967296 → SerialsHold k → SerialsHold (next_epoch k)
unfolding next_epoch next_serial
serials_epoch k low ok = record {
  own = ok.own;
  below = λ r n e. let high : n < k.epoch * 2 ^ 32 + k.count = ok.below r n e in omega arith;
}

after_serials : (entries : List Entry) (at : Stand) (links : List Link) → IsSound at.store → IsWithin at entries → KeysHold at.store at.keys links → SerialsHold at.keys → at.keys.count + spent (payloads_from at entries) ≤ most_store_bytes → FollowOn at entries
    → SerialsHold (stand_after at entries).keys × ((stand_after at entries).keys.count ≤ most_store_bytes)
unfolding stand_after stand_then entry_store entry_step note_step payloads_from entry_payload next_epoch
after_serials [] at links sound few ok serials low f = (serials, omega arith)
after_serials (Session ∷ entries) at links sound few ok serials low f =
    let rest = payloads_from (stand_then at Session) entries in
    let sum : spent (0 ∷ rest) ≡ (batch_len + 0) + spent rest = sum_by-cons (λ len. batch_len + len) 0 rest in
    let all : at.keys.count + spent (0 ∷ rest) ≤ most_store_bytes = low in
    after_serials entries (stand_then at Session) links sound (within_session at entries few) (epoch_holds at.store at.keys links ok) (serials_epoch at.keys (omega arith) serials) (omega arith) f.1
after_serials (Made version keys ∷ entries) at links sound few ok serials low f = absurd f.0
after_serials (Did request keys ∷ entries) at links sound few ok serials low f =
    let s = at.store in
    let t = effect s request (first_key keys) in
    let note = note_of s request [] in
    let c = change_of (is_strict at.keys) s note in
    let left = numbers_below at (Did request keys) entries few in
    let mv = command_moves (is_strict at.keys) s request (first_key keys) [] most_file_bytes f.0.0 left sound in
    let step : Stepped = note_step at note t in
    let rest = payloads_from (stand_then at (Did request keys)) entries in
    let sum : spent (payload_len note step ∷ rest) ≡ (batch_len + payload_len note step) + spent rest = sum_by-cons (λ len. batch_len + len) (payload_len note step) rest in
    let all : at.keys.count + spent (payload_len note step ∷ rest) ≤ most_store_bytes = low in
    let more : step.after.count ≤ at.keys.count + (batch_len + payload_len note step) = count_after s t at.keys c links mv ok note (pieces_of note t) (few_fresh (is_strict at.keys) s note) in
    after_serials entries (stand_then at (Did request keys)) (links ++ step.links) (effect_sound (is_strict at.keys) s request (first_key keys) most_file_bytes f.0.0 left sound) (within_did at request keys entries few)
    (keys_after s t at.keys c links mv ok (pieces_of note t)) (serials_after s t at.keys c links mv ok (pieces_of note t) serials) (omega arith) f.1
after_serials (Upgraded keys ∷ entries) at links sound few ok serials low f =
    let s = at.store in
    let c = change_of (is_strict at.keys) s Upgrade in
    let mv = upgrade_moves (is_strict at.keys) s sound in
    let step : Stepped = note_step at Upgrade s in
    let rest = payloads_from (stand_then at (Upgraded keys)) entries in
    let sum : spent (payload_len Upgrade step ∷ rest) ≡ (batch_len + payload_len Upgrade step) + spent rest = sum_by-cons (λ len. batch_len + len) (payload_len Upgrade step) rest in
    let all : at.keys.count + spent (payload_len Upgrade step ∷ rest) ≤ most_store_bytes = low in
    let more : step.after.count ≤ at.keys.count + (batch_len + payload_len Upgrade step) = count_after s s at.keys c links mv ok Upgrade (pieces_of Upgrade s) (few_fresh (is_strict at.keys) s Upgrade) in
    after_serials entries (stand_then at (Upgraded keys)) (links ++ step.links) sound (within_upgraded at keys entries few)
    (keys_after s s at.keys c links mv ok (pieces_of Upgrade s)) (serials_after s s at.keys c links mv ok (pieces_of Upgrade s) serials) (omega arith) f.1

-- the first epoch has the owner's key alone
owner_alone : (r : Role) (n : ℕ) → newest ((Owner, 0) ∷ []) r ≡ Some n → (Owner ≡ r) × (n ≡ 0)
unfolding newest
owner_alone r n =
    (elim (same_role Owner r) as (λ b. same_role Owner r ≡ b → cond b (Some 0) None ≡ Some n → (Owner ≡ r) × (n ≡ 0)) [
      | true ↦ λ t e. let h : n ≡ 0 = cc in ((same_role_tells Owner r).0 t, h)
      | false ↦ λ t e. absurd cc
    ]) refl

pub first_serials : SerialsHold (next_epoch no_keys)
unfolding next_epoch no_keys next_serial
first_serials = record {
  own = λ a b n e f. sym (owner_alone a n e).0 ∙ (owner_alone b n f).0;
  below = λ r n e. let z : n ≡ 0 = (owner_alone r n e).1 in omega arith;
}

begun_serials : (m : Journal) → BeginsWell m → end_of m ≤ most_store_bytes → SerialsHold (stand_after nothing m).keys × ((stand_after nothing m).keys.count ≤ most_store_bytes)
unfolding stand_after stand_then entry_store entry_step note_step payloads_from entry_payload next_epoch nothing no_keys end_of is_strict
begun_serials [] b low = absurd b
begun_serials (Session ∷ []) b low = absurd b
begun_serials (Session ∷ Session ∷ es) b low = absurd b
begun_serials (Session ∷ Made version keys ∷ es) b low =
    let at = stand_then (stand_then nothing Session) (Made version keys) in
    let root = root_note version in
    let step : Stepped = note_step (stand_then nothing Session) root root_store in
    let k : KeyState = next_epoch no_keys in
    let c = change_of false no_store root in
    let rest = payloads_from at es in
    let first : spent (0 ∷ payload_len root step ∷ rest) ≡ (batch_len + 0) + spent (payload_len root step ∷ rest) = sum_by-cons (λ len. batch_len + len) 0 (payload_len root step ∷ rest) in
    let sum : spent (payload_len root step ∷ rest) ≡ (batch_len + payload_len root step) + spent rest = sum_by-cons (λ len. batch_len + len) (payload_len root step) rest in
    let all : header_len + spent (0 ∷ payload_len root step ∷ rest) ≤ most_store_bytes = low in
    let more : step.after.count ≤ k.count + (batch_len + payload_len root step) = count_after no_store root_store k c [] (root_moves version) nothing_holds root (pieces_of root root_store) (few_fresh false no_store root) in
    after_serials es at step.links root_sound (within_made version keys es low) (keys_after no_store root_store k c [] (root_moves version) nothing_holds (pieces_of root root_store))
    (serials_after no_store root_store k c [] (root_moves version) nothing_holds (pieces_of root root_store) first_serials) (omega arith) b.1
begun_serials (Session ∷ Did request keys ∷ es) b low = absurd b
begun_serials (Session ∷ Upgraded keys ∷ es) b low = absurd b
begun_serials (Made version keys ∷ es) b low = absurd b
begun_serials (Did request keys ∷ es) b low = absurd b
begun_serials (Upgraded keys ∷ es) b low = absurd b

pub journal_serials : (m : Journal) → IsValid m → SerialsHold (keys_of m)
unfolding keys_of
journal_serials m v = (begun_serials m v.0 v.1).0

pub journal_count : (m : Journal) → IsValid m → (keys_of m).count ≤ most_store_bytes
unfolding keys_of
journal_count m v = (begun_serials m v.0 v.1).1
