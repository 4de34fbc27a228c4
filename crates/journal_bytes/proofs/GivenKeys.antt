-- What a ring has for each role once keys were given in turn.
use Rattle.std.proofs.Common.{◌≡◌, ◌≢◌, ℕ, ◌+◌, ◌<◌, ◌≤◌, true, false, cond, List, [], ◌∷◌, length, get_or, drop, Option, Some, inl, inr, ⊎_elim, refl, sym, ap, ◌∙◌, arith}
use Rattle.std.specs.Prelude.{◌⊎◌, IsSome, map}
use Rattle.std.proofs.lemmas.Bool.{false≢true}
use Rattle.std.proofs.lemmas.List.{at_drop_more, at_drop_all}
use Rattle.chacha_seal.specs.Keys.{KeyParts}
use Rattle.chacha_seal.specs.Serials.{Counting, serial_of}
use Rattle.cry_base.specs.Sets.{In}
use Rattle.cry_base.specs.declared.roles.Role.{Role}
use Rattle.cry_base.specs.declared.roles.Role.TheVariants.{Owner, Holder, Clear, Sub, Back, Files, Data, File}
use Rattle.key_links.specs.Drawn.{drawn_for, number_of}
use Rattle.key_links.specs.Ringed.{Ringed, key_of, IsWithKey}
use Rattle.role_graph.specs.Roles.{role_id, same_role}
use Rattle.role_graph.proofs.Comparing.{same_role_tells}
use Rattle.role_graph.proofs.Rising.{get_or-In}
use Rattle.journal_bytes.specs.Ringing.{key_after, key_for}

number_is_id : (role : Role) → number_of role ≡ role_id role
unfolding number_of role_id
number_is_id Owner = refl
number_is_id (Holder h) = refl
number_is_id (Clear f) = refl
number_is_id (Sub f) = refl
number_is_id (Back f) = refl
number_is_id (Files f) = refl
number_is_id (Data f) = refl
number_is_id (File x) = refl

-- one key more
pub one_more : (new old : Ringed) (role made : Role) (nonce serial : ℕ) (bytes : List ℕ) (key : KeyParts) → IsWithKey new old made key → made ≡ role → key ≡ drawn_for role nonce bytes → nonce ≡ serial
    → (r : Role) → key_of new r ≡ cond (same_role role r) (Some (key_for role serial bytes)) (key_of old r)
one_more new old role made nonce serial bytes key with_key is made_of at r =
    (elim (same_role role r) as (λ b. same_role role r ≡ b → key_of new r ≡ cond b (Some (key_for role serial bytes)) (key_of old r)) [
      | true ↦ λ t. let same : role ≡ r = (same_role_tells role r).0 t in
          ap (key_of new) (sym same ∙ sym is) ∙ with_key.here ∙ ap Some (made_of ∙ ap (λ id. record { id = id; serial = nonce; bytes = bytes }) (number_is_id role))
          ∙ ap (λ n. Some (key_for role n bytes)) at
      | false ↦ λ t. with_key.others r (λ e. false≢true (sym t ∙ (same_role_tells role r).1 (sym (e ∙ is))))
    ]) refl

-- the keys that are given are no owner's
pub not_the_owner : (given : List (Role × ℕ)) (i : ℕ) (key : Role × ℕ) (role : Role) (serial : ℕ) → i < length given → key ≡ get_or given i key → (role, serial) ≡ key
    → ((k : Role × ℕ) → In k given → k.0 ≢ Owner) → role ≡ Owner → ⊥
not_the_owner given i key role serial h at view none e =
    none (get_or given i key) (get_or-In (Role × ℕ) given i key h) (sym (ap (λ (x : Role × ℕ). x.0) (view ∙ at)) ∙ e)

-- the next key in turn, and none behind the last
pub after_more : (key : Option KeyParts) (n : ℕ) (given : List (Role × ℕ)) (drawn : List (List ℕ)) (r : Role) (i : ℕ) (d : Role × ℕ) (e : List ℕ) → i < length given → i < length drawn
    → key_after key n (drop i given) (drop i drawn) r
    ≡ key_after (cond (same_role (get_or given i d).0 r) (Some (key_for (get_or given i d).0 n (get_or drawn i e))) key) (n + 1) (drop (i + 1) given) (drop (i + 1) drawn) r
unfolding key_after
after_more key n given drawn r i d e h k =
    at_drop_more (λ (l : List (Role × ℕ)). key_after key n l (drop i drawn) r) given i d h
    ∙ at_drop_more (λ (l : List (List ℕ)). key_after key n (get_or given i d ∷ drop (i + 1) given) l r) drawn i e k

pub after_all : (key : Option KeyParts) (n : ℕ) (given : List (Role × ℕ)) (drawn : List (List ℕ)) (r : Role) (i : ℕ) → length given ≤ i → key_after key n (drop i given) (drop i drawn) r ≡ key
unfolding key_after
after_all key n given drawn r i h = at_drop_all (λ (l : List (Role × ℕ)). key_after key n l (drop i drawn) r) given i h

-- the next serial follows the last
pub next_serial : (new old : Counting) → new ≡ record { epoch = old.epoch; count = old.count + 1 } → serial_of new.epoch new.count ≡ serial_of old.epoch old.count + 1
next_serial new old is =
    let same : serial_of new.epoch new.count ≡ serial_of old.epoch (old.count + 1) = ap (λ (c : Counting). serial_of c.epoch c.count) is in
    omega (arith, same)

-- a turn of the loop
pub turn : (old new : Ringed) (n m : ℕ) (given : List (Role × ℕ)) (drawn : List (List ℕ)) (i : ℕ) (key : Role × ℕ) (role : Role) (serial : ℕ) (e : List ℕ) (r : Role) (all : Option KeyParts)
    → i < length given → i < length drawn → key ≡ get_or given i key → (role, serial) ≡ key → m ≡ n + 1
    → key_of new r ≡ cond (same_role role r) (Some (key_for role n (get_or drawn i e))) (key_of old r)
    → key_after (key_of old r) n (drop i given) (drop i drawn) r ≡ all
    → key_after (key_of new r) m (drop (i + 1) given) (drop (i + 1) drawn) r ≡ all
turn old new n m given drawn i key role serial e r all h k at view next made so_far =
    let here : role ≡ (get_or given i key).0 = ap (λ (x : Role × ℕ). x.0) (view ∙ at) in
    ap (λ x. key_after (key_of new r) x (drop (i + 1) given) (drop (i + 1) drawn) r) next
    ∙ ap (λ o. key_after o (n + 1) (drop (i + 1) given) (drop (i + 1) drawn) r) made
    ∙ ap (λ x. key_after (cond (same_role x r) (Some (key_for x n (get_or drawn i e))) (key_of old r)) (n + 1) (drop (i + 1) given) (drop (i + 1) drawn) r) here
    ∙ sym (after_more (key_of old r) n given drawn r i key e h k)
    ∙ so_far

-- a role that had a key, or was given one, has one
pub will_have : (key : Option KeyParts) (n : ℕ) (given : List (Role × ℕ)) (drawn : List (List ℕ)) (r : Role) → length drawn ≡ length given
    → IsSome key ⊎ In r (map (λ (k : Role × ℕ). k.0) given) → IsSome (key_after key n given drawn r)
unfolding key_after
will_have key n [] drawn r long = λ w. ⊎_elim (λ s. s) (λ i. absurd i) w
will_have key n (g ∷ given) [] r long = λ w. absurd (omega arith)
will_have key n (g ∷ given) (b ∷ drawn) r long =
    (elim (same_role g.0 r) as (λ t. same_role g.0 r ≡ t → IsSome key ⊎ In r (g.0 ∷ map (λ (k : Role × ℕ). k.0) given)
    → IsSome (key_after (cond t (Some (key_for g.0 n b)) key) (n + 1) given drawn r)) [
      | true ↦ λ t w. will_have (Some (key_for g.0 n b)) (n + 1) given drawn r (omega arith) (inl refl)
      | false ↦ λ t w. will_have key (n + 1) given drawn r (omega arith) (⊎_elim
          (λ s. inl s)
          (λ i. ⊎_elim (λ (e : r ≡ g.0). absurd (false≢true (sym t ∙ (same_role_tells g.0 r).1 (sym e)))) (λ u. inr u) i)
          w)
    ]) refl
