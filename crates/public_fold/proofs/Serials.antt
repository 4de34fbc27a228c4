-- A step takes its serials from the counter, each behind those before.
use Rattle.std.proofs.Common.{◌≡◌, ℕ, suc, ◌+◌, ◌*◌, ◌^◌, ◌≤◌, ◌<◌, List, [], ◌∷◌, ◌++◌, map, length, refl, sym, ap, ◌∙◌, subst, ⊎_elim, arith}
use Rattle.cry_base.specs.Sets.{In}
use Rattle.cry_base.specs.declared.roles.Edge.{Edge}
use Rattle.cry_base.specs.declared.roles.Role.{Role}
use Rattle.cry_base.proofs.Members.{In-map}
use Rattle.move_plan.specs.Change.{Change}
use Rattle.public_fold.specs.Records.{Link, Piece, Content}
use Rattle.public_fold.specs.KeyStep.{KeyState, next_serial, numbered, given, keys_then, published_edges, renewed, link_of, links_from, content_of, contents_from, published, step_with, key_step}

pub numbered-between : (X : Type 0) (n : ℕ) (xs : List X) (q : X × ℕ) → In q (numbered n xs) → (n ≤ q.1) × (q.1 < n + length xs)
unfolding numbered
numbered-between X n [] q i = absurd i
numbered-between X n (x ∷ xs) q i = ⊎_elim
    (λ s. let e : q.1 ≡ n = ap (λ (p : X × ℕ). p.1) s in (omega arith, omega arith))
    (λ r. let told = numbered-between X (n + 1) xs q r in let low : n + 1 ≤ q.1 = told.0 in let high : q.1 < (n + 1) + length xs = told.1 in (omega arith, omega arith))
    i

pub numbered-length : (X : Type 0) (n : ℕ) (xs : List X) → length (numbered n xs) ≡ length xs
unfolding numbered
numbered-length X n [] = refl
numbered-length X n (x ∷ xs) = ap suc (numbered-length X (n + 1) xs)

link_nonces : (keys : List (Role × ℕ)) (n : ℕ) (es : List Edge) (l : Link) → In l (links_from keys n es) → (n ≤ l.nonce) × (l.nonce < n + length es)
unfolding links_from link_of
link_nonces keys n es l i =
    let w = (In-map (Edge × ℕ) Link (link_of keys) l (numbered n es)).0 i in
    let told = numbered-between Edge n es w.0 w.1 in
    let e : l.nonce ≡ w.0.1 = ap (λ (x : Link). x.nonce) w.2 in
    let low : n ≤ w.0.1 = told.0 in let high : w.0.1 < n + length es = told.1 in (omega arith, omega arith)

content_nonces : (keys : List (Role × ℕ)) (n : ℕ) (ps : List Piece) (c : Content) → In c (contents_from keys n ps) → (n ≤ c.nonce) × (c.nonce < n + length ps)
unfolding contents_from content_of
content_nonces keys n ps c i =
    let w = (In-map (Piece × ℕ) Content (content_of keys) c (numbered n ps)).0 i in
    let told = numbered-between Piece n ps w.0 w.1 in
    let e : c.nonce ≡ w.0.1 = ap (λ (x : Content). x.nonce) w.2 in
    let low : n ≤ w.0.1 = told.0 in let high : w.0.1 < n + length ps = told.1 in (omega arith, omega arith)

-- where the counter stands after a step
after_counts : (a c g e p : ℕ) → a + (c + g + e + p) ≡ (a + c) + g + e + p
after_counts a c g e p = omega arith

module _ (k : KeyState) (before : List Edge) (c : Change) (pieces : List Piece) where
  es : List Edge
  es = published_edges before c (renewed k before c)

  new : List (Role × ℕ)
  new = given k c (renewed k before c)

  after_is : next_serial (key_step k before c pieces).after ≡ next_serial k + length new + length es + length pieces
  unfolding next_serial key_step step_with published es new
  after_is = after_counts (k.epoch * 2 ^ 32) k.count (length new) (length es) (length pieces)

  pub keys_between : (key : Role × ℕ) → In key (key_step k before c pieces).given → (next_serial k ≤ key.1) × (key.1 < next_serial (key_step k before c pieces).after)
  unfolding key_step step_with published es new given
  keys_between key i =
      let told = numbered-between Role (next_serial k) (renewed k before c ++ c.fresh) key i in
      let len : length new ≡ length (renewed k before c ++ c.fresh) = numbered-length Role (next_serial k) (renewed k before c ++ c.fresh) in
      let low : next_serial k ≤ key.1 = told.0 in
      let high : key.1 < next_serial k + length (renewed k before c ++ c.fresh) = told.1 in
      (low, bound key.1 (next_serial k) (length (renewed k before c ++ c.fresh)) (length new) (length es) (length pieces) (next_serial (key_step k before c pieces).after) after_is len high)
    where
      bound : (x n m g e p t : ℕ) → t ≡ n + g + e + p → g ≡ m → x < n + m → x < t
      bound x n m g e p t a l h = omega arith

  pub links_between : (l : Link) → In l (key_step k before c pieces).links → (next_serial k + length (key_step k before c pieces).given ≤ l.nonce) × (l.nonce < next_serial (key_step k before c pieces).after)
  unfolding key_step step_with published es new
  links_between l i =
      let told = link_nonces (keys_then k c (renewed k before c)) (next_serial k + length new) es l i in
      (told.0, bound l.nonce (next_serial k + length new) (length es) (length pieces) (next_serial (key_step k before c pieces).after) after_is told.1)
    where
      bound : (x n e p t : ℕ) → t ≡ n + e + p → x < n + e → x < t
      bound x n e p t a h = omega arith

  pub contents_between : (x : Content) → In x (key_step k before c pieces).contents → (next_serial k + length (key_step k before c pieces).given + length (key_step k before c pieces).links ≤ x.nonce) × (x.nonce < next_serial (key_step k before c pieces).after)
  unfolding key_step step_with published es new links_from
  contents_between x i =
      let told = content_nonces (keys_then k c (renewed k before c)) (next_serial k + length new + length es) pieces x i in
      let len : length (map (link_of (keys_then k c (renewed k before c))) (numbered (next_serial k + length new) es)) ≡ length es = map-length (Edge × ℕ) Link (link_of (keys_then k c (renewed k before c))) (numbered (next_serial k + length new) es) ∙ numbered-length Edge (next_serial k + length new) es in
      (subst (λ z. next_serial k + length new + z ≤ x.nonce) (sym len) told.0, subst (λ z. x.nonce < z) (sym after_is) told.1)
    where
      map-length : (X Y : Type 0) (f : X → Y) (xs : List X) → length (map f xs) ≡ length xs
      map-length X Y f [] = refl
      map-length X Y f (x ∷ xs) = ap suc (map-length X Y f xs)
