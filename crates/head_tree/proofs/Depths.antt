-- How deep a tree is taken to be makes no difference, where its leaves fit.
use Rattle.std.proofs.Common.{◌≡◌, ℕ, zero, suc, ◌^◌, ◌<◌, ◌≤◌, true, false, nat_le, ◌==◌, refl, sym, ◌∙◌, ⊎_elim, lit<, arith}
use Rattle.std.proofs.Math.Nat.{two-pow-succ, pow-le-pow_right}
use Rattle.std.proofs.lemmas.Nat.{pow_pos}
use Rattle.std.proofs.lemmas.Bool.{cases_lt}
use Rattle.std.proofs.lemmas.Bool.Decides.{leb_tells, eqb_tells}
use Rattle.head_tree.specs.Hashing.{IsSplit}

-- what the two tests of the definitions say
pub is_within : (n k : ℕ) → n ≤ k → nat_le n k ≡ true
is_within n k h = grind (arith, leb_tells n k)

pub is_more : (n k : ℕ) → k < n → nat_le n k ≡ false
is_more n k h = grind (arith, leb_tells n k)

pub are_apart : (m n : ℕ) → m < n → (m == n) ≡ false
are_apart m n h = grind (arith, eqb_tells m n)

pub are_one : (m n : ℕ) → m ≡ n → (m == n) ≡ true
are_one m n h = grind (arith, eqb_tells m n)

-- n leaves fit in a tree of depth n
pub fits : (n : ℕ) → n ≤ 2 ^ n
fits zero = omega (arith, pow_pos 0)
fits (suc n) = omega (arith, two-pow-succ n, pow_pos n, fits n)

-- up to depth e nothing changes
steady_up : {X : Type 0} (f : ℕ → X) (n : ℕ) → ((d : ℕ) → n ≤ 2 ^ d → f (suc d) ≡ f d) → (e d : ℕ) → d ≤ e → n ≤ 2 ^ d → f e ≡ f d
steady_up f n step zero d le h = let z : d ≡ zero = omega arith in rw z refl
steady_up f n step (suc e) d le h = ⊎_elim
    (λ (below : d < suc e). let within : d ≤ e = omega arith in
    let more : 2 ^ d ≤ 2 ^ e = pow-le-pow_right {n = 2} (lit< tt) within in
    let room : n ≤ 2 ^ e = omega arith in
    step e room ∙ steady_up f n step e d within h)
    (λ (over : suc e ≤ d). let same : d ≡ suc e = omega arith in rw same refl)
    (cases_lt d (suc e))

pub steady : {X : Type 0} (f : ℕ → X) (n : ℕ) → ((d : ℕ) → n ≤ 2 ^ d → f (suc d) ≡ f d) → (d e : ℕ) → n ≤ 2 ^ d → n ≤ 2 ^ e → f d ≡ f e
steady f n step d e hd he = ⊎_elim
    (λ (below : d < e). let le : d ≤ e = omega arith in sym (steady_up f n step e d le hd))
    (λ (over : e ≤ d). steady_up f n step d e over he)
    (cases_lt d e)

-- what a split says of the depth: its power j, and that the leaves fit in a tree of depth j + 1
pub record Halves (k n : ℕ) : Type 0 where
  pub depth : ℕ
  pub power : k ≡ 2 ^ depth
  pub below : 2 ^ depth < n
  pub room : n ≤ 2 ^ suc depth

pub halves : (k n : ℕ) → IsSplit k n → Halves k n
halves k n split =
    let e : k ≡ 2 ^ split.power.0 = split.power.1 in
    let double = two-pow-succ split.power.0 in
    record { depth = split.power.0; power = e; below = omega arith; room = omega arith }
