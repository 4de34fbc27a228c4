use Rattle.std.proofs.Common.{ℕ, ◌-◌, ◌++◌, List, length, take, drop, refl, ap, ◌∙◌}
use Rattle.std.specs.Vec.{vec_capacity, vec_len}
use Rattle.cry_base.specs.Listed.{Listed}
use Rattle.cry_base.specs.Lending.{with_bytes}
use Rattle.cry_base.proofs.list.List+u8.as_mut_slice.Goals as goal

pub returns : goal.returns
returns c =
    let vec = c.self.inside.vec in
    let refilled : ℕ → List ℕ → Listed ℕ =
    λ n w. record { items = take n (w ++ drop (length w) vec.items); spare = vec_capacity vec - vec_len vec }
    in (
      (refl, λ w. ap (λ n. refilled n w) vec.ok.0 ∙ ap (λ v. with_bytes v w) c.self.view_is),
      record {
        writes_back = tt;
        value = c.as_mut_slice.ensures.value ∙ ap (λ (v : Listed ℕ). v.items) c.self.view_is;
      },
    )
