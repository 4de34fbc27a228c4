use Rattle.std.proofs.Common.{◌∷◌, ◌++◌, ◌-◌, ◌+◌, take, drop, length, replicate, false, refl, ap, ◌∙◌}
use Rattle.cry_io.specs.Events.{Stays}
use Rattle.cry_io.proofs.Ties.{whole, tied_sync, tied_same}
use Rattle.cry_io.proofs.platter.Platter.sync.Goals as goal

pub invariant_of-self : goal.invariant_of-self
invariant_of-self c =
    let p = c.self.inside in
    let shown = c.deref.ensures.value in
    tied_same _ _ _ _ _ _ _ _ p.size _ _
    (c.staying-self-inside.ensures ∙ ap (λ bytes. Stays (take p.size bytes) ∷ p.history.events) c.deref-2.ensures.value)
    refl refl
    (whole _ c.put_at.new.bytes p.stable.items (c.put_at.auto.bytes ∙ c.deref_mut.ensures.len) ∙ c.put_at.ensures
    ∙ ap (λ bytes. take p.size bytes ++ drop (0 + length (take p.size bytes)) c.deref_mut.result.now) shown
    ∙ ap (λ old. take p.size p.shown.items ++ drop (0 + length (take p.size p.shown.items)) old) c.deref_mut.ensures.value)
    (whole _ c.mark.new.flags p.pending.items (c.mark.auto.flags ∙ c.deref_mut-2.ensures.len) ∙ c.mark.ensures
    ∙ ap (λ old. replicate (p.size - 0) false ++ drop p.size old) c.deref_mut-2.ensures.value)
    (tied_sync p.history.events p.shown.items p.size p.stable.items p.stable_size p.pending.items c.self.invariant)
