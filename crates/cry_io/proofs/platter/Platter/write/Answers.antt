use Rattle.std.proofs.Common.{◌≤◌, ◌++◌, ◌-◌, ◌+◌, ◌≡◌, take, drop, length, replicate, true, refl, ap, sym, ◌∙◌, arith}
use Rattle.std.proofs.lemmas.List.{length-take}
use Rattle.cry_io.specs.Leaving.{shown_of}
use Rattle.cry_io.proofs.Ties.{whole, tied_write, tied_same}
use Rattle.cry_io.proofs.platter.Platter.write.Goals as goal

pub invariant_of-self : goal.invariant_of-self
invariant_of-self c =
    let p = c.self.inside in
    let place = c.args.place in
    let bytes = c.args.bytes.now in
    let end = place + length bytes in
    let long : length (shown_of p.history.events) ≤ p.size = let e = ap length c.self.invariant.shown_is in let f = length-take p.size p.shown.items in omega arith in
    let shows : length (shown_of c.args.self.now.events) ≡ length (shown_of p.history.events) = ap (λ k. length (shown_of k.events)) (sym c.self.view_is) in
    let room : length p.shown.items ≡ c.args.self.now.room = ap (λ k. k.room) c.self.view_is in
    tied_same _ _ _ _ _ _ _ _ p.stable_size _ _
    c.writing-self-inside.ensures
    (whole _ c.put_at.new.bytes p.shown.items (c.put_at.auto.bytes ∙ c.deref_mut.ensures.len) ∙ c.put_at.ensures
    ∙ ap (λ old. take place old ++ bytes ++ drop end old) c.deref_mut.ensures.value)
    c.max-self-inside.ensures
    refl
    (whole _ c.mark.new.flags p.pending.items (c.mark.auto.flags ∙ c.deref_mut-2.ensures.len) ∙ c.mark.ensures
    ∙ ap (λ old. take place old ++ replicate (end - place) true ++ drop end old) c.deref_mut-2.ensures.value)
    (tied_write p.history.events p.shown.items p.size p.stable.items p.stable_size p.pending.items place bytes c.self.invariant
    (let r = c.requires.inside in omega arith) (let r = c.requires.fits in omega arith))
