use Rattle.std.proofs.Common.{◌+◌, ap, sym, ◌∙◌}
use Rattle.std.proofs.lemmas.Bool.{eq-eqb, false≢true}
use Rattle.closure_laws.proofs.Searching.{no_more, reads}
use Rattle.closure_laws.proofs.trail_search.place_of.Goals as goal

pub loop-one-preserved : goal.loop-one-preserved
loop-one-preserved c =
    let found = c.args.found.now in
    let i = c.loop-one.one-index in
    let x = reads found i _ c.loop-one-test.true in record {
      place = ap (λ n. n + 1) c.loop-one.invariant.place;
      none = no_more found i _ c.args.serial.0 x (λ e. false≢true (sym c.if-eq.false ∙ c.eq.ensures ∙ eq-eqb _ c.args.serial.0 e)) c.loop-one.invariant.none;
    }
