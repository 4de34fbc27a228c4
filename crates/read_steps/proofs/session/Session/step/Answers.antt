use Rattle.std.proofs.Common.{◌≡◌, ◌<◌, ◌++◌, ◌∷◌, [], length, Ok, Some, true, sym, ap, subst, ◌∙◌}
use Rattle.std.specs.Prelude.{is_some}
use Rattle.read_steps.specs.Steps.{KeepsOf, SessionView, next_batch}
use Rattle.commit_journal.specs.Placed.{plain_placed}
use Rattle.commit_journal.specs.Streaming.{LogState, regated}
use Rattle.read_steps.proofs.Stepping.{keeps_gated, keeps_more, session_gated, session_more}
use Rattle.read_steps.proofs.session.Session.step.Goals as goal

pub returns-in_err-placed-clause-session : goal.returns-in_err-placed-clause-session
returns-in_err-placed-clause-session g c =
    let i = c.self.inside in
    let s : SessionView = record { bundle = i.bundle; log = i.log; ready = is_some i.reader; pinned = i.pinned } in
    session_gated s c.read_one.new.log (is_some i.reader) c.in_err-placed.ensures.unchanged c.self.invariant.0

pub invariant_of-self : goal.invariant_of-self
invariant_of-self g c = (
  returns-in_err-placed-clause-session g c,
  keeps_gated c.self.inside.log c.read_one.new.log c.self.inside.reader c.in_err-placed.ensures.unchanged c.self.invariant.1,
)

pub returns-in_err-add-clause-session : goal.returns-in_err-add-clause-session
returns-in_err-add-clause-session g c =
    let i = c.self.inside in
    let s : SessionView = record { bundle = i.bundle; log = i.log; ready = is_some i.reader; pinned = i.pinned } in
    let more : length i.log.given < i.pinned = subst (λ (v : SessionView). length v.log.given < v.pinned) (sym c.self.view_is) c.requires.more in
    session_more s c.read_one.new.log c.in_ok-placed.field-0.placed c.in_ok-placed.field-0.start (is_some c.take.new.self) c.in_ok-placed.ensures.goes_on more c.self.invariant.0

pub invariant_of-self-in_err-add : goal.invariant_of-self-in_err-add
invariant_of-self-in_err-add g c = (
  returns-in_err-add-clause-session g c,
  subst (KeepsOf c.read_one.new.log) (sym c.take.ensures.after) tt,
)

pub returns-clause-session : goal.returns-clause-session
returns-clause-session g c =
    let i = c.self.inside in
    let s : SessionView = record { bundle = i.bundle; log = i.log; ready = is_some i.reader; pinned = i.pinned } in
    let more : length i.log.given < i.pinned = subst (λ (v : SessionView). length v.log.given < v.pinned) (sym c.self.view_is) c.requires.more in
    session_more s c.read_one.new.log c.in_ok-placed.field-0.placed c.in_ok-placed.field-0.start true c.in_ok-placed.ensures.goes_on more c.self.invariant.0

pub invariant_of-self-2 : goal.invariant_of-self-2
invariant_of-self-2 g c =
    let i = c.self.inside in
    let reader : i.reader ≡ Some c.in-Some.reader = sym c.take.ensures.value ∙ c.in-Some.is in (
      returns-clause-session g c,
      keeps_more i.log c.read_one.new.log c.in-Some.reader c.in_ok-add.field-0 c.in_ok-placed.field-0.placed c.in_ok-placed.field-0.start c.in_ok-placed.ensures.goes_on
          (subst (KeepsOf i.log) reader c.self.invariant.1) c.in_ok-add.ensures.read c.in_ok-add.ensures.starts,
    )

pub returns-clause-one : goal.returns-clause-one
returns-clause-one g c = λ s is.
    let log : c.self.inside.log ≡ c.args.self.now.log = ap (λ (v : SessionView). v.log) c.self.view_is in
    let v = c.in_ok-placed.ensures.verdict s is in (
      v.0,
      subst (λ (l : LogState). next_batch l s ≡ Ok v.0) log v.1,
      c.in_ok-placed.ensures.goes_on.given ∙ ap (λ (l : LogState). l.given ++ plain_placed c.in_ok-placed.field-0.placed ∷ []) log ∙ ap (λ p. c.args.self.now.log.given ++ p ∷ []) (sym v.2.0),
    )

pub returns-clause-known : goal.returns-clause-known
returns-clause-known g c = λ s is.
    let log : c.self.inside.log ≡ c.args.self.now.log = ap (λ (v : SessionView). v.log) c.self.view_is in
    let v = c.in_ok-placed.ensures.verdict s is in
    let start = v.2.2 ∙ ap (λ (l : LogState). (regated l s).past) log in (
      v.0,
      subst (λ (l : LogState). next_batch l s ≡ Ok v.0) log v.1,
      (
        sym v.2.1,
        c.in_ok-placed.ensures.goes_on.starts ∙ ap (λ (l : LogState). l.starts ++ c.in_ok-placed.field-0.start ∷ []) log
            ∙ ap (λ p. c.args.self.now.log.starts ++ p ∷ []) start,
      ),
    )
