use Rattle.std.proofs.Common.{◌≡◌, ◌⊎◌, ◌<◌, inl, inr, length, ap, refl, subst, ◌∙◌}
use Rattle.std.proofs.lemmas.Result.{err_from_is_err_and}
use Rattle.read_steps.specs.Steps.{SessionView}
use Rattle.session_laws.specs.Seats.{HasPinned}
use Rattle.cli_serving.proofs.SeatFound.{found_at, none_at, set_at}
use Rattle.cli_serving.proofs.seating.pin_session.Goals as goal

pub returns-in_default-clause-went : goal.returns-in_default-clause-went
returns-in_default-clause-went g c =
    let seat = c.args.seat in
    inl (none_at c.args.sessions.now.items seat (subst (λ k. (seat ≡ 0) ⊎ (k < seat)) (c.len.ensures ∙ c.args.sessions.now.ok.0) (c.in_default.ensures.none refl)), (refl, refl))

pub returns-in_err-pin-clause-fails : goal.returns-in_err-pin-clause-fails
returns-in_err-pin-clause-fails g c =
    let p = err_from_is_err_and c.from_residual.result c.from_residual.ensures.1 in
    let sessions = c.args.sessions.now.items in
    let place = c.in-Some.place in
    let session = c.index_mut-session.result.now in
    let found = c.in-Some.ensures.found in
    let within : place < length sessions = subst (λ k. place < k) (c.len.ensures ∙ c.args.sessions.now.ok.0) found.1 in
    rw (p.1, p.2) (
      session,
      found_at sessions place c.args.seat session within found.0 c.index_mut-session.ensures.value,
      c.in_err-pin.ensures.pinned,
      c.in_err-pin.ensures.of_bytes,
    )

pub returns-clause-went : goal.returns-clause-went
returns-clause-went g c =
    let sessions = c.args.sessions.now.items in
    let place = c.in-Some.place in
    let session = c.index_mut-session.result.now in
    let found = c.in-Some.ensures.found in
    let within : place < length sessions = subst (λ k. place < k) (c.len.ensures ∙ c.args.sessions.now.ok.0) found.1 in
    let pinned = c.in_ok-pin.ensures in
    inr (
      session,
      found_at sessions place c.args.seat session within found.0 c.index_mut-session.ensures.value,
      (
        c.pin.new.self,
        record {
          rest = pinned.rest;
          never_less = pinned.never_less;
          is_session = pinned.session;
          pinned = λ s is. let there = pinned.pinned s is in (there.0, there.1, ap (λ (v : SessionView). v.pinned) there.2);
        },
        ap HasPinned c.pinned.ensures.pinned,
        set_at sessions place c.args.seat c.pin.new.self found.0,
      ),
    )
