use Rattle.std.proofs.Common.{◌≡◌, ◌⊎◌, ◌<◌, ◌≤◌, inl, inr, length, ap, refl, sym, subst, ◌∙◌}
use Rattle.std.proofs.lemmas.Result.{err_from_is_err_and}
use Rattle.session_laws.specs.Seats.{HasRead}
use Rattle.cli_serving.proofs.SeatFound.{found_at, none_at, set_at, set_same}
use Rattle.cli_serving.proofs.seating.step_session.Goals as goal

pub returns-in_default-clause-went : goal.returns-in_default-clause-went
returns-in_default-clause-went g c =
    let seat = c.args.seat in
    inl (none_at c.args.sessions.now.items seat (subst (λ k. (seat ≡ 0) ⊎ (k < seat)) (c.len.ensures ∙ c.args.sessions.now.ok.0) (c.in_default.ensures.none refl)), (refl, refl))

pub returns-then-pinned-read-clause-went : goal.returns-then-pinned-read-clause-went
returns-then-pinned-read-clause-went g c =
    let sessions = c.args.sessions.now.items in
    let place = c.in-Some.place in
    let session = c.index_mut-session.result.now in
    let found = c.in-Some.ensures.found in
    let within : place < length sessions = subst (λ k. place < k) (c.len.ensures ∙ c.args.sessions.now.ok.0) found.1 in
    let read = c.read-read.ensures.read in
    let pinned = c.pinned-pinned.ensures.pinned in
    inr (
      session,
      found_at sessions place c.args.seat session within found.0 c.index_mut-session.ensures.value,
      inl (
        subst (λ k. session.pinned ≤ k) read (subst (λ k. k ≤ c.read-read.result) pinned c.if-pinned-read.true),
        ap (λ k. HasRead k c.pinned-pinned.result) read ∙ ap (HasRead (length session.log.given)) pinned,
        set_same sessions place session c.index_mut-session.ensures.value,
      ),
    )

pub returns-in_err-step-clause-fails : goal.returns-in_err-step-clause-fails
returns-in_err-step-clause-fails g c =
    let p = err_from_is_err_and c.from_residual.result c.from_residual.ensures.1 in
    let sessions = c.args.sessions.now.items in
    let place = c.in-Some.place in
    let session = c.index_mut-session.result.now in
    let found = c.in-Some.ensures.found in
    let within : place < length sessions = subst (λ k. place < k) (c.len.ensures ∙ c.args.sessions.now.ok.0) found.1 in
    rw (p.1, p.2) (
      session,
      found_at sessions place c.args.seat session within found.0 c.index_mut-session.ensures.value,
      subst (λ k. length session.log.given < k) c.pinned-pinned.ensures.pinned (subst (λ k. k < c.pinned-pinned.result) c.read-read.ensures.read c.if-pinned-read.false),
      c.in_err-step.ensures.one,
      c.in_err-step.ensures.of_bytes,
    )

pub returns-clause-went : goal.returns-clause-went
returns-clause-went g c =
    let sessions = c.args.sessions.now.items in
    let place = c.in-Some.place in
    let session = c.index_mut-session.result.now in
    let later = c.step.new.self in
    let found = c.in-Some.ensures.found in
    let within : place < length sessions = subst (λ k. place < k) (c.len.ensures ∙ c.args.sessions.now.ok.0) found.1 in
    let step = c.in_ok-step.ensures in
    inr (
      session,
      found_at sessions place c.args.seat session within found.0 c.index_mut-session.ensures.value,
      inr (
        later,
        subst (λ k. length session.log.given < k) c.pinned-pinned.ensures.pinned (subst (λ k. k < c.pinned-pinned.result) c.read-read.ensures.read c.if-pinned-read.false),
        record {
          bundle = step.bundle;
          pinned = step.pinned;
          ready = step.stays_ready;
          is_session = step.session;
          one = step.counts_one;
          given = step.one;
        },
        ap (λ k. HasRead k c.pinned-pinned.result) c.read.ensures.read ∙ ap (HasRead (length later.log.given)) (c.pinned-pinned.ensures.pinned ∙ sym step.pinned),
        set_at sessions place c.args.seat later found.0,
      ),
    )
