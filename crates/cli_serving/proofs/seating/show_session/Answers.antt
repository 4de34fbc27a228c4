use Rattle.std.proofs.Common.{◌≡◌, ◌⊎◌, ◌<◌, ◌≤◌, inl, inr, length, Err, refl, sym, ap, subst, ◌∙◌}
use Rattle.holder_client.specs.Lines.{plain_view}
use Rattle.cli_serving.proofs.SeatFound.{found_at, no_refusal, none_at, refused_so}
use Rattle.cli_serving.proofs.seating.show_session.Goals as goal

pub returns-in_default-clause-went : goal.returns-in_default-clause-went
returns-in_default-clause-went g c =
    let seat = c.args.seat in
    inl (none_at c.args.sessions.now.items seat (subst (λ k. (seat ≡ 0) ⊎ (k < seat)) (c.len.ensures ∙ c.args.sessions.now.ok.0) (c.in_default.ensures.none refl)), (refl, refl))

pub returns-then-read-pinned-clause-went : goal.returns-then-read-pinned-clause-went
returns-then-read-pinned-clause-went g c =
    let sessions = c.args.sessions.now.items in
    let place = c.in-Some.place in
    let session = c.index-session.result.now in
    let found = c.in-Some.ensures.found in
    let within : place < length sessions = subst (λ k. place < k) (c.len.ensures ∙ c.args.sessions.now.ok.0) found.1 in
    inr (
      session,
      found_at sessions place c.args.seat session within found.0 c.index-session.ensures,
      inl (subst (λ k. length session.log.given < k) c.pinned.ensures.pinned (subst (λ k. k < c.pinned.result) c.read.ensures.read c.if-read-pinned.true), (refl, refl)),
    )

pub returns-in-Ok-clause-went : goal.returns-in-Ok-clause-went
returns-in-Ok-clause-went g c =
    let sessions = c.args.sessions.now.items in
    let place = c.in-Some.place in
    let session = c.index-session.result.now in
    let found = c.in-Some.ensures.found in
    let within : place < length sessions = subst (λ k. place < k) (c.len.ensures ∙ c.args.sessions.now.ok.0) found.1 in
    let all = subst (λ k. session.pinned ≤ k) c.read.ensures.read (subst (λ k. k ≤ c.read.result) c.pinned.ensures.pinned c.if-read-pinned.false) in
    inr (
      session,
      found_at sessions place c.args.seat session within found.0 c.index-session.ensures,
      inr (all, refl, inl (plain_view c.in-Ok.lines, c.in-Ok.ensures.answer, refl)),
    )

pub returns-in-Some-refusal_in-clause-went : goal.returns-in-Some-refusal_in-clause-went
returns-in-Some-refusal_in-clause-went g c =
    let sessions = c.args.sessions.now.items in
    let place = c.in-Some.place in
    let session = c.index-session.result.now in
    let found = c.in-Some.ensures.found in
    let within : place < length sessions = subst (λ k. place < k) (c.len.ensures ∙ c.args.sessions.now.ok.0) found.1 in
    let all = subst (λ k. session.pinned ≤ k) c.read.ensures.read (subst (λ k. k ≤ c.read.result) c.pinned.ensures.pinned c.if-read-pinned.false) in
    let why = c.in-Some-refusal_in.why in
    let told = sym c.refusal_in.ensures ∙ c.in-Some-refusal_in.is in
    inr (
      session,
      found_at sessions place c.args.seat session within found.0 c.index-session.ensures,
      inr (all, refl, inr (why, refused_so (g.D.Disk.shown c.args.disk.now) session c.in-Err.fault why told c.in-Err.ensures.answer, refl)),
    )

pub returns-in-None-clause-fails : goal.returns-in-None-clause-fails
returns-in-None-clause-fails g c =
    let sessions = c.args.sessions.now.items in
    let place = c.in-Some.place in
    let session = c.index-session.result.now in
    let found = c.in-Some.ensures.found in
    let within : place < length sessions = subst (λ k. place < k) (c.len.ensures ∙ c.args.sessions.now.ok.0) found.1 in
    let all = subst (λ k. session.pinned ≤ k) c.read.ensures.read (subst (λ k. k ≤ c.read.result) c.pinned.ensures.pinned c.if-read-pinned.false) in
    let none = sym c.refusal_in.ensures ∙ c.in-None.is in
    let fault = c.in-Err.fault in (
      session,
      found_at sessions place c.args.seat session within found.0 c.index-session.ensures,
      all,
      no_refusal fault none (λ is. c.in-Err.ensures.seen (ap Err is)),
      c.in-Err.ensures.answer,
    )
