use Rattle.std.proofs.Common.{◌≡◌, List, ℕ, Err, [], ◌∷◌, ◌++◌, ap, subst, ◌∙◌}
use Rattle.cry_io.specs.Told.{WhereBothTold}
use Rattle.batch_log.proofs.Handed.{shows_all}
use Rattle.batch_log.proofs.Moments.{goes_on_then}
use Rattle.chacha_seal.specs.Keys.{KeyParts}
use Rattle.commit_journal.specs.declared.commit_fault.CommitFault.TheVariants as faults
use Rattle.commit_journal.specs.Handing.{Hands, all_written, header_writes}
use Rattle.commit_journal.specs.Image.{image}
use Rattle.commit_journal.specs.Journals.{empty_journal, next_command, next_epoch}
use Rattle.record_format.specs.Plain.{plain_payload}
use Rattle.record_format.specs.Spelling.{spell_payload}
use Rattle.store_owner.proofs.Founded.{made_shows, made_size, made_state}
use Rattle.store_owner.proofs.HandedBatches.{added_one}
use Rattle.store_owner.proofs.HandedStores.{all_done, epoch_hands, first_done, first_hands, header_hands, root_hands, second_done, second_hands}
use Rattle.store_owner.proofs.making.write_store.Goals as goal

pub returns-clause-state : goal.returns-clause-state
returns-clause-state g c =
    made_state c.args.owner.now (plain_payload c.args.payload.now) c.args.journal.now c.found.new.self c.begin_epoch.new.self c.commit.new.self c.end_session.new.self
    c.requires.spellable c.requires.size (c.in_ok-found.ensures.state ∙ ap (λ (o : List ℕ). empty_journal o c.args.journal.now.limit c.args.journal.now) (ap (λ (key : KeyParts). key.bytes) c.owner.ensures)) c.in_ok-begin_epoch.ensures.behind c.in_ok-commit.ensures.behind c.end_session.ensures

pub returns-clause-shows : goal.returns-clause-shows
returns-clause-shows g c =
    let shown = g.D.Disk.shown in
    made_shows c.args.owner.now (plain_payload c.args.payload.now) c.args.journal.now c.found.new.self c.begin_epoch.new.self c.commit.new.self c.end_session.new.self
    c.requires.spellable c.requires.size (c.in_ok-found.ensures.state ∙ ap (λ (o : List ℕ). empty_journal o c.args.journal.now.limit c.args.journal.now) (ap (λ (key : KeyParts). key.bytes) c.owner.ensures)) c.in_ok-begin_epoch.ensures.behind c.in_ok-commit.ensures.behind
    (shown c.found.new.disk) (shown c.begin_epoch.new.disk) (shown c.commit.new.disk) c.in_ok-found.ensures.stands (λ s is. c.in_ok-found.ensures.shows s is ∙ ap (λ (o : List ℕ). image o [] ++ 0 ∷ []) (ap (λ (key : KeyParts). key.bytes) c.owner.ensures))
    c.in_ok-begin_epoch.ensures.told c.in_ok-commit.ensures.told c.in_ok-begin_epoch.ensures.joined c.in_ok-commit.ensures.joined

pub returns-clause-size : goal.returns-clause-size
returns-clause-size g c =
    let size = g.D.Disk.size_of in
    made_size c.args.owner.now (plain_payload c.args.payload.now) c.args.journal.now c.found.new.self c.begin_epoch.new.self c.commit.new.self c.end_session.new.self
    c.requires.spellable c.requires.size (c.in_ok-found.ensures.state ∙ ap (λ (o : List ℕ). empty_journal o c.args.journal.now.limit c.args.journal.now) (ap (λ (key : KeyParts). key.bytes) c.owner.ensures)) c.in_ok-begin_epoch.ensures.behind c.in_ok-commit.ensures.behind
    (size c.found.new.disk) (size c.begin_epoch.new.disk) (size c.commit.new.disk) c.in_ok-found.ensures.size c.in_ok-begin_epoch.ensures.size c.in_ok-commit.ensures.size

-- ---- what the disk is handed

pub returns-in_err-found-clause-hands : goal.returns-in_err-found-clause-hands
returns-in_err-found-clause-hands g c =
    let D = g.D.Disk in
    let a = c.args.disk.now in
    let b = c.found.new.disk in
    let owner = c.args.owner.now in
    let key : c.owner.result.bytes ≡ owner = ap (λ (k : KeyParts). k.bytes) c.owner.ensures in
    let header = subst (λ (k : List ℕ). Hands (header_writes k) (c.found.result ≡ Err faults.DiskFault) (D.shown a) (D.shown b) (D.since b (D.moment a))) key c.found.ensures.hands in
    header_hands owner (plain_payload c.args.payload.now) _ (D.shown a) (D.shown b) (D.since b (D.moment a)) header

pub returns-in_err-begin_epoch-clause-hands : goal.returns-in_err-begin_epoch-clause-hands
returns-in_err-begin_epoch-clause-hands g c =
    let D = g.D.Disk in
    let a = c.args.disk.now in
    let b = c.found.new.disk in
    let owner = c.args.owner.now in
    let key : c.owner.result.bytes ≡ owner = ap (λ (k : KeyParts). k.bytes) c.owner.ensures in
    let header = subst (λ (k : List ℕ). Hands (header_writes k) (c.found.result ≡ Err faults.DiskFault) (D.shown a) (D.shown b) (D.since b (D.moment a))) key c.found.ensures.hands in
    let written = shows_all (header_writes owner) (D.shown a) (D.shown b) c.found.ensures.told
    (subst (λ (k : List ℕ). WhereBothTold (D.shown a) (D.shown b) (λ x y. y ≡ all_written (header_writes k) x)) key c.in_ok-found.ensures.written) in
    let none = c.found.new.self in
    let payload = plain_payload c.args.payload.now in
    let empty : none ≡ empty_journal owner c.args.journal.now.limit c.args.journal.now =
    c.in_ok-found.ensures.state ∙ ap (λ (o : List ℕ). empty_journal o c.args.journal.now.limit c.args.journal.now) key in
    let e = c.begin_epoch.new.disk in
    let epoch = first_hands owner payload c.args.journal.now none empty _ (D.shown b) (D.shown e) (D.since e (D.moment b)) c.in_ok-found.ensures.stands c.begin_epoch.ensures.hands in
    epoch_hands owner payload _ (D.shown a) (D.shown b) (D.shown e) (D.moment a) (D.moment b) (D.since b) (D.since e) c.found.ensures.later c.begin_epoch.ensures.time written header epoch

pub returns-in_err-commit-clause-hands : goal.returns-in_err-commit-clause-hands
returns-in_err-commit-clause-hands g c =
    let D = g.D.Disk in
    let a = c.args.disk.now in
    let b = c.found.new.disk in
    let owner = c.args.owner.now in
    let key : c.owner.result.bytes ≡ owner = ap (λ (k : KeyParts). k.bytes) c.owner.ensures in
    let header = subst (λ (k : List ℕ). Hands (header_writes k) (c.found.result ≡ Err faults.DiskFault) (D.shown a) (D.shown b) (D.since b (D.moment a))) key c.found.ensures.hands in
    let written = shows_all (header_writes owner) (D.shown a) (D.shown b) c.found.ensures.told
    (subst (λ (k : List ℕ). WhereBothTold (D.shown a) (D.shown b) (λ x y. y ≡ all_written (header_writes k) x)) key c.in_ok-found.ensures.written) in
    let none = c.found.new.self in
    let payload = plain_payload c.args.payload.now in
    let empty : none ≡ empty_journal owner c.args.journal.now.limit c.args.journal.now =
    c.in_ok-found.ensures.state ∙ ap (λ (o : List ℕ). empty_journal o c.args.journal.now.limit c.args.journal.now) key in
    let e = c.begin_epoch.new.disk in
    let epoch = first_hands owner payload c.args.journal.now none empty _ (D.shown b) (D.shown e) (D.since e (D.moment b)) c.in_ok-found.ensures.stands c.begin_epoch.ensures.hands in
    let f = c.commit.new.disk in
    let first = c.begin_epoch.new.self in
    let begun = first_done owner payload c.args.journal.now none empty (D.shown b) (D.shown e) c.in_ok-found.ensures.stands
    (added_one (next_epoch none) none (D.shown b) (D.shown e) c.begin_epoch.ensures.told c.in_ok-begin_epoch.ensures.written) in
    let of = c.in_ok-begin_epoch.ensures.joined.stands [] c.in_ok-found.ensures.stands in
    let root = second_hands owner payload c.args.journal.now none empty first c.in_ok-begin_epoch.ensures.behind of _ (D.shown e) (D.shown f) (D.since f (D.moment e)) c.commit.ensures.hands in
    root_hands owner payload _ (D.shown a) (D.shown b) (D.shown e) (D.shown f) (D.moment a) (D.moment b) (D.moment e) (D.since b) (D.since e) (D.since f)
    c.found.ensures.later c.begin_epoch.ensures.later c.begin_epoch.ensures.time c.commit.ensures.time written begun header epoch root

pub returns-clause-hands : goal.returns-clause-hands
returns-clause-hands g c =
    let D = g.D.Disk in
    let a = c.args.disk.now in
    let b = c.found.new.disk in
    let owner = c.args.owner.now in
    let key : c.owner.result.bytes ≡ owner = ap (λ (k : KeyParts). k.bytes) c.owner.ensures in
    let header = subst (λ (k : List ℕ). Hands (header_writes k) (c.found.result ≡ Err faults.DiskFault) (D.shown a) (D.shown b) (D.since b (D.moment a))) key c.found.ensures.hands in
    let written = shows_all (header_writes owner) (D.shown a) (D.shown b) c.found.ensures.told
    (subst (λ (k : List ℕ). WhereBothTold (D.shown a) (D.shown b) (λ x y. y ≡ all_written (header_writes k) x)) key c.in_ok-found.ensures.written) in
    let none = c.found.new.self in
    let payload = plain_payload c.args.payload.now in
    let empty : none ≡ empty_journal owner c.args.journal.now.limit c.args.journal.now =
    c.in_ok-found.ensures.state ∙ ap (λ (o : List ℕ). empty_journal o c.args.journal.now.limit c.args.journal.now) key in
    let e = c.begin_epoch.new.disk in
    let epoch = first_hands owner payload c.args.journal.now none empty _ (D.shown b) (D.shown e) (D.since e (D.moment b)) c.in_ok-found.ensures.stands c.begin_epoch.ensures.hands in
    let f = c.commit.new.disk in
    let first = c.begin_epoch.new.self in
    let begun = first_done owner payload c.args.journal.now none empty (D.shown b) (D.shown e) c.in_ok-found.ensures.stands
    (added_one (next_epoch none) none (D.shown b) (D.shown e) c.begin_epoch.ensures.told c.in_ok-begin_epoch.ensures.written) in
    let of = c.in_ok-begin_epoch.ensures.joined.stands [] c.in_ok-found.ensures.stands in
    let root = second_hands owner payload c.args.journal.now none empty first c.in_ok-begin_epoch.ensures.behind of _ (D.shown e) (D.shown f) (D.since f (D.moment e)) c.commit.ensures.hands in
    root_hands owner payload _ (D.shown a) (D.shown b) (D.shown e) (D.shown f) (D.moment a) (D.moment b) (D.moment e) (D.since b) (D.since e) (D.since f)
    c.found.ensures.later c.begin_epoch.ensures.later c.begin_epoch.ensures.time c.commit.ensures.time written begun header epoch root

pub returns-clause-handed : goal.returns-clause-handed
returns-clause-handed g c =
    let D = g.D.Disk in
    let a = c.args.disk.now in
    let b = c.found.new.disk in
    let owner = c.args.owner.now in
    let key : c.owner.result.bytes ≡ owner = ap (λ (k : KeyParts). k.bytes) c.owner.ensures in
    let written = shows_all (header_writes owner) (D.shown a) (D.shown b) c.found.ensures.told
    (subst (λ (k : List ℕ). WhereBothTold (D.shown a) (D.shown b) (λ x y. y ≡ all_written (header_writes k) x)) key c.in_ok-found.ensures.written) in
    let none = c.found.new.self in
    let payload = plain_payload c.args.payload.now in
    let empty : none ≡ empty_journal owner c.args.journal.now.limit c.args.journal.now =
    c.in_ok-found.ensures.state ∙ ap (λ (o : List ℕ). empty_journal o c.args.journal.now.limit c.args.journal.now) key in
    let e = c.begin_epoch.new.disk in
    let f = c.commit.new.disk in
    let first = c.begin_epoch.new.self in
    let begun = first_done owner payload c.args.journal.now none empty (D.shown b) (D.shown e) c.in_ok-found.ensures.stands
    (added_one (next_epoch none) none (D.shown b) (D.shown e) c.begin_epoch.ensures.told c.in_ok-begin_epoch.ensures.written) in
    let of = c.in_ok-begin_epoch.ensures.joined.stands [] c.in_ok-found.ensures.stands in
    all_done owner payload (D.shown a) (D.shown b) (D.shown e) (D.shown f) written begun
    (second_done owner payload c.args.journal.now none empty first c.in_ok-begin_epoch.ensures.behind of (D.shown e) (D.shown f)
    (added_one (next_command first (spell_payload payload)) first (D.shown e) (D.shown f) c.commit.ensures.told c.in_ok-commit.ensures.written))

pub returns-in_err-begin_epoch-clause-time : goal.returns-in_err-begin_epoch-clause-time
returns-in_err-begin_epoch-clause-time g c =
    let D = g.D.Disk in
    let a = c.args.disk.now in
    let b = c.found.new.disk in
    goes_on_then (D.moment a) (D.moment b) (D.since a) (D.since b) (D.since c.begin_epoch.new.disk) c.found.ensures.later c.found.ensures.time c.begin_epoch.ensures.time

pub returns-in_err-commit-clause-time : goal.returns-in_err-commit-clause-time
returns-in_err-commit-clause-time g c =
    let D = g.D.Disk in
    let a = c.args.disk.now in
    let b = c.found.new.disk in
    let e = c.begin_epoch.new.disk in
    goes_on_then (D.moment a) (D.moment b) (D.since a) (D.since b) (D.since c.commit.new.disk) c.found.ensures.later c.found.ensures.time
    (goes_on_then (D.moment b) (D.moment e) (D.since b) (D.since e) (D.since c.commit.new.disk) c.begin_epoch.ensures.later c.begin_epoch.ensures.time c.commit.ensures.time)

pub returns-clause-time : goal.returns-clause-time
returns-clause-time g c =
    let D = g.D.Disk in
    let a = c.args.disk.now in
    let b = c.found.new.disk in
    let e = c.begin_epoch.new.disk in
    goes_on_then (D.moment a) (D.moment b) (D.since a) (D.since b) (D.since c.commit.new.disk) c.found.ensures.later c.found.ensures.time
    (goes_on_then (D.moment b) (D.moment e) (D.since b) (D.since e) (D.since c.commit.new.disk) c.begin_epoch.ensures.later c.begin_epoch.ensures.time c.commit.ensures.time)
