-- A command that a sound owner has room for draws few keys: each renewed role is the end of a link that its payload has.
use Rattle.std.proofs.Common.{◌≡◌, ℕ, ◌+◌, ◌*◌, ◌≤◌, ◌<◌, true, not, List, ◌++◌, length, arith, ap, length-append}
use Rattle.std.specs.Prelude.{if◌then◌else◌}
use Rattle.cry_base.specs.Layout.{batch_len}
use Rattle.cry_base.specs.Limits.{most_store_bytes}
use Rattle.commit_journal.specs.Journals.{end_with}
use Rattle.role_graph.specs.Edges.{edges}
use Rattle.move_plan.specs.Change.{change_of}
use Rattle.record_format.specs.Noted.{Note}
use Rattle.public_fold.specs.Fitted.{told_step}
use Rattle.public_fold.specs.Heads.{IsSkeleton}
use Rattle.public_fold.specs.Journal.{Stand, note_step}
use Rattle.public_fold.specs.KeyStep.{is_strict, published_edges, renewed}
use Rattle.public_fold.specs.Lengths.{note_len}
use Rattle.public_fold.specs.Preparing.{begun}
use Rattle.public_fold.specs.Records.{Link, pieces_of}
use Rattle.public_fold.specs.StandFits.{note_fits}
use Rattle.public_fold.specs.Standing.{IsSeenAs}
use Rattle.public_fold.specs.Told.{told_store}
use Rattle.public_fold.specs.Turns.{StandHolds}
use Rattle.public_fold.specs.declared.heads.Skeleton.{Skeleton}
use Rattle.public_fold.proofs.NoteMoves.{note_moves}
use Rattle.public_fold.proofs.SerialsKept.{few_fresh, plan_short}
use Rattle.public_fold.proofs.TurnsHold.{fit_told}
use Rattle.journal_bytes.specs.Sealing.{skeleton_size}
use Rattle.journal_bytes.proofs.NextEntry.{given_many, links_many}
use Rattle.journal_bytes.proofs.SoundSteps.{begun_stands}
use Rattle.store_owner.specs.Owned.{OwnerView}
use Rattle.store_owner.specs.Sound.{IsSound}

-- no more keys than links, but for those of what the note makes
few_given : (at : Stand) (links : List Link) (note : Note) (s : Skeleton) → StandHolds at links → note_fits at note (told_step at note) ≡ true → IsSkeleton (told_step at note) s
    → length s.keys.items ≤ length s.links.items + 5
unfolding told_step note_step
few_given at links note s holds f is =
    let after = told_store at.store note in
    let c = change_of (is_strict at.keys) at.store note in
    let p = renewed at.keys (edges at.store) c in
    let short : length p ≤ length (published_edges (edges at.store) c p) =
    plan_short at.store after at.keys c links (note_moves (is_strict at.keys) at.store note (unfold told_step note_step in (fit_told at note f).0) holds.store) holds.keys
    in
    let joined : length (p ++ c.fresh) ≡ length p + length c.fresh = length-append p c.fresh in
    let fresh = few_fresh (is_strict at.keys) at.store note in
    let many = given_many at.keys (edges at.store) c (pieces_of note after) in
    let linked = links_many at.keys (edges at.store) c (pieces_of note after) in
    let keys = ap length is.keys in
    let published = ap length is.links in
    omega (arith, short, joined, fresh, many, linked, keys, published)

few_within : (keys links note texts end more limit : ℕ) → keys ≤ links + 5 → end + (batch_len + (note + 8 + 98 * links + texts)) + more ≤ limit → limit ≤ most_store_bytes → 32 * keys < 4294967296
few_within keys links note texts end more limit many within low = omega arith

pub few_keys : (o : OwnerView) (note : Note) (s : Skeleton) (text : ℕ) → IsSound o → o.journal.limit ≤ most_store_bytes
    → ((at : Stand) → IsSeenAs o.state at → IsSkeleton (told_step (begun (not o.journal.has_epoch) at) note) s)
    → ((at : Stand) → IsSeenAs o.state at → note_fits (begun (not o.journal.has_epoch) at) note (told_step (begun (not o.journal.has_epoch) at) note) ≡ true)
    → end_with o.journal (skeleton_size note s text) ≤ o.journal.limit → 32 * length s.keys.items < 4294967296
few_keys o note s text sound limit skeleton fits within =
    let at = begun (not o.journal.has_epoch) sound.at in
    let fit = fits sound.at sound.seen in
    let stands = begun_stands (not o.journal.has_epoch) sound.at sound.goes_on.links sound.goes_on.holds in
    few_within (length s.keys.items) (length s.links.items) (note_len note) ((58 + text) * length s.contents.items) o.journal.end (if o.journal.has_epoch then 0 else batch_len) o.journal.limit
    (few_given at sound.goes_on.links note s stands fit (skeleton sound.at sound.seen)) within limit
