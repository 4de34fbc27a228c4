-- A command that fits into a store draws few keys: each renewed role is the end of a link that its payload has.
use Rattle.std.proofs.Common.{◌≡◌, ℕ, ◌+◌, ◌*◌, ◌≤◌, ◌<◌, Bool, false, List, [], ◌∷◌, ◌++◌, length, replicate, None, arith, length-append}
use Rattle.cry_base.specs.Limits.{most_store_bytes}
use Rattle.cry_base.specs.Refusing.{refusal_in}
use Rattle.cry_base.specs.Requests.{Request}
use Rattle.cry_base.specs.Stepping.{effect}
use Rattle.role_graph.specs.Edges.{edges}
use Rattle.move_plan.specs.Change.{change_of}
use Rattle.move_plan.specs.Noting.{note_of}
use Rattle.public_fold.specs.Journal.{Journal, nothing, entry_step, first_key, keys_of, note_step, stand_after, steps_of, store_of}
use Rattle.public_fold.specs.Keyed.{links_of}
use Rattle.public_fold.specs.KeyStep.{published_edges, renewed, is_strict}
use Rattle.public_fold.specs.Preparing.{begun_keys}
use Rattle.public_fold.specs.Valid.{IsValid}
use Rattle.public_fold.proofs.KeyMoves.{command_moves, journal_holds, journal_sound}
use Rattle.public_fold.proofs.Numbers.{journal_numbers}
use Rattle.public_fold.proofs.SerialsKept.{few_fresh, plan_short}
use Rattle.journal_bytes.specs.Script.{draws_of, due_end, due_payload}
use Rattle.journal_bytes.proofs.NextEntry.{due, given_many, links_many, payload_due}

pub few_draws : (m : Journal) (has_begun : Bool) (r : Request) (file_bytes : ℕ) → IsValid m → refusal_in (is_strict (keys_of m)) (store_of m) r file_bytes ≡ None → due_end m has_begun r ≤ most_store_bytes → 32 * draws_of m r < 4294967296
unfolding draws_of due_end due_payload entry_step note_step store_of keys_of steps_of begun_keys first_key
few_draws m has_begun r file_bytes valid none low =
    let at = stand_after nothing m in
    let s = at.store in
    let strict = is_strict at.keys in
    let c = change_of strict s (note_of s r []) in
    let drawn : List (List ℕ) = replicate 32 0 ∷ [] in
    let p = renewed at.keys (edges s) c in
    let es = published_edges (edges s) c p in
    let short : length p ≤ length es =
    plan_short s (effect s r []) at.keys c (links_of (steps_of m)) (command_moves strict s r [] [] file_bytes none (journal_numbers m valid) (journal_sound m valid)) (journal_holds m valid)
    in
    let joined : length (p ++ c.fresh) ≡ length p + length c.fresh = length-append p c.fresh in
    let fresh = few_fresh strict s (note_of s r []) in
    let many = given_many at.keys (edges s) c (due at r []) in
    let links = links_many at.keys (edges s) c (due at r drawn) in
    let payload = payload_due at r false drawn in
    omega (arith, short, joined, fresh, many, links, payload, low)
