use Rattle.std.proofs.Common.{◌≡◌, ℕ, List, [], ◌∷◌, ◌++◌, length, map, Ok, refl, ap, sym, subst, ◌∙◌, arith, length-append}
use Rattle.std.proofs.lemmas.Result.{err_from_is_err_and}
use Rattle.commit_journal.specs.Answering.{IsFault}
use Rattle.commit_journal.specs.Leaves.{IsLeaf, leaf_of, leaves_of}
use Rattle.commit_journal.specs.Logs.{holder_log}
use Rattle.commit_journal.specs.Placed.{plain_placed}
use Rattle.commit_journal.specs.Streaming.{Gives, GivesOne}
use Rattle.commit_journal.proofs.Stepped.{anybody_reads}
use Rattle.cry_io.proofs.OnlyRead.{only_read_twice}
use Rattle.head_tree.specs.Hashing.{leaf_hash}
use Rattle.log_heads.proofs.Read.{front_hashed, hashes_fail, hashes_known, leaf_hashed}
use Rattle.log_heads.proofs.published.PublishedProof.read.Goals as goal
use Rattle.log_heads.specs.Proving.{IsPublished}

pub returns-in_err-log-clause-verdict : goal.returns-in_err-log-clause-verdict
returns-in_err-log-clause-verdict g c = λ s is.
    let p = err_from_is_err_and c.from_residual.result c.from_residual.ensures.1 in
    let fault = c.in_err-log.field-0.0 in
    rw (p.1, p.2) (hashes_fail fault s (subst (IsFault fault) (anybody_reads s) (c.in_err-log.ensures.failed s is)))

pub loop-so_far-init : goal.loop-so_far-init
loop-so_far-init g c =
    let begun = c.in_ok-log.ensures in
    let front : List ℕ = c.as_slice.result.now in
    record {
      inside = omega (arith, begun.inside, begun.read_only.same_size);
      given = ap length begun.fresh.1 ∙ sym c.in_ok-so_far.ensures.batches;
      wanted = c.in_ok-so_far.ensures.wanted;
      read_only = begun.read_only;
      counts = begun.counts;
      so_far = begun.log;
      proof = (
        leaf_hash front ∷ [],
        c.in_ok-so_far.ensures.so_far,
        λ s is.
            front_hashed s front (leaf_hash front) (c.as_slice.ensures ∙ c.front.ensures ∙ begun.front s is) refl
            ∙ ap (λ given. map leaf_hash (leaves_of s given)) (sym begun.fresh.1),
      );
    }

pub returns-in_err-_placed-clause-verdict : goal.returns-in_err-_placed-clause-verdict
returns-in_err-_placed-clause-verdict g c = λ s is.
    let p = err_from_is_err_and c.from_residual-in_err-_placed.result c.from_residual-in_err-_placed.ensures.1 in
    let kept = c.loop-so_far.invariant in
    let fault = c.in_err-_placed.field-0.0 in
    let failed = c.in_err-_placed.ensures.failed s (kept.read_only.same_bytes ∙ is) in
    rw (p.1, p.2) (hashes_fail fault s (subst (IsFault fault) (kept.so_far s is ∙ anybody_reads s) failed))

pub loop-so_far-preserved : goal.loop-so_far-preserved
loop-so_far-preserved g c =
    let size = g.D.Disk.size_of c.loop-so_far.disk in
    let placed = c.in-Some._placed in
    let kept = c.loop-so_far.invariant in
    let next = c.in_ok-_placed.ensures in
    let gives : GivesOne size c.loop-so_far.log placed c.next.new.self = subst (λ o. Gives size c.loop-so_far.log o c.next.new.self) c.in-Some.is next.gives in
    let before = c.loop-so_far.log.given in
    let hashes = kept.proof.0 in
    let leaf : List ℕ = c.leaf.result.now in
    record {
      inside = omega (arith, gives.inside, next.read_only.same_size);
      given = omega (arith, ap length gives.given, length-append before (plain_placed placed ∷ []), kept.given, c.push.ensures.batches);
      wanted = c.push.ensures.wanted ∙ kept.wanted;
      read_only = only_read_twice g.D.Disk c.args.disk.now c.loop-so_far.disk c.next.new.disk kept.read_only next.read_only;
      counts = omega (arith, kept.counts, next.counts);
      so_far = λ s is. next.log s (kept.read_only.same_bytes ∙ is) ∙ kept.so_far s is;
      proof = (
        hashes ++ leaf_hash leaf ∷ [],
        c.push.ensures.so_far hashes kept.proof.1,
        λ s is.
            let own : c.next.new.self.leaf ≡ leaf_of s (plain_placed placed) =
            subst (IsLeaf c.next.new.self.leaf s) c.in-Some.is (next.leaf s (kept.read_only.same_bytes ∙ is))
            in
            leaf_hashed s leaf (leaf_hash leaf) hashes before (plain_placed placed) (kept.proof.2 s is) (c.leaf.ensures ∙ own) refl
            ∙ ap (λ given. map leaf_hash (leaves_of s given)) (sym gives.given),
      );
    }

pub loop-so_far-preserved-in-Some : goal.loop-so_far-preserved-in-Some
loop-so_far-preserved-in-Some g c =
    let size = g.D.Disk.size_of c.loop-so_far.disk in
    let placed = c.in-Some._placed in
    let kept = c.loop-so_far.invariant in
    let next = c.in_ok-_placed.ensures in
    let gives : GivesOne size c.loop-so_far.log placed c.next.new.self = subst (λ o. Gives size c.loop-so_far.log o c.next.new.self) c.in-Some.is next.gives in
    let before = c.loop-so_far.log.given in
    let hashes = kept.proof.0 in
    let leaf : List ℕ = c.leaf.result.now in
    record {
      inside = omega (arith, gives.inside, next.read_only.same_size);
      given = omega (arith, ap length gives.given, length-append before (plain_placed placed ∷ []), kept.given, c.push.ensures.batches);
      wanted = c.push.ensures.wanted ∙ kept.wanted;
      read_only = only_read_twice g.D.Disk c.args.disk.now c.loop-so_far.disk c.next.new.disk kept.read_only next.read_only;
      counts = omega (arith, kept.counts, next.counts);
      so_far = λ s is. next.log s (kept.read_only.same_bytes ∙ is) ∙ kept.so_far s is;
      proof = (
        hashes ++ leaf_hash leaf ∷ [],
        c.push.ensures.so_far hashes kept.proof.1,
        λ s is.
            let own : c.next.new.self.leaf ≡ leaf_of s (plain_placed placed) =
            subst (IsLeaf c.next.new.self.leaf s) c.in-Some.is (next.leaf s (kept.read_only.same_bytes ∙ is))
            in
            leaf_hashed s leaf (leaf_hash leaf) hashes before (plain_placed placed) (kept.proof.2 s is) (c.leaf.ensures ∙ own) refl
            ∙ ap (λ given. map leaf_hash (leaves_of s given)) (sym gives.given),
      );
    }

pub returns-clause-verdict : goal.returns-clause-verdict
returns-clause-verdict g c = λ s is.
    let kept = c.loop-so_far.invariant in
    let ended = c.in_ok-_placed.ensures.ended (ap Ok c.in_default.is) s (kept.read_only.same_bytes ∙ is) in
    let known : holder_log s ≡ Ok c.loop-so_far.log.given = sym (anybody_reads s) ∙ sym (kept.so_far s is) ∙ ended in (
      kept.proof.0,
      sym (hashes_known s c.loop-so_far.log.given known) ∙ ap Ok (sym (kept.proof.2 s is)),
      subst (λ n. IsPublished c.published.result n kept.proof.0) kept.wanted (c.published.ensures kept.proof.0 kept.proof.1),
    )
