use Rattle.std.proofs.Common.{◌≡◌, ◌∙◌, List, ap, sym, subst, arith}
use Rattle.cry_base.specs.Sets.{In}
use Rattle.cry_base.specs.Store.{GrantEntry}
use Rattle.grant_book.specs.Granted.{grant_of, without_pairs_on}
use Rattle.grant_book.proofs.Dropped.{dropped_one, one_less}
use Rattle.grant_book.proofs.Ordered.{grant_is}
use Rattle.grant_book.proofs.grants.Grants.drop_on.Goals as goal

pub loop-grant-smaller : goal.loop-grant-smaller
loop-grant-smaller c =
    let told : In c.in-Some.grant c.loop-grant.self.pairs × (c.in-Some.grant.folder ≡ c.args.f.0) = c.in-Some.ensures in
    let one : c.in-Some.grant ≡ grant_of c.grant.inside.holder.0 c.args.f.0 = grant_is c.in-Some.grant c.grant.inside.holder.0 c.args.f.0 (ap (λ (e : GrantEntry). e.holder) (sym c.grant.view_is)) told.1 in
    rw c.revoke.ensures.pairs (one_less c.loop-grant.self.pairs c.grant.inside.holder.0 c.args.f.0 (subst (λ (e : GrantEntry). In e c.loop-grant.self.pairs) one told.0))

pub loop-grant-preserved : goal.loop-grant-preserved
loop-grant-preserved c = (
  c.revoke.ensures.checks ∙ c.loop-grant.invariant.0,
  ap (λ (l : List GrantEntry). without_pairs_on l c.args.f.0) c.revoke.ensures.pairs ∙ dropped_one c.loop-grant.self.pairs _ c.args.f.0 ∙ c.loop-grant.invariant.1,
  let kept = c.revoke.ensures.spare in let before = c.loop-grant.invariant.2 in omega (arith, kept, before),
)
