use Rattle.std.proofs.Common.{◌≡◌, ◌<◌, ◌≤◌, ℕ, List, false, get_or, length, take, refl, sym, ap, ◌∙◌, subst}
use Rattle.std.proofs.lemmas.Bool.{false≢true}
use Rattle.std.proofs.lemmas.List.{take_all}
use Rattle.cry_base.specs.Sets.{In}
use Rattle.cry_base.specs.Store.{Store}
use Rattle.cry_base.specs.declared.roles.Edge.{Edge}
use Rattle.cry_base.specs.declared.roles.Role.{Role}
use Rattle.cry_base.specs.declared.roles.Role.TheVariants.{Owner}
use Rattle.role_graph.specs.Edges.{unordered}
use Rattle.role_graph.specs.PublicStore.{public_store}
use Rattle.public_fold.proofs.MarksClosed.{closed_told, not_closed, one_closed}
use Rattle.public_fold.proofs.sound_marks.is_closed.Goals as goal

pub returns-then-not-branch : goal.returns-then-not-branch
returns-then-not-branch c =
    let marked : List Role = c.args.dirty.now in
    let i = c.loop-role.role-index in
    let here : Store = public_store c.args.shape.now.tree c.args.grants.now.pairs in
    let all : c.as_slice-role-items.result.now ≡ marked = c.as_slice-role-items.ensures.roles in
    let within : i < length marked = subst (λ (l : List Role). i < length l) all c.loop-role-test.true in
    let item : get_or c.as_slice-role-items.result.now i Owner ≡ get_or marked i Owner = ap (λ (l : List Role). get_or l i Owner) all in (
      λ t. absurd (false≢true t),
      λ closed.
          let each = (closed_told c.args.shape.now.tree c.args.grants.now marked).0 closed in
          sym c.if-not-branch.true
          ∙ c.in_ok-is_closed_at.ensures.closed.1 (subst (λ (s : Store). (e : Edge) → In e (unordered s) → e.from ≡ get_or c.as_slice-role-items.result.now i Owner → In e.to marked) (sym c.loop-role.invariant.same)
          (λ e j same. not_closed (unordered here) marked i Owner (get_or marked i Owner) within refl each e j (same ∙ item))),
    )

pub loop-role-preserved : goal.loop-role-preserved
loop-role-preserved c =
    let marked : List Role = c.args.dirty.now in
    let i = c.loop-role.role-index in
    let here : Store = public_store c.args.shape.now.tree c.args.grants.now.pairs in
    let all : c.as_slice-role-items.result.now ≡ marked = c.as_slice-role-items.ensures.roles in
    let within : i < length marked = subst (λ (l : List Role). i < length l) all c.loop-role-test.true in
    let item : get_or c.as_slice-role-items.result.now i Owner ≡ get_or marked i Owner = ap (λ (l : List Role). get_or l i Owner) all in
    let out = subst (λ (s : Store). (e : Edge) → In e (unordered s) → e.from ≡ get_or c.as_slice-role-items.result.now i Owner → In e.to marked) c.loop-role.invariant.same (c.in_ok-is_closed_at.ensures.closed.0 c.if-not-branch.false) in record {
      same = c.is_closed_at.ensures.same ∙ c.loop-role.invariant.same;
      closed = one_closed (unordered here) marked i Owner (get_or marked i Owner) within refl (λ e j same. out e j (same ∙ sym item)) c.loop-role.invariant.closed;
    }

pub returns : goal.returns
returns c =
    let marked : List Role = c.args.dirty.now in
    let i = c.loop-role.role-index in
    let all : c.as_slice-role-items.result.now ≡ marked = c.as_slice-role-items.ensures.roles in
    let past : length marked ≤ i = subst (λ (l : List Role). length l ≤ i) all c.loop-role-test.false in
    let whole : take i marked ≡ marked = take_all i marked past in (
      λ t. (closed_told c.args.shape.now.tree c.args.grants.now marked).1 (λ e j from. c.loop-role.invariant.closed e j (subst (λ (l : List Role). In e.from l) (sym whole) from)),
      λ closed. refl,
    )
