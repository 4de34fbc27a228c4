use Rattle.std.proofs.Common.{◌≡◌, [], ◌∷◌}
use Rattle.std.proofs.lemmas.Result.{IfOk-weaker}
use Rattle.cry_base.specs.Store.{Store}
use Rattle.role_graph.specs.Edges.{edges, reach_along}
use Rattle.rekey_walk.specs.Dirty.{IsJoined, mark}
use Rattle.rekey_walk.proofs.ByWalks.{is_marked, mark_walked, marked_whole}
use Rattle.rekey_walk.proofs.walks.mark_in.Goals as goal

pub returns-clause-ok : goal.returns-clause-ok
returns-clause-ok g c =
    let s : Store = g.R.Adjacent.store c.args.roles.now in
    let set = c.in_ok-reached.reached in
    IfOk-weaker c.add.result (λ u. IsJoined c.args.dirty.now set c.add.new.dirty) (λ u. c.add.new.dirty ≡ mark c.args.dirty.now (edges s) c.args.target)
    (λ u joined. is_marked s c.args.target set c.in_ok-reached.ensures.reached c.args.dirty.now c.add.new.dirty joined) c.add.ensures.ok

pub returns-clause-steps : goal.returns-clause-steps
returns-clause-steps g c =
    let s : Store = g.R.Adjacent.store c.args.roles.now in
    mark_walked s c.args.target (g.R.Adjacent.steps c.args.roles.now) (g.R.Adjacent.steps c.walk.new.roles) c.walk.ensures.steps

pub returns-in_err-reached-clause-steps : goal.returns-in_err-reached-clause-steps
returns-in_err-reached-clause-steps g c =
    let s : Store = g.R.Adjacent.store c.args.roles.now in
    mark_walked s c.args.target (g.R.Adjacent.steps c.args.roles.now) (g.R.Adjacent.steps c.walk.new.roles) c.walk.ensures.steps

pub returns-clause-whole : goal.returns-clause-whole
returns-clause-whole g c =
    let es = edges (g.R.Adjacent.store c.args.roles.now) in
    marked_whole es (reach_along es (c.args.target ∷ [])) (g.R.Adjacent.steps c.args.roles.now) (g.R.Adjacent.steps c.walk.new.roles) (returns-clause-steps g c)

pub returns-in_err-reached-clause-whole : goal.returns-in_err-reached-clause-whole
returns-in_err-reached-clause-whole g c =
    let es = edges (g.R.Adjacent.store c.args.roles.now) in
    marked_whole es (reach_along es (c.args.target ∷ [])) (g.R.Adjacent.steps c.args.roles.now) (g.R.Adjacent.steps c.walk.new.roles) (returns-in_err-reached-clause-steps g c)
