use Rattle.std.proofs.Common.{◌≡◌, None, Some, cond, get_or, set, subst, sym, ◌∙◌, true, false, slice_get, rules}
use Rattle.std.specs.HashMap.{get}
use Rattle.log_visits.specs.SpotRows.{is_free, spot_in, spot_of}
use Rattle.log_visits.proofs.SpotRows.{elsewhere, in_row, row_there}
use Rattle.log_visits.proofs.spot_table.SpotTable.insert.Goals as goal

pub index_mut-requires : goal.index_mut-requires
index_mut-requires g c =
    let there = row_there g.H.PartialEq.eq g.met.H.Numbered.is_same (λ h. g.H.Numbered.row_of h c.args.self.now.files_from) c.args.self.now.rows.items c.args.head c.args.spot
    c.args.self.now.rows.items c.row-row.result (sym c.has_row.ensures ∙ c.if-has_row.true) in
    search rules

pub returns-then-has_row : goal.returns-then-has_row
returns-then-has_row g c = λ q.
    let self = c.args.self.now in
    let head = c.args.head in
    let row = c.row-row.ensures in
    let free = sym c.has_row.ensures ∙ c.if-has_row.true in
    let is = in_row g.H.PartialEq.eq g.met.H.Numbered.is_same (λ h. g.H.Numbered.row_of h self.files_from) self.rows.items head c.args.spot
    (subst (λ n. is_free g.H.PartialEq.eq head (slice_get self.rows.items n) ≡ true) row free) q (get g.H.PartialEq.eq self.others q) in
    subst
    (λ n. spot_in g.H.PartialEq.eq q (get_or (set self.rows.items n (Some (head, c.args.spot))) (g.H.Numbered.row_of q self.files_from) None) (get g.H.PartialEq.eq self.others q)
    ≡ cond (g.H.PartialEq.eq head q) (Some c.args.spot) (spot_of g.H.PartialEq.eq g.H.Numbered.row_of self q))
    (sym row) is

pub returns-in_ok-insert : goal.returns-in_ok-insert
returns-in_ok-insert g c = λ q.
    let self = c.args.self.now in
    let taken = subst (λ n. is_free g.H.PartialEq.eq c.args.head (slice_get self.rows.items n) ≡ false) c.row-row.ensures (sym c.has_row.ensures ∙ c.if-has_row.false) in
    elsewhere g.H.PartialEq.eq g.met.H.Numbered.is_same (λ h. g.H.Numbered.row_of h self.files_from) self.rows.items c.args.head c.args.spot taken q
    (get g.H.PartialEq.eq self.others q) (get g.H.PartialEq.eq c.insert.new.self q) (c.in_ok-insert.ensures.updates.0 q)
