-- What stands after the lines of a generated script.
use Rattle.std.proofs.Common.{ℕ, zero, suc, List, ◌++◌, sym, subst, arith}
use Rattle.cry_base.specs.Requests.{Request}
use Rattle.cry_base.specs.Stepping.{effect}
use Rattle.cry_base.specs.Store.{Store, root_store}
use Rattle.cry_base.specs.WorkedRows.{plain_store}
use Rattle.store_gen.specs.Accepting.{LeadsTo}
use Rattle.store_gen.specs.Rule.{asks, advanced, change_of, drawn, drawn_after, drawn_requests, first, opening, requests}
use Rattle.store_gen.specs.Standing.{Stands}
use Rattle.store_gen.specs.declared.generator.Generator.{Generator}
use Rattle.store_gen.proofs.Accepted.{kept, suited, advanced_stands}
use Rattle.store_gen.proofs.Opening.{opened_store, opened_stands}

drawn_stand : (count : ℕ) (g : Generator) (s t : Store) → Stands g s → LeadsTo s (drawn_requests count g) t → Stands (drawn_after count g) t
unfolding drawn_requests drawn_after
drawn_stand zero g s t stands leads = subst (Stands g) (sym leads) stands
drawn_stand (suc count) g s t stands leads =
    let now = advanced_stands g s stands in
    let line = kept (advanced g) s 1 now (omega arith) (change_of (advanced g)) (suited (advanced g) now.ready) in
    drawn_stand count (drawn g) (effect s (asks (change_of (advanced g))) leads.0) t (line.1 leads.0) leads.1

opening_leads : (rest : List Request) (t : Store) → LeadsTo root_store (opening ++ rest) t
    → (a : List ℕ) × (b : List ℕ) × (c : List ℕ) × (d : List ℕ) × LeadsTo (opened_store a b c d) rest t
unfolding opening plain_store
opening_leads rest t leads =
    let holders = leads.1.1.1.1.1.1.1.1.1.1.1.1.1.1.1.1 in
    (holders.0, holders.1.0, holders.1.1.0, holders.1.1.1.0, holders.1.1.1.1)

pub script_stands : (seed count : ℕ) (t : Store) → LeadsTo root_store (requests seed count) t → Stands (drawn_after count (first seed)) t
unfolding requests
script_stands seed count t leads =
    let o = opening_leads (drawn_requests count (first seed)) t leads in
    drawn_stand count (first seed) (opened_store o.0 o.1 o.2 o.3) t (opened_stands seed o.0 o.1 o.2 o.3) o.4
