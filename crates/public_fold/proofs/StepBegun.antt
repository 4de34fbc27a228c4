-- A step that meets a new epoch is due as in the old one, and takes other serials.
use Rattle.std.proofs.Common.{◌≡◌, ◌≤◌, ℕ, Bool, true, false, List, sym, ap, ◌∙◌, subst}
use Rattle.std.specs.Prelude.{unwrap_or}
use Rattle.cry_base.specs.declared.roles.Edge.{Edge}
use Rattle.cry_base.specs.declared.roles.Role.{Role}
use Rattle.role_graph.specs.Edges.{edges}
use Rattle.role_graph.specs.PublicStore.{public_store}
use Rattle.move_plan.specs.Change.{Change, change_of}
use Rattle.move_plan.specs.Fitting.{fits}
use Rattle.record_format.specs.Noted.{Note}
use Rattle.public_fold.specs.KeyStep.{KeyState, Stepped, dirty_left, is_strict, next_epoch, next_serial, planned, renewed}
use Rattle.public_fold.specs.Preparing.{begun_keys, begun_view}
use Rattle.public_fold.specs.Standing.{PublicView, public_store_of}
use Rattle.public_fold.specs.Stepping.{IsDue, IsNumbered, IsStep, counted, keys_at, keys_left}
use Rattle.public_fold.specs.declared.counter.SerialCount.{SerialCount}
use Rattle.public_fold.specs.declared.step.Due.{Due}
use Rattle.public_fold.specs.declared.step.Step.{Step}
use Rattle.public_fold.proofs.HeldMarks.{begun_strict}
use Rattle.public_fold.proofs.StepTold.{edges_seen, fits_at, fits_told, no_count, not_fitting, step_at, step_told}

-- what is due hangs on no count
due_begun : (new : Bool) (k : KeyState) (before : List Edge) (c : Change) (d : Due) → IsDue k before c d → IsDue (begun_keys new k) before c d
unfolding begun_keys next_epoch renewed planned dirty_left
due_begun true k before c d is = record { keyed = is.keyed; gone = is.gone; dirty = is.dirty; edges = is.edges; version = is.version }
due_begun false k before c d is = is

at_count : (k : KeyState) (from : SerialCount) (note : Note) (d : Due) (s : Step) → IsNumbered (keys_at k.keys from) note d s → IsNumbered (record k { epoch = from.epoch; count = from.count }) note d s
unfolding next_serial
at_count k from note d s is = record { given = is.given; gone = is.gone; links = is.links; contents = is.contents; dirty = is.dirty; epoch = is.epoch; count = is.count; below = is.below; version = is.version }

-- a step hangs on the keys before it and on the version, and on no count
from_keys : (j k : KeyState) (step : Stepped) (s : Step) → j.keys ≡ k.keys → j.version ≡ k.version → IsStep j step s → IsStep k step s
from_keys j k step s keys version is = record {
  skeleton = is.skeleton;
  keys = ap (λ l. keys_left l s) (sym keys) ∙ is.keys;
  dirty = is.dirty;
  epoch = is.epoch;
  count = is.count;
  version = ap (λ n. unwrap_or s.left.version n) (sym version) ∙ is.version;
}

module _ (new : Bool) (v : PublicView) (from : SerialCount) (keys : List (Role × ℕ)) (held : keys ≡ v.keys.keys)
    (starts : record v.keys { epoch = from.epoch; count = from.count } ≡ begun_keys new v.keys) (note : Note) (c : Change) (d : Due)
    (fit : fits (is_strict v.keys) (public_store_of v) note ≡ true) (same : c ≡ change_of (is_strict v.keys) (public_store_of v) note) (is : IsDue v.keys (edges (public_store v.tree v.pairs)) c d) where
  due : IsDue (begun_keys new v.keys) (edges (public_store_of v)) c d
  due = due_begun new v.keys (edges (public_store_of v)) c d (subst (λ (l : List Edge). IsDue v.keys l c d) (edges_seen v) is)

  begun_fit : fits (is_strict (begun_keys new v.keys)) (public_store_of v) note ≡ true
  begun_fit = ap (λ b. fits b (public_store_of v) note) (begun_strict new v.keys) ∙ fit

  begun_change : c ≡ change_of (is_strict (begun_keys new v.keys)) (public_store_of v) note
  begun_change = same ∙ ap (λ b. change_of b (public_store_of v) note) (sym (begun_strict new v.keys))

  numbered : (s : Step) → IsNumbered (keys_at keys from) note d s → IsNumbered (begun_keys new v.keys) note d s
  numbered s n = subst (λ (k : KeyState). IsNumbered k note d s) starts (at_count v.keys from note d s (subst (λ (l : List (Role × ℕ)). IsNumbered (keys_at l from) note d s) held n))

  pub begun_no_count : 4294967295 ≤ counted (keys_at keys from) note d → fits_at (begun_view new v) note ≡ false
  begun_no_count most = no_count (begun_view new v) note c d begun_fit begun_change due (subst (λ (k : KeyState). 4294967295 ≤ counted k note d) starts most)

  pub begun_step : (s : Step) → IsNumbered (keys_at keys from) note d s → IsStep v.keys (step_at (begun_view new v) note) s
  begun_step s n =
      from_keys (begun_keys new v.keys) v.keys (step_at (begun_view new v) note) s
      (sym (ap (λ (k : KeyState). k.keys) starts)) (sym (ap (λ (k : KeyState). k.version) starts))
      (step_told (begun_view new v) note c d begun_fit begun_change due s (numbered s n))

  pub begun_fits : (s : Step) → IsNumbered (keys_at keys from) note d s → (from.epoch ≡ 0 → ⊥) → fits_at (begun_view new v) note ≡ true
  begun_fits s n begun = fits_told (begun_view new v) note c d begun_fit begun_change due s (numbered s n) (λ e. begun (ap (λ (k : KeyState). k.epoch) starts ∙ e))

-- what doesn't fit before a new epoch doesn't fit in it
pub begun_misfit : (new : Bool) (v : PublicView) (note : Note) → fits (is_strict v.keys) (public_store_of v) note ≡ false → fits_at (begun_view new v) note ≡ false
begun_misfit new v note unfit = not_fitting (begun_view new v) note (ap (λ b. fits b (public_store_of v) note) (begun_strict new v.keys) ∙ unfit)
