-- The present key of a clean role is derived only where the role is in reach.
use Rattle.std.proofs.Common.{◌≡◌, ℕ, Some, subst}
use Rattle.cry_base.specs.Sets.{In, Path}
use Rattle.cry_base.specs.declared.roles.Role.{Role}
use Rattle.role_graph.specs.Edges.{Reaches, edges}
use Rattle.role_graph.specs.Rights.Who.{TheHolder}
use Rattle.role_graph.specs.RightsByReach.{IsRightful, IsStandingRole}
use Rattle.role_graph.specs.Roles.{holder_role, is_root_role}
use Rattle.role_graph.proofs.Rightful.{rights_by_reach}
use Rattle.public_fold.specs.Journal.{Journal, nothing, stand_after, store_of, keys_of}
use Rattle.public_fold.specs.KeyStep.{newest}
use Rattle.public_fold.specs.Valid.{IsValid}
use Rattle.public_fold.proofs.Settling.{journal_settled}
use Rattle.closure_laws.specs.History.{Derives, history, own_serial}
use Rattle.secrecy_laws.specs.Pasts.{past_of, state_of}
use Rattle.secrecy_laws.proofs.Whole.{unread}
use Rattle.secrecy_laws.proofs.Secrets.{journal_holds, journal_trails}

pub clean_reached : (m : Journal) → IsValid m → (a r : Role) (j k : ℕ) → newest (keys_of m).keys a ≡ Some j → newest (keys_of m).keys r ≡ Some k
    → (In r (keys_of m).dirty → ⊥) → Derives (history m) j k → Reaches (edges (store_of m)) a r
unfolding keys_of store_of
clean_reached m v a r j k own key clean way =
    unread is_root_role (state_of (stand_after nothing m) (past_of m)) (journal_holds m v) a r k key clean (j, own, subst (λ z. Path z j k) (journal_trails m) way)

pub clean_rightful : (m : Journal) → IsValid m → (h : ℕ) (r : Role) (j k : ℕ) → IsStandingRole (store_of m) r → own_serial m (TheHolder h) ≡ Some j → newest (keys_of m).keys r ≡ Some k
    → (In r (keys_of m).dirty → ⊥) → Derives (history m) j k → IsRightful (store_of m) h r
unfolding own_serial
clean_rightful m v h r j k stands own key clean way =
    (rights_by_reach (store_of m) (journal_settled m v) h r stands).0 (clean_reached m v (holder_role h) r j k own key clean way)
