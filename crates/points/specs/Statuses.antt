-- The status of a point that is not declared, said a second time (01, "Marks and runs"): by ≤ over its two runs, without the tests that
-- the code goes by.
use Rattle.std.specs.Prelude.{◌≡◌, ◌⊎◌, ℕ, ◌≤◌, ◌<◌}

-- n is the status at these runs, of the lengths to Not-Responding and to Pending, ns and ps of the small run, nl and pl of the large.
-- `Automatic` says that the interval is in automatic mode for the point
pub data Status (Automatic : Type 0) (ns ps nl pl small large : ℕ) : ℕ → Type 0 where
  -- "3 NC-Pending when the small run is Ps or more or the large run Pl or more"
  pending : Automatic → (ps ≤ small) ⊎ (pl ≤ large) → Status Automatic ns ps nl pl small large 3
  -- "Manual mode shows 2 instead of 3"
  pending_in_manual : ¬ Automatic → (ps ≤ small) ⊎ (pl ≤ large) → Status Automatic ns ps nl pl small large 2
  -- "else 2 Not-Responding when the small run is Ns or more or the large run Nl or more"
  not_responding : small < ps → large < pl → (ns ≤ small) ⊎ (nl ≤ large) → Status Automatic ns ps nl pl small large 2
  -- "else 1 Off-Target at small run 1 or more"
  off_target : small < ps → large < pl → small < ns → large < nl → 1 ≤ small → Status Automatic ns ps nl pl small large 1
  -- "else 0 Normal"
  normal : small < ps → large < pl → small < ns → large < nl → small ≡ 0 → Status Automatic ns ps nl pl small large 0
