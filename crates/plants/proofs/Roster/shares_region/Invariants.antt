use Rattle.plants.proofs.Regions.{Shared}
use Rattle.plants.proofs.Roster.shares_region.Given as goal

abbrev pub invariant-loop-place : goal.invariant-loop-place
invariant-loop-place l = Shared l.self l.aggregate l.region l.place-items l.place-index
