-- The answer in 01's numbers, from the equation for the whole result. Assumes nothing.
use mathlib.Core.Path.{◌≡◌, refl}
use mathlib.Core.Logic.{◌⊎◌, inl, inr}
use mathlib.Core.Bool.{Bool, true, false, cond, not}
use mathlib.Core.List.{List}
use Prim.Native.Nat.{ℕ, ◌<◌}
use native.Mathlib.Omega.{arith}
use Rattle.std.specs.Prelude.{Result, Ok, Err}
use Rattle.trace.specs.Refusals.{first_refusal}
use Rattle.plants.specs.Plants.{regions_shared}
use Rattle.plants.specs.Rosters.{counts_in}
use Rattle.chains.specs.declared.Chains.{Chains}
use Rattle.chains.specs.Chains.{plant_of}
use Rattle.chains.specs.Rules.{indices_in, met_once, rest_ends, members_scheduled}
use Rattle.register.specs.declared.Registered.{Registered}
use Rattle.register.specs.declared.RegisterRefusal.{RegisterRefusal}
use Rattle.register.specs.declared.RegisterRefusal.TheVariants.{Length, Counts, RunLengths, Record, Index, MetTwice, Unmet}
use Rattle.register.specs.declared.RegisterRefusal.TheVariants.{SemiScheduledMember, AcrossRegions}
use Rattle.register.specs.Fields.{unit_count, aggregate_count, fields_of}
use Rattle.register.specs.Rules.{long_enough, whole_length}
use Rattle.register.specs.Registers.{register_number, answer_number, answer_visits, visits_of, unless, accepted_as, lengths_rise, fields_known}
use Rattle.register.specs.Registers.{chained_from, records_from, registered_of, register_refusal, Reads}

-- A result for chains whose refusal is number n, 0 where none applies: the number in 01, the visits, which are the number of units in the
-- chains of an accepted register, and either it is accepted or it is refused with a number.
pub record Goes (c : Chains) (r : Result Registered RegisterRefusal) (n : ℕ) : Type 0 where
  pub number : answer_number r ≡ n
  pub visits : answer_visits r ≡ visits_of r c
  pub settled : ((x : Registered) × (r ≡ Ok x)) ⊎ ((0 < n) × ((k : RegisterRefusal) × ((r ≡ Err k) × (register_number k ≡ n))))

some_number : (k : RegisterRefusal) → 0 < register_number k
unfolding register_number
some_number Length = omega arith
some_number Counts = omega arith
some_number RunLengths = omega arith
some_number Record = omega arith
some_number Index = omega arith
some_number MetTwice = omega arith
some_number Unmet = omega arith
some_number SemiScheduledMember = omega arith
some_number AcrossRegions = omega arith

module _ (c : Chains) where
  -- one refusal more in front
  unless-goes : (k : RegisterRefusal) (holds : Bool) {rest : Result Registered RegisterRefusal} {n : ℕ} → Goes c rest n
      → Goes c (unless holds k rest) (cond (not holds) (register_number k) n)
  unfolding answer_visits visits_of
  unless-goes k true g = g
  unless-goes k false g = record { number = refl; visits = refl; settled = inr (some_number k, (k, (refl, refl))) }

  accepted-goes : Goes c (Ok (accepted_as c)) 0
  unfolding answer_visits visits_of accepted_as
  accepted-goes = record { number = refl; visits = refl; settled = inl (_, refl) }

pub register-goes : (bytes : List ℕ) → Goes (fields_of bytes) (registered_of bytes) (register_refusal bytes)
unfolding registered_of records_from chained_from register_refusal first_refusal register_number
register-goes bytes =
    let c = fields_of bytes in
    unless-goes c Length (long_enough bytes)
    (unless-goes c Counts (counts_in (unit_count bytes) (aggregate_count bytes))
    (unless-goes c Length (whole_length bytes)
    (unless-goes c RunLengths (lengths_rise bytes)
    (unless-goes c Record (fields_known bytes)
    (unless-goes c Index (indices_in c)
    (unless-goes c MetTwice (met_once c)
    (unless-goes c Unmet (rest_ends c)
    (unless-goes c SemiScheduledMember (members_scheduled c)
    (unless-goes c AcrossRegions (regions_shared (plant_of c)) (accepted-goes c))))))))))

-- what reading promises of its result
pub reads : (bytes : List ℕ) (r : Result Registered RegisterRefusal) → r ≡ registered_of bytes → Reads bytes r
reads bytes r e = record { result = e; number = rw e (register-goes bytes).number; visits = rw e (register-goes bytes).visits }
