-- A register is refused by the first rule that it fails: short 1, then 2, length 1, 3, 4 over the whole register, 5 over the whole
-- register, 6, 7 (01, "Refused because of what was sent"), 30 (02, 2026-01), 37 (02, 2026-09).
use Rattle.std.specs.Prelude.{◌≡◌, Bool, cond, ◌&&◌, not, List, [], ◌∷◌, ℕ, length, Result, Ok, Err}
use Rattle.trace.specs.Refusals.{first_refusal}
use Rattle.register.specs.declared.RegisterRefusal.{RegisterRefusal}
use Rattle.register.specs.declared.RegisterRefusal.TheVariants.{Length, Counts, RunLengths, Record, Index, MetTwice, Unmet}
use Rattle.register.specs.declared.RegisterRefusal.TheVariants.{SemiScheduledMember, AcrossRegions}
use Rattle.chains.specs.declared.Chains.{Chains}
use Rattle.register.specs.declared.Registered.{Registered}
use Rattle.register.specs.Fields.{unit_count, aggregate_count, lengths_at, fields_of}
use Rattle.chains.specs.Chains.{all_members, plant_of}
use Rattle.chains.specs.Layouts.{roster_of}
use Rattle.chains.specs.Rules.{indices_in, met_once, rest_ends, members_scheduled}
use Rattle.register.specs.Rules.{long_enough, whole_length, rising, header_spare, units_spare, heads_spare}
use Rattle.plants.specs.Plants.{regions_shared}
use Rattle.plants.specs.Rosters.{counts_in, kinds_known, regions_known}

-- a refusal's number in 01, and of the last two in 02
unfoldable pub register_number : RegisterRefusal → ℕ
register_number Length = 1
register_number Counts = 2
register_number RunLengths = 3
register_number Record = 4
register_number Index = 5
register_number MetTwice = 6
register_number Unmet = 7
register_number SemiScheduledMember = 30
register_number AcrossRegions = 37

-- the number of an answer in 01 or 02, 0 where it is accepted
abbrev pub answer_number : {A : Type 0} → Result A RegisterRefusal → ℕ
answer_number (Ok a) = 0
answer_number (Err k) = register_number k

-- the visits, 0 where it is refused
unfoldable pub answer_visits : Result Registered RegisterRefusal → ℕ
answer_visits (Ok r) = r.visits
answer_visits (Err k) = 0

-- the visits that an answer has to tell: they "equal the number of units in chains"; "zero values (visits 0)" where it is refused
unfoldable pub visits_of : {A : Type 0} → Result A RegisterRefusal → Chains → ℕ
visits_of (Ok a) c = length (all_members c)
visits_of (Err k) c = 0

-- ---- what is returned

-- the visits are the units in chains, and the members are held side by side
unfoldable pub accepted_as : Chains → Registered
accepted_as c = record { visits = length (all_members c); roster = roster_of c }

-- ---- the rules in their order

abbrev pub unless : Bool → RegisterRefusal → Result Registered RegisterRefusal → Result Registered RegisterRefusal
unless holds refusal rest = cond holds rest (Err refusal)

-- 3: small and large
unfoldable pub lengths_rise : List ℕ → Bool
lengths_rise bytes = rising (lengths_at bytes 2) && rising (lengths_at bytes 5)

-- 4: the header, the kinds, the regions ("Region bytes above 4 fall under 4"), the unit records, the heads
abbrev pub units_known : List ℕ → Bool
units_known bytes = kinds_known (fields_of bytes).kinds (unit_count bytes) && regions_known (fields_of bytes).regions (unit_count bytes)

unfoldable pub fields_known : List ℕ → Bool
fields_known bytes = (header_spare bytes && units_known bytes) && (units_spare bytes && heads_spare bytes)

-- 6, 7, 30 and 37, over the chains
unfoldable pub chained_from : Chains → Result Registered RegisterRefusal
chained_from c =
    unless (met_once c) MetTwice
    (unless (rest_ends c) Unmet
    (unless (members_scheduled c) SemiScheduledMember
    (unless (regions_shared (plant_of c)) AcrossRegions (Ok (accepted_as c)))))

-- 4 and 5, over the whole register
unfoldable pub records_from : List ℕ → Result Registered RegisterRefusal
records_from bytes = unless (fields_known bytes) Record (unless (indices_in (fields_of bytes)) Index (chained_from (fields_of bytes)))

unfoldable pub registered_of : List ℕ → Result Registered RegisterRefusal
registered_of bytes =
    unless (long_enough bytes) Length
    (unless (counts_in (unit_count bytes) (aggregate_count bytes)) Counts
    (unless (whole_length bytes) Length
    (unless (lengths_rise bytes) RunLengths
    (records_from bytes))))

-- ---- the refusal

-- the number in 01 or 02 of the first rule that the bytes fail, 0 where they fail none: "Register order: short 1, then 2, length 1, 3, then
-- 4 over the whole register, then 5 over the whole register, then 6, 7", "30: kind 4 in a chain, after 7", and
-- "37: a chain across regions, after 30"
unfoldable pub register_refusal : List ℕ → ℕ
register_refusal bytes =
    first_refusal
    ((1, not (long_enough bytes))
    ∷ (2, not (counts_in (unit_count bytes) (aggregate_count bytes)))
    ∷ (1, not (whole_length bytes))
    ∷ (3, not (lengths_rise bytes))
    ∷ (4, not (fields_known bytes))
    ∷ (5, not (indices_in (fields_of bytes)))
    ∷ (6, not (met_once (fields_of bytes)))
    ∷ (7, not (rest_ends (fields_of bytes)))
    ∷ (30, not (members_scheduled (fields_of bytes)))
    ∷ (37, not (regions_shared (plant_of (fields_of bytes))))
    ∷ [])

-- ---- what reading promises

pub record Reads (bytes : List ℕ) (r : Result Registered RegisterRefusal) : Type 0 where
  pub result : r ≡ registered_of bytes
  pub number : answer_number r ≡ register_refusal bytes
  pub visits : answer_visits r ≡ visits_of r (fields_of bytes)
