-- One test for each rule on the bytes (01, "The register" and "Refused because of what was sent"; 02, 2026-01 and 2026-09).
use Rattle.std.specs.Prelude.{Bool, ◌&&◌, List, ℕ, ◌+◌, ◌*◌, leb, ltb, eqb, length}
use Rattle.trace.specs.Sweeps.{every}
use Rattle.plants.specs.declared.Lengths.{Lengths}
use Rattle.register.specs.Fields.{byte_at, unit_count, aggregate_count, heads_place}

-- 1: the header is there; the records are as many as it says

abbrev pub long_enough : List ℕ → Bool
long_enough bytes = leb 16 (length bytes)

abbrev pub whole_length : List ℕ → Bool
whole_length bytes = eqb (length bytes) (16 + 4 * unit_count bytes + 4 * aggregate_count bytes)

-- 3: 2 ≤ N < P < D
abbrev pub rising : Lengths → Bool
rising l = leb 2 l.not_responding && (ltb l.not_responding l.pending && ltb l.pending l.declaration)

-- 4: zeros in every spare byte

abbrev pub zero_at : List ℕ → ℕ → ℕ → Bool
zero_at bytes place k = eqb (byte_at bytes (place + k)) 0

-- so many spare bytes of record i, from a place that is given for record 0
abbrev pub spare_at : List ℕ → ℕ → ℕ → ℕ → Bool
spare_at bytes place count i = every (zero_at bytes (place + 4 * i)) count

abbrev pub header_spare : List ℕ → Bool
header_spare bytes = every (zero_at bytes 8) 8

abbrev pub units_spare : List ℕ → Bool
units_spare bytes = every (spare_at bytes 19 1) (unit_count bytes)

abbrev pub heads_spare : List ℕ → Bool
heads_spare bytes = every (spare_at bytes (heads_place bytes + 1) 3) (aggregate_count bytes)
