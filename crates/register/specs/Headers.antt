-- What the code knows on its way.
use Rattle.std.specs.Prelude.{◌≡◌, Bool, List, ℕ, ◌+◌, ◌*◌, ◌/◌, ◌≤◌, eqb, length}
use Rattle.std.specs.Simd.{first_chunks}
use Rattle.register.specs.Fields.{unit_count, aggregate_count}

-- the header has passed 1 and 2, so that the records can be read
pub record Headed (header records : List ℕ) : Type 0 where
  pub size : length header ≡ 16
  pub least : 1 ≤ unit_count header
  pub units : unit_count header ≤ 64
  pub aggregates : aggregate_count header ≤ 16
  pub whole : length records ≡ 4 * unit_count header + 4 * aggregate_count header

abbrev pub is_zero : ℕ → Bool
is_zero byte = eqb byte 0

-- the records, of 4 bytes each, one by one
abbrev pub records_in : List ℕ → List (List ℕ)
records_in bytes = first_chunks 4 (length bytes / 4) bytes
