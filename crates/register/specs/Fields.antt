-- Where each field of a register stands (01, "The register"). A unit's index is its number less one.
use Rattle.std.specs.Prelude.{List, ℕ, ◌+◌, ◌*◌, get_or, replicate, Option, None}
use Rattle.kinds.specs.Kinds.{kind_of}
use Rattle.kinds.specs.declared.Kind.{Kind}
use Rattle.trace.specs.Sweeps.{sweep}
use Rattle.plants.specs.declared.Lengths.{Lengths}
use Rattle.chains.specs.declared.Chains.{Chains}

abbrev pub byte_at : List ℕ → ℕ → ℕ
byte_at bytes place = get_or bytes place 0

-- the header: counts and run lengths

abbrev pub unit_count : List ℕ → ℕ
unit_count bytes = byte_at bytes 0

abbrev pub aggregate_count : List ℕ → ℕ
aggregate_count bytes = byte_at bytes 1

abbrev pub lengths_at : List ℕ → ℕ → Lengths
lengths_at bytes place =
    record {
      not_responding = byte_at bytes place;
      pending = byte_at bytes (place + 1);
      declaration = byte_at bytes (place + 2);
    }

-- the records, of 4 bytes each: units from 16 on, then heads

abbrev pub heads_place : List ℕ → ℕ
heads_place bytes = 16 + 4 * unit_count bytes

-- the byte of record i at a place that is given for record 0
abbrev pub field_at : List ℕ → ℕ → ℕ → ℕ
field_at bytes place i = byte_at bytes (place + 4 * i)

-- the kind of record i, none where its number is not listed
abbrev pub kind_in : List ℕ → ℕ → Option Kind
kind_in bytes i = kind_of (field_at bytes 16 i)

unfoldable pub kinds_of : List ℕ → List (Option Kind)
kinds_of bytes = sweep (kind_in bytes) (unit_count bytes) (replicate 64 None)

-- "Byte 2 of a unit record becomes its region" (02, 2026-09)
unfoldable pub regions_of : List ℕ → List ℕ
regions_of bytes = sweep (field_at bytes 18) (unit_count bytes) (replicate 64 0)

unfoldable pub nexts_of : List ℕ → List ℕ
nexts_of bytes = sweep (field_at bytes 17) (unit_count bytes) (replicate 64 0)

unfoldable pub heads_of : List ℕ → List ℕ
heads_of bytes = sweep (field_at bytes (heads_place bytes)) (aggregate_count bytes) (replicate 16 0)

-- the chains as the bytes have them
unfoldable pub fields_of : List ℕ → Chains
fields_of bytes =
    record {
      units = unit_count bytes;
      aggregates = aggregate_count bytes;
      small = lengths_at bytes 2;
      large = lengths_at bytes 5;
      kinds = kinds_of bytes;
      regions = regions_of bytes;
      next = nexts_of bytes;
      heads = heads_of bytes;
    }
