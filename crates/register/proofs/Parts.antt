-- What stands in a register's header and records, as the code takes them apart. Assumes nothing.
use Rattle.std.proofs.Common.{◌≡◌, refl, sym, ap, ◌∙◌, List, [], ◌++◌, ℕ, zero, suc, ◌+◌, ◌*◌, ◌/◌, ◌≤◌, ◌<◌}
use Rattle.std.proofs.Common.{length, take, drop, get_or, replicate, arith, length-drop}
use native.Mathlib.Nat.{le_of_eq}
use Rattle.std.proofs.lemmas.List.{get_or-take, get_or-drop, get_or-append-add, get_or_append_left, drop-drop, length-take-le}
use Rattle.std.specs.Prelude.{None}
use Rattle.std.specs.Simd.{first_chunks}
use Rattle.std.specs.List.{list_all}
use Rattle.kinds.specs.Kinds.{kind_of}
use Rattle.trace.specs.Sweeps.{every, sweep}
use Rattle.trace.proofs.Sweeps.{every_list, every_take, sweep-same}
use Rattle.register.specs.Fields.{unit_count, aggregate_count, lengths_at, kinds_of, regions_of, nexts_of, heads_of, kind_in, field_at, heads_place}
use Rattle.register.specs.Rules.{spare_at, header_spare, units_spare, heads_spare}
use Rattle.register.specs.Headers.{Headed, records_in, is_zero}

-- ---- records of 4 bytes

length-chunks : (n : ℕ) (xs : List ℕ) → length (first_chunks 4 n xs) ≡ n
length-chunks zero xs = refl
length-chunks (suc n) xs = ap suc (length-chunks n (drop 4 xs))

chunk-at : (n i : ℕ) (xs d : List ℕ) → i < n → get_or (first_chunks 4 n xs) i d ≡ take 4 (drop (4 * i) xs)
chunk-at zero i xs d h = absurd (omega arith)
chunk-at (suc n) zero xs d h = refl
chunk-at (suc n) (suc i) xs d h =
    let all : 4 + 4 * i ≡ 4 * suc i = omega arith in
    chunk-at n i (drop 4 xs) d (omega arith) ∙ ap (λ (l : List ℕ). take 4 l) (drop-drop (4 * i) 4 xs)
    ∙ ap (λ (m : ℕ). take 4 (drop m xs)) all

-- ---- a test for zeros

zeros-at : (xs : List ℕ) (at count : ℕ) (byte : ℕ → ℕ) → at + count ≤ length xs → ((k : ℕ) → k < count → get_or xs (at + k) 0 ≡ byte k)
    → list_all is_zero (take count (drop at xs)) ≡ every (λ k. is_zero (byte k)) count
zeros-at xs at count byte size same =
    every_take is_zero (λ k. is_zero (byte k)) (drop at xs) 0 count (omega (arith, length-drop at xs))
    (λ k l. ap is_zero (get_or-drop at xs k 0 ∙ same k l))

-- ---- a header of 16 bytes, and what follows it

module _ (header records : List ℕ) (headed : Headed header records) where
  abbrev bytes : List ℕ
  bytes = header ++ records

  abbrev units : ℕ
  units = unit_count header

  abbrev aggregates : ℕ
  aggregates = aggregate_count header

  in-header : (i : ℕ) → i < 16 → get_or bytes i 0 ≡ get_or header i 0
  in-header i h = get_or_append_left header records 0 i (omega (arith, headed.size))

  in-records : (i : ℕ) → get_or bytes (16 + i) 0 ≡ get_or records i 0
  in-records i = rw headed.size at (get_or-append-add header records i 0)

  pub units-in : unit_count bytes ≡ units
  units-in = in-header 0 (omega arith)

  pub aggregates-in : aggregate_count bytes ≡ aggregates
  aggregates-in = in-header 1 (omega arith)

  pub lengths-in : (at : ℕ) → at ≤ 13 → lengths_at bytes at ≡ lengths_at header at
  lengths-in at h = rw (in-header at (omega arith), in-header (at + 1) (omega arith), in-header (at + 2) (omega arith))

  header-zeros : list_all is_zero (take 8 (drop 8 header)) ≡ header_spare bytes
  header-zeros = zeros-at header 8 8 (λ k. get_or bytes (8 + k) 0) (le_of_eq (sym headed.size)) (λ k l. sym (in-header (8 + k) (omega arith)))

  pub records-many : length (records_in records) ≡ units + aggregates
  records-many = length-chunks (length records / 4) records ∙ omega (arith, headed.whole)

  module _ (i : ℕ) (h : i < units + aggregates) where
    record-at : get_or (records_in records) i [] ≡ take 4 (drop (4 * i) records)
    record-at = chunk-at (length records / 4) i records [] (omega (arith, headed.whole))

    record-length : length (get_or (records_in records) i []) ≡ 4
    record-length = rw record-at (length-take-le 4 (drop (4 * i) records) (omega (arith, headed.whole, length-drop (4 * i) records)))

    byte-at : (k : ℕ) → k < 4 → get_or (get_or (records_in records) i []) k 0 ≡ get_or bytes (16 + (4 * i + k)) 0
    byte-at k small =
        rw record-at (get_or-take 4 (drop (4 * i) records) k 0 small ∙ get_or-drop (4 * i) records k 0 ∙ sym (in-records (4 * i + k)))

  module _ (i : ℕ) (h : i < units) where
    unit-at : get_or (take units (records_in records)) i [] ≡ get_or (records_in records) i []
    unit-at = get_or-take units (records_in records) i [] h

    unit-byte : (k : ℕ) → k < 4 → get_or (get_or (take units (records_in records)) i []) k 0 ≡ field_at bytes (16 + k) i
    unit-byte k small =
        let place : 16 + (4 * i + k) ≡ 16 + k + 4 * i = omega arith in
        rw unit-at (byte-at i (omega arith) k small ∙ ap (λ (n : ℕ). get_or bytes n 0) place)

    unit-spare : list_all is_zero (take 1 (drop 3 (get_or (take units (records_in records)) i []))) ≡ spare_at bytes 19 1 i
    unit-spare =
        rw unit-at
        (zeros-at (get_or (records_in records) i []) 3 1 (λ k. get_or bytes (19 + 4 * i + k) 0) (le_of_eq (sym (record-length i (omega arith))))
        (λ k l. let place : 16 + (4 * i + (3 + k)) ≡ 19 + 4 * i + k = omega arith in
        byte-at i (omega arith) (3 + k) (omega arith) ∙ ap (λ (n : ℕ). get_or bytes n 0) place))

  module _ (i : ℕ) (h : i < aggregates) where
    head-at : get_or (drop units (records_in records)) i [] ≡ get_or (records_in records) (units + i) []
    head-at = get_or-drop units (records_in records) i []

    head-byte : get_or (get_or (drop units (records_in records)) i []) 0 0 ≡ field_at bytes (heads_place bytes) i
    head-byte =
        let place : 16 + (4 * (units + i) + 0) ≡ 16 + 4 * unit_count bytes + 4 * i = omega (arith, units-in) in
        rw head-at (byte-at (units + i) (omega arith) 0 (omega arith) ∙ ap (λ (n : ℕ). get_or bytes n 0) place)

    head-spare : list_all is_zero (take 3 (drop 1 (get_or (drop units (records_in records)) i []))) ≡ spare_at bytes (heads_place bytes + 1) 3 i
    head-spare =
        rw head-at
        (zeros-at (get_or (records_in records) (units + i) []) 1 3 (λ k. get_or bytes (16 + 4 * unit_count bytes + 1 + 4 * i + k) 0)
        (le_of_eq (sym (record-length (units + i) (omega arith))))
        (λ k l. let place : 16 + (4 * (units + i) + (1 + k)) ≡ 16 + 4 * unit_count bytes + 1 + 4 * i + k = omega (arith, units-in) in
        byte-at (units + i) (omega arith) (1 + k) (omega arith) ∙ ap (λ (n : ℕ). get_or bytes n 0) place))

  -- ---- the fields, and the tests for zeros, as the definitions have them

  pub kinds-in : sweep (λ i. kind_of (get_or (get_or (take units (records_in records)) i []) 0 0)) units (replicate 64 None) ≡ kinds_of bytes
  unfolding kinds_of
  kinds-in = rw units-in (sweep-same _ (kind_in bytes) units (replicate 64 None) (λ i l. ap kind_of (unit-byte i l 0 (omega arith))))

  pub regions-in : sweep (λ i. get_or (get_or (take units (records_in records)) i []) 2 0) units (replicate 64 0) ≡ regions_of bytes
  unfolding regions_of
  regions-in = rw units-in (sweep-same _ (field_at bytes 18) units (replicate 64 0) (λ i l. unit-byte i l 2 (omega arith)))

  pub nexts-in : sweep (λ i. get_or (get_or (take units (records_in records)) i []) 1 0) units (replicate 64 0) ≡ nexts_of bytes
  unfolding nexts_of
  nexts-in = rw units-in (sweep-same _ (field_at bytes 17) units (replicate 64 0) (λ i l. unit-byte i l 1 (omega arith)))

  pub heads-in : sweep (λ i. get_or (get_or (drop units (records_in records)) i []) 0 0) aggregates (replicate 16 0) ≡ heads_of bytes
  unfolding heads_of
  heads-in = rw aggregates-in (sweep-same _ (field_at bytes (heads_place bytes)) aggregates (replicate 16 0) (λ i l. head-byte i l))

  units-zeros : list_all (λ (r : List ℕ). list_all is_zero (take 1 (drop 3 r))) (take units (records_in records)) ≡ units_spare bytes
  units-zeros =
      rw units-in
      (every_list (λ (r : List ℕ). list_all is_zero (take 1 (drop 3 r))) (spare_at bytes 19 1) (take units (records_in records)) [] units
      (length-take-le units (records_in records) (omega (arith, records-many))) unit-spare)

  heads-zeros : list_all (λ (r : List ℕ). list_all is_zero (take 3 (drop 1 r))) (drop units (records_in records)) ≡ heads_spare bytes
  heads-zeros =
      rw aggregates-in
      (every_list (λ (r : List ℕ). list_all is_zero (take 3 (drop 1 r))) (spare_at bytes (heads_place bytes + 1) 3)
      (drop units (records_in records)) [] aggregates
      (omega (arith, records-many, length-drop units (records_in records))) head-spare)

  pub spares-in : (us hs : List (List ℕ)) → us ≡ take units (records_in records) → hs ≡ drop units (records_in records)
      → (list_all is_zero (take 8 (drop 8 header)) ≡ header_spare bytes)
      × (list_all (λ (r : List ℕ). list_all is_zero (take 1 (drop 3 r))) us ≡ units_spare bytes)
      × (list_all (λ (r : List ℕ). list_all is_zero (take 3 (drop 1 r))) hs ≡ heads_spare bytes)
  spares-in us hs u h = (header-zeros, rw u units-zeros, rw h heads-zeros)
