-- The list equals the chains that it came from. Assumes nothing.
use mathlib.Core.Path.{◌≡◌, refl, sym, ap, fun_ext, ◌∙◌}
use mathlib.Core.Logic.{◌⊎◌, inl, inr, ⊎_elim}
use mathlib.Core.Bool.{true}
use mathlib.Core.List.{List, [], ◌∷◌, ◌++◌, map, map-append, append_assoc, append-nil}
use Prim.Native.Nat.{ℕ, zero, suc, ◌+◌, ◌%◌, ◌≤◌, ◌<◌}
use native.Mathlib.Nat.{eq-or-lt_of_le, le_of_suc-le-suc, mod-eq_of_lt}
use native.Mathlib.Omega.{arith}
use borrow.Author.Tests.{le-leb, lt-ltb}
use lib.ListN.{length, get_or, drop, replicate, length-append, length-map, length-replicate}
use lib.Seq.{append_snoc, get_or-append_seam, get_or-drop, take_at}
use Rattle.std.proofs.lemmas.Bool.{cases_lt}
use Rattle.std.specs.List.{list_all}
use Rattle.trace.specs.Sweeps.{records}
use Rattle.trace.proofs.Sweeps.{every-all, every-same, get_or-sweep, get_or-sweep-past, sweep-same, records-rise, replicate-same}
use Rattle.plants.specs.Plants.{place, region_of, has_region, shares_region, regions_shared}
use Rattle.plants.specs.Rosters.{start_of, count_of, entries, stretch_of, held}
use Rattle.plants.specs.Rosters.{place_at, places_in, no_stretch, stretch_at, ends_at, stretches_in, roster_sound}
use Rattle.plants.specs.declared.Stretch.{Stretch}
use Rattle.plants.proofs.Soundness.{counts-in, sound-by}
use Rattle.chains.specs.declared.Chains.{Chains}
use Rattle.chains.specs.declared.visits.Walked.{Walked}
use Rattle.chains.specs.Chains.{members_of, all_members, places_of, plant_of}
use Rattle.chains.specs.Rules.{indices_in, met_once, Known, Walkable}
use Rattle.chains.specs.Layouts.{start_at, count_at, stretch_laid, flat_of, roster_of, SideBySide}
use Rattle.chains.specs.Walks.{unwalked, walked, stretch_walked, stretches_walked, roster_from}
use Rattle.chains.proofs.Steps.{chain-end, Units}
use Rattle.chains.proofs.Members.{once-length}
use Rattle.chains.proofs.Regions.{regions-laid}
use Rattle.chains.proofs.Walks.{all-units, walk-met, walk-list}

-- ---- lists

-- the entries of a list that stand between two others
pub entries_between : (xs ys zs : List ℕ) (start : ℕ) → length xs ≡ start → entries (xs ++ (ys ++ zs)) start (length ys) ≡ ys
unfolding entries
entries_between xs [] zs start e = refl
entries_between xs (y ∷ ys) zs start e =
    let one = length-append xs (y ∷ []) in
    let first = rw e at (get_or-append_seam xs y (ys ++ zs) 0) in
    let rest = rw (append_snoc xs y (ys ++ zs)) at (entries_between (xs ++ (y ∷ [])) ys zs (start + 1) (omega arith)) in
    rw (first, rest)

-- record j stands after those before it
records-split : (f : ℕ → List ℕ) (n j : ℕ) → j < n → (later : List ℕ) × (records f n ≡ records f j ++ (f j ++ later))
unfolding records
records-split f zero j l = absurd (omega arith)
records-split f (suc n) j l =
    ⊎_elim
    (λ e. ([], rw append-nil (ap (λ (k : ℕ). records f k ++ f k) (sym e))))
    (λ b. let r = records-split f n j b in (r.0 ++ f n, rw (r.1, append_assoc, append_assoc)))
    (eq-or-lt_of_le (le_of_suc-le-suc l))

places-between : (f : ℕ → List ℕ) (n j : ℕ) → j < n → (rest : List ℕ)
    → entries (map place (records f n) ++ rest) (length (records f j)) (length (f j)) ≡ map place (f j)
places-between f n j l rest =
    let s = records-split f n j l in
    let before = map place (records f j) in
    let here = map place (f j) in
    rw (s.1, map-append place (records f j), map-append place (f j), append_assoc, append_assoc, ← length-map (f j) place)
    (entries_between before here (map place s.0 ++ rest) (length (records f j)) (length-map (records f j) place))

-- every entry of the list is the place of a unit, the zeros past the members too
flat-inside : (n : ℕ) (xs rest : List ℕ) → Units n xs → ((k : ℕ) → get_or rest k 0 < n) → (k : ℕ) → get_or (map place xs ++ rest) k 0 < n
unfolding Units
flat-inside n [] rest u h k = h k
flat-inside n (zero ∷ xs) rest u h k = absurd (omega (arith, u.0.0))
flat-inside n (suc i ∷ xs) rest u h zero = u.0.1
flat-inside n (suc i ∷ xs) rest u h (suc k) = flat-inside n xs rest u.1 h k

places-inside : (c : Chains) → indices_in c ≡ true → 1 ≤ c.units → places_in (roster_of c).members c.units ≡ true
unfolding places_in roster_of flat_of
places-inside c inside least =
    let past : List ℕ = drop (length (all_members c)) (replicate 64 0) in
    every-all (place_at (flat_of c) c.units) 64
    (λ k l. lt-ltb (get_or (flat_of c) k 0) c.units
    (flat-inside c.units (all_members c) past (all-units c inside)
    (λ i. rw (get_or-drop, replicate-same) least) k))

-- ---- starts and counts

module _ (c : Chains) (walkable : Walkable c) where
  module _ (j : ℕ) (l : j < c.aggregates) where
    laid : stretch_at (roster_of c).stretches j ≡ stretch_laid c j
    unfolding roster_of
    laid =
        get_or-sweep (stretch_laid c) c.aggregates (replicate 16 no_stretch) no_stretch j l
        (omega (arith, length-replicate 16 no_stretch, walkable.aggregates))

    pub start-laid : start_of (roster_of c) j ≡ start_at c j
    start-laid = ap (λ (s : Stretch). s.start) laid

    pub count-laid : count_of (roster_of c) j ≡ count_at c j
    count-laid = ap (λ (s : Stretch). s.count) laid

  pub count_past : (j : ℕ) → c.aggregates ≤ j → count_of (roster_of c) j ≡ 0
  unfolding roster_of
  count_past j l =
      ap (λ (s : Stretch). s.count)
      (get_or-sweep-past (stretch_laid c) c.aggregates (replicate 16 no_stretch) no_stretch j l ∙ replicate-same 16 no_stretch j)

  -- ---- stretches

  pub stretch-laid : (j : ℕ) → j < c.aggregates → stretch_of (roster_of c) j ≡ map place (members_of c j)
  unfolding stretch_of roster_of flat_of all_members start_at count_at
  stretch-laid j l = rw (start-laid j l, count-laid j l) (places-between (members_of c) c.aggregates j l _)

  -- the test of regions reads no more of the members
  pub shared-laid : regions_shared (held (roster_of c)) ≡ regions_shared (plant_of c)
  unfolding regions_shared shares_region roster_of plant_of places_of
  shared-laid =
      every-same (shares_region (held (roster_of c))) (shares_region (plant_of c)) c.aggregates
      (λ j l. ap (list_all (has_region (plant_of c) (region_of (plant_of c) (c.units + j)))) (stretch-laid j l))

  -- an aggregate past the count has no head, and no members
  module _ (headless : (j : ℕ) → c.aggregates ≤ j → get_or c.heads j 0 ≡ 0) where
    stretch-places : (j : ℕ) → (j < c.aggregates) ⊎ (c.aggregates ≤ j) → stretch_of (roster_of c) j ≡ places_of c j
    unfolding stretch_of places_of members_of entries
    stretch-places j (inl l) = stretch-laid j l
    stretch-places j (inr l) = rw (count_past j l, headless j l, chain-end c.next 65)

    pub stretches-places : stretch_of (roster_of c) ≡ places_of c
    stretches-places = fun_ext (λ j. stretch-places j (cases_lt j c.aggregates))

    pub side_by_side : SideBySide c (roster_of c)
    unfolding roster_of flat_of plant_of start_at count_at records
    side_by_side =
        record {
          stretches = stretch-laid;
          first = λ l. start-laid 0 l;
          follows = λ j l.
              let here : j < c.aggregates = omega arith in
              rw (start-laid (suc j) l, start-laid j here, count-laid j here) (length-append (records (members_of c) j) (members_of c j));
          covers =
              take_at (map place (all_members c)) (drop (length (all_members c)) (replicate 64 0)) (length (all_members c))
              (length-map (all_members c) place);
          plant = rw stretches-places;
        }

  -- ---- the walk lays them out, where no unit is met twice

  module _ (once : met_once c ≡ true) where
    pub all-few : length (all_members c) ≤ c.units
    unfolding met_once
    all-few = once-length c.units (all_members c) (all-units c walkable.inside) once

    start-few : (j : ℕ) → j < c.aggregates → start_at c j + count_at c j ≤ 64
    unfolding start_at count_at all_members records
    start-few j l =
        let rise = records-rise (members_of c) (suc j) c.aggregates l in
        let long = length-append (records (members_of c) j) (members_of c j) in
        omega (arith, all-few, walkable.units)

    -- each fits a byte
    stretch_small : (j : ℕ) → j < c.aggregates → stretch_walked c j ≡ stretch_laid c j
    stretch_small j l =
        let start : start_at c j % 256 ≡ start_at c j = mod-eq_of_lt (omega (arith, start-few j l)) in
        let count : count_at c j % 256 ≡ count_at c j = mod-eq_of_lt (omega (arith, start-few j l)) in
        rw (start, count) refl

    pub laid_out : (w : Walked) → w.walk ≡ walked unwalked (all_members c) → w.stretches ≡ stretches_walked c → roster_from c w ≡ roster_of c
    unfolding roster_from roster_of stretches_walked
    laid_out w e s =
        let stretches = sweep-same (stretch_walked c) (stretch_laid c) c.aggregates (replicate 16 no_stretch) stretch_small in
        let met = walk-met c walkable.inside walkable.units in
        let list = walk-list c walkable.inside walkable.units (omega (arith, all-few, walkable.units)) in
        rw (e, s, stretches, met, list)

    -- ---- and what is laid out passes the test of a roster

    stretches-inside : stretches_in (roster_of c).stretches c.aggregates ≡ true
    unfolding stretches_in
    stretches-inside =
        every-all (ends_at (roster_of c).stretches) c.aggregates
        (λ j l. rw (laid j l) (le-leb (start_at c j + count_at c j) 64 (start-few j l)))

    pub laid-sound : Known c → roster_sound (roster_of c) ≡ true
    unfolding roster_of
    laid-sound known =
        sound-by (roster_of c) (counts-in c.units c.aggregates known.least walkable.units walkable.aggregates) known.kinds
        (regions-laid c walkable known.regions)
        (places-inside c walkable.inside known.least)
        stretches-inside
