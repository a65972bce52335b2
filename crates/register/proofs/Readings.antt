-- Each way out of the code, over plain values: what was read and tested on the way there, and what the definitions then say.
-- Assumes nothing.
use mathlib.Core.Path.{◌≡◌, sym, ◌∙◌}
use mathlib.Core.Bool.{Bool, true, false, not, ◌&&◌, and_assoc}
use mathlib.Core.List.{List, ◌++◌}
use Prim.Native.Nat.{ℕ, ◌+◌, ◌≤◌, ◌<◌}
use borrow.Author.Tests.{not-true, not-false, le-leb, lt-leb}
use native.Mathlib.Omega.{arith}
use lib.ListN.{length, get_or, take, drop}
use Rattle.std.proofs.lemmas.List.{get_or-take, length-take-le, take-append-drop}
use Rattle.trace.specs.Sweeps.{every}
use Rattle.trace.proofs.Tests.{and_l, and_r}
use Rattle.plants.specs.declared.Lengths.{Lengths}
use Rattle.plants.specs.declared.Roster.{Roster}
use Rattle.plants.specs.Plants.{regions_shared}
use Rattle.plants.specs.Rosters.{held, counts_in, kinds_known, regions_known, roster_sound}
use Rattle.chains.specs.declared.Chains.{Chains}
use Rattle.chains.specs.declared.visits.Walked.{Walked}
use Rattle.chains.specs.Chains.{all_members, chained_of, plant_of}
use Rattle.chains.specs.Rules.{indices_in, met_once, ends_at, rest_ends, scheduled_at, members_scheduled, Known, Walkable}
use Rattle.chains.specs.Layouts.{roster_of}
use Rattle.chains.specs.Walks.{unwalked, walked, stretches_walked, roster_from}
use Rattle.chains.proofs.Walks.{walk-twice, walk-met, walk_steps}
use Rattle.chains.proofs.Layouts.{shared-laid, laid_out, laid-sound}
use Rattle.register.specs.declared.Registered.{Registered}
use Rattle.register.specs.declared.RegisterRefusal.{RegisterRefusal}
use Rattle.register.specs.declared.RegisterRefusal.TheVariants.{Length, Counts, RunLengths, Record, Index, MetTwice, Unmet}
use Rattle.register.specs.declared.RegisterRefusal.TheVariants.{SemiScheduledMember, AcrossRegions}
use Rattle.std.specs.Prelude.{Option, Result, Ok, Err}
use Rattle.kinds.specs.declared.Kind.{Kind}
use Rattle.register.specs.Fields.{unit_count, aggregate_count, lengths_at, kinds_of, regions_of, nexts_of, heads_of, fields_of}
use Rattle.register.specs.Rules.{whole_length, header_spare, units_spare, heads_spare}
use Rattle.register.specs.Registers.{accepted_as, lengths_rise, fields_known, chained_from, records_from, registered_of, Reads}
use Rattle.register.specs.Headers.{Headed}
use Rattle.register.proofs.Parts.{units-in, aggregates-in, lengths-in}
use Rattle.register.proofs.Refusals.{reads}

-- a rule whose test the code found to fail, or to hold
failed : {t holds : Bool} → t ≡ holds → not t ≡ true → holds ≡ false
failed {t} e f = sym e ∙ not-true t f

passed : {t holds : Bool} → t ≡ holds → not t ≡ false → holds ≡ true
passed {t} e f = sym e ∙ not-false t f

-- ---- the header, refusals 1 to 3

short-1 : (bytes : List ℕ) → length bytes < 16 → Err Length ≡ registered_of bytes
unfolding registered_of
short-1 bytes h = rw (lt-leb 16 (length bytes) h)

pub short-reads : (bytes : List ℕ) → length bytes < 16 → Reads bytes (Err Length)
short-reads bytes h = reads bytes (Err Length) (short-1 bytes h)

-- the first 16 bytes, and those that follow
module _ (bytes header records : List ℕ)
    (split : (header ≡ take 16 bytes) × (records ≡ drop 16 bytes) × (length records + 16 ≡ length bytes)) where
  long : 16 ≤ length bytes
  long = omega (arith, split.2)

  together : header ++ records ≡ bytes
  together = rw (split.0, split.1) (take-append-drop 16 bytes)

  size : length header ≡ 16
  size = rw split.0 (length-take-le 16 bytes long)

  at-header : (i : ℕ) → i < 16 → get_or header i 0 ≡ get_or bytes i 0
  at-header i h = rw split.0 (get_or-take 16 bytes i 0 h)

  module _ (counts : Bool) (c : counts ≡ counts_in (unit_count header) (aggregate_count header)) where
    counts_is : counts ≡ counts_in (unit_count bytes) (aggregate_count bytes)
    counts_is = rw (← at-header 0 (omega arith), ← at-header 1 (omega arith)) c

    pub counts-2 : counts ≡ false → Reads bytes (Err Counts)
    unfolding registered_of
    counts-2 e = reads bytes (Err Counts) (rw (le-leb 16 (length bytes) long, sym counts_is ∙ e))

    module _ (counted : counts ≡ true) (whole : Bool) (w : whole ≡ whole_length (header ++ records)) where
      whole_is : whole ≡ whole_length bytes
      whole_is = rw (← together) w

      pub length-1 : whole ≡ false → Reads bytes (Err Length)
      unfolding registered_of
      length-1 e = reads bytes (Err Length) (rw (le-leb 16 (length bytes) long, sym counts_is ∙ counted, sym whole_is ∙ e))

      module _ (complete : whole ≡ true) (rise : Bool) (l : rise ≡ lengths_rise header) where
        rise_is : rise ≡ lengths_rise bytes
        unfolding lengths_rise
        rise_is =
            rw (
              ← at-header 2 (omega arith),
              ← at-header 3 (omega arith),
              ← at-header 4 (omega arith),
              ← at-header 5 (omega arith),
              ← at-header 6 (omega arith),
              ← at-header 7 (omega arith),
            )
            l

        pub lengths-3 : rise ≡ false → Reads bytes (Err RunLengths)
        unfolding registered_of
        lengths-3 e =
            reads bytes (Err RunLengths)
            (rw (le-leb 16 (length bytes) long, sym counts_is ∙ counted, sym whole_is ∙ complete, sym rise_is ∙ e))

        pub header-passed : (r : Result Registered RegisterRefusal) → r ≡ records_from (header ++ records) → rise ≡ true → Reads bytes r
        unfolding registered_of
        header-passed r q e =
            reads bytes r
            (rw (q, together, le-leb 16 (length bytes) long, sym counts_is ∙ counted, sym whole_is ∙ complete, sym rise_is ∙ e))

-- ---- records

module _ (header records : List ℕ) (headed : Headed header records) where
  pub fields_read : (units aggregates : ℕ) (small large : Lengths) (kinds : List (Option Kind)) (regions next heads : List ℕ)
      → units ≡ unit_count header
      → aggregates ≡ aggregate_count header → small ≡ lengths_at header 2 → large ≡ lengths_at header 5 → kinds ≡ kinds_of (header ++ records)
      → regions ≡ regions_of (header ++ records)
      → next ≡ nexts_of (header ++ records)
      → heads ≡ heads_of (header ++ records)
      → ◌≡◌ {A = Chains}
      (record {
        units = units;
        aggregates = aggregates;
        small = small;
        large = large;
        kinds = kinds;
        regions = regions;
        next = next;
        heads = heads;
      })
      (fields_of (header ++ records))
  unfolding fields_of
  fields_read units aggregates small large kinds regions next heads u a s l k g n h =
      let u' = units-in header records headed in
      let a' = aggregates-in header records headed in
      let s' = lengths-in header records headed 2 (omega arith) in
      let l' = lengths-in header records headed 5 (omega arith) in
      rw (u, a, s, l, k, g, n, h, u', a', s', l')

-- ---- refusals 4 and 5

module _ (header records : List ℕ) (headed : Headed header records) (chains : Chains) (read : chains ≡ fields_of (header ++ records)) where
  abbrev bytes : List ℕ
  bytes = header ++ records

  count-read : chains.units ≡ unit_count header
  unfolding fields_of
  count-read = rw read (units-in header records headed)

  units-read : chains.units ≤ 64
  units-read = rw count-read headed.units

  aggregates-read : chains.aggregates ≤ 16
  unfolding fields_of
  aggregates-read = rw (read, aggregates-in header records headed) headed.aggregates

  pub counts-read : (chains.units ≤ 64) × (chains.aggregates ≤ 16)
  counts-read = (units-read, aggregates-read)

  abbrev kinds : Bool
  kinds = kinds_known chains.kinds (unit_count header)

  abbrev regions : Bool
  regions = regions_known chains.regions (unit_count header)

  abbrev all_known : Bool
  all_known = header_spare bytes && kinds && regions && units_spare bytes && heads_spare bytes

  module _ (known : Bool) (k : known ≡ all_known) where
    known_is : known ≡ fields_known bytes
    unfolding fields_known fields_of
    known_is =
        k
        ∙ and_assoc (header_spare bytes && kinds && regions) (units_spare bytes) (heads_spare bytes)
        ∙ rw (and_assoc (header_spare bytes) kinds regions, read, units-in header records headed)

    pub read-4 : not known ≡ true → Err Record ≡ records_from bytes
    unfolding records_from
    read-4 e = rw (failed known_is e)

    -- the tests of a roster that the records have passed
    pub read-known : known ≡ true → Known chains
    read-known right =
        let head = header_spare bytes && kinds && regions in
        let units = and_l head (units_spare bytes) (and_l (head && units_spare bytes) (heads_spare bytes) (sym k ∙ right)) in
        record {
          least = rw count-read headed.least;
          kinds = rw count-read (and_r (header_spare bytes) kinds (and_l (header_spare bytes && kinds) regions units));
          regions = rw count-read (and_r (header_spare bytes && kinds) regions units);
        }

    module _ (right : not known ≡ false) (inside : Bool) (i : inside ≡ indices_in chains) where
      inside_is : inside ≡ indices_in (fields_of bytes)
      inside_is = i ∙ rw read

      pub read-5 : not inside ≡ true → Err Index ≡ records_from bytes
      unfolding records_from
      read-5 e = rw (passed known_is right, failed inside_is e)

      pub read-chains : (r : Result Registered RegisterRefusal) → r ≡ chained_from chains → not inside ≡ false → r ≡ records_from bytes
      unfolding records_from
      read-chains r q e = rw (q, read, passed known_is right, passed inside_is e)

  pub read-walkable : (inside : Bool) → inside ≡ indices_in chains → not inside ≡ false → Walkable chains
  read-walkable inside i e = record { units = units-read; aggregates = aggregates-read; inside = passed i e }

-- what `records_from` needs of them
pub ruleset records = (counts-read, read-known, read-4, read-5, read-chains, read-walkable)

-- ---- refusals 6, 7, 30 and 37

module _ (c : Chains) (walkable : Walkable c) (w : Walked) (e : w.walk ≡ walked unwalked (all_members c)) where
  twice-is : w.walk.twice ≡ not (met_once c)
  twice-is = rw e (walk-twice c walkable.inside walkable.units)

  met-is : w.walk.met ≡ chained_of c
  met-is = rw e (walk-met c walkable.inside walkable.units)

  pub walked-6 : w.walk.twice ≡ true → Err MetTwice ≡ chained_from c
  unfolding chained_from
  walked-6 t = rw (not-true (met_once c) (sym twice-is ∙ t))

  module _ (one : w.walk.twice ≡ false) where
    once : met_once c ≡ true
    once = not-false (met_once c) (sym twice-is ∙ one)

    module _ (h : w.stretches ≡ stretches_walked c) (roster : Roster) (q : roster ≡ roster_from c w) where
      roster_is : roster ≡ roster_of c
      roster_is = q ∙ laid_out c walkable once w e h

      pub walked-sound : Known c → roster_sound roster ≡ true
      walked-sound known = rw roster_is (laid-sound c walkable once known)

    module _ (ends : Bool) (i : ends ≡ every (ends_at w.walk.met c.next) c.units) where
      ends_is : ends ≡ rest_ends c
      unfolding rest_ends
      ends_is = i ∙ rw met-is

      pub walked-7 : not ends ≡ true → Err Unmet ≡ chained_from c
      unfolding chained_from
      walked-7 t = rw (once, failed ends_is t)

      module _ (end : not ends ≡ false) (scheduled : Bool) (s : scheduled ≡ every (scheduled_at w.walk.met c.kinds) c.units) where
        scheduled-is : scheduled ≡ members_scheduled c
        unfolding members_scheduled
        scheduled-is = s ∙ rw met-is

        pub walked-30 : not scheduled ≡ true → Err SemiScheduledMember ≡ chained_from c
        unfolding chained_from
        walked-30 t = rw (once, passed ends_is end, failed scheduled-is t)

        module _ (right : not scheduled ≡ false) (h : w.stretches ≡ stretches_walked c) (roster : Roster) (q : roster ≡ roster_from c w)
            (shared : Bool) (r : shared ≡ regions_shared (held roster)) where
          shared-is : shared ≡ regions_shared (plant_of c)
          shared-is = r ∙ rw (roster_is h roster q) (shared-laid c walkable)

          pub walked-37 : not shared ≡ true → Err AcrossRegions ≡ chained_from c
          unfolding chained_from
          walked-37 t = rw (once, passed ends_is end, passed scheduled-is right, failed shared-is t)

          pub walked-accepted : not shared ≡ false
              → ◌≡◌ {A = Result Registered RegisterRefusal} (Ok (record { visits = w.walk.steps; roster = roster })) (chained_from c)
          unfolding chained_from accepted_as
          walked-accepted t =
              rw (
                roster_is h roster q,
                e,
                walk_steps c walkable.inside walkable.units,
                once,
                passed ends_is end,
                passed scheduled-is right,
                passed shared-is t,
              )
