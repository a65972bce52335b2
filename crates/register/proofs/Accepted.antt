-- What an accepted register gives: the roster that it loads, and the laws of its chains. Assumes nothing.
use mathlib.Core.Path.{◌≡◌, refl, sym, ap, ◌∙◌}
use mathlib.Core.Logic.{◌⊎◌, inl, inr, ⊎_elim}
use mathlib.Core.Bool.{Bool, true, false, false≢true, ◌&&◌, not}
use mathlib.Core.List.{List}
use Prim.Native.Nat.{ℕ, zero, suc, ◌+◌, ◌*◌, ◌≤◌, ◌<◌}
use native.Mathlib.Omega.{arith}
use borrow.Author.Tests.{leb-true, le-leb, eqb-true, eq-eqb}
use lib.Dec.{leb}
use lib.ListN.{length, get_or, replicate, length-map, length-replicate}
use Rattle.std.proofs.lemmas.Bool.{cases_lt}
use Rattle.trace.specs.Sweeps.{sweep, records}
use Rattle.trace.proofs.Sweeps.{every-at, every-all, length-sweep, get_or-sweep, get_or-sweep-past, replicate-same}
use Rattle.trace.proofs.Tests.{and_l, and_r}
use Rattle.plants.specs.Plants.{place, elem, region_of, has_region, shares_region, regions_shared}
use Rattle.plants.specs.Rosters.{counts_in, kinds_known, regions_known, roster_sound}
use Rattle.plants.proofs.Soundness.{counts-least, counts-units, counts-aggregates}
use Rattle.chains.specs.declared.Chains.{Chains}
use Rattle.chains.specs.Chains.{chain, Chain, members_of, all_members, times_in, met_at, chained_of, places_of, plant_of}
use Rattle.chains.specs.Rules.{indices_in, once_at, met_once, rest_ends, scheduled_at, members_scheduled, Known, Walkable}
use Rattle.chains.specs.Layouts.{roster_of, SideBySide}
use Rattle.chains.proofs.Indices.{head-least}
use Rattle.chains.proofs.Steps.{chain-end, chain-whole, chain_same, times-same, units_in}
use Rattle.chains.proofs.Walks.{members-units, all-units}
use Rattle.chains.proofs.Members.{all-each, each-all, elem-times, times-one, times-two, times-somewhere, times-at-most, once-length}
use Rattle.chains.proofs.Regions.{unit-region, aggregate-region, regions-few}
use Rattle.chains.proofs.Layouts.{side_by_side, laid-sound}
use Rattle.register.specs.declared.RegisterRefusal.{RegisterRefusal}
use Rattle.register.specs.declared.RegisterRefusal.TheVariants.{Length, Counts, RunLengths, Record, Index, MetTwice, Unmet}
use Rattle.register.specs.declared.RegisterRefusal.TheVariants.{SemiScheduledMember, AcrossRegions}
use Rattle.std.specs.Prelude.{Option, Some, None, Result, Ok}
use Rattle.kinds.specs.declared.Kind.{Kind}
use Rattle.kinds.specs.declared.Kind.TheVariants.{Generating, Load, Bidirectional, SemiScheduled}
use Rattle.kinds.specs.Kinds.{is_semi_scheduled}
use Rattle.register.specs.declared.Registered.{Registered}
use Rattle.register.specs.Fields.{unit_count, aggregate_count, lengths_at, field_at, heads_place, kind_in, kinds_of, nexts_of, heads_of}
use Rattle.register.specs.Fields.{regions_of, fields_of}
use Rattle.register.specs.Rules.{long_enough, whole_length, rising, header_spare, units_spare, heads_spare}
use Rattle.register.specs.Registers.{unless, accepted_as, lengths_rise, fields_known, chained_from, records_from, registered_of}

-- ---- the rules that it has passed

pub record Passed (bytes : List ℕ) : Type 0 where
  pub long : long_enough bytes ≡ true
  pub counts : counts_in (unit_count bytes) (aggregate_count bytes) ≡ true
  pub whole : whole_length bytes ≡ true
  pub rise : lengths_rise bytes ≡ true
  pub known : fields_known bytes ≡ true
  pub inside : indices_in (fields_of bytes) ≡ true
  pub once : met_once (fields_of bytes) ≡ true
  pub ends : rest_ends (fields_of bytes) ≡ true
  pub scheduled : members_scheduled (fields_of bytes) ≡ true
  pub shared : regions_shared (plant_of (fields_of bytes)) ≡ true

unless-passed : (t : Bool) (k : RegisterRefusal) (r : Registered) (rest : Result Registered RegisterRefusal) → unless t k rest ≡ Ok r
    → (t ≡ true) × (rest ≡ Ok r)
unless-passed true k r rest e = (refl, e)
unless-passed false k r rest e = cc

module _ (bytes : List ℕ) (r : Registered) (accepted : registered_of bytes ≡ Ok r) where
  abbrev c : Chains
  c = fields_of bytes

  pub accepted-passed : Passed bytes
  unfolding registered_of records_from chained_from
  accepted-passed =
      let long = unless-passed (long_enough bytes) Length r _ accepted in
      let counts = unless-passed (counts_in (unit_count bytes) (aggregate_count bytes)) Counts r _ long.1 in
      let whole = unless-passed (whole_length bytes) Length r _ counts.1 in
      let rise = unless-passed (lengths_rise bytes) RunLengths r _ whole.1 in
      let known = unless-passed (fields_known bytes) Record r _ rise.1 in
      let inside = unless-passed (indices_in c) Index r _ known.1 in
      let once = unless-passed (met_once c) MetTwice r _ inside.1 in
      let ends = unless-passed (rest_ends c) Unmet r _ once.1 in
      let scheduled = unless-passed (members_scheduled c) SemiScheduledMember r _ ends.1 in
      let shared = unless-passed (regions_shared (plant_of c)) AcrossRegions r _ scheduled.1 in
      record {
        long = long.0;
        counts = counts.0;
        whole = whole.0;
        rise = rise.0;
        known = known.0;
        inside = inside.0;
        once = once.0;
        ends = ends.0;
        scheduled = scheduled.0;
        shared = shared.0;
      }

pub passed-accepted : (bytes : List ℕ) → Passed bytes → registered_of bytes ≡ Ok (accepted_as (fields_of bytes))
unfolding registered_of records_from chained_from
passed-accepted bytes q = rw (q.long, q.counts, q.whole, q.rise, q.known, q.inside, q.once, q.ends, q.scheduled, q.shared)

-- ---- the chains of an accepted register

pub record Loaded (c : Chains) : Type 0 where
  pub walkable : Walkable c
  pub known : Known c
  pub once : met_once c ≡ true
  pub ends : rest_ends c ≡ true
  pub scheduled : members_scheduled c ≡ true
  pub shared : regions_shared (plant_of c) ≡ true
  pub small : rising c.small ≡ true
  pub large : rising c.large ≡ true
  pub kinds : length c.kinds ≡ 64
  pub next : length c.next ≡ 64
  pub heads : length c.heads ≡ 16
  pub headless : (j : ℕ) → c.aggregates ≤ j → get_or c.heads j 0 ≡ 0

length-swept : {A : Type 0} (f : ℕ → A) (k n : ℕ) (d : A) → length (sweep f k (replicate n d)) ≡ n
length-swept f k n d = length-sweep f k (replicate n d) ∙ length-replicate n d

passed-loaded : (bytes : List ℕ) → Passed bytes → Loaded (fields_of bytes)
unfolding fields_of kinds_of regions_of nexts_of heads_of lengths_rise fields_known
passed-loaded bytes q =
    let units = unit_count bytes in
    let aggregates = aggregate_count bytes in
    let kinds = kinds_known (kinds_of bytes) units in
    let regions = regions_known (regions_of bytes) units in
    let fields = and_l (header_spare bytes && (kinds && regions)) (units_spare bytes && heads_spare bytes) q.known in
    let known = and_r (header_spare bytes) (kinds && regions) fields in
    record {
      walkable =
          record {
            units = counts-units units aggregates q.counts;
            aggregates = counts-aggregates units aggregates q.counts;
            inside = q.inside;
          };
      known =
          record {
            least = counts-least units aggregates q.counts;
            kinds = and_l kinds regions known;
            regions = and_r kinds regions known;
          };
      once = q.once;
      ends = q.ends;
      scheduled = q.scheduled;
      shared = q.shared;
      small = and_l (rising (lengths_at bytes 2)) (rising (lengths_at bytes 5)) q.rise;
      large = and_r (rising (lengths_at bytes 2)) (rising (lengths_at bytes 5)) q.rise;
      kinds = length-swept (kind_in bytes) units 64 None;
      next = length-swept (field_at bytes 17) units 64 0;
      heads = length-swept (field_at bytes (heads_place bytes)) aggregates 16 0;
      headless = λ j l.
          get_or-sweep-past (field_at bytes (heads_place bytes)) aggregates (replicate 16 0) 0 j l ∙ replicate-same 16 0 j;
    }

module _ (bytes : List ℕ) (r : Registered) (accepted : registered_of bytes ≡ Ok r) where
  passed : Passed bytes
  passed = accepted-passed bytes r accepted

  pub accepted-loaded : Loaded (fields_of bytes)
  accepted-loaded = passed-loaded bytes passed

  -- what is returned lays the chains side by side, and passes the test of a roster
  is : r ≡ accepted_as (fields_of bytes)
  is = let f = passed-accepted bytes passed in cc

  pub accepted-roster : r.roster ≡ roster_of (fields_of bytes)
  unfolding accepted_as
  accepted-roster = ap (λ (x : Registered). x.roster) is

  pub accepted-side : SideBySide (fields_of bytes) r.roster
  accepted-side = rw accepted-roster (side_by_side (fields_of bytes) accepted-loaded.walkable accepted-loaded.headless)

  pub accepted-sound : roster_sound r.roster ≡ true
  accepted-sound =
      let l = accepted-loaded in
      rw accepted-roster (laid-sound (fields_of bytes) l.walkable l.once l.known)

  -- a unit's region is byte 2 of its record
  pub accepted-region : (i : ℕ) → i < unit_count bytes → region_of (plant_of (fields_of bytes)) i ≡ get_or bytes (16 + 4 * i + 2) 0
  unfolding fields_of regions_of
  accepted-region i l =
      let place : 18 + 4 * i ≡ 16 + 4 * i + 2 = omega arith in
      unit-region (fields_of bytes) accepted-loaded.walkable i l
      ∙ get_or-sweep (field_at bytes 18) (unit_count bytes) (replicate 64 0) 0 i l
      (omega (arith, length-replicate {A = ℕ} 64 0, accepted-loaded.walkable.units))
      ∙ ap (λ (n : ℕ). get_or bytes n 0) place

-- ---- refusal 6, whatever the order of the chains: no unit twice in a chain, and none in two

pub record Apart (c : Chains) : Type 0 where
  pub within : (unit j : ℕ) → j < c.aggregates → times_in unit (members_of c j) ≤ 1
  pub between : (unit j k : ℕ) → j < c.aggregates → k < c.aggregates → (j ≡ k → ⊥) → 1 ≤ times_in unit (members_of c j)
      → times_in unit (members_of c k) ≡ 0

module _ (c : Chains) (inside : indices_in c ≡ true) where
  -- a unit that stands there at all is from 1 to n, so the test has looked at it
  pub all_once : met_once c ≡ true → (unit : ℕ) → times_in unit (all_members c) ≤ 1
  unfolding met_once
  all_once e unit = go unit (cases_lt (times_in unit (all_members c)) 2) (units_in c.units (all_members c) (all-units c inside) unit)
    where
      go : (u : ℕ) → (times_in u (all_members c) < 2) ⊎ (2 ≤ times_in u (all_members c))
          → (1 ≤ times_in u (all_members c) → (1 ≤ u) × (u ≤ c.units)) → times_in u (all_members c) ≤ 1
      go u (inl l) f = omega arith
      go zero (inr l) f = let g = f (omega arith) in absurd (omega (arith, g.0))
      go (suc i) (inr l) f =
          let g = f (omega arith) in
          leb-true (times_in (suc i) (all_members c)) 1 (every-at (once_at (all_members c)) c.units e i g.1)

  two-once : met_once c ≡ true → (unit i j : ℕ) → i < j → j < c.aggregates → times_in unit (members_of c i) + times_in unit (members_of c j) ≤ 1
  unfolding all_members
  two-once e unit i j a b =
      let h = times-two (members_of c) unit c.aggregates i j a b in let o = all_once e unit in omega arith

  pub once-apart : met_once c ≡ true → Apart c
  unfolding all_members
  once-apart e =
      record {
        within = λ unit j l. let h = times-one (members_of c) unit c.aggregates j l in let o = all_once e unit in omega arith;
        between = λ unit j k a b n m. go unit j k a b n m (cases_lt j k);
      }
    where
      go : (unit j k : ℕ) → j < c.aggregates → k < c.aggregates → (j ≡ k → ⊥) → 1 ≤ times_in unit (members_of c j)
          → (j < k) ⊎ (k ≤ j) → times_in unit (members_of c k) ≡ 0
      go unit j k a b n m (inl l) = let h = two-once e unit j k l b in omega arith
      go unit j k a b n m (inr l) = let h = two-once e unit k j (omega arith) a in omega arith

pub apart-once : (c : Chains) → Apart c → met_once c ≡ true
unfolding met_once all_members
apart-once c a =
    every-all (once_at (records (members_of c) c.aggregates)) c.units
    (λ i l. le-leb (times_in (suc i) (records (members_of c) c.aggregates)) 1
    (times-at-most (members_of c) (suc i) c.aggregates (λ j h. a.within (suc i) j h)
    (λ j k h b m. a.between (suc i) k j b (omega arith) (λ (e : k ≡ j). omega arith) m)))

-- ---- a unit is marked as the chains have it

module _ (c : Chains) (walkable : Walkable c) where
  module _ (i : ℕ) (l : i < c.units) where
    pub marked-at : get_or (chained_of c) i false ≡ leb 1 (times_in (suc i) (all_members c))
    unfolding chained_of met_at
    marked-at =
        get_or-sweep (met_at c) c.units (replicate 64 false) false i l (omega (arith, length-replicate 64 false, walkable.units))

    -- a unit is marked exactly when some chain has it
    pub marked-member : get_or (chained_of c) i false ≡ true → (j : ℕ) × ((j < c.aggregates) × (1 ≤ times_in (suc i) (members_of c j)))
    unfolding all_members
    marked-member e =
        times-somewhere (members_of c) (suc i) c.aggregates (leb-true 1 (times_in (suc i) (records (members_of c) c.aggregates)) (sym marked-at ∙ e))

    pub member-marked : (j : ℕ) → j < c.aggregates → 1 ≤ times_in (suc i) (members_of c j) → get_or (chained_of c) i false ≡ true
    unfolding all_members
    member-marked j h m =
        let t = times-one (members_of c) (suc i) c.aggregates j h in
        marked-at ∙ le-leb 1 (times_in (suc i) (records (members_of c) c.aggregates)) (omega arith)

-- ---- refusal 30, whatever the marks: no chain has a unit of kind 4

semi_scheduled-is : (kind : Option Kind) → is_semi_scheduled kind ≡ true → kind ≡ Some SemiScheduled
semi_scheduled-is None e = absurd (false≢true e)
semi_scheduled-is (Some Generating) e = absurd (false≢true e)
semi_scheduled-is (Some Load) e = absurd (false≢true e)
semi_scheduled-is (Some Bidirectional) e = absurd (false≢true e)
semi_scheduled-is (Some SemiScheduled) e = refl

abbrev pub Scheduled : Chains → Type 0
Scheduled c = (i j : ℕ) → i < c.units → j < c.aggregates → 1 ≤ times_in (suc i) (members_of c j) → get_or c.kinds i None ≡ Some SemiScheduled → ⊥

module _ (c : Chains) (walkable : Walkable c) where
  pub rule-scheduled : members_scheduled c ≡ true → Scheduled c
  unfolding members_scheduled
  rule-scheduled e i j l h m four =
      let test = every-at (scheduled_at (chained_of c) c.kinds) c.units e i l in
      false≢true (rw (member-marked c walkable i l j h m, four) at test)

  pub scheduled-rule : Scheduled c → members_scheduled c ≡ true
  unfolding members_scheduled
  scheduled-rule s =
      every-all (scheduled_at (chained_of c) c.kinds) c.units
      (λ i l. go i l (get_or (chained_of c) i false) refl (is_semi_scheduled (get_or c.kinds i None)) refl)
    where
      go : (i : ℕ) → i < c.units → (chained : Bool) → get_or (chained_of c) i false ≡ chained
          → (four : Bool) → is_semi_scheduled (get_or c.kinds i None) ≡ four → not (chained && four) ≡ true
      go i l false q four e = refl
      go i l true q false e = refl
      go i l true q true e =
          let found = marked-member c walkable i l q in
          absurd (s i found.0 l found.1.0 found.1.1 (semi_scheduled-is _ e))

-- ---- refusal 37, whichever member is the first: any two members of a chain have one region

abbrev pub SharedRegion : Chains → Type 0
SharedRegion c = (j i k : ℕ) → j < c.aggregates → 1 ≤ times_in (suc i) (members_of c j) → 1 ≤ times_in (suc k) (members_of c j)
    → get_or c.regions i 0 ≡ get_or c.regions k 0

-- the region of an aggregate's point
abbrev own : Chains → ℕ → ℕ
own c j = region_of (plant_of c) ((plant_of c).units + j)

module _ (c : Chains) (walkable : Walkable c) where
  first-member : (j : ℕ) → j < c.aggregates → 1 ≤ times_in (suc (place (get_or c.heads j 0))) (members_of c j)
  unfolding members_of chain
  first-member j l = go (get_or c.heads j 0) (head-least c walkable.inside j l)
    where
      go : (head : ℕ) → 1 ≤ head → 1 ≤ times_in (suc (place head)) (chain c.next 65 head)
      go zero h = absurd (omega arith)
      go (suc i) h = omega (arith, times-same (suc i) (chain c.next 64 (get_or c.next i 0)))

  module _ (j : ℕ) (l : j < c.aggregates) where
    within : (i : ℕ) → 1 ≤ times_in (suc i) (members_of c j) → i < c.units
    within i m = let u = units_in c.units (members_of c j) (members-units c walkable.inside j l) (suc i) m in omega (arith, u.1)

    has-own : regions_shared (plant_of c) ≡ true → (i : ℕ) → 1 ≤ times_in (suc i) (members_of c j) → get_or c.regions i 0 ≡ own c j
    unfolding regions_shared shares_region plant_of places_of
    has-own e i m =
        let each = every-at (shares_region (plant_of c)) c.aggregates e j l in
        let test = all-each (has_region (plant_of c) (own c j)) c.units (members_of c j) (members-units c walkable.inside j l) each i m in
        sym (unit-region c walkable i (within i m)) ∙ eqb-true _ _ test

  pub rule-shared : regions_shared (plant_of c) ≡ true → SharedRegion c
  rule-shared e j i k l a b = has-own j l e i a ∙ sym (has-own j l e k b)

  pub shared-rule : SharedRegion c → regions_shared (plant_of c) ≡ true
  unfolding regions_shared shares_region plant_of places_of
  shared-rule s =
      every-all (shares_region (plant_of c)) c.aggregates
      (λ j l. each-all (has_region (plant_of c) (own c j)) c.units (members_of c j) (members-units c walkable.inside j l)
      (λ i m. eq-eqb _ _
      (unit-region c walkable i (within j l i m) ∙ s j i (place (get_or c.heads j 0)) l m (first-member j l) ∙ sym (aggregate-region c walkable j l))))

-- ---- loaded chains

module _ (c : Chains) (loaded : Loaded c) where
  inside : indices_in c ≡ true
  inside = loaded.walkable.inside

  pub loaded-apart : Apart c
  loaded-apart = once-apart c inside loaded.once

  pub loaded-scheduled : Scheduled c
  loaded-scheduled = rule-scheduled c loaded.walkable loaded.scheduled

  pub loaded-shared : SharedRegion c
  loaded-shared = rule-shared c loaded.walkable loaded.shared

  -- an aggregate's region is its members'; past the aggregates there are none
  pub member-region : (j i : ℕ) → elem i ((plant_of c).members j) ≡ true → region_of (plant_of c) i ≡ region_of (plant_of c) ((plant_of c).units + j)
  unfolding plant_of places_of members_of
  member-region j i e =
      ⊎_elim
      (λ l. let m = elem-times c.units (members_of c j) (members-units c loaded.walkable.inside j l) i e in
      unit-region c loaded.walkable i (within c loaded.walkable j l i m) ∙ has-own c loaded.walkable j l loaded.shared i m)
      (λ l. absurd (false≢true (rw (loaded.headless j l, chain-end c.next 65) at e)))
      (cases_lt j c.aggregates)

  pub region-few : (i : ℕ) → region_of (plant_of c) i ≤ 4
  region-few i = regions-few c loaded.walkable loaded.known.regions i

  module _ (j : ℕ) (l : j < c.aggregates) where
    pub member-unit : (unit : ℕ) → 1 ≤ times_in unit (members_of c j) → (1 ≤ unit) × (unit ≤ c.units)
    member-unit unit h = units_in c.units (members_of c j) (members-units c inside j l) unit h

    -- at most n units
    pub members-few : length (members_of c j) ≤ c.units
    members-few =
        once-length c.units (members_of c j) (members-units c inside j l)
        (every-all (once_at (members_of c j)) c.units
        (λ i b. le-leb (times_in (suc i) (members_of c j)) 1 (loaded-apart.within (suc i) j l)))

    -- the chain is followed to its end, where next is 0
    pub members-chain : Chain c.next (get_or c.heads j 0) (members_of c j)
    unfolding members_of
    members-chain =
        let f = members-few in
        chain-whole c.next 65 (get_or c.heads j 0) (omega (arith, loaded.walkable.units))

    -- and as many steps as there are units, or more, give the same
    pub members-steps : (steps : ℕ) → c.units ≤ steps → chain c.next steps (get_or c.heads j 0) ≡ members_of c j
    members-steps steps h = chain_same c.next members-chain steps (let f = members-few in omega arith)

    -- no chain is empty
    pub members-nonempty : 1 ≤ length (places_of c j)
    unfolding places_of members_of chain
    members-nonempty = rw length-map (go (get_or c.heads j 0) (head-least c inside j l))
      where
        go : (head : ℕ) → 1 ≤ head → 1 ≤ length (chain c.next 65 head)
        go zero h = absurd (omega arith)
        go (suc i) h = omega arith
