-- The walk along the chains, one step and one chain at a time. Assumes nothing.
use mathlib.Core.Path.{◌≡◌, refl, sym, ap, ◌∙◌}
use mathlib.Core.Logic.{◌⊎◌, inl, inr}
use mathlib.Core.Bool.{Bool, true, false, not, ◌||◌}
use mathlib.Core.List.{List, [], ◌∷◌, ◌++◌, map, map-append, append-nil}
use Prim.Native.Nat.{ℕ, zero, suc, ◌+◌, ◌-◌, ◌*◌, ◌%◌, ◌≤◌, ◌<◌}
use native.Mathlib.Nat.{le_of_eq}
use native.Mathlib.Numerals.{add-one}
use native.Mathlib.Omega.{arith}
use borrow.Author.Tests.{leb-true, leb-false, le-leb, lt-leb, not-true, not-false}
use lib.Dec.{leb}
use lib.ListN.{length, get_or, set, drop, replicate, length-append, length-set, length-map, length-replicate, get_or-replicate}
use lib.Seq.{append_snoc, drop-cons, set_at, get_or-set_same, get_or-set_other, ext_get_or}
use Rattle.std.specs.Array.{AllOfLen}
use Rattle.std.proofs.lemmas.Bool.{cases_eq, cases_lt}
use Rattle.trace.specs.Sweeps.{every, sweep, records}
use Rattle.trace.proofs.Sweeps.{every-mono, every-all, every-fails, sweep-none, sweep-more, sweep-end, records-none, records-more}
use Rattle.trace.proofs.Sweeps.{length-sweep, get_or-sweep, get_or-sweep-past}
use Rattle.plants.specs.Plants.{place}
use Rattle.chains.specs.declared.Chains.{Chains}
use Rattle.chains.specs.declared.visits.Walk.{Walk}
use Rattle.plants.specs.declared.Stretch.{Stretch}
use Rattle.plants.specs.Rosters.{no_stretch}
use Rattle.chains.specs.Chains.{chain, members_of, all_members, times_in, met_at, chained_of}
use Rattle.chains.specs.Rules.{once_at, indices_in, met_once, Walkable}
use Rattle.chains.specs.Layouts.{start_at, count_at, flat_of}
use Rattle.chains.specs.Walks.{unwalked, step_to, walked, stretch_walked, stretches_walked}
use Rattle.chains.proofs.Indices.{next-inside, head-inside}
use Rattle.chains.proofs.Steps.{chain-end, chain-out, chain-turn, length-chain, times-append, times-same, times-other, times_none}
use Rattle.chains.proofs.Steps.{Units, units-none, units-append, units_in}

pub walked-append : (w : Walk) (xs ys : List ℕ) → walked w (xs ++ ys) ≡ walked (walked w xs) ys
unfolding walked
walked-append w [] ys = refl
walked-append w (zero ∷ xs) ys = walked-append w xs ys
walked-append w (suc i ∷ xs) ys = walked-append (step_to w i) xs ys

-- each unit of a chain is one step
pub chain_steps : (w : Walk) (next : List ℕ) (left unit : ℕ) → (walked w (chain next left unit)).steps ≡ w.steps + length (chain next left unit)
unfolding walked chain step_to
chain_steps w next zero unit = omega arith
chain_steps w next (suc k) zero = omega arith
chain_steps w next (suc k) (suc i) = let rest = chain_steps (step_to w i) next k (get_or next i 0) in omega arith

-- ---- along one chain

-- What is left of the chain after so many turns, walked from here, ends where the whole chain does.
pub record Along (c : Chains) (before : Walk) (head : ℕ) (w : Walk) (unit turns : ℕ) : Type 0 where
  pub small : c.units ≤ 64
  pub place : unit ≤ c.units
  pub few : w.steps ≤ before.steps + turns
  pub whole : walked w (chain c.next (65 - turns) unit) ≡ walked before (chain c.next 65 head)

module _ (c : Chains) (before : Walk) (head : ℕ) where
  pub along-more : Walkable c → (w v : Walk) (unit turns i : ℕ) → turns < 65 → 0 < unit → Along c before head w unit turns
      → i ≡ unit - 1 → v ≡ step_to w i → Along c before head v (get_or c.next i 0) (turns + 1)
  unfolding walked step_to
  along-more walkable w v unit turns i n h a e q =
      let one : suc (unit - 1) ≡ unit = omega arith in
      let rest = chain c.next (65 - (turns + 1)) (get_or c.next (unit - 1) 0) in
      let turn : chain c.next (65 - turns) unit ≡ suc (unit - 1) ∷ rest = rw one (chain-turn c.next 65 turns unit n h) in
      rw (q, e)
      record {
        small = a.small;
        place = next-inside c walkable.inside (unit - 1) (omega (arith, a.place));
        few = omega (arith, a.few);
        whole = ap (walked w) (sym turn) ∙ a.whole;
      }

  -- the chain has ended, or its steps are used up
  pub along-end : (w : Walk) (unit turns : ℕ) → Along c before head w unit turns → unit ≡ 0 → w ≡ walked before (chain c.next 65 head)
  unfolding walked
  along-end w unit turns a e =
      let none : chain c.next (65 - turns) unit ≡ [] = rw e (chain-end c.next (65 - turns)) in sym (ap (walked w) none) ∙ a.whole

  pub along-out : (w : Walk) (unit turns : ℕ) → Along c before head w unit turns → 65 ≤ turns → w ≡ walked before (chain c.next 65 head)
  unfolding walked
  along-out w unit turns a h =
      let z : 65 - turns ≡ 0 = omega arith in
      let none : chain c.next (65 - turns) unit ≡ [] = rw z (chain-out c.next unit) in sym (ap (walked w) none) ∙ a.whole

-- ---- along all chains

-- an array by its default
pub same-each : {A : Type 0} (a : A) (xs : List A) (n : ℕ) → AllOfLen (λ x. x ≡ a) xs n → xs ≡ replicate n a
same-each a xs n all =
    ext_get_or a xs (replicate n a) (all.long ∙ sym (length-replicate n a))
    (λ i l. let k : i < n = rw all.long at l in all.at i a k ∙ sym (get_or-replicate n i a a k))

pub record Across (c : Chains) (w : Walk) (stretches : List Stretch) (j : ℕ) : Type 0 where
  pub turns : j ≤ c.aggregates
  pub most : c.aggregates ≤ 16
  pub few : w.steps ≤ 65 * j
  pub whole : w ≡ walked unwalked (records (members_of c) j)
  pub steps : w.steps ≡ start_at c j
  pub laid : stretches ≡ sweep (stretch_walked c) j (replicate 16 no_stretch)

module _ (c : Chains) where
  pub across-none : Walkable c → Across c unwalked (replicate 16 no_stretch) 0
  unfolding walked start_at
  across-none walkable =
      record {
        turns = omega arith;
        most = walkable.aggregates;
        few = omega arith;
        whole = ap (walked unwalked) (sym (records-none (members_of c)));
        steps = ap length (sym (records-none (members_of c)));
        laid = sweep-none (stretch_walked c) (replicate 16 no_stretch);
      }

  module _ (w v : Walk) (j : ℕ) (e : v ≡ walked w (chain c.next 65 (get_or c.heads j 0))) where
    across-steps : v.steps ≡ w.steps + count_at c j
    unfolding count_at members_of
    across-steps = ap (λ (x : Walk). x.steps) e ∙ chain_steps w c.next 65 (get_or c.heads j 0)

    pub across-rises : w.steps ≤ v.steps
    across-rises = omega (arith, across-steps)

    pub across-more : (stretches : List Stretch) (s : Stretch) → j < c.aggregates → Across c w stretches j
        → s.start ≡ w.steps % 256 → s.count ≡ (v.steps - w.steps) % 256 → Across c v (set stretches j s) (j + 1)
    unfolding members_of start_at count_at
    across-more stretches s l a p q =
        let here = across-steps in
        let taken : v.steps - w.steps ≡ count_at c j = omega arith in
        let started : s.start ≡ start_at c j % 256 = p ∙ ap (λ (k : ℕ). k % 256) a.steps in
        let counted : s.count ≡ count_at c j % 256 = q ∙ ap (λ (k : ℕ). k % 256) taken in
        let laid : s ≡ stretch_walked c j = rw (← started, ← counted) refl in
        record {
          turns = omega arith;
          most = a.most;
          few = let most = length-chain c.next 65 (get_or c.heads j 0) in omega (arith, a.few);
          whole =
              e
              ∙ ap (λ (x : Walk). walked x (members_of c j)) a.whole
              ∙ sym (walked-append unwalked (records (members_of c) j) (members_of c j))
              ∙ ap (walked unwalked) (sym (records-more (members_of c) j));
          steps = here ∙ rw (a.steps, records-more (members_of c) j, length-append (records (members_of c) j) (members_of c j));
          laid = sweep-more (stretch_walked c) j (replicate 16 no_stretch) stretches s a.laid laid;
        }

  module _ (w : Walk) (stretches : List Stretch) (j : ℕ) (a : Across c w stretches j) (l : c.aggregates ≤ j) where
    all : j ≡ c.aggregates
    all = omega (arith, a.turns)

    pub across-walk : w ≡ walked unwalked (all_members c)
    unfolding all_members
    across-walk = a.whole ∙ ap (λ (k : ℕ). walked unwalked (records (members_of c) k)) all

    pub across-stretches : stretches ≡ stretches_walked c
    unfolding stretches_walked
    across-stretches = sweep-end (stretch_walked c) j c.aggregates (replicate 16 no_stretch) stretches a.turns l a.laid

-- ---- what a walk over a list of units has recorded

-- the places of the units met, with zeros past them
abbrev list_of : List ℕ → List ℕ
list_of done = map place done ++ drop (length done) (replicate 64 0)

-- Whoever stands in the list is met, each unit of it was a step whose place is kept while there is room, and a unit that stands in it
-- twice was met again.
pub record Recorded (n : ℕ) (done : List ℕ) (w : Walk) : Type 0 where
  pub size : length w.met ≡ 64
  pub met : (i : ℕ) → i < 64 → get_or w.met i false ≡ leb 1 (times_in (suc i) done)
  pub steps : w.steps ≡ length done
  pub list : length done ≤ 64 → w.members ≡ list_of done
  pub twice : w.twice ≡ not (every (once_at done) n)

module _ (n : ℕ) (small : n ≤ 64) where
  pub recorded-none : Recorded n [] unwalked
  unfolding times_in
  recorded-none =
      record {
        size = length-replicate 64 false;
        met = λ i l. get_or-replicate 64 i false false l;
        steps = refl;
        list = λ h. refl;
        twice = ap not (sym (every-all (once_at []) n (λ i l. refl)));
      }

  module _ (done : List ℕ) (w : Walk) (k : Recorded n done w) (i : ℕ) (l : i < n) where
    abbrev more : List ℕ
    more = done ++ (suc i ∷ [])

    times-here : times_in (suc i) more ≡ suc (times_in (suc i) done)
    times-here =
        let a = times-append (suc i) done (suc i ∷ []) in
        let b = times-same (suc i) [] in
        let z = times_none (suc i) in
        omega arith

    times-there : (j : ℕ) → (j ≡ i → ⊥) → times_in (suc j) more ≡ times_in (suc j) done
    times-there j n =
        let a = times-append (suc j) done (suc i ∷ []) in
        let b = times-other (suc j) (suc i) [] (λ (e : suc i ≡ suc j). n (omega arith)) in
        let z = times_none (suc j) in
        omega arith

    met-more : (j : ℕ) → j < 64 → (j ≡ i) ⊎ (j ≡ i → ⊥) → get_or (step_to w i).met j false ≡ leb 1 (times_in (suc j) more)
    unfolding step_to
    met-more j h (inl e) =
        rw (e, get_or-set_same w.met i true false (omega (arith, k.size)), times-here, le-leb 1 (suc (times_in (suc i) done)) (omega arith))
    met-more j h (inr n) = rw (get_or-set_other w.met i j true false n, times-there j n) (k.met j h)

    -- one more of a unit that was not met before leaves each there at most once
    once-kept : times_in (suc i) done ≡ 0 → every (once_at done) n ≡ true → every (once_at more) n ≡ true
    once-kept z e =
        every-mono (once_at done) (once_at more) n (λ j b h. go j h (cases_eq j i)) e
      where
        go : (j : ℕ) → once_at done j ≡ true → (j ≡ i) ⊎ (j ≡ i → ⊥) → once_at more j ≡ true
        go j h (inl q) = rw q (rw times-here (rw z refl))
        go j h (inr q) = rw (times-there j q) h

    once-lost : every (once_at done) n ≡ false → every (once_at more) n ≡ false
    once-lost e = go (every (once_at more) n) refl
      where
        fewer : (j : ℕ) → once_at more j ≡ true → once_at done j ≡ true
        fewer j h =
            let a = times-append (suc j) done (suc i ∷ []) in
            le-leb (times_in (suc j) done) 1 (omega (arith, leb-true (times_in (suc j) more) 1 h))

        go : (t : Bool) → every (once_at more) n ≡ t → every (once_at more) n ≡ false
        go false h = h
        go true h =
            let g = every-mono (once_at more) (once_at done) n (λ j b q. fewer j q) h in
            absurd (let z : ◌≡◌ {A = ℕ} 0 1 = cc in omega arith)

    twice-more : (m t : Bool) → get_or w.met i false ≡ m → w.twice ≡ t → (t || m) ≡ not (every (once_at more) n)
    twice-more m true p q = ap not (sym (once-lost (not-true _ (sym k.twice ∙ q))))
    twice-more true false p q =
        let h = leb-true 1 (times_in (suc i) done) (sym (k.met i (omega arith)) ∙ p) in
        ap not (sym (every-fails (once_at more) n i l (rw times-here (lt-leb (suc (times_in (suc i) done)) 1 (omega arith)))))
    twice-more false false p q =
        let h = leb-false 1 (times_in (suc i) done) (sym (k.met i (omega arith)) ∙ p) in
        ap not (sym (once-kept (omega arith) (not-false _ (sym k.twice ∙ q))))

    list-more : length more ≤ 64 → (step_to w i).members ≡ list_of more
    unfolding step_to
    list-more h =
        let long = length-append done (suc i ∷ []) in
        let size = length-replicate {A = ℕ} 64 0 in
        let before = map place done in
        let at : length before ≡ length done = length-map done place in
        rw (
          k.list (omega arith),
          k.steps,
          drop-cons {A = ℕ} (replicate 64 0) (length done) 0 (omega arith),
          set_at,
          map-append place done (suc i ∷ []),
          long,
          add-one (length done),
        )
        (sym (append_snoc before i (drop (suc (length done)) (replicate 64 0))))

    pub recorded_more : Recorded n more (step_to w i)
    unfolding step_to
    recorded_more =
        record {
          size = length-set w.met i true ∙ k.size;
          met = λ j h. met-more j h (cases_eq j i);
          steps = let a = length-append done (suc i ∷ []) in omega (arith, k.steps);
          list = list-more;
          twice = twice-more (get_or w.met i false) w.twice refl refl;
        }

  pub recorded-all : (done xs : List ℕ) (w : Walk) → Units n xs → Recorded n done w → Recorded n (done ++ xs) (walked w xs)
  unfolding walked Units
  recorded-all done [] w u k = rw (append-nil done) k
  recorded-all done (zero ∷ xs) w u k = absurd (omega (arith, u.0.0))
  recorded-all done (suc i ∷ xs) w u k =
      rw (← append_snoc done (suc i) xs)
      (recorded-all (done ++ (suc i ∷ [])) xs (step_to w i) u.1 (recorded_more done w k i (omega (arith, u.0.1))))

-- ---- what a walk along all chains has recorded

pub length-chained : (c : Chains) → length (chained_of c) ≡ 64
unfolding chained_of
length-chained c = length-sweep (met_at c) c.units (replicate 64 false) ∙ length-replicate 64 false

module _ (c : Chains) (inside : indices_in c ≡ true) where
  pub chain-units : (steps unit : ℕ) → unit ≤ c.units → Units c.units (chain c.next steps unit)
  unfolding chain Units
  chain-units zero unit l = tt
  chain-units (suc k) zero l = tt
  chain-units (suc k) (suc i) l = ((omega arith, l), chain-units k (get_or c.next i 0) (next-inside c inside i (omega arith)))

  pub members-units : (j : ℕ) → j < c.aggregates → Units c.units (members_of c j)
  unfolding members_of
  members-units j l = chain-units 65 (get_or c.heads j 0) (head-inside c inside j l)

  records-units : (k : ℕ) → k ≤ c.aggregates → Units c.units (records (members_of c) k)
  unfolding records
  records-units zero l = units-none c.units
  records-units (suc k) l =
      units-append c.units (records (members_of c) k) (members_of c k) (records-units k (omega arith)) (members-units k l)

  pub all-units : Units c.units (all_members c)
  unfolding all_members
  all-units = records-units c.aggregates (le_of_eq refl)

  module _ (small : c.units ≤ 64) where
    abbrev walk : Walk
    walk = walked unwalked (all_members c)

    recorded : Recorded c.units (all_members c) walk
    recorded = recorded-all c.units small [] (all_members c) unwalked all-units (recorded-none c.units small)

    pub walk-twice : walk.twice ≡ not (met_once c)
    unfolding met_once
    walk-twice = recorded.twice

    pub walk_steps : walk.steps ≡ length (all_members c)
    walk_steps = recorded.steps

    pub walk-list : length (all_members c) ≤ 64 → walk.members ≡ flat_of c
    unfolding flat_of
    walk-list h = recorded.list h

    met-at : (i : ℕ) → i < 64 → (i < c.units) ⊎ (c.units ≤ i) → get_or walk.met i false ≡ get_or (chained_of c) i false
    unfolding chained_of met_at
    met-at i l (inl h) =
        recorded.met i l
        ∙ sym (get_or-sweep (met_at c) c.units (replicate 64 false) false i h (omega (arith, length-replicate 64 false)))
    met-at i l (inr h) =
        let past = below (times_in (suc i) (all_members c)) (units_in c.units (all_members c) all-units (suc i)) h in
        recorded.met i l
        ∙ lt-leb 1 (times_in (suc i) (all_members c)) past
        ∙ sym (get_or-sweep-past (met_at c) c.units (replicate 64 false) false i h ∙ get_or-replicate 64 i false false l)
      where
        below : (t : ℕ) → (1 ≤ t → (1 ≤ suc i) × (suc i ≤ c.units)) → c.units ≤ i → t < 1
        below zero f h = omega arith
        below (suc t) f h = let q = f (omega arith) in absurd (omega (arith, q.1))

    pub walk-met : walk.met ≡ chained_of c
    walk-met =
        ext_get_or false walk.met (chained_of c) (recorded.size ∙ sym (length-chained c))
        (λ i l. met-at i (omega (arith, recorded.size)) (cases_lt i c.units))
