-- How many calls of a list are events, counted one by one, and how many there are since the latest call that clears the count. What has gone
-- before a call is worked out from h, first call to last.
use Rattle.std.specs.Prelude.{◌≡◌, ◌⊎◌, List, [], ◌∷◌, ◌++◌, ℕ, suc}
use Rattle.trace.specs.Lists.{fold}

-- so many calls of the list are events
pub data Counted {H C : Type 0} (next : H → C → H) (Event : H → C → Type 0) : H → List C → ℕ → Type 0 where
  none : {h : H} → Counted next Event h [] 0
  event : {h : H} {c : C} {cs : List C} {n : ℕ} → Event h c → Counted next Event (next h c) cs n → Counted next Event h (c ∷ cs) (suc n)
  other : {h : H} {c : C} {cs : List C} {n : ℕ} → ¬ Event h c → Counted next Event (next h c) cs n → Counted next Event h (c ∷ cs) n

-- the last call of the list clears the count
pub record Ends {H C : Type 0} (next : H → C → H) (Clears : H → C → Type 0) (h : H) (calls : List C) : Type 0 where
  pub earlier : List C
  pub last : C
  pub splits : calls ≡ earlier ++ (last ∷ [])
  pub clears : Clears (fold next h earlier) last

-- The list splits into calls up to the latest that clears the count, none where no call does, and later calls, so many of which are events.
pub record CountedSince {H C : Type 0} (next : H → C → H) (Event Clears : H → C → Type 0) (h : H) (calls : List C) (n : ℕ) : Type 0 where
  pub before : List C
  pub later : List C
  pub splits : calls ≡ before ++ later
  pub begins : (before ≡ []) ⊎ Ends next Clears h before
  pub stands : (mid : List C) (c : C) (rest : List C) → later ≡ mid ++ (c ∷ rest) → ¬ Clears (fold next h (before ++ mid)) c
  pub number : Counted next Event (fold next h before) later n
