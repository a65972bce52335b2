-- What a day is to the ledger (02, 2026-05; 002, section 4.1 (b)).
use Rattle.std.specs.Prelude.{◌≡◌, ◌↔◌, ◌⊎◌, Bool, true, false, cond, ◌||◌, ◌<◌, eqb, ltb, Option, None, is_some}
use Rattle.response.specs.declared.Day.{Day}
use Rattle.records.specs.declared.Flag.{Flag}
use Rattle.ledger.specs.declared.Conduct.{Conduct}
use Rattle.ledger.specs.declared.Conduct.TheVariants.{Undispatched, Conformant, Nonconformant}

abbrev pub is_flagged : Option Flag → Bool
is_flagged flag = is_some flag

-- "any flag, the day's own or an interval's"
abbrev pub has_flag : Day → Bool
has_flag day = is_flagged day.flag || (ltb 0 day.under || ltb 0 day.over)

-- "A day result with T = 0 is a day without dispatch"; "A dispatched day with any flag .. is one instance; a dispatched day without one is
-- conformant"
unfoldable pub conduct_of : Day → Conduct
conduct_of day = cond (eqb day.target 0) Undispatched (cond (has_flag day) Nonconformant Conformant)

abbrev pub is_conformant : Conduct → Bool
is_conformant Undispatched = false
is_conformant Conformant = true
is_conformant Nonconformant = false

-- an instance of non-conformance
abbrev pub is_instance : Conduct → Bool
is_instance Undispatched = false
is_instance Conformant = false
is_instance Nonconformant = true

-- ---- the same said a second time, by T, the day's flag and the two counts alone

abbrev pub Flagged : Day → Type 0
Flagged day = ¬ (day.flag ≡ None) ⊎ ((0 < day.under) ⊎ (0 < day.over))

pub record Conducts (day : Day) : Type 0 where
  pub undispatched : (conduct_of day ≡ Undispatched) ↔ (day.target ≡ 0)
  pub nonconformant : (conduct_of day ≡ Nonconformant) ↔ ((0 < day.target) × Flagged day)
  pub conformant : (conduct_of day ≡ Conformant) ↔ ((0 < day.target) × ¬ Flagged day)
