-- The sums and counts that the code holds on its way through a day. Nobody has to believe this file: `proofs/Sums.antt` shows that
-- they are those of the records so far.
use Rattle.std.specs.Prelude.{Bool, cond, List, ℕ, ◌+◌, ◌≤◌, ◌<◌, ◌^◌, nat_abs, ◌+ℤ◌}
use Rattle.records.specs.Intervals.{response_of, interval_flag, is_under, is_over}
use Rattle.response.specs.Days.{is_dispatched, response_sum, target_sum, under_count, over_count}
use Rattle.records.specs.declared.Interval.{Interval}
use Rattle.response.specs.declared.totals.Totals.{Totals}

-- small enough for one interval more
pub record SmallTotals (t : Totals) : Type 0 where
  pub response : nat_abs t.response ≤ 2 ^ 62
  pub target : t.target < 2 ^ 31
  pub under : t.under < 2 ^ 31
  pub over : t.over < 2 ^ 31

abbrev pub counted : ℕ → Bool → ℕ
counted count more = cond more (count + 1) count

-- a dispatched interval more
unfoldable pub add_dispatched : Totals → ℕ → Interval → Totals
add_dispatched t before v =
    record {
      response = t.response +ℤ response_of v;
      target = t.target + v.target;
      under = counted t.under (is_under (interval_flag before v));
      over = counted t.over (is_over (interval_flag before v));
    }

unfoldable pub add_interval : Totals → ℕ → Interval → Totals
add_interval t before v = cond (is_dispatched v) (add_dispatched t before v) t

-- of the first k records
unfoldable pub totals_of : ℕ → List ℕ → ℕ → Totals
totals_of earlier records k =
    record {
      response = response_sum records k;
      target = target_sum records k;
      under = under_count earlier records k;
      over = over_count earlier records k;
    }
