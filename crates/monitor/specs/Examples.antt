-- Worked examples, in bytes: the run of 01's "The program", those of SO_OP_3705 (000, A.5), four more for what they leave open, and two of "Five
-- regions" (02, 2026-09). A register, the buffers sent after it and the reports are written as numbers at the papers' places, and every value is
-- worked out by hand from the papers: nothing here goes by the definitions of fields, lines, rates, triggers, marks, runs and regions. In comments
-- power is in MW, and rates are in MW per minute.
use Rattle.std.specs.Prelude.{◌≡◌, true, List, [], ◌∷◌, ◌++◌, ℕ, ◌-◌, ◌*◌, ◌/◌, ◌%◌, ℤ, pos, negsuc, take, replicate, Result, Ok, Err}
use Rattle.register.specs.declared.RegisterRefusal.{RegisterRefusal}
use Rattle.points.specs.declared.Run.{Run}
use Rattle.points.specs.declared.Reason.{Reason}
use Rattle.points.specs.declared.Reason.TheVariants.{ByOperator, BySmallRun, ByLargeRun}
use Rattle.operators.specs.Operators.{declare, reinstate, ask, look, reason, target}
use Rattle.monitor.specs.Calls.{Call, interval, operate, Outcome, refusal, reported, done, looked, reasoned, targeted, run}
use Rattle.monitor.specs.Loading.{load_of}
use Rattle.monitor.specs.declared.Loaded.{Loaded}

-- ---- bytes

-- "All fields are little-endian": the 4 bytes of each number
abbrev pub words : List ℕ → List ℕ
words [] = []
words (n ∷ rest) = n % 256 ∷ n / 256 % 256 ∷ n / 65536 % 256 ∷ n / 16777216 % 256 ∷ words rest

-- the number -n as an i32
abbrev pub minus : ℕ → ℕ
minus n = 4294967296 - n

-- a register's header, with n, m, and the lengths of the small run and of the large one
abbrev pub header : (units aggregates ns ps ds nl pl dl : ℕ) → List ℕ
header units aggregates ns ps ds nl pl dl = units ∷ aggregates ∷ ns ∷ ps ∷ ds ∷ nl ∷ pl ∷ dl ∷ 0 ∷ 0 ∷ 0 ∷ 0 ∷ 0 ∷ 0 ∷ 0 ∷ 0 ∷ []

-- a unit's record in a region, one in region 0, and a head
abbrev pub unit_record_in : (region kind next : ℕ) → List ℕ
unit_record_in region kind next = kind ∷ next ∷ region ∷ 0 ∷ []

abbrev pub unit_record : (kind next : ℕ) → List ℕ
unit_record = unit_record_in 0

abbrev pub head_record : (first : ℕ) → List ℕ
head_record first = first ∷ 0 ∷ 0 ∷ 0 ∷ []

-- Floats stand by their bits: 1 to 7 are 3F80_0000, 4000_0000, 4040_0000, 4080_0000, 40A0_0000, 40C0_0000 and 40E0_0000; 50 is 4248_0000, 60 is
-- 4270_0000 and 100 is 42C8_0000; the others are the MW of the comments, in their order.

-- a line: quality, conformance mode, cap flag, MWB, MWO, FCR, FCL, bid ramp up and down; and by their bits MW, SCADA ramp up and down
abbrev pub line : (quality mode cap mwb mwo fcr fcl bid_up bid_down mw scada_up scada_down : ℕ) → List ℕ
line quality mode cap mwb mwo fcr fcl bid_up bid_down mw scada_up scada_down =
    quality ∷ mode ∷ cap ∷ 0 ∷ words (mwb ∷ mwo ∷ fcr ∷ fcl ∷ bid_up ∷ bid_down ∷ mw ∷ scada_up ∷ scada_down ∷ [])

abbrev pub good_line : (mode mwb mwo fcr fcl bid_up bid_down mw scada_up scada_down : ℕ) → List ℕ
good_line mode = line 0 mode 0

-- an interval's buffer: number, mask ("bit r set means region r is automatic"), zeros and the lines
abbrev pub buffer : (number mask : ℕ) → List ℕ → List ℕ
buffer number mask lines = words (number ∷ []) ++ (mask ∷ 0 ∷ 0 ∷ 0 ∷ lines)

-- the report of so many points as it stood before, with 255 in each byte
abbrev pub report_before : (points : ℕ) → List ℕ
report_before points = replicate (16 * points) 255

-- an interval with this mask, and one with region 0 alone in automatic mode
abbrev pub sent_in : (mask points number : ℕ) → List ℕ → Call
sent_in mask points number lines = interval (buffer number mask lines) (report_before points)

abbrev pub sent : (points number : ℕ) → List ℕ → Call
sent = sent_in 1

-- a point's record in the report
abbrev pub point_record : (status mark small_run large_run error trigger level : ℕ) → List ℕ
point_record status mark small_run large_run error trigger level =
    status ∷ mark ∷ small_run ∷ large_run ∷ words (error ∷ trigger ∷ level ∷ [])

-- a look's answer: status, both runs, each of which began in the interval of this number, and level
abbrev pub look_shows : (status small_run large_run first : ℕ) → (level : ℤ) → Reason → Outcome
look_shows status small_run large_run first level why =
    let run_of : ℕ → Run = λ count. record { count = count; first = first } in
    looked (record { status = status; small = run_of small_run; large = run_of large_run; level = level; reason = why })

-- OFF of a member by itself, and BLANK, where nothing has been counted
abbrev pub off : List ℕ
off = point_record 0 0 0 0 0 0 0

abbrev pub blank : List ℕ
blank = point_record 0 1 0 0 0 0 0

-- ---- the claim

-- the visits of a load and the outcomes of the calls after it, or the load's refusal
abbrev pub outcomes_by : Result Loaded RegisterRefusal → List Call → Result (ℕ × List Outcome) RegisterRefusal
outcomes_by (Ok l) calls = Ok (l.visits, run l.monitor calls)
outcomes_by (Err k) calls = Err k

-- a call, and what comes of it
abbrev pub Row : Type 0
Row = Call × Outcome

abbrev pub calls_in : List Row → List Call
calls_in [] = []
calls_in (row ∷ rest) = row.0 ∷ calls_in rest

abbrev pub outcomes_in : List Row → List Outcome
outcomes_in [] = []
outcomes_in (row ∷ rest) = row.1 ∷ outcomes_in rest

-- the register is accepted, its load visits so many units, and of each call after it comes what its row says
abbrev pub Gives : (register : List ℕ) → (visits : ℕ) → List Row → Type 0
Gives register visits rows = outcomes_by (load_of register) (calls_in rows) ≡ Ok (visits, outcomes_in rows)

-- ---- "The program": "One generating unit, good lines, conformance mode 0, lengths 2 3 4 2 3 4, automatic, intervals 10 to 12, MWB and
-- MWO 100,000, no regulation, all rates 3 MW per minute, MW 100, 107, 93", and a look after them

abbrev pub program_register : List ℕ
program_register = header 1 0 2 3 4 2 3 4 ++ unit_record 1 0

abbrev pub program_line : (mw : ℕ) → List ℕ
program_line mw = good_line 0 100000 100000 0 0 3000 3000 mw 0x4040_0000 0x4040_0000

-- Small: 3% of 100 MW is 3, 2 × 3 is 6, and no trigger is under 6 MW. Large: 5 and 12; 6 MW. 7 MW off is past both
abbrev pub program_rows : List Row
program_rows =
    (sent 1 10 (program_line 0x42C8_0000), reported (point_record 0 1 0 0 0 0 0))
    ∷ (sent 1 11 (program_line 0x42D6_0000), reported (point_record 1 5 1 1 7000 600000 0))
    ∷ (sent 1 12 (program_line 0x42BA_0000), reported (point_record 2 5 2 2 (minus 7000) 600000 0))
    ∷ (operate (ask look) 1, look_shows 2 2 2 11 (pos 0) ByOperator)
    ∷ []

-- ---- "Individual unit": availability of 200 MW, ramp rate 2 up, and far more down; MWB 100, so above MW. "the large error trigger is 8 MW"
-- (10 and 8), "the small error trigger is 6 MW" (6 and 4, and no trigger is under 6). A generating unit at 91.5, 8.5 under, and a load at 93, 7
-- under, interval after interval: Not-Responding at 3 large ones and at 6 small ones, NC-Pending at 5 and 8, and Non-Conforming with the next

abbrev pub individual_register : List ℕ
individual_register = header 2 0 6 8 9 3 5 6 ++ (unit_record 1 0 ++ unit_record 2 0)

abbrev pub individual_interval : ℕ → Call
individual_interval number =
    sent 2 number
    (good_line 0 100000 200000 0 0 2000 50000 0x42B7_0000 0x4000_0000 0x4248_0000
    ++ good_line 0 100000 200000 0 0 2000 50000 0x42BA_0000 0x4000_0000 0x4248_0000)

abbrev pub large_error : (status small_run large_run level : ℕ) → List ℕ
large_error status small_run large_run level = point_record status 5 small_run large_run (minus 8500) 600000 level

abbrev pub small_error : (status small_run level : ℕ) → List ℕ
small_error status small_run level = point_record status 4 small_run 0 (minus 7000) 600000 level

abbrev pub individual_rows : List Row
individual_rows =
    (individual_interval 1, reported (blank ++ blank))
    ∷ (individual_interval 2, reported (large_error 1 1 1 0 ++ small_error 1 1 0))
    ∷ (individual_interval 3, reported (large_error 1 2 2 0 ++ small_error 1 2 0))
    ∷ (individual_interval 4, reported (large_error 2 3 3 0 ++ small_error 1 3 0))
    ∷ (individual_interval 5, reported (large_error 2 4 4 0 ++ small_error 1 4 0))
    ∷ (individual_interval 6, reported (large_error 3 5 5 0 ++ small_error 1 5 0))
    ∷ (individual_interval 7, reported (large_error 4 0 0 91500 ++ small_error 2 6 0))
    ∷ (individual_interval 8, reported (large_error 4 0 0 91500 ++ small_error 2 7 0))
    ∷ (individual_interval 9, reported (large_error 4 0 0 91500 ++ small_error 3 8 0))
    ∷ (individual_interval 10, reported (large_error 4 0 0 91500 ++ small_error 4 0 93000))
    ∷ (operate (ask reason) 1, reasoned (ByLargeRun (record { first = 2; last = 7 })))
    ∷ (operate (ask reason) 2, reasoned (BySmallRun (record { first = 2; last = 10 })))
    ∷ []

-- ---- A.5's aggregates, of generating units where its units are semi-scheduled, which stand in no chain. A.5's lengths of runs are 6, 8 and the
-- one after it for small errors, 3, 5 and the one after it for large ones

-- "Cap Aggregate": 100 MW with rates 2 up and 1 down, 200 MW with 3 up and 2 down, MWB 50 and 100, MW 61.5 or 62.5, and 100.
-- "Aggregate Dispatch Target < Aggregate Actual MW", so down: 3. Small: 3% of 300 is 9, 2 × 3 is 6; 6 MW. Large: 15 and 12; 12 MW.
-- With 5 up they would be 9 and 15 MW. 161.5 - 150 is 11.5, 162.5 - 150 is 12.5
abbrev pub cap_register : List ℕ
cap_register = header 2 1 6 8 9 3 5 6 ++ (unit_record 1 2 ++ (unit_record 1 0 ++ head_record 1))

abbrev pub cap_lines : (mw : ℕ) → List ℕ
cap_lines mw =
    good_line 1 50000 100000 0 0 2000 1000 mw 0x4000_0000 0x3F80_0000
    ++ good_line 1 100000 200000 0 0 3000 2000 0x42C8_0000 0x4040_0000 0x4000_0000

abbrev pub cap_rows : List Row
cap_rows =
    (sent 3 1 (cap_lines 0x4276_0000), reported (off ++ (off ++ blank)))
    ∷ (sent 3 2 (cap_lines 0x4276_0000), reported (off ++ (off ++ point_record 1 4 1 0 11500 600000 0)))
    ∷ (sent 3 3 (cap_lines 0x427A_0000), reported (off ++ (off ++ point_record 1 5 2 1 12500 600000 0)))
    ∷ []

-- "Mixed Aggregate", "with individual and aggregated dispatch conformance": 100 MW with rates 1 up and 2 down, conformance mode 2, and a
-- bidirectional unit, 200 MW with 3 up and 2 down. MWB 50 and -20, MW 56.5 or 50, and -35.5.
-- The aggregate's target of 30 is above its MW, so up: 4. Small: 9 and 8; 8 MW. Large: 15 and 16; "The aggregate large error trigger = 15 MW".
-- 21 - 30 is -9, 14.5 - 30 is -15.5. The unit in mode 2 is past its own 6 MW by 6.5, and then on its target
abbrev pub mixed_register : List ℕ
mixed_register = header 2 1 6 8 9 3 5 6 ++ (unit_record 1 2 ++ (unit_record 3 0 ++ head_record 1))

abbrev pub mixed_lines : (mw : ℕ) → List ℕ
mixed_lines mw =
    good_line 2 50000 100000 0 0 1000 2000 mw 0x3F80_0000 0x4000_0000
    ++ good_line 1 (minus 20000) 200000 0 0 3000 2000 0xC20E_0000 0x4040_0000 0x4000_0000

abbrev pub mixed_rows : List Row
mixed_rows =
    (sent 3 1 (mixed_lines 0x4262_0000), reported (blank ++ (off ++ blank)))
    ∷ (sent 3 2 (mixed_lines 0x4262_0000), reported (point_record 1 5 1 1 6500 600000 0 ++ (off ++ point_record 1 4 1 0 (minus 9000) 800000 0)))
    ∷ (sent 3 3 (mixed_lines 0x4248_0000), reported (point_record 0 2 0 0 0 600000 0 ++ (off ++ point_record 1 5 2 1 (minus 15500) 800000 0)))
    ∷ []

-- "Target Aggregate": 200 MW with rates 2 up and 3 down, FCL 10, and a load, 200 MW with 2 up and 4 down. MWB 150 or 200, and 100.
-- "Aggregate Dispatch Target > Aggregate Actual MW", so 2 up of the one, 4 down of the load, and the greater is 4. Small: 6 and 8; 6 MW.
-- Large: 10 and 16; 10 MW: "10 + 0 + 0" over the target, "10 + 10 + 0" under it. By the load's rate up it would be 8 MW.
-- Kept 150 - 100: 131 - 100 is 19 under, 9 past FCL; 161 - 100 is 11 over. Kept 200 - 100: 179 - 100 is 21 under, 11 past FCL
abbrev pub target_register : List ℕ
target_register = header 2 1 6 8 9 3 5 6 ++ (unit_record 1 2 ++ (unit_record 2 0 ++ head_record 1))

abbrev pub target_lines : (mwb mw : ℕ) → List ℕ
target_lines mwb mw =
    good_line 1 mwb 200000 0 10000 2000 3000 mw 0x4000_0000 0x4040_0000
    ++ good_line 1 100000 200000 0 0 2000 4000 0x42C8_0000 0x4000_0000 0x4080_0000

abbrev pub target_rows : List Row
target_rows =
    (sent 3 1 (target_lines 150000 0x4303_0000), reported (off ++ (off ++ blank)))
    ∷ (sent 3 2 (target_lines 150000 0x4303_0000), reported (off ++ (off ++ point_record 1 4 1 0 (minus 9000) 600000 0)))
    ∷ (sent 3 3 (target_lines 200000 0x4321_0000), reported (off ++ (off ++ point_record 1 5 2 1 11000 600000 0)))
    ∷ (sent 3 4 (target_lines 200000 0x4333_0000), reported (off ++ (off ++ point_record 1 5 3 2 (minus 11000) 600000 0)))
    ∷ []

-- ---- what A.5 leaves open

-- A generating unit, a load, a bidirectional unit and a semi-scheduled one, each in no chain, with MWB 100, MWO 400, FCR 5 and FCL 2. Rates up are
-- 4 by SCADA and 6 as bid, so 4; down 7 and 5, so 5. At 125 MW down counts. Small: 12 and 10; 10 MW. Large: 20 and 20; 20 MW. For the load up
-- is FCL: 125 - 102 is 23, for the others FCR: 125 - 105 is 20, which is not greater. At 87 up counts. Small: 12 and 8; 8 MW. Large: 20 and 16; 16 MW.
-- For the load down is FCR: 95 - 87 is 8, which is not greater, for the others FCL: 98 - 87 is 11. On target the least of four rates counts: SCADA
-- up 4; bid down 5; bid up 3. Of the semi-scheduled unit the kept cap flag is 1 at 125 and at 87, where an error below is CLEAR, and then 0: OFF.
-- At 87 MWB is 103, which is compared with on target, where FCR and FCL are 0: 101 - 100 is 1, and for the load 100 lies between 98 and 105
abbrev pub kinds_register : List ℕ
kinds_register = header 4 0 2 3 4 2 3 4 ++ (unit_record 1 0 ++ (unit_record 2 0 ++ (unit_record 3 0 ++ unit_record 4 0)))

abbrev pub kinds_line : (cap mwb fcr fcl mw bid_up bid_down scada_up scada_down : ℕ) → List ℕ
kinds_line cap mwb fcr fcl mw bid_up bid_down scada_up scada_down = line 0 0 cap mwb 400000 fcr fcl bid_up bid_down mw scada_up scada_down

abbrev pub kinds_lines : (cap mwb mw : ℕ) → List ℕ
kinds_lines cap mwb mw =
    let of_cap : ℕ → List ℕ = λ flag. kinds_line flag mwb 5000 2000 mw 6000 5000 0x4080_0000 0x40E0_0000 in
    of_cap 0 ++ (of_cap 0 ++ (of_cap 0 ++ of_cap cap))

abbrev pub kinds_lines_on_target : List ℕ
kinds_lines_on_target =
    kinds_line 0 100000 0 0 0x42C8_0000 6000 5000 0x4080_0000 0x40E0_0000
    ++ (kinds_line 0 100000 0 0 0x42C8_0000 6000 5000 0x40E0_0000 0x40C0_0000
    ++ (kinds_line 0 100000 0 0 0x42C8_0000 3000 6000 0x4080_0000 0x40E0_0000
    ++ kinds_line 1 100000 0 0 0x42C8_0000 6000 5000 0x4080_0000 0x40E0_0000))

abbrev pub kinds_rows : List Row
kinds_rows =
    (sent 4 1 (kinds_lines 1 100000 0x42FA_0000), reported (blank ++ (blank ++ (blank ++ blank))))
    ∷ (
      sent 4 2 (kinds_lines 1 100000 0x42FA_0000),
      reported
          (point_record 1 4 1 0 20000 1000000 0
          ++ (point_record 1 5 1 1 23000 1000000 0
          ++ (point_record 1 4 1 0 20000 1000000 0
          ++ point_record 1 4 1 0 20000 1000000 0))),
    )
    ∷ (
      sent 4 3 (kinds_lines 0 103000 0x42AE_0000),
      reported
          (point_record 2 4 2 0 (minus 11000) 800000 0
          ++ (point_record 0 2 0 0 (minus 8000) 800000 0
          ++ (point_record 2 4 2 0 (minus 11000) 800000 0
          ++ point_record 0 2 0 0 (minus 11000) 800000 0))),
    )
    ∷ (
      sent 4 4 kinds_lines_on_target,
      reported
          (point_record 0 2 0 0 (minus 1000) 800000 0
          ++ (point_record 0 2 0 0 0 1000000 0
          ++ (point_record 0 2 0 0 (minus 1000) 600000 0
          ++ off))),
    )
    ∷ []

-- An aggregate whose sums differ on both sides: a generating unit with rates 1 up and 5 down, and a load with 2 up and 4 down, in conformance
-- mode 0. Kept MWB 200 - 50, FCR 4 + 2 and FCL 1 + 3, then others and no regulation; MW 190.5 - 60, then 225.5 - 60. MWO 300 against 100, then
-- 100 against 300. Under the target: 1 up against the load's 4 down. Small: 9 and 8; 8 MW. Large: 15 and 16; 15 MW. Down is 1 + 3: 130.5 is 15.5
-- under 146. Over it: 5 down against the load's 2 up. Small: 9 and 10; 9 MW. Large: 15 and 20. Up is 4 + 2: 165.5 is 9.5 over 156.
-- Its own target between the two is 200 - 50, with 4 + 2 and 1 + 3
abbrev pub sides_register : List ℕ
sides_register = header 2 1 2 3 4 2 3 4 ++ (unit_record 1 2 ++ (unit_record 2 0 ++ head_record 1))

abbrev pub sides_lines : (mwb mwo fcr fcl mw load_mwo load_fcr load_fcl : ℕ) → List ℕ
sides_lines mwb mwo fcr fcl mw load_mwo load_fcr load_fcl =
    good_line 1 mwb mwo fcr fcl 1000 5000 mw 0x3F80_0000 0x40A0_0000
    ++ good_line 0 50000 load_mwo load_fcr load_fcl 2000 4000 0x4270_0000 0x4000_0000 0x4080_0000

abbrev pub sides_rows : List Row
sides_rows =
    (sent 3 1 (sides_lines 200000 300000 4000 1000 0x433E_8000 100000 2000 3000), reported (off ++ (off ++ blank)))
    ∷ (sent 3 2 (sides_lines 200000 300000 4000 1000 0x433E_8000 100000 2000 3000), reported (off ++ (off ++ point_record 1 5 1 1 (minus 15500) 800000 0)))
    ∷ (operate (ask target) 3, targeted (record { target = pos 150000; raise = 6000; lower = 4000; complete = true }))
    ∷ (sent 3 3 (sides_lines 160000 100000 0 0 0x4361_8000 300000 0 0), reported (off ++ (off ++ point_record 2 4 2 0 9500 900000 0)))
    ∷ []

-- A generating unit, a load and a bidirectional unit in one chain, each in conformance mode 2, with MWB 10, MWO 100 and rates of 3, at -20, -15
-- and -20: -20 - 10 is -30, and -15 - 10 is -25. The sums are 10 and -20 + 15 - 20, so -35; 3% of 200 is 6. All are LARGE four times. The level
-- "becomes the greater of MW and 0" for the first two; "Bidirectional units and aggregates keep the signed value"
abbrev pub levels_register : List ℕ
levels_register = header 3 1 2 3 4 2 3 4 ++ (unit_record 1 2 ++ (unit_record 2 3 ++ (unit_record 3 0 ++ head_record 1)))

abbrev pub levels_line : (mw : ℕ) → List ℕ
levels_line mw = good_line 2 10000 100000 0 0 3000 3000 mw 0x4040_0000 0x4040_0000

abbrev pub levels_interval : ℕ → Call
levels_interval number = sent 4 number (levels_line 0xC1A0_0000 ++ (levels_line 0xC170_0000 ++ levels_line 0xC1A0_0000))

abbrev pub levels_records : (status runs bidirectional aggregate : ℕ) → Outcome
levels_records status runs bidirectional aggregate =
    reported
    (point_record status 5 runs runs (minus 30000) 600000 0
    ++ (point_record status 5 runs runs (minus 25000) 600000 0
    ++ (point_record status 5 runs runs (minus 30000) 600000 bidirectional
    ++ point_record status 5 runs runs (minus 35000) 600000 aggregate)))

abbrev pub levels_rows : List Row
levels_rows =
    (levels_interval 1, reported (blank ++ (blank ++ (blank ++ blank))))
    ∷ (levels_interval 2, levels_records 1 1 0 0)
    ∷ (levels_interval 3, levels_records 2 2 0 0)
    ∷ (levels_interval 4, levels_records 3 3 0 0)
    ∷ (levels_interval 5, levels_records 4 0 (minus 20000) (minus 25000))
    ∷ []

-- The unit of "The program", at 107 again and again: modes, refusals, a jump in numbers and operator calls. Refused are an interval that is not
-- above the last, a mask above 31, each spare byte, a line or a report that is a byte short, and with them nothing changes. "Manual mode shows 2
-- instead of 3", and declares nothing. A jump leaves the mark BLANK and the runs. At a mark in automatic mode it is declared, at its MW. A
-- substituted value past its trigger is DOUBT, a bad one BLANK, and so is an unreadable line (a cap flag of kind 1) and the line after it. A level
-- below 0 is refused
abbrev pub calls_line : List ℕ
calls_line = program_line 0x42D6_0000

abbrev pub headed : (mask first_spare second_spare third_spare : ℕ) → Call
headed mask first_spare second_spare third_spare =
    interval (words (12 ∷ []) ++ (mask ∷ first_spare ∷ second_spare ∷ third_spare ∷ calls_line)) (report_before 1)

abbrev pub manual : (number : ℕ) → Call
manual number = sent_in 0 1 number calls_line

-- LARGE at 107, with this status and both runs
abbrev pub large_at_107 : (status runs : ℕ) → List ℕ
large_at_107 status runs = point_record status 5 runs runs 7000 600000 0

abbrev pub counted_to : (status runs : ℕ) → Outcome
counted_to status runs = reported (large_at_107 status runs)

abbrev pub calls_rows : List Row
calls_rows =
    (sent 1 10 calls_line, reported blank)
    ∷ (sent 1 11 calls_line, counted_to 1 1)
    ∷ (sent 1 11 calls_line, refusal 21)
    ∷ (headed 32 0 0 0, refusal 9)
    ∷ (headed 1 1 0 0, refusal 9)
    ∷ (headed 1 0 1 0, refusal 9)
    ∷ (headed 1 0 0 1, refusal 9)
    ∷ (interval (take 47 (buffer 12 1 calls_line)) (report_before 1), refusal 8)
    ∷ (interval (buffer 12 1 calls_line) (replicate 15 255), refusal 8)
    ∷ (operate (declare (pos 5000)) 1, refusal 22)
    ∷ (manual 12, counted_to 2 2)
    ∷ (manual 13, counted_to 2 3)
    ∷ (operate (ask look) 1, look_shows 2 3 3 11 (pos 0) ByOperator)
    ∷ (manual 14, counted_to 2 4)
    ∷ (sent 1 16 calls_line, reported (point_record 3 1 4 4 0 0 0))
    ∷ (operate (ask reason) 1, refusal 36)
    ∷ (sent 1 17 calls_line, reported (point_record 4 5 0 0 7000 600000 107000))
    ∷ (operate (declare (pos 5000)) 1, refusal 22)
    ∷ (operate (ask reason) 1, reasoned (ByLargeRun (record { first = 11; last = 17 })))
    ∷ (operate reinstate 1, done)
    ∷ (operate reinstate 1, refusal 23)
    ∷ (operate (ask look) 1, look_shows 0 0 0 0 (pos 0) ByOperator)
    ∷ (sent 1 18 calls_line, counted_to 1 1)
    ∷ (sent 1 19 (line 1 0 0 100000 100000 0 0 3000 3000 0x42D6_0000 0x4040_0000 0x4040_0000), reported (point_record 1 3 1 1 7000 600000 0))
    ∷ (sent 1 20 calls_line, counted_to 2 2)
    ∷ (operate (declare (negsuc 0)) 1, refusal 11)
    ∷ (operate (declare (pos 5000)) 1, done)
    ∷ (operate (ask look) 1, look_shows 4 0 0 0 (pos 5000) ByOperator)
    ∷ (sent 1 21 (line 2 0 0 100000 100000 0 0 3000 3000 0 0 0), reported (point_record 4 1 0 0 0 0 5000))
    ∷ (sent 1 22 (line 0 0 1 100000 100000 0 0 3000 3000 0x42D6_0000 0x4040_0000 0x4040_0000), reported (point_record 4 1 0 0 0 0 5000))
    ∷ (sent 1 23 calls_line, reported (point_record 4 1 0 0 0 0 5000))
    ∷ (sent 1 24 calls_line, reported (point_record 4 5 0 0 7000 600000 5000))
    ∷ (operate (ask look) 0, refusal 10)
    ∷ (operate (ask look) 2, refusal 10)
    ∷ (operate (ask target) 1, refusal 10)
    ∷ []

-- ---- "Five regions" (02, 2026-09)

-- Five generating units in no chain, each with the line at 107 again and again, in regions 4 to 0: a mask's bits, of which bit 4 is written first,
-- stand in the order of the units. Where the bit of a unit's region is set, a third LARGE mark shows 3, and a fourth or later one declares the unit.
-- Where it is clear, the status is 2 then, whatever the other bits are, and the runs grow. Unit 4 is reinstated, and counts from 0 again
abbrev pub regions_register : List ℕ
regions_register =
    header 5 0 2 3 4 2 3 4
    ++ (unit_record_in 4 1 0 ++ (unit_record_in 3 1 0 ++ (unit_record_in 2 1 0 ++ (unit_record_in 1 1 0 ++ unit_record_in 0 1 0))))

abbrev pub regions_interval : (mask number : ℕ) → Call
regions_interval mask number = sent_in mask 5 number (calls_line ++ (calls_line ++ (calls_line ++ (calls_line ++ calls_line))))

abbrev pub regions_report : (first second third fourth fifth : List ℕ) → Outcome
regions_report first second third fourth fifth = reported (first ++ (second ++ (third ++ (fourth ++ fifth))))

abbrev pub declared_at_107 : List ℕ
declared_at_107 = point_record 4 5 0 0 7000 600000 107000

abbrev pub regions_rows : List Row
regions_rows =
    (regions_interval 0b11111 1, regions_report blank blank blank blank blank)
    ∷ (regions_interval 0b00000 2, regions_report (large_at_107 1 1) (large_at_107 1 1) (large_at_107 1 1) (large_at_107 1 1) (large_at_107 1 1))
    ∷ (regions_interval 0b11111 3, regions_report (large_at_107 2 2) (large_at_107 2 2) (large_at_107 2 2) (large_at_107 2 2) (large_at_107 2 2))
    ∷ (regions_interval 0b01101 4, regions_report (large_at_107 2 3) (large_at_107 3 3) (large_at_107 3 3) (large_at_107 2 3) (large_at_107 3 3))
    ∷ (regions_interval 0b01010 5, regions_report (large_at_107 2 4) declared_at_107 (large_at_107 2 4) declared_at_107 (large_at_107 2 4))
    ∷ (operate (ask reason) 1, refusal 36)
    ∷ (operate (ask reason) 2, reasoned (ByLargeRun (record { first = 2; last = 5 })))
    ∷ (operate (ask look) 3, look_shows 2 4 4 2 (pos 0) ByOperator)
    ∷ (operate reinstate 4, done)
    ∷ (regions_interval 0b10001 6, regions_report declared_at_107 declared_at_107 (large_at_107 2 5) (large_at_107 1 1) declared_at_107)
    ∷ (operate (ask reason) 1, reasoned (ByLargeRun (record { first = 2; last = 6 })))
    ∷ (regions_interval 0b11011 7, regions_report declared_at_107 declared_at_107 (large_at_107 2 6) (large_at_107 2 2) declared_at_107)
    ∷ (regions_interval 0b00100 8, regions_report declared_at_107 declared_at_107 declared_at_107 (large_at_107 2 3) declared_at_107)
    ∷ (operate (ask reason) 3, reasoned (ByLargeRun (record { first = 2; last = 8 })))
    ∷ (operate (ask look) 4, look_shows 2 3 3 6 (pos 0) ByOperator)
    ∷ []

-- Such a unit in region 0, and two in a chain in region 4, in conformance mode 2, with unit 3 its head. "All members of a chain share a region", which
-- is the aggregate's. Of the aggregate 214 - 200 is 14. Small: 6 and 12; 6 MW. Large: 10 and 24; 10 MW. Bit 4 decides for the members and for the
-- aggregate, and bit 0 for the first unit
abbrev pub shared_region_register : List ℕ
shared_region_register =
    header 3 1 2 3 4 2 3 4 ++ (unit_record_in 0 1 0 ++ (unit_record_in 4 1 0 ++ (unit_record_in 4 1 2 ++ head_record 3)))

abbrev pub shared_region_interval : (mask number : ℕ) → Call
shared_region_interval mask number =
    let member_line : List ℕ = good_line 2 100000 100000 0 0 3000 3000 0x42D6_0000 0x4040_0000 0x4040_0000 in
    sent_in mask 4 number (calls_line ++ (member_line ++ member_line))

abbrev pub shared_region_report : (unit member aggregate : List ℕ) → Outcome
shared_region_report unit member aggregate = reported (unit ++ (member ++ (member ++ aggregate)))

abbrev pub large_at_214 : (status runs level : ℕ) → List ℕ
large_at_214 status runs level = point_record status 5 runs runs 14000 600000 level

abbrev pub shared_region_rows : List Row
shared_region_rows =
    (shared_region_interval 0b10000 1, shared_region_report blank blank blank)
    ∷ (shared_region_interval 0b00001 2, shared_region_report (large_at_107 1 1) (large_at_107 1 1) (large_at_214 1 1 0))
    ∷ (shared_region_interval 0b10001 3, shared_region_report (large_at_107 2 2) (large_at_107 2 2) (large_at_214 2 2 0))
    ∷ (shared_region_interval 0b10000 4, shared_region_report (large_at_107 2 3) (large_at_107 3 3) (large_at_214 3 3 0))
    ∷ (shared_region_interval 0b01111 5, shared_region_report declared_at_107 (large_at_107 2 4) (large_at_214 2 4 0))
    ∷ (shared_region_interval 0b10000 6, shared_region_report declared_at_107 declared_at_107 (large_at_214 4 0 214000))
    ∷ (operate (ask reason) 1, reasoned (ByLargeRun (record { first = 2; last = 5 })))
    ∷ (operate (ask reason) 4, reasoned (ByLargeRun (record { first = 2; last = 6 })))
    ∷ []

pub record Examples : Type 0 where
  pub program : Gives program_register 0 program_rows
  pub individual_units : Gives individual_register 0 individual_rows
  pub cap_aggregate : Gives cap_register 2 cap_rows
  pub mixed_aggregate : Gives mixed_register 2 mixed_rows
  pub target_aggregate : Gives target_register 2 target_rows
  pub sides_of_units : Gives kinds_register 0 kinds_rows
  pub sides_of_aggregate : Gives sides_register 2 sides_rows
  pub levels : Gives levels_register 3 levels_rows
  pub calls_and_refusals : Gives program_register 0 calls_rows
  pub five_regions : Gives regions_register 0 regions_rows
  pub region_of_aggregate : Gives shared_region_register 2 shared_region_rows
