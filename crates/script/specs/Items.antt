-- A call of a list in a file (`crates/frames/specs/Frames.antt`), by its tag:
--   1 load        the register's bytes
--   2 interval    u32 length of the report buffer, then the interval buffer
--   3 declare     u32 point, i32 level
--   4 reinstate   u32 point
--   5 look        u32 point
--   6 reason      u32 point
--   7 target      u32 point
use Rattle.std.specs.Prelude.{Bool, cond, ◌&&◌, List, ℕ, leb, eqb, length, drop, replicate, Option, Some, None}
use Rattle.wire.specs.Fields.{word_at, whole_at}
use Rattle.frames.specs.Frames.{is_frame}
use Rattle.operators.specs.Operators.{declare, reinstate, ask, look, reason, target}
use Rattle.monitor.specs.Calls.{Call, interval, operate}
use Rattle.script.specs.declared.reading.Call.{Call as Read}
use Rattle.script.specs.declared.reading.Call.TheVariants.{Load, Interval, Declare, Reinstate, Look, Reason, Target}

-- a load, a call of demand 3's lists, or bytes that are neither
pub data Item : Type 0 where
  unreadable : Item
  loads : (register : List ℕ) → Item
  calls : Call → Item

-- the longest report buffer
abbrev pub longest_report : ℕ
longest_report = 4096

abbrev pub when : Bool → Item → Item
when holds item = cond holds item unreadable

-- the report buffer starts as zeros
unfoldable pub interval_item : List ℕ → Item
interval_item payload =
    when (leb 4 (length payload) && leb (word_at payload 0) longest_report)
    (calls (interval (drop 4 payload) (replicate (word_at payload 0) 0)))

unfoldable pub declare_item : List ℕ → Item
declare_item payload = when (eqb (length payload) 8) (calls (operate (declare (whole_at payload 4)) (word_at payload 0)))

-- the calls that take a point alone
unfoldable pub point_item : ℕ → ℕ → Item
point_item tag point =
    cond (eqb tag 4) (calls (operate reinstate point))
    (cond (eqb tag 5) (calls (operate (ask look) point))
    (cond (eqb tag 6) (calls (operate (ask reason) point)) (when (eqb tag 7) (calls (operate (ask target) point)))))

unfoldable pub operator_item : ℕ → List ℕ → Item
operator_item tag payload =
    cond (eqb tag 3) (declare_item payload) (when (eqb (length payload) 4) (point_item tag (word_at payload 0)))

unfoldable pub payload_item : ℕ → List ℕ → Item
payload_item tag payload = cond (eqb tag 1) (loads payload) (cond (eqb tag 2) (interval_item payload) (operator_item tag payload))

unfoldable pub item_of : List ℕ → Item
item_of bytes = when (is_frame bytes) (payload_item (word_at bytes 0) (drop 8 bytes))

-- what the code makes of a call's bytes: the report buffer of an interval is told by its length
abbrev pub item_by : Read → Item
item_by (Load register) = loads register.now
item_by (Interval room buffer) = calls (interval buffer.now (replicate room.bytes 0))
item_by (Declare point level) = calls (operate (declare level) point)
item_by (Reinstate point) = calls (operate reinstate point)
item_by (Look point) = calls (operate (ask look) point)
item_by (Reason point) = calls (operate (ask reason) point)
item_by (Target point) = calls (operate (ask target) point)

abbrev pub item_read : Option Read → Item
item_read (Some call) = item_by call
item_read None = unreadable
