-- A call on a ledger, of a list in a file (`crates/frames/specs/Frames.antt`), by its tag:
--   1 day         u32 year, month and day, then the bytes of `day.bin`: the earlier target's 4 bytes and the records
--   2 reinstate   none
use Rattle.std.specs.Prelude.{Bool, cond, ◌&&◌, List, ℕ, leb, eqb, length, drop, Option, Some, None}
use Rattle.wire.specs.Fields.{word_at}
use Rattle.frames.specs.Frames.{is_frame}
use Rattle.calendar.specs.declared.Date.{Date}
use Rattle.ledger_script.specs.declared.reading.Call.{Call}
use Rattle.ledger_script.specs.declared.reading.Call.TheVariants.{Day, Reinstate}

-- a day by its date and the bytes of its file, a reinstatement, or bytes that are neither
pub data Item : Type 0 where
  unreadable : Item
  days : Date → (file : List ℕ) → Item
  reinstates : Item

abbrev pub when : Bool → Item → Item
when holds item = cond holds item unreadable

abbrev pub date_of : List ℕ → Date
date_of payload = record { year = word_at payload 0; month = word_at payload 4; day = word_at payload 8 }

unfoldable pub day_item : List ℕ → Item
day_item payload = when (leb 12 (length payload)) (days (date_of payload) (drop 12 payload))

unfoldable pub payload_item : ℕ → List ℕ → Item
payload_item tag payload = cond (eqb tag 1) (day_item payload) (when (eqb tag 2 && eqb (length payload) 0) reinstates)

unfoldable pub item_of : List ℕ → Item
item_of bytes = when (is_frame bytes) (payload_item (word_at bytes 0) (drop 8 bytes))

-- what the code makes of a call's bytes
abbrev pub item_by : Call → Item
item_by (Day date file) = days date file.now
item_by Reinstate = reinstates

abbrev pub item_read : Option Call → Item
item_read (Some call) = item_by call
item_read None = unreadable
