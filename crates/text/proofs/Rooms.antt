-- How long a text can be, and what a test of the room gives. Assumes nothing.
use mathlib.Core.Path.{◌≡◌}
use mathlib.Core.Bool.{true}
use mathlib.Core.List.{List}
use Prim.Native.Nat.{ℕ, suc, ◌+◌, ◌*◌, ◌/◌, ◌^◌, ◌≤◌, ◌<◌}
use native.Mathlib.Omega.{arith}
use borrow.Author.Tests.{leb-true, le-leb}
use lib.IntN.{ℤ, pos, negsuc}
use lib.Signed.{mag}
use lib.ListN.{length, get_or, take, drop, length-append, length-drop}
use lib.Seq.{get_or-take, get_or-drop, length-take-le}
use mir.Syntax.{w32}
use mir.Val.{SFits}
use mir.ValLaws.{to_z-Fits}
use Rattle.trace.proofs.Sweeps.{records-at-most}
use Rattle.wire.specs.Fields.{word_at, whole_at}
use Rattle.wire.proofs.Laws.{four}
use Rattle.text.specs.Numbers.{decimal_of, whole_of}
use Rattle.text.specs.Lines.{line_of, line_at, lines_of}
use Rattle.text.specs.Puts.{Room, Put, PutWithin, has_room, longest_line, longest_lines}
use Rattle.text.proofs.Numbers.{length-decimal}

-- ---- what a test of the room gives

module _ {room : ℕ} {out : List ℕ} {at : ℕ} {text : List ℕ} where
  pub room_by : has_room room out at ≡ true → length text ≤ room → Room out at text
  room_by e l = let h : at + room ≤ length out = leb-true (at + room) (length out) e in record { fits = omega arith }

  -- a caller that knows that there is room
  pub put-within : {next : ℕ} {after : List ℕ} → at + room ≤ length out → PutWithin room out at text next after → Put out at text next after
  put-within h put =
      let e : has_room room out at ≡ true = le-leb (at + room) (length out) h in
      record { place = rw e at put.place; bytes = rw e at put.bytes }

-- ---- numbers

pub number-longest : (n : ℕ) → n < 2 ^ 64 → length (decimal_of n) ≤ 20
number-longest n h = length-decimal 19 n (omega arith)

pub byte-longest : (n : ℕ) → n < 256 → length (decimal_of n) ≤ 3
byte-longest n h = length-decimal 2 n (omega arith)

pub word-longest : (n : ℕ) → n < 2 ^ 32 → length (decimal_of n) ≤ 10
word-longest n h = length-decimal 9 n (omega arith)

pub whole-longest : (z : ℤ) → mag z < 2 ^ 31 → length (whole_of z) ≤ 11
unfolding whole_of
whole-longest (pos n) h = omega (arith, length-decimal 9 n (omega arith))
whole-longest (negsuc n) h = omega (arith, length-decimal 9 (suc n) (omega arith))

-- the size of an i64 is at most 2 ^ 63
pub long-longest : (z : ℤ) → mag z < 2 ^ 63 → length (whole_of z) ≤ 20
unfolding whole_of
long-longest (pos n) h = omega (arith, length-decimal 18 n (omega arith))
long-longest (negsuc n) h = omega (arith, length-decimal 18 (suc n) (omega arith))

-- ---- lines

module _ (r : List ℕ) (long : 16 ≤ length r) (byte : (i : ℕ) → i < 16 → get_or r i 0 < 256) where
  word_small : (at : ℕ) → at + 4 ≤ 16 → word_at r at < 2 ^ 32
  word_small at h =
      omega (
        arith,
        four r at (omega arith),
        byte at (omega arith),
        byte (at + 1) (omega arith),
        byte (at + 2) (omega arith),
        byte (at + 3) (omega arith),
      )

  whole-fits : (at : ℕ) → at + 4 ≤ 16 → SFits w32 (whole_at r at)
  whole-fits at h = to_z-Fits w32 (word_at r at) (record { fits = word_small at h })

  pub line-longest : (interval point : ℕ) → interval < 2 ^ 32 → point < 2 ^ 64 → length (line_of interval point r) ≤ longest_line
  unfolding line_of
  line-longest interval point a b =
      simp length-append
      (omega (
        arith,
        word-longest interval a,
        number-longest point b,
        byte-longest (get_or r 0 0) (byte 0 (omega arith)),
        byte-longest (get_or r 1 0) (byte 1 (omega arith)),
        byte-longest (get_or r 2 0) (byte 2 (omega arith)),
        byte-longest (get_or r 3 0) (byte 3 (omega arith)),
        whole-longest (whole_at r 4) (whole-fits 4 (omega arith)).sfits,
        word-longest (word_at r 8) (word_small 8 (omega arith)),
        whole-longest (whole_at r 12) (whole-fits 12 (omega arith)).sfits,
      ))

pub lines-longest : (interval : ℕ) (report : List ℕ) → interval < 2 ^ 32 → length report < 2 ^ 64 → ((i : ℕ) → get_or report i 0 < 256)
    → length (lines_of interval report) ≤ longest_lines report
unfolding lines_of
lines-longest interval report a b byte = records-at-most (line_at interval report) longest_line (length report / 16) λ i h.
    let r = take 16 (drop (16 * i) report) in
    let long : length r ≡ 16 = length-take-le 16 (drop (16 * i) report) (rw length-drop (omega arith)) in
    line-longest r (omega arith) (λ j l. rw (get_or-take 16 (drop (16 * i) report) j 0 l, get_or-drop) (byte (16 * i + j))) interval (suc i) a (omega arith)
