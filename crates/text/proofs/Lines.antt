-- The pieces that the code puts make up a point's line, and the lines make up a report. Assumes nothing.
use mathlib.Core.Path.{◌≡◌, refl, sym, ap, ◌∙◌}
use mathlib.Core.List.{List, [], ◌∷◌, ◌++◌}
use Prim.Native.Nat.{ℕ, zero, suc, ◌+◌, ◌*◌, ◌/◌, ◌≤◌, ◌<◌}
use native.Mathlib.Numerals.{add-one}
use native.Mathlib.Omega.{arith}
use lib.IntN.{ℤ}
use denote.Bor.{Bor}
use Rattle.wire.specs.Fields.{word_at, whole_at}
use lib.ListN.{length, get_or, take, drop}
use lib.Seq.{drop-drop}
use Rattle.std.specs.Simd.{first_chunks}
use Rattle.trace.specs.Sweeps.{records}
use Rattle.trace.proofs.Sweeps.{records-rise}
use Rattle.text.specs.Lines.{line, joined, line_of, line_at, lines_of, numbered_of, spanned_of, standing_of, target_line_of, day_values_of}
use Rattle.text.specs.Fields.{texts, longest_fields, longest_line_of}
use Rattle.text.specs.declared.field.Field.TheVariants.{Words, U8, U32, U64, I32, I64}
use Rattle.text.specs.Puts.{longest_numbered, longest_spanned, longest_standing, longest_target, longest_day}
use Rattle.text.specs.Writers.{RoomFor, Writes}
use Rattle.text.specs.declared.writer.Writer.{Writer}
use Rattle.text.proofs.Writers.{nothing, room-left, then}

-- a point's line, as the code puts it, from its record
pub line-pieces : (interval point : ℕ) (r : List ℕ)
    → line_of interval point r
    ≡ line (texts (
    U32 interval
    ∷ U64 point
    ∷ U8 (get_or r 0 0)
    ∷ U8 (get_or r 1 0)
    ∷ U8 (get_or r 2 0)
    ∷ U8 (get_or r 3 0)
    ∷ I32 (whole_at r 4)
    ∷ U32 (word_at r 8)
    ∷ I32 (whole_at r 12)
    ∷ []
    ))
unfolding line_of
line-pieces interval point r = refl

-- the named lines of words, and the values of a day: the fields that `put_line` and `put_fields` are given for each, and the room it takes
module _ (words : Bor (List ℕ)) where
  pub numbered-pieces : (n : ℕ)
      → let fields = Words words ∷ U64 n ∷ [] in
      (numbered_of words.now n ≡ line (texts fields)) × (longest_numbered words.now ≡ longest_line_of fields)
  numbered-pieces n = (refl, omega arith)

  pub spanned-pieces : (first last : ℕ)
      → let fields = Words words ∷ U32 first ∷ U32 last ∷ [] in
      (spanned_of words.now first last ≡ line (texts fields)) × (longest_spanned words.now ≡ longest_line_of fields)
  spanned-pieces first last = (refl, omega arith)

  pub standing-pieces : (status small large : ℕ) (level : ℤ)
      → let fields = Words words ∷ U8 status ∷ U8 small ∷ U8 large ∷ I32 level ∷ [] in
      (standing_of words.now status small large level ≡ line (texts fields)) × (longest_standing words.now ≡ longest_line_of fields)
  standing-pieces status small large level = (refl, omega arith)

  pub target-pieces : (target : ℤ) (raise lower kept : ℕ)
      → let fields = Words words ∷ I32 target ∷ U32 raise ∷ U32 lower ∷ U8 kept ∷ [] in
      (target_line_of words.now target raise lower kept ≡ line (texts fields)) × (longest_target words.now ≡ longest_line_of fields)
  target-pieces target raise lower kept = (refl, omega arith)

pub day-pieces : (response : ℤ) (target : ℕ) (flag : Bor (List ℕ)) (under over : ℕ)
    → let fields = I64 response ∷ U32 target ∷ Words flag ∷ U32 under ∷ U32 over ∷ [] in
    (day_values_of response target flag.now under over ≡ joined (texts fields)) × (longest_day flag.now ≡ longest_fields fields)
day-pieces response target flag under over = (refl, omega arith)

-- ---- the lines of a report: the first i are put

pub record Lined (interval : ℕ) (report : List ℕ) (w : Writer) (i : ℕ) (v : Writer) : Type 0 where
  pub within : i ≤ length report / 16
  pub put : Writes w (records (line_at interval report) i) v

-- the first of the records that are left, as the code lends it
pub first-left : (k : ℕ) (report : List ℕ) (i : ℕ) {r : List ℕ} {rest : List (List ℕ)} → drop i (first_chunks 16 k report) ≡ r ∷ rest
    → (i < k) × (r ≡ take 16 (drop (16 * i) report)) × (rest ≡ drop (i + 1) (first_chunks 16 k report))
first-left zero report zero e = absurd cc
first-left zero report (suc i) e = absurd cc
first-left (suc k) report zero e = (omega arith, cc, cc)
first-left (suc k) report (suc i) e =
    let rest = first-left k (drop 16 report) i e in
    let all : 16 + 16 * i ≡ 16 * suc i = omega arith in
    let here = drop-drop (16 * i) 16 report ∙ ap (λ (m : ℕ). drop m report) all in
    (omega (arith, rest.0), rest.1 ∙ ap (λ (l : List ℕ). take 16 l) here, rw (add-one (suc i)) (rw (add-one i) at rest.2))

pub none-left : (k : ℕ) (report : List ℕ) (i : ℕ) → length (drop i (first_chunks 16 k report)) ≡ 0 → k ≤ i
none-left zero report i e = omega arith
none-left (suc k) report zero e = absurd (omega arith)
none-left (suc k) report (suc i) e = omega (arith, none-left k (drop 16 report) i e)

module _ (interval : ℕ) (report : List ℕ) (w : Writer) where
  pub lined-none : Lined interval report w 0 w
  unfolding records
  lined-none = record { within = omega arith; put = nothing w }

  module _ (i : ℕ) (v : Writer) (room : RoomFor w (lines_of interval report)) (so : Lined interval report w i v) where
    module _ (h : i < length report / 16) where
      room-more : RoomFor w (records (line_at interval report) i ++ line_at interval report i)
      unfolding records lines_of
      room-more =
          let f = line_at interval report in
          let shorter = records-rise f (suc i) (length report / 16) h in
          record { fits = omega (arith, shorter, room.fits) }

      pub lined-room : RoomFor v (line_of interval (i + 1) (take 16 (drop (16 * i) report)))
      lined-room = rw (add-one i) (room-left so.put (line_at interval report i) room-more)

      pub lined-more : (u : Writer) → Writes v (line_of interval (i + 1) (take 16 (drop (16 * i) report))) u → Lined interval report w (i + 1) u
      unfolding records
      lined-more u put =
          record {
            within = omega arith;
            put = rw (add-one i) (then so.put room-more (rw (add-one i) at put));
          }

    pub lined-all : length report / 16 ≤ i → Writes w (lines_of interval report) v
    unfolding lines_of
    lined-all h =
        let e : i ≡ length report / 16 = omega (arith, so.within) in
        rw (sym e) so.put
