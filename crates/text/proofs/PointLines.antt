-- A point's line, put field by field: the room that is left behind each field, and the whole. Assumes nothing.
use mathlib.Core.List.{List, [], ◌∷◌}
use Prim.Native.Nat.{ℕ}
use Rattle.wire.specs.Fields.{word_at, whole_at}
use lib.ListN.{get_or}
use Rattle.text.specs.Numbers.{decimal_of, whole_of}
use Rattle.text.specs.Lines.{rest, amounts_of, line_of}
use Rattle.text.specs.Writers.{RoomFor, Writes}
use Rattle.text.specs.declared.writer.Writer.{Writer}
use Rattle.text.proofs.Puts.{room-first}
use Rattle.text.proofs.Writers.{room-left, then}

-- a field behind a space, and the others behind it
module _ (w : Writer) (field : List ℕ) (fields : List (List ℕ)) (room : RoomFor w (rest (field ∷ fields))) where
  pub next-fits : RoomFor w (32 ∷ field)
  next-fits = room-first (32 ∷ field) (rest fields) room

  module _ {v : Writer} (put : Writes w (32 ∷ field) v) where
    pub others-fit : RoomFor v (rest fields)
    others-fit = room-left put (rest fields) room

    pub then-others : {u : Writer} → Writes v (rest fields) u → Writes w (rest (field ∷ fields)) u
    then-others others = then put room others

-- ---- error, trigger and level

abbrev last-amount : List ℕ → List (List ℕ)
last-amount r = whole_of (whole_at r 12) ∷ []

abbrev last-amounts : List ℕ → List (List ℕ)
last-amounts r = decimal_of (word_at r 8) ∷ last-amount r

module _ (r : List ℕ) (w : Writer) (room : RoomFor w (rest (amounts_of r))) where
  pub error-fits : RoomFor w (32 ∷ whole_of (whole_at r 4))
  error-fits = next-fits w (whole_of (whole_at r 4)) (last-amounts r) room

  module _ {w₁ : Writer} (error : Writes w (32 ∷ whole_of (whole_at r 4)) w₁) where
    left₁ : RoomFor w₁ (rest (last-amounts r))
    left₁ = others-fit w (whole_of (whole_at r 4)) (last-amounts r) room error

    pub trigger-fits : RoomFor w₁ (32 ∷ decimal_of (word_at r 8))
    trigger-fits = next-fits w₁ (decimal_of (word_at r 8)) (last-amount r) left₁

    module _ {w₂ : Writer} (trigger : Writes w₁ (32 ∷ decimal_of (word_at r 8)) w₂) where
      left₂ : RoomFor w₂ (rest (last-amount r))
      left₂ = others-fit w₁ (decimal_of (word_at r 8)) (last-amount r) left₁ trigger

      pub level-fits : RoomFor w₂ (32 ∷ whole_of (whole_at r 12))
      level-fits = next-fits w₂ (whole_of (whole_at r 12)) [] left₂

      module _ {w₃ : Writer} (level : Writes w₂ (32 ∷ whole_of (whole_at r 12)) w₃) where
        pub end-fits : RoomFor w₃ (10 ∷ [])
        end-fits = others-fit w₂ (whole_of (whole_at r 12)) [] left₂ level

        pub amounts-put : {u : Writer} → Writes w₃ (10 ∷ []) u → Writes w (rest (amounts_of r)) u
        amounts-put end =
            let from-level = then-others w₂ (whole_of (whole_at r 12)) [] left₂ level end in
            let from-trigger = then-others w₁ (decimal_of (word_at r 8)) (last-amount r) left₁ trigger from-level in
            then-others w (whole_of (whole_at r 4)) (last-amounts r) room error from-trigger

-- ---- the line

-- status, mark, small run and large run, a byte each
abbrev byte : List ℕ → ℕ → List ℕ
byte r i = decimal_of (get_or r i 0)

abbrev from-large : List ℕ → List (List ℕ)
from-large r = byte r 3 ∷ amounts_of r

abbrev from-small : List ℕ → List (List ℕ)
from-small r = byte r 2 ∷ from-large r

abbrev from-mark : List ℕ → List (List ℕ)
from-mark r = byte r 1 ∷ from-small r

abbrev from-status : List ℕ → List (List ℕ)
from-status r = byte r 0 ∷ from-mark r

module _ (interval point : ℕ) (r : List ℕ) (w : Writer) (room : RoomFor w (line_of interval point r)) where
  pub interval-fits : RoomFor w (decimal_of interval)
  unfolding line_of
  interval-fits = room-first (decimal_of interval) (rest (decimal_of point ∷ from-status r)) room

  module _ {w₁ : Writer} (number : Writes w (decimal_of interval) w₁) where
    left-point : RoomFor w₁ (rest (decimal_of point ∷ from-status r))
    unfolding line_of
    left-point = room-left number (rest (decimal_of point ∷ from-status r)) room

    pub point-fits : RoomFor w₁ (32 ∷ decimal_of point)
    point-fits = next-fits w₁ (decimal_of point) (from-status r) left-point

    module _ {w₂ : Writer} (named : Writes w₁ (32 ∷ decimal_of point) w₂) where
      left-status : RoomFor w₂ (rest (from-status r))
      left-status = others-fit w₁ (decimal_of point) (from-status r) left-point named

      pub status-fits : RoomFor w₂ (32 ∷ byte r 0)
      status-fits = next-fits w₂ (byte r 0) (from-mark r) left-status

      module _ {w₃ : Writer} (status : Writes w₂ (32 ∷ byte r 0) w₃) where
        left-mark : RoomFor w₃ (rest (from-mark r))
        left-mark = others-fit w₂ (byte r 0) (from-mark r) left-status status

        pub mark-fits : RoomFor w₃ (32 ∷ byte r 1)
        mark-fits = next-fits w₃ (byte r 1) (from-small r) left-mark

        module _ {w₄ : Writer} (mark : Writes w₃ (32 ∷ byte r 1) w₄) where
          left-small : RoomFor w₄ (rest (from-small r))
          left-small = others-fit w₃ (byte r 1) (from-small r) left-mark mark

          pub small-fits : RoomFor w₄ (32 ∷ byte r 2)
          small-fits = next-fits w₄ (byte r 2) (from-large r) left-small

          module _ {w₅ : Writer} (small : Writes w₄ (32 ∷ byte r 2) w₅) where
            left-large : RoomFor w₅ (rest (from-large r))
            left-large = others-fit w₄ (byte r 2) (from-large r) left-small small

            pub large-fits : RoomFor w₅ (32 ∷ byte r 3)
            large-fits = next-fits w₅ (byte r 3) (amounts_of r) left-large

            module _ {w₆ : Writer} (large : Writes w₅ (32 ∷ byte r 3) w₆) where
              pub amounts-fit : RoomFor w₆ (rest (amounts_of r))
              amounts-fit = others-fit w₅ (byte r 3) (amounts_of r) left-large large

              pub line-put : {u : Writer} → Writes w₆ (rest (amounts_of r)) u → Writes w (line_of interval point r) u
              unfolding line_of
              line-put amounts =
                  let large-on = then-others w₅ (byte r 3) (amounts_of r) left-large large amounts in
                  let small-on = then-others w₄ (byte r 2) (from-large r) left-small small large-on in
                  let mark-on = then-others w₃ (byte r 1) (from-small r) left-mark mark small-on in
                  let status-on = then-others w₂ (byte r 0) (from-mark r) left-status status mark-on in
                  let point-on = then-others w₁ (decimal_of point) (from-status r) left-point named status-on in
                  then number room point-on
