-- The fields of a line, one at a time: what they put and the most that they take. Assumes nothing.
use mathlib.Core.Path.{◌≡◌, refl, sym, ap}
use mathlib.Core.List.{List, [], ◌∷◌, ◌++◌, append_assoc, append-nil}
use Prim.Native.Nat.{ℕ, zero, suc, ◌+◌, ◌-◌, ◌≤◌, ◌<◌, min}
use native.Mathlib.Numerals.{add-one}
use native.Mathlib.Omega.{arith}
use lib.ListN.{length, get_or, take, drop, length-append}
use Rattle.std.proofs.lemmas.List.{take_all}
use Rattle.text.specs.Lines.{behind, joined, line}
use Rattle.text.specs.Puts.{Room, most}
use Rattle.text.specs.Fields.{field_text, texts, longest_field, longest_behind, longest_fields, longest_line_of}
use Rattle.text.specs.declared.field.Field.{Field}
use Rattle.text.specs.Writers.{RoomFor, Writes}
use Rattle.text.specs.declared.writer.Writer.{Writer}
use Rattle.text.proofs.Puts.{room-first}
use Rattle.text.proofs.Writers.{room-left, then}

-- a line is its fields and its end
pub line-joined : (texts : List (List ℕ)) → line texts ≡ joined texts ++ (10 ∷ [])
line-joined [] = refl
line-joined (text ∷ texts) = rw append_assoc (ap (λ (l : List ℕ). text ++ l) (go texts))
  where
    go : (texts : List (List ℕ)) → Rattle.text.specs.Lines.rest texts ≡ behind texts ++ (10 ∷ [])
    go [] = refl
    go (text ∷ texts) = rw append_assoc (ap (λ (l : List ℕ). 32 ∷ (text ++ l)) (go texts))

-- one field more
pub behind-more : (fs : List Field) (i : ℕ) (d : Field) → i < length fs
    → behind (texts (take (suc i) fs)) ≡ behind (texts (take i fs)) ++ (32 ∷ field_text (get_or fs i d))
behind-more [] i d h = absurd (omega arith)
behind-more (f ∷ fs) zero d h = rw append-nil refl
behind-more (f ∷ fs) (suc i) d h = rw append_assoc (ap (λ (l : List ℕ). 32 ∷ (field_text f ++ l)) (behind-more fs i d (omega arith)))

longest-more : (fs : List Field) (i : ℕ) (d : Field) → i < length fs
    → longest_behind (take (suc i) fs) ≡ longest_behind (take i fs) + suc (longest_field (get_or fs i d))
longest-more [] i d h = absurd (omega arith)
longest-more (f ∷ fs) zero d h = omega arith
longest-more (f ∷ fs) (suc i) d h = omega (arith, longest-more fs i d (omega arith))

-- the first fields, and the others
behind-apart : (fs : List Field) (i : ℕ) → behind (texts fs) ≡ behind (texts (take i fs)) ++ behind (texts (drop i fs))
behind-apart [] zero = refl
behind-apart [] (suc i) = refl
behind-apart (f ∷ fs) zero = refl
behind-apart (f ∷ fs) (suc i) = rw append_assoc (ap (λ (l : List ℕ). 32 ∷ (field_text f ++ l)) (behind-apart fs i))

-- the others, as the code lends them
abbrev pub others : List Field → List Field
others fs = take (length fs - 1) (drop 1 fs)

pub first-and-others : (fs : List Field) (d : Field) → 1 ≤ length fs → fs ≡ get_or fs 0 d ∷ others fs
first-and-others [] d h = absurd (omega arith)
first-and-others (f ∷ fs) d h =
    let all : length fs ≡ suc (length fs) - 1 = omega arith in
    rw (sym all, take_all (length fs) fs (omega arith))

pub none : (fs : List Field) → length fs < 1 → fs ≡ []
none [] h = refl
none (f ∷ fs) h = absurd (omega arith)

-- ---- put one at a time

module _ (fs : List Field) (d : Field) (h : 1 ≤ length fs) where
  pub first-room : {out : List ℕ} {at : ℕ} → Room out at (joined (texts fs)) → Room out at (field_text (get_or fs 0 d))
  first-room room = room-first _ _ (rw (first-and-others fs d h) at room)

  module _ {w v : Writer} (room : RoomFor w (joined (texts fs))) (put : Writes w (field_text (get_or fs 0 d)) v) where
    pub others-room : RoomFor v (behind (texts (others fs)))
    others-room = room-left put _ (rw (first-and-others fs d h) at room)

    pub others-put : {u : Writer} → Writes v (behind (texts (others fs))) u → Writes w (joined (texts fs)) u
    others-put rest = rw (first-and-others fs d h) (then put (rw (first-and-others fs d h) at room) rest)

module _ {w v : Writer} (fs : List Field) (i : ℕ) (d : Field) (h : i < length fs) (room : RoomFor w (behind (texts fs)))
    (so : Writes w (behind (texts (take i fs))) v) where
  room-more : RoomFor w (behind (texts (take i fs)) ++ (32 ∷ field_text (get_or fs i d)))
  room-more =
      let more = behind-more fs i d h in
      let first = room-first (behind (texts (take (suc i) fs))) _ (rw (behind-apart fs (suc i)) at room) in
      rw more at first

  pub next-room : RoomFor v (32 ∷ field_text (get_or fs i d))
  next-room = room-left so _ room-more

  pub next-put : {u : Writer} → Writes v (32 ∷ field_text (get_or fs i d)) u → Writes w (behind (texts (take (i + 1) fs))) u
  next-put put = rw (add-one i, behind-more fs i d h) (then so room-more put)

pub all-put : {w v : Writer} (fs : List Field) (i : ℕ) → length fs ≤ i → Writes w (behind (texts (take i fs))) v → Writes w (behind (texts fs)) v
all-put fs i h put = rw (take_all i fs h) at put

-- ---- counted one at a time

pub longest-next : (fs : List Field) (i : ℕ) (d : Field) (longest sum first : ℕ) → i < length fs
    → longest ≡ longest_field (get_or fs i d) → length (field_text (get_or fs i d)) ≤ longest
    → sum ≡ min most (first + longest_behind (take i fs)) → length (behind (texts (take i fs))) ≤ longest_behind (take i fs)
    → (min (min (sum + 1) most + longest) most ≡ min most (first + longest_behind (take (i + 1) fs)))
    × (length (behind (texts (take (i + 1) fs))) ≤ longest_behind (take (i + 1) fs))
longest-next fs i d longest sum first h e l s w =
    rw (add-one i, behind-more fs i d h, longest-more fs i d h)
    (omega arith, omega (arith, length-append (behind (texts (take i fs))) (32 ∷ field_text (get_or fs i d))))

pub line_within : (fs : List Field) → length (joined (texts fs)) ≤ longest_fields fs → length (line (texts fs)) ≤ longest_line_of fs
line_within fs h = rw line-joined (omega (arith, length-append (joined (texts fs)) (10 ∷ [])))
