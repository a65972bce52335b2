-- The answer by its refusal, and its number in 02. Assumes nothing.
use mathlib.Core.Path.{◌≡◌, refl, sym, ap, ◌∙◌}
use mathlib.Core.Bool.{true, false, not}
use mathlib.Core.List.{List, [], ◌∷◌}
use Prim.Native.Nat.{ℕ, ◌≤◌, ◌<◌}
use native.Mathlib.Omega.{arith}
use borrow.Author.Tests.{lt-ltb, le-ltb, eqb-true, eqb-false, both_ways}
use lib.ListN.{length, length-drop, take, drop}
use lib.Seq.{length-take-le, take_all}
use Rattle.std.specs.Prelude.{Result, Ok, Err}
use Rattle.trace.specs.Refusals.{first_of}
use Rattle.trace.proofs.Refusals.{answered-number}
use Rattle.std.specs.Int.{w32, from_le_bytes}
use Rattle.wire.specs.Fields.{number_of, field_at, word_at}
use Rattle.wire.proofs.Laws.{four}
use Rattle.records.specs.Records.{is_whole, day_bounded}
use Rattle.response.specs.Days.{day_of}
use Rattle.response.specs.Values.{values_of}
use Rattle.response.specs.Answers.{day_refusal, day_refusal_number, answer_of, answer_number, file_refusal, file_answer, Answers}
use Rattle.response.specs.declared.Day.{Day}
use Rattle.response.specs.declared.DayRefusal.{DayRefusal}
use Rattle.response.specs.declared.DayRefusal.TheVariants.{Size, Bounds}
use Rattle.response.proofs.Values.{day-values, bounds-tested, bounds-pass}

module _ (earlier : ℕ) (records : List ℕ) where
  abbrev Answering : Result Day DayRefusal → Type 0
  Answering r = Answers earlier records (answer_of earlier records) (day_refusal earlier records) r

  -- the number of the answer is that of the first refusal
  number-of : answer_number (answer_of earlier records) ≡ day_refusal earlier records
  unfolding answer_of day_refusal day_refusal_number
  number-of =
      answered-number day_refusal_number (day_of earlier records) ((Size, not (is_whole records)) ∷ (Bounds, not (day_bounded earlier records)) ∷ [])

  numbered : (r : Result Day DayRefusal) → r ≡ answer_of earlier records → answer_number r ≡ day_refusal earlier records
  numbered r e = rw e number-of

  -- 31, 32, and the day
  pub not-whole : is_whole records ≡ false → Answering (Err Size)
  unfolding answer_of first_of day_refusal_number values_of
  not-whole e =
      let other = eqb-false (length records) 3456 e in
      let is : ◌≡◌ {A = Result Day DayRefusal} (Err Size) (answer_of earlier records) = rw e in
      record {
        result = is;
        number = numbered _ is;
        size = (λ n. other, λ n. refl);
        accepted = (λ n. absurd (omega arith), λ b. absurd (other b.0));
        values = λ n. absurd (omega arith);
        zeros = λ n. refl;
      }

  module _ (whole : is_whole records ≡ true) where
    length-is : length records ≡ 3456
    length-is = eqb-true (length records) 3456 whole

    pub beyond : day_bounded earlier records ≡ false → Answering (Err Bounds)
    unfolding answer_of first_of day_refusal_number values_of
    beyond e =
        let is : ◌≡◌ {A = Result Day DayRefusal} (Err Bounds) (answer_of earlier records) = rw (whole, e) in
        record {
          result = is;
          number = numbered _ is;
          size = (λ n. absurd (omega arith), λ n. absurd (n length-is));
          accepted = (λ n. absurd (omega arith), λ b. absurd (both_ways _ e (bounds-pass earlier records b.1)));
          values = λ n. absurd (omega arith);
          zeros = λ n. refl;
        }

    pub assessed-day : day_bounded earlier records ≡ true → (day : Day) → day ≡ day_of earlier records → Answering (Ok day)
    unfolding answer_of first_of values_of
    assessed-day e day day-is =
        let is : ◌≡◌ {A = Result Day DayRefusal} (Ok day) (answer_of earlier records) = rw (whole, e, day-is) in
        record {
          result = is;
          number = numbered _ is;
          size = (λ n. absurd (omega arith), λ n. absurd (n length-is));
          accepted = (λ n. (length-is, bounds-tested earlier records e), λ b. refl);
          values = λ n. rw day-is (day-values earlier records);
          zeros = λ n. absurd (n refl);
        }

-- ---- a file

module _ (bytes : List ℕ) where
  abbrev Reading : Result Day DayRefusal → Type 0
  Reading r = Answers (word_at bytes 0) (drop 4 bytes) (file_answer bytes) (file_refusal bytes) r

  pub file-short : length bytes < 4 → Reading (Err Size)
  unfolding file_answer file_refusal day_refusal_number values_of
  file-short l =
      let none : ¬ (length (drop 4 bytes) ≡ 3456) = λ e. omega (arith, length-drop 4 bytes) in
      record {
        result = rw (lt-ltb (length bytes) 4 l);
        number = rw (lt-ltb (length bytes) 4 l);
        size = (λ n. none, λ n. refl);
        accepted = (λ n. absurd (omega arith), λ b. absurd (none b.0));
        values = λ n. absurd (omega arith);
        zeros = λ n. refl;
      }

  -- the first four bytes by themselves
  word-of : 4 ≤ length bytes → from_le_bytes w32 (take 4 bytes) ≡ word_at bytes 0
  unfolding field_at
  word-of l =
      let long : length (take 4 bytes) ≡ 4 = length-take-le 4 bytes l in
      sym (four (take 4 bytes) 0 (omega (arith, long))) ∙ ap number_of (take_all 4 (take 4 bytes) (omega (arith, long)))

  pub file-day : 4 ≤ length bytes → (first records : List ℕ) → first ≡ take 4 bytes → records ≡ drop 4 bytes
      → (earlier : ℕ) → earlier ≡ from_le_bytes w32 first → (r : Result Day DayRefusal)
      → Answering earlier records r → Reading r
  unfolding file_answer file_refusal
  file-day l first records f d earlier e r a = rw (le-ltb (length bytes) 4 l) (rw (e, f, d, word-of l) at a)
