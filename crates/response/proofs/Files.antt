-- A file into which a day was written, read again. Assumes nothing.
use mathlib.Core.Path.{◌≡◌, ap, ◌∙◌}
use mathlib.Core.List.{List, ◌++◌}
use Prim.Native.Nat.{ℕ, ◌^◌, ◌≤◌, ◌<◌}
use native.Mathlib.Nat.{mod-eq_of_lt}
use native.Mathlib.Omega.{arith}
use borrow.Author.Tests.{le-ltb}
use lib.ListN.{length, drop, length-append}
use lib.Seq.{take_at, drop_at}
use Rattle.wire.specs.Fields.{number_of, bytes_of, field_at, word_at}
use Rattle.wire.proofs.Laws.{length-bytes, number-bytes}
use Rattle.response.specs.Answers.{answer_of, file_answer}

module _ (earlier : ℕ) (records : List ℕ) (fits : earlier < 2 ^ 32) where
  abbrev file : List ℕ
  file = bytes_of 4 earlier ++ records

  first_word : word_at file 0 ≡ earlier
  unfolding field_at
  first_word =
      ap number_of (take_at (bytes_of 4 earlier) records 4 (length-bytes 4 earlier)) ∙ number-bytes 4 earlier ∙ mod-eq_of_lt fits

  rest : drop 4 file ≡ records
  rest = drop_at (bytes_of 4 earlier) records 4 (length-bytes 4 earlier)

  long : 4 ≤ length file
  long = rw (length-append (bytes_of 4 earlier) records, length-bytes 4 earlier) (omega arith)

  -- the day that was written is the day that is assessed
  pub file-of : file_answer file ≡ answer_of earlier records
  unfolding file_answer
  file-of = rw (le-ltb (length file) 4 long, first_word, rest)
