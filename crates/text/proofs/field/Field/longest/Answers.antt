use Rattle.std.proofs.Common.{arith}
use Rattle.text.proofs.Rooms.{byte-longest, word-longest, number-longest, whole-longest, long-longest}
use Rattle.text.proofs.field.Field.longest.Goals as goal

pub returns-in-U8-clause-within : goal.returns-in-U8-clause-within
returns-in-U8-clause-within c = rw c.in-U8.is (byte-longest c.in-U8._n (omega arith))

pub returns-in-U32-clause-within : goal.returns-in-U32-clause-within
returns-in-U32-clause-within c = rw c.in-U32.is (word-longest c.in-U32._n (omega arith))

pub returns-in-U64-clause-within : goal.returns-in-U64-clause-within
returns-in-U64-clause-within c = rw c.in-U64.is (number-longest c.in-U64._n (omega arith))

pub returns-in-I32-clause-within : goal.returns-in-I32-clause-within
returns-in-I32-clause-within c = rw c.in-I32.is (whole-longest c.in-I32._z (omega arith))

pub returns-in-I64-clause-within : goal.returns-in-I64-clause-within
returns-in-I64-clause-within c = rw c.in-I64.is (long-longest c.in-I64._z (omega arith))
