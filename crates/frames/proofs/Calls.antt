-- What the bytes of a call say. Assumes nothing.
use Rattle.std.proofs.Common.{◌≡◌, ℕ, ◌≤◌, true, List, length}
use borrow.Author.Tests.{leb-true}
use Rattle.trace.proofs.Tests.{and_l}
use Rattle.frames.specs.Frames.{is_frame}

pub frame-long : (bytes : List ℕ) → is_frame bytes ≡ true → 8 ≤ length bytes
unfolding is_frame
frame-long bytes e = leb-true 8 (length bytes) (and_l _ _ e)
