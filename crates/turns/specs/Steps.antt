-- What a step of a run comes to, and what the code makes of it.
use Rattle.std.specs.Prelude.{◌≡◌, Bool, List, ℕ, ◌++◌, length, drop}
use Rattle.turns.specs.declared.Turn.{Turn}

-- what a step comes to: the next state, whether the run goes on, and the text to write
pub record Outcome (S : Type 0) : Type 0 where
  pub state : S
  pub more : Bool
  pub text : List ℕ

-- What the code returns and leaves in the buffer that it is lent: the text stands at the front, and the rest is as it was.
pub record Steps {S : Type 0} (expected : Outcome S) (r : Turn S) (before after : List ℕ) : Type 0 where
  pub state : r.state ≡ expected.state
  pub more : r.more ≡ expected.more
  pub size : r.length ≡ length expected.text
  pub bytes : after ≡ expected.text ++ drop (length expected.text) before
