-- What belongs to no one function. The functions' proofs use Turns alone; Told ties a step to demand 3, Held and Shown to the values that
-- 01 names.
pub mod Turns
pub mod Told
pub mod Held
pub mod Shown
