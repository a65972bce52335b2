-- What belongs to no one function. Told ties the text to demand 3; the functions' proofs use Readings alone.
pub mod Readings
pub mod Told
