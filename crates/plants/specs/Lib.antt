-- What the contracts cite: a plant as the rules speak of it, and as a monitor holds it.
pub mod Plants
pub mod Rosters
