-- What belongs to no one function.
pub mod Puts
pub mod Numbers
pub mod Digits
pub mod Lines
pub mod Rooms
pub mod Fields
pub mod Writers
pub mod PointLines
