-- What the contracts cite. A reader has to believe Fields, Rules and Registers; Headers and Records say what the code knows on its way.
pub mod Fields
pub mod Rules
pub mod Registers
pub mod Headers
pub mod Records
