-- What the contracts cite. A reader has to believe Chains, Rules and Layouts; Walks says what the code keeps on its way.
pub mod Chains
pub mod Rules
pub mod Layouts
pub mod Walks
