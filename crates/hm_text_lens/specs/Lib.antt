pub mod Chains
pub mod ChainLaws
pub mod Meanings
pub mod Naming
