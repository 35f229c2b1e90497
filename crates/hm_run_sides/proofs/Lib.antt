mod Seeing
mod OpenedSides
mod Once
mod OpenedReplicas
pub mod Laws
