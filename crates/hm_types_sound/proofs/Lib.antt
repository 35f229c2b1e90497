mod CopyFits
mod HideFits
mod ForkFits
mod ChildrenFits
pub mod TextFits
pub mod BodyFits
pub mod TypedFits
