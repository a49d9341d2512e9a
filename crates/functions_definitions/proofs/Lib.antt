pub mod HalvingLaws
pub mod PadeLaws
pub mod FirstOutput
pub mod LateLaws
pub mod IterateLaws
pub mod GatheredLaws
pub mod StepLaws
pub mod SymmetricLaws
