pub mod BoundTargetLaws
pub mod CallLaws
pub mod CalleeLaws
pub mod NativeLaws
pub mod ReachLaws
pub mod StandingLaws
pub mod ThrowLaws
pub mod ValueLaws
