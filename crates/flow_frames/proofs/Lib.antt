pub mod CallLaws
pub mod ContextLaws
pub mod RaiseLaws
pub mod SeenLaws
pub mod StandingLaws
pub mod TargetLaws
