pub mod Directives
pub mod Early
pub mod Faults
pub mod Ordered
pub mod ScopeViews
pub mod Scopes
pub mod WordViews
