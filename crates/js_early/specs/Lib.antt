pub mod EarlyErrors
