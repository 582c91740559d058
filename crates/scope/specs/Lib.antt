-- The meaning of scopes.
pub mod Orders
pub mod OrderProp
