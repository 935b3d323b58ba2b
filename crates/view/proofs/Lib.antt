-- The laws of the view.
pub mod Serves
