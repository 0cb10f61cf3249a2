-- Lemmas of this crate.
mod Kept
pub mod Pieces
pub mod Texts
