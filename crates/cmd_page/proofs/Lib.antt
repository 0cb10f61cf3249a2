-- Lemmas of this crate.
mod Plain
