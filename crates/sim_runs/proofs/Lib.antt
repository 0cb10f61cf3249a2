-- Lemmas of this crate.
mod Following
mod Named
