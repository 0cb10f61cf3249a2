pub mod Senders
pub mod Tests
pub mod Buffer
pub mod Key
pub mod Waiting
pub mod Contending
pub mod Counted
