pub mod Memory
pub mod Outside
pub mod Replace
pub mod Steps
