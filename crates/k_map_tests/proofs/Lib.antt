pub mod Lefts
mod Opens
