pub mod Miters
