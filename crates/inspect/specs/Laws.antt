-- Laws that the crates above cite; nothing in this folder has to be believed.
pub mod Digits
pub mod Decimal
pub mod Hexadecimal
