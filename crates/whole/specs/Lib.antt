pub mod Round
pub mod Sign
pub mod Every
pub mod Places
pub mod Digits
