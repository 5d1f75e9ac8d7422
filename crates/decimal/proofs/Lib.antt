-- The laws, by what they are about. Another crate cites them as `Rattle.decimal.proofs.NAME`.
-- a number as it is printed
pub mod Numbers
-- numbers that stand one after the other are told apart
pub mod Told
-- what is printed says the number, and no other text of up to ten digits does so without leading zeros
pub mod Apart
-- a number of billionths with nine places
pub mod Nine
-- what documents 01 and 02 ask of a number that is printed
pub mod Demands
