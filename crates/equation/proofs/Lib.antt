-- The laws, by what they are about. Another crate cites them as `Rattle.equation.proofs.NAME`.
-- the powers: which stands where, how large it can be, and its sign
pub mod Steps
-- a sum, the sizes of its terms, and that their order makes no difference
pub mod Sums
-- the classes of terms, and the sum by theirs
pub mod Classes
-- what a computed test of a table shows of its sum at every u and v within limits
pub mod Limits
-- fractions: the same, within, proper; the exact value over one common power
pub mod Fractions
-- how near a working number is to the fraction that it stands for
pub mod Nearness
-- the test of an equation: what each rounding is charged
pub mod Budget
-- the one theorem about the error, and the test that it asks for
pub mod Errors
-- what document 01 asks of an equation
pub mod Demands
