-- The laws, by what they are about. Another crate cites them as `Rattle.whole.proofs.NAME`.
-- ℤ as a ring, and the form in which an identity is one line
pub mod Ring
-- how large: `nat_abs` of a sum, a product, a rounded quotient
pub mod Sizes
-- a number by its sign and its size, and what a test of the sign says
pub mod Signs
-- rounded division: within half, exact, in order, and by the remainder
pub mod Rounding
-- the order: a multiple keeps it, and what lies between two is no larger than the larger
pub mod Orders
-- signed words at any width: operations, tests, casts, ranges
pub mod Words
-- tests joined by `&&` and `||`
pub mod Bools
-- a test computed for every number below n
pub mod Below
-- a test of every one of a list
pub mod Every
-- a number in places of a base, and back
pub mod Places
-- a number in digits, and back
pub mod Digits
-- what document 01 asks of every rounding
pub mod Demands
