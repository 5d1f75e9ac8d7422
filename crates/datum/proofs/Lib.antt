-- The laws, by what they are about. Another crate cites them as `Rattle.datum.proofs.NAME`.
-- the codes: a law over each of them by one computed test, and the family of each
pub mod Codes
-- a point's answer by its page
pub mod Points
-- what a call says of a code, by the page that the code has
pub mod Calls
-- a point's converted position: which points have one, and between which numbers it lies
pub mod Converted
-- how near a point's answer is to the exact value: the test of each page, and what it shows
pub mod Errors
-- what document 01 asks of a point's answer
pub mod Demands
