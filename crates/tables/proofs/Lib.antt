-- The laws, by what they are about. Another crate cites them as `Rattle.tables.proofs.NAME`.
-- what holds of each of a family's values
pub mod Families
-- how far a page reaches: its largest u and v
pub mod Reach
-- the limits of a page: what one computed test shows of every point of its box
pub mod Limits
-- where the frame of a datum puts a point
pub mod Places
-- how near each equation is proved to be: the test of its bound
pub mod Bounds
-- what document 01 asks of the tables and the areas
pub mod Demands
