-- The laws, by what they are about. Another crate cites them as `Rattle.waypoint.proofs.NAME`.
-- decimal degrees in billionths: how they are worked, how large they are, and the units that they say
pub mod Degrees
-- an element that is written part by part, and how long it is
pub mod Writing
-- converted positions: that they can be printed, and what is put for a point
pub mod Positions
-- two positions that are printed alike are the same
pub mod Apart
-- what document 02 asks of a waypoint
pub mod Demands
