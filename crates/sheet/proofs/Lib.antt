-- The laws, by what they are about.
-- the flags of the codes that a sheet lists
pub mod Codes
-- the points, one by one, and their records
pub mod Points
-- a result, as it grows by records
pub mod Results
-- what the work on a sheet answers, and what it leaves in the lent buffer
pub mod Calls
-- when a sheet is worked, and when each refusal is given
pub mod Works
-- what stands at each place of a result, and what is read there
pub mod Places
-- what document 01 asks of the sheet and its result
pub mod Demands
