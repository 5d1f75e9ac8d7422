-- The laws, by what they are about.
-- the floats of the code's constants, and calls on a point
pub mod Calls
-- how near a whole number, divided as a float, is to the quotient
pub mod Quotients
-- whole answers and their floats: no two have one, and how near they are to exact values
pub mod Answers
-- what document 01 asks of the floating numbers
pub mod Demands
