-- bytes that are answered, a part after the other and to the end of an input, and what is written for them
mod Pieces
-- how long an output is, and what the arguments ask for
mod Texts
