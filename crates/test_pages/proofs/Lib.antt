-- the twelve points of document 01
pub mod Demands
