pub mod Waypoint
pub mod Office
pub mod Inside
