-- Which lines are a report, and how the lines of a file are read: fields, lines, and line by line.
pub mod Grammar
pub mod Fields
pub mod Notes
pub mod Lines
pub mod Items
pub mod Reading
pub mod Reads
pub mod Laws
