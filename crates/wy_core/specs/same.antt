-- what the parts of a type stand for
pub mod SeenParts
