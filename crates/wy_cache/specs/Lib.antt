-- what public contracts cite
pub mod Key
pub mod Kept
pub mod Cached
pub mod Rekept
-- what functions inside owe each other
pub mod Shown
pub mod Small
pub mod Standing
