-- definitions of public contracts
pub mod Count
pub mod Told
pub mod Given
pub mod Taken
pub mod FilesInMemory
pub mod SinkInMemory
