pub mod RoomLemmas
pub mod CopyLemmas
