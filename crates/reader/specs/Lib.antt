pub mod Format
pub mod Known
pub mod Row
pub mod Text
pub mod Unread
pub mod Writing
