pub mod Checked
pub mod Provisos
