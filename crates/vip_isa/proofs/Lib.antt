pub mod Below
pub mod Opcodes
