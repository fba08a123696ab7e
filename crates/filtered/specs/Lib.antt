pub mod Acts
pub mod Taking
pub mod Said
