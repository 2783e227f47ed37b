pub mod FirstFault
pub mod FirstIndex
