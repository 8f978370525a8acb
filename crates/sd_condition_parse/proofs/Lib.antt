pub mod Cited
pub mod Repeated
pub mod Operands
pub mod Leaving
pub mod Printed
pub mod PrintedRuns
