pub mod Cited
pub mod Loop
pub mod Lengths
pub mod Tables
pub mod DataComesBack
pub mod ConditionsComeBack
pub mod Parsed
