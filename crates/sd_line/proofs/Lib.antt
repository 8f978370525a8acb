pub mod Cited
mod RightNames
pub mod Cuts
pub mod WordsLeft
mod ComeBack
