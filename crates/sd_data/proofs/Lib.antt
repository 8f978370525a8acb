pub mod Cited
pub mod Found
pub mod Loop
pub mod Lengths
pub mod TextsComeBack
pub mod Utf8
