pub mod Cited
pub mod Lengths
pub mod Loop
pub mod ValuesComeBack
pub mod ClaimsComeBack
pub mod WorkedClaims
pub mod ClaimsFit
