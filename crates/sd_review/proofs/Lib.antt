pub mod Cited
mod GrantedAlike
mod NoGains
pub mod OneStore
mod Origins
pub mod RightOnes
pub mod Silence
