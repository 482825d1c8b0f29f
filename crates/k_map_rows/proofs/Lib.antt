mod CalmLaws
mod Homes
mod LeftHomes
mod Loans
