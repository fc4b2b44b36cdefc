-- The cut: what the transfers of an endpoint moved is a cut of its device's answers.
pub mod Ledger
pub mod Accounts
pub mod Rows
pub mod Works
pub mod Leaves
pub mod NextAnswer
pub mod Serves
pub mod Resumes
pub mod Delivers
pub mod Asks
pub mod Steps
pub mod Known
pub mod Runs
