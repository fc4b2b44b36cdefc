pub mod CommandLines
pub mod WordsRead
pub mod Findings
pub mod Beginnings
pub mod Printed
