mod Told
mod Homes
