mod Judges
mod Places
mod Unjudged
mod Found
mod Entries
mod Alike
