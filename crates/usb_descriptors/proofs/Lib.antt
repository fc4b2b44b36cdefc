mod Tables
mod Cut
mod IsCut
mod Items
mod OneMore
mod Steps
mod Runs
