-- The library's name: that of what it is made of.
use Rattle.usb_workers.proofs.life.live_gated.Given as goal

abbrev pub ghosts-named-L-Ledger : goal.ghosts-named-L-Ledger
ghosts-named-L-Ledger g a = record { name = a.opening.name; parts = 1025 }

abbrev pub ghosts-named-L-Naming : goal.ghosts-named-L-Naming
ghosts-named-L-Naming g a = record { table = a.opening.table; setup = a.opening.setup }
