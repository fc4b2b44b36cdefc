use Rattle.check_library.proofs.reads.of_library.Given as goal

abbrev pub ghosts-opened-L-Ledger : goal.ghosts-opened-L-Ledger
ghosts-opened-L-Ledger g a = record { name = a.opening.name; parts = 1025 }

abbrev pub ghosts-opened-L-Naming : goal.ghosts-opened-L-Naming
ghosts-opened-L-Naming g a = record { table = a.opening.table; setup = a.opening.setup }
