use Rattle.check_library.proofs.life.play.Given as goal

abbrev pub ghosts-live-L-Ledger : goal.ghosts-live-L-Ledger
ghosts-live-L-Ledger g a = record { name = a.opening.name; parts = 1025 }

abbrev pub ghosts-live-L-Naming : goal.ghosts-live-L-Naming
ghosts-live-L-Naming g a = record { table = a.opening.table; setup = a.opening.setup }
