use Rattle.check_library.proofs.woken.play_woken.Given as goal

abbrev pub ghosts-play_over-L-Ledger : goal.ghosts-play_over-L-Ledger
ghosts-play_over-L-Ledger g a = record { name = a.opening.name; parts = 1025 }

abbrev pub ghosts-play_over-L-Naming : goal.ghosts-play_over-L-Naming
ghosts-play_over-L-Naming g a = record { table = a.opening.table; setup = a.opening.setup }
