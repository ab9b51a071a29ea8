use Rattle.sh_fleet.proofs.serve.serve.Given as goal

-- the pool that was just laid, and the sheet
abbrev pub ghosts-serve_on : goal.ghosts-serve_on
ghosts-serve_on g a = record { laid = a.pool.now.laid; items = a.items.now }
