use Rattle.std.specs.Prelude.{Some}
use Rattle.sh_base.specs.Parts.{parts_of}
use Rattle.sh_feed.specs.Feeds.{setup_of}
use Rattle.sh_feed.proofs.feed.Feed.start.Given as goal

abbrev pub ghosts-open : goal.ghosts-open
ghosts-open a = record { setup = Some (setup_of (parts_of a.config.now) a.takers) }
