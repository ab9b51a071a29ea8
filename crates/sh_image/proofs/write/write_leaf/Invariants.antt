use Rattle.std.{proofs.Common.{◌≡◌, ◌++◌, take}, specs.List.{flat_map}}
use Rattle.sh_base.specs.Layout.{entry_at}
use Rattle.sh_image.specs.{Entries.{entry_words}, Leaf.{header}}
use Rattle.sh_image.proofs.write.write_leaf.Given as goal

-- the header and the entries so far
abbrev pub invariant-loop-index : goal.invariant-loop-index
invariant-loop-index l = take (entry_at l.cfg.parts l.index) l.out ≡ header l.image ++ flat_map entry_words (take l.index l.image.entries)
