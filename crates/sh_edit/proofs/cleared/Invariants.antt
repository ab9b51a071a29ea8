use Rattle.std.proofs.Common.{◌≡◌, ℕ, ◌<◌, length, get_or, map}
use Rattle.sh_image.specs.declared.leaf.LeafEntry.{LeafEntry}
use Rattle.sh_edit.specs.Rewriting.{cleared}
use Rattle.sh_edit.proofs.cleared.Given as goal

abbrev pub invariant-loop-index : goal.invariant-loop-index
invariant-loop-index l =
    record {
      others : l.image ≡ record l.leaf { entries = l.image.entries };
      count : length l.image.entries ≡ length l.leaf.entries;
      done : (i : ℕ) (d : LeafEntry) → i < l.index → get_or l.image.entries i d ≡ get_or (map cleared l.leaf.entries) i d;
    }
