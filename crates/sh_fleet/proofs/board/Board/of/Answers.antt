use Rattle.std.proofs.Common.{◌≡◌, length, arith}
use Rattle.sh_fleet.proofs.BoardLemmas.{board_new}
use Rattle.sh_fleet.proofs.board.Board.of.Goals as goal

pub invariant_of-result : goal.invariant_of-result
invariant_of-result g c =
    let long : c.len.result ≡ length c.in_ok-links.field-0.next.items = omega (arith, c.len.ensures, c.in_ok-links.field-0.next.ok.0) in
    board_new _ _ _ _ _ _ c.len.result _ c.requires c.in_ok-links.ensures long c.in_ok-notes.ensures
