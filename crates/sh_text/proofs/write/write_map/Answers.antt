use Rattle.sh_text.{specs.Text.{map_line}, proofs.Fronts.{front_more, map_unwritten, part_at}}
use Rattle.sh_text.proofs.write.write_map.Goals as goal

pub returns-in_default-clause-err : goal.returns-in_default-clause-err
returns-in_default-clause-err g c =
    front_more _ _ _ _ _ _ _ (part_at map_line c.args.rows.now c.loop-row.row-index c.row-item.result c.loop-row-test.true) c.loop-row.invariant.0 (map_unwritten _ _)

pub returns-in-Err-clause-err : goal.returns-in-Err-clause-err
returns-in-Err-clause-err g c =
    let wrote = rw (c.as_bytes.ensures.value, c.in-Ok.ensures, c.row-item.is) at c.in-Err.ensures.err in
    front_more _ _ _ _ _ _ _ (part_at map_line c.args.rows.now c.loop-row.row-index c.row-item.result c.loop-row-test.true) c.loop-row.invariant.0 wrote
