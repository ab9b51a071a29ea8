use Rattle.std.proofs.Common.{rules, ◌∙◌, [], refl, inr, arith}
use Rattle.csv.specs.Reading.{strip_bom}
use Rattle.sh_base.specs.Parts.{parts_of}
use Rattle.sh_sheet.specs.Records.{records_in}
use Rattle.sh_bulk.proofs.SheetLemmas.{fault_kept, gathering_ends, gathering_more, gathering_stops}
use Rattle.sh_bulk.proofs.gather.gather_rows.Goals as goal

pub loop-read-init : goal.loop-read-init
loop-read-init c =
    let made = c.from_reader-reader.ensures in
    let start = c.into_iter-read-iterator.ensures.into_iter_gives in
    let reader = c.into_byte_records-read-items.ensures.rdr in
    rw (start, reader, c.new-found.ensures.items) (
      λ i lt. absurd (omega arith),
      tt,
      record {
        rows = records_in c.args.bytes.now;
        reading = record {
          plain = rw (c.flexible.ensures, c.has_headers.ensures) at made.trim ∙ c.new.ensures.trim;
          ready = inr (inr (rw (c.flexible.ensures, c.has_headers.ensures) at made.has_headers, made.headers));
          config = rw (c.flexible.ensures, c.has_headers.ensures) at made.config ∙ c.new.ensures.config;
          more = c.into_byte_records-read-items.ensures.left;
          rest = strip_bom c.args.bytes.now;
          known = made.source;
          whole = rw made.state refl;
        };
        whole = refl;
      },
    )

pub returns-in_err-take_row-in-Ok-clause-reads : goal.returns-in_err-take_row-in-Ok-clause-reads
returns-in_err-take_row-in-Ok-clause-reads c =
    let was = c.loop-read.invariant.2 in
    let took = rw (c.in-Some.is, c.in-Ok.is) at ((c.next.ensures.steps was.reading.more was.reading.plain).0 was.reading.ready) in
    let stops = gathering_stops _ (parts_of c.args.cfg.now) c.args.bytes.now _ c.loop-read.read-iterator.rdr c.next.new.self.rdr _ _ _ was took.0 took.1 c.in_err-take_row-in-Ok.ensures.refused in
    fault_kept _ _ _ _ c.from_residual.ensures.1 stops

pub loop-read-preserved : goal.loop-read-preserved
loop-read-preserved c =
    let was = c.loop-read.invariant.2 in
    let took = rw (c.in-Some.is, c.in-Ok.is) at ((c.next.ensures.steps was.reading.more was.reading.plain).0 was.reading.ready) in
    (c.in_ok-take_row-in-Ok.ensures.good, c.in_ok-take_row-in-Ok.ensures.values, gathering_more _ _ _ _ _ _ _ _ _ _ was took.0 took.1 took.2 c.in_ok-take_row-in-Ok.ensures.taken)

pub returns-clause-reads : goal.returns-clause-reads
returns-clause-reads c =
    let was = c.loop-read.invariant.2 in
    let none = rw c.in-None.is at ((c.next.ensures.steps was.reading.more was.reading.plain).0 was.reading.ready) in
    gathering_ends _ _ _ _ c.loop-read.read-iterator.rdr c.next.new.self.rdr _ [] was none
